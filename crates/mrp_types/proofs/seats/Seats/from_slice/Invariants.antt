use Rattle.std.proofs.Common.{◌≡◌, length, take}
use Rattle.mrp_types.specs.Seats.{padded}
use Rattle.mrp_types.proofs.seats.Seats.from_slice.Given as goal

-- the nodes so far stand in front, and no node behind them
abbrev pub invariant-loop-index : goal.invariant-loop-index
invariant-loop-index l = record {
  seven : length l.seats ≡ 7;
  front : take l.index l.seats ≡ take l.index l.nodes;
  behind : padded (take l.index l.seats) ≡ l.seats;
}
