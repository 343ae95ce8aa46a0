use Rattle.std.proofs.Common.{◌≡◌, ◌-◌, ◌++◌}
use Rattle.world.specs.System.{flows}
use Rattle.world.proofs.world.World.flow.Given as goal

-- what was done, and what is left to do
abbrev pub invariant-loop-turn : goal.invariant-loop-turn
invariant-loop-turn l =
    let now = flows (l.count - l._turn) l.self in
    let all = flows l.count l.fn.self in
    record {
      world : now.world ≡ all.world;
      lines : l.lines ++ now.lines ≡ l.fn.lines ++ all.lines;
    }
