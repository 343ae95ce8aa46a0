use Rattle.std.proofs.Common.{◌≡◌, ◌+◌, ◌-◌, ◌≤◌, length, drop}
use Rattle.gate_log.specs.Records.{gate_of, walk_of, records_from}
use Rattle.gate_log.specs.Walking.{after_some}
use Rattle.gate_log.proofs.walking.walk.Given as goal

abbrev pub invariant-loop-turn : goal.invariant-loop-turn
invariant-loop-turn l = record {
  gate : l.at ≡ gate_of l.records.items;
  bound : l.at ≤ 16 + length l.bytes;
  walk : after_some l.records.items (records_from (length l.bytes - l._turn) l.at (drop l.at l.bytes)) ≡ walk_of l.bytes;
}
