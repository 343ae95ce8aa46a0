use Rattle.std.proofs.Common.{◌≡◌, ◌-◌, ◌<◌}
use Rattle.std.specs.List.{AllByRecursion}
use Rattle.mrp_types.specs.Reading.{chain}
use Rattle.command_codec.proofs.Loops.{before}
use Rattle.plain_model.specs.Replicas.{Session}
use Rattle.plain_model.specs.StateBytes.{session_at_least, after_client}
use Rattle.replica_state.specs.Held.{sessions_in}
use Rattle.replica_state.proofs.reading.read_each.Given as goal

-- what was read so far and what is still read are all of it, and each client so far is below the next one
abbrev pub invariant-loop-turn : goal.invariant-loop-turn
invariant-loop-turn l = record {
  all : before (sessions_in l.sessions.entries) (chain session_at_least after_client (l.count - l._turn) l.least l.fields) ≡ chain session_at_least after_client l.count 0 l.fn.fields;
  below : AllByRecursion (λ (s : Session). s.client.0 < l.least) (sessions_in l.sessions.entries);
}
