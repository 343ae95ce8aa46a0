use Rattle.std.proofs.Common.{◌≡◌, ◌++◌, ◌<◌, ◌^◌, length}
use Rattle.std.specs.List.{flat_map, AllByRecursion}
use Rattle.command_codec.specs.Fields.{u16_bytes}
use Rattle.plain_model.specs.Replicas.{Session}
use Rattle.plain_model.specs.StateBytes.{session_bytes}
use Rattle.replica_state.specs.Held.{sessions_in}
use Rattle.replica_state.proofs.sessions.write_sessions.Given as goal

-- what was written, and what is left to write
abbrev pub invariant-loop-client : goal.invariant-loop-client
invariant-loop-client l = record {
  all : l.to ++ flat_map session_bytes (sessions_in l.client-iterator) ≡ l.fn.to ++ (u16_bytes (length (sessions_in l.sessions.entries)) ++ flat_map session_bytes (sessions_in l.sessions.entries));
  each : AllByRecursion (λ (s : Session). length s.reply < 2 ^ 32) (sessions_in l.client-iterator);
}
