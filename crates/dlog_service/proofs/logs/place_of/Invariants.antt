use Rattle.std.proofs.Common.{◌≡◌, true, drop}
use Rattle.mrp_config.specs.Config.{has_log}
use Rattle.plain_model.specs.Replicas.{log_at}
use Rattle.services.specs.Parts.{ids_of}
use Rattle.dlog_service.proofs.logs.place_of.Given as goal

-- the log is one of those that are left
abbrev pub invariant-loop-place : goal.invariant-loop-place
invariant-loop-place l = record {
  there : has_log (ids_of (drop l.place l.logs)) l.id.0 ≡ true;
  same : log_at l.id (drop l.place l.logs) ≡ log_at l.id l.logs;
}
