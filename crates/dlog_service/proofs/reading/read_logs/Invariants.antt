use Rattle.std.proofs.Common.{◌≡◌, drop}
use Rattle.plain_model.specs.StateBytes.{these_logs_at}
use Rattle.command_codec.proofs.Loops.{before}
use Rattle.dlog_service.proofs.ReadLaws.{AreFirst}
use Rattle.dlog_service.proofs.reading.read_logs.Given as goal

-- what was read so far and what is still read are all of it
abbrev pub invariant-loop-id : goal.invariant-loop-id
invariant-loop-id l = record {
  all : before l.logs.items (these_logs_at (drop l.id-index l.ids) l.fields) ≡ these_logs_at l.ids l.fn.fields;
  logs : AreFirst l.id-index l.ids l.logs.items;
}
