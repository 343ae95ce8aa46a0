use Rattle.std.proofs.Common.{sym, ◌∙◌}
use Rattle.schedule.specs.Fields.{is_held}
use Rattle.schedule.specs.Generating.{log_named}
use Rattle.schedule.proofs.Drawing.{named_none, named_one, named_other}
use Rattle.schedule.proofs.names.logs_of.Goals as goal
use Rattle.schedule.proofs.names.logs_of.Goals.{then-has_holder+in_ok-push, else-has_holder}

pub loop-id-init : goal.loop-id-init
loop-id-init c = c.new-logs.ensures ∙ sym (named_none log_named (is_held c.args.partitions.now))

pub loop-id-preserved : goal.loop-id-preserved
loop-id-preserved c =
    let id = c.loop-id.id in
    elim c.if-has_holder.branch [
      | then-has_holder+in_ok-push w ↦
          let one = named_one log_named (is_held c.args.partitions.now) id (sym c.has_holder.ensures ∙ w.if-has_holder.true) in
          cc (one, c.loop-id.invariant, w.in_ok-push.ensures.ok, w.logs-is)
      | else-has_holder w ↦
          let other = named_other log_named (is_held c.args.partitions.now) id (sym c.has_holder.ensures ∙ w.if-has_holder.false) in
          cc (other, c.loop-id.invariant, w.logs-is)
    ]
