use Rattle.std.proofs.Common.{◌∙◌, ap, sym}
use Rattle.disk_model.specs.declared.areas.Areas.{Areas}
use Rattle.disk_model.specs.declared.call.Call.TheVariants.{Write}
use Rattle.disk_model.specs.Calls.{reads}
use Rattle.disk_model.specs.Undoing.{all_undone}
use Rattle.disk_model.proofs.Reading.{keeps_write}
use Rattle.disk_model.proofs.Undoing.{gave, start_written, one_call_more}
use Rattle.disk_model.proofs.sim.SimDiskDisk.write_at.Goals as goal

pub invariant_of-self-2 : goal.invariant_of-self-2
invariant_of-self-2 c =
    let d = c.self.inside in
    let done = c.write_over-done in
    let calls = gave done.result c.is_err.result c.is_err.ensures.value c.if-is_err.false done.ensures.calls in
    let undos = gave done.result c.is_err.result c.is_err.ensures.value c.if-is_err.false done.ensures.undos in
    let now = gave done.result c.is_err.result c.is_err.ensures.value c.if-is_err.false done.ensures.now in
    keeps_write (all_undone d.undos.items d.current) d.calls.items done.new.calls.items d.current done.new.now c.args.area c.args.at c.args.from.now c.self.invariant now calls
    ∙ ap (λ (s : Areas). reads (record { start = s; calls = done.new.calls.items })) (sym (start_written d.undos.items done.new.undos.items d.current done.new.now c.args.area c.args.at c.args.from.now now undos))

pub returns-clause-after : goal.returns-clause-after
returns-clause-after c =
    let d = c.self.inside in
    let done = c.write_over-done in
    let calls = gave done.result c.is_err.result c.is_err.ensures.value c.if-is_err.false done.ensures.calls in
    let undos = gave done.result c.is_err.result c.is_err.ensures.value c.if-is_err.false done.ensures.undos in
    let now = gave done.result c.is_err.result c.is_err.ensures.value c.if-is_err.false done.ensures.now in
    one_call_more (all_undone d.undos.items d.current) _ d.calls.items done.new.calls.items d.trouble c.pass_change.new.self c.args.self.now (Write c.args.area c.args.at c.args.from.now) c.self.view_is
    (start_written d.undos.items done.new.undos.items d.current done.new.now c.args.area c.args.at c.args.from.now now undos) calls c.pass_change.ensures
