use Rattle.std.proofs.Common.{◌++◌, ◌∷◌, []}
use Rattle.disk_model.specs.declared.call.Call.TheVariants.{Sync}
use Rattle.disk_model.specs.Undoing.{all_undone}
use Rattle.disk_model.proofs.Reading.{keeps_sync}
use Rattle.disk_model.proofs.Undoing.{chose}
use Rattle.disk_model.proofs.sim.SimDiskDisk.sync.Goals as goal

pub invariant_of-self-2 : goal.invariant_of-self-2
invariant_of-self-2 c =
    let d = c.self.inside in
    keeps_sync (all_undone d.undos.items d.current) d.calls.items c.push.new.self.items d.current c.self.invariant
    (chose c.push.result c.is_err.result (d.calls.items ++ Sync ∷ []) d.calls.items c.push.new.self.items c.is_err.ensures.value c.if-is_err.false c.push.ensures.items)
