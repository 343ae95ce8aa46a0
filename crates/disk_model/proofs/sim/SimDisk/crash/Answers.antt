use Rattle.std.proofs.Common.{◌∙◌, ap, sym, subst}
use Rattle.disk_model.specs.declared.areas.Areas.{Areas}
use Rattle.disk_model.specs.Calls.{IsImage, reads}
use Rattle.disk_model.proofs.CrashLaws.{left_is_image}
use Rattle.disk_model.proofs.sim.SimDisk.crash.Goals as goal

pub returns-clause-possible : goal.returns-clause-possible
returns-clause-possible c =
    let P : Areas → Type 0 = λ areas. IsImage c.args.self.told areas in
    subst P (sym (ap (λ d. reads d.told) c.begin.ensures ∙ c.in_ok-areas.ensures)) (left_is_image c.args.image c.args.self.told)
