use Rattle.disk_model.specs.Calls.{Told, IsSettled, area_bytes, and_then, reads}
use Rattle.disk_model.proofs.Went.{went_brings, went_leaves}
use Rattle.gate_area.specs.Gate.{IsRetired, retire_calls, RetireLeaves}
use Rattle.gate_area.proofs.Pairs.{retire_leaves, retire_settles, retire_retires}
use Rattle.gate_area.proofs.Placing.{well_passed}
use Rattle.gate_area.proofs.steps.retire.Goals as goal

pub returns-clause-moments : goal.returns-clause-moments
returns-clause-moments g c t tells =
    went_leaves t (RetireLeaves c.args.area (reads t) (reads (and_then t (retire_calls c.args.area t)))) tells c.cut_and_close.ensures.went
    (retire_leaves t c.args.area (c.requires.settled t tells))

pub returns-clause-done : goal.returns-clause-done
returns-clause-done g c = went_brings IsSettled c.cut_and_close.result c.cut_and_close.ensures.went (well_passed c.cut_and_close.result) (retire_settles c.args.area)

pub returns-clause-retired : goal.returns-clause-retired
returns-clause-retired g c =
    went_brings (λ (t : Told). IsRetired (area_bytes c.args.area t)) c.cut_and_close.result c.cut_and_close.ensures.went (well_passed c.cut_and_close.result) (retire_retires c.args.area)
