-- What a disk tells and holds at an opening.
use Rattle.std.proofs.Common.{◌≡◌, ℕ, Bool, [], ◌∷◌, Option, None, Some, Ok, ◌∙◌, sym, subst, arith}
use Rattle.disk_model.specs.declared.area.Area.TheVariants.{Journal0}
use Rattle.disk_model.specs.declared.call.Call.TheVariants.{Sync}
use Rattle.disk_model.specs.declared.disk.Disk.{Ghosts}
use Rattle.disk_model.specs.Calls.{Told, Tells, and_then, followed, reads, IsSettled}
use Rattle.disk_model.specs.Running.{Passed}
use Rattle.disk_model.specs.Went.{WentBy}
use Rattle.disk_model.proofs.OnArea.{settled-sync}
use Rattle.disk_model.proofs.Telling.{told_before, made_plain}
use Rattle.disk_model.proofs.Went.{went_told}
use Rattle.gate_area.specs.declared.pair.Pair.TheVariants.{Journal}
use Rattle.gate_area.specs.Gate.{renew_calls}
use Rattle.gate_area.specs.Operations.{renew_ops}
use Rattle.gate_area.specs.Standing.{stands}
use Rattle.gate_log.specs.Journal.{Holds, log_of}
use Rattle.gate_log.specs.Records.{area_body}
use Rattle.gate_log.proofs.Renewals.{length-body, renewed, fresh_holds}

-- what a disk tells, by an equal one
pub tells_as : (o p : Option Told) (honest honest' : Bool) (t : Told) → p ≡ o → honest' ≡ honest → Tells o honest t → Tells p honest' t
tells_as o p honest honest' t same true_is tells = record { honest = true_is ∙ tells.honest; told = same ∙ tells.told }

-- what the disk holds where a fresh pair was begun
pub fresh_log : {D : Type 0} {disk : Ghosts D} {old now : D} (t u : Told) (limit : ℕ) → IsSettled t → stands Journal (reads t) ≡ Ok None → Tells (disk.told old) (disk.honest old) t → disk.told now ≡ Some u
    → WentBy disk (renew_ops Journal0 (area_body 1 [])) old now Passed → Holds (log_of Journal0 1 limit []) [] (reads u)
fresh_log t u limit settled fresh tells is went =
    let u_is = went_told t u went tells is in
    let done = renewed t Journal0 (area_body 1 []) (omega (arith, length-body 1 [])) settled in
    subst (λ (x : Told). Holds (log_of Journal0 1 limit []) [] (reads x)) (sym u_is) (fresh_holds limit (reads t) (reads (and_then t (renew_calls Journal0 (area_body 1 []) t))) fresh done.others done.whole)

-- after a sync nothing is pending
pub sync_settles : (o p : Option Told) (t : Told) → p ≡ followed o (Sync ∷ []) → p ≡ Some t → IsSettled t
sync_settles o p t sync tells =
    let before = told_before o p (λ t. Sync ∷ []) t (sync ∙ made_plain o (Sync ∷ [])) tells in
    subst (λ (x : Told). IsSettled x) (sym before.2) (settled-sync before.0 [])
