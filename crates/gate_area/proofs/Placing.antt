-- Where the calls of a gate find their place.
use Rattle.std.proofs.Common.{◌≡◌, ℕ, ◌+◌, ◌<◌, ◌≤◌, min, Bool, List, [], ◌∷◌, length, Option, Some, Result, Ok, Err, OnOk, refl, ap, sym, ◌∙◌, arith}
use Rattle.disk_model.specs.declared.area.Area.{Area}
use Rattle.disk_model.specs.declared.call.Call.TheVariants.{Write, Cut, Sync}
use Rattle.disk_model.specs.Calls.{Told, Tells, followed, area_bytes}
use Rattle.disk_model.specs.Steps.{Put, Flush, after}
use Rattle.disk_model.proofs.Bytes.{length-written}
use Rattle.disk_model.proofs.OnArea.{own-on}
use Rattle.disk_model.proofs.Reading.{area_bytes-and_then}
use Rattle.disk_model.proofs.Telling.{made_plain, told_before}
use Rattle.disk_model.specs.declared.area.Refused.{Refused}
use Rattle.disk_model.specs.declared.disk.Disk.{Ghosts}
use Rattle.disk_model.specs.Running.{Asks, Does, Ending, Passed, ending}
use Rattle.disk_model.specs.Sim.{Sim}
use Rattle.disk_model.specs.Went.{WentBy}
use Rattle.disk_model.proofs.Went.{went_as}
use Rattle.gate_area.specs.Operations.{retire_ops}

-- after the body is written behind the gate, the gate is still within the area
pub still_within : (old now : Option Told) (honest honest' : Bool) (area : Area) (gate : ℕ) (body : List ℕ) (u : Told)
    → ((t : Told) → Tells old honest t → gate < length (area_bytes area t))
    → honest' ≡ honest
    → now ≡ followed old (Write area (gate + 1) body ∷ Sync ∷ [])
    → Tells now honest' u → gate ≤ length (area_bytes area u)
still_within old now honest honest' area gate body u place same made tells =
    let calls = Write area (gate + 1) body ∷ Sync ∷ [] in
    let before = told_before old now (λ t. calls) u (made ∙ made_plain old calls) tells.told in
    let t = before.0 in
    let here : gate < length (area_bytes area t) = place t (record { honest = sym same ∙ tells.honest; told = before.1 }) in
    let now_is = ap (area_bytes area) before.2 ∙ area_bytes-and_then area t calls ∙ ap (after (area_bytes area t)) (own-on area (Put (gate + 1) body ∷ Flush ∷ [])) in
    omega (arith, ap length now_is, length-written (gate + 1) body (area_bytes area t))

-- the operations of retiring, by the length that the disk has told
pub closes : {D : Type 0} {disk : Ghosts D} {old now : D} {e : Ending} (area : Area) (n m : ℕ) → ((d : D) (s : Sim) → disk.memory d ≡ Some s → Tells (disk.told d) (disk.honest d) s.told)
    → m ≡ min n 16 → ((t : Told) → Tells (disk.told old) (disk.honest old) t → n ≡ length (area_bytes area t))
    → WentBy disk (λ t. Asks ∷ Does (Cut area m) ∷ Does Sync ∷ Does (Write area 0 (0 ∷ [])) ∷ Does Sync ∷ []) old now e → WentBy disk (retire_ops area) old now e
closes area n m tells cut size one =
    went_as (retire_ops area) tells (λ t told. ap (λ k. Asks ∷ Does (Cut area k) ∷ Does Sync ∷ Does (Write area 0 (0 ∷ [])) ∷ Does Sync ∷ []) (least t (size t told))) one
  where
    least : (t : Told) → n ≡ length (area_bytes area t) → m ≡ min 16 (length (area_bytes area t))
    least t told = omega arith

-- what is well has passed
pub well_passed : {T : Type 0} (r : Result T Refused) → OnOk r (ending r ≡ Passed)
well_passed (Ok x) = refl
well_passed (Err e) = tt
