-- What a disk tells, from one call to the next.
use Rattle.std.proofs.Common.{◌≡◌, ℕ, Bool, List, ◌++◌, take, Option, None, Some, refl, ap, sym, ◌∙◌, append_assoc, inl, inr, length-take, arith, subst}
use Rattle.std.proofs.lemmas.Bool.{cases_lt}
use Rattle.std.proofs.lemmas.List.{take_all, take-take}
use Rattle.disk_model.specs.declared.areas.Areas.{Areas}
use Rattle.disk_model.specs.declared.call.Call.{Call}
use Rattle.disk_model.specs.Calls.{Told, Tells, and_then, followed, made_by, MakesFirst, LeavesOnly, IsImage}

followed-followed : (o : Option Told) (xs ys : List Call) → followed (followed o xs) ys ≡ followed o (xs ++ ys)
followed-followed None xs ys = refl
followed-followed (Some t) xs ys = ap (λ cs. Some (let u : Told = record { start = t.start; calls = cs } in u)) (append_assoc t.calls xs ys)

-- further calls after some
pub goes_on : (o p q : Option Told) (xs ys : List Call) → p ≡ followed o xs → q ≡ followed p ys → q ≡ followed o (xs ++ ys)
goes_on o p q xs ys first second = second ∙ ap (λ x. followed x ys) first ∙ followed-followed o xs ys

-- calls that don't depend on what is told
pub made_plain : (o : Option Told) (calls : List Call) → followed o calls ≡ made_by (λ t. calls) o
made_plain None calls = refl
made_plain (Some t) calls = refl

-- what was told before the calls, from what is told after them
pub told_before : (o p : Option Told) (calls : Told → List Call) (u : Told) → p ≡ made_by calls o → p ≡ Some u → (t : Told) × (o ≡ Some t) × (u ≡ and_then t (calls t))
told_before None p calls u made tells = absurd (let no : None ≡ Some u = sym made ∙ tells in cc)
told_before (Some t) p calls u made tells = (t, refl, cc (sym tells ∙ made))

-- the first of the first are the first of all
take_twice : (i j : ℕ) (calls : List Call) → (k : ℕ) × (take i (take j calls) ≡ take k calls)
take_twice i j calls = elim (cases_lt j i) [
  | inl more ↦ (j, take_all i (take j calls) (omega (arith, length-take j calls)))
  | inr less ↦ (i, take-take i j calls less)
]

-- A disk that made the first of some calls was at no moment but between two of them.
pub leaves_only : (honesty : Bool) (old now : Option Told) (calls : Told → List Call) (t : Told) (P : Areas → Type 0)
    → Tells old honesty t → MakesFirst honesty old now calls
    → ((i : ℕ) (image : Areas) → IsImage (and_then t (take i (calls t))) image → P image)
    → LeavesOnly t now P
leaves_only honesty old now calls t P tells (j, made) each = record {
  made = take j (calls t);
  told = made tells.honest ∙ ap (made_by (λ u. take j (calls u))) tells.told;
  each = λ i image is.
      let P : List Call → Type 0 = λ cs. IsImage (and_then t cs) image in
      let at = take_twice i j (calls t) in
      each at.0 image (subst P at.1 is);
}
