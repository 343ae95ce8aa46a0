-- Two operations one after the other.
use Rattle.std.proofs.Common.{◌≡◌, ℕ, ◌+◌, ◌-◌, inl, inr, Bool, List, [], ◌∷◌, ◌++◌, length, take, Option, Some, zero, suc, refl, ap, sym, ◌∙◌, subst, arith}
use Rattle.std.proofs.Math.Seq.{take-append-add}
use Rattle.std.proofs.lemmas.Bool.{cases_lt}
use Rattle.std.proofs.lemmas.List.{take-append-le}
use Rattle.disk_model.specs.declared.area.Area.{Area}
use Rattle.disk_model.specs.declared.area.Area.TheVariants.{Journal0, Journal1, Check2, Check3}
use Rattle.disk_model.specs.declared.areas.Areas.{Areas}
use Rattle.disk_model.specs.declared.call.Call.{Call}
use Rattle.disk_model.specs.declared.call.Call.TheVariants.{Sync}
use Rattle.disk_model.specs.Areas.{bytes_of}
use Rattle.disk_model.specs.Calls.{Told, Tells, and_then, followed, LeavesOnly, IsImage, IsSettled, reads, kept}
use Rattle.disk_model.proofs.Went.{and_then-and_then, and_none, take_none}
use Rattle.disk_model.proofs.OnArea.{settled-image}
use Rattle.disk_model.proofs.CrashLaws.{new_can}
use Rattle.disk_model.proofs.Reading.{reads-bytes, reading-kept, same_areas}
use Rattle.disk_model.specs.Steps.{CanLeave}

-- the same under another name
pub leaves_as : (t : Told) (now : Option Told) (P Q : Areas → Type 0) → LeavesOnly t now P → ((image : Areas) → P image → Q image) → LeavesOnly t now Q
leaves_as t now P Q leaves same = record { made = leaves.made; told = leaves.told; each = λ i image is. same image (leaves.each i image is) }

pub told_is : (t u : Told) (p : Option Told) → p ≡ Some t → p ≡ Some u → u ≡ t
told_is t u p a b = let e : Some t ≡ Some u = sym a ∙ b in cc

-- what two operations leave
pub leaves_on : (t u : Told) (p q : Option Told) (P Q R : Areas → Type 0) → LeavesOnly t p P → p ≡ Some u → LeavesOnly u q Q
    → ((image : Areas) → P image → R image) → ((image : Areas) → Q image → R image) → LeavesOnly t q R
leaves_on t u p q P Q R first is second from_first from_second = record {
  made = first.made ++ second.made;
  told = second.told ∙ ap Some (ap (λ x. and_then x second.made) middle ∙ and_then-and_then t first.made second.made);
  each = λ i image here. elim (cases_lt (length first.made) i) [
    | inr low ↦
        let S : List Call → Type 0 = λ cs. IsImage (and_then t cs) image in
        from_first image (first.each i image (subst S (take-append-le i first.made second.made low) here))
    | inl high ↦
        let S : List Call → Type 0 = λ cs. IsImage (and_then t cs) image in
        let T : Told → Type 0 = λ x. IsImage x image in
        let k = i - length first.made in
        let split : take i (first.made ++ second.made) ≡ first.made ++ take k second.made =
        ap (λ n. take n (first.made ++ second.made)) (let e : i ≡ length first.made + k = omega arith in e) ∙ take-append-add first.made second.made k in
        from_second image (second.each k image (subst T (sym (ap (λ x. and_then x (take k second.made)) middle ∙ and_then-and_then t first.made (take k second.made))) (subst S split here)))
  ];
}
  where
    middle : u ≡ and_then t first.made
    middle = told_is (and_then t first.made) u p first.told is

-- where no call was made and nothing is pending, a crash leaves what reads give
pub stays_leaves : (t : Told) (now : Option Told) (P : Areas → Type 0) → now ≡ Some t → IsSettled t → P (reads t) → LeavesOnly t now P
stays_leaves t now P told settled here = record {
  made = [];
  told = told ∙ ap Some (sym (and_none t));
  each = λ i image is.
      let S : List Call → Type 0 = λ cs. IsImage (and_then t cs) image in
      let T : Told → Type 0 = λ x. IsImage x image in
      let still : IsImage t image = subst T (and_none t) (subst S (take_none i) is) in
      let stays : (area : Area) → bytes_of area image ≡ bytes_of area (reads t) = λ area. settled-image t image settled still area ∙ sym (reads-bytes t area) in
      subst P (sym (same_areas image (reads t) (stays Journal0) (stays Journal1) (stays Check2) (stays Check3))) here;
}

-- what is told after a sync
synced_told : (o p : Option Told) (t : Told) → p ≡ followed o (Sync ∷ []) → o ≡ Some t → p ≡ Some (and_then t (Sync ∷ []))
synced_told o p t sync is = sync ∙ ap (λ x. followed x (Sync ∷ [])) is

pub synced_tells : (o p : Option Told) (honest honest' : Bool) (t : Told) → p ≡ followed o (Sync ∷ []) → honest' ≡ honest → Tells o honest t → Tells p honest' (and_then t (Sync ∷ []))
synced_tells o p honest honest' t sync same tells = record { honest = same ∙ tells.honest; told = synced_told o p t sync tells.told }

-- what reads give is one of the images
pub reads_image : (u : Told) → IsImage u (reads u)
reads_image u area =
    let P : List ℕ → Type 0 = λ b. CanLeave (kept area u) b in
    subst P (reading-kept area u ∙ sym (reads-bytes u area)) (new_can (kept area u))
