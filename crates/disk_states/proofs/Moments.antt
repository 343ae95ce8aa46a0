-- Images at each moment of several calls.
use Rattle.std.proofs.Common.{◌≡◌, ℕ, ◌+◌, ◌-◌, ◌≤◌, inl, inr, List, [], ◌∷◌, ◌++◌, length, take, zero, suc, refl, ap, sym, ◌∙◌, subst, arith}
use Rattle.std.proofs.Math.Seq.{take-append-add}
use Rattle.std.proofs.lemmas.Bool.{cases_lt}
use Rattle.std.proofs.lemmas.List.{take-append-le}
use Rattle.disk_model.specs.declared.area.Area.{Area}
use Rattle.disk_model.specs.declared.area.Area.TheVariants.{Journal0, Journal1, Check2, Check3}
use Rattle.disk_model.specs.declared.areas.Areas.{Areas}
use Rattle.disk_model.specs.declared.call.Call.{Call}
use Rattle.disk_model.specs.declared.call.Call.TheVariants.{Sync}
use Rattle.disk_model.specs.Areas.{bytes_of}
use Rattle.disk_model.specs.Calls.{Told, begun, and_then, reads, IsImage, IsSettled}
use Rattle.disk_model.proofs.OnArea.{settled-image}
use Rattle.disk_model.proofs.Reading.{reads-bytes, same_areas}
use Rattle.gate_area.specs.Gate.{retire_calls, gate_calls, renew_calls, RenewLeaves}
use Rattle.gate_area.proofs.Pairs.{retire_leaves, retire_settles, retire_retires, found_leaves, gate_settles}
use Rattle.gate_area.proofs.Renewals.{retire_renews, found_renews}
use Rattle.disk_model.proofs.Went.{take_none, and_then-and_then, and_none}

-- wherever these calls are stopped, each image is of this kind
abbrev pub AtEach : Told → List Call → (Areas → Type 0) → Type 0
AtEach t calls P = (i : ℕ) (image : Areas) → IsImage (and_then t (take i calls)) image → P image

-- with nothing pending the one image is what reads give
pub settled_is : (t : Told) (image : Areas) → IsSettled t → IsImage t image → image ≡ reads t
settled_is t image settled is =
    let stays : (area : Area) → bytes_of area image ≡ bytes_of area (reads t) = λ area. settled-image t image settled is area ∙ sym (reads-bytes t area) in
    same_areas image (reads t) (stays Journal0) (stays Journal1) (stays Check2) (stays Check3)

-- no call is made
pub at_none : (t : Told) (P : Areas → Type 0) → IsSettled t → P (reads t) → AtEach t [] P
at_none t P settled here i image is =
    let none : IsImage (and_then t []) image = subst (λ (cs : List Call). IsImage (and_then t cs) image) (take_none i) is in
    let still : IsImage t image = subst (λ (x : Told). IsImage x image) (and_none t) none in
    subst P (sym (settled_is t image settled still)) here

-- some calls, and then others
pub at_both : (t : Told) (xs ys : List Call) (P : Areas → Type 0) → AtEach t xs P → AtEach (and_then t xs) ys P → AtEach t (xs ++ ys) P
at_both t xs ys P first second i image is = elim (cases_lt (length xs) i) [
  | inr low ↦ first i image (subst (λ (cs : List Call). IsImage (and_then t cs) image) (take-append-le i xs ys low) is)
  | inl high ↦
      let k = i - length xs in
      let split : take i (xs ++ ys) ≡ xs ++ take k ys = ap (λ n. take n (xs ++ ys)) (let e : i ≡ length xs + k = omega arith in e) ∙ take-append-add xs ys k in
      let here : IsImage (and_then t (xs ++ take k ys)) image = subst (λ (cs : List Call). IsImage (and_then t cs) image) split is in
      second k image (subst (λ (x : Told). IsImage x image) (sym (and_then-and_then t xs (take k ys))) here)
]

-- a sync of a disk that begins with these areas, and then others
pub at_sync : (areas : Areas) (rest : List Call) (P : Areas → Type 0) → P areas → AtEach (and_then (begun areas) (Sync ∷ [])) rest P → AtEach (begun areas) (Sync ∷ rest) P
at_sync areas rest P here later zero image is = subst P (sym (settled_is (begun areas) image (λ area. refl) is)) here
at_sync areas rest P here later (suc k) image is = later k image is

-- ---- an area is renewed

pub renew_leaves : (t : Told) (area : Area) (body : List ℕ) → 16 ≤ length body → IsSettled t → AtEach t (renew_calls area body t) (RenewLeaves area body (reads t))
renew_leaves t area body long settled =
    let u = and_then t (retire_calls area t) in
    at_both t (retire_calls area t) (gate_calls area 0 body) (RenewLeaves area body (reads t))
    (λ i image is. retire_renews area body (reads t) (reads u) image (retire_leaves t area settled i image is))
    (λ i image is. found_renews t area body (reads (and_then u (gate_calls area 0 body))) image long settled (found_leaves u area body (retire_settles area t) (retire_retires area t) i image is))

pub renew_settles : (t : Told) (area : Area) (body : List ℕ) → IsSettled (and_then t (renew_calls area body t))
renew_settles t area body =
    let u = and_then t (retire_calls area t) in
    subst (λ (x : Told). IsSettled x) (and_then-and_then t (retire_calls area t) (gate_calls area 0 body)) (gate_settles area 0 body u)
