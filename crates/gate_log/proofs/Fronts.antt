-- Which area of the journal stands, after a change of one.
use Rattle.std.proofs.Common.{◌≡◌, ℕ, ◌≤◌, Bool, true, false, cond, not, nat_eq, nat_lt, List, length, take, None, Some, Ok, Err, refl, ap, sym, ◌∙◌}
use Rattle.std.proofs.lemmas.Bool.{le-leb}
use Rattle.disk_model.specs.declared.area.Area.{Area}
use Rattle.disk_model.specs.declared.area.Area.TheVariants.{Journal0, Journal1, Check2, Check3}
use Rattle.disk_model.specs.declared.areas.Areas.{Areas}
use Rattle.disk_model.specs.Areas.{bytes_of}
use Rattle.gate_area.specs.declared.pair.Pair.TheVariants.{Journal}
use Rattle.gate_area.specs.declared.pair.Head.{Head}
use Rattle.gate_area.specs.declared.pair.Head.TheVariants.{Closed, Spoilt, Open}
use Rattle.gate_area.specs.Gate.{OthersStay}
use Rattle.gate_area.specs.Standing.{head_in, head_of, judged, standing, stands}

-- two files that are long enough and have the same front
pub record SameFront (file image : List ℕ) : Type 0 where
  pub long : 17 ≤ length file
  pub longer : 17 ≤ length image
  pub front : take 16 image ≡ take 16 file

pub same_head : (file image : List ℕ) → SameFront file image → head_of Journal image ≡ head_of Journal file
same_head file image is =
    ap (λ b. cond b (head_in Journal (take 16 image)) Closed) (le-leb 17 (length image) is.longer)
    ∙ ap (head_in Journal) is.front
    ∙ sym (ap (λ b. cond b (head_in Journal (take 16 file)) Closed) (le-leb 17 (length file) is.long))

-- which test was taken
never_some : (a b : Bool) (s t : Area × ℕ) (x : Area × ℕ) → cond (not a) (Err s) (cond b (Err t) (Ok None)) ≡ Ok (Some x) → ⊥
never_some true true s t x e = cc
never_some true false s t x e = cc
never_some false b s t x e = cc

-- where one counts, the lengths don't matter
judged_again : (n m k l : ℕ) (h s : Head) (x : Area × ℕ) → judged Journal n m h s ≡ Ok (Some x) → judged Journal k l h s ≡ Ok (Some x)
judged_again n m k l (Spoilt at) s x e = e
judged_again n m k l (Open g) (Spoilt at) x e = e
judged_again n m k l (Open g) (Open h) x e = e
judged_again n m k l (Open g) Closed x e = e
judged_again n m k l Closed (Spoilt at) x e = e
judged_again n m k l Closed (Open h) x e = e
judged_again n m k l Closed Closed x e = absurd (never_some (nat_eq m 0) (nat_lt 17 n) (Journal0, 0) (Journal0, 0) x e)

pub heads : (n m : ℕ) (a b c d : Head) → a ≡ b → c ≡ d → judged Journal n m a c ≡ judged Journal n m b d
heads n m a b c d e f = ap (λ h. judged Journal n m h c) e ∙ ap (judged Journal n m b) f

standing_again : (f s f' s' : List ℕ) (x : Area × ℕ) → head_of Journal f' ≡ head_of Journal f → head_of Journal s' ≡ head_of Journal s
    → standing Journal f s ≡ Ok (Some x) → standing Journal f' s' ≡ Ok (Some x)
standing_again f s f' s' x first second e =
    heads (length f') (length s') (head_of Journal f') (head_of Journal f) (head_of Journal s') (head_of Journal s) first second
    ∙ judged_again (length f) (length s) (length f') (length s') (head_of Journal f) (head_of Journal s) x e

-- where the front of an area stays, the area that stands does
pub front_stays : (area : Area) (x : Area × ℕ) (before image : Areas) → OthersStay area before image → SameFront (bytes_of area before) (bytes_of area image)
    → stands Journal before ≡ Ok (Some x) → stands Journal image ≡ Ok (Some x)
front_stays Journal0 x before image others front e =
    standing_again before.journal0 before.journal1 image.journal0 image.journal1 x (same_head before.journal0 image.journal0 front) (ap (head_of Journal) (others Journal1 refl)) e
front_stays Journal1 x before image others front e =
    standing_again before.journal0 before.journal1 image.journal0 image.journal1 x (ap (head_of Journal) (others Journal0 refl)) (same_head before.journal1 image.journal1 front) e
front_stays Check2 x before image others front e =
    standing_again before.journal0 before.journal1 image.journal0 image.journal1 x (ap (head_of Journal) (others Journal0 refl)) (ap (head_of Journal) (others Journal1 refl)) e
front_stays Check3 x before image others front e =
    standing_again before.journal0 before.journal1 image.journal0 image.journal1 x (ap (head_of Journal) (others Journal0 refl)) (ap (head_of Journal) (others Journal1 refl)) e
