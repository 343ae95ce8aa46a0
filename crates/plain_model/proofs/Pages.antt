-- That a page is the longest front that has room.
use Rattle.std.proofs.Common.{arith, ◌≡◌, ◌≤◌, ◌<◌, ℕ, ◌-◌, nat_le, Bool, true, false, if◌then◌else◌, List, [], ◌∷◌, refl, ap}
use Rattle.std.proofs.lemmas.List.Sums.{sum_by-cons}
use Rattle.plain_model.specs.Pages.{front_within, IsLongestFront}

module _ {T : Type 0} (size : T → ℕ) where
  one_more : (room : ℕ) (x : T) (xs front : List T) → size x ≤ room → IsLongestFront size (room - size x) xs front → IsLongestFront size room (x ∷ xs) (x ∷ front)
  one_more room x xs front fits is = record {
    whole = ap (λ (l : List T). x ∷ l) is.whole;
    fits = let rest = is.fits in omega (arith, sum_by-cons size x front);
    more = λ y ys left. let past = is.more y ys left in omega (arith, sum_by-cons size x front);
  }

  none : (room : ℕ) (x : T) (xs : List T) → room < size x → IsLongestFront size room (x ∷ xs) []
  none room x xs past = record {
    whole = refl;
    fits = omega arith;
    more = λ y ys left. let same : x ≡ y = cc in let sizes = ap size same in omega arith;
  }

  pub front-longest : (room : ℕ) (all : List T) → IsLongestFront size room all (front_within size room all)
  front-longest room [] = record { whole = refl; fits = omega arith; more = λ x xs left. absurd (cc) }
  front-longest room (x ∷ xs) = by (nat_le (size x) room) refl (front-longest (room - size x) xs)
    where
      by : (t : Bool) → nat_le (size x) room ≡ t → IsLongestFront size (room - size x) xs (front_within size (room - size x) xs) →
          IsLongestFront size room (x ∷ xs) (if t then x ∷ front_within size (room - size x) xs else [])
      by false e later = none room x xs (grind arith)
      by true e later = one_more room x xs (front_within size (room - size x) xs) (grind arith) later
