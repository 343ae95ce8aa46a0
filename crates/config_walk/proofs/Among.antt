-- Numbers that are one of a list.
use Rattle.std.proofs.Common.{arith, ◌≡◌, ℕ, Bool, true, false, ◌||◌, ◌==◌, if◌then◌else◌, List, [], ◌∷◌, ◌++◌, refl, sym, ◌∙◌}
use Rattle.std.proofs.lemmas.Bool.{or_parts, or_from}
use Rattle.std.specs.List.{list_any}
use Rattle.mrp_types.specs.Seats.{is_among}

by_test : (t a b : Bool) → (if t then true else (a || b)) ≡ ((if t then true else a) || b)
by_test true a b = refl
by_test false a b = refl

pub among_either : (n : ℕ) (first second : List ℕ) → is_among n (first ++ second) ≡ (is_among n first || is_among n second)
among_either n [] second = refl
among_either n (m ∷ ms) second = rw (among_either n ms second) (by_test (m == n) (is_among n ms) (is_among n second))

pub in_first : (n : ℕ) (first second : List ℕ) → is_among n first ≡ true → true ≡ is_among n (first ++ second)
in_first n first second h = sym (rw (among_either n first second, h) refl)

pub in_second : (n : ℕ) (first second : List ℕ) → is_among n first ≡ false → is_among n second ≡ is_among n (first ++ second)
in_second n first second h = sym (rw (among_either n first second, h) refl)

pub in_neither : (n : ℕ) (first second : List ℕ) → is_among n (first ++ second) ≡ false → (is_among n first ≡ false) × (is_among n second ≡ false)
in_neither n first second h = or_parts (is_among n first) (is_among n second) (sym (among_either n first second) ∙ h)

pub in_none : (n : ℕ) (first second : List ℕ) → is_among n first ≡ false → is_among n second ≡ false → is_among n (first ++ second) ≡ false
in_none n first second h k = among_either n first second ∙ or_from (is_among n first) (is_among n second) h k

-- none of the list, so neither its first nor one of the rest
pub none_of : (n m : ℕ) (ns : List ℕ) → is_among n (m ∷ ns) ≡ false → ((m == n) ≡ false) × (is_among n ns ≡ false)
none_of n m ns h = by_first (m == n) h
  where
    by_first : (t : Bool) → (if t then true else is_among n ns) ≡ false → (t ≡ false) × (is_among n ns ≡ false)
    by_first true h = absurd cc
    by_first false h = (refl, h)

pub turned : (a b : ℕ) → (a == b) ≡ false → (b == a) ≡ false
turned a b h = grind arith

-- what a slice's `contains` says
pub any_is : (n : ℕ) (ns : List ℕ) → list_any (λ m. m == n) ns ≡ is_among n ns
any_is n [] = refl
any_is n (m ∷ ns) = by_first (m == n) (any_is n ns)
  where
    by_first : (t : Bool) → list_any (λ m. m == n) ns ≡ is_among n ns → (t || list_any (λ m. m == n) ns) ≡ (if t then true else is_among n ns)
    by_first true later = refl
    by_first false later = later
