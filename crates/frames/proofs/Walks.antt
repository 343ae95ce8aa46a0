-- Walks over lists, one item on.
use Rattle.std.proofs.Common.{arith, ◌≡◌, ℕ, ◌+◌, ◌<◌, List, ◌∷◌, length, drop, slice_index_or, sym, ap, subst, ◌∙◌, length-append}
use Rattle.std.specs.List.{flat_map, AllByRecursion}
use Rattle.std.proofs.lemmas.List.{drop_more}
use Rattle.std.proofs.lemmas.List.Concat.{flat_map-cons}
use Rattle.mrp_types.specs.declared.voted.Voted.{Voted}
use Rattle.mrp_types.specs.declared.voted.Decided.{Decided}
use Rattle.frames.specs.declared.lists.Before.{Before}
use Rattle.frames.specs.Ranges.{nothing_before}
use Rattle.frames.specs.Valid.{AreVotes, AreRanges}

-- what is left of a list, and its first item
pub one_on : {A : Type 0} (xs : List A) (i : ℕ) (x : A) → i < length xs → x ≡ slice_index_or xs i x → drop i xs ≡ x ∷ drop (i + 1) xs
one_on xs i x inside is = drop_more xs i x inside ∙ ap (λ y. y ∷ drop (i + 1) xs) (sym is)

-- the bytes of one item are counted
pub counted : {A : Type 0} (f : A → List ℕ) (xs : List A) (i : ℕ) (x : A) (size one : ℕ) → i < length xs → x ≡ slice_index_or xs i x → one ≡ length (f x) →
    size + length (flat_map f (drop i xs)) ≡ length (flat_map f xs) → (size + one) + length (flat_map f (drop (i + 1) xs)) ≡ length (flat_map f xs)
counted f xs i x size one inside is many so_far =
    let split : length (flat_map f (drop i xs)) ≡ length (f x) + length (flat_map f (drop (i + 1) xs)) =
    ap (λ l. length (flat_map f l)) (one_on xs i x inside is) ∙ (ap length (flat_map-cons f x (drop (i + 1) xs)) ∙ length-append (f x) (flat_map f (drop (i + 1) xs))) in
    omega (arith, split, so_far, many)

pub all_on : {A : Type 0} (P : A → Type 0) (xs : List A) (i : ℕ) (x : A) → i < length xs → x ≡ slice_index_or xs i x → AllByRecursion P (drop i xs) → AllByRecursion P (drop (i + 1) xs)
all_on P xs i x inside is all = (subst (AllByRecursion P) (one_on xs i x inside is) all).1

-- ---- whether votes are in order

-- the rest may follow exactly where all may stand
abbrev pub VotesSoFar : Before → List Voted → List Voted → Type 0
VotesSoFar before rest votes = (AreVotes before rest → AreVotes nothing_before votes) × (AreVotes nothing_before votes → AreVotes before rest)

-- ---- whether decided ranges are in order

abbrev pub RangesSoFar : Before → List Decided → List Decided → Type 0
RangesSoFar before rest ranges = (AreRanges before rest → AreRanges nothing_before ranges) × (AreRanges nothing_before ranges → AreRanges before rest)
