-- How far a majority is covered.
use Rattle.std.proofs.Common.{◌≡◌, ℕ, ◌<◌, ◌≤◌, max, true, false, Bool, List, [], ◌∷◌, length, refl, sym, ◌∙◌, subst, arith, inl, inr}
use Rattle.std.specs.Prelude.{◌⊎◌, ◌↔◌, nat_le, nat_lt, filter, count_by, if◌then◌else◌}
use Rattle.std.specs.List.{AllByRecursion}
use Rattle.std.proofs.lemmas.Bool.{cases_lt}
use Rattle.std.proofs.lemmas.Bool.Decides.{nat_tests}
use Rattle.std.proofs.lemmas.List.Sums.{length-filter}
use Rattle.range_map.proofs.SetLemmas.{le-true, le-false}
use Rattle.protocol.specs.Parts.{Ring}
use Rattle.protocol.specs.Rings.{majority_of}
use Rattle.protocol.specs.Ballots.{reached_by, covered_to}
use Rattle.protocol.specs.Meaning.{IsCovered}
use Rattle.range_map.proofs.EntryLemmas.{lt-true, lt-false, lt-from, le-from}
use Rattle.quorums.proofs.Each.{mapped}

-- x is one of these
abbrev In : ℕ → List ℕ → Type 0
In x [] = ⊥
In x (y ∷ ys) = (y ≡ x) ⊎ In x ys

-- ---- counting

-- what passes p passes q
more_pass : (p q : ℕ → Bool) (xs : List ℕ) → AllByRecursion (λ x. p x ≡ true → q x ≡ true) xs → length (filter p xs) ≤ length (filter q xs)
more_pass p q [] all = omega arith
more_pass p q (x ∷ xs) all = go (p x) (q x) refl refl (more_pass p q xs all.1)
  where
    go : (a b : Bool) → a ≡ p x → b ≡ q x → length (filter p xs) ≤ length (filter q xs) → length (filter p (x ∷ xs)) ≤ length (filter q (x ∷ xs))
    go true true ea eb more = rw (sym ea, sym eb) (omega arith)
    go true false ea eb more = let never = all.0 (sym ea) in absurd (cc)
    go false true ea eb more = rw (sym ea, sym eb) (omega arith)
    go false false ea eb more = rw (sym ea, sym eb) more

count_more : (p q : ℕ → Bool) (xs : List ℕ) → AllByRecursion (λ x. p x ≡ true → q x ≡ true) xs → count_by p xs ≤ count_by q xs
count_more p q xs all =
    let a = length-filter p xs in
    let b = length-filter q xs in
    let c = more_pass p q xs all in
    omega arith

none_pass : (p : ℕ → Bool) (xs : List ℕ) → AllByRecursion (λ x. p x ≡ false) xs → length (filter p xs) ≡ 0
none_pass p [] all = refl
none_pass p (x ∷ xs) all = rw all.0 (none_pass p xs all.1)

count_none : (p : ℕ → Bool) (xs : List ℕ) → AllByRecursion (λ x. p x ≡ false) xs → count_by p xs ≡ 0
count_none p xs all = sym (length-filter p xs) ∙ none_pass p xs all

every : (P : ℕ → Type 0) → ((x : ℕ) → P x) → (xs : List ℕ) → AllByRecursion P xs
every P h [] = tt
every P h (x ∷ xs) = (h x, every P h xs)

-- ---- the least of these past an instance

record IsLeastPast (i : ℕ) (xs : List ℕ) (x : ℕ) : Type 0 where
  past : i < x
  is_in : In x xs
  least : AllByRecursion (λ y. i < y → x ≤ y) xs

record SomePast (i : ℕ) (xs : List ℕ) : Type 0 where
  x : ℕ
  is : IsLeastPast i xs x

none_or_some : (i : ℕ) (xs : List ℕ) → AllByRecursion (λ y. y ≤ i) xs ⊎ SomePast i xs
none_or_some i [] = inl tt
none_or_some i (y ∷ ys) = go (none_or_some i ys) (cases_lt i y)
  where
    go : AllByRecursion (λ y. y ≤ i) ys ⊎ SomePast i ys → (i < y) ⊎ (y ≤ i) → AllByRecursion (λ y. y ≤ i) (y ∷ ys) ⊎ SomePast i (y ∷ ys)
    go (inl all) (inr under) = inl (under, all)
    go (inl all) (inl past) = inr (record {
      x = y;
      is = record {
        past = past;
        is_in = inl refl;
        least = ((λ _. omega arith), mapped (λ z. z ≤ i) (λ z. i < z → y ≤ z) (λ z a b. absurd (omega arith)) ys all);
      };
    })
    go (inr some) (inr under) = inr (record {
      x = some.x;
      is = record { past = some.is.past; is_in = inr some.is.is_in; least = ((λ a. absurd (omega arith)), some.is.least) };
    })
    go (inr some) (inl past) = choose (cases_lt y some.x)
      where
        choose : (y < some.x) ⊎ (some.x ≤ y) → AllByRecursion (λ y. y ≤ i) (y ∷ ys) ⊎ SomePast i (y ∷ ys)
        choose (inl less) = inr (record {
          x = y;
          is = record {
            past = past;
            is_in = inl refl;
            least = ((λ _. omega arith), mapped (λ z. i < z → some.x ≤ z) (λ z. i < z → y ≤ z) (λ z a b. let c = a b in omega arith) ys some.is.least);
          };
        })
        choose (inr more) = inr (record {
          x = some.x;
          is = record { past = some.is.past; is_in = inr some.is.is_in; least = ((λ _. more), some.is.least) };
        })

-- ---- what so many reach

module _ (count : ℕ) (all : List ℕ) where
  reaches : (x : ℕ) (xs : List ℕ) → In x xs → count ≤ count_by (λ y. nat_le x y) all → x ≤ reached_by count all xs
  reaches x [] nothing h = absurd nothing
  reaches x (y ∷ ys) (inl same) h =
      let test : nat_le count (count_by (λ z. nat_le y z) all) ≡ true = le-true count (count_by (λ z. nat_le y z) all) (subst (λ v. count ≤ count_by (λ z. nat_le v z) all) (sym same) h) in
      rw test (omega arith)
  reaches x (y ∷ ys) (inr later) h = let more = reaches x ys later h in omega arith

  passed : (i : ℕ) (xs : List ℕ) → i < reached_by count all xs → count ≤ count_by (λ y. nat_lt i y) all
  passed i [] h = absurd (omega arith)
  passed i (x ∷ xs) h = go (passed i xs) (cases_lt i (reached_by count all xs)) (cases_lt (count_by (λ y. nat_le x y) all) count)
    where
      go : (i < reached_by count all xs → count ≤ count_by (λ y. nat_lt i y) all) → (i < reached_by count all xs) ⊎ (reached_by count all xs ≤ i) → (count_by (λ y. nat_le x y) all < count) ⊎ (count ≤ count_by (λ y. nat_le x y) all) → count ≤ count_by (λ y. nat_lt i y) all
      go before (inl more) other = before more
      go before (inr less) (inl few) =
          let test = le-false count (count_by (λ y. nat_le x y) all) few in
          let at : i < max 0 (reached_by count all xs) = subst (λ b. i < max (if b then x else 0) (reached_by count all xs)) test h in
          absurd (omega arith)
      go before (inr less) (inr many) =
          let test = le-true count (count_by (λ y. nat_le x y) all) many in
          let at : i < max x (reached_by count all xs) = subst (λ b. i < max (if b then x else 0) (reached_by count all xs)) test h in
          let under : i < x = omega arith in
          let more = count_more (λ y. nat_le x y) (λ y. nat_lt i y) all (every _ (λ y le. let z = le-from x y le in lt-true i y (omega arith)) all) in
          omega arith

  reached : (i : ℕ) → 0 < count → count ≤ count_by (λ y. nat_lt i y) all → i < reached_by count all all
  reached i some h = go (none_or_some i all)
    where
      go : AllByRecursion (λ y. y ≤ i) all ⊎ SomePast i all → i < reached_by count all all
      go (inl none) =
          let zero = count_none (λ y. nat_lt i y) all (mapped (λ y. y ≤ i) (λ y. nat_lt i y ≡ false) (λ y le. lt-false i y le) all none) in
          absurd (omega arith)
      go (inr one) =
          let is = one.is in
          let more = count_more (λ y. nat_lt i y) (λ y. nat_le one.x y) all (mapped (λ y. i < y → one.x ≤ y) (λ y. nat_lt i y ≡ true → nat_le one.x y ≡ true) (λ y a b. le-true one.x y (a (lt-from i y b))) all is.least) in
          let to = reaches one.x all is.is_in (omega arith) in
          let past = is.past in
          omega arith

-- a majority is covered past each instance below this, and past no other
pub covers : (ring : Ring) (covered : List ℕ) (i : ℕ) → (i < covered_to ring covered) ↔ IsCovered ring covered i
unfolding covered_to
covers ring covered i = (passed (majority_of ring) covered i covered, reached (majority_of ring) covered i (omega arith))
