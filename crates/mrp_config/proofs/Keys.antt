-- Ranges that stand end to end hold each key once.
use Rattle.std.proofs.Common.{arith, ◌≡◌, ℕ, suc, ◌≤◌, ◌==◌, Bool, true, false, if◌then◌else◌, List, [], ◌∷◌, length, refl, sym, ◌∙◌, ap, subst, true≢false, Ordering, Less, Equal, Greater}
use Rattle.std.proofs.lemmas.Cmp.{nat_list_cmp_total}
use Rattle.std.specs.Ordering.{nat_cmp, is_lt}
use Rattle.std.specs.Cmp.Lexicographic.{slice_cmp}
use Rattle.mrp_config.specs.declared.tables.PartitionTable.{PartitionTable}
use Rattle.mrp_config.specs.Routing.{is_before, is_within}
use Rattle.mrp_config.specs.Valid.{AreEndToEnd, holders}

is_less : (o : Ordering) → is_lt o ≡ true → o ≡ Less
is_less Less h = refl
is_less Equal h = absurd cc
is_less Greater h = absurd cc

before_trans : (a b c : List ℕ) → is_before a b ≡ true → is_before b c ≡ true → is_before a c ≡ true
before_trans a b c h k = ap is_lt (nat_list_cmp_total.trans a b c (is_less (slice_cmp nat_cmp a b) h) (is_less (slice_cmp nat_cmp b c) k))

none_before : (a : List ℕ) → is_before a [] ≡ false
none_before [] = refl
none_before (x ∷ xs) = refl

ends : (from to : List ℕ) → is_before from to ≡ true → (length to == 0) ≡ false
ends from [] h = absurd (true≢false (sym h ∙ none_before from))
ends from (x ∷ xs) h = grind arith

counted : (key : List ℕ) (p : PartitionTable) (ps : List PartitionTable) (t : Bool) → is_within p.from p.to key ≡ t → length (holders key (p ∷ ps)) ≡ (if t then suc (length (holders key ps)) else length (holders key ps))
counted key p ps true h = rw h refl
counted key p ps false h = rw h refl

-- a key below the first range is in none
none_holds : (key start : List ℕ) (ps : List PartitionTable) → AreEndToEnd start ps → is_before key start ≡ true → length (holders key ps) ≡ 0
none_holds key start [] h low = refl
none_holds key start (p ∷ []) h low =
    let out : is_within p.from p.to key ≡ false = rw (h.0, low) refl in
    counted key p [] false out
none_holds key start (p ∷ q ∷ ps) h low =
    let out : is_within p.from p.to key ≡ false = rw (h.0, low) refl in
    let before : is_before key p.to ≡ true = before_trans key start p.to low (subst (λ (s : List ℕ). is_before s p.to ≡ true) h.0 h.1) in
    counted key p (q ∷ ps) false out ∙ none_holds key p.to (q ∷ ps) h.2 before

-- a key from the first range on is in one
one_holds : (key start : List ℕ) (p : PartitionTable) (ps : List PartitionTable) → AreEndToEnd start (p ∷ ps) → is_before key start ≡ false → length (holders key (p ∷ ps)) ≡ 1
one_holds key start p [] h high =
    let within : is_within p.from p.to key ≡ true = rw (h.0, high, h.1) refl in
    counted key p [] true within
one_holds key start p (q ∷ ps) h high = by_end (is_before key p.to) refl (one_holds key p.to q ps h.2)
  where
    inside : is_before key p.to ≡ true → length (holders key (p ∷ q ∷ ps)) ≡ 1
    inside before =
        let within : is_within p.from p.to key ≡ true = rw (h.0, high, ends p.from p.to h.1, before) refl in
        counted key p (q ∷ ps) true within ∙ ap suc (none_holds key p.to (q ∷ ps) h.2 before)

    outside : is_before key p.to ≡ false → length (holders key (q ∷ ps)) ≡ 1 → length (holders key (p ∷ q ∷ ps)) ≡ 1
    outside past later =
        let out : is_within p.from p.to key ≡ false = rw (h.0, high, ends p.from p.to h.1, past) refl in
        counted key p (q ∷ ps) false out ∙ later

    by_end : (t : Bool) → is_before key p.to ≡ t → (is_before key p.to ≡ false → length (holders key (q ∷ ps)) ≡ 1) → length (holders key (p ∷ q ∷ ps)) ≡ 1
    by_end true before later = inside before
    by_end false past later = outside past (later past)

pub each_key_has_one : (key : List ℕ) (ps : List PartitionTable) → 1 ≤ length ps → AreEndToEnd [] ps → length (holders key ps) ≡ 1
each_key_has_one key [] some h = absurd (omega arith)
each_key_has_one key (p ∷ ps) some h = one_holds key [] p ps h (none_before key)
