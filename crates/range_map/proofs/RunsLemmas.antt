-- Runs in order, by the instance where each begins.
use Rattle.std.proofs.Common.{◌≡◌, ℕ, ◌^◌, ◌<◌, ◌≤◌, true, false, ◌&&◌, List, [], ◌∷◌, ◌++◌, refl, sym, ◌∙◌, ap, subst, arith, inl, inr}
use Rattle.std.specs.Prelude.{◌⊎◌, Option, IfSome, is_some, Some, None, nat_le, nat_lt}
use Rattle.std.specs.Ordering.{nat_cmp, is_gt}
use Rattle.std.specs.declared.cmp.Ordering.TheVariants.{Less}
use Rattle.std.specs.BTreeMap.{BTreeMap, is_at}
use Rattle.std.specs.BTreeMap.Range.{IsRangeOf, IsEntryInRange, IsLeBy}
use Rattle.std.specs.declared.ops.Bound.TheVariants.{Included, Excluded, Unbounded}
use Rattle.std.specs.Map.{keys_of}
use Rattle.std.specs.List.{AllByRecursion, slice_get}
use Rattle.std.specs.List.Sorted.{IsStrictlySortedBy}
use Rattle.std.proofs.lemmas.Bool.{cases_lt, cases_eq}
use Rattle.std.proofs.lemmas.Bool.Decides.{nat_tests}
use Rattle.std.proofs.lemmas.Map.Keys.{sorted_head, sorted_tail, le_from_not_gt, ge_from_not_lt}
use Rattle.range_map.specs.declared.run.Run.{Run}
use Rattle.range_map.specs.Runs.{held, run_from, IsPlacedFrom, IsApart, IsCover, IsBare, IsLastUpTo, IsFirstWithin}

-- ---- numbers

pub not_gt_from_le : (a b : ℕ) → a ≤ b → is_gt (nat_cmp a b) ≡ false
not_gt_from_le a b h = grind (arith, nat_tests)

pub less_from_lt : (a b : ℕ) → a < b → nat_cmp a b ≡ Less
less_from_lt a b h = grind (arith, nat_tests)

pub lt_from_less : (a b : ℕ) → nat_cmp a b ≡ Less → a < b
lt_from_less a b h = elim (cases_lt a b) [ inl lt ↦ lt | inr ge ↦ grind (arith, nat_tests) ]

pub is_at-same : (a b : ℕ) → a ≡ b → is_at (nat_cmp a) b ≡ true
is_at-same a b h = grind (arith, nat_tests)

pub is_at-other : (a b : ℕ) → (a ≡ b → ⊥) → is_at (nat_cmp a) b ≡ false
is_at-other a b h = grind (arith, nat_tests)

pub within-true : (lo hi i : ℕ) → lo ≤ i → i < hi → (nat_le lo i && nat_lt i hi) ≡ true
within-true lo hi i p q = grind (arith, nat_tests)

pub within-below : (lo hi i : ℕ) → i < lo → (nat_le lo i && nat_lt i hi) ≡ false
within-below lo hi i p = grind (arith, nat_tests)

pub within-above : (lo hi i : ℕ) → hi ≤ i → (nat_le lo i && nat_lt i hi) ≡ false
within-above lo hi i p = grind (arith, nat_tests)

pub some_end : {T : Type 0} (r s : Run T) → Some r ≡ Some s → r.end ≡ s.end
some_end r s h = let same : r ≡ s = cc in ap (λ (x : Run _). x.end) same

pub option_cases : {X : Type 0} (o : Option X) → (o ≡ None) ⊎ ((x : X) × (o ≡ Some x))
option_cases None = inl refl
option_cases (Some x) = inr (x, refl)

-- ---- look-ups

module _ {T : Type 0} where
  -- a run found in a list is its first, or is found in what follows
  pub data FoundIn (e : ℕ × Run T) (es : List (ℕ × Run T)) (a : ℕ) (r : Run T) : Type 0 where
    First : a ≡ e.0 → e.1 ≡ r → FoundIn e es a r
    Later : (a ≡ e.0 → ⊥) → run_from es a ≡ Some r → FoundIn e es a r

  pub run_from-first : (e : ℕ × Run T) (es : List (ℕ × Run T)) (a : ℕ) → a ≡ e.0 → run_from (e ∷ es) a ≡ Some e.1
  run_from-first e es a h = rw (is_at-same a e.0 h) refl

  pub run_from-later : (e : ℕ × Run T) (es : List (ℕ × Run T)) (a : ℕ) → (a ≡ e.0 → ⊥) → run_from (e ∷ es) a ≡ run_from es a
  run_from-later e es a h = rw (is_at-other a e.0 h) refl

  pub found_in : (e : ℕ × Run T) (es : List (ℕ × Run T)) (a : ℕ) (r : Run T) → run_from (e ∷ es) a ≡ Some r → FoundIn e es a r
  found_in e es a r h =
      elim (cases_eq a e.0) [
        | inl same ↦ First same (let first = run_from-first e es a same in cc)
        | inr other ↦ Later other (sym (run_from-later e es a other) ∙ h)
      ]

  -- ---- runs in their places

  pub from_there : (k : ℕ) (es : List (ℕ × Run T)) (a : ℕ) (r : Run T) → IsPlacedFrom k es → run_from es a ≡ Some r → (k ≤ a) × (a < r.end) × (r.end ≤ 2 ^ 40)
  from_there k [] a r p h = absurd (cc)
  from_there k (e ∷ es) a r p h =
      elim (found_in e es a r h) [
        | First same is ↦ let end : e.1.end ≡ r.end = ap (λ (x : Run T). x.end) is in (omega arith, omega arith, omega arith)
        | Later other is ↦ let more = from_there e.1.end es a r p.3 is in (omega arith, more.1, more.2)
      ]

  pub apart_there : (k : ℕ) (es : List (ℕ × Run T)) (a b : ℕ) (r s : Run T) → IsPlacedFrom k es → run_from es a ≡ Some r → run_from es b ≡ Some s → a < b → r.end ≤ b
  apart_there k [] a b r s p h i lt = absurd (cc)
  apart_there k (e ∷ es) a b r s p h i lt =
      elim (found_in e es a r h) [
        | First sa ra ↦ elim (found_in e es b s i) [
          | First sb rb ↦ absurd (omega arith)
          | Later nb hb ↦
              let end : e.1.end ≡ r.end = ap (λ (x : Run T). x.end) ra in
              let there = from_there e.1.end es b s p.3 hb in
              omega arith
        ]
        | Later na ha ↦ elim (found_in e es b s i) [
          | First sb rb ↦ let there = from_there e.1.end es a r p.3 ha in absurd (omega arith)
          | Later nb hb ↦ apart_there e.1.end es a b r s p.3 ha hb lt
        ]
      ]

  pub apart_from_placed : (k : ℕ) (es : List (ℕ × Run T)) → IsPlacedFrom k es → IsApart (run_from es)
  apart_from_placed k es p = record {
    filled = λ a r h. (from_there k es a r p h).1;
    ended = λ a r h. (from_there k es a r p h).2;
    apart = λ a b r s. apart_there k es a b r s p;
  }

  above_head : (k : ℕ) (es : List (ℕ × Run T)) (a : ℕ) (r : Run T) → AllByRecursion (λ y. nat_cmp k y ≡ Less) (keys_of es) → run_from es a ≡ Some r → k < a
  above_head k [] a r all h = absurd (cc)
  above_head k (e ∷ es) a r all h =
      elim (found_in e es a r h) [
        | First same is ↦ let lt = lt_from_less k e.0 all.0 in omega arith
        | Later other is ↦ above_head k es a r all.1 is
      ]

  -- runs in order of their beginnings that are apart are in their places
  pub placed_from_apart : (k : ℕ) (es : List (ℕ × Run T)) → IsStrictlySortedBy nat_cmp (keys_of es) → IsApart (run_from es) → ((a : ℕ) (r : Run T) → run_from es a ≡ Some r → k ≤ a) → IsPlacedFrom k es
  placed_from_apart k [] sorted apart from = tt
  placed_from_apart k (e ∷ es) sorted apart from =
      (from e.0 e.1 here, apart.filled e.0 e.1 here, apart.ended e.0 e.1 here, placed_from_apart e.1.end es (sorted_tail nat_cmp e.0 (keys_of es) sorted) rest_apart rest_from)
    where
      here : run_from (e ∷ es) e.0 ≡ Some e.1
      here = run_from-first e es e.0 refl

      past : (a : ℕ) (r : Run T) → run_from es a ≡ Some r → e.0 < a
      past a r h = above_head e.0 es a r (sorted_head nat_cmp e.0 (keys_of es) sorted) h

      whole : (a : ℕ) (r : Run T) → run_from es a ≡ Some r → run_from (e ∷ es) a ≡ Some r
      whole a r h = let lt = past a r h in let ne : (a ≡ e.0 → ⊥) = omega arith in run_from-later e es a ne ∙ h

      rest_apart : IsApart (run_from es)
      rest_apart = record {
        filled = λ a r h. apart.filled a r (whole a r h);
        ended = λ a r h. apart.ended a r (whole a r h);
        apart = λ a b r s h i. apart.apart a b r s (whole a r h) (whole b s i);
      }

      rest_from : (a : ℕ) (r : Run T) → run_from es a ≡ Some r → e.1.end ≤ a
      rest_from a r h = apart.apart e.0 a e.1 r here (whole a r h) (past a r h)

  -- ---- what the runs hold

  pub held_cover : (k : ℕ) (es : List (ℕ × Run T)) (a : ℕ) (r : Run T) (i : ℕ) → IsPlacedFrom k es → run_from es a ≡ Some r → a ≤ i → i < r.end → held i es ≡ Some r.value
  held_cover k [] a r i p h from to = absurd (cc)
  held_cover k (e ∷ es) a r i p h from to =
      elim (found_in e es a r h) [
        | First same is ↦
            let end : e.1.end ≡ r.end = ap (λ (x : Run T). x.end) is in
            rw (within-true e.0 e.1.end i (omega arith) (omega arith)) (ap (λ (x : Run T). Some x.value) is)
        | Later other is ↦
            let there = from_there e.1.end es a r p.3 is in
            rw (within-above e.0 e.1.end i (omega arith)) (held_cover e.1.end es a r i p.3 is from to)
      ]

  bare_rest : (e : ℕ × Run T) (es : List (ℕ × Run T)) (i : ℕ) → e.0 < e.1.end → IsPlacedFrom e.1.end es → IsBare (run_from (e ∷ es)) i → IsBare (run_from es) i
  bare_rest e es i pos p bare a r h from =
      let there = from_there e.1.end es a r p h in
      let ne : (a ≡ e.0 → ⊥) = omega arith in
      bare a r (run_from-later e es a ne ∙ h) from

  pub held_bare : (k : ℕ) (es : List (ℕ × Run T)) (i : ℕ) → IsPlacedFrom k es → IsBare (run_from es) i → held i es ≡ None
  held_bare k [] i p bare = refl
  held_bare k (e ∷ es) i p bare =
      let rest = held_bare e.1.end es i p.3 (bare_rest e es i p.1 p.3 bare) in
      elim (cases_lt i e.0) [
        | inl lt ↦ rw (within-below e.0 e.1.end i lt) rest
        | inr ge ↦ rw (within-above e.0 e.1.end i (bare e.0 e.1 (run_from-first e es e.0 refl) ge)) rest
      ]

  -- an instance is held by a run, or by none
  pub data Holder (g : ℕ → Option (Run T)) (i : ℕ) : Type 0 where
    Covered : (a : ℕ) (r : Run T) → IsCover g i a r → Holder g i
    Bare : IsBare g i → Holder g i

  pub holder : (k : ℕ) (es : List (ℕ × Run T)) (i : ℕ) → IsPlacedFrom k es → Holder (run_from es) i
  holder k [] i p = Bare (λ a r h from. absurd (cc))
  holder k (e ∷ es) i p = holder_in (holder e.1.end es i p.3)
    where
      holder_in : Holder (run_from es) i → Holder (run_from (e ∷ es)) i
      holder_in (Covered a r c) =
          let there = from_there e.1.end es a r p.3 c.found in
          let ne : (a ≡ e.0 → ⊥) = omega arith in
          Covered a r (record { found = run_from-later e es a ne ∙ c.found; begins = c.begins; ends = c.ends })
      holder_in (Bare bare) =
          elim (cases_lt i e.1.end) [
            | inr past ↦ Bare (λ a r h from. bare_either past a r from (found_in e es a r h))
            | inl within ↦ elim (cases_lt i e.0) [
              | inr from ↦ Covered e.0 e.1 (record { found = run_from-first e es e.0 refl; begins = from; ends = within })
              | inl before ↦ Bare (λ a r h from. bare_before before a r from (found_in e es a r h))
            ]
          ]
        where
          bare_either : e.1.end ≤ i → (a : ℕ) (r : Run T) → a ≤ i → FoundIn e es a r → r.end ≤ i
          bare_either past a r from (First same is) = let end : e.1.end ≡ r.end = ap (λ (x : Run T). x.end) is in omega arith
          bare_either past a r from (Later other is) = bare a r is from

          bare_before : i < e.0 → (a : ℕ) (r : Run T) → a ≤ i → FoundIn e es a r → r.end ≤ i
          bare_before before a r from (First same is) = absurd (omega arith)
          bare_before before a r from (Later other is) = bare a r is from

  -- ---- what the map's ranges answer

  pub bare_from_last : (es : List (ℕ × Run T)) (i lo : ℕ) (run : Run T) → IsPlacedFrom 0 es → IsLastUpTo (run_from es) i lo run → run.end ≤ i → IsBare (run_from es) i
  bare_from_last es i lo run p last past a r h from =
      elim (cases_eq a lo) [
        | inl same ↦ let is : run_from es lo ≡ Some r = subst (λ x. run_from es x ≡ Some r) same h in
            let one : run.end ≡ r.end = some_end run r (sym last.found ∙ is) in omega arith
        | inr other ↦ let up = last.last a r h from in
            let before = apart_there 0 es a lo r run p h last.found (omega arith) in
            let up_to = last.up_to in omega arith
      ]

  pub last_from_range : (m : BTreeMap ℕ (Run T)) (es rest : List (ℕ × Run T)) (i lo : ℕ) (run : Run T) → IsRangeOf nat_cmp Unbounded (Included i) m es → es ≡ rest ++ (lo, run) ∷ [] → IsLastUpTo (run_from m.entries) i lo run
  last_from_range m es rest i lo run range is =
      let entry = range.3 (lo, run) rest is in
      record {
        found = entry.1;
        up_to = le_from_not_gt lo i entry.0.1;
        last = λ a r h from. ge_from_not_lt lo a (range.4 (lo, run) rest is a (tt, not_gt_from_le a i from) (ap is_some h));
      }

  pub first_from_range : (m : BTreeMap ℕ (Run T)) (es rest : List (ℕ × Run T)) (lo hi first : ℕ) (run : Run T) → IsRangeOf nat_cmp (Included lo) (Excluded hi) m es → es ≡ (first, run) ∷ rest → IsFirstWithin (run_from m.entries) lo hi first run
  first_from_range m es rest lo hi first run range is = record {
    found = inside.1;
    from_there = le_from_not_gt lo first inside.0.0;
    below = lt_from_less first hi inside.0.1;
    none_before = earlier;
  }
    where
      inside : IsEntryInRange nat_cmp (Included lo) (Excluded hi) m (first, run)
      inside = subst (λ (x : List (ℕ × Run T)). IfSome (slice_get x 0) (IsEntryInRange nat_cmp (Included lo) (Excluded hi) m)) is range.1

      first_below : (b : ℕ) → b < first → b < hi
      first_below b lt = let below = lt_from_less first hi inside.0.1 in omega arith

      earlier : (a : ℕ) → lo ≤ a → a < first → run_from m.entries a ≡ None
      earlier a from before =
          elim (option_cases (run_from m.entries a)) [
            | inl none ↦ none
            | inr some ↦
                let least = range.2 a (not_gt_from_le lo a from, less_from_lt a hi (first_below a before)) (ap is_some some.1) in
                let at_most : first ≤ a = le_from_not_gt first a (subst (λ (x : List (ℕ × Run T)). IfSome (slice_get x 0) (λ e. IsLeBy nat_cmp e.0 a)) is least) in
                absurd (omega arith)
          ]
