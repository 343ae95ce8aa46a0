-- What entries hold once a range was met, whether a range is held, and the first gap.
use Rattle.std.proofs.Common.{◌≡◌, ℕ, zero, suc, ◌+◌, ◌-◌, ◌<◌, ◌≤◌, max, true, false, List, [], ◌∷◌, ◌++◌, refl, sym, ◌∙◌, ap, subst, arith, inl, inr, append_assoc}
use Rattle.std.specs.Prelude.{◌↔◌, Option, Some, None, IsSome, nat_eq, nat_lt, if◌then◌else◌}
use Rattle.std.proofs.lemmas.Bool.{cases_lt, cases_eq}
use Rattle.std.proofs.lemmas.Bool.Decides.{nat_tests}
use Rattle.std.proofs.lemmas.Map.Entries.{lookup-filter-keys}
use Rattle.mrp_types.proofs.TestLemmas.{both}
use Rattle.range_map.specs.Entries.{value_at, IsIncreasingFrom, entries_before, entries_from, IsNextGap}
use Rattle.range_map.proofs.SetLemmas.{le-true, le-false}
use Rattle.range_map.proofs.EntryLemmas.{increasing_weaker, none_below, value_at-entries_from, increasing_entries_from, eq-true, eq-false, eq-from, lt-true, lt-false, value_here, value_later, increasing_before}
use Rattle.protocol.specs.Learner.{entries_within, front_at, past_front, are_all_held, is_held, met_over, with_met, gap_after, first_gap}
use Rattle.protocol.specs.Meaning.{Meets, AreHeld}

module _ {T : Type 0} where
  -- ---- cuts

  pub value_at-entries_before : (top : ℕ) (es : List (ℕ × T)) (i : ℕ) → value_at i (entries_before top es) ≡ (if nat_lt i top then value_at i es else None)
  value_at-entries_before top es i =
      lookup-filter-keys (nat_eq i) (λ k. nat_lt k top) (nat_lt i top) (λ k h. ap (λ x. nat_lt x top) (sym (eq-from i k h))) es

  value_before : (top : ℕ) (es : List (ℕ × T)) (i : ℕ) → i < top → value_at i (entries_before top es) ≡ value_at i es
  value_before top es i h = value_at-entries_before top es i ∙ rw (lt-true i top h) refl

  none_before : (top : ℕ) (es : List (ℕ × T)) (i : ℕ) → top ≤ i → value_at i (entries_before top es) ≡ None
  none_before top es i h = value_at-entries_before top es i ∙ rw (lt-false i top h) refl

  value_from : (floor : ℕ) (es : List (ℕ × T)) (i : ℕ) → floor ≤ i → value_at i (entries_from floor es) ≡ value_at i es
  value_from floor es i h = value_at-entries_from floor es i ∙ rw (le-true floor i h) refl

  none_from : (floor : ℕ) (es : List (ℕ × T)) (i : ℕ) → i < floor → value_at i (entries_from floor es) ≡ None
  none_from floor es i h = value_at-entries_from floor es i ∙ rw (le-false floor i h) refl

  pub value_within : (lo hi : ℕ) (es : List (ℕ × T)) (i : ℕ) → lo ≤ i → i < hi → value_at i (entries_within lo hi es) ≡ value_at i es
  value_within lo hi es i a b = value_before hi (entries_from lo es) i b ∙ value_from lo es i a

  -- an entry of the first list goes before those of the second
  value_append : (xs ys : List (ℕ × T)) (i : ℕ) → value_at i xs ≡ None → value_at i (xs ++ ys) ≡ value_at i ys
  value_append [] ys i none = refl
  value_append (x ∷ xs) ys i none =
      elim (cases_eq i x.0) [
        | inl same ↦ let here = value_here x xs i same in absurd (cc)
        | inr ne ↦ value_later x (xs ++ ys) i ne ∙ value_append xs ys i (sym (value_later x xs i ne) ∙ none)
      ]

  value_first : (xs ys : List (ℕ × T)) (i : ℕ) → value_at i ys ≡ None → value_at i (xs ++ ys) ≡ value_at i xs
  value_first [] ys i none = none
  value_first (x ∷ xs) ys i none =
      elim (cases_eq i x.0) [
        | inl same ↦ value_here x (xs ++ ys) i same ∙ sym (value_here x xs i same)
        | inr ne ↦ value_later x (xs ++ ys) i ne ∙ value_first xs ys i none ∙ sym (value_later x xs i ne)
      ]

  pub increasing_below : (k top : ℕ) (es : List (ℕ × T)) → IsIncreasingFrom k es → IsIncreasingFrom k (entries_before top es)
  increasing_below k top [] p = tt
  increasing_below k top (e ∷ es) p =
      elim (cases_lt e.0 top) [
        | inl below ↦ rw (lt-true e.0 top below) (p.0, increasing_below (suc e.0) top es p.1)
        | inr from ↦ let at = p.0 in rw (lt-false e.0 top from) (increasing_below k top es (increasing_weaker k (suc e.0) es (omega arith) p.1))
      ]

  pub increasing_within : (lo hi : ℕ) (es : List (ℕ × T)) → IsIncreasingFrom 0 es → IsIncreasingFrom lo (entries_within lo hi es)
  increasing_within lo hi es p = increasing_below lo hi (entries_from lo es) (increasing_entries_from 0 lo lo es p (inr (omega arith)))

  -- ---- the front

  front : (lo : ℕ) (es : List (ℕ × T)) → IsIncreasingFrom lo es → front_at lo es ≡ value_at lo es
  front lo [] p = refl
  front lo (e ∷ es) p =
      elim (cases_eq lo e.0) [
        | inl same ↦ rw (eq-true e.0 lo (sym same)) (sym (value_here e es lo same))
        | inr ne ↦
            let at = p.0 in
            let other : (e.0 ≡ lo → ⊥) = λ h. ne (sym h) in
            rw (eq-false e.0 lo other) (sym (value_later e es lo ne ∙ none_below (suc e.0) es lo p.1 (omega arith)))
      ]

  increasing_past : (lo : ℕ) (es : List (ℕ × T)) → IsIncreasingFrom lo es → IsIncreasingFrom (suc lo) (past_front lo es)
  increasing_past lo [] p = tt
  increasing_past lo (e ∷ es) p =
      elim (cases_eq e.0 lo) [
        | inl same ↦ rw (eq-true e.0 lo same) (subst (λ x. IsIncreasingFrom (suc x) es) same p.1)
        | inr ne ↦ let at = p.0 in rw (eq-false e.0 lo ne) (omega arith, p.1)
      ]

  value_past : (lo : ℕ) (es : List (ℕ × T)) (i : ℕ) → lo < i → value_at i (past_front lo es) ≡ value_at i es
  value_past lo [] i h = refl
  value_past lo (e ∷ es) i h =
      elim (cases_eq e.0 lo) [
        | inl same ↦ let ne : (i ≡ e.0 → ⊥) = omega arith in rw (eq-true e.0 lo same) (sym (value_later e es i ne))
        | inr ne ↦ rw (eq-false e.0 lo ne) refl
      ]

  -- ---- a range is met

  module _ (met : Option T → T → T) (v : T) where
    increasing_met : (lo n : ℕ) (es tail : List (ℕ × T)) → IsIncreasingFrom (lo + n) tail → IsIncreasingFrom lo (met_over met lo n v es ++ tail)
    unfolding met_over
    increasing_met lo zero es tail p = increasing_weaker lo (lo + 0) tail (omega arith) p
    increasing_met lo (suc n) es tail p =
        (omega arith, increasing_met (suc lo) n (past_front lo es) tail (increasing_weaker (suc lo + n) (lo + suc n) tail (omega arith) p))

    met_within : (lo n : ℕ) (es tail : List (ℕ × T)) (i : ℕ) → IsIncreasingFrom lo es → lo ≤ i → i < lo + n → value_at i (met_over met lo n v es ++ tail) ≡ Some (met (value_at i es) v)
    unfolding met_over
    met_within lo zero es tail i p a b = absurd (omega arith)
    met_within lo (suc n) es tail i p a b =
        elim (cases_eq i lo) [
          | inl same ↦ value_here (lo, met (front_at lo es) v) (met_over met (suc lo) n v (past_front lo es) ++ tail) i same
              ∙ ap (λ (o : Option T). Some (met o v)) (front lo es p ∙ ap (λ x. value_at x es) (sym same))
          | inr ne ↦ value_later (lo, met (front_at lo es) v) (met_over met (suc lo) n v (past_front lo es) ++ tail) i ne
              ∙ met_within (suc lo) n (past_front lo es) tail i (increasing_past lo es p) (omega arith) (omega arith)
              ∙ ap (λ (o : Option T). Some (met o v)) (value_past lo es i (omega arith))
        ]

    met_past : (lo n : ℕ) (es tail : List (ℕ × T)) (i : ℕ) → lo + n ≤ i → value_at i (met_over met lo n v es ++ tail) ≡ value_at i tail
    unfolding met_over
    met_past lo zero es tail i a = refl
    met_past lo (suc n) es tail i a =
        let ne : (i ≡ lo → ⊥) = omega arith in
        value_later (lo, met (front_at lo es) v) (met_over met (suc lo) n v (past_front lo es) ++ tail) i ne ∙ met_past (suc lo) n (past_front lo es) tail i (omega arith)

    pub meets : (lo hi : ℕ) (es : List (ℕ × T)) → IsIncreasingFrom 0 es → Meets met lo hi v es (with_met met lo hi v es)
    meets lo hi es p = record {
      in_order = subst (λ (l : List (ℕ × T)). IsIncreasingFrom 0 l) (sym shape) (increasing_before 0 lo es tail (omega arith) p whole);
      within = λ i a b. ap (value_at i) shape ∙ value_append (entries_before lo es) tail i (none_before lo es i a)
          ∙ met_within lo (hi - lo) (entries_within lo hi es) (entries_from (max lo hi) es) i (increasing_within lo hi es p) a (omega arith)
          ∙ ap (λ (o : Option T). Some (met o v)) (value_within lo hi es i a b);
      below = λ i a. ap (value_at i) shape ∙ value_first (entries_before lo es) tail i (none_below lo tail i whole a) ∙ value_before lo es i a;
      above = λ i a. elim (cases_lt i lo) [
        | inl under ↦ ap (value_at i) shape ∙ value_first (entries_before lo es) tail i (none_below lo tail i whole under) ∙ value_before lo es i under
        | inr over ↦ ap (value_at i) shape ∙ value_append (entries_before lo es) tail i (none_before lo es i over)
            ∙ met_past lo (hi - lo) (entries_within lo hi es) (entries_from (max lo hi) es) i (omega arith)
            ∙ value_from (max lo hi) es i (omega arith)
      ];
    }
      where
        tail : List (ℕ × T)
        tail = met_over met lo (hi - lo) v (entries_within lo hi es) ++ entries_from (max lo hi) es

        shape : with_met met lo hi v es ≡ entries_before lo es ++ tail
        shape = search (append_assoc)

        whole : IsIncreasingFrom lo tail
        whole =
            let end : max lo hi ≡ lo + (hi - lo) = omega arith in
            increasing_met lo (hi - lo) (entries_within lo hi es) (entries_from (max lo hi) es)
            (subst (λ x. IsIncreasingFrom x (entries_from (max lo hi) es)) end (increasing_entries_from 0 (max lo hi) (max lo hi) es p (inr (omega arith))))

  -- ---- whether a range is held

  all_held : (lo n : ℕ) (es : List (ℕ × T)) → IsIncreasingFrom lo es → are_all_held lo n es ≡ true → (i : ℕ) → lo ≤ i → i < lo + n → IsSome (value_at i es)
  unfolding are_all_held
  all_held lo zero es p h i a b = absurd (omega arith)
  all_held lo (suc n) [] p h i a b = absurd (cc)
  all_held lo (suc n) (e ∷ es) p h i a b =
      let parts = both (nat_eq e.0 lo) (are_all_held (suc lo) n es) h in
      let at = eq-from e.0 lo parts.0 in
      elim (cases_eq i lo) [
        | inl same ↦ subst (λ (o : Option T). IsSome o) (sym (value_here e es i (same ∙ sym at))) refl
        | inr ne ↦
            let other : (i ≡ e.0 → ⊥) = λ x. ne (x ∙ at) in
            subst (λ (o : Option T). IsSome o) (sym (value_later e es i other))
            (all_held (suc lo) n es (subst (λ x. IsIncreasingFrom (suc x) es) at p.1) parts.1 i (omega arith) (omega arith))
      ]

  some_held : (lo n : ℕ) (es : List (ℕ × T)) → IsIncreasingFrom lo es → ((i : ℕ) → lo ≤ i → i < lo + n → IsSome (value_at i es)) → are_all_held lo n es ≡ true
  unfolding are_all_held
  some_held lo zero es p h = refl
  some_held lo (suc n) [] p h = let no = h lo (omega arith) (omega arith) in absurd (cc)
  some_held lo (suc n) (e ∷ es) p h =
      elim (cases_eq lo e.0) [
        | inl same ↦ rw (eq-true e.0 lo (sym same)) (some_held (suc lo) n es (subst (λ x. IsIncreasingFrom (suc x) es) (sym same) p.1)
            (λ i a b. let ne : (i ≡ e.0 → ⊥) = omega arith in subst (λ (o : Option T). IsSome o) (value_later e es i ne) (h i (omega arith) (omega arith))))
        | inr ne ↦
            let at = p.0 in
            let no = subst (λ (o : Option T). IsSome o) (value_later e es lo ne ∙ none_below (suc e.0) es lo p.1 (omega arith)) (h lo (omega arith) (omega arith)) in
            absurd (cc)
      ]

  pub held : (lo hi : ℕ) (es : List (ℕ × T)) → IsIncreasingFrom 0 es → (is_held lo hi es ≡ true) ↔ AreHeld lo hi es
  held lo hi es p = (there, back)
    where
      there : is_held lo hi es ≡ true → AreHeld lo hi es
      there h i a b =
          subst (λ (o : Option T). IsSome o) (value_within lo hi es i a b)
          (all_held lo (hi - lo) (entries_within lo hi es) (increasing_within lo hi es p) h i a (omega arith))

      back : AreHeld lo hi es → is_held lo hi es ≡ true
      back h =
          some_held lo (hi - lo) (entries_within lo hi es) (increasing_within lo hi es p)
          (λ i a b. subst (λ (o : Option T). IsSome o) (sym (value_within lo hi es i a (omega arith))) (h i a (omega arith)))

  -- ---- the first gap

  next_gap : (from : ℕ) (es : List (ℕ × T)) → IsIncreasingFrom from es → IsNextGap es from (gap_after from es)
  unfolding gap_after
  next_gap from [] p = record { from_there = omega arith; not_held = refl; held_before = λ i a b. absurd (omega arith) }
  next_gap from (e ∷ es) p =
      elim (cases_eq from e.0) [
        | inl same ↦
            let more = next_gap (suc from) es (subst (λ x. IsIncreasingFrom (suc x) es) (sym same) p.1) in
            let past = more.from_there in
            let ne : (gap_after (suc from) es ≡ e.0 → ⊥) = omega arith in
            rw (eq-true e.0 from (sym same)) (record {
              from_there = omega arith;
              not_held = value_later e es (gap_after (suc from) es) ne ∙ more.not_held;
              held_before = λ i a b. elim (cases_eq i e.0) [
                | inl here ↦ subst (λ (o : Option T). IsSome o) (sym (value_here e es i here)) refl
                | inr other ↦ subst (λ (o : Option T). IsSome o) (sym (value_later e es i other)) (more.held_before i (omega arith) b)
              ];
            })
        | inr ne ↦
            let at = p.0 in
            let other : (e.0 ≡ from → ⊥) = λ h. ne (sym h) in
            rw (eq-false e.0 from other) (record {
              from_there = omega arith;
              not_held = value_later e es from ne ∙ none_below (suc e.0) es from p.1 (omega arith);
              held_before = λ i a b. absurd (omega arith);
            })
      ]

  pub gap : (from : ℕ) (es : List (ℕ × T)) → IsIncreasingFrom 0 es → IsNextGap es from (first_gap from es)
  gap from es p =
      let is = next_gap from (entries_from from es) (increasing_entries_from 0 from from es p (inr (omega arith))) in
      let past = is.from_there in
      record {
        from_there = past;
        not_held = sym (value_from from es (first_gap from es) past) ∙ is.not_held;
        held_before = λ i a b. subst (λ (o : Option T). IsSome o) (value_from from es i a) (is.held_before i a b);
      }
