-- Entries in increasing order, and what runs show of them.
use Rattle.std.proofs.Common.{◌≡◌, ℕ, zero, suc, ◌+◌, ◌-◌, ◌<◌, ◌≤◌, true, false, ◌&&◌, List, [], ◌∷◌, ◌++◌, refl, sym, ◌∙◌, ap, subst, arith, inl, inr, append_assoc}
use Rattle.std.specs.Prelude.{◌⊎◌, Option, Some, None, nat_eq, nat_le, nat_lt, if◌then◌else◌}
use Rattle.std.proofs.lemmas.Bool.{cases_lt, cases_eq}
use Rattle.std.proofs.lemmas.Bool.Decides.{nat_tests}
use Rattle.std.proofs.lemmas.Map.Entries.{lookup-filter-keys}
use Rattle.range_map.specs.declared.run.Run.{Run}
use Rattle.range_map.specs.Entries.{value_at, IsIncreasingFrom, entries_before, entries_from, spread_over, spread, with_range}
use Rattle.range_map.specs.Runs.{entries_of, held, IsPlacedFrom, seen_at}
use Rattle.range_map.proofs.RunsLemmas.{within-true, within-below, within-above}
use Rattle.range_map.proofs.SetLemmas.{le-true, le-false}

pub eq-true : (a b : ℕ) → a ≡ b → nat_eq a b ≡ true
eq-true a b h = grind (arith, nat_tests)

pub eq-false : (a b : ℕ) → (a ≡ b → ⊥) → nat_eq a b ≡ false
eq-false a b h = grind (arith, nat_tests)

pub eq-from : (a b : ℕ) → nat_eq a b ≡ true → a ≡ b
eq-from a b h = grind (arith, nat_tests)

pub lt-true : (a b : ℕ) → a < b → nat_lt a b ≡ true
lt-true a b h = grind (arith, nat_tests)

pub lt-from : (a b : ℕ) → nat_lt a b ≡ true → a < b
lt-from a b h = grind (arith, nat_tests)

pub le-from : (a b : ℕ) → nat_le a b ≡ true → a ≤ b
le-from a b h = grind (arith, nat_tests)

pub lt-false : (a b : ℕ) → b ≤ a → nat_lt a b ≡ false
lt-false a b h = grind (arith, nat_tests)

module _ {T : Type 0} where
  pub value_here : (e : ℕ × T) (es : List (ℕ × T)) (i : ℕ) → i ≡ e.0 → value_at i (e ∷ es) ≡ Some e.1
  value_here e es i h = rw (eq-true i e.0 h) refl

  pub value_later : (e : ℕ × T) (es : List (ℕ × T)) (i : ℕ) → (i ≡ e.0 → ⊥) → value_at i (e ∷ es) ≡ value_at i es
  value_later e es i h = rw (eq-false i e.0 h) refl

  pair_eq : (x y : ℕ × T) → x.0 ≡ y.0 → Some x.1 ≡ Some y.1 → x ≡ y
  pair_eq x y key value =
      let second : x.1 ≡ y.1 = cc in
      ap (λ (n : ℕ). let p : ℕ × T = (n, x.1) in p) key ∙ ap (λ (v : T). let p : ℕ × T = (y.0, v) in p) second

  -- ---- order

  pub increasing_weaker : (j k : ℕ) (es : List (ℕ × T)) → j ≤ k → IsIncreasingFrom k es → IsIncreasingFrom j es
  increasing_weaker j k [] h p = tt
  increasing_weaker j k (e ∷ es) h p = (omega arith, p.1)

  -- nothing is held below the first instance
  pub none_below : (k : ℕ) (es : List (ℕ × T)) (i : ℕ) → IsIncreasingFrom k es → i < k → value_at i es ≡ None
  none_below k [] i p h = refl
  none_below k (e ∷ es) i p h =
      let from = p.0 in
      let ne : (i ≡ e.0 → ⊥) = omega arith in
      value_later e es i ne ∙ none_below (suc e.0) es i p.1 (omega arith)

  -- two maps with the same value at each instance are one
  pub same_entries : (k : ℕ) (es fs : List (ℕ × T)) → IsIncreasingFrom k es → IsIncreasingFrom k fs → ((i : ℕ) → value_at i es ≡ value_at i fs) → es ≡ fs
  same_entries k [] [] p q same = refl
  same_entries k [] (f ∷ fs) p q same = let at = same f.0 in let there = value_here f fs f.0 refl in absurd (cc)
  same_entries k (e ∷ es) [] p q same = let at = same e.0 in let there = value_here e es e.0 refl in absurd (cc)
  same_entries k (e ∷ es) (f ∷ fs) p q same =
      elim (cases_lt e.0 f.0) [
        | inl below ↦
            let at = same e.0 in
            let there = value_here e es e.0 refl in
            let ne : (e.0 ≡ f.0 → ⊥) = omega arith in
            let none = value_later f fs e.0 ne ∙ none_below (suc f.0) fs e.0 q.1 (omega arith) in
            absurd (cc)
        | inr from ↦ elim (cases_lt f.0 e.0) [
          | inl above ↦
              let at = same f.0 in
              let there = value_here f fs f.0 refl in
              let ne : (f.0 ≡ e.0 → ⊥) = omega arith in
              let none = value_later e es f.0 ne ∙ none_below (suc e.0) es f.0 p.1 (omega arith) in
              absurd (cc)
          | inr to ↦
              let key : e.0 ≡ f.0 = omega arith in
              let value : Some e.1 ≡ Some f.1 = sym (value_here e es e.0 refl) ∙ same e.0 ∙ value_here f fs e.0 key in
              let rest = same_entries (suc e.0) es fs p.1 (subst (λ x. IsIncreasingFrom (suc x) fs) (sym key) q.1) (λ i.
              elim (cases_lt e.0 i) [
                | inl past ↦
                    let ne_e : (i ≡ e.0 → ⊥) = omega arith in
                    let ne_f : (i ≡ f.0 → ⊥) = omega arith in
                    sym (value_later e es i ne_e) ∙ same i ∙ value_later f fs i ne_f
                | inr up_to ↦
                    none_below (suc e.0) es i p.1 (omega arith) ∙ sym (none_below (suc f.0) fs i q.1 (omega arith))
              ]) in
              let head : e ≡ f = pair_eq e f key value in
              cc
        ]
      ]

  -- ---- one value at each instance of a range

  pub value_at-spread_over : (lo n : ℕ) (v : T) (rest : List (ℕ × T)) (i : ℕ) → value_at i (spread_over lo n v ++ rest) ≡ (if nat_le lo i && nat_lt i (lo + n) then Some v else value_at i rest)
  unfolding spread_over
  value_at-spread_over lo zero v rest i =
      elim (cases_lt i lo) [
        | inl below ↦ rw (within-below lo (lo + 0) i below) refl
        | inr from ↦ rw (within-above lo (lo + 0) i (omega arith)) refl
      ]
  value_at-spread_over lo (suc n) v rest i =
      let more = value_at-spread_over (suc lo) n v rest i in
      elim (cases_lt i lo) [
        | inl below ↦
            let ne : (i ≡ lo → ⊥) = omega arith in
            rw (within-below lo (lo + suc n) i below) (rw (eq-false i lo ne) (more ∙ rw (within-below (suc lo) (suc lo + n) i (omega arith)) refl))
        | inr from ↦ elim (cases_lt i (lo + suc n)) [
          | inr past ↦
              let ne : (i ≡ lo → ⊥) = omega arith in
              rw (within-above lo (lo + suc n) i past) (rw (eq-false i lo ne) (more ∙ rw (within-above (suc lo) (suc lo + n) i (omega arith)) refl))
          | inl inside ↦ elim (cases_eq i lo) [
            | inl same ↦ rw (within-true lo (lo + suc n) i from inside) (rw (eq-true i lo same) refl)
            | inr ne ↦ rw (within-true lo (lo + suc n) i from inside) (rw (eq-false i lo ne) (more ∙ rw (within-true (suc lo) (suc lo + n) i (omega arith) (omega arith)) refl))
          ]
        ]
      ]

  pub increasing_spread_over : (lo n : ℕ) (v : T) (rest : List (ℕ × T)) → IsIncreasingFrom (lo + n) rest → IsIncreasingFrom lo (spread_over lo n v ++ rest)
  unfolding spread_over
  increasing_spread_over lo zero v rest p = increasing_weaker lo (lo + 0) rest (omega arith) p
  increasing_spread_over lo (suc n) v rest p =
      (omega arith, increasing_spread_over (suc lo) n v rest (increasing_weaker (suc lo + n) (lo + suc n) rest (omega arith) p))

  pub value_at-spread : (lo hi : ℕ) (v : T) (rest : List (ℕ × T)) (i : ℕ) → value_at i (spread lo hi v ++ rest) ≡ (if nat_le lo i && nat_lt i hi then Some v else value_at i rest)
  value_at-spread lo hi v rest i =
      elim (cases_lt hi lo) [
        | inr forward ↦ let end : lo + (hi - lo) ≡ hi = omega arith in
            value_at-spread_over lo (hi - lo) v rest i ∙ ap (λ x. if nat_le lo i && nat_lt i x then Some v else value_at i rest) end
        | inl backward ↦ value_at-spread_over lo (hi - lo) v rest i ∙ elim (cases_lt i lo) [
          | inl below ↦ rw (within-below lo (lo + (hi - lo)) i below, within-below lo hi i below) refl
          | inr from ↦ rw (within-above lo (lo + (hi - lo)) i (omega arith), within-above lo hi i (omega arith)) refl
        ]
      ]

  -- ---- what runs show

  pub value_at-entries_of : (es : List (ℕ × Run T)) (i : ℕ) → value_at i (entries_of es) ≡ held i es
  value_at-entries_of [] i = refl
  value_at-entries_of (e ∷ es) i =
      value_at-spread e.0 e.1.end e.1.value (entries_of es) i ∙ ap (λ (x : Option T). if nat_le e.0 i && nat_lt i e.1.end then Some e.1.value else x) (value_at-entries_of es i)

  pub value_at-entries_from : (floor : ℕ) (es : List (ℕ × T)) (i : ℕ) → value_at i (entries_from floor es) ≡ (if nat_le floor i then value_at i es else None)
  value_at-entries_from floor es i =
      lookup-filter-keys (nat_eq i) (nat_le floor) (nat_le floor i) (λ k h. ap (nat_le floor) (sym (eq-from i k h))) es

  pub value_at-seen : (floor : ℕ) (es : List (ℕ × Run T)) (i : ℕ) → value_at i (entries_from floor (entries_of es)) ≡ seen_at floor i es
  value_at-seen floor es i =
      value_at-entries_from floor (entries_of es) i ∙ ap (λ (x : Option T). if nat_le floor i then x else None) (value_at-entries_of es i)

  pub increasing_entries_of : (k : ℕ) (es : List (ℕ × Run T)) → IsPlacedFrom k es → IsIncreasingFrom k (entries_of es)
  increasing_entries_of k [] p = tt
  increasing_entries_of k (e ∷ es) p =
      let pos = p.1 in
      let end : e.0 + (e.1.end - e.0) ≡ e.1.end = omega arith in
      increasing_weaker k e.0 (entries_of (e ∷ es)) p.0
      (increasing_spread_over e.0 (e.1.end - e.0) e.1.value (entries_of es) (subst (λ x. IsIncreasingFrom x (entries_of es)) (sym end) (increasing_entries_of e.1.end es p.3)))

  -- from the greater of k and hi on
  pub increasing_entries_from : (k hi m : ℕ) (es : List (ℕ × T)) → IsIncreasingFrom k es → (m ≤ k) ⊎ (m ≤ hi) → IsIncreasingFrom m (entries_from hi es)
  increasing_entries_from k hi m [] p h = tt
  increasing_entries_from k hi m (e ∷ es) p h =
      elim (cases_lt e.0 hi) [
        | inl below ↦ rw (le-false hi e.0 below) (increasing_entries_from (suc e.0) hi m es p.1 (later h p.0))
        | inr from ↦ rw (le-true hi e.0 from) (first h p.0 from, increasing_entries_from (suc e.0) hi (suc e.0) es p.1 (inl (omega arith)))
      ]
    where
      later : (m ≤ k) ⊎ (m ≤ hi) → k ≤ e.0 → (m ≤ suc e.0) ⊎ (m ≤ hi)
      later (inl a) b = inl (omega arith)
      later (inr a) b = inr a

      first : (m ≤ k) ⊎ (m ≤ hi) → k ≤ e.0 → hi ≤ e.0 → m ≤ e.0
      first (inl a) b c = omega arith
      first (inr a) b c = omega arith

  pub increasing_before : (k lo : ℕ) (es tail : List (ℕ × T)) → k ≤ lo → IsIncreasingFrom k es → IsIncreasingFrom lo tail → IsIncreasingFrom k (entries_before lo es ++ tail)
  increasing_before k lo [] tail h p q = increasing_weaker k lo tail h q
  increasing_before k lo (e ∷ es) tail h p q =
      elim (cases_lt e.0 lo) [
        | inl below ↦ rw (lt-true e.0 lo below) (p.0, increasing_before (suc e.0) lo es tail (omega arith) p.1 q)
        | inr from ↦ let at = p.0 in rw (lt-false e.0 lo from) (increasing_before k lo es tail h (increasing_weaker k (suc e.0) es (omega arith) p.1) q)
      ]

  pub increasing_with_range : (lo hi : ℕ) (v : T) (es : List (ℕ × T)) → lo < hi → IsIncreasingFrom 0 es → IsIncreasingFrom 0 (with_range lo hi v es)
  increasing_with_range lo hi v es lt p =
      let end : lo + (hi - lo) ≡ hi = omega arith in
      rw append_assoc
      (increasing_before 0 lo es (spread lo hi v ++ entries_from hi es) (omega arith) p
      (increasing_spread_over lo (hi - lo) v (entries_from hi es) (subst (λ x. IsIncreasingFrom x (entries_from hi es)) (sym end) (increasing_entries_from 0 hi hi es p (inr (omega arith))))))

  value_at-before : (lo i : ℕ) (es tail : List (ℕ × T)) → i < lo → value_at i tail ≡ None → value_at i (entries_before lo es ++ tail) ≡ value_at i es
  value_at-before lo i [] tail h none = none
  value_at-before lo i (e ∷ es) tail h none =
      elim (cases_lt e.0 lo) [
        | inl below ↦ rw (lt-true e.0 lo below) (elim (cases_eq i e.0) [
          | inl same ↦ rw (eq-true i e.0 same) refl
          | inr ne ↦ rw (eq-false i e.0 ne) (value_at-before lo i es tail h none)
        ])
        | inr from ↦
            let ne : (i ≡ e.0 → ⊥) = omega arith in
            rw (lt-false e.0 lo from) (value_at-before lo i es tail h none ∙ sym (value_later e es i ne))
      ]

  value_past-before : (lo i : ℕ) (es tail : List (ℕ × T)) → lo ≤ i → value_at i (entries_before lo es ++ tail) ≡ value_at i tail
  value_past-before lo i [] tail h = refl
  value_past-before lo i (e ∷ es) tail h =
      elim (cases_lt e.0 lo) [
        | inl below ↦
            let ne : (i ≡ e.0 → ⊥) = omega arith in
            rw (lt-true e.0 lo below) (rw (eq-false i e.0 ne) (value_past-before lo i es tail h))
        | inr from ↦ rw (lt-false e.0 lo from) (value_past-before lo i es tail h)
      ]

  pub value_at-with_range : (lo hi : ℕ) (v : T) (es : List (ℕ × T)) (i : ℕ) → lo < hi → value_at i (with_range lo hi v es) ≡ (if nat_le lo i && nat_lt i hi then Some v else value_at i es)
  value_at-with_range lo hi v es i lt =
      rw append_assoc (elim (cases_lt i lo) [
        | inl below ↦
            value_at-before lo i es (spread lo hi v ++ entries_from hi es) below
            (value_at-spread lo hi v (entries_from hi es) i ∙ rw (within-below lo hi i below) (value_at-entries_from hi es i ∙ rw (le-false hi i (omega arith)) refl))
            ∙ rw (within-below lo hi i below) refl
        | inr from ↦
            value_past-before lo i es (spread lo hi v ++ entries_from hi es) from ∙ value_at-spread lo hi v (entries_from hi es) i
            ∙ elim (cases_lt i hi) [
              | inl inside ↦ rw (within-true lo hi i from inside) refl
              | inr above ↦ rw (within-above lo hi i above) (value_at-entries_from hi es i ∙ rw (le-true hi i above) refl)
            ]
      ])
