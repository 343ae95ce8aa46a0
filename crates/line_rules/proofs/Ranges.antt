-- What the tests of ranges and of places decide; and the book by what the learn lines say.
use Rattle.std.proofs.Common.{◌≡◌, ℕ, ◌+◌, ◌<◌, ◌≤◌, ◌⊎◌, inl, inr, Bool, true, false, List, [], ◌∷◌, ◌++◌, Option, Some, None, refl, sym, ◌∙◌, ap, arith}
use Rattle.std.specs.Prelude.{◌==◌, nat_le, nat_lt, min, max, ◌&&◌, ◌||◌, if◌then◌else◌}
use Rattle.std.specs.Bool.{Decides}
use Rattle.std.proofs.lemmas.Bool.Decides.{Decides-and, Decides-or, Decides-eqb, Decides-ltb, Decides-like}
use Rattle.mrp_types.specs.declared.id.RingId.{RingId}
use Rattle.mrp_types.specs.declared.place.Place.{Place}
use Rattle.mrp_types.specs.declared.value.Value.{Value}
use Rattle.mrp_types.specs.Book.{Learning, covers, book_of}
use Rattle.mrp_config.specs.Valid.{IncreasesFrom, numbers_of_rings}
use Rattle.plain_model.specs.Tuples.{has_rings, IsBelow, IsNotBelow}
use Rattle.plain_model.proofs.TupleOrder.{split_and, both_true, same_number}
use Rattle.plain_model.proofs.TupleChain.{later_rings}
use Rattle.transcript.specs.declared.line.Line.{Line}
use Rattle.transcript.specs.declared.line.Line.TheVariants.{Learn}
use Rattle.line_rules.specs.Scanners.{or_else, learned_by, book, learned}
use Rattle.line_rules.specs.Tests.{passes_around, each_passes, each_between, each_below}
use Rattle.line_rules.proofs.OneBook.{or_else_none}
use Rattle.line_rules.proofs.Words.{no_true, itself, le_decides, false_of, ring_same}

-- ---- the book

book_last : (known : List Learning) (l : Learning) (ring : RingId) (inst : ℕ) →
    book_of (known ++ l ∷ []) ring inst ≡ or_else (book_of known ring inst) (if covers l ring inst then Some l.value else None)
book_last [] l ring inst = refl
book_last (x ∷ known) l ring inst = go (covers x ring inst) (book_last known l ring inst)
  where
    go : (b : Bool) → book_of (known ++ l ∷ []) ring inst ≡ or_else (book_of known ring inst) (if covers l ring inst then Some l.value else None) →
        (if b then Some x.value else book_of (known ++ l ∷ []) ring inst)
        ≡ or_else (if b then Some x.value else book_of known ring inst) (if covers l ring inst then Some l.value else None)
    go true e = refl
    go false e = e

-- the book of lines is that of what their learn lines say
pub book_learned : (before : List Line) (ring : RingId) (inst : ℕ) → book before ring inst ≡ book_of (learned before) ring inst
book_learned [] ring inst = refl
book_learned (Learn node other lo hi value ∷ before) ring inst =
    ap (λ (o : Option Value). or_else o (learned_by ring inst (Learn node other lo hi value))) (book_learned before ring inst)
    ∙ sym (book_last (learned before) (record { ring = other; lo = lo; hi = hi; value = value }) ring inst)
book_learned (other ∷ before) ring inst = or_else_none (book before ring inst) ∙ book_learned before ring inst

-- ---- ranges

-- a number is below another, or isn't
pub below_or_not : (a b : ℕ) → (a < b) ⊎ (b ≤ a)
below_or_not a b = grind arith

module _ (test : Option Value → Bool) (ring : RingId) where
  abbrev pub Pass : List Learning → ℕ → ℕ → Type 0
  Pass known lo hi = (inst : ℕ) → lo ≤ inst → inst < hi → test (book_of known ring inst) ≡ true

  -- a learning of the ring: its value where it covers, else what the later ones say
  module _ (l : Learning) (known : List Learning) where
    book_by : (inst : ℕ) (b : Bool) → covers l ring inst ≡ b → test (book_of (l ∷ known) ring inst) ≡ test (if b then Some l.value else book_of known ring inst)
    book_by inst b e = ap (λ (c : Bool). test (if c then Some l.value else book_of known ring inst)) e

    covers_decides : (inst : ℕ) → Decides (covers l ring inst) ((l.ring.0 ≡ ring.0) × ((l.lo ≤ inst) × (inst < l.hi)))
    covers_decides inst =
        Decides-and (l.ring.0 == ring.0) (nat_le l.lo inst && nat_lt inst l.hi) (Decides-eqb l.ring.0 ring.0)
        (Decides-and (nat_le l.lo inst) (nat_lt inst l.hi) (le_decides l.lo inst) (Decides-ltb inst l.hi))

    here : (inst : ℕ) → l.ring.0 ≡ ring.0 → l.lo ≤ inst → inst < l.hi → test (book_of (l ∷ known) ring inst) ≡ test (Some l.value)
    here inst e a b = book_by inst true ((covers_decides inst).1 (e, (a, b)))

    elsewhere : (inst : ℕ) → ((l.ring.0 ≡ ring.0) × ((l.lo ≤ inst) × (inst < l.hi)) → ⊥) → test (book_of (l ∷ known) ring inst) ≡ test (book_of known ring inst)
    elsewhere inst n = book_by inst false (false_of (covers l ring inst) (covers_decides inst) n)

    module _ (lo hi : ℕ) where
      abbrev Parts : Type 0
      Parts = ((min hi l.hi ≤ max lo l.lo) ⊎ (test (Some l.value) ≡ true)) × (Pass known lo (min hi l.lo) × Pass known (max lo l.hi) hi)

      whole_of : l.ring.0 ≡ ring.0 → Parts → Pass (l ∷ known) lo hi
      whole_of e p inst a b = elim (below_or_not inst l.lo) [
        | inl low ↦ elsewhere inst (λ c. let k : l.lo ≤ inst = c.1.0 in absurd (omega arith)) ∙ p.1.0 inst a (omega arith)
        | inr from ↦ elim (below_or_not inst l.hi) [
          | inl under ↦ here inst e from under ∙ (elim p.0 [ inl apart ↦ absurd (omega arith) | inr passed ↦ passed ])
          | inr high ↦ elsewhere inst (λ c. let k : inst < l.hi = c.1.1 in absurd (omega arith)) ∙ p.1.1 inst (omega arith) b
        ]
      ]

      parts_of : l.ring.0 ≡ ring.0 → Pass (l ∷ known) lo hi → Parts
      parts_of e h = (
        elim (below_or_not (max lo l.lo) (min hi l.hi)) [
          | inl meets ↦ inr (sym (here (max lo l.lo) e (omega arith) (omega arith)) ∙ h (max lo l.lo) (omega arith) (omega arith))
          | inr apart ↦ inl apart
        ],
        (
          λ inst a b. sym (elsewhere inst (λ c. let k : l.lo ≤ inst = c.1.0 in absurd (omega arith))) ∙ h inst a (omega arith),
          λ inst a b. sym (elsewhere inst (λ c. let k : inst < l.hi = c.1.1 in absurd (omega arith))) ∙ h inst (omega arith) b,
        ),
      )

  pub range_decides : (known : List Learning) (lo hi : ℕ) → Decides (each_passes test known ring lo hi) (Pass known lo hi)
  range_decides [] lo hi =
      Decides-like (nat_le hi lo || test None)
      (λ (p : (hi ≤ lo) ⊎ (test None ≡ true)) inst a b. elim p [ inl none ↦ absurd (omega arith) | inr passed ↦ passed ])
      (λ h. elim (below_or_not lo hi) [ inl some ↦ inr (h lo (omega arith) some) | inr none ↦ inl none ])
      (Decides-or (nat_le hi lo) (test None) (le_decides hi lo) (itself (test None)))
  range_decides (l ∷ known) lo hi =
      around (nat_le hi lo) (l.ring.0 == ring.0) (le_decides hi lo) (Decides-eqb l.ring.0 ring.0) (range_decides known)
    where
      around : (e s : Bool) → Decides e (hi ≤ lo) → Decides s (l.ring.0 ≡ ring.0) →
          ((a b : ℕ) → Decides (each_passes test known ring a b) (Pass known a b)) →
          Decides (passes_around e s test l (each_passes test known ring) lo hi) (Pass (l ∷ known) lo hi)
      around true s de ds later = (λ h inst a b. let none : hi ≤ lo = de.0 refl in absurd (omega arith), λ h. refl)
      around false false de ds later =
          Decides-like (each_passes test known ring lo hi)
          (λ (h : Pass known lo hi) inst a b. elsewhere l known inst (λ c. no_true (ds.1 c.0)) ∙ h inst a b)
          (λ h inst a b. sym (elsewhere l known inst (λ c. no_true (ds.1 c.0))) ∙ h inst a b)
          (later lo hi)
      around false true de ds later =
          Decides-like
          ((nat_le (min hi l.hi) (max lo l.lo) || test (Some l.value)) && (each_passes test known ring lo (min hi l.lo) && each_passes test known ring (max lo l.hi) hi))
          (whole_of l known lo hi (ds.0 refl)) (parts_of l known lo hi (ds.0 refl))
          (Decides-and (nat_le (min hi l.hi) (max lo l.lo) || test (Some l.value)) (each_passes test known ring lo (min hi l.lo) && each_passes test known ring (max lo l.hi) hi)
          (Decides-or (nat_le (min hi l.hi) (max lo l.lo)) (test (Some l.value)) (le_decides (min hi l.hi) (max lo l.lo)) (itself (test (Some l.value))))
          (Decides-and (each_passes test known ring lo (min hi l.lo)) (each_passes test known ring (max lo l.hi) hi) (later lo (min hi l.lo)) (later (max lo l.hi) hi)))

-- ---- places

at_ring : (test : Option Value → Bool) (known : List Learning) (a b : RingId) (inst : ℕ) → a.0 ≡ b.0 →
    test (book_of known b inst) ≡ test (book_of known a inst)
at_ring test known a b inst e = ap (λ (r : RingId). test (book_of known r inst)) (sym (ring_same a b e))

-- a place of some rings has a number from theirs on
below_from : (place : Place) (least : ℕ) (rings : List RingId) (k : List (RingId × ℕ)) → IncreasesFrom least (numbers_of_rings rings) → has_rings rings k ≡ true → IsBelow place k → least ≤ place.ring.0
below_from place least [] [] inc h b = absurd b
below_from place least [] (x ∷ k) inc h b = no_true h
below_from place least (ring ∷ rings) [] inc h b = no_true h
below_from place least (ring ∷ rings) (x ∷ k) inc h b =
    let first : ring.0 ≡ x.0.0 = same_number ring.0 x.0.0 (split_and (ring.0 == x.0.0) (has_rings rings k) h).0 in
    let start : least ≤ ring.0 = inc.0 in
    elim b [
      | inl hit ↦ (let e : place.ring.0 ≡ x.0.0 = hit.0 in omega arith)
      | inr later ↦ (let n : ring.0 + 1 ≤ place.ring.0 = below_from place (ring.0 + 1) rings k inc.1 (later_rings ring rings x k h) later in omega arith)
    ]

not_below_from : (place : Place) (least : ℕ) (rings : List RingId) (k : List (RingId × ℕ)) → IncreasesFrom least (numbers_of_rings rings) → has_rings rings k ≡ true → IsNotBelow place k → least ≤ place.ring.0
not_below_from place least [] [] inc h b = absurd b
not_below_from place least [] (x ∷ k) inc h b = no_true h
not_below_from place least (ring ∷ rings) [] inc h b = no_true h
not_below_from place least (ring ∷ rings) (x ∷ k) inc h b =
    let first : ring.0 ≡ x.0.0 = same_number ring.0 x.0.0 (split_and (ring.0 == x.0.0) (has_rings rings k) h).0 in
    let start : least ≤ ring.0 = inc.0 in
    elim b [
      | inl hit ↦ (let e : place.ring.0 ≡ x.0.0 = hit.0 in omega arith)
      | inr later ↦ (let n : ring.0 + 1 ≤ place.ring.0 = not_below_from place (ring.0 + 1) rings k inc.1 (later_rings ring rings x k h) later in omega arith)
    ]

module _ (test : Option Value → Bool) (known : List Learning) where
  abbrev pub PassBetween : (upper lower : List (RingId × ℕ)) → Type 0
  PassBetween upper lower = (place : Place) → IsBelow place upper → IsNotBelow place lower → test (book_of known place.ring place.inst) ≡ true

  pub between_are : (least : ℕ) (rings : List RingId) (upper lower : List (RingId × ℕ)) → IncreasesFrom least (numbers_of_rings rings) →
      has_rings rings upper ≡ true → has_rings rings lower ≡ true → each_between test known upper lower ≡ true → PassBetween upper lower
  between_are least [] [] lower inc hu hl h place b n = absurd b
  between_are least [] (y ∷ upper) lower inc hu hl h place b n = no_true hu
  between_are least (ring ∷ rings) [] lower inc hu hl h place b n = absurd b
  between_are least (ring ∷ rings) (y ∷ upper) [] inc hu hl h place b n = absurd n
  between_are least (ring ∷ rings) (y ∷ upper) (x ∷ lower) inc hu hl h place b n =
      let first : ring.0 ≡ y.0.0 = same_number ring.0 y.0.0 (split_and (ring.0 == y.0.0) (has_rings rings upper) hu).0 in
      let second : ring.0 ≡ x.0.0 = same_number ring.0 x.0.0 (split_and (ring.0 == x.0.0) (has_rings rings lower) hl).0 in
      let parts = split_and (each_passes test known y.0 x.1 y.1) (each_between test known upper lower) h in
      elim b [
        | inl hit ↦ elim n [
          | inl from ↦ at_ring test known y.0 place.ring place.inst (sym hit.0) ∙ (range_decides test y.0 known x.1 y.1).0 parts.0 place.inst from.1 hit.1
          | inr later ↦ (
              let e : place.ring.0 ≡ y.0.0 = hit.0 in
              let far : ring.0 + 1 ≤ place.ring.0 = not_below_from place (ring.0 + 1) rings lower inc.1 (later_rings ring rings x lower hl) later in
              absurd (omega arith))
        ]
        | inr below ↦ elim n [
          | inl from ↦ (
              let e : place.ring.0 ≡ x.0.0 = from.0 in
              let far : ring.0 + 1 ≤ place.ring.0 = below_from place (ring.0 + 1) rings upper inc.1 (later_rings ring rings y upper hu) below in
              absurd (omega arith))
          | inr later ↦ between_are (ring.0 + 1) rings upper lower inc.1 (later_rings ring rings y upper hu) (later_rings ring rings x lower hl) parts.1 place below later
        ]
      ]

  pub are_between : (rings : List RingId) (upper lower : List (RingId × ℕ)) → has_rings rings upper ≡ true → has_rings rings lower ≡ true →
      PassBetween upper lower → each_between test known upper lower ≡ true
  are_between rings [] lower hu hl h = refl
  are_between rings (y ∷ upper) [] hu hl h = refl
  are_between [] (y ∷ upper) (x ∷ lower) hu hl h = no_true hu
  are_between (ring ∷ rings) (y ∷ upper) (x ∷ lower) hu hl h =
      let first : ring.0 ≡ y.0.0 = same_number ring.0 y.0.0 (split_and (ring.0 == y.0.0) (has_rings rings upper) hu).0 in
      let second : ring.0 ≡ x.0.0 = same_number ring.0 x.0.0 (split_and (ring.0 == x.0.0) (has_rings rings lower) hl).0 in
      both_true (each_passes test known y.0 x.1 y.1) (each_between test known upper lower)
      ((range_decides test y.0 known x.1 y.1).1 (λ inst a b. h (record { ring = y.0; inst = inst }) (inl (refl, b)) (inl (sym first ∙ second, a))))
      (are_between rings upper lower (later_rings ring rings y upper hu) (later_rings ring rings x lower hl) (λ place b n. h place (inr b) (inr n)))

  pub below_decides : (k : List (RingId × ℕ)) → Decides (each_below test known k) ((place : Place) → IsBelow place k → test (book_of known place.ring place.inst) ≡ true)
  below_decides [] = (λ h place b. absurd b, λ h. refl)
  below_decides (y ∷ k) = (
    λ h place b. let parts = split_and (each_passes test known y.0 0 y.1) (each_below test known k) h in
        elim b [
          | inl hit ↦ at_ring test known y.0 place.ring place.inst (sym hit.0) ∙ (range_decides test y.0 known 0 y.1).0 parts.0 place.inst (omega arith) hit.1
          | inr later ↦ (below_decides k).0 parts.1 place later
        ],
    λ h. both_true (each_passes test known y.0 0 y.1) (each_below test known k)
        ((range_decides test y.0 known 0 y.1).1 (λ inst a b. h (record { ring = y.0; inst = inst }) (inl (refl, b))))
        ((below_decides k).1 (λ place b. h place (inr b))),
  )
