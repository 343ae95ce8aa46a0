-- Comparing by one number and then by the rest is a total order where the rest is.
use Rattle.std.proofs.Common.{arith, sym, ◌∙◌, ◌≡◌, ◌<◌, ◌⊎◌, inl, inr, ℕ, ◌/◌, Bool, false, IsTrue, nat_lt}
use Rattle.std.proofs.Math.Path.{ap₂}
use Rattle.std.proofs.lemmas.Bool.{cases_order}
use Rattle.mrp_types.specs.Places.{lt_then, place_lt, IsInOneOrder}
use Rattle.mrp_types.specs.declared.place.Place.{Place}

less : (a b : ℕ) (rest : Bool) → a < b → IsTrue (lt_then a b rest)
less a b rest below = grind arith

equal : (a b : ℕ) (rest : Bool) → a ≡ b → IsTrue rest → IsTrue (lt_then a b rest)
equal a b rest same then = grind arith

not_above : (a b : ℕ) (rest : Bool) → b < a → IsTrue (lt_then a b rest) → ⊥
not_above a b rest above before = grind arith

then_rest : (a b : ℕ) (rest : Bool) → a ≡ b → IsTrue (lt_then a b rest) → IsTrue rest
then_rest a b rest same before = grind arith

cases : (a b : ℕ) (rest : Bool) → IsTrue (lt_then a b rest) → (a < b) ⊎ ((a ≡ b) × IsTrue rest)
cases a b rest before = elim (cases_order a b) [
  | inl same ↦ inr (same, then_rest a b rest same before)
  | inr (inl below) ↦ inl below
  | inr (inr above) ↦ absurd (not_above a b rest above before)
]

-- two links make one, where two links of the rest do
links : (a b c : ℕ) (ab bc ac : Bool) → (IsTrue ab → IsTrue bc → IsTrue ac) →
    IsTrue (lt_then a b ab) → IsTrue (lt_then b c bc) → IsTrue (lt_then a c ac)
links a b c ab bc ac rest first second = elim (cases a b ab first) [
  | inl below ↦ elim (cases b c bc second) [
    | inl further ↦ less a c ac (omega arith)
    | inr same ↦ less a c ac (omega (arith, same.0))
  ]
  | inr same ↦ elim (cases b c bc second) [
    | inl further ↦ less a c ac (omega (arith, same.0))
    | inr again ↦ equal a c ac (same.0 ∙ again.0) (rest same.1 again.1)
  ]
]

itself : (a : ℕ) (rest : Bool) → rest ≡ false → lt_then a a rest ≡ false
itself a rest not = grind arith

-- where the rest tells two apart, so do the number and the rest
apart : (a b : ℕ) (ab ba : Bool) (same : Type 0) → (a ≡ b → IsTrue ab ⊎ (same ⊎ IsTrue ba)) →
    IsTrue (lt_then a b ab) ⊎ (same ⊎ IsTrue (lt_then b a ba))
apart a b ab ba same rest = elim (cases_order a b) [
  | inl equals ↦ elim (rest equals) [
    | inl first ↦ inl (equal a b ab equals first)
    | inr (inl both) ↦ inr (inl both)
    | inr (inr second) ↦ inr (inr (equal b a ba (sym equals) second))
  ]
  | inr (inl below) ↦ inl (less a b ab below)
  | inr (inr above) ↦ inr (inr (less b a ba above))
]

by_number : (a b : ℕ) (same : Type 0) → (a ≡ b → same) → IsTrue (nat_lt a b) ⊎ (same ⊎ IsTrue (nat_lt b a))
by_number a b same then = elim (cases_order a b) [
  | inl equals ↦ inr (inl (then equals))
  | inr (inl below) ↦ inl (grind arith)
  | inr (inr above) ↦ inr (inr (grind arith))
]

by_parts : (a b : Place) → a.ring.0 ≡ b.ring.0 → a.inst ≡ b.inst → a ≡ b
by_parts a b ring inst =
    let made : ℕ → ℕ → Place = λ r i. record { ring = record { 0 = r }; inst = i } in
    ap₂ made ring inst

link : (a b c : ℕ) → IsTrue (nat_lt a b) → IsTrue (nat_lt b c) → IsTrue (nat_lt a c)
link a b c first second = grind arith

none : (a : ℕ) → nat_lt a a ≡ false
none a = grind arith

pub in_one_order : (m : ℕ → ℕ) → IsInOneOrder (place_lt m)
in_one_order m = record {
  irreflexive = λ a. itself (a.inst / m a.ring.0) (lt_then a.ring.0 a.ring.0 (nat_lt a.inst a.inst))
      (itself a.ring.0 (nat_lt a.inst a.inst) (none a.inst));
  transitive = λ a b c. links (a.inst / m a.ring.0) (b.inst / m b.ring.0) (c.inst / m c.ring.0)
      (lt_then a.ring.0 b.ring.0 (nat_lt a.inst b.inst)) (lt_then b.ring.0 c.ring.0 (nat_lt b.inst c.inst))
      (lt_then a.ring.0 c.ring.0 (nat_lt a.inst c.inst))
      (links a.ring.0 b.ring.0 c.ring.0 (nat_lt a.inst b.inst) (nat_lt b.inst c.inst) (nat_lt a.inst c.inst)
      (link a.inst b.inst c.inst));
  total = λ a b. apart (a.inst / m a.ring.0) (b.inst / m b.ring.0)
      (lt_then a.ring.0 b.ring.0 (nat_lt a.inst b.inst)) (lt_then b.ring.0 a.ring.0 (nat_lt b.inst a.inst)) (a ≡ b)
      (λ _. apart a.ring.0 b.ring.0 (nat_lt a.inst b.inst) (nat_lt b.inst a.inst) (a ≡ b)
      (λ ring. by_number a.inst b.inst (a ≡ b) (by_parts a b ring)));
}
