-- The least number above a floor that leaves a rest.
use Rattle.std.proofs.Common.{◌≡◌, ℕ, suc, ◌+◌, ◌-◌, ◌*◌, ◌/◌, ◌%◌, ◌<◌, ◌≤◌, true, length, get_or, ◌==◌, refl, sym, ◌∙◌, ap, arith, inl, inr}
use Rattle.std.specs.Prelude.{Some}
use Rattle.std.proofs.lemmas.Bool.{cases_lt, eqb-true}
use Rattle.std.proofs.lemmas.List.Quantifiers.{position-Some}
use Rattle.std.proofs.lemmas.Option.{slice_get-get_or}
use Rattle.mrp_types.specs.declared.id.NodeId.{NodeId}
use Rattle.std.proofs.lemmas.Nat.{mod-mul-add}
use Rattle.std.proofs.Math.Nat.{mod-add-div', add-mod_right, mod-eq_of_lt, mod-lt, mul-le-mul_right}
use Rattle.protocol.specs.Parts.{Ring, Part}
use Rattle.protocol.specs.Rings.{position_of, acceptor_at, owner_of}
use Rattle.protocol.specs.Ballots.{least_above, greatest_seen, own_ballot}
use Rattle.protocol.specs.Meaning.{IsLeastAbove, HasOnePosition, IsLeastOwned}
use Rattle.range_map.proofs.EntryLemmas.{eq-false}

module _ (n rest : ℕ) (h : rest < n) where
  -- how far it is from a number that leaves r
  forward : (r : ℕ) → r ≤ rest → (rest + n - r) % n ≡ rest - r
  forward r le =
      let shape : rest + n - r ≡ (rest - r) + n = omega arith in
      let small : rest - r < n = omega arith in
      ap (λ x. x % n) shape ∙ add-mod_right (rest - r) n ∙ mod-eq_of_lt small

  around : (r : ℕ) → rest < r → r < n → (rest + n - r) % n ≡ rest + n - r
  around r lt top = let small : rest + n - r < n = omega arith in mod-eq_of_lt small

  -- the first number from x = p * n + r on that leaves the rest
  from_parts : (x p r d : ℕ) → x ≡ p * n + r → r < n → d ≡ (rest + n - r) % n → ((x + d) % n ≡ rest) × ((c q : ℕ) → c ≡ q * n + rest → x ≤ c → x + d ≤ c)
  from_parts x p r d shape top far =
      elim (cases_lt rest r) [
        | inr le ↦
            let away : d ≡ rest - r = far ∙ forward r le in
            let end : x + d ≡ p * n + rest = omega arith in (
              ap (λ y. y % n) end ∙ mod-mul-add p n rest h,
              λ c q is from. elim (cases_lt q p) [
                | inl less ↦ let more : suc q * n ≤ p * n = mul-le-mul_right n less in absurd (omega arith)
                | inr most ↦ let more : p * n ≤ q * n = mul-le-mul_right n most in omega arith
              ],
            )
        | inl lt ↦
            let away : d ≡ rest + n - r = far ∙ around r lt top in
            let end : x + d ≡ suc p * n + rest = omega arith in (
              ap (λ y. y % n) end ∙ mod-mul-add (suc p) n rest h,
              λ c q is from. elim (cases_lt p q) [
                | inr most ↦ let more : q * n ≤ p * n = mul-le-mul_right n most in absurd (omega arith)
                | inl less ↦ let more : suc p * n ≤ q * n = mul-le-mul_right n less in omega arith
              ],
            )
      ]

pub is_least : (floor n rest : ℕ) → rest < n → IsLeastAbove floor n rest (least_above floor n rest)
is_least floor n rest h =
    let parts : floor + 1 ≡ (floor + 1) / n * n + (floor + 1) % n = sym (mod-add-div' (floor + 1) n) ∙ omega arith in
    let some : 0 < n = omega arith in
    let are = from_parts n rest h (floor + 1) ((floor + 1) / n) ((floor + 1) % n) ((rest + n - (floor + 1) % n) % n) parts (mod-lt (floor + 1) some) refl in
    record {
      above = omega arith;
      leaves = are.0;
      least = λ other past leaves. are.1 other (other / n) (sym (mod-add-div' other n) ∙ other_parts other leaves) (omega arith);
    }
  where
    other_parts : (other : ℕ) → other % n ≡ rest → other % n + other / n * n ≡ other / n * n + rest
    other_parts other leaves = omega arith

-- ---- who owns it

nobody : NodeId
nobody = record { 0 = 0 }

node_eq : (a b : NodeId) → a.0 ≡ b.0 → a ≡ b
node_eq a b h = ap (λ (n : ℕ). let made : NodeId = record { 0 = n } in made) h

module _ (ring : Ring) (part : Part) (position : ℕ) (at : position_of ring ring.own ≡ Some position) where
  seat : (position < length ring.acceptors) × (((get_or ring.acceptors position nobody).0 == ring.own.0) ≡ true)
  seat = let is = position-Some (λ (other : NodeId). other.0 == ring.own.0) ring.acceptors position nobody at in (is.0, is.1)

  own_there : acceptor_at ring position ≡ Some ring.own
  own_there =
      slice_get-get_or ring.acceptors position nobody seat.0
      ∙ ap (λ (n : NodeId). Some n) (node_eq (get_or ring.acceptors position nobody) ring.own (eqb-true _ _ seat.1))

  owner_is : (ballot : ℕ) → 0 < ballot → owner_of ring ballot ≡ acceptor_at ring (ballot % length ring.acceptors)
  owner_is ballot some = rw (eq-false ballot 0 (λ h. omega arith)) refl

  pub is_least_owned : HasOnePosition ring → IsLeastOwned ring (greatest_seen part) (own_ballot ring part position)
  is_least_owned one =
      let is = is_least (greatest_seen part) (length ring.acceptors) position seat.0 in
      let past = is.above in
      record {
        above = past;
        owned = owner_is (own_ballot ring part position) (omega arith) ∙ ap (acceptor_at ring) is.leaves ∙ own_there;
        least = λ other above owned. is.least other above (one (other % length ring.acceptors) position (sym (owner_is other (omega arith)) ∙ owned) own_there);
      }
