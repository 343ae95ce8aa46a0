-- What a look at a learner answers.
use Rattle.std.proofs.Common.{arith, ◌≡◌, ℕ, zero, suc, ◌-◌, ◌<◌, ◌^◌, ◌↔◌, Bool, true, false, List, [], ◌∷◌, refl, sym, subst, length, get_or, true≢false}
use Rattle.std.specs.Prelude.{IsTrue, IsSome, Option, Some, None, nat_eq, if◌then◌else◌}
use Rattle.std.specs.List.{AllByRecursion}
use Rattle.mrp_types.specs.declared.value.Value.{Value}
use Rattle.mrp_types.specs.declared.value.Value.TheVariants.{Skip}
use Rattle.range_map.specs.Entries.{value_at, IsRunRound}
use Rattle.ring_learner.specs.Filled.{IsLearned, AreLearned}
use Rattle.protocol.specs.Parts.{Learner}
use Rattle.merge.specs.Looked.{map_at, IsRunOf}
use Rattle.merge.specs.Learned.{maps_of}

same_there : (a b : ℕ) → nat_eq a b ≡ true → a ≡ b
same_there a b e = grind arith

-- what is held is below the end of all instances
held_below : (es : List (ℕ × Value)) (i : ℕ) → AllByRecursion IsLearned es → IsSome (value_at i es) → i < 2 ^ 40
held_below [] i each some = absurd (cc)
held_below (e ∷ es) i each some = by (nat_eq i e.0) refl some (λ later. held_below es i each.1 later)
  where
    by : (t : Bool) → nat_eq i e.0 ≡ t → IsSome (if t then Some e.1 else value_at i es) → (IsSome (value_at i es) → i < 2 ^ 40) → i < 2 ^ 40
    by true same some later = subst (λ (n : ℕ). n < 2 ^ 40) (sym (same_there i e.0 same)) each.0.0
    by false same some later = later some

last_of : (n : ℕ) → 0 < n → suc (n - 1) ≡ n
last_of n some = omega arith

pub run_of : (es : List (ℕ × Value)) (i lo end : ℕ) (skip : Bool) → AreLearned es → IsSome (value_at i es) → IsRunRound es i lo end → IsTrue skip ↔ (value_at i es ≡ Some Skip) →
    IsRunOf es i (record { skip = skip; end = end })
run_of es i lo end skip are some run is =
    let begins = run.begins in
    let ends = run.ends in
    let there : IsSome (value_at (end - 1) es) = subst (λ (o : Option Value). IsSome o) (sym (run.equal (end - 1) (omega arith) (omega arith))) some in
    let below : end - 1 < 2 ^ 40 = held_below es (end - 1) are.each there in
    record {
      ends = run.ends;
      within = omega arith;
      equal = λ j from to. run.equal j (omega arith) to;
      longest = run.longest_above;
      skip = is;
    }

-- the map at a position is that of the learner there
pub map_of : (learners : List Learner) (i j : ℕ) (l : Learner) → j ≡ i → i < length (maps_of learners) → map_at (maps_of learners) i ≡ (get_or learners j l).held
map_of [] i j l same inside = absurd (omega (arith, inside))
map_of (x ∷ learners) zero zero l same inside = refl
map_of (x ∷ learners) zero (suc j) l same inside = absurd (omega (arith, same))
map_of (x ∷ learners) (suc i) zero l same inside = absurd (omega (arith, same))
map_of (x ∷ learners) (suc i) (suc j) l same inside = map_of learners i j l (omega (arith, same)) (omega (arith, inside))

pub is_some_of : {A : Type 0} (o : Option A) → (o ≡ None → true ≡ false) → IsSome o
is_some_of None not = absurd (true≢false (not refl))
is_some_of (Some x) not = refl
