-- Whether votes are held, read as what each instance holds.
use Rattle.std.proofs.Common.{◌≡◌, ℕ, zero, suc, ◌+◌, ◌-◌, ◌<◌, ◌≤◌, true, false, Bool, List, [], ◌∷◌, refl, sym, ◌∙◌, ap, arith, inl, inr}
use Rattle.std.specs.Prelude.{◌↔◌, IsTrue, Option, Some, None, nat_eq, nat_le}
use Rattle.std.proofs.lemmas.Bool.{cases_lt, cases_eq}
use Rattle.mrp_types.specs.declared.value.Value.{Value}
use Rattle.mrp_types.specs.declared.value.Value.TheVariants.{Skip, Batch}
use Rattle.mrp_types.proofs.TestLemmas.{both, some_is}
use Rattle.range_map.specs.Entries.{value_at, IsRunRound}
use Rattle.range_map.proofs.SetLemmas.{le-true, le-false}
use Rattle.vote_state.specs.declared.cast.Cast.{Cast}
use Rattle.mrp_types.specs.declared.voted.Voted.{Voted}
use Rattle.vote_state.specs.Ranges.{cast_of, are_same_bytes, is_same_value, is_cast, each_held, are_held}
use Rattle.vote_state.proofs.RangeLemmas.{cast_eq, not_true}
use Rattle.range_map.proofs.EntryLemmas.{eq-true, eq-from}

same_bytes : (xs ys : List ℕ) → are_same_bytes xs ys ≡ true → xs ≡ ys
same_bytes [] [] h = refl
same_bytes [] (y ∷ ys) h = absurd (cc)
same_bytes (x ∷ xs) [] h = absurd (cc)
same_bytes (x ∷ xs) (y ∷ ys) h =
    let parts = both (nat_eq x y) _ h in
    let head = eq-from x y parts.0 in
    let tail = same_bytes xs ys parts.1 in
    cc

own_bytes : (xs : List ℕ) → are_same_bytes xs xs ≡ true
own_bytes [] = refl
own_bytes (x ∷ xs) = rw (eq-true x x refl) (own_bytes xs)

same_value : (a b : Value) → is_same_value a b ≡ true → a ≡ b
same_value Skip Skip h = refl
same_value Skip (Batch b) h = absurd (cc)
same_value (Batch a) Skip h = absurd (cc)
same_value (Batch a) (Batch b) h = ap (λ (x : List ℕ). Batch x) (same_bytes a b h)

own_value : (a : Value) → is_same_value a a ≡ true
own_value Skip = refl
own_value (Batch a) = own_bytes a

cast_held : (cast : Cast) (held : Option Cast) → is_cast cast held ≡ true → held ≡ Some cast
cast_held cast None h = absurd (cc)
cast_held cast (Some held) h =
    let parts = both (nat_eq held.ballot cast.ballot) _ h in
    ap (λ (c : Cast). Some c) (cast_eq held cast (eq-from held.ballot cast.ballot parts.0) (same_value held.value cast.value parts.1))

held_cast : (cast : Cast) (held : Option Cast) → held ≡ Some cast → is_cast cast held ≡ true
held_cast cast held h = rw (h, eq-true cast.ballot cast.ballot refl) (own_value cast.value)

from_each : (lo n : ℕ) (cast : Cast) (votes : List (ℕ × Cast)) → each_held lo n cast votes ≡ true → (i : ℕ) → lo ≤ i → i < lo + n → value_at i votes ≡ Some cast
from_each lo zero cast votes h i a b = absurd (omega arith)
from_each lo (suc n) cast votes h i a b =
    let parts = both (is_cast cast (value_at lo votes)) _ h in
    elim (cases_eq i lo) [
      | inl here ↦ ap (λ x. value_at x votes) here ∙ cast_held cast (value_at lo votes) parts.0
      | inr later ↦ from_each (suc lo) n cast votes parts.1 i (omega arith) (omega arith)
    ]

to_each : (lo n : ℕ) (cast : Cast) (votes : List (ℕ × Cast)) → ((i : ℕ) → lo ≤ i → i < lo + n → value_at i votes ≡ Some cast) → each_held lo n cast votes ≡ true
to_each lo zero cast votes h = refl
to_each lo (suc n) cast votes h =
    let here = held_cast cast (value_at lo votes) (h lo (omega arith) (omega arith)) in
    let rest = to_each (suc lo) n cast votes (λ i a b. h i (omega arith) (omega arith)) in
    rw (here, rest) refl

-- each instance of the range holds that ballot and value
abbrev pub HoldsEach : Voted → List (ℕ × Cast) → Type 0
HoldsEach v votes = (i : ℕ) → v.lo ≤ i → i < v.hi → value_at i votes ≡ Some (cast_of v)

held_from : (v : Voted) (votes : List (ℕ × Cast)) → are_held v votes ≡ true → HoldsEach v votes
unfolding are_held
held_from v votes h i a b = from_each v.lo (v.hi - v.lo) (cast_of v) votes h i a (omega arith)

pub held_to : (v : Voted) (votes : List (ℕ × Cast)) → HoldsEach v votes → are_held v votes ≡ true
unfolding are_held
held_to v votes h = to_each v.lo (v.hi - v.lo) (cast_of v) votes (λ i a b. h i a (omega arith))

pub held_not : (v : Voted) (votes : List (ℕ × Cast)) → (HoldsEach v votes → ⊥) → are_held v votes ≡ false
held_not v votes h = not_true (are_held v votes) (λ held. h (held_from v votes held))

pub held_meaning : (b : Bool) (v : Voted) (votes : List (ℕ × Cast)) → b ≡ are_held v votes → IsTrue b ↔ HoldsEach v votes
held_meaning b v votes is = ((λ h. held_from v votes (sym is ∙ h)), (λ each. is ∙ held_to v votes each))

pub held_empty : (v : Voted) (votes : List (ℕ × Cast)) → v.hi ≤ v.lo → true ≡ are_held v votes
held_empty v votes empty = sym (held_to v votes (λ i a b. absurd (omega arith)))

-- a range that isn't held isn't empty
pub not_held_not_empty : (v : Voted) (votes : List (ℕ × Cast)) → are_held v votes ≡ false → v.lo < v.hi
not_held_not_empty v votes h = elim (cases_lt v.lo v.hi) [
  | inl lt ↦ lt
  | inr empty ↦ let held = held_empty v votes empty in absurd (cc)
]

-- where the first instance holds nothing, or a run round it ends too early
pub held_none : (v : Voted) (votes : List (ℕ × Cast)) → v.lo < v.hi → value_at v.lo votes ≡ None → false ≡ are_held v votes
held_none v votes pos none = sym (held_not v votes (λ each. let here = each v.lo (omega arith) pos in absurd (cc)))

pub held_short : (v : Voted) (votes : List (ℕ × Cast)) (begin end : ℕ) → IsRunRound votes v.lo begin end → end < v.hi → false ≡ are_held v votes
held_short v votes begin end run short =
    let ends = run.ends in
    sym (held_not v votes (λ each. run.longest_above (each end (omega arith) short ∙ sym (each v.lo (omega arith) (omega arith)))))

-- a run that is long enough holds what its first instance holds
pub held_whole : (v : Voted) (votes : List (ℕ × Cast)) (begin end : ℕ) → IsRunRound votes v.lo begin end → v.hi ≤ end → value_at v.lo votes ≡ Some (cast_of v) → true ≡ are_held v votes
held_whole v votes begin end run long held =
    let begins = run.begins in
    sym (held_to v votes (λ i a b. run.equal i (omega arith) (omega arith) ∙ held))

pub held_other : (v : Voted) (votes : List (ℕ × Cast)) (cast : Cast) → v.lo < v.hi → value_at v.lo votes ≡ Some cast → (cast ≡ cast_of v → ⊥) → false ≡ are_held v votes
held_other v votes cast pos held other =
    sym (held_not v votes (λ each. other (some_is cast (cast_of v) (sym held ∙ each v.lo (omega arith) pos))))

-- where a long enough run holds the ballot, the value decides
pub held_value : (b : Bool) (v : Voted) (votes : List (ℕ × Cast)) (begin end : ℕ) (cast : Cast) → v.lo < v.hi → IsRunRound votes v.lo begin end → v.hi ≤ end → value_at v.lo votes ≡ Some cast → cast.ballot ≡ v.ballot
    → IsTrue b ↔ (cast.value ≡ v.value) → b ≡ are_held v votes
held_value true v votes begin end cast pos run long held ballot same =
    held_whole v votes begin end run long (held ∙ ap (λ (c : Cast). Some c) (cast_eq cast (cast_of v) ballot (same.0 refl)))
held_value false v votes begin end cast pos run long held ballot same =
    held_other v votes cast pos held (λ is. let no_value = same.1 (ap (λ (c : Cast). c.value) is) in absurd (cc))

pub held_ballot : (v : Voted) (votes : List (ℕ × Cast)) (cast : Cast) → v.lo < v.hi → value_at v.lo votes ≡ Some cast → (cast.ballot ≡ v.ballot → ⊥) → false ≡ are_held v votes
held_ballot v votes cast pos held other = held_other v votes cast pos held (λ is. other (ap (λ (c : Cast). c.ballot) is))

-- where nothing is held, all of an empty range is
pub held_nowhere : (v : Voted) → nat_le v.hi v.lo ≡ are_held v []
held_nowhere v =
    elim (cases_lt v.lo v.hi) [
      | inl pos ↦ rw (le-false v.hi v.lo pos) (held_none v [] pos refl)
      | inr empty ↦ rw (le-true v.hi v.lo empty) (held_empty v [] empty)
    ]
