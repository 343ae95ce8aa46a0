-- That what was learned is told in maximal ranges: those of votes of one ballot.
use Rattle.std.proofs.Common.{◌≡◌, ℕ, suc, true, false, Bool, ◌&&◌, List, [], ◌∷◌, map, refl, sym, ◌∙◌, ap, subst, inl, inr}
use Rattle.std.specs.Prelude.{◌⊎◌, Option, Some, None, nat_eq, nat_le, nat_lt, if◌then◌else◌}
use Rattle.std.specs.List.{AllByRecursion}
use Rattle.std.proofs.lemmas.Bool.{cases_eq}
use Rattle.mrp_types.specs.declared.value.Value.{Value}
use Rattle.mrp_types.specs.declared.voted.Voted.{Voted}
use Rattle.mrp_types.specs.Values.{is_skip}
use Rattle.range_map.specs.Entries.{value_at, IsIncreasingFrom}
use Rattle.vote_state.specs.declared.cast.Cast.{Cast}
use Rattle.vote_state.specs.Ranges.{cast_of, voted, is_one, vote_before, ranges_of, cast_at, AreInOrderFrom, IsApartFrom, AreApart, AreAlone}
use Rattle.vote_state.proofs.MaximalLemmas.{are_maximal}
use Rattle.protocol.specs.Learner.{unballoted, decided_of, learned_ranges}
use Rattle.protocol.specs.Meaning.{decided_at, AreInTurnFrom, IsUnjoined, AreUnjoined, AreSingle, AreMaximal}
use Rattle.range_map.proofs.EntryLemmas.{value_here, value_later}

abbrev as_vote : ℕ × Value → ℕ × Cast
as_vote e = (e.0, unballoted e.1)

abbrev votes : List (ℕ × Value) → List (ℕ × Cast)
votes held = map as_vote held

-- ---- the votes

increasing_votes : (k : ℕ) (held : List (ℕ × Value)) → IsIncreasingFrom k held → IsIncreasingFrom k (votes held)
increasing_votes k [] p = tt
increasing_votes k (e ∷ es) p = (p.0, increasing_votes (suc e.0) es p.1)

abbrev value_in_cast : Option Cast → Option Value
value_in_cast None = None
value_in_cast (Some cast) = Some cast.value

value_voted : (held : List (ℕ × Value)) (i : ℕ) → value_in_cast (value_at i (votes held)) ≡ value_at i held
value_voted [] i = refl
value_voted (e ∷ es) i = go (cases_eq i e.0) (value_voted es i)
  where
    go : (i ≡ e.0) ⊎ (i ≡ e.0 → ⊥) → value_in_cast (value_at i (votes es)) ≡ value_at i es → value_in_cast (value_at i (votes (e ∷ es))) ≡ value_at i (e ∷ es)
    go (inl same) later = ap value_in_cast (value_here (as_vote e) (votes es) i same) ∙ sym (value_here e es i same)
    go (inr ne) later = ap value_in_cast (value_later (as_vote e) (votes es) i ne) ∙ later ∙ sym (value_later e es i ne)

-- ---- their ranges are of ballot 0

abbrev AreUnballoted : List Voted → Type 0
AreUnballoted ranges = AllByRecursion (λ (range : Voted). range.ballot ≡ 0) ranges

unballoted_before : (i : ℕ) (value : Value) (ranges : List Voted) → AreUnballoted ranges → AreUnballoted (vote_before i (unballoted value) ranges)
unballoted_before i value [] all = (refl, tt)
unballoted_before i value (next ∷ ranges) all = go (is_one (suc i) (unballoted value) next)
  where
    go : (b : Bool) → AreUnballoted (if b then voted i next.hi (unballoted value) ∷ ranges else voted i (suc i) (unballoted value) ∷ next ∷ ranges)
    go true = (refl, all.1)
    go false = (refl, all)

unballoted_ranges : (held : List (ℕ × Value)) → AreUnballoted (ranges_of (votes held))
unfolding ranges_of
unballoted_ranges [] = tt
unballoted_ranges (e ∷ es) = unballoted_before e.0 e.1 (ranges_of (votes es)) (unballoted_ranges es)

-- ---- what they become

at_ranges : (ranges : List Voted) (i : ℕ) → decided_at i (map decided_of ranges) ≡ value_in_cast (cast_at i ranges)
at_ranges [] i = refl
at_ranges (range ∷ ranges) i = go (nat_le range.lo i && nat_lt i range.hi) (at_ranges ranges i)
  where
    go : (b : Bool) → decided_at i (map decided_of ranges) ≡ value_in_cast (cast_at i ranges)
        → (if b then Some range.value else decided_at i (map decided_of ranges)) ≡ value_in_cast (if b then Some (cast_of range) else cast_at i ranges)
    go true later = refl
    go false later = later

in_turn : (k : ℕ) (ranges : List Voted) → AreInOrderFrom k ranges → AreInTurnFrom k (map decided_of ranges)
in_turn k [] order = tt
in_turn k (range ∷ ranges) order = (order.0, order.1, in_turn range.hi ranges order.2)

single : (ranges : List Voted) → AreAlone ranges → AreSingle (map decided_of ranges)
single [] alone = tt
single (range ∷ ranges) alone = (alone.0, single ranges alone.1)

unjoined_next : (range : Voted) (ranges : List Voted) → range.ballot ≡ 0 → AreUnballoted ranges → IsApartFrom range ranges → IsUnjoined (decided_of range) (map decided_of ranges)
unjoined_next range [] own all apart = tt
unjoined_next range (next ∷ ranges) own all apart =
    subst (λ b. (nat_eq range.hi next.lo && (b && (is_skip range.value && is_skip next.value))) ≡ false) same apart
  where
    same : nat_eq range.ballot next.ballot ≡ true
    same = rw (own, all.0) refl

unjoined : (ranges : List Voted) → AreUnballoted ranges → AreApart ranges → AreUnjoined (map decided_of ranges)
unjoined [] all apart = tt
unjoined (range ∷ ranges) all apart = (unjoined_next range ranges all.0 all.1 apart.0, unjoined ranges all.1 apart.1)

pub learned_maximal : (held : List (ℕ × Value)) → IsIncreasingFrom 0 held → AreMaximal held (learned_ranges held)
learned_maximal held p =
    let are = are_maximal (votes held) (increasing_votes 0 held p) in
    record {
      in_turn = in_turn 0 (ranges_of (votes held)) are.in_order;
      same = λ i. at_ranges (ranges_of (votes held)) i ∙ ap value_in_cast (are.same i) ∙ value_voted held i;
      unjoined = unjoined (ranges_of (votes held)) (unballoted_ranges held) are.apart;
      single = single (ranges_of (votes held)) are.alone;
    }
