-- What a round of trimming says.
use Rattle.std.proofs.Common.{◌≡◌, ℕ, ◌<◌, ◌≤◌, min, true, false, Bool, List, [], ◌∷◌, refl, ◌∙◌, ap, subst, arith, inl, inr}
use Rattle.std.specs.Prelude.{◌⊎◌, ◌↔◌, Some, None, nat_le, nat_lt, if◌then◌else◌}
use Rattle.std.specs.List.{AllByRecursion}
use Rattle.std.proofs.lemmas.Bool.{cases_lt}
use Rattle.std.proofs.lemmas.Bool.Decides.{nat_tests}
use Rattle.mrp_types.proofs.TestLemmas.{both}
use Rattle.mrp_types.specs.declared.id.NodeId.{NodeId}
use Rattle.mrp_config.specs.declared.tables.PartitionTable.{PartitionTable}
use Rattle.range_map.proofs.SetLemmas.{le-true}
use Rattle.protocol.specs.Parts.{Ring, Round}
use Rattle.protocol.specs.Trimming.{answered_of, have_quorums, least_of, above, least_where, is_answered, least}
use Rattle.protocol.specs.Meaning.{HaveQuorums, IsGiven, IsLeastAnswer}
use Rattle.range_map.proofs.EntryLemmas.{lt-true, lt-false, le-from}

abbrev Answers : Type 0
Answers = List (NodeId × ℕ)

number_is : (a b : ℕ) → Some a ≡ Some b → a ≡ b
number_is a b h = cc

-- ---- quorums

quorums_there : (partitions : List PartitionTable) (answers : Answers) → have_quorums partitions answers ≡ true → HaveQuorums partitions answers
quorums_there [] answers h = tt
quorums_there (p ∷ partitions) answers h =
    let parts = both (nat_le p.trim_quorum (answered_of p answers)) (have_quorums partitions answers) h in
    (le-from p.trim_quorum (answered_of p answers) parts.0, quorums_there partitions answers parts.1)

quorums_back : (partitions : List PartitionTable) (answers : Answers) → HaveQuorums partitions answers → have_quorums partitions answers ≡ true
quorums_back [] answers h = refl
quorums_back (p ∷ partitions) answers h = rw (le-true p.trim_quorum (answered_of p answers) h.0) (quorums_back partitions answers h.1)

-- ---- the least

record IsLeastOf (first : ℕ) (answers : Answers) (inst : ℕ) : Type 0 where
  given : (first ≡ inst) ⊎ IsGiven inst answers
  below : inst ≤ first
  least : AllByRecursion (λ (answer : NodeId × ℕ). inst ≤ answer.1) answers

is_least_of : (first : ℕ) (answers : Answers) → IsLeastOf first answers (least_of first answers)
is_least_of first [] = record { given = inl refl; below = omega arith; least = tt }
is_least_of first (answer ∷ answers) = go (is_least_of (min first answer.1) answers) (cases_lt answer.1 first)
  where
    go : IsLeastOf (min first answer.1) answers (least_of (min first answer.1) answers) → (answer.1 < first) ⊎ (first ≤ answer.1) → IsLeastOf first (answer ∷ answers) (least_of (min first answer.1) answers)
    go is order = let below = is.below in record { given = from is.given order; below = omega arith; least = (omega arith, is.least) }
      where
        from : (min first answer.1 ≡ least_of (min first answer.1) answers) ⊎ IsGiven (least_of (min first answer.1) answers) answers → (answer.1 < first) ⊎ (first ≤ answer.1)
            → (first ≡ least_of (min first answer.1) answers) ⊎ ((answer.1 ≡ least_of (min first answer.1) answers) ⊎ IsGiven (least_of (min first answer.1) answers) answers)
        from (inr given) any = inr (inr given)
        from (inl same) (inl less) = inr (inl (omega arith))
        from (inl same) (inr more) = inl (omega arith)

not_below : (inst low : ℕ) (answers : Answers) → IsGiven inst answers → AllByRecursion (λ (answer : NodeId × ℕ). low ≤ answer.1) answers → low ≤ inst
not_below inst low [] given all = absurd given
not_below inst low (answer ∷ answers) (inl same) all = let at = all.0 in omega arith
not_below inst low (answer ∷ answers) (inr given) all = not_below inst low answers given all.1

-- ---- there

module _ (ring : Ring) (round : Round) (inst : ℕ) where
  above_there : (m : ℕ) → above round.last m ≡ Some inst → (m ≡ inst) × (round.last < inst)
  above_there m h = go (cases_lt round.last m)
    where
      go : (round.last < m) ⊎ (m ≤ round.last) → (m ≡ inst) × (round.last < inst)
      go (inl past) =
          let same = number_is m inst (subst (λ b. (if b then Some m else None) ≡ Some inst) (lt-true round.last m past) h) in
          (same, omega arith)
      go (inr under) = let none = subst (λ b. (if b then Some m else None) ≡ Some inst) (lt-false round.last m under) h in absurd (cc)

  there : (subscribers : List PartitionTable) (answers : Answers) (b : Bool) → is_answered subscribers answers ≡ b → least_where b round.last answers ≡ Some inst
      → (subscribers ≡ [] → ⊥) × HaveQuorums subscribers answers × IsGiven inst answers × AllByRecursion (λ (answer : NodeId × ℕ). inst ≤ answer.1) answers × (round.last < inst)
  there subscribers answers false is h = absurd (cc)
  there subscribers [] true is h = absurd (cc)
  there [] (answer ∷ answers) true is h = absurd (cc)
  there (p ∷ partitions) (answer ∷ answers) true is h =
      let m = least_of answer.1 answers in
      let at = above_there (least_of answer.1 answers) h in
      let are = is_least_of answer.1 answers in
      let low = are.below in
      let same = at.0 in (
        (λ none. cc),
        quorums_there (p ∷ partitions) (answer ∷ answers) is,
        subst (λ x. (answer.1 ≡ x) ⊎ IsGiven x answers) same are.given,
        subst (λ x. AllByRecursion (λ (a : NodeId × ℕ). x ≤ a.1) (answer ∷ answers)) same (low, are.least),
        at.1,
      )

  back : (subscribers : List PartitionTable) (answers : Answers) → (subscribers ≡ [] → ⊥) → HaveQuorums subscribers answers → IsGiven inst answers
      → AllByRecursion (λ (answer : NodeId × ℕ). inst ≤ answer.1) answers → round.last < inst → least_where (is_answered subscribers answers) round.last answers ≡ Some inst
  back [] answers some quorums given all past = absurd (some refl)
  back (p ∷ partitions) [] some quorums given all past = absurd given
  back (p ∷ partitions) (answer ∷ answers) some quorums given all past =
      let are = is_least_of answer.1 answers in
      let low = are.below in
      let under = not_below inst (least_of answer.1 answers) (answer ∷ answers) given (low, are.least) in
      let over = go are.given in
      let same : least_of answer.1 answers ≡ inst = omega arith in
      rw (quorums_back (p ∷ partitions) (answer ∷ answers) quorums) (ap (above round.last) same ∙ rw (lt-true round.last inst past) refl)
    where
      go : (answer.1 ≡ least_of answer.1 answers) ⊎ IsGiven (least_of answer.1 answers) answers → inst ≤ least_of answer.1 answers
      go (inl same) = let at = all.0 in omega arith
      go (inr later) = not_below (least_of answer.1 answers) inst answers later all.1

  pub says : (least ring round ≡ Some inst) ↔ IsLeastAnswer ring round inst
  unfolding least
  says = (forth, λ is. back ring.subscribers round.answers is.subscribed is.quorums is.given is.least is.above)
    where
      forth : least_where (is_answered ring.subscribers round.answers) round.last round.answers ≡ Some inst → IsLeastAnswer ring round inst
      forth h =
          let all = there ring.subscribers round.answers (is_answered ring.subscribers round.answers) refl h in
          record { subscribed = all.0; quorums = all.1; given = all.2; least = all.3; above = all.4 }
