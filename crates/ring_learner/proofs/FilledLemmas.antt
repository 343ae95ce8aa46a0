-- Ranges of which the instances that are held stay as they are.
use Rattle.std.proofs.Common.{◌≡◌, ℕ, zero, suc, ◌+◌, ◌-◌, ◌^◌, ◌<◌, ◌≤◌, max, true, false, ◌&&◌, List, [], ◌∷◌, ◌++◌, refl, sym, ◌∙◌, ap, subst, arith, inl, inr}
use Rattle.std.specs.Prelude.{◌⊎◌, Option, Some, None, IsSome, Bool, nat_eq, nat_le, nat_lt, if◌then◌else◌}
use Rattle.std.specs.List.{AllByRecursion}
use Rattle.std.proofs.lemmas.Bool.{cases_lt}
use Rattle.mrp_types.specs.declared.value.Value.{Value}
use Rattle.mrp_types.specs.declared.voted.Decided.{Decided}
use Rattle.command_codec.specs.Parts.{IsSpelled}
use Rattle.range_map.specs.Entries.{value_at, IsIncreasingFrom, entries_before, entries_from, IsNextGap, IsRunRound}
use Rattle.range_map.proofs.RunsLemmas.{within-true, within-below, within-above}
use Rattle.range_map.proofs.EntryLemmas.{same_entries, increasing_entries_from}
use Rattle.vote_state.proofs.RangeLemmas.{not_true}
use Rattle.vote_state.proofs.StateLemmas.{filter_all, append_all}
use Rattle.protocol.specs.Parts.{Learner}
use Rattle.protocol.specs.Learner.{entries_within, front_at, past_front, met_over, with_met, first_of, with_range_learned, is_held, first_gap}
use Rattle.protocol.proofs.EntryLemmas.{meets, held, gap}
use Rattle.ring_learner.specs.Filled.{IsLearned, AreLearned, Fills}

-- ---- what meets a range

module _ {T : Type 0} (met : Option T → T → T) (v : T) where
  pub none_yet : (lo hi : ℕ) (es : List (ℕ × T)) → IsIncreasingFrom 0 es → Fills met v lo lo hi es es
  none_yet lo hi es p = record { ordered = p; within = λ i a b c. absurd (omega arith); below = λ i a. refl; ahead = λ i a. refl; above = λ i a. refl }

  pub then_more : (lo at next hi : ℕ) (a b c : List (ℕ × T)) → lo ≤ at → at < next → Fills met v lo at hi a b → Fills met v at next hi b c → Fills met v lo next hi a c
  then_more lo at next hi a b c begun past first second = record {
    ordered = second.ordered;
    within = λ i from to inside. elim (cases_lt i at) [
      | inl before ↦ second.below i before ∙ first.within i from before inside
      | inr later ↦ second.within i later to inside ∙ ap (λ (o : Option T). Some (met o v)) (first.ahead i later)
    ];
    below = λ i under. second.below i (omega arith) ∙ first.below i under;
    ahead = λ i over. second.ahead i over ∙ first.ahead i (omega arith);
    above = λ i over. second.above i over ∙ first.above i over;
  }

  -- what is held alike from `at` on and stays is passed
  pub piece_passed : (at end hi : ℕ) (es : List (ℕ × T)) → IsIncreasingFrom 0 es → ((i : ℕ) → at ≤ i → i < end → value_at i es ≡ value_at at es)
      → value_at at es ≡ Some (met (value_at at es) v) → Fills met v at end hi es es
  piece_passed at end hi es p equal stays = record {
    ordered = p;
    within = λ i from to inside. equal i from to ∙ stays ∙ ap (λ (o : Option T). Some (met o v)) (sym (equal i from to));
    below = λ i a. refl;
    ahead = λ i a. refl;
    above = λ i a. refl;
  }

  -- what is held alike from `at` on becomes the value
  pub piece_set : (at end hi : ℕ) (x : T) (old new : List (ℕ × T)) → x ≡ v → IsIncreasingFrom 0 new
      → ((i : ℕ) → value_at i new ≡ (if nat_le at i && nat_lt i end then Some x else value_at i old)) → ((i : ℕ) → at ≤ i → i < end → value_at i old ≡ value_at at old)
      → met (value_at at old) v ≡ v → end ≤ hi → Fills met v at end hi old new
  piece_set at end hi x old new same p set equal becomes up_to = record {
    ordered = p;
    within = λ i from to inside.
        set i ∙ rw (within-true at end i from to) (ap (λ (y : T). Some y) (same ∙ sym becomes) ∙ ap (λ (o : Option T). Some (met o v)) (sym (equal i from to)));
    below = λ i under. set i ∙ rw (within-below at end i under) refl;
    ahead = λ i over. set i ∙ rw (within-above at end i over) refl;
    above = λ i over. set i ∙ rw (within-above at end i (omega arith)) refl;
  }

  pub filled : (lo at hi : ℕ) (old new : List (ℕ × T)) → hi ≤ at → IsIncreasingFrom 0 old → Fills met v lo at hi old new → new ≡ with_met met lo hi v old
  filled lo at hi old new all p fills =
      let is = meets met v lo hi old p in
      same_entries 0 new (with_met met lo hi v old) fills.ordered is.in_order
      (λ i. elim (cases_lt i lo) [
        | inl under ↦ fills.below i under ∙ sym (is.below i under)
        | inr from ↦ elim (cases_lt i hi) [
          | inl inside ↦ fills.within i from (omega arith) inside ∙ sym (is.within i from inside)
          | inr over ↦ fills.above i over ∙ sym (is.above i over)
        ]
      ])

-- ---- what is held stays

stays : (value : Value) (o : Option Value) → IsSome o → o ≡ Some (first_of o value)
stays value None some = absurd (cc)
stays value (Some held) some = refl

module _ (value : Value) where
  -- a held run is passed
  pub run_passed : (at begin end hi : ℕ) (es : List (ℕ × Value)) → IsIncreasingFrom 0 es → IsSome (value_at at es) → IsRunRound es at begin end → Fills first_of value at end hi es es
  run_passed at begin end hi es p some run =
      let begins = run.begins in
      piece_passed first_of value at end hi es p (λ i from to. run.equal i (omega arith) to) (stays value (value_at at es) some)

  -- a gap is filled
  pub gap_filled : (at end hi : ℕ) (x : Value) (old new : List (ℕ × Value)) → at < end → x ≡ value → IsIncreasingFrom 0 new
      → ((i : ℕ) → value_at i new ≡ (if nat_le at i && nat_lt i end then Some x else value_at i old)) → ((i : ℕ) → at ≤ i → i < end → value_at i old ≡ None) → end ≤ hi → Fills first_of value at end hi old new
  gap_filled at end hi x old new some same p set bare up_to =
      let none = bare at (omega arith) some in
      piece_set first_of value at end hi x old new same p set (λ i from to. bare i from to ∙ sym none) (ap (λ (o : Option Value). first_of o value) none) up_to

  -- where all is held already nothing changes
  pub no_news : (lo hi : ℕ) (es : List (ℕ × Value)) → IsIncreasingFrom 0 es → is_held lo hi es ≡ true → es ≡ with_met first_of lo hi value es
  no_news lo hi es p all =
      let each = (held lo hi es p).0 all in
      filled first_of value lo hi hi es es (omega arith) p
      (record { ordered = p; within = λ i from to inside. stays value (value_at i es) (each i from to); below = λ i a. refl; ahead = λ i a. refl; above = λ i a. refl })

pub no_change : (range : Decided) (learner : Learner) → IsIncreasingFrom 0 learner.held → is_held (max range.lo learner.base) range.hi learner.held ≡ true → learner ≡ with_range_learned range learner
no_change range learner p all = ap (λ (es : List (ℕ × Value)). record learner { held = es }) (no_news range.value (max range.lo learner.base) range.hi learner.held p all)

-- ---- whether a range is held

pub all_passed : (lo at hi : ℕ) (es : List (ℕ × Value)) → IsIncreasingFrom 0 es → hi ≤ at → ((i : ℕ) → lo ≤ i → i < at → IsSome (value_at i es)) → true ≡ is_held lo hi es
all_passed lo at hi es p all each = sym ((held lo hi es p).1 (λ i from to. each i from (omega arith)))

pub one_bare : (lo at hi : ℕ) (es : List (ℕ × Value)) → IsIncreasingFrom 0 es → lo ≤ at → at < hi → value_at at es ≡ None → false ≡ is_held lo hi es
one_bare lo at hi es p from to none =
    sym (not_true (is_held lo hi es) (λ all. let some = (held lo hi es p).0 all at from to in let no = subst (λ (o : Option Value). IsSome o) none some in absurd (cc)))

pub run_held : (lo at begin end : ℕ) (es : List (ℕ × Value)) → lo ≤ at → IsSome (value_at at es) → IsRunRound es at begin end → ((i : ℕ) → lo ≤ i → i < at → IsSome (value_at i es))
    → (i : ℕ) → lo ≤ i → i < end → IsSome (value_at i es)
run_held lo at begin end es begun some run before i from to =
    let begins = run.begins in
    elim (cases_lt i at) [
      | inl passed ↦ before i from passed
      | inr later ↦ subst (λ (o : Option Value). IsSome o) (sym (run.equal i (omega arith) to)) some
    ]

-- ---- the first gap

pub one_gap : (from gap_at : ℕ) (es : List (ℕ × Value)) → IsIncreasingFrom 0 es → IsNextGap es from gap_at → gap_at ≡ first_gap from es
one_gap from gap_at es p is =
    let own = gap from es p in
    let there = is.from_there in
    let own_there = own.from_there in
    elim (cases_lt gap_at (first_gap from es)) [
      | inl less ↦ let no = subst (λ (o : Option Value). IsSome o) is.not_held (own.held_before gap_at there less) in absurd (cc)
      | inr from_own ↦ elim (cases_lt (first_gap from es) gap_at) [
        | inl more ↦ let no = subst (λ (o : Option Value). IsSome o) own.not_held (is.held_before (first_gap from es) own_there more) in absurd (cc)
        | inr to ↦ omega arith
      ]
    ]

-- ---- what is held stays what may be learned

first_spelled : (o : Option Value) (value : Value) → ((v : Value) → o ≡ Some v → IsSpelled v) → IsSpelled value → IsSpelled (first_of o value)
first_spelled None value is spelled = spelled
first_spelled (Some held) value is spelled = is held refl

front_spelled : (lo : ℕ) (es : List (ℕ × Value)) → AllByRecursion IsLearned es → (v : Value) → front_at lo es ≡ Some v → IsSpelled v
front_spelled lo [] each v is = absurd (cc)
front_spelled lo (e ∷ es) each v is = by (nat_eq e.0 lo) is
  where
    by : (b : Bool) → (if b then Some e.1 else None) ≡ Some v → IsSpelled v
    by false same = absurd (cc)
    by true same = let one : e.1 ≡ v = cc in subst (λ (x : Value). IsSpelled x) one each.0.1

past_learned : (lo : ℕ) (es : List (ℕ × Value)) → AllByRecursion IsLearned es → AllByRecursion IsLearned (past_front lo es)
past_learned lo [] each = tt
past_learned lo (e ∷ es) each = by (nat_eq e.0 lo)
  where
    by : (b : Bool) → AllByRecursion IsLearned (if b then es else e ∷ es)
    by true = each.1
    by false = each

over_learned : (lo n : ℕ) (value : Value) (es : List (ℕ × Value)) → lo + n ≤ 2 ^ 40 → IsSpelled value → AllByRecursion IsLearned es → AllByRecursion IsLearned (met_over first_of lo n value es)
unfolding met_over
over_learned lo zero value es end spelled each = tt
over_learned lo (suc n) value es end spelled each =
    ((omega arith, first_spelled (front_at lo es) value (front_spelled lo es each) spelled), over_learned (suc lo) n value (past_front lo es) (omega arith) spelled (past_learned lo es each))

none_over : (lo : ℕ) (value : Value) (es : List (ℕ × Value)) → AllByRecursion IsLearned (met_over first_of lo 0 value es)
unfolding met_over
none_over lo value es = tt

met_each : (lo hi : ℕ) (value : Value) (es : List (ℕ × Value)) → hi ≤ 2 ^ 40 → IsSpelled value → AllByRecursion IsLearned es → AllByRecursion IsLearned (with_met first_of lo hi value es)
met_each lo hi value es end spelled each =
    append_all IsLearned (entries_before lo es ++ met_over first_of lo (hi - lo) value (entries_within lo hi es)) (entries_from (max lo hi) es)
    (append_all IsLearned (entries_before lo es) (met_over first_of lo (hi - lo) value (entries_within lo hi es)) (filter_all IsLearned (λ e. nat_lt e.0 lo) es each) (over (cases_lt lo hi)))
    (filter_all IsLearned (λ e. nat_le (max lo hi) e.0) es each)
  where
    within : AllByRecursion IsLearned (entries_within lo hi es)
    within = filter_all IsLearned (λ e. nat_lt e.0 hi) (entries_from lo es) (filter_all IsLearned (λ e. nat_le lo e.0) es each)

    over : (lo < hi) ⊎ (hi ≤ lo) → AllByRecursion IsLearned (met_over first_of lo (hi - lo) value (entries_within lo hi es))
    over (inl some) = over_learned lo (hi - lo) value (entries_within lo hi es) (omega arith) spelled within
    over (inr none) = let n : hi - lo ≡ 0 = omega arith in rw n (none_over lo value (entries_within lo hi es))

pub met_learned : (lo hi : ℕ) (value : Value) (es : List (ℕ × Value)) → hi ≤ 2 ^ 40 → IsSpelled value → AreLearned es → AreLearned (with_met first_of lo hi value es)
met_learned lo hi value es end spelled are = record {
  each = met_each lo hi value es end spelled are.each;
  ordered = (meets first_of value lo hi es are.ordered).in_order;
}

pub none_learned : AreLearned []
none_learned = record { each = tt; ordered = tt }

pub cut_learned : (i : ℕ) (es : List (ℕ × Value)) → AreLearned es → AreLearned (entries_from i es)
cut_learned i es are = record {
  each = filter_all IsLearned (λ e. nat_le i e.0) es are.each;
  ordered = increasing_entries_from 0 i 0 es are.ordered (inl (omega arith));
}
