-- Pages of votes and of decided ranges are in order, without overlap, and maximal.
use Rattle.std.proofs.Common.{◌≡◌, inl, inr, ℕ, zero, suc, ◌-◌, ◌<◌, ◌≤◌, max, Bool, true, false, true≢false, ◌&&◌, List, [], ◌∷◌, ◌++◌, length, drop, Some, None, refl, sym, ◌∙◌, subst, arith}
use Rattle.std.specs.Prelude.{◌==◌, nat_eq, nat_le, not, if◌then◌else◌, sum_by}
use Rattle.std.specs.List.{AllByRecursion}
use Rattle.std.proofs.lemmas.Bool.{and_parts, cases_lt}
use Rattle.std.proofs.lemmas.Bool.Decides.{nat_tests}
use Rattle.mrp_types.specs.declared.id.TheConstants.{END}
use Rattle.mrp_types.specs.declared.value.Value.{Value}
use Rattle.mrp_types.specs.declared.value.Value.TheVariants.{Skip, Batch}
use Rattle.mrp_types.specs.declared.voted.Voted.{Voted}
use Rattle.mrp_types.specs.declared.voted.Decided.{Decided}
use Rattle.mrp_types.specs.Values.{is_skip}
use Rattle.command_codec.proofs.PartLaws.{value_short}
use Rattle.range_map.specs.Entries.{entries_from, IsIncreasingFrom}
use Rattle.range_map.proofs.EntryLemmas.{increasing_entries_from}
use Rattle.vote_state.specs.declared.ring.RingState.{RingState}
use Rattle.vote_state.specs.State.{IsKept}
use Rattle.vote_state.specs.Valid.{IsVoted, IsHeld}
use Rattle.vote_state.specs.Ranges.{cast_of, ranges_of, cast_at, AreInOrderFrom, IsApartFrom, AreApart, AreMaximalRanges}
use Rattle.vote_state.proofs.RangeLemmas.{cast_eq, one_to}
use Rattle.vote_state.proofs.MaximalLemmas.{cast_within, maximal_from}
use Rattle.vote_state.proofs.StateLemmas.{filter_all}
use Rattle.vote_state.proofs.ValidLemmas.{ranges_valid}
use Rattle.frames.specs.declared.lists.Before.{Before}
use Rattle.frames.specs.Ranges.{nothing_before, after_vote, after_decided, may_skip}
use Rattle.frames.specs.Spelling.{vote_size, decided_size}
use Rattle.frames.specs.Valid.{AreVotes, AreRanges}
use Rattle.plain_model.specs.Pages.{front_within, left_out}
use Rattle.plain_model.proofs.Pages.{front-longest}
use Rattle.plain_model.proofs.TupleOrder.{same_number}
use Rattle.ring_kept.proofs.Keeping.{cut_below}
use Rattle.protocol.specs.Acceptor.{page_room, votes_page, ranges_page, page_end}
use Rattle.protocol.specs.Learner.{learned_ranges}
use Rattle.protocol.specs.Meaning.{AreInTurnFrom, IsUnjoined, AreUnjoined}
use Rattle.protocol.proofs.RangeLemmas.{learned_maximal}
use Rattle.step_valid.specs.Valid.{MayLearn, IsLearned}
use Rattle.step_valid.proofs.Listed.{page_may}
use Rattle.step_shape.specs.Shaped.{IsVotesPage, IsRangesPage}

-- ---- neighbours

skips : (a b : Value) → is_skip a ≡ true → is_skip b ≡ true → a ≡ b
skips Skip Skip s t = refl
skips Skip (Batch b) s t = absurd (true≢false (sym t))
skips (Batch a) b s t = absurd (true≢false (sym s))

-- ---- votes

abbrev StartsApart : Before → List Voted → Type 0
StartsApart before [] = Unit {0}
StartsApart before (v ∷ votes) = is_skip v.value ≡ true → may_skip before v.lo v.ballot ≡ true

next_apart : (v : Voted) (votes : List Voted) → IsApartFrom v votes → StartsApart (after_vote v) votes
next_apart v [] apart = tt
next_apart v (next ∷ votes) apart = λ skip. go skip (is_skip v.value && ((next.lo == v.hi) && (next.ballot == v.ballot))) refl
  where
    go : is_skip next.value ≡ true → (b : Bool) → (is_skip v.value && ((next.lo == v.hi) && (next.ballot == v.ballot))) ≡ b → not b ≡ true
    go skip false e = refl
    go skip true e =
        let first = and_parts (is_skip v.value) ((next.lo == v.hi) && (next.ballot == v.ballot)) e in
        let second = and_parts (next.lo == v.hi) (next.ballot == v.ballot) first.1 in
        let touch : v.hi ≡ next.lo = sym (same_number next.lo v.hi second.0) in
        let same = cast_eq (cast_of v) (cast_of next) (sym (same_number next.ballot v.ballot second.1)) (skips v.value next.value first.0 skip) in
        absurd (true≢false (sym (one_to v.hi (cast_of v) next touch same first.0) ∙ apart))

votes_are : (before : Before) (votes : List Voted) → AllByRecursion IsVoted votes → AreInOrderFrom before.end votes → AreApart votes → StartsApart before votes → AreVotes before votes
votes_are before [] all order apart starts = tt
votes_are before (v ∷ votes) all order apart starts =
    let is = all.0 in (
      record { behind = order.0; range = (is.range, is.end); stands = record { spelled = is.value; alone = λ e. let one = is.alone e in omega arith }; apart = starts },
      is.ballot,
      votes_are (after_vote v) votes all.1 order.2 apart.1 (next_apart v votes apart.0),
    )

votes_front : (before : Before) (front rest : List Voted) → AreVotes before (front ++ rest) → AreVotes before front
votes_front before [] rest are = tt
votes_front before (v ∷ front) rest are = (are.0, are.1, votes_front (after_vote v) front rest are.2)

first_apart : (votes : List Voted) → StartsApart nothing_before votes
first_apart [] = tt
first_apart (v ∷ votes) = λ skip. refl

pub votes_fit : (votes : List Voted) → AllByRecursion IsVoted votes → AreInOrderFrom 0 votes → AreApart votes → IsVotesPage (votes_page votes)
votes_fit votes all order apart =
    let longest = front-longest vote_size page_room votes in
    record {
      are = votes_front nothing_before (votes_page votes) (left_out (votes_page votes) votes)
          (subst (λ (l : List Voted). AreVotes nothing_before l) (sym longest.whole) (votes_are nothing_before votes all order apart (first_apart votes)));
      room = longest.fits;
    }

-- ---- the end of a page of votes

after_drop : (x k n : ℕ) (votes : List Voted) → AreInOrderFrom k votes → x < k → x < END → x < page_end (drop n votes)
after_drop x k zero [] order low under = under
after_drop x k (suc n) [] order low under = under
after_drop x k zero (v ∷ votes) order low under = let first = order.0 in omega arith
after_drop x k (suc n) (v ∷ votes) order low under = let first = order.0 in let some = order.1 in after_drop x v.hi n votes order.2 (omega arith) under

page_past : (x : ℕ) (votes : List Voted) → x < END → AllByRecursion IsVoted votes → AreInOrderFrom 0 votes → ((v : Voted) (vs : List Voted) → votes ≡ v ∷ vs → x ≤ v.lo) → x < page_end (left_out (votes_page votes) votes)
page_past x [] under all order from = under
page_past x (v ∷ votes) under all order from = go (nat_le (vote_size v) page_room) refl
  where
    go : (b : Bool) → nat_le (vote_size v) page_room ≡ b → x < page_end (left_out (if b then v ∷ front_within vote_size (page_room - vote_size v) votes else []) (v ∷ votes))
    go true e =
        let some = order.1 in
        let first = from v votes refl in
        after_drop x v.hi (length (front_within vote_size (page_room - vote_size v) votes)) votes order.2 (omega arith) under
    go false e =
        let short = value_short v.value all.0.value in
        absurd (let no : nat_le (vote_size v) page_room ≡ true = grind (arith, nat_tests) in true≢false (sym no ∙ e))

-- what an acceptor tells of its votes from an instance on
module _ (kept : RingState) (k : IsKept kept) (lo : ℕ) where
  abbrev pub told_votes : List Voted
  told_votes = ranges_of (entries_from (max lo kept.trim) kept.votes)

  told_maximal : AreMaximalRanges (entries_from (max lo kept.trim) kept.votes) told_votes
  told_maximal = maximal_from kept.votes (max lo kept.trim) k.ordered

  told_voted : AllByRecursion IsVoted told_votes
  told_voted = ranges_valid (entries_from (max lo kept.trim) kept.votes) (filter_all IsHeld _ kept.votes k.votes)

  pub told_page : IsVotesPage (votes_page told_votes)
  told_page = votes_fit told_votes told_voted told_maximal.in_order told_maximal.apart

  -- the page goes past its begin
  pub told_past : lo < END → lo < page_end (left_out (votes_page told_votes) told_votes)
  told_past under = page_past lo told_votes under told_voted told_maximal.in_order (λ v vs e. first v vs e)
    where
      first : (v : Voted) (vs : List Voted) → told_votes ≡ v ∷ vs → lo ≤ v.lo
      first v vs e = elim (cases_lt v.lo (max lo kept.trim)) [
        | inr from ↦ omega arith
        | inl below ↦
            let order : AreInOrderFrom 0 (v ∷ vs) = subst (λ (l : List Voted). AreInOrderFrom 0 l) e told_maximal.in_order in
            let held : cast_at v.lo (v ∷ vs) ≡ Some (cast_of v) = cast_within v vs v.lo (omega arith) order.1 in
            let none : cast_at v.lo (v ∷ vs) ≡ None = subst (λ (l : List Voted). cast_at v.lo l ≡ None) e (told_maximal.same v.lo ∙ cut_below (max lo kept.trim) kept.votes v.lo below) in
            absurd (let no = sym held ∙ none in cc)
      ]

-- ---- decided ranges

abbrev StartsUnjoined : Before → List Decided → Type 0
StartsUnjoined before [] = Unit {0}
StartsUnjoined before (d ∷ ranges) = is_skip d.value ≡ true → may_skip before d.lo 0 ≡ true

next_unjoined : (d : Decided) (ranges : List Decided) → IsUnjoined d ranges → StartsUnjoined (after_decided d) ranges
next_unjoined d [] apart = tt
next_unjoined d (next ∷ ranges) apart = λ skip. go skip (is_skip d.value && ((next.lo == d.hi) && (0 == 0))) refl
  where
    go : is_skip next.value ≡ true → (b : Bool) → (is_skip d.value && ((next.lo == d.hi) && (0 == 0))) ≡ b → not b ≡ true
    go skip false e = refl
    go skip true e =
        let first = and_parts (is_skip d.value) ((next.lo == d.hi) && (0 == 0)) e in
        let second = and_parts (next.lo == d.hi) (0 == 0) first.1 in
        let touch : next.lo ≡ d.hi = same_number next.lo d.hi second.0 in
        let here : nat_eq d.hi next.lo ≡ true = grind (arith, nat_tests) in
        let both : (nat_eq d.hi next.lo && (is_skip d.value && is_skip next.value)) ≡ true = rw (here, first.0, skip) refl in
        absurd (true≢false (sym both ∙ apart))

ranges_are : (before : Before) (ranges : List Decided) → AllByRecursion MayLearn ranges → AreInTurnFrom before.end ranges → AreUnjoined ranges → StartsUnjoined before ranges → AreRanges before ranges
ranges_are before [] all turn apart starts = tt
ranges_are before (d ∷ ranges) all turn apart starts =
    let is = all.0 turn.1 in (
      record { behind = turn.0; range = (turn.1, is.end); stands = record { spelled = is.value; alone = λ e. let one = is.alone e in omega arith }; apart = starts },
      ranges_are (after_decided d) ranges all.1 turn.2 apart.1 (next_unjoined d ranges apart.0),
    )

turn_front : (k : ℕ) (front rest : List Decided) → AreInTurnFrom k (front ++ rest) → AreInTurnFrom k front
turn_front k [] rest turn = tt
turn_front k (d ∷ front) rest turn = (turn.0, turn.1, turn_front d.hi front rest turn.2)

unjoined_front : (front rest : List Decided) → AreUnjoined (front ++ rest) → AreUnjoined front
unjoined_front [] rest apart = tt
unjoined_front (d ∷ []) rest apart = (tt, tt)
unjoined_front (d ∷ e ∷ front) rest apart = (apart.0, unjoined_front (e ∷ front) rest apart.1)

first_unjoined : (ranges : List Decided) → StartsUnjoined nothing_before ranges
first_unjoined [] = tt
first_unjoined (d ∷ ranges) = λ skip. refl

-- a page of what was learned, where it has a range
pub learned_page : (lo : ℕ) (held : List (ℕ × Value)) → AllByRecursion IsLearned held → IsIncreasingFrom 0 held → (ranges : List Decided) → ranges_page (learned_ranges (entries_from lo held)) ≡ ranges
    → 1 ≤ length ranges → IsRangesPage ranges
learned_page lo held all order ranges is some =
    let longest = front-longest decided_size page_room (learned_ranges (entries_from lo held)) in
    let page : List Decided = ranges_page (learned_ranges (entries_from lo held)) in
    let rest : List Decided = left_out page (learned_ranges (entries_from lo held)) in
    let maximal = learned_maximal (entries_from lo held) (increasing_entries_from 0 lo 0 held order (inl (omega arith))) in
    let turn : AreInTurnFrom 0 (page ++ rest) = subst (λ (l : List Decided). AreInTurnFrom 0 l) (sym longest.whole) maximal.in_turn in
    let apart : AreUnjoined (page ++ rest) = subst (λ (l : List Decided). AreUnjoined l) (sym longest.whole) maximal.unjoined in
    let are : AreRanges nothing_before page = ranges_are nothing_before page (page_may lo held all) (turn_front 0 page rest turn) (unjoined_front page rest apart) (first_unjoined page) in
    record {
      are = subst (λ (l : List Decided). AreRanges nothing_before l) is are;
      room = subst (λ (l : List Decided). sum_by decided_size l ≤ page_room) is longest.fits;
      some = some;
    }
