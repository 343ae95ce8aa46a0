-- Lists of entries and ranges of which each stays as it has to be.
use Rattle.std.proofs.Common.{◌≡◌, ℕ, zero, suc, ◌+◌, ◌-◌, ◌<◌, ◌≤◌, max, Bool, true, false, List, [], ◌∷◌, ◌++◌, map, Option, Some, None, refl, sym, subst, arith}
use Rattle.std.specs.Prelude.{◌==◌, nat_lt, if◌then◌else◌, slice_set}
use Rattle.std.specs.List.{AllByRecursion}
use Rattle.std.proofs.lemmas.Bool.Decides.{nat_tests}
use Rattle.mrp_types.specs.declared.id.TheConstants.{END}
use Rattle.mrp_types.specs.declared.value.Value.{Value}
use Rattle.mrp_types.specs.declared.voted.Voted.{Voted}
use Rattle.mrp_types.specs.declared.voted.Decided.{Decided}
use Rattle.command_codec.specs.Parts.{IsSpelled}
use Rattle.range_map.specs.Entries.{entries_from, entries_before}
use Rattle.vote_state.specs.declared.cast.Cast.{Cast}
use Rattle.vote_state.specs.Ranges.{cast_of, ranges_of}
use Rattle.vote_state.specs.Valid.{IsVoted, IsHeld}
use Rattle.vote_state.proofs.StateLemmas.{filter_all, append_all}
use Rattle.vote_state.proofs.ValidLemmas.{ranges_valid}
use Rattle.frames.specs.Spelling.{decided_size}
use Rattle.plain_model.specs.Pages.{left_out}
use Rattle.plain_model.proofs.Pages.{front-longest}
use Rattle.protocol.specs.Learner.{decided_of, unballoted, learned_ranges, first_of, front_at, past_front, entries_within, met_over, with_met}
use Rattle.protocol.specs.Acceptor.{page_room, ranges_page}
use Rattle.protocol.specs.Ballots.{higher, with_reports}
use Rattle.step_valid.specs.Valid.{MayVote, MayLearn, IsLearned}
use Rattle.quorums.proofs.Each.{front_all}

pub all_mapped : {T U : Type 0} (g : T → U) (P : T → Type 0) (Q : U → Type 0) → ((x : T) → P x → Q (g x)) → (xs : List T) → AllByRecursion P xs → AllByRecursion Q (map g xs)
all_mapped g P Q h [] all = tt
all_mapped g P Q h (x ∷ xs) all = (h x all.0, all_mapped g P Q h xs all.1)

pub back_all : {T : Type 0} (P : T → Type 0) (front rest : List T) → AllByRecursion P (front ++ rest) → AllByRecursion P rest
back_all P [] rest all = all
back_all P (x ∷ front) rest all = back_all P front rest all.1

pub set_all : (xs : List ℕ) (k v : ℕ) → AllByRecursion (λ c. c ≤ END) xs → v ≤ END → AllByRecursion (λ c. c ≤ END) (slice_set xs k v)
set_all [] k v all le = tt
set_all (x ∷ xs) zero v all le = (le, all.1)
set_all (x ∷ xs) (suc k) v all le = (all.0, set_all xs k v all.1 le)

-- ---- entries that meet a range

module _ {T : Type 0} (met : Option T → T → T) (P : ℕ × T → Type 0) (v : T) where
  -- what an instance holds once the range has met what it held
  abbrev pub MeetsAt : ℕ → Type 0
  MeetsAt i = (o : Option T) → ((t : T) → o ≡ Some t → P (i, t)) → P (i, met o v)

  pub met_all : (lo n : ℕ) (es : List (ℕ × T)) → ((i : ℕ) → lo ≤ i → i < lo + n → MeetsAt i) → AllByRecursion P es → AllByRecursion P (met_over met lo n v es)
  unfolding met_over
  met_all lo zero es each all = tt
  met_all lo (suc n) es each all = (each lo (omega arith) (omega arith) (front_at lo es) (front es all), met_all (suc lo) n (past_front lo es) (λ i x y. each i (omega arith) (omega arith)) (rest es all))
    where
      front : (xs : List (ℕ × T)) → AllByRecursion P xs → (t : T) → front_at lo xs ≡ Some t → P (lo, t)
      front [] a t e = absurd (cc)
      front (x ∷ xs) a t e = go (x.0 == lo) refl e
        where
          go : (b : Bool) → (x.0 == lo) ≡ b → (if b then Some x.1 else None) ≡ Some t → P (lo, t)
          go true h is =
              let same : x.1 ≡ t = cc in
              let at : x.0 ≡ lo = grind (arith, nat_tests) in
              subst (λ (i : ℕ). P (i, t)) at (subst (λ (z : T). P (x.0, z)) same a.0)
          go false h is = absurd (cc)

      rest : (xs : List (ℕ × T)) → AllByRecursion P xs → AllByRecursion P (past_front lo xs)
      rest [] a = tt
      rest (x ∷ xs) a = go (x.0 == lo)
        where
          go : (b : Bool) → AllByRecursion P (if b then xs else x ∷ xs)
          go true = a.1
          go false = a

  pub with_met_all : (lo hi : ℕ) (es : List (ℕ × T)) → ((i : ℕ) → lo ≤ i → i < hi → MeetsAt i) → AllByRecursion P es → AllByRecursion P (with_met met lo hi v es)
  with_met_all lo hi es each all =
      append_all P (entries_before lo es ++ met_over met lo (hi - lo) v (entries_within lo hi es)) (entries_from (max lo hi) es)
      (append_all P (entries_before lo es) (met_over met lo (hi - lo) v (entries_within lo hi es)) (filter_all P _ es all)
      (met_all lo (hi - lo) (entries_within lo hi es) (λ i x y. each i x (omega arith)) (filter_all P _ (entries_from lo es) (filter_all P _ es all))))
      (filter_all P _ es all)

-- ---- reports

abbrev Spelled : ℕ × Cast → Type 0
Spelled e = IsSpelled e.1.value

higher_spelled : (i : ℕ) (v : Cast) → IsSpelled v.value → MeetsAt higher Spelled v i
higher_spelled i v is None held = is
higher_spelled i v is (Some cast) held = go (nat_lt cast.ballot v.ballot)
  where
    go : (b : Bool) → IsSpelled (if b then v else cast).value
    go true = is
    go false = held cast refl

pub reports_spelled : (from : ℕ) (votes : List Voted) (reports : List (ℕ × Cast)) → AllByRecursion IsVoted votes → AllByRecursion Spelled reports
    → AllByRecursion Spelled (with_reports from votes reports)
reports_spelled from [] reports all r = r
reports_spelled from (vote ∷ votes) reports all r =
    reports_spelled from votes (with_met higher (max vote.lo from) vote.hi (cast_of vote) reports) all.1
    (with_met_all higher Spelled (cast_of vote) (max vote.lo from) vote.hi reports (λ i x y. higher_spelled i (cast_of vote) all.0.value) r)

-- ---- what is learned

pub decided_may : (vote : Voted) → MayVote vote → MayLearn (decided_of vote)
decided_may vote may = λ lt. let v : IsVoted vote = may lt in record { end = v.end; alone = v.alone; value = v.value }

first_learned : (i : ℕ) (v : Value) → i < END → IsSpelled v → MeetsAt first_of IsLearned v i
first_learned i v lt is None held = (lt, is)
first_learned i v lt is (Some value) held = held value refl

pub learned_met : (range : Decided) (lo : ℕ) (held : List (ℕ × Value)) → range.lo ≤ lo → MayLearn range → AllByRecursion IsLearned held
    → AllByRecursion IsLearned (with_met first_of lo range.hi range.value held)
learned_met range lo held from may all =
    with_met_all first_of IsLearned range.value lo range.hi held (λ i x y. let d = may (omega arith) in let end = d.end in first_learned i range.value (omega arith) d.value) all

-- a page of what was learned
pub page_may : (lo : ℕ) (held : List (ℕ × Value)) → AllByRecursion IsLearned held → AllByRecursion MayLearn (ranges_page (learned_ranges (entries_from lo held)))
page_may lo held all =
    let there : AllByRecursion IsLearned (entries_from lo held) = filter_all IsLearned _ held all in
    let votes : AllByRecursion IsHeld (map (λ (e : ℕ × Value). (e.0, unballoted e.1)) (entries_from lo held)) =
    all_mapped (λ (e : ℕ × Value). (e.0, unballoted e.1)) IsLearned IsHeld (λ e is. (is.0, omega arith, is.1)) (entries_from lo held) there in
    let ranges : AllByRecursion MayLearn (learned_ranges (entries_from lo held)) =
    all_mapped decided_of IsVoted MayLearn (λ vote is. decided_may vote (λ lt. is)) (ranges_of (map (λ (e : ℕ × Value). (e.0, unballoted e.1)) (entries_from lo held)))
    (ranges_valid (map (λ (e : ℕ × Value). (e.0, unballoted e.1)) (entries_from lo held)) votes) in
    front_all MayLearn (ranges_page (learned_ranges (entries_from lo held))) (left_out (ranges_page (learned_ranges (entries_from lo held))) (learned_ranges (entries_from lo held)))
    (subst (λ (l : List Decided). AllByRecursion MayLearn l) (sym (front-longest decided_size page_room (learned_ranges (entries_from lo held))).whole) ranges)
