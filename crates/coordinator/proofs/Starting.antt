-- The start of a ballot: the own votes as reports, and what it makes.
use Rattle.std.proofs.Common.{◌≡◌, ℕ, zero, suc, ◌<◌, ◌≤◌, max, true, false, Bool, List, [], ◌∷◌, ◌++◌, ◌^◌, length, refl, sym, ◌∙◌, ap, subst, arith, inl, inr}
use Rattle.std.specs.Prelude.{slice_index_or, Option, Some, None, nat_eq, nat_lt, if◌then◌else◌}
use Rattle.std.proofs.lemmas.Bool.{cases_lt}
use Rattle.mrp_types.specs.declared.id.RingId.{RingId}
use Rattle.mrp_types.specs.declared.voted.Voted.{Voted}
use Rattle.range_map.specs.Entries.{value_at, IsIncreasingFrom, entries_from, with_range}
use Rattle.range_map.proofs.SetLemmas.{le-true}
use Rattle.range_map.proofs.RunsLemmas.{within-true, within-below, within-above}
use Rattle.range_map.proofs.EntryLemmas.{lt-true, same_entries, increasing_with_range, value_at-with_range, increasing_entries_from}
use Rattle.vote_state.specs.declared.cast.Cast.{Cast}
use Rattle.vote_state.specs.declared.ring.RingState.{RingState}
use Rattle.vote_state.specs.declared.change.Change.{Change}
use Rattle.vote_state.specs.declared.change.Change.TheVariants.{Epoch, Promise, Vote, Trim}
use Rattle.vote_state.specs.Ranges.{cast_of, ranges_of, AreInOrderFrom, votes_of_ranges}
use Rattle.std.specs.List.{AllByRecursion}
use Rattle.vote_state.specs.State.{State, IsState, IsKept, no_votes, ring_at, trim_at, votes_at, trim_after, with_promise, with_vote, with_trim}
use Rattle.vote_state.proofs.OneList.{votes_again}
use Rattle.vote_state.proofs.MaximalLemmas.{are_maximal}
use Rattle.ring_kept.specs.Kept.{kept_after}
use Rattle.protocol.specs.Learner.{with_met}
use Rattle.protocol.specs.Ballots.{higher, with_reports, covered_at_start, new_campaign, campaigns, greatest_seen, least_above, own_ballot}
use Rattle.protocol.specs.Parts.{Ring, Campaign, Active, Coordinator, Part}
use Rattle.protocol.specs.Rings.{other_acceptors, sends_each}
use Rattle.protocol.specs.Effects.{in_role, no_effects}
use Rattle.protocol.specs.Acceptor.{promises}
use Rattle.frames.specs.declared.body.Body.TheVariants.{Prepare}
use Rattle.frames.specs.declared.sent.Sent.{Sent}
use Rattle.skip_leveller.specs.Levelling.{Levelling, levelling_after}
use Rattle.coordinator.specs.Standing.{Led, with_table, led_in, Begins}
use Rattle.protocol.proofs.EntryLemmas.{meets}
use Rattle.mrp_types.specs.declared.members.RingView.{RingView}
use Rattle.ring_link.specs.Silence.{Link}
use Rattle.ring_view.specs.Views.{Shows}
use Rattle.ring_view.specs.Kept.{OnlyRaises}
use Rattle.ring_view.proofs.KeptLemmas.{later_from}

-- ---- the own votes as reports

-- where nothing was reported, a range is reported as it is
one_reported : (r : Voted) (reports : List (ℕ × Cast)) → r.lo < r.hi → IsIncreasingFrom 0 reports → ((i : ℕ) → r.lo ≤ i → value_at i reports ≡ None)
    → with_met higher (max r.lo 0) r.hi (cast_of r) reports ≡ with_range r.lo r.hi (cast_of r) reports
one_reported r reports some p none =
    let is = meets higher (cast_of r) (max r.lo 0) r.hi reports p in
    let begin : max r.lo 0 ≡ r.lo = omega arith in
    same_entries 0 (with_met higher (max r.lo 0) r.hi (cast_of r) reports) (with_range r.lo r.hi (cast_of r) reports) is.in_order (increasing_with_range r.lo r.hi (cast_of r) reports some p)
    (λ i. elim (cases_lt i r.lo) [
      | inl under ↦ is.below i (omega arith) ∙ sym (value_at-with_range r.lo r.hi (cast_of r) reports i some ∙ rw (within-below r.lo r.hi i under) refl)
      | inr from ↦ elim (cases_lt i r.hi) [
        | inl inside ↦ is.within i (omega arith) inside ∙ ap (λ (o : Option Cast). Some (higher o (cast_of r))) (none i from)
            ∙ sym (value_at-with_range r.lo r.hi (cast_of r) reports i some ∙ rw (within-true r.lo r.hi i from inside) refl)
        | inr over ↦ is.above i over ∙ sym (value_at-with_range r.lo r.hi (cast_of r) reports i some ∙ rw (within-above r.lo r.hi i over) refl)
      ]
    ])

all_reported : (k : ℕ) (ranges : List Voted) (reports : List (ℕ × Cast)) → AreInOrderFrom k ranges → IsIncreasingFrom 0 reports → ((i : ℕ) → k ≤ i → value_at i reports ≡ None)
    → with_reports 0 ranges reports ≡ votes_of_ranges ranges reports
all_reported k [] reports order p none = refl
all_reported k (r ∷ rs) reports order p none =
    let begins = order.0 in
    let some = order.1 in
    ap (λ (es : List (ℕ × Cast)). with_reports 0 rs es) (one_reported r reports some p (λ i a. none i (omega arith)))
    ∙ all_reported r.hi rs (with_range r.lo r.hi (cast_of r) reports) order.2 (increasing_with_range r.lo r.hi (cast_of r) reports some p)
    (λ i a. value_at-with_range r.lo r.hi (cast_of r) reports i some ∙ rw (within-above r.lo r.hi i a) (none i (omega arith)))

-- the votes as ranges, reported one after another, are the votes
pub own_reports : (votes : List (ℕ × Cast)) → IsIncreasingFrom 0 votes → with_reports 0 (ranges_of votes) [] ≡ votes
own_reports votes p =
    let are = are_maximal votes p in
    all_reported 0 (ranges_of votes) [] are.in_order tt (λ i a. refl) ∙ votes_again votes p

pub reports_from : (from : ℕ) (votes : List (ℕ × Cast)) → IsIncreasingFrom 0 votes → with_reports 0 (ranges_of (entries_from from votes)) [] ≡ entries_from from votes
reports_from from votes p = own_reports (entries_from from votes) (increasing_entries_from 0 from 0 votes p (inl (omega arith)))

-- ---- what is kept of the votes

all_from : (votes : List (ℕ × Cast)) → entries_from 0 votes ≡ votes
all_from [] = refl
all_from (e ∷ es) = rw (le-true 0 e.0 (omega arith)) (ap (λ (x : List (ℕ × Cast)). e ∷ x) (all_from es))

-- while the trim never falls, the changes drop the votes below the last trim that they tell
kept_so_far : (ring : RingId) (cs : List Change) (kept : RingState) (from : ℕ) (votes : List (ℕ × Cast)) → OnlyRaises ring kept.trim cs → from ≤ kept.trim → kept.votes ≡ entries_from from votes
    → (kept_after ring cs kept).votes ≡ entries_from (trim_after ring cs from) votes
kept_so_far ring [] kept from votes only up is = is
kept_so_far ring (Epoch epoch ∷ cs) kept from votes only up is = kept_so_far ring cs kept from votes only up is
kept_so_far ring (Promise other ballot ∷ cs) kept from votes only up is = by (nat_eq other.0 ring.0) (λ k. kept_so_far ring cs k from votes)
  where
    by : (b : Bool) → ((k : RingState) → OnlyRaises ring k.trim cs → from ≤ k.trim → k.votes ≡ entries_from from votes → (kept_after ring cs k).votes ≡ entries_from (trim_after ring cs from) votes)
        → (kept_after ring cs (if b then with_promise ballot kept else kept)).votes ≡ entries_from (trim_after ring cs from) votes
    by true rest = rest (with_promise ballot kept) only up is
    by false rest = rest kept only up is
kept_so_far ring (Vote other v ∷ cs) kept from votes only up is = by (nat_eq other.0 ring.0) only.0 (kept_so_far ring cs kept from votes only.1 up is)
  where
    by : (b : Bool) → b ≡ false → (kept_after ring cs kept).votes ≡ entries_from (trim_after ring cs from) votes
        → (kept_after ring cs (if b then with_vote v kept else kept)).votes ≡ entries_from (trim_after ring cs from) votes
    by false e rest = rest
    by true e rest = absurd (cc)
kept_so_far ring (Trim other inst ∷ cs) kept from votes only up is = by (nat_eq other.0 ring.0) (λ k f. kept_so_far ring cs k f votes) only
  where
    by : (b : Bool) → ((k : RingState) (f : ℕ) → OnlyRaises ring k.trim cs → f ≤ k.trim → k.votes ≡ entries_from f votes → (kept_after ring cs k).votes ≡ entries_from (trim_after ring cs f) votes)
        → (kept.trim ≤ (if b then inst else kept.trim)) × OnlyRaises ring (if b then inst else kept.trim) cs
        → (kept_after ring cs (if b then with_trim inst kept else kept)).votes ≡ entries_from (trim_after ring cs (if b then inst else from)) votes
    by true rest more =
        let rises = more.0 in
        rest (with_trim inst kept) inst more.1 (omega arith) (ap (λ (es : List (ℕ × Cast)). entries_from inst es) is ∙ later_from inst from votes (omega arith))
    by false rest more = rest kept from more.1 up is

pub kept_votes : (ring : RingId) (cs : List Change) (kept : RingState) → OnlyRaises ring kept.trim cs → (kept_after ring cs kept).votes ≡ entries_from (trim_after ring cs 0) kept.votes
kept_votes ring cs kept only = kept_so_far ring cs kept 0 kept.votes only (omega arith) (sym (all_from kept.votes))

-- ---- what a start makes

-- the ballot begins where the trim is, with the kept votes reported
pub campaign_is : (ring : Ring) (ballot trim from : ℕ) (kept : RingState) (votes : List (ℕ × Cast)) (ranges : List Voted) (reports : List (ℕ × Cast)) (covered : List ℕ) (leveller : Levelling) (campaign : Campaign)
    → campaign ≡ (record { ballot = ballot; next = trim; covered = covered; reports = reports; outstanding = []; pending = []; leveller = leveller }) → IsIncreasingFrom 0 votes → ranges ≡ ranges_of (entries_from from votes)
    → reports ≡ with_reports 0 ranges [] → covered ≡ covered_at_start ring trim → leveller ≡ levelling_after ring.lambda ring.delta []
    → kept.trim ≡ trim → kept.votes ≡ entries_from from votes → campaign ≡ new_campaign ring ballot kept
campaign_is ring ballot trim from kept votes ranges reports covered leveller campaign is p ranges_is reports_is covered_is leveller_is trim_is votes_is =
    let told : reports ≡ kept.votes = reports_is ∙ ap (λ (rs : List Voted). with_reports 0 rs []) ranges_is ∙ reports_from from votes p ∙ sym votes_is in
    is
    ∙ ap (λ (es : List (ℕ × Cast)). let c : Campaign = record { ballot = ballot; next = trim; covered = covered; reports = es; outstanding = []; pending = []; leveller = leveller } in c) told
    ∙ ap (λ (ns : List ℕ). let c : Campaign = record { ballot = ballot; next = trim; covered = ns; reports = kept.votes; outstanding = []; pending = []; leveller = leveller } in c) covered_is
    ∙ ap (λ (l : Levelling). let c : Campaign = record { ballot = ballot; next = trim; covered = covered_at_start ring trim; reports = kept.votes; outstanding = []; pending = []; leveller = l } in c) leveller_is
    ∙ ap (λ (t : ℕ). let c : Campaign = record { ballot = ballot; next = t; covered = covered_at_start ring t; reports = kept.votes; outstanding = []; pending = []; leveller = levelling_after ring.lambda ring.delta [] } in c) (sym trim_is)

pub starts : (ring : Ring) (ballot : ℕ) (part : Part) (old new : Led) (campaign : Campaign) (c d : List Change) (f g : List Sent) (id : RingId) (trim : ℕ)
    → old.table ≡ part.coordinator → campaign ≡ new_campaign ring ballot part.kept → new ≡ led_in (Active campaign) old → id ≡ ring.id → part.kept.trim ≡ trim
    → d ≡ c ++ Promise id ballot ∷ [] → g ≡ f ++ sends_each ring (other_acceptors ring) (Prepare ring.id ballot trim)
    → Begins (campaigns ring ballot (promises ring ballot (no_effects part))) old new c d f g
starts ring ballot part old new campaign c d f g id trim table is made same trimmed changed sent = record {
  table = made ∙ ap (λ (x : Campaign). led_in (Active x) old) is ∙ ap (λ (t : Coordinator). with_table (in_role (Active (new_campaign ring ballot part.kept)) t) old) table;
  added = record {
    changes = changed ∙ ap (λ (i : RingId). c ++ Promise i ballot ∷ []) same;
    frames = sent ∙ ap (λ (t : ℕ). f ++ sends_each ring (other_acceptors ring) (Prepare ring.id ballot t)) (sym trimmed);
  };
}

each_ordered : (rings : List RingState) (i : ℕ) → AllByRecursion IsKept rings → IsIncreasingFrom 0 (slice_index_or rings i no_votes).votes
each_ordered [] i each = tt
each_ordered (r ∷ rings) zero each = each.0.ordered
each_ordered (r ∷ rings) (suc i) each = each_ordered rings i each.1

pub votes_ordered : (state : State) (ring : RingId) → IsState state → IsIncreasingFrom 0 (votes_at state ring)
votes_ordered state ring is = each_ordered state.rings ring.0 is.each

pub leveller_is : (leveller : Levelling) (l d lambda delta : ℕ) → leveller ≡ levelling_after l d [] → l ≡ lambda → d ≡ delta → leveller ≡ levelling_after lambda delta []
leveller_is leveller l d lambda delta is a b = is ∙ ap (λ (n : ℕ). levelling_after n d []) a ∙ ap (λ (n : ℕ). levelling_after lambda n []) b

pub votes_shown : (view : RingView) (durable : State) (changes seen : List Change) (ring : Ring) (link : Link) (part : Part) (from : ℕ) → Shows view durable changes ring link part
    → OnlyRaises ring.id (trim_at durable ring.id) changes → seen ≡ changes → from ≡ trim_after view.ring seen 0 → part.kept.votes ≡ entries_from from (votes_at durable view.ring)
votes_shown view durable changes seen ring link part from shows only same is =
    ap (λ (r : RingState). r.votes) shows.kept ∙ kept_votes ring.id changes (ring_at durable ring.id) only
    ∙ ap (λ (id : RingId). entries_from (trim_after id changes 0) (votes_at durable id)) (sym shows.is_view.id)
    ∙ ap (λ (cs : List Change). entries_from (trim_after view.ring cs 0) (votes_at durable view.ring)) (sym same)
    ∙ ap (λ (n : ℕ). entries_from n (votes_at durable view.ring)) (sym is)

pub owned : (ring : Ring) (part : Part) (position floor ballot : ℕ) → floor ≡ greatest_seen part → ballot ≡ least_above floor (length ring.acceptors) position → ballot ≡ own_ballot ring part position
owned ring part position floor ballot greatest is = is ∙ ap (λ (n : ℕ). least_above n (length ring.acceptors) position) greatest

pub told_true : (ballot own : ℕ) → ballot ≡ own → ballot < 2 ^ 48 → true ≡ nat_lt own (2 ^ 48)
told_true ballot own same under = sym (lt-true own (2 ^ 48) (subst (λ (n : ℕ). n < 2 ^ 48) same under))
