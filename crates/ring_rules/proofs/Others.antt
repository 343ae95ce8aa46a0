-- The other rules of a ring: what tells what was decided, refusals, commands, trims, and what is sent again.
use Rattle.std.proofs.Common.{◌≡◌, inl, inr, ℕ, zero, suc, ◌<◌, ◌≤◌, max, Bool, true, false, ◌&&◌, List, [], ◌∷◌, ◌++◌, Some, None, refl, sym, ◌∙◌, ap, subst, arith, length}
use Rattle.std.specs.Prelude.{◌==◌, nat_lt, nat_le, if◌then◌else◌}
use Rattle.std.specs.List.{AllByRecursion}
use Rattle.std.proofs.lemmas.Bool.{cases_lt}
use Rattle.std.proofs.lemmas.Bool.Decides.{nat_tests}
use Rattle.mrp_types.specs.declared.id.NodeId.{NodeId}
use Rattle.mrp_types.specs.declared.id.ClientId.{ClientId}
use Rattle.mrp_types.specs.declared.id.TheConstants.{END}
use Rattle.mrp_types.specs.declared.value.Value.{Value}
use Rattle.mrp_types.specs.declared.value.Entry.{Entry}
use Rattle.mrp_types.specs.declared.voted.Decided.{Decided}
use Rattle.range_map.specs.Entries.{value_at, IsIncreasingFrom, entries_from}
use Rattle.range_map.proofs.EntryLemmas.{increasing_entries_from}
use Rattle.vote_state.specs.declared.ring.RingState.{RingState}
use Rattle.ring_link.specs.Silence.{Link}
use Rattle.frames.specs.Spelling.{decided_size}
use Rattle.frames.specs.declared.body.Body.TheVariants as body
use Rattle.plain_model.specs.Pages.{left_out}
use Rattle.plain_model.proofs.Pages.{front-longest}
use Rattle.quorums.specs.Groups.{Has}
use Rattle.ring_reach.specs.Reach.{seen, proposal}
use Rattle.ring_reach.proofs.Reaching.{seen_own}
use Rattle.protocol.specs.Lines.{InstanceLimit}
use Rattle.protocol.specs.Parts.{Ring, Campaign, Role, Idle, Active, Part, Effects}
use Rattle.protocol.specs.Rings.{position_of, owner_of, has_bit, next_member, next_acceptor, sends}
use Rattle.protocol.specs.Effects.{with_frames, with_campaign, with_line, no_effects}
use Rattle.protocol.specs.Learner.{learned_ranges, passed_on, decided, chosen}
use Rattle.protocol.specs.Acceptor.{page_room, ranges_page, tells_ranges, tells_trim, fetches}
use Rattle.protocol.specs.Ballots.{leads_now, greatest_seen}
use Rattle.protocol.specs.Proposing.{mask_at, own_mask, proposes}
use Rattle.protocol.specs.Coordinator.{role_refused, refused, passes_on, is_pending, with_pending, most_pending, submits_leading, submits_in, submits}
use Rattle.protocol.specs.Leading.{prepares_again, accepts_again, resends_in, resends}
use Rattle.protocol.specs.Trimming.{trimmed}
use Rattle.protocol.specs.Meaning.{decided_at, AreInTurnFrom, AreMaximal}
use Rattle.protocol.proofs.RangeLemmas.{learned_maximal}
use Rattle.ring_safety.specs.Faces.{Face, owner}
use Rattle.ring_safety.specs.Invariant.{Local}
use Rattle.ring_safety.proofs.Local.{Grows-refl, Grows-trans}
use Rattle.ring_kept.proofs.Keeping.{cut_above, cut_below}
use Rattle.ring_kept.proofs.Masks.{own_bit}
use Rattle.ring_tables.specs.Ties.{acceptors, IsChosen, IsRangeChosen, IsOutstanding, RoleTies, CampaignTies, PartTies, AcceptSaid, IsSaid}
use Rattle.ring_tables.specs.Done.{EffectsTie, After}
use Rattle.ring_tables.proofs.Effects.{said_sends, effects_none, effects_frames, effects_learned}
use Rattle.ring_tables.proofs.Offering.{proposes_after_ties}
use Rattle.ring_rules.proofs.Coordinating.{effects_trims}
use Rattle.quorums.proofs.Each.{appended, front_all}

-- ---- learned ranges

decided_before : (k : ℕ) (ranges : List Decided) (i : ℕ) → AreInTurnFrom k ranges → i < k → decided_at i ranges ≡ None
decided_before k [] i turn below = refl
decided_before k (range ∷ ranges) i turn below =
    let from = turn.0 in
    let some = turn.1 in
    let e : (nat_le range.lo i && nat_lt i range.hi) ≡ false = grind (arith, nat_tests) in
    rw e (decided_before range.hi ranges i turn.2 (omega arith))

-- each range in turn tells its value at each of its instances
each_tells : (k : ℕ) (ranges : List Decided) (P : Decided → Type 0) → AreInTurnFrom k ranges
    → ((range : Decided) → ((i : ℕ) → range.lo ≤ i → i < range.hi → decided_at i ranges ≡ Some range.value) → P range) → AllByRecursion P ranges
each_tells k [] P turn h = tt
each_tells k (range ∷ ranges) P turn h = (
  h range (λ i from to. let e : (nat_le range.lo i && nat_lt i range.hi) ≡ true = grind (arith, nat_tests) in rw e refl),
  each_tells range.hi ranges P turn.2 (λ r tells. h r (λ i from to. later i r.value (tells i from to))),
)
  where
    later : (i : ℕ) (value : Value) → decided_at i ranges ≡ Some value → decided_at i (range ∷ ranges) ≡ Some value
    later i value tells = elim (cases_lt i range.hi) [
      | inl under ↦ let none = decided_before range.hi ranges i turn.2 under in absurd (cc)
      | inr past ↦ let e : (nat_le range.lo i && nat_lt i range.hi) ≡ false = grind (arith, nat_tests) in rw e tells
    ]

-- what a learner holds from an instance on is chosen, as it is told in a page
pub page_chosen : (n : ℕ) (now : ℕ → Face Value) (lo : ℕ) (held : List (ℕ × Value)) → IsIncreasingFrom 0 held → ((i : ℕ) (value : Value) → value_at i held ≡ Some value → IsChosen n now i value)
    → AllByRecursion (IsRangeChosen n now) (ranges_page (learned_ranges (entries_from lo held)))
page_chosen n now lo held ordered chosen =
    let all : List Decided = learned_ranges (entries_from lo held) in
    let are : AreMaximal (entries_from lo held) all = learned_maximal (entries_from lo held) (increasing_entries_from 0 lo 0 held ordered (inl (omega arith))) in
    let each : AllByRecursion (IsRangeChosen n now) all =
    each_tells 0 all (IsRangeChosen n now) are.in_turn (λ range tells i from to. chosen i range.value (within i range.value (sym (are.same i) ∙ tells i from to))) in
    front_all (IsRangeChosen n now) (ranges_page all) (left_out (ranges_page all) all)
    (subst (λ l. AllByRecursion (IsRangeChosen n now) l) (sym (front-longest decided_size page_room all).whole) each)
  where
    within : (i : ℕ) (value : Value) → value_at i (entries_from lo held) ≡ Some value → value_at i held ≡ Some value
    within i value e = elim (cases_lt i lo) [
      | inl below ↦ let none = cut_below lo held i below in absurd (cc)
      | inr from ↦ sym (cut_above lo held i from) ∙ e
    ]

-- ---- rules that make no deed

module _ (ring : Ring) (faces : ℕ → Face Value) (a : ℕ) (start : Face Value) (kept : RingState) (part : Part) (same : kept ≡ part.kept)
    (t : PartTies (acceptors ring) (seen faces a start) start part) where
  none : EffectsTie ring faces a start kept start (no_effects part)
  none = effects_none ring faces a start kept part t same

  -- Fetch
  pub fetches_ties : (from : NodeId) (lo : ℕ) → EffectsTie ring faces a start kept start (fetches ring part from lo)
  unfolding fetches
  fetches_ties from lo = go (nat_lt lo part.kept.trim)
    where
      chosen_page : AllByRecursion (IsRangeChosen (acceptors ring) (seen faces a start)) (ranges_page (learned_ranges (entries_from lo part.learner.held)))
      chosen_page = page_chosen (acceptors ring) (seen faces a start) lo part.learner.held t.learner.ordered t.learner.chosen

      page : (ranges : List Decided) → AllByRecursion (IsRangeChosen (acceptors ring) (seen faces a start)) ranges → AllByRecursion (IsSaid ring (seen faces a start)) (tells_ranges ring from ranges)
      page [] all = tt
      page (range ∷ ranges) all = said_sends ring (seen faces a start) (Some from) (body.Chosen ring.id (range ∷ ranges)) (λ r. all)

      go : (b : Bool) → EffectsTie ring faces a start kept start (if b then tells_trim ring (Some from) part
          else with_frames (tells_ranges ring from (ranges_page (learned_ranges (entries_from lo part.learner.held)))) (no_effects part))
      go true =
          effects_frames ring faces a start kept start (no_effects part) (sends ring (Some from) (body.Trimmed ring.id part.kept.trim))
          (said_sends ring (seen faces a start) (Some from) (body.Trimmed ring.id part.kept.trim) tt) none
      go false =
          effects_frames ring faces a start kept start (no_effects part) (tells_ranges ring from (ranges_page (learned_ranges (entries_from lo part.learner.held))))
          (page (ranges_page (learned_ranges (entries_from lo part.learner.held))) chosen_page) none

  -- Decide
  pub decided_ties : (link : Link) (lo hi left : ℕ) (value : Value) → IsRangeChosen (acceptors ring) (seen faces a start) (record { lo = lo; hi = hi; value = value })
      → EffectsTie ring faces a start kept start (decided ring link part lo hi left value)
  unfolding decided
  decided_ties link lo hi left value chosen =
      effects_learned ring faces a start kept start (passed_on ring link lo hi left value (no_effects part)) (record { lo = lo; hi = hi; value = value }) chosen (passed left)
    where
      passed : (left : ℕ) → EffectsTie ring faces a start kept start (passed_on ring link lo hi left value (no_effects part))
      passed zero = none
      passed (suc left) =
          effects_frames ring faces a start kept start (no_effects part) (sends ring (next_member ring link) (body.Decide ring.id lo hi left value))
          (said_sends ring (seen faces a start) (next_member ring link) (body.Decide ring.id lo hi left value) (λ r. chosen)) none

  -- Chosen
  pub chosen_ties : (ranges : List Decided) → AllByRecursion (IsRangeChosen (acceptors ring) (seen faces a start)) ranges → EffectsTie ring faces a start kept start (chosen ring part ranges)
  unfolding chosen
  chosen_ties ranges all =
      let d = none.done in
      record { done = record { reached = d.reached; kept = d.kept; learner = d.learner; changes = d.changes; frames = tt; learned = all; recorded = d.recorded }; role = none.role; told = none.told }

  -- Refuse
  pub refused_ties : (ballot promise : ℕ) → EffectsTie ring faces a start kept start (refused ring part ballot promise)
  unfolding refused
  refused_ties ballot promise =
      let d = none.done in
      record {
        done = record { reached = d.reached; kept = d.kept; learner = d.learner; changes = d.changes; frames = tt; learned = tt; recorded = d.recorded };
        role = role part.coordinator.role t.role;
        told = none.told;
      }
    where
      role : (r : Role) → RoleTies (acceptors ring) (seen faces a start) start r → RoleTies (acceptors ring) (seen faces a start) start (role_refused ballot r)
      role Idle h = tt
      role (Active campaign) h = go (campaign.ballot == ballot)
        where
          go : (b : Bool) → RoleTies (acceptors ring) (seen faces a start) start (if b then Idle else Active campaign)
          go true = tt
          go false = h

-- ---- rules after which proposing follows, and what is sent again

module _ (ring : Ring) (faces : ℕ → Face Value) (a : ℕ) (seat : position_of ring ring.own ≡ Some a) (within : a < acceptors ring)
    (seats : (node : NodeId) (k : ℕ) → position_of ring node ≡ Some k → k < acceptors ring)
    (all : (k : ℕ) → Local (acceptors ring) faces k (faces k)) (start : Face Value) (local : Local (acceptors ring) faces a start) (kept : RingState)
    (part : Part) (same : kept ≡ part.kept) (t : PartTies (acceptors ring) (seen faces a start) start part) where
  stays : (effects : Effects) → EffectsTie ring faces a start kept start effects → After ring faces a start kept start effects
  stays effects d = record { face = start; grows = Grows-refl start; ties = d }

  untouched : EffectsTie ring faces a start kept start (no_effects part)
  untouched = none ring faces a start kept part same t

  -- Trimmed and TrimTo
  pub trimmed_ties : (link : Link) (trim : ℕ) → After ring faces a start kept start (trimmed ring link part trim)
  unfolding trimmed
  trimmed_ties link trim =
      let first = effects_trims ring faces a seat within seats all start local kept start (no_effects part) trim untouched in
      let rest = proposes_after_ties ring faces a seat within all start local kept first.face link _ first.ties in
      record { face = rest.face; grows = Grows-trans first.grows rest.grows; ties = rest.ties }

  -- Submit
  pub submits_ties : (link : Link) (hops : ℕ) (client : ClientId) (seq : ℕ) (command : List ℕ) → After ring faces a start kept start (submits ring link part hops client seq command)
  unfolding submits
  submits_ties link hops client seq command = by_role part.coordinator.role t.role
    where
      entry : Entry
      entry = record { client = client; seq = seq; command = command }

      on : (hops : ℕ) → After ring faces a start kept start (passes_on ring part hops (record { client = client; seq = seq; command = command }))
      on zero = stays _ (effects_frames ring faces a start kept start (no_effects part) (sends ring (owner_of ring (greatest_seen part)) (body.Submit ring.id 1 client seq command))
          (said_sends ring (seen faces a start) (owner_of ring (greatest_seen part)) (body.Submit ring.id 1 client seq command) tt) untouched)
      on (suc hops) = stays _ untouched

      -- a command more waits
      waiting : (campaign : Campaign) → CampaignTies (acceptors ring) (seen faces a start) start campaign
          → CampaignTies (acceptors ring) (seen faces a start) start (with_pending (record { client = client; seq = seq; command = command }) campaign)
      waiting campaign r = record {
        next = r.next;
        leads = r.leads;
        passed = r.passed;
        promised = r.promised;
        reports = r.reports;
        outstanding = r.outstanding;
        sized = r.sized;
        ended = r.ended;
        ordered = r.ordered;
      }

      proposing_now : (now : Part) → now.kept ≡ part.kept → PartTies (acceptors ring) (seen faces a start) start now → After ring faces a start kept start (proposes ring link now)
      proposing_now now e p = proposes_after_ties ring faces a seat within all start local kept start link (no_effects now) (effects_none ring faces a start kept now p (same ∙ sym e))

      by_test : (campaign : Campaign) → CampaignTies (acceptors ring) (seen faces a start) start campaign → (b c d : Bool)
          → After ring faces a start kept start (if b then with_line (InstanceLimit ring.own ring.id) (no_effects part)
          else if c then proposes ring link part
          else if d then no_effects part
          else proposes ring link (with_campaign (with_pending (record { client = client; seq = seq; command = command }) campaign) part))
      by_test campaign r true c d =
          let u = untouched.done in
          stays _ (record { done = record { reached = u.reached; kept = u.kept; learner = u.learner; changes = u.changes; frames = u.frames; learned = u.learned; recorded = u.recorded }; role = untouched.role; told = untouched.told })
      by_test campaign r false true d = proposing_now part refl t
      by_test campaign r false false true = stays _ untouched
      by_test campaign r false false false =
          proposing_now (with_campaign (with_pending (record { client = client; seq = seq; command = command }) campaign) part) refl (record { kept = t.kept; role = waiting campaign r; learner = t.learner })

      by_role : (role : Role) → RoleTies (acceptors ring) (seen faces a start) start role
          → After ring faces a start kept start (submits_in ring link part hops (record { client = client; seq = seq; command = command }) role)
      by_role Idle r = on hops
      by_role (Active campaign) r = leading (leads_now ring campaign)
        where
          leading : (b : Bool) → After ring faces a start kept start (if b then submits_leading ring link part (record { client = client; seq = seq; command = command }) campaign
              else passes_on ring part hops (record { client = client; seq = seq; command = command }))
          leading false = on hops
          leading true = by_test campaign r (nat_le END campaign.next) (is_pending (record { client = client; seq = seq; command = command }) campaign.pending) (nat_le most_pending (length campaign.pending))

  -- what a resend beat asks for
  pub resends_ties : (link : Link) → EffectsTie ring faces a start kept start (resends ring link part)
  unfolding resends
  resends_ties link = by_role part.coordinator.role t.role
    where
      prepared : (ballot : ℕ) (nodes : List NodeId) (covered : List ℕ) → AllByRecursion (IsSaid ring (seen faces a start)) (prepares_again ring ballot nodes covered)
      prepared ballot [] covered = tt
      prepared ballot (node ∷ nodes) [] = tt
      prepared ballot (node ∷ nodes) (c ∷ later) =
          appended (IsSaid ring (seen faces a start)) (if nat_lt c END then sends ring (Some node) (body.Prepare ring.id ballot c) else []) (prepares_again ring ballot nodes later)
          (one (nat_lt c END)) (prepared ballot nodes later)
        where
          one : (b : Bool) → AllByRecursion (IsSaid ring (seen faces a start)) (if b then sends ring (Some node) (body.Prepare ring.id ballot c) else [])
          one true = said_sends ring (seen faces a start) (Some node) (body.Prepare ring.id ballot c) tt
          one false = tt

      by_role : (role : Role) → RoleTies (acceptors ring) (seen faces a start) start role → EffectsTie ring faces a start kept start (resends_in ring link part role)
      by_role Idle r = untouched
      by_role (Active campaign) r =
          effects_frames ring faces a start kept start (with_frames (prepares_again ring campaign.ballot ring.acceptors campaign.covered) (no_effects part))
          (accepts_again ring (next_acceptor ring link) campaign.ballot part.kept.trim campaign.outstanding) (accepted campaign.outstanding r.outstanding)
          (effects_frames ring faces a start kept start (no_effects part) (prepares_again ring campaign.ballot ring.acceptors campaign.covered) (prepared campaign.ballot ring.acceptors campaign.covered) untouched)
        where
          mine : owner (acceptors ring) campaign.ballot ≡ a
          mine = local.leads_owned (record { ballot = campaign.ballot; next = r.next }) r.leads

          said : (range : Decided) → IsOutstanding start campaign.ballot start.trim range
              → AcceptSaid (acceptors ring) (seen faces a start) campaign.ballot (max range.lo part.kept.trim) range.hi (own_mask ring) range.value
          said range o =
              let trim : start.trim ≡ part.kept.trim = t.kept.trim in
              let bit : (k : ℕ) → has_bit (own_mask ring) k ≡ true → k ≡ a = λ k is. own_bit a k (subst (λ mask. has_bit mask k ≡ true) (ap mask_at seat) is) in
              record {
                proposed = λ i x y. subst (λ k. Has (seen faces a start k).proposals (proposal campaign.ballot i range.value)) (sym mine)
                    (subst (λ (z : Face Value). Has z.proposals (proposal campaign.ballot i range.value)) (sym (seen_own (acceptors ring) faces a start)) (o.proposed i (omega arith) y));
                member = λ k is. let me = bit k is in omega arith;
                cast = λ k i is x y. subst (λ j. Has (seen faces a start j).casts (proposal campaign.ballot i range.value)) (sym (bit k is))
                    (subst (λ (z : Face Value). Has z.casts (proposal campaign.ballot i range.value)) (sym (seen_own (acceptors ring) faces a start)) (o.cast i (omega arith) y));
                ended = o.ended;
              }

          accepted : (ranges : List Decided) → AllByRecursion (IsOutstanding start campaign.ballot start.trim) ranges
              → AllByRecursion (IsSaid ring (seen faces a start)) (accepts_again ring (next_acceptor ring link) campaign.ballot part.kept.trim ranges)
          accepted [] o = tt
          accepted (range ∷ ranges) o =
              appended (IsSaid ring (seen faces a start))
              (sends ring (next_acceptor ring link) (body.Accept ring.id campaign.ballot (max range.lo part.kept.trim) range.hi (own_mask ring) range.value))
              (accepts_again ring (next_acceptor ring link) campaign.ballot part.kept.trim ranges)
              (said_sends ring (seen faces a start) (next_acceptor ring link) (body.Accept ring.id campaign.ballot (max range.lo part.kept.trim) range.hi (own_mask ring) range.value) (λ r. said range o.0))
              (accepted ranges o.1)
