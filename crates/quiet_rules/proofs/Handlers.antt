-- The rules of a ring are quiet.
use Rattle.skip_leveller.specs.Levelling.{answer_of}
use Rattle.range_map.specs.Entries.{entries_from}
use Rattle.mrp_types.specs.declared.value.Entry.{Entry}
use Rattle.std.proofs.Common.{ℕ, zero, suc, Bool, true, false, List, [], ◌∷◌, Option, Some, None, refl, slice_index}
use Rattle.std.specs.Prelude.{◌==◌, nat_lt, nat_le, ◌&&◌, not, if◌then◌else◌, max, length, ◌^◌}
use Rattle.std.specs.List.{AllByRecursion}
use Rattle.mrp_types.specs.declared.id.NodeId.{NodeId}
use Rattle.mrp_types.specs.declared.id.ClientId.{ClientId}
use Rattle.mrp_types.specs.declared.id.TheConstants.{END}
use Rattle.mrp_types.specs.declared.value.Value.{Value}
use Rattle.mrp_types.specs.declared.voted.Voted.{Voted}
use Rattle.mrp_types.specs.declared.voted.Decided.{Decided}
use Rattle.ring_link.specs.Silence.{Link}
use Rattle.frames.specs.declared.body.Body.TheVariants.{Submit, Prepare, Refuse, Accept, Decide, Chosen, Trimmed}
use Rattle.protocol.specs.Lines.{BallotLimit, InstanceLimit}
use Rattle.protocol.specs.Parts.{Ring, Part, Role, Idle, Active, Campaign, Effects}
use Rattle.protocol.specs.Rings.{sends, sends_each, owner_of, is_node, has_bit, with_bit, position_of, next_acceptor, next_member, other_acceptors}
use Rattle.protocol.specs.Effects.{no_effects, with_part, with_frames, with_line, with_learned, with_campaign, in_role}
use Rattle.protocol.specs.Acceptor.{promises, promises_anew, votes_anew, trims_to, promise_of, tells_promise, refuses, tells_trim, prepares, decides_or_forwards, accepts_at, accepts, tells_ranges, ranges_page, fetches}
use Rattle.protocol.specs.Ballots.{leads_now, new_campaign, campaigns, own_ballot, Page, with_page, asks_more, counts, reported_past, reported_at, reported, greatest_seen}
use Rattle.protocol.specs.Coordinator.{starts_with, starts_at, leads, promised, role_refused, refused, most_pending, is_pending, with_pending, passes_on, waits, submits_leading, submits_in, submits}
use Rattle.protocol.specs.Leading.{is_to_start, starts_idle, starts_on_tick, prepares_again, accepts_again, resends_in, resends, with_tick_taken, shortfall_from, levels_by, levels_in, levels}
use Rattle.protocol.specs.Learner.{learned_ranges, passed_on, decided, chosen}
use Rattle.protocol.specs.Proposing.{proposes, proposes_after, offers, has_room, own_mask}
use Rattle.protocol.specs.Trimming.{trimmed}
use Rattle.quorums.proofs.Each.{appended}
use Rattle.quiet_rules.specs.Quiet.{IsPlainSent, Quiet}
use Rattle.quiet_rules.proofs.Words.{by_test, ring_sends, ring_sends_each, Quiet-refl, Quiet-trans, quiet_frames, quiet_line, quiet_learned, quiet_coordinator, quiet_votes_anew, quiet_promises, quiet_promises_anew, quiet_trims, quiet_decides_or_forwards, quiet_offers, quiet_proposes}

module _ (ring : Ring) where
  abbrev Kept : Part → Effects → Type 0
  Kept part effects = Quiet ring (no_effects part) effects

  as_it_is : (part : Part) → Kept part (no_effects part)
  as_it_is part = Quiet-refl ring (no_effects part)

  if_so : (part : Part) (b : Bool) (x y : Effects) → Kept part x → Kept part y → Kept part (if b then x else y)
  if_so part true x y p q = p
  if_so part false x y p q = q

  proposes_then : (link : Link) (part : Part) (effects : Effects) → Kept part effects → Kept part (proposes_after ring link effects)
  proposes_then link part effects s = Quiet-trans ring (no_effects part) effects (proposes_after ring link effects) s (quiet_proposes ring link effects)

  -- ---- acceptors

  quiet_refuses : (to : Option NodeId) (ballot : ℕ) (part : Part) → Kept part (refuses ring to ballot part)
  quiet_refuses to ballot part = quiet_frames ring (no_effects part) (sends ring to (Refuse ring.id ballot part.kept.promise)) (ring_sends ring to (Refuse ring.id ballot part.kept.promise) tt)

  quiet_tells_trim : (to : Option NodeId) (part : Part) → Kept part (tells_trim ring to part)
  quiet_tells_trim to part = quiet_frames ring (no_effects part) (sends ring to (Trimmed ring.id part.kept.trim)) (ring_sends ring to (Trimmed ring.id part.kept.trim) tt)

  pub quiet_prepares : (part : Part) (from : NodeId) (ballot lo : ℕ) → Kept part (prepares ring part from ballot lo)
  unfolding prepares
  quiet_prepares part from ballot lo =
      let effects : Effects = promises ring ballot (no_effects part) in
      let told : Effects = tells_promise ring from ballot lo effects in
      if_so part (not (is_node from (owner_of ring ballot))) (no_effects part) _ (as_it_is part)
      (if_so part (nat_lt ballot part.kept.promise) (refuses ring (Some from) ballot part) told (quiet_refuses (Some from) ballot part)
      (Quiet-trans ring (no_effects part) effects told (quiet_promises ring ballot (no_effects part))
      (quiet_frames ring effects (sends ring (Some from) (promise_of ring ballot lo effects.part.kept)) (ring_sends ring (Some from) (promise_of ring ballot lo effects.part.kept) tt))))

  pub quiet_accepts : (link : Link) (part : Part) (ballot lo hi mask : ℕ) (value : Value) → Kept part (accepts ring link part ballot lo hi mask value)
  unfolding accepts
  quiet_accepts link part ballot lo hi mask value = by_position (position_of ring ring.own)
    where
      vote : Voted
      vote = record { lo = lo; hi = hi; ballot = ballot; value = value }

      promised_first : Effects
      promised_first = promises_anew ring vote.ballot (no_effects part)

      voted : Effects
      voted = votes_anew ring vote promised_first

      by_position : (o : Option ℕ) → Kept part (accepts_at ring link part mask vote o)
      by_position None = as_it_is part
      by_position (Some position) =
          if_so part (nat_lt vote.ballot part.kept.promise) (refuses ring (owner_of ring vote.ballot) vote.ballot part) _ (quiet_refuses (owner_of ring vote.ballot) vote.ballot part)
          (if_so part (nat_lt vote.lo part.kept.trim) (tells_trim ring (owner_of ring vote.ballot) part) _ (quiet_tells_trim (owner_of ring vote.ballot) part)
          (if_so part (has_bit mask position) (no_effects part) (decides_or_forwards ring link (with_bit mask position) vote voted) (as_it_is part)
          (Quiet-trans ring (no_effects part) voted (decides_or_forwards ring link (with_bit mask position) vote voted)
          (Quiet-trans ring (no_effects part) promised_first voted (quiet_promises_anew ring vote.ballot (no_effects part)) (quiet_votes_anew ring vote promised_first))
          (quiet_decides_or_forwards ring link (with_bit mask position) vote voted))))

  pub quiet_fetches : (part : Part) (from : NodeId) (lo : ℕ) → Kept part (fetches ring part from lo)
  unfolding fetches
  quiet_fetches part from lo =
      if_so part (nat_lt lo part.kept.trim) (tells_trim ring (Some from) part) _ (quiet_tells_trim (Some from) part)
      (quiet_frames ring (no_effects part) (tells_ranges ring from (ranges_page (learned_ranges (entries_from lo part.learner.held)))) (by_ranges (ranges_page (learned_ranges (entries_from lo part.learner.held)))))
    where
      by_ranges : (ranges : List Decided) → AllByRecursion IsPlainSent (tells_ranges ring from ranges)
      by_ranges [] = tt
      by_ranges (range ∷ ranges) = ring_sends ring (Some from) (Chosen ring.id (range ∷ ranges)) tt

  -- ---- what is told

  pub quiet_decided : (link : Link) (part : Part) (lo hi left : ℕ) (value : Value) → Kept part (decided ring link part lo hi left value)
  unfolding decided
  quiet_decided link part lo hi left value =
      let effects : Effects = passed_on ring link lo hi left value (no_effects part) in
      Quiet-trans ring (no_effects part) effects (with_learned (record { lo = lo; hi = hi; value = value }) effects) (by_left left) (quiet_learned ring effects (record { lo = lo; hi = hi; value = value }))
    where
      by_left : (left : ℕ) → Kept part (passed_on ring link lo hi left value (no_effects part))
      by_left zero = as_it_is part
      by_left (suc left) = quiet_frames ring (no_effects part) (sends ring (next_member ring link) (Decide ring.id lo hi left value)) (ring_sends ring (next_member ring link) (Decide ring.id lo hi left value) tt)

  pub quiet_chosen : (part : Part) (ranges : List Decided) → Kept part (chosen ring part ranges)
  unfolding chosen
  quiet_chosen part ranges = record { learner = refl; frames = λ t. t; lines = λ t. t }

  pub quiet_trimmed : (link : Link) (part : Part) (trim : ℕ) → Kept part (trimmed ring link part trim)
  unfolding trimmed
  quiet_trimmed link part trim = proposes_then link part (trims_to ring trim (no_effects part)) (quiet_trims ring trim (no_effects part))

  -- ---- coordinators

  quiet_reported : (from : NodeId) (page : Page) (effects : Effects) → Quiet ring effects (reported ring from page effects)
  quiet_reported from page effects = by_role effects.part.coordinator.role (position_of ring from)
    where
      by_role : (role : Role) (o : Option ℕ) → Quiet ring effects (reported_at ring from page role o effects)
      by_role Idle o = Quiet-refl ring effects
      by_role (Active campaign) None = Quiet-refl ring effects
      by_role (Active campaign) (Some position) = go (slice_index campaign.covered position)
        where
          go : (covered : ℕ) → Quiet ring effects (reported_past ring from page campaign position covered effects)
          go covered = by_counts (counts page campaign.ballot covered)
            where
              now : Effects
              now = with_part (with_campaign (with_page position covered page campaign) effects.part) effects

              more : (b : Bool) → AllByRecursion IsPlainSent (if b then [] else sends ring (Some from) (Prepare ring.id page.ballot page.hi))
              more true = tt
              more false = ring_sends ring (Some from) (Prepare ring.id page.ballot page.hi) tt

              by_counts : (b : Bool) → Quiet ring effects (if b then with_frames (asks_more ring from page) now else effects)
              by_counts false = Quiet-refl ring effects
              by_counts true = Quiet-trans ring effects now (with_frames (asks_more ring from page) now)
                  (quiet_coordinator ring effects (in_role (Active (with_page position covered page campaign)) effects.part.coordinator))
                  (quiet_frames ring now (asks_more ring from page) (more (page.hi == END)))

  pub quiet_promised : (link : Link) (part : Part) (from : NodeId) (ballot lo hi trim : ℕ) (votes : List Voted) → Kept part (promised ring link part from ballot lo hi trim votes)
  unfolding promised
  quiet_promised link part from ballot lo hi trim votes =
      let page : Page = record { ballot = ballot; lo = lo; hi = hi; votes = votes } in
      let cut : Effects = trims_to ring trim (no_effects part) in
      proposes_then link part (reported ring from page cut)
      (Quiet-trans ring (no_effects part) cut (reported ring from page cut) (quiet_trims ring trim (no_effects part)) (quiet_reported from page cut))

  pub quiet_refused : (part : Part) (ballot promise : ℕ) → Kept part (refused ring part ballot promise)
  unfolding refused
  quiet_refused part ballot promise = quiet_coordinator ring (no_effects part) (record { top = max part.coordinator.top promise; role = role_refused ballot part.coordinator.role })

  quiet_starts : (link : Link) (part : Part) (ballot : ℕ) → Kept part (starts_with ring link part ballot)
  quiet_starts link part ballot =
      if_so part (nat_le (2 ^ 48) ballot) (with_line (BallotLimit ring.own ring.id) (no_effects part)) _ (quiet_line ring (no_effects part) (BallotLimit ring.own ring.id) (refl, refl))
      (proposes_then link part (campaigns ring ballot effects)
      (Quiet-trans ring (no_effects part) effects (campaigns ring ballot effects) (quiet_promises ring ballot (no_effects part))
      (Quiet-trans ring effects now (campaigns ring ballot effects) (quiet_coordinator ring effects (in_role (Active (new_campaign ring ballot effects.part.kept)) effects.part.coordinator))
      (quiet_frames ring now (sends_each ring (other_acceptors ring) (Prepare ring.id ballot effects.part.kept.trim))
      (ring_sends_each ring (other_acceptors ring) (Prepare ring.id ballot effects.part.kept.trim) tt)))))
    where
      effects : Effects
      effects = promises ring ballot (no_effects part)

      now : Effects
      now = with_part (with_campaign (new_campaign ring ballot effects.part.kept) effects.part) effects

  pub quiet_leads : (link : Link) (part : Part) → Kept part (leads ring link part)
  unfolding leads
  quiet_leads link part = by_position (position_of ring ring.own)
    where
      by_position : (o : Option ℕ) → Kept part (starts_at ring link part o)
      by_position None = as_it_is part
      by_position (Some position) = quiet_starts link part (own_ballot ring part position)

  pub quiet_submits : (link : Link) (part : Part) (hops : ℕ) (client : ClientId) (seq : ℕ) (command : List ℕ) → Kept part (submits ring link part hops client seq command)
  unfolding submits
  quiet_submits link part hops client seq command = by_role part.coordinator.role
    where
      entry : Entry
      entry = record { client = client; seq = seq; command = command }

      passes : (hops : ℕ) → Kept part (passes_on ring part hops entry)
      passes zero = quiet_frames ring (no_effects part) (sends ring (owner_of ring (greatest_seen part)) (Submit ring.id 1 entry.client entry.seq entry.command))
          (ring_sends ring (owner_of ring (greatest_seen part)) (Submit ring.id 1 entry.client entry.seq entry.command) tt)
      passes (suc hops) = as_it_is part

      waiting : (campaign : Campaign) → Kept part (waits ring link part entry campaign)
      waiting campaign =
          let now : Part = with_campaign (with_pending entry campaign) part in
          if_so part (is_pending entry campaign.pending) (proposes ring link part) _ (proposes_then link part (no_effects part) (as_it_is part))
          (if_so part (nat_le most_pending (length campaign.pending)) (no_effects part) (proposes ring link now) (as_it_is part)
          (proposes_then link part (no_effects now) (quiet_coordinator ring (no_effects part) (in_role (Active (with_pending entry campaign)) part.coordinator))))

      leading : (campaign : Campaign) → Kept part (submits_leading ring link part entry campaign)
      leading campaign = if_so part (nat_le END campaign.next) (with_line (InstanceLimit ring.own ring.id) (no_effects part)) (waits ring link part entry campaign)
          (quiet_line ring (no_effects part) (InstanceLimit ring.own ring.id) (refl, refl)) (waiting campaign)

      by_role : (role : Role) → Kept part (submits_in ring link part hops entry role)
      by_role Idle = passes hops
      by_role (Active campaign) = if_so part (leads_now ring campaign) (submits_leading ring link part entry campaign) (passes_on ring part hops entry) (leading campaign) (passes hops)

  -- ---- ticks

  pub quiet_starts_on_tick : (link : Link) (part : Part) → Kept part (starts_on_tick ring link part)
  unfolding starts_on_tick
  quiet_starts_on_tick link part = by_role part.coordinator.role
    where
      by_role : (role : Role) → Kept part (starts_idle ring link part role)
      by_role Idle = if_so part (is_to_start ring link (owner_of ring (greatest_seen part))) (leads ring link part) (no_effects part) (quiet_leads link part) (as_it_is part)
      by_role (Active campaign) = as_it_is part

  prepared_again : (ballot : ℕ) (nodes : List NodeId) (covered : List ℕ) → AllByRecursion IsPlainSent (prepares_again ring ballot nodes covered)
  prepared_again ballot [] covered = tt
  prepared_again ballot (node ∷ nodes) [] = tt
  prepared_again ballot (node ∷ nodes) (covered ∷ later) =
      appended IsPlainSent (if nat_lt covered END then sends ring (Some node) (Prepare ring.id ballot covered) else []) (prepares_again ring ballot nodes later)
      (by_test (AllByRecursion IsPlainSent) (nat_lt covered END) (sends ring (Some node) (Prepare ring.id ballot covered)) [] (λ e. ring_sends ring (Some node) (Prepare ring.id ballot covered) tt) tt)
      (prepared_again ballot nodes later)

  accepted_again : (to : Option NodeId) (ballot trim : ℕ) (ranges : List Decided) → AllByRecursion IsPlainSent (accepts_again ring to ballot trim ranges)
  accepted_again to ballot trim [] = tt
  accepted_again to ballot trim (range ∷ ranges) =
      appended IsPlainSent (sends ring to (Accept ring.id ballot (max range.lo trim) range.hi (own_mask ring) range.value)) (accepts_again ring to ballot trim ranges)
      (ring_sends ring to (Accept ring.id ballot (max range.lo trim) range.hi (own_mask ring) range.value) tt) (accepted_again to ballot trim ranges)

  pub quiet_resends : (link : Link) (part : Part) → Kept part (resends ring link part)
  unfolding resends
  quiet_resends link part = by_role part.coordinator.role
    where
      by_role : (role : Role) → Kept part (resends_in ring link part role)
      by_role Idle = as_it_is part
      by_role (Active campaign) =
          let now : Effects = with_frames (prepares_again ring campaign.ballot ring.acceptors campaign.covered) (no_effects part) in
          Quiet-trans ring (no_effects part) now (resends_in ring link part (Active campaign))
          (quiet_frames ring (no_effects part) (prepares_again ring campaign.ballot ring.acceptors campaign.covered) (prepared_again campaign.ballot ring.acceptors campaign.covered))
          (quiet_frames ring now (accepts_again ring (next_acceptor ring link) campaign.ballot part.kept.trim campaign.outstanding)
          (accepted_again (next_acceptor ring link) campaign.ballot part.kept.trim campaign.outstanding))

  pub quiet_levels : (link : Link) (part : Part) → Kept part (levels ring link part)
  unfolding levels
  quiet_levels link part = by_role part.coordinator.role
    where
      by_answer : (campaign : Campaign) (o : Option ℕ) → Kept part (levels_by ring link part campaign o)
      by_answer campaign None = quiet_coordinator ring (no_effects part) (in_role (Active campaign) part.coordinator)
      by_answer campaign (Some missing) = if_so part (has_room ring campaign && nat_lt campaign.next END) (proposes_after ring link (offers ring link campaign (shortfall_from campaign.next missing) 0 (no_effects part))) (no_effects (with_campaign campaign part))
          (proposes_then link part (offers ring link campaign (shortfall_from campaign.next missing) 0 (no_effects part)) (quiet_offers ring link campaign (shortfall_from campaign.next missing) 0 (no_effects part))) (quiet_coordinator ring (no_effects part) (in_role (Active campaign) part.coordinator))

      by_role : (role : Role) → Kept part (levels_in ring link part role)
      by_role Idle = as_it_is part
      by_role (Active campaign) = if_so part (leads_now ring campaign) (levels_by ring link part (with_tick_taken campaign) (answer_of campaign.leveller)) (no_effects part)
          (by_answer (with_tick_taken campaign) (answer_of campaign.leveller)) (as_it_is part)
