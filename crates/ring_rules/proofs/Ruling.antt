-- Each rule of a ring at one of its acceptors, from a settled part: what it makes stands for a face, and leaves the part settled.
use Rattle.std.proofs.Common.{◌≡◌, ℕ, zero, suc, ◌<◌, ◌≤◌, ◌^◌, Bool, true, false, ◌&&◌, List, [], ◌∷◌, ◌++◌, length, Option, Some, None, refl, sym, subst, arith}
use Rattle.std.specs.Prelude.{◌==◌, nat_lt, nat_le, not, if◌then◌else◌}
use Rattle.std.proofs.lemmas.Bool.{and_parts}
use Rattle.std.proofs.lemmas.Bool.Decides.{nat_tests}
use Rattle.std.proofs.lemmas.List.{length-append}
use Rattle.std.specs.List.{AllByRecursion}
use Rattle.mrp_types.specs.declared.id.NodeId.{NodeId}
use Rattle.mrp_types.specs.declared.id.ClientId.{ClientId}
use Rattle.mrp_types.specs.declared.id.TheConstants.{END}
use Rattle.mrp_types.specs.declared.value.Value.{Value}
use Rattle.mrp_types.specs.declared.voted.Voted.{Voted}
use Rattle.mrp_types.specs.declared.voted.Decided.{Decided}
use Rattle.range_map.specs.Entries.{entries_from}
use Rattle.vote_state.specs.declared.change.Change.TheVariants as change
use Rattle.vote_state.specs.Ranges.{are_held}
use Rattle.vote_state.specs.State.{with_vote}
use Rattle.ring_link.specs.Silence.{Link}
use Rattle.skip_leveller.specs.Levelling.{answer_of}
use Rattle.frames.specs.declared.body.Body.TheVariants as body
use Rattle.ring_reach.specs.Reach.{seen}
use Rattle.ring_reach.proofs.Reaching.{Local-reach, seen_from}
use Rattle.protocol.specs.Lines.{BallotLimit, InstanceLimit}
use Rattle.protocol.specs.Parts.{Ring, Campaign, Role, Idle, Active, Round, Part, Effects}
use Rattle.protocol.specs.Rings.{is_node, is_acceptor, by_id, replicas_of, owner_of, position_of, has_bit, with_bit, sends_each}
use Rattle.protocol.specs.Effects.{no_effects, with_part, with_change, with_frames, with_kept, with_campaign, with_line}
use Rattle.protocol.specs.Learner.{learned_ranges, passed_on, decided, chosen}
use Rattle.protocol.specs.Acceptor.{idle_below, promised_part, promises, votes_for, promises_anew, votes_anew, trims_to, tells_promise, refuses, tells_trim, tells_ranges, ranges_page, decides_or_forwards, accepts_at, accepts, prepares, fetches}
use Rattle.protocol.specs.Ballots.{Page, reported, campaigns, own_ballot, greatest_seen, role_leads, leads_now}
use Rattle.protocol.specs.Proposing.{has_room, with_outstanding, after_offer, own_mask, vote_of, offers, proposes_after, proposes}
use Rattle.protocol.specs.Coordinator.{starts_at, leads, promised, role_refused, refused, passes_on, is_pending, with_pending, most_pending, submits_leading, submits_in, submits}
use Rattle.protocol.specs.Leading.{is_to_start, starts_idle, starts_on_tick, resends_in, resends, with_tick_taken, shortfall_from, levels_by, levels_in, levels}
use Rattle.protocol.specs.Trimming.{trimmed, least, with_answer, in_round, trims_above, ends_by, goes_on_round, with_own_answer, next_round, with_asked, asks, asks_round, answers_in, answers}
use Rattle.protocol.proofs.BallotLemmas.{is_least}
use Rattle.ring_tables.specs.Done.{Seats}
use Rattle.ring_safety.specs.Faces.{Face}
use Rattle.ring_safety.specs.Rules.{Grows}
use Rattle.ring_safety.specs.Invariant.{Local}
use Rattle.ring_safety.proofs.Local.{Grows-refl}
use Rattle.ring_tables.specs.Ties.{acceptors, IsRangeChosen, RoleTies, CampaignTies, PartTies, PromiseSaid, AcceptSaid}
use Rattle.ring_tables.proofs.More.{PromiseSaid-more}
use Rattle.ring_tables.specs.Done.{EffectsTie, After}
use Rattle.ring_tables.proofs.Effects.{effects_none, effects_frames}
use Rattle.ring_tables.proofs.Acceptor.{prepares_ties, accepts_ties}
use Rattle.ring_rules.proofs.Coordinating.{effects_trims, effects_reported, trims_above as above_trim, promised_ties}
use Rattle.ring_rules.proofs.Starting.{said_sends_each, effects_starts, leads_ties}
use Rattle.ring_rules.proofs.Others.{fetches_ties, decided_ties, chosen_ties, refused_ties, trimmed_ties, submits_ties, resends_ties}
use Rattle.ring_tables.specs.Settled.{IsSettled, RoleSettled, PartFine}
use Rattle.protocol.proofs.OfferLemmas.{some_missing}
use Rattle.ring_tables.proofs.Settling.{EffectsSettled, decides_or_forwards_role, proposes_after_settled, offered, levels_ties}
use Rattle.ring_rules.proofs.Rounds.{effects_rounds, effects_trims_above, asks_round_ties, answers_ties}
use Rattle.ring_rules.specs.Ruled.{Ruled}

-- ---- words that leave a part settled

module _ (ring : Ring) where
  settled_below : (trim ballot : ℕ) (role : Role) → RoleSettled ring trim role → RoleSettled ring trim (idle_below ballot role)
  settled_below trim ballot Idle s = tt
  settled_below trim ballot (Active campaign) s = go (nat_lt campaign.ballot ballot)
    where
      go : (b : Bool) → RoleSettled ring trim (if b then Idle else Active campaign)
      go true = tt
      go false = s

  settled_promises : (effects : Effects) (ballot : ℕ) → EffectsSettled ring effects → EffectsSettled ring (promises ring ballot effects)
  settled_promises effects ballot s = settled_below effects.part.kept.trim ballot effects.part.coordinator.role s

  settled_promises_anew : (effects : Effects) (ballot : ℕ) → EffectsSettled ring effects → EffectsSettled ring (promises_anew ring ballot effects)
  settled_promises_anew effects ballot s = go (ballot == effects.part.kept.promise)
    where
      go : (b : Bool) → EffectsSettled ring (if b then effects else promises ring ballot effects)
      go true = s
      go false = settled_promises effects ballot s

  settled_votes_anew : (effects : Effects) (vote : Voted) → EffectsSettled ring effects → EffectsSettled ring (votes_anew ring vote effects)
  settled_votes_anew effects vote s = go (are_held vote effects.part.kept.votes)
    where
      go : (b : Bool) → EffectsSettled ring (if b then effects else votes_for ring vote effects)
      go true = s
      go false = s

  settled_decides_or_forwards : (effects : Effects) (link : Link) (mask : ℕ) (vote : Voted) → EffectsSettled ring effects → EffectsSettled ring (decides_or_forwards ring link mask vote effects)
  settled_decides_or_forwards effects link mask vote s = subst (λ (p : Part). RoleSettled ring p.kept.trim p.coordinator.role) (sym (decides_or_forwards_role ring link mask vote effects)) s

  settled_prepares : (part : Part) (from : NodeId) (ballot lo : ℕ) → RoleSettled ring part.kept.trim part.coordinator.role → EffectsSettled ring (prepares ring part from ballot lo)
  unfolding prepares
  settled_prepares part from ballot lo s = go (not (is_node from (owner_of ring ballot))) (nat_lt ballot part.kept.promise)
    where
      go : (b c : Bool) → EffectsSettled ring (if b then no_effects part else if c then refuses ring (Some from) ballot part
          else tells_promise ring from ballot lo (promises ring ballot (no_effects part)))
      go true c = s
      go false true = s
      go false false = settled_promises (no_effects part) ballot s

  settled_accepts : (link : Link) (part : Part) (ballot lo hi mask : ℕ) (value : Value) → RoleSettled ring part.kept.trim part.coordinator.role
      → EffectsSettled ring (accepts ring link part ballot lo hi mask value)
  unfolding accepts
  settled_accepts link part ballot lo hi mask value s = at (position_of ring ring.own)
    where
      at : (o : Option ℕ) → EffectsSettled ring (accepts_at ring link part mask (record { lo = lo; hi = hi; ballot = ballot; value = value }) o)
      at None = s
      at (Some position) = go (nat_lt ballot part.kept.promise) (nat_lt lo part.kept.trim) (has_bit mask position)
        where
          go : (b c d : Bool) → EffectsSettled ring (if b then refuses ring (owner_of ring ballot) ballot part else if c then tells_trim ring (owner_of ring ballot) part
              else if d then no_effects part
              else decides_or_forwards ring link (with_bit mask position) (record { lo = lo; hi = hi; ballot = ballot; value = value })
              (votes_anew ring (record { lo = lo; hi = hi; ballot = ballot; value = value }) (promises_anew ring ballot (no_effects part))))
          go true c d = s
          go false true d = s
          go false false true = s
          go false false false =
              settled_decides_or_forwards (votes_anew ring (record { lo = lo; hi = hi; ballot = ballot; value = value }) (promises_anew ring ballot (no_effects part))) link (with_bit mask position)
              (record { lo = lo; hi = hi; ballot = ballot; value = value })
              (settled_votes_anew (promises_anew ring ballot (no_effects part)) (record { lo = lo; hi = hi; ballot = ballot; value = value }) (settled_promises_anew (no_effects part) ballot s))

  settled_fetches : (part : Part) (from : NodeId) (lo : ℕ) → RoleSettled ring part.kept.trim part.coordinator.role → EffectsSettled ring (fetches ring part from lo)
  unfolding fetches
  settled_fetches part from lo s = go (nat_lt lo part.kept.trim)
    where
      go : (b : Bool) → EffectsSettled ring (if b then tells_trim ring (Some from) part
          else with_frames (tells_ranges ring from (ranges_page (learned_ranges (entries_from lo part.learner.held)))) (no_effects part))
      go true = s
      go false = s

  settled_refused : (part : Part) (ballot promise : ℕ) → RoleSettled ring part.kept.trim part.coordinator.role → EffectsSettled ring (refused ring part ballot promise)
  unfolding refused
  settled_refused part ballot promise s = by_role part.coordinator.role s
    where
      by_role : (role : Role) → RoleSettled ring part.kept.trim role → RoleSettled ring part.kept.trim (role_refused ballot role)
      by_role Idle r = tt
      by_role (Active campaign) r = go (campaign.ballot == ballot)
        where
          go : (b : Bool) → RoleSettled ring part.kept.trim (if b then Idle else Active campaign)
          go true = tt
          go false = r

  settled_resends : (link : Link) (part : Part) → RoleSettled ring part.kept.trim part.coordinator.role → EffectsSettled ring (resends ring link part)
  unfolding resends
  settled_resends link part s = by_role part.coordinator.role refl
    where
      by_role : (role : Role) → part.coordinator.role ≡ role → EffectsSettled ring (resends_in ring link part role)
      by_role Idle e = s
      by_role (Active campaign) e = s

-- ---- the rules at an acceptor

module _ (ring : Ring) (faces : ℕ → Face Value) (a : ℕ) (s : Seats ring a) (member : is_acceptor ring ≡ true) (all : (k : ℕ) → Local (acceptors ring) faces k (faces k))
    (f : Face Value) (local : Local (acceptors ring) faces a f) (part : Part) (t : PartTies (acceptors ring) (seen faces a f) f part)
    (settled : RoleSettled ring part.kept.trim part.coordinator.role) where
  none : EffectsTie ring faces a f part.kept f (no_effects part)
  none = effects_none ring faces a f part.kept part t refl

  fine : (now : Part) → RoleSettled ring now.kept.trim now.coordinator.role → PartFine ring now
  fine now r = record { settled = r; idle = λ e. absurd (cc) }

  stays : (effects : Effects) → EffectsTie ring faces a f part.kept f effects → EffectsSettled ring effects → Ruled ring faces a f part.kept effects
  stays effects d r = record { after = record { face = f; grows = Grows-refl f; ties = d }; fine = fine effects.part r }

  ruled : (effects : Effects) → After ring faces a f part.kept f effects → EffectsSettled ring effects → Ruled ring faces a f part.kept effects
  ruled effects d r = record { after = d; fine = fine effects.part r }

  -- proposing, from where what was done has come
  proposed : (g : Face Value) (link : Link) (effects : Effects) → EffectsTie ring faces a f part.kept g effects → EffectsSettled ring (proposes_after ring link effects)
  proposed g link effects d = proposes_after_settled ring faces a s.seat s.within all f local part.kept g link effects d

  pub ruled_prepares : (from : NodeId) (ballot lo : ℕ) → Ruled ring faces a f part.kept (prepares ring part from ballot lo)
  ruled_prepares from ballot lo =
      ruled (prepares ring part from ballot lo) (prepares_ties ring faces a s.seat s.within all f local part.kept part refl t s.alone from ballot lo) (settled_prepares ring part from ballot lo settled)

  pub ruled_accepts : (link : Link) (ballot lo hi mask : ℕ) (value : Value) → AcceptSaid (acceptors ring) faces ballot lo hi mask value
      → Ruled ring faces a f part.kept (accepts ring link part ballot lo hi mask value)
  ruled_accepts link ballot lo hi mask value said =
      ruled (accepts ring link part ballot lo hi mask value) (accepts_ties ring faces a s.seat s.within all f local part.kept link part refl t ballot lo hi mask value said)
      (settled_accepts ring link part ballot lo hi mask value settled)

  pub ruled_fetches : (from : NodeId) (lo : ℕ) → Ruled ring faces a f part.kept (fetches ring part from lo)
  ruled_fetches from lo = stays (fetches ring part from lo) (fetches_ties ring faces a f part.kept part refl t from lo) (settled_fetches ring part from lo settled)

  pub ruled_refused : (ballot promise : ℕ) → Ruled ring faces a f part.kept (refused ring part ballot promise)
  ruled_refused ballot promise = stays (refused ring part ballot promise) (refused_ties ring faces a f part.kept part refl t ballot promise) (settled_refused ring part ballot promise settled)

  pub ruled_resends : (link : Link) → Ruled ring faces a f part.kept (resends ring link part)
  ruled_resends link = stays (resends ring link part) (resends_ties ring faces a s.seat s.within s.seats all f local part.kept part refl t link) (settled_resends ring link part settled)

  pub ruled_levels : (link : Link) → Ruled ring faces a f part.kept (levels ring link part)
  unfolding levels
  ruled_levels link = ruled (levels ring link part) (levels_ties ring faces a s.seat s.within all f local part.kept link part refl t settled) (by_role part.coordinator.role t.role settled)
    where
      by_room : (campaign : Campaign) → CampaignTies (acceptors ring) (seen faces a f) f campaign → IsSettled ring part.kept.trim campaign → leads_now ring campaign ≡ true → (missing : ℕ) → 0 < missing
          → (b : Bool) → (has_room ring campaign && nat_lt campaign.next END) ≡ b
          → EffectsSettled ring (if b then proposes_after ring link (offers ring link (with_tick_taken campaign) (shortfall_from campaign.next missing) 0 (no_effects part))
          else no_effects (with_campaign (with_tick_taken campaign) part))
      by_room campaign r c leads missing some false e = record { above = c.above; fresh = c.fresh }
      by_room campaign r c leads missing some true e =
          let o = offered ring faces a s.seat s.within all f local part.kept link part refl t campaign r c leads missing some e in
          proposed o.face link (offers ring link (with_tick_taken campaign) (shortfall_from campaign.next missing) 0 (no_effects part)) o.ties

      by_answer : (campaign : Campaign) → CampaignTies (acceptors ring) (seen faces a f) f campaign → IsSettled ring part.kept.trim campaign → leads_now ring campaign ≡ true
          → (answer : Option ℕ) → ((missing : ℕ) → answer ≡ Some missing → 0 < missing) → EffectsSettled ring (levels_by ring link part (with_tick_taken campaign) answer)
      by_answer campaign r c leads None some = record { above = c.above; fresh = c.fresh }
      by_answer campaign r c leads (Some missing) some = by_room campaign r c leads missing (some missing refl) (has_room ring campaign && nat_lt campaign.next END) refl

      by_role : (role : Role) → RoleTies (acceptors ring) (seen faces a f) f role → RoleSettled ring part.kept.trim role → EffectsSettled ring (levels_in ring link part role)
      by_role Idle r c = settled
      by_role (Active campaign) r c = go (leads_now ring campaign) refl
        where
          go : (b : Bool) → leads_now ring campaign ≡ b → EffectsSettled ring (if b then levels_by ring link part (with_tick_taken campaign) (answer_of campaign.leveller) else no_effects part)
          go false e = settled
          go true e = by_answer campaign r c e (answer_of campaign.leveller) (λ missing is. some_missing campaign.leveller missing is)

  pub ruled_trimmed : (link : Link) (trim : ℕ) → Ruled ring faces a f part.kept (trimmed ring link part trim)
  unfolding trimmed
  ruled_trimmed link trim = ruled (trimmed ring link part trim) (trimmed_ties ring faces a s.seat s.within s.seats all f local part.kept part refl t link trim) (settled_now)
    where
      settled_now : EffectsSettled ring (trimmed ring link part trim)
      settled_now =
          let first = effects_trims ring faces a s.seat s.within s.seats all f local part.kept f (no_effects part) trim none in
          proposed first.face link (trims_to ring trim (no_effects part)) first.ties

  pub ruled_promised : (link : Link) (from : NodeId) (ballot lo hi trim : ℕ) (votes : List Voted) → ((k : ℕ) → position_of ring from ≡ Some k → PromiseSaid (faces k) ballot lo hi trim votes)
      → Ruled ring faces a f part.kept (promised ring link part from ballot lo hi trim votes)
  unfolding promised
  ruled_promised link from ballot lo hi trim votes said =
      ruled (promised ring link part from ballot lo hi trim votes) (promised_ties ring faces a s.seat s.within s.seats all f local part.kept link part refl t from ballot lo hi trim votes said) settled_now
    where
      settled_now : EffectsSettled ring (promised ring link part from ballot lo hi trim votes)
      settled_now =
          let first : After ring faces a f part.kept f (trims_to ring trim (no_effects part)) = effects_trims ring faces a s.seat s.within s.seats all f local part.kept f (no_effects part) trim none in
          let page : Page = record { ballot = ballot; lo = lo; hi = hi; votes = votes } in
          let own : Local (acceptors ring) faces a first.face = Local-reach (acceptors ring) faces a all f first.face local first.ties.done.reached in
          let now : (k : ℕ) → Grows (faces k) (seen faces a first.face k) = seen_from (acceptors ring) faces a first.face own.grown in
          let told = effects_reported ring faces a s.seat s.within s.seats all f local part.kept first.face (trims_to ring trim (no_effects part)) from page trim
          (λ k at. PromiseSaid-more (faces k) (seen faces a first.face k) ballot lo hi trim votes (now k) (said k at))
          (above_trim ring faces a s.seat s.within s.seats all f local part.kept trim (no_effects part)) first.ties in
          proposed first.face link (reported ring from page (trims_to ring trim (no_effects part))) told

  pub ruled_leads : (link : Link) → Ruled ring faces a f part.kept (leads ring link part)
  unfolding leads
  ruled_leads link = ruled (leads ring link part) (leads_ties ring faces a s.seat s.within s.alone all f local part.kept link part refl t) settled_now
    where
      by_limit : (b : Bool) → EffectsSettled ring (if b then with_line (BallotLimit ring.own ring.id) (no_effects part)
          else proposes_after ring link (campaigns ring (own_ballot ring part a) (promises ring (own_ballot ring part a) (no_effects part))))
      by_limit true = settled
      by_limit false =
          let least = is_least (greatest_seen part) (acceptors ring) a s.within in
          let up = least.above in
          let d = effects_starts ring faces a s.seat s.within s.alone all f local part.kept f (no_effects part) (own_ballot ring part a) (omega arith) least.leaves none in
          proposed d.face link (campaigns ring (own_ballot ring part a) (promises ring (own_ballot ring part a) (no_effects part))) d.ties

      settled_now : EffectsSettled ring (leads ring link part)
      settled_now = subst (λ o. EffectsSettled ring (starts_at ring link part o)) (sym s.seat) (by_limit (nat_le (2 ^ 48) (own_ballot ring part a)))

  pub ruled_starts : (link : Link) → Ruled ring faces a f part.kept (starts_on_tick ring link part)
  unfolding starts_on_tick
  ruled_starts link = by_role part.coordinator.role refl
    where
      by_role : (role : Role) → part.coordinator.role ≡ role → Ruled ring faces a f part.kept (starts_idle ring link part role)
      by_role (Active campaign) e = stays (no_effects part) none settled
      by_role Idle e = go (is_to_start ring link (owner_of ring (greatest_seen part)))
        where
          go : (b : Bool) → Ruled ring faces a f part.kept (if b then leads ring link part else no_effects part)
          go false = stays (no_effects part) none settled
          go true = ruled_leads link

  pub ruled_submits : (link : Link) (hops : ℕ) (client : ClientId) (seq : ℕ) (command : List ℕ) → Ruled ring faces a f part.kept (submits ring link part hops client seq command)
  unfolding submits
  ruled_submits link hops client seq command =
      ruled (submits ring link part hops client seq command) (submits_ties ring faces a s.seat s.within s.seats all f local part.kept part refl t link hops client seq command) settled_now
    where
      on : (hops : ℕ) → EffectsSettled ring (passes_on ring part hops (record { client = client; seq = seq; command = command }))
      on zero = settled
      on (suc hops) = settled

      waiting : (campaign : Campaign) → CampaignTies (acceptors ring) (seen faces a f) f campaign
          → CampaignTies (acceptors ring) (seen faces a f) f (with_pending (record { client = client; seq = seq; command = command }) campaign)
      waiting campaign r = record {
        next = r.next;
        leads = r.leads;
        passed = r.passed;
        promised = r.promised;
        reports = r.reports;
        outstanding = r.outstanding;
        sized = r.sized;
        ended = r.ended;
        ordered = r.ordered;
      }

      by_test : (campaign : Campaign) → CampaignTies (acceptors ring) (seen faces a f) f campaign → (b c d : Bool)
          → EffectsSettled ring (if b then with_line (InstanceLimit ring.own ring.id) (no_effects part)
          else if c then proposes ring link part
          else if d then no_effects part
          else proposes ring link (with_campaign (with_pending (record { client = client; seq = seq; command = command }) campaign) part))
      by_test campaign r true c d = settled
      by_test campaign r false true d = proposed f link (no_effects part) none
      by_test campaign r false false true = settled
      by_test campaign r false false false =
          let now : Part = with_campaign (with_pending (record { client = client; seq = seq; command = command }) campaign) part in
          proposed f link (no_effects now) (effects_none ring faces a f part.kept now (record { kept = t.kept; role = waiting campaign r; learner = t.learner }) refl)

      by_role : (role : Role) → RoleTies (acceptors ring) (seen faces a f) f role → EffectsSettled ring (submits_in ring link part hops (record { client = client; seq = seq; command = command }) role)
      by_role Idle r = on hops
      by_role (Active campaign) r = leading (leads_now ring campaign)
        where
          leading : (b : Bool) → EffectsSettled ring (if b then submits_leading ring link part (record { client = client; seq = seq; command = command }) campaign
              else passes_on ring part hops (record { client = client; seq = seq; command = command }))
          leading false = on hops
          leading true = by_test campaign r (nat_le END campaign.next) (is_pending (record { client = client; seq = seq; command = command }) campaign.pending) (nat_le most_pending (length campaign.pending))

      settled_now : EffectsSettled ring (submits ring link part hops client seq command)
      settled_now = by_role part.coordinator.role t.role

  -- ---- rounds

  ends_settled : (link : Link) (round : Round) (effects : Effects) (o : Option ℕ) → EffectsTie ring faces a f part.kept f effects → EffectsSettled ring effects → EffectsSettled ring (ends_by ring link round effects o)
  ends_settled link round effects None d r = r
  ends_settled link round effects (Some inst) d r =
      let now : Effects = with_part (in_round None effects.part) effects in
      let e = effects_trims_above ring faces a s.seat s.within s.seats s.alone all f local part.kept f now inst (effects_rounds ring faces a s.seat s.within s.seats s.alone all f local part.kept f effects _ d) in
      proposed e.face link (trims_above ring inst now) e.ties

  pub ruled_answers : (link : Link) (from : NodeId) (number inst : ℕ) → Ruled ring faces a f part.kept (answers ring link part from number inst)
  unfolding answers
  ruled_answers link from number inst =
      ruled (answers ring link part from number inst) (answers_ties ring faces a s.seat s.within s.seats s.alone all f local part.kept link part refl t from number inst) settled_now
    where
      by_round : (o : Option Round) → EffectsSettled ring (answers_in ring link part from number inst o)
      by_round None = settled
      by_round (Some current) = go (number == current.number)
        where
          go : (b : Bool) → EffectsSettled ring (if b then goes_on_round ring link (with_answer ring from inst current) (no_effects part) else no_effects part)
          go false = settled
          go true = ends_settled link (with_answer ring from inst current) (no_effects part) (least ring (with_answer ring from inst current)) none settled

      settled_now : EffectsSettled ring (answers ring link part from number inst)
      settled_now = by_round part.rounds.current

  pub ruled_asks_round : (link : Link) (own_safe : Option ℕ) → Ruled ring faces a f part.kept (asks_round ring link part own_safe)
  unfolding asks_round
  ruled_asks_round link own_safe =
      ruled (asks_round ring link part own_safe) (asks_round_ties ring faces a s.seat s.within s.seats s.alone all f local part.kept link part refl t own_safe) settled_now
    where
      asked : EffectsTie ring faces a f part.kept f (no_effects (with_asked part))
      asked = effects_none ring faces a f part.kept (with_asked part) (record { kept = t.kept; role = t.role; learner = t.learner }) refl

      go : (b : Bool) → EffectsSettled ring (if b then asks ring link part own_safe else no_effects part)
      go false = settled
      go true =
          let round : Round = with_own_answer ring own_safe (next_round part) in
          let effects : Effects = with_frames (sends_each ring (by_id (replicas_of ring.subscribers)) (body.AskSafe ring.id (suc part.rounds.asked))) (no_effects (with_asked part)) in
          ends_settled link round effects (least ring round)
          (effects_frames ring faces a f part.kept f (no_effects (with_asked part)) (sends_each ring (by_id (replicas_of ring.subscribers)) (body.AskSafe ring.id (suc part.rounds.asked)))
          (said_sends_each ring (seen faces a f) (by_id (replicas_of ring.subscribers)) (body.AskSafe ring.id (suc part.rounds.asked)) tt) asked) settled

      settled_now : EffectsSettled ring (asks_round ring link part own_safe)
      settled_now = go (role_leads ring part.coordinator.role)

-- ---- the rules at any member

module _ (ring : Ring) (faces : ℕ → Face Value) (a : ℕ) (f : Face Value) (part : Part) (t : PartTies (acceptors ring) (seen faces a f) f part) (fine : PartFine ring part) where
  pub ruled_decided : (link : Link) (lo hi left : ℕ) (value : Value) → IsRangeChosen (acceptors ring) (seen faces a f) (record { lo = lo; hi = hi; value = value })
      → Ruled ring faces a f part.kept (decided ring link part lo hi left value)
  unfolding decided
  ruled_decided link lo hi left value is = record {
    after = record { face = f; grows = Grows-refl f; ties = decided_ties ring faces a f part.kept part refl t link lo hi left value is };
    fine = fine_now;
  }
    where
      passed : (left : ℕ) → PartFine ring (passed_on ring link lo hi left value (no_effects part)).part
      passed zero = fine
      passed (suc left) = fine

      fine_now : PartFine ring (decided ring link part lo hi left value).part
      fine_now = passed left

  pub ruled_chosen : (ranges : List Decided) → AllByRecursion (IsRangeChosen (acceptors ring) (seen faces a f)) ranges → Ruled ring faces a f part.kept (chosen ring part ranges)
  unfolding chosen
  ruled_chosen ranges is = record {
    after = record { face = f; grows = Grows-refl f; ties = chosen_ties ring faces a f part.kept part refl t ranges is };
    fine = fine_now;
  }
    where
      fine_now : PartFine ring (chosen ring part ranges).part
      fine_now = fine
