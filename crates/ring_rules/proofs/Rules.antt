-- What each other rule of a ring makes is of that ring: coordinators, learners, what is sent again, the leveller and rounds.
use Rattle.std.proofs.Common.{ℕ, zero, suc, ◌^◌, Bool, true, false, List, [], ◌∷◌, length, max, Option, Some, None, refl}
use Rattle.std.specs.Prelude.{◌==◌, nat_lt, nat_le, if◌then◌else◌, ◌&&◌, slice_index}
use Rattle.std.specs.List.{AllByRecursion}
use Rattle.mrp_types.specs.declared.id.NodeId.{NodeId}
use Rattle.mrp_types.specs.declared.id.ClientId.{ClientId}
use Rattle.mrp_types.specs.declared.id.TheConstants.{END}
use Rattle.mrp_types.specs.declared.value.Value.{Value}
use Rattle.mrp_types.specs.declared.voted.Voted.{Voted}
use Rattle.mrp_types.specs.declared.voted.Decided.{Decided}
use Rattle.range_map.specs.Entries.{entries_from}
use Rattle.vote_state.specs.declared.change.Change.TheVariants.{Trim as TrimChange}
use Rattle.vote_state.specs.State.{with_trim}
use Rattle.ring_link.specs.Silence.{Link}
use Rattle.skip_leveller.specs.Levelling.{answer_of}
use Rattle.frames.specs.declared.body.Body.{Body}
use Rattle.frames.specs.declared.body.Body.TheVariants as body
use Rattle.protocol.specs.Lines.{Line, Trim, BallotLimit, InstanceLimit}
use Rattle.protocol.specs.Parts.{Ring, Campaign, Role, Idle, Active, Round, Part, Effects}
use Rattle.protocol.specs.Rings.{by_id, replicas_of, other_acceptors, owner_of, position_of, next_member, next_acceptor, sends, sends_each}
use Rattle.protocol.specs.Effects.{no_effects, with_part, with_change, with_frames, with_kept, with_campaign, with_line}
use Rattle.protocol.specs.Learner.{without_finished, learned_ranges, passed_on, decided, chosen}
use Rattle.protocol.specs.Acceptor.{promises, trims_to, tells_trim, tells_ranges, ranges_page, fetches}
use Rattle.protocol.specs.Ballots.{Page, with_page, asks_more, counts, reported_at, reported, campaigns, own_ballot, greatest_seen, role_leads, leads_now}
use Rattle.protocol.specs.Proposing.{proposes_after, proposes, offers, has_room, own_mask}
use Rattle.protocol.specs.Coordinator.{starts_at, leads, promised, refused, passes_on, is_pending, with_pending, most_pending, submits_leading, submits_in, submits}
use Rattle.protocol.specs.Leading.{is_to_start, starts_idle, starts_on_tick, prepares_again, accepts_again, resends_in, resends, with_tick_taken, shortfall_from, levels_by, levels_in, levels}
use Rattle.protocol.specs.Trimming.{trimmed, least, with_answer, in_round, trims_all, trims_above, ends_by, goes_on_round, with_own_answer, next_round, with_asked, asks, asks_round, answers_in, answers}
use Rattle.beside_rings.specs.Beside.{IsNoLearn}
use Rattle.ring_rules.specs.Own.{IsSentOf, IsBodyOf, IsOf}
use Rattle.ring_rules.proofs.Apart.{of_sends, of_none, of_frames, of_change, of_promises, of_offers, of_proposes_after}
use Rattle.quorums.proofs.Each.{appended}

of_sends_each : (ring : Ring) (nodes : List NodeId) (b : Body) → IsBodyOf ring.id b → AllByRecursion (IsSentOf ring.id) (sends_each ring nodes b)
of_sends_each ring [] b is = tt
of_sends_each ring (node ∷ nodes) b is = appended (IsSentOf ring.id) (sends ring (Some node) b) (sends_each ring nodes b) (of_sends ring (Some node) b is) (of_sends_each ring nodes b is)

module _ (ring : Ring) where
  -- the part, lines and what is learned don't count
  of_line : (effects : Effects) (line : Line) → IsNoLearn line → IsOf ring effects → IsOf ring (with_line line effects)
  of_line effects line is o = record { changes = o.changes; frames = o.frames; lines = appended IsNoLearn effects.lines (line ∷ []) o.lines (is, tt) }

  of_trims : (effects : Effects) (trim : ℕ) → IsOf ring effects → IsOf ring (trims_to ring trim effects)
  of_trims effects trim o = go (nat_le trim effects.part.kept.trim)
    where
      go : (b : Bool) → IsOf ring (if b then effects else with_change (TrimChange ring.id trim) (without_finished (with_kept (with_trim trim effects.part.kept) effects.part)) effects)
      go true = o
      go false = of_change ring effects (TrimChange ring.id trim) (without_finished (with_kept (with_trim trim effects.part.kept) effects.part)) refl o

  of_reported : (effects : Effects) (from : NodeId) (page : Page) → IsOf ring effects → IsOf ring (reported ring from page effects)
  of_reported effects from page o = at effects.part.coordinator.role (position_of ring from)
    where
      asks_of : (b : Bool) → AllByRecursion (IsSentOf ring.id) (if b then [] else sends ring (Some from) (body.Prepare ring.id page.ballot page.hi))
      asks_of true = tt
      asks_of false = of_sends ring (Some from) (body.Prepare ring.id page.ballot page.hi) tt

      by_test : (campaign : Campaign) (k : ℕ) (b : Bool)
          → IsOf ring (if b then with_frames (asks_more ring from page) (with_part (with_campaign (with_page k (slice_index campaign.covered k) page campaign) effects.part) effects) else effects)
      by_test campaign k false = o
      by_test campaign k true =
          of_frames ring (with_part (with_campaign (with_page k (slice_index campaign.covered k) page campaign) effects.part) effects) (asks_more ring from page) (asks_of (page.hi == END))
          (record { changes = o.changes; frames = o.frames; lines = o.lines })

      at : (role : Role) (k : Option ℕ) → IsOf ring (reported_at ring from page role k effects)
      at Idle k = o
      at (Active campaign) None = o
      at (Active campaign) (Some k) = by_test campaign k (counts page campaign.ballot (slice_index campaign.covered k))

  pub of_promised : (link : Link) (part : Part) (from : NodeId) (ballot lo hi trim : ℕ) (votes : List Voted) → IsOf ring (promised ring link part from ballot lo hi trim votes)
  unfolding promised
  of_promised link part from ballot lo hi trim votes =
      of_proposes_after ring (reported ring from (record { ballot = ballot; lo = lo; hi = hi; votes = votes }) (trims_to ring trim (no_effects part))) link
      (of_reported (trims_to ring trim (no_effects part)) from (record { ballot = ballot; lo = lo; hi = hi; votes = votes }) (of_trims (no_effects part) trim (of_none ring part)))

  pub of_refused : (part : Part) (ballot promise : ℕ) → IsOf ring (refused ring part ballot promise)
  unfolding refused
  of_refused part ballot promise = record { changes = tt; frames = tt; lines = tt }

  pub of_trimmed : (link : Link) (part : Part) (trim : ℕ) → IsOf ring (trimmed ring link part trim)
  unfolding trimmed
  of_trimmed link part trim = of_proposes_after ring (trims_to ring trim (no_effects part)) link (of_trims (no_effects part) trim (of_none ring part))

  pub of_decided : (link : Link) (part : Part) (lo hi left : ℕ) (value : Value) → IsOf ring (decided ring link part lo hi left value)
  unfolding decided
  of_decided link part lo hi left value = let p = passed left in record { changes = p.changes; frames = p.frames; lines = p.lines }
    where
      passed : (left : ℕ) → IsOf ring (passed_on ring link lo hi left value (no_effects part))
      passed zero = of_none ring part
      passed (suc left) = of_frames ring (no_effects part) _ (of_sends ring (next_member ring link) (body.Decide ring.id lo hi left value) refl) (of_none ring part)

  pub of_chosen : (part : Part) (ranges : List Decided) → IsOf ring (chosen ring part ranges)
  unfolding chosen
  of_chosen part ranges = record { changes = tt; frames = tt; lines = tt }

  pub of_fetches : (part : Part) (from : NodeId) (lo : ℕ) → IsOf ring (fetches ring part from lo)
  unfolding fetches
  of_fetches part from lo = go (nat_lt lo part.kept.trim)
    where
      page : (ranges : List Decided) → AllByRecursion (IsSentOf ring.id) (tells_ranges ring from ranges)
      page [] = tt
      page (range ∷ ranges) = of_sends ring (Some from) (body.Chosen ring.id (range ∷ ranges)) refl

      go : (b : Bool) → IsOf ring (if b then tells_trim ring (Some from) part
          else with_frames (tells_ranges ring from (ranges_page (learned_ranges (entries_from lo part.learner.held)))) (no_effects part))
      go true = of_frames ring (no_effects part) _ (of_sends ring (Some from) (body.Trimmed ring.id part.kept.trim) tt) (of_none ring part)
      go false = of_frames ring (no_effects part) _ (page (ranges_page (learned_ranges (entries_from lo part.learner.held)))) (of_none ring part)

  -- ---- a start

  of_campaigns : (effects : Effects) (ballot : ℕ) → IsOf ring effects → IsOf ring (campaigns ring ballot effects)
  of_campaigns effects ballot o =
      let f = of_frames ring effects (sends_each ring (other_acceptors ring) (body.Prepare ring.id ballot effects.part.kept.trim))
      (of_sends_each ring (other_acceptors ring) (body.Prepare ring.id ballot effects.part.kept.trim) tt) o in
      record { changes = f.changes; frames = f.frames; lines = f.lines }

  pub of_leads : (link : Link) (part : Part) → IsOf ring (leads ring link part)
  unfolding leads
  of_leads link part = at (position_of ring ring.own)
    where
      by_limit : (ballot : ℕ) (b : Bool) → IsOf ring (if b then with_line (BallotLimit ring.own ring.id) (no_effects part)
          else proposes_after ring link (campaigns ring ballot (promises ring ballot (no_effects part))))
      by_limit ballot true = of_line (no_effects part) (BallotLimit ring.own ring.id) tt (of_none ring part)
      by_limit ballot false =
          of_proposes_after ring (campaigns ring ballot (promises ring ballot (no_effects part))) link
          (of_campaigns (promises ring ballot (no_effects part)) ballot (of_promises ring (no_effects part) ballot (of_none ring part)))

      at : (o : Option ℕ) → IsOf ring (starts_at ring link part o)
      at None = of_none ring part
      at (Some position) = by_limit (own_ballot ring part position) (nat_le (2 ^ 48) (own_ballot ring part position))

  pub of_starts_on_tick : (link : Link) (part : Part) → IsOf ring (starts_on_tick ring link part)
  unfolding starts_on_tick
  of_starts_on_tick link part = by_role part.coordinator.role
    where
      by_role : (role : Role) → IsOf ring (starts_idle ring link part role)
      by_role (Active campaign) = of_none ring part
      by_role Idle = go (is_to_start ring link (owner_of ring (greatest_seen part)))
        where
          go : (b : Bool) → IsOf ring (if b then leads ring link part else no_effects part)
          go true = of_leads link part
          go false = of_none ring part

  -- ---- commands

  pub of_submits : (link : Link) (part : Part) (hops : ℕ) (client : ClientId) (seq : ℕ) (command : List ℕ) → IsOf ring (submits ring link part hops client seq command)
  unfolding submits
  of_submits link part hops client seq command = by_role part.coordinator.role
    where
      on : (hops : ℕ) → IsOf ring (passes_on ring part hops (record { client = client; seq = seq; command = command }))
      on zero = of_frames ring (no_effects part) _ (of_sends ring (owner_of ring (greatest_seen part)) (body.Submit ring.id 1 client seq command) tt) (of_none ring part)
      on (suc hops) = of_none ring part

      by_test : (campaign : Campaign) (b c d : Bool) → IsOf ring (if b then with_line (InstanceLimit ring.own ring.id) (no_effects part)
          else if c then proposes ring link part
          else if d then no_effects part
          else proposes ring link (with_campaign (with_pending (record { client = client; seq = seq; command = command }) campaign) part))
      by_test campaign true c d = of_line (no_effects part) (InstanceLimit ring.own ring.id) tt (of_none ring part)
      by_test campaign false true d = of_proposes_after ring (no_effects part) link (of_none ring part)
      by_test campaign false false true = of_none ring part
      by_test campaign false false false =
          let now : Part = with_campaign (with_pending (record { client = client; seq = seq; command = command }) campaign) part in
          of_proposes_after ring (no_effects now) link (of_none ring now)

      by_role : (role : Role) → IsOf ring (submits_in ring link part hops (record { client = client; seq = seq; command = command }) role)
      by_role Idle = on hops
      by_role (Active campaign) = leading (leads_now ring campaign)
        where
          leading : (b : Bool) → IsOf ring (if b then submits_leading ring link part (record { client = client; seq = seq; command = command }) campaign
              else passes_on ring part hops (record { client = client; seq = seq; command = command }))
          leading false = on hops
          leading true = by_test campaign (nat_le END campaign.next) (is_pending (record { client = client; seq = seq; command = command }) campaign.pending) (nat_le most_pending (length campaign.pending))

  -- ---- sent again

  pub of_resends : (link : Link) (part : Part) → IsOf ring (resends ring link part)
  unfolding resends
  of_resends link part = by_role part.coordinator.role
    where
      prepared : (ballot : ℕ) (nodes : List NodeId) (covered : List ℕ) → AllByRecursion (IsSentOf ring.id) (prepares_again ring ballot nodes covered)
      prepared ballot [] covered = tt
      prepared ballot (node ∷ nodes) [] = tt
      prepared ballot (node ∷ nodes) (c ∷ later) =
          appended (IsSentOf ring.id) (if nat_lt c END then sends ring (Some node) (body.Prepare ring.id ballot c) else []) (prepares_again ring ballot nodes later)
          (one (nat_lt c END)) (prepared ballot nodes later)
        where
          one : (b : Bool) → AllByRecursion (IsSentOf ring.id) (if b then sends ring (Some node) (body.Prepare ring.id ballot c) else [])
          one true = of_sends ring (Some node) (body.Prepare ring.id ballot c) tt
          one false = tt

      accepted : (ballot : ℕ) (ranges : List Decided) → AllByRecursion (IsSentOf ring.id) (accepts_again ring (next_acceptor ring link) ballot part.kept.trim ranges)
      accepted ballot [] = tt
      accepted ballot (range ∷ ranges) =
          appended (IsSentOf ring.id)
          (sends ring (next_acceptor ring link) (body.Accept ring.id ballot (max range.lo part.kept.trim) range.hi (own_mask ring) range.value))
          (accepts_again ring (next_acceptor ring link) ballot part.kept.trim ranges)
          (of_sends ring (next_acceptor ring link) (body.Accept ring.id ballot (max range.lo part.kept.trim) range.hi (own_mask ring) range.value) refl)
          (accepted ballot ranges)

      by_role : (role : Role) → IsOf ring (resends_in ring link part role)
      by_role Idle = of_none ring part
      by_role (Active campaign) =
          of_frames ring (with_frames (prepares_again ring campaign.ballot ring.acceptors campaign.covered) (no_effects part))
          (accepts_again ring (next_acceptor ring link) campaign.ballot part.kept.trim campaign.outstanding) (accepted campaign.ballot campaign.outstanding)
          (of_frames ring (no_effects part) (prepares_again ring campaign.ballot ring.acceptors campaign.covered) (prepared campaign.ballot ring.acceptors campaign.covered) (of_none ring part))

  -- ---- levelling

  pub of_levels : (link : Link) (part : Part) → IsOf ring (levels ring link part)
  unfolding levels
  of_levels link part = by_role part.coordinator.role
    where
      kept_on : (campaign : Campaign) → IsOf ring (no_effects (with_campaign campaign part))
      kept_on campaign = record { changes = tt; frames = tt; lines = tt }

      by_room : (campaign : Campaign) (missing : ℕ) (b : Bool) → IsOf ring (if b then proposes_after ring link (offers ring link campaign (shortfall_from campaign.next missing) 0 (no_effects part))
          else no_effects (with_campaign campaign part))
      by_room campaign missing true =
          of_proposes_after ring (offers ring link campaign (shortfall_from campaign.next missing) 0 (no_effects part)) link
          (of_offers ring (no_effects part) link campaign (shortfall_from campaign.next missing) 0 (of_none ring part))
      by_room campaign missing false = kept_on campaign

      by_answer : (campaign : Campaign) (o : Option ℕ) → IsOf ring (levels_by ring link part campaign o)
      by_answer campaign None = kept_on campaign
      by_answer campaign (Some missing) = by_room campaign missing (has_room ring campaign && nat_lt campaign.next END)

      by_role : (role : Role) → IsOf ring (levels_in ring link part role)
      by_role Idle = of_none ring part
      by_role (Active campaign) = go (leads_now ring campaign)
        where
          go : (b : Bool) → IsOf ring (if b then levels_by ring link part (with_tick_taken campaign) (answer_of campaign.leveller) else no_effects part)
          go false = of_none ring part
          go true = by_answer (with_tick_taken campaign) (answer_of campaign.leveller)

  -- ---- rounds

  of_trims_above : (effects : Effects) (inst : ℕ) → IsOf ring effects → IsOf ring (trims_above ring inst effects)
  of_trims_above effects inst o = go (nat_lt effects.part.kept.trim inst)
    where
      go : (b : Bool) → IsOf ring (if b then trims_all ring inst effects else effects)
      go false = o
      go true =
          of_frames ring (trims_to ring inst (with_line (Trim ring.own ring.id inst) effects)) (sends_each ring (other_acceptors ring) (body.TrimTo ring.id inst))
          (of_sends_each ring (other_acceptors ring) (body.TrimTo ring.id inst) tt)
          (of_trims (with_line (Trim ring.own ring.id inst) effects) inst (of_line effects (Trim ring.own ring.id inst) tt o))

  of_ends : (link : Link) (round : Round) (effects : Effects) (o : Option ℕ) → IsOf ring effects → IsOf ring (ends_by ring link round effects o)
  of_ends link round effects None d = record { changes = d.changes; frames = d.frames; lines = d.lines }
  of_ends link round effects (Some inst) d =
      of_proposes_after ring (trims_above ring inst (with_part (in_round None effects.part) effects)) link
      (of_trims_above (with_part (in_round None effects.part) effects) inst (record { changes = d.changes; frames = d.frames; lines = d.lines }))

  pub of_asks_round : (link : Link) (part : Part) (own_safe : Option ℕ) → IsOf ring (asks_round ring link part own_safe)
  unfolding asks_round
  of_asks_round link part own_safe = go (role_leads ring part.coordinator.role)
    where
      go : (b : Bool) → IsOf ring (if b then asks ring link part own_safe else no_effects part)
      go false = of_none ring part
      go true =
          let round : Round = with_own_answer ring own_safe (next_round part) in
          let effects : Effects = with_frames (sends_each ring (by_id (replicas_of ring.subscribers)) (body.AskSafe ring.id (suc part.rounds.asked))) (no_effects (with_asked part)) in
          of_ends link round effects (least ring round)
          (of_frames ring (no_effects (with_asked part)) (sends_each ring (by_id (replicas_of ring.subscribers)) (body.AskSafe ring.id (suc part.rounds.asked)))
          (of_sends_each ring (by_id (replicas_of ring.subscribers)) (body.AskSafe ring.id (suc part.rounds.asked)) tt) (of_none ring (with_asked part)))

  pub of_answers : (link : Link) (part : Part) (from : NodeId) (number inst : ℕ) → IsOf ring (answers ring link part from number inst)
  unfolding answers
  of_answers link part from number inst = by_round part.rounds.current
    where
      by_round : (o : Option Round) → IsOf ring (answers_in ring link part from number inst o)
      by_round None = of_none ring part
      by_round (Some current) = go (number == current.number)
        where
          go : (b : Bool) → IsOf ring (if b then goes_on_round ring link (with_answer ring from inst current) (no_effects part) else no_effects part)
          go false = of_none ring part
          go true = of_ends link (with_answer ring from inst current) (no_effects part) (least ring (with_answer ring from inst current)) (of_none ring part)
