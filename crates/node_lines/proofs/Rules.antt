-- What a rule of a ring prints is a line of a node.
use Rattle.std.proofs.Common.{ℕ, zero, suc, ◌==◌, ◌^◌, nat_lt, ◌&&◌, length, List, [], ◌∷◌, Option, Some, None}
use Rattle.std.specs.Prelude.{if◌then◌else◌, nat_le, not}
use Rattle.mrp_types.specs.declared.id.NodeId.{NodeId}
use Rattle.mrp_types.specs.declared.id.ClientId.{ClientId}
use Rattle.mrp_types.specs.declared.value.Value.{Value}
use Rattle.mrp_types.specs.declared.value.Entry.{Entry}
use Rattle.mrp_types.specs.declared.voted.Voted.{Voted}
use Rattle.mrp_types.specs.declared.voted.Decided.{Decided}
use Rattle.mrp_types.specs.declared.id.TheConstants.{END}
use Rattle.ring_link.specs.Silence.{Link}
use Rattle.quorums.proofs.Each.{appended}
use Rattle.frames.specs.declared.body.Body.TheVariants.{AskSafe}
use Rattle.range_map.specs.Entries.{entries_from}
use Rattle.skip_leveller.specs.Levelling.{answer_of}
use Rattle.protocol.specs.Lines.{Trim, BallotLimit, InstanceLimit}
use Rattle.protocol.specs.Parts.{Ring, Campaign, Role, Idle, Active, Part, Effects, Round}
use Rattle.protocol.specs.Effects.{no_effects, with_line, with_frames, with_campaign}
use Rattle.protocol.specs.Rings.{is_node, owner_of, position_of, has_bit, with_bit, by_id, replicas_of, sends_each}
use Rattle.protocol.specs.Acceptor.{prepares, accepts, accepts_at, fetches, trims_to, votes_anew, promises_anew, promises, decides_or_forwards, refuses, tells_promise, tells_trim, tells_ranges, ranges_page}
use Rattle.protocol.specs.Ballots.{Page, reported, reported_at, campaigns, own_ballot, leads_now, greatest_seen, role_leads}
use Rattle.protocol.specs.Coordinator.{leads, starts_at, starts_with, promised, refused, submits, submits_in, submits_leading, passes_on, waits, with_pending, is_pending, most_pending}
use Rattle.protocol.specs.Leading.{is_to_start, starts_idle, starts_on_tick, resends, resends_in, levels, levels_in, levels_by, shortfall_from, with_tick_taken}
use Rattle.protocol.specs.Learner.{decided, chosen, learned_ranges}
use Rattle.protocol.specs.Proposing.{offers, Turn, Stops, Proposes, Choice, Rests, Offers, turn_by, turn_in, turn_of, proposing, proposes_after, proposes, advanced, has_room}
use Rattle.protocol.specs.Trimming.{trimmed, trims_above, ends_by, asks_round, answers, answers_in, least, asks, with_own_answer, next_round, with_asked, with_answer, goes_on_round}
use Rattle.node_lines.specs.Printed.{IsNodeLine}
use Rattle.node_lines.proofs.Quiet.{Quiet, either}

module _ (ring : Ring) where
  -- ---- words

  trims_quiet : (trim : ℕ) (effects : Effects) → Quiet effects.lines → Quiet (trims_to ring trim effects).lines
  trims_quiet trim effects q = either _ _ _ q q

  promises_quiet : (ballot : ℕ) (effects : Effects) → Quiet effects.lines → Quiet (promises_anew ring ballot effects).lines
  promises_quiet ballot effects q = either _ _ _ q q

  votes_quiet : (vote : Voted) (effects : Effects) → Quiet effects.lines → Quiet (votes_anew ring vote effects).lines
  votes_quiet vote effects q = either _ _ _ q q

  forwards_quiet : (link : Link) (mask : ℕ) (vote : Voted) (effects : Effects) → Quiet effects.lines → Quiet (decides_or_forwards ring link mask vote effects).lines
  forwards_quiet link mask vote effects q = either _ _ _ q q

  offers_quiet : (link : Link) (campaign : Campaign) (range : Decided) (taken : ℕ) (effects : Effects) → Quiet effects.lines → Quiet (offers ring link campaign range taken effects).lines
  unfolding offers
  offers_quiet link campaign range taken effects q = forwards_quiet link _ _ _ q

  -- ---- proposing

  TurnQuiet : Turn → Type 0
  TurnQuiet (Stops effects) = Quiet effects.lines
  TurnQuiet (Proposes campaign range taken effects) = Quiet effects.lines

  turn_quiet : (effects : Effects) → Quiet effects.lines → TurnQuiet (turn_of ring effects)
  unfolding TurnQuiet
  turn_quiet effects q = by effects.part.coordinator.role
    where
      chosen_by : (campaign : Campaign) (c : Choice) → TurnQuiet (turn_by effects campaign c)
      chosen_by campaign Rests = q
      chosen_by campaign (Offers range taken) = q

      by : (role : Role) → TurnQuiet (turn_in ring effects role)
      by Idle = q
      by (Active campaign) = chosen_by (advanced effects.part campaign) _

  proposing_quiet : (n : ℕ) (link : Link) (turn : Turn) → TurnQuiet turn → Quiet (proposing n ring link turn).lines
  unfolding proposing TurnQuiet
  proposing_quiet zero link (Stops effects) q = q
  proposing_quiet zero link (Proposes campaign range taken effects) q = q
  proposing_quiet (suc n) link (Stops effects) q = q
  proposing_quiet (suc n) link (Proposes campaign range taken effects) q =
      proposing_quiet n link (turn_of ring (offers ring link campaign range taken effects))
      (turn_quiet (offers ring link campaign range taken effects) (offers_quiet link campaign range taken effects q))

  after_quiet : (link : Link) (effects : Effects) → Quiet effects.lines → Quiet (proposes_after ring link effects).lines
  unfolding proposes_after
  after_quiet link effects q = proposing_quiet END link (turn_of ring effects) (turn_quiet effects q)

  pub proposes_quiet : (link : Link) (part : Part) → Quiet (proposes ring link part).lines
  proposes_quiet link part = after_quiet link (no_effects part) tt

  -- ---- acceptors and learners

  pub prepares_quiet : (part : Part) (from : NodeId) (ballot lo : ℕ) → Quiet (prepares ring part from ballot lo).lines
  unfolding prepares
  prepares_quiet part from ballot lo =
      either (not (is_node from (owner_of ring ballot))) (no_effects part)
      (if nat_lt ballot part.kept.promise then refuses ring (Some from) ballot part else tells_promise ring from ballot lo (promises ring ballot (no_effects part))) tt
      (either (nat_lt ballot part.kept.promise) (refuses ring (Some from) ballot part) (tells_promise ring from ballot lo (promises ring ballot (no_effects part))) tt tt)

  pub accepts_quiet : (link : Link) (part : Part) (ballot lo hi mask : ℕ) (value : Value) → Quiet (accepts ring link part ballot lo hi mask value).lines
  unfolding accepts
  accepts_quiet link part ballot lo hi mask value = by (position_of ring ring.own)
    where
      vote : Voted
      vote = record { lo = lo; hi = hi; ballot = ballot; value = value }

      anew : Effects
      anew = votes_anew ring vote (promises_anew ring ballot (no_effects part))

      last : (position : ℕ) → Effects
      last position = if has_bit mask position then no_effects part else decides_or_forwards ring link (with_bit mask position) vote anew

      late : (position : ℕ) → Effects
      late position = if nat_lt lo part.kept.trim then tells_trim ring (owner_of ring ballot) part else last position

      by : (o : Option ℕ) → Quiet (accepts_at ring link part mask vote o).lines
      by None = tt
      by (Some position) =
          either (nat_lt ballot part.kept.promise) (refuses ring (owner_of ring ballot) ballot part) (late position) tt
          (either (nat_lt lo part.kept.trim) (tells_trim ring (owner_of ring ballot) part) (last position) tt
          (either (has_bit mask position) (no_effects part) (decides_or_forwards ring link (with_bit mask position) vote anew) tt
          (forwards_quiet link (with_bit mask position) vote anew (votes_quiet vote (promises_anew ring ballot (no_effects part)) (promises_quiet ballot (no_effects part) tt)))))

  pub fetches_quiet : (part : Part) (from : NodeId) (lo : ℕ) → Quiet (fetches ring part from lo).lines
  unfolding fetches
  fetches_quiet part from lo =
      either (nat_lt lo part.kept.trim) (tells_trim ring (Some from) part)
      (with_frames (tells_ranges ring from (ranges_page (learned_ranges (entries_from lo part.learner.held)))) (no_effects part)) tt tt

  pub decided_quiet : (link : Link) (part : Part) (lo hi left : ℕ) (value : Value) → Quiet (decided ring link part lo hi left value).lines
  unfolding decided
  decided_quiet link part lo hi zero value = tt
  decided_quiet link part lo hi (suc left) value = tt

  pub chosen_quiet : (part : Part) (ranges : List Decided) → Quiet (chosen ring part ranges).lines
  unfolding chosen
  chosen_quiet part ranges = tt

  pub trimmed_quiet : (link : Link) (part : Part) (trim : ℕ) → Quiet (trimmed ring link part trim).lines
  unfolding trimmed
  trimmed_quiet link part trim = after_quiet link _ (trims_quiet trim (no_effects part) tt)

  -- ---- coordinators

  reported_quiet : (from : NodeId) (page : Page) (effects : Effects) → Quiet effects.lines → Quiet (reported ring from page effects).lines
  reported_quiet from page effects q = by effects.part.coordinator.role _
    where
      by : (role : Role) (o : Option ℕ) → Quiet (reported_at ring from page role o effects).lines
      by Idle o = q
      by (Active campaign) None = q
      by (Active campaign) (Some position) = either _ _ _ q q

  pub promised_quiet : (link : Link) (part : Part) (from : NodeId) (ballot lo hi trim : ℕ) (votes : List Voted) → Quiet (promised ring link part from ballot lo hi trim votes).lines
  unfolding promised
  promised_quiet link part from ballot lo hi trim votes =
      let page : Page = record { ballot = ballot; lo = lo; hi = hi; votes = votes } in
      let trimmed_first : Effects = trims_to ring trim (no_effects part) in
      after_quiet link (reported ring from page trimmed_first) (reported_quiet from page trimmed_first (trims_quiet trim (no_effects part) tt))

  pub refused_quiet : (part : Part) (ballot promise : ℕ) → Quiet (refused ring part ballot promise).lines
  unfolding refused
  refused_quiet part ballot promise = tt

  pub leads_quiet : (link : Link) (part : Part) → Quiet (leads ring link part).lines
  unfolding leads
  leads_quiet link part = by (position_of ring ring.own)
    where
      begun : ℕ → Effects
      begun ballot = campaigns ring ballot (promises ring ballot (no_effects part))

      start : (ballot : ℕ) → Quiet (starts_with ring link part ballot).lines
      start ballot = either (nat_le (2 ^ 48) ballot) (with_line (BallotLimit ring.own ring.id) (no_effects part)) (proposes_after ring link (begun ballot)) (tt, tt) (after_quiet link (begun ballot) tt)

      by : (o : Option ℕ) → Quiet (starts_at ring link part o).lines
      by None = tt
      by (Some position) = start (own_ballot ring part position)

  passes_quiet : (part : Part) (hops : ℕ) (entry : Entry) → Quiet (passes_on ring part hops entry).lines
  passes_quiet part zero entry = tt
  passes_quiet part (suc hops) entry = tt

  pub submits_quiet : (link : Link) (part : Part) (hops : ℕ) (client : ClientId) (seq : ℕ) (command : List ℕ) → Quiet (submits ring link part hops client seq command).lines
  unfolding submits
  submits_quiet link part hops client seq command = by part.coordinator.role
    where
      entry : Entry
      entry = record { client = client; seq = seq; command = command }

      waiting : (campaign : Campaign) → Quiet (waits ring link part entry campaign).lines
      waiting campaign =
          let kept : Part = with_campaign (with_pending entry campaign) part in
          let rest : Effects = if nat_le most_pending (length campaign.pending) then no_effects part else proposes ring link kept in
          either (is_pending entry campaign.pending) (proposes ring link part) rest (proposes_quiet link part)
          (either (nat_le most_pending (length campaign.pending)) (no_effects part) (proposes ring link kept) tt (proposes_quiet link kept))

      leading : (campaign : Campaign) → Quiet (submits_leading ring link part entry campaign).lines
      leading campaign = either (nat_le END campaign.next) (with_line (InstanceLimit ring.own ring.id) (no_effects part)) (waits ring link part entry campaign) (tt, tt) (waiting campaign)

      by : (role : Role) → Quiet (submits_in ring link part hops entry role).lines
      by Idle = passes_quiet part hops entry
      by (Active campaign) = either (leads_now ring campaign) (submits_leading ring link part entry campaign) (passes_on ring part hops entry) (leading campaign) (passes_quiet part hops entry)

  -- ---- ticks

  pub starts_quiet : (link : Link) (part : Part) → Quiet (starts_on_tick ring link part).lines
  unfolding starts_on_tick
  starts_quiet link part = by part.coordinator.role
    where
      by : (role : Role) → Quiet (starts_idle ring link part role).lines
      by Idle = either (is_to_start ring link (owner_of ring (greatest_seen part))) (leads ring link part) (no_effects part) (leads_quiet link part) tt
      by (Active campaign) = tt

  pub resends_quiet : (link : Link) (part : Part) → Quiet (resends ring link part).lines
  unfolding resends
  resends_quiet link part = by part.coordinator.role
    where
      by : (role : Role) → Quiet (resends_in ring link part role).lines
      by Idle = tt
      by (Active campaign) = tt

  pub levels_quiet : (link : Link) (part : Part) → Quiet (levels ring link part).lines
  unfolding levels
  levels_quiet link part = by part.coordinator.role
    where
      by_missing : (campaign : Campaign) (o : Option ℕ) → Quiet (levels_by ring link part campaign o).lines
      by_missing campaign None = tt
      by_missing campaign (Some missing) =
          let offered : Effects = offers ring link campaign (shortfall_from campaign.next missing) 0 (no_effects part) in
          either (has_room ring campaign && nat_lt campaign.next END) (proposes_after ring link offered) (no_effects (with_campaign campaign part))
          (after_quiet link offered (offers_quiet link campaign (shortfall_from campaign.next missing) 0 (no_effects part) tt)) tt

      by : (role : Role) → Quiet (levels_in ring link part role).lines
      by Idle = tt
      by (Active campaign) =
          either (leads_now ring campaign) (levels_by ring link part (with_tick_taken campaign) (answer_of campaign.leveller)) (no_effects part)
          (by_missing (with_tick_taken campaign) (answer_of campaign.leveller)) tt

  -- ---- trimming

  trims_above_quiet : (inst : ℕ) (effects : Effects) → Quiet effects.lines → Quiet (trims_above ring inst effects).lines
  trims_above_quiet inst effects q =
      either _ _ _ (trims_quiet inst (with_line (Trim ring.own ring.id inst) effects) (appended IsNodeLine effects.lines (Trim ring.own ring.id inst ∷ []) q (tt, tt))) q

  round_quiet : (link : Link) (round : Round) (effects : Effects) → Quiet effects.lines → (o : Option ℕ) → Quiet (ends_by ring link round effects o).lines
  round_quiet link round effects q None = q
  round_quiet link round effects q (Some inst) = after_quiet link _ (trims_above_quiet inst _ q)

  pub asks_round_quiet : (link : Link) (part : Part) (own_safe : Option ℕ) → Quiet (asks_round ring link part own_safe).lines
  unfolding asks_round
  asks_round_quiet link part own_safe =
      let round : Round = with_own_answer ring own_safe (next_round part) in
      let asked : Effects = with_frames (sends_each ring (by_id (replicas_of ring.subscribers)) (AskSafe ring.id (suc part.rounds.asked))) (no_effects (with_asked part)) in
      either (role_leads ring part.coordinator.role) (asks ring link part own_safe) (no_effects part) (round_quiet link round asked tt (least ring round)) tt

  pub answers_quiet : (link : Link) (part : Part) (from : NodeId) (number inst : ℕ) → Quiet (answers ring link part from number inst).lines
  unfolding answers
  answers_quiet link part from number inst = by part.rounds.current
    where
      by : (o : Option Round) → Quiet (answers_in ring link part from number inst o).lines
      by None = tt
      by (Some current) =
          let round : Round = with_answer ring from inst current in
          either (number == current.number) (goes_on_round ring link round (no_effects part)) (no_effects part) (round_quiet link round (no_effects part) tt (least ring round)) tt
