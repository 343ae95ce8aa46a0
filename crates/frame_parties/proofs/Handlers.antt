-- The rules of a ring send frames to nodes that are there.
use Rattle.std.proofs.Common.{ℕ, zero, suc, Bool, true, false, List, [], ◌∷◌, Option, Some, None, slice_index}
use Rattle.std.specs.Prelude.{◌==◌, nat_lt, nat_le, ◌&&◌, not, if◌then◌else◌, max, length, ◌^◌}
use Rattle.mrp_types.specs.declared.id.NodeId.{NodeId}
use Rattle.mrp_types.specs.declared.id.ClientId.{ClientId}
use Rattle.mrp_types.specs.declared.id.TheConstants.{END}
use Rattle.mrp_types.specs.declared.value.Entry.{Entry}
use Rattle.mrp_types.specs.declared.value.Value.{Value}
use Rattle.mrp_types.specs.declared.voted.Voted.{Voted}
use Rattle.mrp_types.specs.declared.voted.Decided.{Decided}
use Rattle.mrp_config.specs.Config.{Config}
use Rattle.range_map.specs.Entries.{entries_from}
use Rattle.skip_leveller.specs.Levelling.{answer_of}
use Rattle.ring_link.specs.Silence.{Link}
use Rattle.frames.specs.declared.body.Body.TheVariants.{Submit, Prepare, Refuse, Accept, Decide, Chosen, Trimmed}
use Rattle.protocol.specs.Lines.{BallotLimit, InstanceLimit}
use Rattle.protocol.specs.Parts.{Ring, Part, Role, Idle, Active, Campaign, Effects}
use Rattle.protocol.specs.Rings.{sends, sends_each, owner_of, is_node, has_bit, with_bit, position_of, next_acceptor, next_member, other_acceptors}
use Rattle.protocol.specs.Effects.{no_effects, with_part, with_frames, with_line, with_campaign}
use Rattle.protocol.specs.Acceptor.{promises, promises_anew, votes_anew, trims_to, promise_of, tells_promise, refuses, tells_trim, prepares, decides_or_forwards, accepts_at, accepts, tells_ranges, ranges_page, fetches}
use Rattle.protocol.specs.Ballots.{leads_now, new_campaign, campaigns, own_ballot, Page, with_page, asks_more, counts, reported_past, reported_at, reported, greatest_seen}
use Rattle.protocol.specs.Coordinator.{starts_with, starts_at, leads, promised, refused, most_pending, is_pending, with_pending, passes_on, waits, submits_leading, submits_in, submits}
use Rattle.protocol.specs.Leading.{is_to_start, starts_idle, starts_on_tick, prepares_again, accepts_again, resends_in, resends, with_tick_taken, shortfall_from, levels_by, levels_in, levels}
use Rattle.protocol.specs.Learner.{learned_ranges, passed_on, decided, chosen}
use Rattle.protocol.specs.Proposing.{proposes, proposes_after, offers, has_room, own_mask}
use Rattle.protocol.specs.Trimming.{trimmed}
use Rattle.line_rules.specs.Rules.{HasNode}
use Rattle.quorums.proofs.Each.{appended}
use Rattle.frame_parties.proofs.Invariant.{AreThere, IsAddressed, AreAddressed, RingNamed}
use Rattle.frame_parties.proofs.Lists.{IfThere}
use Rattle.frame_parties.proofs.Words.{sends_addressed, each_addressed, others_there, owner_there, acceptor_there, member_there, more, if_so, promises_addressed, votes_addressed, trims_addressed, decides_addressed, offers_addressed, proposes_addressed}

module _ (c : Config) (ring : Ring) (named : RingNamed c ring) where
  -- ---- acceptors

  refuses_addressed : (to : Option NodeId) (ballot : ℕ) (part : Part) → IfThere (HasNode c) to → AreAddressed c (refuses ring to ballot part).frames
  refuses_addressed to ballot part there = sends_addressed c ring named to (Refuse ring.id ballot part.kept.promise) there

  tells_trim_addressed : (to : Option NodeId) (part : Part) → IfThere (HasNode c) to → AreAddressed c (tells_trim ring to part).frames
  tells_trim_addressed to part there = sends_addressed c ring named to (Trimmed ring.id part.kept.trim) there

  pub prepares_addressed : (part : Part) (from : NodeId) (ballot lo : ℕ) → HasNode c from → AreAddressed c (prepares ring part from ballot lo).frames
  unfolding prepares
  prepares_addressed part from ballot lo there =
      let effects : Effects = promises ring ballot (no_effects part) in
      let told : Effects = tells_promise ring from ballot lo effects in
      if_so c ring named (not (is_node from (owner_of ring ballot))) (no_effects part) (if nat_lt ballot part.kept.promise then refuses ring (Some from) ballot part else told) tt
      (if_so c ring named (nat_lt ballot part.kept.promise) (refuses ring (Some from) ballot part) told (refuses_addressed (Some from) ballot part there)
      (more c ring named effects (sends ring (Some from) (promise_of ring ballot lo effects.part.kept)) (sends_addressed c ring named (Some from) (promise_of ring ballot lo effects.part.kept) there) tt))

  pub accepts_addressed : (link : Link) (part : Part) (ballot lo hi mask : ℕ) (value : Value) → AreAddressed c (accepts ring link part ballot lo hi mask value).frames
  unfolding accepts
  accepts_addressed link part ballot lo hi mask value = by_position (position_of ring ring.own)
    where
      vote : Voted
      vote = record { lo = lo; hi = hi; ballot = ballot; value = value }

      promised_first : Effects
      promised_first = promises_anew ring ballot (no_effects part)

      voted : Effects
      voted = votes_anew ring vote promised_first

      by_position : (o : Option ℕ) → AreAddressed c (accepts_at ring link part mask vote o).frames
      by_position None = tt
      by_position (Some position) =
          if_so c ring named (nat_lt ballot part.kept.promise) (refuses ring (owner_of ring ballot) ballot part) _ (refuses_addressed (owner_of ring ballot) ballot part (owner_there c ring named ballot))
          (if_so c ring named (nat_lt lo part.kept.trim) (tells_trim ring (owner_of ring ballot) part) _ (tells_trim_addressed (owner_of ring ballot) part (owner_there c ring named ballot))
          (if_so c ring named (has_bit mask position) (no_effects part) (decides_or_forwards ring link (with_bit mask position) vote voted) tt
          (decides_addressed c ring named voted link (with_bit mask position) vote
          (votes_addressed c ring named promised_first vote (promises_addressed c ring named (no_effects part) ballot tt)))))

  pub fetches_addressed : (part : Part) (from : NodeId) (lo : ℕ) → HasNode c from → AreAddressed c (fetches ring part from lo).frames
  unfolding fetches
  fetches_addressed part from lo there =
      if_so c ring named (nat_lt lo part.kept.trim) (tells_trim ring (Some from) part) (with_frames (tells_ranges ring from (ranges_page (learned_ranges (entries_from lo part.learner.held)))) (no_effects part))
      (tells_trim_addressed (Some from) part there) (by_ranges (ranges_page (learned_ranges (entries_from lo part.learner.held))))
    where
      by_ranges : (ranges : List Decided) → AreAddressed c (tells_ranges ring from ranges)
      by_ranges [] = tt
      by_ranges (range ∷ ranges) = sends_addressed c ring named (Some from) (Chosen ring.id (range ∷ ranges)) there

  -- ---- what is told

  pub decided_addressed : (link : Link) (part : Part) (lo hi left : ℕ) (value : Value) → AreAddressed c (decided ring link part lo hi left value).frames
  unfolding decided
  decided_addressed link part lo hi left value = by_left left
    where
      by_left : (left : ℕ) → AreAddressed c (passed_on ring link lo hi left value (no_effects part)).frames
      by_left zero = tt
      by_left (suc left) = sends_addressed c ring named (next_member ring link) (Decide ring.id lo hi left value) (member_there c ring named link)

  pub chosen_addressed : (part : Part) (ranges : List Decided) → AreAddressed c (chosen ring part ranges).frames
  unfolding chosen
  chosen_addressed part ranges = tt

  pub trimmed_addressed : (link : Link) (part : Part) (trim : ℕ) → AreAddressed c (trimmed ring link part trim).frames
  unfolding trimmed
  trimmed_addressed link part trim = proposes_addressed c ring named (trims_to ring trim (no_effects part)) link (trims_addressed c ring named (no_effects part) trim tt)

  -- ---- coordinators

  reported_addressed : (from : NodeId) (page : Page) (effects : Effects) → HasNode c from → AreAddressed c effects.frames → AreAddressed c (reported ring from page effects).frames
  reported_addressed from page effects there s = by_role effects.part.coordinator.role (position_of ring from)
    where
      by_role : (role : Role) (o : Option ℕ) → AreAddressed c (reported_at ring from page role o effects).frames
      by_role Idle o = s
      by_role (Active campaign) None = s
      by_role (Active campaign) (Some position) = go (slice_index campaign.covered position)
        where
          go : (covered : ℕ) → AreAddressed c (reported_past ring from page campaign position covered effects).frames
          go covered =
              let now : Effects = with_part (with_campaign (with_page position covered page campaign) effects.part) effects in
              if_so c ring named (counts page campaign.ballot covered) (with_frames (asks_more ring from page) now) effects (more c ring named now (asks_more ring from page) (asked (page.hi == END)) s) s
            where
              asked : (b : Bool) → AreAddressed c (if b then [] else sends ring (Some from) (Prepare ring.id page.ballot page.hi))
              asked true = tt
              asked false = sends_addressed c ring named (Some from) (Prepare ring.id page.ballot page.hi) there

  pub promised_addressed : (link : Link) (part : Part) (from : NodeId) (ballot lo hi trim : ℕ) (votes : List Voted) → HasNode c from → AreAddressed c (promised ring link part from ballot lo hi trim votes).frames
  unfolding promised
  promised_addressed link part from ballot lo hi trim votes there =
      let page : Page = record { ballot = ballot; lo = lo; hi = hi; votes = votes } in
      let cut : Effects = trims_to ring trim (no_effects part) in
      proposes_addressed c ring named (reported ring from page cut) link (reported_addressed from page cut there (trims_addressed c ring named (no_effects part) trim tt))

  pub refused_addressed : (part : Part) (ballot promise : ℕ) → AreAddressed c (refused ring part ballot promise).frames
  unfolding refused
  refused_addressed part ballot promise = tt

  starts_addressed : (link : Link) (part : Part) (ballot : ℕ) → AreAddressed c (starts_with ring link part ballot).frames
  starts_addressed link part ballot =
      if_so c ring named (nat_le (2 ^ 48) ballot) (with_line (BallotLimit ring.own ring.id) (no_effects part)) (proposes_after ring link (campaigns ring ballot effects)) tt
      (proposes_addressed c ring named (campaigns ring ballot effects) link
      (more c ring named now (sends_each ring (other_acceptors ring) (Prepare ring.id ballot effects.part.kept.trim))
      (each_addressed c ring named (other_acceptors ring) (Prepare ring.id ballot effects.part.kept.trim) (others_there c ring named)) tt))
    where
      effects : Effects
      effects = promises ring ballot (no_effects part)

      now : Effects
      now = with_part (with_campaign (new_campaign ring ballot effects.part.kept) effects.part) effects

  pub leads_addressed : (link : Link) (part : Part) → AreAddressed c (leads ring link part).frames
  unfolding leads
  leads_addressed link part = by_position (position_of ring ring.own)
    where
      by_position : (o : Option ℕ) → AreAddressed c (starts_at ring link part o).frames
      by_position None = tt
      by_position (Some position) = starts_addressed link part (own_ballot ring part position)

  pub submits_addressed : (link : Link) (part : Part) (hops : ℕ) (client : ClientId) (seq : ℕ) (command : List ℕ) → AreAddressed c (submits ring link part hops client seq command).frames
  unfolding submits
  submits_addressed link part hops client seq command = by_role part.coordinator.role
    where
      entry : Entry
      entry = record { client = client; seq = seq; command = command }

      passes : (hops : ℕ) → AreAddressed c (passes_on ring part hops entry).frames
      passes zero = sends_addressed c ring named (owner_of ring (greatest_seen part)) (Submit ring.id 1 client seq command) (owner_there c ring named (greatest_seen part))
      passes (suc hops) = tt

      waiting : (campaign : Campaign) → AreAddressed c (waits ring link part entry campaign).frames
      waiting campaign =
          let now : Part = with_campaign (with_pending entry campaign) part in
          if_so c ring named (is_pending entry campaign.pending) (proposes ring link part) _ (proposes_addressed c ring named (no_effects part) link tt)
          (if_so c ring named (nat_le most_pending (length campaign.pending)) (no_effects part) (proposes ring link now) tt (proposes_addressed c ring named (no_effects now) link tt))

      leading : (campaign : Campaign) → AreAddressed c (submits_leading ring link part entry campaign).frames
      leading campaign = if_so c ring named (nat_le END campaign.next) (with_line (InstanceLimit ring.own ring.id) (no_effects part)) (waits ring link part entry campaign) tt (waiting campaign)

      by_role : (role : Role) → AreAddressed c (submits_in ring link part hops entry role).frames
      by_role Idle = passes hops
      by_role (Active campaign) = if_so c ring named (leads_now ring campaign) (submits_leading ring link part entry campaign) (passes_on ring part hops entry) (leading campaign) (passes hops)

  -- ---- ticks

  pub starts_on_tick_addressed : (link : Link) (part : Part) → AreAddressed c (starts_on_tick ring link part).frames
  unfolding starts_on_tick
  starts_on_tick_addressed link part = by_role part.coordinator.role
    where
      by_role : (role : Role) → AreAddressed c (starts_idle ring link part role).frames
      by_role Idle = if_so c ring named (is_to_start ring link (owner_of ring (greatest_seen part))) (leads ring link part) (no_effects part) (leads_addressed link part) tt
      by_role (Active campaign) = tt

  prepared_again : (ballot : ℕ) (nodes : List NodeId) (covered : List ℕ) → AreThere c nodes → AreAddressed c (prepares_again ring ballot nodes covered)
  prepared_again ballot [] covered all = tt
  prepared_again ballot (node ∷ nodes) [] all = tt
  prepared_again ballot (node ∷ nodes) (covered ∷ later) all =
      appended (IsAddressed c) (if nat_lt covered END then sends ring (Some node) (Prepare ring.id ballot covered) else []) (prepares_again ring ballot nodes later) (again (nat_lt covered END)) (prepared_again ballot nodes later all.1)
    where
      again : (b : Bool) → AreAddressed c (if b then sends ring (Some node) (Prepare ring.id ballot covered) else [])
      again true = sends_addressed c ring named (Some node) (Prepare ring.id ballot covered) all.0
      again false = tt

  accepted_again : (to : Option NodeId) (ballot trim : ℕ) (ranges : List Decided) → IfThere (HasNode c) to → AreAddressed c (accepts_again ring to ballot trim ranges)
  accepted_again to ballot trim [] there = tt
  accepted_again to ballot trim (range ∷ ranges) there =
      appended (IsAddressed c) (sends ring to (Accept ring.id ballot (max range.lo trim) range.hi (own_mask ring) range.value)) (accepts_again ring to ballot trim ranges)
      (sends_addressed c ring named to (Accept ring.id ballot (max range.lo trim) range.hi (own_mask ring) range.value) there) (accepted_again to ballot trim ranges there)

  pub resends_addressed : (link : Link) (part : Part) → AreAddressed c (resends ring link part).frames
  unfolding resends
  resends_addressed link part = by_role part.coordinator.role
    where
      by_role : (role : Role) → AreAddressed c (resends_in ring link part role).frames
      by_role Idle = tt
      by_role (Active campaign) =
          let now : Effects = with_frames (prepares_again ring campaign.ballot ring.acceptors campaign.covered) (no_effects part) in
          more c ring named now (accepts_again ring (next_acceptor ring link) campaign.ballot part.kept.trim campaign.outstanding)
          (accepted_again (next_acceptor ring link) campaign.ballot part.kept.trim campaign.outstanding (acceptor_there c ring named link))
          (prepared_again campaign.ballot ring.acceptors campaign.covered named.acceptors)

  pub levels_addressed : (link : Link) (part : Part) → AreAddressed c (levels ring link part).frames
  unfolding levels
  levels_addressed link part = by_role part.coordinator.role
    where
      by_answer : (campaign : Campaign) (o : Option ℕ) → AreAddressed c (levels_by ring link part campaign o).frames
      by_answer campaign None = tt
      by_answer campaign (Some missing) =
          let offered : Effects = offers ring link campaign (shortfall_from campaign.next missing) 0 (no_effects part) in
          if_so c ring named (has_room ring campaign && nat_lt campaign.next END) (proposes_after ring link offered) (no_effects (with_campaign campaign part))
          (proposes_addressed c ring named offered link (offers_addressed c ring named (no_effects part) link campaign (shortfall_from campaign.next missing) 0 tt)) tt

      by_role : (role : Role) → AreAddressed c (levels_in ring link part role).frames
      by_role Idle = tt
      by_role (Active campaign) = if_so c ring named (leads_now ring campaign) (levels_by ring link part (with_tick_taken campaign) (answer_of campaign.leveller)) (no_effects part) (by_answer (with_tick_taken campaign) (answer_of campaign.leveller)) tt
