-- The other words of a ring's tables carry what was there and what came.
use Rattle.std.proofs.Common.{ℕ, zero, suc, ◌^◌, Bool, true, false, ◌&&◌, List, [], ◌∷◌, length, Option, Some, None}
use Rattle.std.specs.Prelude.{◌==◌, nat_lt, nat_le, not, max, if◌then◌else◌, slice_index}
use Rattle.std.specs.List.{AllByRecursion}
use Rattle.mrp_types.specs.declared.id.NodeId.{NodeId}
use Rattle.mrp_types.specs.declared.id.ClientId.{ClientId}
use Rattle.mrp_types.specs.declared.id.TheConstants.{END}
use Rattle.mrp_types.specs.declared.value.Entry.{Entry}
use Rattle.mrp_types.specs.declared.value.Value.{Value}
use Rattle.mrp_types.specs.declared.voted.Voted.{Voted}
use Rattle.mrp_types.specs.declared.voted.Decided.{Decided}
use Rattle.mrp_types.specs.Entries.{IsEntry}
use Rattle.vote_state.specs.declared.cast.Cast.{Cast}
use Rattle.vote_state.specs.Ranges.{cast_of}
use Rattle.ring_link.specs.Silence.{Link}
use Rattle.skip_leveller.specs.Levelling.{answer_of}
use Rattle.frames.specs.declared.body.Body.TheVariants.{Submit, Prepare, Accept, Decide, AskSafe, TrimTo}
use Rattle.plain_model.specs.Fold.{entries_of_value}
use Rattle.protocol.specs.Lines.{Trim, BallotLimit, InstanceLimit}
use Rattle.protocol.specs.Parts.{Ring, Pending, Campaign, Role, Idle, Active, Round, Part, Effects}
use Rattle.protocol.specs.Rings.{position_of, owner_of, other_acceptors, replicas_of, by_id, next_acceptor, next_member, sends, sends_each}
use Rattle.protocol.specs.Effects.{no_effects, with_part, with_frames, with_line, with_campaign, with_coordinator, with_learner}
use Rattle.protocol.specs.Learner.{is_among, role_without, without_commands, is_news, with_range_learned, first_of, learns_news, learns, passed_on, decided, chosen}
use Rattle.protocol.specs.Acceptor.{promises, trims_to}
use Rattle.protocol.specs.Ballots.{higher, with_reports, Page, with_page, asks_more, counts, reported_past, reported_at, reported, new_campaign, campaigns, leads_now, role_leads, greatest_seen, own_ballot}
use Rattle.protocol.specs.Proposing.{has_room, own_mask, offers, proposes_after, proposes}
use Rattle.protocol.specs.Coordinator.{starts_with, starts_at, leads, promised, role_refused, refused, most_pending, is_pending, with_pending, passes_on, waits, submits_leading, submits_in, submits}
use Rattle.protocol.specs.Leading.{is_to_start, starts_idle, starts_on_tick, prepares_again, accepts_again, resends_in, resends, with_tick_taken, shortfall_from, levels_by, levels_in, levels}
use Rattle.protocol.specs.Trimming.{trimmed, least, with_answer, in_round, trims_all, trims_above, ends_by, goes_on_round, with_own_answer, next_round, with_asked, asks, asks_round, answers_in, answers}
use Rattle.ask_laws.specs.Carried.{ValueCarries, VotesCarry, VotedCarry, RangesCarry, CampaignCarries, RoleCarries, PartCarries, SentCarries, EffectsCarry}
use Rattle.ask_laws.proofs.Lists.{appended, filtered, OrNone, met_all}
use Rattle.ask_laws.proofs.Acceptor.{sends_carry, sends_each_carry, none_made, part_made, frames_made, line_made, learned_made, promises_made, without_finished_carries, trims_made}
use Rattle.ask_laws.proofs.Proposing.{offers_made, proposes_made}

module _ (Is : ℕ → Entry → Type 0) (Valid : Type 0) (valid : (r : ℕ) (e : Entry) → Is r e → IsEntry e) (ring : Ring) where
  abbrev Votes : Cast → Type 0
  Votes c = ValueCarries Is ring.id.0 c.value

  -- ---- a start

  campaigns_made : (ballot : ℕ) (effects : Effects) → EffectsCarry Is Valid ring.id.0 effects → EffectsCarry Is Valid ring.id.0 (campaigns ring ballot effects)
  campaigns_made ballot effects m =
      frames_made Is Valid ring (sends_each ring (other_acceptors ring) (Prepare ring.id ballot effects.part.kept.trim)) (with_part (with_campaign (new_campaign ring ballot effects.part.kept) effects.part) effects)
      (sends_each_carry Is Valid ring (other_acceptors ring) (Prepare ring.id ballot effects.part.kept.trim) tt)
      (part_made Is Valid ring (with_campaign (new_campaign ring ballot effects.part.kept) effects.part) effects
      (record { votes = m.part.votes; role = record { reports = m.part.votes; outstanding = tt; pending = tt }; held = m.part.held }) m)

  pub leads_made : (link : Link) (part : Part) → PartCarries Is ring.id.0 part → EffectsCarry Is Valid ring.id.0 (leads ring link part)
  unfolding leads
  leads_made link part is = at (position_of ring ring.own)
    where
      starts : (ballot : ℕ) → EffectsCarry Is Valid ring.id.0 (starts_with ring link part ballot)
      starts ballot = by (nat_le (2 ^ 48) ballot)
        where
          by : (t : Bool) → EffectsCarry Is Valid ring.id.0 (if t then with_line (BallotLimit ring.own ring.id) (no_effects part)
              else proposes_after ring link (campaigns ring ballot (promises ring ballot (no_effects part))))
          by true = line_made Is Valid ring (BallotLimit ring.own ring.id) (no_effects part) tt (none_made Is Valid ring part is)
          by false = proposes_made Is Valid valid ring link (campaigns ring ballot (promises ring ballot (no_effects part)))
              (campaigns_made ballot (promises ring ballot (no_effects part)) (promises_made Is Valid ring ballot (no_effects part) (none_made Is Valid ring part is)))

      at : (o : Option ℕ) → EffectsCarry Is Valid ring.id.0 (starts_at ring link part o)
      at None = none_made Is Valid ring part is
      at (Some position) = starts (own_ballot ring part position)

  -- ---- Promise

  higher_keeps : (o : Option Cast) (x : Cast) → OrNone Votes o → Votes x → Votes (higher o x)
  higher_keeps None x before is = is
  higher_keeps (Some held) x before is = by (nat_lt held.ballot x.ballot)
    where
      by : (t : Bool) → Votes (if t then x else held)
      by true = is
      by false = before

  reports_carry : (from : ℕ) (votes : List Voted) (reports : List (ℕ × Cast)) → VotedCarry Is ring.id.0 votes → VotesCarry Is ring.id.0 reports → VotesCarry Is ring.id.0 (with_reports from votes reports)
  reports_carry from [] reports all is = is
  reports_carry from (vote ∷ votes) reports all is =
      reports_carry from votes _ all.1 (met_all Votes higher higher_keeps (max vote.lo from) vote.hi (cast_of vote) reports all.0 is)

  reported_made : (from : NodeId) (page : Page) (effects : Effects) → VotedCarry Is ring.id.0 page.votes → EffectsCarry Is Valid ring.id.0 effects → EffectsCarry Is Valid ring.id.0 (reported ring from page effects)
  reported_made from page effects came m = by_role effects.part.coordinator.role m.part.role (position_of ring from)
    where
      asked : (t : Bool) → AllByRecursion (SentCarries Is Valid) (if t then [] else sends ring (Some from) (Prepare ring.id page.ballot page.hi))
      asked true = tt
      asked false = sends_carry Is Valid ring (Some from) (Prepare ring.id page.ballot page.hi) tt

      past : (campaign : Campaign) (position covered : ℕ) → CampaignCarries Is ring.id.0 campaign → EffectsCarry Is Valid ring.id.0 (reported_past ring from page campaign position covered effects)
      past campaign position covered c = by (counts page campaign.ballot covered)
        where
          by : (t : Bool) → EffectsCarry Is Valid ring.id.0 (if t
              then with_frames (asks_more ring from page) (with_part (with_campaign (with_page position covered page campaign) effects.part) effects) else effects)
          by true = frames_made Is Valid ring (asks_more ring from page) (with_part (with_campaign (with_page position covered page campaign) effects.part) effects) (asked (page.hi == END))
              (part_made Is Valid ring (with_campaign (with_page position covered page campaign) effects.part) effects
              (record {
                votes = m.part.votes;
                role = record { reports = reports_carry covered page.votes campaign.reports came c.reports; outstanding = c.outstanding; pending = c.pending };
                held = m.part.held;
              }) m)
          by false = m

      by_role : (role : Role) → RoleCarries Is ring.id.0 role → (o : Option ℕ) → EffectsCarry Is Valid ring.id.0 (reported_at ring from page role o effects)
      by_role Idle c o = m
      by_role (Active campaign) c None = m
      by_role (Active campaign) c (Some position) = past campaign position (slice_index campaign.covered position) c

  pub promised_made : (link : Link) (part : Part) (from : NodeId) (ballot lo hi trim : ℕ) (votes : List Voted) → VotedCarry Is ring.id.0 votes → PartCarries Is ring.id.0 part
      → EffectsCarry Is Valid ring.id.0 (promised ring link part from ballot lo hi trim votes)
  unfolding promised
  promised_made link part from ballot lo hi trim votes came is =
      let page : Page = record { ballot = ballot; lo = lo; hi = hi; votes = votes } in
      let now : Effects = trims_to ring trim (no_effects part) in
      proposes_made Is Valid valid ring link (reported ring from page now) (reported_made from page now came (trims_made Is Valid ring trim (no_effects part) (none_made Is Valid ring part is)))

  -- ---- Refuse

  pub refused_made : (part : Part) (ballot promise : ℕ) → PartCarries Is ring.id.0 part → EffectsCarry Is Valid ring.id.0 (refused ring part ballot promise)
  unfolding refused
  refused_made part ballot promise is =
      none_made Is Valid ring (with_coordinator (record { top = max part.coordinator.top promise; role = role_refused ballot part.coordinator.role }) part)
      (record { votes = is.votes; role = by_role part.coordinator.role is.role; held = is.held })
    where
      by_role : (role : Role) → RoleCarries Is ring.id.0 role → RoleCarries Is ring.id.0 (role_refused ballot role)
      by_role Idle c = tt
      by_role (Active campaign) c = by (campaign.ballot == ballot)
        where
          by : (t : Bool) → RoleCarries Is ring.id.0 (if t then Idle else Active campaign)
          by true = tt
          by false = c

  -- ---- Submit

  pub submits_made : (link : Link) (part : Part) (hops : ℕ) (client : ClientId) (seq : ℕ) (command : List ℕ) → Is ring.id.0 (record { client = client; seq = seq; command = command })
      → PartCarries Is ring.id.0 part → EffectsCarry Is Valid ring.id.0 (submits ring link part hops client seq command)
  unfolding submits
  submits_made link part hops client seq command asked is = by_role part.coordinator.role is.role
    where
      passes : (n : ℕ) → EffectsCarry Is Valid ring.id.0 (passes_on ring part n (record { client = client; seq = seq; command = command }))
      passes zero = frames_made Is Valid ring (sends ring (owner_of ring (greatest_seen part)) (Submit ring.id 1 client seq command)) (no_effects part)
          (sends_carry Is Valid ring (owner_of ring (greatest_seen part)) (Submit ring.id 1 client seq command) asked) (none_made Is Valid ring part is)
      passes (suc n) = none_made Is Valid ring part is

      more : (campaign : Campaign) → CampaignCarries Is ring.id.0 campaign → PartCarries Is ring.id.0 (with_campaign (with_pending (record { client = client; seq = seq; command = command }) campaign) part)
      more campaign c = record {
        votes = is.votes;
        role = record {
          reports = c.reports;
          outstanding = c.outstanding;
          pending = appended (λ (p : Pending). Is ring.id.0 p.entry) campaign.pending (record { entry = record { client = client; seq = seq; command = command }; proposed = false } ∷ []) c.pending (asked, tt);
        };
        held = is.held;
      }

      waited : (campaign : Campaign) → CampaignCarries Is ring.id.0 campaign → (t u : Bool) → EffectsCarry Is Valid ring.id.0 (if t then proposes ring link part
          else if u then no_effects part else proposes ring link (with_campaign (with_pending (record { client = client; seq = seq; command = command }) campaign) part))
      waited campaign c true u = proposes_made Is Valid valid ring link (no_effects part) (none_made Is Valid ring part is)
      waited campaign c false true = none_made Is Valid ring part is
      waited campaign c false false =
          let new : Part = with_campaign (with_pending (record { client = client; seq = seq; command = command }) campaign) part in
          proposes_made Is Valid valid ring link (no_effects new) (none_made Is Valid ring new (more campaign c))

      leading : (campaign : Campaign) → CampaignCarries Is ring.id.0 campaign → (t : Bool) → EffectsCarry Is Valid ring.id.0 (if t then with_line (InstanceLimit ring.own ring.id) (no_effects part)
          else waits ring link part (record { client = client; seq = seq; command = command }) campaign)
      leading campaign c true = line_made Is Valid ring (InstanceLimit ring.own ring.id) (no_effects part) tt (none_made Is Valid ring part is)
      leading campaign c false = waited campaign c (is_pending (record { client = client; seq = seq; command = command }) campaign.pending) (nat_le most_pending (length campaign.pending))

      by_role : (role : Role) → RoleCarries Is ring.id.0 role → EffectsCarry Is Valid ring.id.0 (submits_in ring link part hops (record { client = client; seq = seq; command = command }) role)
      by_role Idle c = passes hops
      by_role (Active campaign) c = by (leads_now ring campaign)
        where
          by : (t : Bool) → EffectsCarry Is Valid ring.id.0 (if t then submits_leading ring link part (record { client = client; seq = seq; command = command }) campaign
              else passes_on ring part hops (record { client = client; seq = seq; command = command }))
          by true = leading campaign c (nat_le END campaign.next)
          by false = passes hops

  -- ---- a tick

  pub starts_made : (link : Link) (part : Part) → PartCarries Is ring.id.0 part → EffectsCarry Is Valid ring.id.0 (starts_on_tick ring link part)
  unfolding starts_on_tick
  starts_made link part is = by_role part.coordinator.role
    where
      by_role : (role : Role) → EffectsCarry Is Valid ring.id.0 (starts_idle ring link part role)
      by_role (Active campaign) = none_made Is Valid ring part is
      by_role Idle = by (is_to_start ring link (owner_of ring (greatest_seen part)))
        where
          by : (t : Bool) → EffectsCarry Is Valid ring.id.0 (if t then leads ring link part else no_effects part)
          by true = leads_made link part is
          by false = none_made Is Valid ring part is

  prepares_carry : (ballot : ℕ) (nodes : List NodeId) (covered : List ℕ) → AllByRecursion (SentCarries Is Valid) (prepares_again ring ballot nodes covered)
  prepares_carry ballot [] covered = tt
  prepares_carry ballot (node ∷ nodes) [] = tt
  prepares_carry ballot (node ∷ nodes) (c ∷ covered) =
      appended (SentCarries Is Valid) (if nat_lt c END then sends ring (Some node) (Prepare ring.id ballot c) else []) (prepares_again ring ballot nodes covered)
      (by (nat_lt c END)) (prepares_carry ballot nodes covered)
    where
      by : (t : Bool) → AllByRecursion (SentCarries Is Valid) (if t then sends ring (Some node) (Prepare ring.id ballot c) else [])
      by true = sends_carry Is Valid ring (Some node) (Prepare ring.id ballot c) tt
      by false = tt

  accepts_carry : (to : Option NodeId) (ballot trim : ℕ) (ranges : List Decided) → RangesCarry Is ring.id.0 ranges → AllByRecursion (SentCarries Is Valid) (accepts_again ring to ballot trim ranges)
  accepts_carry to ballot trim [] all = tt
  accepts_carry to ballot trim (range ∷ ranges) all =
      appended (SentCarries Is Valid) (sends ring to (Accept ring.id ballot (max range.lo trim) range.hi (own_mask ring) range.value)) (accepts_again ring to ballot trim ranges)
      (sends_carry Is Valid ring to (Accept ring.id ballot (max range.lo trim) range.hi (own_mask ring) range.value) all.0) (accepts_carry to ballot trim ranges all.1)

  pub resends_made : (link : Link) (part : Part) → PartCarries Is ring.id.0 part → EffectsCarry Is Valid ring.id.0 (resends ring link part)
  unfolding resends
  resends_made link part is = by_role part.coordinator.role is.role
    where
      by_role : (role : Role) → RoleCarries Is ring.id.0 role → EffectsCarry Is Valid ring.id.0 (resends_in ring link part role)
      by_role Idle c = none_made Is Valid ring part is
      by_role (Active campaign) c =
          frames_made Is Valid ring (accepts_again ring (next_acceptor ring link) campaign.ballot part.kept.trim campaign.outstanding)
          (with_frames (prepares_again ring campaign.ballot ring.acceptors campaign.covered) (no_effects part))
          (accepts_carry (next_acceptor ring link) campaign.ballot part.kept.trim campaign.outstanding c.outstanding)
          (frames_made Is Valid ring (prepares_again ring campaign.ballot ring.acceptors campaign.covered) (no_effects part)
          (prepares_carry campaign.ballot ring.acceptors campaign.covered) (none_made Is Valid ring part is))

  pub levels_made : (link : Link) (part : Part) → PartCarries Is ring.id.0 part → EffectsCarry Is Valid ring.id.0 (levels ring link part)
  unfolding levels
  levels_made link part is = by_role part.coordinator.role is.role
    where
      with_it : (campaign : Campaign) → CampaignCarries Is ring.id.0 campaign → EffectsCarry Is Valid ring.id.0 (no_effects (with_campaign campaign part))
      with_it campaign c = none_made Is Valid ring (with_campaign campaign part) (record { votes = is.votes; role = c; held = is.held })

      by_missing : (campaign : Campaign) → CampaignCarries Is ring.id.0 campaign → (o : Option ℕ) → EffectsCarry Is Valid ring.id.0 (levels_by ring link part campaign o)
      by_missing campaign c None = with_it campaign c
      by_missing campaign c (Some missing) = by (has_room ring campaign && nat_lt campaign.next END)
        where
          by : (t : Bool) → EffectsCarry Is Valid ring.id.0 (if t then proposes_after ring link (offers ring link campaign (shortfall_from campaign.next missing) 0 (no_effects part)) else no_effects (with_campaign campaign part))
          by true = proposes_made Is Valid valid ring link (offers ring link campaign (shortfall_from campaign.next missing) 0 (no_effects part))
              (offers_made Is Valid valid ring link campaign (shortfall_from campaign.next missing) 0 (no_effects part) c tt (none_made Is Valid ring part is))
          by false = with_it campaign c

      by_role : (role : Role) → RoleCarries Is ring.id.0 role → EffectsCarry Is Valid ring.id.0 (levels_in ring link part role)
      by_role Idle c = none_made Is Valid ring part is
      by_role (Active campaign) c = by (leads_now ring campaign)
        where
          by : (t : Bool) → EffectsCarry Is Valid ring.id.0 (if t then levels_by ring link part (with_tick_taken campaign) (answer_of campaign.leveller) else no_effects part)
          by true = by_missing (with_tick_taken campaign) (record { reports = c.reports; outstanding = c.outstanding; pending = c.pending }) (answer_of campaign.leveller)
          by false = none_made Is Valid ring part is

  -- ---- trimming

  pub trimmed_made : (link : Link) (part : Part) (trim : ℕ) → PartCarries Is ring.id.0 part → EffectsCarry Is Valid ring.id.0 (trimmed ring link part trim)
  unfolding trimmed
  trimmed_made link part trim is = proposes_made Is Valid valid ring link (trims_to ring trim (no_effects part)) (trims_made Is Valid ring trim (no_effects part) (none_made Is Valid ring part is))

  round_made : (current : Option Round) (effects : Effects) → EffectsCarry Is Valid ring.id.0 effects → EffectsCarry Is Valid ring.id.0 (with_part (in_round current effects.part) effects)
  round_made current effects m = part_made Is Valid ring (in_round current effects.part) effects (record { votes = m.part.votes; role = m.part.role; held = m.part.held }) m

  above_made : (inst : ℕ) (effects : Effects) → EffectsCarry Is Valid ring.id.0 effects → EffectsCarry Is Valid ring.id.0 (trims_above ring inst effects)
  above_made inst effects m = by (nat_lt effects.part.kept.trim inst)
    where
      by : (t : Bool) → EffectsCarry Is Valid ring.id.0 (if t then trims_all ring inst effects else effects)
      by true = frames_made Is Valid ring (sends_each ring (other_acceptors ring) (TrimTo ring.id inst)) (trims_to ring inst (with_line (Trim ring.own ring.id inst) effects))
          (sends_each_carry Is Valid ring (other_acceptors ring) (TrimTo ring.id inst) tt)
          (trims_made Is Valid ring inst (with_line (Trim ring.own ring.id inst) effects) (line_made Is Valid ring (Trim ring.own ring.id inst) effects tt m))
      by false = m

  ends_made : (link : Link) (round : Round) (effects : Effects) → EffectsCarry Is Valid ring.id.0 effects → EffectsCarry Is Valid ring.id.0 (goes_on_round ring link round effects)
  ends_made link round effects m = by_least (least ring round)
    where
      by_least : (o : Option ℕ) → EffectsCarry Is Valid ring.id.0 (ends_by ring link round effects o)
      by_least None = round_made (Some round) effects m
      by_least (Some inst) = proposes_made Is Valid valid ring link (trims_above ring inst (with_part (in_round None effects.part) effects))
          (above_made inst (with_part (in_round None effects.part) effects) (round_made None effects m))

  pub asks_round_made : (link : Link) (part : Part) (own_safe : Option ℕ) → PartCarries Is ring.id.0 part → EffectsCarry Is Valid ring.id.0 (asks_round ring link part own_safe)
  unfolding asks_round
  asks_round_made link part own_safe is = by (role_leads ring part.coordinator.role)
    where
      by : (t : Bool) → EffectsCarry Is Valid ring.id.0 (if t then asks ring link part own_safe else no_effects part)
      by true = ends_made link (with_own_answer ring own_safe (next_round part))
          (with_frames (sends_each ring (by_id (replicas_of ring.subscribers)) (AskSafe ring.id (suc part.rounds.asked))) (no_effects (with_asked part)))
          (frames_made Is Valid ring (sends_each ring (by_id (replicas_of ring.subscribers)) (AskSafe ring.id (suc part.rounds.asked))) (no_effects (with_asked part))
          (sends_each_carry Is Valid ring (by_id (replicas_of ring.subscribers)) (AskSafe ring.id (suc part.rounds.asked)) tt)
          (none_made Is Valid ring (with_asked part) (record { votes = is.votes; role = is.role; held = is.held })))
      by false = none_made Is Valid ring part is

  pub answers_made : (link : Link) (part : Part) (from : NodeId) (number inst : ℕ) → PartCarries Is ring.id.0 part → EffectsCarry Is Valid ring.id.0 (answers ring link part from number inst)
  unfolding answers
  answers_made link part from number inst is = by_round part.rounds.current
    where
      by_round : (o : Option Round) → EffectsCarry Is Valid ring.id.0 (answers_in ring link part from number inst o)
      by_round None = none_made Is Valid ring part is
      by_round (Some round) = by (number == round.number)
        where
          by : (t : Bool) → EffectsCarry Is Valid ring.id.0 (if t then goes_on_round ring link (with_answer ring from inst round) (no_effects part) else no_effects part)
          by true = ends_made link (with_answer ring from inst round) (no_effects part) (none_made Is Valid ring part is)
          by false = none_made Is Valid ring part is

  -- ---- what was decided

  pub decided_made : (link : Link) (part : Part) (lo hi left : ℕ) (value : Value) → ValueCarries Is ring.id.0 value → PartCarries Is ring.id.0 part
      → EffectsCarry Is Valid ring.id.0 (decided ring link part lo hi left value)
  unfolding decided
  decided_made link part lo hi left value came is =
      learned_made Is Valid ring (record { lo = lo; hi = hi; value = value }) (passed_on ring link lo hi left value (no_effects part)) came (passes left)
    where
      passes : (n : ℕ) → EffectsCarry Is Valid ring.id.0 (passed_on ring link lo hi n value (no_effects part))
      passes zero = none_made Is Valid ring part is
      passes (suc n) = frames_made Is Valid ring (sends ring (next_member ring link) (Decide ring.id lo hi n value)) (no_effects part)
          (sends_carry Is Valid ring (next_member ring link) (Decide ring.id lo hi n value) came) (none_made Is Valid ring part is)

  pub chosen_made : (part : Part) (ranges : List Decided) → RangesCarry Is ring.id.0 ranges → PartCarries Is ring.id.0 part → EffectsCarry Is Valid ring.id.0 (chosen ring part ranges)
  unfolding chosen
  chosen_made part ranges came is = record { part = is; changes = tt; frames = tt; lines = tt; learned = came }

  first_keeps : (o : Option Value) (x : Value) → OrNone (ValueCarries Is ring.id.0) o → ValueCarries Is ring.id.0 x → ValueCarries Is ring.id.0 (first_of o x)
  first_keeps None x before is = is
  first_keeps (Some held) x before is = before

  commands_carry : (entries : List Entry) (role : Role) → RoleCarries Is ring.id.0 role → RoleCarries Is ring.id.0 (role_without entries role)
  commands_carry entries Idle c = tt
  commands_carry entries (Active campaign) c = record {
    reports = c.reports;
    outstanding = c.outstanding;
    pending = filtered (λ (p : Pending). Is ring.id.0 p.entry) (λ (p : Pending). not (is_among p.entry entries)) campaign.pending c.pending;
  }

  pub learns_carry : (part : Part) (range : Decided) → ValueCarries Is ring.id.0 range.value → PartCarries Is ring.id.0 part → PartCarries Is ring.id.0 (learns ring part range).part
  unfolding learns
  learns_carry part range came is = by (is_news range part.learner)
    where
      by : (t : Bool) → PartCarries Is ring.id.0 (learns_news t part range).part
      by false = is
      by true = without_finished_carries Is Valid ring (without_commands (entries_of_value range.value) (with_learner (with_range_learned range part.learner) part)) (record {
        votes = is.votes;
        role = commands_carry (entries_of_value range.value) part.coordinator.role is.role;
        held = met_all (ValueCarries Is ring.id.0) first_of first_keeps (max range.lo part.learner.base) range.hi range.value part.learner.held came is.held;
      })
