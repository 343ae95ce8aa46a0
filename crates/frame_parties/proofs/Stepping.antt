-- A step and an opening as a whole.
use Rattle.std.proofs.Common.{◌≡◌, ℕ, ◌+◌, Bool, true, false, List, [], ◌∷◌, map, Option, Some, None, refl}
use Rattle.std.specs.Prelude.{◌==◌, ◌%◌, ◌/◌, ◌&&◌, if◌then◌else◌, filter, slice_get, length}
use Rattle.std.specs.List.{AllByRecursion, flat_map}
use Rattle.mrp_types.specs.declared.id.NodeId.{NodeId}
use Rattle.mrp_types.specs.declared.id.RingId.{RingId}
use Rattle.mrp_types.specs.declared.id.ClientId.{ClientId}
use Rattle.mrp_types.specs.declared.id.Party.{Party}
use Rattle.mrp_types.specs.declared.id.Party.TheVariants.{Client, Node}
use Rattle.mrp_types.specs.declared.voted.Voted.{Voted}
use Rattle.command_codec.specs.Grammar.{command_of}
use Rattle.mrp_config.specs.Config.{Config, partition_of}
use Rattle.mrp_config.specs.declared.tables.NodeTable.{NodeTable}
use Rattle.mrp_config.specs.declared.tables.RingTable.{RingTable}
use Rattle.mrp_config.specs.declared.tables.PartitionTable.{PartitionTable}
use Rattle.vote_state.proofs.StateLemmas.{filter_all}
use Rattle.vote_state.specs.State.{State}
use Rattle.vote_journal.specs.Journal.{Journal}
use Rattle.ring_link.specs.Silence.{with_heard, with_tick}
use Rattle.frames.specs.declared.body.Body.{Body}
use Rattle.frames.specs.declared.body.Body.TheVariants.{Submit, Prepare, Promise, Refuse, Accept, Decide, Fetch, Chosen, Trimmed, TrimTo, AskSafe, Safe, AskCheckpoint, HaveCheckpoint, AskPart, Hello, Gone, Reply, Part as PartFrame}
use Rattle.checkpoint.specs.Checkpoints.{Checkpoints}
use Rattle.plain_model.specs.StateBytes.{state_bytes}
use Rattle.protocol.specs.Acceptor.{prepares, accepts, fetches}
use Rattle.protocol.specs.Ballots.{is_active}
use Rattle.protocol.specs.Bases.{rebased, rebases}
use Rattle.protocol.specs.Coordinator.{submits, refused, promised, leads}
use Rattle.protocol.specs.Leading.{levels, resends, starts_on_tick}
use Rattle.protocol.specs.Learner.{chosen, decided}
use Rattle.protocol.specs.Learning.{applies_effects}
use Rattle.protocol.specs.Merging.{place_of}
use Rattle.protocol.specs.Node.{StepSoFar, View, RingPart, Service, Stage, Recovering, Ready, Standing, Attempt, Event, Ticks, Takes, Leads, Stepped, begun_with, finished, part_at}
use Rattle.protocol.specs.Opening.{part_of_ring, parts_of, view_of, begins_first, opened}
use Rattle.protocol.specs.Recovery.{answered_by, takes_gone, takes_part, tells_checkpoint, tells_part, safe_of}
use Rattle.protocol.specs.Rings.{ring_of, is_acceptor, is_member, sends, sends_to}
use Rattle.protocol.specs.Step.{recovers_if_trimmed, at_acceptor, is_for, handles_trim_at, handles_trim, handles_submit, at_service, at_attempt, recovering, handles_body, handles_from, step}
use Rattle.protocol.specs.Tick.{saves, is_due_to_save, saves_stage, saves_first, is_due_to_compact, compacts, rules_for, ticks_ring, ticks_rings, asked_at, turn_of, fetches_at, fetches_stage, fetches_missing, shares_ring, recovery_ticks_at, asks_on_beat, beats_with, beats, or_compacts, ticks}
use Rattle.protocol.specs.Trimming.{answers, asks_round, trimmed}
use Rattle.line_rules.specs.Rules.{HasNode, HasParty}
use Rattle.quorums.proofs.Each.{appended}
use Rattle.frame_parties.proofs.Invariant.{AreThere, IsAddressed, AreAddressed, IsClosed, MemberNamed, StageNamed, ServiceNamed, ReplicaNamed, ViewNamed, ActNamed, EventNamed}
use Rattle.frame_parties.proofs.Lists.{IfThere, get_all, find_all, flat_all}
use Rattle.frame_parties.proofs.Words.{to_addressed, sends_addressed}
use Rattle.frame_parties.proofs.Deployed.{ring_named}
use Rattle.frame_parties.proofs.Handlers.{prepares_addressed, accepts_addressed, fetches_addressed, decided_addressed, chosen_addressed, trimmed_addressed, promised_addressed, refused_addressed, leads_addressed, submits_addressed, starts_on_tick_addressed, resends_addressed, levels_addressed}
use Rattle.frame_parties.proofs.Rounds.{answers_addressed, asks_addressed}
use Rattle.frame_parties.proofs.Recovering.{named_if, named_sends, named_begins, named_answered, named_part, named_gone, named_checkpoint, named_tells_part, named_safe, named_trimmed, named_recovery}
use Rattle.frame_parties.proofs.Going.{found_named, part_named, acceptor_named, member_named, rule_named}

-- what a step leaves
pub record StepNamed (c : Config) (made : Stepped) : Type 0 where
  pub view : ViewNamed c made.view
  pub frames : AreAddressed c made.frames

ends_named : (c : Config) (a : StepSoFar) → ActNamed c a → StepNamed c (finished (rebases a))
ends_named c a w = record { view = record { own = w.own; rings = each a.view.parts w.rings; replica = w.replica }; frames = appended (IsAddressed c) a.frames a.replies w.frames w.replies }
  where
    each : (parts : List RingPart) → AllByRecursion (MemberNamed c) parts → AllByRecursion (MemberNamed c) (map (rebased a.view.service) parts)
    each [] all = tt
    each (p ∷ parts) all = (all.0, each parts all.1)

-- ---- frames

module _ (c : Config) where
  trim_named : (ring : RingId) (trim : ℕ) (a : StepSoFar) → ActNamed c a → ActNamed c (handles_trim c ring trim a)
  trim_named ring trim a w = by_part (part_at a.view ring) refl
    where
      by_part : (o : Option RingPart) → part_at a.view ring ≡ o → ActNamed c (handles_trim_at c ring trim o a)
      by_part None e = w
      by_part (Some p) e =
          let made : StepSoFar = applies_effects c p.ring (trimmed p.ring a.view.link p.part trim) a in
          named_trimmed c ring trim (if is_acceptor p.ring then made else a)
          (named_if c (is_acceptor p.ring) made a
          (part_named c ring a w (λ r part view. trimmed r view.link part trim) (λ r part view n. trimmed_addressed c r n view.link part trim) p e) w)

  promise_named : (from : NodeId) (ring : RingId) (ballot lo hi trim : ℕ) (votes : List Voted) (a : StepSoFar) → HasNode c from → ActNamed c a → ActNamed c (handles_body c from (Promise ring ballot lo hi trim votes) a)
  promise_named from ring ballot lo hi trim votes a there w = by_part (part_at a.view ring) refl
    where
      by_part : (o : Option RingPart) → part_at a.view ring ≡ o → ActNamed c (at_acceptor (λ r part b. recovers_if_trimmed c ring trim (applies_effects c r (promised r b.view.link part from ballot lo hi trim votes) b)) o a)
      by_part None e = w
      by_part (Some p) e =
          let made : StepSoFar = applies_effects c p.ring (promised p.ring a.view.link p.part from ballot lo hi trim votes) a in
          named_if c (is_acceptor p.ring) (recovers_if_trimmed c ring trim made) a
          (named_trimmed c ring trim made
          (part_named c ring a w (λ r part view. promised r view.link part from ballot lo hi trim votes) (λ r part view n. promised_addressed c r n view.link part from ballot lo hi trim votes there) p e)) w

  submit_named : (ring : RingId) (hops : ℕ) (client : ClientId) (seq : ℕ) (command : List ℕ) (a : StepSoFar) → ActNamed c a → ActNamed c (handles_submit c ring hops client seq command a)
  submit_named ring hops client seq command a w =
      named_if c (is_for c ring (command_of command)) (at_acceptor (λ r part b. applies_effects c r (submits r b.view.link part hops client seq command) b) (part_at a.view ring) a) a
      (acceptor_named c ring a w (λ r part view. submits r view.link part hops client seq command) (λ r part view n. submits_addressed c r n view.link part hops client seq command)) w

  module _ (from : NodeId) (there : HasNode c from) (a : StepSoFar) (w : ActNamed c a) where
    by_service : (rule : Service → StepSoFar → StepSoFar) → ((s : Service) → ServiceNamed c s → ActNamed c (rule s a)) → ActNamed c (at_service rule a.view.service a)
    by_service rule each = go a.view.service w.replica
      where
        go : (o : Option Service) → ReplicaNamed c o → ActNamed c (at_service rule o a)
        go None r = w
        go (Some s) r = each s r

    by_attempt : (rule : Service → Attempt → StepSoFar → StepSoFar) → ((s : Service) (now : Attempt) → AreThere c s.partition.replicas → StageNamed c (Recovering now) → ActNamed c (rule s now a)) → ActNamed c (recovering rule a.view.service a)
    by_attempt rule each = by_service (λ s. at_attempt (rule s) s.stage) (λ s r. by_stage s r.replicas s.stage r.stage)
      where
        by_stage : (s : Service) → AreThere c s.partition.replicas → (stage : Stage) → StageNamed c stage → ActNamed c (at_attempt (rule s) stage a)
        by_stage s all (Ready standing) is = w
        by_stage s all (Recovering now) is = each s now all is

    body_named : (body : Body) → ActNamed c (handles_body c from body a)
    body_named (Submit ring hops client seq command) = submit_named ring hops client seq command a w
    body_named (Prepare ring ballot lo) = acceptor_named c ring a w (λ r part view. prepares r part from ballot lo) (λ r part view n. prepares_addressed c r n part from ballot lo there)
    body_named (Promise ring ballot lo hi trim votes) = promise_named from ring ballot lo hi trim votes a there w
    body_named (Refuse ring ballot promise) = acceptor_named c ring a w (λ r part view. refused r part ballot promise) (λ r part view n. refused_addressed c r n part ballot promise)
    body_named (Accept ring ballot lo hi mask value) = acceptor_named c ring a w (λ r part view. accepts r view.link part ballot lo hi mask value) (λ r part view n. accepts_addressed c r n view.link part ballot lo hi mask value)
    body_named (Decide ring lo hi left value) = member_named c ring a w (λ r part view. decided r view.link part lo hi left value) (λ r part view n. decided_addressed c r n view.link part lo hi left value)
    body_named (Fetch ring lo) = acceptor_named c ring a w (λ r part view. fetches r part from lo) (λ r part view n. fetches_addressed c r n part from lo there)
    body_named (Chosen ring ranges) = member_named c ring a w (λ r part view. chosen r part ranges) (λ r part view n. chosen_addressed c r n part ranges)
    body_named (Trimmed ring trim) = trim_named ring trim a w
    body_named (TrimTo ring trim) = trim_named ring trim a w
    body_named (AskSafe ring round) = named_safe c from ring round (safe_of a.view ring a.view.service) a there w
    body_named (Safe ring round inst) = acceptor_named c ring a w (λ r part view. answers r view.link part from round inst) (λ r part view n. answers_addressed c r n view.link part from round inst)
    body_named (AskCheckpoint epoch attempt) = by_service (λ s. tells_checkpoint s from epoch attempt) (λ s r. named_checkpoint c s from epoch attempt a there w)
    body_named (HaveCheckpoint epoch attempt tuple) = by_attempt (λ s now. answered_by c s now from epoch attempt tuple) (λ s now all is. named_answered c s now from epoch attempt tuple a all is there w)
    body_named (AskPart epoch attempt tuple offset) = by_service (λ s. tells_part c s from epoch attempt tuple offset) (λ s r. named_tells_part c s from epoch attempt tuple offset a there w)
    body_named (PartFrame epoch attempt tuple offset total bytes) =
        by_attempt (λ s now. takes_part c s now from epoch attempt tuple offset total bytes) (λ s now all is. named_part c s now from epoch attempt tuple offset total bytes a all is w)
    body_named (Gone epoch attempt asked newer) = by_attempt (λ s now. takes_gone c s now from epoch attempt asked newer) (λ s now all is. named_gone c s now from epoch attempt asked newer a all is w)
    body_named (Reply client seq partition reply) = w
    body_named Hello = w

  from_named : (from : Party) (body : Body) (a : StepSoFar) → HasParty c from → ActNamed c a → ActNamed c (handles_from c from body a)
  from_named (Node from) body a there w =
      body_named from there (record a { view = record a.view { link = with_heard from.0 a.view.link } }) (record { own = w.own; rings = w.rings; replica = w.replica; frames = w.frames; replies = w.replies }) body
  from_named (Client from) (Submit ring hops client seq command) a there w = submit_named ring hops client seq command a w
  from_named (Client from) other a there w = w

  -- ---- a tick of the rings

  fun_named : (b : Bool) (f : StepSoFar → StepSoFar) (a : StepSoFar) → ActNamed c (f a) → ActNamed c a → ActNamed c ((if b then f else (λ (x : StepSoFar). x)) a)
  fun_named true f a here other = here
  fun_named false f a here other = other

  tick_named : (active again trims : Bool) (ring : RingId) (a : StepSoFar) → ActNamed c a → ActNamed c (ticks_ring c active again trims ring a)
  tick_named active again trims ring a w = rule_named c ring asked third (λ r part view. levels r view.link part) (λ r part view n. levels_addressed c r n view.link part)
    where
      started : StepSoFar
      started = rules_for c ring (λ r part view. starts_on_tick r view.link part) a

      first : ActNamed c started
      first = rule_named c ring a w (λ r part view. starts_on_tick r view.link part) (λ r part view n. starts_on_tick_addressed c r n view.link part)

      resent : StepSoFar
      resent = (if again && active then rules_for c ring (λ r part view. resends r view.link part) else (λ (x : StepSoFar). x)) started

      second : ActNamed c resent
      second = fun_named (again && active) (rules_for c ring (λ r part view. resends r view.link part)) started
          (rule_named c ring started first (λ r part view. resends r view.link part) (λ r part view n. resends_addressed c r n view.link part)) first

      asked : StepSoFar
      asked = (if trims then rules_for c ring (λ r part view. asks_round r view.link part (safe_of view ring view.service)) else (λ (x : StepSoFar). x)) resent

      third : ActNamed c asked
      third = fun_named trims (rules_for c ring (λ r part view. asks_round r view.link part (safe_of view ring view.service))) resent
          (rule_named c ring resent second (λ r part view. asks_round r view.link part (safe_of view ring view.service)) (λ r part view n. asks_addressed c r n view.link part (safe_of view ring view.service))) second

  rings_named : (again trims : Bool) (parts : List RingPart) (a : StepSoFar) → ActNamed c a → ActNamed c (ticks_rings c again trims parts a)
  rings_named again trims [] a w = w
  rings_named again trims (p ∷ parts) a w =
      rings_named again trims parts (ticks_ring c (is_active p.part.coordinator) again trims p.ring.id a) (tick_named (is_active p.part.coordinator) again trims p.ring.id a w)

  -- ---- what a beat asks

  turn_there : (own : NodeId) (acceptors : List NodeId) (beat : ℕ) → AreThere c acceptors → IfThere (HasNode c) (turn_of own acceptors beat)
  turn_there own acceptors beat all = go (slice_get acceptors (beat % length acceptors)) (get_all (HasNode c) acceptors (beat % length acceptors) all)
    where
      by_own : (b : Bool) (node : NodeId) → HasNode c node → IfThere (HasNode c) (if b then slice_get acceptors ((beat % length acceptors + 1) % length acceptors) else Some node)
      by_own true node there = get_all (HasNode c) acceptors ((beat % length acceptors + 1) % length acceptors) all
      by_own false node there = there

      go : (o : Option NodeId) → IfThere (HasNode c) o → IfThere (HasNode c) (asked_at own acceptors (beat % length acceptors) o)
      go None there = tt
      go (Some node) there = by_own (node.0 == own.0) node there

  fetches_named : (turn : ℕ) (a : StepSoFar) → ActNamed c a → ActNamed c (fetches_missing c turn a.view.service a)
  fetches_named turn a w = by_part_of a.view.service
    where
      by_part : (place : RingId × ℕ) (o : Option RingPart) → part_at a.view place.0 ≡ o → ActNamed c (fetches_at turn place o a)
      by_part place None e = w
      by_part place (Some p) e =
          let named = found_named c a.view.parts place.0 p w.rings e in
          named_sends c (sends p.ring (turn_of a.view.id p.ring.acceptors turn) (Fetch place.0 place.1)) a
          (sends_addressed c p.ring named (turn_of a.view.id p.ring.acceptors turn) (Fetch place.0 place.1) (turn_there a.view.id p.ring.acceptors turn named.acceptors)) w

      by_stage : (stage : Stage) → ActNamed c (fetches_stage c turn stage a)
      by_stage (Recovering attempt) = w
      by_stage (Ready standing) = by_part (place_of c standing) (part_at a.view (place_of c standing).0) refl

      by_part_of : (o : Option Service) → ActNamed c (fetches_missing c turn o a)
      by_part_of None = w
      by_part_of (Some s) = by_stage s.stage

module _ (c : Config) (closed : IsClosed c) where
  beat_named : (turn : ℕ) (a : StepSoFar) → ActNamed c a → ActNamed c (asks_on_beat c turn a)
  beat_named turn a w =
      let now : StepSoFar = fetches_missing c turn a.view.service a in
      let fetched : ActNamed c now = fetches_named c turn a w in
      named_sends c (flat_map (λ (node : NodeTable). sends_to now.view.id node.id Hello) (filter (shares_ring now.view) c.nodes)) now
      (flat_all (λ (node : NodeTable). HasNode c node.id) (IsAddressed c) (λ (node : NodeTable). sends_to now.view.id node.id Hello) (λ node there. to_addressed c now.view.id node.id Hello fetched.own there)
      (filter (shares_ring now.view) c.nodes) (filter_all (λ (node : NodeTable). HasNode c node.id) (shares_ring now.view) c.nodes closed.nodes)) fetched

  beats_named : (parts : List RingPart) (beat : ℕ) (again : Bool) (a : StepSoFar) → ActNamed c a → ActNamed c (beats_with c parts beat again a)
  beats_named parts beat again a w = fun_named c again (asks_on_beat c (beat / c.resend)) ringed (beat_named (beat / c.resend) ringed second) second
    where
      recovered : StepSoFar
      recovered = recovery_ticks_at c again a.view.service a

      ringed : StepSoFar
      ringed = ticks_rings c again (beat % c.trim == 0) parts recovered

      second : ActNamed c ringed
      second = rings_named c again (beat % c.trim == 0) parts recovered (named_recovery c again a w)

  -- ---- a step

  module _ (view : View) (v : ViewNamed c view) where
    abbrev SavedOr : Option Stepped → Type 0
    SavedOr None = Unit {0}
    SavedOr (Some made) = StepNamed c made

    saves_named : SavedOr (saves_first c view view.service)
    saves_named = by_service view.service v.replica
      where
        by_due : (service : Service) (standing : Standing) (due : Bool) → AreThere c service.partition.replicas → SavedOr (if due then Some (saves view service standing (state_bytes standing.replica)) else None)
        by_due service standing false all = tt
        by_due service standing true all = record { view = record { own = v.own; rings = v.rings; replica = record { replicas = all; stage = tt } }; frames = tt }

        by_stage : (service : Service) (stage : Stage) → AreThere c service.partition.replicas → SavedOr (saves_stage c view service stage)
        by_stage service (Recovering attempt) all = tt
        by_stage service (Ready standing) all = by_due service standing (is_due_to_save c view standing) all

        by_service : (o : Option Service) → ReplicaNamed c o → SavedOr (saves_first c view o)
        by_service None r = tt
        by_service (Some service) r = by_stage service service.stage r.replicas

    ticks_named : StepNamed c (ticks c view)
    unfolding ticks
    ticks_named = by_saved (saves_first c view view.service) saves_named
      where
        by_compact : (b : Bool) → StepNamed c (if b then compacts view else finished (rebases (beats c view)))
        by_compact true = record { view = record { own = v.own; rings = v.rings; replica = v.replica }; frames = tt }
        by_compact false =
            ends_named c (beats c view) (beats_named view.parts (view.beat + 1) ((view.beat + 1) % c.resend == 0) (begun_with (record view { beat = view.beat + 1; link = with_tick view.link }))
            (record { own = v.own; rings = v.rings; replica = v.replica; frames = tt; replies = tt }))

        by_saved : (o : Option Stepped) → SavedOr o → StepNamed c (or_compacts c view o)
        by_saved None s = by_compact (is_due_to_compact c view)
        by_saved (Some made) s = s

    begun_named : ActNamed c (begun_with view)
    begun_named = record { own = v.own; rings = v.rings; replica = v.replica; frames = tt; replies = tt }

    pub step_named : (event : Event) → EventNamed c event → StepNamed c (step c view event)
    unfolding step
    step_named Ticks is = ticks_named
    step_named (Takes frame) is = ends_named c (handles_from c frame.from frame.body (begun_with view)) (from_named c frame.from frame.body (begun_with view) is begun_named)
    step_named (Leads ring) is = ends_named c _ (acceptor_named c ring (begun_with view) begun_named (λ r part w. leads r w.link part) (λ r part w n. leads_addressed c r n w.link part))

  -- ---- an opening

  module _ (id : NodeId) (there : HasNode c id) where
    parts_named : (state : State) (tables : List RingTable) → AllByRecursion (λ (t : RingTable). AreThere c t.acceptors) tables → AllByRecursion (MemberNamed c) (parts_of c id state tables)
    parts_named state [] all = tt
    parts_named state (table ∷ tables) all = go (is_member (ring_of c id table)) (parts_named state tables all.1)
      where
        go : (b : Bool) → AllByRecursion (MemberNamed c) (parts_of c id state tables)
            → AllByRecursion (MemberNamed c) (if b then part_of_ring state (ring_of c id table) ∷ parts_of c id state tables else parts_of c id state tables)
        go true later = (ring_named c closed id there table all.0, later)
        go false later = later

    pub opened_named : (journal : Journal) (checkpoints : Checkpoints) → StepNamed c (opened c id journal checkpoints)
    unfolding opened
    opened_named journal checkpoints = ends_fresh (by_partition (partition_of c.partitions id) (find_all (λ (p : PartitionTable). AreThere c p.replicas) _ c.partitions closed.replicas))
      where
        fresh : ActNamed c (begun_with (view_of c id journal checkpoints))
        fresh = record { own = there; rings = parts_named journal.state c.rings closed.acceptors; replica = tt; frames = tt; replies = tt }

        by_partition : (o : Option PartitionTable) → IfThere (λ (p : PartitionTable). AreThere c p.replicas) o → ActNamed c (begins_first c o (begun_with (view_of c id journal checkpoints)))
        by_partition None all = fresh
        by_partition (Some p) all = named_begins c _ (begun_with (view_of c id journal checkpoints)) all fresh

        ends_fresh : ActNamed c (begins_first c (partition_of c.partitions id) (begun_with (view_of c id journal checkpoints)))
            → StepNamed c (finished (begins_first c (partition_of c.partitions id) (begun_with (view_of c id journal checkpoints))))
        ends_fresh w = record {
          view = record { own = w.own; rings = w.rings; replica = w.replica };
          frames = appended (IsAddressed c) (begins_first c (partition_of c.partitions id) (begun_with (view_of c id journal checkpoints))).frames
              (begins_first c (partition_of c.partitions id) (begun_with (view_of c id journal checkpoints))).replies w.frames w.replies;
        }
