-- A whole step, and an opening, carry what was there and what came.
use Rattle.std.proofs.Common.{◌≡◌, ℕ, zero, suc, ◌+◌, ◌/◌, ◌%◌, Bool, true, false, ◌&&◌, List, [], ◌∷◌, map, Option, Some, None, refl, sym, ap, subst}
use Rattle.std.specs.Prelude.{◌==◌, nat_le, if◌then◌else◌, slice_index_or, slice_set, replicate}
use Rattle.std.specs.List.{AllByRecursion}
use Rattle.mrp_types.specs.declared.id.NodeId.{NodeId}
use Rattle.mrp_types.specs.declared.id.RingId.{RingId}
use Rattle.mrp_types.specs.declared.id.ClientId.{ClientId}
use Rattle.mrp_types.specs.declared.id.Party.{Party}
use Rattle.mrp_types.specs.declared.id.Party.TheVariants.{Node, Client}
use Rattle.mrp_types.specs.declared.value.Entry.{Entry}
use Rattle.mrp_types.specs.declared.value.Value.{Value}
use Rattle.mrp_types.specs.declared.voted.Voted.{Voted}
use Rattle.mrp_types.specs.Entries.{IsEntry}
use Rattle.mrp_config.specs.Config.{Config, has_node, partition_of}
use Rattle.state_laws.specs.States.{HasFewLogs}
use Rattle.state_laws.proofs.Bytes.{sound_bytes}
use Rattle.mrp_config.specs.declared.tables.RingTable.{RingTable}
use Rattle.mrp_config.specs.declared.tables.PartitionTable.{PartitionTable}
use Rattle.command_codec.specs.Grammar.{command_of}
use Rattle.vote_state.specs.declared.cast.Cast.{Cast}
use Rattle.vote_state.specs.declared.ring.RingState.{RingState}
use Rattle.vote_state.specs.declared.change.Change.{Change}
use Rattle.vote_state.specs.declared.change.Change.TheVariants.{Epoch, Promise, Vote, Trim}
use Rattle.vote_state.specs.Ranges.{cast_of}
use Rattle.vote_state.specs.State.{State, ring_at, no_votes, nothing_kept, with_promise, with_vote, with_trim, with_ring, changed, taken}
use Rattle.vote_journal.specs.Journal.{Journal, recorded}
use Rattle.checkpoint.specs.Checkpoints.{Checkpoints}
use Rattle.frames.specs.declared.body.Body.{Body}
use Rattle.frames.specs.declared.body.Body.TheVariants as body
use Rattle.ring_link.specs.Silence.{with_heard, with_tick}
use Rattle.plain_model.specs.StateBytes.{state_bytes}
use Rattle.protocol.specs.Parts.{Ring, Part, Effects}
use Rattle.protocol.specs.Rings.{is_acceptor, is_member, ring_of}
use Rattle.protocol.specs.Learner.{decided, chosen}
use Rattle.protocol.specs.Acceptor.{prepares, accepts, fetches}
use Rattle.protocol.specs.Ballots.{is_active}
use Rattle.protocol.specs.Coordinator.{leads, promised, refused, submits}
use Rattle.protocol.specs.Leading.{starts_on_tick, resends, levels}
use Rattle.protocol.specs.Trimming.{trimmed, answers, asks_round}
use Rattle.protocol.specs.Node.{StepSoFar, View, RingPart, Service, Stage, Recovering, Ready, Event, Ticks, Takes, Leads, work_of, begun_with, finished, part_at}
use Rattle.protocol.specs.Recovery.{answered_by, takes_part, takes_gone, tells_checkpoint, tells_part, safe_of}
use Rattle.protocol.specs.Bases.{base_by, rebased, rebases}
use Rattle.protocol.specs.Learning.{applies_effects}
use Rattle.protocol.specs.Opening.{part_of_ring, parts_of, view_of, begins_first, opened}
use Rattle.protocol.specs.Step.{recovers_if_trimmed, at_acceptor, at_member, is_for, handles_submit, handles_trim_at, handles_body, handles_from, step}
use Rattle.protocol.specs.Tick.{saves, is_due_to_save, saves_stage, saves_first, is_due_to_compact, compacts, rules_at, rules_for, ticks_ring, ticks_rings, recovery_ticks_at, asks_on_beat, beats_with, beats, or_compacts, ticks}
use Rattle.ask_laws.specs.Carried.{StageKeeps, ReplicaKeeps, NewestKeeps, ValueCarries, VotesCarry, VotedCarry, RangesCarry, PartCarries, RingPartCarries, StateCarries, ViewCarries, ChangeCarries, WorkCarries, SentCarries, BodyCarries, PartyCarries, EventCarries, EffectsCarry, ActCarries, StepCarries}
use Rattle.ask_laws.proofs.Commands.{IsOfBytes}
use Rattle.ask_laws.proofs.Lists.{appended, filtered, range_all}
use Rattle.ask_laws.proofs.Acceptor.{prepares_made, accepts_made, fetches_made}
use Rattle.ask_laws.proofs.Coordinating.{leads_made, promised_made, refused_made, submits_made, starts_made, resends_made, levels_made, trimmed_made, asks_round_made, answers_made, decided_made, chosen_made}
use Rattle.ask_laws.proofs.SoFar.{FoundCarries, part_found, applies_effects_act}
use Rattle.ask_laws.proofs.Recovering.{begins_keep, answered_keeps, part_keeps, gone_keeps, tells_keep, tells_part_keeps, recovery_keeps, recovers_if_trimmed_keeps, safe_keeps, service_keeps, recovering_keeps, beat_keeps}

-- ---- what is kept for good

put_at : (P : RingState → Type 0) (rings : List RingState) (i j : ℕ) (r : RingState) → P (slice_index_or rings j no_votes) → (i ≡ j → P r) → P (slice_index_or (slice_set rings i r) j no_votes)
put_at P [] i j r old new = old
put_at P (x ∷ rings) zero zero r old new = new refl
put_at P (x ∷ rings) zero (suc j) r old new = old
put_at P (x ∷ rings) (suc i) zero r old new = old
put_at P (x ∷ rings) (suc i) (suc j) r old new = put_at P rings i j r old (λ e. new (ap (λ (n : ℕ). suc n) e))

module _ (Is : ℕ → Entry → Type 0) (Valid : Type 0) where
  ring_put : (ring : RingId) (r : RingState) (s : State) → VotesCarry Is ring.0 r.votes → StateCarries Is s → StateCarries Is (with_ring ring r s)
  ring_put ring r s is c = λ n. put_at (λ (x : RingState). VotesCarry Is n x.votes) s.rings ring.0 n r (c n) (λ e. subst (λ (k : ℕ). VotesCarry Is k r.votes) e is)

  changed_carries : (change : Change) (s : State) → ChangeCarries Is change → StateCarries Is s → StateCarries Is (changed change s)
  changed_carries (Epoch epoch) s is c = absurd is
  changed_carries (Promise ring ballot) s is c = ring_put ring (with_promise ballot (ring_at s ring)) s (c ring.0) c
  changed_carries (Vote ring v) s is c =
      ring_put ring (with_vote v (ring_at s ring)) s (range_all (λ (x : Cast). ValueCarries Is ring.0 x.value) v.lo v.hi (cast_of v) (ring_at s ring).votes is (c ring.0)) c
  changed_carries (Trim ring inst) s is c =
      ring_put ring (with_trim inst (ring_at s ring)) s (filtered (λ (e : ℕ × Cast). ValueCarries Is ring.0 e.1.value) (λ e. nat_le inst e.0) (ring_at s ring).votes (c ring.0)) c

  taken_carries : (cs : List Change) (s : State) → AllByRecursion (ChangeCarries Is) cs → StateCarries Is s → StateCarries Is (taken cs s)
  taken_carries [] s all c = c
  taken_carries (change ∷ cs) s all c = taken_carries cs (changed change s) all.1 (changed_carries change s all.0 c)

  recorded_carries : (j : Journal) (cs : List Change) → AllByRecursion (ChangeCarries Is) cs → StateCarries Is j.state → StateCarries Is (recorded j cs).state
  recorded_carries j [] all c = c
  recorded_carries j (change ∷ cs) all c = taken_carries (change ∷ cs) j.state all c

  none_at : (n i : ℕ) → VotesCarry Is i (slice_index_or (replicate n no_votes) i no_votes).votes
  none_at n i = subst (λ (r : RingState). VotesCarry Is i r.votes) (sym (same n i)) tt
    where
      same : (n i : ℕ) → slice_index_or (replicate n no_votes) i no_votes ≡ no_votes
      same zero i = refl
      same (suc n) zero = refl
      same (suc n) (suc i) = same n i

  pub nothing_carries : StateCarries Is nothing_kept
  nothing_carries = λ n. none_at 16 n

  -- ---- the end of a step

  work_carries : (cs : List Change) → AllByRecursion (ChangeCarries Is) cs → WorkCarries Is (work_of cs)
  work_carries [] all = tt
  work_carries (change ∷ cs) all = all

  finished_carries : (a : StepSoFar) → ActCarries Is Valid a → StepCarries Is Valid (finished a)
  finished_carries a c = record {
    view = record { state = recorded_carries a.view.journal a.changes c.changes c.view.state; parts = c.view.parts; replica = c.view.replica; newest = c.view.newest };
    work = work_carries a.changes c.changes;
    frames = appended (SentCarries Is Valid) a.frames a.replies c.frames c.replies;
    lines = c.lines;
  }

  rebased_all : (service : Option Service) (parts : List RingPart) → AllByRecursion (RingPartCarries Is) parts → AllByRecursion (RingPartCarries Is) (map (rebased service) parts)
  rebased_all service [] all = tt
  rebased_all service (p ∷ parts) all = (
    record {
      votes = all.0.votes;
      role = all.0.role;
      held = filtered (λ (e : ℕ × Value). ValueCarries Is p.ring.id.0 e.1) (λ e. nat_le (base_by p.ring p.part service) e.0) p.part.learner.held all.0.held;
    },
    rebased_all service parts all.1,
  )

  rebases_act : (a : StepSoFar) → ActCarries Is Valid a → ActCarries Is Valid (rebases a)
  rebases_act a c = record {
    view = record { state = c.view.state; parts = rebased_all a.view.service a.view.parts c.view.parts; replica = c.view.replica; newest = c.view.newest };
    changes = c.changes;
    frames = c.frames;
    replies = c.replies;
    lines = c.lines;
  }

  ends : (a : StepSoFar) → ActCarries Is Valid a → StepCarries Is Valid (finished (rebases a))
  ends a c = finished_carries (rebases a) (rebases_act a c)

  begun : (view : View) → ViewCarries Is Valid view → ActCarries Is Valid (begun_with view)
  begun view c = record { view = c; changes = tt; frames = tt; replies = tt; lines = tt }

  -- ---- openings

  new_part_carries : (config : Config) (id : NodeId) (s : State) → StateCarries Is s → (rings : List RingTable) → AllByRecursion (RingPartCarries Is) (parts_of config id s rings)
  new_part_carries config id s c [] = tt
  new_part_carries config id s c (ring ∷ rings) = by (is_member (ring_of config id ring)) (new_part_carries config id s c rings)
    where
      by : (t : Bool) → AllByRecursion (RingPartCarries Is) (parts_of config id s rings)
          → AllByRecursion (RingPartCarries Is) (if t then part_of_ring s (ring_of config id ring) ∷ parts_of config id s rings else parts_of config id s rings)
      by true later = (record { votes = c ring.id.0; role = tt; held = tt }, later)
      by false later = later

  abbrev FewOrNone : Option PartitionTable → Type 0
  FewOrNone None = Unit {0}
  FewOrNone (Some partition) = HasFewLogs partition

  -- the partition of a node is one of the deployment
  found_few : (id : NodeId) (partitions : List PartitionTable) → AllByRecursion HasFewLogs partitions → FewOrNone (partition_of partitions id)
  found_few id [] all = tt
  found_few id (p ∷ partitions) all = by (has_node p.replicas id.0) (found_few id partitions all.1)
    where
      by : (t : Bool) → FewOrNone (partition_of partitions id) → FewOrNone (if t then Some p else partition_of partitions id)
      by true later = all.0
      by false later = later

  pub opened_carries : (given : Valid → (r : ℕ) (e : Entry) → Is r e → IsOfBytes e) (config : Config) → (Valid → AllByRecursion HasFewLogs config.partitions) → (id : NodeId) (journal : Journal) (checkpoints : Checkpoints) → StateCarries Is journal.state → (Valid → NewestKeeps checkpoints.newest) → StepCarries Is Valid (opened config id journal checkpoints)
  unfolding opened
  opened_carries given config few_logs id journal checkpoints c newest =
      finished_carries (begins_first config (partition_of config.partitions id) (begun_with (view_of config id journal checkpoints)))
      (by (partition_of config.partitions id) (λ few. found_few id config.partitions (few_logs few)))
    where
      first : ActCarries Is Valid (begun_with (view_of config id journal checkpoints))
      first = begun (view_of config id journal checkpoints) (record { state = c; parts = new_part_carries config id journal.state c config.rings; replica = λ few. tt; newest = newest })

      by : (o : Option PartitionTable) → (Valid → FewOrNone o) → ActCarries Is Valid (begins_first config o (begun_with (view_of config id journal checkpoints)))
      by None logs = first
      by (Some partition) logs = begins_keep Is Valid given config (record { partition = partition; attempts = 0; stage = Recovering (record { number = 0; ticks = 0; answers = []; choice = None }) }) logs
          (begun_with (view_of config id journal checkpoints)) first

-- ---- a rule at a ring's part

module _ (Is : ℕ → Entry → Type 0) (Valid : Type 0) (valid : (r : ℕ) (e : Entry) → Is r e → IsEntry e) (given : Valid → (r : ℕ) (e : Entry) → Is r e → IsOfBytes e) (config : Config) where
  -- a rule that carries what is there, where its ring has this id
  abbrev Rule : RingId → (Ring → Part → StepSoFar → Effects) → Type 0
  Rule id rule = (r : Ring) (part : Part) (a : StepSoFar) → r.id.0 ≡ id.0 → PartCarries Is r.id.0 part → EffectsCarry Is Valid r.id.0 (rule r part a)

  applies_effects_at : (id : RingId) (rule : Ring → Part → StepSoFar → Effects) → Rule id rule → (p : RingPart) (a : StepSoFar) → FoundCarries Is Valid id (Some p) → ActCarries Is Valid a
      → ActCarries Is Valid (applies_effects config p.ring (rule p.ring p.part a) a)
  applies_effects_at id rule carries p a found c = applies_effects_act Is Valid valid given config p.ring (rule p.ring p.part a) a (carries p.ring p.part a found.0 found.1) c

  at_acceptors : (id : RingId) (rule : Ring → Part → StepSoFar → Effects) → Rule id rule → (a : StepSoFar) → ActCarries Is Valid a
      → ActCarries Is Valid (at_acceptor (λ r part b. applies_effects config r (rule r part b) b) (part_at a.view id) a)
  at_acceptors id rule carries a c = at (part_at a.view id) (part_found Is Valid id a.view.parts c.view.parts)
    where
      at : (o : Option RingPart) → FoundCarries Is Valid id o → ActCarries Is Valid (at_acceptor (λ r part b. applies_effects config r (rule r part b) b) o a)
      at None found = c
      at (Some p) found = by (is_acceptor p.ring)
        where
          by : (t : Bool) → ActCarries Is Valid (if t then applies_effects config p.ring (rule p.ring p.part a) a else a)
          by true = applies_effects_at id rule carries p a found c
          by false = c

  at_members : (id : RingId) (rule : Ring → Part → StepSoFar → Effects) → Rule id rule → (a : StepSoFar) → ActCarries Is Valid a
      → ActCarries Is Valid (at_member (λ r part b. applies_effects config r (rule r part b) b) (part_at a.view id) a)
  at_members id rule carries a c = at (part_at a.view id) (part_found Is Valid id a.view.parts c.view.parts)
    where
      at : (o : Option RingPart) → FoundCarries Is Valid id o → ActCarries Is Valid (at_member (λ r part b. applies_effects config r (rule r part b) b) o a)
      at None found = c
      at (Some p) found = applies_effects_at id rule carries p a found c

  -- ---- frames

  submit_act : (ring : RingId) (hops : ℕ) (client : ClientId) (seq : ℕ) (command : List ℕ) → Is ring.0 (record { client = client; seq = seq; command = command }) → (a : StepSoFar) → ActCarries Is Valid a
      → ActCarries Is Valid (handles_submit config ring hops client seq command a)
  submit_act ring hops client seq command asked a c = by (is_for config ring (command_of command))
    where
      by : (t : Bool) → ActCarries Is Valid (if t then at_acceptor (λ r part b. applies_effects config r (submits r b.view.link part hops client seq command) b) (part_at a.view ring) a else a)
      by true = at_acceptors ring (λ r part b. submits r b.view.link part hops client seq command)
          (λ r part b same is. submits_made Is Valid valid r b.view.link part hops client seq command (subst (λ (n : ℕ). Is n (record { client = client; seq = seq; command = command })) (sym same) asked) is) a c
      by false = c

  trim_act : (ring : RingId) (trim : ℕ) (o : Option RingPart) (a : StepSoFar) → FoundCarries Is Valid ring o → ActCarries Is Valid a → ActCarries Is Valid (handles_trim_at config ring trim o a)
  trim_act ring trim None a found c = c
  trim_act ring trim (Some p) a found c =
      recovers_if_trimmed_keeps Is Valid given config ring trim (if is_acceptor p.ring then applies_effects config p.ring (trimmed p.ring a.view.link p.part trim) a else a) (by (is_acceptor p.ring))
    where
      by : (t : Bool) → ActCarries Is Valid (if t then applies_effects config p.ring (trimmed p.ring a.view.link p.part trim) a else a)
      by true = applies_effects_act Is Valid valid given config p.ring (trimmed p.ring a.view.link p.part trim) a (trimmed_made Is Valid valid p.ring a.view.link p.part trim found.1) c
      by false = c

  promise_act : (ring : RingId) (from : NodeId) (ballot lo hi trim : ℕ) (votes : List Voted) → VotedCarry Is ring.0 votes → (o : Option RingPart) (a : StepSoFar) → FoundCarries Is Valid ring o → ActCarries Is Valid a
      → ActCarries Is Valid (at_acceptor (λ r part b. recovers_if_trimmed config ring trim (applies_effects config r (promised r b.view.link part from ballot lo hi trim votes) b)) o a)
  promise_act ring from ballot lo hi trim votes came None a found c = c
  promise_act ring from ballot lo hi trim votes came (Some p) a found c = by (is_acceptor p.ring)
    where
      by : (t : Bool) → ActCarries Is Valid (if t then recovers_if_trimmed config ring trim (applies_effects config p.ring (promised p.ring a.view.link p.part from ballot lo hi trim votes) a) else a)
      by true = recovers_if_trimmed_keeps Is Valid given config ring trim (applies_effects config p.ring (promised p.ring a.view.link p.part from ballot lo hi trim votes) a)
          (applies_effects_act Is Valid valid given config p.ring (promised p.ring a.view.link p.part from ballot lo hi trim votes) a
          (promised_made Is Valid valid p.ring a.view.link p.part from ballot lo hi trim votes (subst (λ (n : ℕ). VotedCarry Is n votes) (sym found.0) came) found.1) c)
      by false = c

  body_act : (from : NodeId) (b : Body) → BodyCarries Is Valid b → (a : StepSoFar) → ActCarries Is Valid a → ActCarries Is Valid (handles_body config from b a)
  body_act from (body.Submit ring hops client seq command) came a c = submit_act ring hops client seq command came a c
  body_act from (body.Prepare ring ballot lo) came a c =
      at_acceptors ring (λ r part b. prepares r part from ballot lo) (λ r part b same is. prepares_made Is Valid r part from ballot lo is) a c
  body_act from (body.Promise ring ballot lo hi trim votes) came a c =
      promise_act ring from ballot lo hi trim votes came (part_at a.view ring) a (part_found Is Valid ring a.view.parts c.view.parts) c
  body_act from (body.Refuse ring ballot promise) came a c =
      at_acceptors ring (λ r part b. refused r part ballot promise) (λ r part b same is. refused_made Is Valid valid r part ballot promise is) a c
  body_act from (body.Accept ring ballot lo hi mask value) came a c =
      at_acceptors ring (λ r part b. accepts r b.view.link part ballot lo hi mask value)
      (λ r part b same is. accepts_made Is Valid r b.view.link part ballot lo hi mask value (subst (λ (n : ℕ). ValueCarries Is n value) (sym same) came) is) a c
  body_act from (body.Decide ring lo hi left value) came a c =
      at_members ring (λ r part b. decided r b.view.link part lo hi left value)
      (λ r part b same is. decided_made Is Valid valid r b.view.link part lo hi left value (subst (λ (n : ℕ). ValueCarries Is n value) (sym same) came) is) a c
  body_act from (body.Fetch ring lo) came a c = at_acceptors ring (λ r part b. fetches r part from lo) (λ r part b same is. fetches_made Is Valid r part from lo is) a c
  body_act from (body.Chosen ring ranges) came a c =
      at_members ring (λ r part b. chosen r part ranges) (λ r part b same is. chosen_made Is Valid valid r part ranges (subst (λ (n : ℕ). RangesCarry Is n ranges) (sym same) came) is) a c
  body_act from (body.Trimmed ring trim) came a c = trim_act ring trim (part_at a.view ring) a (part_found Is Valid ring a.view.parts c.view.parts) c
  body_act from (body.TrimTo ring trim) came a c = trim_act ring trim (part_at a.view ring) a (part_found Is Valid ring a.view.parts c.view.parts) c
  body_act from (body.AskSafe ring round) came a c = safe_keeps Is Valid given from ring round (safe_of a.view ring a.view.service) a c
  body_act from (body.Safe ring round inst) came a c =
      at_acceptors ring (λ r part b. answers r b.view.link part from round inst) (λ r part b same is. answers_made Is Valid valid r b.view.link part from round inst is) a c
  body_act from (body.AskCheckpoint epoch attempt) came a c = service_keeps Is Valid given (λ s. tells_checkpoint s from epoch attempt) (λ s. tells_keep Is Valid given s from epoch attempt) a.view.service a c
  body_act from (body.HaveCheckpoint epoch attempt tuple) came a c =
      recovering_keeps Is Valid given (λ s now. answered_by config s now from epoch attempt tuple) (λ s now. answered_keeps Is Valid given config s now from epoch attempt tuple) a.view.service c.view.replica a c
  body_act from (body.AskPart epoch attempt tuple offset) came a c =
      service_keeps Is Valid given (λ s. tells_part config s from epoch attempt tuple offset) (λ s. tells_part_keeps Is Valid given config s from epoch attempt tuple offset) a.view.service a c
  body_act from (body.Part epoch attempt tuple offset total bytes) came a c =
      recovering_keeps Is Valid given (λ s now. takes_part config s now from epoch attempt tuple offset total bytes) (λ s now. part_keeps Is Valid given config s now from epoch attempt tuple offset total bytes came) a.view.service c.view.replica a c
  body_act from (body.Gone epoch attempt asked newer) came a c =
      recovering_keeps Is Valid given (λ s now. takes_gone config s now from epoch attempt asked newer) (λ s now. gone_keeps Is Valid given config s now from epoch attempt asked newer) a.view.service c.view.replica a c
  body_act from (body.Reply client seq partition reply) came a c = c
  body_act from body.Hello came a c = c

  from_act : (from : Party) (b : Body) → PartyCarries Is Valid from b → (a : StepSoFar) → ActCarries Is Valid a → ActCarries Is Valid (handles_from config from b a)
  from_act (Node from) b came a c =
      let heard : StepSoFar = record a { view = record a.view { link = with_heard from.0 a.view.link } } in
      body_act from b came heard (record { view = record { state = c.view.state; parts = c.view.parts; replica = c.view.replica; newest = c.view.newest }; changes = c.changes; frames = c.frames; replies = c.replies; lines = c.lines })
  from_act (Client from) (body.Submit ring hops client seq command) came a c = submit_act ring hops client seq command came.2 a c
  from_act (Client from) other came a c = c

  -- ---- a tick

  rules_act : (id : RingId) (rule : Ring → Part → View → Effects) → ((r : Ring) (part : Part) (view : View) → PartCarries Is r.id.0 part → EffectsCarry Is Valid r.id.0 (rule r part view))
      → (a : StepSoFar) → ActCarries Is Valid a
      → ActCarries Is Valid (rules_for config id rule a)
  rules_act id rule carries a c = at (part_at a.view id) (part_found Is Valid id a.view.parts c.view.parts)
    where
      at : (o : Option RingPart) → FoundCarries Is Valid id o → ActCarries Is Valid (rules_at config rule o a)
      at None found = c
      at (Some p) found = by (is_acceptor p.ring)
        where
          by : (t : Bool) → ActCarries Is Valid (if t then applies_effects config p.ring (rule p.ring p.part a.view) a else a)
          by true = applies_effects_act Is Valid valid given config p.ring (rule p.ring p.part a.view) a (carries p.ring p.part a.view found.1) c
          by false = c

  ring_act : (active again trims : Bool) (id : RingId) (a : StepSoFar) → ActCarries Is Valid a → ActCarries Is Valid (ticks_ring config active again trims id a)
  ring_act active again trims id a c =
      let one : StepSoFar = rules_for config id (λ r part view. starts_on_tick r view.link part) a in
      let two : StepSoFar = (if again && active then rules_for config id (λ r part view. resends r view.link part) else (λ b. b)) one in
      let three : StepSoFar = (if trims then rules_for config id (λ r part view. asks_round r view.link part (safe_of view id view.service)) else (λ b. b)) two in
      rules_act id (λ r part view. levels r view.link part) (λ r part view is. levels_made Is Valid valid r view.link part is) three
      (asked trims two
      (resent (again && active) one
      (rules_act id (λ r part view. starts_on_tick r view.link part) (λ r part view is. starts_made Is Valid valid r view.link part is) a c)))
    where
      resent : (t : Bool) (b : StepSoFar) → ActCarries Is Valid b → ActCarries Is Valid ((if t then rules_for config id (λ r part view. resends r view.link part) else (λ x. x)) b)
      resent false b is = is
      resent true b is = rules_act id (λ r part view. resends r view.link part) (λ r part view p. resends_made Is Valid valid r view.link part p) b is

      asked : (t : Bool) (b : StepSoFar) → ActCarries Is Valid b → ActCarries Is Valid ((if t then rules_for config id (λ r part view. asks_round r view.link part (safe_of view id view.service)) else (λ x. x)) b)
      asked false b is = is
      asked true b is = rules_act id (λ r part view. asks_round r view.link part (safe_of view id view.service))
          (λ r part view p. asks_round_made Is Valid valid r view.link part (safe_of view id view.service) p) b is

  rings_act : (again trims : Bool) (parts : List RingPart) (a : StepSoFar) → ActCarries Is Valid a → ActCarries Is Valid (ticks_rings config again trims parts a)
  rings_act again trims [] a c = c
  rings_act again trims (p ∷ parts) a c =
      rings_act again trims parts (ticks_ring config (is_active p.part.coordinator) again trims p.ring.id a) (ring_act (is_active p.part.coordinator) again trims p.ring.id a c)

  beats_act : (parts : List RingPart) (beat : ℕ) (again : Bool) (a : StepSoFar) → ActCarries Is Valid a → ActCarries Is Valid (beats_with config parts beat again a)
  beats_act parts beat again a c =
      on_beat again (ticks_rings config again (beat % config.trim == 0) parts (recovery_ticks_at config again a.view.service a))
      (rings_act again (beat % config.trim == 0) parts (recovery_ticks_at config again a.view.service a) (recovery_keeps Is Valid given config again a.view.service c.view.replica a c))
    where
      on_beat : (t : Bool) (b : StepSoFar) → ActCarries Is Valid b → ActCarries Is Valid ((if t then asks_on_beat config (beat / config.resend) else (λ x. x)) b)
      on_beat false b is = is
      on_beat true b is = beat_keeps Is Valid given config (beat / config.resend) b is

  ticks_carry : (view : View) → ViewCarries Is Valid view → StepCarries Is Valid (ticks config view)
  unfolding ticks
  ticks_carry view c = by_service view.service c.replica
    where
      beaten : StepCarries Is Valid (finished (rebases (beats config view)))
      beaten = ends Is Valid (beats config view)
          (beats_act view.parts (view.beat + 1) ((view.beat + 1) % config.resend == 0) (begun_with (record view { beat = view.beat + 1; link = with_tick view.link }))
          (begun Is Valid (record view { beat = view.beat + 1; link = with_tick view.link }) (record { state = c.state; parts = c.parts; replica = c.replica; newest = c.newest })))

      else_ticks : (t : Bool) → StepCarries Is Valid (if t then compacts view else finished (rebases (beats config view)))
      else_ticks true = record { view = record { state = c.state; parts = c.parts; replica = c.replica; newest = c.newest }; work = tt; frames = tt; lines = tt }
      else_ticks false = beaten

      by_stage : (service : Service) (stage : Stage) → (Valid → HasFewLogs service.partition) → (Valid → StageKeeps service.partition stage) → StepCarries Is Valid (or_compacts config view (saves_stage config view service stage))
      by_stage service (Recovering attempt) logs now = else_ticks (is_due_to_compact config view)
      by_stage service (Ready standing) logs now = by (is_due_to_save config view standing)
        where
          by : (t : Bool) → StepCarries Is Valid (or_compacts config view (if t then Some (saves view service standing (state_bytes standing.replica)) else None))
          by true = record {
            view = record {
              state = c.state;
              parts = c.parts;
              replica = λ few. record { logs = logs few; stage = now few };
              newest = λ few. sound_bytes service.partition standing.replica (logs few) (now few);
            };
            work = tt;
            frames = tt;
            lines = (tt, tt);
          }
          by false = else_ticks (is_due_to_compact config view)

      by_service : (o : Option Service) → (Valid → ReplicaKeeps o) → StepCarries Is Valid (or_compacts config view (saves_first config view o))
      by_service None keeps = else_ticks (is_due_to_compact config view)
      by_service (Some service) keeps = by_stage service service.stage (λ few. (keeps few).logs) (λ few. (keeps few).stage)

  -- ---- a step

  pub step_carries : (view : View) (event : Event) → ViewCarries Is Valid view → EventCarries Is Valid event → StepCarries Is Valid (step config view event)
  unfolding step
  step_carries view Ticks c came = ticks_carry view c
  step_carries view (Takes frame) c came = ends Is Valid (handles_from config frame.from frame.body (begun_with view)) (from_act frame.from frame.body came (begun_with view) (begun Is Valid view c))
  step_carries view (Leads ring) c came =
      ends Is Valid (at_acceptor (λ r part a. applies_effects config r (leads r a.view.link part) a) (part_at view ring) (begun_with view))
      (at_acceptors ring (λ r part a. leads r a.view.link part) (λ r part a same is. leads_made Is Valid valid r a.view.link part is) (begun_with view) (begun Is Valid view c))
