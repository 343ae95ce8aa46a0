-- All lines of a step and of an opening are lines of a node.
use Rattle.std.proofs.Common.{ℕ, ◌+◌, ◌%◌, ◌/◌, ◌==◌, ◌&&◌, Bool, true, false, List, [], ◌∷◌, Option, Some, None}
use Rattle.std.specs.Prelude.{if◌then◌else◌}
use Rattle.mrp_types.specs.declared.id.NodeId.{NodeId}
use Rattle.mrp_types.specs.declared.id.RingId.{RingId}
use Rattle.mrp_types.specs.declared.id.ClientId.{ClientId}
use Rattle.mrp_types.specs.declared.id.Party.{Party}
use Rattle.mrp_types.specs.declared.id.Party.TheVariants.{Node, Client}
use Rattle.mrp_config.specs.Config.{Config, partition_of}
use Rattle.mrp_config.specs.declared.tables.PartitionTable.{PartitionTable}
use Rattle.checkpoint.specs.Checkpoints.{Checkpoints}
use Rattle.vote_journal.specs.Journal.{Journal}
use Rattle.frames.specs.declared.body.Body.{Body}
use Rattle.frames.specs.declared.body.Body.TheVariants as body
use Rattle.ring_link.specs.Silence.{with_tick}
use Rattle.plain_model.specs.StateBytes.{state_bytes}
use Rattle.protocol.specs.Parts.{Ring, Part, Effects}
use Rattle.protocol.specs.Rings.{is_acceptor}
use Rattle.protocol.specs.Acceptor.{prepares, accepts, fetches}
use Rattle.protocol.specs.Ballots.{is_active}
use Rattle.protocol.specs.Coordinator.{leads, refused, submits}
use Rattle.protocol.specs.Leading.{starts_on_tick, resends, levels}
use Rattle.protocol.specs.Learner.{decided, chosen}
use Rattle.protocol.specs.Trimming.{trimmed, answers, asks_round}
use Rattle.protocol.specs.Learning.{applies_effects}
use Rattle.protocol.specs.Bases.{rebases}
use Rattle.protocol.specs.Recovery.{safe_of}
use Rattle.protocol.specs.Node.{StepSoFar, View, RingPart, Service, Stage, Recovering, Ready, Standing, Attempt, Event, Ticks, Takes, Leads, Stepped, begun_with, finished, part_at}
use Rattle.protocol.specs.Opening.{begins_first, opened, view_of}
use Rattle.protocol.specs.Merging.{place_of}
use Rattle.protocol.specs.Step.{at_member, at_acceptor, handles_trim_at, handles_trim, handles_submit, tells_safe, at_service, at_attempt, recovering, handles_body, handles_from, step}
use Rattle.protocol.specs.Tick.{saves, saves_stage, saves_first, is_due_to_compact, compacts, rules_at, rules_for, ticks_ring, ticks_rings, fetches_at, fetches_stage, fetches_missing, asks_on_beat, recovery_ticks_at, beats, or_compacts, ticks}
use Rattle.node_lines.proofs.Quiet.{Quiet, either_so}
use Rattle.node_lines.proofs.Rules.{prepares_quiet, accepts_quiet, fetches_quiet, decided_quiet, chosen_quiet, trimmed_quiet, promised_quiet, refused_quiet, leads_quiet, submits_quiet, starts_quiet, resends_quiet, levels_quiet, asks_round_quiet, answers_quiet}
use Rattle.node_lines.proofs.Words.{Still, begins_still, answered_still, part_still, gone_still, tells_still, recovery_still, trim_still, applies_still}

module _ (config : Config) where
  -- ---- the frames of a ring

  -- a rule at a part, where it leaves a step still
  abbrev Stilling : (Ring → Part → StepSoFar → StepSoFar) → Type 0
  Stilling rule = (ring : Ring) (part : Part) (a : StepSoFar) → Still a → Still (rule ring part a)

  member_still : (rule : Ring → Part → StepSoFar → StepSoFar) → Stilling rule → (o : Option RingPart) (a : StepSoFar) → Still a → Still (at_member rule o a)
  member_still rule is None a q = q
  member_still rule is (Some p) a q = is p.ring p.part a q

  acceptor_still : (rule : Ring → Part → StepSoFar → StepSoFar) → Stilling rule → (o : Option RingPart) (a : StepSoFar) → Still a → Still (at_acceptor rule o a)
  acceptor_still rule is None a q = q
  acceptor_still rule is (Some p) a q = either_so _ _ _ (is p.ring p.part a q) q

  told_trim_still : (ring : RingId) (trim : ℕ) (a : StepSoFar) → Still a → Still (handles_trim config ring trim a)
  told_trim_still ring trim a q = by (part_at a.view ring)
    where
      by : (o : Option RingPart) → Still (handles_trim_at config ring trim o a)
      by None = q
      by (Some p) =
          let taken : StepSoFar = applies_effects config p.ring (trimmed p.ring a.view.link p.part trim) a in
          trim_still config ring trim (if is_acceptor p.ring then taken else a)
          (either_so (is_acceptor p.ring) taken a (applies_still config p.ring (trimmed p.ring a.view.link p.part trim) a (trimmed_quiet p.ring a.view.link p.part trim) q) q)

  submit_still : (ring : RingId) (hops : ℕ) (client : ClientId) (seq : ℕ) (command : List ℕ) (a : StepSoFar) → Still a → Still (handles_submit config ring hops client seq command a)
  submit_still ring hops client seq command a q =
      either_so _ _ _
      (acceptor_still (λ r part b. applies_effects config r (submits r b.view.link part hops client seq command) b)
      (λ r part b s. applies_still config r _ b (submits_quiet r b.view.link part hops client seq command) s) (part_at a.view ring) a q) q

  safe_still : (from : NodeId) (ring : RingId) (round : ℕ) (o : Option ℕ) (a : StepSoFar) → Still a → Still (tells_safe from ring round o a)
  safe_still from ring round None a q = q
  safe_still from ring round (Some inst) a q = q

  -- ---- the frames of recovery

  service_still : (rule : Service → StepSoFar → StepSoFar) → ((s : Service) (a : StepSoFar) → Still a → Still (rule s a)) → (o : Option Service) (a : StepSoFar) → Still a → Still (at_service rule o a)
  service_still rule is None a q = q
  service_still rule is (Some service) a q = is service a q

  attempt_still : (rule : Service → Attempt → StepSoFar → StepSoFar) → ((s : Service) (now : Attempt) (a : StepSoFar) → Still a → Still (rule s now a)) → (o : Option Service) (a : StepSoFar)
      → Still a → Still (recovering rule o a)
  attempt_still rule is None a q = q
  attempt_still rule is (Some service) a q = by service.stage
    where
      by : (stage : Stage) → Still (at_attempt (rule service) stage a)
      by (Recovering attempt) = is service attempt a q
      by (Ready standing) = q

  -- ---- a frame

  body_still : (from : NodeId) (b : Body) (a : StepSoFar) → Still a → Still (handles_body config from b a)
  body_still from (body.Submit ring hops client seq command) a q = submit_still ring hops client seq command a q
  body_still from (body.Prepare ring ballot lo) a q =
      acceptor_still (λ r part b. applies_effects config r (prepares r part from ballot lo) b) (λ r part b s. applies_still config r _ b (prepares_quiet r part from ballot lo) s) (part_at a.view ring) a q
  body_still from (body.Promise ring ballot lo hi trim votes) a q =
      acceptor_still _ (λ r part b s. trim_still config ring trim _ (applies_still config r _ b (promised_quiet r b.view.link part from ballot lo hi trim votes) s)) (part_at a.view ring) a q
  body_still from (body.Refuse ring ballot promise) a q =
      acceptor_still (λ r part b. applies_effects config r (refused r part ballot promise) b) (λ r part b s. applies_still config r _ b (refused_quiet r part ballot promise) s) (part_at a.view ring) a q
  body_still from (body.Accept ring ballot lo hi mask value) a q =
      acceptor_still (λ r part b. applies_effects config r (accepts r b.view.link part ballot lo hi mask value) b)
      (λ r part b s. applies_still config r _ b (accepts_quiet r b.view.link part ballot lo hi mask value) s) (part_at a.view ring) a q
  body_still from (body.Decide ring lo hi left value) a q =
      member_still (λ r part b. applies_effects config r (decided r b.view.link part lo hi left value) b)
      (λ r part b s. applies_still config r _ b (decided_quiet r b.view.link part lo hi left value) s) (part_at a.view ring) a q
  body_still from (body.Fetch ring lo) a q =
      acceptor_still (λ r part b. applies_effects config r (fetches r part from lo) b) (λ r part b s. applies_still config r _ b (fetches_quiet r part from lo) s) (part_at a.view ring) a q
  body_still from (body.Chosen ring ranges) a q =
      member_still (λ r part b. applies_effects config r (chosen r part ranges) b) (λ r part b s. applies_still config r _ b (chosen_quiet r part ranges) s) (part_at a.view ring) a q
  body_still from (body.Trimmed ring trim) a q = told_trim_still ring trim a q
  body_still from (body.TrimTo ring trim) a q = told_trim_still ring trim a q
  body_still from (body.AskSafe ring round) a q = safe_still from ring round (safe_of a.view ring a.view.service) a q
  body_still from (body.Safe ring round inst) a q =
      acceptor_still (λ r part b. applies_effects config r (answers r b.view.link part from round inst) b)
      (λ r part b s. applies_still config r _ b (answers_quiet r b.view.link part from round inst) s) (part_at a.view ring) a q
  body_still from (body.AskCheckpoint epoch attempt) a q = service_still _ (λ s b r. r) a.view.service a q
  body_still from (body.HaveCheckpoint epoch attempt tuple) a q = attempt_still _ (λ s now b r. answered_still config s now from epoch attempt tuple b r) a.view.service a q
  body_still from (body.AskPart epoch attempt tuple offset) a q = service_still _ (λ s b r. tells_still config s from epoch attempt tuple offset b r) a.view.service a q
  body_still from (body.Part epoch attempt tuple offset total bytes) a q = attempt_still _ (λ s now b r. part_still config s now from epoch attempt tuple offset total bytes b r) a.view.service a q
  body_still from (body.Gone epoch attempt asked newer) a q = attempt_still _ (λ s now b r. gone_still config s now from epoch attempt asked newer b r) a.view.service a q
  body_still from (body.Reply client seq partition reply) a q = q
  body_still from body.Hello a q = q

  from_still : (from : Party) (b : Body) (a : StepSoFar) → Still a → Still (handles_from config from b a)
  from_still (Node from) b a q = body_still from b _ q
  from_still (Client from) (body.Submit ring hops client seq command) a q = submit_still ring hops client seq command a q
  from_still (Client from) other a q = q

  -- ---- a tick

  rules_still : (ring : RingId) (rule : Ring → Part → View → Effects) → ((r : Ring) (part : Part) (view : View) → Quiet (rule r part view).lines) → (a : StepSoFar) → Still a → Still (rules_for config ring rule a)
  rules_still ring rule is a q = by (part_at a.view ring)
    where
      by : (o : Option RingPart) → Still (rules_at config rule o a)
      by None = q
      by (Some p) = either_so _ _ _ (applies_still config p.ring _ a (is p.ring p.part a.view) q) q

  -- a word that is said or not
  word_still : (b : Bool) (word : StepSoFar → StepSoFar) → ((a : StepSoFar) → Still a → Still (word a)) → (a : StepSoFar) → Still a → Still ((if b then word else (λ c. c)) a)
  word_still true word is a q = is a q
  word_still false word is a q = q

  ring_still : (active again trims : Bool) (ring : RingId) (a : StepSoFar) → Still a → Still (ticks_ring config active again trims ring a)
  ring_still active again trims ring a q = levelled (asked (resent (rules_still ring starting (λ r part view. starts_quiet r view.link part) a q)))
    where
      starting : Ring → Part → View → Effects
      starting r part view = starts_on_tick r view.link part

      again_at : Ring → Part → View → Effects
      again_at r part view = resends r view.link part

      rounds : Ring → Part → View → Effects
      rounds r part view = asks_round r view.link part (safe_of view ring view.service)

      levelling : Ring → Part → View → Effects
      levelling r part view = levels r view.link part

      first : StepSoFar
      first = rules_for config ring starting a

      second : StepSoFar
      second = (if again && active then rules_for config ring again_at else (λ b. b)) first

      third : StepSoFar
      third = (if trims then rules_for config ring rounds else (λ b. b)) second

      resent : Still first → Still second
      resent s = word_still (again && active) (rules_for config ring again_at) (λ b t. rules_still ring again_at (λ r part view. resends_quiet r view.link part) b t) first s

      asked : Still second → Still third
      asked s = word_still trims (rules_for config ring rounds) (λ b t. rules_still ring rounds (λ r part view. asks_round_quiet r view.link part (safe_of view ring view.service)) b t) second s

      levelled : Still third → Still (ticks_ring config active again trims ring a)
      levelled s = rules_still ring levelling (λ r part view. levels_quiet r view.link part) third s

  rings_still : (again trims : Bool) (parts : List RingPart) (a : StepSoFar) → Still a → Still (ticks_rings config again trims parts a)
  rings_still again trims [] a q = q
  rings_still again trims (p ∷ parts) a q = rings_still again trims parts _ (ring_still (is_active p.part.coordinator) again trims p.ring.id a q)

  missing_still : (turn : ℕ) (o : Option Service) (a : StepSoFar) → Still a → Still (fetches_missing config turn o a)
  missing_still turn None a q = q
  missing_still turn (Some service) a q = by service.stage
    where
      at : (place : RingId × ℕ) (o : Option RingPart) → Still (fetches_at turn place o a)
      at place None = q
      at place (Some p) = q

      by : (stage : Stage) → Still (fetches_stage config turn stage a)
      by (Recovering attempt) = q
      by (Ready standing) = at (place_of config standing) _

  asked_still : (again : Bool) (o : Option Service) (a : StepSoFar) → Still a → Still (recovery_ticks_at config again o a)
  asked_still again None a q = q
  asked_still again (Some service) a q = recovery_still config again service service.stage a q

  beats_still : (view : View) → Still (beats config view)
  beats_still view = last (rings_still again (beat % config.trim == 0) view.parts first (asked_still again begun.view.service begun tt))
    where
      beat : ℕ
      beat = view.beat + 1

      again : Bool
      again = beat % config.resend == 0

      begun : StepSoFar
      begun = begun_with (record view { beat = beat; link = with_tick view.link })

      first : StepSoFar
      first = recovery_ticks_at config again begun.view.service begun

      second : StepSoFar
      second = ticks_rings config again (beat % config.trim == 0) view.parts first

      last : Still second → Still (beats config view)
      last s = word_still again (asks_on_beat config (beat / config.resend)) (λ b t. missing_still (beat / config.resend) b.view.service b t) second s

  either_step : (b : Bool) (x y : Stepped) → Quiet x.lines → Quiet y.lines → Quiet (if b then x else y).lines
  either_step true x y p q = p
  either_step false x y p q = q

  others_quiet : (view : View) → Quiet (or_compacts config view None).lines
  others_quiet view = either_step (is_due_to_compact config view) (compacts view) (finished (rebases (beats config view))) tt (beats_still view)

  ticks_quiet : (view : View) → Quiet (ticks config view).lines
  unfolding ticks
  ticks_quiet view = by_service view.service
    where
      by_due : (service : Service) (standing : Standing) (b : Bool)
          → Quiet (or_compacts config view (if b then Some (saves view service standing (state_bytes standing.replica)) else None)).lines
      by_due service standing true = (tt, tt)
      by_due service standing false = others_quiet view

      by_stage : (service : Service) (stage : Stage) → Quiet (or_compacts config view (saves_stage config view service stage)).lines
      by_stage service (Recovering attempt) = others_quiet view
      by_stage service (Ready standing) = by_due service standing _

      by_service : (o : Option Service) → Quiet (or_compacts config view (saves_first config view o)).lines
      by_service None = others_quiet view
      by_service (Some service) = by_stage service service.stage

  -- ---- a step, and an opening

  pub step_quiet : (view : View) (event : Event) → Quiet (step config view event).lines
  unfolding step
  step_quiet view Ticks = ticks_quiet view
  step_quiet view (Takes frame) = from_still frame.from frame.body (begun_with view) tt
  step_quiet view (Leads ring) =
      acceptor_still (λ r part a. applies_effects config r (leads r a.view.link part) a) (λ r part a s. applies_still config r _ a (leads_quiet r a.view.link part) s) (part_at view ring) (begun_with view) tt

  pub opened_quiet : (id : NodeId) (journal : Journal) (checkpoints : Checkpoints) → Quiet (opened config id journal checkpoints).lines
  unfolding opened
  opened_quiet id journal checkpoints = by (partition_of config.partitions id)
    where
      by : (o : Option PartitionTable) → Quiet (begins_first config o (begun_with (view_of config id journal checkpoints))).lines
      by None = tt
      by (Some partition) = begins_still config _ (begun_with (view_of config id journal checkpoints)) tt
