-- A step changes the journal and the checkpoints of its view by its work alone.
use Rattle.std.proofs.Common.{◌≡◌, ℕ, zero, suc, ◌+◌, ◌/◌, ◌%◌, ◌^◌, ◌==◌, nat_lt, if◌then◌else◌, Bool, true, false, ◌&&◌, List, [], ◌∷◌, ◌++◌, length, Option, Some, None, refl, ap, ◌∙◌}
use Rattle.std.specs.Prelude.{not}
use Rattle.std.specs.List.{flat_map}
use Rattle.mrp_types.specs.declared.id.NodeId.{NodeId}
use Rattle.mrp_types.specs.declared.id.RingId.{RingId}
use Rattle.mrp_types.specs.declared.id.ClientId.{ClientId}
use Rattle.mrp_types.specs.declared.id.Party.{Party}
use Rattle.mrp_types.specs.declared.id.Party.TheVariants.{Node, Client}
use Rattle.mrp_types.specs.declared.voted.Decided.{Decided}
use Rattle.mrp_config.specs.Config.{Config, has_node}
use Rattle.command_codec.specs.Grammar.{command_of}
use Rattle.frames.specs.declared.body.Body.{Body}
use Rattle.frames.specs.declared.body.Body.TheVariants as body
use Rattle.checkpoint.specs.Checkpoints.{is_after, part_of}
use Rattle.plain_model.specs.Replicas.{Replica}
use Rattle.plain_model.specs.StateBytes.{state_of, state_bytes}
use Rattle.plain_model.specs.Tuples.{round_sizes, is_tuple_of}
use Rattle.ring_link.specs.Silence.{with_heard, with_tick}
use Rattle.vote_state.specs.declared.change.Change.{Change}
use Rattle.vote_journal.specs.Journal.{Journal, recorded}
use Rattle.protocol.specs.Lines.{Learn, Refuse}
use Rattle.protocol.specs.Parts.{Ring, Part, Effects}
use Rattle.protocol.specs.Rings.{is_acceptor, sends_to}
use Rattle.protocol.specs.Acceptor.{prepares, accepts, fetches}
use Rattle.protocol.specs.Coordinator.{leads, promised, refused, submits}
use Rattle.protocol.specs.Learner.{Taken, learns, decided, chosen}
use Rattle.protocol.specs.Leading.{levels, resends, starts_on_tick}
use Rattle.protocol.specs.Proposing.{proposes}
use Rattle.protocol.specs.Trimming.{has_answered, trimmed, answers, asks_round}
use Rattle.protocol.specs.Node.{StepSoFar, RingPart, Service, Stage, Recovering, Ready, Standing, Attempt, Choice, View, Event, Ticks, Takes, Leads, Stepped, begun_with, finished, part_at, prints, sends_all, with_part, with_stage}
use Rattle.protocol.specs.Ballots.{is_active}
use Rattle.protocol.specs.Bases.{rebases}
use Rattle.protocol.specs.Learning.{Queued, with_effects, queued, proposes_then, by_news, learns_taken, learns_one, then_learns, learns_up_to, applies_effects}
use Rattle.protocol.specs.Merging.{place_of, merges}
use Rattle.protocol.specs.Recovery.{epoch_of, asks_part, chooses, begins, is_of, is_of_choice, takes_answer, answered_by, restores_or_begins, with_more, part_for, takes_part, gone_for, takes_gone, tells_checkpoint, answer_part, tells_part, safe_of, asks_missing, ends_attempt, ticks_attempt, recovery_ticks}
use Rattle.protocol.specs.Step.{waits_below, begins_if_waits_below, after_trim, recovers_if_trimmed, at_member, at_acceptor, is_for, handles_trim_at, handles_trim, handles_submit, tells_safe, at_service, at_attempt, recovering, handles_body, handles_from, step}
use Rattle.protocol.specs.Tick.{saves, is_due_to_save, saves_stage, saves_first, is_due_to_compact, compacts, rules_at, rules_for, ticks_ring, ticks_rings, fetches_at, fetches_stage, fetches_missing, recovery_ticks_at, asks_on_beat, beats, or_compacts, ticks}
use Rattle.disk_states.specs.Works.{journal_after, checkpoints_after}
use Rattle.bare_ties.proofs.Keeping.{Keeps, merges_keep, restores_keep, chooses_keep, quorum_keeps, begins_keep}

-- a step has gone on with its journal and its checkpoints as they were
record Stays (old new : StepSoFar) : Type 0 where
  journal : new.view.journal ≡ old.view.journal
  checkpoints : new.view.checkpoints ≡ old.view.checkpoints

Stays-refl : (a : StepSoFar) → Stays a a
Stays-refl a = record { journal = refl; checkpoints = refl }

Stays-trans : {a b c : StepSoFar} → Stays a b → Stays b c → Stays a c
Stays-trans x y = record { journal = y.journal ∙ x.journal; checkpoints = y.checkpoints ∙ x.checkpoints }

kept : {a b : StepSoFar} → Keeps a b → Stays a b
kept k = record { journal = k.journal; checkpoints = k.checkpoints }

-- one of two
either : (b : Bool) (a x y : StepSoFar) → Stays a x → Stays a y → Stays a (if b then x else y)
either true a x y first second = first
either false a x y first second = second

-- ---- a rule of a ring

module _ (config : Config) where
  effects_stay : (ring : Ring) (effects : Effects) (a : StepSoFar) → Stays a (with_effects ring effects a)
  effects_stay ring effects a = record { journal = refl; checkpoints = refl }

  part_stays : (ring : Ring) (part : Part) (a : StepSoFar) → Stays a (with_part ring part a)
  part_stays ring part a = record { journal = refl; checkpoints = refl }

  then_stays : (ring : Ring) (later : List Decided) (o : Option RingPart) (a : StepSoFar) → Stays a (proposes_then ring later o a).so_far
  then_stays ring later None a = Stays-refl a
  then_stays ring later (Some p) a = effects_stay ring (proposes ring a.view.link p.part) a

  news_stay : (ring : Ring) (range : Decided) (later : List Decided) (news : Bool) (a : StepSoFar) → Stays a (by_news config ring range later news a).so_far
  news_stay ring range later false a = Stays-refl a
  news_stay ring range later true a =
      let printed : StepSoFar = prints (Learn a.view.id ring.id range.lo range.hi range.value ∷ []) a in
      let merged : StepSoFar = merges config printed in
      let first : Stays a printed = record { journal = refl; checkpoints = refl } in
      Stays-trans first (Stays-trans (kept (merges_keep config printed)) (then_stays ring later (part_at merged.view ring.id) merged))

  one_stays : (ring : Ring) (range : Decided) (later : List Decided) (o : Option RingPart) (a : StepSoFar) → Stays a (learns_one config ring range later o a).so_far
  one_stays ring range later None a = Stays-refl a
  one_stays ring range later (Some p) a = by (learns ring p.part range)
    where
      by : (taken : Taken) → Stays a (learns_taken config ring range later taken a).so_far
      by taken = Stays-trans (part_stays ring taken.part a) (news_stay ring range later taken.news (with_part ring taken.part a))

  learns_stay : (most : ℕ) (ring : Ring) (q : Queued) → Stays q.so_far (learns_up_to most config ring q)
  learns_stay zero ring q = Stays-refl q.so_far
  learns_stay (suc most) ring q = by q.ranges (λ r. learns_stay most ring r)
    where
      by : (ranges : List Decided) → ((r : Queued) → Stays r.so_far (learns_up_to most config ring r)) → Stays q.so_far (then_learns (learns_up_to most config ring) config ring q ranges)
      by [] rest = Stays-refl q.so_far
      by (range ∷ later) rest =
          let next : Queued = learns_one config ring range later (part_at q.so_far.view ring.id) q.so_far in
          Stays-trans (one_stays ring range later (part_at q.so_far.view ring.id) q.so_far) (rest next)

  applies_stay : (ring : Ring) (effects : Effects) (a : StepSoFar) → Stays a (applies_effects config ring effects a)
  unfolding applies_effects
  applies_stay ring effects a = Stays-trans (effects_stay ring effects a) (learns_stay (2 ^ 44) ring (queued ring [] effects a))

  -- a rule at a member, or at an acceptor alone
  member_stays : (rule : Ring → Part → StepSoFar → StepSoFar) → ((r : Ring) (part : Part) (a : StepSoFar) → Stays a (rule r part a)) → (o : Option RingPart) (a : StepSoFar) → Stays a (at_member rule o a)
  member_stays rule stays None a = Stays-refl a
  member_stays rule stays (Some p) a = stays p.ring p.part a

  acceptor_stays : (rule : Ring → Part → StepSoFar → StepSoFar) → ((r : Ring) (part : Part) (a : StepSoFar) → Stays a (rule r part a)) → (o : Option RingPart) (a : StepSoFar) → Stays a (at_acceptor rule o a)
  acceptor_stays rule stays None a = Stays-refl a
  acceptor_stays rule stays (Some p) a = either (is_acceptor p.ring) a (rule p.ring p.part a) a (stays p.ring p.part a) (Stays-refl a)

  -- ---- recovery

  recovers_stay : (ring : RingId) (trim : ℕ) (a : StepSoFar) → Stays a (recovers_if_trimmed config ring trim a)
  recovers_stay ring trim a = by a.view.service
    where
      by_stage : (service : Service) (stage : Stage) → Stays a (begins_if_waits_below config ring trim service stage a)
      by_stage service (Recovering attempt) = Stays-refl a
      by_stage service (Ready standing) = either (waits_below ring trim (place_of config standing)) a (begins config service a) a (kept (begins_keep config service a)) (Stays-refl a)

      by : (o : Option Service) → Stays a (after_trim config ring trim o a)
      by None = Stays-refl a
      by (Some service) = by_stage service service.stage

  safe_stays : (from : NodeId) (ring : RingId) (round : ℕ) (o : Option ℕ) (a : StepSoFar) → Stays a (tells_safe from ring round o a)
  safe_stays from ring round None a = Stays-refl a
  safe_stays from ring round (Some inst) a = record { journal = refl; checkpoints = refl }

  checkpoint_stays : (service : Service) (from : NodeId) (epoch number : ℕ) (a : StepSoFar) → Stays a (tells_checkpoint service from epoch number a)
  checkpoint_stays service from epoch number a = record { journal = refl; checkpoints = refl }

  tells_stay : (service : Service) (from : NodeId) (epoch number : ℕ) (tuple : List (RingId × ℕ)) (offset : ℕ) (a : StepSoFar) → Stays a (tells_part config service from epoch number tuple offset a)
  tells_stay service from epoch number tuple offset a = either (is_tuple_of (round_sizes config) service.partition.rings tuple) a (sends_all (flat_map (sends_to a.view.id from) (answer_part epoch number tuple offset (part_of a.view.checkpoints tuple offset))) a) a (record { journal = refl; checkpoints = refl }) (Stays-refl a)

  answer_stays : (service : Service) (attempt : Attempt) (from : NodeId) (epoch number : ℕ) (tuple : List (RingId × ℕ)) (a : StepSoFar) → Stays a (answered_by config service attempt from epoch number tuple a)
  unfolding answered_by
  answer_stays service attempt from epoch number tuple a =
      either
      (is_of a.view attempt epoch number && (has_node service.partition.replicas from.0 && (not (has_answered from attempt.answers) && is_tuple_of (round_sizes config) service.partition.rings tuple)))
      a (takes_answer config service attempt attempt.choice from tuple a) a (by attempt.choice) (Stays-refl a)
    where
      by : (o : Option Choice) → Stays a (takes_answer config service attempt o from tuple a)
      by (Some choice) = Stays-refl a
      by None = kept (quorum_keeps config service (record attempt { answers = attempt.answers ++ (from, tuple) ∷ [] }) a)

  more_stays : (service : Service) (attempt : Attempt) (choice : Choice) (total : ℕ) (a : StepSoFar) → Stays a (with_more config service attempt choice total a)
  more_stays service attempt choice total a =
      either (length choice.bytes == total) a (restores_or_begins config service choice.tuple (state_of service.partition choice.bytes) a)
      (sends_all (asks_part a.view attempt choice) (with_stage service (Recovering (record attempt { choice = Some choice })) a))
      (by (state_of service.partition choice.bytes)) (record { journal = refl; checkpoints = refl })
    where
      by : (o : Option Replica) → Stays a (restores_or_begins config service choice.tuple o a)
      by None = kept (begins_keep config service a)
      by (Some replica) = kept (restores_keep config service choice.tuple replica a)

  takes_stay : (service : Service) (attempt : Attempt) (from : NodeId) (epoch number : ℕ) (tuple : List (RingId × ℕ)) (offset total : ℕ) (bytes : List ℕ) (a : StepSoFar)
      → Stays a (takes_part config service attempt from epoch number tuple offset total bytes a)
  unfolding takes_part
  takes_stay service attempt from epoch number tuple offset total bytes a = by attempt.choice
    where
      by : (o : Option Choice) → Stays a (part_for config service attempt o from epoch number tuple offset total bytes a)
      by None = Stays-refl a
      by (Some choice) =
          either (is_of a.view attempt epoch number && (is_of_choice choice from tuple && (offset == length choice.bytes))) a
          (with_more config service attempt (record choice { bytes = choice.bytes ++ bytes }) total a) a (more_stays service attempt (record choice { bytes = choice.bytes ++ bytes }) total a) (Stays-refl a)

  gone_stays : (service : Service) (attempt : Attempt) (from : NodeId) (epoch number : ℕ) (asked newer : List (RingId × ℕ)) (a : StepSoFar) → Stays a (takes_gone config service attempt from epoch number asked newer a)
  unfolding takes_gone
  gone_stays service attempt from epoch number asked newer a = by attempt.choice
    where
      by : (o : Option Choice) → Stays a (gone_for config service attempt o from epoch number asked newer a)
      by None = Stays-refl a
      by (Some choice) =
          either (is_of a.view attempt epoch number && (is_of_choice choice from asked && (is_tuple_of (round_sizes config) service.partition.rings newer && is_after choice.tuple newer))) a
          (chooses config service attempt (choice.from, newer) a) a (kept (chooses_keep config service attempt (choice.from, newer) a)) (Stays-refl a)

  service_stays : (rule : Service → StepSoFar → StepSoFar) → ((s : Service) (a : StepSoFar) → Stays a (rule s a)) → (o : Option Service) (a : StepSoFar) → Stays a (at_service rule o a)
  service_stays rule stays None a = Stays-refl a
  service_stays rule stays (Some service) a = stays service a

  attempt_stays : (rule : Service → Attempt → StepSoFar → StepSoFar) → ((s : Service) (t : Attempt) (a : StepSoFar) → Stays a (rule s t a)) → (o : Option Service) (a : StepSoFar) → Stays a (recovering rule o a)
  attempt_stays rule stays o a = service_stays (λ s. at_attempt (rule s) s.stage) (λ s b. by s s.stage b) o a
    where
      by : (s : Service) (stage : Stage) (b : StepSoFar) → Stays b (at_attempt (rule s) stage b)
      by s (Ready standing) b = Stays-refl b
      by s (Recovering attempt) b = stays s attempt b

  -- ---- frames

  submit_stays : (ring : RingId) (hops : ℕ) (client : ClientId) (seq : ℕ) (command : List ℕ) (a : StepSoFar) → Stays a (handles_submit config ring hops client seq command a)
  submit_stays ring hops client seq command a =
      either (is_for config ring (command_of command)) a (at_acceptor (λ r part b. applies_effects config r (submits r b.view.link part hops client seq command) b) (part_at a.view ring) a) a
      (acceptor_stays (λ r part b. applies_effects config r (submits r b.view.link part hops client seq command) b) (λ r part b. applies_stay r (submits r b.view.link part hops client seq command) b) (part_at a.view ring) a)
      (Stays-refl a)

  trim_stays : (ring : RingId) (trim : ℕ) (a : StepSoFar) → Stays a (handles_trim config ring trim a)
  trim_stays ring trim a = by (part_at a.view ring)
    where
      by : (o : Option RingPart) → Stays a (handles_trim_at config ring trim o a)
      by None = Stays-refl a
      by (Some p) =
          let now : StepSoFar = if is_acceptor p.ring then applies_effects config p.ring (trimmed p.ring a.view.link p.part trim) a else a in
          Stays-trans
          (either (is_acceptor p.ring) a (applies_effects config p.ring (trimmed p.ring a.view.link p.part trim) a) a (applies_stay p.ring (trimmed p.ring a.view.link p.part trim) a) (Stays-refl a))
          (recovers_stay ring trim now)

  body_stays : (from : NodeId) (b : Body) (a : StepSoFar) → Stays a (handles_body config from b a)
  body_stays from (body.Submit ring hops client seq command) a = submit_stays ring hops client seq command a
  body_stays from (body.Prepare ring ballot lo) a =
      acceptor_stays (λ r part b. applies_effects config r (prepares r part from ballot lo) b) (λ r part b. applies_stay r (prepares r part from ballot lo) b) (part_at a.view ring) a
  body_stays from (body.Promise ring ballot lo hi trim votes) a =
      acceptor_stays (λ r part b. recovers_if_trimmed config ring trim (applies_effects config r (promised r b.view.link part from ballot lo hi trim votes) b))
      (λ r part b. Stays-trans (applies_stay r (promised r b.view.link part from ballot lo hi trim votes) b)
      (recovers_stay ring trim (applies_effects config r (promised r b.view.link part from ballot lo hi trim votes) b))) (part_at a.view ring) a
  body_stays from (body.Refuse ring ballot promise) a =
      acceptor_stays (λ r part b. applies_effects config r (refused r part ballot promise) b) (λ r part b. applies_stay r (refused r part ballot promise) b) (part_at a.view ring) a
  body_stays from (body.Accept ring ballot lo hi mask value) a =
      acceptor_stays (λ r part b. applies_effects config r (accepts r b.view.link part ballot lo hi mask value) b) (λ r part b. applies_stay r (accepts r b.view.link part ballot lo hi mask value) b) (part_at a.view ring) a
  body_stays from (body.Decide ring lo hi left value) a =
      member_stays (λ r part b. applies_effects config r (decided r b.view.link part lo hi left value) b) (λ r part b. applies_stay r (decided r b.view.link part lo hi left value) b) (part_at a.view ring) a
  body_stays from (body.Fetch ring lo) a =
      acceptor_stays (λ r part b. applies_effects config r (fetches r part from lo) b) (λ r part b. applies_stay r (fetches r part from lo) b) (part_at a.view ring) a
  body_stays from (body.Chosen ring ranges) a =
      member_stays (λ r part b. applies_effects config r (chosen r part ranges) b) (λ r part b. applies_stay r (chosen r part ranges) b) (part_at a.view ring) a
  body_stays from (body.Trimmed ring trim) a = trim_stays ring trim a
  body_stays from (body.TrimTo ring trim) a = trim_stays ring trim a
  body_stays from (body.AskSafe ring round) a = safe_stays from ring round (safe_of a.view ring a.view.service) a
  body_stays from (body.Safe ring round inst) a =
      acceptor_stays (λ r part b. applies_effects config r (answers r b.view.link part from round inst) b) (λ r part b. applies_stay r (answers r b.view.link part from round inst) b) (part_at a.view ring) a
  body_stays from (body.AskCheckpoint epoch attempt) a = service_stays (λ s. tells_checkpoint s from epoch attempt) (λ s b. checkpoint_stays s from epoch attempt b) a.view.service a
  body_stays from (body.HaveCheckpoint epoch attempt tuple) a =
      attempt_stays (λ s now. answered_by config s now from epoch attempt tuple) (λ s now b. answer_stays s now from epoch attempt tuple b) a.view.service a
  body_stays from (body.AskPart epoch attempt tuple offset) a =
      service_stays (λ s. tells_part config s from epoch attempt tuple offset) (λ s b. tells_stay s from epoch attempt tuple offset b) a.view.service a
  body_stays from (body.Part epoch attempt tuple offset total bytes) a =
      attempt_stays (λ s now. takes_part config s now from epoch attempt tuple offset total bytes) (λ s now b. takes_stay s now from epoch attempt tuple offset total bytes b) a.view.service a
  body_stays from (body.Gone epoch attempt asked newer) a =
      attempt_stays (λ s now. takes_gone config s now from epoch attempt asked newer) (λ s now b. gone_stays s now from epoch attempt asked newer b) a.view.service a
  body_stays from (body.Reply client seq partition reply) a = Stays-refl a
  body_stays from body.Hello a = Stays-refl a

  from_stays : (from : Party) (b : Body) (a : StepSoFar) → Stays a (handles_from config from b a)
  from_stays (Node from) b a =
      let heard : StepSoFar = record a { view = record a.view { link = with_heard from.0 a.view.link } } in
      let first : Stays a heard = record { journal = refl; checkpoints = refl } in
      Stays-trans first (body_stays from b heard)
  from_stays (Client from) (body.Submit ring hops client seq command) a = submit_stays ring hops client seq command a
  from_stays (Client from) other a = Stays-refl a

  -- ---- ticks

  rules_stay : (rule : Ring → Part → View → Effects) (ring : RingId) (a : StepSoFar) → Stays a (rules_for config ring rule a)
  rules_stay rule ring a = by (part_at a.view ring)
    where
      by : (o : Option RingPart) → Stays a (rules_at config rule o a)
      by None = Stays-refl a
      by (Some p) = either (is_acceptor p.ring) a (applies_effects config p.ring (rule p.ring p.part a.view) a) a (applies_stay p.ring (rule p.ring p.part a.view) a) (Stays-refl a)

  -- a rule that is made where a test says so
  tested : (t : Bool) (rule : StepSoFar → StepSoFar) (a : StepSoFar) → Stays a (rule a) → Stays a ((if t then rule else (λ b. b)) a)
  tested true rule a stays = stays
  tested false rule a stays = Stays-refl a

  ring_stays : (active again trims : Bool) (ring : RingId) (a : StepSoFar) → Stays a (ticks_ring config active again trims ring a)
  ring_stays active again trims ring a =
      let starts : Ring → Part → View → Effects = λ r part view. starts_on_tick r view.link part in
      let sends : Ring → Part → View → Effects = λ r part view. resends r view.link part in
      let rounds : Ring → Part → View → Effects = λ r part view. asks_round r view.link part (safe_of view ring view.service) in
      let b : StepSoFar = rules_for config ring starts a in
      let c : StepSoFar = (if again && active then rules_for config ring sends else (λ x. x)) b in
      let d : StepSoFar = (if trims then rules_for config ring rounds else (λ x. x)) c in
      Stays-trans (rules_stay starts ring a)
      (Stays-trans (tested (again && active) (rules_for config ring sends) b (rules_stay sends ring b))
      (Stays-trans (tested trims (rules_for config ring rounds) c (rules_stay rounds ring c)) (rules_stay (λ r part view. levels r view.link part) ring d)))

  rings_stay : (again trims : Bool) (parts : List RingPart) (a : StepSoFar) → Stays a (ticks_rings config again trims parts a)
  rings_stay again trims [] a = Stays-refl a
  rings_stay again trims (p ∷ parts) a =
      Stays-trans (ring_stays (is_active p.part.coordinator) again trims p.ring.id a) (rings_stay again trims parts (ticks_ring config (is_active p.part.coordinator) again trims p.ring.id a))

  attempt_ticks : (again : Bool) (service : Service) (attempt : Attempt) (a : StepSoFar) → Stays a (ticks_attempt config again service attempt a)
  attempt_ticks again service attempt a =
      let staged : StepSoFar = with_stage service (Recovering attempt) a in
      let first : Stays a staged = record { journal = refl; checkpoints = refl } in
      either (attempt.ticks == config.attempt) a (ends_attempt config service attempt staged) (sends_all (if again then asks_missing service attempt attempt.choice a.view else []) staged)
      (Stays-trans first (ends staged)) (record { journal = refl; checkpoints = refl })
    where
      ends : (b : StepSoFar) → Stays b (ends_attempt config service attempt b)
      ends b =
          let printed : StepSoFar = prints (Refuse b.view.id (epoch_of b.view) attempt.number (length attempt.answers) service.partition.recovery_quorum ∷ []) b in
          let first : Stays b printed = record { journal = refl; checkpoints = refl } in
          either (nat_lt (length attempt.answers) service.partition.recovery_quorum) b (begins config service printed) (begins config service b)
          (Stays-trans first (kept (begins_keep config service printed))) (kept (begins_keep config service b))

  recovery_stays : (again : Bool) (o : Option Service) (a : StepSoFar) → Stays a (recovery_ticks_at config again o a)
  recovery_stays again None a = Stays-refl a
  recovery_stays again (Some service) a = by service.stage
    where
      by : (stage : Stage) → Stays a (recovery_ticks config again service stage a)
      by (Ready standing) = Stays-refl a
      by (Recovering attempt) = attempt_ticks again service (record attempt { ticks = attempt.ticks + 1 }) a

  asks_stay : (turn : ℕ) (a : StepSoFar) → Stays a (asks_on_beat config turn a)
  asks_stay turn a = Stays-trans (missing a.view.service) (record { journal = refl; checkpoints = refl })
    where
      place : (place : RingId × ℕ) (o : Option RingPart) → Stays a (fetches_at turn place o a)
      place at None = Stays-refl a
      place at (Some p) = record { journal = refl; checkpoints = refl }

      stage : (s : Stage) → Stays a (fetches_stage config turn s a)
      stage (Recovering attempt) = Stays-refl a
      stage (Ready standing) = place (place_of config standing) (part_at a.view (place_of config standing).0)

      missing : (o : Option Service) → Stays a (fetches_missing config turn o a)
      missing None = Stays-refl a
      missing (Some service) = stage service.stage

  beats_stay : (view : View) → Stays (begun_with view) (beats config view)
  beats_stay view =
      let beat = view.beat + 1 in
      let again = beat % config.resend == 0 in
      let first : StepSoFar = begun_with (record view { beat = view.beat + 1; link = with_tick view.link }) in
      let second : StepSoFar = recovery_ticks_at config again first.view.service first in
      let third : StepSoFar = ticks_rings config again (beat % config.trim == 0) view.parts second in
      let begun : Stays (begun_with view) first = record { journal = refl; checkpoints = refl } in
      Stays-trans begun
      (Stays-trans (recovery_stays again first.view.service first)
      (Stays-trans (rings_stay again (beat % config.trim == 0) view.parts second) (tested again (asks_on_beat config (beat / config.resend)) third (asks_stay (beat / config.resend) third))))

-- ---- a step

-- the journal and the checkpoints of a view change by the work alone
pub record ByWork (view : View) (made : Stepped) : Type 0 where
  pub journal : made.view.journal ≡ journal_after view made.work
  pub checkpoints : made.view.checkpoints ≡ checkpoints_after view made.work

finishes : (view : View) (a : StepSoFar) → Stays (begun_with view) a → ByWork view (finished (rebases a))
finishes view a stays = by a.changes
  where
    by : (changes : List Change) → ByWork view (finished (rebases (record a { changes = changes })))
    by [] = record { journal = stays.journal; checkpoints = stays.checkpoints }
    by (c ∷ cs) = record { journal = ap (λ (j : Journal). recorded j (c ∷ cs)) stays.journal; checkpoints = stays.checkpoints }

ticks_by : (config : Config) (view : View) → ByWork view (ticks config view)
unfolding ticks
ticks_by config view = by_service view.service
  where
    third : (due : Bool) → ByWork view (if due then compacts view else finished (rebases (beats config view)))
    third true = record { journal = refl; checkpoints = refl }
    third false = finishes view (beats config view) (beats_stay config view)

    or_third : ByWork view (or_compacts config view None)
    or_third = third (is_due_to_compact config view)

    by_due : (service : Service) (standing : Standing) (due : Bool) → ByWork view (or_compacts config view (if due then Some (saves view service standing (state_bytes standing.replica)) else None))
    by_due service standing true = record { journal = refl; checkpoints = refl }
    by_due service standing false = or_third

    by_stage : (service : Service) (stage : Stage) → ByWork view (or_compacts config view (saves_stage config view service stage))
    by_stage service (Recovering attempt) = or_third
    by_stage service (Ready standing) = by_due service standing (is_due_to_save config view standing)

    by_service : (o : Option Service) → ByWork view (or_compacts config view (saves_first config view o))
    by_service None = or_third
    by_service (Some service) = by_stage service service.stage

pub step_by : (config : Config) (view : View) (event : Event) → ByWork view (step config view event)
unfolding step
step_by config view Ticks = ticks_by config view
step_by config view (Takes frame) = finishes view (handles_from config frame.from frame.body (begun_with view)) (from_stays config frame.from frame.body (begun_with view))
step_by config view (Leads ring) =
    finishes view (at_acceptor (λ r part a. applies_effects config r (leads r a.view.link part) a) (part_at view ring) (begun_with view))
    (acceptor_stays config (λ r part a. applies_effects config r (leads r a.view.link part) a) (λ r part a. applies_stay config r (leads r a.view.link part) a) (part_at view ring) (begun_with view))
