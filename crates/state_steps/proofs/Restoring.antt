-- A replica is restored, chooses, and begins an attempt.
use Rattle.std.proofs.Common.{◌≡◌, ℕ, ◌+◌, ◌-◌, ◌^◌, inl, Bool, true, false, List, [], ◌∷◌, Option, Some, None, refl, sym, ◌∙◌, ap, subst}
use Rattle.std.specs.Prelude.{◌==◌, nat_lt, nat_le, if◌then◌else◌, length}
use Rattle.std.specs.List.{AllByRecursion, flat_map}
use Rattle.mrp_types.specs.declared.id.NodeId.{NodeId}
use Rattle.mrp_types.specs.declared.id.RingId.{RingId}
use Rattle.mrp_config.specs.Config.{Config, partition_of}
use Rattle.mrp_config.specs.declared.tables.PartitionTable.{PartitionTable}
use Rattle.frames.specs.declared.body.Body.TheVariants.{AskCheckpoint, AskPart}
use Rattle.frames.specs.declared.sent.Sent.{Sent}
use Rattle.checkpoint.specs.Checkpoints.{Checkpoint}
use Rattle.plain_model.specs.Replicas.{Replica, empty_replica}
use Rattle.plain_model.specs.StateBytes.{state_of}
use Rattle.plain_model.specs.Tuples.{round_sizes, first_tuple, has_rings, is_tuple_of, instances}
use Rattle.plain_model.proofs.FoldLaw.{replica-follows}
use Rattle.plain_model.proofs.TupleOrder.{first_is_front, front_is_valid}
use Rattle.protocol.specs.Lines.{Line, AttemptLimit, Begin, Chose, Restore}
use Rattle.protocol.specs.Node.{StepSoFar, Service, Stage, Recovering, Ready, Attempt, Choice, with_stage, prints, sends_all}
use Rattle.protocol.specs.Recovery.{epoch_of, own_tuple, others_of, lowers, restores, restores_read, installs_own, best_of, asks_part, gathers, chooses, chooses_best, chooses_if_quorum, asks_checkpoint, begins_next, begins}
use Rattle.line_rules.specs.Scanners.{past}
use Rattle.line_rules.proofs.Growing.{same_number}
use Rattle.faithful.proofs.Ordering.{is_tuple}
use Rattle.tuple_laws.proofs.Below.{below-first}
use Rattle.quiet_rules.specs.Quiet.{IsPlainSent}
use Rattle.quiet_rules.proofs.Words.{by_test}
use Rattle.state_steps.specs.Folded.{IsStateAt}
use Rattle.state_steps.specs.States.{IsLimited, IsCheckpointAt, NewestAt, ChoiceAt, ActAt, AfterAt}
use Rattle.state_steps.proofs.Growing.{newest_past, state_more}
use Rattle.state_steps.proofs.Words.{act_line, act_plain, act_stage, act_lowers, all_flat, plain_sends}
use Rattle.state_steps.proofs.Merging.{merged}

-- ---- the first tuple

first_rings : (rings : List RingId) → has_rings rings (first_tuple rings) ≡ true
first_rings [] = refl
first_rings (ring ∷ rings) = rw (same_number ring.0) (first_rings rings)

first_valid : (m : ℕ → ℕ) (rings : List RingId) → is_tuple_of m rings (first_tuple rings) ≡ true
first_valid m rings = is_tuple m rings (first_tuple rings) (first_rings rings) (front_is_valid m (first_tuple rings) (first_is_front m rings))

first_state : (c : Config) (lines : List Line) (p : PartitionTable) → IsStateAt c lines p (first_tuple p.rings) (empty_replica p)
first_state c lines p = record { entries = []; below = below-first (round_sizes c) _ p.rings; same = replica-follows p [] }

module _ (c : Config) (limited : IsLimited c) (before : List Line) where
  -- ---- it is restored

  pub restored : (service : Service) (tuple : List (RingId × ℕ)) (replica : Replica) (a : StepSoFar) (lines : List Line) → ActAt c before lines a → partition_of c.partitions a.view.id ≡ Some service.partition
      → is_tuple_of (round_sizes c) service.partition.rings tuple ≡ true → IsStateAt c lines service.partition tuple replica → AfterAt c before (restores c service tuple replica a)
  unfolding restores
  restored service tuple replica a lines at there valid state =
      let l : Line = Restore a.view.id (instances tuple) in
      let told : StepSoFar = prints (l ∷ []) a in
      let printed : ActAt c before (l ∷ lines) told = act_line c before lines a at l tt tt in
      let low : ActAt c before (l ∷ lines) (lowers tuple told) = act_lowers c before (l ∷ lines) told printed tuple in
      let stage : Stage = Ready (record { tuple = tuple; replica = replica; delivered = 0 }) in
      merged c limited before (with_stage service stage (lowers tuple told)) (l ∷ lines)
      (act_stage c before (l ∷ lines) (lowers tuple told) low service stage (record { replica = there; stage = (valid, state_now l) }))
    where
      state_now : (l : Line) → IsStateAt c (l ∷ lines) service.partition tuple replica
      state_now l = state_more c l lines service.partition tuple replica state

  -- the own checkpoint
  installed : (service : Service) (o : Option Checkpoint) (a : StepSoFar) (lines : List Line) → ActAt c before lines a → partition_of c.partitions a.view.id ≡ Some service.partition
      → NewestAt c lines (Some service.partition) o → AfterAt c before (installs_own c service o a)
  installed service None a lines at there newest =
      restored service (first_tuple service.partition.rings) (empty_replica service.partition) a lines at there (first_valid (round_sizes c) service.partition.rings) (first_state c lines service.partition)
  installed service (Some newest) a lines at there k =
      subst (λ (o : Option Replica). AfterAt c before (restores_read c service newest.tuple o a)) (sym k.read)
      (restored service newest.tuple _ a lines at there k.valid (record { entries = k.entries; below = k.below; same = refl }))

  -- the own newest checkpoint, with respect to the lines so far
  pub newest_now : (service : Service) (a : StepSoFar) (lines : List Line) → ActAt c before lines a → partition_of c.partitions a.view.id ≡ Some service.partition
      → NewestAt c lines (Some service.partition) a.view.checkpoints.newest
  newest_now service a lines at there =
      subst (λ (ls : List Line). NewestAt c ls (Some service.partition) a.view.checkpoints.newest) at.printed
      (newest_past c a.lines before (Some service.partition) a.view.checkpoints.newest
      (subst (λ (p : Option PartitionTable). NewestAt c before p a.view.checkpoints.newest) there at.newest))

  -- ---- it chooses

  gathering : (service : Service) (attempt : Attempt) (tuple : List (RingId × ℕ)) (from : NodeId) (a : StepSoFar) (lines : List Line) → ActAt c before lines a
      → partition_of c.partitions a.view.id ≡ Some service.partition → AfterAt c before (gathers c service attempt (record { tuple = tuple; from = from; bytes = [] }) a)
  gathering service attempt tuple from a lines at there =
      by_test (AfterAt c before) (from.0 == a.view.id.0) (installs_own c service a.view.checkpoints.newest staged) (sends_all (asks_part a.view attempt choice) staged)
      (λ e. installed service a.view.checkpoints.newest staged lines waits there (newest_now service a lines at there))
      (record { lines = lines; at = act_plain c before lines staged waits (asks_part a.view attempt choice) (plain_sends a.view.id from (AskPart (epoch_of a.view) attempt.number tuple 0) tt) })
    where
      choice : Choice
      choice = record { tuple = tuple; from = from; bytes = [] }

      stage : Stage
      stage = Recovering (record attempt { choice = Some (record { tuple = tuple; from = from; bytes = [] }) })

      staged : StepSoFar
      staged = with_stage service stage a

      waits : ActAt c before lines staged
      waits = act_stage c before lines a at service stage (record { replica = there; stage = inl refl })

  pub choosing : (service : Service) (attempt : Attempt) (best : NodeId × List (RingId × ℕ)) (a : StepSoFar) (lines : List Line) → ActAt c before lines a
      → partition_of c.partitions a.view.id ≡ Some service.partition → AfterAt c before (chooses c service attempt best a)
  unfolding chooses
  choosing service attempt best a lines at there =
      let l : Line = Chose a.view.id (epoch_of a.view) attempt.number (instances best.1) best.0 in
      gathering service attempt best.1 best.0 (prints (l ∷ []) a) (l ∷ lines) (act_line c before lines a at l tt tt) there

  pub quorum_chooses : (service : Service) (attempt : Attempt) (a : StepSoFar) (lines : List Line) → ActAt c before lines a → partition_of c.partitions a.view.id ≡ Some service.partition
      → ChoiceAt c lines service.partition attempt.choice → AfterAt c before (chooses_if_quorum c service attempt a)
  quorum_chooses service attempt a lines at there choice =
      by_test (AfterAt c before) (nat_le service.partition.recovery_quorum (length attempt.answers)) (chooses_best c service attempt attempt.answers a) (with_stage service (Recovering attempt) a)
      (λ e. by_answers attempt.answers) waits
    where
      waits : AfterAt c before (with_stage service (Recovering attempt) a)
      waits = record { lines = lines; at = act_stage c before lines a at service (Recovering attempt) (record { replica = there; stage = choice }) }

      by_answers : (answers : List (NodeId × List (RingId × ℕ))) → AfterAt c before (chooses_best c service attempt answers a)
      by_answers [] = waits
      by_answers (answer ∷ answers) = choosing service attempt (best_of a.view.id answer answers) a lines at there

  -- ---- an attempt begins

  pub beginning : (service : Service) (a : StepSoFar) (lines : List Line) → ActAt c before lines a → partition_of c.partitions a.view.id ≡ Some service.partition → AfterAt c before (begins c service a)
  unfolding begins
  beginning service a lines at there = by_test (AfterAt c before) (nat_lt service.attempts (2 ^ 32 - 1)) (begins_next c service a) (prints (AttemptLimit a.view.id ∷ []) a) (λ e. next)
      (record { lines = AttemptLimit a.view.id ∷ lines; at = act_line c before lines a at (AttemptLimit a.view.id) tt at.fits })
    where
      number : ℕ
      number = service.attempts + 1

      l : Line
      l = Begin a.view.id (epoch_of a.view) (service.attempts + 1) (instances (own_tuple a.view service))

      asks : List Sent
      asks = flat_map (asks_checkpoint a.view (service.attempts + 1)) (others_of a.view.id service.partition)

      plain : AllByRecursion IsPlainSent asks
      plain = all_flat IsPlainSent (asks_checkpoint a.view (service.attempts + 1)) (λ node. plain_sends a.view.id node (AskCheckpoint (epoch_of a.view) (service.attempts + 1)) tt) (others_of a.view.id service.partition)

      next : AfterAt c before (begins_next c service a)
      next = quorum_chooses (record service { attempts = service.attempts + 1 }) (record { number = service.attempts + 1; ticks = 0; answers = (a.view.id, own_tuple a.view service) ∷ []; choice = None })
          (sends_all asks (prints (l ∷ []) a)) (l ∷ lines) (act_plain c before (l ∷ lines) (prints (l ∷ []) a) (act_line c before lines a at l tt tt) asks plain) there tt
