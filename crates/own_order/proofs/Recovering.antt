-- Restores, choices, attempts, and the frames and ticks of recovery.
use Rattle.std.proofs.Common.{◌≡◌, ℕ, ◌+◌, ◌-◌, ◌^◌, Bool, List, [], ◌∷◌, ◌++◌, Option, Some, None, inl, inr, refl, sym, ◌∙◌, ap, subst}
use Rattle.std.specs.Prelude.{◌==◌, nat_le, nat_lt, ◌&&◌, not, if◌then◌else◌, length, flat_map}
use Rattle.mrp_types.specs.declared.id.NodeId.{NodeId}
use Rattle.mrp_types.specs.declared.id.RingId.{RingId}
use Rattle.mrp_types.specs.Moves.{first_tuple}
use Rattle.mrp_config.specs.Config.{Config, has_node}
use Rattle.mrp_config.specs.declared.tables.PartitionTable.{PartitionTable}
use Rattle.frames.specs.declared.sent.Sent.{Sent}
use Rattle.checkpoint.specs.Checkpoints.{Checkpoint, is_after}
use Rattle.plain_model.specs.Replicas.{Replica, empty_replica}
use Rattle.plain_model.specs.StateBytes.{state_of}
use Rattle.plain_model.specs.Tuples.{round_sizes, is_tuple_of, instances}
use Rattle.step_valid.proofs.Listed.{all_mapped}
use Rattle.protocol.specs.Lines.{Line, AttemptLimit, Begin, Chose, Refuse, Restore}
use Rattle.protocol.specs.Merging.{merges, place_of}
use Rattle.protocol.specs.Node.{Attempt, Choice, Ready, Recovering, Service, Stage, StepSoFar, prints, sends_all, with_stage}
use Rattle.protocol.specs.Recovery.{answered_by, asks_checkpoint, asks_missing, asks_part, begins, begins_next, best_of, chooses, chooses_best, chooses_if_quorum, ends_attempt, epoch_of, gathers, gone_for, installs_own, is_of, is_of_choice, lowers, others_of, own_tuple, part_for, recovery_ticks, restores, restores_or_begins, restores_read, takes_answer, takes_gone, takes_part, with_lowered, with_more}
use Rattle.protocol.specs.Step.{after_trim, begins_if_waits_below, recovers_if_trimmed, waits_below}
use Rattle.protocol.specs.Trimming.{has_answered}
use Rattle.quiet_rules.proofs.Words.{by_test}
use Rattle.own_order.specs.Order.{Begins, IsRead, Point, Restores, point_of, point_of_stage}
use Rattle.own_order.proofs.After.{After, Ground, PartLearned, Serves, after_lines, after_plain, prints_ground, stage_after, stage_ground, stays}
use Rattle.own_order.proofs.Merging.{merged}

module _ (c : Config) (id : NodeId) (p : PartitionTable) (before : List Line) where
  -- ---- restoring

  lowers_ground : (tuple : List (RingId × ℕ)) (a : StepSoFar) → Ground c id p before a → Ground c id p before (lowers tuple a)
  lowers_ground tuple a g = record {
    mine = g.mine;
    serves = g.serves;
    learned = all_mapped (with_lowered tuple) (PartLearned c id p (before ++ a.lines)) (PartLearned c id p (before ++ a.lines)) (λ q held. held) a.view.parts g.learned;
  }

  restored : (o : Option Point) (service : Service) (tuple : List (RingId × ℕ)) (replica : Replica) (a : StepSoFar) → service.partition ≡ p → IsRead p tuple replica → Ground c id p before a
      → After c id p before o a.lines (restores c service tuple replica a)
  unfolding restores
  restored o service tuple replica a same read g =
      after_lines c id p before o a.lines (Restore a.view.id (instances tuple) ∷ []) (Restores tuple replica ∷ []) (merges c ready)
      (ap (λ (x : NodeId). Restore x (instances tuple) ∷ []) g.mine) (read, tt) (merged c id p before ready ground)
    where
      told : StepSoFar
      told = prints (Restore a.view.id (instances tuple) ∷ []) a

      stage : Stage
      stage = Ready (record { tuple = tuple; replica = replica; delivered = 0 })

      ready : StepSoFar
      ready = with_stage service stage (lowers tuple told)

      ground : Ground c id p before ready
      ground = stage_ground c id p before service stage (lowers tuple told) same (lowers_ground tuple told (prints_ground c id p before (Restore a.view.id (instances tuple) ∷ []) a g))

  read_restored : (service : Service) (tuple : List (RingId × ℕ)) (bytes : List ℕ) (o : Option Replica) (a : StepSoFar) → state_of service.partition bytes ≡ o → service.partition ≡ p → point_of a.view.service ≡ None
      → Ground c id p before a → After c id p before None a.lines (restores_read c service tuple o a)
  read_restored service tuple bytes None a is same at g = subst (λ (q : Option Point). After c id p before q a.lines a) at (stays c id p before a g)
  read_restored service tuple bytes (Some replica) a is same at g =
      restored None service tuple replica a same (inr (bytes, ap (λ (q : PartitionTable). state_of q bytes) (sym same) ∙ is)) g

  installed : (service : Service) (o : Option Checkpoint) (a : StepSoFar) → service.partition ≡ p → point_of a.view.service ≡ None → Ground c id p before a
      → After c id p before None a.lines (installs_own c service o a)
  installed service None a same at g =
      restored None service (first_tuple service.partition.rings) (empty_replica service.partition) a same
      (inl (ap (λ (q : PartitionTable). first_tuple q.rings) same, ap (λ (q : PartitionTable). empty_replica q) same)) g
  installed service (Some newest) a same at g = read_restored service newest.tuple newest.state (state_of service.partition newest.state) a refl same at g

  -- ---- choosing

  waits : (service : Service) (attempt : Attempt) (a : StepSoFar) → service.partition ≡ p → Ground c id p before a → After c id p before None a.lines (with_stage service (Recovering attempt) a)
  waits service attempt a same g = stage_after c id p before None service (Recovering attempt) a refl same g

  -- frames are no lines
  sends_after : (o : Option Point) (start : List Line) (frames : List Sent) (a : StepSoFar) → After c id p before o start a → After c id p before o start (sends_all frames a)
  sends_after o start frames a after = record {
    new = after.new;
    printed = after.printed;
    deeds = after.deeds;
    told = after.told;
    point = after.point;
    own = after.own;
    ground = record { mine = after.ground.mine; serves = after.ground.serves; learned = after.ground.learned };
  }

  gathering : (service : Service) (attempt : Attempt) (choice : Choice) (a : StepSoFar) → service.partition ≡ p → Ground c id p before a → After c id p before None a.lines (gathers c service attempt choice a)
  gathering service attempt choice a same g =
      by_test (After c id p before None a.lines) (choice.from.0 == a.view.id.0) (installs_own c service a.view.checkpoints.newest staged) (sends_all (asks_part a.view attempt choice) staged)
      (λ e. installed service a.view.checkpoints.newest staged same refl (stage_ground c id p before service stage a same g))
      (sends_after None a.lines (asks_part a.view attempt choice) staged (waits service (record attempt { choice = Some choice }) a same g))
    where
      stage : Stage
      stage = Recovering (record attempt { choice = Some choice })

      staged : StepSoFar
      staged = with_stage service stage a

  choosing : (service : Service) (attempt : Attempt) (best : NodeId × List (RingId × ℕ)) (a : StepSoFar) → service.partition ≡ p → Ground c id p before a
      → After c id p before None a.lines (chooses c service attempt best a)
  unfolding chooses
  choosing service attempt best a same g =
      after_plain c id p before None a.lines (line ∷ []) (gathers c service attempt choice (prints (line ∷ []) a)) refl
      (gathering service attempt choice (prints (line ∷ []) a) same (prints_ground c id p before (line ∷ []) a g))
    where
      line : Line
      line = Chose a.view.id (epoch_of a.view) attempt.number (instances best.1) best.0

      choice : Choice
      choice = record { tuple = best.1; from = best.0; bytes = [] }

  quorum_chooses : (service : Service) (attempt : Attempt) (a : StepSoFar) → service.partition ≡ p → Ground c id p before a → After c id p before None a.lines (chooses_if_quorum c service attempt a)
  quorum_chooses service attempt a same g =
      by_test (After c id p before None a.lines) (nat_le service.partition.recovery_quorum (length attempt.answers)) (chooses_best c service attempt attempt.answers a) (with_stage service (Recovering attempt) a)
      (λ e. by_answers attempt.answers) (waits service attempt a same g)
    where
      by_answers : (answers : List (NodeId × List (RingId × ℕ))) → After c id p before None a.lines (chooses_best c service attempt answers a)
      by_answers [] = waits service attempt a same g
      by_answers (answer ∷ answers) = choosing service attempt (best_of a.view.id answer answers) a same g

  -- ---- an attempt begins

  pub beginning : (service : Service) (a : StepSoFar) → service.partition ≡ p → Ground c id p before a → After c id p before (point_of a.view.service) a.lines (begins c service a)
  unfolding begins
  beginning service a same g =
      by_test (After c id p before (point_of a.view.service) a.lines) (nat_lt service.attempts (2 ^ 32 - 1)) (begins_next c service a) (prints (AttemptLimit a.view.id ∷ []) a) (λ e. next)
      (after_plain c id p before (point_of a.view.service) a.lines (AttemptLimit a.view.id ∷ []) (prints (AttemptLimit a.view.id ∷ []) a) refl
      (stays c id p before (prints (AttemptLimit a.view.id ∷ []) a) (prints_ground c id p before (AttemptLimit a.view.id ∷ []) a g)))
    where
      printed : List ℕ
      printed = instances (own_tuple a.view service)

      line : Line
      line = Begin a.view.id (epoch_of a.view) (service.attempts + 1) (instances (own_tuple a.view service))

      asked : StepSoFar
      asked = sends_all (flat_map (asks_checkpoint a.view (service.attempts + 1)) (others_of a.view.id service.partition)) (prints (line ∷ []) a)

      ground : Ground c id p before (prints (line ∷ []) a)
      ground = prints_ground c id p before (line ∷ []) a g

      next : After c id p before (point_of a.view.service) a.lines (begins_next c service a)
      next = after_lines c id p before (point_of a.view.service) a.lines (line ∷ []) (Begins (epoch_of a.view) (service.attempts + 1) printed ∷ []) (begins_next c service a)
          (ap (λ (x : NodeId). Begin x (epoch_of a.view) (service.attempts + 1) printed ∷ []) g.mine) (tt, tt)
          (quorum_chooses (record service { attempts = service.attempts + 1 }) (record { number = service.attempts + 1; ticks = 0; answers = (a.view.id, own_tuple a.view service) ∷ []; choice = None }) asked same
          (record { mine = ground.mine; serves = ground.serves; learned = ground.learned }))

  -- ---- frames of an attempt

  module _ (service : Service) (a : StepSoFar) (same : service.partition ≡ p) (g : Ground c id p before a) where
    abbrev FromHere : StepSoFar → Type 0
    FromHere b = After c id p before (point_of a.view.service) a.lines b

    still : FromHere a
    still = stays c id p before a g

    module _ (attempt : Attempt) (at : point_of a.view.service ≡ None) where
      -- from a point that is none
      recovers : (b : StepSoFar) → After c id p before None a.lines b → FromHere b
      recovers b after = subst (λ (q : Option Point). After c id p before q a.lines b) (sym at) after

      pub answer_taken : (from : NodeId) (epoch number : ℕ) (tuple : List (RingId × ℕ)) → FromHere (answered_by c service attempt from epoch number tuple a)
      unfolding answered_by
      answer_taken from epoch number tuple =
          by_test FromHere (is_of a.view attempt epoch number && (has_node service.partition.replicas from.0 && (not (has_answered from attempt.answers) && is_tuple_of (round_sizes c) service.partition.rings tuple)))
          (takes_answer c service attempt attempt.choice from tuple a) a (λ e. by_choice attempt.choice) still
        where
          by_choice : (o : Option Choice) → FromHere (takes_answer c service attempt o from tuple a)
          by_choice (Some choice) = still
          by_choice None =
              recovers (chooses_if_quorum c service (record attempt { answers = attempt.answers ++ (from, tuple) ∷ [] }) a)
              (quorum_chooses service (record attempt { answers = attempt.answers ++ (from, tuple) ∷ [] }) a same g)

      pub gone_taken : (from : NodeId) (epoch number : ℕ) (asked newer : List (RingId × ℕ)) → FromHere (takes_gone c service attempt from epoch number asked newer a)
      unfolding takes_gone
      gone_taken from epoch number asked newer = by_choice attempt.choice
        where
          by_choice : (o : Option Choice) → FromHere (gone_for c service attempt o from epoch number asked newer a)
          by_choice None = still
          by_choice (Some choice) = by_test FromHere
              (is_of a.view attempt epoch number && (is_of_choice choice from asked && (is_tuple_of (round_sizes c) service.partition.rings newer && is_after choice.tuple newer))) (chooses c service attempt (choice.from, newer) a) a
              (λ e. recovers (chooses c service attempt (choice.from, newer) a) (choosing service attempt (choice.from, newer) a same g)) still

      more_taken : (choice : Choice) (total : ℕ) → FromHere (with_more c service attempt choice total a)
      more_taken choice total =
          by_test FromHere (length choice.bytes == total) (restores_or_begins c service choice.tuple (state_of service.partition choice.bytes) a) (sends_all (asks_part a.view attempt choice) (with_stage service (Recovering (record attempt { choice = Some choice })) a))
          (λ e. by_state (state_of service.partition choice.bytes) refl)
          (recovers (sends_all (asks_part a.view attempt choice) (with_stage service (Recovering (record attempt { choice = Some choice })) a))
          (sends_after None a.lines (asks_part a.view attempt choice) (with_stage service (Recovering (record attempt { choice = Some choice })) a) (waits service (record attempt { choice = Some choice }) a same g)))
        where
          by_state : (o : Option Replica) → state_of service.partition choice.bytes ≡ o → FromHere (restores_or_begins c service choice.tuple o a)
          by_state None e = beginning service a same g
          by_state (Some replica) e =
              restored (point_of a.view.service) service choice.tuple replica a same (inr (choice.bytes, ap (λ (q : PartitionTable). state_of q choice.bytes) (sym same) ∙ e)) g

      pub part_taken : (from : NodeId) (epoch number : ℕ) (tuple : List (RingId × ℕ)) (offset total : ℕ) (bytes : List ℕ) → FromHere (takes_part c service attempt from epoch number tuple offset total bytes a)
      unfolding takes_part
      part_taken from epoch number tuple offset total bytes = by_choice attempt.choice
        where
          by_choice : (o : Option Choice) → FromHere (part_for c service attempt o from epoch number tuple offset total bytes a)
          by_choice None = still
          by_choice (Some choice) =
              by_test FromHere (is_of a.view attempt epoch number && (is_of_choice choice from tuple && (offset == length choice.bytes)))
              (with_more c service attempt (record choice { bytes = choice.bytes ++ bytes }) total a) a (λ e. more_taken (record choice { bytes = choice.bytes ++ bytes }) total) still

    -- ---- ticks

    pub ticked : (again : Bool) (stage : Stage) → point_of a.view.service ≡ point_of_stage stage → FromHere (recovery_ticks c again service stage a)
    ticked again (Ready standing) at = still
    ticked again (Recovering attempt) at =
        by_test FromHere (attempt.ticks + 1 == c.attempt) (ends_attempt c service now staged) (sends_all (if again then asks_missing service now attempt.choice a.view else []) staged)
        (λ e. recovers now at (ends_attempt c service now staged) (by_test (After c id p before None a.lines) (nat_lt (length attempt.answers) service.partition.recovery_quorum)
        (begins c service (prints (refusal ∷ []) staged)) (begins c service staged)
        (λ f. after_plain c id p before None a.lines (refusal ∷ []) (begins c service (prints (refusal ∷ []) staged)) refl (beginning service (prints (refusal ∷ []) staged) same (prints_ground c id p before (refusal ∷ []) staged ground)))
        (beginning service staged same ground)))
        (recovers now at (sends_all (if again then asks_missing service now attempt.choice a.view else []) staged)
        (sends_after None a.lines (if again then asks_missing service now attempt.choice a.view else []) staged (waits service now a same g)))
      where
        now : Attempt
        now = record attempt { ticks = attempt.ticks + 1 }

        staged : StepSoFar
        staged = with_stage service (Recovering now) a

        ground : Ground c id p before staged
        ground = stage_ground c id p before service (Recovering now) a same g

        refusal : Line
        refusal = Refuse a.view.id (epoch_of a.view) attempt.number (length attempt.answers) service.partition.recovery_quorum

  -- ---- a trim was told

  pub trim_heard : (ring : RingId) (trim : ℕ) (a : StepSoFar) → Ground c id p before a → After c id p before (point_of a.view.service) a.lines (recovers_if_trimmed c ring trim a)
  trim_heard ring trim a g = by_service a.view.service g.serves
    where
      by_stage : (service : Service) (stage : Stage) → service.partition ≡ p → After c id p before (point_of a.view.service) a.lines (begins_if_waits_below c ring trim service stage a)
      by_stage service (Recovering attempt) same = stays c id p before a g
      by_stage service (Ready standing) same = by_test (After c id p before (point_of a.view.service) a.lines) (waits_below ring trim (place_of c standing)) (begins c service a) a (λ e. beginning service a same g) (stays c id p before a g)

      by_service : (o : Option Service) → Serves c id p o → After c id p before (point_of a.view.service) a.lines (after_trim c ring trim o a)
      by_service None same = stays c id p before a g
      by_service (Some service) same = by_stage service service.stage same
