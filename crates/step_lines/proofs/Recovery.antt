-- The words of recovery go on, whatever they print.
use Rattle.frames.specs.declared.sent.Sent.{Sent}
use Rattle.protocol.specs.Trimming.{has_answered}
use Rattle.std.proofs.Common.{ℕ, ◌+◌, Bool, true, false, List, [], ◌∷◌, ◌++◌, Option, Some, None}
use Rattle.std.specs.Prelude.{◌==◌, nat_lt, nat_le, ◌&&◌, not, if◌then◌else◌, length, ◌^◌, ◌-◌}
use Rattle.std.specs.List.{flat_map}
use Rattle.mrp_types.specs.declared.id.NodeId.{NodeId}
use Rattle.mrp_types.specs.declared.id.RingId.{RingId}
use Rattle.mrp_config.specs.Config.{Config, has_node}
use Rattle.checkpoint.specs.Checkpoints.{Checkpoint, is_after}
use Rattle.plain_model.specs.Replicas.{Replica}
use Rattle.plain_model.specs.StateBytes.{state_of}
use Rattle.plain_model.specs.Tuples.{round_sizes, is_tuple_of, instances, first_tuple}
use Rattle.protocol.specs.Lines.{Line, Begin, Chose, Restore, Refuse, AttemptLimit}
use Rattle.protocol.specs.Node.{StepSoFar, Service, Stage, Recovering, Ready, Attempt, Choice, with_stage, prints, sends_all}
use Rattle.protocol.specs.Recovery.{epoch_of, own_tuple, others_of, lowers, restores, restores_read, installs_own, best_of, asks_part, gathers, chooses, chooses_best, chooses_if_quorum, asks_checkpoint, begins_next, begins, is_of, takes_answer, answered_by, is_of_choice, restores_or_begins, with_more, part_for, takes_part, gone_for, takes_gone, asks_missing, ends_attempt, recovery_ticks, tells_part}
use Rattle.protocol.specs.Merging.{merges, place_of}
use Rattle.protocol.specs.Step.{recovers_if_trimmed, after_trim, begins_if_waits_below, waits_below}
use Rattle.step_lines.specs.Effects.{Onward}
use Rattle.step_lines.proofs.Onward.{Onward-refl, Onward-trans, onward_prints, onward_sends, onward_stage, onward_lowers, all_onward}

module _ (c : Config) (lines : List Line) where
  if_onward : (a : StepSoFar) (b : Bool) (x y : StepSoFar) → Onward c lines a x → Onward c lines a y → Onward c lines a (if b then x else y)
  if_onward a true x y p q = p
  if_onward a false x y p q = q

  restores_onward : (service : Service) (tuple : List (RingId × ℕ)) (replica : Replica) (a : StepSoFar) → Onward c lines a (restores c service tuple replica a)
  unfolding restores
  restores_onward service tuple replica a =
      let told : StepSoFar = prints (Restore a.view.id (instances tuple) ∷ []) a in
      let low : StepSoFar = lowers tuple told in
      let staged : StepSoFar = with_stage service (Ready (record { tuple = tuple; replica = replica; delivered = 0 })) low in
      Onward-trans c lines a told (merges c staged) (onward_prints c lines (Restore a.view.id (instances tuple) ∷ []) a)
      (Onward-trans c lines told low (merges c staged) (onward_lowers c lines tuple told)
      (Onward-trans c lines low staged (merges c staged) (onward_stage c lines service (Ready (record { tuple = tuple; replica = replica; delivered = 0 })) low) (all_onward c lines staged)))

  read_onward : (service : Service) (tuple : List (RingId × ℕ)) (o : Option Replica) (a : StepSoFar) → Onward c lines a (restores_read c service tuple o a)
  read_onward service tuple None a = Onward-refl c lines a
  read_onward service tuple (Some replica) a = restores_onward service tuple replica a

  installs_onward : (service : Service) (o : Option Checkpoint) (a : StepSoFar) → Onward c lines a (installs_own c service o a)
  installs_onward service None a = restores_onward service (first_tuple service.partition.rings) _ a
  installs_onward service (Some newest) a = read_onward service newest.tuple (state_of service.partition newest.state) a

  gathers_onward : (service : Service) (attempt : Attempt) (choice : Choice) (a : StepSoFar) → Onward c lines a (gathers c service attempt choice a)
  gathers_onward service attempt choice a =
      let stage : Stage = Recovering (record attempt { choice = Some choice }) in
      let staged : StepSoFar = with_stage service stage a in
      if_onward a (choice.from.0 == a.view.id.0) (installs_own c service a.view.checkpoints.newest staged) (sends_all (asks_part a.view attempt choice) staged)
      (Onward-trans c lines a staged (installs_own c service a.view.checkpoints.newest staged) (onward_stage c lines service stage a) (installs_onward service a.view.checkpoints.newest staged))
      (Onward-trans c lines a staged (sends_all (asks_part a.view attempt choice) staged) (onward_stage c lines service stage a) (onward_sends c lines (asks_part a.view attempt choice) staged))

  chooses_onward : (service : Service) (attempt : Attempt) (best : NodeId × List (RingId × ℕ)) (a : StepSoFar) → Onward c lines a (chooses c service attempt best a)
  unfolding chooses
  chooses_onward service attempt best a =
      let l : Line = Chose a.view.id (epoch_of a.view) attempt.number (instances best.1) best.0 in
      Onward-trans c lines a (prints (l ∷ []) a) (chooses c service attempt best a) (onward_prints c lines (l ∷ []) a)
      (gathers_onward service attempt (record { tuple = best.1; from = best.0; bytes = [] }) (prints (l ∷ []) a))

  best_onward : (service : Service) (attempt : Attempt) (answers : List (NodeId × List (RingId × ℕ))) (a : StepSoFar) → Onward c lines a (chooses_best c service attempt answers a)
  best_onward service attempt [] a = onward_stage c lines service (Recovering attempt) a
  best_onward service attempt (answer ∷ answers) a = chooses_onward service attempt (best_of a.view.id answer answers) a

  quorum_onward : (service : Service) (attempt : Attempt) (a : StepSoFar) → Onward c lines a (chooses_if_quorum c service attempt a)
  quorum_onward service attempt a =
      if_onward a (nat_le service.partition.recovery_quorum (length attempt.answers)) (chooses_best c service attempt attempt.answers a) (with_stage service (Recovering attempt) a)
      (best_onward service attempt attempt.answers a) (onward_stage c lines service (Recovering attempt) a)

  next_onward : (service : Service) (a : StepSoFar) → Onward c lines a (begins_next c service a)
  next_onward service a =
      let number : ℕ = service.attempts + 1 in
      let own : List (RingId × ℕ) = own_tuple a.view service in
      let l : Line = Begin a.view.id (epoch_of a.view) number (instances own) in
      let asks : List Sent = flat_map (asks_checkpoint a.view number) (others_of a.view.id service.partition) in
      let told : StepSoFar = prints (l ∷ []) a in
      let asked : StepSoFar = sends_all asks told in
      Onward-trans c lines a told (begins_next c service a) (onward_prints c lines (l ∷ []) a)
      (Onward-trans c lines told asked (begins_next c service a) (onward_sends c lines asks told)
      (quorum_onward (record service { attempts = number }) (record { number = number; ticks = 0; answers = (a.view.id, own) ∷ []; choice = None }) asked))

  pub begins_onward : (service : Service) (a : StepSoFar) → Onward c lines a (begins c service a)
  unfolding begins
  begins_onward service a =
      if_onward a (nat_lt service.attempts (2 ^ 32 - 1)) (begins_next c service a) (prints (AttemptLimit a.view.id ∷ []) a) (next_onward service a) (onward_prints c lines (AttemptLimit a.view.id ∷ []) a)

  -- ---- frames

  pub answered_onward : (service : Service) (attempt : Attempt) (from : NodeId) (epoch number : ℕ) (tuple : List (RingId × ℕ)) (a : StepSoFar) → Onward c lines a (answered_by c service attempt from epoch number tuple a)
  unfolding answered_by
  answered_onward service attempt from epoch number tuple a =
      if_onward a (is_of a.view attempt epoch number && (has_node service.partition.replicas from.0
      && (not (has_answered from attempt.answers) && is_tuple_of (round_sizes c) service.partition.rings tuple))) (takes_answer c service attempt attempt.choice from tuple a) a (by_choice attempt.choice) (Onward-refl c lines a)
    where
      by_choice : (choice : Option Choice) → Onward c lines a (takes_answer c service attempt choice from tuple a)
      by_choice (Some choice) = Onward-refl c lines a
      by_choice None = quorum_onward service (record attempt { answers = attempt.answers ++ (from, tuple) ∷ [] }) a

  pub part_onward : (service : Service) (attempt : Attempt) (from : NodeId) (epoch number : ℕ) (tuple : List (RingId × ℕ)) (offset total : ℕ) (bytes : List ℕ) (a : StepSoFar)
      → Onward c lines a (takes_part c service attempt from epoch number tuple offset total bytes a)
  unfolding takes_part
  part_onward service attempt from epoch number tuple offset total bytes a = by_choice attempt.choice
    where
      by_state : (choice : Choice) (o : Option Replica) → Onward c lines a (restores_or_begins c service choice.tuple o a)
      by_state choice None = begins_onward service a
      by_state choice (Some replica) = restores_onward service choice.tuple replica a

      more : (choice : Choice) → Onward c lines a (with_more c service attempt choice total a)
      more choice =
          let stage : Stage = Recovering (record attempt { choice = Some choice }) in
          if_onward a (length choice.bytes == total) (restores_or_begins c service choice.tuple (state_of service.partition choice.bytes) a) (sends_all (asks_part a.view attempt choice) (with_stage service stage a))
          (by_state choice (state_of service.partition choice.bytes))
          (Onward-trans c lines a (with_stage service stage a) (sends_all (asks_part a.view attempt choice) (with_stage service stage a)) (onward_stage c lines service stage a) (onward_sends c lines (asks_part a.view attempt choice) (with_stage service stage a)))

      by_choice : (o : Option Choice) → Onward c lines a (part_for c service attempt o from epoch number tuple offset total bytes a)
      by_choice None = Onward-refl c lines a
      by_choice (Some choice) =
          if_onward a (is_of a.view attempt epoch number && (is_of_choice choice from tuple && (offset == length choice.bytes))) (with_more c service attempt (record choice { bytes = choice.bytes ++ bytes }) total a) a
          (more (record choice { bytes = choice.bytes ++ bytes })) (Onward-refl c lines a)

  pub gone_onward : (service : Service) (attempt : Attempt) (from : NodeId) (epoch number : ℕ) (asked newer : List (RingId × ℕ)) (a : StepSoFar) → Onward c lines a (takes_gone c service attempt from epoch number asked newer a)
  unfolding takes_gone
  gone_onward service attempt from epoch number asked newer a = by_choice attempt.choice
    where
      by_choice : (o : Option Choice) → Onward c lines a (gone_for c service attempt o from epoch number asked newer a)
      by_choice None = Onward-refl c lines a
      by_choice (Some choice) =
          if_onward a (is_of a.view attempt epoch number && (is_of_choice choice from asked && (is_tuple_of (round_sizes c) service.partition.rings newer && is_after choice.tuple newer))) (chooses c service attempt (choice.from, newer) a) a
          (chooses_onward service attempt (choice.from, newer) a) (Onward-refl c lines a)

  pub tells_part_onward : (service : Service) (from : NodeId) (epoch number : ℕ) (tuple : List (RingId × ℕ)) (offset : ℕ) (a : StepSoFar) → Onward c lines a (tells_part c service from epoch number tuple offset a)
  tells_part_onward service from epoch number tuple offset a = if_onward a (is_tuple_of (round_sizes c) service.partition.rings tuple) _ a (onward_sends c lines _ a) (Onward-refl c lines a)

  -- ---- a trim was told, and ticks

  pub recovers_if_trimmed_onward : (ring : RingId) (trim : ℕ) (a : StepSoFar) → Onward c lines a (recovers_if_trimmed c ring trim a)
  recovers_if_trimmed_onward ring trim a = by_service a.view.service
    where
      by_stage : (service : Service) (stage : Stage) → Onward c lines a (begins_if_waits_below c ring trim service stage a)
      by_stage service (Recovering attempt) = Onward-refl c lines a
      by_stage service (Ready standing) = if_onward a (waits_below ring trim (place_of c standing)) (begins c service a) a (begins_onward service a) (Onward-refl c lines a)

      by_service : (o : Option Service) → Onward c lines a (after_trim c ring trim o a)
      by_service None = Onward-refl c lines a
      by_service (Some service) = by_stage service service.stage

  pub ticks_onward : (again : Bool) (service : Service) (stage : Stage) (a : StepSoFar) → Onward c lines a (recovery_ticks c again service stage a)
  ticks_onward again service (Ready standing) a = Onward-refl c lines a
  ticks_onward again service (Recovering attempt) a =
      let now : Attempt = record attempt { ticks = attempt.ticks + 1 } in
      let refusal : Line = Refuse a.view.id (epoch_of a.view) attempt.number (length attempt.answers) service.partition.recovery_quorum in
      let staged : StepSoFar = with_stage service (Recovering now) a in
      let told : StepSoFar = prints (refusal ∷ []) staged in
      let frames : List Sent = if again then asks_missing service now attempt.choice a.view else [] in
      if_onward a (attempt.ticks + 1 == c.attempt) (ends_attempt c service now staged) (sends_all frames staged)
      (Onward-trans c lines a staged (ends_attempt c service now staged) (onward_stage c lines service (Recovering now) a)
      (if_onward staged (nat_lt (length attempt.answers) service.partition.recovery_quorum) (begins c service told) (begins c service staged)
      (Onward-trans c lines staged told (begins c service told) (onward_prints c lines (refusal ∷ []) staged) (begins_onward service told)) (begins_onward service staged)))
      (Onward-trans c lines a staged (sends_all frames staged) (onward_stage c lines service (Recovering now) a) (onward_sends c lines frames staged))
