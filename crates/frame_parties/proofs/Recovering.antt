-- A replica asks, answers and replies by frames to who is there.
use Rattle.std.proofs.Common.{ℕ, zero, suc, ◌+◌, ◌-◌, ◌^◌, Bool, true, false, List, [], ◌∷◌, ◌++◌, map, Option, Some, None, refl}
use Rattle.std.specs.Prelude.{◌==◌, ◌&&◌, nat_lt, nat_le, not, if◌then◌else◌, length, filter}
use Rattle.std.specs.List.{AllByRecursion, flat_map}
use Rattle.mrp_types.specs.declared.id.NodeId.{NodeId}
use Rattle.mrp_types.specs.declared.id.RingId.{RingId}
use Rattle.mrp_types.specs.declared.value.Entry.{Entry}
use Rattle.mrp_types.specs.declared.value.Value.{Value}
use Rattle.mrp_types.specs.declared.value.Value.TheVariants.{Skip, Batch}
use Rattle.mrp_config.specs.Config.{Config, has_node}
use Rattle.mrp_config.specs.declared.tables.PartitionTable.{PartitionTable}
use Rattle.vote_state.proofs.StateLemmas.{filter_all}
use Rattle.frames.specs.declared.body.Body.{Body}
use Rattle.frames.specs.declared.body.Body.TheVariants.{AskCheckpoint, HaveCheckpoint, AskPart, Safe}
use Rattle.frames.specs.declared.sent.Sent.{Sent}
use Rattle.checkpoint.specs.Checkpoints.{Checkpoint, part_of, is_after}
use Rattle.plain_model.specs.Replicas.{AppliedAll, Replica, applies, empty_replica, entries_of_batch}
use Rattle.plain_model.specs.StateBytes.{state_of}
use Rattle.plain_model.specs.Tuples.{round_sizes, first_tuple, is_tuple_of, instances}
use Rattle.protocol.specs.Lines.{Line, AttemptLimit, Begin, Chose, Deliver, Refuse, Restore}
use Rattle.protocol.specs.Rings.{sends_to}
use Rattle.protocol.specs.Trimming.{has_answered}
use Rattle.protocol.specs.Node.{StepSoFar, View, RingPart, Service, Stage, Recovering, Ready, Standing, Attempt, Choice, with_stage, prints, sends_all}
use Rattle.protocol.specs.Merging.{reply_frame, replying, value_at_place, place_of, skipped, passed_batch, delivers_applied, takes_place, merges_place, merges_stage, merges_service, merges_up_to, merges}
use Rattle.protocol.specs.Recovery.{epoch_of, own_tuple, is_other, others_of, with_lowered, lowers, restores, restores_read, installs_own, is_better, best_of, asks_part, gathers, chooses, chooses_best, chooses_if_quorum, asks_checkpoint, begins_next, begins, is_of, takes_answer, answered_by, is_of_choice, restores_or_begins, with_more, part_for, takes_part, gone_for, takes_gone, tells_checkpoint, answer_part, tells_part, asks_missing, ends_attempt, ticks_attempt, recovery_ticks}
use Rattle.protocol.specs.Step.{waits_below, begins_if_waits_below, after_trim, recovers_if_trimmed, tells_safe}
use Rattle.protocol.specs.Tick.{recovery_ticks_at}
use Rattle.line_rules.specs.Rules.{HasNode}
use Rattle.quorums.proofs.Each.{appended}
use Rattle.frame_parties.proofs.Invariant.{AreThere, IsAddressed, AreAddressed, MemberNamed, AnswerNamed, ChoiceNamed, StageNamed, ReplicaNamed, ActNamed}
use Rattle.frame_parties.proofs.Lists.{flat_all}
use Rattle.frame_parties.proofs.Words.{to_addressed, by_id_there}

module _ (c : Config) where
  -- ---- what prints, sends and changes a stage

  pub named_if : (b : Bool) (x y : StepSoFar) → ActNamed c x → ActNamed c y → ActNamed c (if b then x else y)
  named_if true x y p q = p
  named_if false x y p q = q

  pub named_prints : (lines : List Line) (a : StepSoFar) → ActNamed c a → ActNamed c (prints lines a)
  named_prints lines a w = record { own = w.own; rings = w.rings; replica = w.replica; frames = w.frames; replies = w.replies }

  pub named_sends : (frames : List Sent) (a : StepSoFar) → AreAddressed c frames → ActNamed c a → ActNamed c (sends_all frames a)
  named_sends frames a new w = record { own = w.own; rings = w.rings; replica = w.replica; frames = appended (IsAddressed c) a.frames frames w.frames new; replies = w.replies }

  named_stage : (service : Service) (stage : Stage) (a : StepSoFar) → AreThere c service.partition.replicas → StageNamed c stage → ActNamed c a → ActNamed c (with_stage service stage a)
  named_stage service stage a all is w = record { own = w.own; rings = w.rings; replica = record { replicas = all; stage = is }; frames = w.frames; replies = w.replies }

  named_lowers : (tuple : List (RingId × ℕ)) (a : StepSoFar) → ActNamed c a → ActNamed c (lowers tuple a)
  named_lowers tuple a w = record { own = w.own; rings = each a.view.parts w.rings; replica = w.replica; frames = w.frames; replies = w.replies }
    where
      each : (parts : List RingPart) → AllByRecursion (MemberNamed c) parts → AllByRecursion (MemberNamed c) (map (with_lowered tuple) parts)
      each [] all = tt
      each (p ∷ parts) all = (all.0, each parts all.1)

  -- ---- merging

  replies_addressed : (node : NodeId) (service : Service) (replied : List (ℕ × Entry × List ℕ)) → HasNode c node → AreAddressed c (map (reply_frame node service) replied)
  replies_addressed node service [] here = tt
  replies_addressed node service (r ∷ rs) here = ((here, refl), replies_addressed node service rs here)

  named_takes : (service : Service) (standing : Standing) (place : RingId × ℕ) (value : Value) (a : StepSoFar) → AreThere c service.partition.replicas → ActNamed c a
      → ActNamed c (takes_place c service standing place value a)
  named_takes service standing place Skip a all w = named_stage service (Ready (skipped c standing)) a all tt w
  named_takes service standing place (Batch batch) a all w = delivered (applies service.partition standing.replica (entries_of_batch batch))
    where
      delivered : (applied : AppliedAll) → ActNamed c (delivers_applied c service standing place applied a)
      delivered applied =
          let printed : StepSoFar = prints (Deliver a.view.id place.0 place.1 ∷ []) a in
          named_stage service (Ready (record (passed_batch c standing) { replica = applied.replica })) (replying service place applied.replies printed) all tt (record {
            own = w.own;
            rings = w.rings;
            replica = w.replica;
            frames = w.frames;
            replies = appended (IsAddressed c) a.replies (map (reply_frame a.view.id service) applied.replies) w.replies (replies_addressed a.view.id service applied.replies w.own);
          })

  merges_up : (most : ℕ) (a : StepSoFar) → ActNamed c a → ActNamed c (merges_up_to most c a)
  merges_up zero a w = w
  merges_up (suc most) a w = by_service a.view.service w.replica (λ b v. merges_up most b v)
    where
      by_value : (service : Service) (standing : Standing) (place : RingId × ℕ) (v : Option Value) → AreThere c service.partition.replicas → ((b : StepSoFar) → ActNamed c b → ActNamed c (merges_up_to most c b))
          → ActNamed c (merges_place (merges_up_to most c) c service standing place v a)
      by_value service standing place None all rest = w
      by_value service standing place (Some value) all rest = rest (takes_place c service standing place value a) (named_takes service standing place value a all w)

      by_stage : (service : Service) (stage : Stage) → AreThere c service.partition.replicas → ((b : StepSoFar) → ActNamed c b → ActNamed c (merges_up_to most c b))
          → ActNamed c (merges_stage (merges_up_to most c) c service stage a)
      by_stage service (Recovering attempt) all rest = w
      by_stage service (Ready standing) all rest = by_value service standing (place_of c standing) (value_at_place a.view (place_of c standing)) all rest

      by_service : (o : Option Service) → ReplicaNamed c o → ((b : StepSoFar) → ActNamed c b → ActNamed c (merges_up_to most c b)) → ActNamed c (merges_service (merges_up_to most c) c o a)
      by_service None r rest = w
      by_service (Some service) r rest = by_stage service service.stage r.replicas rest

  pub named_merges : (a : StepSoFar) → ActNamed c a → ActNamed c (merges c a)
  unfolding merges
  named_merges a w = merges_up (2 ^ 44 + 1) a w

  -- ---- restoring

  named_restores : (service : Service) (tuple : List (RingId × ℕ)) (replica : Replica) (a : StepSoFar) → AreThere c service.partition.replicas → ActNamed c a → ActNamed c (restores c service tuple replica a)
  unfolding restores
  named_restores service tuple replica a all w =
      let printed : StepSoFar = prints (Restore a.view.id (instances tuple) ∷ []) a in
      let stage : Stage = Ready (record { tuple = tuple; replica = replica; delivered = 0 }) in
      named_merges (with_stage service stage (lowers tuple printed))
      (named_stage service stage (lowers tuple printed) all tt (named_lowers tuple printed (named_prints (Restore a.view.id (instances tuple) ∷ []) a w)))

  named_read : (service : Service) (tuple : List (RingId × ℕ)) (o : Option Replica) (a : StepSoFar) → AreThere c service.partition.replicas → ActNamed c a → ActNamed c (restores_read c service tuple o a)
  named_read service tuple None a all w = w
  named_read service tuple (Some replica) a all w = named_restores service tuple replica a all w

  named_installs : (service : Service) (o : Option Checkpoint) (a : StepSoFar) → AreThere c service.partition.replicas → ActNamed c a → ActNamed c (installs_own c service o a)
  named_installs service None a all w = named_restores service (first_tuple service.partition.rings) (empty_replica service.partition) a all w
  named_installs service (Some newest) a all w = named_read service newest.tuple (state_of service.partition newest.state) a all w

  -- ---- choosing

  best_named : (own : NodeId) (best : NodeId × List (RingId × ℕ)) (answers : List (NodeId × List (RingId × ℕ))) → AnswerNamed c best → AllByRecursion (AnswerNamed c) answers → AnswerNamed c (best_of own best answers)
  best_named own best [] is all = is
  best_named own best (answer ∷ answers) is all = best_named own (if is_better own best answer then answer else best) answers (go (is_better own best answer)) all.1
    where
      go : (b : Bool) → AnswerNamed c (if b then answer else best)
      go true = all.0
      go false = is

  named_gathers : (service : Service) (attempt : Attempt) (choice : Choice) (a : StepSoFar) → AreThere c service.partition.replicas → AllByRecursion (AnswerNamed c) attempt.answers → HasNode c choice.from → ActNamed c a
      → ActNamed c (gathers c service attempt choice a)
  named_gathers service attempt choice a all answered from w =
      let stage : Stage = Recovering (record attempt { choice = Some choice }) in
      let staged : StepSoFar = with_stage service stage a in
      let waits : ActNamed c staged = named_stage service stage a all (answered, from) w in
      named_if (choice.from.0 == a.view.id.0) (installs_own c service a.view.checkpoints.newest staged) (sends_all (asks_part a.view attempt choice) staged)
      (named_installs service a.view.checkpoints.newest staged all waits)
      (named_sends (asks_part a.view attempt choice) staged (to_addressed c a.view.id choice.from (AskPart (epoch_of a.view) attempt.number choice.tuple (length choice.bytes)) w.own from) waits)

  named_chooses : (service : Service) (attempt : Attempt) (best : NodeId × List (RingId × ℕ)) (a : StepSoFar) → AreThere c service.partition.replicas → AllByRecursion (AnswerNamed c) attempt.answers → AnswerNamed c best → ActNamed c a
      → ActNamed c (chooses c service attempt best a)
  unfolding chooses
  named_chooses service attempt best a all answered is w =
      let line : List Line = Chose a.view.id (epoch_of a.view) attempt.number (instances best.1) best.0 ∷ [] in
      named_gathers service attempt (record { tuple = best.1; from = best.0; bytes = [] }) (prints line a) all answered is (named_prints line a w)

  named_quorum : (service : Service) (attempt : Attempt) (a : StepSoFar) → AreThere c service.partition.replicas → StageNamed c (Recovering attempt) → ActNamed c a → ActNamed c (chooses_if_quorum c service attempt a)
  named_quorum service attempt a all is w =
      named_if (nat_le service.partition.recovery_quorum (length attempt.answers)) (chooses_best c service attempt attempt.answers a) (with_stage service (Recovering attempt) a) (by_answers attempt.answers is.0)
      (named_stage service (Recovering attempt) a all is w)
    where
      by_answers : (answers : List (NodeId × List (RingId × ℕ))) → AllByRecursion (AnswerNamed c) answers → ActNamed c (chooses_best c service attempt answers a)
      by_answers [] some = named_stage service (Recovering attempt) a all is w
      by_answers (answer ∷ answers) some = named_chooses service attempt (best_of a.view.id answer answers) a all is.0 (best_named a.view.id answer answers some.0 some.1) w

  -- ---- attempts

  others_named : (own : NodeId) (partition : PartitionTable) → AreThere c partition.replicas → AreThere c (others_of own partition)
  others_named own partition all = by_id_there c (filter (is_other own) partition.replicas) (filter_all (HasNode c) (is_other own) partition.replicas all)

  asks_named : (view : View) (number : ℕ) (nodes : List NodeId) → HasNode c view.id → AreThere c nodes → AreAddressed c (flat_map (asks_checkpoint view number) nodes)
  asks_named view number nodes here all = flat_all (HasNode c) (IsAddressed c) (asks_checkpoint view number) (λ node there. to_addressed c view.id node (AskCheckpoint (epoch_of view) number) here there) nodes all

  pub named_begins : (service : Service) (a : StepSoFar) → AreThere c service.partition.replicas → ActNamed c a → ActNamed c (begins c service a)
  unfolding begins
  named_begins service a all w = named_if (nat_lt service.attempts (2 ^ 32 - 1)) (begins_next c service a) (prints (AttemptLimit a.view.id ∷ []) a) next (named_prints (AttemptLimit a.view.id ∷ []) a w)
    where
      line : List Line
      line = Begin a.view.id (epoch_of a.view) (service.attempts + 1) (instances (own_tuple a.view service)) ∷ []

      asks : List Sent
      asks = flat_map (asks_checkpoint a.view (service.attempts + 1)) (others_of a.view.id service.partition)

      next : ActNamed c (begins_next c service a)
      next = named_quorum (record service { attempts = service.attempts + 1 }) (record { number = service.attempts + 1; ticks = 0; answers = (a.view.id, own_tuple a.view service) ∷ []; choice = None })
          (sends_all asks (prints line a)) all ((w.own, tt), tt)
          (named_sends asks (prints line a) (asks_named a.view (service.attempts + 1) (others_of a.view.id service.partition) w.own (others_named a.view.id service.partition all)) (named_prints line a w))

  -- ---- answers of others

  pub named_answered : (service : Service) (attempt : Attempt) (from : NodeId) (epoch number : ℕ) (tuple : List (RingId × ℕ)) (a : StepSoFar) → AreThere c service.partition.replicas → StageNamed c (Recovering attempt)
      → HasNode c from → ActNamed c a → ActNamed c (answered_by c service attempt from epoch number tuple a)
  unfolding answered_by
  named_answered service attempt from epoch number tuple a all is there w =
      named_if (is_of a.view attempt epoch number && (has_node service.partition.replicas from.0 && (not (has_answered from attempt.answers) && is_tuple_of (round_sizes c) service.partition.rings tuple)))
      (takes_answer c service attempt attempt.choice from tuple a) a (by_choice attempt.choice is.1) w
    where
      by_choice : (o : Option Choice) → ChoiceNamed c o → ActNamed c (takes_answer c service attempt o from tuple a)
      by_choice (Some choice) k = w
      by_choice None k =
          named_quorum service (record attempt { answers = attempt.answers ++ (from, tuple) ∷ [] }) a all (appended (AnswerNamed c) attempt.answers ((from, tuple) ∷ []) is.0 (there, tt), is.1) w

  -- ---- parts

  named_goes_on : (service : Service) (tuple : List (RingId × ℕ)) (o : Option Replica) (a : StepSoFar) → AreThere c service.partition.replicas → ActNamed c a → ActNamed c (restores_or_begins c service tuple o a)
  named_goes_on service tuple None a all w = named_begins service a all w
  named_goes_on service tuple (Some replica) a all w = named_restores service tuple replica a all w

  named_more : (service : Service) (attempt : Attempt) (choice : Choice) (total : ℕ) (a : StepSoFar) → AreThere c service.partition.replicas → AllByRecursion (AnswerNamed c) attempt.answers → HasNode c choice.from → ActNamed c a
      → ActNamed c (with_more c service attempt choice total a)
  named_more service attempt choice total a all answered from w =
      let stage : Stage = Recovering (record attempt { choice = Some choice }) in
      let staged : StepSoFar = with_stage service stage a in
      named_if (length choice.bytes == total) (restores_or_begins c service choice.tuple (state_of service.partition choice.bytes) a) (sends_all (asks_part a.view attempt choice) staged)
      (named_goes_on service choice.tuple (state_of service.partition choice.bytes) a all w)
      (named_sends (asks_part a.view attempt choice) staged (to_addressed c a.view.id choice.from (AskPart (epoch_of a.view) attempt.number choice.tuple (length choice.bytes)) w.own from) (named_stage service stage a all (answered, from) w))

  pub named_part : (service : Service) (attempt : Attempt) (from : NodeId) (epoch number : ℕ) (tuple : List (RingId × ℕ)) (offset total : ℕ) (bytes : List ℕ) (a : StepSoFar) → AreThere c service.partition.replicas
      → StageNamed c (Recovering attempt) → ActNamed c a → ActNamed c (takes_part c service attempt from epoch number tuple offset total bytes a)
  unfolding takes_part
  named_part service attempt from epoch number tuple offset total bytes a all is w = by_choice attempt.choice is.1
    where
      by_choice : (o : Option Choice) → ChoiceNamed c o → ActNamed c (part_for c service attempt o from epoch number tuple offset total bytes a)
      by_choice None k = w
      by_choice (Some choice) k =
          named_if (is_of a.view attempt epoch number && (is_of_choice choice from tuple && (offset == length choice.bytes))) (with_more c service attempt (record choice { bytes = choice.bytes ++ bytes }) total a) a
          (named_more service attempt (record choice { bytes = choice.bytes ++ bytes }) total a all is.0 k w) w

  pub named_gone : (service : Service) (attempt : Attempt) (from : NodeId) (epoch number : ℕ) (asked newer : List (RingId × ℕ)) (a : StepSoFar) → AreThere c service.partition.replicas
      → StageNamed c (Recovering attempt) → ActNamed c a → ActNamed c (takes_gone c service attempt from epoch number asked newer a)
  unfolding takes_gone
  named_gone service attempt from epoch number asked newer a all is w = by_choice attempt.choice is.1
    where
      by_choice : (o : Option Choice) → ChoiceNamed c o → ActNamed c (gone_for c service attempt o from epoch number asked newer a)
      by_choice None k = w
      by_choice (Some choice) k =
          named_if (is_of a.view attempt epoch number && (is_of_choice choice from asked && (is_tuple_of (round_sizes c) service.partition.rings newer && is_after choice.tuple newer)))
          (chooses c service attempt (choice.from, newer) a) a (named_chooses service attempt (choice.from, newer) a all is.0 k w) w

  -- ---- what is asked of this node

  pub named_checkpoint : (service : Service) (from : NodeId) (epoch number : ℕ) (a : StepSoFar) → HasNode c from → ActNamed c a → ActNamed c (tells_checkpoint service from epoch number a)
  named_checkpoint service from epoch number a there w =
      named_sends (sends_to a.view.id from (HaveCheckpoint epoch number (own_tuple a.view service))) a (to_addressed c a.view.id from (HaveCheckpoint epoch number (own_tuple a.view service)) w.own there) w

  pub named_tells_part : (service : Service) (from : NodeId) (epoch number : ℕ) (tuple : List (RingId × ℕ)) (offset : ℕ) (a : StepSoFar) → HasNode c from → ActNamed c a
      → ActNamed c (tells_part c service from epoch number tuple offset a)
  named_tells_part service from epoch number tuple offset a there w =
      let bodies : List Body = answer_part epoch number tuple offset (part_of a.view.checkpoints tuple offset) in
      named_if (is_tuple_of (round_sizes c) service.partition.rings tuple) (sends_all (flat_map (sends_to a.view.id from) bodies) a) a
      (named_sends (flat_map (sends_to a.view.id from) bodies) a (each bodies) w) w
    where
      each : (bodies : List Body) → AreAddressed c (flat_map (sends_to a.view.id from) bodies)
      each [] = tt
      each (b ∷ bodies) = appended (IsAddressed c) (sends_to a.view.id from b) (flat_map (sends_to a.view.id from) bodies) (to_addressed c a.view.id from b w.own there) (each bodies)

  pub named_safe : (from : NodeId) (ring : RingId) (round : ℕ) (o : Option ℕ) (a : StepSoFar) → HasNode c from → ActNamed c a → ActNamed c (tells_safe from ring round o a)
  named_safe from ring round None a there w = w
  named_safe from ring round (Some inst) a there w = named_sends (sends_to a.view.id from (Safe ring round inst)) a (to_addressed c a.view.id from (Safe ring round inst) w.own there) w

  -- ---- a trim was told

  pub named_trimmed : (ring : RingId) (trim : ℕ) (a : StepSoFar) → ActNamed c a → ActNamed c (recovers_if_trimmed c ring trim a)
  named_trimmed ring trim a w = by_service a.view.service w.replica
    where
      by_stage : (service : Service) (stage : Stage) → AreThere c service.partition.replicas → ActNamed c (begins_if_waits_below c ring trim service stage a)
      by_stage service (Recovering attempt) all = w
      by_stage service (Ready standing) all = named_if (waits_below ring trim (place_of c standing)) (begins c service a) a (named_begins service a all w) w

      by_service : (o : Option Service) → ReplicaNamed c o → ActNamed c (after_trim c ring trim o a)
      by_service None r = w
      by_service (Some service) r = by_stage service service.stage r.replicas

  -- ---- ticks of an attempt

  missing_named : (service : Service) (attempt : Attempt) (o : Option Choice) (view : View) → HasNode c view.id → AreThere c service.partition.replicas → ChoiceNamed c o → AreAddressed c (asks_missing service attempt o view)
  missing_named service attempt None view here all k =
      asks_named view attempt.number (filter (λ node. not (has_answered node attempt.answers)) (others_of view.id service.partition)) here
      (filter_all (HasNode c) (λ node. not (has_answered node attempt.answers)) (others_of view.id service.partition) (others_named view.id service.partition all))
  missing_named service attempt (Some choice) view here all k = to_addressed c view.id choice.from (AskPart (epoch_of view) attempt.number choice.tuple (length choice.bytes)) here k

  named_ticks : (again : Bool) (service : Service) (attempt : Attempt) (a : StepSoFar) → AreThere c service.partition.replicas → StageNamed c (Recovering attempt) → ActNamed c a → ActNamed c (ticks_attempt c again service attempt a)
  named_ticks again service attempt a all is w =
      named_if (attempt.ticks == c.attempt) (ends_attempt c service attempt staged) (sends_all (if again then asks_missing service attempt attempt.choice a.view else []) staged)
      (named_if (nat_lt (length attempt.answers) service.partition.recovery_quorum) (begins c service (prints refusal staged)) (begins c service staged)
      (named_begins service (prints refusal staged) all (named_prints refusal staged counted)) (named_begins service staged all counted))
      (named_sends (if again then asks_missing service attempt attempt.choice a.view else []) staged (asked again) counted)
    where
      staged : StepSoFar
      staged = with_stage service (Recovering attempt) a

      counted : ActNamed c staged
      counted = named_stage service (Recovering attempt) a all is w

      refusal : List Line
      refusal = Refuse a.view.id (epoch_of a.view) attempt.number (length attempt.answers) service.partition.recovery_quorum ∷ []

      asked : (b : Bool) → AreAddressed c (if b then asks_missing service attempt attempt.choice a.view else [])
      asked true = missing_named service attempt attempt.choice a.view w.own all is.1
      asked false = tt

  pub named_recovery : (again : Bool) (a : StepSoFar) → ActNamed c a → ActNamed c (recovery_ticks_at c again a.view.service a)
  named_recovery again a w = by_service a.view.service w.replica
    where
      by_stage : (service : Service) (stage : Stage) → AreThere c service.partition.replicas → StageNamed c stage → ActNamed c (recovery_ticks c again service stage a)
      by_stage service (Ready standing) all is = w
      by_stage service (Recovering attempt) all is = named_ticks again service (record attempt { ticks = attempt.ticks + 1 }) a all is w

      by_service : (o : Option Service) → ReplicaNamed c o → ActNamed c (recovery_ticks_at c again o a)
      by_service None r = w
      by_service (Some service) r = by_stage service service.stage r.replicas r.stage
