-- What a step prints besides the rules of its rings, and where it learns, are lines of a node.
use Rattle.std.proofs.Common.{ℕ, zero, suc, ◌+◌, ◌-◌, ◌^◌, ◌==◌, nat_lt, ◌&&◌, length, Bool, true, false, List, [], ◌∷◌, ◌++◌, map, Option, Some, None}
use Rattle.std.specs.Prelude.{if◌then◌else◌}
use Rattle.std.specs.List.{flat_map}
use Rattle.mrp_types.specs.declared.id.NodeId.{NodeId}
use Rattle.mrp_types.specs.declared.id.RingId.{RingId}
use Rattle.mrp_types.specs.declared.value.Value.{Value}
use Rattle.mrp_types.specs.declared.value.Value.TheVariants.{Skip, Batch}
use Rattle.mrp_types.specs.declared.value.Entry.{Entry}
use Rattle.mrp_types.specs.declared.voted.Decided.{Decided}
use Rattle.mrp_config.specs.Config.{Config}
use Rattle.checkpoint.specs.Checkpoints.{Checkpoint}
use Rattle.plain_model.specs.StateBytes.{state_of}
use Rattle.plain_model.specs.Tuples.{instances}
use Rattle.plain_model.specs.Replicas.{Replica, AppliedAll, applies, entries_of_batch}
use Rattle.quorums.proofs.Each.{appended}
use Rattle.protocol.specs.Lines.{Line, Deliver, Learn, Chose, Begin, AttemptLimit, Refuse}
use Rattle.protocol.specs.Node.{StepSoFar, RingPart, Service, Stage, Recovering, Ready, Standing, Attempt, Choice, with_stage, sends_all, prints}
use Rattle.protocol.specs.Parts.{Ring, Effects}
use Rattle.protocol.specs.Merging.{reply_line, delivers_applied, value_at_place, place_of, takes_place, merges_place, merges_stage, merges_service, merges_up_to, merges}
use Rattle.protocol.specs.Recovery.{epoch_of, own_tuple, others_of, asks_checkpoint, is_of, is_of_choice, asks_missing, restores, restores_read, installs_own, asks_part, gathers, chooses, chooses_best, chooses_if_quorum, begins_next, begins, takes_answer, answered_by, restores_or_begins, with_more, part_for, takes_part, gone_for, takes_gone, tells_part, ends_attempt, recovery_ticks}
use Rattle.protocol.specs.Step.{begins_if_waits_below, after_trim, recovers_if_trimmed}
use Rattle.protocol.specs.Proposing.{proposes}
use Rattle.protocol.specs.Learning.{Queued, queued, with_effects, proposes_then, by_news, learns_one, then_learns, learns_up_to, applies_effects}
use Rattle.node_lines.specs.Printed.{IsNodeLine}
use Rattle.node_lines.proofs.Quiet.{Quiet, either_so}
use Rattle.node_lines.proofs.Rules.{proposes_quiet}

-- a step on its way has printed such lines alone
abbrev pub Still : StepSoFar → Type 0
Still a = Quiet a.lines

more : (lines new : List Line) → Quiet lines → Quiet new → Quiet (lines ++ new)
more lines new p q = appended IsNodeLine lines new p q

replies_quiet : (node : NodeId) (place : RingId × ℕ) (replied : List (ℕ × Entry × List ℕ)) → Quiet (map (reply_line node place) replied)
replies_quiet node place [] = tt
replies_quiet node place (r ∷ rs) = (tt, replies_quiet node place rs)

module _ (config : Config) where
  -- ---- merging

  delivered : (service : Service) (standing : Standing) (place : RingId × ℕ) (applied : AppliedAll) (a : StepSoFar) → Still a → Still (delivers_applied config service standing place applied a)
  delivered service standing place applied a q =
      more (a.lines ++ Deliver a.view.id place.0 place.1 ∷ []) (map (reply_line a.view.id place) applied.replies) (more a.lines (Deliver a.view.id place.0 place.1 ∷ []) q (tt, tt))
      (replies_quiet a.view.id place applied.replies)

  takes_still : (service : Service) (standing : Standing) (place : RingId × ℕ) (value : Value) (a : StepSoFar) → Still a → Still (takes_place config service standing place value a)
  takes_still service standing place Skip a q = q
  takes_still service standing place (Batch batch) a q = delivered service standing place (applies service.partition standing.replica (entries_of_batch batch)) a q

  merges_up : (most : ℕ) (a : StepSoFar) → Still a → Still (merges_up_to most config a)
  merges_up zero a q = q
  merges_up (suc most) a q = by_service a.view.service (λ b r. merges_up most b r)
    where
      by_value : (service : Service) (standing : Standing) (place : RingId × ℕ) (v : Option Value) → ((b : StepSoFar) → Still b → Still (merges_up_to most config b))
          → Still (merges_place (merges_up_to most config) config service standing place v a)
      by_value service standing place None rest = q
      by_value service standing place (Some value) rest = rest (takes_place config service standing place value a) (takes_still service standing place value a q)

      by_stage : (service : Service) (stage : Stage) → ((b : StepSoFar) → Still b → Still (merges_up_to most config b)) → Still (merges_stage (merges_up_to most config) config service stage a)
      by_stage service (Recovering attempt) rest = q
      by_stage service (Ready standing) rest = by_value service standing (place_of config standing) (value_at_place a.view (place_of config standing)) rest

      by_service : (o : Option Service) → ((b : StepSoFar) → Still b → Still (merges_up_to most config b)) → Still (merges_service (merges_up_to most config) config o a)
      by_service None rest = q
      by_service (Some service) rest = by_stage service service.stage rest

  merges_still : (a : StepSoFar) → Still a → Still (merges config a)
  unfolding merges
  merges_still a q = merges_up (2 ^ 44 + 1) a q

  -- ---- recovery

  restores_still : (service : Service) (tuple : List (RingId × ℕ)) (replica : Replica) (a : StepSoFar) → Still a → Still (restores config service tuple replica a)
  unfolding restores
  restores_still service tuple replica a q = merges_still _ (more a.lines _ q (tt, tt))

  read_still : (service : Service) (tuple : List (RingId × ℕ)) (o : Option Replica) (a : StepSoFar) → Still a → Still (restores_read config service tuple o a)
  read_still service tuple None a q = q
  read_still service tuple (Some replica) a q = restores_still service tuple replica a q

  installs_still : (service : Service) (o : Option Checkpoint) (a : StepSoFar) → Still a → Still (installs_own config service o a)
  installs_still service None a q = restores_still service _ _ a q
  installs_still service (Some newest) a q = read_still service newest.tuple _ a q

  gathers_still : (service : Service) (attempt : Attempt) (choice : Choice) (a : StepSoFar) → Still a → Still (gathers config service attempt choice a)
  gathers_still service attempt choice a q =
      let now : StepSoFar = with_stage service (Recovering (record attempt { choice = Some choice })) a in
      either_so (choice.from.0 == a.view.id.0) (installs_own config service a.view.checkpoints.newest now) (sends_all (asks_part a.view attempt choice) now)
      (installs_still service a.view.checkpoints.newest now q) q

  chooses_still : (service : Service) (attempt : Attempt) (best : NodeId × List (RingId × ℕ)) (a : StepSoFar) → Still a → Still (chooses config service attempt best a)
  unfolding chooses
  chooses_still service attempt best a q =
      let line : Line = Chose a.view.id (epoch_of a.view) attempt.number (instances best.1) best.0 in
      gathers_still service attempt (record { tuple = best.1; from = best.0; bytes = [] }) (prints (line ∷ []) a) (more a.lines (line ∷ []) q (tt, tt))

  best_still : (service : Service) (attempt : Attempt) (answers : List (NodeId × List (RingId × ℕ))) (a : StepSoFar) → Still a → Still (chooses_best config service attempt answers a)
  best_still service attempt [] a q = q
  best_still service attempt (answer ∷ answers) a q = chooses_still service attempt _ a q

  quorum_still : (service : Service) (attempt : Attempt) (a : StepSoFar) → Still a → Still (chooses_if_quorum config service attempt a)
  quorum_still service attempt a q = either_so _ _ _ (best_still service attempt attempt.answers a q) q

  pub begins_still : (service : Service) (a : StepSoFar) → Still a → Still (begins config service a)
  unfolding begins
  begins_still service a q =
      either_so (nat_lt service.attempts (2 ^ 32 - 1)) (begins_next config service a) (prints (AttemptLimit a.view.id ∷ []) a) next (more a.lines (AttemptLimit a.view.id ∷ []) q (tt, tt))
    where
      number : ℕ
      number = service.attempts + 1

      own : List (RingId × ℕ)
      own = own_tuple a.view service

      line : Line
      line = Begin a.view.id (epoch_of a.view) number (instances own)

      next : Still (begins_next config service a)
      next =
          quorum_still (record service { attempts = number }) (record { number = number; ticks = 0; answers = (a.view.id, own) ∷ []; choice = None })
          (sends_all (flat_map (asks_checkpoint a.view number) (others_of a.view.id service.partition)) (prints (line ∷ []) a)) (more a.lines (line ∷ []) q (tt, tt))

  pub answered_still : (service : Service) (attempt : Attempt) (from : NodeId) (epoch number : ℕ) (tuple : List (RingId × ℕ)) (a : StepSoFar) → Still a → Still (answered_by config service attempt from epoch number tuple a)
  unfolding answered_by
  answered_still service attempt from epoch number tuple a q = either_so _ _ _ (by attempt.choice) q
    where
      by : (o : Option Choice) → Still (takes_answer config service attempt o from tuple a)
      by None = quorum_still service _ a q
      by (Some choice) = q

  pub part_still : (service : Service) (attempt : Attempt) (from : NodeId) (epoch number : ℕ) (tuple : List (RingId × ℕ)) (offset total : ℕ) (bytes : List ℕ) (a : StepSoFar)
      → Still a → Still (takes_part config service attempt from epoch number tuple offset total bytes a)
  unfolding takes_part
  part_still service attempt from epoch number tuple offset total bytes a q = by attempt.choice
    where
      all : (chosen : List (RingId × ℕ)) (o : Option Replica) → Still (restores_or_begins config service chosen o a)
      all chosen None = begins_still service a q
      all chosen (Some replica) = restores_still service chosen replica a q

      with_grown : (grown : Choice) → Still (with_more config service attempt grown total a)
      with_grown grown =
          either_so (length grown.bytes == total) (restores_or_begins config service grown.tuple (state_of service.partition grown.bytes) a)
          (sends_all (asks_part a.view attempt grown) (with_stage service (Recovering (record attempt { choice = Some grown })) a)) (all grown.tuple (state_of service.partition grown.bytes)) q

      by : (o : Option Choice) → Still (part_for config service attempt o from epoch number tuple offset total bytes a)
      by None = q
      by (Some choice) =
          let grown : Choice = record choice { bytes = choice.bytes ++ bytes } in
          either_so (is_of a.view attempt epoch number && (is_of_choice choice from tuple && (offset == length choice.bytes))) (with_more config service attempt grown total a) a (with_grown grown) q

  pub gone_still : (service : Service) (attempt : Attempt) (from : NodeId) (epoch number : ℕ) (asked newer : List (RingId × ℕ)) (a : StepSoFar)
      → Still a → Still (takes_gone config service attempt from epoch number asked newer a)
  unfolding takes_gone
  gone_still service attempt from epoch number asked newer a q = by attempt.choice
    where
      by : (o : Option Choice) → Still (gone_for config service attempt o from epoch number asked newer a)
      by None = q
      by (Some choice) = either_so _ _ _ (chooses_still service attempt _ a q) q

  pub tells_still : (service : Service) (from : NodeId) (epoch number : ℕ) (tuple : List (RingId × ℕ)) (offset : ℕ) (a : StepSoFar) → Still a → Still (tells_part config service from epoch number tuple offset a)
  tells_still service from epoch number tuple offset a q = either_so _ _ _ q q

  pub recovery_still : (again : Bool) (service : Service) (stage : Stage) (a : StepSoFar) → Still a → Still (recovery_ticks config again service stage a)
  recovery_still again service (Ready standing) a q = q
  recovery_still again service (Recovering attempt) a q =
      let counted : Attempt = record attempt { ticks = attempt.ticks + 1 } in
      let now : StepSoFar = with_stage service (Recovering counted) a in
      let line : Line = Refuse a.view.id (epoch_of a.view) counted.number (length counted.answers) service.partition.recovery_quorum in
      either_so (counted.ticks == config.attempt) (ends_attempt config service counted now) (sends_all (if again then asks_missing service counted counted.choice a.view else []) now)
      (either_so (nat_lt (length counted.answers) service.partition.recovery_quorum) (begins config service (prints (line ∷ []) now)) (begins config service now)
      (begins_still service (prints (line ∷ []) now) (more a.lines (line ∷ []) q (tt, tt))) (begins_still service now q)) q

  pub trim_still : (ring : RingId) (trim : ℕ) (a : StepSoFar) → Still a → Still (recovers_if_trimmed config ring trim a)
  trim_still ring trim a q = by a.view.service
    where
      by_stage : (service : Service) (stage : Stage) → Still (begins_if_waits_below config ring trim service stage a)
      by_stage service (Recovering attempt) = q
      by_stage service (Ready standing) = either_so _ _ _ (begins_still service a q) q

      by : (o : Option Service) → Still (after_trim config ring trim o a)
      by None = q
      by (Some service) = by_stage service service.stage

  -- ---- learning

  module _ (ring : Ring) where
    effects_still : (effects : Effects) (a : StepSoFar) → Quiet effects.lines → Still a → Still (with_effects ring effects a)
    effects_still effects a p q = more a.lines effects.lines q p

    proposed : (later : List Decided) (o : Option RingPart) (a : StepSoFar) → Still a → Still (proposes_then ring later o a).so_far
    proposed later None a q = q
    proposed later (Some p) a q = effects_still (proposes ring a.view.link p.part) a (proposes_quiet ring a.view.link p.part) q

    news_still : (range : Decided) (later : List Decided) (b : Bool) (a : StepSoFar) → Still a → Still (by_news config ring range later b a).so_far
    news_still range later false a q = q
    news_still range later true a q = proposed later _ _ (merges_still _ (more a.lines (Learn a.view.id ring.id range.lo range.hi range.value ∷ []) q (tt, tt)))

    one_still : (range : Decided) (later : List Decided) (o : Option RingPart) (a : StepSoFar) → Still a → Still (learns_one config ring range later o a).so_far
    one_still range later None a q = q
    one_still range later (Some p) a q = news_still range later _ _ q

    learns_still : (most : ℕ) (queue : Queued) → Still queue.so_far → Still (learns_up_to most config ring queue)
    learns_still zero queue q = q
    learns_still (suc most) queue q = by queue.ranges (λ next r. learns_still most next r)
      where
        by : (ranges : List Decided) → ((next : Queued) → Still next.so_far → Still (learns_up_to most config ring next)) → Still (then_learns (learns_up_to most config ring) config ring queue ranges)
        by [] rest = q
        by (range ∷ later) rest = rest _ (one_still range later _ queue.so_far q)

    pub applies_still : (effects : Effects) (a : StepSoFar) → Quiet effects.lines → Still a → Still (applies_effects config ring effects a)
    unfolding applies_effects
    applies_still effects a p q = learns_still (2 ^ 44) (queued ring [] effects a) (effects_still effects a p q)
