-- Recovery's tick, and an attempt that begins since the merge waits below a trim.
use Rattle.std.proofs.Common.{◌≡◌, ℕ, ◌+◌, ◌<◌, ◌≤◌, Bool, true, false, List, [], ◌∷◌, Option, Some, None, refl, arith}
use Rattle.std.specs.Prelude.{◌==◌, nat_lt, not, if◌then◌else◌, length, filter}
use Rattle.std.specs.List.{AllByRecursion}
use Rattle.std.proofs.lemmas.Bool.Decides.{nat_tests}
use Rattle.mrp_types.specs.declared.id.RingId.{RingId}
use Rattle.mrp_config.specs.Config.{Config}
use Rattle.frames.specs.declared.body.Body.TheVariants.{AskCheckpoint, AskPart}
use Rattle.protocol.specs.Lines.{Line, Refuse}
use Rattle.protocol.specs.Trimming.{has_answered}
use Rattle.protocol.specs.Node.{StepSoFar, Service, Stage, Recovering, Ready, Attempt, Choice, with_stage, prints, sends_all}
use Rattle.protocol.specs.Merging.{place_of}
use Rattle.protocol.specs.Step.{waits_below, begins_if_waits_below, after_trim, recovers_if_trimmed}
use Rattle.protocol.specs.Recovery.{epoch_of, others_of, begins, asks_checkpoint, asks_missing, ends_attempt, recovery_ticks}
use Rattle.faithful.specs.Scanners.{unchosen}
use Rattle.faithful.specs.Rules.{Refuses}
use Rattle.recovery_lines.specs.Ties.{IsFit, IsSaid, OwnLines, ChosenLines, StageLines, ServiceLines, ReplicaLines, ActLines, AfterLines}
use Rattle.recovery_lines.proofs.More.{OwnLines-same, quiet_own, ReplicaLines-quiet}
use Rattle.recovery_lines.proofs.Printing.{other_tells, said_sends, all_flat, prints_done, sends_done, stage_done}
use Rattle.recovery_lines.proofs.Beginning.{beginning}
use Rattle.recovery_lines.proofs.Merging.{merged_all}

module _ (c : Config) (fit : IsFit c) (before : List Line) (a : StepSoFar) (lines : List Line) (ties : ActLines c before lines a) where
  as_is : AfterLines c before a
  as_is = record { lines = lines; ties = ties }

  begins_here : (service : Service) → OwnLines c lines a.view.id (epoch_of a.view) a.view.checkpoints.newest service.partition service.attempts → AfterLines c before (begins c service a)
  begins_here service own = beginning c fit before (merged_all c fit before) service a lines ties own

  -- a trim was told
  pub recovers_if_trimmed_lines : (ring : RingId) (trim : ℕ) → AfterLines c before (recovers_if_trimmed c ring trim a)
  recovers_if_trimmed_lines ring trim = by_service a.view.service ties.replica
    where
      by_stage : (service : Service) (stage : Stage) → ServiceLines c lines a.view.id (epoch_of a.view) a.view.checkpoints.newest service → AfterLines c before (begins_if_waits_below c ring trim service stage a)
      by_stage service (Recovering attempt) s = as_is
      by_stage service (Ready standing) s = go (waits_below ring trim (place_of c standing))
        where
          go : (b : Bool) → AfterLines c before (if b then begins c service a else a)
          go true = begins_here service s.own
          go false = as_is

      by_service : (service : Option Service) → ReplicaLines c lines a.view.id (epoch_of a.view) a.view.checkpoints.newest service → AfterLines c before (after_trim c ring trim service a)
      by_service None s = as_is
      by_service (Some service) s = by_stage service service.stage s

  -- one more tick of an attempt
  pub recovery_lines : (again : Bool) (service : Service) → ServiceLines c lines a.view.id (epoch_of a.view) a.view.checkpoints.newest service → AfterLines c before (recovery_ticks c again service service.stage a)
  recovery_lines again service s = by_stage service.stage s.stage
    where
      by_stage : (stage : Stage) → StageLines c lines a.view.id (epoch_of a.view) a.view.checkpoints.newest service.partition stage → AfterLines c before (recovery_ticks c again service stage a)
      by_stage (Ready standing) st = as_is
      by_stage (Recovering attempt) st = by_end (attempt.ticks + 1 == c.attempt)
        where
          now : Attempt
          now = record attempt { ticks = attempt.ticks + 1 }

          asked : (choice : Option Choice) → ChosenLines c lines a.view.id (epoch_of a.view) service.partition attempt.number attempt.answers choice → AllByRecursion (IsSaid c lines) (asks_missing service now choice a.view)
          asked None ch = all_flat (IsSaid c lines) (asks_checkpoint a.view attempt.number)
              (λ node. said_sends c lines a.view.id node (AskCheckpoint (epoch_of a.view) attempt.number) (st.0.earlier, st.0.first))
              (filter (λ node. not (has_answered node attempt.answers)) (others_of a.view.id service.partition))
          asked (Some choice) ch = said_sends c lines a.view.id choice.from (AskPart (epoch_of a.view) attempt.number choice.tuple (length choice.bytes))
              (other_tells c fit lines a.view.id choice.from service.partition choice.tuple s.own.replica ch.replica ch.valid ch.told)

          asked_if : (b : Bool) → AllByRecursion (IsSaid c lines) (if b then asks_missing service now attempt.choice a.view else [])
          asked_if true = asked attempt.choice st.1
          asked_if false = tt

          few_open : (choice : Option Choice) → ChosenLines c lines a.view.id (epoch_of a.view) service.partition attempt.number attempt.answers choice
              → length attempt.answers < service.partition.recovery_quorum → unchosen a.view.id.0 lines ≡ Some (Some (epoch_of a.view, attempt.number))
          few_open None ch few = ch.0
          few_open (Some choice) ch few = let enough : service.partition.recovery_quorum ≤ length attempt.answers = ch.enough in absurd (omega arith)

          refusal : Line
          refusal = Refuse a.view.id (epoch_of a.view) attempt.number (length attempt.answers) service.partition.recovery_quorum

          -- the tick counts
          staged : StepSoFar
          staged = with_stage service (Recovering now) a

          counted : ActLines c before lines staged
          counted = record { done = stage_done c before lines a ties.done service (Recovering now); replica = record { own = s.own; told = s.told; stage = st } }

          refused : length attempt.answers < service.partition.recovery_quorum → AfterLines c before (begins c service (prints (refusal ∷ []) staged))
          refused few =
              beginning c fit before (merged_all c fit before) service (prints (refusal ∷ []) staged) (refusal ∷ lines) (record {
                done = prints_done c before lines staged counted.done refusal (λ other ne. refl) rule (λ r p k e replica valid h. absurd h);
                replica = ReplicaLines-quiet c refusal lines staged.view.id (epoch_of staged.view) staged.view.checkpoints.newest staged.view.service refl counted.replica;
              }) (OwnLines-same c refusal lines a.view.id (epoch_of a.view) a.view.checkpoints.newest service.partition service.attempts (quiet_own a.view.id.0 refusal lines refl) s.own)
            where
              rule : Refuses c lines a.view.id (epoch_of a.view) attempt.number (length attempt.answers) service.partition.recovery_quorum
              rule = record { partition = service.partition; replica = s.own.replica; current = few_open attempt.choice st.1 few; quorum = refl; few = few }

          by_few : (b : Bool) → nat_lt (length attempt.answers) service.partition.recovery_quorum ≡ b
              → AfterLines c before (if b then begins c service (prints (refusal ∷ []) staged) else begins c service staged)
          by_few true e = refused (grind (arith, nat_tests))
          by_few false e = beginning c fit before (merged_all c fit before) service staged lines counted s.own

          by_end : (b : Bool) → AfterLines c before (if b then ends_attempt c service now staged
              else sends_all (if again then asks_missing service now attempt.choice a.view else []) staged)
          by_end true = by_few (nat_lt (length attempt.answers) service.partition.recovery_quorum) refl
          by_end false = record {
            lines = lines;
            ties = record {
              done = sends_done c before lines staged counted.done (if again then asks_missing service now attempt.choice a.view else []) (asked_if again);
              replica = counted.replica;
            };
          }
