-- A step as a whole.
use Rattle.plain_model.specs.StateBytes.{state_bytes}
use Rattle.protocol.specs.Bases.{rebases}
use Rattle.step_lines.proofs.Handlers.{leads_stays}
use Rattle.protocol.specs.Coordinator.{leads}
use Rattle.step_lines.proofs.Ending.{goes_ends, kept_for, rebased_left}
use Rattle.step_lines.proofs.Bodies.{body_goes, submit_goes}
use Rattle.step_lines.proofs.Ticks.{beats_goes}
use Rattle.recovery_lines.proofs.Saving.{SavedOr, kept_saved, saves_lines}
use Rattle.mrp_types.specs.declared.id.Party.{Party}
use Rattle.ring_link.specs.Silence.{Link, with_heard, with_tick}
use Rattle.step_lines.proofs.Going.{Goes-refl, acceptor_goes}
use Rattle.mrp_types.specs.declared.id.Party.TheVariants.{Client, Node}
use Rattle.std.proofs.Common.{◌≡◌, ℕ, ◌+◌, Bool, true, false, List, Option, Some, None, refl, sym, ◌∙◌, subst}
use Rattle.std.specs.Prelude.{◌==◌, ◌%◌, if◌then◌else◌}
use Rattle.std.specs.List.{AllByRecursion}
use Rattle.mrp_config.specs.Config.{Config, partition_of}
use Rattle.mrp_config.specs.declared.tables.PartitionTable.{PartitionTable}
use Rattle.frames.specs.declared.body.Body.{Body}
use Rattle.frames.specs.declared.body.Body.TheVariants.{Submit}
use Rattle.protocol.specs.Lines.{Line}
use Rattle.step_lines.proofs.Ticks.{OwnTold}
use Rattle.protocol.specs.Node.{StepSoFar, View, Service, Stage, Recovering, Ready, Standing, Event, Ticks, Takes, Leads, Stepped, begun_with, finished}
use Rattle.protocol.specs.Step.{handles_from, step}
use Rattle.protocol.specs.Tick.{is_due_to_compact, compacts, saves, saves_stage, saves_first, or_compacts, beats, ticks, is_due_to_save}
use Rattle.faithful.specs.Scanners.{past}
use Rattle.recovery_lines.specs.Ties.{IsFit, IsPlaced, PartySaid, PartTold, ReplicaLines, StageLines, ReadyLines, ActLines, StepLines, ViewLines, rings_in, AreCovered, OwnLines}
use Rattle.step_lines.specs.Effects.{EventSaid, AllAgree, AllTold, Goes, KeptFor, LeftTold}

module _ (c : Config) (fit : IsFit c) (lines : List Line) (view : View) (ties : ViewLines c lines view) (placed : AllByRecursion (IsPlaced c view.id) (rings_in view.parts))
    (parts : AllByRecursion (PartTold c lines) view.parts) (covered : AreCovered c lines view.journal.state) where
  kept : KeptFor c lines view.id view.journal.state.epoch view.checkpoints.newest (partition_of c.partitions view.id)
  kept = kept_for c lines view.id view.journal.state.epoch view.checkpoints.newest view.service ties.replica

  own_told : (p : PartitionTable) → partition_of c.partitions view.id ≡ Some p → OwnTold c lines view.id view.checkpoints.newest p
  own_told p there = by_service view.service ties.replica
    where
      none_some : partition_of c.partitions view.id ≡ None → ⊥
      none_some e = differs (partition_of c.partitions view.id) e there
        where
          differs : (o : Option PartitionTable) → o ≡ None → o ≡ Some p → ⊥
          differs o e f = cc

      some_same : (u v : PartitionTable) → Some u ≡ Some v → u ≡ v
      some_same u v e = cc

      by_service : (o : Option Service) → ReplicaLines c lines view.id view.journal.state.epoch view.checkpoints.newest o → OwnTold c lines view.id view.checkpoints.newest p
      by_service None r = absurd (none_some r)
      by_service (Some s) r = subst (λ (q : PartitionTable). OwnTold c lines view.id view.checkpoints.newest q) (some_same s.partition p (sym r.own.replica ∙ there)) (record { told = r.told; valid = r.own.kept.valid })

  -- ---- what is begun

  on_told : (link : Link) (beat : ℕ) → AllTold c lines (begun_with (record view { link = link; beat = beat }))
  on_told link beat = record { parts = parts; trims = covered; epoch = refl }

  on_lines : (link : Link) (beat : ℕ) → ActLines c lines lines (begun_with (record view { link = link; beat = beat }))
  on_lines link beat = record { done = record { printed = refl; own = tt; right = ties.right; known = ties.known; frames = tt; replies = tt; parts = ties.parts }; replica = ties.replica }

  -- what a step leaves, and its lines
  record Whole (effects : Stepped) : Type 0 where
    left : LeftTold c lines view.id (rings_in view.parts) effects
    right : AllAgree (past lines effects.lines) → (new : List Line) × StepLines c lines new view.id effects

  whole_on : (link : Link) (beat : ℕ) (b : StepSoFar) → Goes c lines (begun_with (record view { link = link; beat = beat })) b → Whole (finished (rebases b))
  whole_on link beat b g = record {
    left = rebased_left c lines (begun_with (record view { link = link; beat = beat })) (on_told link beat) kept b g.onward;
    right = λ all. goes_ends c lines (begun_with (record view { link = link; beat = beat })) (on_told link beat) kept b g (on_lines link beat) all;
  }

  -- ---- ticks

  saved_whole : (o : Option Stepped) → saves_first c view view.service ≡ o → SavedOr c fit lines view ties o → (effects : Stepped) → o ≡ Some effects → Whole effects
  saved_whole None e s effects f = absurd (cc)
  saved_whole (Some saved) e s effects f = subst Whole (same saved effects f) (record { left = by_service view.service ties.replica e; right = λ all. s })
    where
      same : (u v : Stepped) → Some u ≡ Some v → u ≡ v
      same u v g = cc

      by_due : (s : Service) (standing : Standing) (due : Bool) → OwnLines c lines view.id view.journal.state.epoch view.checkpoints.newest s.partition s.attempts
          → ReadyLines c lines view.id view.checkpoints.newest s.partition standing.tuple standing.delivered
          → (if due then Some (saves view s standing (state_bytes standing.replica)) else None) ≡ Some saved → LeftTold c lines view.id (rings_in view.parts) saved
      by_due s standing false own r g = absurd (cc)
      by_due s standing true own r g = subst (λ (q : Stepped). LeftTold c lines view.id (rings_in view.parts) q) (same (saves view s standing (state_bytes standing.replica)) saved g) (record {
        id = refl;
        rings_stay = refl;
        parts = parts;
        covered = covered;
        kept = subst (λ (q : Option PartitionTable). KeptFor c lines view.id view.journal.state.epoch (Some (record { tuple = standing.tuple; state = state_bytes standing.replica })) q) (sym own.replica)
            (kept_saved c lines view.id view.journal.state.epoch s.partition view.checkpoints.newest s.attempts standing (state_bytes standing.replica) own r);
      })

      by_stage : (s : Service) (stage : Stage) → OwnLines c lines view.id view.journal.state.epoch view.checkpoints.newest s.partition s.attempts
          → StageLines c lines view.id view.journal.state.epoch view.checkpoints.newest s.partition stage → saves_stage c view s stage ≡ Some saved → LeftTold c lines view.id (rings_in view.parts) saved
      by_stage s (Recovering attempt) own st g = absurd (cc)
      by_stage s (Ready standing) own st g = by_due s standing (is_due_to_save c view standing) own st g

      by_service : (o : Option Service) → ReplicaLines c lines view.id view.journal.state.epoch view.checkpoints.newest o → saves_first c view o ≡ Some saved → LeftTold c lines view.id (rings_in view.parts) saved
      by_service None r g = absurd (cc)
      by_service (Some s) r g = by_stage s s.stage r.own r.stage g

  compacted_whole : Whole (compacts view)
  compacted_whole = record {
    left = record { id = refl; rings_stay = refl; parts = parts; covered = covered; kept = kept };
    right = λ all. (lines, record { printed = refl; own = tt; right = ties.right; known = ties.known; frames = tt; parts = ties.parts; replica = ties.replica });
  }

  beaten_whole : Whole (finished (rebases (beats c view)))
  beaten_whole = whole_on (with_tick view.link) (view.beat + 1) (beats c view)
      (beats_goes c fit lines (begun_with (record view { beat = view.beat + 1; link = with_tick view.link })) placed own_told view.parts (view.beat + 1) ((view.beat + 1) % c.resend == 0))

  ticked_whole : Whole (ticks c view)
  unfolding ticks
  ticked_whole = by_saved (saves_first c view view.service) refl
    where
      by_compact : (b : Bool) → Whole (if b then compacts view else finished (rebases (beats c view)))
      by_compact true = compacted_whole
      by_compact false = beaten_whole

      by_saved : (o : Option Stepped) → saves_first c view view.service ≡ o → Whole (or_compacts c view o)
      by_saved None e = by_compact (is_due_to_compact c view)
      by_saved (Some effects) e = saved_whole (saves_first c view view.service) refl (saves_lines c fit lines view ties) effects e

  -- ---- frames and orders

  from_goes : (party : Party) (body : Body) → PartySaid c lines party (Node view.id) body → Whole (finished (rebases (handles_from c party body (begun_with view))))
  from_goes (Node from) body said =
      whole_on (with_heard from.0 view.link) view.beat (handles_from c (Node from) body (begun_with view)) (body_goes c fit lines (begun_with (record view { link = with_heard from.0 view.link })) placed from body said)
  from_goes (Client from) body said = whole_on view.link view.beat (handles_from c (Client from) body (begun_with view)) (by_body body)
    where
      by_body : (body : Body) → Goes c lines (begun_with view) (handles_from c (Client from) body (begun_with view))
      by_body (Submit ring hops client seq command) = submit_goes c fit lines (begun_with view) placed ring hops client seq command
      by_body other = Goes-refl c lines (begun_with view)

  whole : (event : Event) → EventSaid c lines view.id event → Whole (step c view event)
  unfolding step
  whole Ticks said = ticked_whole
  whole (Takes frame) said = from_goes frame.from frame.body said
  whole (Leads ring) said = whole_on view.link view.beat _ (acceptor_goes c fit lines ring (begun_with view) (λ r part v. leads r v.link part) (λ p e t. leads_stays c lines p.ring view.link p.part))

  pub step_left : (event : Event) → EventSaid c lines view.id event → LeftTold c lines view.id (rings_in view.parts) (step c view event)
  step_left event said = (whole event said).left

  -- where each learn line agrees with the book before it
  pub step_right : (event : Event) → EventSaid c lines view.id event → AllAgree (past lines (step c view event).lines) → (new : List Line) × StepLines c lines new view.id (step c view event)
  step_right event said = (whole event said).right
