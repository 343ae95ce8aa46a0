-- What a step leaves of its checkpoint, whether its work is done or stopped.
use Rattle.std.proofs.Common.{◌≡◌, ℕ, ◌+◌, Bool, true, false, List, Option, Some, None, refl, sym, subst}
use Rattle.std.specs.Prelude.{◌==◌, ◌%◌, if◌then◌else◌}
use Rattle.std.specs.List.{AllByRecursion}
use Rattle.mrp_types.specs.declared.id.NodeId.{NodeId}
use Rattle.mrp_types.specs.declared.id.Party.{Party}
use Rattle.mrp_types.specs.declared.id.Party.TheVariants.{Client, Node}
use Rattle.ring_link.specs.Silence.{Link, with_heard, with_tick}
use Rattle.mrp_config.specs.Config.{Config, partition_of}
use Rattle.mrp_config.specs.declared.tables.PartitionTable.{PartitionTable}
use Rattle.frames.specs.declared.body.Body.{Body}
use Rattle.frames.specs.declared.body.Body.TheVariants.{Submit}
use Rattle.checkpoint.specs.Checkpoints.{Checkpoint, Checkpoints}
use Rattle.state_laws.specs.Books.{AreOfBytes}
use Rattle.protocol.specs.Bases.{rebases}
use Rattle.protocol.specs.Coordinator.{leads}
use Rattle.protocol.specs.Lines.{Line}
use Rattle.protocol.specs.Node.{StepSoFar, Service, View, Event, Ticks, Takes, Leads, Stepped, begun_with, finished}
use Rattle.protocol.specs.Step.{handles_from, step}
use Rattle.protocol.specs.Tick.{is_due_to_compact, compacts, saves_first, or_compacts, beats, ticks}
use Rattle.line_rules.specs.Scanners.{learned}
use Rattle.line_rules.specs.Rules.{HasNode}
use Rattle.recovery_lines.specs.Ties.{IsFit, IsPlaced, PartySaid, ReplicaLines, ViewLines, rings_in}
use Rattle.step_lines.specs.Effects.{EventSaid, Goes, Onward}
use Rattle.step_lines.proofs.Bodies.{body_goes, submit_goes}
use Rattle.step_lines.proofs.Going.{Goes-refl, acceptor_goes}
use Rattle.step_lines.proofs.Handlers.{leads_stays}
use Rattle.step_lines.proofs.Ticks.{OwnTold, beats_goes}
use Rattle.state_steps.specs.States.{IsLimited, NewestAt, StepAt, ViewAt}
use Rattle.state_steps.proofs.Whole.{SavedOr, saves_at}

module _ (c : Config) (fit : IsFit c) (limited : IsLimited c) (lines : List Line) (view : View) (ties : ViewLines c lines view) (at : ViewAt c lines view) (placed : AllByRecursion (IsPlaced c view.id) (rings_in view.parts))
    (node : HasNode c view.id) (given : AreOfBytes (learned lines)) where
  Left : Stepped → Type 0
  Left effects = NewestAt c lines (partition_of c.partitions effects.view.id) effects.view.checkpoints.newest

  same_left : (link : Link) (beat : ℕ) (b : StepSoFar) → Goes c lines (begun_with (record view { link = link; beat = beat })) b → Left (finished (rebases b))
  unfolding Left
  same_left link beat b g = subst (λ (x : NodeId). NewestAt c lines (partition_of c.partitions x) b.view.checkpoints.newest) (sym g.onward.id)
      (subst (λ (k : Checkpoints). NewestAt c lines (partition_of c.partitions view.id) k.newest) (sym g.onward.checkpoints) at.newest)

  own_told : (p : PartitionTable) → partition_of c.partitions view.id ≡ Some p → OwnTold c lines view.id view.checkpoints.newest p
  own_told p there = go view.service ties.replica
    where
      none_some : (o : Option PartitionTable) → o ≡ None → o ≡ Some p → ⊥
      none_some o e f = cc

      some_same : (u v : PartitionTable) (o : Option PartitionTable) → o ≡ Some u → o ≡ Some v → u ≡ v
      some_same u v o e f = cc

      go : (o : Option Service) → ReplicaLines c lines view.id view.journal.state.epoch view.checkpoints.newest o → OwnTold c lines view.id view.checkpoints.newest p
      go None r = absurd (none_some (partition_of c.partitions view.id) r there)
      go (Some s) r = subst (λ (q : PartitionTable). OwnTold c lines view.id view.checkpoints.newest q) (some_same s.partition p (partition_of c.partitions view.id) r.own.replica there) (record { told = r.told; valid = r.own.kept.valid })

  ticked_left : Left (ticks c view)
  unfolding ticks Left
  ticked_left = by_saved (saves_first c view view.service) (saves_at c fit limited lines view ties at placed node given)
    where
      by_compact : (b : Bool) → Left (if b then compacts view else finished (rebases (beats c view)))
      by_compact true = at.newest
      by_compact false = same_left (with_tick view.link) (view.beat + 1) (beats c view)
          (beats_goes c fit lines (begun_with (record view { beat = view.beat + 1; link = with_tick view.link })) placed own_told view.parts (view.beat + 1) ((view.beat + 1) % c.resend == 0))

      by_saved : (o : Option Stepped) → SavedOr c fit limited lines view ties at placed node given o → Left (or_compacts c view o)
      by_saved None s = by_compact (is_due_to_compact c view)
      by_saved (Some effects) s = s.newest

  from_left : (party : Party) (body : Body) → PartySaid c lines party (Node view.id) body → Left (finished (rebases (handles_from c party body (begun_with view))))
  from_left (Node from) body said =
      same_left (with_heard from.0 view.link) view.beat (handles_from c (Node from) body (begun_with view)) (body_goes c fit lines (begun_with (record view { link = with_heard from.0 view.link })) placed from body said)
  from_left (Client from) body said = same_left view.link view.beat (handles_from c (Client from) body (begun_with view)) (by_body body)
    where
      by_body : (body : Body) → Goes c lines (begun_with view) (handles_from c (Client from) body (begun_with view))
      by_body (Submit ring hops client seq command) = submit_goes c fit lines (begun_with view) placed ring hops client seq command
      by_body other = Goes-refl c lines (begun_with view)

  left_at : (event : Event) → EventSaid c lines view.id event → Left (step c view event)
  unfolding step
  left_at Ticks said = ticked_left
  left_at (Takes frame) said = from_left frame.from frame.body said
  left_at (Leads ring) said = same_left view.link view.beat _ (acceptor_goes c fit lines ring (begun_with view) (λ r part v. leads r v.link part) (λ p e t. leads_stays c lines p.ring view.link p.part))

  pub step_left_at : (event : Event) → EventSaid c lines view.id event → NewestAt c lines (partition_of c.partitions (step c view event).view.id) (step c view event).view.checkpoints.newest
  unfolding Left
  step_left_at event said = left_at event said
