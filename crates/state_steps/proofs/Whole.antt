-- A step and an opening as a whole.
use Rattle.std.proofs.Common.{◌≡◌, ℕ, ◌+◌, Bool, true, false, List, [], ◌∷◌, Option, Some, None, refl, sym, ◌∙◌, ap, subst}
use Rattle.std.specs.Prelude.{◌==◌, ◌%◌, if◌then◌else◌}
use Rattle.std.specs.List.{AllByRecursion}
use Rattle.mrp_types.specs.declared.id.NodeId.{NodeId}
use Rattle.mrp_types.specs.declared.id.Party.{Party}
use Rattle.mrp_types.specs.declared.id.Party.TheVariants.{Client, Node}
use Rattle.mrp_types.specs.declared.value.Value.{Value}
use Rattle.ring_link.specs.Silence.{Link, with_heard, with_tick}
use Rattle.mrp_config.specs.Config.{Config, partition_of}
use Rattle.mrp_config.specs.declared.tables.PartitionTable.{PartitionTable}
use Rattle.mrp_config.specs.declared.tables.RingTable.{RingTable}
use Rattle.frames.specs.declared.body.Body.{Body}
use Rattle.frames.specs.declared.body.Body.TheVariants.{Submit}
use Rattle.checkpoint.specs.Checkpoints.{Checkpoint, Checkpoints}
use Rattle.vote_state.specs.State.{State}
use Rattle.vote_journal.specs.Journal.{Journal}
use Rattle.state_laws.specs.Books.{AreOfBytes}
use Rattle.state_laws.proofs.Given.{below-given}
use Rattle.state_laws.proofs.Steps.{after_is}
use Rattle.state_laws.proofs.Written.{some-goes}
use Rattle.plain_model.specs.StateBytes.{state_bytes, state_of}
use Rattle.plain_model.specs.Replicas.{Replica}
use Rattle.plain_model.specs.Tuples.{round_sizes}
use Rattle.plain_model.specs.Fold.{replica_after}
use Rattle.protocol.specs.Bases.{rebases}
use Rattle.protocol.specs.Coordinator.{leads}
use Rattle.protocol.specs.Lines.{Line, Saved}
use Rattle.protocol.specs.Rings.{ring_of, is_member}
use Rattle.protocol.specs.Node.{StepSoFar, View, RingPart, Service, Stage, Recovering, Ready, Standing, Event, Ticks, Takes, Leads, Stepped, begun_with, finished}
use Rattle.protocol.specs.Opening.{part_of_ring, parts_of, view_of, begins_first, opened}
use Rattle.protocol.specs.Recovery.{begins}
use Rattle.protocol.specs.Step.{handles_from, step}
use Rattle.protocol.specs.Tick.{is_due_to_compact, compacts, saves, saves_stage, saves_first, or_compacts, beats, ticks, is_due_to_save}
use Rattle.line_rules.specs.Scanners.{past, learned}
use Rattle.line_rules.specs.Rules.{HasNode}
use Rattle.recovery_lines.specs.Ties.{IsFit, IsPlaced, PartLines, ReplicaLines, ViewLines, rings_in}
use Rattle.step_lines.specs.Effects.{AllAgree}
use Rattle.step_lines.proofs.Opening.{placed_fresh}
use Rattle.quiet_rules.specs.Quiet.{AllPaid}
use Rattle.quiet_rules.proofs.Words.{by_test}
use Rattle.quiet_rules.proofs.Handlers.{quiet_leads}
use Rattle.quorums.proofs.Each.{appended}
use Rattle.state_steps.specs.Folded.{BodyFolded, PartyFolded, SentFolded}
use Rattle.state_steps.specs.States.{IsLimited, IsCheckpointAt, NewestAt, ReplicaAt, StageAt, ServiceAt, ActAt, AfterAt, StepAt, ViewAt, EventFolded}
use Rattle.state_steps.proofs.Growing.{replica_more, state_more, newest_more}
use Rattle.state_steps.proofs.Words.{as_it_was, paid_still}
use Rattle.state_steps.proofs.Restoring.{beginning}
use Rattle.state_steps.proofs.Bodies.{body_folded, submit_folds}
use Rattle.state_steps.proofs.Going.{acceptor_folds}
use Rattle.state_steps.proofs.Ticks.{beats_folds}

-- ---- the end of a step

ends_at : (c : Config) (before : List Line) (b : StepSoFar) → AfterAt c before b → StepAt c before (finished (rebases b))
ends_at c before b after = record {
  paid = subst (AllPaid c) (sym after.at.printed) after.at.paid;
  names = after.at.names;
  frames = subst (λ (ls : List Line). AllByRecursion (SentFolded c ls) (finished (rebases b)).frames) (sym after.at.printed) (appended (SentFolded c after.lines) b.frames b.replies after.at.frames after.at.replies);
  replica = subst (λ (ls : List Line). ReplicaAt c ls b.view.id b.view.service) (sym after.at.printed) after.at.replica;
  newest = after.at.newest;
}

-- ---- a step

module _ (c : Config) (fit : IsFit c) (limited : IsLimited c) (lines : List Line) (view : View) (ties : ViewLines c lines view) (at : ViewAt c lines view) (placed : AllByRecursion (IsPlaced c view.id) (rings_in view.parts))
    (node : HasNode c view.id) (given : AreOfBytes (learned lines)) where
  begun : (link : Link) (beat : ℕ) → ActAt c lines lines (begun_with (record view { link = link; beat = beat }))
  begun link beat = record { printed = refl; fits = node; placed = placed; paid = at.paid; names = tt; frames = tt; replies = tt; parts = ties.parts; replica = at.replica; newest = at.newest }

  -- ---- a save

  saved_at : (service : Service) (standing : Standing) → partition_of c.partitions view.id ≡ Some service.partition → StageAt c lines service.partition (Ready standing)
      → IsCheckpointAt c lines service.partition (record { tuple = standing.tuple; state = state_bytes standing.replica })
  saved_at service standing there st = record {
    valid = st.0;
    entries = st.1.entries;
    below = st.1.below;
    bytes = ap (λ (r : Replica). state_bytes r) st.1.same;
    read = ap (λ (r : Replica). state_of service.partition (state_bytes r)) st.1.same
        ∙ some-goes service.partition (replica_after service.partition st.1.entries) (after_is service.partition st.1.entries (limited.partitions view.id service.partition there).logs
        (below-given (round_sizes c) (learned lines) standing.tuple st.1.entries given st.1.below));
  }

  abbrev pub SavedOr : Option Stepped → Type 0
  SavedOr None = Unit {0}
  SavedOr (Some effects) = StepAt c lines effects

  pub saves_at : SavedOr (saves_first c view view.service)
  saves_at = by_service view.service at.replica
    where
      by_due : (service : Service) (standing : Standing) (due : Bool) → partition_of c.partitions view.id ≡ Some service.partition → StageAt c lines service.partition (Ready standing)
          → SavedOr (if due then Some (saves view service standing (state_bytes standing.replica)) else None)
      by_due service standing false there st = tt
      by_due service standing true there st = record {
        paid = paid_still c (Saved view.id _) lines tt at.paid;
        names = (tt, tt);
        frames = tt;
        replica = record { replica = there; stage = (st.0, state_more c (Saved view.id _) lines service.partition standing.tuple standing.replica st.1) };
        newest = subst (λ (p : Option PartitionTable). NewestAt c lines p (Some (record { tuple = standing.tuple; state = state_bytes standing.replica }))) (sym there) (saved_at service standing there st);
      }

      by_stage : (service : Service) (stage : Stage) → partition_of c.partitions view.id ≡ Some service.partition → StageAt c lines service.partition stage → SavedOr (saves_stage c view service stage)
      by_stage service (Recovering attempt) there st = tt
      by_stage service (Ready standing) there st = by_due service standing (is_due_to_save c view standing) there st

      by_service : (o : Option Service) → ReplicaAt c lines view.id o → SavedOr (saves_first c view o)
      by_service None k = tt
      by_service (Some service) k = by_stage service service.stage k.replica k.stage

  -- ---- ticks

  ticked_at : AllAgree (past lines (ticks c view).lines) → StepAt c lines (ticks c view)
  unfolding ticks
  ticked_at all = by_saved (saves_first c view view.service) saves_at all
    where
      by_compact : (b : Bool) → AllAgree (past lines (if b then compacts view else finished (rebases (beats c view))).lines) → StepAt c lines (if b then compacts view else finished (rebases (beats c view)))
      by_compact true all = record { paid = at.paid; names = tt; frames = tt; replica = at.replica; newest = at.newest }
      by_compact false all = ends_at c lines (beats c view)
          ((beats_folds c limited lines (begun_with (record view { beat = view.beat + 1; link = with_tick view.link })) view.parts (view.beat + 1) ((view.beat + 1) % c.resend == 0)).folds lines (begun (with_tick view.link) (view.beat + 1)) all)

      by_saved : (o : Option Stepped) → SavedOr o → AllAgree (past lines (or_compacts c view o).lines) → StepAt c lines (or_compacts c view o)
      by_saved None s all = by_compact (is_due_to_compact c view) all
      by_saved (Some effects) s all = s

  -- ---- frames and orders

  from_at : (party : Party) (body : Body) → PartyFolded c lines party body → AllAgree (past lines (handles_from c party body (begun_with view)).lines) → AfterAt c lines (handles_from c party body (begun_with view))
  from_at (Node from) body said all = body_folded c fit limited lines (begun_with (record view { link = with_heard from.0 view.link })) (begun (with_heard from.0 view.link) view.beat) ties.replica given from body said all
  from_at (Client from) body said all = by_body body all
    where
      by_body : (body : Body) → AllAgree (past lines (handles_from c (Client from) body (begun_with view)).lines) → AfterAt c lines (handles_from c (Client from) body (begun_with view))
      by_body (Submit ring hops client seq command) all = (submit_folds c fit limited lines ring hops client seq command (begun_with view)).folds lines (begun view.link view.beat) all
      by_body other all = as_it_was c lines lines (begun_with view) (begun view.link view.beat)

  pub step_at : (event : Event) → EventFolded c lines event → AllAgree (past lines (step c view event).lines) → StepAt c lines (step c view event)
  unfolding step
  step_at Ticks said all = ticked_at all
  step_at (Takes frame) said all = ends_at c lines (handles_from c frame.from frame.body (begun_with view)) (from_at frame.from frame.body said all)
  step_at (Leads ring) said all = ends_at c lines _ ((acceptor_folds c limited lines ring (begun_with view) (λ r part v. leads r v.link part) (λ r part v. quiet_leads r v.link part)).folds lines (begun view.link view.beat) all)

-- ---- an opening

parts_fresh : (c : Config) (lines : List Line) (id : NodeId) (state : State) (rings : List RingTable) → AllByRecursion (PartLines lines) (parts_of c id state rings)
parts_fresh c lines id state [] = tt
parts_fresh c lines id state (ring ∷ rings) =
    by_test (AllByRecursion (PartLines lines)) (is_member (ring_of c id ring)) (part_of_ring state (ring_of c id ring) ∷ parts_of c id state rings) (parts_of c id state rings)
    (λ e. (record { ordered = tt; booked = λ inst value f. absurd (nothing value f) }, parts_fresh c lines id state rings)) (parts_fresh c lines id state rings)
  where
    nothing : (value : Value) → None ≡ Some value → ⊥
    nothing value e = cc

pub opened_at : (c : Config) → IsLimited c → (lines : List Line) (id : NodeId) (journal : Journal) (checkpoints : Checkpoints) → HasNode c id → AllPaid c lines → NewestAt c lines (partition_of c.partitions id) checkpoints.newest
    → StepAt c lines (opened c id journal checkpoints)
unfolding opened
opened_at c limited lines id journal checkpoints node paid newest = by_partition (partition_of c.partitions id) refl
  where
    fresh : ActAt c lines lines (begun_with (view_of c id journal checkpoints))
    fresh = record {
      printed = refl;
      fits = node;
      placed = placed_fresh c [] id journal.state node c.rings (λ ring has. has);
      paid = paid;
      names = tt;
      frames = tt;
      replies = tt;
      parts = parts_fresh c lines id journal.state c.rings;
      replica = tt;
      newest = newest;
    }

    without : (b : StepSoFar) → AfterAt c lines b → StepAt c lines (finished b)
    without b after = record {
      paid = subst (AllPaid c) (sym after.at.printed) after.at.paid;
      names = after.at.names;
      frames = subst (λ (ls : List Line). AllByRecursion (SentFolded c ls) (finished b).frames) (sym after.at.printed) (appended (SentFolded c after.lines) b.frames b.replies after.at.frames after.at.replies);
      replica = subst (λ (ls : List Line). ReplicaAt c ls b.view.id b.view.service) (sym after.at.printed) after.at.replica;
      newest = after.at.newest;
    }

    by_partition : (o : Option PartitionTable) → partition_of c.partitions id ≡ o → StepAt c lines (finished (begins_first c o (begun_with (view_of c id journal checkpoints))))
    by_partition None e = without (begun_with (view_of c id journal checkpoints)) (as_it_was c lines lines (begun_with (view_of c id journal checkpoints)) fresh)
    by_partition (Some p) e =
        let service : Service = record { partition = p; attempts = 0; stage = Recovering (record { number = 0; ticks = 0; answers = []; choice = None }) } in
        without (begins c service (begun_with (view_of c id journal checkpoints))) (beginning c limited lines service (begun_with (view_of c id journal checkpoints)) lines fresh e)
