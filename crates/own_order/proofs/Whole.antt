-- Steps, the opening, and a node's life.
use Rattle.std.proofs.Common.{◌≡◌, ℕ, ◌+◌, ◌%◌, Bool, true, false, List, [], ◌∷◌, ◌++◌, Option, Some, None, refl, sym, ◌∙◌, ap, subst, append-nil}
use Rattle.std.specs.Prelude.{◌==◌, filter, if◌then◌else◌, map}
use Rattle.std.specs.List.{AllByRecursion}
use Rattle.std.proofs.lemmas.List.Elements.{filter-append}
use Rattle.mrp_types.specs.declared.id.NodeId.{NodeId}
use Rattle.mrp_types.specs.declared.id.Party.{Party}
use Rattle.mrp_types.specs.declared.id.Party.TheVariants.{Node, Client}
use Rattle.mrp_config.specs.Config.{Config, partition_of}
use Rattle.mrp_config.specs.declared.tables.PartitionTable.{PartitionTable}
use Rattle.mrp_config.specs.declared.tables.RingTable.{RingTable}
use Rattle.frames.specs.declared.body.Body.{Body}
use Rattle.frames.specs.declared.body.Body.TheVariants.{Submit}
use Rattle.checkpoint.specs.Checkpoints.{Checkpoints}
use Rattle.ring_link.specs.Silence.{Link, with_heard, with_tick}
use Rattle.step_valid.proofs.Listed.{all_mapped}
use Rattle.vote_journal.specs.Journal.{Journal}
use Rattle.vote_state.proofs.StateLemmas.{filter_all}
use Rattle.vote_state.specs.State.{State}
use Rattle.plain_model.specs.StateBytes.{state_bytes}
use Rattle.protocol.specs.Recovery.{begins}
use Rattle.protocol.specs.Bases.{rebased, rebases}
use Rattle.protocol.specs.Lines.{Line}
use Rattle.protocol.specs.Node.{Event, Leads, Recovering, Ready, RingPart, Service, Stage, Standing, StepSoFar, Stepped, Takes, Ticks, View, begun_with, finished}
use Rattle.protocol.specs.Opening.{begins_first, opened, part_of_ring, parts_of, view_of}
use Rattle.protocol.specs.Rings.{is_member, ring_of}
use Rattle.protocol.specs.Step.{handles_from, step}
use Rattle.protocol.specs.Tick.{beats, compacts, is_due_to_compact, is_due_to_save, or_compacts, saves, saves_first, saves_stage, ticks}
use Rattle.quiet_rules.proofs.Words.{by_test}
use Rattle.own_order.specs.Order.{AreOwn, Deed, KeepsOrder, Lived, Point, after_event, goes_on, is_of_order, life, lines_by, point_by, point_of, point_of_stage}
use Rattle.own_order.proofs.After.{After, EntryLearned, Ground, PartLearned, Serves, lines_joined, own_joined, own_more, parts_more, points_joined, stays}
use Rattle.own_order.proofs.Recovering.{beginning}
use Rattle.own_order.proofs.Stepping.{beats_go, body_goes, leads_go, submit_goes}

module _ (c : Config) (id : NodeId) (p : PartitionTable) where
  -- what a node is between two steps
  record IsHost (ls : List Line) (view : View) : Type 0 where
    mine : view.id ≡ id
    serves : Serves c id p view.service
    learned : AllByRecursion (PartLearned c id p ls) view.parts

  -- some deeds of a step, after these lines
  record StepDeeds (before : List Line) (o : Option Point) (made : Stepped) : Type 0 where
    deeds : List Deed
    told : filter is_of_order made.lines ≡ lines_by c id p o deeds
    point : point_of made.view.service ≡ point_by c p o deeds
    own : AreOwn c id p (before ++ made.lines) o deeds
    host : IsHost (before ++ made.lines) made.view

  -- ---- the end of a step

  module _ (before : List Line) where
    base_learned : (ls : List Line) (service : Option Service) (parts : List RingPart) → AllByRecursion (PartLearned c id p ls) parts → AllByRecursion (PartLearned c id p ls) (map (rebased service) parts)
    base_learned ls service parts all =
        all_mapped (rebased service) (PartLearned c id p ls) (PartLearned c id p ls) (λ q held. filter_all (EntryLearned c id p ls q.ring.id) _ q.part.learner.held held) parts all

    ended : (o : Option Point) (b : StepSoFar) → After c id p before o [] b → StepDeeds before o (finished (rebases b))
    ended o b after = record {
      deeds = after.deeds;
      told = ap (λ (ls : List Line). filter is_of_order ls) after.printed ∙ after.told;
      point = after.point;
      own = after.own;
      host = record { mine = after.ground.mine; serves = after.ground.serves; learned = base_learned (before ++ b.lines) b.view.service b.view.parts after.ground.learned };
    }

    -- ---- a step

    module _ (view : View) (h : IsHost before view) where
      begun : (link : Link) (beat : ℕ) → Ground c id p before (begun_with (record view { link = link; beat = beat }))
      begun link beat = record { mine = h.mine; serves = h.serves; learned = subst (λ (ls : List Line). AllByRecursion (PartLearned c id p ls) view.parts) (sym (append-nil before)) h.learned }

      -- a tick that leaves the replica where it stands
      same_host : (new : List Line) (service : Option Service) → Serves c id p service → (made : Stepped) → made.lines ≡ new → made.view.id ≡ view.id → made.view.service ≡ service → made.view.parts ≡ view.parts
          → IsHost (before ++ made.lines) made.view
      same_host new service serves made lines own there parts = record {
        mine = own ∙ h.mine;
        serves = subst (Serves c id p) (sym there) serves;
        learned = subst (λ (qs : List RingPart). AllByRecursion (PartLearned c id p (before ++ made.lines)) qs) (sym parts) (parts_more c id p before made.lines view.parts h.learned);
      }

      saved : (service : Service) (standing : Standing) (state : List ℕ) → service.partition ≡ p → StepDeeds before (Some (record { tuple = standing.tuple; replica = standing.replica })) (saves view service standing state)
      saved service standing state same = record {
        deeds = [];
        told = refl;
        point = refl;
        own = tt;
        host = same_host (saves view service standing state).lines (saves view service standing state).view.service same (saves view service standing state) refl refl refl refl;
      }

      abbrev SavedOr : Option Stepped → Type 0
      SavedOr None = Unit {0}
      SavedOr (Some made) = StepDeeds before (point_of view.service) made

      saves_or : SavedOr (saves_first c view view.service)
      saves_or = by_service view.service h.serves refl
        where
          by_due : (service : Service) (standing : Standing) (due : Bool) → service.partition ≡ p → point_of view.service ≡ Some (record { tuple = standing.tuple; replica = standing.replica })
              → SavedOr (if due then Some (saves view service standing (state_bytes standing.replica)) else None)
          by_due service standing false same at = tt
          by_due service standing true same at =
              subst (λ (o : Option Point). StepDeeds before o (saves view service standing (state_bytes standing.replica))) (sym at) (saved service standing (state_bytes standing.replica) same)

          by_stage : (service : Service) (stage : Stage) → service.partition ≡ p → point_of view.service ≡ point_of_stage stage → SavedOr (saves_stage c view service stage)
          by_stage service (Recovering attempt) same at = tt
          by_stage service (Ready standing) same at = by_due service standing (is_due_to_save c view standing) same at

          by_service : (o : Option Service) → Serves c id p o → point_of view.service ≡ point_of o → SavedOr (saves_first c view o)
          by_service None same at = tt
          by_service (Some service) same at = by_stage service service.stage same at

      ticked_deeds : StepDeeds before (point_of view.service) (ticks c view)
      unfolding ticks
      ticked_deeds = by_saved (saves_first c view view.service) saves_or
        where
          by_compact : (t : Bool) → StepDeeds before (point_of view.service) (if t then compacts view else finished (rebases (beats c view)))
          by_compact true = record { deeds = []; told = refl; point = refl; own = tt; host = same_host [] view.service h.serves (compacts view) refl refl refl refl }
          by_compact false = ended (point_of view.service) (beats c view)
              (beats_go c id p before view.parts (view.beat + 1) ((view.beat + 1) % c.resend == 0) (begun_with (record view { beat = view.beat + 1; link = with_tick view.link })) (begun (with_tick view.link) (view.beat + 1)))

          by_saved : (o : Option Stepped) → SavedOr o → StepDeeds before (point_of view.service) (or_compacts c view o)
          by_saved None s = by_compact (is_due_to_compact c view)
          by_saved (Some made) s = s

      from_deeds : (party : Party) (body : Body) → After c id p before (point_of view.service) [] (handles_from c party body (begun_with view))
      from_deeds (Node from) body = body_goes c id p before (begun_with (record view { link = with_heard from.0 view.link })) (begun (with_heard from.0 view.link) view.beat) from body
      from_deeds (Client from) body = by_body body
        where
          by_body : (body : Body) → After c id p before (point_of view.service) [] (handles_from c (Client from) body (begun_with view))
          by_body (Submit ring hops client seq command) = submit_goes c id p before ring hops client seq command (begun_with view) (begun view.link view.beat)
          by_body other = stays c id p before (begun_with view) (begun view.link view.beat)

      step_deeds : (event : Event) → StepDeeds before (point_of view.service) (step c view event)
      unfolding step
      step_deeds Ticks = ticked_deeds
      step_deeds (Takes frame) = ended (point_of view.service) (handles_from c frame.from frame.body (begun_with view)) (from_deeds frame.from frame.body)
      step_deeds (Leads ring) = ended (point_of view.service) _ (leads_go c id p before ring (begun_with view) (begun view.link view.beat))

  -- ---- an opening

  fresh_parts : (ls : List Line) (state : State) (rings : List RingTable) → AllByRecursion (PartLearned c id p ls) (parts_of c id state rings)
  fresh_parts ls state [] = tt
  fresh_parts ls state (ring ∷ rings) =
      by_test (AllByRecursion (PartLearned c id p ls)) (is_member (ring_of c id ring)) (part_of_ring state (ring_of c id ring) ∷ parts_of c id state rings) (parts_of c id state rings)
      (λ e. (tt, fresh_parts ls state rings)) (fresh_parts ls state rings)

  opened_deeds : partition_of c.partitions id ≡ Some p → (journal : Journal) (checkpoints : Checkpoints) → StepDeeds [] None (opened c id journal checkpoints)
  unfolding opened
  opened_deeds replica journal checkpoints =
      subst (λ (o : Option PartitionTable). StepDeeds [] None (finished (begins_first c o start))) (sym replica) (without (begins c service start) (beginning c id p [] service start refl ground))
    where
      start : StepSoFar
      start = begun_with (view_of c id journal checkpoints)

      service : Service
      service = record { partition = p; attempts = 0; stage = Recovering (record { number = 0; ticks = 0; answers = []; choice = None }) }

      ground : Ground c id p [] start
      ground = record { mine = refl; serves = tt; learned = fresh_parts [] journal.state c.rings }

      without : (b : StepSoFar) → After c id p [] None [] b → StepDeeds [] None (finished b)
      without b after = record {
        deeds = after.deeds;
        told = ap (λ (ls : List Line). filter is_of_order ls) after.printed ∙ after.told;
        point = after.point;
        own = after.own;
        host = record { mine = after.ground.mine; serves = after.ground.serves; learned = after.ground.learned };
      }

  -- ---- a life

  record Lives (l : Lived) : Type 0 where
    order : KeepsOrder c id p l
    host : IsHost l.lines l.view

  one_event : (l : Lived) (event : Event) → Lives l → Lives (after_event c l event)
  one_event l event lives = record {
    order = record {
      deeds = lives.order.deeds ++ made.deeds;
      lines = filter-append is_of_order l.lines (step c l.view event).lines ∙ ap (λ (ls : List Line). ls ++ filter is_of_order (step c l.view event).lines) lives.order.lines
          ∙ ap (λ (ls : List Line). lines_by c id p None lives.order.deeds ++ ls) (made.told ∙ ap (λ (o : Option Point). lines_by c id p o made.deeds) lives.order.point)
          ∙ sym (lines_joined c id p None lives.order.deeds made.deeds);
      point = made.point ∙ ap (λ (o : Option Point). point_by c p o made.deeds) lives.order.point ∙ sym (points_joined c id p None lives.order.deeds made.deeds);
      own = own_joined c id p (l.lines ++ (step c l.view event).lines) None lives.order.deeds made.deeds (own_more c id p l.lines (step c l.view event).lines None lives.order.deeds lives.order.own)
          (subst (λ (o : Option Point). AreOwn c id p (l.lines ++ (step c l.view event).lines) o made.deeds) lives.order.point made.own);
    };
    host = made.host;
  }
    where
      made : StepDeeds l.lines (point_of l.view.service) (step c l.view event)
      made = step_deeds l.lines l.view lives.host event

  lives_on : (events : List Event) (l : Lived) → Lives l → Lives (goes_on c events l)
  lives_on [] l lives = lives
  lives_on (event ∷ events) l lives = lives_on events (after_event c l event) (one_event l event lives)

  pub keeps_order : partition_of c.partitions id ≡ Some p → (journal : Journal) (checkpoints : Checkpoints) (events : List Event) → KeepsOrder c id p (life c id journal checkpoints events)
  keeps_order replica journal checkpoints events =
      let made = opened_deeds replica journal checkpoints in
      let lives : Lives (record { view = (opened c id journal checkpoints).view; lines = (opened c id journal checkpoints).lines }) =
      record { order = record { deeds = made.deeds; lines = made.told; point = made.point; own = made.own }; host = made.host } in
      (lives_on events (record { view = (opened c id journal checkpoints).view; lines = (opened c id journal checkpoints).lines }) lives).order
