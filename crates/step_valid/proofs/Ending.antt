-- A step as a whole, and an opening.
use Rattle.std.proofs.Common.{◌≡◌, inl, inr, Bool, true, false, List, [], ◌∷◌, map, Option, Some, None, refl, sym, subst, arith}
use Rattle.std.specs.Prelude.{◌+◌, ◌%◌, ◌==◌, if◌then◌else◌}
use Rattle.std.specs.List.{AllByRecursion}
use Rattle.mrp_types.specs.declared.id.NodeId.{NodeId}
use Rattle.mrp_config.specs.Config.{Config, partition_of}
use Rattle.mrp_config.specs.declared.tables.RingTable.{RingTable}
use Rattle.mrp_config.specs.declared.tables.PartitionTable.{PartitionTable}
use Rattle.quorums.specs.Groups.{Has}
use Rattle.vote_state.specs.declared.change.Change.{Change}
use Rattle.vote_state.specs.State.{State, IsState}
use Rattle.vote_state.specs.Valid.{IsChange}
use Rattle.vote_state.proofs.StateLemmas.{filter_all, append_all, each_at, formed_taken}
use Rattle.vote_journal.specs.Journal.{Journal, recorded}
use Rattle.checkpoint.specs.Checkpoints.{Checkpoints}
use Rattle.plain_model.specs.StateBytes.{state_bytes}
use Rattle.ring_link.specs.Silence.{with_tick}
use Rattle.beside_rings.specs.Beside.{Untouched, changes_in}
use Rattle.beside_rings.proofs.Following.{Untouched-refl}
use Rattle.beside_rings.proofs.Recovered.{untouched_begins}
use Rattle.protocol.specs.Rings.{is_member, ring_of}
use Rattle.protocol.specs.Coordinator.{leads}
use Rattle.protocol.specs.Node.{StepSoFar, View, RingPart, Service, Stage, Recovering, Ready, Event, Ticks, Takes, Leads, work_of, begun_with, finished, part_at}
use Rattle.protocol.specs.Bases.{rebased, rebases}
use Rattle.protocol.specs.Learning.{applies_effects}
use Rattle.protocol.specs.Step.{at_acceptor, handles_from, step}
use Rattle.protocol.specs.Tick.{saves, is_due_to_save, saves_stage, saves_first, is_due_to_compact, compacts, beats, or_compacts, ticks}
use Rattle.protocol.specs.Opening.{part_of_ring, parts_of, view_of, begins_first, opened}
use Rattle.range_map.proofs.EntryLemmas.{increasing_entries_from}
use Rattle.step_valid.specs.Valid.{SentValid, IsLearned, MemberValid, ViewValid, AreNumbered, EventValid, StepValid}
use Rattle.step_valid.proofs.Going.{SoFarValid, untouched_valid}
use Rattle.step_valid.proofs.Dispatch.{from_goes, lead_goes, beats_go}

module _ (config : Config) where
  -- ---- the end

  rebased_valid : (id : NodeId) (service : Option Service) (parts : List RingPart) → AllByRecursion (MemberValid config id) parts → AllByRecursion (MemberValid config id) (map (rebased service) parts)
  rebased_valid id service [] all = tt
  rebased_valid id service (p ∷ parts) all =
      let v = all.0.part in (
        record { of_ring = all.0.of_ring; part = record { kept = v.kept; role = v.role; round = v.round; held = filter_all IsLearned _ p.part.learner.held v.held; ordered = increasing_entries_from 0 _ 0 p.part.learner.held v.ordered (inl (omega arith)) } },
        rebased_valid id service parts all.1,
      )

  state_after : (j : Journal) (cs : List Change) → IsState j.state → AllByRecursion IsChange cs → IsState (recorded j cs).state
  state_after j [] s all = s
  state_after j (c ∷ cs) s all = formed_taken (c ∷ cs) j.state s all

  in_work : (cs : List Change) → AllByRecursion IsChange cs → AllByRecursion IsChange (changes_in (work_of cs))
  in_work [] all = tt
  in_work (c ∷ cs) all = all

  finished_valid : (id : NodeId) (a : StepSoFar) → SoFarValid config id a → StepValid config id (finished a)
  finished_valid id a v = record {
    same_node = v.own;
    view = record {
      state = state_after a.view.journal a.changes v.state v.changes;
      parts = subst (λ (n : NodeId). AllByRecursion (MemberValid config n) a.view.parts) (sym v.own) v.parts;
    };
    changes = in_work a.changes v.changes;
    frames = append_all SentValid a.frames a.replies v.frames v.replies;
    lines = v.lines;
  }

  ended_valid : (id : NodeId) (a : StepSoFar) → SoFarValid config id a → StepValid config id (finished (rebases a))
  ended_valid id a v =
      finished_valid id (rebases a)
      (record {
        own = v.own;
        state = v.state;
        parts = rebased_valid id a.view.service a.view.parts v.parts;
        changes = v.changes;
        frames = v.frames;
        replies = v.replies;
        lines = v.lines;
      })

  -- ---- a step

  module _ (numbered : AreNumbered config) (view : View) (v : ViewValid config view) where
    begun : (other : View) → other.id ≡ view.id → other.journal ≡ view.journal → other.parts ≡ view.parts → SoFarValid config view.id (begun_with other)
    begun other own journal parts = record {
      own = own;
      state = subst (λ (j : Journal). IsState j.state) (sym journal) v.state;
      parts = subst (λ (l : List RingPart). AllByRecursion (MemberValid config view.id) l) (sym parts) v.parts;
      changes = tt;
      frames = tt;
      replies = tt;
      lines = tt;
    }

    tick_valid : StepValid config view.id (ticks config view)
    unfolding ticks
    tick_valid = by_service view.service
      where
        beaten : StepValid config view.id (finished (rebases (beats config view)))
        beaten =
            let now : View = record view { beat = view.beat + 1; link = with_tick view.link } in
            ended_valid view.id (beats config view)
            (beats_go config view.id numbered view.parts (view.beat + 1) ((view.beat + 1) % config.resend == 0) (begun_with now) (begun now refl refl refl))

        compacted : (b : Bool) → StepValid config view.id (if b then compacts view else finished (rebases (beats config view)))
        compacted true = record { same_node = refl; view = record { state = v.state; parts = v.parts }; changes = tt; frames = tt; lines = tt }
        compacted false = beaten

        rest : StepValid config view.id (or_compacts config view None)
        rest = compacted (is_due_to_compact config view)

        by_stage : (service : Service) (stage : Stage) → StepValid config view.id (or_compacts config view (saves_stage config view service stage))
        by_stage service (Recovering attempt) = rest
        by_stage service (Ready standing) = go (is_due_to_save config view standing)
          where
            go : (b : Bool) → StepValid config view.id (or_compacts config view (if b then Some (saves view service standing (state_bytes standing.replica)) else None))
            go true = record { same_node = refl; view = record { state = v.state; parts = v.parts }; changes = tt; frames = tt; lines = (tt, tt) }
            go false = rest

        by_service : (o : Option Service) → StepValid config view.id (or_compacts config view (saves_first config view o))
        by_service None = rest
        by_service (Some service) = by_stage service service.stage

    pub step_valid : (event : Event) → EventValid event → StepValid config view.id (step config view event)
    unfolding step
    step_valid Ticks is = tick_valid
    step_valid (Takes frame) is =
        ended_valid view.id (handles_from config frame.from frame.body (begun_with view))
        (from_goes config view.id numbered frame.from frame.body is (begun_with view) (begun view refl refl refl))
    step_valid (Leads fr) is =
        ended_valid view.id (at_acceptor (λ r part b. applies_effects config r (leads r b.view.link part) b) (part_at view fr) (begun_with view))
        (lead_goes config view.id numbered fr (begun_with view) (begun view refl refl refl))

  -- ---- an opening

  opened_parts : (id : NodeId) (state : State) → IsState state → (tables : List RingTable) → ((t : RingTable) → Has tables t → Has config.rings t)
      → AllByRecursion (MemberValid config id) (parts_of config id state tables)
  opened_parts id state s [] listed = tt
  opened_parts id state s (t ∷ tables) listed = go (is_member (ring_of config id t)) refl (opened_parts id state s tables (λ x there. listed x (inr there)))
    where
      go : (b : Bool) → is_member (ring_of config id t) ≡ b → AllByRecursion (MemberValid config id) (parts_of config id state tables)
          → AllByRecursion (MemberValid config id) (if b then part_of_ring state (ring_of config id t) ∷ parts_of config id state tables else parts_of config id state tables)
      go false e rest = rest
      go true e rest = (
        record {
          of_ring = record { table = t; listed = listed t (inl refl); same = refl; member = e };
          part = record { kept = each_at state.rings t.id.0 s.each; role = tt; round = tt; held = tt; ordered = tt };
        },
        rest,
      )

  pub opened_valid : (id : NodeId) (journal : Journal) (checkpoints : Checkpoints) → IsState journal.state → StepValid config id (opened config id journal checkpoints)
  unfolding opened
  opened_valid id journal checkpoints s =
      let first : StepSoFar = begun_with (view_of config id journal checkpoints) in
      finished_valid id (begins_first config (partition_of config.partitions id) first)
      (untouched_valid config id first (begins_first config (partition_of config.partitions id) first) (begins (partition_of config.partitions id) first)
      (record { own = refl; state = s; parts = opened_parts id journal.state s config.rings (λ t there. there); changes = tt; frames = tt; replies = tt; lines = tt }))
    where
      begins : (o : Option PartitionTable) (a : StepSoFar) → Untouched a (begins_first config o a)
      begins None a = Untouched-refl a
      begins (Some partition) a = untouched_begins config (record { partition = partition; attempts = 0; stage = Recovering (record { number = 0; ticks = 0; answers = []; choice = None }) }) a
