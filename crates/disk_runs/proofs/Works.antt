-- The work of each step of a run may be done.
use Rattle.std.proofs.Common.{◌≡◌, ℕ, ◌-◌, ◌*◌, ◌<◌, ◌^◌, nat_lt, nat_le, ◌&&◌, Bool, true, false, List, [], ◌∷◌, length, Option, Some, None, inl, inr, refl, sym, subst, arith}
use Rattle.std.specs.Prelude.{if◌then◌else◌}
use Rattle.std.specs.List.{AllByRecursion}
use Rattle.std.proofs.lemmas.Bool.{ltb-true, ltb-false}
use Rattle.mrp_types.specs.declared.id.NodeId.{NodeId}
use Rattle.mrp_types.specs.declared.id.RingId.{RingId}
use Rattle.mrp_types.specs.declared.value.Entry.{Entry}
use Rattle.mrp_config.specs.Config.{Config, has_node, partition_of}
use Rattle.quorums.specs.Groups.{Has}
use Rattle.mrp_config.specs.Valid.{IsValid, IsPartition}
use Rattle.mrp_config.specs.Walk.{node_ids, ring_ids}
use Rattle.mrp_config.specs.declared.tables.PartitionTable.{PartitionTable}
use Rattle.disk_model.specs.Calls.{Told}
use Rattle.gate_log.specs.Records.{end_of}
use Rattle.plain_model.proofs.TupleOrder.{split_and}
use Rattle.plain_model.specs.StateBytes.{state_bytes}
use Rattle.plain_model.specs.Tuples.{round_sizes, is_tuple_of}
use Rattle.vote_state.specs.declared.change.Change.{Change}
use Rattle.vote_state.specs.declared.change.Change.TheVariants.{Epoch, Promise, Vote, Trim}
use Rattle.vote_state.specs.Valid.{IsChange}
use Rattle.vote_journal.specs.Epochs.{epochs_rise}
use Rattle.vote_journal.specs.Journal.{recorded_end, compact_record}
use Rattle.beside_rings.specs.Beside.{changes_in}
use Rattle.protocol.specs.Node.{View, Service, Stage, Recovering, Ready, Standing, Event, Ticks, Takes, Leads, Work, Nothing, Records, Saves, Compacts, work_of, begun_with, finished, part_at, is_full}
use Rattle.protocol.specs.Bases.{rebases}
use Rattle.protocol.specs.Coordinator.{leads}
use Rattle.protocol.specs.Learning.{applies_effects}
use Rattle.protocol.specs.Step.{at_acceptor, handles_from, step}
use Rattle.protocol.specs.Tick.{saves, is_due_to_save, saves_stage, saves_first, is_due_to_compact, compacts, beats, or_compacts, ticks}
use Rattle.faithful.proofs.Quorum.{all_has}
use Rattle.bare_world.specs.Worlds as bare
use Rattle.bare_world.specs.Runs.{MayCome, MayRun}
use Rattle.step_valid.specs.Valid.{ViewValid, StepValid}
use Rattle.step_valid.proofs.Ending.{step_valid}
use Rattle.valid_runs.specs.Worlds.{HostValid}
use Rattle.valid_runs.proofs.Running.{numbered, event_valid, runs_valid}
use Rattle.ask_laws.specs.Carried.{StageKeeps, ServiceKeeps, ReplicaKeeps, ViewCarries, ChangeCarries, WorkCarries, StepCarries, HostCarries}
use Rattle.ask_laws.proofs.Given.{entry_of_bytes}
use Rattle.state_laws.specs.States.{IsSound}
use Rattle.state_laws.proofs.Bytes.{sound_short}
use Rattle.mrp_types.specs.Tuples.{IsTuple}
use Rattle.ask_laws.specs.Asks.{asked_in, IsAsked}
use Rattle.ask_laws.proofs.Hosts.{came_carries}
use Rattle.ask_laws.proofs.Stepping.{step_carries}
use Rattle.ask_laws.proofs.Worlds.{all_keep}
use Rattle.line_runs.specs.Invariant.{node}
use Rattle.line_runs.proofs.Laws.{service_lines, ready_lines}
use Rattle.disk_states.specs.Works.{MayWork}
use Rattle.bare_ties.specs.Ties.{UpTies}
use Rattle.disk_runs.specs.Runs.{world_after}
use Rattle.disk_runs.proofs.Frames.{Works}
use Rattle.disk_runs.proofs.Tuples.{known_spelled}

-- ---- what a step asks for

pub record IsSave (config : Config) (view : View) (tuple : List (RingId × ℕ)) (state : List ℕ) : Type 0 where
  pub service : Service
  pub standing : Standing
  pub there : view.service ≡ Some service
  pub ready : service.stage ≡ Ready standing
  pub at : tuple ≡ standing.tuple
  pub written : state ≡ state_bytes standing.replica
  pub due : is_due_to_save config view standing ≡ true

abbrev pub IsOfStep : Config → View → Work → Type 0
IsOfStep config view Nothing = Unit {0}
IsOfStep config view (Records changes) = Unit {0}
IsOfStep config view (Saves tuple state) = IsSave config view tuple state
IsOfStep config view Compacts = is_due_to_compact config view ≡ true

module _ (config : Config) (view : View) where
  of_changes : (changes : List Change) → IsOfStep config view (work_of changes)
  of_changes [] = tt
  of_changes (c ∷ cs) = tt

  of_ticks : IsOfStep config view (ticks config view).work
  unfolding ticks
  of_ticks = by_service view.service refl
    where
      third : (due : Bool) → is_due_to_compact config view ≡ due → IsOfStep config view (if due then compacts view else finished (rebases (beats config view))).work
      third true is = is
      third false is = of_changes (beats config view).changes

      or_third : IsOfStep config view (or_compacts config view None).work
      or_third = third (is_due_to_compact config view) refl

      by_due : (service : Service) (standing : Standing) → view.service ≡ Some service → service.stage ≡ Ready standing → (due : Bool) → is_due_to_save config view standing ≡ due
          → IsOfStep config view (or_compacts config view (if due then Some (saves view service standing (state_bytes standing.replica)) else None)).work
      by_due service standing there ready true is = record { service = service; standing = standing; there = there; ready = ready; at = refl; written = refl; due = is }
      by_due service standing there ready false is = or_third

      by_stage : (service : Service) → view.service ≡ Some service → (stage : Stage) → service.stage ≡ stage → IsOfStep config view (or_compacts config view (saves_stage config view service stage)).work
      by_stage service there (Recovering attempt) is = or_third
      by_stage service there (Ready standing) is = by_due service standing there is (is_due_to_save config view standing) refl

      by_service : (o : Option Service) → view.service ≡ o → IsOfStep config view (or_compacts config view (saves_first config view o)).work
      by_service None there = or_third
      by_service (Some service) there = by_stage service there service.stage refl

  pub of_step : (event : Event) → IsOfStep config view (step config view event).work
  unfolding step
  of_step Ticks = of_ticks
  of_step (Takes frame) = of_changes (handles_from config frame.from frame.body (begun_with view)).changes
  of_step (Leads ring) = of_changes (at_acceptor (λ r part a. applies_effects config r (leads r a.view.link part) a) (part_at view ring) (begun_with view)).changes

-- ---- records have no epoch

rise_without : (Is : ℕ → Entry → Type 0) (changes : List Change) → AllByRecursion (ChangeCarries Is) changes → (epoch : ℕ) → epochs_rise epoch changes ≡ true
rise_without Is [] each epoch = refl
rise_without Is (Epoch e ∷ changes) each epoch = absurd each.0
rise_without Is (Promise ring ballot ∷ changes) each epoch = rise_without Is changes each.1 epoch
rise_without Is (Vote ring v ∷ changes) each epoch = rise_without Is changes each.1 epoch
rise_without Is (Trim ring inst ∷ changes) each epoch = rise_without Is changes each.1 epoch

-- the partition of a node is one of the deployment
pub listed : (partitions : List PartitionTable) (id : NodeId) (p : PartitionTable) → partition_of partitions id ≡ Some p → Has partitions p
listed [] id p e = absurd cc
listed (x ∷ partitions) id p e = by (has_node x.replicas id.0) e (λ later. listed partitions id p later)
  where
    by : (t : Bool) → (if t then Some x else partition_of partitions id) ≡ Some p → (partition_of partitions id ≡ Some p → Has partitions p) → Has (x ∷ partitions) p
    by true found rest = inl (let same : x ≡ p = cc in sym same)
    by false found rest = inr (rest found)

-- ---- it may be done

module _ (config : Config) (valid : IsValid config) (past : List bare.Happening) (ran : MayRun config bare.nothing past) (id : NodeId) (view : View)
    (here : (world_after config past).hosts id.0 ≡ bare.Up view) where
  view_valid : ViewValid config view
  view_valid = subst (λ (h : bare.Host). HostValid config h) here ((runs_valid config valid past ran).hosts id.0)

  view_carries : ViewCarries (IsAsked config (asked_in config past)) (IsValid config) view
  view_carries = subst (λ (h : bare.Host). HostCarries (IsAsked config (asked_in config past)) (IsValid config) h) here ((all_keep config past ran).carried.hosts id.0)

  -- what a ready replica keeps
  pub sound_of : (service : Service) (standing : Standing) → view.service ≡ Some service → service.stage ≡ Ready standing → IsSound service.partition standing.replica
  sound_of service standing there ready =
      let keeps : ServiceKeeps service = subst (λ (o : Option Service). ReplicaKeeps o) there (view_carries.replica valid) in
      subst (λ (stage : Stage). StageKeeps service.partition stage) ready keeps.stage

  pub own_of : (service : Service) → view.service ≡ Some service → partition_of config.partitions (node id.0) ≡ Some service.partition
  own_of service there = (service_lines config past (record { valid = valid; may = ran }) id.0 view service here there).own.replica

  pub tuple_of : (service : Service) (standing : Standing) → view.service ≡ Some service → service.stage ≡ Ready standing → is_tuple_of (round_sizes config) service.partition.rings standing.tuple ≡ true
  tuple_of service standing there ready = (ready_lines config past (record { valid = valid; may = ran }) id.0 view service standing here there ready).valid

  save_may : (tuple : List (RingId × ℕ)) (state : List ℕ) → IsSave config view tuple state → MayWork view (Saves tuple state)
  save_may tuple state is =
      let lines = ready_lines config past (record { valid = valid; may = ran }) id.0 view is.service is.standing here is.there is.ready in
      let partition = all_has (IsPartition (node_ids config.nodes) (ring_ids config.rings)) config.partitions is.service.partition valid.partitions.each (listed config.partitions (node id.0) is.service.partition (own_of is.service is.there)) in
      let due = split_and (nat_lt view.checkpoints.generation (2 ^ 64 - 1)) (nat_le config.checkpoint is.standing.delivered) is.due in
      record {
        spelled = subst (λ (k : List (RingId × ℕ)). IsTuple k) (sym is.at)
            (known_spelled config (world_after config past).lines (runs_valid config valid past ran).lines (node_ids config.nodes) (ring_ids config.rings) is.service.partition partition (round_sizes config) is.standing.tuple lines.valid lines.known);
        size = subst (λ (bytes : List ℕ). length bytes < 2 ^ 64) (sym is.written) (sound_short is.service.partition is.standing.replica (sound_of is.service is.standing is.there is.ready));
        generation = ltb-true view.checkpoints.generation (2 ^ 64 - 1) due.0;
      }

  pub may_work : (t : Told) → UpTies config id view t → (event : Event) → MayCome (world_after config past) id event → is_full view (step config view event).work ≡ false → MayWork view (step config view event).work
  may_work t up event come room = by (step config view event).work (of_step config view event) made.changes carried.work room
    where
      limited : view.journal.log.limit < 2 ^ 32
      limited = let most = valid.journal.1 in omega (arith, up.limit, most)

      made : StepValid config view.id (step config view event)
      made = step_valid config (numbered config valid) view view_valid event (event_valid config (numbered config valid) (world_after config past) id event come (runs_valid config valid past ran))

      carried : StepCarries (IsAsked config (asked_in config past)) (IsValid config) (step config view event)
      carried = step_carries (IsAsked config (asked_in config past)) (IsValid config) (λ r e is. is.entry) (λ deployed r e is. entry_of_bytes config (asked_in config past) deployed r e is) config view event view_carries
          (came_carries (IsAsked config (asked_in config past)) (IsValid config) (world_after config past) id event come (all_keep config past ran).carried)

      by : (work : Work) → IsOfStep config view work → AllByRecursion IsChange (changes_in work) → WorkCarries (IsAsked config (asked_in config past)) work → is_full view work ≡ false → MayWork view work
      by Nothing is each entries fits = tt
      by (Records changes) is each entries fits = record {
        each = each;
        rise = rise_without (IsAsked config (asked_in config past)) changes entries view.journal.state.epoch;
        room = ltb-false view.journal.log.limit (recorded_end view.journal changes) fits;
        limit = limited;
      }
      by (Saves tuple state) is each entries fits = save_may tuple state is
      by Compacts is each entries fits = record {
        state = view_valid.state;
        epoch = up.epoch;
        generation = ltb-true view.journal.log.generation (2 ^ 64 - 1)
            (split_and (nat_lt view.journal.log.generation (2 ^ 64 - 1)) (nat_le config.journal (2 * view.journal.log.end) && nat_le (2 * view.journal.log.base_end) view.journal.log.end) is).0;
        room = ltb-false view.journal.log.limit (end_of (compact_record view.journal ∷ [])) fits;
        limit = limited;
      }

pub all_work : (config : Config) → IsValid config → Works config
all_work config valid past ran w ties id event come view t here up room = may_work config valid past ran id view here t up event come room
