-- What happens at a node on its disk happens at a node without bytes.
use Rattle.std.proofs.Common.{◌≡◌, ◌<◌, ◌^◌, ◌==◌, Bool, true, false, List, [], ◌∷◌, ◌++◌, Option, Some, None, refl, sym, ap, ◌∙◌, subst}
use Rattle.std.specs.Prelude.{if◌then◌else◌}
use Rattle.mrp_types.specs.declared.id.NodeId.{NodeId}
use Rattle.mrp_config.specs.Config.{Config}
use Rattle.disk_model.specs.declared.areas.Areas.{Areas}
use Rattle.disk_model.specs.declared.plan.Plan.{Plan}
use Rattle.disk_model.specs.Calls.{Told, IsImage}
use Rattle.disk_model.specs.Sim.{Sim}
use Rattle.plain_model.proofs.TupleOrder.{same_number}
use Rattle.protocol.specs.Lines.{Line, Cause, Crash, Full}
use Rattle.protocol.specs.Lines as line
use Rattle.protocol.specs.Node.{Event, View, Stepped, is_full}
use Rattle.protocol.specs.Opening.{opened}
use Rattle.protocol.specs.Step.{step}
use Rattle.bare_world.specs.Worlds as bare
use Rattle.bare_world.specs.Runs.{IsNode, MayCome, MayOpenAt, MayLeaveAt, MayRun}
use Rattle.world_model.specs.Disks.{no_plan, with_plan}
use Rattle.world_model.specs.Worlds.{Host, Up, Down, World, Outcome, node_at, with_node, stepped_as, steps_as, steps, crashes, comes_back, faults_at, faults}
use Rattle.disk_states.specs.Works.{MayWork}
use Rattle.bare_ties.specs.Ties.{UpTies, DownTies, HostTies, fallen, gone_on, StepEnds, Ended, Broke, Filled, OpenEnds, Opened, Failed}
use Rattle.bare_ties.proofs.Stepping.{crashed, a_step}
use Rattle.bare_ties.proofs.Opening.{comes_back_ends}
use Rattle.disk_runs.specs.Runs.{NodeTies, WorldTies, world_after, GoesOn}
use Rattle.disk_runs.proofs.Going.{by_none, by_one}
use Rattle.disk_runs.proofs.Tying.{nodes_put, sent_ties}

module _ (config : Config) where
  -- a node goes down in both
  fallen_ties : (w : World) (b : bare.World) → WorldTies config w b → (id : NodeId) (told : Told) (cause : Cause) (durable pending : bare.Possible) → IsNode config id → DownTies id told durable pending
      → WorldTies config (fallen id told cause w).world (bare.goes_down id cause durable pending b)
  fallen_ties w b ties id told cause durable pending there down =
      record { nodes = nodes_put config w b.hosts id (Down told no_plan) (bare.Down durable pending) ties.nodes there down; clients = ties.clients; frames = ties.frames }

  -- a node goes on in both
  gone_ties : (w : World) (b : bare.World) → WorldTies config w b → (id : NodeId) (before : List Line) (made : Stepped) (disk : Sim) → IsNode config id → UpTies config id made.view disk.told
      → WorldTies config (gone_on id before made disk w).world (bare.after_step id before made b)
  gone_ties w b ties id before made disk there up =
      sent_ties config made.frames (with_node id (Up made.view disk) w) (bare.after_step id before made b)
      (nodes_put config w b.hosts id (Up made.view disk) (bare.Up made.view) ties.nodes there (refl, up)) ties.clients (ap (λ frames. frames ++ made.frames) ties.frames)

  module _ (past : List bare.Happening) (ran : MayRun config bare.nothing past) (w : World) (ties : WorldTies config w (world_after config past)) (id : NodeId) where
    abbrev b : bare.World
    b = world_after config past

    -- ---- a step

    -- each step's work may be done
    abbrev pub WorksAt : Event → Type 0
    WorksAt event = (view : View) (t : Told) → b.hosts id.0 ≡ bare.Up view → UpTies config id view t → is_full view (step config view event).work ≡ false → MayWork view (step config view event).work

    step_ended : (event : Event) → MayCome b id event → IsNode config id → (view : View) (t : Told) → b.hosts id.0 ≡ bare.Up view → UpTies config id view t → (o : Outcome) → StepEnds config id view t (step config view event) w o
        → GoesOn config past o
    step_ended event come there view t here up o (Ended disk is now) =
        let made = step config view event in
        subst (λ (x : Outcome). GoesOn config past x) (sym is)
        (by_one config past ran (bare.Steps id event) come tt (bare.stepped id made b) (ap (λ (h : bare.Host). bare.steps_as config id event h b) here) (gone_on id [] made disk w)
        (let on = gone_ties w b ties id [] made disk there now in record { nodes = on.nodes; clients = on.clients; frames = on.frames }) refl)
    step_ended event come there view t here up o (Broke told cause is down) =
        let made = step config view event in
        subst (λ (x : Outcome). GoesOn config past x) (sym is)
        (by_one config past ran (bare.Breaks id event cause) come tt (bare.goes_down id cause (bare.possible_of view) (bare.possible_of made.view) b)
        (ap (λ (h : bare.Host). bare.breaks_as config id event cause h b) here) (fallen id told cause w)
        (fallen_ties w b ties id told cause (bare.possible_of view) (bare.possible_of made.view) there down) refl)
    step_ended event come there view t here up o (Filled is down) =
        subst (λ (x : Outcome). GoesOn config past x) (sym is)
        (by_one config past ran (bare.Crashes id Full) tt tt (bare.goes_down id Full (bare.possible_of view) (bare.possible_of view) b)
        (ap (λ (h : bare.Host). bare.crashes_as id Full h b) here) (fallen id t Full w)
        (fallen_ties w b ties id t Full (bare.possible_of view) (bare.possible_of view) there down) refl)

    -- what the world without bytes has where a node is up, and where one is down
    record IsUp (view : View) (t : Told) : Type 0 where
      here : b.hosts id.0 ≡ bare.Up view
      up : UpTies config id view t

    is_up : (view : View) (disk : Sim) (other : bare.Host) → b.hosts id.0 ≡ other → HostTies config id (Up view disk) other → IsUp view disk.told
    is_up view disk (bare.Up x) here tied = record { here = here ∙ ap bare.Up tied.0; up = tied.1 }
    is_up view disk (bare.Down durable pending) here tied = absurd tied

    record IsDown (told : Told) : Type 0 where
      durable : bare.Possible
      pending : bare.Possible
      here : b.hosts id.0 ≡ bare.Down durable pending
      down : DownTies id told durable pending

    is_down : (told : Told) (plan : Plan) (other : bare.Host) → b.hosts id.0 ≡ other → HostTies config id (Down told plan) other → IsDown told
    is_down told plan (bare.Up x) here tied = absurd tied
    is_down told plan (bare.Down durable pending) here tied = record { durable = durable; pending = pending; here = here; down = tied }

    pub step_goes : (event : Event) → MayCome b id event → WorksAt event → GoesOn config past (steps config event id w)
    step_goes event come works = by (node_at w id) (ties.nodes id)
      where
        by : (o : Option Host) → NodeTies config id o (b.hosts id.0) → GoesOn config past (steps_as config id event o w)
        by None tied = by_none config past ran w ties
        by (Some (Down told plan)) tied = by_none config past ran w ties
        by (Some (Up view disk)) tied =
            let is = is_up view disk (b.hosts id.0) refl tied.1 in
            step_ended event come tied.0 view disk.told is.here is.up (stepped_as id view disk (step config view event) w)
            (a_step config id view disk event w is.up (works view disk.told is.here is.up))

    -- ---- a crash

    pub crash_goes : GoesOn config past (crashes id (node_at w id) w)
    crash_goes = by (node_at w id) (ties.nodes id)
      where
        by : (o : Option Host) → NodeTies config id o (b.hosts id.0) → GoesOn config past (crashes id o w)
        by None tied = by_none config past ran w ties
        by (Some (Down told plan)) tied = by_none config past ran w ties
        by (Some (Up view disk)) tied =
            let is = is_up view disk (b.hosts id.0) refl tied.1 in
            by_one config past ran (bare.Crashes id Crash) tt tt (bare.goes_down id Crash (bare.possible_of view) (bare.possible_of view) b)
            (ap (λ (h : bare.Host). bare.crashes_as id Crash h b) is.here) (fallen id disk.told Crash w)
            (fallen_ties w b ties id disk.told Crash (bare.possible_of view) (bare.possible_of view) tied.0 (crashed config id view disk.told is.up)) refl

    -- ---- an opening

    pub open_goes : IsNode config id → (durable pending : bare.Possible) → b.hosts id.0 ≡ bare.Down durable pending → (after : Bool) (o : Outcome) → OpenEnds config id (bare.chosen after durable pending) w o → GoesOn config past o
    open_goes there durable pending here after o (Opened kept disk is may up) =
        let made = opened config id kept.journal kept.checkpoints in
        let before = line.Up id kept.journal.state.epoch ∷ [] in
        subst (λ (x : Outcome). GoesOn config past x) (sym is)
        (by_one config past ran (bare.Opens id after kept.journal kept.checkpoints) (subst (λ (h : bare.Host). MayOpenAt config id after kept.journal kept.checkpoints h) (sym here) may) tt
        (bare.with_read id kept.journal.state (bare.after_step id before made b)) (ap (λ (h : bare.Host). bare.opens_as config id kept.journal kept.checkpoints h b) here) (gone_on id before made disk w)
        (let on = gone_ties w b ties id before made disk there up in record { nodes = on.nodes; clients = on.clients; frames = on.frames }) refl)
    open_goes there durable pending here after o (Failed told cause left is may down) =
        subst (λ (x : Outcome). GoesOn config past x) (sym is)
        (by_one config past ran (bare.Fails id after left cause) (there, subst (λ (h : bare.Host). MayLeaveAt after left h) (sym here) may) tt
        (bare.goes_down id cause (bare.chosen after durable pending) left b) (ap (λ (h : bare.Host). bare.fails_as id after left cause h b) here) (fallen id told cause w)
        (fallen_ties w b ties id told cause (bare.chosen after durable pending) left there down) refl)

    -- on the areas that a word gives of what the disk has told
    pub return_goes : config.journal < 2 ^ 32 → (image : Told → Areas) → ((told : Told) (plan : Plan) → node_at w id ≡ Some (Down told plan) → IsImage told (image told)) → GoesOn config past (comes_back config id image (node_at w id) w)
    return_goes limits image may = by (node_at w id) refl (ties.nodes id)
      where
        by : (o : Option Host) → node_at w id ≡ o → NodeTies config id o (b.hosts id.0) → GoesOn config past (comes_back config id image o w)
        by None found tied = by_none config past ran w ties
        by (Some (Up view disk)) found tied = by_none config past ran w ties
        by (Some (Down told plan)) found tied =
            let is = is_down told plan (b.hosts id.0) refl tied.1 in
            let ends = comes_back_ends config id told plan is.durable is.pending (image told) w limits tied.0 is.down (may told plan found) in
            open_goes tied.0 is.durable is.pending is.here ends.0 (comes_back config id image (Some (Down told plan)) w) ends.1

    -- ---- faults are set

    pub faults_tie : (sets : Plan → Plan) → WorldTies config (faults sets id w) b
    faults_tie sets = by (node_at w id) (ties.nodes id)
      where
        put : (host : Host) → IsNode config id → HostTies config id host (b.hosts id.0) → WorldTies config (with_node id host w) b
        put host there tied = record {
          nodes = λ q. subst (λ (h : bare.Host). NodeTies config q (node_at (with_node id host w) q) h) (stays q (q.0 == id.0) refl) (nodes_put config w b.hosts id host (b.hosts id.0) ties.nodes there tied q);
          clients = ties.clients;
          frames = ties.frames;
        }
          where
            stays : (q : NodeId) (t : Bool) → (q.0 == id.0) ≡ t → (if t then b.hosts id.0 else b.hosts q.0) ≡ b.hosts q.0
            stays q true e = ap b.hosts (sym (same_number q.0 id.0 e))
            stays q false e = refl

        by : (o : Option Host) → NodeTies config id o (b.hosts id.0) → WorldTies config (faults_at sets id o w) b
        by None tied = ties
        by (Some (Up view disk)) tied = put (Up view (with_plan (sets disk.trouble.plan) disk)) tied.0 (again (b.hosts id.0) tied.1)
          where
            again : (h : bare.Host) → HostTies config id (Up view disk) h → HostTies config id (Up view (with_plan (sets disk.trouble.plan) disk)) h
            again (bare.Up x) is = is
            again (bare.Down durable pending) is = is
        by (Some (Down told plan)) tied = put (Down told (sets plan)) tied.0 (again (b.hosts id.0) tied.1)
          where
            again : (h : bare.Host) → HostTies config id (Down told plan) h → HostTies config id (Down told (sets plan)) h
            again (bare.Up x) is = is
            again (bare.Down durable pending) is = is
