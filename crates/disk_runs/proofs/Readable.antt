-- Each checkpoint that a replica's disk may stand for is one of its partition, so no opening finds damage.
use Rattle.std.proofs.Common.{◌≡◌, ◌⊎◌, inl, inr, ℕ, ◌<◌, ◌^◌, ◌==◌, Bool, true, false, List, [], ◌∷◌, ◌++◌, Option, Some, Err, refl, sym, ap, ◌∙◌, subst, arith}
use Rattle.std.specs.Prelude.{if◌then◌else◌}
use Rattle.mrp_types.specs.declared.id.NodeId.{NodeId}
use Rattle.mrp_types.specs.declared.id.RingId.{RingId}
use Rattle.mrp_config.specs.Config.{Config, partition_of}
use Rattle.mrp_config.specs.Valid.{IsValid}
use Rattle.mrp_config.specs.declared.tables.PartitionTable.{PartitionTable}
use Rattle.disk_model.specs.declared.areas.Areas.{Areas}
use Rattle.disk_model.specs.declared.plan.Plan.{Plan}
use Rattle.disk_model.specs.Calls.{Told, IsImage}
use Rattle.checkpoint.specs.Checkpoints.{Checkpoint, Checkpoints}
use Rattle.plain_model.specs.StateBytes.{whole_state}
use Rattle.plain_model.specs.Tuples.{round_sizes, is_tuple_of}
use Rattle.state_laws.proofs.Written.{whole-goes}
use Rattle.protocol.specs.Lines.{Cause}
use Rattle.protocol.specs.Node.{Event, View, Work, Nothing, Records, Saves, Compacts}
use Rattle.protocol.specs.Opening.{opened}
use Rattle.protocol.specs.Step.{step}
use Rattle.bare_world.specs.Worlds as bare
use Rattle.bare_world.specs.Runs.{IsReadable, MayHappen, MayOpenAt, MayLeaveAt, run, MayRun}
use Rattle.world_model.specs.Opening.{opening}
use Rattle.world_model.specs.Worlds.{Down, World, node_at, Host}
use Rattle.disk_states.specs.States.{StandsFor}
use Rattle.disk_states.specs.Works.{checkpoints_after}
use Rattle.disk_states.proofs.Opening.{opening_full}
use Rattle.bare_ties.proofs.Changing.{step_by}
use Rattle.bare_ties.proofs.Keeping.{opened_keeps}
use Rattle.disk_runs.specs.Runs.{NodeTies, WorldTies, world_after, FailsFull}
use Rattle.disk_runs.proofs.Tying.{same_node}
use Rattle.disk_runs.proofs.Works.{IsSave, IsOfStep, of_step, sound_of, own_of, tuple_of}
use Rattle.bare_world.proofs.Onward.{run_both, may_both}

-- a replica's checkpoint is one of its partition
abbrev Readable : Config → NodeId → Option Checkpoint → Type 0
Readable c id newest = (p : PartitionTable) (one : Checkpoint) → partition_of c.partitions id ≡ Some p → newest ≡ Some one → IsReadable c p one

abbrev HostReadable : Config → NodeId → bare.Host → Type 0
HostReadable c id (bare.Up view) = Readable c id view.checkpoints.newest
HostReadable c id (bare.Down durable pending) = Readable c id durable.newest × Readable c id pending.newest

abbrev AllReadable : Config → (ℕ → bare.Host) → Type 0
AllReadable c hosts = (id : NodeId) → HostReadable c id (hosts id.0)

module _ (c : Config) where
  put : (id : NodeId) (host : bare.Host) (hosts : ℕ → bare.Host) → HostReadable c id host → AllReadable c hosts → AllReadable c (λ k. if k == id.0 then host else hosts k)
  put id host hosts is all q = by (q.0 == id.0) refl
    where
      by : (t : Bool) → (q.0 == id.0) ≡ t → HostReadable c q (if t then host else hosts q.0)
      by true e = subst (λ (n : NodeId). HostReadable c n host) (same_node q id e) is
      by false e = all q

  chosen_readable : (id : NodeId) (after : Bool) (durable pending : bare.Possible) → HostReadable c id (bare.Down durable pending) → Readable c id (bare.chosen after durable pending).newest
  chosen_readable id true durable pending is = is.1
  chosen_readable id false durable pending is = is.0

  module _ (valid : IsValid c) (past : List bare.Happening) (ran : MayRun c bare.nothing past) where
    -- ---- a step

    module _ (id : NodeId) (view : View) (here : (world_after c past).hosts id.0 ≡ bare.Up view) (was : Readable c id view.checkpoints.newest) where
      saved_readable : (tuple : List (RingId × ℕ)) (state : List ℕ) → IsSave c view tuple state → Readable c id (Some (record { tuple = tuple; state = state }))
      saved_readable tuple state is p one own same =
          subst (λ (x : Checkpoint). IsReadable c p x) (let made : Checkpoint = record { tuple = tuple; state = state } in let e : made ≡ one = cc in e)
          (subst (λ (q : PartitionTable). IsReadable c q (record { tuple = tuple; state = state })) partition (record {
            tuple = subst (λ (k : List (RingId × ℕ)). is_tuple_of (round_sizes c) is.service.partition.rings k ≡ true) (sym is.at) (tuple_of c valid past ran id view here is.service is.standing is.there is.ready);
            replica = is.standing.replica;
            state = ap (whole_state is.service.partition) is.written ∙ whole-goes is.service.partition is.standing.replica (sound_of c valid past ran id view here is.service is.standing is.there is.ready).state;
          }))
        where
          partition : is.service.partition ≡ p
          partition = let mine : partition_of c.partitions id ≡ Some is.service.partition = own_of c valid past ran id view here is.service is.there in cc

      after_readable : (work : Work) → IsOfStep c view work → Readable c id (checkpoints_after view work).newest
      after_readable Nothing is = was
      after_readable (Records changes) is = was
      after_readable (Saves tuple state) is = saved_readable tuple state is
      after_readable Compacts is = was

      step_readable : (event : Event) → Readable c id (step c view event).view.checkpoints.newest
      step_readable event = subst (λ (x : Checkpoints). Readable c id x.newest) (sym (step_by c view event).checkpoints) (after_readable (step c view event).work (of_step c view event))

    -- ---- a happening

    happens_readable : (h : bare.Happening) → MayHappen c (world_after c past) h → AllReadable c (world_after c past).hosts → AllReadable c (bare.happens c h (world_after c past)).hosts
    happens_readable (bare.Steps id event) may all = by ((world_after c past).hosts id.0) refl (all id)
      where
        by : (host : bare.Host) → (world_after c past).hosts id.0 ≡ host → HostReadable c id host → AllReadable c (bare.steps_as c id event host (world_after c past)).hosts
        by (bare.Down durable pending) here is = all
        by (bare.Up view) here is = put id (bare.Up (step c view event).view) (world_after c past).hosts (step_readable id view here is event) all
    happens_readable (bare.Breaks id event cause) may all = by ((world_after c past).hosts id.0) refl (all id)
      where
        by : (host : bare.Host) → (world_after c past).hosts id.0 ≡ host → HostReadable c id host → AllReadable c (bare.breaks_as c id event cause host (world_after c past)).hosts
        by (bare.Down durable pending) here is = all
        by (bare.Up view) here is =
            put id (bare.Down (bare.possible_of view) (bare.possible_of (step c view event).view)) (world_after c past).hosts (is, step_readable id view here is event) all
    happens_readable (bare.Crashes id cause) may all = by ((world_after c past).hosts id.0) (all id)
      where
        by : (host : bare.Host) → HostReadable c id host → AllReadable c (bare.crashes_as id cause host (world_after c past)).hosts
        by (bare.Down durable pending) is = all
        by (bare.Up view) is = put id (bare.Down (bare.possible_of view) (bare.possible_of view)) (world_after c past).hosts (is, is) all
    happens_readable (bare.Opens id after journal checkpoints) may all = by ((world_after c past).hosts id.0) may
      where
        by : (host : bare.Host) → MayOpenAt c id after journal checkpoints host → AllReadable c (bare.opens_as c id journal checkpoints host (world_after c past)).hosts
        by (bare.Up view) may = all
        by (bare.Down durable pending) may =
            put id (bare.Up (opened c id journal checkpoints).view) (world_after c past).hosts
            (subst (λ (x : Checkpoints). Readable c id x.newest) (sym (opened_keeps c id journal checkpoints).newest) (λ p one own same. may.readable p one own same)) all
    happens_readable (bare.Fails id after left cause) may all = by ((world_after c past).hosts id.0) may.1 (all id)
      where
        by : (host : bare.Host) → MayLeaveAt after left host → HostReadable c id host → AllReadable c (bare.fails_as id after left cause host (world_after c past)).hosts
        by (bare.Up view) may is = all
        by (bare.Down durable pending) may is =
            let stood = chosen_readable id after durable pending is in
            put id (bare.Down (bare.chosen after durable pending) left) (world_after c past).hosts (stood, subst (λ (o : Option Checkpoint). Readable c id o) (sym may.newest) stood) all
    happens_readable (bare.Asks id command) may all = all
    happens_readable (bare.ClientTicks id) may all = all
    happens_readable (bare.ClientTakes id body) may all = all
    happens_readable (bare.Shows id) may all = all
    happens_readable (bare.Lists number shown) may all = all

  -- ---- runs

  goes_readable : IsValid c → (hs : List bare.Happening) (past : List bare.Happening) → MayRun c bare.nothing past → AllReadable c (world_after c past).hosts → MayRun c (world_after c past) hs → AllReadable c (run c hs (world_after c past)).hosts
  goes_readable valid [] past ran all may = all
  goes_readable valid (h ∷ hs) past ran all may =
      subst (λ (w : bare.World). AllReadable c (run c hs w).hosts) next
      (goes_readable valid hs (past ++ h ∷ []) (may_both c bare.nothing past (h ∷ []) ran (may.0, tt))
      (subst (λ (w : bare.World). AllReadable c w.hosts) (sym next) (happens_readable valid past ran h may.0 all))
      (subst (λ (w : bare.World). MayRun c w hs) (sym next) may.1))
    where
      next : world_after c (past ++ h ∷ []) ≡ bare.happens c h (world_after c past)
      next = run_both c bare.nothing past (h ∷ [])

  pub run_readable : IsValid c → (hs : List bare.Happening) → MayRun c bare.nothing hs → AllReadable c (world_after c hs).hosts
  run_readable valid hs may = goes_readable valid hs [] tt (λ id. ((λ p one own none. absurd cc), (λ p one own none. absurd cc))) may

-- ---- no damage

pub no_damage : (c : Config) → IsValid c → (past : List bare.Happening) → MayRun c bare.nothing past → (w : World) → WorldTies c w (world_after c past) → (id : NodeId) (told : Told) (plan : Plan) → node_at w id ≡ Some (Down told plan)
    → (image : Areas) → IsImage told image → (cause : Cause) → (opening c id image).result ≡ Err cause → FailsFull c id image cause
no_damage c valid past ran w ties id told plan found image is cause fails =
    by ((world_after c past).hosts id.0) (subst (λ (o : Option Host). NodeTies c id o ((world_after c past).hosts id.0)) found (ties.nodes id)) (run_readable c valid past ran id)
  where
    limits : c.journal < 2 ^ 32
    limits = let most = valid.journal.1 in omega arith

    on : (p : bare.Possible) → p.state.epoch < 2 ^ 32 → Readable c id p.newest → StandsFor id p image → FailsFull c id image cause
    on p small readable stands = record { stood = p; stands = stands; full = opening_full c id image p limits small stands readable cause fails }

    by : (host : bare.Host) → NodeTies c id (Some (Down told plan)) host → HostReadable c id host → FailsFull c id image cause
    by (bare.Up view) tied readable = absurd tied.1
    by (bare.Down durable pending) tied readable = which (tied.1.images image is)
      where
        which : StandsFor id durable image ⊎ StandsFor id pending image → FailsFull c id image cause
        which (inl stands) = on durable tied.1.before readable.0 stands
        which (inr stands) = on pending tied.1.after readable.1 stands
