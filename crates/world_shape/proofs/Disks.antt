-- Every run has its shape, and so has every run on disks.
use Rattle.std.proofs.Common.{inl, inr, ◌-◌, ◌≤◌, ◌^◌, List, Option, Some, None, refl, sym, ap, subst, arith}
use Rattle.std.specs.List.{AllByRecursion}
use Rattle.mrp_config.specs.Config.{Config}
use Rattle.mrp_config.specs.Valid.{IsValid}
use Rattle.frames.specs.declared.sent.Sent.{Sent}
use Rattle.world_model.specs.Runs.{Happening, IsRun, run_of}
use Rattle.disk_runs.specs.Runs.{Fits}
use Rattle.disk_runs.proofs.Whole.{run_goes}
use Rattle.disk_runs.proofs.Works.{all_work}
use Rattle.world_shape.specs.Shape.{SentShape, EpochAtMost, AreAtMost, WorldShape, DiskShape}
use Rattle.world_shape.proofs.Epochs.{epochs_hold}
use Rattle.world_shape.proofs.Fitting.{lines_of, runs_fit}
use Rattle.world_shape.proofs.Shaping.{host_shape, absent, all_sent, step_shape}
use Rattle.valid_runs.proofs.Running.{runs_valid}
use Rattle.ask_laws.proofs.Worlds.{all_keep}
use Rattle.line_runs.specs.Laws.{IsPossible}
use Rattle.mrp_types.specs.declared.id.NodeId.{NodeId}
use Rattle.bare_world.specs.Worlds as bare
use Rattle.bare_world.specs.Runs.{run, MayRun}
use Rattle.protocol.specs.Node.{View}
use Rattle.world_model.specs.Worlds.{Host, Up, Down, World, node_at}
use Rattle.disk_runs.specs.Runs.{NodeTies, WorldTies}

-- ---- every run

pub runs_shaped : (config : Config) → IsValid config → (hs : List bare.Happening) → MayRun config bare.nothing hs → WorldShape config (run config hs bare.nothing)
runs_shaped config valid hs may = record {
  absent = absent config valid hs may;
  nodes = λ id. host_shape config valid hs may id ((run config hs bare.nothing).hosts id.0) refl;
  clients = λ c. ((all_keep config hs may).clients.each c).id;
  steps = λ id view event here came. step_shape config valid hs may id view event here came;
  works = (runs_valid config valid hs may).works;
  epochs = λ limit low. epochs_hold config valid hs may limit low;
  frames = all_sent config valid hs may (run config hs bare.nothing).frames (runs_valid config valid hs may).frames (runs_fit config valid hs may).frames (lines_of (λ e. Unit {0}) config valid hs may).frames (all_keep config hs may).carried.frames;
}

-- ---- on disks

-- the epoch of each state that a disk may stand for is below 2 ^ 32
low_epochs : (config : Config) (w : World) (b : bare.World) → WorldTies config w b → AreAtMost (2 ^ 32 - 1) b
low_epochs config w b ties n s is = go (node_at w id) (b.hosts n) (ties.nodes id) is
  where
    id : NodeId
    id = record { 0 = n }

    go : (o : Option Host) (h : bare.Host) → NodeTies config id o h → IsPossible h s → s.state.epoch ≤ 2 ^ 32 - 1
    go None h tied is = elim (subst (λ (x : bare.Host). IsPossible x s) tied is) [
      | inl e ↦ subst (λ (p : bare.Possible). p.state.epoch ≤ 2 ^ 32 - 1) (sym e) (omega arith)
      | inr e ↦ subst (λ (p : bare.Possible). p.state.epoch ≤ 2 ^ 32 - 1) (sym e) (omega arith)
    ]
    go (Some (Up view disk)) (bare.Up x) tied is =
        let low = tied.1.1.epoch in
        subst (λ (p : bare.Possible). p.state.epoch ≤ 2 ^ 32 - 1) (sym is) (let same = ap (λ (v : View). v.journal.state.epoch) tied.1.0 in omega arith)
    go (Some (Up view disk)) (bare.Down durable pending) tied is = absurd tied.1
    go (Some (Down told plan)) (bare.Up x) tied is = absurd tied.1
    go (Some (Down told plan)) (bare.Down durable pending) tied is = elim is [
      | inl e ↦ (let low = tied.1.before in subst (λ (p : bare.Possible). p.state.epoch ≤ 2 ^ 32 - 1) (sym e) (omega arith))
      | inr e ↦ (let low = tied.1.after in subst (λ (p : bare.Possible). p.state.epoch ≤ 2 ^ 32 - 1) (sym e) (omega arith))
    ]

pub disks_shaped : (config : Config) → IsValid config → (xs : List Happening) → IsRun config xs → AllByRecursion (Fits config) xs → DiskShape config (run_of config xs).world
disks_shaped config valid xs may fits =
    let g = run_goes config valid (all_work config valid) xs may fits in
    let shape = runs_shaped config valid g.more g.may in
    record {
      past = g.more;
      may = g.may;
      ties = g.ties;
      shape = shape;
      frames = subst (λ (frames : List Sent). AllByRecursion SentShape frames) g.ties.frames shape.frames;
      epochs = subst (λ (frames : List Sent). AllByRecursion (EpochAtMost (2 ^ 32 - 1)) frames) g.ties.frames (shape.epochs (2 ^ 32 - 1) (low_epochs config (run_of config xs).world (run config g.more bare.nothing) g.ties));
    }
