-- The end of a step: what it leaves, whether its work is done or stopped.
use Rattle.step_lines.proofs.Onward.{Onward-trans, nothing_more}
use Rattle.mrp_types.specs.declared.id.NodeId.{NodeId}
use Rattle.std.proofs.Common.{◌≡◌, ℕ, List, [], ◌∷◌, Option, Some, None, refl, sym, ◌∙◌, ap, subst}
use Rattle.std.specs.Prelude.{map}
use Rattle.std.specs.List.{AllByRecursion}
use Rattle.mrp_config.specs.Config.{Config, partition_of}
use Rattle.mrp_config.specs.declared.tables.PartitionTable.{PartitionTable}
use Rattle.checkpoint.specs.Checkpoints.{Checkpoint, Checkpoints}
use Rattle.vote_state.specs.declared.change.Change.{Change}
use Rattle.vote_state.specs.State.{State, taken}
use Rattle.vote_journal.specs.Journal.{Journal, recorded}
use Rattle.protocol.specs.Bases.{rebased, rebases}
use Rattle.protocol.specs.Lines.{Line}
use Rattle.protocol.specs.Parts.{Ring}
use Rattle.protocol.specs.Node.{StepSoFar, RingPart, Service, finished}
use Rattle.faithful.specs.Scanners.{past}
use Rattle.step_lines.proofs.Composing.{ends}
use Rattle.recovery_lines.specs.Ties.{AreCovered, PartTold, ReplicaLines, ActLines, AfterLines, StepLines, rings_in}
use Rattle.step_lines.specs.Effects.{AllAgree, AllTold, Onward, Goes, KeptFor, LeftTold}

recorded_state : (j : Journal) (cs : List Change) → (recorded j cs).state ≡ taken cs j.state
recorded_state j [] = refl
recorded_state j (x ∷ cs) = refl

rebased_rings : (service : Option Service) (parts : List RingPart) → rings_in (map (rebased service) parts) ≡ rings_in parts
rebased_rings service [] = refl
rebased_rings service (p ∷ parts) = ap (λ (rs : List Ring). p.ring ∷ rs) (rebased_rings service parts)

pub kept_for : (c : Config) (lines : List Line) (x : NodeId) (epoch : ℕ) (newest : Option Checkpoint) (service : Option Service) → ReplicaLines c lines x epoch newest service → KeptFor c lines x epoch newest (partition_of c.partitions x)
kept_for c lines x epoch newest None r = subst (λ (o : Option PartitionTable). KeptFor c lines x epoch newest o) (sym r) tt
kept_for c lines x epoch newest (Some s) r = subst (λ (o : Option PartitionTable). KeptFor c lines x epoch newest o) (sym r.own.replica) r.own.kept

module _ (c : Config) (lines : List Line) where
  rebased_told : (service : Option Service) (parts : List RingPart) → AllByRecursion (PartTold c lines) parts → AllByRecursion (PartTold c lines) (map (rebased service) parts)
  rebased_told service [] all = tt
  rebased_told service (p ∷ parts) all = (record { round = all.0.round; trim = all.0.trim }, rebased_told service parts all.1)

  rebases_onward : (a : StepSoFar) → Onward c lines a (rebases a)
  rebases_onward a = record {
    more = [];
    printed = nothing_more a.lines;
    id = refl;
    rings = rebased_rings a.view.service a.view.parts;
    journal = refl;
    checkpoints = refl;
    told = λ t. record { parts = rebased_told a.view.service a.view.parts t.parts; trims = t.trims; epoch = t.epoch };
  }

  module _ (a : StepSoFar) (told : AllTold c lines a) (kept : KeptFor c lines a.view.id a.view.journal.state.epoch a.view.checkpoints.newest (partition_of c.partitions a.view.id)) where
    pub finished_left : (b : StepSoFar) → Onward c lines a b → LeftTold c lines a.view.id (rings_in a.view.parts) (finished b)
    finished_left b on =
        let t : AllTold c lines b = on.told told in
        record {
          id = on.id;
          rings_stay = on.rings;
          parts = t.parts;
          covered = subst (λ (s : State). AreCovered c lines s) (sym (recorded_state b.view.journal b.changes)) t.trims;
          kept = subst (λ (n : ℕ). KeptFor c lines a.view.id n b.view.checkpoints.newest (partition_of c.partitions a.view.id))
              (sym (ap (λ (s : State). s.epoch) (recorded_state b.view.journal b.changes) ∙ t.epoch ∙ ap (λ (j : Journal). j.state.epoch) on.journal))
              (subst (λ (k : Checkpoints). KeptFor c lines a.view.id a.view.journal.state.epoch k.newest (partition_of c.partitions a.view.id)) (sym on.checkpoints) kept);
        }

    pub rebased_left : (b : StepSoFar) → Onward c lines a b → LeftTold c lines a.view.id (rings_in a.view.parts) (finished (rebases b))
    rebased_left b on = finished_left (rebases b) (Onward-trans c lines a b (rebases b) on (rebases_onward b))

    -- and its lines are right where its learn lines agree
    pub goes_ends : (b : StepSoFar) → Goes c lines a b → ActLines c lines lines a → AllAgree (past lines b.lines) → (new : List Line) × StepLines c lines new a.view.id (finished (rebases b))
    goes_ends b g ties all =
        let after : AfterLines c lines b = g.right lines ties told all in
        (after.lines, subst (λ (x : NodeId). StepLines c lines after.lines x (finished (rebases b))) g.onward.id (ends c lines after.lines b after.ties (g.onward.told told).epoch))
