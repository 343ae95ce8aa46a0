-- What follows a rule of a ring: what it decided is learned, range by range, and each time the merge runs and the
-- coordinator proposes.
use Rattle.std.specs.Prelude.{ℕ, zero, suc, ◌^◌, List, [], ◌∷◌, ◌++◌, Option, Some, None, Bool, true, false}
use Rattle.mrp_types.specs.declared.id.RingId.{RingId}
use Rattle.mrp_types.specs.declared.voted.Decided.{Decided}
use Rattle.mrp_config.specs.Config.{Config}
use Rattle.protocol.specs.Lines.{Learn}
use Rattle.protocol.specs.Parts.{Ring, Effects}
use Rattle.protocol.specs.Learner.{Taken, learns}
use Rattle.protocol.specs.Proposing.{proposes}
use Rattle.protocol.specs.Node.{StepSoFar, RingPart, part_at, with_part, prints}
use Rattle.protocol.specs.Merging.{merges}

-- what a rule added, and the part as it is then
abbrev pub with_effects : Ring → Effects → StepSoFar → StepSoFar
with_effects ring effects a =
    let w = with_part ring effects.part a in
    record w { changes = w.changes ++ effects.changes; frames = w.frames ++ effects.frames; lines = w.lines ++ effects.lines }

-- what is still to be learned of a ring
pub record Queued : Type 0 where
  pub so_far : StepSoFar
  pub ranges : List Decided

abbrev pub queued : Ring → List Decided → Effects → StepSoFar → Queued
queued ring later effects a = record { so_far = with_effects ring effects a; ranges = later ++ effects.learned }

-- where a range was news: its line, as it came; a ready replica merges; then the coordinator proposes
abbrev pub proposes_then : Ring → List Decided → Option RingPart → StepSoFar → Queued
proposes_then ring later None a = record { so_far = a; ranges = later }
proposes_then ring later (Some p) a = queued ring later (proposes ring a.view.link p.part) a

abbrev pub at_part : (Option RingPart → StepSoFar → Queued) → RingId → StepSoFar → Queued
at_part rest ring a = rest (part_at a.view ring) a

abbrev pub by_news : Config → Ring → Decided → List Decided → Bool → StepSoFar → Queued
by_news config ring range later false a = record { so_far = a; ranges = later }
by_news config ring range later true a =
    at_part (proposes_then ring later) ring.id (merges config (prints (Learn a.view.id ring.id range.lo range.hi range.value ∷ []) a))

abbrev pub learns_taken : Config → Ring → Decided → List Decided → Taken → StepSoFar → Queued
learns_taken config ring range later taken a = by_news config ring range later taken.news (with_part ring taken.part a)

abbrev pub learns_one : Config → Ring → Decided → List Decided → Option RingPart → StepSoFar → Queued
learns_one config ring range later None a = record { so_far = a; ranges = later }
learns_one config ring range later (Some p) a = learns_taken config ring range later (learns ring p.part range) a

abbrev pub then_learns : (Queued → StepSoFar) → Config → Ring → Queued → List Decided → StepSoFar
then_learns rest config ring q [] = q.so_far
then_learns rest config ring q (range ∷ later) = rest (learns_one config ring range later (part_at q.so_far.view ring.id) q.so_far)

abbrev pub learns_up_to : ℕ → Config → Ring → Queued → StepSoFar
learns_up_to zero config ring q = q.so_far
learns_up_to (suc most) config ring q = then_learns (learns_up_to most config ring) config ring q q.ranges

-- A rule of a ring was made: what it adds, and then each range that it decided is learned before the next one. There are
-- fewer ranges than this below the end.
unfoldable pub applies_effects : Config → Ring → Effects → StepSoFar → StepSoFar
applies_effects config ring effects a = learns_up_to (2 ^ 44) config ring (queued ring [] effects a)
