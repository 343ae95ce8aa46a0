-- Where the learners of a node begin: below that nothing is kept.
use Rattle.std.specs.Prelude.{ℕ, min, map, Option, Some, None, if◌then◌else◌}
use Rattle.std.specs.Option.{unwrap_or}
use Rattle.mrp_config.specs.Config.{has_ring}
use Rattle.plain_model.specs.Tuples.{entry_at}
use Rattle.protocol.specs.Parts.{Ring, Part}
use Rattle.protocol.specs.Rings.{is_acceptor}
use Rattle.protocol.specs.Learner.{with_base}
use Rattle.protocol.specs.Node.{StepSoFar, RingPart, Service, Stage, Recovering, Ready}

-- an acceptor keeps for others what it has not trimmed
abbrev pub kept_from : Ring → Part → ℕ → ℕ
kept_from ring part entry = if is_acceptor ring then min entry part.kept.trim else entry

-- the base after a step: the entry of a ready replica of the ring, or an acceptor's trim where that is less; the trim of a
-- node that is only an acceptor; else as before
abbrev pub base_by_stage : Ring → Part → Stage → ℕ
base_by_stage ring part (Recovering attempt) = part.learner.base
base_by_stage ring part (Ready standing) = kept_from ring part (unwrap_or (entry_at ring.id standing.tuple) part.learner.base)

abbrev pub base_by : Ring → Part → Option Service → ℕ
base_by ring part None = part.kept.trim
base_by ring part (Some service) = if has_ring service.partition.rings ring.id.0 then base_by_stage ring part service.stage else part.kept.trim

abbrev pub rebased : Option Service → RingPart → RingPart
rebased service p = record p { part = record p.part { learner = with_base (base_by p.ring p.part service) p.part.learner } }

abbrev pub rebases : StepSoFar → StepSoFar
rebases a = record a { view = record a.view { parts = map (rebased a.view.service) a.view.parts } }
