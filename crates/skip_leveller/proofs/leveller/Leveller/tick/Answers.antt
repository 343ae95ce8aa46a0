use Rattle.std.proofs.Common.{◌∙◌, ap}
use Rattle.skip_leveller.specs.Levelling.{with_tick}
use Rattle.skip_leveller.proofs.LevellingLemmas.{levelling_after-tick}
use Rattle.skip_leveller.proofs.leveller.Leveller.tick.Goals as goal

pub returns-clause-counted : goal.returns-clause-counted
returns-clause-counted c lambda delta calls was =
    c.advance.ensures.kept ∙ ap with_tick was ∙ levelling_after-tick lambda delta calls
