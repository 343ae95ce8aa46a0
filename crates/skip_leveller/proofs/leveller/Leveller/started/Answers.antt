use Rattle.std.proofs.Common.{◌∙◌, ap}
use Rattle.skip_leveller.specs.Levelling.{with_started}
use Rattle.skip_leveller.proofs.LevellingLemmas.{levelling_after-started}
use Rattle.skip_leveller.proofs.leveller.Leveller.started.Goals as goal

pub returns-clause-counted : goal.returns-clause-counted
returns-clause-counted c lambda delta calls was =
    let step = ap (with_started c.args.n) was ∙ levelling_after-started lambda delta calls c.args.n in
    rw (c.saturating_sub-self-inside.ensures) (rw (← c.self.view_is) at step)
