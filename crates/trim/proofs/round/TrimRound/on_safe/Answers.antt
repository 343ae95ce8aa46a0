use Rattle.std.proofs.Common.{◌∙◌, sym, ap, subst, refl, Some}
use Rattle.protocol.specs.Parts.{Round}
use Rattle.trim.specs.Rounds.{StandsFor}
use Rattle.trim.proofs.Answering.{not_counted, counts_it}
use Rattle.trim.proofs.round.TrimRound.on_safe.Goals as goal

pub returns-then-not-awaits : goal.returns-then-not-awaits
returns-then-not-awaits c = λ asker round stands.
    subst (λ (r : Round). StandsFor c.args.self.now asker r)
    (sym (not_counted c.args.self.now asker round c.args.node c.args.inst stands (sym c.awaits.ensures.awaits ∙ c.if-not-awaits.true))) stands

pub returns : goal.returns
returns c = λ asker round stands.
    let before = rw (← c.self.view_is) at stands in
    let counted = rw (← c.self.view_is) at (sym c.awaits.ensures.awaits ∙ c.if-not-awaits.false) in
    counts_it (_) (_) asker round c.args.node c.args.inst before counted refl refl refl (ap Some c.lower.ensures) c.add.ensures.own c.add.ensures.others
