use Rattle.std.proofs.Common.{◌∙◌, sym}
use Rattle.trim.proofs.Answering.{low_of_one}
use Rattle.trim.proofs.round.TrimRound.awaits.Goals as goal

pub returns-then-have-clause-low : goal.returns-then-have-clause-low
returns-then-have-clause-low c = λ _. low_of_one c.args.node c.self.inside.subscribers c.self.invariant (sym c.have.ensures ∙ c.if-have.true)
