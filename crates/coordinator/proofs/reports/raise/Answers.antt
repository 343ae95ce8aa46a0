use Rattle.vote_state.specs.Ranges.{cast_of}
use Rattle.protocol.specs.Ballots.{higher}
use Rattle.ring_learner.proofs.FilledLemmas.{filled}
use Rattle.coordinator.proofs.reports.raise.Goals as goal

pub returns-clause-raised : goal.returns-clause-raised
returns-clause-raised c = filled higher (cast_of c.args.vote.now) c.args.lo c.loop-at.at c.args.vote.now.hi c.args.casts.now c.loop-at.casts c.loop-at-test.false c.requires.ordered c.loop-at.invariant.filled
