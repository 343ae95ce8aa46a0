use Rattle.std.proofs.Common.{sym, ◌∙◌}
use Rattle.vote_state.specs.State.{trim_at}
use Rattle.vote_state.proofs.StateLemmas.{trim_taken, trim_made}
use Rattle.vote_state.proofs.durable.Durable.trim_after.Goals as goal

pub returns-clause-taken : goal.returns-clause-taken
returns-clause-taken c = λ valid.
    trim_made c.args.ring c.args.changes.now c.loop-change.change-index c.loop-change.trim (trim_at c.args.self.now c.args.ring) c.loop-change-test.false c.loop-change.invariant
    ∙ sym (trim_taken c.args.changes.now c.args.self.now c.args.ring c.trim-trim.ensures.formed.all valid)
