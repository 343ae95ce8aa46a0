use Rattle.std.proofs.Common.{sym, ◌∙◌}
use Rattle.vote_state.specs.State.{promise_at}
use Rattle.vote_state.proofs.StateLemmas.{promise_taken, promise_made}
use Rattle.vote_state.proofs.durable.Durable.promise_after.Goals as goal

pub returns-clause-taken : goal.returns-clause-taken
returns-clause-taken c = λ valid.
    promise_made c.args.ring c.args.changes.now c.loop-change.change-index c.loop-change.promise (promise_at c.args.self.now c.args.ring) c.loop-change-test.false c.loop-change.invariant
    ∙ sym (promise_taken c.args.changes.now c.args.self.now c.args.ring c.promise-promise.ensures.formed.all valid)
