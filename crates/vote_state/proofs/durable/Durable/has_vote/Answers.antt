use Rattle.std.proofs.Common.{sym, ◌∙◌, ap}
use Rattle.vote_state.specs.Ranges.{are_held}
use Rattle.vote_state.specs.State.{votes_at}
use Rattle.vote_state.specs.declared.ring.RingState.{RingState}
use Rattle.vote_state.proofs.HeldLemmas.{held_nowhere, held_meaning}
use Rattle.vote_state.proofs.durable.Durable.has_vote.Goals as goal

pub returns-in_default-clause-held : goal.returns-in_default-clause-held
returns-in_default-clause-held c = held_nowhere c.args.vote.now ∙ ap (λ (r : RingState). are_held c.args.vote.now r.votes) (sym c.in_default.ensures.state)

pub returns-clause-each : goal.returns-clause-each
returns-clause-each c = held_meaning c.holds.result c.args.vote.now (votes_at c.args.self.now c.args.ring) (c.holds.ensures ∙ ap (λ (r : RingState). are_held c.args.vote.now r.votes) c.in-Some.ensures.state)
