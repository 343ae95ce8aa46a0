use Rattle.std.proofs.Common.{sym, ◌∙◌}
use Rattle.vote_state.proofs.MaximalLemmas.{answered_maximal, answered_valid, nothing_from}
use Rattle.vote_state.proofs.durable.Durable.votes.Goals as goal

pub returns-in_default-clause-votes : goal.returns-in_default-clause-votes
returns-in_default-clause-votes c = c.new.ensures ∙ sym (nothing_from c.args.self.now c.args.ring c.args.from c.in_default.ensures.state)

pub returns-clause-maximal : goal.returns-clause-maximal
returns-clause-maximal c = answered_maximal c.args.self.now c.args.ring c.in-Some.state.now c.args.from c.ranges_from.result c.state.ensures.formed c.in-Some.ensures.state c.ranges_from.ensures

pub returns-clause-valid : goal.returns-clause-valid
returns-clause-valid c = answered_valid c.args.self.now c.args.ring c.in-Some.state.now c.args.from c.ranges_from.result c.state.ensures.formed c.in-Some.ensures.state c.ranges_from.ensures
