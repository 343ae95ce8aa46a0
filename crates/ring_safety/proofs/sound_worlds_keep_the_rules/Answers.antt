-- Each rule is read off the invariant.
use Rattle.ring_safety.proofs.Rules.{promise_holds, vote_holds, propose_holds, choose_holds, one_value_holds, stays_holds}
use Rattle.ring_safety.proofs.sound_worlds_keep_the_rules.Goals as goal

pub returns-clause-promise : goal.returns-clause-promise
returns-clause-promise g c = promise_holds

pub returns-clause-vote : goal.returns-clause-vote
returns-clause-vote g c = vote_holds

pub returns-clause-propose : goal.returns-clause-propose
returns-clause-propose g c = propose_holds

pub returns-clause-choose : goal.returns-clause-choose
returns-clause-choose g c = choose_holds

pub returns-clause-one_value : goal.returns-clause-one_value
returns-clause-one_value g c = one_value_holds

pub returns-clause-stays : goal.returns-clause-stays
returns-clause-stays g c = stays_holds
