use Rattle.faithful.proofs.Ordering.{rings_fit, reaches_is, is_reaches, not_after, after_reaches, paired_same}
use Rattle.faithful.proofs.tuples_are_ordered.Goals as goal

pub returns-clause-reaches : goal.returns-clause-reaches
returns-clause-reaches c = λ m rings a b va vb h. reaches_is rings a b (rings_fit m rings a va) (rings_fit m rings b vb) h

pub returns-clause-at_or_after : goal.returns-clause-at_or_after
returns-clause-at_or_after c = is_reaches

pub returns-clause-after : goal.returns-clause-after
returns-clause-after c = after_reaches

pub returns-clause-not_after : goal.returns-clause-not_after
returns-clause-not_after c = λ m rings a b va vb h. not_after rings a b (rings_fit m rings a va) (rings_fit m rings b vb) h

pub returns-clause-shown : goal.returns-clause-shown
returns-clause-shown c = λ m rings k valid. paired_same rings k (rings_fit m rings k valid)
