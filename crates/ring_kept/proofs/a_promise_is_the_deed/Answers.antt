-- Field by field.
use Rattle.ring_kept.proofs.Keeping.{kept_promised, kept_said}
use Rattle.ring_kept.proofs.a_promise_is_the_deed.Goals as goal

pub returns-clause-change : goal.returns-clause-change
returns-clause-change c = kept_promised

pub returns-clause-again : goal.returns-clause-again
returns-clause-again c = kept_said
