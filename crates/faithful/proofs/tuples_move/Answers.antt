use Rattle.faithful.proofs.Ordering.{is_valid}
use Rattle.faithful.proofs.Moving.{past_reaches, past_later, past_known, past_skips}
use Rattle.faithful.proofs.tuples_move.Goals as goal

pub returns-clause-reaches : goal.returns-clause-reaches
returns-clause-reaches c = λ m rings k valid. past_reaches m k (is_valid m rings k valid)

pub returns-clause-later : goal.returns-clause-later
returns-clause-later c = past_later

pub returns-clause-known : goal.returns-clause-known
returns-clause-known c = past_known

pub returns-clause-skips : goal.returns-clause-skips
returns-clause-skips c = past_skips
