use Rattle.line_rules.specs.Scanners.{tuples_told, attempts_told, lines_before_this}
use Rattle.line_rules.proofs.Growing.{past_more, all_more, first_more, book_more}
use Rattle.line_rules.proofs.laws.lines_only_grow.Goals as goal

pub returns-clause-book : goal.returns-clause-book
returns-clause-book c = book_more

pub returns-clause-told : goal.returns-clause-told
returns-clause-told c = λ x l before tuple h. all_more tuples_told x l before tuple h

pub returns-clause-begun : goal.returns-clause-begun
returns-clause-begun c = λ x l before attempt h. all_more attempts_told x l before attempt h

pub returns-clause-first : goal.returns-clause-first
returns-clause-first c = λ x epoch attempt l before earlier e. first_more (lines_before_this epoch attempt) x l before earlier e

pub returns-clause-joined : goal.returns-clause-joined
returns-clause-joined c = past_more
