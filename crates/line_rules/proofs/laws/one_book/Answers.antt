use Rattle.line_rules.proofs.OneBook.{one_book_of}
use Rattle.line_rules.proofs.Ranges.{book_learned}
use Rattle.line_rules.proofs.laws.one_book.Goals as goal

pub returns-clause-ordered : goal.returns-clause-ordered
returns-clause-ordered c = one_book_of

pub returns-clause-learned : goal.returns-clause-learned
returns-clause-learned c = book_learned
