use Rattle.plain_model.proofs.Fronts.{book-more}
use Rattle.plain_model.proofs.the_book_only_grows.Goals as goal

pub returns : goal.returns
returns c = book-more
