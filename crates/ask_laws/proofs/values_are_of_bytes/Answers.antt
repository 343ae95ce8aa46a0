use Rattle.ask_laws.proofs.Reading.{value-of-bytes, book-of-bytes}
use Rattle.ask_laws.proofs.values_are_of_bytes.Goals as goal

pub returns-clause-value : goal.returns-clause-value
returns-clause-value c = λ config hs ring value valid is. value-of-bytes config hs valid ring value is

pub returns-clause-book : goal.returns-clause-book
returns-clause-book c = λ config hs valid may. book-of-bytes config hs valid may
