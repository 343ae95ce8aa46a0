use Rattle.ask_laws.proofs.Reading.{command-read}
use Rattle.ask_laws.proofs.entries_are_read_as_asked.Goals as goal

pub returns : goal.returns
returns c = command-read
