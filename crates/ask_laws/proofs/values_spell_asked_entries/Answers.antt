use Rattle.ask_laws.proofs.Reading.{entries-asked}
use Rattle.ask_laws.proofs.values_spell_asked_entries.Goals as goal

pub returns : goal.returns
returns c = entries-asked
