use Rattle.ask_laws.proofs.Worlds.{all_keep}
use Rattle.ask_laws.proofs.entries_were_asked.Goals as goal

pub returns : goal.returns
returns c = λ config hs may. (all_keep config hs may).carried
