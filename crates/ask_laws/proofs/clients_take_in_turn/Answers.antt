use Rattle.ask_laws.proofs.Worlds.{all_keep}
use Rattle.ask_laws.proofs.clients_take_in_turn.Goals as goal

pub returns : goal.returns
returns c = λ config hs may. (all_keep config hs may).clients
