use Rattle.plain_model.specs.Replicas.{entry_size}
use Rattle.plain_model.proofs.Pages.{front-longest}
use Rattle.plain_model.proofs.size_laws.pages_are_longest_fronts.Goals as goal

pub returns : goal.returns
returns c = front-longest entry_size
