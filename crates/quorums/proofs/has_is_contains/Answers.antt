-- Both ways.
use Rattle.quorums.proofs.Containing.{has_to_contains, contains_to_has}
use Rattle.quorums.proofs.has_is_contains.Goals as goal

pub returns : goal.returns
returns g c = λ xs x. (has_to_contains xs x, contains_to_has xs x)
