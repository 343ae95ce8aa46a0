use Rattle.config_walk.proofs.Seen.{back_to_numbers}
use Rattle.config_walk.proofs.lists.as_seats.Goals as goal

pub from_slice-requires-clause-different : goal.from_slice-requires-clause-different
from_slice-requires-clause-different c = rw (c.deref.ensures.value, c.in_ok-nodes.ensures, back_to_numbers c.args.numbers.now) c.requires.different
