use Rattle.config_walk.proofs.Seen.{once_saw}
use Rattle.config_walk.proofs.lists.read_seats.Goals as goal

pub as_seats-requires-clause-different : goal.as_seats-requires-clause-different
as_seats-requires-clause-different c =
    rw c.deref-3.ensures.value (once_saw c.args.name.now c.args.taken.now c.in_ok-numbers.numbers.items _ (rw c.deref.ensures.value at c.in_ok-judge_once.ensures)).0
