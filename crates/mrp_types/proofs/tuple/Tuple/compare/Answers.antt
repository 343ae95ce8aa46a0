use Rattle.mrp_types.proofs.TupleCalls.{order_is}
use Rattle.mrp_types.proofs.tuple.Tuple.compare.Goals as goal

pub returns-clause-further : goal.returns-clause-further
returns-clause-further c = λ m own other.
    rw (c.order_between.ensures, c.pairs.ensures.pairs, c.pairs-2.ensures.pairs) (order_is m c.args.self.now c.args.other.now c.requires own other)
