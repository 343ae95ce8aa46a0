use Rattle.mrp_types.proofs.TupleLemmas.{moved_is_tuple}
use Rattle.mrp_types.proofs.tuple.Tuple.advance.Goals as goal

pub moved-requires-clause-tuple : goal.moved-requires-clause-tuple
moved-requires-clause-tuple c =
    rw (c.first_of-next.ensures, c.pairs-2.ensures.pairs, c.pairs.ensures.pairs) (moved_is_tuple _ _ c.requires.room c.pairs-2.ensures.tuple)
