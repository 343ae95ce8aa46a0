use Rattle.mrp_types.specs.Rounds.{size_of}
use Rattle.mrp_types.proofs.TupleCalls.{valid_is_reached}
use Rattle.mrp_types.proofs.tuple.Tuple.is_valid.Goals as goal

pub returns-clause-reached : goal.returns-clause-reached
returns-clause-reached c =
    rw (c.are_lasts_before.ensures, c.pairs-2.ensures.pairs, c.as_place.ensures, c.first_of-next.ensures, c.pairs.ensures.pairs)
    (valid_is_reached (size_of c.args.m.now) c.args.self.now c.pairs.ensures.tuple)
