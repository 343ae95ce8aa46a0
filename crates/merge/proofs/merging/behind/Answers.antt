use Rattle.mrp_types.specs.Rounds.{size_of}
use Rattle.mrp_types.specs.Moves.{next_place, past}
use Rattle.mrp_types.proofs.TupleOrder.{valid_is_front, front_is_valid, past_is_front}
use Rattle.mrp_types.proofs.TupleMoves.{rings_moved}
use Rattle.merge.proofs.merging.behind.Goals as goal

pub returns-clause-valid : goal.returns-clause-valid
returns-clause-valid c =
    rw c.advance.ensures (front_is_valid (size_of c.args.m.now) (past (size_of c.args.m.now) c.args.stop) (past_is_front (size_of c.args.m.now) c.args.stop (valid_is_front (size_of c.args.m.now) c.args.stop c.requires.valid)))

pub returns-clause-rings : goal.returns-clause-rings
returns-clause-rings c = rw c.advance.ensures (rings_moved (next_place (size_of c.args.m.now) c.args.stop) c.args.stop)
