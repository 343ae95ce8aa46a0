use Rattle.std.proofs.Common.{arith, length, sym, subst}
use Rattle.mrp_types.specs.Tuples.{IsTuple}
use Rattle.mrp_types.specs.Moves.{moved_past}
use Rattle.mrp_types.proofs.TupleLemmas.{all_kept, length_moved}
use Rattle.mrp_types.proofs.tuple.moved.Goals as goal

pub invariant_of-result : goal.invariant_of-result
invariant_of-result c =
    let many = length_moved c.args.place c.args.pairs.now in
    let kept = all_kept c.loop-i.i (length c.args.pairs.now) (moved_past c.args.place c.args.pairs.now) c.loop-i.kept (omega (arith, many)) (sym many) c.requires.tuple.few c.loop-i.invariant in
    (omega (arith, many, c.requires.tuple.few), kept.1, kept.2, subst IsTuple (sym kept.0) c.requires.tuple)

pub returns : goal.returns
returns c =
    let many = length_moved c.args.place c.args.pairs.now in
    (all_kept c.loop-i.i (length c.args.pairs.now) (moved_past c.args.place c.args.pairs.now) c.loop-i.kept (omega (arith, many)) (sym many) c.requires.tuple.few c.loop-i.invariant).0
