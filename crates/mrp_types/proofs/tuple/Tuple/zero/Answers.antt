use Rattle.std.proofs.Common.{arith, ◌≡◌, length}
use Rattle.std.proofs.lemmas.List.{length-map}
use Rattle.mrp_types.specs.declared.id.RingId.{RingId}
use Rattle.mrp_types.specs.Moves.{first_tuple}
use Rattle.mrp_types.proofs.TupleLemmas.{first_more}
use Rattle.mrp_types.proofs.tuple.Tuple.zero.Goals as goal

pub loop-i-preserved : goal.loop-i-preserved
loop-i-preserved c =
    let many : length (first_tuple c.args.rings.now) ≡ length c.args.rings.now = length-map c.args.rings.now (λ (ring : RingId). (ring, 0)) in
    rw c.loop-i.invariant (first_more c.args.rings.now c.loop-i.i (omega arith) (omega (arith, many, c.requires.few)))
