use Rattle.std.proofs.Common.{arith, rules, ◌≡◌, ◌<◌, ◌+◌, ℕ, List, length, take, slice_set, slice_index_or}
use Rattle.std.proofs.lemmas.Grind.{common_steps}
use Rattle.mrp_types.specs.declared.id.NodeId.{NodeId}
use Rattle.mrp_types.specs.Seats.{padded}
use Rattle.mrp_types.proofs.seats.Seats.from_slice.Goals as goal

one_more : (seats nodes : List NodeId) (i : ℕ) → i < 7 → i < length nodes → length seats ≡ 7 → take i seats ≡ take i nodes
    → take (i + 1) (slice_set seats i (slice_index_or nodes i (record { 0 = 0 }))) ≡ take (i + 1) nodes
one_more seats nodes i few inside seven front = grind (arith, common_steps)

none_behind : (seats : List NodeId) (i : ℕ) (node : NodeId) → i < 7 → length seats ≡ 7 → padded (take i seats) ≡ seats → padded (take (i + 1) (slice_set seats i node)) ≡ slice_set seats i node
none_behind seats i node few seven behind = grind (arith, common_steps)

pub loop-index-preserved : goal.loop-index-preserved
loop-index-preserved c =
    let i = c.loop-index.invariant in
    let few = c.requires.few in
    let inside = c.loop-index-test.true in
    record {
      seven = grind (arith, common_steps, i.seven);
      front = one_more c.loop-index.seats c.args.nodes.now c.loop-index.index (omega (arith, few, inside)) inside i.seven i.front;
      behind = none_behind c.loop-index.seats c.loop-index.index _ (omega (arith, few, inside)) i.seven i.behind;
    }
