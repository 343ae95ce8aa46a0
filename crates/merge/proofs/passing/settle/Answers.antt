use Rattle.std.proofs.Common.{arith, ◌≡◌, ◌≤◌, ℕ, List, slice_index_or, subst, ap, ◌∙◌, inl, inr, add-one}
use Rattle.std.proofs.lemmas.Bool.{cases_lt}
use Rattle.mrp_types.specs.declared.id.RingId.{RingId}
use Rattle.mrp_types.specs.Rounds.{size_of}
use Rattle.merge.proofs.Turns.{none}
use Rattle.merge.proofs.Settled.{front_length, front_at, front_more, front_all, late_at, sized_all}
use Rattle.merge.proofs.passing.settle.Goals as goal

pub entry_before-requires-clause-late : goal.entry_before-requires-clause-late
entry_before-requires-clause-late c =
    let same = front_at (size_of c.args.m.now) c.args.place c.loop-i.i c.args.pairs.now in
    let many = front_length (size_of c.args.m.now) c.args.place c.loop-i.i c.args.pairs.now in
    rw (c.loop-i.invariant.settled, same) (late_at (size_of c.args.m.now) c.args.place c.args.pairs.now c.loop-i.i c.requires.late (omega arith)).0

pub entry_before-requires-clause-room : goal.entry_before-requires-clause-room
entry_before-requires-clause-room c =
    let same = front_at (size_of c.args.m.now) c.args.place c.loop-i.i c.args.pairs.now in
    rw (c.loop-i.invariant.settled, same) (late_at (size_of c.args.m.now) c.args.place c.args.pairs.now c.loop-i.i c.requires.late (omega arith)).1

pub loop-i-preserved : goal.loop-i-preserved
loop-i-preserved c =
    let same = front_at (size_of c.args.m.now) c.args.place c.loop-i.i c.args.pairs.now in
    let here : 1 ≤ size_of c.args.m.now (slice_index_or c.args.pairs.now c.loop-i.i none).0.0 =
    subst (λ (x : RingId × ℕ). 1 ≤ size_of c.args.m.now x.0.0) (ap (λ (l : List (RingId × ℕ)). slice_index_or l c.loop-i.i none) c.loop-i.invariant.settled ∙ same) c.entry_before.ensures.sized in
    record {
      settled = rw (c.entry_before.ensures.count, c.loop-i.invariant.settled, same, add-one) (front_more (size_of c.args.m.now) c.args.place c.loop-i.i c.args.pairs.now (omega arith));
      sized = λ k less. elim (cases_lt k c.loop-i.i) [
        | inl before ↦ c.loop-i.invariant.sized k before
        | inr last ↦ (let one : c.loop-i.i ≡ k = omega arith in subst (λ (n : ℕ). 1 ≤ size_of c.args.m.now (slice_index_or c.args.pairs.now n none).0.0) one here)
      ];
    }

pub returns-clause-settled : goal.returns-clause-settled
returns-clause-settled c = c.loop-i.invariant.settled ∙ front_all (size_of c.args.m.now) c.args.place c.loop-i.i c.args.pairs.now (omega arith)

pub returns-clause-sized : goal.returns-clause-sized
returns-clause-sized c = sized_all (size_of c.args.m.now) c.args.pairs.now (λ k inside. c.loop-i.invariant.sized k (omega arith))
