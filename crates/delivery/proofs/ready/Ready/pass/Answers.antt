use Rattle.std.proofs.Common.{ap, sym, subst, refl, ◌∙◌, ℕ, List, ◌≡◌}
use Rattle.mrp_types.specs.declared.id.RingId.{RingId}
use Rattle.mrp_types.specs.Rounds.{size_of}
use Rattle.mrp_types.specs.Tuples.{IsTuple}
use Rattle.delivery.specs.Readied.{Readied}
use Rattle.delivery.proofs.Counts.{most, still_behind, now_behind}
use Rattle.delivery.proofs.ready.Ready.pass.Goals as goal

pub invariant_of-self : goal.invariant_of-self
invariant_of-self g c =
    let is : IsTuple c.self.inside.merge.tuple =
    subst (λ (t : List (RingId × ℕ)). IsTuple t) (c.tuple.ensures.tuple ∙ ap (λ (r : Readied). r.standing.tuple) (sym c.self.view_is)) c.tuple.ensures.pairs in
    still_behind (size_of c.self.inside.merge.sizes) _ c.self.inside.merge.tuple c.next-next.new.self.tuple c.next-next.result c.self.inside.delivered is c.next-next.ensures.merges c.self.invariant

pub returns-clause-few : goal.returns-clause-few
returns-clause-few g c = most c.next-next.new.self.tuple (subst (λ (t : List (RingId × ℕ)). IsTuple t) c.tuple-2.ensures.tuple c.tuple-2.ensures.pairs)

pub returns-clause-behind : goal.returns-clause-behind
returns-clause-behind g c =
    let is : IsTuple c.self.inside.merge.tuple =
    subst (λ (t : List (RingId × ℕ)). IsTuple t) (c.tuple.ensures.tuple ∙ ap (λ (r : Readied). r.standing.tuple) (sym c.self.view_is)) c.tuple.ensures.pairs in
    now_behind (size_of c.self.inside.merge.sizes) _ c.self.inside.merge.tuple c.next-next.new.self.tuple c.next-next.result
    (record { tuple = c.next-next.new.self.tuple; replica = c.self.inside.state.replica; delivered = c.self.inside.delivered }) is c.next-next.ensures.merges c.self.invariant refl
