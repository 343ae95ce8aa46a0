use Rattle.std.proofs.Common.{◌≡◌, ◌∙◌, ap, sym, subst, below_more}
use Rattle.std.specs.Prelude.{Option, IfOk}
use Rattle.mrp_types.specs.declared.value.Entry.{Entry}
use Rattle.mrp_types.specs.declared.value.Value.{Value}
use Rattle.plain_model.specs.Fold.{known_entries}
use Rattle.delivery.specs.Told.{pair_of}
use Rattle.delivery.proofs.Found.{found, none_there}
use Rattle.delivery.proofs.ready.Ready.entries_at.Goals as goal

pub loop-i-preserved : goal.loop-i-preserved
loop-i-preserved g c = below_more _ _ c.loop-i.invariant c.if-pairs-i.false

pub returns-then-pairs-i-clause-entries : goal.returns-then-pairs-i-clause-entries
returns-then-pairs-i-clause-entries g c =
    let is = found c.args.self.now.standing.tuple c.pairs-pairs.result.now c.loop-i.i (pair_of c.args.place) (g.L.Learned.maps c.args.learned.now) _ c.learner.result.now.held
    (c.pairs-pairs.ensures.pairs ∙ c.tuple-tuple.ensures.tuple) c.loop-i.invariant c.if-pairs-i.true c.loop-i-test.true c.requires c.at.ensures.value c.learner.ensures in
    subst (λ (o : Option Value). IfOk c.entries_in.result (λ entries. entries ≡ known_entries o)) is c.entries_in.ensures.entries

pub returns-clause-entries : goal.returns-clause-entries
returns-clause-entries g c =
    c.new.ensures
    ∙ ap (λ (o : Option Value). known_entries o)
    (sym (none_there c.args.self.now.standing.tuple c.pairs-pairs.result.now c.loop-i.i (pair_of c.args.place) (g.L.Learned.maps c.args.learned.now) (c.pairs-pairs.ensures.pairs ∙ c.tuple-tuple.ensures.tuple) c.loop-i.invariant c.loop-i-test.false))
