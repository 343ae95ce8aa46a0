use Rattle.std.proofs.Common.{◌≡◌, ◌↔◌, ℕ, List, sym, subst}
use Rattle.std.specs.Prelude.{IsNone, IfSome, None}
use Rattle.mrp_types.specs.declared.value.Value.{Value}
use Rattle.range_map.specs.Entries.{value_at}
use Rattle.merge.specs.declared.looks.Run.{Run}
use Rattle.merge.specs.Looked.{IsRunOf}
use Rattle.merge.proofs.LookLemmas.{map_of}
use Rattle.merge.proofs.learned.LearnersRuns.look.Goals as goal

pub returns-clause-run : goal.returns-clause-run
returns-clause-run c =
    let same = map_of c.args.self.now.learners.now c.args.position c.from.result c.index-self-from.result c.from.ensures c.requires in
    subst (λ (m : List (ℕ × Value)). IfSome c.look_at.result (λ (run : Run). IsRunOf m c.args.i run)) (sym same) c.look_at.ensures.run

pub returns-clause-none : goal.returns-clause-none
returns-clause-none c =
    let same = map_of c.args.self.now.learners.now c.args.position c.from.result c.index-self-from.result c.from.ensures c.requires in
    subst (λ (m : List (ℕ × Value)). IsNone c.look_at.result ↔ (value_at c.args.i m ≡ None)) (sym same) c.look_at.ensures.none
