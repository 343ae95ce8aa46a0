use Rattle.std.proofs.Common.{◌∙◌, ap, [], List, ℕ}
use Rattle.std.specs.declared.vec.Vec.{Vec}
use Rattle.std.specs.declared.alloc.Global.{Global}
use Rattle.range_store.specs.Table.{seen}
use Rattle.range_store.proofs.MapLaws.{found, removed_seen}
use Rattle.range_store.proofs.map.take_out.Goals as goal

pub returns-clause-state : goal.returns-clause-state
returns-clause-state c = ap (λ (es : List (Vec ℕ Global × List ℕ)). seen es) c.remove.ensures.entries ∙ removed_seen [] c.args.key.now c.args.entries.now.entries c.requires

pub returns-clause-value : goal.returns-clause-value
returns-clause-value c = c.remove.ensures.value ∙ found c.args.key.now c.args.entries.now.entries
