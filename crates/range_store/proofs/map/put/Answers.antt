use Rattle.std.proofs.Common.{◌∙◌, ap, [], List, ℕ}
use Rattle.std.specs.declared.vec.Vec.{Vec}
use Rattle.std.specs.declared.alloc.Global.{Global}
use Rattle.plain_model.specs.Replicas.{with_entry}
use Rattle.range_store.specs.Table.{seen}
use Rattle.range_store.proofs.MapLaws.{put_seen}
use Rattle.range_store.proofs.map.put.Goals as goal

pub returns-clause-ok : goal.returns-clause-ok
returns-clause-ok c =
    ap (λ (es : List (Vec ℕ Global × List ℕ)). seen es) c.in_ok-insert.ensures.entries
    ∙ (put_seen [] c.args.entries.now.entries c.in_ok-key.key c.in_ok-value.value c.requires
    ∙ (ap (λ (k : List ℕ). with_entry k c.in_ok-value.value (seen c.args.entries.now.entries)) c.in_ok-key.ensures.items ∙ ap (λ (v : List ℕ). with_entry c.args.key.now v (seen c.args.entries.now.entries)) c.in_ok-value.ensures))
