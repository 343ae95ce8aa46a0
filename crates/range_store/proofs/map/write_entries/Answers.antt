use Rattle.std.proofs.Common.{List, ℕ, [], ◌++◌, ap, subst, sym}
use Rattle.std.specs.List.{flat_map, AllByRecursion}
use Rattle.std.specs.declared.vec.Vec.{Vec}
use Rattle.std.specs.declared.alloc.Global.{Global}
use Rattle.command_codec.specs.Replies.{table_entry_bytes, IsTableEntry}
use Rattle.range_store.specs.Table.{seen}
use Rattle.range_store.proofs.MapLaws.{each_entry}
use Rattle.range_store.proofs.map.write_entries.Goals as goal

pub loop-key-init : goal.loop-key-init
loop-key-init c = record {
  all = ap (λ (es : List (Vec ℕ Global × List ℕ)). c.args.to.now ++ flat_map table_entry_bytes (seen es)) c.into_iter-key-iterator.ensures.into_iter_gives.0;
  each = subst (λ (es : List (Vec ℕ Global × List ℕ)). AllByRecursion IsTableEntry (seen es)) (sym c.into_iter-key-iterator.ensures.into_iter_gives.0) (each_entry [] (seen c.args.entries.now.entries) c.requires);
}
