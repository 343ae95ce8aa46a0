-- The bytes of a state below a tuple.
use Rattle.std.proofs.Common.{◌≡◌, ℕ, List, refl, sym, ap}
use Rattle.std.specs.Prelude.{Option, Some, None, option_map}
use Rattle.mrp_types.specs.declared.id.RingId.{RingId}
use Rattle.mrp_types.specs.declared.value.Entry.{Entry}
use Rattle.mrp_types.specs.Book.{Learning}
use Rattle.mrp_config.specs.declared.tables.PartitionTable.{PartitionTable}
use Rattle.plain_model.specs.Replicas.{applies, empty_replica}
use Rattle.plain_model.specs.StateBytes.{state_bytes}
use Rattle.plain_model.specs.Fold.{entries_below, replica_after, state_below}
use Rattle.plain_model.proofs.FoldLaw.{replica-follows}

-- the bytes of what a new replica is after some entries
abbrev bytes_after : PartitionTable → List Entry → List ℕ
bytes_after p es = state_bytes (applies p (empty_replica p) es).replica

for_any : (p : PartitionTable) (es : Option (List Entry)) → option_map (λ (es : List Entry). state_bytes (replica_after p es)) es ≡ option_map (λ (es : List Entry). bytes_after p es) es
for_any p None = refl
for_any p (Some es) = ap (λ r. Some (state_bytes r)) (sym (replica-follows p es))

pub state-below : (m : ℕ → ℕ) (known : List Learning) (p : PartitionTable) (tuple : List (RingId × ℕ)) →
    state_below m known p tuple ≡ option_map (λ (es : List Entry). bytes_after p es) (entries_below m known tuple)
state-below m known p tuple = for_any p (entries_below m known tuple)
