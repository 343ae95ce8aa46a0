-- Values: Skip, or a batch.
use Rattle.std.specs.Prelude.{Bool, true, false}
use Rattle.mrp_types.specs.declared.value.Value.{Value}
use Rattle.mrp_types.specs.declared.value.Value.TheVariants.{Skip, Batch}

abbrev pub is_skip : Value → Bool
is_skip Skip = true
is_skip (Batch batch) = false
