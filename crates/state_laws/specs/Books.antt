-- Books whose values are bytes.
use Rattle.std.specs.Prelude.{List}
use Rattle.std.specs.List.{AllByRecursion}
use Rattle.hex.specs.Hex.{IsBytes}
use Rattle.mrp_types.specs.declared.value.Value.{Value}
use Rattle.mrp_types.specs.declared.value.Value.TheVariants.{Skip, Batch}
use Rattle.mrp_types.specs.Book.{Learning}

-- a value whose batch is of bytes
abbrev pub IsOfBytes : Value → Type 0
IsOfBytes Skip = Unit {0}
IsOfBytes (Batch batch) = IsBytes batch

abbrev pub AreOfBytes : List Learning → Type 0
AreOfBytes known = AllByRecursion (λ (l : Learning). IsOfBytes l.value) known
