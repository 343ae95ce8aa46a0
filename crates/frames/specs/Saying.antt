-- What a call that reads a frame answers.
use Rattle.std.specs.Prelude.{◌≡◌, ◌⊎◌, Result, Ok, Err}
use Rattle.mrp_types.specs.Reading as reading
use Rattle.command_codec.specs.Reader.{Spot}
use Rattle.frames.specs.declared.fault.FrameFault.{FrameFault}
use Rattle.frames.specs.declared.fault.FrameFault.TheVariants.{Memory}

abbrev pub Fails : {Y : Type 0} → Result Y FrameFault → FrameFault → Type 0
Fails read fault = reading.Fails Memory read fault

-- what was read, and what is left, unless memory ran out
abbrev pub Reads : {X Y : Type 0} → (X → Y) → Result (Y × Spot) FrameFault → Result X FrameFault → Spot → Type 0
Reads view read result left = reading.Reads Memory view read result left

-- the same of a call that leaves nothing
abbrev pub Says : {X Y : Type 0} → (X → Y) → Result Y FrameFault → Result X FrameFault → Type 0
Says view read result = reading.Says Memory view read result
