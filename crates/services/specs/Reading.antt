-- What calls answer that read a state or a section of one.
use Rattle.std.specs.Prelude.{ℕ, ◌≡◌, Result, Ok, Err}
use Rattle.command_codec.specs.declared.fault.CodecFault.{CodecFault}
use Rattle.command_codec.specs.declared.fault.CodecFault.TheVariants as codec
use Rattle.command_codec.specs.Reader.{Spot}
use Rattle.plain_model.specs.StateBytes.{fault_position}
use Rattle.services.specs.declared.fault.StateFault.{StateFault}
use Rattle.services.specs.declared.fault.StateFault.TheVariants.{BadState, Memory}

-- a fault by its position; want of memory stays that
abbrev pub state_fault : CodecFault → StateFault
state_fault (codec.Short at) = BadState at
state_fault (codec.BadKind at) = BadState at
state_fault (codec.BadField at) = BadState at
state_fault (codec.TooLong at) = BadState at
state_fault (codec.Left at) = BadState at
state_fault codec.Memory = Memory

-- What a call answers, seen by view, is what reading gives, with the position of the first field at fault, unless memory ran out.
abbrev pub SaysState : {X Y : Type 0} → (X → Y) → Result Y CodecFault → Result X StateFault → Type 0
SaysState view read (Ok x) = read ≡ Ok (view x)
SaysState view read (Err (BadState at)) = (fault : CodecFault) × (read ≡ Err fault) × (fault_position fault ≡ at)
SaysState view read (Err Memory) = Unit {0}

-- what was read, and how many bytes it took
abbrev pub with_count : {V : Type 0} → Result (V × Spot) CodecFault → Result (V × ℕ) CodecFault
with_count (Ok x) = Ok (x.0, x.1.at)
with_count (Err fault) = Err fault
