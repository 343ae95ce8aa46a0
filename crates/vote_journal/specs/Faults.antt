-- Why an operation on a journal is refused, by why one on its log is.
use Rattle.std.specs.Prelude.{◌≡◌, ◌⊎◌, ℕ, Result, Ok, Err}
use Rattle.mrp_types.specs.Reading as reading
use Rattle.command_codec.specs.declared.fault.CodecFault.{CodecFault}
use Rattle.command_codec.specs.declared.fault.CodecFault.TheVariants as fields
use Rattle.gate_log.specs.declared.fault.LogFault.{LogFault}
use Rattle.gate_log.specs.declared.fault.LogFault.TheVariants as logs
use Rattle.vote_journal.specs.declared.fault.OpenFault.{OpenFault}
use Rattle.vote_journal.specs.declared.fault.OpenFault.TheVariants as opens
use Rattle.vote_journal.specs.declared.fault.JournalFault.{JournalFault}
use Rattle.vote_journal.specs.declared.fault.JournalFault.TheVariants as journals

abbrev pub opened_as : LogFault → OpenFault
opened_as logs.Disk = opens.Disk
opened_as (logs.Damaged area at) = opens.Damaged area at
opened_as (logs.Full len) = opens.Full len
opened_as logs.Memory = opens.Memory

abbrev pub refused_as : LogFault → JournalFault
refused_as logs.Disk = journals.Disk
refused_as (logs.Damaged area at) = journals.Disk
refused_as (logs.Full len) = journals.Full len
refused_as logs.Memory = journals.Memory

-- what a call that judges gives: the value, unless memory was wanting
abbrev pub Says : {T : Type 0} → Result T OpenFault → Result T OpenFault → Type 0
Says walked result = reading.Says opens.Memory (λ x. x) walked result

-- why the bytes at a place are no record
abbrev pub refused_at : ℕ → CodecFault → OpenFault
refused_at at fields.Memory = opens.Memory
refused_at at other = opens.BadRecord at
