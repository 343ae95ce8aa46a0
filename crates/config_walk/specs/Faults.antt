-- The faults of a deployment: their numbers, and what they are about.
use Rattle.std.specs.Prelude.{ℕ, List, Option, None, Some}
use Rattle.config_walk.specs.declared.fault.ConfigFault.{ConfigFault}
use Rattle.config_walk.specs.declared.fault.ConfigFault.TheVariants.{NotToml, Missing, WrongKind, OutOfRange, Repeated, UnknownId, BadQuorums, BadRanges, LogTwice, UnknownName, TooLong, Memory, NotBuilt}

abbrev pub fault_number : ConfigFault → ℕ
fault_number NotToml = 1
fault_number (Missing name) = 2
fault_number (WrongKind name) = 3
fault_number (OutOfRange name) = 4
fault_number (Repeated name id) = 5
fault_number (UnknownId name id) = 6
fault_number (BadQuorums partition) = 7
fault_number (BadRanges partition) = 8
fault_number (LogTwice log) = 9
fault_number (UnknownName name) = 10
fault_number TooLong = 11
fault_number Memory = 12
fault_number NotBuilt = 13

-- the name that a fault is about, where it is about one
abbrev pub fault_name : ConfigFault → Option (List ℕ)
fault_name (Missing name) = Some name
fault_name (WrongKind name) = Some name
fault_name (OutOfRange name) = Some name
fault_name (Repeated name id) = Some name
fault_name (UnknownId name id) = Some name
fault_name (UnknownName name) = Some name
fault_name other = None

-- the number that a fault is about, where it is about one
abbrev pub fault_id : ConfigFault → Option ℕ
fault_id (Repeated name id) = Some id
fault_id (UnknownId name id) = Some id
fault_id (BadQuorums partition) = Some partition.0
fault_id (BadRanges partition) = Some partition.0
fault_id (LogTwice log) = Some log.0
fault_id other = None
