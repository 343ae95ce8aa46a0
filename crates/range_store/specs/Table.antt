-- A map by keys as the table that it stands for, and how many bytes a table has.
use Rattle.std.specs.Prelude.{ℕ, ◌+◌, ◌-◌, bytes_eq, if◌then◌else◌, List, [], map, length, Option, Some, None}
use Rattle.std.specs.List.{sum_by}
use Rattle.std.specs.declared.vec.Vec.{Vec}
use Rattle.std.specs.declared.alloc.Global.{Global}
use Rattle.command_codec.specs.declared.reply.TableEntry.{TableEntry}
use Rattle.plain_model.specs.Replicas.{entry_size}
use Rattle.state_laws.specs.States.{AreRisingAfter}

-- a key with its value
abbrev pub entry_of : Vec ℕ Global × List ℕ → TableEntry
entry_of e = record { key = e.0.items; value = e.1 }

-- the entries of the map, as a table
abbrev pub seen : List (Vec ℕ Global × List ℕ) → List TableEntry
seen entries = map entry_of entries

-- how many bytes a table has in the written state, its count included
abbrev pub table_size : List TableEntry → ℕ
table_size table = 8 + sum_by entry_size table

-- how many bytes of these are those of the key
abbrev pub held_size : List ℕ → Option (List ℕ) → ℕ
held_size key None = 0
held_size key (Some value) = 4 + (length key + length value)

-- keys of 1 to 256 bytes that increase, each with a value of at most 2,048 bytes
abbrev pub IsTable : List TableEntry → Type 0
IsTable table = AreRisingAfter [] table

-- ---- by how many bytes a command would raise the table, by what its key has

abbrev pub updated_by : List ℕ → Option (List ℕ) → ℕ
updated_by value None = 0
updated_by value (Some old) = length value - length old

abbrev pub inserted_by : List ℕ → List ℕ → Option (List ℕ) → ℕ
inserted_by key value None = 4 + (length key + length value)
inserted_by key value (Some old) = 0

abbrev pub swapped_by : List ℕ → List ℕ → Option (List ℕ) → ℕ
swapped_by old new None = 0
swapped_by old new (Some value) = if bytes_eq value old then length new - length value else 0
