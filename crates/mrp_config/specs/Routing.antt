-- Which partitions a command concerns, and the ring that orders it.
use Rattle.std.specs.Prelude.{ℕ, ◌+◌, ◌^◌, ◌==◌, ◌&&◌, ◌||◌, Bool, if◌then◌else◌, List, [], ◌∷◌, length, Option, Some, None, Result, Ok, Err, not}
use Rattle.std.specs.Ordering.{nat_cmp, is_lt}
use Rattle.std.specs.Cmp.Lexicographic.{slice_cmp}
use Rattle.std.specs.List.{list_any, list_all}
use Rattle.mrp_types.specs.declared.id.RingId.{RingId}
use Rattle.mrp_types.specs.declared.id.LogId.{LogId}
use Rattle.command_codec.specs.declared.command.Command.{Command}
use Rattle.command_codec.specs.declared.command.Command.TheVariants.{Append, Multi, ReadLog, TrimLog, Get, Scan, Update, Insert, Delete, Swap}
use Rattle.mrp_config.specs.declared.tables.PartitionTable.{PartitionTable}
use Rattle.mrp_config.specs.declared.routing.NoGroup.{NoGroup}
use Rattle.mrp_config.specs.Config.{has_ring, has_log}

abbrev pub is_before : List ℕ → List ℕ → Bool
is_before a b = is_lt (slice_cmp nat_cmp a b)

-- whether a key is below an end, where none is past all keys
abbrev pub is_below : List ℕ → List ℕ → Bool
is_below key to = (length to == 0) || is_before key to

-- whether the key is one of the range: from `from` on, below `to`
abbrev pub is_within : List ℕ → List ℕ → List ℕ → Bool
is_within from to key = not (is_before key from) && is_below key to

-- whether two ranges of keys meet: each begins below the end of the other
abbrev pub do_meet : List ℕ → List ℕ → List ℕ → List ℕ → Bool
do_meet from to begin end = is_below from end && is_below begin to

-- whether the partition has one of the logs
abbrev pub has_some : List LogId → List LogId → Bool
has_some own logs = list_any (λ (log : LogId). has_log own log.0) logs

-- A command on logs concerns the partitions of its logs, a command on a key the partition of the key, a scan
-- each partition whose range it meets.
unfoldable pub is_concerned : Command → PartitionTable → Bool
is_concerned (Append log value) p = has_log p.logs log.0
is_concerned (Multi logs value) p = has_some p.logs logs
is_concerned (ReadLog log position) p = has_log p.logs log.0
is_concerned (TrimLog log position) p = has_log p.logs log.0
is_concerned (Get key) p = is_within p.from p.to key
is_concerned (Scan from to) p = do_meet from to p.from p.to
is_concerned (Update key value) p = is_within p.from p.to key
is_concerned (Insert key value) p = is_within p.from p.to key
is_concerned (Delete key) p = is_within p.from p.to key
is_concerned (Swap key old new) p = is_within p.from p.to key

-- the concerned partitions in order
abbrev pub concerned_of : Command → List PartitionTable → List PartitionTable
concerned_of command [] = []
concerned_of command (p ∷ partitions) = if is_concerned command p then p ∷ concerned_of command partitions else concerned_of command partitions

-- a bit for each partition that is concerned, by its id
abbrev pub bit_of : Command → PartitionTable → ℕ
bit_of command p = if is_concerned command p then 2 ^ p.id.0 else 0

abbrev pub mask_of : Command → List PartitionTable → ℕ
mask_of command [] = 0
mask_of command (p ∷ partitions) = bit_of command p + mask_of command partitions

-- the first concerned partition, and the partitions after it
abbrev pub first_concerned : Command → List PartitionTable → Option (PartitionTable × List PartitionTable)
first_concerned command [] = None
first_concerned command (p ∷ partitions) = if is_concerned command p then Some (p, partitions) else first_concerned command partitions

-- whether each of the partitions subscribes to the ring
abbrev pub all_have : List PartitionTable → ℕ → Bool
all_have partitions ring = list_all (λ (p : PartitionTable). has_ring p.rings ring) partitions

abbrev pub no_group : NoGroup
no_group = record {}

-- the first of the rings to which all of the partitions subscribe
abbrev pub common : List PartitionTable → List RingId → Result RingId NoGroup
common partitions [] = Err no_group
common partitions (ring ∷ rings) = if all_have partitions ring.0 then Ok ring else common partitions rings

-- One partition: its home ring. Several: the least ring to which all of them subscribe; the rings of a partition
-- stand in increasing order, so it is the first of the first partition's.
abbrev pub route_of : List PartitionTable → Result RingId NoGroup
route_of [] = Err no_group
route_of (p ∷ []) = Ok p.home
route_of (p ∷ q ∷ others) = common (q ∷ others) p.rings
