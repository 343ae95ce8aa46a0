-- Worked examples: partitions, entries and their states.
use Rattle.std.specs.Prelude.{ℕ, ◌+◌, List, [], ◌∷◌, ◌++◌, ◌^◌, length, map, replicate, codes, Option, Some, None}
use Rattle.mrp_types.specs.declared.id.ClientId.{ClientId}
use Rattle.mrp_types.specs.declared.id.LogId.{LogId}
use Rattle.mrp_types.specs.declared.id.RingId.{RingId}
use Rattle.mrp_types.specs.declared.place.Place.{Place}
use Rattle.mrp_types.specs.declared.value.Entry.{Entry}
use Rattle.mrp_types.specs.declared.value.Value.TheVariants.{Skip, Batch}
use Rattle.mrp_types.specs.Book.{Learning}
use Rattle.command_codec.specs.declared.command.Command.{Command}
use Rattle.command_codec.specs.declared.command.Command.TheVariants.{Append, Multi, ReadLog, TrimLog, Get, Scan, Update, Insert, Delete, Swap}
use Rattle.command_codec.specs.declared.reply.Reply.{Reply}
use Rattle.command_codec.specs.declared.reply.TableEntry.{TableEntry}
use Rattle.command_codec.specs.Replies.{reply_bytes, entries_of}
use Rattle.command_codec.specs.Spelling.{command_bytes, batch_bytes}
use Rattle.mrp_config.specs.declared.tables.PartitionTable.{PartitionTable}
use Rattle.mrp_config.specs.Config.{Config}
use Rattle.plain_model.specs.Replicas.{Replica, Applied, AppliedAll, apply, applies, empty_replica}
use Rattle.plain_model.specs.Fold.{reply_to}

abbrev pub ring : ℕ → RingId
ring n = record { 0 = n }

abbrev pub client : ℕ → ClientId
client n = record { 0 = n }

abbrev pub place : ℕ → ℕ → Place
place number inst = record { ring = ring number; inst = inst }

-- rounds of one instance, and of two
abbrev pub ones : ℕ → ℕ
ones number = 1

abbrev pub twos : ℕ → ℕ
twos number = 2

abbrev pub log : ℕ → LogId
log n = record { 0 = n }

-- the only partition: all keys, log 0, ring 0
abbrev pub alone : PartitionTable
alone = record { id = record { 0 = 0 }; replicas = []; rings = ring 0 ∷ []; home = ring 0; from = []; to = []; logs = log 0 ∷ []; trim_quorum = 1; recovery_quorum = 1 }

-- two partitions: keys below m with log 0, and the others with log 1; ring 2 is of both
abbrev pub lower : PartitionTable
lower = record { id = record { 0 = 0 }; replicas = []; rings = ring 0 ∷ ring 2 ∷ []; home = ring 0; from = []; to = codes "m"; logs = log 0 ∷ []; trim_quorum = 1; recovery_quorum = 1 }

abbrev pub upper : PartitionTable
upper = record { id = record { 0 = 1 }; replicas = []; rings = ring 1 ∷ ring 2 ∷ []; home = ring 1; from = codes "m"; to = []; logs = log 1 ∷ []; trim_quorum = 1; recovery_quorum = 1 }

-- a deployment of these two, of which only the partitions and the round matter here
abbrev pub both_parts : Config
both_parts = record { m = 1; lambda = 0; delta = 1; resend = 4; suspect = 16; attempt = 8; checkpoint = 2; trim = 8; window = 16; journal = 1048576; nodes = []; clients = []; rings = []; partitions = lower ∷ upper ∷ [] }

-- client 0 asks a command under a number
abbrev pub asked : ℕ → Command → Entry
asked seq command = record { client = client 0; seq = seq; command = command_bytes command }

-- so does another client
abbrev pub asked_by : ℕ → ℕ → Command → Entry
asked_by number seq command = record { client = client number; seq = seq; command = command_bytes command }

-- what a new replica of a partition is after entries, and what it replied
abbrev pub after : PartitionTable → List Entry → AppliedAll
after p es = applies p (empty_replica p) es

-- the value `hi` appended to log 0 as the first command of client 0
abbrev pub hi : Entry
hi = asked 1 (Append (log 0) (codes "hi"))

-- the position 0 of log 0
abbrev pub hi_reply : List ℕ
hi_reply = 1 ∷ 1 ∷ 0 ∷ 0 ∷ 0 ∷ 0 ∷ 0 ∷ 0 ∷ 0 ∷ 0 ∷ 0 ∷ []

-- one client 0 with the number 1 and that reply; one log 0 with the trim 0 and one value; an empty table
abbrev pub hi_state : List ℕ
hi_state =
    0 ∷ 1 ∷ 0 ∷ 0 ∷ 0 ∷ 0 ∷ 0 ∷ 0 ∷ 0 ∷ 0 ∷ 1 ∷ 0 ∷ 0 ∷ 0 ∷ 11 ∷ 1 ∷ 1 ∷ 0 ∷ 0 ∷ 0 ∷ 0 ∷ 0 ∷ 0 ∷ 0 ∷ 0 ∷ 0 ∷
    1 ∷ 0 ∷ 0 ∷ 0 ∷ 0 ∷ 0 ∷ 0 ∷ 0 ∷ 0 ∷ 0 ∷ 0 ∷ 0 ∷ 0 ∷ 0 ∷ 0 ∷ 0 ∷ 0 ∷ 1 ∷ 0 ∷ 2 ∷ 104 ∷ 105 ∷
    0 ∷ 0 ∷ 0 ∷ 0 ∷ 0 ∷ 0 ∷ 0 ∷ 0 ∷ []

-- the same as a record
abbrev pub hi_replica : Replica
hi_replica = record {
  sessions = record { client = client 0; seq = 1; reply = hi_reply } ∷ [];
  logs = record { id = log 0; trim = 0; values = codes "hi" ∷ [] } ∷ [];
  table = [];
}

-- Entries of every kind: a repeat, an older number, another client's, one that doesn't concern the partition and one whose bytes
-- are no command.
abbrev pub mixed : List Entry
mixed =
    asked 1 (Append (log 0) (codes "a")) ∷
    asked_by 3 7 (Insert (codes "k") (codes "v")) ∷
    asked 2 (Append (log 0) (codes "b")) ∷
    asked 2 (Get (codes "k")) ∷
    asked 1 (Delete (codes "k")) ∷
    asked 3 (TrimLog (log 0) 1) ∷
    asked_by 3 8 (Insert (codes "k") (codes "w")) ∷
    asked_by 3 9 (Insert (codes "b") (codes "x")) ∷
    asked_by 1 5 (Append (log 9) (codes "z")) ∷
    record { client = client 1; seq = 6; command = 77 ∷ [] } ∷
    asked_by 1 2 (ReadLog (log 0) 0) ∷
    asked 4 (Scan [] []) ∷
    asked_by 3 10 (Update (codes "k") (codes "new")) ∷
    asked 5 (ReadLog (log 0) 1) ∷
    asked 6 (ReadLog (log 0) 2) ∷
    asked 7 (TrimLog (log 0) 3) ∷
    asked 8 (Delete (codes "b")) ∷
    asked 9 (Get (codes "b")) ∷
    asked 10 (Update (codes "b") (codes "y")) ∷
    asked 11 (Multi (log 0 ∷ log 1 ∷ []) (codes "c")) ∷ []

-- what they leave: log 0 trimmed to 1, with two values behind, and one key
abbrev pub mixed_replica : Replica
mixed_replica = record {
  sessions =
      record { client = client 0; seq = 11; reply = 1 ∷ 1 ∷ 0 ∷ 0 ∷ 0 ∷ 0 ∷ 0 ∷ 0 ∷ 0 ∷ 0 ∷ 2 ∷ [] } ∷
      record { client = client 1; seq = 2; reply = 3 ∷ 0 ∷ 0 ∷ 0 ∷ 0 ∷ 0 ∷ 0 ∷ 0 ∷ 1 ∷ [] } ∷
      record { client = client 3; seq = 10; reply = 7 ∷ [] } ∷ [];
  logs = record { id = log 0; trim = 1; values = codes "b" ∷ codes "c" ∷ [] } ∷ [];
  table = record { key = codes "k"; value = codes "new" } ∷ [];
}

-- the replies with their places
abbrev pub mixed_replies : List (ℕ × List ℕ)
mixed_replies =
    (0, 1 ∷ 1 ∷ 0 ∷ 0 ∷ 0 ∷ 0 ∷ 0 ∷ 0 ∷ 0 ∷ 0 ∷ 0 ∷ []) ∷
    (1, 7 ∷ []) ∷
    (2, 1 ∷ 1 ∷ 0 ∷ 0 ∷ 0 ∷ 0 ∷ 0 ∷ 0 ∷ 0 ∷ 0 ∷ 1 ∷ []) ∷
    -- the repeat, although its command is another one
    (3, 1 ∷ 1 ∷ 0 ∷ 0 ∷ 0 ∷ 0 ∷ 0 ∷ 0 ∷ 0 ∷ 0 ∷ 1 ∷ []) ∷
    (5, 7 ∷ []) ∷
    (6, 6 ∷ []) ∷
    (7, 7 ∷ []) ∷
    (10, 3 ∷ 0 ∷ 0 ∷ 0 ∷ 0 ∷ 0 ∷ 0 ∷ 0 ∷ 1 ∷ []) ∷
    (11, 8 ∷ 0 ∷ 0 ∷ 2 ∷ 0 ∷ 1 ∷ 98 ∷ 0 ∷ 1 ∷ 120 ∷ 0 ∷ 1 ∷ 107 ∷ 0 ∷ 1 ∷ 118 ∷ []) ∷
    (12, 7 ∷ []) ∷
    (13, 2 ∷ 0 ∷ 1 ∷ 98 ∷ []) ∷
    (14, 5 ∷ 0 ∷ 0 ∷ 0 ∷ 0 ∷ 0 ∷ 0 ∷ 0 ∷ 2 ∷ []) ∷
    (15, 5 ∷ 0 ∷ 0 ∷ 0 ∷ 0 ∷ 0 ∷ 0 ∷ 0 ∷ 2 ∷ []) ∷
    (16, 7 ∷ []) ∷
    (17, 4 ∷ []) ∷
    (18, 4 ∷ []) ∷
    (19, 1 ∷ 1 ∷ 0 ∷ 0 ∷ 0 ∷ 0 ∷ 0 ∷ 0 ∷ 0 ∷ 0 ∷ 2 ∷ []) ∷ []

-- a swap over another value, over the value that stands, and of a key that isn't there
abbrev pub swap_over : List ℕ → Command
swap_over old = Swap (codes "a") old (codes "3")

abbrev pub swapped : List Entry
swapped =
    asked 1 (Insert (codes "a") (codes "1")) ∷
    asked 2 (swap_over (codes "2")) ∷
    asked 3 (swap_over (codes "1")) ∷
    asked 4 (Swap (codes "b") [] []) ∷
    asked 5 (Get (codes "a")) ∷ []

abbrev pub swapped_replies : List (ℕ × List ℕ)
swapped_replies = (0, 7 ∷ []) ∷ (1, 10 ∷ 0 ∷ 1 ∷ 49 ∷ []) ∷ (2, 7 ∷ []) ∷ (3, 4 ∷ []) ∷ (4, 2 ∷ 0 ∷ 1 ∷ 51 ∷ []) ∷ []

-- the places of replies in a batch, and their bytes
abbrev pub places_and_bytes : List (ℕ × Entry × List ℕ) → List (ℕ × List ℕ)
places_and_bytes given = map (λ (x : ℕ × Entry × List ℕ). (x.0, x.2)) given

-- what each entry of a list is replied, by what stands before it, with its place
abbrev pub listed_reply : ℕ → Option Reply → List (ℕ × List ℕ)
listed_reply index None = []
listed_reply index (Some reply) = (index, reply_bytes reply) ∷ []

abbrev pub replies_in : PartitionTable → List Entry → List Entry → List (ℕ × List ℕ)
replies_in p before [] = []
replies_in p before (e ∷ es) = listed_reply (length before) (reply_to p before e) ++ replies_in p (before ++ e ∷ []) es

-- ---- limits

-- a log that is as long as a log may be
abbrev pub full_replica : Replica
full_replica = record { sessions = []; logs = record { id = log 0; trim = 2 ^ 63; values = [] } ∷ []; table = [] }

-- what it is once it took an append to it
abbrev pub after_full : Applied
after_full = apply alone full_replica hi

abbrev pub long_entry : ℕ → TableEntry
long_entry number = record { key = number ∷ []; value = replicate 2048 0 }

-- eight entries with long values, of which seven fit into a reply
abbrev pub eight : List TableEntry
eight = map long_entry (1 ∷ 2 ∷ 3 ∷ 4 ∷ 5 ∷ 6 ∷ 7 ∷ 8 ∷ [])

-- the first bytes of the keys
abbrev pub keys_in : Reply → List (List ℕ)
keys_in reply = map (λ (entry : TableEntry). entry.key) (entries_of reply)

-- ---- a book of both partitions' rings

abbrev pub learned : ℕ → ℕ → List Entry → Learning
learned number inst es = record { ring = ring number; lo = inst; hi = inst + 1; value = Batch (batch_bytes es) }

abbrev pub skipped : ℕ → ℕ → ℕ → Learning
skipped number lo hi = record { ring = ring number; lo = lo; hi = hi; value = Skip }

abbrev pub scan_all : Command
scan_all = Scan [] []

abbrev pub insert_a : Entry
insert_a = asked 1 (Insert (codes "a") (codes "1"))

-- an insert in each partition, and then a scan of both on their common ring
abbrev pub a_book : List Learning
a_book =
    learned 0 0 (insert_a ∷ []) ∷
    learned 1 0 (asked_by 1 1 (Insert (codes "z") (codes "2")) ∷ []) ∷
    learned 2 0 (asked_by 2 1 scan_all ∷ asked_by 1 2 (Get (codes "z")) ∷ []) ∷
    skipped 0 1 3 ∷ []
