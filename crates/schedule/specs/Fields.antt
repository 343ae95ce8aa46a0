-- What a word of a schedule may say: a number, the id of something that the deployment has, bytes, logs.
use Rattle.std.specs.Prelude.{ℕ, ◌+◌, nat_lt, Bool, true, false, if◌then◌else◌, List, [], ◌∷◌, length, is_some, Option, Some, None, Result, Ok, Err}
use Rattle.text_lines.specs.declared.fault.TextFault.{TextFault}
use Rattle.text_lines.specs.declared.fault.TextFault.TheVariants.{Range}
use Rattle.text_lines.specs.Split.{pieces_of}
use Rattle.mrp_types.specs.Reading.{◌>>=◌}
use Rattle.text_lines.specs.Reading.{number_of, hex_of}
use Rattle.mrp_types.specs.Seats.{seat_of}
use Rattle.mrp_types.specs.declared.id.LogId.{LogId}
use Rattle.mrp_config.specs.declared.tables.RingTable.{RingTable}
use Rattle.mrp_config.specs.declared.tables.PartitionTable.{PartitionTable}
use Rattle.mrp_config.specs.Config.{Config, client_at, node_at, ring_at, has_log}

-- a value whose size is of this range, both ends included
abbrev pub ranged : {V : Type 0} → ℕ → ℕ → ℕ → V → Result V TextFault
ranged least most size value = if nat_lt size least then Err Range else (if nat_lt most size then Err Range else Ok value)

-- a number of this range
unfoldable pub number_in : ℕ → ℕ → List ℕ → Result ℕ TextFault
number_in least most word = number_of word >>= λ n. ranged least most n n

-- a number below 256 that passes the test
unfoldable pub known : (ℕ → Bool) → List ℕ → Result ℕ TextFault
known test word = number_in 0 255 word >>= λ n. if test n then Ok n else Err Range

-- whether the deployment has the client, or the node
abbrev pub is_client : Config → ℕ → Bool
is_client config n = is_some (client_at config.clients n)

abbrev pub is_node : Config → ℕ → Bool
is_node config n = is_some (node_at config.nodes n)

abbrev pub has_seat : ℕ → Option RingTable → Bool
has_seat node None = false
has_seat node (Some ring) = is_some (seat_of (record { 0 = node }) ring.acceptors)

-- whether the node is an acceptor of the ring
abbrev pub can_lead : Config → ℕ × ℕ → Bool
can_lead config x = has_seat x.0 (ring_at config.rings x.1)

-- whether one of the partitions has the log
abbrev pub is_held : List PartitionTable → ℕ → Bool
is_held [] n = false
is_held (p ∷ partitions) n = if has_log p.logs n then true else is_held partitions n

-- bytes whose number is of this range
unfoldable pub bytes_in : ℕ → ℕ → List ℕ → Result (List ℕ) TextFault
bytes_in least most word = hex_of word >>= λ bytes. ranged least most (length bytes) bytes

-- the one byte of bytes
abbrev pub single : List ℕ → Result ℕ TextFault
single [] = Err Range
single (b ∷ []) = Ok b
single (b ∷ c ∷ rest) = Err Range

unfoldable pub byte_of : List ℕ → Result ℕ TextFault
byte_of word = hex_of word >>= single

-- the logs that the pieces spell: each is at least this, below 64, and greater than the one before
abbrev pub logs_from : ℕ → List (List ℕ) → Result (List LogId) TextFault
logs_from least [] = Ok []
logs_from least (piece ∷ pieces) = do
  log ← number_in least 63 piece
  logs ← logs_from (log + 1) pieces
  Ok (record { 0 = log } ∷ logs)

-- one or more logs in increasing order, with commas between
unfoldable pub logs_of : List ℕ → Result (List LogId) TextFault
logs_of word = logs_from 0 (pieces_of 44 word)
