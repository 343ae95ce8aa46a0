-- The values of a table's keys: what is read of each, or its fault.
use Rattle.std.specs.Prelude.{ℕ, ◌≡◌, ◌⊎◌, ◌+◌, ◌==◌, min, nat_le, nat_lt, ◌&&◌, Bool, true, false, if◌then◌else◌, ℤ, pos, negsuc, List, [], ◌∷◌, ◌++◌, length, map, Option, Some, None, Result, Ok, Err}
use Rattle.mrp_types.specs.Reading.{◌>>=◌}
use Rattle.mrp_types.specs.Reading as reading
use Rattle.std.specs.Str.{bytes_eq}
use Rattle.toml.specs.Data.{Data, string, integer, array, table, Items, no_items, item, Members, no_members, member}
use Rattle.hex.specs.Hex.{encode_lower, decode_of}
use Rattle.hex.specs.declared.error.FromHexError.{FromHexError}
use Rattle.mrp_types.specs.declared.id.NodeId.{NodeId}
use Rattle.mrp_types.specs.declared.id.RingId.{RingId}
use Rattle.mrp_types.specs.declared.id.LogId.{LogId}
use Rattle.mrp_types.specs.Seats.{is_among}
use Rattle.config_walk.specs.declared.fault.ConfigFault.{ConfigFault}
use Rattle.config_walk.specs.declared.fault.ConfigFault.TheVariants.{Missing, WrongKind, OutOfRange, Repeated, UnknownId, UnknownName, Memory}
use Rattle.config_walk.specs.Address.{is_address}

-- What a call judged, seen by view, is what the walk gives, unless memory ran out.
abbrev pub Fails : {Y : Type 0} → Result Y ConfigFault → ConfigFault → Type 0
Fails read fault = reading.Fails Memory read fault

abbrev pub Says : {X Y : Type 0} → (X → Y) → Result Y ConfigFault → Result X ConfigFault → Type 0
Says view read result = reading.Says Memory view read result

-- nothing to say where a test holds
abbrev pub unless : Bool → ConfigFault → Result (Unit {0}) ConfigFault
unless true fault = Ok tt
unless false fault = Err fault

-- one after the other; what an entry gave is asked of with the next
abbrev pub chain : {S T V : Type 0} → (S → T → Result V ConfigFault) → (S → V → S) → S → List T → Result (List V) ConfigFault
chain read next asked [] = Ok []
chain read next asked (t ∷ ts) = do
  v ← read asked t
  vs ← chain read next (next asked v) ts
  Ok (v ∷ vs)

-- ---- the value of a key, which is named whole

abbrev pub integer_in : List ℕ → Data → Result ℤ ConfigFault
integer_in name (integer z) = Ok z
integer_in name other = Err (WrongKind name)

abbrev pub integer_of : List ℕ → Option Data → Result ℤ ConfigFault
integer_of name None = Err (Missing name)
integer_of name (Some value) = integer_in name value

-- a number of this range, both ends included
abbrev pub in_range : List ℕ → ℕ → ℕ → ℤ → Result ℕ ConfigFault
in_range name least most (negsuc n) = Err (OutOfRange name)
in_range name least most (pos n) = if nat_lt n least then Err (OutOfRange name) else (if nat_lt most n then Err (OutOfRange name) else Ok n)

unfoldable pub number_of : List ℕ → ℕ → ℕ → Option Data → Result ℕ ConfigFault
number_of name least most found = do
  z ← integer_of name found
  in_range name least most z

-- A quorum may be any integer here: one that can't be is judged later, and is kept as 0 or 255.
abbrev pub clipped : ℤ → ℕ
clipped (pos n) = min n 255
clipped (negsuc n) = 0

unfoldable pub quorum_of : List ℕ → Option Data → Result ℕ ConfigFault
quorum_of name found = do
  z ← integer_of name found
  Ok (clipped z)

abbrev pub text_of : List ℕ → Option Data → Result (List ℕ) ConfigFault
text_of name None = Err (Missing name)
text_of name (Some (string s)) = Ok s
text_of name (Some other) = Err (WrongKind name)

unfoldable pub address_of : List ℕ → Option Data → Result (List ℕ) ConfigFault
address_of name found = do
  text ← text_of name found
  good ← unless (is_address text) (OutOfRange name)
  Ok text

-- the bytes that lower-case hexadecimal spells, at most 256
abbrev pub decoded : List ℕ → List ℕ → Result (List ℕ) FromHexError → Result (List ℕ) ConfigFault
decoded name text (Err e) = Err (OutOfRange name)
decoded name text (Ok bytes) = if bytes_eq (encode_lower bytes) text && nat_le (length bytes) 256 then Ok bytes else Err (OutOfRange name)

unfoldable pub hex_of : List ℕ → Option Data → Result (List ℕ) ConfigFault
hex_of name found = do
  text ← text_of name found
  decoded name text (decode_of text)

-- ---- lists of numbers

-- the entries of a list
abbrev pub entries : Items → List Data
entries no_items = []
entries (item value items) = value ∷ entries items

abbrev pub entries_in : List ℕ → Data → Result (List Data) ConfigFault
entries_in name (array items) = Ok (entries items)
entries_in name other = Err (WrongKind name)

abbrev pub entries_of : List ℕ → Option Data → Result (List Data) ConfigFault
entries_of name None = Err (Missing name)
entries_of name (Some value) = entries_in name value

-- the integers of a list
abbrev pub integers_in : List ℕ → List Data → Result (List ℤ) ConfigFault
integers_in name values = chain (λ (s : Unit {0}) value. integer_in name value) (λ s z. s) tt values

abbrev pub integers_of : List ℕ → Option Data → Result (List ℤ) ConfigFault
integers_of name found = do
  values ← entries_of name found
  integers_in name values

abbrev pub each_in : List ℕ → ℕ → List ℤ → Result (List ℕ) ConfigFault
each_in name most zs = chain (λ (s : Unit {0}) z. in_range name 0 most z) (λ s n. s) tt zs

-- how many there have to be at least and at most, and the greatest number of an entry
abbrev pub numbers_of : List ℕ → ℕ → ℕ → ℕ → Option Data → Result (List ℕ) ConfigFault
numbers_of name fewest most greatest found = do
  zs ← integers_of name found
  some ← unless (nat_le fewest (length zs)) (OutOfRange name)
  few ← unless (nat_le (length zs) most) (OutOfRange name)
  each_in name greatest zs

-- no entry is one of these, and none stands twice
abbrev pub each_once : List ℕ → List ℕ → List ℕ → Result (Unit {0}) ConfigFault
each_once name taken [] = Ok tt
each_once name taken (n ∷ ns) = if is_among n taken then Err (Repeated name n) else each_once name (taken ++ n ∷ []) ns

-- each is greater than the one before it
abbrev pub each_rises : List ℕ → ℕ → List ℕ → Result (Unit {0}) ConfigFault
each_rises name least [] = Ok tt
each_rises name least (n ∷ ns) = if nat_lt n least then Err (Repeated name n) else each_rises name (n + 1) ns

-- each is one of these
abbrev pub each_known : List ℕ → List ℕ → List ℕ → Result (Unit {0}) ConfigFault
each_known name ids [] = Ok tt
each_known name ids (n ∷ ns) = if is_among n ids then each_known name ids ns else Err (UnknownId name n)

-- an id that is greater than those before it
unfoldable pub id_of : List ℕ → ℕ → ℕ → Option Data → Result ℕ ConfigFault
id_of name most least found = do
  id ← number_of name 0 most found
  rising ← unless (nat_le least id) (Repeated name id)
  Ok id

-- ---- lists of ids

abbrev pub as_nodes : List ℕ → List NodeId
as_nodes ns = map (λ n. record { 0 = n }) ns

-- different nodes that are there and aren't taken
unfoldable pub seats_of : List ℕ → List ℕ → List ℕ → Option Data → Result (List NodeId) ConfigFault
seats_of name taken ids found = do
  ns ← numbers_of name 1 7 31 found
  once ← each_once name taken ns
  known ← each_known name ids ns
  Ok (as_nodes ns)

abbrev pub as_rings : List ℕ → List RingId
as_rings ns = map (λ n. record { 0 = n }) ns

abbrev pub as_logs : List ℕ → List LogId
as_logs ns = map (λ n. record { 0 = n }) ns

unfoldable pub subscribed_of : List ℕ → List ℕ → Option Data → Result (List RingId) ConfigFault
subscribed_of name rings found = do
  ns ← numbers_of name 1 16 15 found
  rising ← each_rises name 0 ns
  known ← each_known name rings ns
  Ok (as_rings ns)

unfoldable pub logs_of : List ℕ → Option Data → Result (List LogId) ConfigFault
logs_of name found = do
  ns ← numbers_of name 0 64 63 found
  rising ← each_rises name 0 ns
  Ok (as_logs ns)

-- ---- names that aren't known

abbrev pub is_name : List ℕ → List (List ℕ) → Bool
is_name name [] = false
is_name name (known ∷ others) = if bytes_eq known name then true else is_name name others

-- the first name in byte order that isn't one of these
abbrev pub all_known : List ℕ → List (List ℕ) → Members → Result (Unit {0}) ConfigFault
all_known prefix names no_members = Ok tt
all_known prefix names (member name value others) = if is_name name names then all_known prefix names others else Err (UnknownName (prefix ++ name))

-- ---- lists of tables

abbrev pub table_in : List ℕ → Data → Result Members ConfigFault
table_in name (table t) = Ok t
table_in name other = Err (WrongKind name)

abbrev pub tables_in : List ℕ → List Data → Result (List Members) ConfigFault
tables_in name values = chain (λ (s : Unit {0}) value. table_in name value) (λ s t. s) tt values

abbrev pub some_tables : List ℕ → ℕ → ℕ → List Members → Result (List Members) ConfigFault
some_tables name fewest most ts = do
  some ← unless (nat_le fewest (length ts)) (OutOfRange name)
  few ← unless (nat_le (length ts) most) (OutOfRange name)
  Ok ts

-- a list of tables; where none is asked for, the list may be missing
unfoldable pub tables_of : List ℕ → ℕ → ℕ → Option Data → Result (List Members) ConfigFault
tables_of name fewest most None = if fewest == 0 then Ok [] else Err (Missing name)
tables_of name fewest most (Some value) = do
  values ← entries_in name value
  ts ← tables_in name values
  some_tables name fewest most ts
