-- The one spelling of each reply, which replies have one, and how replies are joined.
use Rattle.std.specs.Prelude.{ℕ, ◌≤◌, ◌<◌, ◌^◌, ◌⊎◌, ◌&&◌, if◌then◌else◌, Bool, true, false, IsTrue, List, [], ◌∷◌, ◌++◌, length, Option, Some, None}
use Rattle.std.specs.List.{flat_map, AllByRecursion}
use Rattle.command_codec.specs.declared.reply.LogPosition.{LogPosition}
use Rattle.command_codec.specs.declared.reply.TableEntry.{TableEntry}
use Rattle.command_codec.specs.declared.reply.Reply.{Reply}
use Rattle.command_codec.specs.declared.reply.Reply.TheVariants.{Positions, Value, Trimmed, Absent, Beyond, Exists, Done, Entries, Limit, Differs}
use Rattle.command_codec.specs.Fields.{u16_bytes, u64_bytes, string16}
use Rattle.command_codec.specs.Valid.{IsKey, IsStored}
use Rattle.command_codec.specs.Grammar.{comes_after}

-- a log, and a position of it
abbrev pub position_bytes : LogPosition → List ℕ
position_bytes p = p.log.0 ∷ u64_bytes p.position

-- a key and its value
abbrev pub table_entry_bytes : TableEntry → List ℕ
table_entry_bytes entry = string16 entry.key ++ string16 entry.value

-- a byte 1 for true
abbrev pub flag : Bool → ℕ
flag more = if more then 1 else 0

-- a kind, and the fields in order
abbrev pub reply_bytes : Reply → List ℕ
reply_bytes (Positions positions) = 1 ∷ length positions ∷ flat_map position_bytes positions
reply_bytes (Value value) = 2 ∷ string16 value
reply_bytes (Trimmed trim) = 3 ∷ u64_bytes trim
reply_bytes Absent = 4 ∷ []
reply_bytes (Beyond length) = 5 ∷ u64_bytes length
reply_bytes Exists = 6 ∷ []
reply_bytes Done = 7 ∷ []
reply_bytes (Entries more entries) = 8 ∷ flag more ∷ u16_bytes (length entries) ++ flat_map table_entry_bytes entries
reply_bytes Limit = 9 ∷ []
reply_bytes (Differs value) = 10 ∷ string16 value

-- ---- which replies have a spelling

abbrev pub IsPosition : LogPosition → Type 0
IsPosition p = p.log.0 < 64

abbrev pub IsTableEntry : TableEntry → Type 0
IsTableEntry entry = IsKey entry.key × IsStored entry.value

-- each key comes after the one before it, the first after the given one
abbrev pub keys_rise : List ℕ → List TableEntry → Bool
keys_rise before [] = true
keys_rise before (entry ∷ entries) = comes_after before entry.key && keys_rise entry.key entries

-- at most 65,535 entries whose keys increase
pub record AreTableEntries (entries : List TableEntry) : Type 0 where
  pub few : length entries ≤ 65535
  pub each : AllByRecursion IsTableEntry entries
  pub rising : IsTrue (keys_rise [] entries)

-- at most 255 pairs of a log below 64 and a position
pub record ArePositions (positions : List LogPosition) : Type 0 where
  pub few : length positions ≤ 255
  pub each : AllByRecursion IsPosition positions

abbrev pub IsReply : Reply → Type 0
IsReply (Positions positions) = ArePositions positions
IsReply (Value value) = IsStored value
IsReply (Entries more entries) = AreTableEntries entries
IsReply (Differs value) = IsStored value
IsReply other = Unit {0}

-- ---- numbers are below 2 ^ 64, as those of the code are

abbrev pub HasNumbers : Reply → Type 0
HasNumbers (Positions positions) = AllByRecursion (λ (p : LogPosition). p.position < 2 ^ 64) positions
HasNumbers (Trimmed trim) = trim < 2 ^ 64
HasNumbers (Beyond length) = length < 2 ^ 64
HasNumbers other = Unit {0}

-- ---- joining

-- whether it has neither positions nor entries
abbrev pub is_other : Reply → Bool
is_other (Positions positions) = false
is_other (Entries more entries) = false
is_other other = true

-- the first of these
abbrev pub first_other : List Reply → Option Reply
first_other [] = None
first_other (part ∷ parts) = if is_other part then Some part else first_other parts

abbrev pub positions_of : Reply → List LogPosition
positions_of (Positions positions) = positions
positions_of other = []

abbrev pub entries_of : Reply → List TableEntry
entries_of (Entries more entries) = entries
entries_of other = []

abbrev pub has_more : Reply → Bool
has_more (Entries more entries) = more
has_more other = false

-- the parts up to and including the first that has more
abbrev pub until_more : List Reply → List Reply
until_more [] = []
until_more (part ∷ parts) = if has_more part then part ∷ [] else part ∷ until_more parts

-- whether one of them has more
abbrev pub some_more : List Reply → Bool
some_more [] = false
some_more (part ∷ parts) = if has_more part then true else some_more parts

abbrev pub starts_with_positions : List Reply → Bool
starts_with_positions (Positions positions ∷ parts) = true
starts_with_positions parts = false

-- positions one after another
abbrev pub positions_reply : List Reply → Reply
positions_reply parts = Positions (flat_map positions_of parts)

-- entries up to and including the first part that has more
abbrev pub entries_reply : List Reply → Reply
entries_reply parts = Entries (some_more parts) (flat_map entries_of (until_more parts))

abbrev pub or_else : Option Reply → Reply → Reply
or_else (Some other) merged = other
or_else None merged = merged

-- the first part with neither positions nor entries; else all parts as one
abbrev pub joined : List Reply → Reply
joined parts = or_else (first_other parts) (if starts_with_positions parts then positions_reply parts else entries_reply parts)

abbrev pub NoEntries : Reply → Type 0
NoEntries (Entries more entries) = ⊥
NoEntries other = Unit {0}

abbrev pub NoPositions : Reply → Type 0
NoPositions (Positions positions) = ⊥
NoPositions other = Unit {0}

-- One or more replies that can be one: positions and entries don't both occur, and together they are
-- not too many, with keys that increase over all of them.
pub record AreParts (parts : List Reply) : Type 0 where
  pub some : 1 ≤ length parts
  pub each : AllByRecursion IsReply parts
  pub alike : AllByRecursion NoEntries parts ⊎ AllByRecursion NoPositions parts
  pub few_positions : length (flat_map positions_of parts) ≤ 255
  pub few_entries : length (flat_map entries_of parts) ≤ 65535
  pub rising : IsTrue (keys_rise [] (flat_map entries_of parts))
