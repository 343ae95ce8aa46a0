-- Which commands have a spelling.
use Rattle.std.specs.Prelude.{ℕ, ◌≡◌, ◌≤◌, ◌<◌, ◌+◌, ◌⊎◌, ◌^◌, Bool, true, nat_le, nat_lt, ◌&&◌, IsTrue, List, [], ◌∷◌, length}
use Rattle.std.specs.Ordering.{nat_cmp}
use Rattle.std.specs.Cmp.Lexicographic.{slice_cmp}
use Rattle.std.specs.declared.cmp.Ordering.TheVariants.{Less}
use Rattle.mrp_types.specs.declared.id.LogId.{LogId}
use Rattle.command_codec.specs.declared.command.Command.{Command}
use Rattle.command_codec.specs.declared.command.Command.TheVariants.{Append, Multi, ReadLog, TrimLog, Get, Scan, Update, Insert, Delete, Swap}

-- 1 to 256 bytes
abbrev pub IsKey : List ℕ → Type 0
IsKey key = (1 ≤ length key) × (length key ≤ 256)

-- at most 2,048 bytes
abbrev pub IsStored : List ℕ → Type 0
IsStored value = length value ≤ 2048

-- each is at least the given number, below 64, and greater than the one before
abbrev pub rises_from : ℕ → List LogId → Bool
rises_from least [] = true
rises_from least (log ∷ logs) = nat_le least log.0 && (nat_lt log.0 64 && rises_from (log.0 + 1) logs)

-- 1 to 64 logs below 64, in increasing order
abbrev pub AreLogs : List LogId → Type 0
AreLogs logs = (1 ≤ length logs) × (length logs ≤ 64) × IsTrue (rises_from 0 logs)

-- ends of at most 256 bytes, in order where there is an end
abbrev pub IsRange : List ℕ → List ℕ → Type 0
IsRange from to = (length from ≤ 256) × (length to ≤ 256) × ((to ≡ []) ⊎ (slice_cmp nat_cmp from to ≡ Less))

abbrev pub IsCommand : Command → Type 0
IsCommand (Append log value) = (log.0 < 64) × IsStored value
IsCommand (Multi logs value) = AreLogs logs × IsStored value
IsCommand (ReadLog log position) = log.0 < 64
IsCommand (TrimLog log position) = log.0 < 64
IsCommand (Get key) = IsKey key
IsCommand (Scan from to) = IsRange from to
IsCommand (Update key value) = IsKey key × IsStored value
IsCommand (Insert key value) = IsKey key × IsStored value
IsCommand (Delete key) = IsKey key
IsCommand (Swap key old new) = IsKey key × IsStored old × IsStored new

-- numbers are below 2 ^ 64, as those of the code are
abbrev pub HasNumbers : Command → Type 0
HasNumbers (ReadLog log position) = position < 2 ^ 64
HasNumbers (TrimLog log position) = position < 2 ^ 64
HasNumbers other = Unit {0}
