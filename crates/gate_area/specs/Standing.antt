-- What a pair of areas stands for, by its bytes.
use Rattle.std.specs.Prelude.{◌≡◌, ◌⊎◌, ◌≤◌, MatchResult, IsErrOf, OnOk, ℕ, ◌==◌, Bool, true, false, ◌&&◌, not, nat_le, nat_lt, List, length, take, drop, slice_index, Option, None, Some, Result, Ok, Err, if◌then◌else◌}
use Rattle.std.specs.Int.{from_be_bytes, w64}
use Rattle.disk_model.specs.declared.area.Area.{Area}
use Rattle.disk_model.specs.declared.area.Area.TheVariants.{Journal0, Journal1, Check2, Check3}
use Rattle.disk_model.specs.declared.area.Refused.{Refused}
use Rattle.disk_model.specs.declared.area.Refused.TheVariants.{Failed, Memory}
use Rattle.disk_model.specs.declared.areas.Areas.{Areas}
use Rattle.disk_model.specs.Areas.{bytes_of, same}
use Rattle.disk_model.specs.Causes.{Rose}
use Rattle.gate_area.specs.declared.pair.Head.{Head}
use Rattle.gate_area.specs.declared.pair.Head.TheVariants.{Closed, Spoilt, Open}
use Rattle.gate_area.specs.declared.looking.Look.{Look}
use Rattle.gate_area.specs.declared.pair.Pair.{Pair}
use Rattle.gate_area.specs.declared.pair.Pair.TheVariants.{Journal, Check}
use Rattle.gate_area.specs.declared.pair.Standing.{Standing}
use Rattle.gate_area.specs.declared.pair.Standing.TheVariants.{None as Fresh, At}
use Rattle.gate_area.specs.declared.pair.SurveyFault.{SurveyFault}
use Rattle.gate_area.specs.declared.pair.SurveyFault.TheVariants.{Disk, Damaged, Memory as NoMemory}

abbrev pub first_of : Pair → Area
first_of Journal = Journal0
first_of Check = Check2

abbrev pub second_of : Pair → Area
second_of Journal = Journal1
second_of Check = Check3

abbrev pub is_journal : Pair → Bool
is_journal Journal = true
is_journal Check = false

abbrev pub fault_of : Refused → SurveyFault
fault_of Failed = Disk
fault_of Memory = NoMemory

-- the third byte of the magic: `MRJ` or `MRC`
abbrev pub letter_of : Pair → ℕ
letter_of Journal = 0x4a
letter_of Check = 0x43

-- the front of a counting area: its bytes 1 to 3 are the magic of its pair
abbrev pub has_magic : Pair → List ℕ → Bool
has_magic pair front = (slice_index front 1 == 0x4d) && ((slice_index front 2 == 0x52) && (slice_index front 3 == letter_of pair))

-- its bytes 4 to 7 are the version 1
abbrev pub has_version : List ℕ → Bool
has_version front = (slice_index front 4 == 0) && ((slice_index front 5 == 0) && ((slice_index front 6 == 0) && (slice_index front 7 == 1)))

-- its bytes 8 to 15 are the generation, the greatest byte first
unfoldable pub generation_of : List ℕ → ℕ
generation_of front = from_be_bytes w64 (drop 8 front)

-- what the first 16 bytes of an area of 17 bytes or more say
abbrev pub head_in : Pair → List ℕ → Head
head_in pair front =
    if not (slice_index front 0 == 1) then Closed
    else if not (has_magic pair front) then Spoilt 1
    else if not (has_version front) then Spoilt 4
    else if generation_of front == 0 then Spoilt 8
    else Open (generation_of front)

-- An area counts where it has at least 17 bytes and its first is exactly 1. It is then open with its
-- generation, or has a byte that can't be there.
abbrev pub head_of : Pair → List ℕ → Head
head_of pair file = if nat_le 17 (length file) then head_in pair (take 16 file) else Closed

-- Which area stands, with its generation, or which position of which area is damaged, in this order: what is
-- wrong in the first area, what is wrong in the second, equal generations, and, where none counts, a second
-- area that isn't empty, and a first area of the journal that holds more than a fresh journal.
abbrev pub judged : Pair → ℕ → ℕ → Head → Head → Result (Option (Area × ℕ)) (Area × ℕ)
judged pair n m (Spoilt at) other = Err (first_of pair, at)
judged pair n m (Open g) (Spoilt at) = Err (second_of pair, at)
judged pair n m Closed (Spoilt at) = Err (second_of pair, at)
judged pair n m (Open g) (Open h) =
    if g == h then Err (second_of pair, 8)
    else if nat_lt h g then Ok (Some (first_of pair, g))
    else Ok (Some (second_of pair, h))
judged pair n m (Open g) Closed = Ok (Some (first_of pair, g))
judged pair n m Closed (Open h) = Ok (Some (second_of pair, h))
judged pair n m Closed Closed =
    if not (m == 0) then Err (first_of pair, 0)
    else if is_journal pair && nat_lt 17 n then Err (first_of pair, 0)
    else Ok None

-- what a pair of these bytes stands for
abbrev pub standing : Pair → List ℕ → List ℕ → Result (Option (Area × ℕ)) (Area × ℕ)
standing pair first second = judged pair (length first) (length second) (head_of pair first) (head_of pair second)

-- what a pair of a disk stands for
abbrev pub stands : Pair → Areas → Result (Option (Area × ℕ)) (Area × ℕ)
stands pair areas = standing pair (bytes_of (first_of pair) areas) (bytes_of (second_of pair) areas)

-- the length of the area that stands, of the two lengths
abbrev pub length_at : Pair → ℕ → ℕ → Area → ℕ
length_at pair n m area = if same area (first_of pair) then n else m

-- the answer to a survey of areas of these lengths: with the length of the area that stands
abbrev pub answer_at : Pair → ℕ → ℕ → Result (Option (Area × ℕ)) (Area × ℕ) → Result Standing SurveyFault
answer_at pair n m (Ok None) = Ok Fresh
answer_at pair n m (Ok (Some (area, generation))) = Ok (At area generation (length_at pair n m area))
answer_at pair n m (Err (area, at)) = Err (Damaged area at)

abbrev pub answer_of : Pair → Areas → Result Standing SurveyFault
answer_of pair areas = answer_at pair (length (bytes_of (first_of pair) areas)) (length (bytes_of (second_of pair) areas)) (stands pair areas)

-- what a look at an area of a pair has found
pub record IsLook (pair : Pair) (file : List ℕ) (look : Look) : Type 0 where
  pub len : look.len ≡ length file
  pub head : look.head ≡ head_of pair file

-- a survey answers this, unless a call of the disk was refused
abbrev pub Answers : Result Standing SurveyFault → Result Standing SurveyFault → Type 0
Answers expected result = MatchResult result (λ s. expected ≡ Ok s) (λ fault. (fault ≡ Disk) ⊎ ((fault ≡ NoMemory) ⊎ (expected ≡ Err fault)))

-- `NoMemory` comes only where the count of wants rose: a survey takes no memory of its own
pub record SurveyWants (before now : ℕ) (result : Result Standing SurveyFault) : Type 0 where
  pub later : before ≤ now
  pub memory : IsErrOf result NoMemory → Rose before now
  pub disk : IsErrOf result Disk → now ≡ before
  pub damaged : (area : Area) (at : ℕ) → IsErrOf result (Damaged area at) → now ≡ before
  pub kept : OnOk result (now ≡ before)

-- the pair of an area
abbrev pub pair_of : Area → Pair
pair_of Journal0 = Journal
pair_of Journal1 = Journal
pair_of Check2 = Check
pair_of Check3 = Check

-- the other area of its pair
abbrev pub other_of : Area → Area
other_of Journal0 = Journal1
other_of Journal1 = Journal0
other_of Check2 = Check3
other_of Check3 = Check2
