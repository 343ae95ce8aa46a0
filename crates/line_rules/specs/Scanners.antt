-- What is read of lines. A list of lines that were printed stands with the latest first, so what stands before a line is the
-- rest of the list, and what one more line changes is a step of each definition.
use Rattle.std.specs.Prelude.{ℕ, ◌≤◌, ◌==◌, nat_le, nat_lt, ◌&&◌, Bool, true, false, if◌then◌else◌, List, [], ◌∷◌, ◌++◌, Option, Some, None}
use Rattle.mrp_types.specs.declared.id.RingId.{RingId}
use Rattle.mrp_types.specs.declared.value.Value.{Value}
use Rattle.mrp_types.specs.Book.{Learning}
use Rattle.plain_model.specs.Tuples.{first_tuple, moved_past, tuple_at}
use Rattle.transcript.specs.declared.line.Line.{Line}
use Rattle.transcript.specs.declared.line.Line.TheVariants.{Learn, Deliver, Begin, Chose, Restore, Saved, Down, Up}

-- lines in the order in which they were printed, after others
abbrev pub past : List Line → List Line → List Line
past before [] = before
past before (l ∷ lines) = past (l ∷ before) lines

-- ---- the life of a node

-- whether a line is one of a node's life, by the node's number
abbrev pub touches : ℕ → Line → Bool
touches x (Deliver node ring inst) = node.0 == x
touches x (Begin node epoch attempt tuple) = node.0 == x
touches x (Chose node epoch attempt tuple from) = node.0 == x
touches x (Restore node tuple) = node.0 == x
touches x (Saved node tuple) = node.0 == x
touches x (Down node cause) = node.0 == x
touches x (Up node epoch) = node.0 == x
touches x other = false

abbrev pub or_else : {T : Type 0} → Option T → Option T → Option T
or_else (Some x) other = Some x
or_else None other = other

-- what the last line of a node's life says of which something is to be read, which may speak of the lines before it
abbrev pub last_of : {T : Type 0} → (List Line → Line → Option T) → ℕ → List Line → Option T
last_of pick x [] = None
last_of pick x (l ∷ before) = if touches x l then or_else (pick before l) (last_of pick x before) else last_of pick x before

-- the first such line
abbrev pub first_of : {T : Type 0} → (List Line → Line → Option T) → ℕ → List Line → Option T
first_of pick x [] = None
first_of pick x (l ∷ before) = if touches x l then or_else (first_of pick x before) (pick before l) else first_of pick x before

-- all that the lines of a node's life say
abbrev pub all_of : {T : Type 0} → (Line → List T) → ℕ → List Line → List T
all_of pick x [] = []
all_of pick x (l ∷ before) = if touches x l then pick l ++ all_of pick x before else all_of pick x before

pub data Mark : Type 0 where
  Opened : Mark
  Closed : Mark
  Begun : Mark
  Restored : Mark

abbrev pub mark_of : List Line → Line → Option Mark
mark_of before (Up node epoch) = Some Opened
mark_of before (Down node cause) = Some Closed
mark_of before (Begin node epoch attempt tuple) = Some Begun
mark_of before (Restore node tuple) = Some Restored
mark_of before other = None

-- the last of a node's up, down, begin and restore lines; it is ready where that is a restore line
abbrev pub life : ℕ → List Line → Option Mark
life = last_of mark_of

abbrev pub epoch_told : List Line → Line → Option (Option ℕ)
epoch_told before (Up node epoch) = Some (Some epoch)
epoch_told before (Down node cause) = Some None
epoch_told before other = None

-- the epoch of the last up line, after which no down line stands
abbrev pub up_epoch : ℕ → List Line → Option (Option ℕ)
up_epoch = last_of epoch_told

abbrev pub attempt_told : List Line → Line → Option (Option (ℕ × ℕ))
attempt_told before (Begin node epoch attempt tuple) = Some (Some (epoch, attempt))
attempt_told before (Up node epoch) = Some None
attempt_told before (Down node cause) = Some None
attempt_told before (Restore node tuple) = Some None
attempt_told before other = None

-- epoch and attempt of the last begin line, where no up, down or restore line stands since
abbrev pub attempting : ℕ → List Line → Option (Option (ℕ × ℕ))
attempting = last_of attempt_told

abbrev pub open_told : List Line → Line → Option (Option (ℕ × ℕ))
open_told before (Begin node epoch attempt tuple) = Some (Some (epoch, attempt))
open_told before (Up node epoch) = Some None
open_told before (Down node cause) = Some None
open_told before (Chose node epoch attempt tuple from) = Some None
open_told before other = None

-- epoch and attempt of the last begin line, where no up, down or chose line stands since
abbrev pub unchosen : ℕ → List Line → Option (Option (ℕ × ℕ))
unchosen = last_of open_told

abbrev pub choice_told : List Line → Line → Option (Option (List ℕ))
choice_told before (Chose node epoch attempt tuple from) = Some (Some tuple)
choice_told before (Begin node epoch attempt tuple) = Some None
choice_told before (Up node epoch) = Some None
choice_told before (Down node cause) = Some None
choice_told before other = None

-- the tuple of the last chose line, where no begin, up or down line stands since
abbrev pub chosen : ℕ → List Line → Option (Option (List ℕ))
chosen = last_of choice_told

abbrev pub lines_before : List Line → Line → Option (List Line)
lines_before before (Begin node epoch attempt tuple) = Some before
lines_before before other = None

-- the lines before the last begin line
abbrev pub before_begin : ℕ → List Line → Option (List Line)
before_begin = last_of lines_before

abbrev pub lines_before_this : ℕ → ℕ → List Line → Line → Option (List Line)
lines_before_this e n before (Begin node epoch attempt tuple) = if (epoch == e) && (attempt == n) then Some before else None
lines_before_this e n before other = None

-- the lines before the first begin line of this epoch and attempt
abbrev pub before_attempt : ℕ → ℕ → ℕ → List Line → Option (List Line)
before_attempt x e n before = first_of (lines_before_this e n) x before

-- the tuples of the begin and saved lines
abbrev pub tuples_told : Line → List (List ℕ)
tuples_told (Begin node epoch attempt tuple) = tuple ∷ []
tuples_told (Saved node tuple) = tuple ∷ []
tuples_told other = []

abbrev pub told : ℕ → List Line → List (List ℕ)
told = all_of tuples_told

-- epochs and attempts of the begin lines
abbrev pub attempts_told : Line → List (ℕ × ℕ)
attempts_told (Begin node epoch attempt tuple) = (epoch, attempt) ∷ []
attempts_told other = []

abbrev pub begun : ℕ → List Line → List (ℕ × ℕ)
begun = all_of attempts_told

-- ---- tuples as lines print them

-- with the rings that they are of
abbrev pub paired : List RingId → List ℕ → List (RingId × ℕ)
paired [] insts = []
paired (ring ∷ rings) [] = []
paired (ring ∷ rings) (inst ∷ insts) = (ring, inst) ∷ paired rings insts

-- the entry of a ring, 0 where there is none
abbrev pub entry_of : List RingId → RingId → List ℕ → ℕ
entry_of [] ring insts = 0
entry_of (r ∷ rings) ring [] = 0
entry_of (r ∷ rings) ring (inst ∷ insts) = if r.0 == ring.0 then inst else entry_of rings ring insts

-- the first is at or after the second, in every entry
abbrev pub Reaches : List ℕ → List ℕ → Type 0
Reaches [] [] = Unit {0}
Reaches [] (y ∷ ys) = ⊥
Reaches (x ∷ xs) [] = ⊥
Reaches (x ∷ xs) (y ∷ ys) = (y ≤ x) × Reaches xs ys

-- whether one of some tuples has an entry of a ring of at least this
abbrev pub some_reaches : List RingId → RingId → ℕ → List (List ℕ) → Bool
some_reaches rings ring inst [] = false
some_reaches rings ring inst (tuple ∷ tuples) = if nat_le inst (entry_of rings ring tuple) then true else some_reaches rings ring inst tuples

-- ---- where a ready node stands

abbrev pub moves : (ℕ → ℕ) → List RingId → Line → List (RingId × ℕ) → List (RingId × ℕ)
moves m rings (Restore node tuple) now = paired rings tuple
moves m rings (Deliver node ring inst) now = moved_past (ring, inst) (tuple_at m rings (record { ring = ring; inst = inst }))
moves m rings other now = now

-- the tuple of the last restore line, moved just past the place of each later deliver line
abbrev pub position : (ℕ → ℕ) → List RingId → ℕ → List Line → List (RingId × ℕ)
position m rings x [] = first_tuple rings
position m rings x (l ∷ before) = if touches x l then moves m rings l (position m rings x before) else position m rings x before

-- ---- the book

abbrev pub learned_by : RingId → ℕ → Line → Option Value
learned_by ring inst (Learn node other lo hi value) = if (other.0 == ring.0) && (nat_le lo inst && nat_lt inst hi) then Some value else None
learned_by ring inst other = None

-- the value of the first learn line that covers the instance
abbrev pub book : List Line → RingId → ℕ → Option Value
book [] ring inst = None
book (l ∷ before) ring inst = or_else (book before ring inst) (learned_by ring inst l)

-- what the learn lines say, in the order in which they were printed
abbrev pub learned : List Line → List Learning
learned [] = []
learned (Learn node ring lo hi value ∷ before) = learned before ++ record { ring = ring; lo = lo; hi = hi; value = value } ∷ []
learned (other ∷ before) = learned before
