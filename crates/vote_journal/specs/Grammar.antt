-- Reading of records.
use Rattle.std.specs.Prelude.{ℕ, zero, suc, ◌+◌, ◌==◌, nat_lt, ◌&&◌, if◌then◌else◌, Bool, true, false, List, [], ◌∷◌, length, Result, Ok, Err}
use Rattle.std.specs.Int.{w32}
use Rattle.mrp_types.specs.declared.id.RingId.{RingId}
use Rattle.mrp_types.specs.declared.value.Value.{Value}
use Rattle.command_codec.specs.declared.fault.CodecFault.{CodecFault}
use Rattle.command_codec.specs.declared.fault.CodecFault.TheVariants.{BadKind, BadField}
use Rattle.mrp_types.specs.Reading.{◌>>=◌, follow, both, shown}
use Rattle.command_codec.specs.Reader.{Spot, Reader, byte_at, number_at, whole}
use Rattle.vote_state.specs.declared.change.Change.{Change}
use Rattle.vote_state.specs.declared.change.Change.TheVariants.{Epoch, Promise, Vote, Trim}
use Rattle.vote_journal.specs.declared.record.First.{First}
use Rattle.command_codec.specs.Parts.{ring_at, ballot_at, inst_at, range_at, value_at, is_one_of}
use Rattle.vote_journal.specs.Spelling.{is_epoch_first}

-- ---- changes

unfoldable pub epoch_at : Reader Change
epoch_at = shown Epoch (number_at w32)

unfoldable pub promise_at : Reader Change
promise_at = shown (λ x. Promise x.0 x.1) (both ring_at ballot_at)

-- the range and the value of a vote
abbrev pub range_value_at : Reader ((ℕ × ℕ) × Value)
range_value_at = follow range_at (λ range. value_at true (is_one_of range))

abbrev pub vote_of : RingId × (ℕ × ((ℕ × ℕ) × Value)) → Change
vote_of x = Vote x.0 (record { lo = x.1.1.0.0; hi = x.1.1.0.1; ballot = x.1.0; value = x.1.1.1 })

unfoldable pub vote_at : Reader Change
vote_at = shown vote_of (both ring_at (both ballot_at range_value_at))

unfoldable pub trim_at : Reader Change
trim_at = shown (λ x. Trim x.0 x.1) (both ring_at inst_at)

-- what follows a kind that stands at the given position
unfoldable pub change_of_kind : ℕ → ℕ → Reader Change
change_of_kind at kind spot =
    if kind == 1 then epoch_at spot
    else if kind == 2 then promise_at spot
    else if kind == 3 then vote_at spot
    else if kind == 4 then trim_at spot
    else Err (BadKind at)

unfoldable pub change_at : Reader Change
change_at spot = do
  kind ← byte_at spot
  change_of_kind spot.at kind.0 kind.1

-- ---- records

-- whether nothing is left
abbrev pub is_past : Spot → Bool
is_past spot = length spot.rest == 0

-- changes until nothing is left, at most so many
abbrev pub changes_at : ℕ → Reader (List Change)
changes_at zero spot = Ok ([], spot)
changes_at (suc most) spot =
    if is_past spot then Ok ([], spot) else (do
      first ← change_at spot
      others ← changes_at most first.1
      Ok (first.0 ∷ others.0, others.1))

-- whether the bytes of a record begin as format 2 does
abbrev pub is_newer : List ℕ → Bool
is_newer [] = false
is_newer (b ∷ bytes) = b == 6

-- whether this is the number of changes, of which there is one at least
abbrev pub is_count : ℕ → ℕ → Bool
is_count count size = nat_lt 0 count && (size == count)

-- the byte 6, the number of changes, and these, of which `size` says how many there are
unfoldable pub numbered_at : {V : Type 0} → (V → ℕ) → Reader V → Reader V
numbered_at size changes spot = do
  kind ← byte_at spot
  count ← number_at w32 kind.1
  x ← changes count.1
  if is_count count.0 (size x.0) then Ok x else Err (BadField kind.1.at)

-- changes in format 2, or alone as in format 1
abbrev pub in_format : {V : Type 0} → Bool → (V → ℕ) → Reader V → Reader V
in_format true size changes = numbered_at size changes
in_format false size changes = changes

-- The changes of a record, all of the bytes. Each has a byte at least, so there are no more changes than bytes.
abbrev pub changes_of : List ℕ → Result (List Change) CodecFault
changes_of bytes = whole (in_format (is_newer bytes) (λ (changes : List Change). length changes) (changes_at (length bytes))) bytes

-- changes of which the first is an epoch
abbrev pub first_changes_at : ℕ → Reader (List Change)
first_changes_at most spot = do
  changes ← changes_at most spot
  if is_epoch_first changes.0 then Ok changes else Err (BadField spot.at)

-- the kind 5, a node, and changes of which the first is an epoch
unfoldable pub first_at : ℕ → Reader First
first_at most spot = do
  kind ← byte_at spot
  if kind.0 == 5 then shown (λ x. record { node = record { 0 = x.0 }; changes = x.1 }) (both byte_at (first_changes_at most)) kind.1 else Err (BadKind spot.at)

-- the node is a change too
abbrev pub first_size : First → ℕ
first_size first = length first.changes + 1

-- the first record, all of the bytes
abbrev pub first_of : List ℕ → Result First CodecFault
first_of bytes = whole (in_format (is_newer bytes) first_size (first_at (length bytes))) bytes
