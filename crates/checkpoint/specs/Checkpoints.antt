-- The pair of areas that holds a node's newest checkpoint: what it stands for, and the calls of a save.
use Rattle.std.specs.Prelude.{ℕ, ◌+◌, ◌==◌, nat_lt, ◌&&◌, ◌||◌, Bool, true, false, if◌then◌else◌, List, [], ◌∷◌, length, take, drop, Option, Some, None, Result, Ok, Err}
use Rattle.std.specs.Int.{w64}
use Rattle.mrp_types.specs.declared.id.RingId.{RingId}
use Rattle.disk_model.specs.declared.area.Area.{Area}
use Rattle.disk_model.specs.declared.area.Area.TheVariants.{Journal0, Journal1, Check2, Check3}
use Rattle.disk_model.specs.declared.areas.Areas.{Areas}
use Rattle.disk_model.specs.declared.call.Call.{Call}
use Rattle.disk_model.specs.Areas.{bytes_of}
use Rattle.disk_model.specs.Calls.{Told}
use Rattle.gate_area.specs.declared.pair.Pair.TheVariants.{Check}
use Rattle.gate_area.specs.Standing.{stands}
use Rattle.gate_area.specs.Gate.{renew_calls}
use Rattle.gate_area.specs.Operations.{renew_ops}
use Rattle.disk_model.specs.Running.{Op}
use Rattle.command_codec.specs.declared.fault.CodecFault.{CodecFault}
use Rattle.mrp_types.specs.Reading.{follow, both, shown}
use Rattle.command_codec.specs.Reader.{Reader, number_at, bytes_at}
use Rattle.frames.specs.Spelling.{tuple_bytes}
use Rattle.frames.specs.Grammar.{tuple_at, all_of, part_of as part_size}
use Rattle.plain_model.specs.StateBytes.{fault_position}
use Rattle.checkpoint.specs.Spelling.{checkpoint_body}

-- a checkpoint: where a replica stood in each of its rings, and the bytes of its state there
pub record Checkpoint : Type 0 where
  pub tuple : List (RingId × ℕ)
  pub state : List ℕ

-- The pair as its callers see it: the area that stands and its generation, the position at which its tuple begins, both 0
-- where none does, and the checkpoint in it.
pub record Checkpoints : Type 0 where
  pub area : Option Area
  pub generation : ℕ
  pub from : ℕ
  pub newest : Option Checkpoint

-- no area stands
abbrev pub no_checkpoints : Checkpoints
no_checkpoints = record { area = None; generation = 0; from = 0; newest = None }

-- ---- what an area's bytes are

abbrev pub checkpoint_of : List (RingId × ℕ) × (ℕ × List ℕ) → Checkpoint
checkpoint_of x = record { tuple = x.0; state = x.1.1 }

-- a tuple, a length, and so many bytes
unfoldable pub checkpoint_at : Reader Checkpoint
checkpoint_at = shown checkpoint_of (both tuple_at (follow (number_at w64) bytes_at))

-- where it begins, or the first field at fault; a byte left over is at fault where it stands
abbrev pub placed : ℕ → Result Checkpoint CodecFault → Result (ℕ × Checkpoint) ℕ
placed from (Ok newest) = Ok (from, newest)
placed from (Err fault) = Err (fault_position fault)

-- the checkpoint in an area from a position on, all of the bytes, or the damaged place of it
abbrev pub read_from : ℕ → List ℕ → Result (ℕ × Checkpoint) ℕ
read_from at file = placed at (all_of checkpoint_at (record { at = at; rest = drop at file }))

-- whether an area is of format 2: its byte 16 is 0, which no tuple begins with
abbrev pub is_newer : List ℕ → Bool
is_newer [] = false
is_newer (b ∷ rest) = b == 0

-- then its byte 17 is 2, and the checkpoint stands behind it
abbrev pub behind_format : List ℕ → List ℕ → Result (ℕ × Checkpoint) ℕ
behind_format [] file = Err 17
behind_format (b ∷ rest) file = if b == 2 then read_from 18 file else Err 17

-- the checkpoint in an area that stands: of format 2, or of format 1, which has it from byte 16 on
abbrev pub read_area : List ℕ → Result (ℕ × Checkpoint) ℕ
read_area file = if is_newer (drop 16 file) then behind_format (drop 17 file) file else read_from 16 file

-- the pair by the area that stands
abbrev pub checkpoints_at : Area → ℕ → Result (ℕ × Checkpoint) ℕ → Result Checkpoints (Area × ℕ)
checkpoints_at area generation (Ok found) = Ok (record { area = Some area; generation = generation; from = found.0; newest = Some found.1 })
checkpoints_at area generation (Err at) = Err (area, at)

abbrev pub checkpoints_of : Areas → Result (Option (Area × ℕ)) (Area × ℕ) → Result Checkpoints (Area × ℕ)
checkpoints_of areas (Err spot) = Err spot
checkpoints_of areas (Ok None) = Ok no_checkpoints
checkpoints_of areas (Ok (Some (area, generation))) = checkpoints_at area generation (read_area (bytes_of area areas))

-- what the areas of the checkpoints stand for, or which place of which area is damaged
abbrev pub checkpoints_in : Areas → Result Checkpoints (Area × ℕ)
checkpoints_in areas = checkpoints_of areas (stands Check areas)

-- ---- a save

-- the area that doesn't stand, the first one where none does
abbrev pub next_area : Option Area → Area
next_area None = Check2
next_area (Some Journal0) = Check2
next_area (Some Journal1) = Check2
next_area (Some Check2) = Check3
next_area (Some Check3) = Check2

-- the area that doesn't stand is retired and founded with the checkpoint and the next generation
abbrev pub save_calls : Checkpoints → List (RingId × ℕ) → List ℕ → Told → List Call
save_calls checkpoints tuple state = renew_calls (next_area checkpoints.area) (checkpoint_body (checkpoints.generation + 1) tuple state)

-- all operations of a save
abbrev pub save_ops : Checkpoints → List (RingId × ℕ) → List ℕ → Told → List Op
save_ops checkpoints tuple state = renew_ops (next_area checkpoints.area) (checkpoint_body (checkpoints.generation + 1) tuple state)

-- the pair once that is done; the checkpoint is of format 2
abbrev pub saved : Checkpoints → List (RingId × ℕ) → List ℕ → Checkpoints
saved checkpoints tuple state = record {
  area = Some (next_area checkpoints.area);
  generation = checkpoints.generation + 1;
  from = 18;
  newest = Some (record { tuple = tuple; state = state });
}

-- ---- questions

-- the positions at which the tuple and the state of the checkpoint in an area begin
abbrev pub places_in : Option Area → ℕ → Option Checkpoint → Option (Area × ℕ × ℕ)
places_in None from newest = None
places_in (Some area) from None = None
places_in (Some area) from (Some newest) = Some (area, from, from + 8 + length (tuple_bytes newest.tuple))

-- the area that stands, and where its tuple and its state begin
abbrev pub place : Checkpoints → Option (Area × ℕ × ℕ)
place checkpoints = places_in checkpoints.area checkpoints.from checkpoints.newest

-- whether two tuples are one: the same rings, and the same instance of each
abbrev pub is_same_tuple : List (RingId × ℕ) → List (RingId × ℕ) → Bool
is_same_tuple [] [] = true
is_same_tuple [] (y ∷ ys) = false
is_same_tuple (x ∷ xs) [] = false
is_same_tuple (x ∷ xs) (y ∷ ys) = (x.0.0 == y.0.0) && ((x.1 == y.1) && is_same_tuple xs ys)

-- Whether the second tuple is after the first one. Both are valid ones of the same rings, so each has the places up to one in
-- the one order, and the second is after the first exactly where it is greater at a ring.
abbrev pub is_after : List (RingId × ℕ) → List (RingId × ℕ) → Bool
is_after [] ys = false
is_after (x ∷ xs) [] = false
is_after (x ∷ xs) (y ∷ ys) = nat_lt x.1 y.1 || is_after xs ys

-- what is answered to who asks for a part of a checkpoint
pub data PartAnswer : Type 0 where
  -- how many bytes the state has, and those from the offset on, at most 16,384
  Part : (total : ℕ) → (bytes : List ℕ) → PartAnswer
  -- a newer checkpoint took its place
  Gone : (newer : List (RingId × ℕ)) → PartAnswer
  Unknown : PartAnswer

-- the bytes of a part, of a state of so many bytes
abbrev pub part_at : ℕ → ℕ → List ℕ → PartAnswer
part_at total offset state = if nat_lt offset total then Part total (take (part_size (offset, total)) (drop offset state)) else Unknown

abbrev pub part_in : Option Checkpoint → List (RingId × ℕ) → ℕ → PartAnswer
part_in None tuple offset = Unknown
part_in (Some newest) tuple offset =
    if is_after tuple newest.tuple then Gone newest.tuple
    else if is_same_tuple tuple newest.tuple then part_at (length newest.state) offset newest.state
    else Unknown

-- The part of the checkpoint of a tuple from an offset on. Where the newest one is after that tuple it is gone; it is unknown
-- where the tuple isn't the newest one's, and where no byte stands at the offset.
abbrev pub part_of : Checkpoints → List (RingId × ℕ) → ℕ → PartAnswer
part_of checkpoints tuple offset = part_in checkpoints.newest tuple offset
