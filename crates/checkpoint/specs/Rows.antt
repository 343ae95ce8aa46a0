-- Areas of checkpoints, for the worked rows.
use Rattle.std.specs.Prelude.{ℕ, List, [], ◌∷◌, ◌++◌}
use Rattle.mrp_types.specs.declared.id.RingId.{RingId}
use Rattle.disk_model.specs.declared.areas.Areas.{Areas}
use Rattle.disk_model.specs.Calls.{Told, begun, and_then}
use Rattle.checkpoint.specs.Checkpoints.{Checkpoints, no_checkpoints, save_calls, saved}

abbrev pub with_checks : List ℕ → List ℕ → Areas
with_checks first second = record { journal0 = []; journal1 = []; check2 = first; check3 = second }

-- of rings 0 and 2
abbrev pub tuple_of : ℕ → ℕ → List (RingId × ℕ)
tuple_of a b = (record { 0 = 0 }, a) ∷ (record { 0 = 2 }, b) ∷ []

abbrev pub early : List (RingId × ℕ)
early = tuple_of 4 3

abbrev pub later : List (RingId × ℕ)
later = tuple_of 4 5

-- the instances of the earlier one at other rings
abbrev pub of_other_rings : List (RingId × ℕ)
of_other_rings = (record { 0 = 0 }, 4) ∷ (record { 0 = 1 }, 3) ∷ []

-- an open gate, the magic, version 1 and a generation
abbrev pub head : ℕ → List ℕ
head generation = 1 ∷ 0x4d ∷ 0x52 ∷ 0x43 ∷ 0 ∷ 0 ∷ 0 ∷ 1 ∷ 0 ∷ 0 ∷ 0 ∷ 0 ∷ 0 ∷ 0 ∷ 0 ∷ generation ∷ []

-- the tuple of 4 and some instance
abbrev pub written_tuple : ℕ → List ℕ
written_tuple b = 2 ∷ 0 ∷ 0 ∷ 0 ∷ 0 ∷ 0 ∷ 0 ∷ 0 ∷ 0 ∷ 4 ∷ 2 ∷ 0 ∷ 0 ∷ 0 ∷ 0 ∷ 0 ∷ 0 ∷ 0 ∷ b ∷ []

-- the same, and the bytes of format 2
abbrev pub newer_head : ℕ → List ℕ
newer_head generation = head generation ++ 0 ∷ 2 ∷ []

-- that of the earlier tuple and two bytes of state
abbrev pub first_area : List ℕ
first_area = newer_head 1 ++ (written_tuple 3 ++ 0 ∷ 0 ∷ 0 ∷ 0 ∷ 0 ∷ 0 ∷ 0 ∷ 2 ∷ 0xaa ∷ 0xbb ∷ [])

-- and that of the later one, without any state
abbrev pub second_area : List ℕ
second_area = newer_head 2 ++ (written_tuple 5 ++ 0 ∷ 0 ∷ 0 ∷ 0 ∷ 0 ∷ 0 ∷ 0 ∷ 0 ∷ [])

-- the first one as format 1 has it
abbrev pub older_area : List ℕ
older_area = head 1 ++ (written_tuple 3 ++ 0 ∷ 0 ∷ 0 ∷ 0 ∷ 0 ∷ 0 ∷ 0 ∷ 2 ∷ 0xaa ∷ 0xbb ∷ [])

abbrev pub state : List ℕ
state = 0xaa ∷ 0xbb ∷ []

-- a disk on which both were saved, one after the other
abbrev pub saved_once : Checkpoints
saved_once = saved no_checkpoints early state

abbrev pub once : Told
once = and_then (begun (with_checks [] [])) (save_calls no_checkpoints early state (begun (with_checks [] [])))

abbrev pub twice : Told
twice = and_then once (save_calls saved_once later [] once)

-- areas whose format, tuple, state and end are at fault
abbrev pub no_format : List ℕ
no_format = head 1 ++ 0 ∷ []

abbrev pub other_format : List ℕ
other_format = head 1 ++ 0 ∷ 3 ∷ []

abbrev pub bad_ring : List ℕ
bad_ring = newer_head 1 ++ (1 ∷ 16 ∷ 0 ∷ 0 ∷ 0 ∷ 0 ∷ 0 ∷ 0 ∷ 0 ∷ 4 ∷ [])

abbrev pub older_bad_ring : List ℕ
older_bad_ring = head 1 ++ (1 ∷ 16 ∷ 0 ∷ 0 ∷ 0 ∷ 0 ∷ 0 ∷ 0 ∷ 0 ∷ 4 ∷ [])

abbrev pub state_missing : List ℕ
state_missing = newer_head 1 ++ (written_tuple 3 ++ 0 ∷ 0 ∷ 0 ∷ 0 ∷ 0 ∷ 0 ∷ 0 ∷ 2 ∷ 0xaa ∷ [])

abbrev pub one_over : List ℕ
one_over = first_area ++ 0 ∷ []
