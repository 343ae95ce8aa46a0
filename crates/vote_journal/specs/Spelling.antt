-- The one spelling of each change and of each record.
use Rattle.std.specs.Prelude.{◌≡◌, ◌⊎◌, ℕ, ◌+◌, ◌<◌, ◌^◌, Bool, true, false, IsTrue, List, [], ◌∷◌, ◌++◌, length}
use Rattle.std.specs.List.{flat_map, AllByRecursion}
use Rattle.mrp_types.specs.declared.id.NodeId.{NodeId}
use Rattle.command_codec.specs.Fields.{u32_bytes, u64_bytes, string16}
use Rattle.command_codec.specs.Spelling.{value_bytes}
use Rattle.mrp_types.specs.declared.voted.Voted.{Voted}
use Rattle.vote_state.specs.declared.change.Change.{Change}
use Rattle.vote_state.specs.declared.change.Change.TheVariants.{Epoch, Promise, Vote, Trim}
use Rattle.vote_state.specs.Valid.{IsChange}
use Rattle.vote_journal.specs.declared.record.First.{First}

-- the ballot, the two ends of the range, and the value with its length
abbrev pub vote_bytes : Voted → List ℕ
vote_bytes v = u64_bytes v.ballot ++ ((u64_bytes v.lo ++ u64_bytes v.hi) ++ string16 (value_bytes v.value))

-- a kind, and the fields in order
abbrev pub change_bytes : Change → List ℕ
change_bytes (Epoch epoch) = 1 ∷ u32_bytes epoch
change_bytes (Promise ring ballot) = 2 ∷ ring.0 ∷ u64_bytes ballot
change_bytes (Vote ring v) = 3 ∷ ring.0 ∷ vote_bytes v
change_bytes (Trim ring inst) = 4 ∷ ring.0 ∷ u64_bytes inst

-- changes, one after another
abbrev pub changes_bytes : List Change → List ℕ
changes_bytes changes = flat_map change_bytes changes

-- the changes of a first record, which begin with the node: the kind 5, and its number
abbrev pub named_bytes : NodeId → List Change → List ℕ
named_bytes node changes = 5 ∷ node.0 ∷ changes_bytes changes

-- ---- records

-- a record of format 2: the byte 6, the number of changes, and the changes
abbrev pub numbered : ℕ → List ℕ → List ℕ
numbered count bytes = 6 ∷ (u32_bytes count ++ bytes)

abbrev pub record_bytes : List Change → List ℕ
record_bytes changes = numbered (length changes) (changes_bytes changes)

-- the first record, in which the node is a change of its own
abbrev pub first_bytes : NodeId → List Change → List ℕ
first_bytes node changes = numbered (length changes + 1) (named_bytes node changes)

-- a record of format 1, which is the changes alone, or one of format 2
abbrev pub IsRecord : ℕ → List ℕ → List ℕ → Type 0
IsRecord count changes bytes = (bytes ≡ changes) ⊎ ((bytes ≡ numbered count changes) × (0 < count) × (count < 2 ^ 32))

-- ---- what is read

-- whether the first change is an epoch
abbrev pub is_epoch_first : List Change → Bool
is_epoch_first [] = false
is_epoch_first (Epoch epoch ∷ changes) = true
is_epoch_first (Promise ring ballot ∷ changes) = false
is_epoch_first (Vote ring v ∷ changes) = false
is_epoch_first (Trim ring inst ∷ changes) = false

-- a first record: an epoch, and then other changes
pub record IsFirst (first : First) : Type 0 where
  pub each : AllByRecursion IsChange first.changes
  pub epoch : IsTrue (is_epoch_first first.changes)
