-- Records of a journal: bytes with what they are read as, and changes with their bytes.
use Rattle.std.specs.Prelude.{ℕ, ◌≡◌, List, [], ◌∷◌, ◌++◌, Result, Ok, Err, replicate}
use Rattle.mrp_types.specs.declared.value.Value.TheVariants.{Skip}
use Rattle.command_codec.specs.declared.fault.CodecFault.{CodecFault}
use Rattle.command_codec.specs.declared.fault.CodecFault.TheVariants.{Short, BadKind, BadField}
use Rattle.vote_state.specs.declared.change.Change.{Change}
use Rattle.vote_state.specs.declared.change.Change.TheVariants.{Epoch, Promise, Vote, Trim}
use Rattle.vote_state.specs.State.{nothing_kept, state_changes, taken}
use Rattle.vote_journal.specs.Grammar.{changes_of, first_of}
use Rattle.vote_journal.specs.Spelling.{first_bytes}
use Rattle.worked_values.specs.Ids.{node, ring}
use Rattle.worked_values.specs.Votes.{skip}

-- so many zeros, and then a byte: a number whose first bytes are 0
abbrev pub zeros_then : ℕ → ℕ → List ℕ
zeros_then count byte = replicate count 0 ++ byte ∷ []

-- a promise, a vote for 65,536 instances and a trim, all of ring 15
abbrev pub three_changes : List Change
three_changes = Promise (ring 15) 3 ∷ Vote (ring 15) (skip 0 65536 3) ∷ Trim (ring 15) 7 ∷ []

abbrev pub three_changes_bytes : List ℕ
three_changes_bytes =
    6 ∷ 0 ∷ 0 ∷ 0 ∷ 3 ∷
    2 ∷ 15 ∷ zeros_then 7 3 ++
    3 ∷ 15 ∷ zeros_then 7 3 ++ zeros_then 7 0 ++ zeros_then 5 1 ++ 0 ∷ 0 ∷ 0 ∷ 1 ∷ 0 ∷
    4 ∷ 15 ∷ zeros_then 7 7

-- a vote for ten instances of ring 1, and a later one within them
abbrev pub two_votes : List Change
two_votes = Vote (ring 1) (skip 0 10 3) ∷ Vote (ring 1) (skip 4 6 4) ∷ []

-- what a compaction writes of node 0 after an opening and these changes
abbrev pub compacted : List Change → List ℕ
compacted changes = first_bytes (node 0) (state_changes (taken (Epoch 1 ∷ changes) nothing_kept))

-- a vote of ballot 3 from instance 5 up to this one, and the bytes behind
abbrev pub vote_up_to : ℕ → List ℕ → List ℕ
vote_up_to hi behind = 3 ∷ 0 ∷ zeros_then 7 3 ++ zeros_then 7 5 ++ zeros_then 7 hi ++ behind

-- ---- faults

pub record Faulty : Type 0 where
  pub bytes : List ℕ
  pub fault : CodecFault

abbrev pub faulty : List ℕ → CodecFault → Faulty
faulty bytes fault = record { bytes = bytes; fault = fault }

abbrev pub IsNoRecord : Faulty → Type 0
IsNoRecord row = changes_of row.bytes ≡ Err row.fault

abbrev pub IsNoFirst : Faulty → Type 0
IsNoFirst row = first_of row.bytes ≡ Err row.fault

abbrev pub no_records : List Faulty
no_records =
    -- ring 16, ballot 2^48, instance 2^40, an empty range, and no value
    faulty (4 ∷ 16 ∷ zeros_then 7 7) (BadField 1)
    ∷ faulty (2 ∷ 0 ∷ 0 ∷ 1 ∷ replicate 6 0) (BadField 2)
    ∷ faulty (4 ∷ 0 ∷ 0 ∷ 0 ∷ 1 ∷ replicate 5 0) (BadField 2)
    ∷ faulty (vote_up_to 5 (0 ∷ 1 ∷ 0 ∷ [])) (BadField 18)
    ∷ faulty (vote_up_to 6 (0 ∷ 1 ∷ 9 ∷ [])) (BadField 28)
    ∷ faulty (5 ∷ 0 ∷ []) (BadKind 0)
    ∷ faulty (0 ∷ []) (BadKind 0)
    ∷ faulty (1 ∷ 0 ∷ 0 ∷ 0 ∷ []) (Short 1)
    ∷ faulty (1 ∷ 0 ∷ 0 ∷ 0 ∷ 1 ∷ 1 ∷ []) (Short 6)
    -- in format 2: no change, a number that is cut, another number than there are changes, and a byte left over
    ∷ faulty (6 ∷ 0 ∷ 0 ∷ 0 ∷ 0 ∷ []) (BadField 1)
    ∷ faulty (6 ∷ 0 ∷ 0 ∷ 0 ∷ []) (Short 1)
    ∷ faulty (6 ∷ 0 ∷ 0 ∷ 0 ∷ 2 ∷ 1 ∷ 0 ∷ 0 ∷ 0 ∷ 1 ∷ []) (BadField 1)
    ∷ faulty (6 ∷ 0 ∷ 0 ∷ 0 ∷ 1 ∷ 1 ∷ 0 ∷ 0 ∷ 0 ∷ 1 ∷ 1 ∷ 0 ∷ 0 ∷ 0 ∷ 2 ∷ []) (BadField 1)
    ∷ faulty (6 ∷ 0 ∷ 0 ∷ 0 ∷ 1 ∷ 1 ∷ 0 ∷ 0 ∷ 0 ∷ 1 ∷ 0 ∷ []) (BadKind 10)
    ∷ []

abbrev pub no_firsts : List Faulty
no_firsts =
    faulty [] (Short 0)
    -- the node is one of the changes that are counted
    ∷ faulty (6 ∷ 0 ∷ 0 ∷ 0 ∷ 1 ∷ 5 ∷ 3 ∷ 1 ∷ 0 ∷ 0 ∷ 0 ∷ 1 ∷ []) (BadField 1)
    ∷ faulty (6 ∷ 0 ∷ 0 ∷ 0 ∷ 1 ∷ 1 ∷ 0 ∷ 0 ∷ 0 ∷ 1 ∷ []) (BadKind 5)
    ∷ faulty (1 ∷ 0 ∷ 0 ∷ 0 ∷ 1 ∷ []) (BadKind 0)
    ∷ faulty (5 ∷ []) (Short 1)
    ∷ faulty (5 ∷ 3 ∷ []) (BadField 2)
    -- a promise, and no epoch before it
    ∷ faulty (5 ∷ 3 ∷ 2 ∷ 0 ∷ zeros_then 7 1) (BadField 2)
    ∷ []
