-- States of an acceptor after worked changes.
use Rattle.std.specs.Prelude.{ℕ, ◌+◌, List, [], ◌∷◌, map}
use Rattle.mrp_types.specs.declared.id.RingId.{RingId}
use Rattle.mrp_types.specs.declared.value.Value.TheVariants.{Skip, Batch}
use Rattle.mrp_types.specs.declared.voted.Voted.{Voted}
use Rattle.vote_state.specs.declared.change.Change.{Change}
use Rattle.vote_state.specs.declared.change.Change.TheVariants.{Epoch, Promise, Vote, Trim}
use Rattle.vote_state.specs.State.{State, nothing_kept, taken, votes_from, state_changes}
use Rattle.worked_values.specs.Ids.{ring}

abbrev pub skip : ℕ → ℕ → ℕ → Voted
skip lo hi ballot = record { lo = lo; hi = hi; ballot = ballot; value = Skip }

-- a batch of one entry: client 0, number 1, an empty command
abbrev pub batch : ℕ → ℕ → Voted
batch at ballot = record { lo = at; hi = at + 1; ballot = ballot; value = Batch (1 ∷ 0 ∷ 1 ∷ 0 ∷ 0 ∷ 0 ∷ 0 ∷ 0 ∷ 0 ∷ 0 ∷ 0 ∷ 1 ∷ 0 ∷ 0 ∷ []) }

-- the held votes of a ring from an instance on, each as its ends and its ballot
abbrev pub shape : State → RingId → ℕ → List (ℕ × (ℕ × ℕ))
shape s number from = map (λ (v : Voted). (v.lo, (v.hi, v.ballot))) (votes_from s number from)

-- ranges of one ballot that touch, of Skip and of batches
abbrev pub neighbours : State
neighbours = taken (Vote (ring 0) (skip 0 5 3) ∷ Vote (ring 0) (skip 5 9 3) ∷ Vote (ring 0) (batch 9 3) ∷ Vote (ring 0) (batch 10 3) ∷ []) nothing_kept

abbrev pub trimmed : State
trimmed = taken (Trim (ring 0) 4 ∷ []) neighbours

-- the same of what its changes make
abbrev pub made_again : State
made_again = taken (state_changes trimmed) nothing_kept

-- a range of a later ballot within another
abbrev pub two_ballots : State
two_ballots = taken (Vote (ring 0) (skip 0 10 1) ∷ Vote (ring 0) (skip 3 5 4) ∷ []) nothing_kept

-- promises and trims of two rings
abbrev pub later_changes : List Change
later_changes = Epoch 1 ∷ Promise (ring 0) 5 ∷ Promise (ring 15) 6 ∷ Promise (ring 0) 8 ∷ Trim (ring 15) 2 ∷ []
