-- When a face has the promise, the trim and the votes that an acceptor keeps of a ring, and the changes of one ring.
use Rattle.std.specs.Prelude.{◌≡◌, ℕ, ◌≤◌, nat_eq, if◌then◌else◌, List, [], ◌∷◌, Option, Some, None}
use Rattle.mrp_types.specs.declared.id.RingId.{RingId}
use Rattle.mrp_types.specs.declared.id.TheConstants.{END}
use Rattle.mrp_types.specs.declared.value.Value.{Value}
use Rattle.range_map.specs.Entries.{value_at, IsIncreasingFrom}
use Rattle.vote_state.specs.declared.cast.Cast.{Cast}
use Rattle.vote_state.specs.declared.ring.RingState.{RingState}
use Rattle.vote_state.specs.declared.change.Change.{Change}
use Rattle.vote_state.specs.declared.change.Change.TheVariants.{Epoch, Promise, Vote, Trim}
use Rattle.vote_state.specs.State.{with_promise, with_vote, with_trim}
use Rattle.ring_safety.specs.Faces.{Face}
use Rattle.ring_safety.specs.Faces as machine

-- a held vote, as the machine has it
abbrev pub told_of : Option Cast → Option (machine.Vote Value)
told_of None = None
told_of (Some cast) = Some (record { ballot = cast.ballot; value = cast.value })

-- the face has the promise, the trim and the votes that are kept
pub record KeptTies (f : Face Value) (kept : RingState) : Type 0 where
  pub promise : f.promise ≡ kept.promise
  pub trim : f.trim ≡ kept.trim
  pub votes : (i : ℕ) → f.votes i ≡ told_of (value_at i kept.votes)
  -- the votes stand in increasing order of instance, below the end of all instances
  pub ordered : IsIncreasingFrom 0 kept.votes
  pub ended : (i : ℕ) → END ≤ i → value_at i kept.votes ≡ None

-- ---- changes of one ring

abbrev pub kept_by : RingId → Change → RingState → RingState
kept_by ring (Epoch epoch) kept = kept
kept_by ring (Promise other ballot) kept = if nat_eq other.0 ring.0 then with_promise ballot kept else kept
kept_by ring (Vote other v) kept = if nat_eq other.0 ring.0 then with_vote v kept else kept
kept_by ring (Trim other inst) kept = if nat_eq other.0 ring.0 then with_trim inst kept else kept

-- what is kept of a ring once changes were made, in order
abbrev pub kept_after : RingId → List Change → RingState → RingState
kept_after ring [] kept = kept
kept_after ring (c ∷ cs) kept = kept_after ring cs (kept_by ring c kept)
