-- What an acceptor keeps for good, and what changes make of it.
use Rattle.std.specs.Prelude.{◌≡◌, ℕ, suc, nat_eq, Bool, if◌then◌else◌, List, [], ◌∷◌, ◌++◌, length, map, replicate, slice_index_or, slice_set}
use Rattle.std.specs.List.{AllByRecursion}
use Rattle.mrp_types.specs.declared.id.RingId.{RingId}
use Rattle.range_map.specs.Entries.{IsIncreasingFrom, entries_from, with_range}
use Rattle.vote_state.specs.declared.cast.Cast.{Cast}
use Rattle.mrp_types.specs.declared.voted.Voted.{Voted}
use Rattle.vote_state.specs.declared.ring.RingState.{RingState}
use Rattle.vote_state.specs.declared.change.Change.{Change}
use Rattle.vote_state.specs.declared.change.Change.TheVariants.{Epoch, Promise, Vote, Trim}
use Rattle.vote_state.specs.Valid.{IsBallot, IsInst, IsHeld}
use Rattle.vote_state.specs.Ranges.{cast_of, ranges_of, are_held}

-- the epoch, and what is kept of each of the 16 rings
pub record State : Type 0 where
  pub epoch : ℕ
  pub rings : List RingState

-- the promise, the trim and each vote may stand in a record, and the votes are in increasing order of instance
pub record IsKept (r : RingState) : Type 0 where
  pub promise : IsBallot r.promise
  pub trim : IsInst r.trim
  pub votes : AllByRecursion IsHeld r.votes
  pub ordered : IsIncreasingFrom 0 r.votes

-- there are 16 rings
pub record AreRings (rings : List RingState) : Type 0 where
  pub all : length rings ≡ 16
  pub each : AllByRecursion IsKept rings

abbrev pub IsState : State → Type 0
IsState s = AreRings s.rings

-- no promise, no trim and no vote
abbrev pub no_votes : RingState
no_votes = record { promise = 0; trim = 0; votes = [] }

abbrev pub nothing_kept : State
nothing_kept = record { epoch = 0; rings = replicate 16 no_votes }

-- what is kept of a ring; of one that isn't below 16, nothing
abbrev pub ring_at : State → RingId → RingState
ring_at s ring = slice_index_or s.rings ring.0 no_votes

abbrev pub promise_at : State → RingId → ℕ
promise_at s ring = (ring_at s ring).promise

abbrev pub trim_at : State → RingId → ℕ
trim_at s ring = (ring_at s ring).trim

-- the held votes of a ring, in increasing order of instance
abbrev pub votes_at : State → RingId → List (ℕ × Cast)
votes_at s ring = (ring_at s ring).votes

-- the held votes from an instance on, as maximal ranges
abbrev pub votes_from : State → RingId → ℕ → List Voted
votes_from s ring from = ranges_of (entries_from from (votes_at s ring))

-- whether each instance of the range holds that ballot and value
abbrev pub has_vote : State → RingId → Voted → Bool
has_vote s ring v = are_held v (votes_at s ring)

-- ---- changes

abbrev pub with_promise : ℕ → RingState → RingState
with_promise ballot r = record r { promise = ballot }

-- each instance of the range holds that ballot and value
abbrev pub with_vote : Voted → RingState → RingState
with_vote v r = record r { votes = with_range v.lo v.hi (cast_of v) r.votes }

-- the votes below the trim go
abbrev pub with_trim : ℕ → RingState → RingState
with_trim inst r = record r { trim = inst; votes = entries_from inst r.votes }

abbrev pub with_ring : RingId → RingState → State → State
with_ring ring r s = record s { rings = slice_set s.rings ring.0 r }

-- the state once a change was made
abbrev pub changed : Change → State → State
changed (Epoch epoch) s = record s { epoch = epoch }
changed (Promise ring ballot) s = with_ring ring (with_promise ballot (ring_at s ring)) s
changed (Vote ring v) s = with_ring ring (with_vote v (ring_at s ring)) s
changed (Trim ring inst) s = with_ring ring (with_trim inst (ring_at s ring)) s

-- the state once the changes were made, in order
abbrev pub taken : List Change → State → State
taken [] s = s
taken (c ∷ cs) s = taken cs (changed c s)

-- ---- promises and trims as a list of changes leaves them

-- the promise of a ring, where it was `ballot` before
abbrev pub promise_by : RingId → Change → ℕ → ℕ
promise_by ring (Epoch epoch) ballot = ballot
promise_by ring (Promise other next) ballot = if nat_eq other.0 ring.0 then next else ballot
promise_by ring (Vote other v) ballot = ballot
promise_by ring (Trim other inst) ballot = ballot

abbrev pub promise_after : RingId → List Change → ℕ → ℕ
promise_after ring [] ballot = ballot
promise_after ring (c ∷ cs) ballot = promise_after ring cs (promise_by ring c ballot)

-- the trim of a ring, where it was `inst` before
abbrev pub trim_by : RingId → Change → ℕ → ℕ
trim_by ring (Epoch epoch) inst = inst
trim_by ring (Promise other ballot) inst = inst
trim_by ring (Vote other v) inst = inst
trim_by ring (Trim other next) inst = if nat_eq other.0 ring.0 then next else inst

abbrev pub trim_after : RingId → List Change → ℕ → ℕ
trim_after ring [] inst = inst
trim_after ring (c ∷ cs) inst = trim_after ring cs (trim_by ring c inst)

-- ---- a state as changes

abbrev pub promise_changes : RingId → ℕ → List Change
promise_changes ring ballot = if nat_eq ballot 0 then [] else Promise ring ballot ∷ []

abbrev pub trim_changes : RingId → ℕ → List Change
trim_changes ring inst = if nat_eq inst 0 then [] else Trim ring inst ∷ []

-- what makes a ring: its promise and its trim where they aren't 0, then its votes as maximal ranges in order
abbrev pub ring_changes : RingId → RingState → List Change
ring_changes ring r = promise_changes ring r.promise ++ trim_changes ring r.trim ++ map (Vote ring) (ranges_of r.votes)

-- the rings in order, the first of them with this number
abbrev pub rings_changes : ℕ → List RingState → List Change
rings_changes number [] = []
rings_changes number (r ∷ rings) = ring_changes (record { 0 = number }) r ++ rings_changes (suc number) rings

-- the changes that make a state of nothing: the epoch, and then the rings in order
abbrev pub state_changes : State → List Change
state_changes s = Epoch s.epoch ∷ rings_changes 0 s.rings
