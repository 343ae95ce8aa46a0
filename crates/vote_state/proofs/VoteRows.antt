-- Worked rows, run by the check: votes as ranges, what a trim leaves, and what a list of changes leaves of promises.
use Rattle.std.proofs.Common.{◌≡◌, ℕ, true, false, List, [], ◌∷◌, refl}
use Rattle.mrp_types.specs.declared.id.RingId.{RingId}
use Rattle.mrp_types.specs.declared.value.Value.TheVariants.{Skip, Batch}
use Rattle.range_map.specs.Entries.{spread_over}
use Rattle.mrp_types.specs.declared.voted.Voted.{Voted}
use Rattle.vote_state.specs.declared.change.Change.{Change}
use Rattle.vote_state.specs.declared.change.Change.TheVariants.{Epoch, Promise, Vote, Trim}
use Rattle.vote_state.specs.Ranges.{ranges_of, are_held}
use Rattle.vote_state.specs.State.{State, nothing_kept, promise_at, trim_at, votes_from, has_vote, taken, promise_after, trim_after}

abbrev first : RingId
first = record { 0 = 0 }

abbrev last : RingId
last = record { 0 = 15 }

abbrev skip : ℕ → ℕ → ℕ → Voted
skip lo hi ballot = record { lo = lo; hi = hi; ballot = ballot; value = Skip }

abbrev batch : ℕ → ℕ → Voted
batch lo hi = record { lo = lo; hi = hi; ballot = 3; value = Batch (97 ∷ []) }

abbrev votes : List Change
votes = Vote first (skip 0 5 3) ∷ Vote first (skip 5 9 3) ∷ Vote first (batch 9 10) ∷ Vote first (batch 10 11) ∷ []

abbrev kept : State
kept = taken votes nothing_kept

-- two ranges of Skip are one, two equal batches stay two
joined : votes_from kept first 0 ≡ skip 0 9 3 ∷ batch 9 10 ∷ batch 10 11 ∷ []
unfolding ranges_of spread_over
joined = refl

from_within : votes_from kept first 4 ≡ skip 4 9 3 ∷ batch 9 10 ∷ batch 10 11 ∷ []
unfolding ranges_of spread_over
from_within = refl

trimmed : votes_from (taken (Trim first 4 ∷ []) kept) first 0 ≡ skip 4 9 3 ∷ batch 9 10 ∷ batch 10 11 ∷ []
unfolding ranges_of spread_over
trimmed = refl

other_ring : votes_from kept last 0 ≡ []
unfolding ranges_of spread_over
other_ring = refl

-- a later vote parts an earlier one, and ranges of two ballots stay apart
parted : votes_from (taken (Vote first (skip 3 5 4) ∷ []) kept) first 0 ≡ skip 0 3 3 ∷ skip 3 5 4 ∷ skip 5 9 3 ∷ batch 9 10 ∷ batch 10 11 ∷ []
unfolding ranges_of spread_over
parted = refl

all_held : has_vote kept first (skip 2 9 3) ≡ true
unfolding are_held spread_over
all_held = refl

not_the_last : has_vote kept first (skip 2 10 3) ≡ false
unfolding are_held spread_over
not_the_last = refl

another_ballot : has_vote kept first (skip 2 3 4) ≡ false
unfolding are_held spread_over
another_ballot = refl

nothing_asked : has_vote kept last (skip 7 7 9) ≡ true
unfolding are_held
nothing_asked = refl

abbrev promises : List Change
promises = Epoch 1 ∷ Promise first 5 ∷ Promise last 6 ∷ Promise first 8 ∷ Trim last 2 ∷ []

last_promise : promise_after first promises 0 ≡ 8
last_promise = refl

promise_kept : promise_at (taken promises nothing_kept) first ≡ 8
promise_kept = refl

trim_of_another : trim_after first promises 0 ≡ 0
trim_of_another = refl

trim_kept : trim_at (taken promises nothing_kept) last ≡ 2
trim_kept = refl
