-- The changes that a state stands for are valid ones.
use Rattle.std.proofs.Common.{◌≡◌, ℕ, suc, ◌+◌, ◌^◌, ◌<◌, ◌≤◌, true, false, Bool, List, [], ◌∷◌, ◌++◌, length, map, refl, arith}
use Rattle.std.specs.Prelude.{nat_eq, if◌then◌else◌}
use Rattle.std.specs.List.{AllByRecursion}
use Rattle.mrp_types.specs.declared.id.RingId.{RingId}
use Rattle.vote_state.specs.declared.cast.Cast.{Cast}
use Rattle.mrp_types.specs.declared.voted.Voted.{Voted}
use Rattle.vote_state.specs.declared.ring.RingState.{RingState}
use Rattle.vote_state.specs.declared.change.Change.TheVariants.{Promise, Vote, Trim}
use Rattle.vote_state.specs.Valid.{IsRing, IsBallot, IsInst, IsVoted, IsHeld, IsChange}
use Rattle.vote_state.specs.Ranges.{voted, is_one, vote_before, ranges_of}
use Rattle.vote_state.specs.State.{State, IsState, IsKept, promise_changes, trim_changes, ring_changes, rings_changes, state_changes}
use Rattle.vote_state.proofs.RangeLemmas.{Touches, one_from}
use Rattle.vote_state.proofs.StateLemmas.{append_all}

one_valid : (i : ℕ) (cast : Cast) → IsHeld (i, cast) → IsVoted (voted i (suc i) cast)
one_valid i cast held = let inst = held.0 in record { ballot = held.1; range = omega arith; end = omega arith; alone = λ batch. refl; value = held.2 }

joined_valid : (i : ℕ) (cast : Cast) (next : Voted) → IsHeld (i, cast) → IsVoted next → Touches (suc i) cast next → IsVoted (voted i next.hi cast)
joined_valid i cast next held valid touches =
    let at = touches.at in
    let range = valid.range in
    record { ballot = held.1; range = omega arith; end = valid.end; alone = λ batch. (let skip = touches.skip in absurd (cc)); value = held.2 }

before_valid : (i : ℕ) (cast : Cast) (ranges : List Voted) → IsHeld (i, cast) → AllByRecursion IsVoted ranges → AllByRecursion IsVoted (vote_before i cast ranges)
before_valid i cast [] held each = (one_valid i cast held, tt)
before_valid i cast (next ∷ ranges) held each = chosen (is_one (suc i) cast next) refl
  where
    chosen : (b : Bool) → is_one (suc i) cast next ≡ b → AllByRecursion IsVoted (if b then voted i next.hi cast ∷ ranges else voted i (suc i) cast ∷ next ∷ ranges)
    chosen true is = (joined_valid i cast next held each.0 (one_from (suc i) cast next is), each.1)
    chosen false is = (one_valid i cast held, each)

pub ranges_valid : (votes : List (ℕ × Cast)) → AllByRecursion IsHeld votes → AllByRecursion IsVoted (ranges_of votes)
unfolding ranges_of
ranges_valid [] held = tt
ranges_valid (e ∷ es) held = before_valid e.0 e.1 (ranges_of es) held.0 (ranges_valid es held.1)

votes_valid : (ring : RingId) (ranges : List Voted) → IsRing ring → AllByRecursion IsVoted ranges → AllByRecursion IsChange (map (Vote ring) ranges)
votes_valid ring [] valid each = tt
votes_valid ring (v ∷ vs) valid each = ((valid, each.0), votes_valid ring vs valid each.1)

promise_valid : (ring : RingId) (ballot : ℕ) → IsRing ring → IsBallot ballot → AllByRecursion IsChange (promise_changes ring ballot)
promise_valid ring ballot valid is = by_test (nat_eq ballot 0)
  where
    by_test : (b : Bool) → AllByRecursion IsChange (if b then [] else Promise ring ballot ∷ [])
    by_test true = tt
    by_test false = ((valid, is), tt)

trim_valid : (ring : RingId) (inst : ℕ) → IsRing ring → IsInst inst → AllByRecursion IsChange (trim_changes ring inst)
trim_valid ring inst valid is = by_test (nat_eq inst 0)
  where
    by_test : (b : Bool) → AllByRecursion IsChange (if b then [] else Trim ring inst ∷ [])
    by_test true = tt
    by_test false = ((valid, is), tt)

ring_valid : (ring : RingId) (r : RingState) → IsRing ring → IsKept r → AllByRecursion IsChange (ring_changes ring r)
ring_valid ring r valid kept =
    append_all IsChange (promise_changes ring r.promise ++ trim_changes ring r.trim) (map (Vote ring) (ranges_of r.votes))
    (append_all IsChange (promise_changes ring r.promise) (trim_changes ring r.trim) (promise_valid ring r.promise valid kept.promise) (trim_valid ring r.trim valid kept.trim))
    (votes_valid ring (ranges_of r.votes) valid (ranges_valid r.votes kept.votes))

rings_valid : (number : ℕ) (rings : List RingState) → number + length rings ≤ 16 → AllByRecursion IsKept rings → AllByRecursion IsChange (rings_changes number rings)
rings_valid number [] few each = tt
rings_valid number (r ∷ rings) few each =
    append_all IsChange (ring_changes (record { 0 = number }) r) (rings_changes (suc number) rings) (ring_valid (record { 0 = number }) r (omega arith) each.0) (rings_valid (suc number) rings (omega arith) each.1)

pub state_valid : (s : State) → IsState s → s.epoch < 2 ^ 32 → AllByRecursion IsChange (state_changes s)
state_valid s formed epoch = let all = formed.all in (epoch, rings_valid 0 s.rings (omega arith) formed.each)
