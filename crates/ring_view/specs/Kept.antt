-- What changes of a step may be among those so far where votes are read as they are kept.
use Rattle.std.specs.Prelude.{◌≡◌, ℕ, ◌≤◌, nat_eq, false, List, [], ◌∷◌}
use Rattle.mrp_types.specs.declared.id.RingId.{RingId}
use Rattle.vote_state.specs.declared.change.Change.{Change}
use Rattle.vote_state.specs.declared.change.Change.TheVariants.{Epoch, Promise, Vote, Trim}
use Rattle.vote_state.specs.State.{trim_by}

-- no vote of the ring is among the changes, and its trim, which was `trim` before them, never falls
abbrev pub OnlyRaises : RingId → ℕ → List Change → Type 0
OnlyRaises ring trim [] = Unit {0}
OnlyRaises ring trim (Epoch epoch ∷ changes) = OnlyRaises ring trim changes
OnlyRaises ring trim (Promise other ballot ∷ changes) = OnlyRaises ring trim changes
OnlyRaises ring trim (Vote other vote ∷ changes) = (nat_eq other.0 ring.0 ≡ false) × OnlyRaises ring trim changes
OnlyRaises ring trim (Trim other inst ∷ changes) = (trim ≤ trim_by ring (Trim other inst) trim) × OnlyRaises ring (trim_by ring (Trim other inst) trim) changes
