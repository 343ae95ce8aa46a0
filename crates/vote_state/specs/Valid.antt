-- Which changes have a spelling in a record, and which votes may be held.
use Rattle.std.specs.Prelude.{ℕ, ◌<◌, ◌≤◌, ◌^◌}
use Rattle.mrp_types.specs.declared.id.RingId.{RingId}
use Rattle.vote_state.specs.declared.cast.Cast.{Cast}
use Rattle.mrp_types.specs.declared.voted.Voted.{Voted}
use Rattle.vote_state.specs.declared.change.Change.{Change}
use Rattle.vote_state.specs.declared.change.Change.TheVariants.{Epoch, Promise, Vote, Trim}
use Rattle.command_codec.specs.Parts.{IsSpelled}
use Rattle.vote_state.specs.Ranges.{IsAlone}

abbrev pub IsRing : RingId → Type 0
IsRing ring = ring.0 < 16

abbrev pub IsBallot : ℕ → Type 0
IsBallot ballot = ballot < 2 ^ 48

abbrev pub IsInst : ℕ → Type 0
IsInst inst = inst < 2 ^ 40

-- a range that isn't empty and doesn't pass the end of all ranges; a batch stands for one instance
pub record IsVoted (v : Voted) : Type 0 where
  pub ballot : IsBallot v.ballot
  pub range : v.lo < v.hi
  pub end : v.hi ≤ 2 ^ 40
  pub alone : IsAlone v
  pub value : IsSpelled v.value

abbrev pub IsChange : Change → Type 0
IsChange (Epoch epoch) = epoch < 2 ^ 32
IsChange (Promise ring ballot) = IsRing ring × IsBallot ballot
IsChange (Vote ring v) = IsRing ring × IsVoted v
IsChange (Trim ring inst) = IsRing ring × IsInst inst

-- a vote that may be held at an instance
abbrev pub IsHeld : ℕ × Cast → Type 0
IsHeld e = IsInst e.0 × IsBallot e.1.ballot × IsSpelled e.1.value
