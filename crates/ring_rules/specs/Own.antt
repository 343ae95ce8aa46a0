-- What is of one ring alone: changes, frames and what a rule makes.
use Rattle.std.specs.Prelude.{◌≡◌}
use Rattle.std.specs.List.{AllByRecursion}
use Rattle.mrp_types.specs.declared.id.RingId.{RingId}
use Rattle.vote_state.specs.declared.change.Change.{Change}
use Rattle.vote_state.specs.declared.change.Change.TheVariants.{Epoch, Promise, Vote, Trim}
use Rattle.frames.specs.declared.body.Body.{Body}
use Rattle.frames.specs.declared.body.Body.TheVariants as body
use Rattle.frames.specs.declared.sent.Sent.{Sent}
use Rattle.beside_rings.specs.Beside.{IsNoLearn}
use Rattle.protocol.specs.Parts.{Ring, Effects}

-- a change of this ring
abbrev pub IsChangeOf : RingId → Change → Type 0
IsChangeOf id (Epoch epoch) = ⊥
IsChangeOf id (Promise r ballot) = r.0 ≡ id.0
IsChangeOf id (Vote r v) = r.0 ≡ id.0
IsChangeOf id (Trim r inst) = r.0 ≡ id.0

-- a frame that says something says it of this ring
abbrev pub IsBodyOf : RingId → Body → Type 0
IsBodyOf id (body.Promise r ballot lo hi trim votes) = r.0 ≡ id.0
IsBodyOf id (body.Accept r ballot lo hi mask value) = r.0 ≡ id.0
IsBodyOf id (body.Decide r lo hi left value) = r.0 ≡ id.0
IsBodyOf id (body.Chosen r ranges) = r.0 ≡ id.0
IsBodyOf id other = Unit {0}

abbrev pub IsSentOf : RingId → Sent → Type 0
IsSentOf id sent = IsBodyOf id sent.frame.body

pub record IsOf (ring : Ring) (effects : Effects) : Type 0 where
  pub changes : AllByRecursion (IsChangeOf ring.id) effects.changes
  pub frames : AllByRecursion (IsSentOf ring.id) effects.frames
  -- what is learned is printed later
  pub lines : AllByRecursion IsNoLearn effects.lines
