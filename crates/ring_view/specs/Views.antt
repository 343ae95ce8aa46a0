-- What a call has in its hands of a ring: its view, a durable state, and the changes and frames of the step so far.
use Rattle.std.specs.Prelude.{◌≡◌, Bool, true, false, List, [], ◌∷◌, ◌++◌, length}
use Rattle.mrp_types.specs.declared.members.RingView.{RingView}
use Rattle.mrp_types.specs.declared.voted.Decided.{Decided}
use Rattle.vote_state.specs.declared.change.Change.{Change}
use Rattle.vote_state.specs.State.{State, ring_at}
use Rattle.ring_link.specs.Silence.{Link}
use Rattle.ring_kept.specs.Kept.{kept_after}
use Rattle.frames.specs.declared.sent.Sent.{Sent}
use Rattle.protocol.specs.Parts.{Ring, Part, Effects}
use Rattle.protocol.specs.Rings.{next_acceptor, next_member}

-- the view that a member has of its ring; the successors are those that aren't suspected
pub record IsViewOf (view : RingView) (ring : Ring) (link : Link) : Type 0 where
  pub id : view.ring ≡ ring.id
  pub own : view.own ≡ ring.own
  pub acceptors : view.acceptors ≡ ring.acceptors
  pub members : view.members ≡ length ring.members
  pub to_acceptor : view.next_acceptor ≡ next_acceptor ring link
  pub to_member : view.next_member ≡ next_member ring link

-- The view is of the ring, and the part keeps what the changes so far make of the state.
pub record Shows (view : RingView) (durable : State) (changes : List Change) (ring : Ring) (link : Link) (part : Part) : Type 0 where
  pub is_view : IsViewOf view ring link
  pub kept : part.kept ≡ kept_after ring.id changes (ring_at durable ring.id)

-- what a rule makes stands behind the changes and the frames that were there
pub record Adds (effects : Effects) (old_changes new_changes : List Change) (old_frames new_frames : List Sent) : Type 0 where
  pub changes : new_changes ≡ old_changes ++ effects.changes
  pub frames : new_frames ≡ old_frames ++ effects.frames

-- a range, where it is decided
abbrev pub where_decided : Bool → Decided → List Decided
where_decided false range = []
where_decided true range = range ∷ []
