-- What a ballot has of its ring, and what it is about to propose.
use Rattle.std.specs.Prelude.{◌≡◌, ℕ, ◌+◌, ◌≤◌, ◌^◌, List, ◌++◌, length, Option, Some, None}
use Rattle.mrp_types.specs.declared.value.Value.{Value}
use Rattle.mrp_types.specs.declared.value.Value.TheVariants.{Skip, Batch}
use Rattle.mrp_types.specs.declared.voted.Decided.{Decided}
use Rattle.vote_state.specs.declared.change.Change.{Change}
use Rattle.frames.specs.declared.sent.Sent.{Sent}
use Rattle.protocol.specs.Parts.{Ring, Campaign, Active, Effects}
use Rattle.protocol.specs.Proposing.{Choice, Rests, Offers}
use Rattle.ring_view.specs.Views.{Adds}
use Rattle.coordinator.specs.declared.campaign.Offer.{Offer}

-- an instance, or the end of all of them
abbrev pub IsWithin : ℕ → Type 0
IsWithin inst = inst ≤ 2 ^ 40

-- the window is the ring's, and each acceptor has its seat
pub record IsSeated (ring : Ring) (window : ℕ) (campaign : Campaign) : Type 0 where
  pub room : window ≡ ring.window
  pub seats : length campaign.covered ≡ length ring.acceptors

-- what is proposed, or nothing
abbrev pub choice_from : Option Offer → Choice
choice_from None = Rests
choice_from (Some offer) = Offers offer.range offer.taken

-- where a due value is proposed up to: a Skip to the end of its run, a batch at its instance
abbrev pub end_of : ℕ → ℕ → Value → ℕ
end_of next run Skip = run
end_of next run (Batch batch) = next + 1

-- what `effects` adds stands behind the changes, frames and decided ranges that were there
pub record Behind (effects : Effects) (old_changes new_changes : List Change) (old_frames new_frames : List Sent) (old_learned new_learned : List Decided) : Type 0 where
  pub added : Adds effects old_changes new_changes old_frames new_frames
  pub learned : new_learned ≡ old_learned ++ effects.learned

-- and its coordinator has this campaign
pub record Made (effects : Effects) (campaign : Campaign) (old_changes new_changes : List Change) (old_frames new_frames : List Sent) (old_learned new_learned : List Decided) : Type 0 where
  pub role : effects.part.coordinator.role ≡ Active campaign
  pub behind : Behind effects old_changes new_changes old_frames new_frames old_learned new_learned
