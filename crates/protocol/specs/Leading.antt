-- A coordinator's part of a tick: starting a ballot, sending again, and levelling.
use Rattle.std.specs.Prelude.{ℕ, ◌+◌, nat_lt, ◌&&◌, ◌||◌, min, max, Bool, true, if◌then◌else◌, List, [], ◌∷◌, ◌++◌, Option, Some, None}
use Rattle.std.specs.List.{before_first}
use Rattle.mrp_types.specs.declared.id.NodeId.{NodeId}
use Rattle.mrp_types.specs.declared.id.TheConstants.{END}
use Rattle.mrp_types.specs.declared.value.Value.TheVariants.{Skip}
use Rattle.mrp_types.specs.declared.voted.Decided.{Decided}
use Rattle.ring_link.specs.Silence.{Link, is_silent}
use Rattle.skip_leveller.specs.Levelling.{with_tick, answer_of}
use Rattle.frames.specs.declared.body.Body.TheVariants.{Prepare, Accept}
use Rattle.frames.specs.declared.sent.Sent.{Sent}
use Rattle.protocol.specs.Parts.{Ring, Campaign, Role, Idle, Active, Part, Effects}
use Rattle.protocol.specs.Rings.{is_node, is_own, owner_of, next_acceptor, sends}
use Rattle.protocol.specs.Effects.{with_campaign, no_effects, with_frames}
use Rattle.protocol.specs.Ballots.{leads_now, greatest_seen}
use Rattle.protocol.specs.Proposing.{has_room, own_mask, offers, proposes_after}
use Rattle.protocol.specs.Coordinator.{leads}

-- ---- a tick

-- whether there is no owner or a suspected one
abbrev pub is_gone : Link → Option NodeId → Bool
is_gone link None = true
is_gone link (Some owner) = is_silent link owner.0

abbrev pub are_silent : Link → List NodeId → Bool
are_silent link [] = true
are_silent link (node ∷ nodes) = is_silent link node.0 && are_silent link nodes

-- the acceptors listed before the own node
abbrev pub acceptors_before : Ring → List NodeId
acceptors_before ring = before_first (λ (node : NodeId). is_own ring node) ring.acceptors

-- An Idle coordinator starts where the owner of the greatest ballot that it has seen is the node itself; and where there is no
-- owner or a suspected one, and every acceptor listed before the node is suspected.
abbrev pub is_to_start : Ring → Link → Option NodeId → Bool
is_to_start ring link owner = is_node ring.own owner || (is_gone link owner && are_silent link (acceptors_before ring))

abbrev pub starts_idle : Ring → Link → Part → Role → Effects
starts_idle ring link part Idle = if is_to_start ring link (owner_of ring (greatest_seen part)) then leads ring link part else no_effects part
starts_idle ring link part (Active campaign) = no_effects part

-- an Idle coordinator that is to start does so, and proposes
unfoldable pub starts_on_tick : Ring → Link → Part → Effects
starts_on_tick ring link part = starts_idle ring link part part.coordinator.role

-- Prepare again, from where each acceptor is covered to, to those not covered to the end
abbrev pub prepares_again : Ring → ℕ → List NodeId → List ℕ → List Sent
prepares_again ring ballot [] covered = []
prepares_again ring ballot (node ∷ nodes) [] = []
prepares_again ring ballot (node ∷ nodes) (covered ∷ later) =
    (if nat_lt covered END then sends ring (Some node) (Prepare ring.id ballot covered) else []) ++ prepares_again ring ballot nodes later

-- Accept again with the own bit for each outstanding proposal, from the trim on
abbrev pub accepts_again : Ring → Option NodeId → ℕ → ℕ → List Decided → List Sent
accepts_again ring to ballot trim [] = []
accepts_again ring to ballot trim (range ∷ ranges) =
    sends ring to (Accept ring.id ballot (max range.lo trim) range.hi (own_mask ring) range.value) ++ accepts_again ring to ballot trim ranges

abbrev pub resends_in : Ring → Link → Part → Role → Effects
resends_in ring link part Idle = no_effects part
resends_in ring link part (Active campaign) =
    with_frames (accepts_again ring (next_acceptor ring link) campaign.ballot part.kept.trim campaign.outstanding)
    (with_frames (prepares_again ring campaign.ballot ring.acceptors campaign.covered) (no_effects part))

-- what a resend beat asks of an Active coordinator
unfoldable pub resends : Ring → Link → Part → Effects
resends ring link part = resends_in ring link part part.coordinator.role

-- ---- levelling

abbrev pub with_tick_taken : Campaign → Campaign
with_tick_taken campaign = record campaign { leveller = with_tick campaign.leveller }

-- as many instances as are missing, at most up to the end of all instances
abbrev pub shortfall_from : ℕ → ℕ → Decided
shortfall_from next missing = record { lo = next; hi = min (next + missing) END; value = Skip }

-- a shortfall without room in the window, or at the end of all instances, is lost; proposing follows, as after each proposal
abbrev pub levels_by : Ring → Link → Part → Campaign → Option ℕ → Effects
levels_by ring link part campaign None = no_effects (with_campaign campaign part)
levels_by ring link part campaign (Some missing) =
    if has_room ring campaign && nat_lt campaign.next END
    then proposes_after ring link (offers ring link campaign (shortfall_from campaign.next missing) 0 (no_effects part))
    else no_effects (with_campaign campaign part)

abbrev pub levels_in : Ring → Link → Part → Role → Effects
levels_in ring link part Idle = no_effects part
levels_in ring link part (Active campaign) =
    if leads_now ring campaign then levels_by ring link part (with_tick_taken campaign) (answer_of campaign.leveller)
    else no_effects part

-- The leveller takes a tick while the coordinator leads. At each delta-th tick Skip is proposed for as many instances from next
-- on as are missing to its pace.
unfoldable pub levels : Ring → Link → Part → Effects
levels ring link part = levels_in ring link part part.coordinator.role
