-- What comes to a coordinator: an order to lead, promises, refusals and commands.
use Rattle.std.specs.Prelude.{ℕ, zero, suc, ◌^◌, ◌==◌, nat_le, ◌||◌, max, Bool, false, if◌then◌else◌, List, [], ◌∷◌, ◌++◌, length, Option, Some, None}
use Rattle.mrp_types.specs.declared.id.NodeId.{NodeId}
use Rattle.mrp_types.specs.declared.id.ClientId.{ClientId}
use Rattle.mrp_types.specs.declared.id.TheConstants.{END}
use Rattle.mrp_types.specs.declared.value.Entry.{Entry}
use Rattle.mrp_types.specs.declared.voted.Voted.{Voted}
use Rattle.ring_link.specs.Silence.{Link}
use Rattle.frames.specs.declared.body.Body.TheVariants.{Submit}
use Rattle.protocol.specs.Lines.{BallotLimit, InstanceLimit}
use Rattle.protocol.specs.Parts.{Ring, Pending, Campaign, Role, Idle, Active, Part, Effects}
use Rattle.protocol.specs.Rings.{position_of, owner_of, sends}
use Rattle.protocol.specs.Effects.{with_coordinator, with_campaign, no_effects, with_frames, with_line}
use Rattle.protocol.specs.Learner.{is_same_command}
use Rattle.protocol.specs.Acceptor.{promises, trims_to}
use Rattle.protocol.specs.Ballots.{leads_now, greatest_seen, campaigns, own_ballot, reported}
use Rattle.protocol.specs.Proposing.{proposes_after, proposes}

-- ---- what comes to a coordinator

-- a ballot from 2 ^ 48 on isn't started, and nothing else happens
abbrev pub starts_with : Ring → Link → Part → ℕ → Effects
starts_with ring link part ballot =
    if nat_le (2 ^ 48) ballot then with_line (BallotLimit ring.own ring.id) (no_effects part)
    else proposes_after ring link (campaigns ring ballot (promises ring ballot (no_effects part)))

abbrev pub starts_at : Ring → Link → Part → Option ℕ → Effects
starts_at ring link part None = no_effects part
starts_at ring link part (Some position) = starts_with ring link part (own_ballot ring part position)

-- Lead at an acceptor, whether its coordinator is Idle or Active: a Start, then proposing
unfoldable pub leads : Ring → Link → Part → Effects
leads ring link part = starts_at ring link part (position_of ring ring.own)

-- Promise: its trim is taken in any case, then its votes are reported, then proposing
unfoldable pub promised : Ring → Link → Part → NodeId → ℕ → ℕ → ℕ → ℕ → List Voted → Effects
promised ring link part from ballot lo hi trim votes =
    proposes_after ring link (reported ring from (record { ballot = ballot; lo = lo; hi = hi; votes = votes }) (trims_to ring trim (no_effects part)))

abbrev pub role_refused : ℕ → Role → Role
role_refused ballot Idle = Idle
role_refused ballot (Active campaign) = if campaign.ballot == ballot then Idle else Active campaign

-- Refuse: top rises to its promise; where it names the current ballot, the coordinator becomes Idle
unfoldable pub refused : Ring → Part → ℕ → ℕ → Effects
refused ring part ballot promise =
    no_effects (with_coordinator (record { top = max part.coordinator.top promise; role = role_refused ballot part.coordinator.role }) part)

-- ---- Submit

-- how many commands may wait
abbrev pub most_pending : ℕ
most_pending = 1024

abbrev pub is_pending : Entry → List Pending → Bool
is_pending entry [] = false
is_pending entry (p ∷ pending) = is_same_command entry p.entry || is_pending entry pending

abbrev pub with_pending : Entry → Campaign → Campaign
with_pending entry campaign = record campaign { pending = campaign.pending ++ (record { entry = entry; proposed = false }) ∷ [] }

-- a node that doesn't lead passes a command on once, to the owner of the greatest ballot that it has seen
abbrev pub passes_on : Ring → Part → ℕ → Entry → Effects
passes_on ring part zero entry =
    with_frames (sends ring (owner_of ring (greatest_seen part)) (Submit ring.id 1 entry.client entry.seq entry.command)) (no_effects part)
passes_on ring part (suc hops) entry = no_effects part

-- a command that waits already stays as it is; one more is dropped where 1,024 wait
abbrev pub waits : Ring → Link → Part → Entry → Campaign → Effects
waits ring link part entry campaign =
    if is_pending entry campaign.pending then proposes ring link part
    else if nat_le most_pending (length campaign.pending) then no_effects part
    else proposes ring link (with_campaign (with_pending entry campaign) part)

-- at the end of all instances a line is printed, and the command dropped
abbrev pub submits_leading : Ring → Link → Part → Entry → Campaign → Effects
submits_leading ring link part entry campaign =
    if nat_le END campaign.next then with_line (InstanceLimit ring.own ring.id) (no_effects part)
    else waits ring link part entry campaign

abbrev pub submits_in : Ring → Link → Part → ℕ → Entry → Role → Effects
submits_in ring link part hops entry Idle = passes_on ring part hops entry
submits_in ring link part hops entry (Active campaign) =
    if leads_now ring campaign then submits_leading ring link part entry campaign
    else passes_on ring part hops entry

-- Submit at an acceptor
unfoldable pub submits : Ring → Link → Part → ℕ → ClientId → ℕ → List ℕ → Effects
submits ring link part hops client seq command =
    submits_in ring link part hops (record { client = client; seq = seq; command = command }) part.coordinator.role
