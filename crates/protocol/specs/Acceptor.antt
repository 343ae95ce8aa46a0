-- The acceptor's table: promises, votes and trims, and the pages that it sends.
use Rattle.std.specs.Prelude.{ℕ, ◌-◌, ◌==◌, nat_lt, nat_le, not, max, count_ones, if◌then◌else◌, List, [], ◌∷◌, length, Option, Some, None}
use Rattle.mrp_types.specs.declared.id.NodeId.{NodeId}
use Rattle.mrp_types.specs.declared.id.TheConstants.{END}
use Rattle.mrp_types.specs.declared.value.Value.{Value}
use Rattle.mrp_types.specs.declared.voted.Voted.{Voted}
use Rattle.mrp_types.specs.declared.voted.Decided.{Decided}
use Rattle.range_map.specs.Entries.{entries_from}
use Rattle.vote_state.specs.declared.ring.RingState.{RingState}
use Rattle.vote_state.specs.declared.change.Change.TheVariants as changes
use Rattle.vote_state.specs.Ranges.{ranges_of, are_held}
use Rattle.vote_state.specs.State.{with_promise, with_vote, with_trim}
use Rattle.ring_link.specs.Silence.{Link}
use Rattle.frames.specs.Spelling.{vote_size, decided_size}
use Rattle.frames.specs.declared.body.Body.{Body}
use Rattle.frames.specs.declared.body.Body.TheVariants.{Promise, Refuse, Accept, Decide, Chosen, Trimmed}
use Rattle.frames.specs.declared.sent.Sent.{Sent}
use Rattle.plain_model.specs.Pages.{front_within, left_out}
use Rattle.protocol.specs.Parts.{Ring, Role, Idle, Active, Part, Effects}
use Rattle.protocol.specs.Rings.{is_node, owner_of, position_of, majority_of, has_bit, with_bit, next_acceptor, next_member, sends}
use Rattle.protocol.specs.Effects.{with_kept, with_role, no_effects, with_change, with_frames, with_learned}
use Rattle.protocol.specs.Learner.{decided_of, learned_ranges, without_finished}

-- ---- durable changes

-- a coordinator of a ballot below the promise is Idle
abbrev pub idle_below : ℕ → Role → Role
idle_below promise Idle = Idle
idle_below promise (Active campaign) = if nat_lt campaign.ballot promise then Idle else Active campaign

abbrev pub promised_part : ℕ → Part → Part
promised_part ballot part = with_role (idle_below ballot part.coordinator.role) (with_kept (with_promise ballot part.kept) part)

-- The promise becomes the ballot. It is never below the promise that stands.
abbrev pub promises : Ring → ℕ → Effects → Effects
promises ring ballot effects = with_change (changes.Promise ring.id ballot) (promised_part ballot effects.part) effects

-- the votes of a range become this ballot and value
abbrev pub votes_for : Ring → Voted → Effects → Effects
votes_for ring vote effects = with_change (changes.Vote ring.id vote) (with_kept (with_vote vote effects.part.kept) effects.part) effects

-- of an Accept, what is promised or voted for already isn't recorded once more
abbrev pub promises_anew : Ring → ℕ → Effects → Effects
promises_anew ring ballot effects = if ballot == effects.part.kept.promise then effects else promises ring ballot effects

abbrev pub votes_anew : Ring → Voted → Effects → Effects
votes_anew ring vote effects = if are_held vote effects.part.kept.votes then effects else votes_for ring vote effects

-- A trim that was told and is above the own one becomes the own one, and the votes below it go.
abbrev pub trims_to : Ring → ℕ → Effects → Effects
trims_to ring trim effects =
    if nat_le trim effects.part.kept.trim then effects
    else with_change (changes.Trim ring.id trim) (without_finished (with_kept (with_trim trim effects.part.kept) effects.part)) effects

-- ---- pages

-- how many bytes the entries of a page may take: a page is the longest front of them that takes no more
abbrev pub page_room : ℕ
page_room = 24576

abbrev pub votes_page : List Voted → List Voted
votes_page votes = front_within vote_size page_room votes

abbrev pub ranges_page : List Decided → List Decided
ranges_page ranges = front_within decided_size page_room ranges

-- ---- Prepare

-- a page of votes goes up to the first instance of the first vote that it leaves out, or to the end of all instances
abbrev pub page_end : List Voted → ℕ
page_end [] = END
page_end (vote ∷ votes) = vote.lo

abbrev pub promise_body : Ring → ℕ → ℕ → ℕ → List Voted → List Voted → Body
promise_body ring ballot lo trim votes page = Promise ring.id ballot lo (page_end (left_out page votes)) trim page

abbrev pub promise_with : Ring → ℕ → ℕ → ℕ → List Voted → Body
promise_with ring ballot lo trim votes = promise_body ring ballot lo trim votes (votes_page votes)

-- a promise tells the votes from the page's begin on, and none below the trim, as maximal ranges
abbrev pub promise_of : Ring → ℕ → ℕ → RingState → Body
promise_of ring ballot lo kept = promise_with ring ballot lo kept.trim (ranges_of (entries_from (max lo kept.trim) kept.votes))

abbrev pub tells_promise : Ring → NodeId → ℕ → ℕ → Effects → Effects
tells_promise ring to ballot lo effects = with_frames (sends ring (Some to) (promise_of ring ballot lo effects.part.kept)) effects

abbrev pub refuses : Ring → Option NodeId → ℕ → Part → Effects
refuses ring to ballot part = with_frames (sends ring to (Refuse ring.id ballot part.kept.promise)) (no_effects part)

abbrev pub tells_trim : Ring → Option NodeId → Part → Effects
tells_trim ring to part = with_frames (sends ring to (Trimmed ring.id part.kept.trim)) (no_effects part)

-- Prepare: dropped where its sender doesn't own the ballot, refused below the promise. Else the promise becomes the ballot,
-- and the sender is told a page of votes.
unfoldable pub prepares : Ring → Part → NodeId → ℕ → ℕ → Effects
prepares ring part from ballot lo =
    if not (is_node from (owner_of ring ballot)) then no_effects part
    else if nat_lt ballot part.kept.promise then refuses ring (Some from) ballot part
    else tells_promise ring from ballot lo (promises ring ballot (no_effects part))

-- ---- Accept

-- what is decided goes round to all other members, which are one fewer than the members
abbrev pub first_decide : Ring → Link → Decided → List Sent
first_decide ring link range =
    if nat_le 2 (length ring.members)
    then sends ring (next_member ring link) (Decide ring.id range.lo range.hi (length ring.members - 2) range.value)
    else []

abbrev pub decides : Ring → Link → Decided → Effects → Effects
decides ring link range effects = with_learned range (with_frames (first_decide ring link range) effects)

-- The mask has the own bit: with a majority of bits the range is decided, else the next acceptor is asked.
abbrev pub decides_or_forwards : Ring → Link → ℕ → Voted → Effects → Effects
decides_or_forwards ring link mask vote effects =
    if nat_le (majority_of ring) (count_ones mask) then decides ring link (decided_of vote) effects
    else with_frames (sends ring (next_acceptor ring link) (Accept ring.id vote.ballot vote.lo vote.hi mask vote.value)) effects

-- by the own position
abbrev pub accepts_at : Ring → Link → Part → ℕ → Voted → Option ℕ → Effects
accepts_at ring link part mask vote None = no_effects part
accepts_at ring link part mask vote (Some position) =
    if nat_lt vote.ballot part.kept.promise then refuses ring (owner_of ring vote.ballot) vote.ballot part
    else if nat_lt vote.lo part.kept.trim then tells_trim ring (owner_of ring vote.ballot) part
    else if has_bit mask position then no_effects part
    else decides_or_forwards ring link (with_bit mask position) vote (votes_anew ring vote (promises_anew ring vote.ballot (no_effects part)))

-- Accept: refused below the promise, answered by the trim below the trim, nothing where the own bit is there. Else the
-- promise becomes the ballot, the range is voted for, and the frame goes on with the own bit.
unfoldable pub accepts : Ring → Link → Part → ℕ → ℕ → ℕ → ℕ → Value → Effects
accepts ring link part ballot lo hi mask value =
    accepts_at ring link part mask (record { lo = lo; hi = hi; ballot = ballot; value = value }) (position_of ring ring.own)

-- ---- Fetch

-- a page without ranges isn't sent
abbrev pub tells_ranges : Ring → NodeId → List Decided → List Sent
tells_ranges ring to [] = []
tells_ranges ring to (range ∷ ranges) = sends ring (Some to) (Chosen ring.id (range ∷ ranges))

-- Fetch: answered by the trim below the trim, else by a page of what was learned from there on, as maximal ranges.
unfoldable pub fetches : Ring → Part → NodeId → ℕ → Effects
fetches ring part from lo =
    if nat_lt lo part.kept.trim then tells_trim ring (Some from) part
    else with_frames (tells_ranges ring from (ranges_page (learned_ranges (entries_from lo part.learner.held)))) (no_effects part)
