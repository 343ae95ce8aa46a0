-- A ballot of a coordinator: up to where acceptors are covered, how it starts, and what its acceptors report.
use Rattle.std.specs.Prelude.{ℕ, ◌+◌, ◌-◌, ◌%◌, ◌==◌, nat_lt, nat_le, ◌&&◌, max, Bool, true, false, if◌then◌else◌, List, [], ◌∷◌, length, map, count_by, slice_index, slice_set, Option, Some, None}
use Rattle.mrp_types.specs.declared.id.NodeId.{NodeId}
use Rattle.mrp_types.specs.declared.id.TheConstants.{END}
use Rattle.mrp_types.specs.declared.voted.Voted.{Voted}
use Rattle.vote_state.specs.declared.cast.Cast.{Cast}
use Rattle.vote_state.specs.declared.ring.RingState.{RingState}
use Rattle.vote_state.specs.Ranges.{cast_of}
use Rattle.skip_leveller.specs.Levelling.{levelling_after}
use Rattle.frames.specs.declared.body.Body.TheVariants.{Prepare}
use Rattle.frames.specs.declared.sent.Sent.{Sent}
use Rattle.protocol.specs.Parts.{Ring, Campaign, Role, Idle, Active, Coordinator, Part, Effects}
use Rattle.protocol.specs.Rings.{is_own, other_acceptors, position_of, majority_of, sends, sends_each}
use Rattle.protocol.specs.Effects.{with_campaign, with_part, with_frames}
use Rattle.protocol.specs.Learner.{with_met}

-- ---- what is covered

-- the greatest of these up to which at least so many of all reach; 0 where there is none
abbrev pub reached_by : ℕ → List ℕ → List ℕ → ℕ
reached_by count all [] = 0
reached_by count all (x ∷ xs) = max (if nat_le count (count_by (λ y. nat_le x y) all) then x else 0) (reached_by count all xs)

-- A majority is covered past each instance below this, and past no other.
unfoldable pub covered_to : Ring → List ℕ → ℕ
covered_to ring covered = reached_by (majority_of ring) covered covered

-- it leads where a majority is covered to the end of all instances
abbrev pub leads_now : Ring → Campaign → Bool
leads_now ring campaign = nat_le END (covered_to ring campaign.covered)

abbrev pub is_role_active : Role → Bool
is_role_active Idle = false
is_role_active (Active campaign) = true

abbrev pub is_active : Coordinator → Bool
is_active coordinator = is_role_active coordinator.role

-- whether a coordinator leads; an Idle one doesn't
abbrev pub role_leads : Ring → Role → Bool
role_leads ring Idle = false
role_leads ring (Active campaign) = leads_now ring campaign

-- the greater of the own promise and of what was refused
abbrev pub greatest_seen : Part → ℕ
greatest_seen part = max part.kept.promise part.coordinator.top

-- ---- Start

-- the least number above a floor that leaves this rest by n
abbrev pub least_above : ℕ → ℕ → ℕ → ℕ
least_above floor n rest = floor + 1 + (rest + n - (floor + 1) % n) % n

-- the own position is covered to the end, all others to where the ballot begins
abbrev pub covered_at_start : Ring → ℕ → List ℕ
covered_at_start ring next = map (λ (node : NodeId). if is_own ring node then END else next) ring.acceptors

-- nothing is outstanding, nothing waits, and the own votes are reported
abbrev pub new_campaign : Ring → ℕ → RingState → Campaign
new_campaign ring ballot kept = record {
  ballot = ballot;
  next = kept.trim;
  covered = covered_at_start ring kept.trim;
  reports = kept.votes;
  outstanding = [];
  pending = [];
  leveller = levelling_after ring.lambda ring.delta [];
}

-- the ballot begins at the own trim, and the other acceptors are asked from there on
abbrev pub campaigns : Ring → ℕ → Effects → Effects
campaigns ring ballot effects =
    with_frames (sends_each ring (other_acceptors ring) (Prepare ring.id ballot effects.part.kept.trim))
    (with_part (with_campaign (new_campaign ring ballot effects.part.kept) effects.part) effects)

-- the least ballot above promise and top that the node owns
abbrev pub own_ballot : Ring → Part → ℕ → ℕ
own_ballot ring part position = least_above (greatest_seen part) (length ring.acceptors) position

-- ---- reports

-- the vote of the higher ballot
abbrev pub higher : Option Cast → Cast → Cast
higher None cast = cast
higher (Some held) cast = if nat_lt held.ballot cast.ballot then cast else held

-- votes from an instance on are reported, one after another
abbrev pub with_reports : ℕ → List Voted → List (ℕ × Cast) → List (ℕ × Cast)
with_reports from [] reports = reports
with_reports from (vote ∷ votes) reports = with_reports from votes (with_met higher (max vote.lo from) vote.hi (cast_of vote) reports)

-- a page of votes in a promise
pub record Page : Type 0 where
  pub ballot : ℕ
  pub lo : ℕ
  pub hi : ℕ
  pub votes : List Voted

-- the position was covered to `covered`; then its votes from there on are reported, and it is covered to the page's end
abbrev pub with_page : ℕ → ℕ → Page → Campaign → Campaign
with_page position covered page campaign = record campaign {
  covered = slice_set campaign.covered position page.hi;
  reports = with_reports covered page.votes campaign.reports;
}

-- the next page is asked for where the end isn't reached
abbrev pub asks_more : Ring → NodeId → Page → List Sent
asks_more ring from page = if page.hi == END then [] else sends ring (Some from) (Prepare ring.id page.ballot page.hi)

-- a page counts where it is of the current ballot and begins where the position is covered to, or before, and goes past it
abbrev pub counts : Page → ℕ → ℕ → Bool
counts page ballot covered = (page.ballot == ballot) && (nat_le page.lo covered && nat_lt covered page.hi)

abbrev pub reported_past : Ring → NodeId → Page → Campaign → ℕ → ℕ → Effects → Effects
reported_past ring from page campaign position covered effects =
    if counts page campaign.ballot covered
    then with_frames (asks_more ring from page) (with_part (with_campaign (with_page position covered page campaign) effects.part) effects)
    else effects

abbrev pub reported_at : Ring → NodeId → Page → Role → Option ℕ → Effects → Effects
reported_at ring from page Idle position effects = effects
reported_at ring from page (Active campaign) None effects = effects
reported_at ring from page (Active campaign) (Some position) effects =
    reported_past ring from page campaign position (slice_index campaign.covered position) effects

-- a page of votes is reported
abbrev pub reported : Ring → NodeId → Page → Effects → Effects
reported ring from page effects = reported_at ring from page effects.part.coordinator.role (position_of ring from) effects
