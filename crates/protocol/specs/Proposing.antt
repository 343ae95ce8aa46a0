-- What a coordinator proposes: the due value, runs of due Skips, fresh batches, one proposal after another.
use Rattle.std.specs.Prelude.{ℕ, zero, suc, ◌+◌, ◌-◌, nat_lt, nat_le, not, ◌&&◌, ◌||◌, min, max, Bool, true, false, if◌then◌else◌, List, [], ◌∷◌, ◌++◌, length, Option, Some, None}
use Rattle.mrp_types.specs.declared.id.TheConstants.{END}
use Rattle.mrp_types.specs.declared.value.Value.{Value}
use Rattle.mrp_types.specs.declared.value.Value.TheVariants.{Skip, Batch}
use Rattle.mrp_types.specs.declared.value.Entry.{Entry}
use Rattle.mrp_types.specs.declared.voted.Voted.{Voted}
use Rattle.mrp_types.specs.declared.voted.Decided.{Decided}
use Rattle.mrp_types.specs.Values.{is_skip}
use Rattle.command_codec.specs.Spelling.{entry_bytes, batch_bytes}
use Rattle.range_map.specs.Entries.{value_at}
use Rattle.vote_state.specs.declared.cast.Cast.{Cast}
use Rattle.ring_link.specs.Silence.{Link}
use Rattle.skip_leveller.specs.Levelling.{Levelling, with_started}
use Rattle.plain_model.specs.Pages.{front_within}
use Rattle.protocol.specs.Parts.{Ring, Pending, Campaign, Role, Idle, Active, Part, Effects}
use Rattle.protocol.specs.Rings.{position_of, bit_of}
use Rattle.protocol.specs.Effects.{with_campaign, no_effects, with_part}
use Rattle.protocol.specs.Learner.{first_gap}
use Rattle.protocol.specs.Acceptor.{votes_for, decides_or_forwards}
use Rattle.protocol.specs.Ballots.{covered_to, leads_now, reported}

-- ---- the due value

-- the first instance past all reports
abbrev pub reported_to : List (ℕ × Cast) → ℕ
reported_to [] = 0
reported_to (e ∷ es) = max (suc e.0) (reported_to es)

-- the reported value, else Skip in a gap, else none: a fresh value is due
abbrev pub due_by : Option Cast → Bool → Option Value
due_by (Some cast) gap = Some cast.value
due_by None true = Some Skip
due_by None false = None

-- Due is the reported value of the highest ballot; else Skip, where the coordinator doesn't lead or the instance is below the
-- greatest reported one; else a fresh value.
abbrev pub due_at : Ring → Campaign → ℕ → Option Value
due_at ring campaign inst =
    due_by (value_at inst campaign.reports) (not (leads_now ring campaign) || nat_lt (suc inst) (reported_to campaign.reports))

-- ---- runs of due Skips

-- the first instance from `from` on at which an entry passes the test, or a bound where that is less
unfoldable pub first_where : {T : Type 0} → (T → Bool) → ℕ → ℕ → List (ℕ × T) → ℕ
first_where test from bound [] = bound
first_where test from bound (e ∷ es) = if nat_le from e.0 && test e.1 then min e.0 bound else first_where test from bound es

abbrev pub is_batch : Cast → Bool
is_batch cast = not (is_skip cast.value)

abbrev pub is_any : Value → Bool
is_any value = true

-- up to where Skip can be due without a report: while the coordinator leads, past all reports a fresh value is
abbrev pub gaps_to : Bool → ℕ → ℕ → ℕ
gaps_to true reported covered = min reported covered
gaps_to false reported covered = covered

-- A run of due Skips ends where a majority isn't covered, where no Skip is due any more, at a reported batch and at a learned
-- instance; it has at most 65,536 instances.
abbrev pub run_within : ℕ → ℕ → Campaign → List (ℕ × Value) → ℕ
run_within next bound campaign held = first_where is_any next (first_where is_batch next bound campaign.reports) held

abbrev pub run_end : Ring → Campaign → List (ℕ × Value) → ℕ
run_end ring campaign held =
    run_within campaign.next (min (campaign.next + 65536) (gaps_to (leads_now ring campaign) (reported_to campaign.reports) (covered_to ring campaign.covered)))
    campaign held

-- ---- a fresh batch

-- the commands that wait and weren't proposed
abbrev pub unproposed : List Pending → List Entry
unproposed [] = []
unproposed (p ∷ pending) = if p.proposed then unproposed pending else p.entry ∷ unproposed pending

abbrev pub entry_size : Entry → ℕ
entry_size entry = length (entry_bytes entry)

-- The commands of a fresh batch: the longest prefix of those not yet proposed, the oldest first, whose batch has at most 8,192
-- bytes; 3 of them are the kind and the count.
abbrev pub fresh_entries : List Pending → List Entry
fresh_entries pending = front_within entry_size (8192 - 3) (unproposed pending)

abbrev pub as_proposed : Pending → Pending
as_proposed p = record p { proposed = true }

-- the first so many of those not yet proposed are proposed now
abbrev pub with_proposed : ℕ → List Pending → List Pending
with_proposed count [] = []
with_proposed zero (p ∷ pending) = p ∷ pending
with_proposed (suc count) (p ∷ pending) = if p.proposed then p ∷ with_proposed (suc count) pending else as_proposed p ∷ with_proposed count pending

-- ---- proposing

-- what is proposed, and how many waiting commands a fresh batch takes; or nothing
pub data Choice : Type 0 where
  Rests : Choice
  Offers : Decided → (taken : ℕ) → Choice

abbrev pub single : ℕ → List ℕ → Decided
single inst batch = record { lo = inst; hi = inst + 1; value = Batch batch }

abbrev pub fresh_choice : ℕ → List Entry → Choice
fresh_choice next [] = Rests
fresh_choice next (entry ∷ entries) = Offers (single next (batch_bytes (entry ∷ entries))) (suc (length entries))

-- a due batch at its instance, a run of due Skips, or a fresh batch where commands wait
abbrev pub choice_of : Ring → Campaign → List (ℕ × Value) → Option Value → Choice
choice_of ring campaign held (Some (Batch batch)) = Offers (single campaign.next batch) 0
choice_of ring campaign held (Some Skip) = Offers (record { lo = campaign.next; hi = run_end ring campaign held; value = Skip }) 0
choice_of ring campaign held None = fresh_choice campaign.next (fresh_entries campaign.pending)

-- whether fewer proposals than the window are outstanding
abbrev pub has_room : Ring → Campaign → Bool
has_room ring campaign = nat_lt (length campaign.outstanding) ring.window

-- while there is room and a majority is covered past next
abbrev pub choice : Ring → Campaign → List (ℕ × Value) → Choice
choice ring campaign held =
    if has_room ring campaign && nat_lt campaign.next (covered_to ring campaign.covered)
    then choice_of ring campaign held (due_at ring campaign campaign.next)
    else Rests

-- next rises to the trim and passes over learned instances
abbrev pub advanced : Part → Campaign → Campaign
advanced part campaign = record campaign { next = first_gap (max campaign.next part.kept.trim) part.learner.held }

abbrev pub mask_at : Option ℕ → ℕ
mask_at None = 0
mask_at (Some position) = bit_of position

-- a mask of the own vote alone
abbrev pub own_mask : Ring → ℕ
own_mask ring = mask_at (position_of ring ring.own)

-- A proposal is outstanding until it is finished. In a ring of one acceptor it is decided at once, and never outstanding.
abbrev pub with_outstanding : Ring → Decided → List Decided → List Decided
with_outstanding ring range outstanding = if nat_le (length ring.acceptors) 1 then outstanding else outstanding ++ range ∷ []

-- a fresh batch counts for the leveller as one instance started
abbrev pub with_fresh : ℕ → Levelling → Levelling
with_fresh zero leveller = leveller
with_fresh (suc taken) leveller = with_started 1 leveller

-- after a proposal next passes its range
abbrev pub after_offer : Ring → Decided → ℕ → Campaign → Campaign
after_offer ring range taken campaign = record campaign {
  next = range.hi;
  outstanding = with_outstanding ring range campaign.outstanding;
  pending = with_proposed taken campaign.pending;
  leveller = with_fresh taken campaign.leveller;
}

abbrev pub vote_of : ℕ → Decided → Voted
vote_of ballot range = record { lo = range.lo; hi = range.hi; ballot = ballot; value = range.value }

-- A proposal is the own vote, and then Accept with the own bit to the next acceptor. In a ring of one acceptor that bit is a
-- majority: the range is decided at once.
unfoldable pub offers : Ring → Link → Campaign → Decided → ℕ → Effects → Effects
offers ring link campaign range taken effects =
    decides_or_forwards ring link (own_mask ring) (vote_of campaign.ballot range)
    (votes_for ring (vote_of campaign.ballot range) (with_part (with_campaign (after_offer ring range taken campaign) effects.part) effects))

-- what comes next in proposing: nothing more, or a proposal after what was done
pub data Turn : Type 0 where
  Stops : Effects → Turn
  Proposes : Campaign → Decided → (taken : ℕ) → Effects → Turn

abbrev pub turn_by : Effects → Campaign → Choice → Turn
turn_by effects campaign Rests = Stops (with_part (with_campaign campaign effects.part) effects)
turn_by effects campaign (Offers range taken) = Proposes campaign range taken effects

abbrev pub turn_with : Ring → Effects → Campaign → Turn
turn_with ring effects campaign = turn_by effects campaign (choice ring campaign effects.part.learner.held)

abbrev pub turn_in : Ring → Effects → Role → Turn
turn_in ring effects Idle = Stops effects
turn_in ring effects (Active campaign) = turn_with ring effects (advanced effects.part campaign)

abbrev pub turn_of : Ring → Effects → Turn
turn_of ring effects = turn_in ring effects effects.part.coordinator.role

-- proposals one after another, at most n
unfoldable pub proposing : ℕ → Ring → Link → Turn → Effects
proposing zero ring link (Stops effects) = effects
proposing zero ring link (Proposes campaign range taken effects) = effects
proposing (suc n) ring link (Stops effects) = effects
proposing (suc n) ring link (Proposes campaign range taken effects) =
    proposing n ring link (turn_of ring (offers ring link campaign range taken effects))

-- Proposing after what was done: each proposal passes an instance at least, so that there are at most END of them.
unfoldable pub proposes_after : Ring → Link → Effects → Effects
proposes_after ring link effects = proposing END ring link (turn_of ring effects)

abbrev pub proposes : Ring → Link → Part → Effects
proposes ring link part = proposes_after ring link (no_effects part)
