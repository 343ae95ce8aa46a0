-- Learning: what a member holds of what was decided.
use Rattle.std.specs.Prelude.{ℕ, zero, suc, ◌-◌, ◌==◌, not, ◌&&◌, ◌||◌, min, max, Bool, true, false, if◌then◌else◌, List, [], ◌∷◌, ◌++◌, filter, map, Option, Some, None}
use Rattle.mrp_types.specs.declared.value.Value.{Value}
use Rattle.mrp_types.specs.declared.value.Entry.{Entry}
use Rattle.mrp_types.specs.declared.voted.Decided.{Decided}
use Rattle.mrp_types.specs.declared.voted.Voted.{Voted}
use Rattle.plain_model.specs.Fold.{entries_of_value}
use Rattle.range_map.specs.Entries.{value_at, entries_before, entries_from}
use Rattle.vote_state.specs.declared.cast.Cast.{Cast}
use Rattle.vote_state.specs.declared.ring.RingState.{RingState}
use Rattle.vote_state.specs.Ranges.{ranges_of}
use Rattle.ring_link.specs.Silence.{Link}
use Rattle.frames.specs.declared.body.Body.TheVariants.{Decide}
use Rattle.protocol.specs.Parts.{Ring, Pending, Role, Idle, Active, Coordinator, Learner, Part, Effects}
use Rattle.protocol.specs.Rings.{is_acceptor, next_member, sends}
use Rattle.protocol.specs.Effects.{with_learner, with_role, no_effects, with_frames, with_learned}

-- ---- entries at the instances of a range

module _ {T : Type 0} where
  -- the entries from an instance on and below another
  abbrev pub entries_within : ℕ → ℕ → List (ℕ × T) → List (ℕ × T)
  entries_within lo hi es = entries_before hi (entries_from lo es)

  -- what the first entry holds, where it is at this instance
  abbrev pub front_at : ℕ → List (ℕ × T) → Option T
  front_at i [] = None
  front_at i (e ∷ es) = if e.0 == i then Some e.1 else None

  -- the entries past this instance, where the first of them may be at it
  abbrev pub past_front : ℕ → List (ℕ × T) → List (ℕ × T)
  past_front i [] = []
  past_front i (e ∷ es) = if e.0 == i then es else e ∷ es

  -- Whether each of n instances from lo on is held; no entry stands before lo.
  unfoldable pub are_all_held : ℕ → ℕ → List (ℕ × T) → Bool
  are_all_held lo zero es = true
  are_all_held lo (suc n) [] = false
  are_all_held lo (suc n) (e ∷ es) = (e.0 == lo) && are_all_held (suc lo) n es

  -- whether each instance of the range is held
  abbrev pub is_held : ℕ → ℕ → List (ℕ × T) → Bool
  is_held lo hi es = are_all_held lo (hi - lo) (entries_within lo hi es)

  -- Each of n instances from lo on holds what `met` makes of what was held there and of v. The entries are those of these
  -- instances.
  unfoldable pub met_over : (Option T → T → T) → ℕ → ℕ → T → List (ℕ × T) → List (ℕ × T)
  met_over met lo zero v es = []
  met_over met lo (suc n) v es = (lo, met (front_at lo es) v) ∷ met_over met (suc lo) n v (past_front lo es)

  -- each instance of the range holds what `met` makes of what was held there and of v; all other instances what they held
  abbrev pub with_met : (Option T → T → T) → ℕ → ℕ → T → List (ℕ × T) → List (ℕ × T)
  with_met met lo hi v es = entries_before lo es ++ met_over met lo (hi - lo) v (entries_within lo hi es) ++ entries_from (max lo hi) es

  -- the first instance from i on that isn't held, by the entries from i on
  unfoldable pub gap_after : ℕ → List (ℕ × T) → ℕ
  gap_after i [] = i
  gap_after i (e ∷ es) = if e.0 == i then gap_after (suc i) es else i

  -- the first instance from i on that isn't held
  abbrev pub first_gap : ℕ → List (ℕ × T) → ℕ
  first_gap i es = gap_after i (entries_from i es)

-- what was held first stays
abbrev pub first_of : Option Value → Value → Value
first_of None value = value
first_of (Some held) value = held

-- ---- a learner

abbrev pub value_in : Learner → ℕ → Option Value
value_in learner inst = value_at inst learner.held

-- whether some instance of the range, not below the base, isn't held yet
abbrev pub is_news : Decided → Learner → Bool
is_news range learner = not (is_held (max range.lo learner.base) range.hi learner.held)

-- Each instance of the range that isn't held takes the value. What is held stays, and no instance below the base is taken.
abbrev pub with_range_learned : Decided → Learner → Learner
with_range_learned range learner = record learner {
  held = with_met first_of (max range.lo learner.base) range.hi range.value learner.held;
}

-- what is below an instance goes, and nothing below it is taken any more
abbrev pub with_base : ℕ → Learner → Learner
with_base inst learner = record { base = max learner.base inst; held = entries_from inst learner.held }

-- from an instance on all is taken again
abbrev pub lowered : ℕ → Learner → Learner
lowered inst learner = record learner { base = min learner.base inst }

-- the learner of a node that opens: its base is the acceptor's trim, or 0 at a node that is no acceptor
abbrev pub new_learner : Ring → RingState → Learner
new_learner ring kept = record { base = if is_acceptor ring then kept.trim else 0; held = [] }

-- nothing was refused yet, and no ballot is going on
abbrev pub idle : Coordinator
idle = record { top = 0; role = Idle }

-- what a node knows of a ring when it opens
abbrev pub new_part : Ring → RingState → Part
new_part ring kept = record {
  kept = kept;
  coordinator = idle;
  learner = new_learner ring kept;
  rounds = record { asked = 0; current = None };
}

-- ---- learned values as ranges

abbrev pub unballoted : Value → Cast
unballoted value = record { ballot = 0; value = value }

-- a range without its ballot
abbrev pub decided_of : Voted → Decided
decided_of range = record { lo = range.lo; hi = range.hi; value = range.value }

-- what was learned as maximal ranges: those of votes of one ballot
abbrev pub learned_ranges : List (ℕ × Value) → List Decided
learned_ranges held = map decided_of (ranges_of (map (λ e. (e.0, unballoted e.1)) held))

-- ---- what a coordinator lets go when something is learned or trimmed

-- whether two commands are one: of one client, with one number
abbrev pub is_same_command : Entry → Entry → Bool
is_same_command a b = (a.client.0 == b.client.0) && (a.seq == b.seq)

abbrev pub is_among : Entry → List Entry → Bool
is_among entry [] = false
is_among entry (other ∷ others) = is_same_command entry other || is_among entry others

-- the commands that wait and aren't among these
abbrev pub still_pending : List Entry → List Pending → List Pending
still_pending entries pending = filter (λ (p : Pending). not (is_among p.entry entries)) pending

-- whether each instance of a proposal is learned or below the trim
abbrev pub is_finished : ℕ → List (ℕ × Value) → Decided → Bool
is_finished trim held range = is_held (max trim range.lo) range.hi held

-- the proposals that aren't finished
abbrev pub unfinished : ℕ → List (ℕ × Value) → List Decided → List Decided
unfinished trim held outstanding = filter (λ range. not (is_finished trim held range)) outstanding

-- finished proposals are no longer outstanding
abbrev pub role_unfinished : ℕ → List (ℕ × Value) → Role → Role
role_unfinished trim held Idle = Idle
role_unfinished trim held (Active campaign) = Active (record campaign { outstanding = unfinished trim held campaign.outstanding })

abbrev pub without_finished : Part → Part
without_finished part = with_role (role_unfinished part.kept.trim part.learner.held part.coordinator.role) part

-- commands that a learned value holds wait no longer
abbrev pub role_without : List Entry → Role → Role
role_without entries Idle = Idle
role_without entries (Active campaign) = Active (record campaign { pending = still_pending entries campaign.pending })

abbrev pub without_commands : List Entry → Part → Part
without_commands entries part = with_role (role_without entries part.coordinator.role) part

-- ---- a range is learned

-- a part once a range was learned, and whether some of it was news
pub record Taken : Type 0 where
  pub part : Part
  pub news : Bool

-- What is news drops the pending commands that the value holds, and the proposals that are finished by it.
abbrev pub learns_news : Bool → Part → Decided → Taken
learns_news false part range = record { part = part; news = false }
learns_news true part range = record {
  part = without_finished (without_commands (entries_of_value range.value) (with_learner (with_range_learned range part.learner) part));
  news = true;
}

-- the learner takes a range: the first value at each instance, none below the base
unfoldable pub learns : Ring → Part → Decided → Taken
learns ring part range = learns_news (is_news range part.learner) part range

-- ---- frames that tell what was decided

-- a Decide is passed on to the next member while it has to go further
abbrev pub passed_on : Ring → Link → ℕ → ℕ → ℕ → Value → Effects → Effects
passed_on ring link lo hi zero value effects = effects
passed_on ring link lo hi (suc left) value effects = with_frames (sends ring (next_member ring link) (Decide ring.id lo hi left value)) effects

-- Decide: the range is to be learned, and passed on whether it is news or not.
unfoldable pub decided : Ring → Link → Part → ℕ → ℕ → ℕ → Value → Effects
decided ring link part lo hi left value =
    with_learned (record { lo = lo; hi = hi; value = value }) (passed_on ring link lo hi left value (no_effects part))

-- Chosen: each of the ranges is to be learned
unfoldable pub chosen : Ring → Part → List Decided → Effects
chosen ring part ranges = record { part = part; changes = []; frames = []; lines = []; learned = ranges }
