-- What an attempt says is to be done next.
use Rattle.std.specs.Prelude.{ℕ, ◌≡◌, ◌==◌, nat_lt, ◌&&◌, not, Bool, true, false, if◌then◌else◌, List, length, Option, Some, None}
use Rattle.mrp_types.specs.declared.id.NodeId.{NodeId}
use Rattle.mrp_types.specs.declared.id.RingId.{RingId}
use Rattle.mrp_types.specs.Members.{is_member}
use Rattle.protocol.specs.Node.{Choice}
use Rattle.recovery.specs.declared.turns.Turn.{Turn}
use Rattle.recovery.specs.declared.turns.Turn.TheVariants.{Ask, Wait, NoQuorum, Choose, Install, Again}
use Rattle.recovery.specs.declared.turns.Missing.TheVariants.{Answers, Part}
use Rattle.recovery.specs.Attempts.{Trying, awaits}

pub data Told : Type 0 where
  -- the choice was just made or changed
  IsChosen : (tuple : List (RingId × ℕ)) → (from : NodeId) → Told
  -- answers are missing
  LacksAnswers : Told
  -- all bytes of the choice are there
  IsWhole : (tuple : List (RingId × ℕ)) → Told
  -- the bytes from an offset on are missing
  LacksPart : (offset : ℕ) → Told
  -- what is missing is to be asked for again
  AsksAgain : Told
  -- it has ended with too few answers
  HasTooFew : (answered : ℕ) → (needed : ℕ) → Told
  -- it has ended without all bytes
  HasEnded : Told

abbrev pub turn_with : Option Choice → Bool → Bool → Told
turn_with None changed whole = LacksAnswers
turn_with (Some choice) true whole = IsChosen choice.tuple choice.from
turn_with (Some choice) false true = IsWhole choice.tuple
turn_with (Some choice) false false = LacksPart (length choice.bytes)

-- a choice that the last call made or changed, else the missing answers, else that all is there, else the missing offset
abbrev pub turn_of : Trying → Told
turn_of r = turn_with r.attempt.choice r.changed r.whole

abbrev pub end_of : Trying → Told
end_of r = if nat_lt (length r.attempt.answers) r.needed then HasTooFew (length r.attempt.answers) r.needed else HasEnded

-- After a tick: where not all is there the last tick ends it; else, where it is to be asked again, that; else what its turn says.
abbrev pub tick_turn : Bool → Trying → Told
tick_turn again r =
    if not r.whole && (r.attempt.ticks == r.limit) then end_of r
    else if not r.whole && again then AsksAgain
    else turn_of r

-- ---- what is said

-- the replicas that haven't answered
abbrev pub NamesMissing : Trying → Turn → Type 0
NamesMissing r (Wait (Answers members)) = (node : NodeId) → is_member members node.0 ≡ awaits node r.attempt.answers r.replicas
NamesMissing r (Wait (Part offset)) = ⊥
NamesMissing r Ask = ⊥
NamesMissing r (NoQuorum answered needed) = ⊥
NamesMissing r (Choose tuple from) = ⊥
NamesMissing r (Install tuple) = ⊥
NamesMissing r Again = ⊥

abbrev pub Says : Told → Trying → Turn → Type 0
Says (IsChosen tuple from) r turn = turn ≡ Choose tuple from
Says LacksAnswers r turn = NamesMissing r turn
Says (IsWhole tuple) r turn = turn ≡ Install tuple
Says (LacksPart offset) r turn = turn ≡ Wait (Part offset)
Says AsksAgain r turn = turn ≡ Ask
Says (HasTooFew answered needed) r turn = turn ≡ NoQuorum answered needed
Says HasEnded r turn = turn ≡ Again
