-- What an attempt of recovery makes of what it is told. These are the rules of the protocol's attempt alone: `Steps` says what a
-- node does with them.
use Rattle.std.specs.Prelude.{ℕ, ◌+◌, ◌==◌, nat_le, ◌&&◌, not, Bool, true, false, if◌then◌else◌, List, [], ◌∷◌, ◌++◌, length, Option, Some, None, is_some}
use Rattle.std.specs.Option.{option_map}
use Rattle.mrp_types.specs.declared.id.NodeId.{NodeId}
use Rattle.mrp_types.specs.declared.id.RingId.{RingId}
use Rattle.mrp_config.specs.Config.{Config, has_node}
use Rattle.mrp_config.specs.declared.tables.PartitionTable.{PartitionTable}
use Rattle.checkpoint.specs.Checkpoints.{is_after}
use Rattle.protocol.specs.Node.{Attempt, Choice}
use Rattle.protocol.specs.Recovery.{best_of, is_of_choice}
use Rattle.protocol.specs.Trimming.{has_answered}

-- An attempt with what it has to know: its own node and epoch, the replicas of the partition, how many answers it needs, and how
-- many ticks it has. `whole` says that all bytes of the choice are there, `changed` that the last call made or changed the choice.
pub record Trying : Type 0 where
  pub own : NodeId
  pub epoch : ℕ
  pub replicas : List NodeId
  pub needed : ℕ
  pub limit : ℕ
  pub attempt : Attempt
  pub whole : Bool
  pub changed : Bool

-- nothing of the choice was made or changed
abbrev pub quiet : Trying → Trying
quiet r = record r { changed = false }

-- ---- choosing

-- a checkpoint of which no byte came yet
abbrev pub fresh : NodeId × List (RingId × ℕ) → Choice
fresh best = record { tuple = best.1; from = best.0; bytes = [] }

abbrev pub best_answer : NodeId → List (NodeId × List (RingId × ℕ)) → Option (NodeId × List (RingId × ℕ))
best_answer own [] = None
best_answer own (answer ∷ answers) = Some (best_of own answer answers)

-- the best of as many answers as are needed
abbrev pub choice_by : NodeId → ℕ → List (NodeId × List (RingId × ℕ)) → Option Choice
choice_by own needed answers = if nat_le needed (length answers) then option_map fresh (best_answer own answers) else None

-- with these answers, and the choice that they make
abbrev pub with_answers : List (NodeId × List (RingId × ℕ)) → Trying → Trying
with_answers answers r = record r {
  attempt = record r.attempt { answers = answers; choice = choice_by r.own r.needed answers };
  whole = false;
  changed = is_some (choice_by r.own r.needed answers);
}

-- ---- an attempt begins

-- it has the own answer
abbrev pub begun : Config → PartitionTable → NodeId → ℕ → ℕ → List (RingId × ℕ) → Trying
begun config p own epoch number tuple = with_answers ((own, tuple) ∷ []) (record {
  own = own;
  epoch = epoch;
  replicas = p.replicas;
  needed = p.recovery_quorum;
  limit = config.attempt;
  attempt = record { number = number; ticks = 0; answers = []; choice = None };
  whole = false;
  changed = false;
})

-- ---- what it is told

abbrev pub is_named : ℕ → ℕ → Trying → Bool
is_named epoch number r = (epoch == r.epoch) && (number == r.attempt.number)

abbrev pub is_none : Option Choice → Bool
is_none None = true
is_none (Some choice) = false

-- An answer counts where it names this epoch and attempt, comes from a replica of the partition and is its first, until there
-- is a choice.
abbrev pub is_heard : NodeId → ℕ → ℕ → Trying → Bool
is_heard from epoch number r = is_named epoch number r && (has_node r.replicas from.0 && (not (has_answered from r.attempt.answers) && is_none r.attempt.choice))

abbrev pub heard : NodeId → ℕ → ℕ → List (RingId × ℕ) → Trying → Trying
heard from epoch number tuple r = if is_heard from epoch number r then with_answers (r.attempt.answers ++ (from, tuple) ∷ []) r else quiet r

-- a part comes from the chosen node, names the chosen tuple, and begins at the missing offset
abbrev pub is_missing_at : Option Choice → NodeId → List (RingId × ℕ) → ℕ → Bool
is_missing_at None from tuple offset = false
is_missing_at (Some choice) from tuple offset = is_of_choice choice from tuple && (offset == length choice.bytes)

abbrev pub is_parted : NodeId → ℕ → ℕ → List (RingId × ℕ) → ℕ → Trying → Bool
is_parted from epoch number tuple offset r = is_named epoch number r && (is_missing_at r.attempt.choice from tuple offset && not r.whole)

abbrev pub with_bytes : List ℕ → Option Choice → Option Choice
with_bytes bytes choice = option_map (λ (c : Choice). record c { bytes = c.bytes ++ bytes }) choice

-- all bytes are there where the part ends at its total
abbrev pub ends_at : ℕ → Option Choice → Bool
ends_at total None = false
ends_at total (Some choice) = length choice.bytes == total

abbrev pub with_part : ℕ → List ℕ → Trying → Trying
with_part total bytes r = record r {
  attempt = record r.attempt { choice = with_bytes bytes r.attempt.choice };
  whole = ends_at total (with_bytes bytes r.attempt.choice);
  changed = false;
}

abbrev pub parted : NodeId → ℕ → ℕ → List (RingId × ℕ) → ℕ → ℕ → List ℕ → Trying → Trying
parted from epoch number tuple offset total bytes r = if is_parted from epoch number tuple offset r then with_part total bytes r else quiet r

-- the chosen checkpoint is gone, and a newer one is there
abbrev pub is_lost : Option Choice → NodeId → List (RingId × ℕ) → List (RingId × ℕ) → Bool
is_lost None from asked newer = false
is_lost (Some choice) from asked newer = is_of_choice choice from asked && is_after choice.tuple newer

abbrev pub is_gone : NodeId → ℕ → ℕ → List (RingId × ℕ) → List (RingId × ℕ) → Trying → Bool
is_gone from epoch number asked newer r = is_named epoch number r && is_lost r.attempt.choice from asked newer

-- it is the choice, of the same node, from its first byte on
abbrev pub gone : NodeId → ℕ → ℕ → List (RingId × ℕ) → List (RingId × ℕ) → Trying → Trying
gone from epoch number asked newer r =
    if is_gone from epoch number asked newer r
    then record r { attempt = record r.attempt { choice = Some (fresh (from, newer)) }; whole = false; changed = true }
    else quiet r

-- ---- ticks

-- Its ticks are counted up to one past the last.
abbrev pub risen : ℕ → ℕ → ℕ
risen limit ticks = if nat_le ticks limit then ticks + 1 else ticks

abbrev pub ticked : Trying → Trying
ticked r = record r { attempt = record r.attempt { ticks = risen r.limit r.attempt.ticks }; changed = false }

-- ---- who is missing

-- whether a node is one of these and hasn't answered
abbrev pub awaits : NodeId → List (NodeId × List (RingId × ℕ)) → List NodeId → Bool
awaits node answers nodes = has_node nodes node.0 && not (has_answered node answers)
