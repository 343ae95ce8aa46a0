-- Trimming: what an acceptor is told, and the rounds by which a leader finds out what may go.
use Rattle.std.specs.Prelude.{ℕ, suc, ◌==◌, nat_lt, nat_le, ◌&&◌, ◌||◌, not, min, Bool, true, false, if◌then◌else◌, List, [], ◌∷◌, ◌++◌, count_by, Option, Some, None}
use Rattle.mrp_types.specs.declared.id.NodeId.{NodeId}
use Rattle.mrp_config.specs.declared.tables.PartitionTable.{PartitionTable}
use Rattle.mrp_config.specs.Config.{has_node}
use Rattle.ring_link.specs.Silence.{Link}
use Rattle.frames.specs.declared.body.Body.TheVariants.{AskSafe, TrimTo}
use Rattle.protocol.specs.Lines.{Trim}
use Rattle.protocol.specs.Parts.{Ring, Round, Rounds, Part, Effects}
use Rattle.protocol.specs.Rings.{replicas_of, by_id, is_subscribed, other_acceptors, sends_each}
use Rattle.protocol.specs.Effects.{with_rounds, no_effects, with_part, with_frames, with_line}
use Rattle.protocol.specs.Acceptor.{trims_to}
use Rattle.protocol.specs.Ballots.{role_leads}
use Rattle.protocol.specs.Proposing.{proposes_after}

-- Trimmed and TrimTo at an acceptor: a trim above the own one is taken; then proposing
unfoldable pub trimmed : Ring → Link → Part → ℕ → Effects
trimmed ring link part trim = proposes_after ring link (trims_to ring trim (no_effects part))

-- ---- what a round's answers say

-- whether a node has answered
abbrev pub has_answered : {T : Type 0} → NodeId → List (NodeId × T) → Bool
has_answered node [] = false
has_answered node (answer ∷ answers) = (answer.0.0 == node.0) || has_answered node answers

-- how many replicas of a partition have answered
abbrev pub answered_of : PartitionTable → List (NodeId × ℕ) → ℕ
answered_of p answers = count_by (λ answer. has_node p.replicas answer.0.0) answers

-- whether each of the partitions has as many answers as its trim quorum
abbrev pub have_quorums : List PartitionTable → List (NodeId × ℕ) → Bool
have_quorums [] answers = true
have_quorums (p ∷ partitions) answers = nat_le p.trim_quorum (answered_of p answers) && have_quorums partitions answers

-- the least of the answers, the first of which is given
abbrev pub least_of : ℕ → List (NodeId × ℕ) → ℕ
least_of inst [] = inst
least_of inst (answer ∷ answers) = least_of (min inst answer.1) answers

-- where it is above the trim when the round was asked
abbrev pub above : ℕ → ℕ → Option ℕ
above last inst = if nat_lt last inst then Some inst else None

abbrev pub least_above_last : ℕ → List (NodeId × ℕ) → Option ℕ
least_above_last last [] = None
least_above_last last (answer ∷ answers) = above last (least_of answer.1 answers)

abbrev pub least_where : Bool → ℕ → List (NodeId × ℕ) → Option ℕ
least_where true last answers = least_above_last last answers
least_where false last answers = None

-- whether a partition subscribes, and each that does has its trim quorum of answers
abbrev pub is_answered : List PartitionTable → List (NodeId × ℕ) → Bool
is_answered [] answers = false
is_answered (p ∷ partitions) answers = have_quorums (p ∷ partitions) answers

-- The least of all answers, once each subscribed partition has its trim quorum of them; none where no partition subscribes or
-- the least isn't above the trim when the round was asked.
unfoldable pub least : Ring → Round → Option ℕ
least ring round = least_where (is_answered ring.subscribers round.answers) round.last round.answers

-- the first answer of each replica of a subscribed partition counts
abbrev pub with_answer : Ring → NodeId → ℕ → Round → Round
with_answer ring node inst round =
    if is_subscribed ring node && not (has_answered node round.answers)
    then record round { answers = round.answers ++ (node, inst) ∷ [] }
    else round

-- ---- the course of a round

abbrev pub with_current : Option Round → Rounds → Rounds
with_current current rounds = record rounds { current = current }

abbrev pub in_round : Option Round → Part → Part
in_round current part = with_rounds (with_current current part.rounds) part

-- what may go, goes: a line, the own trim, and word of it to the other acceptors
abbrev pub trims_all : Ring → ℕ → Effects → Effects
trims_all ring inst effects =
    with_frames (sends_each ring (other_acceptors ring) (TrimTo ring.id inst))
    (trims_to ring inst (with_line (Trim ring.own ring.id inst) effects))

-- where it is above the own trim, which may have risen since the round was asked
abbrev pub trims_above : Ring → ℕ → Effects → Effects
trims_above ring inst effects = if nat_lt effects.part.kept.trim inst then trims_all ring inst effects else effects

-- a round that has its least answer ends, with proposing; any other is kept
abbrev pub ends_by : Ring → Link → Round → Effects → Option ℕ → Effects
ends_by ring link round effects None = with_part (in_round (Some round) effects.part) effects
ends_by ring link round effects (Some inst) = proposes_after ring link (trims_above ring inst (with_part (in_round None effects.part) effects))

abbrev pub goes_on_round : Ring → Link → Round → Effects → Effects
goes_on_round ring link round effects = ends_by ring link round effects (least ring round)

-- the own answer counts at once
abbrev pub with_own_answer : Ring → Option ℕ → Round → Round
with_own_answer ring None round = round
with_own_answer ring (Some inst) round = with_answer ring ring.own inst round

-- the round that is asked next
abbrev pub next_round : Part → Round
next_round part = record { number = suc part.rounds.asked; last = part.kept.trim; answers = [] }

abbrev pub with_asked : Part → Part
with_asked part = with_rounds (record { asked = suc part.rounds.asked; current = None }) part

-- A new round: the replicas of the subscribed partitions are asked, by id.
abbrev pub asks : Ring → Link → Part → Option ℕ → Effects
asks ring link part own_safe =
    goes_on_round ring link (with_own_answer ring own_safe (next_round part))
    (with_frames (sends_each ring (by_id (replicas_of ring.subscribers)) (AskSafe ring.id (suc part.rounds.asked))) (no_effects (with_asked part)))

-- a new round where the coordinator leads; the own answer is given at a replica of a subscribed partition
unfoldable pub asks_round : Ring → Link → Part → Option ℕ → Effects
asks_round ring link part own_safe = if role_leads ring part.coordinator.role then asks ring link part own_safe else no_effects part

abbrev pub answers_in : Ring → Link → Part → NodeId → ℕ → ℕ → Option Round → Effects
answers_in ring link part from round inst None = no_effects part
answers_in ring link part from round inst (Some current) =
    if round == current.number then goes_on_round ring link (with_answer ring from inst current) (no_effects part) else no_effects part

-- Safe: an answer to the current round, also while the coordinator doesn't lead
unfoldable pub answers : Ring → Link → Part → NodeId → ℕ → ℕ → Effects
answers ring link part from round inst = answers_in ring link part from round inst part.rounds.current
