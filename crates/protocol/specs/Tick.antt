-- What a node does at a tick: the first of three rules that applies.
use Rattle.std.specs.Prelude.{ℕ, ◌+◌, ◌-◌, ◌*◌, ◌/◌, ◌%◌, ◌^◌, ◌==◌, nat_lt, nat_le, List, [], ◌∷◌, length, filter, Option, Some, None, Bool, not, if◌then◌else◌, ◌&&◌, slice_get}
use Rattle.std.specs.List.{flat_map, list_any}
use Rattle.mrp_types.specs.declared.id.NodeId.{NodeId}
use Rattle.mrp_types.specs.declared.id.RingId.{RingId}
use Rattle.mrp_config.specs.Config.{Config, has_node}
use Rattle.mrp_config.specs.declared.tables.NodeTable.{NodeTable}
use Rattle.frames.specs.declared.body.Body.TheVariants.{Fetch, Hello}
use Rattle.ring_link.specs.Silence.{with_tick}
use Rattle.vote_journal.specs.Journal.{compacted_journal}
use Rattle.plain_model.specs.StateBytes.{state_bytes}
use Rattle.plain_model.specs.Tuples.{instances}
use Rattle.checkpoint.specs.Checkpoints.{saved}
use Rattle.protocol.specs.Lines.{Saved}
use Rattle.protocol.specs.Parts.{Ring, Part, Effects}
use Rattle.protocol.specs.Rings.{is_acceptor, sends, sends_to}
use Rattle.protocol.specs.Ballots.{is_active}
use Rattle.protocol.specs.Leading.{starts_on_tick, resends, levels}
use Rattle.protocol.specs.Trimming.{asks_round}
use Rattle.protocol.specs.Node.{StepSoFar, View, RingPart, Service, Stage, Recovering, Ready, Standing, Stepped, Saves, Compacts, begun_with, finished, part_at, sends_all}
use Rattle.protocol.specs.Merging.{place_of}
use Rattle.protocol.specs.Recovery.{recovery_ticks, safe_of}
use Rattle.protocol.specs.Learning.{applies_effects}
use Rattle.protocol.specs.Bases.{rebases}

-- ---- saving

abbrev pub saves : View → Service → Standing → List ℕ → Stepped
saves view service standing state = record {
  view = record view { checkpoints = saved view.checkpoints standing.tuple state; service = Some (record service { stage = Ready (record standing { delivered = 0 }) }) };
  work = Saves standing.tuple state;
  frames = [];
  lines = Saved view.id (instances standing.tuple) ∷ [];
}

-- as many deliver lines as the deployment asks for, and a generation is left
abbrev pub is_due_to_save : Config → View → Standing → Bool
is_due_to_save config view standing = nat_lt view.checkpoints.generation (2 ^ 64 - 1) && nat_le config.checkpoint standing.delivered

abbrev pub saves_stage : Config → View → Service → Stage → Option Stepped
saves_stage config view service (Recovering attempt) = None
saves_stage config view service (Ready standing) =
    if is_due_to_save config view standing then Some (saves view service standing (state_bytes standing.replica)) else None

-- Rule 1: a ready replica that has delivered enough since its last restore or saved line saves its state under its tuple.
abbrev pub saves_first : Config → View → Option Service → Option Stepped
saves_first config view None = None
saves_first config view (Some service) = saves_stage config view service service.stage

-- ---- compacting

-- the journal's end is at least half of its limit and at least twice its end after its first record, and a generation is left
abbrev pub is_due_to_compact : Config → View → Bool
is_due_to_compact config view =
    nat_lt view.journal.log.generation (2 ^ 64 - 1) && (nat_le config.journal (2 * view.journal.log.end) && nat_le (2 * view.journal.log.base_end) view.journal.log.end)

-- Rule 2: such a journal is compacted.
abbrev pub compacts : View → Stepped
compacts view = record { view = record view { journal = compacted_journal view.journal }; work = Compacts; frames = []; lines = [] }

-- ---- the rings of a tick

-- a rule at an acceptor's part, as the rules before it left it
abbrev pub rules_at : Config → (Ring → Part → View → Effects) → Option RingPart → StepSoFar → StepSoFar
rules_at config rule None a = a
rules_at config rule (Some p) a = if is_acceptor p.ring then applies_effects config p.ring (rule p.ring p.part a.view) a else a

abbrev pub rules_for : Config → RingId → (Ring → Part → View → Effects) → StepSoFar → StepSoFar
rules_for config ring rule a = rules_at config rule (part_at a.view ring) a

-- An Idle coordinator may start a ballot; one that was Active when the tick came sends again on a resend beat; one that leads
-- asks a round of trimming where the beat says so; then the leveller takes its tick.
abbrev pub ticks_ring : Config → Bool → Bool → Bool → RingId → StepSoFar → StepSoFar
ticks_ring config active again trims ring a =
    rules_for config ring (λ r part view. levels r view.link part)
    ((if trims then rules_for config ring (λ r part view. asks_round r view.link part (safe_of view ring view.service)) else (λ b. b))
    ((if again && active then rules_for config ring (λ r part view. resends r view.link part) else (λ b. b))
    (rules_for config ring (λ r part view. starts_on_tick r view.link part) a)))

-- the rings by id, each by what its coordinator was when the tick came
abbrev pub ticks_rings : Config → Bool → Bool → List RingPart → StepSoFar → StepSoFar
ticks_rings config again trims [] a = a
ticks_rings config again trims (p ∷ parts) a = ticks_rings config again trims parts (ticks_ring config (is_active p.part.coordinator) again trims p.ring.id a)

-- ---- asking for what is missing

-- the acceptor whose turn it is, or the next one where that is the node itself
abbrev pub asked_at : NodeId → List NodeId → ℕ → Option NodeId → Option NodeId
asked_at own acceptors position None = None
asked_at own acceptors position (Some node) = if node.0 == own.0 then slice_get acceptors ((position + 1) % length acceptors) else Some node

abbrev pub turn_of : NodeId → List NodeId → ℕ → Option NodeId
turn_of own acceptors beat = asked_at own acceptors (beat % length acceptors) (slice_get acceptors (beat % length acceptors))

abbrev pub fetches_at : ℕ → RingId × ℕ → Option RingPart → StepSoFar → StepSoFar
fetches_at turn place None a = a
fetches_at turn place (Some p) a = sends_all (sends p.ring (turn_of a.view.id p.ring.acceptors turn) (Fetch place.0 place.1)) a

abbrev pub fetches_place : ℕ → RingId × ℕ → StepSoFar → StepSoFar
fetches_place turn place a = fetches_at turn place (part_at a.view place.0) a

abbrev pub fetches_stage : Config → ℕ → Stage → StepSoFar → StepSoFar
fetches_stage config turn (Recovering attempt) a = a
fetches_stage config turn (Ready standing) a = fetches_place turn (place_of config standing) a

-- A ready replica asks for the place that its merge waits on, an acceptor after the other.
abbrev pub fetches_missing : Config → ℕ → Option Service → StepSoFar → StepSoFar
fetches_missing config turn None a = a
fetches_missing config turn (Some service) a = fetches_stage config turn service.stage a

-- ---- greeting

abbrev pub is_member_of : NodeId → RingPart → Bool
is_member_of node p = has_node p.ring.members node.0

-- whether another node shares a ring
abbrev pub shares_ring : View → NodeTable → Bool
shares_ring view node = not (node.id.0 == view.id.0) && list_any (is_member_of node.id) view.parts

-- the nodes that share a ring are told that this one is there, by id
abbrev pub greets : Config → StepSoFar → StepSoFar
greets config a = sends_all (flat_map (λ (node : NodeTable). sends_to a.view.id node.id Hello) (filter (shares_ring a.view) config.nodes)) a

-- ---- the third rule

abbrev pub recovery_ticks_at : Config → Bool → Option Service → StepSoFar → StepSoFar
recovery_ticks_at config again None a = a
recovery_ticks_at config again (Some service) a = recovery_ticks config again service service.stage a

-- what a resend beat asks besides
abbrev pub asks_on_beat : Config → ℕ → StepSoFar → StepSoFar
asks_on_beat config turn a = greets config (fetches_missing config turn a.view.service a)

abbrev pub beats_with : Config → List RingPart → ℕ → Bool → StepSoFar → StepSoFar
beats_with config parts beat again a =
    (if again then asks_on_beat config (beat / config.resend) else (λ b. b))
    (ticks_rings config again (beat % config.trim == 0) parts (recovery_ticks_at config again a.view.service a))

-- Rule 3: the beat rises and each other node grows quieter; recovery ticks, then the rings by id; a resend beat asks for what
-- is missing and greets.
abbrev pub beats : Config → View → StepSoFar
beats config view =
    beats_with config view.parts (view.beat + 1) ((view.beat + 1) % config.resend == 0)
    (begun_with (record view { beat = view.beat + 1; link = with_tick view.link }))

-- ---- a tick

abbrev pub or_compacts : Config → View → Option Stepped → Stepped
or_compacts config view (Some stepped) = stepped
or_compacts config view None = if is_due_to_compact config view then compacts view else finished (rebases (beats config view))

-- the first rule that applies
unfoldable pub ticks : Config → View → Stepped
ticks config view = or_compacts config view (saves_first config view view.service)
