-- How a replica becomes ready: attempt after attempt it asks the others for the newest checkpoint of a quorum, chooses the
-- greatest, gathers its bytes part by part, and goes on from there.
use Rattle.std.specs.Prelude.{ℕ, ◌+◌, ◌-◌, ◌^◌, List, [], ◌∷◌, ◌++◌, length, map, filter, Option, Some, None, Bool, not, if◌then◌else◌, ◌==◌, nat_lt, nat_le, ◌&&◌, ◌||◌, min}
use Rattle.std.specs.List.{flat_map}
use Rattle.std.specs.Option.{unwrap_or}
use Rattle.mrp_types.specs.declared.id.NodeId.{NodeId}
use Rattle.mrp_types.specs.declared.id.RingId.{RingId}
use Rattle.mrp_types.specs.declared.id.TheConstants.{END}
use Rattle.mrp_config.specs.Config.{Config, has_node, has_ring}
use Rattle.mrp_config.specs.declared.tables.PartitionTable.{PartitionTable}
use Rattle.frames.specs.declared.sent.Sent.{Sent}
use Rattle.frames.specs.declared.body.Body.{Body}
use Rattle.frames.specs.declared.body.Body.TheVariants.{AskCheckpoint, HaveCheckpoint, AskPart, Part as PartFrame, Gone as GoneFrame}
use Rattle.checkpoint.specs.Checkpoints.{Checkpoint, PartAnswer, Part as PartOf, Gone, Unknown, part_of, is_same_tuple, is_after}
use Rattle.plain_model.specs.Replicas.{Replica, empty_replica}
use Rattle.plain_model.specs.StateBytes.{state_of}
use Rattle.plain_model.specs.Tuples.{round_sizes, first_tuple, is_tuple_of, entry_at, instances}
use Rattle.protocol.specs.Lines.{Begin, Chose, Restore, Refuse, AttemptLimit}
use Rattle.protocol.specs.Rings.{by_id, sends_to}
use Rattle.protocol.specs.Learner.{lowered}
use Rattle.protocol.specs.Trimming.{has_answered}
use Rattle.protocol.specs.Node.{StepSoFar, View, RingPart, Service, Stage, Recovering, Ready, Attempt, Choice, with_stage, prints, sends_all}
use Rattle.protocol.specs.Merging.{merges}

-- ---- what is known of the own node

abbrev pub epoch_of : View → ℕ
epoch_of view = view.journal.state.epoch

abbrev pub tuple_of_newest : PartitionTable → Option Checkpoint → List (RingId × ℕ)
tuple_of_newest partition None = first_tuple partition.rings
tuple_of_newest partition (Some newest) = newest.tuple

-- the tuple of the newest own checkpoint, or of zeros without one
abbrev pub own_tuple : View → Service → List (RingId × ℕ)
own_tuple view service = tuple_of_newest service.partition view.checkpoints.newest

abbrev pub is_other : NodeId → NodeId → Bool
is_other own node = not (node.0 == own.0)

-- the other replicas of the partition, by id
abbrev pub others_of : NodeId → PartitionTable → List NodeId
others_of own partition = by_id (filter (is_other own) partition.replicas)

-- ---- restoring

abbrev pub with_lowered : List (RingId × ℕ) → RingPart → RingPart
with_lowered tuple p = record p { part = record p.part { learner = lowered (unwrap_or (entry_at p.ring.id tuple) p.part.learner.base) p.part.learner } }

-- the base of each of the tuple's rings falls to its entry where it was above
abbrev pub lowers : List (RingId × ℕ) → StepSoFar → StepSoFar
lowers tuple a = record a { view = record a.view { parts = map (with_lowered tuple) a.view.parts } }

-- The replica is ready at the tuple, and its merge runs.
unfoldable pub restores : Config → Service → List (RingId × ℕ) → Replica → StepSoFar → StepSoFar
restores config service tuple replica a =
    merges config
    (with_stage service (Ready (record { tuple = tuple; replica = replica; delivered = 0 }))
    (lowers tuple (prints (Restore a.view.id (instances tuple) ∷ []) a)))

abbrev pub restores_read : Config → Service → List (RingId × ℕ) → Option Replica → StepSoFar → StepSoFar
restores_read config service tuple None a = a
restores_read config service tuple (Some replica) a = restores config service tuple replica a

-- The own checkpoint is installed; the state of zeros is empty. Its bytes are a state: an opening has judged those that it found,
-- and what was saved since is the written form of this node's own state. A valid state is read back as it was written, and
-- what a replica keeps in a run is valid. Where the bytes were no state, nothing would happen here.
abbrev pub installs_own : Config → Service → Option Checkpoint → StepSoFar → StepSoFar
installs_own config service None a = restores config service (first_tuple service.partition.rings) (empty_replica service.partition) a
installs_own config service (Some newest) a = restores_read config service newest.tuple (state_of service.partition newest.state) a

-- ---- choosing

-- whether an answer is to be chosen before the best so far: its tuple is after that one's, or it is the same and the node
-- is the own one or has the lesser id
abbrev pub is_better : NodeId → NodeId × List (RingId × ℕ) → NodeId × List (RingId × ℕ) → Bool
is_better own best answer =
    if is_same_tuple best.1 answer.1 then is_other own best.0 && (answer.0.0 == own.0 || nat_lt answer.0.0 best.0.0)
    else is_after best.1 answer.1

abbrev pub best_of : NodeId → NodeId × List (RingId × ℕ) → List (NodeId × List (RingId × ℕ)) → NodeId × List (RingId × ℕ)
best_of own best [] = best
best_of own best (answer ∷ answers) = best_of own (if is_better own best answer then answer else best) answers

-- asks the chosen node for the part from the missing offset on
abbrev pub asks_part : View → Attempt → Choice → List Sent
asks_part view attempt choice = sends_to view.id choice.from (AskPart (epoch_of view) attempt.number choice.tuple (length choice.bytes))

-- the own checkpoint is installed; of another node the first part is asked for
abbrev pub gathers : Config → Service → Attempt → Choice → StepSoFar → StepSoFar
gathers config service attempt choice a =
    if choice.from.0 == a.view.id.0 then installs_own config service a.view.checkpoints.newest (with_stage service (Recovering (record attempt { choice = Some choice })) a)
    else sends_all (asks_part a.view attempt choice) (with_stage service (Recovering (record attempt { choice = Some choice })) a)

-- a choice is made or changed: its line; the own checkpoint is installed at once, another is asked for its first part
unfoldable pub chooses : Config → Service → Attempt → NodeId × List (RingId × ℕ) → StepSoFar → StepSoFar
chooses config service attempt best a =
    gathers config service attempt (record { tuple = best.1; from = best.0; bytes = [] })
    (prints (Chose a.view.id (epoch_of a.view) attempt.number (instances best.1) best.0 ∷ []) a)

abbrev pub chooses_best : Config → Service → Attempt → List (NodeId × List (RingId × ℕ)) → StepSoFar → StepSoFar
chooses_best config service attempt [] a = with_stage service (Recovering attempt) a
chooses_best config service attempt (answer ∷ answers) a = chooses config service attempt (best_of a.view.id answer answers) a

-- as soon as there are as many answers as the partition's recovery quorum, the greatest tuple is chosen
abbrev pub chooses_if_quorum : Config → Service → Attempt → StepSoFar → StepSoFar
chooses_if_quorum config service attempt a =
    if nat_le service.partition.recovery_quorum (length attempt.answers) then chooses_best config service attempt attempt.answers a
    else with_stage service (Recovering attempt) a

-- ---- attempts

abbrev pub asks_checkpoint : View → ℕ → NodeId → List Sent
asks_checkpoint view number node = sends_to view.id node (AskCheckpoint (epoch_of view) number)

-- an attempt with the next number: its line, the asks, and the own answer
abbrev pub begins_next : Config → Service → StepSoFar → StepSoFar
begins_next config service a =
    let number = service.attempts + 1 in
    let own = own_tuple a.view service in
    chooses_if_quorum config (record service { attempts = number })
    (record { number = number; ticks = 0; answers = (a.view.id, own) ∷ []; choice = None })
    (sends_all (flat_map (asks_checkpoint a.view number) (others_of a.view.id service.partition))
    (prints (Begin a.view.id (epoch_of a.view) number (instances own) ∷ []) a))

-- A new attempt begins; where its number would pass four bytes the limit is printed, and the node stays as it was.
unfoldable pub begins : Config → Service → StepSoFar → StepSoFar
begins config service a =
    if nat_lt service.attempts (2 ^ 32 - 1) then begins_next config service a
    else prints (AttemptLimit a.view.id ∷ []) a

-- ---- answers of others

-- it names this epoch and this attempt
abbrev pub is_of : View → Attempt → ℕ → ℕ → Bool
is_of view attempt epoch number = (epoch == epoch_of view) && (number == attempt.number)

abbrev pub takes_answer : Config → Service → Attempt → Option Choice → NodeId → List (RingId × ℕ) → StepSoFar → StepSoFar
takes_answer config service attempt (Some choice) from tuple a = a
takes_answer config service attempt None from tuple a =
    chooses_if_quorum config service (record attempt { answers = attempt.answers ++ (from, tuple) ∷ [] }) a

-- An answer counts where it names this epoch and attempt, comes from a replica of the partition and is its first. After the
-- choice it changes nothing.
unfoldable pub answered_by : Config → Service → Attempt → NodeId → ℕ → ℕ → List (RingId × ℕ) → StepSoFar → StepSoFar
answered_by config service attempt from epoch number tuple a =
    if is_of a.view attempt epoch number && (has_node service.partition.replicas from.0
    && (not (has_answered from attempt.answers) && is_tuple_of (round_sizes config) service.partition.rings tuple))
    then takes_answer config service attempt attempt.choice from tuple a else a

-- ---- parts

-- it comes from the chosen node and names the chosen tuple
abbrev pub is_of_choice : Choice → NodeId → List (RingId × ℕ) → Bool
is_of_choice choice from tuple = (from.0 == choice.from.0) && is_same_tuple tuple choice.tuple

abbrev pub restores_or_begins : Config → Service → List (RingId × ℕ) → Option Replica → StepSoFar → StepSoFar
restores_or_begins config service tuple None a = begins config service a
restores_or_begins config service tuple (Some replica) a = restores config service tuple replica a

-- the choice with more bytes: all are there where the part ends at its total; else the next part is asked for
abbrev pub with_more : Config → Service → Attempt → Choice → ℕ → StepSoFar → StepSoFar
with_more config service attempt choice total a =
    if length choice.bytes == total then restores_or_begins config service choice.tuple (state_of service.partition choice.bytes) a
    else sends_all (asks_part a.view attempt choice) (with_stage service (Recovering (record attempt { choice = Some choice })) a)

abbrev pub part_for : Config → Service → Attempt → Option Choice → NodeId → ℕ → ℕ → List (RingId × ℕ) → ℕ → ℕ → List ℕ → StepSoFar → StepSoFar
part_for config service attempt None from epoch number tuple offset total bytes a = a
part_for config service attempt (Some choice) from epoch number tuple offset total bytes a =
    if is_of a.view attempt epoch number && (is_of_choice choice from tuple && (offset == length choice.bytes))
    then with_more config service attempt (record choice { bytes = choice.bytes ++ bytes }) total a else a

-- A part counts where it names this epoch and attempt and the chosen tuple, comes from the chosen node, and begins at the
-- missing offset. Bytes that are no state begin a new attempt.
unfoldable pub takes_part : Config → Service → Attempt → NodeId → ℕ → ℕ → List (RingId × ℕ) → ℕ → ℕ → List ℕ → StepSoFar → StepSoFar
takes_part config service attempt from epoch number tuple offset total bytes a =
    part_for config service attempt attempt.choice from epoch number tuple offset total bytes a

abbrev pub gone_for : Config → Service → Attempt → Option Choice → NodeId → ℕ → ℕ → List (RingId × ℕ) → List (RingId × ℕ) → StepSoFar → StepSoFar
gone_for config service attempt None from epoch number asked newer a = a
gone_for config service attempt (Some choice) from epoch number asked newer a =
    if is_of a.view attempt epoch number && (is_of_choice choice from asked
    && (is_tuple_of (round_sizes config) service.partition.rings newer && is_after choice.tuple newer))
    then chooses config service attempt (choice.from, newer) a else a

-- The chosen checkpoint is gone: the newer one of the same node is the choice, from its first byte on.
unfoldable pub takes_gone : Config → Service → Attempt → NodeId → ℕ → ℕ → List (RingId × ℕ) → List (RingId × ℕ) → StepSoFar → StepSoFar
takes_gone config service attempt from epoch number asked newer a = gone_for config service attempt attempt.choice from epoch number asked newer a

-- ---- what is asked of this node

-- any replica answers with the tuple of its newest checkpoint, ready or not
abbrev pub tells_checkpoint : Service → NodeId → ℕ → ℕ → StepSoFar → StepSoFar
tells_checkpoint service from epoch number a = sends_all (sends_to a.view.id from (HaveCheckpoint epoch number (own_tuple a.view service))) a

abbrev pub answer_part : ℕ → ℕ → List (RingId × ℕ) → ℕ → PartAnswer → List Body
answer_part epoch number tuple offset (PartOf total bytes) = PartFrame epoch number tuple offset total bytes ∷ []
answer_part epoch number tuple offset (Gone newer) = GoneFrame epoch number tuple newer ∷ []
answer_part epoch number tuple offset Unknown = []

-- and with a part of it, or that it is gone; it sends nothing where neither can be said, or the tuple is none of the partition
abbrev pub tells_part : Config → Service → NodeId → ℕ → ℕ → List (RingId × ℕ) → ℕ → StepSoFar → StepSoFar
tells_part config service from epoch number tuple offset a =
    if is_tuple_of (round_sizes config) service.partition.rings tuple
    then sends_all (flat_map (sends_to a.view.id from) (answer_part epoch number tuple offset (part_of a.view.checkpoints tuple offset))) a
    else a

-- ---- what its newest checkpoint makes safe

-- what of a ring its newest checkpoint makes safe: the entry, 0 without one, and less than the end in any case
abbrev pub safe_in : RingId → Option Checkpoint → ℕ
safe_in ring None = 0
safe_in ring (Some newest) = min (unwrap_or (entry_at ring newest.tuple) 0) (END - 1)

abbrev pub safe_of : View → RingId → Option Service → Option ℕ
safe_of view ring None = None
safe_of view ring (Some service) = if has_ring service.partition.rings ring.0 then Some (safe_in ring view.checkpoints.newest) else None

-- ---- ticks of an attempt

-- it asks who hasn't answered, or for the missing part
abbrev pub asks_missing : Service → Attempt → Option Choice → View → List Sent
asks_missing service attempt None view =
    flat_map (asks_checkpoint view attempt.number) (filter (λ node. not (has_answered node attempt.answers)) (others_of view.id service.partition))
asks_missing service attempt (Some choice) view = asks_part view attempt choice

-- the attempt ends: with too few answers that is printed, and a new one begins
abbrev pub ends_attempt : Config → Service → Attempt → StepSoFar → StepSoFar
ends_attempt config service attempt a =
    if nat_lt (length attempt.answers) service.partition.recovery_quorum
    then begins config service (prints (Refuse a.view.id (epoch_of a.view) attempt.number (length attempt.answers) service.partition.recovery_quorum ∷ []) a)
    else begins config service a

abbrev pub ticks_attempt : Config → Bool → Service → Attempt → StepSoFar → StepSoFar
ticks_attempt config again service attempt a =
    if attempt.ticks == config.attempt then ends_attempt config service attempt (with_stage service (Recovering attempt) a)
    else sends_all (if again then asks_missing service attempt attempt.choice a.view else []) (with_stage service (Recovering attempt) a)

-- One more tick of an attempt that isn't restored; the last one ends it, and on a resend beat it asks again. The tick counts
-- in each case: where no number is left for the next attempt, this one has ended once, and goes on asking.
abbrev pub recovery_ticks : Config → Bool → Service → Stage → StepSoFar → StepSoFar
recovery_ticks config again service (Ready standing) a = a
recovery_ticks config again service (Recovering attempt) a = ticks_attempt config again service (record attempt { ticks = attempt.ticks + 1 }) a
