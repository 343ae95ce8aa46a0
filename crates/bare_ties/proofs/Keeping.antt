-- What a replica does as it begins an attempt leaves its journal, its checkpoints and its changes alone.
use Rattle.std.proofs.Common.{◌≡◌, ℕ, zero, suc, ◌+◌, ◌-◌, ◌^◌, ◌==◌, nat_lt, nat_le, if◌then◌else◌, Bool, true, false, List, [], ◌∷◌, length, Option, Some, None, refl, ap, ◌∙◌}
use Rattle.std.specs.List.{flat_map}
use Rattle.mrp_types.specs.declared.id.NodeId.{NodeId}
use Rattle.mrp_types.specs.declared.id.RingId.{RingId}
use Rattle.mrp_types.specs.declared.value.Value.{Value}
use Rattle.mrp_types.specs.declared.value.Value.TheVariants.{Skip, Batch}
use Rattle.mrp_config.specs.Config.{Config, partition_of}
use Rattle.mrp_config.specs.declared.tables.PartitionTable.{PartitionTable}
use Rattle.checkpoint.specs.Checkpoints.{Checkpoint, Checkpoints}
use Rattle.plain_model.specs.Replicas.{Replica, empty_replica}
use Rattle.plain_model.specs.StateBytes.{state_of}
use Rattle.plain_model.specs.Tuples.{first_tuple, instances}
use Rattle.frames.specs.declared.sent.Sent.{Sent}
use Rattle.vote_state.specs.declared.change.Change.{Change}
use Rattle.vote_journal.specs.Journal.{Journal, recorded}
use Rattle.protocol.specs.Lines.{Line, Begin, Chose, Restore, AttemptLimit}
use Rattle.protocol.specs.Node.{StepSoFar, Service, Stage, Recovering, Ready, Standing, Attempt, Choice, View, begun_with, finished, prints, sends_all, with_stage}
use Rattle.protocol.specs.Merging.{value_at_place, place_of, takes_place, merges_place, merges_stage, merges_service, merges_up_to, merges}
use Rattle.protocol.specs.Recovery.{epoch_of, own_tuple, others_of, lowers, restores, restores_read, installs_own, best_of, asks_part, gathers, chooses, chooses_best, chooses_if_quorum, asks_checkpoint, begins_next, begins}
use Rattle.protocol.specs.Opening.{view_of, begins_first, opened}

-- a step has gone on with these as they were
pub record Keeps (old new : StepSoFar) : Type 0 where
  pub journal : new.view.journal ≡ old.view.journal
  pub checkpoints : new.view.checkpoints ≡ old.view.checkpoints
  pub changes : new.changes ≡ old.changes

Keeps-refl : (a : StepSoFar) → Keeps a a
Keeps-refl a = record { journal = refl; checkpoints = refl; changes = refl }

Keeps-trans : {a b c : StepSoFar} → Keeps a b → Keeps b c → Keeps a c
Keeps-trans x y = record { journal = y.journal ∙ x.journal; checkpoints = y.checkpoints ∙ x.checkpoints; changes = y.changes ∙ x.changes }

prints_keep : (lines : List Line) (a : StepSoFar) → Keeps a (prints lines a)
prints_keep lines a = record { journal = refl; checkpoints = refl; changes = refl }

sends_keep : (frames : List Sent) (a : StepSoFar) → Keeps a (sends_all frames a)
sends_keep frames a = record { journal = refl; checkpoints = refl; changes = refl }

stage_keeps : (service : Service) (stage : Stage) (a : StepSoFar) → Keeps a (with_stage service stage a)
stage_keeps service stage a = record { journal = refl; checkpoints = refl; changes = refl }

lowers_keep : (tuple : List (RingId × ℕ)) (a : StepSoFar) → Keeps a (lowers tuple a)
lowers_keep tuple a = record { journal = refl; checkpoints = refl; changes = refl }

-- ---- the merge

takes_keep : (config : Config) (service : Service) (standing : Standing) (place : RingId × ℕ) (value : Value) (a : StepSoFar) → Keeps a (takes_place config service standing place value a)
takes_keep config service standing place Skip a = record { journal = refl; checkpoints = refl; changes = refl }
takes_keep config service standing place (Batch batch) a = record { journal = refl; checkpoints = refl; changes = refl }

merges_up : (most : ℕ) (config : Config) (a : StepSoFar) → Keeps a (merges_up_to most config a)
merges_up zero config a = Keeps-refl a
merges_up (suc most) config a = by_service a.view.service (λ b. merges_up most config b)
  where
    by_value : (service : Service) (standing : Standing) (place : RingId × ℕ) (v : Option Value) → ((b : StepSoFar) → Keeps b (merges_up_to most config b))
        → Keeps a (merges_place (merges_up_to most config) config service standing place v a)
    by_value service standing place None rest = Keeps-refl a
    by_value service standing place (Some value) rest = Keeps-trans (takes_keep config service standing place value a) (rest (takes_place config service standing place value a))

    by_stage : (service : Service) (stage : Stage) → ((b : StepSoFar) → Keeps b (merges_up_to most config b)) → Keeps a (merges_stage (merges_up_to most config) config service stage a)
    by_stage service (Recovering attempt) rest = Keeps-refl a
    by_stage service (Ready standing) rest = by_value service standing (place_of config standing) (value_at_place a.view (place_of config standing)) rest

    by_service : (service : Option Service) → ((b : StepSoFar) → Keeps b (merges_up_to most config b)) → Keeps a (merges_service (merges_up_to most config) config service a)
    by_service None rest = Keeps-refl a
    by_service (Some service) rest = by_stage service service.stage rest

pub merges_keep : (config : Config) (a : StepSoFar) → Keeps a (merges config a)
unfolding merges
merges_keep config a = merges_up (2 ^ 44 + 1) config a

-- ---- an attempt

pub restores_keep : (config : Config) (service : Service) (tuple : List (RingId × ℕ)) (replica : Replica) (a : StepSoFar) → Keeps a (restores config service tuple replica a)
unfolding restores
restores_keep config service tuple replica a =
    let printed : StepSoFar = prints (Restore a.view.id (instances tuple) ∷ []) a in
    let lowered : StepSoFar = lowers tuple printed in
    let stage : Stage = Ready (record { tuple = tuple; replica = replica; delivered = 0 }) in
    Keeps-trans (prints_keep (Restore a.view.id (instances tuple) ∷ []) a)
    (Keeps-trans (lowers_keep tuple printed)
    (Keeps-trans (stage_keeps service stage lowered) (merges_keep config (with_stage service stage lowered))))

read_keeps : (config : Config) (service : Service) (tuple : List (RingId × ℕ)) (o : Option Replica) (a : StepSoFar) → Keeps a (restores_read config service tuple o a)
read_keeps config service tuple None a = Keeps-refl a
read_keeps config service tuple (Some replica) a = restores_keep config service tuple replica a

installs_keep : (config : Config) (service : Service) (o : Option Checkpoint) (a : StepSoFar) → Keeps a (installs_own config service o a)
installs_keep config service None a = restores_keep config service (first_tuple service.partition.rings) (empty_replica service.partition) a
installs_keep config service (Some newest) a = read_keeps config service newest.tuple (state_of service.partition newest.state) a

gathers_keep : (config : Config) (service : Service) (attempt : Attempt) (choice : Choice) (a : StepSoFar) → Keeps a (gathers config service attempt choice a)
gathers_keep config service attempt choice a = go (choice.from.0 == a.view.id.0)
  where
    go : (b : Bool) → Keeps a (if b then installs_own config service a.view.checkpoints.newest (with_stage service (Recovering (record attempt { choice = Some choice })) a)
        else sends_all (asks_part a.view attempt choice) (with_stage service (Recovering (record attempt { choice = Some choice })) a))
    go true =
        let now : StepSoFar = with_stage service (Recovering (record attempt { choice = Some choice })) a in
        Keeps-trans (stage_keeps service (Recovering (record attempt { choice = Some choice })) a) (installs_keep config service a.view.checkpoints.newest now)
    go false =
        let now : StepSoFar = with_stage service (Recovering (record attempt { choice = Some choice })) a in
        Keeps-trans (stage_keeps service (Recovering (record attempt { choice = Some choice })) a) (sends_keep (asks_part a.view attempt choice) now)

pub chooses_keep : (config : Config) (service : Service) (attempt : Attempt) (best : NodeId × List (RingId × ℕ)) (a : StepSoFar) → Keeps a (chooses config service attempt best a)
unfolding chooses
chooses_keep config service attempt best a =
    let line : List Line = Chose a.view.id (epoch_of a.view) attempt.number (instances best.1) best.0 ∷ [] in
    Keeps-trans (prints_keep line a) (gathers_keep config service attempt (record { tuple = best.1; from = best.0; bytes = [] }) (prints line a))

best_keeps : (config : Config) (service : Service) (attempt : Attempt) (answers : List (NodeId × List (RingId × ℕ))) (a : StepSoFar) → Keeps a (chooses_best config service attempt answers a)
best_keeps config service attempt [] a = stage_keeps service (Recovering attempt) a
best_keeps config service attempt (answer ∷ answers) a = chooses_keep config service attempt (best_of a.view.id answer answers) a

pub quorum_keeps : (config : Config) (service : Service) (attempt : Attempt) (a : StepSoFar) → Keeps a (chooses_if_quorum config service attempt a)
quorum_keeps config service attempt a = go (nat_le service.partition.recovery_quorum (length attempt.answers))
  where
    go : (b : Bool) → Keeps a (if b then chooses_best config service attempt attempt.answers a else with_stage service (Recovering attempt) a)
    go true = best_keeps config service attempt attempt.answers a
    go false = stage_keeps service (Recovering attempt) a

pub begins_keep : (config : Config) (service : Service) (a : StepSoFar) → Keeps a (begins config service a)
unfolding begins
begins_keep config service a = go (nat_lt service.attempts (2 ^ 32 - 1))
  where
    go : (b : Bool) → Keeps a (if b then begins_next config service a else prints (AttemptLimit a.view.id ∷ []) a)
    go false = prints_keep (AttemptLimit a.view.id ∷ []) a
    go true =
        let number : ℕ = service.attempts + 1 in
        let line : List Line = Begin a.view.id (epoch_of a.view) number (instances (own_tuple a.view service)) ∷ [] in
        let asked : List Sent = flat_map (asks_checkpoint a.view number) (others_of a.view.id service.partition) in
        Keeps-trans (prints_keep line a)
        (Keeps-trans (sends_keep asked (prints line a))
        (quorum_keeps config (record service { attempts = number }) (record { number = number; ticks = 0; answers = (a.view.id, own_tuple a.view service) ∷ []; choice = None }) (sends_all asked (prints line a))))

-- ---- an opening

first_keeps : (config : Config) (partition : Option PartitionTable) (a : StepSoFar) → Keeps a (begins_first config partition a)
first_keeps config None a = Keeps-refl a
first_keeps config (Some partition) a =
    begins_keep config (record { partition = partition; attempts = 0; stage = Recovering (record { number = 0; ticks = 0; answers = []; choice = None }) }) a

-- the node goes on with the journal and the checkpoints that it has read
pub record IsOpened (journal : Journal) (checkpoints : Checkpoints) (view : View) : Type 0 where
  pub journals : view.journal ≡ journal
  pub newest : view.checkpoints ≡ checkpoints

pub opened_keeps : (config : Config) (id : NodeId) (journal : Journal) (checkpoints : Checkpoints) → IsOpened journal checkpoints (opened config id journal checkpoints).view
unfolding opened
opened_keeps config id journal checkpoints =
    let first : StepSoFar = begun_with (view_of config id journal checkpoints) in
    by (begins_first config (partition_of config.partitions id) first) (first_keeps config (partition_of config.partitions id) first)
  where
    by : (a : StepSoFar) → Keeps (begun_with (view_of config id journal checkpoints)) a → IsOpened journal checkpoints (finished a).view
    by a keeps = record { journals = none a.changes keeps.changes ∙ keeps.journal; newest = keeps.checkpoints }
      where
        none : (changes : List Change) → changes ≡ [] → recorded a.view.journal changes ≡ a.view.journal
        none changes empty = ap (λ (cs : List Change). recorded a.view.journal cs) empty
