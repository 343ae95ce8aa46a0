-- Recovery, told trims and what a replica is asked touch no ring, but for the bases of learners, which fall where a replica goes on
-- from an older tuple.
use Rattle.std.proofs.Common.{◌≡◌, ℕ, ◌+◌, ◌-◌, ◌<◌, ◌^◌, Bool, true, false, ◌&&◌, ◌||◌, List, [], ◌∷◌, ◌++◌, length, map, min, Option, Some, None, refl, arith}
use Rattle.std.specs.Prelude.{◌==◌, nat_lt, nat_le, not, if◌then◌else◌, filter}
use Rattle.std.specs.List.{AllByRecursion, flat_map}
use Rattle.mrp_types.specs.declared.id.NodeId.{NodeId}
use Rattle.mrp_types.specs.declared.id.RingId.{RingId}
use Rattle.mrp_types.specs.declared.id.Party.TheVariants.{Node}
use Rattle.mrp_types.specs.declared.id.TheConstants.{END}
use Rattle.mrp_config.specs.Config.{Config, has_node, has_ring}
use Rattle.frames.specs.declared.body.Body.{Body}
use Rattle.frames.specs.declared.body.Body.TheVariants as body
use Rattle.frames.specs.declared.sent.Sent.{Sent}
use Rattle.checkpoint.specs.Checkpoints.{Checkpoint, PartAnswer, Part as PartOf, Gone, Unknown, part_of, is_after}
use Rattle.plain_model.specs.Replicas.{Replica, empty_replica}
use Rattle.plain_model.specs.StateBytes.{state_of}
use Rattle.plain_model.specs.Tuples.{round_sizes, first_tuple, is_tuple_of, instances, entry_at}
use Rattle.std.specs.Option.{unwrap_or}
use Rattle.protocol.specs.Lines.{Line, Begin, Chose, Restore, Refuse, AttemptLimit}
use Rattle.protocol.specs.Rings.{is_beyond, sends_to}
use Rattle.protocol.specs.Trimming.{has_answered}
use Rattle.protocol.specs.Node.{StepSoFar, View, RingPart, Service, Stage, Recovering, Ready, Attempt, Choice, with_stage, prints, sends_all}
use Rattle.protocol.specs.Merging.{place_of}
use Rattle.protocol.specs.Recovery.{epoch_of, own_tuple, others_of, with_lowered, lowers, restores, restores_read, installs_own, best_of, asks_part, gathers, chooses, chooses_best, chooses_if_quorum, asks_checkpoint, begins_next, begins, is_of, takes_answer, answered_by, is_of_choice, restores_or_begins, with_more, part_for, takes_part, gone_for, takes_gone, tells_checkpoint, answer_part, tells_part, asks_missing, ends_attempt, ticks_attempt, recovery_ticks, safe_in, safe_of}
use Rattle.protocol.specs.Step.{waits_below, begins_if_waits_below, after_trim, recovers_if_trimmed, tells_safe, at_service, at_attempt, recovering}
use Rattle.protocol.specs.Tick.{recovery_ticks_at}
use Rattle.beside_rings.specs.Beside.{IsQuiet, IsQuietSent, IsNoLearn, AreSame, Untouched}
use Rattle.beside_rings.proofs.Following.{Follows-refl, Untouched-refl, Untouched-trans, untouched_prints, untouched_sends, untouched_stage}
use Rattle.beside_rings.proofs.Merge.{merges_untouched}
use Rattle.quorums.proofs.Each.{appended}

-- ---- words

pub quiet_to : (own to : NodeId) (b : Body) → IsQuiet b → AllByRecursion IsQuietSent (sends_to own to b)
quiet_to own to b quiet = go (to.0 == own.0 || is_beyond b)
  where
    go : (t : Bool) → AllByRecursion IsQuietSent (if t then [] else (record { to = Node to; frame = record { from = Node own; body = b } }) ∷ [])
    go true = tt
    go false = (quiet, tt)

pub quiet_all : {T : Type 0} (h : T → List Sent) → ((x : T) → AllByRecursion IsQuietSent (h x)) → (xs : List T) → AllByRecursion IsQuietSent (flat_map h xs)
quiet_all h quiet [] = tt
quiet_all h quiet (x ∷ xs) = appended IsQuietSent (h x) (flat_map h xs) (quiet x) (quiet_all h quiet xs)

lowered_same : (tuple : List (RingId × ℕ)) (parts : List RingPart) → AreSame parts (map (with_lowered tuple) parts)
lowered_same tuple [] = tt
lowered_same tuple (p ∷ parts) = (record { ring = refl; kept = refl; coordinator = refl; held = refl; rounds = refl }, lowered_same tuple parts)

untouched_lowers : (tuple : List (RingId × ℕ)) (a : StepSoFar) → Untouched a (lowers tuple a)
untouched_lowers tuple a = record {
  id = refl;
  journal = refl;
  parts = lowered_same tuple a.view.parts;
  changes = refl;
  frames = Follows-refl IsQuietSent a.frames;
  replies = Follows-refl IsQuietSent a.replies;
  lines = Follows-refl IsNoLearn a.lines;
}

-- ---- restoring and choosing

untouched_restores : (config : Config) (service : Service) (tuple : List (RingId × ℕ)) (replica : Replica) (a : StepSoFar) → Untouched a (restores config service tuple replica a)
unfolding restores
untouched_restores config service tuple replica a =
    let printed : StepSoFar = prints (Restore a.view.id (instances tuple) ∷ []) a in
    let lowered : StepSoFar = lowers tuple printed in
    let ready : StepSoFar = with_stage service (Ready (record { tuple = tuple; replica = replica; delivered = 0 })) lowered in
    Untouched-trans (untouched_prints (Restore a.view.id (instances tuple) ∷ []) (tt, tt) a)
    (Untouched-trans (untouched_lowers tuple printed)
    (Untouched-trans (untouched_stage service (Ready (record { tuple = tuple; replica = replica; delivered = 0 })) lowered) (merges_untouched config ready)))

untouched_read : (config : Config) (service : Service) (tuple : List (RingId × ℕ)) (o : Option Replica) (a : StepSoFar) → Untouched a (restores_read config service tuple o a)
untouched_read config service tuple None a = Untouched-refl a
untouched_read config service tuple (Some replica) a = untouched_restores config service tuple replica a

untouched_installs : (config : Config) (service : Service) (o : Option Checkpoint) (a : StepSoFar) → Untouched a (installs_own config service o a)
untouched_installs config service None a = untouched_restores config service (first_tuple service.partition.rings) (empty_replica service.partition) a
untouched_installs config service (Some newest) a = untouched_read config service newest.tuple (state_of service.partition newest.state) a

quiet_asks_part : (view : View) (attempt : Attempt) (choice : Choice) → AllByRecursion IsQuietSent (asks_part view attempt choice)
quiet_asks_part view attempt choice = quiet_to view.id choice.from (body.AskPart (epoch_of view) attempt.number choice.tuple (length choice.bytes)) tt

untouched_gathers : (config : Config) (service : Service) (attempt : Attempt) (choice : Choice) (a : StepSoFar) → Untouched a (gathers config service attempt choice a)
untouched_gathers config service attempt choice a = go (choice.from.0 == a.view.id.0)
  where
    stage : Stage
    stage = Recovering (record attempt { choice = Some choice })

    go : (b : Bool) → Untouched a (if b then installs_own config service a.view.checkpoints.newest (with_stage service (Recovering (record attempt { choice = Some choice })) a)
        else sends_all (asks_part a.view attempt choice) (with_stage service (Recovering (record attempt { choice = Some choice })) a))
    go true =
        let now : StepSoFar = with_stage service (Recovering (record attempt { choice = Some choice })) a in
        Untouched-trans (untouched_stage service (Recovering (record attempt { choice = Some choice })) a) (untouched_installs config service a.view.checkpoints.newest now)
    go false =
        let now : StepSoFar = with_stage service (Recovering (record attempt { choice = Some choice })) a in
        Untouched-trans (untouched_stage service (Recovering (record attempt { choice = Some choice })) a) (untouched_sends (asks_part a.view attempt choice) (quiet_asks_part a.view attempt choice) now)

untouched_chooses : (config : Config) (service : Service) (attempt : Attempt) (best : NodeId × List (RingId × ℕ)) (a : StepSoFar) → Untouched a (chooses config service attempt best a)
unfolding chooses
untouched_chooses config service attempt best a =
    let line : List Line = Chose a.view.id (epoch_of a.view) attempt.number (instances best.1) best.0 ∷ [] in
    let printed : StepSoFar = prints (Chose a.view.id (epoch_of a.view) attempt.number (instances best.1) best.0 ∷ []) a in
    Untouched-trans (untouched_prints (Chose a.view.id (epoch_of a.view) attempt.number (instances best.1) best.0 ∷ []) (tt, tt) a)
    (untouched_gathers config service attempt (record { tuple = best.1; from = best.0; bytes = [] }) printed)

untouched_best : (config : Config) (service : Service) (attempt : Attempt) (answers : List (NodeId × List (RingId × ℕ))) (a : StepSoFar) → Untouched a (chooses_best config service attempt answers a)
untouched_best config service attempt [] a = untouched_stage service (Recovering attempt) a
untouched_best config service attempt (answer ∷ answers) a = untouched_chooses config service attempt (best_of a.view.id answer answers) a

untouched_quorum : (config : Config) (service : Service) (attempt : Attempt) (a : StepSoFar) → Untouched a (chooses_if_quorum config service attempt a)
untouched_quorum config service attempt a = go (nat_le service.partition.recovery_quorum (length attempt.answers))
  where
    go : (b : Bool) → Untouched a (if b then chooses_best config service attempt attempt.answers a else with_stage service (Recovering attempt) a)
    go true = untouched_best config service attempt attempt.answers a
    go false = untouched_stage service (Recovering attempt) a

-- ---- attempts

quiet_asks : (view : View) (number : ℕ) (nodes : List NodeId) → AllByRecursion IsQuietSent (flat_map (asks_checkpoint view number) nodes)
quiet_asks view number nodes = quiet_all (asks_checkpoint view number) (λ node. quiet_to view.id node (body.AskCheckpoint (epoch_of view) number) tt) nodes

pub untouched_begins : (config : Config) (service : Service) (a : StepSoFar) → Untouched a (begins config service a)
unfolding begins
untouched_begins config service a = go (nat_lt service.attempts (2 ^ 32 - 1))
  where
    go : (b : Bool) → Untouched a (if b then begins_next config service a else prints (AttemptLimit a.view.id ∷ []) a)
    go false = untouched_prints (AttemptLimit a.view.id ∷ []) (tt, tt) a
    go true =
        let number : ℕ = service.attempts + 1 in
        let line : List Line = Begin a.view.id (epoch_of a.view) number (instances (own_tuple a.view service)) ∷ [] in
        let asked : List Sent = flat_map (asks_checkpoint a.view number) (others_of a.view.id service.partition) in
        Untouched-trans (untouched_prints line (tt, tt) a)
        (Untouched-trans (untouched_sends asked (quiet_asks a.view number (others_of a.view.id service.partition)) (prints line a))
        (untouched_quorum config (record service { attempts = number }) (record { number = number; ticks = 0; answers = (a.view.id, own_tuple a.view service) ∷ []; choice = None }) (sends_all asked (prints line a))))

pub untouched_answered : (config : Config) (service : Service) (attempt : Attempt) (from : NodeId) (epoch number : ℕ) (tuple : List (RingId × ℕ)) (a : StepSoFar)
    → Untouched a (answered_by config service attempt from epoch number tuple a)
unfolding answered_by
untouched_answered config service attempt from epoch number tuple a =
    go (is_of a.view attempt epoch number && (has_node service.partition.replicas from.0 && (not (has_answered from attempt.answers) && is_tuple_of (round_sizes config) service.partition.rings tuple)))
  where
    takes : (o : Option Choice) → Untouched a (takes_answer config service attempt o from tuple a)
    takes (Some choice) = Untouched-refl a
    takes None = untouched_quorum config service (record attempt { answers = attempt.answers ++ (from, tuple) ∷ [] }) a

    go : (b : Bool) → Untouched a (if b then takes_answer config service attempt attempt.choice from tuple a else a)
    go true = takes attempt.choice
    go false = Untouched-refl a

untouched_or_begins : (config : Config) (service : Service) (tuple : List (RingId × ℕ)) (o : Option Replica) (a : StepSoFar) → Untouched a (restores_or_begins config service tuple o a)
untouched_or_begins config service tuple None a = untouched_begins config service a
untouched_or_begins config service tuple (Some replica) a = untouched_restores config service tuple replica a

untouched_more : (config : Config) (service : Service) (attempt : Attempt) (choice : Choice) (total : ℕ) (a : StepSoFar) → Untouched a (with_more config service attempt choice total a)
untouched_more config service attempt choice total a = go (length choice.bytes == total)
  where
    go : (b : Bool) → Untouched a (if b then restores_or_begins config service choice.tuple (state_of service.partition choice.bytes) a
        else sends_all (asks_part a.view attempt choice) (with_stage service (Recovering (record attempt { choice = Some choice })) a))
    go true = untouched_or_begins config service choice.tuple (state_of service.partition choice.bytes) a
    go false =
        let now : StepSoFar = with_stage service (Recovering (record attempt { choice = Some choice })) a in
        Untouched-trans (untouched_stage service (Recovering (record attempt { choice = Some choice })) a) (untouched_sends (asks_part a.view attempt choice) (quiet_asks_part a.view attempt choice) now)

pub untouched_part : (config : Config) (service : Service) (attempt : Attempt) (from : NodeId) (epoch number : ℕ) (tuple : List (RingId × ℕ)) (offset total : ℕ) (bytes : List ℕ) (a : StepSoFar)
    → Untouched a (takes_part config service attempt from epoch number tuple offset total bytes a)
unfolding takes_part
untouched_part config service attempt from epoch number tuple offset total bytes a = at attempt.choice
  where
    at : (o : Option Choice) → Untouched a (part_for config service attempt o from epoch number tuple offset total bytes a)
    at None = Untouched-refl a
    at (Some choice) = go (is_of a.view attempt epoch number && (is_of_choice choice from tuple && (offset == length choice.bytes)))
      where
        go : (b : Bool) → Untouched a (if b then with_more config service attempt (record choice { bytes = choice.bytes ++ bytes }) total a else a)
        go true = untouched_more config service attempt (record choice { bytes = choice.bytes ++ bytes }) total a
        go false = Untouched-refl a

pub untouched_gone : (config : Config) (service : Service) (attempt : Attempt) (from : NodeId) (epoch number : ℕ) (asked newer : List (RingId × ℕ)) (a : StepSoFar)
    → Untouched a (takes_gone config service attempt from epoch number asked newer a)
unfolding takes_gone
untouched_gone config service attempt from epoch number asked newer a = at attempt.choice
  where
    at : (o : Option Choice) → Untouched a (gone_for config service attempt o from epoch number asked newer a)
    at None = Untouched-refl a
    at (Some choice) = go (is_of a.view attempt epoch number && (is_of_choice choice from asked && (is_tuple_of (round_sizes config) service.partition.rings newer && is_after choice.tuple newer)))
      where
        go : (b : Bool) → Untouched a (if b then chooses config service attempt (choice.from, newer) a else a)
        go true = untouched_chooses config service attempt (choice.from, newer) a
        go false = Untouched-refl a

pub untouched_tells : (service : Service) (from : NodeId) (epoch number : ℕ) (a : StepSoFar) → Untouched a (tells_checkpoint service from epoch number a)
untouched_tells service from epoch number a =
    untouched_sends (sends_to a.view.id from (body.HaveCheckpoint epoch number (own_tuple a.view service)))
    (quiet_to a.view.id from (body.HaveCheckpoint epoch number (own_tuple a.view service)) tt) a

pub untouched_tells_part : (config : Config) (service : Service) (from : NodeId) (epoch number : ℕ) (tuple : List (RingId × ℕ)) (offset : ℕ) (a : StepSoFar)
    → Untouched a (tells_part config service from epoch number tuple offset a)
untouched_tells_part config service from epoch number tuple offset a = go (is_tuple_of (round_sizes config) service.partition.rings tuple)
  where
    answers : (x : PartAnswer) → AllByRecursion IsQuietSent (flat_map (sends_to a.view.id from) (answer_part epoch number tuple offset x))
    answers (PartOf total bytes) = appended IsQuietSent (sends_to a.view.id from (body.Part epoch number tuple offset total bytes)) []
        (quiet_to a.view.id from (body.Part epoch number tuple offset total bytes) tt) tt
    answers (Gone newer) = appended IsQuietSent (sends_to a.view.id from (body.Gone epoch number tuple newer)) []
        (quiet_to a.view.id from (body.Gone epoch number tuple newer) tt) tt
    answers Unknown = tt

    go : (b : Bool) → Untouched a (if b then sends_all (flat_map (sends_to a.view.id from) (answer_part epoch number tuple offset (part_of a.view.checkpoints tuple offset))) a else a)
    go true = untouched_sends (flat_map (sends_to a.view.id from) (answer_part epoch number tuple offset (part_of a.view.checkpoints tuple offset))) (answers (part_of a.view.checkpoints tuple offset)) a
    go false = Untouched-refl a

-- ---- ticks of an attempt

untouched_ends : (config : Config) (service : Service) (attempt : Attempt) (a : StepSoFar) → Untouched a (ends_attempt config service attempt a)
untouched_ends config service attempt a = go (nat_lt (length attempt.answers) service.partition.recovery_quorum)
  where
    go : (b : Bool) → Untouched a (if b then begins config service (prints (Refuse a.view.id (epoch_of a.view) attempt.number (length attempt.answers) service.partition.recovery_quorum ∷ []) a)
        else begins config service a)
    go true =
        let line : List Line = Refuse a.view.id (epoch_of a.view) attempt.number (length attempt.answers) service.partition.recovery_quorum ∷ [] in
        Untouched-trans (untouched_prints line (tt, tt) a) (untouched_begins config service (prints line a))
    go false = untouched_begins config service a

untouched_ticks : (config : Config) (again : Bool) (service : Service) (attempt : Attempt) (a : StepSoFar) → Untouched a (ticks_attempt config again service attempt a)
untouched_ticks config again service attempt a = go (attempt.ticks == config.attempt)
  where
    missing : (o : Option Choice) → AllByRecursion IsQuietSent (asks_missing service attempt o a.view)
    missing None = quiet_asks a.view attempt.number (filter (λ node. not (has_answered node attempt.answers)) (others_of a.view.id service.partition))
    missing (Some choice) = quiet_asks_part a.view attempt choice

    asked : (b : Bool) → AllByRecursion IsQuietSent (if b then asks_missing service attempt attempt.choice a.view else [])
    asked true = missing attempt.choice
    asked false = tt

    go : (b : Bool) → Untouched a (if b then ends_attempt config service attempt (with_stage service (Recovering attempt) a)
        else sends_all (if again then asks_missing service attempt attempt.choice a.view else []) (with_stage service (Recovering attempt) a))
    go true =
        let now : StepSoFar = with_stage service (Recovering attempt) a in
        Untouched-trans (untouched_stage service (Recovering attempt) a) (untouched_ends config service attempt now)
    go false =
        let now : StepSoFar = with_stage service (Recovering attempt) a in
        Untouched-trans (untouched_stage service (Recovering attempt) a) (untouched_sends (if again then asks_missing service attempt attempt.choice a.view else []) (asked again) now)

pub untouched_recovery : (config : Config) (again : Bool) (o : Option Service) (a : StepSoFar) → Untouched a (recovery_ticks_at config again o a)
untouched_recovery config again None a = Untouched-refl a
untouched_recovery config again (Some service) a = at service.stage
  where
    at : (stage : Stage) → Untouched a (recovery_ticks config again service stage a)
    at (Ready standing) = Untouched-refl a
    at (Recovering attempt) = untouched_ticks config again service (record attempt { ticks = attempt.ticks + 1 }) a

-- ---- a replica that waits below a trim, and what asks a replica

pub untouched_recovers_if_trimmed : (config : Config) (id : RingId) (trim : ℕ) (a : StepSoFar) → Untouched a (recovers_if_trimmed config id trim a)
untouched_recovers_if_trimmed config id trim a = by_service a.view.service
  where
    by_stage : (service : Service) (stage : Stage) → Untouched a (begins_if_waits_below config id trim service stage a)
    by_stage service (Recovering attempt) = Untouched-refl a
    by_stage service (Ready standing) = go (waits_below id trim (place_of config standing))
      where
        go : (b : Bool) → Untouched a (if b then begins config service a else a)
        go true = untouched_begins config service a
        go false = Untouched-refl a

    by_service : (o : Option Service) → Untouched a (after_trim config id trim o a)
    by_service None = Untouched-refl a
    by_service (Some service) = by_stage service service.stage

-- what is safe of a ring is an instance
pub safe_is_inst : (view : View) (ring : RingId) (o : Option Service) (inst : ℕ) → safe_of view ring o ≡ Some inst → inst < END
safe_is_inst view ring None inst e = absurd (cc)
safe_is_inst view ring (Some service) inst e = go (has_ring service.partition.rings ring.0) e
  where
    newest : (o : Option Checkpoint) → safe_in ring o < END
    newest None = omega arith
    newest (Some n) = let one : min (unwrap_or (entry_at ring n.tuple) 0) (END - 1) < END = omega arith in one

    go : (b : Bool) → (if b then Some (safe_in ring view.checkpoints.newest) else None) ≡ Some inst → inst < END
    go false h = absurd (cc)
    go true h = let same : safe_in ring view.checkpoints.newest ≡ inst = cc in let low = newest view.checkpoints.newest in omega arith

untouched_safe_of : (from : NodeId) (id : RingId) (round : ℕ) (o : Option ℕ) → ((inst : ℕ) → o ≡ Some inst → inst < END) → (a : StepSoFar) → Untouched a (tells_safe from id round o a)
untouched_safe_of from id round None is a = Untouched-refl a
untouched_safe_of from id round (Some inst) is a =
    untouched_sends (sends_to a.view.id from (body.Safe id round inst)) (quiet_to a.view.id from (body.Safe id round inst) (is inst refl)) a

pub untouched_safe : (from : NodeId) (id : RingId) (round : ℕ) (a : StepSoFar) → Untouched a (tells_safe from id round (safe_of a.view id a.view.service) a)
untouched_safe from id round a = untouched_safe_of from id round (safe_of a.view id a.view.service) (safe_is_inst a.view id a.view.service) a

pub untouched_service : (rule : Service → StepSoFar → StepSoFar) → ((s : Service) (a : StepSoFar) → Untouched a (rule s a)) → (o : Option Service) (a : StepSoFar) → Untouched a (at_service rule o a)
untouched_service rule each None a = Untouched-refl a
untouched_service rule each (Some service) a = each service a

pub untouched_recovering : (rule : Service → Attempt → StepSoFar → StepSoFar) → ((s : Service) (now : Attempt) (a : StepSoFar) → Untouched a (rule s now a)) → (o : Option Service) (a : StepSoFar)
    → Untouched a (recovering rule o a)
untouched_recovering rule each None a = Untouched-refl a
untouched_recovering rule each (Some service) a = at service.stage
  where
    at : (stage : Stage) → Untouched a (at_attempt (rule service) stage a)
    at (Ready standing) = Untouched-refl a
    at (Recovering attempt) = each service attempt a
