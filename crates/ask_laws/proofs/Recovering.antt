-- Recovery, asking for what is missing, and greeting carry no value.
use Rattle.std.proofs.Common.{◌≡◌, ◌<◌, refl, take, drop, ℕ, ◌+◌, ◌-◌, ◌^◌, Bool, true, false, ◌&&◌, ◌||◌, List, [], ◌∷◌, ◌++◌, length, map, Option, Some, None}
use Rattle.std.specs.Prelude.{◌==◌, nat_lt, nat_le, not, if◌then◌else◌, filter}
use Rattle.std.specs.List.{AllByRecursion, flat_map}
use Rattle.mrp_types.specs.declared.id.NodeId.{NodeId}
use Rattle.mrp_types.specs.declared.id.RingId.{RingId}
use Rattle.mrp_types.specs.declared.value.Entry.{Entry}
use Rattle.mrp_config.specs.Config.{Config, has_node}
use Rattle.mrp_config.specs.declared.tables.NodeTable.{NodeTable}
use Rattle.frames.specs.declared.body.Body.{Body}
use Rattle.frames.specs.declared.body.Body.TheVariants as body
use Rattle.frames.specs.declared.sent.Sent.{Sent}
use Rattle.hex.specs.Hex.{IsBytes}
use Rattle.frames.specs.Grammar.{part_of as part_size}
use Rattle.state_laws.specs.States.{HasFewLogs, IsSound}
use Rattle.state_laws.proofs.Bytes.{bytes_each, cut_are, sound_empty, sound_read}
use Rattle.state_laws.proofs.Examples.{bytes_by}
use Rattle.checkpoint.specs.Checkpoints.{Checkpoints, part_in, is_same_tuple, Checkpoint, PartAnswer, Part as PartOf, Gone, Unknown, part_of, is_after}
use Rattle.plain_model.specs.Replicas.{Replica, empty_replica}
use Rattle.plain_model.specs.StateBytes.{state_of}
use Rattle.plain_model.specs.Tuples.{round_sizes, first_tuple, is_tuple_of, instances}
use Rattle.protocol.specs.Lines.{Line, Begin, Chose, Restore, Refuse, AttemptLimit}
use Rattle.protocol.specs.Rings.{is_beyond, sends, sends_to}
use Rattle.protocol.specs.Trimming.{has_answered}
use Rattle.protocol.specs.Node.{StepSoFar, View, RingPart, Service, Stage, Recovering, Ready, Attempt, Choice, part_at, with_stage, prints, sends_all}
use Rattle.protocol.specs.Merging.{place_of}
use Rattle.protocol.specs.Recovery.{epoch_of, own_tuple, others_of, with_lowered, lowers, restores, restores_read, installs_own, best_of, asks_part, gathers, chooses, chooses_best, chooses_if_quorum, asks_checkpoint, begins_next, begins, is_of, takes_answer, answered_by, is_of_choice, restores_or_begins, with_more, part_for, takes_part, gone_for, takes_gone, tells_checkpoint, answer_part, tells_part, asks_missing, ends_attempt, ticks_attempt, recovery_ticks}
use Rattle.protocol.specs.Step.{waits_below, begins_if_waits_below, after_trim, recovers_if_trimmed, tells_safe, at_service, at_attempt, recovering}
use Rattle.protocol.specs.Tick.{turn_of, fetches_at, fetches_stage, fetches_missing, shares_ring, greets, recovery_ticks_at, asks_on_beat}
use Rattle.ask_laws.specs.Carried.{GatheredKeeps, StageKeeps, ReplicaKeeps, NewestKeeps, RingPartCarries, BodyCarries, SentCarries, ActCarries}
use Rattle.ask_laws.proofs.Commands.{IsOfBytes}
use Rattle.ask_laws.proofs.Lists.{appended}
use Rattle.ask_laws.proofs.Acceptor.{sends_to_carry, sends_carry, each_carries}
use Rattle.ask_laws.proofs.SoFar.{prints_act, sends_act, stage_act, merges_act}

no_bytes : IsBytes []
no_bytes = bytes_by [] tt

bytes_join : (xs ys : List ℕ) → IsBytes xs → IsBytes ys → IsBytes (xs ++ ys)
bytes_join xs ys first second = bytes_by (xs ++ ys) (appended (λ (b : ℕ). b < 256) xs ys (bytes_each xs first) (bytes_each ys second))

bytes_cut : (n offset : ℕ) (bytes : List ℕ) → IsBytes bytes → IsBytes (take n (drop offset bytes))
bytes_cut n offset bytes is = bytes_by (take n (drop offset bytes)) (cut_are n offset bytes (bytes_each bytes is))

module _ (Is : ℕ → Entry → Type 0) (Valid : Type 0) (given : Valid → (r : ℕ) (e : Entry) → Is r e → IsOfBytes e) where
  -- a word keeps what a step carries
  abbrev pub Keeps : (StepSoFar → StepSoFar) → Type 0
  Keeps word = (a : StepSoFar) → ActCarries Is Valid a → ActCarries Is Valid (word a)

  abbrev AllSent : List Sent → Type 0
  AllSent frames = AllByRecursion (SentCarries Is Valid) frames

  to_carry : (own to : NodeId) (b : Body) → BodyCarries Is Valid b → AllSent (sends_to own to b)
  to_carry own to b is = sends_to_carry Is Valid own to b is (to.0 == own.0 || is_beyond b)

  lowered_all : (tuple : List (RingId × ℕ)) (parts : List RingPart) → AllByRecursion (RingPartCarries Is) parts → AllByRecursion (RingPartCarries Is) (map (with_lowered tuple) parts)
  lowered_all tuple [] all = tt
  lowered_all tuple (p ∷ parts) all = (record { votes = all.0.votes; role = all.0.role; held = all.0.held }, lowered_all tuple parts all.1)

  lowers_keep : (tuple : List (RingId × ℕ)) → Keeps (lowers tuple)
  lowers_keep tuple a c = record {
    view = record { state = c.view.state; parts = lowered_all tuple a.view.parts c.view.parts; replica = c.view.replica; newest = c.view.newest };
    changes = c.changes;
    frames = c.frames;
    replies = c.replies;
    lines = c.lines;
  }

  -- ---- restoring and choosing

  restores_keep : (config : Config) (service : Service) (tuple : List (RingId × ℕ)) (replica : Replica) → (Valid → HasFewLogs service.partition) → (Valid → IsSound service.partition replica) → Keeps (restores config service tuple replica)
  unfolding restores
  restores_keep config service tuple replica logs sound a c =
      let printed : StepSoFar = prints (Restore a.view.id (instances tuple) ∷ []) a in
      let lowered : StepSoFar = lowers tuple printed in
      let stage : Stage = Ready (record { tuple = tuple; replica = replica; delivered = 0 }) in
      merges_act Is Valid given config (with_stage service stage lowered)
      (stage_act Is Valid service stage lowered logs sound (lowers_keep tuple printed (prints_act Is Valid (Restore a.view.id (instances tuple) ∷ []) a (tt, tt) c)))

  read_keeps : (config : Config) (service : Service) (tuple : List (RingId × ℕ)) (bytes : List ℕ) → (Valid → HasFewLogs service.partition) → (Valid → IsBytes bytes) → Keeps (restores_read config service tuple (state_of service.partition bytes))
  read_keeps config service tuple bytes logs are a c = by (state_of service.partition bytes) refl
    where
      by : (o : Option Replica) → state_of service.partition bytes ≡ o → ActCarries Is Valid (restores_read config service tuple o a)
      by None is = c
      by (Some replica) is = restores_keep config service tuple replica logs (λ few. sound_read service.partition bytes replica (are few) is) a c

  installs_keep : (config : Config) (service : Service) (o : Option Checkpoint) → (Valid → HasFewLogs service.partition) → (Valid → NewestKeeps o) → Keeps (installs_own config service o)
  installs_keep config service None logs keeps a c = restores_keep config service (first_tuple service.partition.rings) (empty_replica service.partition) logs (λ few. sound_empty service.partition (logs few)) a c
  installs_keep config service (Some newest) logs keeps a c = read_keeps config service newest.tuple newest.state logs keeps a c

  asks_part_carry : (view : View) (attempt : Attempt) (choice : Choice) → AllSent (asks_part view attempt choice)
  asks_part_carry view attempt choice = to_carry view.id choice.from (body.AskPart (epoch_of view) attempt.number choice.tuple (length choice.bytes)) tt

  gathers_keep : (config : Config) (service : Service) (attempt : Attempt) (choice : Choice) → (Valid → HasFewLogs service.partition) → (Valid → IsBytes choice.bytes) → Keeps (gathers config service attempt choice)
  gathers_keep config service attempt choice logs are a c = by (choice.from.0 == a.view.id.0)
    where
      now : ActCarries Is Valid (with_stage service (Recovering (record attempt { choice = Some choice })) a)
      now = stage_act Is Valid service (Recovering (record attempt { choice = Some choice })) a logs are c

      by : (t : Bool) → ActCarries Is Valid (if t then installs_own config service a.view.checkpoints.newest (with_stage service (Recovering (record attempt { choice = Some choice })) a)
          else sends_all (asks_part a.view attempt choice) (with_stage service (Recovering (record attempt { choice = Some choice })) a))
      by true = installs_keep config service a.view.checkpoints.newest logs c.view.newest (with_stage service (Recovering (record attempt { choice = Some choice })) a) now
      by false = sends_act Is Valid (asks_part a.view attempt choice) (with_stage service (Recovering (record attempt { choice = Some choice })) a) (asks_part_carry a.view attempt choice) now

  chooses_keep : (config : Config) (service : Service) (attempt : Attempt) (best : NodeId × List (RingId × ℕ)) → (Valid → HasFewLogs service.partition) → Keeps (chooses config service attempt best)
  unfolding chooses
  chooses_keep config service attempt best logs a c =
      let line : List Line = Chose a.view.id (epoch_of a.view) attempt.number (instances best.1) best.0 ∷ [] in
      gathers_keep config service attempt (record { tuple = best.1; from = best.0; bytes = [] }) logs (λ few. no_bytes) (prints line a) (prints_act Is Valid line a (tt, tt) c)

  best_keeps : (config : Config) (service : Service) (attempt : Attempt) (answers : List (NodeId × List (RingId × ℕ))) → (Valid → HasFewLogs service.partition) → (Valid → GatheredKeeps attempt.choice) → Keeps (chooses_best config service attempt answers)
  best_keeps config service attempt [] logs gathered a c = stage_act Is Valid service (Recovering attempt) a logs gathered c
  best_keeps config service attempt (answer ∷ answers) logs gathered a c = chooses_keep config service attempt (best_of a.view.id answer answers) logs a c

  quorum_keeps : (config : Config) (service : Service) (attempt : Attempt) → (Valid → HasFewLogs service.partition) → (Valid → GatheredKeeps attempt.choice) → Keeps (chooses_if_quorum config service attempt)
  quorum_keeps config service attempt logs gathered a c = by (nat_le service.partition.recovery_quorum (length attempt.answers))
    where
      by : (t : Bool) → ActCarries Is Valid (if t then chooses_best config service attempt attempt.answers a else with_stage service (Recovering attempt) a)
      by true = best_keeps config service attempt attempt.answers logs gathered a c
      by false = stage_act Is Valid service (Recovering attempt) a logs gathered c

  -- ---- attempts

  asks_carry : (view : View) (number : ℕ) (nodes : List NodeId) → AllSent (flat_map (asks_checkpoint view number) nodes)
  asks_carry view number nodes = each_carries Is Valid (asks_checkpoint view number) (λ node. to_carry view.id node (body.AskCheckpoint (epoch_of view) number) tt) nodes

  pub begins_keep : (config : Config) (service : Service) → (Valid → HasFewLogs service.partition) → Keeps (begins config service)
  unfolding begins
  begins_keep config service logs a c = by (nat_lt service.attempts (2 ^ 32 - 1))
    where
      by : (t : Bool) → ActCarries Is Valid (if t then begins_next config service a else prints (AttemptLimit a.view.id ∷ []) a)
      by false = prints_act Is Valid (AttemptLimit a.view.id ∷ []) a (tt, tt) c
      by true =
          let number : ℕ = service.attempts + 1 in
          let line : List Line = Begin a.view.id (epoch_of a.view) number (instances (own_tuple a.view service)) ∷ [] in
          let asked : List Sent = flat_map (asks_checkpoint a.view number) (others_of a.view.id service.partition) in
          quorum_keeps config (record service { attempts = number }) (record { number = number; ticks = 0; answers = (a.view.id, own_tuple a.view service) ∷ []; choice = None }) logs (λ few. tt) (sends_all asked (prints line a))
          (sends_act Is Valid asked (prints line a) (asks_carry a.view number (others_of a.view.id service.partition)) (prints_act Is Valid line a (tt, tt) c))

  pub answered_keeps : (config : Config) (service : Service) (attempt : Attempt) (from : NodeId) (epoch number : ℕ) (tuple : List (RingId × ℕ))
      → (Valid → HasFewLogs service.partition) → (Valid → GatheredKeeps attempt.choice) → Keeps (answered_by config service attempt from epoch number tuple)
  unfolding answered_by
  answered_keeps config service attempt from epoch number tuple logs gathered a c =
      by (is_of a.view attempt epoch number && (has_node service.partition.replicas from.0 && (not (has_answered from attempt.answers) && is_tuple_of (round_sizes config) service.partition.rings tuple)))
    where
      taken : (o : Option Choice) → ActCarries Is Valid (takes_answer config service attempt o from tuple a)
      taken (Some choice) = c
      taken None = quorum_keeps config service (record attempt { answers = attempt.answers ++ (from, tuple) ∷ [] }) logs gathered a c

      by : (t : Bool) → ActCarries Is Valid (if t then takes_answer config service attempt attempt.choice from tuple a else a)
      by true = taken attempt.choice
      by false = c

  or_begins_keeps : (config : Config) (service : Service) (tuple : List (RingId × ℕ)) (bytes : List ℕ) → (Valid → HasFewLogs service.partition) → (Valid → IsBytes bytes)
      → Keeps (restores_or_begins config service tuple (state_of service.partition bytes))
  or_begins_keeps config service tuple bytes logs are a c = by (state_of service.partition bytes) refl
    where
      by : (o : Option Replica) → state_of service.partition bytes ≡ o → ActCarries Is Valid (restores_or_begins config service tuple o a)
      by None is = begins_keep config service logs a c
      by (Some replica) is = restores_keep config service tuple replica logs (λ few. sound_read service.partition bytes replica (are few) is) a c

  more_keeps : (config : Config) (service : Service) (attempt : Attempt) (choice : Choice) (total : ℕ) → (Valid → HasFewLogs service.partition) → (Valid → IsBytes choice.bytes) → Keeps (with_more config service attempt choice total)
  more_keeps config service attempt choice total logs are a c = by (length choice.bytes == total)
    where
      by : (t : Bool) → ActCarries Is Valid (if t then restores_or_begins config service choice.tuple (state_of service.partition choice.bytes) a
          else sends_all (asks_part a.view attempt choice) (with_stage service (Recovering (record attempt { choice = Some choice })) a))
      by true = or_begins_keeps config service choice.tuple choice.bytes logs are a c
      by false = sends_act Is Valid (asks_part a.view attempt choice) (with_stage service (Recovering (record attempt { choice = Some choice })) a) (asks_part_carry a.view attempt choice)
          (stage_act Is Valid service (Recovering (record attempt { choice = Some choice })) a logs are c)

  pub part_keeps : (config : Config) (service : Service) (attempt : Attempt) (from : NodeId) (epoch number : ℕ) (tuple : List (RingId × ℕ)) (offset total : ℕ) (bytes : List ℕ) → (Valid → IsBytes bytes)
      → (Valid → HasFewLogs service.partition) → (Valid → GatheredKeeps attempt.choice) → Keeps (takes_part config service attempt from epoch number tuple offset total bytes)
  unfolding takes_part
  part_keeps config service attempt from epoch number tuple offset total bytes more logs gathered a c = at attempt.choice gathered
    where
      at : (o : Option Choice) → (Valid → GatheredKeeps o) → ActCarries Is Valid (part_for config service attempt o from epoch number tuple offset total bytes a)
      at None are = c
      at (Some choice) are = by (is_of a.view attempt epoch number && (is_of_choice choice from tuple && (offset == length choice.bytes)))
        where
          by : (t : Bool) → ActCarries Is Valid (if t then with_more config service attempt (record choice { bytes = choice.bytes ++ bytes }) total a else a)
          by true = more_keeps config service attempt (record choice { bytes = choice.bytes ++ bytes }) total logs (λ few. bytes_join choice.bytes bytes (are few) (more few)) a c
          by false = c

  pub gone_keeps : (config : Config) (service : Service) (attempt : Attempt) (from : NodeId) (epoch number : ℕ) (asked newer : List (RingId × ℕ))
      → (Valid → HasFewLogs service.partition) → (Valid → GatheredKeeps attempt.choice) → Keeps (takes_gone config service attempt from epoch number asked newer)
  unfolding takes_gone
  gone_keeps config service attempt from epoch number asked newer logs gathered a c = at attempt.choice
    where
      at : (o : Option Choice) → ActCarries Is Valid (gone_for config service attempt o from epoch number asked newer a)
      at None = c
      at (Some choice) = by (is_of a.view attempt epoch number && (is_of_choice choice from asked && (is_tuple_of (round_sizes config) service.partition.rings newer && is_after choice.tuple newer)))
        where
          by : (t : Bool) → ActCarries Is Valid (if t then chooses config service attempt (choice.from, newer) a else a)
          by true = chooses_keep config service attempt (choice.from, newer) logs a c
          by false = c

  -- ---- what is asked of this node

  pub tells_keep : (service : Service) (from : NodeId) (epoch number : ℕ) → Keeps (tells_checkpoint service from epoch number)
  tells_keep service from epoch number a c =
      sends_act Is Valid (sends_to a.view.id from (body.HaveCheckpoint epoch number (own_tuple a.view service))) a (to_carry a.view.id from (body.HaveCheckpoint epoch number (own_tuple a.view service)) tt) c

  -- a part of bytes is of bytes
  abbrev AnswerKeeps : PartAnswer → Type 0
  AnswerKeeps (PartOf total bytes) = IsBytes bytes
  AnswerKeeps (Gone newer) = Unit {0}
  AnswerKeeps Unknown = Unit {0}

  part_is : (checkpoints : Checkpoints) (tuple : List (RingId × ℕ)) (offset : ℕ) → NewestKeeps checkpoints.newest → AnswerKeeps (part_of checkpoints tuple offset)
  part_is checkpoints tuple offset = by checkpoints.newest
    where
      by : (o : Option Checkpoint) → NewestKeeps o → AnswerKeeps (part_in o tuple offset)
      by None keeps = tt
      by (Some newest) keeps = which (is_after tuple newest.tuple) (is_same_tuple tuple newest.tuple) (nat_lt offset (length newest.state))
        where
          which : (gone here inside : Bool)
              → AnswerKeeps (if gone then Gone newest.tuple
              else if here then (if inside then PartOf (length newest.state) (take (part_size (offset, length newest.state)) (drop offset newest.state)) else Unknown)
              else Unknown)
          which true here inside = tt
          which false true true = bytes_cut (part_size (offset, length newest.state)) offset newest.state keeps
          which false true false = tt
          which false false inside = tt

  pub tells_part_keeps : (config : Config) (service : Service) (from : NodeId) (epoch number : ℕ) (tuple : List (RingId × ℕ)) (offset : ℕ) → Keeps (tells_part config service from epoch number tuple offset)
  tells_part_keeps config service from epoch number tuple offset a c = by (is_tuple_of (round_sizes config) service.partition.rings tuple)
    where
      answers : (x : PartAnswer) → (Valid → AnswerKeeps x) → AllSent (flat_map (sends_to a.view.id from) (answer_part epoch number tuple offset x))
      answers (PartOf total bytes) are = appended (SentCarries Is Valid) (sends_to a.view.id from (body.Part epoch number tuple offset total bytes)) []
          (to_carry a.view.id from (body.Part epoch number tuple offset total bytes) are) tt
      answers (Gone newer) are = appended (SentCarries Is Valid) (sends_to a.view.id from (body.Gone epoch number tuple newer)) [] (to_carry a.view.id from (body.Gone epoch number tuple newer) tt) tt
      answers Unknown are = tt

      by : (t : Bool) → ActCarries Is Valid (if t then sends_all (flat_map (sends_to a.view.id from) (answer_part epoch number tuple offset (part_of a.view.checkpoints tuple offset))) a else a)
      by true = sends_act Is Valid (flat_map (sends_to a.view.id from) (answer_part epoch number tuple offset (part_of a.view.checkpoints tuple offset))) a (answers (part_of a.view.checkpoints tuple offset) (λ few. part_is a.view.checkpoints tuple offset (c.view.newest few))) c
      by false = c

  -- ---- ticks of an attempt

  ends_keep : (config : Config) (service : Service) (attempt : Attempt) → (Valid → HasFewLogs service.partition) → Keeps (ends_attempt config service attempt)
  ends_keep config service attempt logs a c = by (nat_lt (length attempt.answers) service.partition.recovery_quorum)
    where
      by : (t : Bool) → ActCarries Is Valid (if t then begins config service (prints (Refuse a.view.id (epoch_of a.view) attempt.number (length attempt.answers) service.partition.recovery_quorum ∷ []) a)
          else begins config service a)
      by true =
          let line : List Line = Refuse a.view.id (epoch_of a.view) attempt.number (length attempt.answers) service.partition.recovery_quorum ∷ [] in
          begins_keep config service logs (prints line a) (prints_act Is Valid line a (tt, tt) c)
      by false = begins_keep config service logs a c

  ticks_keep : (config : Config) (again : Bool) (service : Service) (attempt : Attempt) → (Valid → HasFewLogs service.partition) → (Valid → GatheredKeeps attempt.choice) → Keeps (ticks_attempt config again service attempt)
  ticks_keep config again service attempt logs gathered a c = by (attempt.ticks == config.attempt)
    where
      missing : (o : Option Choice) → AllSent (asks_missing service attempt o a.view)
      missing None = asks_carry a.view attempt.number (filter (λ node. not (has_answered node attempt.answers)) (others_of a.view.id service.partition))
      missing (Some choice) = asks_part_carry a.view attempt choice

      asked : (t : Bool) → AllSent (if t then asks_missing service attempt attempt.choice a.view else [])
      asked true = missing attempt.choice
      asked false = tt

      by : (t : Bool) → ActCarries Is Valid (if t then ends_attempt config service attempt (with_stage service (Recovering attempt) a)
          else sends_all (if again then asks_missing service attempt attempt.choice a.view else []) (with_stage service (Recovering attempt) a))
      by true = ends_keep config service attempt logs (with_stage service (Recovering attempt) a) (stage_act Is Valid service (Recovering attempt) a logs gathered c)
      by false = sends_act Is Valid (if again then asks_missing service attempt attempt.choice a.view else []) (with_stage service (Recovering attempt) a) (asked again) (stage_act Is Valid service (Recovering attempt) a logs gathered c)

  pub recovery_keeps : (config : Config) (again : Bool) (o : Option Service) → (Valid → ReplicaKeeps o) → Keeps (recovery_ticks_at config again o)
  recovery_keeps config again None keeps a c = c
  recovery_keeps config again (Some service) keeps a c = at service.stage (λ few. (keeps few).stage)
    where
      at : (stage : Stage) → (Valid → StageKeeps service.partition stage) → ActCarries Is Valid (recovery_ticks config again service stage a)
      at (Ready standing) now = c
      at (Recovering attempt) now = ticks_keep config again service (record attempt { ticks = attempt.ticks + 1 }) (λ few. (keeps few).logs) now a c

  -- ---- a replica that waits below a trim, and what asks a replica

  pub recovers_if_trimmed_keeps : (config : Config) (id : RingId) (trim : ℕ) → Keeps (recovers_if_trimmed config id trim)
  recovers_if_trimmed_keeps config id trim a c = by_service a.view.service c.view.replica
    where
      by_stage : (service : Service) (stage : Stage) → (Valid → HasFewLogs service.partition) → ActCarries Is Valid (begins_if_waits_below config id trim service stage a)
      by_stage service (Recovering attempt) logs = c
      by_stage service (Ready standing) logs = by (waits_below id trim (place_of config standing))
        where
          by : (t : Bool) → ActCarries Is Valid (if t then begins config service a else a)
          by true = begins_keep config service logs a c
          by false = c

      by_service : (o : Option Service) → (Valid → ReplicaKeeps o) → ActCarries Is Valid (after_trim config id trim o a)
      by_service None keeps = c
      by_service (Some service) keeps = by_stage service service.stage (λ few. (keeps few).logs)

  pub safe_keeps : (from : NodeId) (id : RingId) (round : ℕ) (o : Option ℕ) → Keeps (tells_safe from id round o)
  safe_keeps from id round None a c = c
  safe_keeps from id round (Some inst) a c = sends_act Is Valid (sends_to a.view.id from (body.Safe id round inst)) a (to_carry a.view.id from (body.Safe id round inst) tt) c

  pub service_keeps : (rule : Service → StepSoFar → StepSoFar) → ((s : Service) → Keeps (rule s)) → (o : Option Service) → Keeps (at_service rule o)
  service_keeps rule each None a c = c
  service_keeps rule each (Some service) a c = each service a c

  pub recovering_keeps : (rule : Service → Attempt → StepSoFar → StepSoFar) → ((s : Service) (now : Attempt) → (Valid → HasFewLogs s.partition) → (Valid → GatheredKeeps now.choice) → Keeps (rule s now)) → (o : Option Service)
      → (Valid → ReplicaKeeps o) → Keeps (recovering rule o)
  recovering_keeps rule each None keeps a c = c
  recovering_keeps rule each (Some service) keeps a c = at service.stage (λ few. (keeps few).stage)
    where
      at : (stage : Stage) → (Valid → StageKeeps service.partition stage) → ActCarries Is Valid (at_attempt (rule service) stage a)
      at (Ready standing) now = c
      at (Recovering attempt) now = each service attempt (λ few. (keeps few).logs) now a c

  -- ---- a beat

  fetches_keep : (turn : ℕ) (place : RingId × ℕ) (o : Option RingPart) → Keeps (fetches_at turn place o)
  fetches_keep turn place None a c = c
  fetches_keep turn place (Some p) a c =
      sends_act Is Valid (sends p.ring (turn_of a.view.id p.ring.acceptors turn) (body.Fetch place.0 place.1)) a
      (sends_carry Is Valid p.ring (turn_of a.view.id p.ring.acceptors turn) (body.Fetch place.0 place.1) tt) c

  missing_keeps : (config : Config) (turn : ℕ) (o : Option Service) → Keeps (fetches_missing config turn o)
  missing_keeps config turn None a c = c
  missing_keeps config turn (Some service) a c = at service.stage
    where
      at : (stage : Stage) → ActCarries Is Valid (fetches_stage config turn stage a)
      at (Recovering attempt) = c
      at (Ready standing) = fetches_keep turn (place_of config standing) (part_at a.view (place_of config standing).0) a c

  greets_keep : (config : Config) → Keeps (greets config)
  greets_keep config a c =
      sends_act Is Valid (flat_map (λ (node : NodeTable). sends_to a.view.id node.id body.Hello) (filter (shares_ring a.view) config.nodes)) a
      (each_carries Is Valid (λ (node : NodeTable). sends_to a.view.id node.id body.Hello) (λ node. to_carry a.view.id node.id body.Hello tt) (filter (shares_ring a.view) config.nodes)) c

  pub beat_keeps : (config : Config) (turn : ℕ) → Keeps (asks_on_beat config turn)
  beat_keeps config turn a c = greets_keep config (fetches_missing config turn a.view.service a) (missing_keeps config turn a.view.service a c)
