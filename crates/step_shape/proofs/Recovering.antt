-- Recovery, asking for what is missing, and greeting: each frame fits, and so do the numbers and the bytes that a replica keeps.
use Rattle.std.proofs.Common.{◌≡◌, ◌<◌, ◌≤◌, refl, ap, subst, arith, take, drop, ℕ, ◌+◌, ◌-◌, ◌^◌, min, Bool, true, false, true≢false, ◌&&◌, ◌||◌, List, [], ◌∷◌, ◌++◌, length, length-append, map, Option, Some, None}
use Rattle.std.specs.Prelude.{◌==◌, nat_lt, nat_le, not, if◌then◌else◌, filter}
use Rattle.std.specs.List.{AllByRecursion, flat_map}
use Rattle.std.proofs.lemmas.Bool.{and_parts}
use Rattle.std.proofs.lemmas.Bool.Decides.{nat_tests}
use Rattle.std.proofs.lemmas.List.{length-take, length-drop}
use Rattle.mrp_types.specs.declared.id.NodeId.{NodeId}
use Rattle.mrp_types.specs.declared.id.RingId.{RingId}
use Rattle.mrp_types.specs.declared.id.TheConstants.{END}
use Rattle.mrp_types.specs.declared.id.Party.TheVariants.{Node}
use Rattle.mrp_types.specs.declared.value.Entry.{Entry}
use Rattle.mrp_config.specs.Config.{Config, has_node, has_ring}
use Rattle.mrp_config.specs.Valid.{AreAtMost, numbers_of_rings}
use Rattle.mrp_config.specs.declared.tables.NodeTable.{NodeTable}
use Rattle.frames.specs.declared.body.Body.TheVariants as body
use Rattle.frames.specs.declared.sent.Sent.{Sent}
use Rattle.hex.specs.Hex.{IsBytes}
use Rattle.frames.specs.Grammar.{part_of as part_size}
use Rattle.vote_state.specs.Valid.{IsRing}
use Rattle.vote_state.proofs.StateLemmas.{append_all}
use Rattle.state_laws.specs.States.{HasFewLogs, IsSound}
use Rattle.state_laws.proofs.Bytes.{bytes_each, sound_empty, sound_read}
use Rattle.state_laws.proofs.Examples.{bytes_by}
use Rattle.checkpoint.specs.Checkpoints.{Checkpoints, part_in, is_same_tuple, Checkpoint, PartAnswer, Part as PartOf, Gone, Unknown, part_of, is_after}
use Rattle.plain_model.proofs.TupleOrder.{same_number}
use Rattle.plain_model.specs.Replicas.{Replica, empty_replica}
use Rattle.plain_model.specs.StateBytes.{state_of}
use Rattle.plain_model.specs.Tuples.{round_sizes, first_tuple, is_tuple_of, instances}
use Rattle.protocol.specs.Lines.{Line, Begin, Chose, Restore, Refuse, AttemptLimit}
use Rattle.protocol.specs.Rings.{sends, sends_to}
use Rattle.protocol.specs.Trimming.{has_answered}
use Rattle.protocol.specs.Node.{StepSoFar, View, RingPart, Service, Stage, Recovering, Ready, Attempt, Choice, part_in as member_in, part_at, with_stage, prints, sends_all}
use Rattle.protocol.specs.Merging.{place_of}
use Rattle.protocol.specs.Recovery.{epoch_of, own_tuple, others_of, with_lowered, lowers, restores, restores_read, installs_own, best_of, asks_part, gathers, chooses, chooses_best, chooses_if_quorum, asks_checkpoint, begins_next, begins, is_of, takes_answer, answered_by, is_of_choice, restores_or_begins, with_more, part_for, takes_part, gone_for, takes_gone, tells_checkpoint, answer_part, tells_part, safe_in, safe_of, asks_missing, ends_attempt, ticks_attempt, recovery_ticks}
use Rattle.protocol.specs.Step.{waits_below, begins_if_waits_below, after_trim, recovers_if_trimmed, tells_safe, at_service, at_attempt, recovering}
use Rattle.protocol.specs.Tick.{turn_of, fetches_at, fetches_stage, fetches_missing, shares_ring, greets, recovery_ticks_at, asks_on_beat}
use Rattle.ask_laws.specs.Carried.{GatheredKeeps, StageKeeps, ReplicaKeeps, NewestKeeps, RingPartCarries}
use Rattle.ask_laws.proofs.Commands.{IsOfBytes}
use Rattle.step_shape.specs.Shaped.{SentFits, MemberFits, GatheredFits, StageFits, ServiceFits, ReplicaFits, NewestFits}
use Rattle.step_shape.proofs.Words.{AllFit, to_fits}
use Rattle.step_shape.proofs.Merging.{IsMine, Ground, prints_ground, sends_ground, stage_ground, merges_ground}

no_bytes : IsBytes []
no_bytes = bytes_by [] tt

bytes_join : (xs ys : List ℕ) → IsBytes xs → IsBytes ys → IsBytes (xs ++ ys)
bytes_join xs ys first second = bytes_by (xs ++ ys) (append_all (λ (b : ℕ). b < 256) xs ys (bytes_each xs first) (bytes_each ys second))

-- what is the same of a service at any stage
pub record IsAble (service : Service) : Type 0 where
  pub logs : HasFewLogs service.partition
  pub attempts : service.attempts < 2 ^ 32
  pub rings : AreAtMost 15 (numbers_of_rings service.partition.rings)

-- what is so of an attempt
pub record IsGoing (attempt : Attempt) : Type 0 where
  pub number : attempt.number < 2 ^ 32
  pub gathered : GatheredFits attempt.choice
  pub bytes : GatheredKeeps attempt.choice

low_ring : (rings : List RingId) (ring : RingId) → AreAtMost 15 (numbers_of_rings rings) → has_ring rings ring.0 ≡ true → IsRing ring
low_ring [] ring low e = absurd (cc)
low_ring (r ∷ rings) ring low e = by (r.0 == ring.0) refl e (λ h. low_ring rings ring low.1 h)
  where
    by : (t : Bool) → (r.0 == ring.0) ≡ t → (if t then true else has_ring rings ring.0) ≡ true → (has_ring rings ring.0 ≡ true → IsRing ring) → IsRing ring
    by true same h later = let at = same_number r.0 ring.0 same in let first = low.0 in omega arith
    by false other h later = later h

module _ (Is : ℕ → Entry → Type 0) (given : (r : ℕ) (e : Entry) → Is r e → IsOfBytes e) (fine : ℕ → Type 0) (id : NodeId) where
  abbrev Grounded : StepSoFar → Type 0
  Grounded a = Ground Is fine id a

  -- a word keeps what the rules of a replica need
  abbrev pub Keeps : (StepSoFar → StepSoFar) → Type 0
  Keeps word = (a : StepSoFar) → Grounded a → Grounded (word a)

  each_fits : {T : Type 0} (h : T → List Sent) → ((x : T) → AllFit fine id (h x)) → (xs : List T) → AllFit fine id (flat_map h xs)
  each_fits h fits [] = tt
  each_fits h fits (x ∷ xs) = append_all (SentFits fine id) (h x) (flat_map h xs) (fits x) (each_fits h fits xs)

  lowered_mine : (tuple : List (RingId × ℕ)) (parts : List RingPart) → AllByRecursion (IsMine id) parts → AllByRecursion (IsMine id) (map (with_lowered tuple) parts)
  lowered_mine tuple [] all = tt
  lowered_mine tuple (p ∷ parts) all = (record { number = all.0.number; own = all.0.own }, lowered_mine tuple parts all.1)

  lowered_carry : (tuple : List (RingId × ℕ)) (parts : List RingPart) → AllByRecursion (RingPartCarries Is) parts → AllByRecursion (RingPartCarries Is) (map (with_lowered tuple) parts)
  lowered_carry tuple [] all = tt
  lowered_carry tuple (p ∷ parts) all = (record { votes = all.0.votes; role = all.0.role; held = all.0.held }, lowered_carry tuple parts all.1)

  lowered_fit : (tuple : List (RingId × ℕ)) (parts : List RingPart) → AllByRecursion MemberFits parts → AllByRecursion MemberFits (map (with_lowered tuple) parts)
  lowered_fit tuple [] all = tt
  lowered_fit tuple (p ∷ parts) all = (
    record { outstanding = all.0.outstanding; next = all.0.next; outside = λ e. let o = all.0.outside e in record { kept = o.kept; idle = o.idle; round = o.round } },
    lowered_fit tuple parts all.1,
  )

  lowers_keep : (tuple : List (RingId × ℕ)) → Keeps (lowers tuple)
  lowers_keep tuple a g = record {
    own = g.own;
    mine = lowered_mine tuple a.view.parts g.mine;
    parts = lowered_carry tuple a.view.parts g.parts;
    newest = g.newest;
    replica = g.replica;
    fits = record { view = record { parts = lowered_fit tuple a.view.parts g.fits.view.parts; replica = g.fits.view.replica; newest = g.fits.view.newest }; frames = g.fits.frames; replies = g.fits.replies; epoch = g.fits.epoch };
  }

  printed : (lines : List Line) → Keeps (prints lines)
  printed lines a g = prints_ground Is given fine id lines a g

  sent : (frames : List Sent) (a : StepSoFar) → AllFit fine id frames → Grounded a → Grounded (sends_all frames a)
  sent frames a are g = sends_ground Is given fine id frames a are g

  -- ---- restoring and choosing

  restores_keep : (config : Config) (service : Service) (tuple : List (RingId × ℕ)) (replica : Replica) → IsAble service → IsSound service.partition replica → Keeps (restores config service tuple replica)
  unfolding restores
  restores_keep config service tuple replica able sound a g =
      let told : StepSoFar = prints (Restore a.view.id (instances tuple) ∷ []) a in
      let lowered : StepSoFar = lowers tuple told in
      let stage : Stage = Ready (record { tuple = tuple; replica = replica; delivered = 0 }) in
      merges_ground Is given fine id config (with_stage service stage lowered)
      (stage_ground Is given fine id service stage lowered able.logs sound (record { attempts = able.attempts; rings = able.rings; stage = tt }) (lowers_keep tuple told (printed (Restore a.view.id (instances tuple) ∷ []) a g)))

  stays : (service : Service) (attempt : Attempt) → IsAble service → IsGoing attempt → Keeps (with_stage service (Recovering attempt))
  stays service attempt able going a g = stage_ground Is given fine id service (Recovering attempt) a able.logs going.bytes (record { attempts = able.attempts; rings = able.rings; stage = (going.number, going.gathered) }) g

  read_keeps : (config : Config) (service : Service) (tuple : List (RingId × ℕ)) (bytes : List ℕ) → IsAble service → IsBytes bytes → Keeps (restores_read config service tuple (state_of service.partition bytes))
  read_keeps config service tuple bytes able are a g = by (state_of service.partition bytes) refl
    where
      by : (o : Option Replica) → state_of service.partition bytes ≡ o → Grounded (restores_read config service tuple o a)
      by None is = g
      by (Some replica) is = restores_keep config service tuple replica able (sound_read service.partition bytes replica are is) a g

  installs_keep : (config : Config) (service : Service) (o : Option Checkpoint) → IsAble service → NewestKeeps o → Keeps (installs_own config service o)
  installs_keep config service None able keeps a g = restores_keep config service (first_tuple service.partition.rings) (empty_replica service.partition) able (sound_empty service.partition able.logs) a g
  installs_keep config service (Some newest) able keeps a g = read_keeps config service newest.tuple newest.state able keeps a g

  asks_part_fit : (view : View) (attempt : Attempt) (choice : Choice) → view.id ≡ id → fine (epoch_of view) → attempt.number < 2 ^ 32 → length choice.bytes < 2 ^ 64 → AllFit fine id (asks_part view attempt choice)
  asks_part_fit view attempt choice own low number short = to_fits fine id view.id choice.from (body.AskPart (epoch_of view) attempt.number choice.tuple (length choice.bytes)) own (number, short, low)

  gathers_keep : (config : Config) (service : Service) (attempt : Attempt) (choice : Choice) → IsAble service → attempt.number < 2 ^ 32 → IsBytes choice.bytes → length choice.bytes < 2 ^ 64
      → Keeps (gathers config service attempt choice)
  gathers_keep config service attempt choice able number are short a g = by (choice.from.0 == a.view.id.0)
    where
      chosen : Attempt
      chosen = record attempt { choice = Some choice }

      now : Grounded (with_stage service (Recovering (record attempt { choice = Some choice })) a)
      now = stays service (record attempt { choice = Some choice }) able (record { number = number; gathered = short; bytes = are }) a g

      by : (t : Bool) → Grounded (if t then installs_own config service a.view.checkpoints.newest (with_stage service (Recovering (record attempt { choice = Some choice })) a)
          else sends_all (asks_part a.view attempt choice) (with_stage service (Recovering (record attempt { choice = Some choice })) a))
      by true = installs_keep config service a.view.checkpoints.newest able g.newest (with_stage service (Recovering (record attempt { choice = Some choice })) a) now
      by false = sent (asks_part a.view attempt choice) (with_stage service (Recovering (record attempt { choice = Some choice })) a) (asks_part_fit a.view attempt choice g.own g.fits.epoch number short) now

  chooses_keep : (config : Config) (service : Service) (attempt : Attempt) (best : NodeId × List (RingId × ℕ)) → IsAble service → attempt.number < 2 ^ 32 → Keeps (chooses config service attempt best)
  unfolding chooses
  chooses_keep config service attempt best able number a g =
      let line : List Line = Chose a.view.id (epoch_of a.view) attempt.number (instances best.1) best.0 ∷ [] in
      gathers_keep config service attempt (record { tuple = best.1; from = best.0; bytes = [] }) able number no_bytes (omega arith) (prints line a) (printed line a g)

  best_keeps : (config : Config) (service : Service) (attempt : Attempt) (answers : List (NodeId × List (RingId × ℕ))) → IsAble service → IsGoing attempt → Keeps (chooses_best config service attempt answers)
  best_keeps config service attempt [] able going a g = stays service attempt able going a g
  best_keeps config service attempt (answer ∷ answers) able going a g = chooses_keep config service attempt (best_of a.view.id answer answers) able going.number a g

  quorum_keeps : (config : Config) (service : Service) (attempt : Attempt) → IsAble service → IsGoing attempt → Keeps (chooses_if_quorum config service attempt)
  quorum_keeps config service attempt able going a g = by (nat_le service.partition.recovery_quorum (length attempt.answers))
    where
      by : (t : Bool) → Grounded (if t then chooses_best config service attempt attempt.answers a else with_stage service (Recovering attempt) a)
      by true = best_keeps config service attempt attempt.answers able going a g
      by false = stays service attempt able going a g

  -- ---- attempts

  asks_fit : (view : View) (number : ℕ) (nodes : List NodeId) → view.id ≡ id → fine (epoch_of view) → number < 2 ^ 32 → AllFit fine id (flat_map (asks_checkpoint view number) nodes)
  asks_fit view number nodes own low lt = each_fits (asks_checkpoint view number) (λ node. to_fits fine id view.id node (body.AskCheckpoint (epoch_of view) number) own (lt, low)) nodes

  pub begins_keep : (config : Config) (service : Service) → IsAble service → Keeps (begins config service)
  unfolding begins
  begins_keep config service able a g = by (nat_lt service.attempts (2 ^ 32 - 1)) refl
    where
      by : (t : Bool) → nat_lt service.attempts (2 ^ 32 - 1) ≡ t → Grounded (if t then begins_next config service a else prints (AttemptLimit a.view.id ∷ []) a)
      by false e = printed (AttemptLimit a.view.id ∷ []) a g
      by true e =
          let under : service.attempts < 2 ^ 32 - 1 = grind (arith, nat_tests) in
          let number : ℕ = service.attempts + 1 in
          let low : service.attempts + 1 < 2 ^ 32 = omega arith in
          let line : List Line = Begin a.view.id (epoch_of a.view) number (instances (own_tuple a.view service)) ∷ [] in
          let asked : List Sent = flat_map (asks_checkpoint a.view number) (others_of a.view.id service.partition) in
          quorum_keeps config (record service { attempts = number }) (record { number = number; ticks = 0; answers = (a.view.id, own_tuple a.view service) ∷ []; choice = None })
          (record { logs = able.logs; attempts = low; rings = able.rings }) (record { number = low; gathered = tt; bytes = tt }) (sends_all asked (prints line a))
          (sent asked (prints line a) (asks_fit a.view number (others_of a.view.id service.partition) g.own g.fits.epoch low) (printed line a g))

  pub answered_keeps : (config : Config) (service : Service) (attempt : Attempt) (from : NodeId) (epoch number : ℕ) (tuple : List (RingId × ℕ)) → IsAble service → IsGoing attempt
      → Keeps (answered_by config service attempt from epoch number tuple)
  unfolding answered_by
  answered_keeps config service attempt from epoch number tuple able going a g =
      by (is_of a.view attempt epoch number && (has_node service.partition.replicas from.0 && (not (has_answered from attempt.answers) && is_tuple_of (round_sizes config) service.partition.rings tuple)))
    where
      taken : (o : Option Choice) → Grounded (takes_answer config service attempt o from tuple a)
      taken (Some choice) = g
      taken None = quorum_keeps config service (record attempt { answers = attempt.answers ++ (from, tuple) ∷ [] }) able (record { number = going.number; gathered = going.gathered; bytes = going.bytes }) a g

      by : (t : Bool) → Grounded (if t then takes_answer config service attempt attempt.choice from tuple a else a)
      by true = taken attempt.choice
      by false = g

  or_begins_keeps : (config : Config) (service : Service) (tuple : List (RingId × ℕ)) (bytes : List ℕ) → IsAble service → IsBytes bytes → Keeps (restores_or_begins config service tuple (state_of service.partition bytes))
  or_begins_keeps config service tuple bytes able are a g = by (state_of service.partition bytes) refl
    where
      by : (o : Option Replica) → state_of service.partition bytes ≡ o → Grounded (restores_or_begins config service tuple o a)
      by None is = begins_keep config service able a g
      by (Some replica) is = restores_keep config service tuple replica able (sound_read service.partition bytes replica are is) a g

  more_keeps : (config : Config) (service : Service) (attempt : Attempt) (choice : Choice) (total : ℕ) → IsAble service → attempt.number < 2 ^ 32 → IsBytes choice.bytes → length choice.bytes < 2 ^ 64
      → Keeps (with_more config service attempt choice total)
  more_keeps config service attempt choice total able number are short a g = by (length choice.bytes == total)
    where
      by : (t : Bool) → Grounded (if t then restores_or_begins config service choice.tuple (state_of service.partition choice.bytes) a
          else sends_all (asks_part a.view attempt choice) (with_stage service (Recovering (record attempt { choice = Some choice })) a))
      by true = or_begins_keeps config service choice.tuple choice.bytes able are a g
      by false = sent (asks_part a.view attempt choice) (with_stage service (Recovering (record attempt { choice = Some choice })) a) (asks_part_fit a.view attempt choice g.own g.fits.epoch number short)
          (stays service (record attempt { choice = Some choice }) able (record { number = number; gathered = short; bytes = are }) a g)

  pub part_keeps : (config : Config) (service : Service) (attempt : Attempt) (from : NodeId) (epoch number : ℕ) (tuple : List (RingId × ℕ)) (offset total : ℕ) (bytes : List ℕ) → IsBytes bytes
      → total < 2 ^ 64 → 1 ≤ length bytes → length bytes ≡ min 16384 (total - offset) → IsAble service → IsGoing attempt → Keeps (takes_part config service attempt from epoch number tuple offset total bytes)
  unfolding takes_part
  part_keeps config service attempt from epoch number tuple offset total bytes more top some size able going a g = at attempt.choice going.gathered going.bytes
    where
      at : (o : Option Choice) → GatheredFits o → GatheredKeeps o → Grounded (part_for config service attempt o from epoch number tuple offset total bytes a)
      at None short are = g
      at (Some choice) short are = by (is_of a.view attempt epoch number && (is_of_choice choice from tuple && (offset == length choice.bytes))) refl
        where
          by : (t : Bool) → (is_of a.view attempt epoch number && (is_of_choice choice from tuple && (offset == length choice.bytes))) ≡ t
              → Grounded (if t then with_more config service attempt (record choice { bytes = choice.bytes ++ bytes }) total a else a)
          by false e = g
          by true e =
              let later = (and_parts (is_of a.view attempt epoch number) (is_of_choice choice from tuple && (offset == length choice.bytes)) e).1 in
              let at : offset ≡ length choice.bytes = same_number offset (length choice.bytes) (and_parts (is_of_choice choice from tuple) (offset == length choice.bytes) later).1 in
              let joined = length-append choice.bytes bytes in
              more_keeps config service attempt (record choice { bytes = choice.bytes ++ bytes }) total able going.number (bytes_join choice.bytes bytes are more) (grind arith) a g

  pub gone_keeps : (config : Config) (service : Service) (attempt : Attempt) (from : NodeId) (epoch number : ℕ) (asked newer : List (RingId × ℕ)) → IsAble service → IsGoing attempt
      → Keeps (takes_gone config service attempt from epoch number asked newer)
  unfolding takes_gone
  gone_keeps config service attempt from epoch number asked newer able going a g = at attempt.choice
    where
      at : (o : Option Choice) → Grounded (gone_for config service attempt o from epoch number asked newer a)
      at None = g
      at (Some choice) = by (is_of a.view attempt epoch number && (is_of_choice choice from asked && (is_tuple_of (round_sizes config) service.partition.rings newer && is_after choice.tuple newer)))
        where
          by : (t : Bool) → Grounded (if t then chooses config service attempt (choice.from, newer) a else a)
          by true = chooses_keep config service attempt (choice.from, newer) able going.number a g
          by false = g

  -- ---- what is asked of this node

  pub tells_keep : (service : Service) (from : NodeId) (epoch number : ℕ) → number < 2 ^ 32 → fine epoch → Keeps (tells_checkpoint service from epoch number)
  tells_keep service from epoch number lt low a g = sent _ a (to_fits fine id a.view.id from (body.HaveCheckpoint epoch number (own_tuple a.view service)) g.own (lt, low)) g

  -- a part as long as it is to be, of a state of this length
  abbrev AnswerFits : ℕ → PartAnswer → Type 0
  AnswerFits offset (PartOf total bytes) = (offset < 2 ^ 64) × (total < 2 ^ 64) × (1 ≤ length bytes) × (length bytes ≡ min 16384 (total - offset))
  AnswerFits offset (Gone newer) = Unit {0}
  AnswerFits offset Unknown = Unit {0}

  part_is : (checkpoints : Checkpoints) (tuple : List (RingId × ℕ)) (offset : ℕ) → NewestFits checkpoints.newest → AnswerFits offset (part_of checkpoints tuple offset)
  part_is checkpoints tuple offset = by checkpoints.newest
    where
      by : (o : Option Checkpoint) → NewestFits o → AnswerFits offset (part_in o tuple offset)
      by None short = tt
      by (Some newest) short = which (is_after tuple newest.tuple) (is_same_tuple tuple newest.tuple) (nat_lt offset (length newest.state)) refl
        where
          which : (gone here inside : Bool) → nat_lt offset (length newest.state) ≡ inside
              → AnswerFits offset (if gone then Gone newest.tuple
              else if here then (if inside then PartOf (length newest.state) (take (part_size (offset, length newest.state)) (drop offset newest.state)) else Unknown)
              else Unknown)
          which true here inside e = tt
          which false true true e =
              let lt : offset < length newest.state = grind (arith, nat_tests) in
              let rest = length-drop offset newest.state in
              let size : length (take (part_size (offset, length newest.state)) (drop offset newest.state)) ≡ min 16384 (length newest.state - offset) =
              (let taken = length-take (part_size (offset, length newest.state)) (drop offset newest.state) in grind arith) in
              (omega arith, short, grind arith, size)
          which false true false e = tt
          which false false inside e = tt

  pub tells_part_keeps : (config : Config) (service : Service) (from : NodeId) (epoch number : ℕ) (tuple : List (RingId × ℕ)) (offset : ℕ) → number < 2 ^ 32 → fine epoch → Keeps (tells_part config service from epoch number tuple offset)
  tells_part_keeps config service from epoch number tuple offset lt low a g = by (is_tuple_of (round_sizes config) service.partition.rings tuple)
    where
      answers : (x : PartAnswer) → AnswerFits offset x → AllFit fine id (flat_map (sends_to a.view.id from) (answer_part epoch number tuple offset x))
      answers (PartOf total bytes) are = append_all (SentFits fine id) (sends_to a.view.id from (body.Part epoch number tuple offset total bytes)) []
          (to_fits fine id a.view.id from (body.Part epoch number tuple offset total bytes) g.own (lt, are.0, are.1, are.2, are.3, low)) tt
      answers (Gone newer) are = append_all (SentFits fine id) (sends_to a.view.id from (body.Gone epoch number tuple newer)) [] (to_fits fine id a.view.id from (body.Gone epoch number tuple newer) g.own (lt, low)) tt
      answers Unknown are = tt

      by : (t : Bool) → Grounded (if t then sends_all (flat_map (sends_to a.view.id from) (answer_part epoch number tuple offset (part_of a.view.checkpoints tuple offset))) a else a)
      by true = sent _ a (answers (part_of a.view.checkpoints tuple offset) (part_is a.view.checkpoints tuple offset g.fits.view.newest)) g
      by false = g

  -- ---- ticks of an attempt

  ends_keep : (config : Config) (service : Service) (attempt : Attempt) → IsAble service → Keeps (ends_attempt config service attempt)
  ends_keep config service attempt able a g = by (nat_lt (length attempt.answers) service.partition.recovery_quorum)
    where
      line : List Line
      line = Refuse a.view.id (epoch_of a.view) attempt.number (length attempt.answers) service.partition.recovery_quorum ∷ []

      by : (t : Bool) → Grounded (if t then begins config service (prints (Refuse a.view.id (epoch_of a.view) attempt.number (length attempt.answers) service.partition.recovery_quorum ∷ []) a)
          else begins config service a)
      by true = begins_keep config service able (prints line a) (printed line a g)
      by false = begins_keep config service able a g

  ticks_keep : (config : Config) (again : Bool) (service : Service) (attempt : Attempt) → IsAble service → IsGoing attempt → Keeps (ticks_attempt config again service attempt)
  ticks_keep config again service attempt able going a g = by (attempt.ticks == config.attempt)
    where
      missing : (o : Option Choice) → GatheredFits o → AllFit fine id (asks_missing service attempt o a.view)
      missing None short = asks_fit a.view attempt.number (filter (λ node. not (has_answered node attempt.answers)) (others_of a.view.id service.partition)) g.own g.fits.epoch going.number
      missing (Some choice) short = asks_part_fit a.view attempt choice g.own g.fits.epoch going.number short

      asked : (t : Bool) → AllFit fine id (if t then asks_missing service attempt attempt.choice a.view else [])
      asked true = missing attempt.choice going.gathered
      asked false = tt

      by : (t : Bool) → Grounded (if t then ends_attempt config service attempt (with_stage service (Recovering attempt) a)
          else sends_all (if again then asks_missing service attempt attempt.choice a.view else []) (with_stage service (Recovering attempt) a))
      by true = ends_keep config service attempt able (with_stage service (Recovering attempt) a) (stays service attempt able going a g)
      by false = sent (if again then asks_missing service attempt attempt.choice a.view else []) (with_stage service (Recovering attempt) a) (asked again) (stays service attempt able going a g)

  able_of : (service : Service) → HasFewLogs service.partition → ServiceFits service → IsAble service
  able_of service logs fits = record { logs = logs; attempts = fits.attempts; rings = fits.rings }

  pub recovery_keeps : (config : Config) (again : Bool) (o : Option Service) → ReplicaKeeps o → ReplicaFits o → Keeps (recovery_ticks_at config again o)
  recovery_keeps config again None keeps fits a g = g
  recovery_keeps config again (Some service) keeps fits a g = at service.stage keeps.stage fits.stage
    where
      at : (stage : Stage) → StageKeeps service.partition stage → StageFits stage → Grounded (recovery_ticks config again service stage a)
      at (Ready standing) now f = g
      at (Recovering attempt) now f = ticks_keep config again service (record attempt { ticks = attempt.ticks + 1 }) (able_of service keeps.logs fits) (record { number = f.0; gathered = f.1; bytes = now }) a g

  -- ---- a replica that waits below a trim, and what asks a replica

  pub recovers_if_trimmed_keeps : (config : Config) (ring : RingId) (trim : ℕ) → Keeps (recovers_if_trimmed config ring trim)
  recovers_if_trimmed_keeps config ring trim a g = by_service a.view.service g.replica g.fits.view.replica
    where
      by_stage : (service : Service) (stage : Stage) → IsAble service → Grounded (begins_if_waits_below config ring trim service stage a)
      by_stage service (Recovering attempt) able = g
      by_stage service (Ready standing) able = by (waits_below ring trim (place_of config standing))
        where
          by : (t : Bool) → Grounded (if t then begins config service a else a)
          by true = begins_keep config service able a g
          by false = g

      by_service : (o : Option Service) → ReplicaKeeps o → ReplicaFits o → Grounded (after_trim config ring trim o a)
      by_service None keeps fits = g
      by_service (Some service) keeps fits = by_stage service service.stage (able_of service keeps.logs fits)

  pub safe_keeps : (from : NodeId) (ring : RingId) (round : ℕ) (a : StepSoFar) → Grounded a → Grounded (tells_safe from ring round (safe_of a.view ring a.view.service) a)
  safe_keeps from ring round a g = by_service a.view.service g.fits.view.replica
    where
      by_service : (o : Option Service) → ReplicaFits o → Grounded (tells_safe from ring round (safe_of a.view ring o) a)
      by_service None fits = g
      by_service (Some service) fits = by (has_ring service.partition.rings ring.0) refl
        where
          by : (t : Bool) → has_ring service.partition.rings ring.0 ≡ t → Grounded (tells_safe from ring round (if t then Some (safe_in ring a.view.checkpoints.newest) else None) a)
          by false e = g
          by true e = sent _ a (to_fits fine id a.view.id from (body.Safe ring round (safe_in ring a.view.checkpoints.newest)) g.own (low_ring service.partition.rings ring fits.rings e)) g

  pub service_keeps : (rule : Service → StepSoFar → StepSoFar) → ((s : Service) → Keeps (rule s)) → (o : Option Service) → Keeps (at_service rule o)
  service_keeps rule each None a g = g
  service_keeps rule each (Some service) a g = each service a g

  pub recovering_keeps : (rule : Service → Attempt → StepSoFar → StepSoFar) → ((s : Service) (now : Attempt) → IsAble s → IsGoing now → Keeps (rule s now)) → (o : Option Service)
      → ReplicaKeeps o → ReplicaFits o → Keeps (recovering rule o)
  recovering_keeps rule each None keeps fits a g = g
  recovering_keeps rule each (Some service) keeps fits a g = at service.stage keeps.stage fits.stage
    where
      at : (stage : Stage) → StageKeeps service.partition stage → StageFits stage → Grounded (at_attempt (rule service) stage a)
      at (Ready standing) now f = g
      at (Recovering attempt) now f = each service attempt (able_of service keeps.logs fits) (record { number = f.0; gathered = f.1; bytes = now }) a g

  -- ---- a beat

  fetch_fits : (own to : NodeId) (ring : RingId) (lo : ℕ) → own ≡ id → IsRing ring → AllFit fine id (sends_to own to (body.Fetch ring lo))
  fetch_fits own to ring lo mine low = go (to.0 == own.0 || nat_le END lo) refl
    where
      under : (x y : Bool) → (x || y) ≡ false → y ≡ false
      under true y e = absurd (true≢false e)
      under false y e = e

      go : (t : Bool) → (to.0 == own.0 || nat_le END lo) ≡ t → AllFit fine id (if t then [] else (record { to = Node to; frame = record { from = Node own; body = body.Fetch ring lo } }) ∷ [])
      go true e = tt
      go false e =
          let late = under (to.0 == own.0) (nat_le END lo) e in
          let lt : lo < END = grind (arith, nat_tests) in
          (record { from = ap (λ (n : NodeId). Node n) mine; to = tt; fits = (low, lt) }, tt)

  found_mine : (parts : List RingPart) (ring : RingId) (p : RingPart) → AllByRecursion (IsMine id) parts → member_in parts ring ≡ Some p → IsMine id p × (p.ring.id.0 ≡ ring.0)
  found_mine [] ring p all e = absurd (cc)
  found_mine (x ∷ parts) ring p all e = by (x.ring.id.0 == ring.0) refl e (λ h. found_mine parts ring p all.1 h)
    where
      by : (t : Bool) → (x.ring.id.0 == ring.0) ≡ t → (if t then Some x else member_in parts ring) ≡ Some p → (member_in parts ring ≡ Some p → IsMine id p × (p.ring.id.0 ≡ ring.0)) → IsMine id p × (p.ring.id.0 ≡ ring.0)
      by true same h later = let is : x ≡ p = cc in subst (λ (q : RingPart). IsMine id q × (q.ring.id.0 ≡ ring.0)) is (all.0, same_number x.ring.id.0 ring.0 same)
      by false other h later = later h

  fetches_keep : (turn : ℕ) (place : RingId × ℕ) (a : StepSoFar) → Grounded a → Grounded (fetches_at turn place (part_at a.view place.0) a)
  fetches_keep turn place a g = at (part_at a.view place.0) refl
    where
      at : (o : Option RingPart) → part_at a.view place.0 ≡ o → Grounded (fetches_at turn place o a)
      at None e = g
      at (Some p) e =
          let m = found_mine a.view.parts place.0 p g.mine e in
          let same = m.1 in
          let number = m.0.number in
          sent (sends p.ring (turn_of a.view.id p.ring.acceptors turn) (body.Fetch place.0 place.1)) a (to (turn_of a.view.id p.ring.acceptors turn) m.0.own (omega arith)) g
        where
          to : (o : Option NodeId) → p.ring.own ≡ id → IsRing place.0 → AllFit fine id (sends p.ring o (body.Fetch place.0 place.1))
          to None own low = tt
          to (Some node) own low = fetch_fits p.ring.own node place.0 place.1 own low

  missing_keeps : (config : Config) (turn : ℕ) (o : Option Service) → Keeps (fetches_missing config turn o)
  missing_keeps config turn None a g = g
  missing_keeps config turn (Some service) a g = at service.stage
    where
      at : (stage : Stage) → Grounded (fetches_stage config turn stage a)
      at (Recovering attempt) = g
      at (Ready standing) = fetches_keep turn (place_of config standing) a g

  greets_keep : (config : Config) → Keeps (greets config)
  greets_keep config a g =
      sent (flat_map (λ (node : NodeTable). sends_to a.view.id node.id body.Hello) (filter (shares_ring a.view) config.nodes)) a
      (each_fits (λ (node : NodeTable). sends_to a.view.id node.id body.Hello) (λ node. to_fits fine id a.view.id node.id body.Hello g.own tt) (filter (shares_ring a.view) config.nodes)) g

  pub beat_keeps : (config : Config) (turn : ℕ) → Keeps (asks_on_beat config turn)
  beat_keeps config turn a g = greets_keep config (fetches_missing config turn a.view.service a) (missing_keeps config turn a.view.service a g)
