-- The frames and ticks of recovery.
use Rattle.std.proofs.Common.{◌≡◌, ℕ, ◌+◌, inl, inr, Bool, true, false, List, [], ◌∷◌, ◌++◌, Option, Some, None, refl, sym, ◌∙◌, ap, subst, arith, append-nil, append_assoc}
use Rattle.std.specs.Prelude.{◌==◌, nat_lt, ◌&&◌, not, if◌then◌else◌, length, take, drop, filter}
use Rattle.std.specs.List.{AllByRecursion, flat_map}
use Rattle.std.proofs.lemmas.Bool.Decides.{nat_tests}
use Rattle.std.proofs.lemmas.List.{take-append-drop, drop_at, length-append}
use Rattle.mrp_types.specs.declared.id.NodeId.{NodeId}
use Rattle.mrp_types.specs.declared.id.RingId.{RingId}
use Rattle.mrp_types.specs.declared.value.Entry.{Entry}
use Rattle.mrp_config.specs.Config.{Config, has_node, partition_of}
use Rattle.mrp_config.specs.declared.tables.PartitionTable.{PartitionTable}
use Rattle.frames.specs.declared.body.Body.{Body}
use Rattle.frames.specs.declared.body.Body.TheVariants.{AskCheckpoint, HaveCheckpoint, AskPart, Part as PartFrame, Gone as GoneFrame, Safe}
use Rattle.frames.specs.declared.sent.Sent.{Sent}
use Rattle.frames.specs.Grammar.{part_of as part_size}
use Rattle.checkpoint.specs.Checkpoints.{Checkpoint, PartAnswer, Part as PartOf, Gone, Unknown, part_of, part_in, part_at, is_same_tuple, is_after}
use Rattle.state_laws.specs.Books.{AreOfBytes}
use Rattle.state_laws.proofs.Given.{state-read}
use Rattle.plain_model.specs.Replicas.{Replica}
use Rattle.plain_model.specs.StateBytes.{state_bytes, state_of}
use Rattle.plain_model.specs.Tuples.{round_sizes, is_tuple_of}
use Rattle.plain_model.specs.Fold.{entries_below, replica_after}
use Rattle.plain_model.proofs.TupleOrder.{split_and}
use Rattle.protocol.specs.Lines.{Line, Refuse}
use Rattle.protocol.specs.Rings.{sends_to}
use Rattle.protocol.specs.Trimming.{has_answered}
use Rattle.protocol.specs.Node.{StepSoFar, Service, Stage, Recovering, Ready, Attempt, Choice, with_stage, prints, sends_all}
use Rattle.protocol.specs.Merging.{place_of}
use Rattle.protocol.specs.Recovery.{epoch_of, own_tuple, others_of, is_of, takes_answer, answered_by, is_of_choice, restores_or_begins, with_more, part_for, takes_part, gone_for, takes_gone, chooses, chooses_if_quorum, tells_checkpoint, answer_part, tells_part, asks_part, asks_checkpoint, asks_missing, ends_attempt, begins, recovery_ticks, safe_of}
use Rattle.protocol.specs.Step.{tells_safe, recovers_if_trimmed, after_trim, begins_if_waits_below, waits_below}
use Rattle.line_rules.specs.Scanners.{learned}
use Rattle.faithful.proofs.Ordering.{same_tuple}
use Rattle.quiet_rules.specs.Quiet.{IsPlainSent}
use Rattle.quiet_rules.proofs.Words.{by_test}
use Rattle.quorums.proofs.Each.{appended}
use Rattle.state_steps.specs.Folded.{AreBytesAt, IsFrontAt, AreGathered, IsPartAt, BodyFolded, SentFolded}
use Rattle.state_steps.specs.States.{IsLimited, IsCheckpointAt, NewestAt, ChoiceAt, ServiceAt, ReplicaAt, ActAt, AfterAt}
use Rattle.state_steps.proofs.Growing.{below_bytes, one_state}
use Rattle.state_steps.proofs.Words.{as_it_was, act_line, act_sends, act_plain, act_stage, all_flat, plain_sends, folded_sends}
use Rattle.state_steps.proofs.Restoring.{restored, newest_now, choosing, quorum_chooses, beginning}

same_num : (i j : ℕ) → (i == j) ≡ true → i ≡ j
same_num i j e = grind (arith, nat_tests)

-- a front as long as the whole is the whole
all_there : (front rest whole : List ℕ) → front ++ rest ≡ whole → length front ≡ length whole → front ≡ whole
all_there front rest whole e n = sym (append-nil front) ∙ ap (λ (r : List ℕ). front ++ r) (sym (none rest size)) ∙ e
  where
    none : (r : List ℕ) → length r ≡ 0 → r ≡ []
    none [] h = refl
    none (x ∷ r) h = absurd (grind arith)

    size : length rest ≡ 0
    size = let a : length (front ++ rest) ≡ length front + length rest = length-append front rest in let b : length (front ++ rest) ≡ length whole = ap (λ (xs : List ℕ). length xs) e in omega arith

module _ (c : Config) (limited : IsLimited c) (before : List Line) (a : StepSoFar) (lines : List Line) (at : ActAt c before lines a) where
  -- ---- what is asked of this node

  pub checkpoint_told : (service : Service) (from : NodeId) (epoch number : ℕ) → AfterAt c before (tells_checkpoint service from epoch number a)
  checkpoint_told service from epoch number = record {
    lines = lines;
    at = act_plain c before lines a at (sends_to a.view.id from (HaveCheckpoint epoch number (own_tuple a.view service))) (plain_sends a.view.id from (HaveCheckpoint epoch number (own_tuple a.view service)) tt);
  }

  pub safe_told : (from : NodeId) (ring : RingId) (round : ℕ) (o : Option ℕ) → AfterAt c before (tells_safe from ring round o a)
  safe_told from ring round None = as_it_was c before lines a at
  safe_told from ring round (Some inst) = record { lines = lines; at = act_plain c before lines a at (sends_to a.view.id from (Safe ring round inst)) (plain_sends a.view.id from (Safe ring round inst) tt) }

  module _ (service : Service) (there : partition_of c.partitions a.view.id ≡ Some service.partition) where
    pub part_told : (from : NodeId) (epoch number : ℕ) (tuple : List (RingId × ℕ)) (offset : ℕ) → AfterAt c before (tells_part c service from epoch number tuple offset a)
    part_told from epoch number tuple offset =
        by_test (AfterAt c before) (is_tuple_of (round_sizes c) service.partition.rings tuple) _ a
        (λ e. record { lines = lines; at = act_sends c before lines a at (flat_map (sends_to a.view.id from) (answer_part epoch number tuple offset (part_of a.view.checkpoints tuple offset))) (by_newest a.view.checkpoints.newest (newest_now c limited before service a lines at there)) })
        (as_it_was c before lines a at)
      where
        Said : PartAnswer → Type 0
        Said answer = AllByRecursion (SentFolded c lines) (flat_map (sends_to a.view.id from) (answer_part epoch number tuple offset answer))

        by_body : (body : Body) → BodyFolded c lines a.view.id body → AllByRecursion (SentFolded c lines) (flat_map (sends_to a.view.id from) (body ∷ []))
        by_body body s = appended (SentFolded c lines) (sends_to a.view.id from body) [] (folded_sends c lines a.view.id from body s) tt

        by_part : (newest : Checkpoint) → IsCheckpointAt c lines service.partition newest → tuple ≡ newest.tuple → Said (part_at (length newest.state) offset newest.state)
        by_part newest k same =
            by_test Said (nat_lt offset (length newest.state)) (PartOf (length newest.state) (take (part_size (offset, length newest.state)) (drop offset newest.state))) Unknown
            (λ e. by_body (PartFrame epoch number tuple offset (length newest.state) (take (part_size (offset, length newest.state)) (drop offset newest.state))) (record {
              partition = service.partition;
              replica = there;
              state = newest.state;
              whole = subst (λ (bytes : List ℕ). AreBytesAt c lines service.partition tuple bytes) (sym k.bytes)
                  (below_bytes c lines service.partition tuple k.entries (ap (λ (t : List (RingId × ℕ)). entries_below (round_sizes c) (learned lines) t) same ∙ k.below));
              total_is = refl;
              within = grind (arith, nat_tests);
              part = refl;
            })) tt

        by_newest : (o : Option Checkpoint) → NewestAt c lines (Some service.partition) o → Said (part_in o tuple offset)
        by_newest None k = tt
        by_newest (Some newest) k = by_test Said (is_after tuple newest.tuple) (Gone newest.tuple) (if is_same_tuple tuple newest.tuple then part_at (length newest.state) offset newest.state else Unknown)
            (λ t. by_body (GoneFrame epoch number tuple newest.tuple) tt)
            (by_test Said (is_same_tuple tuple newest.tuple) (part_at (length newest.state) offset newest.state) Unknown (λ t. by_part newest k (same_tuple service.partition.rings tuple newest.tuple t)) tt)

    -- ---- an attempt

    pub answer_taken : (attempt : Attempt) (from : NodeId) (epoch number : ℕ) (tuple : List (RingId × ℕ)) → AfterAt c before (answered_by c service attempt from epoch number tuple a)
    unfolding answered_by
    answer_taken attempt from epoch number tuple =
        by_test (AfterAt c before)
        (is_of a.view attempt epoch number && (has_node service.partition.replicas from.0 && (not (has_answered from attempt.answers) && is_tuple_of (round_sizes c) service.partition.rings tuple)))
        (takes_answer c service attempt attempt.choice from tuple a) a (λ e. by_choice attempt.choice refl) (as_it_was c before lines a at)
      where
        by_choice : (o : Option Choice) → attempt.choice ≡ o → AfterAt c before (takes_answer c service attempt o from tuple a)
        by_choice (Some choice) e = as_it_was c before lines a at
        by_choice None e = quorum_chooses c limited before service (record attempt { answers = attempt.answers ++ (from, tuple) ∷ [] }) a lines at there (subst (λ (o : Option Choice). ChoiceAt c lines service.partition o) (sym e) tt)

    pub gone_taken : (attempt : Attempt) (from : NodeId) (epoch number : ℕ) (asked newer : List (RingId × ℕ)) → AfterAt c before (takes_gone c service attempt from epoch number asked newer a)
    unfolding takes_gone
    gone_taken attempt from epoch number asked newer = by_choice attempt.choice
      where
        by_choice : (o : Option Choice) → AfterAt c before (gone_for c service attempt o from epoch number asked newer a)
        by_choice None = as_it_was c before lines a at
        by_choice (Some choice) = by_test (AfterAt c before)
            (is_of a.view attempt epoch number && (is_of_choice choice from asked && (is_tuple_of (round_sizes c) service.partition.rings newer && is_after choice.tuple newer))) (chooses c service attempt (choice.from, newer) a) a
            (λ e. choosing c limited before service attempt (choice.from, newer) a lines at there) (as_it_was c before lines a at)

    -- a part more of a chosen checkpoint
    module _ (choice : Choice) (attempt : Attempt) (tuple : List (RingId × ℕ)) (offset total : ℕ) (bytes : List ℕ) (given : AreOfBytes (learned lines)) (valid : is_tuple_of (round_sizes c) service.partition.rings choice.tuple ≡ true)
        (k : IsPartAt c lines choice.from choice.tuple (length choice.bytes) total bytes) (theirs : partition_of c.partitions choice.from ≡ Some service.partition) (gathered : AreGathered c lines service.partition choice.tuple choice.bytes) where
      some_same : (u v : PartitionTable) → Some u ≡ Some v → u ≡ v
      some_same u v e = cc

      state : AreBytesAt c lines service.partition choice.tuple k.state
      state = subst (λ (q : PartitionTable). AreBytesAt c lines q choice.tuple k.state) (some_same k.partition service.partition (sym k.replica ∙ theirs)) k.whole

      -- what is missing before it
      missing : (rest : List ℕ) × (choice.bytes ++ rest ≡ k.state)
      missing = go gathered
        where
          go : AreGathered c lines service.partition choice.tuple choice.bytes → (rest : List ℕ) × (choice.bytes ++ rest ≡ k.state)
          go (inl none) = (k.state, ap (λ (xs : List ℕ). xs ++ k.state) none)
          go (inr front) = (front.rest, one_state c lines service.partition choice.tuple (choice.bytes ++ front.rest) k.state front.whole state)

      joined : (rest : List ℕ) × ((choice.bytes ++ bytes) ++ rest ≡ k.state)
      joined =
          let n : ℕ = part_size (length choice.bytes, length k.state) in
          let cut : drop (length choice.bytes) k.state ≡ missing.0 = ap (λ (xs : List ℕ). drop (length choice.bytes) xs) (sym missing.1) ∙ drop_at choice.bytes missing.0 (length choice.bytes) refl in (
            drop n missing.0,
            append_assoc choice.bytes bytes (drop n missing.0) ∙ ap (λ (xs : List ℕ). choice.bytes ++ xs)
                (ap (λ (xs : List ℕ). xs ++ drop n missing.0) (k.part ∙ ap (λ (xs : List ℕ). take n xs) cut) ∙ take-append-drop n missing.0) ∙ missing.1,
          )

      more : Choice
      more = record choice { bytes = choice.bytes ++ bytes }

      front : IsFrontAt c lines service.partition choice.tuple (choice.bytes ++ bytes)
      front = record { rest = joined.0; whole = subst (λ (xs : List ℕ). AreBytesAt c lines service.partition choice.tuple xs) (sym joined.1) state }

      pub more_taken : AfterAt c before (with_more c service attempt (record choice { bytes = choice.bytes ++ bytes }) total a)
      more_taken = by_test (AfterAt c before) (length (choice.bytes ++ bytes) == total) (restores_or_begins c service choice.tuple (state_of service.partition (choice.bytes ++ bytes)) a)
          (sends_all (asks_part a.view attempt (record choice { bytes = choice.bytes ++ bytes })) staged) all (record {
            lines = lines;
            at = act_plain c before lines staged (act_stage c before lines a at service stage (record { replica = there; stage = inr front })) (asks_part a.view attempt (record choice { bytes = choice.bytes ++ bytes }))
                (plain_sends a.view.id choice.from (AskPart (epoch_of a.view) attempt.number choice.tuple (length (choice.bytes ++ bytes))) tt);
          })
        where
          stage : Stage
          stage = Recovering (record attempt { choice = Some (record choice { bytes = choice.bytes ++ bytes }) })

          staged : StepSoFar
          staged = with_stage service stage a

          all : (length (choice.bytes ++ bytes) == total) ≡ true → AfterAt c before (restores_or_begins c service choice.tuple (state_of service.partition (choice.bytes ++ bytes)) a)
          all e =
              let size : length (choice.bytes ++ bytes) ≡ length k.state = same_num (length (choice.bytes ++ bytes)) total e ∙ k.total_is in
              let whole : choice.bytes ++ bytes ≡ k.state = all_there (choice.bytes ++ bytes) joined.0 k.state joined.1 size in
              let read = state-read (round_sizes c) (learned lines) service.partition choice.tuple k.state (limited.partitions a.view.id service.partition there).logs given state in
              subst (λ (o : Option Replica). AfterAt c before (restores_or_begins c service choice.tuple o a)) (sym (ap (λ (xs : List ℕ). state_of service.partition xs) whole ∙ read.2))
              (restored c limited before service choice.tuple (replica_after service.partition read.0) a lines at there valid (record { entries = read.0; below = read.1; same = refl }))

    pub part_taken : (attempt : Attempt) (from : NodeId) (epoch number : ℕ) (tuple : List (RingId × ℕ)) (offset total : ℕ) (bytes : List ℕ) → AreOfBytes (learned lines)
        → ((choice : Choice) → attempt.choice ≡ Some choice → (is_tuple_of (round_sizes c) service.partition.rings choice.tuple ≡ true) × (partition_of c.partitions choice.from ≡ Some service.partition))
        → ChoiceAt c lines service.partition attempt.choice → IsPartAt c lines from tuple offset total bytes → AfterAt c before (takes_part c service attempt from epoch number tuple offset total bytes a)
    unfolding takes_part
    part_taken attempt from epoch number tuple offset total bytes given chosen gathered part = by_choice attempt.choice chosen gathered
      where
        same_node : (x y : NodeId) → x.0 ≡ y.0 → x ≡ y
        same_node x y e = ap (λ (n : ℕ). let made : NodeId = record { 0 = n } in made) e

        moved : (x y : NodeId) (s t : List (RingId × ℕ)) (i j : ℕ) → x ≡ y → s ≡ t → i ≡ j → IsPartAt c lines x s i total bytes → IsPartAt c lines y t j total bytes
        moved x y s t i j e f g k =
            subst (λ (n : ℕ). IsPartAt c lines y t n total bytes) g (subst (λ (u : List (RingId × ℕ)). IsPartAt c lines y u i total bytes) f (subst (λ (z : NodeId). IsPartAt c lines z s i total bytes) e k))

        by_choice : (o : Option Choice) → ((choice : Choice) → o ≡ Some choice → (is_tuple_of (round_sizes c) service.partition.rings choice.tuple ≡ true) × (partition_of c.partitions choice.from ≡ Some service.partition))
            → ChoiceAt c lines service.partition o → AfterAt c before (part_for c service attempt o from epoch number tuple offset total bytes a)
        by_choice None h g = as_it_was c before lines a at
        by_choice (Some choice) h g =
            by_test (AfterAt c before) (is_of a.view attempt epoch number && (is_of_choice choice from tuple && (offset == length choice.bytes))) (with_more c service attempt (record choice { bytes = choice.bytes ++ bytes }) total a) a
            (λ e.
            let s = split_and (is_of a.view attempt epoch number) (is_of_choice choice from tuple && (offset == length choice.bytes)) e in
            let t = split_and (is_of_choice choice from tuple) (offset == length choice.bytes) s.1 in
            let u = split_and (from.0 == choice.from.0) (is_same_tuple tuple choice.tuple) t.0 in
            let k : IsPartAt c lines choice.from choice.tuple (length choice.bytes) total bytes =
            moved from choice.from tuple choice.tuple offset (length choice.bytes) (same_node from choice.from (same_num from.0 choice.from.0 u.0)) (same_tuple service.partition.rings tuple choice.tuple u.1) (same_num offset (length choice.bytes) t.1) part in
            more_taken choice attempt tuple offset total bytes given (h choice refl).0 k (h choice refl).1 g) (as_it_was c before lines a at)

    -- ---- ticks

    pub ticked : (again : Bool) (stage : Stage) → ReplicaAt c lines a.view.id (Some (record service { stage = stage })) → AfterAt c before (recovery_ticks c again service stage a)
    ticked again (Ready standing) r = as_it_was c before lines a at
    ticked again (Recovering attempt) r =
        by_test (AfterAt c before) (attempt.ticks + 1 == c.attempt) (ends_attempt c service now staged) (sends_all (if again then asks_missing service now attempt.choice a.view else []) staged)
        (λ e. by_test (AfterAt c before) (nat_lt (length attempt.answers) service.partition.recovery_quorum) (begins c service (prints (refusal ∷ []) staged)) (begins c service staged)
        (λ f. beginning c limited before service (prints (refusal ∷ []) staged) (refusal ∷ lines) (act_line c before lines staged counted refusal tt tt) there) (beginning c limited before service staged lines counted there))
        (record { lines = lines; at = act_plain c before lines staged counted (if again then asks_missing service now attempt.choice a.view else []) (asked_if again) })
      where
        now : Attempt
        now = record attempt { ticks = attempt.ticks + 1 }

        staged : StepSoFar
        staged = with_stage service (Recovering now) a

        counted : ActAt c before lines staged
        counted = act_stage c before lines a at service (Recovering now) (record { replica = there; stage = r.stage })

        refusal : Line
        refusal = Refuse a.view.id (epoch_of a.view) attempt.number (length attempt.answers) service.partition.recovery_quorum

        asked : (o : Option Choice) → AllByRecursion IsPlainSent (asks_missing service now o a.view)
        asked None = all_flat IsPlainSent (asks_checkpoint a.view attempt.number) (λ node. plain_sends a.view.id node (AskCheckpoint (epoch_of a.view) attempt.number) tt) (filter (λ node. not (has_answered node attempt.answers)) (others_of a.view.id service.partition))
        asked (Some choice) = plain_sends a.view.id choice.from (AskPart (epoch_of a.view) attempt.number choice.tuple (length choice.bytes)) tt

        asked_if : (b : Bool) → AllByRecursion IsPlainSent (if b then asks_missing service now attempt.choice a.view else [])
        asked_if true = asked attempt.choice
        asked_if false = tt

  -- ---- a trim was told

  pub recovers_if_trimmed_folded : (ring : RingId) (trim : ℕ) → AfterAt c before (recovers_if_trimmed c ring trim a)
  recovers_if_trimmed_folded ring trim = by_service a.view.service at.replica
    where
      by_stage : (service : Service) (stage : Stage) → partition_of c.partitions a.view.id ≡ Some service.partition → AfterAt c before (begins_if_waits_below c ring trim service stage a)
      by_stage service (Recovering attempt) there = as_it_was c before lines a at
      by_stage service (Ready standing) there = by_test (AfterAt c before) (waits_below ring trim (place_of c standing)) (begins c service a) a (λ e. beginning c limited before service a lines at there) (as_it_was c before lines a at)

      by_service : (o : Option Service) → ReplicaAt c lines a.view.id o → AfterAt c before (after_trim c ring trim o a)
      by_service None r = as_it_was c before lines a at
      by_service (Some service) r = by_stage service service.stage r.replica
