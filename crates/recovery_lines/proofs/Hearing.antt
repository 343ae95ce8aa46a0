-- The frames and ticks of recovery.
use Rattle.std.proofs.Common.{◌≡◌, ℕ, ◌-◌, ◌≤◌, ◌⊎◌, inl, inr, Bool, true, false, List, [], ◌∷◌, ◌++◌, Option, Some, None, refl, sym, ◌∙◌, ap, subst, arith, true≢false}
use Rattle.std.specs.Prelude.{◌==◌, nat_lt, ◌&&◌, ◌||◌, not, if◌then◌else◌, length, min, take, drop}
use Rattle.std.specs.List.{AllByRecursion, flat_map}
use Rattle.std.specs.Option.{unwrap_or}
use Rattle.std.proofs.lemmas.Bool.Decides.{nat_tests}
use Rattle.mrp_types.specs.declared.id.NodeId.{NodeId}
use Rattle.mrp_types.specs.declared.id.RingId.{RingId}
use Rattle.mrp_types.specs.declared.id.TheConstants.{END}
use Rattle.mrp_config.specs.Config.{Config, has_node, has_ring, subscribers_of}
use Rattle.mrp_config.specs.declared.tables.PartitionTable.{PartitionTable}
use Rattle.quorums.specs.Groups.{Has}
use Rattle.frames.specs.declared.body.Body.{Body}
use Rattle.frames.specs.declared.body.Body.TheVariants.{HaveCheckpoint, AskPart, Part as PartFrame, Gone as GoneFrame, Safe}
use Rattle.frames.specs.declared.sent.Sent.{Sent}
use Rattle.frames.specs.Grammar.{part_of as part_size}
use Rattle.checkpoint.specs.Checkpoints.{Checkpoint, PartAnswer, Part as PartOf, Gone, Unknown, part_of, part_in, part_at, is_same_tuple, is_after}
use Rattle.plain_model.specs.Replicas.{Replica}
use Rattle.plain_model.specs.StateBytes.{state_of}
use Rattle.plain_model.specs.Tuples.{round_sizes, is_tuple_of, has_rings, entry_at, instances}
use Rattle.plain_model.proofs.TupleOrder.{split_and}
use Rattle.protocol.specs.Lines.{Line, Begin}
use Rattle.protocol.specs.Rings.{sends_to}
use Rattle.protocol.specs.Trimming.{has_answered}
use Rattle.protocol.specs.Node.{StepSoFar, Service, Recovering, Attempt, Choice, with_stage, sends_all}
use Rattle.protocol.specs.Recovery.{epoch_of, own_tuple, tuple_of_newest, is_of, takes_answer, answered_by, is_of_choice, restores_or_begins, part_for, takes_part, gone_for, takes_gone, tells_checkpoint, answer_part, tells_part, safe_in, safe_of, asks_part}
use Rattle.protocol.specs.Step.{tells_safe}
use Rattle.faithful.specs.Scanners.{Mark, Begun, Restored, touches, life, before_attempt, lines_before_this, or_else, told, tuples_told, entry_of, Reaches, some_reaches}
use Rattle.faithful.specs.Rules.{AllKnown}
use Rattle.recovery_lines.specs.Ties.{IsFit, IsAnswer, TellsSafe, TellsTuple, IsSaid, BodySaid, OwnLines, AnswerLines, ChoiceLines, ChosenLines, StageLines, ActLines, AfterLines, newest_of}
use Rattle.faithful.proofs.Growing.{same_number, all_more}
use Rattle.faithful.proofs.Ordering.{Reaches-trans, rings_fit, after_reaches}
use Rattle.faithful.proofs.Quorum.{all_has, different_more, is_some_reaches, partition_there, subscribed}
use Rattle.recovery_lines.proofs.Printing.{other_tells, said_sends, said_others, sends_done, stage_done, same_num}
use Rattle.recovery_lines.proofs.Choosing.{restored, choosing}
use Rattle.recovery_lines.proofs.Beginning.{quorum_chooses, beginning}
use Rattle.recovery_lines.proofs.Merging.{merged_all}
use Rattle.quorums.proofs.Each.{mapped, appended}

has_left : {T : Type 0} (xs ys : List T) (t : T) → Has xs t → Has (xs ++ ys) t
has_left [] ys t h = absurd h
has_left (y ∷ xs) ys t (inl e) = inl e
has_left (y ∷ xs) ys t (inr h) = inr (has_left xs ys t h)

-- who stands among the answers has answered
heard_answered : {T : Type 0} (answers : List (NodeId × T)) (x : NodeId) (t : T) → Has answers (x, t) → has_answered x answers ≡ true
heard_answered [] x t h = absurd h
heard_answered {T} (answer ∷ answers) x t (inl e) =
    let same : x.0 ≡ answer.0.0 = ap (λ (q : NodeId × T). q.0.0) e in
    subst (λ (n : ℕ). (n == x.0 || has_answered x answers) ≡ true) same (rw (same_number x.0) refl)
heard_answered (answer ∷ answers) x t (inr h) = later (answer.0.0 == x.0) (has_answered x answers) (heard_answered answers x t h)
  where
    later : (a b : Bool) → b ≡ true → (a || b) ≡ true
    later true b e = refl
    later false b e = e

pub by_test : {A : Type 0} (P : A → Type 0) (b : Bool) (x y : A) → (b ≡ true → P x) → P y → P (if b then x else y)
by_test P true x y here other = here refl
by_test P false x y here other = other

not_true : (b : Bool) → not b ≡ true → b ≡ false
not_true true e = absurd (true≢false (sym e))
not_true false e = refl

-- what was told when an attempt began was told
told_before : (x e n r : ℕ) (lines b : List Line) (t : List ℕ) → before_attempt x e n lines ≡ Some b → Has (told r b) t → Has (told r lines) t
told_before x e n r [] b t q h = absurd (cc)
told_before x e n r (l ∷ lines) b t q h = all_more tuples_told r l lines t (go (touches x l) q (λ f. told_before x e n r lines b t f h))
  where
    by_line : (k : Line) → lines_before_this e n lines k ≡ Some b → Has (told r lines) t
    by_line (Begin node epoch attempt tuple) g = by_if ((epoch == e) && (attempt == n)) g
      where
        by_if : (s : Bool) → (if s then Some lines else None) ≡ Some b → Has (told r lines) t
        by_if true f = let same : b ≡ lines = cc in subst (λ (ls : List Line). Has (told r ls) t) same h
        by_if false f = absurd (cc)
    by_line other g = absurd (cc)

    by_first : (o : Option (List Line)) → before_attempt x e n lines ≡ o → or_else o (lines_before_this e n lines l) ≡ Some b → (before_attempt x e n lines ≡ Some b → Has (told r lines) t) → Has (told r lines) t
    by_first None f g rest = by_line l g
    by_first (Some d) f g rest = rest (f ∙ g)

    go : (s : Bool) → (if s then or_else (before_attempt x e n lines) (lines_before_this e n lines l) else before_attempt x e n lines) ≡ Some b
        → (before_attempt x e n lines ≡ Some b → Has (told r lines) t) → Has (told r lines) t
    go true g rest = by_first (before_attempt x e n lines) refl g rest
    go false g rest = rest g

entry_same : (rings : List RingId) (ring : RingId) (k : List (RingId × ℕ)) → has_rings rings k ≡ true → unwrap_or (entry_at ring k) 0 ≡ entry_of rings ring (instances k)
entry_same [] ring [] h = refl
entry_same [] ring (x ∷ k) h = absurd (true≢false (sym h))
entry_same (g ∷ rings) ring [] h = absurd (true≢false (sym h))
entry_same (g ∷ rings) ring (x ∷ k) h =
    let s = split_and (g.0 == x.0.0) (has_rings rings k) h in
    subst (λ (n : ℕ). unwrap_or (if x.0.0 == ring.0 then Some x.1 else entry_at ring k) 0 ≡ (if n == ring.0 then x.1 else entry_of rings ring (instances k))) (sym (same_num g.0 x.0.0 s.0))
    (go (x.0.0 == ring.0) (entry_same rings ring k s.1))
  where
    go : (b : Bool) → unwrap_or (entry_at ring k) 0 ≡ entry_of rings ring (instances k)
        → unwrap_or (if b then Some x.1 else entry_at ring k) 0 ≡ (if b then x.1 else entry_of rings ring (instances k))
    go true e = refl
    go false e = e

pub in_partitions : (ring : RingId) (ps : List PartitionTable) (p : PartitionTable) → Has (subscribers_of ps ring) p → Has ps p
in_partitions ring [] p h = absurd h
in_partitions ring (q ∷ ps) p h = go (has_ring q.rings ring.0) h (λ g. in_partitions ring ps p g)
  where
    go : (b : Bool) → Has (if b then q ∷ subscribers_of ps ring else subscribers_of ps ring) p → (Has (subscribers_of ps ring) p → Has ps p) → Has (q ∷ ps) p
    go true (inl e) rest = inl e
    go true (inr g) rest = inr (rest g)
    go false g rest = inr (rest g)

low : (e n : ℕ) → min e n ≤ e
low e n = omega arith

-- what its newest checkpoint makes safe was told, or is 0
pub own_safe : (c : Config) (lines : List Line) (x : ℕ) (ring : RingId) (p : PartitionTable) (o : Option Checkpoint) → Has (told x lines) (newest_of p o) → is_tuple_of (round_sizes c) p.rings (tuple_of_newest p o) ≡ true
    → (safe_in ring o ≡ 0) ⊎ (some_reaches p.rings ring (safe_in ring o) (told x lines) ≡ true)
own_safe c lines x ring p None tells valid = inl refl
own_safe c lines x ring p (Some newest) tells valid =
    let least : min (unwrap_or (entry_at ring newest.tuple) 0) (END - 1) ≤ unwrap_or (entry_at ring newest.tuple) 0 = low (unwrap_or (entry_at ring newest.tuple) 0) (END - 1) in
    inr (is_some_reaches p.rings ring (min (unwrap_or (entry_at ring newest.tuple) 0) (END - 1)) (told x lines) (record {
      tuple = instances newest.tuple;
      there = tells;
      reaches = subst (λ (n : ℕ). min (unwrap_or (entry_at ring newest.tuple) 0) (END - 1) ≤ n) (entry_same p.rings ring newest.tuple (rings_fit (round_sizes c) p.rings newest.tuple valid)) least;
    }))

module _ (c : Config) (fit : IsFit c) (before : List Line) (a : StepSoFar) (lines : List Line) (ties : ActLines c before lines a) where
  pub as_it_was : AfterLines c before a
  as_it_was = record { lines = lines; ties = ties }

  pub sent_lines : (frames : List Sent) → AllByRecursion (IsSaid c lines) frames → AfterLines c before (sends_all frames a)
  sent_lines frames said = record { lines = lines; ties = record { done = sends_done c before lines a ties.done frames said; replica = ties.replica } }

  module _ (service : Service) (own : OwnLines c lines a.view.id (epoch_of a.view) a.view.checkpoints.newest service.partition service.attempts)
      (mine : Has (told a.view.id.0 lines) (newest_of service.partition a.view.checkpoints.newest)) where
    -- the own newest tuple is told
    own_tells : TellsTuple c lines a.view.id (tuple_of_newest service.partition a.view.checkpoints.newest)
    own_tells = record { partition = service.partition; replica = own.replica; valid = own.kept.valid; told = mine }

    -- ---- what is asked of this node

    pub checkpoint_told : (from : NodeId) (epoch number : ℕ) → ((b : List Line) × (before_attempt from.0 epoch number lines ≡ Some b)) → AfterLines c before (tells_checkpoint service from epoch number a)
    checkpoint_told from epoch number asked =
        sent_lines (sends_to a.view.id from (HaveCheckpoint epoch number (own_tuple a.view service)))
        (said_sends c lines a.view.id from (HaveCheckpoint epoch number (own_tuple a.view service))
        (record { before = asked.0; begins = asked.1; tells = mine; reaches = λ earlier h. own.kept.reaches earlier (told_before from.0 epoch number a.view.id.0 lines asked.0 earlier asked.1 h) }, own_tells))

    pub part_told : (from : NodeId) (epoch number : ℕ) (tuple : List (RingId × ℕ)) (offset : ℕ) → TellsTuple c lines a.view.id tuple → AfterLines c before (tells_part c service from epoch number tuple offset a)
    part_told from epoch number tuple offset asked =
        by_test (AfterLines c before) (is_tuple_of (round_sizes c) service.partition.rings tuple) _ a
        (λ e. sent_lines (flat_map (sends_to a.view.id from) (answer_part epoch number tuple offset (part_of a.view.checkpoints tuple offset)))
        (by_newest a.view.checkpoints.newest refl)) as_it_was
      where
        Said : PartAnswer → Type 0
        Said answer = AllByRecursion (IsSaid c lines) (flat_map (sends_to a.view.id from) (answer_part epoch number tuple offset answer))

        by_other : (body : Body) → ((a.view.id.0 ≡ from.0 → ⊥) → BodySaid c lines a.view.id from body) → AllByRecursion (IsSaid c lines) (flat_map (sends_to a.view.id from) (body ∷ []))
        by_other body s = appended (IsSaid c lines) (sends_to a.view.id from body) [] (said_others c lines a.view.id from body s) tt

        by_body : (body : Body) → BodySaid c lines a.view.id from body → AllByRecursion (IsSaid c lines) (flat_map (sends_to a.view.id from) (body ∷ []))
        by_body body s = appended (IsSaid c lines) (sends_to a.view.id from body) [] (said_sends c lines a.view.id from body s) tt

        by_part : (total : ℕ) (state : List ℕ) → Said (part_at total offset state)
        by_part total state =
            by_test Said (nat_lt offset total) (PartOf total (take (part_size (offset, total)) (drop offset state))) Unknown
            (λ e. by_body (PartFrame epoch number tuple offset total (take (part_size (offset, total)) (drop offset state))) asked) tt

        by_newest : (o : Option Checkpoint) → a.view.checkpoints.newest ≡ o → Said (part_in o tuple offset)
        by_newest None e = tt
        by_newest (Some newest) e = by_test Said (is_after tuple newest.tuple) (Gone newest.tuple) (if is_same_tuple tuple newest.tuple then part_at (length newest.state) offset newest.state else Unknown)
            (λ t. by_other (GoneFrame epoch number tuple newest.tuple) (λ ne. (ne, (asked, subst (λ (o : Option Checkpoint). TellsTuple c lines a.view.id (tuple_of_newest service.partition o)) e own_tells))))
            (by_test Said (is_same_tuple tuple newest.tuple) (part_at (length newest.state) offset newest.state) Unknown (λ t. by_part (length newest.state) newest.state) tt)

    pub safe_told : (from : NodeId) (ring : RingId) (round : ℕ) → a.view.service ≡ Some service → AfterLines c before (tells_safe from ring round (safe_of a.view ring a.view.service) a)
    safe_told from ring round there =
        subst (λ (s : Option Service). AfterLines c before (tells_safe from ring round (safe_of a.view ring s) a)) (sym there)
        (by_test (λ (o : Option ℕ). AfterLines c before (tells_safe from ring round o a)) (has_ring service.partition.rings ring.0) _ None
        (λ e. sent_lines (sends_to a.view.id from (Safe ring round (safe_in ring a.view.checkpoints.newest)))
        (said_sends c lines a.view.id from (Safe ring round (safe_in ring a.view.checkpoints.newest)) (safe e))) as_it_was)
      where
        safe : has_ring service.partition.rings ring.0 ≡ true → TellsSafe c lines ring (a.view.id, safe_in ring a.view.checkpoints.newest)
        safe e =
            let p = partition_there c.partitions a.view.id service.partition own.replica in
            record {
              partition = service.partition;
              subscribes = subscribed c.partitions ring service.partition p.there e;
              replica = p.replica;
              told = own_safe c lines a.view.id.0 ring service.partition a.view.checkpoints.newest mine own.kept.valid;
            }

    -- ---- an attempt

    module _ (attempt : Attempt) (stage : StageLines c lines a.view.id (epoch_of a.view) a.view.checkpoints.newest service.partition (Recovering attempt)) where
      not_restored : life a.view.id.0 lines ≡ Some Restored → ⊥
      not_restored e = differs (life a.view.id.0 lines) stage.0.begun e
        where
          differs : (o : Option Mark) → o ≡ Some Begun → o ≡ Some Restored → ⊥
          differs o u v = cc

      -- an answer more
      pub answer_taken : (from : NodeId) (epoch number : ℕ) (tuple : List (RingId × ℕ)) → IsAnswer lines a.view.id.0 epoch number from.0 (instances tuple)
          → AfterLines c before (answered_by c service attempt from epoch number tuple a)
      unfolding answered_by
      answer_taken from epoch number tuple said =
          by_test (AfterLines c before)
          (is_of a.view attempt epoch number && (has_node service.partition.replicas from.0
          && (not (has_answered from attempt.answers) && is_tuple_of (round_sizes c) service.partition.rings tuple))) _ a taken as_it_was
        where
          by_choice : (choice : Option Choice) → attempt.choice ≡ choice → ChosenLines c lines a.view.id (epoch_of a.view) service.partition attempt.number attempt.answers choice
              → epoch ≡ epoch_of a.view → number ≡ attempt.number → has_node service.partition.replicas from.0 ≡ true → has_answered from attempt.answers ≡ false
              → is_tuple_of (round_sizes c) service.partition.rings tuple ≡ true → AfterLines c before (takes_answer c service attempt choice from tuple a)
          by_choice (Some choice) e ch ee en replica new valid = as_it_was
          by_choice None e ch ee en replica new valid =
              quorum_chooses c fit before (merged_all c fit before) service (record attempt { answers = attempt.answers ++ (from, tuple) ∷ [] }) a lines ties.done own mine (record {
                current = stage.0.current;
                begun = stage.0.begun;
                earlier = stage.0.earlier;
                begins = stage.0.begins;
                first = stage.0.first;
                faithful = stage.0.faithful;
                different = different_more attempt.answers from tuple stage.0.different new;
                heard = has_left attempt.answers ((from, tuple) ∷ []) _ stage.0.heard;
                answered = appended (AnswerLines c lines a.view.id (epoch_of a.view) a.view.checkpoints.newest service.partition attempt.number) attempt.answers ((from, tuple) ∷ []) stage.0.answered (
                  record {
                    replica = replica;
                    valid = valid;
                    said = subst (λ (n : ℕ). IsAnswer lines a.view.id.0 (epoch_of a.view) n from.0 (instances tuple)) en
                        (subst (λ (ep : ℕ). IsAnswer lines a.view.id.0 ep number from.0 (instances tuple)) ee said);
                    own = λ same. absurd (true≢false (sym (again same) ∙ new));
                  },
                  tt,
                );
              }) ch.0 e
            where
              by_number : (n : ℕ) → a.view.id.0 ≡ n → has_answered (let node : NodeId = record { 0 = n } in node) attempt.answers ≡ true
              by_number n e = subst (λ (k : ℕ). has_answered (let node : NodeId = record { 0 = k } in node) attempt.answers ≡ true) e (heard_answered attempt.answers a.view.id _ stage.0.heard)

              again : from.0 ≡ a.view.id.0 → has_answered from attempt.answers ≡ true
              again same = by_number from.0 (sym same)

          taken : (is_of a.view attempt epoch number && (has_node service.partition.replicas from.0
              && (not (has_answered from attempt.answers) && is_tuple_of (round_sizes c) service.partition.rings tuple))) ≡ true
              → AfterLines c before (takes_answer c service attempt attempt.choice from tuple a)
          taken e =
              let s = split_and (is_of a.view attempt epoch number) _ e in
              let i = split_and (epoch == epoch_of a.view) (number == attempt.number) s.0 in
              let t = split_and (has_node service.partition.replicas from.0) _ s.1 in
              let u = split_and (not (has_answered from attempt.answers)) (is_tuple_of (round_sizes c) service.partition.rings tuple) t.1 in
              by_choice attempt.choice refl stage.1 (same_num epoch (epoch_of a.view) i.0) (same_num number attempt.number i.1) t.0 (not_true (has_answered from attempt.answers) u.0) u.1

      -- the chosen checkpoint is gone
      pub gone_taken : (from : NodeId) (epoch number : ℕ) (asked newer : List (RingId × ℕ)) → (from.0 ≡ a.view.id.0 → ⊥) → Has (told from.0 lines) (instances newer)
          → AfterLines c before (takes_gone c service attempt from epoch number asked newer a)
      unfolding takes_gone
      gone_taken from epoch number asked newer other tells = by_choice attempt.choice stage.1
        where
          by_choice : (choice : Option Choice) → ChosenLines c lines a.view.id (epoch_of a.view) service.partition attempt.number attempt.answers choice
              → AfterLines c before (gone_for c service attempt choice from epoch number asked newer a)
          by_choice None ch = as_it_was
          by_choice (Some choice) ch =
              by_test (AfterLines c before) (is_of a.view attempt epoch number && (is_of_choice choice from asked
              && (is_tuple_of (round_sizes c) service.partition.rings newer && is_after choice.tuple newer))) _ a
              (λ e.
              let s = split_and (is_of a.view attempt epoch number) _ e in
              let t = split_and (is_of_choice choice from asked) _ s.1 in
              let u = split_and (from.0 == choice.from.0) (is_same_tuple asked choice.tuple) t.0 in
              let v = split_and (is_tuple_of (round_sizes c) service.partition.rings newer) (is_after choice.tuple newer) t.1 in
              let up : Reaches (instances newer) (instances choice.tuple) = after_reaches (round_sizes c) service.partition.rings choice.tuple newer ch.valid v.0 v.1 in
              choosing c fit before (merged_all c fit before) service attempt (choice.from, newer) a lines ties.done own mine stage.0 ch.enough ch.replica v.0
              (subst (λ (n : ℕ). Has (told n lines) (instances newer)) (same_num from.0 choice.from.0 u.0) tells) (λ same. absurd (other (same_num from.0 choice.from.0 u.0 ∙ same)))
              (mapped (λ (answer : NodeId × List (RingId × ℕ)). Reaches (instances choice.tuple) (instances answer.1)) (λ (answer : NodeId × List (RingId × ℕ)). Reaches (instances newer) (instances answer.1))
              (λ answer r. Reaches-trans _ _ _ up r) attempt.answers ch.reaches))
              as_it_was

      -- a part of the chosen checkpoint
      pub part_taken : (from : NodeId) (epoch number : ℕ) (tuple : List (RingId × ℕ)) (offset total : ℕ) (bytes : List ℕ)
          → AfterLines c before (takes_part c service attempt from epoch number tuple offset total bytes a)
      unfolding takes_part
      part_taken from epoch number tuple offset total bytes = by_choice attempt.choice stage.1
        where
          by_choice : (choice : Option Choice) → ChosenLines c lines a.view.id (epoch_of a.view) service.partition attempt.number attempt.answers choice
              → AfterLines c before (part_for c service attempt choice from epoch number tuple offset total bytes a)
          by_choice None ch = as_it_was
          by_choice (Some choice) ch =
              by_test (AfterLines c before) (is_of a.view attempt epoch number && (is_of_choice choice from tuple && (offset == length choice.bytes))) _ a
              (λ e. by_test (AfterLines c before) (length (choice.bytes ++ bytes) == total)
              (restores_or_begins c service choice.tuple (state_of service.partition (choice.bytes ++ bytes)) a)
              (sends_all (asks_part a.view attempt more) (with_stage service (Recovering (record attempt { choice = Some more })) a))
              (λ f. by_state (state_of service.partition (choice.bytes ++ bytes)))
              (record {
                lines = lines;
                ties = record {
                  done = sends_done c before lines (with_stage service (Recovering (record attempt { choice = Some more })) a)
                      (stage_done c before lines a ties.done service (Recovering (record attempt { choice = Some more }))) (asks_part a.view attempt more)
                      (said_sends c lines a.view.id choice.from (AskPart (epoch_of a.view) attempt.number choice.tuple (length (choice.bytes ++ bytes)))
                      (other_tells c fit lines a.view.id choice.from service.partition choice.tuple own.replica ch.replica ch.valid ch.told));
                  replica = record { own = own; told = mine; stage = (stage.0, moved) };
                };
              }))
              as_it_was
            where
              more : Choice
              more = record choice { bytes = choice.bytes ++ bytes }

              moved : ChoiceLines c lines a.view.id service.partition attempt.answers choice.tuple choice.from
              moved = ch

              by_state : (o : Option Replica) → AfterLines c before (restores_or_begins c service choice.tuple o a)
              by_state None = beginning c fit before (merged_all c fit before) service a lines ties own
              by_state (Some replica) =
                  restored c fit before (merged_all c fit before) service choice.tuple replica a lines ties.done own mine not_restored ch.chosen ch.valid known reaches
                where
                  known : AllKnown lines choice.tuple
                  known =
                      let there = partition_there c.partitions a.view.id service.partition own.replica in
                      ties.done.known choice.from service.partition choice.tuple (fit.alone service.partition choice.from there.there ch.replica) ch.valid ch.told

                  reaches : Reaches (instances choice.tuple) (newest_of service.partition a.view.checkpoints.newest)
                  reaches = all_has (λ (answer : NodeId × List (RingId × ℕ)). Reaches (instances choice.tuple) (instances answer.1)) attempt.answers _ ch.reaches stage.0.heard
