-- A choice is made, an own checkpoint is installed, and an attempt begins.
use Rattle.std.proofs.Common.{◌≡◌, ℕ, ◌≤◌, inl, inr, Bool, true, false, List, [], ◌∷◌, ◌++◌, Option, Some, None, refl, sym, ◌∙◌, ap, subst, arith}
use Rattle.std.specs.Prelude.{◌==◌, nat_lt, ◌&&◌, ◌||◌, if◌then◌else◌, length}
use Rattle.std.specs.List.{AllByRecursion}
use Rattle.std.proofs.lemmas.Bool.Decides.{nat_tests}
use Rattle.mrp_types.specs.declared.id.NodeId.{NodeId}
use Rattle.mrp_types.specs.declared.id.RingId.{RingId}
use Rattle.mrp_config.specs.Config.{Config, has_node}
use Rattle.mrp_config.specs.declared.tables.PartitionTable.{PartitionTable}
use Rattle.quorums.specs.Groups.{Has}
use Rattle.frames.specs.declared.body.Body.TheVariants.{AskPart}
use Rattle.checkpoint.specs.Checkpoints.{Checkpoint, is_same_tuple, is_after}
use Rattle.plain_model.specs.Replicas.{Replica}
use Rattle.plain_model.specs.StateBytes.{state_of}
use Rattle.plain_model.specs.Tuples.{round_sizes, is_tuple_of, instances}
use Rattle.protocol.specs.Lines.{Line, Begin, Chose, Restore}
use Rattle.protocol.specs.Node.{StepSoFar, Service, Stage, Recovering, Ready, Attempt, Choice, with_stage, prints, sends_all}
use Rattle.protocol.specs.Merging.{merges}
use Rattle.protocol.specs.Recovery.{epoch_of, tuple_of_newest, lowers, restores, restores_read, installs_own, is_other, is_better, best_of, asks_part, chooses}
use Rattle.faithful.specs.Scanners.{Mark, Begun, Restored, touches, life, chosen, before_attempt, lines_before_this, attempts_told, told, begun, or_else, Reaches, position}
use Rattle.faithful.specs.Rules.{AllKnown, BySkips, Chooses, Restores}
use Rattle.recovery_lines.specs.Ties.{IsFit, ReachesCovered, OwnLines, AttemptLines, ChoiceLines, DoneLines, ActLines, AfterLines, newest_of}
use Rattle.faithful.proofs.Growing.{same_number, all_more}
use Rattle.faithful.proofs.Ordering.{Reaches-refl, Reaches-trans, rings_fit, not_after, after_reaches, same_tuple, paired_same}
use Rattle.faithful.proofs.Quorum.{partition_there}
use Rattle.recovery_lines.proofs.More.{SameOwn, SameAttempt, AllKnown-more, OwnLines-same, AttemptLines-same, told_same}
use Rattle.recovery_lines.proofs.Trimmed.{trims_reached, covered_reached}
use Rattle.recovery_lines.proofs.Printing.{differ, said_sends, prints_done, sends_done, stage_done, lowers_done, other_tells}
use Rattle.faithful.proofs.Between.{BySkips-refl}

-- ---- the best of some answers

module _ (m : ℕ → ℕ) (p : PartitionTable) (own : NodeId) where
  abbrev IsValid : NodeId × List (RingId × ℕ) → Type 0
  IsValid answer = is_tuple_of m p.rings answer.1 ≡ true

  -- the better of two
  abbrev better : NodeId × List (RingId × ℕ) → NodeId × List (RingId × ℕ) → NodeId × List (RingId × ℕ)
  better best answer = if is_better own best answer then answer else best

  better_reaches : (best answer : NodeId × List (RingId × ℕ)) → IsValid best → IsValid answer
      → Reaches (instances (better best answer).1) (instances best.1) × Reaches (instances (better best answer).1) (instances answer.1)
  better_reaches best answer vb va = by_same (is_same_tuple best.1 answer.1) refl
    where
      Wanted : Bool → Type 0
      Wanted t = Reaches (instances (if t then answer else best).1) (instances best.1) × Reaches (instances (if t then answer else best).1) (instances answer.1)

      equal : best.1 ≡ answer.1 → (t : Bool) → Wanted t
      equal e true = (subst (λ (k : List (RingId × ℕ)). Reaches (instances answer.1) (instances k)) (sym e) (Reaches-refl (instances answer.1)), Reaches-refl (instances answer.1))
      equal e false = (Reaches-refl (instances best.1), subst (λ (k : List (RingId × ℕ)). Reaches (instances best.1) (instances k)) e (Reaches-refl (instances best.1)))

      by_after : (t : Bool) → is_after best.1 answer.1 ≡ t → Wanted t
      by_after true e = (after_reaches m p.rings best.1 answer.1 vb va e, Reaches-refl (instances answer.1))
      by_after false e = (Reaches-refl (instances best.1), not_after p.rings best.1 answer.1 (rings_fit m p.rings best.1 vb) (rings_fit m p.rings answer.1 va) e)

      by_same : (s : Bool) → is_same_tuple best.1 answer.1 ≡ s
          → Wanted (if s then is_other own best.0 && (answer.0.0 == own.0 || nat_lt answer.0.0 best.0.0) else is_after best.1 answer.1)
      by_same true e = equal (same_tuple p.rings best.1 answer.1 e) (is_other own best.0 && (answer.0.0 == own.0 || nat_lt answer.0.0 best.0.0))
      by_same false e = by_after (is_after best.1 answer.1) refl

  better_is : (P : NodeId × List (RingId × ℕ) → Type 0) (best answer : NodeId × List (RingId × ℕ)) → P best → P answer → P (better best answer)
  better_is P best answer pb pa = go (is_better own best answer)
    where
      go : (t : Bool) → P (if t then answer else best)
      go true = pa
      go false = pb

  pub best_is : (P : NodeId × List (RingId × ℕ) → Type 0) (best : NodeId × List (RingId × ℕ)) (answers : List (NodeId × List (RingId × ℕ))) → P best → AllByRecursion P answers → P (best_of own best answers)
  best_is P best [] pb all = pb
  best_is P best (answer ∷ answers) pb all = best_is P (better best answer) answers (better_is P best answer pb all.0) all.1

  pub best_reaches : (best : NodeId × List (RingId × ℕ)) (answers : List (NodeId × List (RingId × ℕ))) → IsValid best → AllByRecursion IsValid answers
      → Reaches (instances (best_of own best answers).1) (instances best.1)
      × AllByRecursion (λ (answer : NodeId × List (RingId × ℕ)). Reaches (instances (best_of own best answers).1) (instances answer.1)) answers
  best_reaches best [] vb all = (Reaches-refl (instances best.1), tt)
  best_reaches best (answer ∷ answers) vb all =
      let both = better_reaches best answer vb all.0 in
      let rest = best_reaches (better best answer) answers (better_is IsValid best answer vb all.0) all.1 in
      (Reaches-trans _ _ _ rest.0 both.0, (Reaches-trans _ _ _ rest.0 both.1, rest.1))

-- ---- a begin line is fresh

begun_this : (x e n : ℕ) (lines : List Line) (b : List Line) → before_attempt x e n lines ≡ Some b → Has (begun x lines) (e, n)
begun_this x e n [] b h = absurd (cc)
begun_this x e n (l ∷ lines) b h = by_touch (touches x l) h (λ f. begun_this x e n lines b f)
  where
    by_line : (k : Line) → lines_before_this e n lines k ≡ Some b → Has (attempts_told k) (e, n)
    by_line (Begin node epoch attempt tuple) g = go (epoch == e) (attempt == n) refl refl g
      where
        same_num : (i j : ℕ) → (i == j) ≡ true → j ≡ i
        same_num i j t = grind (arith, nat_tests)

        go : (s t : Bool) → (epoch == e) ≡ s → (attempt == n) ≡ t → (if s && t then Some lines else None) ≡ Some b → Has {X = ℕ × ℕ} ((epoch, attempt) ∷ []) (e, n)
        go true true s t g = let one : e ≡ epoch = same_num epoch e s in let two : n ≡ attempt = same_num attempt n t in inl (cc)
        go true false s t g = absurd (cc)
        go false t s u g = absurd (cc)
    by_line other g = absurd (cc)

    left : {T : Type 0} (xs ys : List T) (t : T) → Has xs t → Has (xs ++ ys) t
    left [] ys t h = absurd h
    left (y ∷ xs) ys t (inl q) = inl q
    left (y ∷ xs) ys t (inr q) = inr (left xs ys t q)

    right : {T : Type 0} (xs ys : List T) (t : T) → Has ys t → Has (xs ++ ys) t
    right [] ys t h = h
    right (y ∷ xs) ys t h = inr (right xs ys t h)

    by_first : (o : Option (List Line)) → before_attempt x e n lines ≡ o → or_else o (lines_before_this e n lines l) ≡ Some b
        → (before_attempt x e n lines ≡ Some b → Has (begun x lines) (e, n)) → Has (attempts_told l ++ begun x lines) (e, n)
    by_first None q g rest = left (attempts_told l) (begun x lines) (e, n) (by_line l g)
    by_first (Some d) q g rest = right (attempts_told l) (begun x lines) (e, n) (rest (q ∙ g))

    by_touch : (t : Bool) → (if t then or_else (before_attempt x e n lines) (lines_before_this e n lines l) else before_attempt x e n lines) ≡ Some b
        → (before_attempt x e n lines ≡ Some b → Has (begun x lines) (e, n)) → Has (if t then attempts_told l ++ begun x lines else begun x lines) (e, n)
    by_touch true g rest = by_first (before_attempt x e n lines) refl g rest
    by_touch false g rest = rest g

pub not_begun : (x e n : ℕ) (lines : List Line) → (Has (begun x lines) (e, n) → ⊥) → before_attempt x e n lines ≡ None
not_begun x e n lines fresh = go (before_attempt x e n lines) refl
  where
    go : (o : Option (List Line)) → before_attempt x e n lines ≡ o → o ≡ None
    go None q = refl
    go (Some b) q = absurd (fresh (begun_this x e n lines b q))

-- ---- lines of a choice and a restore

module _ (x : NodeId) (lines : List Line) where
  pub chose_own : (e n : ℕ) (tuple : List ℕ) (from : NodeId) → SameOwn x.0 (Chose x e n tuple from) lines
  chose_own e n tuple from = record { tells = rw (same_number x.0) refl; begins = rw (same_number x.0) refl; up = rw (same_number x.0) refl }

  pub chose_attempt : (e n : ℕ) (tuple : List ℕ) (from : NodeId) → SameAttempt x.0 (Chose x e n tuple from) lines
  chose_attempt e n tuple from = record { current = rw (same_number x.0) refl; life = rw (same_number x.0) refl; begins = rw (same_number x.0) refl }

  pub restore_own : (tuple : List ℕ) → SameOwn x.0 (Restore x tuple) lines
  restore_own tuple = record { tells = rw (same_number x.0) refl; begins = rw (same_number x.0) refl; up = rw (same_number x.0) refl }

mark_differs : (o : Option Mark) → o ≡ Some Begun → o ≡ Some Restored → ⊥
mark_differs o a b = cc

-- ---- words

module _ (c : Config) (fit : IsFit c) (before : List Line) (merged : (a : StepSoFar) (lines : List Line) → ActLines c before lines a → AfterLines c before (merges c a)) where
  -- a replica is restored at a tuple
  pub restored : (service : Service) (tuple : List (RingId × ℕ)) (replica : Replica) (a : StepSoFar) (lines : List Line) → DoneLines c before lines a
      → OwnLines c lines a.view.id (epoch_of a.view) a.view.checkpoints.newest service.partition service.attempts
      → Has (told a.view.id.0 lines) (newest_of service.partition a.view.checkpoints.newest) → (life a.view.id.0 lines ≡ Some Restored → ⊥) → chosen a.view.id.0 lines ≡ Some (Some (instances tuple))
      → is_tuple_of (round_sizes c) service.partition.rings tuple ≡ true → AllKnown lines tuple → Reaches (instances tuple) (newest_of service.partition a.view.checkpoints.newest)
      → AfterLines c before (restores c service tuple replica a)
  unfolding restores
  restored service tuple replica a lines d o t recovering choice valid known reaches =
      let x : NodeId = a.view.id in
      let l : Line = Restore x (instances tuple) in
      let stage : Stage = Ready (record { tuple = tuple; replica = replica; delivered = 0 }) in
      let rule : Restores c lines x (instances tuple) = record {
        partition = service.partition;
        replica = o.replica;
        fits = record { tuple = tuple; valid = valid; shown = refl };
        recovering = recovering;
        choice = choice;
      } in
      let done = prints_done c before lines a d l (λ other ne. differ x.0 other ne) rule (λ r p k e replica fits h. absurd h) in
      let low = lowers_done c before (l ∷ lines) (prints (l ∷ []) a) done tuple in
      let at : position (round_sizes c) service.partition.rings x.0 (l ∷ lines) ≡ tuple =
      rw (same_number x.0) (paired_same service.partition.rings tuple (rings_fit (round_sizes c) service.partition.rings tuple valid)) in
      merged (with_stage service stage (lowers tuple (prints (l ∷ []) a))) (l ∷ lines) (record {
        done = stage_done c before (l ∷ lines) (lowers tuple (prints (l ∷ []) a)) low service stage;
        replica = record {
          own = OwnLines-same c l lines x (epoch_of a.view) a.view.checkpoints.newest service.partition service.attempts (restore_own x lines (instances tuple)) o;
          told = told_same c l lines x (epoch_of a.view) a.view.checkpoints.newest service.partition (restore_own x lines (instances tuple)) t;
          stage = record {
            ready = rw (same_number x.0) refl;
            valid = valid;
            known = AllKnown-more c l lines tuple known;
            reached = subst (λ (k : List (RingId × ℕ)). BySkips (round_sizes c) service.partition.rings (l ∷ lines) k tuple) (sym at)
                (BySkips-refl (round_sizes c) service.partition.rings (l ∷ lines) tuple valid);
            after = reaches;
            later = λ some. absurd (omega (arith, some));
          };
        };
      })

  -- at the own newest tuple
  restored_own : (service : Service) (tuple : List (RingId × ℕ)) (replica : Replica) (a : StepSoFar) (lines : List Line) → DoneLines c before lines a
      → OwnLines c lines a.view.id (epoch_of a.view) a.view.checkpoints.newest service.partition service.attempts
      → Has (told a.view.id.0 lines) (newest_of service.partition a.view.checkpoints.newest) → (life a.view.id.0 lines ≡ Some Restored → ⊥)
      → chosen a.view.id.0 lines ≡ Some (Some (newest_of service.partition a.view.checkpoints.newest))
      → tuple_of_newest service.partition a.view.checkpoints.newest ≡ tuple → AfterLines c before (restores c service tuple replica a)
  restored_own service tuple replica a lines d o t recovering choice same =
      subst (λ (k : List (RingId × ℕ)). AfterLines c before (restores c service k replica a)) same
      (restored service (tuple_of_newest service.partition a.view.checkpoints.newest) replica a lines d o t recovering choice o.kept.valid o.kept.known (Reaches-refl _))

  -- The own checkpoint is installed; where its bytes were no state, the attempt would go on.
  installed : (service : Service) (newest : Option Checkpoint) (a : StepSoFar) (lines : List Line) → a.view.checkpoints.newest ≡ newest → ActLines c before lines a
      → OwnLines c lines a.view.id (epoch_of a.view) a.view.checkpoints.newest service.partition service.attempts
      → Has (told a.view.id.0 lines) (newest_of service.partition a.view.checkpoints.newest) → (life a.view.id.0 lines ≡ Some Restored → ⊥)
      → chosen a.view.id.0 lines ≡ Some (Some (newest_of service.partition a.view.checkpoints.newest)) → AfterLines c before (installs_own c service newest a)
  installed service None a lines e ties o t recovering choice = restored_own service _ _ a lines ties.done o t recovering choice (ap (tuple_of_newest service.partition) e)
  installed service (Some saved) a lines e ties o t recovering choice = by_state (state_of service.partition saved.state)
    where
      by_state : (r : Option Replica) → AfterLines c before (restores_read c service saved.tuple r a)
      by_state None = record { lines = lines; ties = ties }
      by_state (Some replica) = restored_own service saved.tuple replica a lines ties.done o t recovering choice (ap (tuple_of_newest service.partition) e)

  -- a choice is made or changed
  pub choosing : (service : Service) (attempt : Attempt) (best : NodeId × List (RingId × ℕ)) (a : StepSoFar) (lines : List Line) → DoneLines c before lines a
      → OwnLines c lines a.view.id (epoch_of a.view) a.view.checkpoints.newest service.partition service.attempts
      → Has (told a.view.id.0 lines) (newest_of service.partition a.view.checkpoints.newest)
      → AttemptLines c lines a.view.id (epoch_of a.view) a.view.checkpoints.newest service.partition attempt.number attempt.answers
      → service.partition.recovery_quorum ≤ length attempt.answers
      → has_node service.partition.replicas best.0.0 ≡ true
      → is_tuple_of (round_sizes c) service.partition.rings best.1 ≡ true
      → Has (told best.0.0 lines) (instances best.1)
      → (best.0.0 ≡ a.view.id.0 → best.1 ≡ tuple_of_newest service.partition a.view.checkpoints.newest)
      → AllByRecursion (λ (answer : NodeId × List (RingId × ℕ)). Reaches (instances best.1) (instances answer.1)) attempt.answers
      → AfterLines c before (chooses c service attempt best a)
  unfolding chooses
  choosing service attempt best a lines d o t at enough replica valid tells own reaches =
      by_node (best.0.0 == x.0) refl
    where
      x : NodeId
      x = a.view.id

      l : Line
      l = Chose a.view.id (epoch_of a.view) attempt.number (instances best.1) best.0

      choice : Choice
      choice = record { tuple = best.1; from = best.0; bytes = [] }

      stage : Stage
      stage = Recovering (record attempt { choice = Some choice })

      b : StepSoFar
      b = prints (l ∷ []) a

      rule : Chooses c lines a.view.id (epoch_of a.view) attempt.number (instances best.1) best.0
      rule = record {
        partition = service.partition;
        replica = o.replica;
        fits = record { tuple = best.1; valid = valid; shown = refl };
        current = at.current;
        earlier = at.earlier;
        begins = at.begins;
        trims = trims_reached c fit lines a.view.id (epoch_of a.view) a.view.checkpoints.newest service.partition (partition_there c.partitions a.view.id service.partition o.replica).there
            attempt.number attempt.answers at enough (instances best.1) reaches;
        other = replica;
        told = tells;
      }

      covered : ReachesCovered c at.earlier service.partition.rings (instances best.1)
      covered = covered_reached c fit lines a.view.id (epoch_of a.view) a.view.checkpoints.newest service.partition (partition_there c.partitions a.view.id service.partition o.replica).there
          attempt.number attempt.answers at enough (instances best.1) reaches

      same_num : (i j : ℕ) → (i == j) ≡ true → i ≡ j
      same_num i j e = grind (arith, nat_tests)

      other_num : (i j : ℕ) → (i == j) ≡ false → i ≡ j → ⊥
      other_num i j e same = grind (arith, nat_tests)

      done : DoneLines c before (l ∷ lines) (prints (l ∷ []) a)
      done = prints_done c before lines a d l (λ other ne. differ a.view.id.0 other ne) (rule, covered) (λ r p k e replica fits h. absurd h)

      own_more : OwnLines c (l ∷ lines) a.view.id (epoch_of a.view) a.view.checkpoints.newest service.partition service.attempts
      own_more = OwnLines-same c l lines a.view.id (epoch_of a.view) a.view.checkpoints.newest service.partition service.attempts
          (chose_own a.view.id lines (epoch_of a.view) attempt.number (instances best.1) best.0) o

      told_more : Has (told a.view.id.0 (l ∷ lines)) (newest_of service.partition a.view.checkpoints.newest)
      told_more = told_same c l lines a.view.id (epoch_of a.view) a.view.checkpoints.newest service.partition
          (chose_own a.view.id lines (epoch_of a.view) attempt.number (instances best.1) best.0) t

      attempt_more : AttemptLines c (l ∷ lines) a.view.id (epoch_of a.view) a.view.checkpoints.newest service.partition attempt.number attempt.answers
      attempt_more = AttemptLines-same c l lines a.view.id (epoch_of a.view) a.view.checkpoints.newest service.partition attempt.number attempt.answers
          (chose_attempt a.view.id lines (epoch_of a.view) attempt.number (instances best.1) best.0) at

      chosen_now : chosen a.view.id.0 (l ∷ lines) ≡ Some (Some (instances best.1))
      chosen_now = rw (same_number a.view.id.0) refl

      choice_now : ChoiceLines c (l ∷ lines) a.view.id service.partition attempt.answers best.1 best.0
      choice_now = record {
        replica = replica;
        valid = valid;
        told = all_more _ best.0.0 l lines (instances best.1) tells;
        chosen = chosen_now;
        enough = enough;
        reaches = reaches;
      }

      gathering : ActLines c before (l ∷ lines) (with_stage service stage (prints (l ∷ []) a))
      gathering = record { done = stage_done c before (l ∷ lines) (prints (l ∷ []) a) done service stage; replica = record { own = own_more; told = told_more; stage = (attempt_more, choice_now) } }

      by_node : (s : Bool) → (best.0.0 == a.view.id.0) ≡ s
          → AfterLines c before (if s then installs_own c service a.view.checkpoints.newest (with_stage service stage (prints (l ∷ []) a))
          else sends_all (asks_part a.view attempt choice) (with_stage service stage (prints (l ∷ []) a)))
      by_node true e =
          installed service a.view.checkpoints.newest (with_stage service stage (prints (l ∷ []) a)) (l ∷ lines) refl gathering
          own_more told_more (mark_differs (life a.view.id.0 (l ∷ lines)) attempt_more.begun)
          (chosen_now ∙ ap (λ (k : List (RingId × ℕ)). Some (Some (instances k))) (own (same_num best.0.0 a.view.id.0 e)))
      by_node false e = record {
        lines = l ∷ lines;
        ties = record {
          done = sends_done c before (l ∷ lines) (with_stage service stage (prints (l ∷ []) a)) gathering.done
              (asks_part a.view attempt choice) (said_sends c (l ∷ lines) a.view.id best.0 (AskPart (epoch_of a.view) attempt.number best.1 0)
              (other_tells c fit (l ∷ lines) a.view.id best.0 service.partition best.1 o.replica replica valid choice_now.told));
          replica = gathering.replica;
        };
      }
