-- An attempt begins, and chooses once a quorum has answered.
use Rattle.std.proofs.Common.{◌≡◌, ℕ, ◌+◌, ◌-◌, ◌^◌, ◌<◌, ◌≤◌, ◌⊎◌, inl, inr, Bool, true, false, List, [], ◌∷◌, Option, Some, None, refl, sym, ap, subst, arith}
use Rattle.std.specs.Prelude.{nat_lt, nat_le, if◌then◌else◌, length}
use Rattle.std.specs.List.{AllByRecursion, flat_map}
use Rattle.std.proofs.lemmas.Bool.Decides.{nat_tests}
use Rattle.mrp_types.specs.declared.id.NodeId.{NodeId}
use Rattle.mrp_types.specs.declared.id.RingId.{RingId}
use Rattle.mrp_config.specs.Config.{Config}
use Rattle.quorums.specs.Groups.{Has}
use Rattle.frames.specs.declared.body.Body.TheVariants.{AskCheckpoint}
use Rattle.frames.specs.declared.sent.Sent.{Sent}
use Rattle.plain_model.specs.Tuples.{round_sizes, is_tuple_of, instances}
use Rattle.protocol.specs.Lines.{Line, Begin, AttemptLimit}
use Rattle.protocol.specs.Node.{StepSoFar, Service, Recovering, Attempt, Choice, with_stage, prints, sends_all}
use Rattle.protocol.specs.Merging.{merges}
use Rattle.protocol.specs.Recovery.{epoch_of, own_tuple, others_of, best_of, chooses_best, chooses_if_quorum, asks_checkpoint, begins_next, begins}
use Rattle.faithful.specs.Scanners.{unchosen, before_attempt, told, begun, Reaches}
use Rattle.faithful.specs.Rules.{Begins, IsLater}
use Rattle.recovery_lines.specs.Ties.{IsFit, IsAnswer, IsSaid, OwnLines, AnswerLines, AttemptLines, ChosenLines, DoneLines, ActLines, AfterLines, newest_of}
use Rattle.faithful.proofs.Growing.{same_number}
use Rattle.faithful.proofs.Ordering.{Reaches-refl}
use Rattle.faithful.proofs.Quorum.{partition_there}
use Rattle.recovery_lines.proofs.More.{AllKnown-more, ReplicaLines-quiet}
use Rattle.recovery_lines.proofs.Right.{right_lines}
use Rattle.recovery_lines.proofs.Printing.{tells_own, differ, said_sends, all_flat, prints_done, sends_done, stage_done}
use Rattle.recovery_lines.proofs.Choosing.{best_is, best_reaches, not_begun, choosing}
use Rattle.quorums.proofs.Each.{mapped}

module _ (c : Config) (fit : IsFit c) (before : List Line) (merged : (a : StepSoFar) (lines : List Line) → ActLines c before lines a → AfterLines c before (merges c a)) where
  -- as soon as a quorum has answered the best answer is chosen
  pub quorum_chooses : (service : Service) (attempt : Attempt) (a : StepSoFar) (lines : List Line) → DoneLines c before lines a
      → OwnLines c lines a.view.id (epoch_of a.view) a.view.checkpoints.newest service.partition service.attempts
      → Has (told a.view.id.0 lines) (newest_of service.partition a.view.checkpoints.newest)
      → AttemptLines c lines a.view.id (epoch_of a.view) a.view.checkpoints.newest service.partition attempt.number attempt.answers
      → unchosen a.view.id.0 lines ≡ Some (Some (epoch_of a.view, attempt.number))
      → attempt.choice ≡ None
      → AfterLines c before (chooses_if_quorum c service attempt a)
  quorum_chooses service attempt a lines d o t at unmade none = by_test (nat_le service.partition.recovery_quorum (length attempt.answers)) refl
    where
      Answer : Type 0
      Answer = NodeId × List (RingId × ℕ)

      by_answers : (answers : List (NodeId × List (RingId × ℕ))) → attempt.answers ≡ answers → service.partition.recovery_quorum ≤ length attempt.answers
          → AfterLines c before (chooses_best c service attempt answers a)
      by_answers [] e enough =
          let some : 0 < service.partition.recovery_quorum = fit.quorum service.partition (partition_there c.partitions a.view.id service.partition o.replica).there in
          let nothing : length attempt.answers ≡ 0 = ap (λ (ys : List (NodeId × List (RingId × ℕ))). length ys) e in
          absurd (omega arith)
      by_answers (first ∷ rest) e enough =
          let Good : NodeId × List (RingId × ℕ) → Type 0 = AnswerLines c lines a.view.id (epoch_of a.view) a.view.checkpoints.newest service.partition attempt.number in
          let all : AllByRecursion Good (first ∷ rest) = subst (λ (xs : List (NodeId × List (RingId × ℕ))). AllByRecursion Good xs) e at.answered in
          let best : NodeId × List (RingId × ℕ) = best_of a.view.id first rest in
          let good : Good best = best_is (round_sizes c) service.partition a.view.id Good first rest all.0 all.1 in
          let reach = best_reaches (round_sizes c) service.partition a.view.id first rest all.0.valid
          (mapped Good (λ (answer : NodeId × List (RingId × ℕ)). is_tuple_of (round_sizes c) service.partition.rings answer.1 ≡ true) (λ answer g. g.valid) rest all.1) in
          choosing c fit before merged service attempt best a lines d o t at enough good.replica good.valid good.said.tells good.own
          (subst (λ (xs : List (NodeId × List (RingId × ℕ))). AllByRecursion (λ (answer : NodeId × List (RingId × ℕ)). Reaches (instances best.1) (instances answer.1)) xs) (sym e) reach)

      by_test : (s : Bool) → nat_le service.partition.recovery_quorum (length attempt.answers) ≡ s
          → AfterLines c before (if s then chooses_best c service attempt attempt.answers a else with_stage service (Recovering attempt) a)
      by_test true e = by_answers attempt.answers refl (grind (arith, nat_tests))
      by_test false e =
          let few : length attempt.answers < service.partition.recovery_quorum = grind (arith, nat_tests) in
          record {
            lines = lines;
            ties = record {
              done = stage_done c before lines a d service (Recovering attempt);
              replica = record {
                own = o;
                told = t;
                stage = (at, subst (λ (choice : Option Choice). ChosenLines c lines a.view.id (epoch_of a.view) service.partition attempt.number attempt.answers choice) (sym none) (unmade, few));
              };
            };
          }

  -- the next attempt
  pub next_begins : (service : Service) (a : StepSoFar) (lines : List Line) → DoneLines c before lines a
      → OwnLines c lines a.view.id (epoch_of a.view) a.view.checkpoints.newest service.partition service.attempts
      → AfterLines c before (begins_next c service a)
  next_begins service a lines d o =
      quorum_chooses (record service { attempts = number }) attempt (sends_all asks (prints (l ∷ []) a)) (l ∷ lines)
      (sends_done c before (l ∷ lines) (prints (l ∷ []) a) done asks asked) own_more (rw (same_number x.0) (inl refl)) ties (rw (same_number x.0) refl) refl
    where
      x : NodeId
      x = a.view.id

      number : ℕ
      number = service.attempts + 1

      own : List (RingId × ℕ)
      own = own_tuple a.view service

      l : Line
      l = Begin a.view.id (epoch_of a.view) number (instances own)

      attempt : Attempt
      attempt = record { number = number; ticks = 0; answers = (a.view.id, own) ∷ []; choice = None }

      asks : List Sent
      asks = flat_map (asks_checkpoint a.view number) (others_of a.view.id service.partition)

      fresh : (other : ℕ × ℕ) → Has (begun a.view.id.0 lines) other → IsLater (epoch_of a.view, number) other
      fresh other h = elim (o.counted other h) [
        | inl less ↦ inl less
        | inr same ↦ inr (same.0, omega (arith, same.1))
      ]

      first : before_attempt a.view.id.0 (epoch_of a.view) number (l ∷ lines) ≡ Some lines
      first =
          let none : before_attempt a.view.id.0 (epoch_of a.view) number lines ≡ None = not_begun a.view.id.0 (epoch_of a.view) number lines (λ h. not_later (fresh (epoch_of a.view, number) h)) in
          rw (same_number a.view.id.0) (rw none (rw (same_number (epoch_of a.view)) (rw (same_number number) refl)))
        where
          not_later : IsLater (epoch_of a.view, number) (epoch_of a.view, number) → ⊥
          not_later (inl less) = omega (arith, less)
          not_later (inr both) = omega (arith, both.1)

      rule : Begins c lines a.view.id (epoch_of a.view) number (instances own)
      rule = record {
        partition = service.partition;
        replica = o.replica;
        tuple = own;
        valid = o.kept.valid;
        shown = refl;
        later = o.kept.reaches;
        up = o.up;
        fresh = fresh;
        known = o.kept.known;
      }

      done : DoneLines c before (l ∷ lines) (prints (l ∷ []) a)
      done = prints_done c before lines a d l (λ other ne. differ a.view.id.0 other ne) rule
          (λ r p k e replica fits h. tells_own c lines a.view.id r service.partition p own k e o.replica replica o.kept.valid fits h o.kept.known)

      begun_now : (other : ℕ × ℕ) → Has (begun a.view.id.0 (l ∷ lines)) other → (other ≡ (epoch_of a.view, number)) ⊎ Has (begun a.view.id.0 lines) other
      begun_now other h = subst (λ (b : Bool). Has (if b then (epoch_of a.view, number) ∷ begun a.view.id.0 lines else begun a.view.id.0 lines) other) (same_number a.view.id.0) h

      told_now : (other : List ℕ) → Has (told a.view.id.0 (l ∷ lines)) other → (other ≡ instances own) ⊎ Has (told a.view.id.0 lines) other
      told_now other h = subst (λ (b : Bool). Has (if b then instances own ∷ told a.view.id.0 lines else told a.view.id.0 lines) other) (same_number a.view.id.0) h

      own_more : OwnLines c (l ∷ lines) a.view.id (epoch_of a.view) a.view.checkpoints.newest service.partition number
      own_more = record {
        replica = o.replica;
        kept = record {
          older = λ other h. elim (begun_now other h) [
            | inl e ↦ let same : other.0 ≡ epoch_of a.view = ap (λ (q : ℕ × ℕ). q.0) e in omega arith
            | inr there ↦ o.kept.older other there
          ];
          valid = o.kept.valid;
          known = AllKnown-more c l lines own o.kept.known;
          reaches = λ earlier h. elim (told_now earlier h) [
            | inl e ↦ subst (λ (t : List ℕ). Reaches (instances own) t) (sym e) (Reaches-refl (instances own))
            | inr there ↦ o.kept.reaches earlier there
          ];
        };
        up = rw (same_number a.view.id.0) o.up;
        counted = λ other h. elim (begun_now other h) [
          | inl e ↦ inr (ap (λ (q : ℕ × ℕ). q.0) e, let same : other.1 ≡ number = ap (λ (q : ℕ × ℕ). q.1) e in omega arith)
          | inr there ↦ elim (o.counted other there) [
            | inl less ↦ inl less
            | inr same ↦ inr (same.0, omega (arith, same.1))
          ]
        ];
      }

      said : IsAnswer (l ∷ lines) a.view.id.0 (epoch_of a.view) number a.view.id.0 (instances own)
      said = record { before = lines; begins = first; tells = rw (same_number a.view.id.0) (inl refl); reaches = o.kept.reaches }

      ties : AttemptLines c (l ∷ lines) a.view.id (epoch_of a.view) a.view.checkpoints.newest service.partition number ((a.view.id, own) ∷ [])
      ties = record {
        current = rw (same_number a.view.id.0) refl;
        begun = rw (same_number a.view.id.0) refl;
        earlier = lines;
        begins = rw (same_number a.view.id.0) refl;
        first = first;
        faithful = right_lines c lines d.right;
        different = (refl, tt);
        heard = inl refl;
        answered = (
          record {
            replica = (partition_there c.partitions a.view.id service.partition o.replica).replica;
            valid = o.kept.valid;
            said = said;
            own = λ e. refl;
          },
          tt,
        );
      }

      asked : AllByRecursion (IsSaid c (l ∷ lines)) asks
      asked = all_flat (IsSaid c (l ∷ lines)) (asks_checkpoint a.view number)
          (λ node. said_sends c (l ∷ lines) a.view.id node (AskCheckpoint (epoch_of a.view) number) (lines, first)) (others_of a.view.id service.partition)

  pub beginning : (service : Service) (a : StepSoFar) (lines : List Line) → ActLines c before lines a
      → OwnLines c lines a.view.id (epoch_of a.view) a.view.checkpoints.newest service.partition service.attempts
      → AfterLines c before (begins c service a)
  unfolding begins
  beginning service a lines ties o = go (nat_lt service.attempts (2 ^ 32 - 1))
    where
      go : (s : Bool) → AfterLines c before (if s then begins_next c service a else prints (AttemptLimit a.view.id ∷ []) a)
      go true = next_begins service a lines ties.done o
      go false = record {
        lines = AttemptLimit a.view.id ∷ lines;
        ties = record {
          done = prints_done c before lines a ties.done (AttemptLimit a.view.id) (λ other ne. refl) tt (λ r p k e replica fits h. absurd h);
          replica = ReplicaLines-quiet c (AttemptLimit a.view.id) lines a.view.id (epoch_of a.view) a.view.checkpoints.newest a.view.service refl ties.replica;
        };
      }
