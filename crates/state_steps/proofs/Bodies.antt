-- A frame that a node takes.
use Rattle.std.proofs.Common.{◌≡◌, ℕ, Bool, true, false, List, [], ◌∷◌, Option, Some, None, refl, sym, ◌∙◌, ap, subst}
use Rattle.std.specs.Prelude.{if◌then◌else◌}
use Rattle.mrp_types.specs.declared.id.NodeId.{NodeId}
use Rattle.mrp_types.specs.declared.id.RingId.{RingId}
use Rattle.mrp_types.specs.declared.id.ClientId.{ClientId}
use Rattle.mrp_types.specs.declared.voted.Voted.{Voted}
use Rattle.command_codec.specs.Grammar.{command_of}
use Rattle.mrp_config.specs.Config.{Config, has_node, partition_of}
use Rattle.mrp_config.specs.declared.tables.PartitionTable.{PartitionTable}
use Rattle.frames.specs.declared.body.Body.{Body}
use Rattle.frames.specs.declared.body.Body.TheVariants.{Submit, Prepare, Promise, Refuse, Accept, Decide, Fetch, Chosen, Trimmed, TrimTo, AskSafe, Safe, AskCheckpoint, HaveCheckpoint, AskPart, Hello, Gone, Reply, Part as PartFrame}
use Rattle.plain_model.specs.Tuples.{round_sizes, is_tuple_of}
use Rattle.state_laws.specs.Books.{AreOfBytes}
use Rattle.protocol.specs.Lines.{Line}
use Rattle.protocol.specs.Acceptor.{prepares, accepts, fetches}
use Rattle.protocol.specs.Coordinator.{submits, refused, promised}
use Rattle.protocol.specs.Learner.{chosen, decided}
use Rattle.protocol.specs.Trimming.{answers, trimmed}
use Rattle.protocol.specs.Rings.{is_acceptor}
use Rattle.protocol.specs.Learning.{applies_effects}
use Rattle.protocol.specs.Node.{StepSoFar, RingPart, Service, Stage, Recovering, Ready, Attempt, Choice, part_at}
use Rattle.protocol.specs.Recovery.{epoch_of, safe_of, answered_by, takes_gone, takes_part, tells_checkpoint, tells_part}
use Rattle.protocol.specs.Step.{recovers_if_trimmed, at_acceptor, is_for, handles_trim_at, handles_trim, handles_submit, tells_safe, at_service, at_attempt, recovering, handles_body}
use Rattle.line_rules.specs.Scanners.{past, learned}
use Rattle.faithful.proofs.Quorum.{partition_there}
use Rattle.recovery_lines.specs.Ties.{IsFit, ChosenLines, ServiceLines, StageLines, ReplicaLines}
use Rattle.step_lines.specs.Effects.{AllAgree}
use Rattle.step_lines.proofs.Recovery.{recovers_if_trimmed_onward}
use Rattle.quiet_rules.proofs.Handlers.{quiet_prepares, quiet_promised, quiet_refused, quiet_accepts, quiet_decided, quiet_fetches, quiet_chosen, quiet_trimmed, quiet_submits}
use Rattle.quiet_rules.proofs.Rounds.{quiet_answers}
use Rattle.state_steps.specs.Folded.{BodyFolded}
use Rattle.state_steps.specs.States.{IsLimited, ServiceAt, ReplicaAt, StageAt, ActAt, AfterAt}
use Rattle.state_steps.proofs.Words.{as_it_was}
use Rattle.state_steps.proofs.Hearing.{checkpoint_told, safe_told, part_told, answer_taken, gone_taken, part_taken, recovers_if_trimmed_folded}
use Rattle.state_steps.proofs.Learning.{Grows}
use Rattle.state_steps.proofs.Going.{Folds, folds_none, folds_both, folds_so, if_folds, part_folds, acceptor_folds, member_folds}

module _ (c : Config) (fit : IsFit c) (limited : IsLimited c) (before : List Line) where
  trimmed_folds : (ring : RingId) (trim : ℕ) (b : StepSoFar) → Folds c before b (recovers_if_trimmed c ring trim b)
  trimmed_folds ring trim b =
      let on = recovers_if_trimmed_onward c before ring trim b in
      folds_so c before b (recovers_if_trimmed c ring trim b) (on.more, on.printed) (λ lines at. recovers_if_trimmed_folded c limited before b lines at ring trim)

  trim_folds : (ring : RingId) (trim : ℕ) (a : StepSoFar) → Folds c before a (handles_trim c ring trim a)
  trim_folds ring trim a = by_part (part_at a.view ring) refl
    where
      by_part : (o : Option RingPart) → part_at a.view ring ≡ o → Folds c before a (handles_trim_at c ring trim o a)
      by_part None e = folds_none c before a
      by_part (Some p) e =
          let b : StepSoFar = if is_acceptor p.ring then applies_effects c p.ring (trimmed p.ring a.view.link p.part trim) a else a in
          folds_both c before a b (recovers_if_trimmed c ring trim b)
          (if_folds c before a (is_acceptor p.ring) (applies_effects c p.ring (trimmed p.ring a.view.link p.part trim) a) a
          (part_folds c limited before ring a (λ r part view. trimmed r view.link part trim) (λ r part view. quiet_trimmed r view.link part trim) p e) (folds_none c before a)) (trimmed_folds ring trim b)

  promise_folds : (from : NodeId) (ring : RingId) (ballot lo hi trim : ℕ) (votes : List Voted) (a : StepSoFar) → Folds c before a (handles_body c from (Promise ring ballot lo hi trim votes) a)
  promise_folds from ring ballot lo hi trim votes a = by_part (part_at a.view ring) refl
    where
      by_part : (o : Option RingPart) → part_at a.view ring ≡ o → Folds c before a (at_acceptor (λ r part b. recovers_if_trimmed c ring trim (applies_effects c r (promised r b.view.link part from ballot lo hi trim votes) b)) o a)
      by_part None e = folds_none c before a
      by_part (Some p) e =
          let b : StepSoFar = applies_effects c p.ring (promised p.ring a.view.link p.part from ballot lo hi trim votes) a in
          if_folds c before a (is_acceptor p.ring) (recovers_if_trimmed c ring trim b) a
          (folds_both c before a b (recovers_if_trimmed c ring trim b)
          (part_folds c limited before ring a (λ r part view. promised r view.link part from ballot lo hi trim votes) (λ r part view. quiet_promised r view.link part from ballot lo hi trim votes) p e) (trimmed_folds ring trim b))
          (folds_none c before a)

  pub submit_folds : (ring : RingId) (hops : ℕ) (client : ClientId) (seq : ℕ) (command : List ℕ) (a : StepSoFar) → Folds c before a (handles_submit c ring hops client seq command a)
  submit_folds ring hops client seq command a =
      if_folds c before a (is_for c ring (command_of command)) (at_acceptor (λ r part b. applies_effects c r (submits r b.view.link part hops client seq command) b) (part_at a.view ring) a) a
      (acceptor_folds c limited before ring a (λ r part view. submits r view.link part hops client seq command) (λ r part view. quiet_submits r view.link part hops client seq command)) (folds_none c before a)

  module _ (a : StepSoFar) (at : ActAt c before before a) (ties : ReplicaLines c before a.view.id (epoch_of a.view) a.view.checkpoints.newest a.view.service) (given : AreOfBytes (learned before)) where
    as_was : AfterAt c before a
    as_was = as_it_was c before before a at

    by_service : (rule : Service → StepSoFar → StepSoFar) → ((s : Service) → ServiceLines c before a.view.id (epoch_of a.view) a.view.checkpoints.newest s → ServiceAt c before a.view.id s → AfterAt c before (rule s a))
        → AfterAt c before (at_service rule a.view.service a)
    by_service rule each = go a.view.service ties at.replica
      where
        go : (o : Option Service) → ReplicaLines c before a.view.id (epoch_of a.view) a.view.checkpoints.newest o → ReplicaAt c before a.view.id o → AfterAt c before (at_service rule o a)
        go None r k = as_was
        go (Some s) r k = each s r k

    by_attempt : (rule : Service → Attempt → StepSoFar → StepSoFar)
        → ((s : Service) (now : Attempt) → ServiceLines c before a.view.id (epoch_of a.view) a.view.checkpoints.newest s
        → StageLines c before a.view.id (epoch_of a.view) a.view.checkpoints.newest s.partition (Recovering now) → ServiceAt c before a.view.id s → StageAt c before s.partition (Recovering now) → AfterAt c before (rule s now a))
        → AfterAt c before (recovering rule a.view.service a)
    by_attempt rule each = by_service (λ s. at_attempt (rule s) s.stage) (λ s r k. by_stage s r k s.stage r.stage k.stage)
      where
        by_stage : (s : Service) → ServiceLines c before a.view.id (epoch_of a.view) a.view.checkpoints.newest s → ServiceAt c before a.view.id s
            → (stage : Stage) → StageLines c before a.view.id (epoch_of a.view) a.view.checkpoints.newest s.partition stage → StageAt c before s.partition stage → AfterAt c before (at_attempt (rule s) stage a)
        by_stage s r k (Ready standing) st sk = as_was
        by_stage s r k (Recovering now) st sk = each s now r st k sk

    chosen_there : (s : Service) (now : Attempt) → ServiceLines c before a.view.id (epoch_of a.view) a.view.checkpoints.newest s → StageLines c before a.view.id (epoch_of a.view) a.view.checkpoints.newest s.partition (Recovering now)
        → (choice : Choice) → now.choice ≡ Some choice → (is_tuple_of (round_sizes c) s.partition.rings choice.tuple ≡ true) × (partition_of c.partitions choice.from ≡ Some s.partition)
    chosen_there s now r st choice e = go now.choice e st.1
      where
        go : (o : Option Choice) → o ≡ Some choice → ChosenLines c before a.view.id (epoch_of a.view) s.partition now.number now.answers o
            → (is_tuple_of (round_sizes c) s.partition.rings choice.tuple ≡ true) × (partition_of c.partitions choice.from ≡ Some s.partition)
        go None f k = absurd (cc)
        go (Some other) f k = subst (λ (q : Choice). (is_tuple_of (round_sizes c) s.partition.rings q.tuple ≡ true) × (partition_of c.partitions q.from ≡ Some s.partition)) (same other choice f)
            (k.valid, fit.alone s.partition other.from (partition_there c.partitions a.view.id s.partition r.own.replica).there k.replica)
          where
            same : (u v : Choice) → Some u ≡ Some v → u ≡ v
            same u v g = cc

    pub body_folded : (from : NodeId) (body : Body) → BodyFolded c before from body → AllAgree (past before (handles_body c from body a).lines) → AfterAt c before (handles_body c from body a)
    body_folded from (Submit ring hops client seq command) s all = (submit_folds ring hops client seq command a).folds before at all
    body_folded from (Prepare ring ballot lo) s all = (acceptor_folds c limited before ring a (λ r part view. prepares r part from ballot lo) (λ r part view. quiet_prepares r part from ballot lo)).folds before at all
    body_folded from (Promise ring ballot lo hi trim votes) s all = (promise_folds from ring ballot lo hi trim votes a).folds before at all
    body_folded from (Refuse ring ballot promise) s all = (acceptor_folds c limited before ring a (λ r part view. refused r part ballot promise) (λ r part view. quiet_refused r part ballot promise)).folds before at all
    body_folded from (Accept ring ballot lo hi mask value) s all =
        (acceptor_folds c limited before ring a (λ r part view. accepts r view.link part ballot lo hi mask value) (λ r part view. quiet_accepts r view.link part ballot lo hi mask value)).folds before at all
    body_folded from (Decide ring lo hi left value) s all =
        (member_folds c limited before ring a (λ r part view. decided r view.link part lo hi left value) (λ r part view. quiet_decided r view.link part lo hi left value)).folds before at all
    body_folded from (Fetch ring lo) s all = (acceptor_folds c limited before ring a (λ r part view. fetches r part from lo) (λ r part view. quiet_fetches r part from lo)).folds before at all
    body_folded from (Chosen ring ranges) s all = (member_folds c limited before ring a (λ r part view. chosen r part ranges) (λ r part view. quiet_chosen r part ranges)).folds before at all
    body_folded from (Trimmed ring trim) s all = (trim_folds ring trim a).folds before at all
    body_folded from (TrimTo ring trim) s all = (trim_folds ring trim a).folds before at all
    body_folded from (AskSafe ring round) s all = safe_told c limited before a before at from ring round (safe_of a.view ring a.view.service)
    body_folded from (Safe ring round inst) s all =
        (acceptor_folds c limited before ring a (λ r part view. answers r view.link part from round inst) (λ r part view. quiet_answers r view.link part from round inst)).folds before at all
    body_folded from (AskCheckpoint epoch attempt) s all = by_service (λ q. tells_checkpoint q from epoch attempt) (λ q r k. checkpoint_told c limited before a before at q from epoch attempt)
    body_folded from (HaveCheckpoint epoch attempt tuple) s all =
        by_attempt (λ q now. answered_by c q now from epoch attempt tuple) (λ q now r st k sk. answer_taken c limited before a before at q k.replica now from epoch attempt tuple)
    body_folded from (AskPart epoch attempt tuple offset) s all = by_service (λ q. tells_part c q from epoch attempt tuple offset) (λ q r k. part_told c limited before a before at q k.replica from epoch attempt tuple offset)
    body_folded from (PartFrame epoch attempt tuple offset total bytes) s all = by_attempt (λ q now. takes_part c q now from epoch attempt tuple offset total bytes)
        (λ q now r st k sk. part_taken c limited before a before at q k.replica now from epoch attempt tuple offset total bytes given (chosen_there q now r st) sk s)
    body_folded from (Gone epoch attempt asked newer) s all =
        by_attempt (λ q now. takes_gone c q now from epoch attempt asked newer) (λ q now r st k sk. gone_taken c limited before a before at q k.replica now from epoch attempt asked newer)
    body_folded from (Reply client seq partition reply) s all = as_was
    body_folded from Hello s all = as_was
