-- A frame that a node takes.
use Rattle.protocol.specs.Rings.{is_acceptor}
use Rattle.protocol.specs.Learner.{chosen, decided}
use Rattle.protocol.specs.Coordinator.{submits, refused, promised}
use Rattle.step_lines.proofs.Rounds.{told_safe, own_placed, answers_stays}
use Rattle.command_codec.specs.Grammar.{command_of}
use Rattle.protocol.specs.Trimming.{answers, trimmed}
use Rattle.step_lines.proofs.Handlers.{prepares_stays, accepts_stays, chosen_stays, decided_stays, fetches_stays, promised_stays, refused_stays, submits_stays, trimmed_stays}
use Rattle.protocol.specs.Parts.{Effects}
use Rattle.recovery_lines.proofs.Hearing.{safe_told, answer_taken, checkpoint_told, gone_taken, part_taken, part_told}
use Rattle.recovery_lines.proofs.Ticking.{recovers_if_trimmed_lines}
use Rattle.recovery_lines.proofs.More.{BodySaid-more}
use Rattle.protocol.specs.Learning.{applies_effects}
use Rattle.protocol.specs.Acceptor.{prepares, accepts, fetches}
use Rattle.step_lines.proofs.Recovery.{recovers_if_trimmed_onward, answered_onward, gone_onward, part_onward, tells_part_onward}
use Rattle.mrp_types.specs.declared.id.ClientId.{ClientId}
use Rattle.step_lines.proofs.Composing.{all_many}
use Rattle.mrp_types.specs.declared.voted.Voted.{Voted}
use Rattle.step_lines.proofs.Onward.{Onward-refl, onward_sends}
use Rattle.mrp_types.specs.declared.id.NodeId.{NodeId}
use Rattle.step_lines.proofs.Going.{goes_so, Goes-refl, acceptor_goes, if_goes, Goes-trans, member_goes, part_goes, part_placed, part_ring}
use Rattle.mrp_types.specs.declared.id.RingId.{RingId}
use Rattle.protocol.specs.Recovery.{epoch_of, safe_of, answered_by, takes_gone, takes_part, tells_checkpoint, tells_part}
use Rattle.std.proofs.Common.{◌≡◌, ℕ, List, Option, Some, None, refl, sym, subst}
use Rattle.std.specs.Prelude.{if◌then◌else◌}
use Rattle.std.specs.List.{AllByRecursion}
use Rattle.mrp_config.specs.Config.{Config}
use Rattle.frames.specs.declared.body.Body.{Body}
use Rattle.frames.specs.declared.body.Body.TheVariants.{Submit, Prepare, Promise, Refuse, Accept, Decide, Fetch, Chosen, Trimmed, TrimTo, AskSafe, Safe, AskCheckpoint, HaveCheckpoint, AskPart, Hello}
use Rattle.frames.specs.declared.body.Body.TheVariants.{Gone, Reply, Part as PartFrame}
use Rattle.protocol.specs.Lines.{Line}
use Rattle.protocol.specs.Node.{StepSoFar, RingPart, Service, Stage, Recovering, Ready, Attempt, part_at}
use Rattle.protocol.specs.Step.{recovers_if_trimmed, at_acceptor, is_for, handles_trim_at, handles_trim, handles_submit, tells_safe, at_service, at_attempt, recovering, handles_body}
use Rattle.recovery_lines.specs.Ties.{IsFit, IsPlaced, IsCovered, IsSafe, TellsSafe, BodySaid, ServiceLines, StageLines, ReplicaLines, ActLines, AfterLines, rings_in}
use Rattle.step_lines.specs.Effects.{Onward, Goes}

module _ (c : Config) (fit : IsFit c) (before : List Line) (a : StepSoFar) (placed : AllByRecursion (IsPlaced c a.view.id) (rings_in a.view.parts)) where
  -- ---- the ring's

  trim_goes : (ring : RingId) (trim : ℕ) → IsCovered c before ring trim → Goes c before a (handles_trim c ring trim a)
  trim_goes ring trim covered = by_part (part_at a.view ring) refl
    where
      recovers_if_trimmed_goes : (b : StepSoFar) → Goes c before b (recovers_if_trimmed c ring trim b)
      recovers_if_trimmed_goes b = goes_so c before b (recovers_if_trimmed c ring trim b) (recovers_if_trimmed_onward c before ring trim b) (λ lines ties. recovers_if_trimmed_lines c fit before b lines ties ring trim)

      by_part : (o : Option RingPart) → part_at a.view ring ≡ o → Goes c before a (handles_trim_at c ring trim o a)
      by_part None e = Goes-refl c before a
      by_part (Some p) e =
          let effects : Effects = trimmed p.ring a.view.link p.part trim in
          let b : StepSoFar = if is_acceptor p.ring then applies_effects c p.ring effects a else a in
          Goes-trans c before a b (recovers_if_trimmed c ring trim b)
          (if_goes c before a (is_acceptor p.ring) (applies_effects c p.ring effects a) a
          (part_goes c fit before ring a (λ r part view. trimmed r view.link part trim) p e
          (λ t. trimmed_stays c before p.ring a.view.link p.part trim (subst (λ (r : RingId). IsCovered c before r trim) (sym (part_ring a.view.parts ring p e)) covered)))
          (Goes-refl c before a)) (recovers_if_trimmed_goes b)

  promise_goes : (from : NodeId) (ring : RingId) (ballot lo hi trim : ℕ) (votes : List Voted) → IsCovered c before ring trim → Goes c before a (handles_body c from (Promise ring ballot lo hi trim votes) a)
  promise_goes from ring ballot lo hi trim votes covered = by_part (part_at a.view ring) refl
    where
      by_part : (o : Option RingPart) → part_at a.view ring ≡ o → Goes c before a (at_acceptor (λ r part b. recovers_if_trimmed c ring trim (applies_effects c r (promised r b.view.link part from ballot lo hi trim votes) b)) o a)
      by_part None e = Goes-refl c before a
      by_part (Some p) e =
          let b : StepSoFar = applies_effects c p.ring (promised p.ring a.view.link p.part from ballot lo hi trim votes) a in
          if_goes c before a (is_acceptor p.ring) (recovers_if_trimmed c ring trim b) a
          (Goes-trans c before a b (recovers_if_trimmed c ring trim b)
          (part_goes c fit before ring a (λ r part view. promised r view.link part from ballot lo hi trim votes) p e
          (λ t. promised_stays c before p.ring a.view.link p.part from ballot lo hi trim votes (subst (λ (r : RingId). IsCovered c before r trim) (sym (part_ring a.view.parts ring p e)) covered)))
          (goes_so c before b (recovers_if_trimmed c ring trim b) (recovers_if_trimmed_onward c before ring trim b) (λ lines ties. recovers_if_trimmed_lines c fit before b lines ties ring trim)))
          (Goes-refl c before a)

  safe_goes : (from : NodeId) (ring : RingId) (round inst : ℕ) → TellsSafe c before ring (from, inst) → Goes c before a (handles_body c from (Safe ring round inst) a)
  safe_goes from ring round inst safe = acceptor_goes c fit before ring a (λ r part view. answers r view.link part from round inst)
      (λ p e t. answers_stays c before p.ring (own_placed c a.view.id p.ring (part_placed (IsPlaced c a.view.id) a.view.parts ring p placed e)) a.view.link p.part from round inst t.round
      (subst (λ (r : RingId). IsSafe c before r (from, inst)) (sym (part_ring a.view.parts ring p e)) (told_safe c fit before ring (from, inst) safe)))

  pub submit_goes : (ring : RingId) (hops : ℕ) (client : ClientId) (seq : ℕ) (command : List ℕ) → Goes c before a (handles_submit c ring hops client seq command a)
  submit_goes ring hops client seq command =
      if_goes c before a (is_for c ring (command_of command)) (at_acceptor (λ r part b. applies_effects c r (submits r b.view.link part hops client seq command) b) (part_at a.view ring) a) a
      (acceptor_goes c fit before ring a (λ r part view. submits r view.link part hops client seq command) (λ p e t. submits_stays c before p.ring a.view.link p.part hops client seq command)) (Goes-refl c before a)

  -- ---- recovery's

  by_service : (rule : Service → StepSoFar → StepSoFar) → ((s : Service) → Onward c before a (rule s a))
      → ((s : Service) (lines : List Line) → ActLines c before lines a → a.view.service ≡ Some s → ServiceLines c lines a.view.id (epoch_of a.view) a.view.checkpoints.newest s → AfterLines c before (rule s a))
      → Goes c before a (at_service rule a.view.service a)
  by_service rule on each = go a.view.service refl
    where
      right : (lines : List Line) → ActLines c before lines a → (o : Option Service) → a.view.service ≡ o → ReplicaLines c lines a.view.id (epoch_of a.view) a.view.checkpoints.newest o → AfterLines c before (at_service rule o a)
      right lines ties None e r = record { lines = lines; ties = ties }
      right lines ties (Some s) e r = each s lines ties e r

      go : (o : Option Service) → a.view.service ≡ o → Goes c before a (at_service rule o a)
      go None e = Goes-refl c before a
      go (Some s) e = goes_so c before a (rule s a) (on s) (λ lines ties. right lines ties (Some s) e
          (subst (λ (o : Option Service). ReplicaLines c lines a.view.id (epoch_of a.view) a.view.checkpoints.newest o) e ties.replica))

  by_attempt : (rule : Service → Attempt → StepSoFar → StepSoFar) → ((s : Service) (now : Attempt) → Onward c before a (rule s now a))
      → ((s : Service) (now : Attempt) (lines : List Line) → ActLines c before lines a → ServiceLines c lines a.view.id (epoch_of a.view) a.view.checkpoints.newest s
      → StageLines c lines a.view.id (epoch_of a.view) a.view.checkpoints.newest s.partition (Recovering now) → AfterLines c before (rule s now a))
      → Goes c before a (recovering rule a.view.service a)
  by_attempt rule on each = by_service (λ s. at_attempt (rule s) s.stage) (λ s. on_stage s s.stage) (λ s lines ties e r. by_stage s lines ties s.stage r r.stage)
    where
      on_stage : (s : Service) (stage : Stage) → Onward c before a (at_attempt (rule s) stage a)
      on_stage s (Ready standing) = Onward-refl c before a
      on_stage s (Recovering now) = on s now

      by_stage : (s : Service) (lines : List Line) → ActLines c before lines a → (stage : Stage) → ServiceLines c lines a.view.id (epoch_of a.view) a.view.checkpoints.newest s
          → StageLines c lines a.view.id (epoch_of a.view) a.view.checkpoints.newest s.partition stage → AfterLines c before (at_attempt (rule s) stage a)
      by_stage s lines ties (Ready standing) r st = record { lines = lines; ties = ties }
      by_stage s lines ties (Recovering now) r st = each s now lines ties r st

  asked_safe : (from : NodeId) (ring : RingId) (round : ℕ) → Goes c before a (handles_body c from (AskSafe ring round) a)
  asked_safe from ring round = goes_so c before a (handles_body c from (AskSafe ring round) a) (on (safe_of a.view ring a.view.service)) (λ lines ties. by_safe lines ties a.view.service refl ties.replica)
    where
      on : (o : Option ℕ) → Onward c before a (tells_safe from ring round o a)
      on None = Onward-refl c before a
      on (Some inst) = onward_sends c before _ a

      by_safe : (lines : List Line) → ActLines c before lines a → (o : Option Service) → a.view.service ≡ o → ReplicaLines c lines a.view.id (epoch_of a.view) a.view.checkpoints.newest o → AfterLines c before (handles_body c from (AskSafe ring round) a)
      by_safe lines ties None e r = subst (λ (o : Option Service). AfterLines c before (tells_safe from ring round (safe_of a.view ring o) a)) (sym e) (record { lines = lines; ties = ties })
      by_safe lines ties (Some s) e r = safe_told c fit before a lines ties s r.own r.told from ring round e

  -- ---- any

  -- what the frame said holds of the lines before the step, and so of those so far
  still : (lines : List Line) → ActLines c before lines a → (from to : NodeId) (body : Body) → BodySaid c before from to body → BodySaid c lines from to body
  still lines ties from to body s = subst (λ (ls : List Line). BodySaid c ls from to body) ties.done.printed (all_many (λ (ls : List Line). BodySaid c ls from to body) (λ l ls p. BodySaid-more c l ls from to body p) a.lines before s)

  pub body_goes : (from : NodeId) (body : Body) → BodySaid c before from a.view.id body → Goes c before a (handles_body c from body a)
  body_goes from (Submit ring hops client seq command) s = submit_goes ring hops client seq command
  body_goes from (Prepare ring ballot lo) s = acceptor_goes c fit before ring a (λ r part view. prepares r part from ballot lo) (λ p e t. prepares_stays c before p.ring p.part from ballot lo)
  body_goes from (Promise ring ballot lo hi trim votes) s = promise_goes from ring ballot lo hi trim votes s
  body_goes from (Refuse ring ballot promise) s = acceptor_goes c fit before ring a (λ r part view. refused r part ballot promise) (λ p e t. refused_stays c before p.ring p.part ballot promise)
  body_goes from (Accept ring ballot lo hi mask value) s = acceptor_goes c fit before ring a (λ r part view. accepts r view.link part ballot lo hi mask value) (λ p e t. accepts_stays c before p.ring a.view.link p.part ballot lo hi mask value)
  body_goes from (Decide ring lo hi left value) s = member_goes c fit before ring a (λ r part view. decided r view.link part lo hi left value) (λ p e t. decided_stays c before p.ring a.view.link p.part lo hi left value)
  body_goes from (Fetch ring lo) s = acceptor_goes c fit before ring a (λ r part view. fetches r part from lo) (λ p e t. fetches_stays c before p.ring p.part from lo)
  body_goes from (Chosen ring ranges) s = member_goes c fit before ring a (λ r part view. chosen r part ranges) (λ p e t. chosen_stays c before p.ring p.part ranges)
  body_goes from (Trimmed ring trim) s = trim_goes ring trim s
  body_goes from (TrimTo ring trim) s = trim_goes ring trim s
  body_goes from (AskSafe ring round) s = asked_safe from ring round
  body_goes from (Safe ring round inst) s = safe_goes from ring round inst s
  body_goes from (AskCheckpoint epoch attempt) s = by_service (λ q. tells_checkpoint q from epoch attempt) (λ q. onward_sends c before _ a)
      (λ q lines ties e r. checkpoint_told c fit before a lines ties q r.own r.told from epoch attempt (still lines ties from a.view.id (AskCheckpoint epoch attempt) s))
  body_goes from (HaveCheckpoint epoch attempt tuple) s = by_attempt (λ q now. answered_by c q now from epoch attempt tuple) (λ q now. answered_onward c before q now from epoch attempt tuple a)
      (λ q now lines ties r st. answer_taken c fit before a lines ties q r.own r.told now st from epoch attempt tuple (still lines ties from a.view.id (HaveCheckpoint epoch attempt tuple) s).0)
  body_goes from (AskPart epoch attempt tuple offset) s = by_service (λ q. tells_part c q from epoch attempt tuple offset) (λ q. tells_part_onward c before q from epoch attempt tuple offset a)
      (λ q lines ties e r. part_told c fit before a lines ties q r.own r.told from epoch attempt tuple offset (still lines ties from a.view.id (AskPart epoch attempt tuple offset) s))
  body_goes from (PartFrame epoch attempt tuple offset total bytes) s = by_attempt (λ q now. takes_part c q now from epoch attempt tuple offset total bytes) (λ q now. part_onward c before q now from epoch attempt tuple offset total bytes a)
      (λ q now lines ties r st. part_taken c fit before a lines ties q r.own r.told now st from epoch attempt tuple offset total bytes)
  body_goes from (Gone epoch attempt asked newer) s = by_attempt (λ q now. takes_gone c q now from epoch attempt asked newer) (λ q now. gone_onward c before q now from epoch attempt asked newer a)
      (λ q now lines ties r st. gone_taken c fit before a lines ties q r.own r.told now st from epoch attempt asked newer s.0 (still lines ties from a.view.id (Gone epoch attempt asked newer) s).1.1.told)
  body_goes from (Reply client seq partition reply) s = Goes-refl c before a
  body_goes from Hello s = Goes-refl c before a
