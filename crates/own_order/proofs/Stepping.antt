-- A frame, an order to lead and a tick.
use Rattle.std.proofs.Common.{◌≡◌, ℕ, ◌/◌, ◌%◌, Bool, true, false, List, [], ◌∷◌, Option, Some, None, refl, ◌∙◌, ap}
use Rattle.std.specs.Prelude.{◌==◌, ◌&&◌, if◌then◌else◌, flat_map}
use Rattle.mrp_types.specs.declared.id.ClientId.{ClientId}
use Rattle.mrp_types.specs.declared.id.NodeId.{NodeId}
use Rattle.mrp_types.specs.declared.id.RingId.{RingId}
use Rattle.mrp_types.specs.declared.voted.Voted.{Voted}
use Rattle.mrp_config.specs.Config.{Config}
use Rattle.mrp_config.specs.declared.tables.PartitionTable.{PartitionTable}
use Rattle.command_codec.specs.Grammar.{command_of}
use Rattle.frames.specs.declared.body.Body.{Body}
use Rattle.frames.specs.declared.body.Body.TheVariants.{Submit, Prepare, Promise, Refuse, Accept, Decide, Fetch, Chosen, Trimmed, AskSafe, Safe, TrimTo, AskCheckpoint, HaveCheckpoint, AskPart, Part as PartFrame, Gone, Reply, Hello}
use Rattle.frames.specs.declared.sent.Sent.{Sent}
use Rattle.checkpoint.specs.Checkpoints.{part_of}
use Rattle.plain_model.specs.Tuples.{round_sizes, is_tuple_of}
use Rattle.protocol.specs.Acceptor.{accepts, fetches, prepares}
use Rattle.protocol.specs.Ballots.{is_active}
use Rattle.protocol.specs.Coordinator.{leads, promised, refused, submits}
use Rattle.protocol.specs.Effects.{no_effects}
use Rattle.protocol.specs.Leading.{levels, resends, starts_on_tick}
use Rattle.protocol.specs.Learner.{chosen, decided}
use Rattle.protocol.specs.Learning.{applies_effects}
use Rattle.protocol.specs.Lines.{Line}
use Rattle.protocol.specs.Merging.{place_of}
use Rattle.protocol.specs.Node.{Attempt, Ready, Recovering, RingPart, Service, Stage, StepSoFar, View, part_at, part_in, sends_all}
use Rattle.protocol.specs.Parts.{Effects, Part, Ring}
use Rattle.protocol.specs.Recovery.{answer_part, answered_by, own_tuple, safe_of, takes_gone, takes_part, tells_checkpoint, tells_part}
use Rattle.protocol.specs.Rings.{is_acceptor, sends_to}
use Rattle.protocol.specs.Step.{at_acceptor, at_attempt, at_member, at_service, handles_body, handles_submit, handles_trim, handles_trim_at, is_for, recovering, recovers_if_trimmed, tells_safe}
use Rattle.protocol.specs.Tick.{asks_on_beat, beats_with, fetches_at, fetches_missing, fetches_stage, greets, recovery_ticks_at, rules_at, rules_for, ticks_ring, ticks_rings}
use Rattle.protocol.specs.Trimming.{answers, asks_round, trimmed}
use Rattle.quiet_rules.proofs.Handlers.{quiet_accepts, quiet_chosen, quiet_decided, quiet_fetches, quiet_leads, quiet_levels, quiet_prepares, quiet_promised, quiet_refused, quiet_resends, quiet_starts_on_tick, quiet_submits, quiet_trimmed}
use Rattle.quiet_rules.proofs.Rounds.{quiet_answers, quiet_asks}
use Rattle.quiet_rules.proofs.Words.{by_test}
use Rattle.quiet_rules.specs.Quiet.{Quiet}
use Rattle.step_lines.proofs.Going.{part_ring}
use Rattle.own_order.specs.Order.{point_of, point_of_stage}
use Rattle.own_order.proofs.After.{After, Ground, Serves, after_both, stays}
use Rattle.own_order.proofs.Learning.{rule_after}
use Rattle.own_order.proofs.Recovering.{answer_taken, gone_taken, part_taken, ticked, trim_heard}

module _ (c : Config) (id : NodeId) (p : PartitionTable) (before : List Line) where
  -- whatever stands before it, some deeds follow
  abbrev pub Goes : StepSoFar → StepSoFar → Type 0
  Goes a b = Ground c id p before a → After c id p before (point_of a.view.service) a.lines b

  goes_none : (a : StepSoFar) → Goes a a
  goes_none a g = stays c id p before a g

  pub goes_both : (a b d : StepSoFar) → Goes a b → Goes b d → Goes a d
  goes_both a b d first second g =
      let one = first g in
      after_both c id p before (point_of a.view.service) a.lines b d one (second one.ground)

  goes_if : (a : StepSoFar) (t : Bool) (b d : StepSoFar) → Goes a b → Goes a d → Goes a (if t then b else d)
  goes_if a true b d first second = first
  goes_if a false b d first second = second

  -- frames are no lines
  sent_goes : (frames : List Sent) (a : StepSoFar) → Goes a (sends_all frames a)
  sent_goes frames a g = record {
    new = kept.new;
    printed = kept.printed;
    deeds = kept.deeds;
    told = kept.told;
    point = kept.point;
    own = kept.own;
    ground = record { mine = g.mine; serves = g.serves; learned = g.learned };
  }
    where
      kept : After c id p before (point_of a.view.service) a.lines a
      kept = stays c id p before a g

  -- ---- rules of a ring

  module _ (ring : RingId) (a : StepSoFar) (h : Ring → Part → View → Effects) (quiet : (r : Ring) (part : Part) (view : View) → Quiet r (no_effects part) (h r part view)) where
    part_goes : (q : RingPart) → part_at a.view ring ≡ Some q → Goes a (applies_effects c q.ring (h q.ring q.part a.view) a)
    part_goes q at g = rule_after c id p before q.ring a q (h q.ring q.part a.view) (ap (λ (r : RingId). part_in a.view.parts r) (part_ring a.view.parts ring q at) ∙ at) (quiet q.ring q.part a.view) g

    member_goes : Goes a (at_member (λ r part b. applies_effects c r (h r part b.view) b) (part_at a.view ring) a)
    member_goes = by_part (part_at a.view ring) refl
      where
        by_part : (o : Option RingPart) → part_at a.view ring ≡ o → Goes a (at_member (λ r part b. applies_effects c r (h r part b.view) b) o a)
        by_part None at = goes_none a
        by_part (Some q) at = part_goes q at

    acceptor_goes : Goes a (at_acceptor (λ r part b. applies_effects c r (h r part b.view) b) (part_at a.view ring) a)
    acceptor_goes = by_part (part_at a.view ring) refl
      where
        by_part : (o : Option RingPart) → part_at a.view ring ≡ o → Goes a (at_acceptor (λ r part b. applies_effects c r (h r part b.view) b) o a)
        by_part None at = goes_none a
        by_part (Some q) at = goes_if a (is_acceptor q.ring) (applies_effects c q.ring (h q.ring q.part a.view) a) a (part_goes q at) (goes_none a)

    rules_go : Goes a (rules_for c ring h a)
    rules_go = by_part (part_at a.view ring) refl
      where
        by_part : (o : Option RingPart) → part_at a.view ring ≡ o → Goes a (rules_at c h o a)
        by_part None at = goes_none a
        by_part (Some q) at = goes_if a (is_acceptor q.ring) (applies_effects c q.ring (h q.ring q.part a.view) a) a (part_goes q at) (goes_none a)

  -- ---- a frame

  trim_goes : (ring : RingId) (trim : ℕ) (a : StepSoFar) → Goes a (handles_trim c ring trim a)
  trim_goes ring trim a = by_part (part_at a.view ring) refl
    where
      by_part : (o : Option RingPart) → part_at a.view ring ≡ o → Goes a (handles_trim_at c ring trim o a)
      by_part None at = goes_none a
      by_part (Some q) at =
          let b : StepSoFar = if is_acceptor q.ring then applies_effects c q.ring (trimmed q.ring a.view.link q.part trim) a else a in
          goes_both a b (recovers_if_trimmed c ring trim b)
          (goes_if a (is_acceptor q.ring) (applies_effects c q.ring (trimmed q.ring a.view.link q.part trim) a) a
          (part_goes ring a (λ r part view. trimmed r view.link part trim) (λ r part view. quiet_trimmed r view.link part trim) q at) (goes_none a)) (trim_heard c id p before ring trim b)

  promise_goes : (from : NodeId) (ring : RingId) (ballot lo hi trim : ℕ) (votes : List Voted) (a : StepSoFar) → Goes a (handles_body c from (Promise ring ballot lo hi trim votes) a)
  promise_goes from ring ballot lo hi trim votes a = by_part (part_at a.view ring) refl
    where
      by_part : (o : Option RingPart) → part_at a.view ring ≡ o → Goes a (at_acceptor (λ r part b. recovers_if_trimmed c ring trim (applies_effects c r (promised r b.view.link part from ballot lo hi trim votes) b)) o a)
      by_part None at = goes_none a
      by_part (Some q) at =
          let b : StepSoFar = applies_effects c q.ring (promised q.ring a.view.link q.part from ballot lo hi trim votes) a in
          goes_if a (is_acceptor q.ring) (recovers_if_trimmed c ring trim b) a
          (goes_both a b (recovers_if_trimmed c ring trim b)
          (part_goes ring a (λ r part view. promised r view.link part from ballot lo hi trim votes) (λ r part view. quiet_promised r view.link part from ballot lo hi trim votes) q at) (trim_heard c id p before ring trim b))
          (goes_none a)

  pub submit_goes : (ring : RingId) (hops : ℕ) (client : ClientId) (seq : ℕ) (command : List ℕ) (a : StepSoFar) → Goes a (handles_submit c ring hops client seq command a)
  submit_goes ring hops client seq command a =
      goes_if a (is_for c ring (command_of command)) (at_acceptor (λ r part b. applies_effects c r (submits r b.view.link part hops client seq command) b) (part_at a.view ring) a) a
      (acceptor_goes ring a (λ r part view. submits r view.link part hops client seq command) (λ r part view. quiet_submits r view.link part hops client seq command)) (goes_none a)

  module _ (a : StepSoFar) (g : Ground c id p before a) where
    abbrev Here : StepSoFar → Type 0
    Here b = After c id p before (point_of a.view.service) a.lines b

    by_service : (rule : Service → StepSoFar → StepSoFar) → ((s : Service) → s.partition ≡ p → point_of a.view.service ≡ point_of_stage s.stage → Here (rule s a)) → Here (at_service rule a.view.service a)
    by_service rule each = go a.view.service g.serves refl
      where
        go : (o : Option Service) → Serves c id p o → point_of a.view.service ≡ point_of o → Here (at_service rule o a)
        go None same at = goes_none a g
        go (Some s) same at = each s same at

    by_attempt : (rule : Service → Attempt → StepSoFar → StepSoFar) → ((s : Service) (now : Attempt) → s.partition ≡ p → point_of a.view.service ≡ None → Here (rule s now a)) → Here (recovering rule a.view.service a)
    by_attempt rule each = by_service (λ s. at_attempt (rule s) s.stage) (λ s same at. by_stage s same s.stage at)
      where
        by_stage : (s : Service) → s.partition ≡ p → (stage : Stage) → point_of a.view.service ≡ point_of_stage stage → Here (at_attempt (rule s) stage a)
        by_stage s same (Ready standing) at = goes_none a g
        by_stage s same (Recovering now) at = each s now same at

    safe_told : (from : NodeId) (ring : RingId) (round : ℕ) (o : Option ℕ) → Here (tells_safe from ring round o a)
    safe_told from ring round None = goes_none a g
    safe_told from ring round (Some inst) = sent_goes (sends_to a.view.id from (Safe ring round inst)) a g

    pub body_goes : (from : NodeId) (body : Body) → Here (handles_body c from body a)
    body_goes from (Submit ring hops client seq command) = submit_goes ring hops client seq command a g
    body_goes from (Prepare ring ballot lo) = acceptor_goes ring a (λ r part view. prepares r part from ballot lo) (λ r part view. quiet_prepares r part from ballot lo) g
    body_goes from (Promise ring ballot lo hi trim votes) = promise_goes from ring ballot lo hi trim votes a g
    body_goes from (Refuse ring ballot promise) = acceptor_goes ring a (λ r part view. refused r part ballot promise) (λ r part view. quiet_refused r part ballot promise) g
    body_goes from (Accept ring ballot lo hi mask value) = acceptor_goes ring a (λ r part view. accepts r view.link part ballot lo hi mask value) (λ r part view. quiet_accepts r view.link part ballot lo hi mask value) g
    body_goes from (Decide ring lo hi left value) = member_goes ring a (λ r part view. decided r view.link part lo hi left value) (λ r part view. quiet_decided r view.link part lo hi left value) g
    body_goes from (Fetch ring lo) = acceptor_goes ring a (λ r part view. fetches r part from lo) (λ r part view. quiet_fetches r part from lo) g
    body_goes from (Chosen ring ranges) = member_goes ring a (λ r part view. chosen r part ranges) (λ r part view. quiet_chosen r part ranges) g
    body_goes from (Trimmed ring trim) = trim_goes ring trim a g
    body_goes from (TrimTo ring trim) = trim_goes ring trim a g
    body_goes from (AskSafe ring round) = safe_told from ring round (safe_of a.view ring a.view.service)
    body_goes from (Safe ring round inst) = acceptor_goes ring a (λ r part view. answers r view.link part from round inst) (λ r part view. quiet_answers r view.link part from round inst) g
    body_goes from (AskCheckpoint epoch attempt) = by_service (λ s. tells_checkpoint s from epoch attempt) (λ s same at. sent_goes (sends_to a.view.id from (HaveCheckpoint epoch attempt (own_tuple a.view s))) a g)
    body_goes from (HaveCheckpoint epoch attempt tuple) = by_attempt (λ s now. answered_by c s now from epoch attempt tuple) (λ s now same at. answer_taken c id p before s a same g now at from epoch attempt tuple)
    body_goes from (AskPart epoch attempt tuple offset) = by_service (λ s. tells_part c s from epoch attempt tuple offset)
        (λ s same at. by_test Here (is_tuple_of (round_sizes c) s.partition.rings tuple) (sends_all (flat_map (sends_to a.view.id from) (answer_part epoch attempt tuple offset (part_of a.view.checkpoints tuple offset))) a) a
        (λ e. sent_goes (flat_map (sends_to a.view.id from) (answer_part epoch attempt tuple offset (part_of a.view.checkpoints tuple offset))) a g) (goes_none a g))
    body_goes from (PartFrame epoch attempt tuple offset total bytes) =
        by_attempt (λ s now. takes_part c s now from epoch attempt tuple offset total bytes) (λ s now same at. part_taken c id p before s a same g now at from epoch attempt tuple offset total bytes)
    body_goes from (Gone epoch attempt asked newer) = by_attempt (λ s now. takes_gone c s now from epoch attempt asked newer) (λ s now same at. gone_taken c id p before s a same g now at from epoch attempt asked newer)
    body_goes from (Reply client seq partition reply) = goes_none a g
    body_goes from Hello = goes_none a g

  -- ---- an order to lead

  pub leads_go : (ring : RingId) (a : StepSoFar) → Goes a (at_acceptor (λ r part b. applies_effects c r (leads r b.view.link part) b) (part_at a.view ring) a)
  leads_go ring a = acceptor_goes ring a (λ r part view. leads r view.link part) (λ r part view. quiet_leads r view.link part)

  -- ---- a tick

  fun_goes : (t : Bool) (f : StepSoFar → StepSoFar) (a : StepSoFar) → Goes a (f a) → Goes a ((if t then f else (λ (b : StepSoFar). b)) a)
  fun_goes true f a goes = goes
  fun_goes false f a goes = goes_none a

  ring_goes : (active again trims : Bool) (ring : RingId) (a : StepSoFar) → Goes a (ticks_ring c active again trims ring a)
  ring_goes active again trims ring a =
      goes_both a started (ticks_ring c active again trims ring a) (rules_go ring a (λ r part view. starts_on_tick r view.link part) (λ r part view. quiet_starts_on_tick r view.link part))
      (goes_both started resent (ticks_ring c active again trims ring a)
      (fun_goes (again && active) (rules_for c ring (λ r part view. resends r view.link part)) started (rules_go ring started (λ r part view. resends r view.link part) (λ r part view. quiet_resends r view.link part)))
      (goes_both resent asked (ticks_ring c active again trims ring a)
      (fun_goes trims (rules_for c ring (λ r part view. asks_round r view.link part (safe_of view ring view.service))) resent
      (rules_go ring resent (λ r part view. asks_round r view.link part (safe_of view ring view.service)) (λ r part view. quiet_asks r view.link part (safe_of view ring view.service))))
      (rules_go ring asked (λ r part view. levels r view.link part) (λ r part view. quiet_levels r view.link part))))
    where
      started : StepSoFar
      started = rules_for c ring (λ r part view. starts_on_tick r view.link part) a

      resent : StepSoFar
      resent = (if again && active then rules_for c ring (λ r part view. resends r view.link part) else (λ (b : StepSoFar). b)) started

      asked : StepSoFar
      asked = (if trims then rules_for c ring (λ r part view. asks_round r view.link part (safe_of view ring view.service)) else (λ (b : StepSoFar). b)) resent

  rings_go : (again trims : Bool) (parts : List RingPart) (a : StepSoFar) → Goes a (ticks_rings c again trims parts a)
  rings_go again trims [] a = goes_none a
  rings_go again trims (q ∷ parts) a =
      let b : StepSoFar = ticks_ring c (is_active q.part.coordinator) again trims q.ring.id a in
      goes_both a b (ticks_rings c again trims parts b) (ring_goes (is_active q.part.coordinator) again trims q.ring.id a) (rings_go again trims parts b)

  recovery_goes : (again : Bool) (a : StepSoFar) → Goes a (recovery_ticks_at c again a.view.service a)
  recovery_goes again a g = go a.view.service g.serves refl
    where
      go : (o : Option Service) → Serves c id p o → point_of a.view.service ≡ point_of o → After c id p before (point_of a.view.service) a.lines (recovery_ticks_at c again o a)
      go None same at = goes_none a g
      go (Some s) same at = ticked c id p before s a same g again s.stage at

  fetches_go : (turn : ℕ) (a : StepSoFar) → Goes a (fetches_missing c turn a.view.service a)
  fetches_go turn a = by_service_of a.view.service
    where
      by_part : (place : RingId × ℕ) (o : Option RingPart) → Goes a (fetches_at turn place o a)
      by_part place None = goes_none a
      by_part place (Some q) = sent_goes _ a

      by_stage : (stage : Stage) → Goes a (fetches_stage c turn stage a)
      by_stage (Recovering attempt) = goes_none a
      by_stage (Ready standing) = by_part (place_of c standing) (part_at a.view (place_of c standing).0)

      by_service_of : (o : Option Service) → Goes a (fetches_missing c turn o a)
      by_service_of None = goes_none a
      by_service_of (Some s) = by_stage s.stage

  pub beats_go : (parts : List RingPart) (beat : ℕ) (again : Bool) (a : StepSoFar) → Goes a (beats_with c parts beat again a)
  beats_go parts beat again a =
      let d : StepSoFar = recovery_ticks_at c again a.view.service a in
      let e : StepSoFar = ticks_rings c again (beat % c.trim == 0) parts d in
      let f : StepSoFar = fetches_missing c (beat / c.resend) e.view.service e in
      goes_both a d (beats_with c parts beat again a) (recovery_goes again a)
      (goes_both d e (beats_with c parts beat again a) (rings_go again (beat % c.trim == 0) parts d)
      (fun_goes again (asks_on_beat c (beat / c.resend)) e (goes_both e f (greets c f) (fetches_go (beat / c.resend) e) (sent_goes _ f))))
