-- A tick: recovery, then the rings by id, and what a beat asks besides.
use Rattle.std.proofs.Common.{◌≡◌, ℕ, Bool, true, false, List, [], ◌∷◌, Option, Some, None, refl, subst}
use Rattle.std.specs.Prelude.{◌==◌, ◌%◌, ◌/◌, ◌&&◌, if◌then◌else◌, filter}
use Rattle.std.specs.List.{AllByRecursion, flat_map}
use Rattle.mrp_types.specs.declared.id.NodeId.{NodeId}
use Rattle.mrp_types.specs.declared.id.RingId.{RingId}
use Rattle.mrp_config.specs.Config.{Config}
use Rattle.mrp_config.specs.declared.tables.NodeTable.{NodeTable}
use Rattle.frames.specs.declared.body.Body.TheVariants.{Fetch, Hello}
use Rattle.frames.specs.declared.sent.Sent.{Sent}
use Rattle.protocol.specs.Lines.{Line}
use Rattle.protocol.specs.Ballots.{is_active}
use Rattle.protocol.specs.Parts.{Ring, Part, Effects}
use Rattle.protocol.specs.Effects.{no_effects}
use Rattle.protocol.specs.Leading.{levels, resends, starts_on_tick}
use Rattle.protocol.specs.Rings.{is_acceptor, sends, sends_to}
use Rattle.protocol.specs.Recovery.{recovery_ticks, safe_of}
use Rattle.protocol.specs.Learning.{applies_effects}
use Rattle.protocol.specs.Merging.{place_of}
use Rattle.protocol.specs.Trimming.{asks_round}
use Rattle.protocol.specs.Tick.{rules_at, rules_for, ticks_ring, ticks_rings, turn_of, fetches_at, fetches_stage, fetches_missing, shares_ring, recovery_ticks_at, asks_on_beat, beats_with}
use Rattle.protocol.specs.Node.{StepSoFar, View, RingPart, Service, Stage, Recovering, Ready, part_at, sends_all}
use Rattle.step_lines.proofs.Recovery.{ticks_onward}
use Rattle.quiet_rules.specs.Quiet.{IsPlainSent, Quiet}
use Rattle.quiet_rules.proofs.Words.{ring_sends}
use Rattle.quiet_rules.proofs.Handlers.{quiet_levels, quiet_resends, quiet_starts_on_tick}
use Rattle.quiet_rules.proofs.Rounds.{quiet_asks}
use Rattle.state_steps.specs.States.{IsLimited, ReplicaAt, ActAt, AfterAt}
use Rattle.state_steps.proofs.Words.{as_it_was, act_plain, all_flat, plain_sends}
use Rattle.state_steps.proofs.Hearing.{ticked}
use Rattle.state_steps.proofs.Learning.{grows_none}
use Rattle.state_steps.proofs.Going.{Folds, folds_none, folds_both, folds_so, if_folds, part_folds}

module _ (c : Config) (limited : IsLimited c) (before : List Line) where
  rule_folds : (ring : RingId) (b : StepSoFar) (h : Ring → Part → View → Effects) → ((r : Ring) (part : Part) (view : View) → Quiet r (no_effects part) (h r part view)) → Folds c before b (rules_for c ring h b)
  rule_folds ring b h q = by_part (part_at b.view ring) refl
    where
      by_part : (o : Option RingPart) → part_at b.view ring ≡ o → Folds c before b (rules_at c h o b)
      by_part None e = folds_none c before b
      by_part (Some p) e = if_folds c before b (is_acceptor p.ring) (applies_effects c p.ring (h p.ring p.part b.view) b) b (part_folds c limited before ring b h q p e) (folds_none c before b)

  fun_folds : (t : Bool) (f : StepSoFar → StepSoFar) (b : StepSoFar) → Folds c before b (f b) → Folds c before b ((if t then f else (λ (q : StepSoFar). q)) b)
  fun_folds true f b g = g
  fun_folds false f b g = folds_none c before b

  ring_folds : (active again trims : Bool) (ring : RingId) (b : StepSoFar) → Folds c before b (ticks_ring c active again trims ring b)
  ring_folds active again trims ring b =
      folds_both c before b started (ticks_ring c active again trims ring b) (rule_folds ring b (λ r part view. starts_on_tick r view.link part) (λ r part view. quiet_starts_on_tick r view.link part))
      (folds_both c before started resent (ticks_ring c active again trims ring b)
      (fun_folds (again && active) (rules_for c ring (λ r part view. resends r view.link part)) started (rule_folds ring started (λ r part view. resends r view.link part) (λ r part view. quiet_resends r view.link part)))
      (folds_both c before resent asked (ticks_ring c active again trims ring b)
      (fun_folds trims (rules_for c ring (λ r part view. asks_round r view.link part (safe_of view ring view.service))) resent
      (rule_folds ring resent (λ r part view. asks_round r view.link part (safe_of view ring view.service)) (λ r part view. quiet_asks r view.link part (safe_of view ring view.service))))
      (rule_folds ring asked (λ r part view. levels r view.link part) (λ r part view. quiet_levels r view.link part))))
    where
      started : StepSoFar
      started = rules_for c ring (λ r part view. starts_on_tick r view.link part) b

      resent : StepSoFar
      resent = (if again && active then rules_for c ring (λ r part view. resends r view.link part) else (λ (q : StepSoFar). q)) started

      asked : StepSoFar
      asked = (if trims then rules_for c ring (λ r part view. asks_round r view.link part (safe_of view ring view.service)) else (λ (q : StepSoFar). q)) resent

  rings_folds : (again trims : Bool) (parts : List RingPart) (b : StepSoFar) → Folds c before b (ticks_rings c again trims parts b)
  rings_folds again trims [] b = folds_none c before b
  rings_folds again trims (p ∷ parts) b =
      let d : StepSoFar = ticks_ring c (is_active p.part.coordinator) again trims p.ring.id b in
      folds_both c before b d (ticks_rings c again trims parts d) (ring_folds (is_active p.part.coordinator) again trims p.ring.id b) (rings_folds again trims parts d)

  recovery_folds : (again : Bool) (b : StepSoFar) → Folds c before b (recovery_ticks_at c again b.view.service b)
  recovery_folds again b = go b.view.service refl
    where
      right : (lines : List Line) → ActAt c before lines b → (o : Option Service) → ReplicaAt c lines b.view.id o → AfterAt c before (recovery_ticks_at c again o b)
      right lines at None r = as_it_was c before lines b at
      right lines at (Some s) r = ticked c limited before b lines at s r.replica again s.stage r

      go : (o : Option Service) → b.view.service ≡ o → Folds c before b (recovery_ticks_at c again o b)
      go None e = folds_none c before b
      go (Some s) e =
          let on = ticks_onward c before again s s.stage b in
          folds_so c before b (recovery_ticks c again s s.stage b) (on.more, on.printed) (λ lines at. right lines at (Some s) (subst (λ (o : Option Service). ReplicaAt c lines b.view.id o) e at.replica))

  -- ---- what a beat asks

  sent_folds : (frames : List Sent) (b : StepSoFar) → AllByRecursion IsPlainSent frames → Folds c before b (sends_all frames b)
  sent_folds frames b plain = folds_so c before b (sends_all frames b) (grows_none b (sends_all frames b) refl) (λ lines at. record { lines = lines; at = act_plain c before lines b at frames plain })

  fetches_folds : (turn : ℕ) (b : StepSoFar) → Folds c before b (fetches_missing c turn b.view.service b)
  fetches_folds turn b = by_service b.view.service
    where
      by_part : (place : RingId × ℕ) (o : Option RingPart) → Folds c before b (fetches_at turn place o b)
      by_part place None = folds_none c before b
      by_part place (Some p) = sent_folds (sends p.ring (turn_of b.view.id p.ring.acceptors turn) (Fetch place.0 place.1)) b (ring_sends p.ring (turn_of b.view.id p.ring.acceptors turn) (Fetch place.0 place.1) tt)

      by_stage : (stage : Stage) → Folds c before b (fetches_stage c turn stage b)
      by_stage (Recovering attempt) = folds_none c before b
      by_stage (Ready standing) = by_part (place_of c standing) (part_at b.view (place_of c standing).0)

      by_service : (o : Option Service) → Folds c before b (fetches_missing c turn o b)
      by_service None = folds_none c before b
      by_service (Some s) = by_stage s.stage

  beat_folds : (turn : ℕ) (b : StepSoFar) → Folds c before b (asks_on_beat c turn b)
  beat_folds turn b =
      let d : StepSoFar = fetches_missing c turn b.view.service b in
      folds_both c before b d (asks_on_beat c turn b) (fetches_folds turn b)
      (sent_folds (flat_map (λ (node : NodeTable). sends_to d.view.id node.id Hello) (filter (shares_ring d.view) c.nodes)) d
      (all_flat IsPlainSent (λ (node : NodeTable). sends_to d.view.id node.id Hello) (λ node. plain_sends d.view.id node.id Hello tt) (filter (shares_ring d.view) c.nodes)))

  pub beats_folds : (a : StepSoFar) (parts : List RingPart) (beat : ℕ) (again : Bool) → Folds c before a (beats_with c parts beat again a)
  beats_folds a parts beat again =
      folds_both c before a recovered (beats_with c parts beat again a) (recovery_folds again a)
      (folds_both c before recovered ringed (beats_with c parts beat again a) (rings_folds again (beat % c.trim == 0) parts recovered)
      (fun_folds again (asks_on_beat c (beat / c.resend)) ringed (beat_folds (beat / c.resend) ringed)))
    where
      recovered : StepSoFar
      recovered = recovery_ticks_at c again a.view.service a

      ringed : StepSoFar
      ringed = ticks_rings c again (beat % c.trim == 0) parts recovered
