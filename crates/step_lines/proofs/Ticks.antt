-- A tick: recovery, then the rings by id, and what a beat asks besides.
use Rattle.step_lines.proofs.Recovery.{ticks_onward}
use Rattle.faithful.specs.Scanners.{some_reaches, told}
use Rattle.step_lines.proofs.Words.{ring_sends}
use Rattle.recovery_lines.proofs.Ticking.{recovery_lines}
use Rattle.protocol.specs.Merging.{place_of}
use Rattle.recovery_lines.proofs.Hearing.{own_safe, sent_lines}
use Rattle.protocol.specs.Effects.{no_effects}
use Rattle.step_lines.proofs.Handlers.{levels_stays, resends_stays, starts_on_tick_stays}
use Rattle.protocol.specs.Leading.{levels, resends, starts_on_tick}
use Rattle.plain_model.specs.Tuples.{is_tuple_of, round_sizes}
use Rattle.protocol.specs.Ballots.{is_active}
use Rattle.protocol.specs.Rings.{is_acceptor, sends, sends_to}
use Rattle.recovery_lines.proofs.Hearing.{in_partitions}
use Rattle.protocol.specs.Recovery.{epoch_of, recovery_ticks, safe_in, safe_of, tuple_of_newest}
use Rattle.protocol.specs.Learning.{applies_effects}
use Rattle.step_lines.proofs.Rounds.{own_placed, asks_stays}
use Rattle.protocol.specs.Trimming.{asks_round}
use Rattle.recovery_lines.proofs.Printing.{all_flat, said_sends}
use Rattle.frames.specs.declared.sent.Sent.{Sent}
use Rattle.mrp_types.specs.declared.id.RingId.{RingId}
use Rattle.step_lines.proofs.Onward.{Onward-trans, onward_sends}
use Rattle.mrp_types.specs.declared.id.NodeId.{NodeId}
use Rattle.quorums.specs.Groups.{Has}
use Rattle.step_lines.proofs.Going.{Goes-refl, Goes-trans, goes_so, if_goes, part_goes, part_placed, part_ring}
use Rattle.protocol.specs.Parts.{Effects, Part, Ring}
use Rattle.std.proofs.Common.{◌≡◌, ℕ, ◌⊎◌, Bool, true, false, List, [], ◌∷◌, Option, Some, None, refl, sym, ◌∙◌, ap, subst}
use Rattle.std.specs.Prelude.{◌==◌, ◌%◌, ◌/◌, ◌&&◌, if◌then◌else◌, filter}
use Rattle.std.specs.List.{AllByRecursion, flat_map}
use Rattle.mrp_config.specs.Config.{Config, has_ring, partition_of}
use Rattle.mrp_config.specs.declared.tables.PartitionTable.{PartitionTable}
use Rattle.mrp_config.specs.declared.tables.NodeTable.{NodeTable}
use Rattle.checkpoint.specs.Checkpoints.{Checkpoint, Checkpoints}
use Rattle.frames.specs.declared.body.Body.TheVariants.{Fetch, Hello}
use Rattle.protocol.specs.Lines.{Line}
use Rattle.protocol.specs.Tick.{rules_at, rules_for, ticks_ring, ticks_rings, turn_of, fetches_at, fetches_stage, fetches_missing, shares_ring, recovery_ticks_at, asks_on_beat, beats_with}
use Rattle.protocol.specs.Node.{StepSoFar, View, RingPart, Service, Stage, Recovering, Ready, part_at, sends_all}
use Rattle.recovery_lines.specs.Ties.{IsFit, IsPlaced, IsSafe, IsSaid, ReplicaLines, ActLines, AfterLines, newest_of, rings_in}
use Rattle.step_lines.specs.Effects.{EffectsTold, Stays, Onward, Goes}

-- the own newest tuple was told before the step, where the node is a replica
pub record OwnTold (c : Config) (lines : List Line) (x : NodeId) (newest : Option Checkpoint) (p : PartitionTable) : Type 0 where
  pub told : Has (told x.0 lines) (newest_of p newest)
  pub valid : is_tuple_of (round_sizes c) p.rings (tuple_of_newest p newest) ≡ true

module _ (c : Config) (fit : IsFit c) (before : List Line) (a : StepSoFar) (placed : AllByRecursion (IsPlaced c a.view.id) (rings_in a.view.parts))
    (own : (p : PartitionTable) → partition_of c.partitions a.view.id ≡ Some p → OwnTold c before a.view.id a.view.checkpoints.newest p) where
  rule_goes_at : (ring : RingId) (b : StepSoFar) (h : Ring → Part → View → Effects)
      → ((p : RingPart) → part_at b.view ring ≡ Some p → EffectsTold c before p.ring.id (no_effects p.part) → Stays c before p.ring.id (no_effects p.part) (h p.ring p.part b.view))
      → Goes c before b (rules_for c ring h b)
  rule_goes_at ring b h s = by_part (part_at b.view ring) refl
    where
      by_part : (o : Option RingPart) → part_at b.view ring ≡ o → Goes c before b (rules_at c h o b)
      by_part None e = Goes-refl c before b
      by_part (Some p) e = if_goes c before b (is_acceptor p.ring) (applies_effects c p.ring (h p.ring p.part b.view) b) b (part_goes c fit before ring b h p e (s p e)) (Goes-refl c before b)

  some_inst : (b : Bool) (x y : ℕ) → (if b then Some x else None) ≡ Some y → x ≡ y
  some_inst true x y e = cc
  some_inst false x y e = absurd (cc)

  -- what the own newest checkpoint makes safe
  safe_here : (ring : RingId) (b : StepSoFar) → Onward c before a b → (inst : ℕ) → safe_of b.view ring b.view.service ≡ Some inst → IsSafe c before ring (a.view.id, inst)
  safe_here ring b on inst e p has replica =
      let there : partition_of c.partitions a.view.id ≡ Some p = fit.alone p a.view.id (in_partitions ring c.partitions p has) replica in
      let mine : OwnTold c before a.view.id a.view.checkpoints.newest p = own p there in
      subst (λ (n : ℕ). (n ≡ 0) ⊎ (some_reaches p.rings ring n (told a.view.id.0 before) ≡ true))
      (ap (λ (k : Checkpoints). safe_in ring k.newest) (sym on.checkpoints) ∙ by_service b.view.service e) (own_safe c before a.view.id.0 ring p a.view.checkpoints.newest mine.told mine.valid)
    where
      by_service : (o : Option Service) → safe_of b.view ring o ≡ Some inst → safe_in ring b.view.checkpoints.newest ≡ inst
      by_service None f = absurd (cc)
      by_service (Some s) f = some_inst (has_ring s.partition.rings ring.0) (safe_in ring b.view.checkpoints.newest) inst f

  fun_goes : (t : Bool) (f : StepSoFar → StepSoFar) (b : StepSoFar) → Goes c before b (f b) → Goes c before b ((if t then f else (λ (q : StepSoFar). q)) b)
  fun_goes true f b g = g
  fun_goes false f b g = Goes-refl c before b

  ring_goes : (active again trims : Bool) (ring : RingId) (b : StepSoFar) → Onward c before a b → Goes c before b (ticks_ring c active again trims ring b)
  ring_goes active again trims ring b on =
      Goes-trans c before b started (ticks_ring c active again trims ring b) starts
      (Goes-trans c before started resent (ticks_ring c active again trims ring b) resend
      (Goes-trans c before resent asked (ticks_ring c active again trims ring b) ask
      (rule_goes_at ring asked (λ r part view. levels r view.link part) (λ p e t. levels_stays c before p.ring asked.view.link p.part))))
    where
      started : StepSoFar
      started = rules_for c ring (λ r part view. starts_on_tick r view.link part) b

      resent : StepSoFar
      resent = (if again && active then rules_for c ring (λ r part view. resends r view.link part) else (λ (q : StepSoFar). q)) started

      asked : StepSoFar
      asked = (if trims then rules_for c ring (λ r part view. asks_round r view.link part (safe_of view ring view.service)) else (λ (q : StepSoFar). q)) resent

      starts : Goes c before b started
      starts = rule_goes_at ring b (λ r part view. starts_on_tick r view.link part) (λ p e t. starts_on_tick_stays c before p.ring b.view.link p.part)

      resend : Goes c before started resent
      resend = fun_goes (again && active) (rules_for c ring (λ r part view. resends r view.link part)) started
          (rule_goes_at ring started (λ r part view. resends r view.link part) (λ p e t. resends_stays c before p.ring started.view.link p.part))

      here : Onward c before a resent
      here = Onward-trans c before a b resent on (Onward-trans c before b started resent starts.onward resend.onward)

      rings_there : AllByRecursion (IsPlaced c a.view.id) (rings_in resent.view.parts)
      rings_there = subst (λ (rs : List Ring). AllByRecursion (IsPlaced c a.view.id) rs) (sym here.rings) placed

      ask : Goes c before resent asked
      ask = fun_goes trims (rules_for c ring (λ r part view. asks_round r view.link part (safe_of view ring view.service))) resent
          (rule_goes_at ring resent (λ r part view. asks_round r view.link part (safe_of view ring view.service))
          (λ p e t.
          let at : IsPlaced c a.view.id p.ring = part_placed (IsPlaced c a.view.id) resent.view.parts ring p rings_there e in
          asks_stays c before p.ring (own_placed c a.view.id p.ring at) resent.view.link p.part (safe_of resent.view ring resent.view.service)
          (λ inst f. subst (λ (x : NodeId). IsSafe c before p.ring.id (x, inst)) (sym at.own)
          (subst (λ (r : RingId). IsSafe c before r (a.view.id, inst)) (sym (part_ring resent.view.parts ring p e)) (safe_here ring resent here inst f)))))

  rings_goes : (again trims : Bool) (parts : List RingPart) (b : StepSoFar) → Onward c before a b → Goes c before b (ticks_rings c again trims parts b)
  rings_goes again trims [] b on = Goes-refl c before b
  rings_goes again trims (p ∷ parts) b on =
      let d : StepSoFar = ticks_ring c (is_active p.part.coordinator) again trims p.ring.id b in
      let g : Goes c before b d = ring_goes (is_active p.part.coordinator) again trims p.ring.id b on in
      Goes-trans c before b d (ticks_rings c again trims parts d) g (rings_goes again trims parts d (Onward-trans c before a b d on g.onward))

  recovery_goes : (again : Bool) (b : StepSoFar) → Goes c before b (recovery_ticks_at c again b.view.service b)
  recovery_goes again b = go b.view.service refl
    where
      right : (lines : List Line) → ActLines c before lines b → (o : Option Service) → ReplicaLines c lines b.view.id (epoch_of b.view) b.view.checkpoints.newest o → AfterLines c before (recovery_ticks_at c again o b)
      right lines ties None r = record { lines = lines; ties = ties }
      right lines ties (Some s) r = recovery_lines c fit before b lines ties again s r

      go : (o : Option Service) → b.view.service ≡ o → Goes c before b (recovery_ticks_at c again o b)
      go None e = Goes-refl c before b
      go (Some s) e = goes_so c before b (recovery_ticks c again s s.stage b) (ticks_onward c before again s s.stage b)
          (λ lines ties. right lines ties (Some s) (subst (λ (o : Option Service). ReplicaLines c lines b.view.id (epoch_of b.view) b.view.checkpoints.newest o) e ties.replica))

  -- ---- what a beat asks

  sent_goes : (frames : List Sent) (b : StepSoFar) → ((lines : List Line) → AllByRecursion (IsSaid c lines) frames) → Goes c before b (sends_all frames b)
  sent_goes frames b said = goes_so c before b (sends_all frames b) (onward_sends c before frames b) (λ lines ties. sent_lines c fit before b lines ties frames (said lines))

  fetches_goes : (turn : ℕ) (b : StepSoFar) → Goes c before b (fetches_missing c turn b.view.service b)
  fetches_goes turn b = by_service b.view.service
    where
      by_part : (place : RingId × ℕ) (o : Option RingPart) → Goes c before b (fetches_at turn place o b)
      by_part place None = Goes-refl c before b
      by_part place (Some p) = sent_goes (sends p.ring (turn_of b.view.id p.ring.acceptors turn) (Fetch place.0 place.1)) b
          (λ lines. ring_sends c lines p.ring (turn_of b.view.id p.ring.acceptors turn) (Fetch place.0 place.1) (λ node. tt))

      by_stage : (stage : Stage) → Goes c before b (fetches_stage c turn stage b)
      by_stage (Recovering attempt) = Goes-refl c before b
      by_stage (Ready standing) = by_part (place_of c standing) (part_at b.view (place_of c standing).0)

      by_service : (o : Option Service) → Goes c before b (fetches_missing c turn o b)
      by_service None = Goes-refl c before b
      by_service (Some s) = by_stage s.stage

  beat_goes : (turn : ℕ) (b : StepSoFar) → Goes c before b (asks_on_beat c turn b)
  beat_goes turn b =
      let d : StepSoFar = fetches_missing c turn b.view.service b in
      Goes-trans c before b d (asks_on_beat c turn b) (fetches_goes turn b)
      (sent_goes (flat_map (λ (node : NodeTable). sends_to d.view.id node.id Hello) (filter (shares_ring d.view) c.nodes)) d
      (λ lines. all_flat (IsSaid c lines) (λ (node : NodeTable). sends_to d.view.id node.id Hello) (λ node. said_sends c lines d.view.id node.id Hello tt) (filter (shares_ring d.view) c.nodes)))

  pub beats_goes : (parts : List RingPart) (beat : ℕ) (again : Bool) → Goes c before a (beats_with c parts beat again a)
  beats_goes parts beat again =
      Goes-trans c before a recovered (beats_with c parts beat again a) first
      (Goes-trans c before recovered ringed (beats_with c parts beat again a) (rings_goes again (beat % c.trim == 0) parts recovered first.onward)
      (fun_goes again (asks_on_beat c (beat / c.resend)) ringed (beat_goes (beat / c.resend) ringed)))
    where
      recovered : StepSoFar
      recovered = recovery_ticks_at c again a.view.service a

      ringed : StepSoFar
      ringed = ticks_rings c again (beat % c.trim == 0) parts recovered

      first : Goes c before a recovered
      first = recovery_goes again a
