-- Rounds of trimming, and an acceptor's part of a tick that may start a ballot.
use Rattle.std.proofs.Common.{◌≡◌, ℕ, suc, ◌<◌, Bool, true, false, Option, Some, None, get_or}
use Rattle.std.specs.Prelude.{◌==◌, nat_lt, if◌then◌else◌}
use Rattle.mrp_types.specs.declared.id.NodeId.{NodeId}
use Rattle.mrp_types.specs.declared.value.Value.{Value}
use Rattle.vote_state.specs.declared.ring.RingState.{RingState}
use Rattle.ring_link.specs.Silence.{Link}
use Rattle.frames.specs.declared.body.Body.TheVariants as body
use Rattle.ring_reach.specs.Reach.{seen}
use Rattle.protocol.specs.Lines.{Trim}
use Rattle.protocol.specs.Parts.{Ring, Role, Idle, Active, Round, Rounds, Part, Effects}
use Rattle.protocol.specs.Rings.{by_id, replicas_of, is_own, other_acceptors, owner_of, position_of, sends_each}
use Rattle.protocol.specs.Effects.{with_rounds, with_part, with_frames, with_line, no_effects}
use Rattle.protocol.specs.Acceptor.{trims_to}
use Rattle.protocol.specs.Ballots.{greatest_seen, role_leads}
use Rattle.protocol.specs.Coordinator.{leads}
use Rattle.protocol.specs.Leading.{is_to_start, starts_idle, starts_on_tick}
use Rattle.protocol.specs.Trimming.{least, with_answer, in_round, trims_all, trims_above, ends_by, goes_on_round, with_own_answer, next_round, with_asked, asks, asks_round, answers_in, answers}
use Rattle.ring_safety.specs.Faces.{Face}
use Rattle.ring_safety.specs.Invariant.{Local}
use Rattle.ring_safety.proofs.Local.{Grows-refl, Grows-trans}
use Rattle.ring_tables.specs.Ties.{acceptors, PartTies}
use Rattle.ring_tables.specs.Done.{EffectsTie, After}
use Rattle.ring_tables.proofs.Effects.{effects_none, effects_frames}
use Rattle.ring_tables.proofs.Offering.{proposes_after_ties}
use Rattle.ring_rules.proofs.Coordinating.{effects_trims}
use Rattle.ring_rules.proofs.Starting.{said_sends_each, leads_ties}

module _ (ring : Ring) (faces : ℕ → Face Value) (a : ℕ) (seat : position_of ring ring.own ≡ Some a) (within : a < acceptors ring)
    (seats : (node : NodeId) (k : ℕ) → position_of ring node ≡ Some k → k < acceptors ring)
    (alone : (k : ℕ) → k < acceptors ring → is_own ring (get_or ring.acceptors k (record { 0 = 0 })) ≡ true → k ≡ a)
    (all : (k : ℕ) → Local (acceptors ring) faces k (faces k)) (start : Face Value) (local : Local (acceptors ring) faces a start) (kept : RingState) where
  -- ---- what leaves the ties alone

  effects_line : (f : Face Value) (effects : Effects) (line : _) → EffectsTie ring faces a start kept f effects → EffectsTie ring faces a start kept f (with_line line effects)
  effects_line f effects line t =
      let d = t.done in
      record { done = record { reached = d.reached; kept = d.kept; learner = d.learner; changes = d.changes; frames = d.frames; learned = d.learned; recorded = d.recorded }; role = t.role; told = t.told }

  pub effects_rounds : (f : Face Value) (effects : Effects) (rounds : Rounds) → EffectsTie ring faces a start kept f effects → EffectsTie ring faces a start kept f (with_part (with_rounds rounds effects.part) effects)
  effects_rounds f effects rounds t =
      let d = t.done in
      record { done = record { reached = d.reached; kept = d.kept; learner = d.learner; changes = d.changes; frames = d.frames; learned = d.learned; recorded = d.recorded }; role = t.role; told = t.told }

  stays : (f : Face Value) (effects : Effects) → EffectsTie ring faces a start kept f effects → After ring faces a start kept f effects
  stays f effects t = record { face = f; grows = Grows-refl f; ties = t }

  -- ---- a round that may end

  pub effects_trims_above : (f : Face Value) (effects : Effects) (inst : ℕ) → EffectsTie ring faces a start kept f effects → After ring faces a start kept f (trims_above ring inst effects)
  effects_trims_above f effects inst t = go (nat_lt effects.part.kept.trim inst)
    where
      go : (b : Bool) → After ring faces a start kept f (if b then trims_all ring inst effects else effects)
      go false = stays f effects t
      go true =
          let r = effects_trims ring faces a seat within seats all start local kept f (with_line (Trim ring.own ring.id inst) effects) inst (effects_line f effects (Trim ring.own ring.id inst) t) in
          record {
            face = r.face;
            grows = r.grows;
            ties = effects_frames ring faces a start kept r.face (trims_to ring inst (with_line (Trim ring.own ring.id inst) effects)) (sends_each ring (other_acceptors ring) (body.TrimTo ring.id inst))
                (said_sends_each ring (seen faces a r.face) (other_acceptors ring) (body.TrimTo ring.id inst) tt) r.ties;
          }

  effects_ends : (f : Face Value) (link : Link) (round : Round) (effects : Effects) (o : Option ℕ) → EffectsTie ring faces a start kept f effects → After ring faces a start kept f (ends_by ring link round effects o)
  effects_ends f link round effects None t = stays f _ (effects_rounds f effects _ t)
  effects_ends f link round effects (Some inst) t =
      let now : Effects = with_part (in_round None effects.part) effects in
      let r = effects_trims_above f now inst (effects_rounds f effects _ t) in
      let rest = proposes_after_ties ring faces a seat within all start local kept r.face link (trims_above ring inst now) r.ties in
      record { face = rest.face; grows = Grows-trans r.grows rest.grows; ties = rest.ties }

  -- ---- the rules

  module _ (link : Link) (part : Part) (same : kept ≡ part.kept) (t : PartTies (acceptors ring) (seen faces a start) start part) where
    none : EffectsTie ring faces a start kept start (no_effects part)
    none = effects_none ring faces a start kept part t same

    pub asks_round_ties : (own_safe : Option ℕ) → After ring faces a start kept start (asks_round ring link part own_safe)
    unfolding asks_round
    asks_round_ties own_safe = go (role_leads ring part.coordinator.role)
      where
        asked : EffectsTie ring faces a start kept start (no_effects (with_asked part))
        asked = effects_none ring faces a start kept (with_asked part) (record { kept = t.kept; role = t.role; learner = t.learner }) same

        go : (b : Bool) → After ring faces a start kept start (if b then asks ring link part own_safe else no_effects part)
        go false = stays start (no_effects part) none
        go true =
            let round : Round = with_own_answer ring own_safe (next_round part) in
            let effects : Effects = with_frames (sends_each ring (by_id (replicas_of ring.subscribers)) (body.AskSafe ring.id (suc part.rounds.asked))) (no_effects (with_asked part)) in
            effects_ends start link round effects (least ring round)
            (effects_frames ring faces a start kept start (no_effects (with_asked part)) (sends_each ring (by_id (replicas_of ring.subscribers)) (body.AskSafe ring.id (suc part.rounds.asked)))
            (said_sends_each ring (seen faces a start) (by_id (replicas_of ring.subscribers)) (body.AskSafe ring.id (suc part.rounds.asked)) tt) asked)

    pub answers_ties : (from : NodeId) (number inst : ℕ) → After ring faces a start kept start (answers ring link part from number inst)
    unfolding answers
    answers_ties from number inst = by_round part.rounds.current
      where
        by_round : (o : Option Round) → After ring faces a start kept start (answers_in ring link part from number inst o)
        by_round None = stays start (no_effects part) none
        by_round (Some current) = go (number == current.number)
          where
            go : (b : Bool) → After ring faces a start kept start (if b then goes_on_round ring link (with_answer ring from inst current) (no_effects part) else no_effects part)
            go false = stays start (no_effects part) none
            go true = effects_ends start link (with_answer ring from inst current) (no_effects part) (least ring (with_answer ring from inst current)) none

    pub starts_on_tick_ties : After ring faces a start kept start (starts_on_tick ring link part)
    unfolding starts_on_tick
    starts_on_tick_ties = by_role part.coordinator.role
      where
        by_role : (role : Role) → After ring faces a start kept start (starts_idle ring link part role)
        by_role (Active campaign) = stays start (no_effects part) none
        by_role Idle = go (is_to_start ring link (owner_of ring (greatest_seen part)))
          where
            go : (b : Bool) → After ring faces a start kept start (if b then leads ring link part else no_effects part)
            go false = stays start (no_effects part) none
            go true = leads_ties ring faces a seat within alone all start local kept link part same t
