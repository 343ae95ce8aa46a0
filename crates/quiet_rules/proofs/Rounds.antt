-- Rounds of trimming are quiet.
use Rattle.std.proofs.Common.{ℕ, suc, Option, Some, None}
use Rattle.std.specs.Prelude.{◌==◌, nat_lt}
use Rattle.mrp_types.specs.declared.id.NodeId.{NodeId}
use Rattle.ring_link.specs.Silence.{Link}
use Rattle.frames.specs.declared.body.Body.TheVariants.{AskSafe, TrimTo}
use Rattle.protocol.specs.Lines.{Trim}
use Rattle.protocol.specs.Ballots.{role_leads}
use Rattle.protocol.specs.Parts.{Ring, Round, Part, Effects}
use Rattle.protocol.specs.Rings.{sends_each, other_acceptors, replicas_of, by_id}
use Rattle.protocol.specs.Effects.{no_effects, with_part, with_frames, with_line}
use Rattle.protocol.specs.Acceptor.{trims_to}
use Rattle.protocol.specs.Trimming.{least, with_answer, in_round, trims_all, trims_above, ends_by, goes_on_round, with_own_answer, next_round, with_asked, asks, answers_in, answers, asks_round, with_current}
use Rattle.quiet_rules.specs.Quiet.{Quiet}
use Rattle.quiet_rules.proofs.Words.{by_test, ring_sends_each, Quiet-refl, Quiet-trans, quiet_frames, quiet_line, quiet_rounds, quiet_trims, quiet_proposes}

module _ (ring : Ring) where
  ends_quiet : (link : Link) (round : Round) (effects : Effects) → Quiet ring effects (goes_on_round ring link round effects)
  ends_quiet link round effects = by_least (least ring round)
    where
      now : Effects
      now = with_part (in_round None effects.part) effects

      by_least : (o : Option ℕ) → Quiet ring effects (ends_by ring link round effects o)
      by_least None = quiet_rounds ring effects (with_current (Some round) effects.part.rounds)
      by_least (Some inst) =
          Quiet-trans ring effects (trims_above ring inst now) (ends_by ring link round effects (Some inst))
          (Quiet-trans ring effects now (trims_above ring inst now) (quiet_rounds ring effects (with_current None effects.part.rounds))
          (by_test (Quiet ring now) (nat_lt now.part.kept.trim inst) (trims_all ring inst now) now (λ t. all) (Quiet-refl ring now)))
          (quiet_proposes ring link (trims_above ring inst now))
        where
          lined : Effects
          lined = with_line (Trim ring.own ring.id inst) now

          cut : Effects
          cut = trims_to ring inst lined

          all : Quiet ring now (trims_all ring inst now)
          all = Quiet-trans ring now lined (trims_all ring inst now) (quiet_line ring now (Trim ring.own ring.id inst) tt)
              (Quiet-trans ring lined cut (trims_all ring inst now) (quiet_trims ring inst lined)
              (quiet_frames ring cut (sends_each ring (other_acceptors ring) (TrimTo ring.id inst)) (ring_sends_each ring (other_acceptors ring) (TrimTo ring.id inst) tt)))

  pub quiet_answers : (link : Link) (part : Part) (from : NodeId) (number inst : ℕ) → Quiet ring (no_effects part) (answers ring link part from number inst)
  unfolding answers
  quiet_answers link part from number inst = by_round part.rounds.current
    where
      by_round : (o : Option Round) → Quiet ring (no_effects part) (answers_in ring link part from number inst o)
      by_round None = Quiet-refl ring (no_effects part)
      by_round (Some round) = by_test (Quiet ring (no_effects part)) (number == round.number) (goes_on_round ring link (with_answer ring from inst round) (no_effects part)) (no_effects part)
          (λ e. ends_quiet link (with_answer ring from inst round) (no_effects part)) (Quiet-refl ring (no_effects part))

  -- a round is asked, with the own answer
  pub quiet_asks : (link : Link) (part : Part) (own_safe : Option ℕ) → Quiet ring (no_effects part) (asks_round ring link part own_safe)
  unfolding asks_round
  quiet_asks link part own_safe = by_test (Quiet ring (no_effects part)) (role_leads ring part.coordinator.role) (asks ring link part own_safe) (no_effects part)
      (λ e. Quiet-trans ring (no_effects part) asked (asks ring link part own_safe)
      (Quiet-trans ring (no_effects part) (no_effects (with_asked part)) asked
      (quiet_rounds ring (no_effects part) (record { asked = suc part.rounds.asked; current = None }))
      (quiet_frames ring (no_effects (with_asked part)) (sends_each ring (by_id (replicas_of ring.subscribers)) (AskSafe ring.id (suc part.rounds.asked)))
      (ring_sends_each ring (by_id (replicas_of ring.subscribers)) (AskSafe ring.id (suc part.rounds.asked)) tt)))
      (ends_quiet link (with_own_answer ring own_safe (next_round part)) asked))
      (Quiet-refl ring (no_effects part))
    where
      asked : Effects
      asked = with_frames (sends_each ring (by_id (replicas_of ring.subscribers)) (AskSafe ring.id (suc part.rounds.asked))) (no_effects (with_asked part))
