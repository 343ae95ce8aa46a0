-- Rounds of trimming ask and tell nodes that are there.
use Rattle.std.proofs.Common.{ℕ, suc, Option, Some, None}
use Rattle.std.specs.Prelude.{◌==◌, nat_lt}
use Rattle.mrp_types.specs.declared.id.NodeId.{NodeId}
use Rattle.mrp_config.specs.Config.{Config}
use Rattle.ring_link.specs.Silence.{Link}
use Rattle.frames.specs.declared.body.Body.TheVariants.{AskSafe, TrimTo}
use Rattle.protocol.specs.Lines.{Trim}
use Rattle.protocol.specs.Ballots.{role_leads}
use Rattle.protocol.specs.Parts.{Ring, Round, Part, Effects}
use Rattle.protocol.specs.Rings.{sends_each, other_acceptors, replicas_of, by_id}
use Rattle.protocol.specs.Effects.{no_effects, with_part, with_frames, with_line}
use Rattle.protocol.specs.Acceptor.{trims_to}
use Rattle.protocol.specs.Trimming.{least, with_answer, in_round, trims_all, trims_above, ends_by, goes_on_round, with_own_answer, next_round, with_asked, asks, answers_in, answers, asks_round}
use Rattle.frame_parties.proofs.Invariant.{AreAddressed, RingNamed}
use Rattle.frame_parties.proofs.Words.{by_id_there, each_addressed, others_there, more, if_so, trims_addressed, proposes_addressed}

module _ (c : Config) (ring : Ring) (named : RingNamed c ring) where
  round_addressed : (effects : Effects) (link : Link) (round : Round) → AreAddressed c effects.frames → AreAddressed c (goes_on_round ring link round effects).frames
  round_addressed effects link round s = by_least (least ring round)
    where
      now : Effects
      now = with_part (in_round None effects.part) effects

      by_least : (o : Option ℕ) → AreAddressed c (ends_by ring link round effects o).frames
      by_least None = s
      by_least (Some inst) = proposes_addressed c ring named (trims_above ring inst now) link (if_so c ring named (nat_lt now.part.kept.trim inst) (trims_all ring inst now) now all s)
        where
          cut : Effects
          cut = trims_to ring inst (with_line (Trim ring.own ring.id inst) now)

          all : AreAddressed c (trims_all ring inst now).frames
          all = more c ring named cut (sends_each ring (other_acceptors ring) (TrimTo ring.id inst)) (each_addressed c ring named (other_acceptors ring) (TrimTo ring.id inst) (others_there c ring named))
              (trims_addressed c ring named (with_line (Trim ring.own ring.id inst) now) inst s)

  pub answers_addressed : (link : Link) (part : Part) (from : NodeId) (number inst : ℕ) → AreAddressed c (answers ring link part from number inst).frames
  unfolding answers
  answers_addressed link part from number inst = by_round part.rounds.current
    where
      by_round : (o : Option Round) → AreAddressed c (answers_in ring link part from number inst o).frames
      by_round None = tt
      by_round (Some round) =
          if_so c ring named (number == round.number) (goes_on_round ring link (with_answer ring from inst round) (no_effects part)) (no_effects part)
          (round_addressed (no_effects part) link (with_answer ring from inst round) tt) tt

  -- a round is asked
  pub asks_addressed : (link : Link) (part : Part) (own_safe : Option ℕ) → AreAddressed c (asks_round ring link part own_safe).frames
  unfolding asks_round
  asks_addressed link part own_safe =
      if_so c ring named (role_leads ring part.coordinator.role) (asks ring link part own_safe) (no_effects part)
      (round_addressed asked link (with_own_answer ring own_safe (next_round part))
      (more c ring named (no_effects (with_asked part)) (sends_each ring (by_id (replicas_of ring.subscribers)) (AskSafe ring.id (suc part.rounds.asked)))
      (each_addressed c ring named (by_id (replicas_of ring.subscribers)) (AskSafe ring.id (suc part.rounds.asked)) (by_id_there c (replicas_of ring.subscribers) named.replicas)) tt)) tt
    where
      asked : Effects
      asked = with_frames (sends_each ring (by_id (replicas_of ring.subscribers)) (AskSafe ring.id (suc part.rounds.asked))) (no_effects (with_asked part))
