-- Rounds of trimming: each frame fits, and the part keeps its shape.
use Rattle.std.proofs.Common.{◌≡◌, ℕ, suc, min, Bool, true, false, ◌&&◌, List, [], ◌∷◌, ◌++◌, Option, Some, None, refl, subst, arith}
use Rattle.std.specs.Prelude.{◌==◌, nat_lt, not, if◌then◌else◌}
use Rattle.std.specs.List.{AllByRecursion}
use Rattle.mrp_types.specs.declared.id.NodeId.{NodeId}
use Rattle.vote_state.specs.Valid.{IsRing, IsInst}
use Rattle.vote_state.proofs.StateLemmas.{append_all}
use Rattle.ring_link.specs.Silence.{Link}
use Rattle.frames.specs.declared.body.Body.TheVariants as body
use Rattle.frames.specs.declared.sent.Sent.{Sent}
use Rattle.protocol.specs.Lines.{Trim}
use Rattle.protocol.specs.Parts.{Ring, Round, Part, Effects}
use Rattle.protocol.specs.Rings.{is_acceptor, is_subscribed, by_id, replicas_of, other_acceptors, sends_each}
use Rattle.protocol.specs.Effects.{no_effects, with_part, with_frames, with_line}
use Rattle.protocol.specs.Acceptor.{trims_to}
use Rattle.protocol.specs.Ballots.{role_leads}
use Rattle.protocol.specs.Trimming.{is_answered, least_of, least_above_last, least_where, least, with_answer, has_answered, in_round, trims_all, trims_above, ends_by, goes_on_round, with_own_answer, next_round, with_asked, asks, asks_round, answers_in, answers}
use Rattle.step_valid.specs.Valid.{RoundValid, PartValid, EffectsValid}
use Rattle.step_valid.proofs.Words.{valid_none, valid_each, valid_frames, valid_trims}
use Rattle.step_valid.proofs.Tables.{valid_line}
use Rattle.step_shape.specs.Shaped.{PartFits, EffectsNear, EffectsFit}
use Rattle.step_shape.proofs.Words.{EffectsNext, each_fit, near_frames, near_trims}
use Rattle.step_shape.proofs.Tables.{fits_none, ends_fit, proposes_fit}

module _ (ring : Ring) (numbered : IsRing ring.id) (fine : ℕ → Type 0) (id : NodeId) (mine : ring.own ≡ id) (acceptor : is_acceptor ring ≡ true) where
  abbrev Fits : Effects → Type 0
  Fits effects = EffectsFit ring fine id effects

  abbrev AnswerIn : NodeId × ℕ → Type 0
  AnswerIn answer = IsInst answer.1

  least_in : (inst : ℕ) (answers : List (NodeId × ℕ)) → IsInst inst → IsInst (least_of inst answers)
  least_in inst [] is = is
  least_in inst (answer ∷ answers) is = least_in (min inst answer.1) answers (omega arith)

  least_inst : (round : Round) → AllByRecursion AnswerIn round.answers → (inst : ℕ) → least ring round ≡ Some inst → IsInst inst
  unfolding least
  least_inst round all inst = by_test (is_answered ring.subscribers round.answers)
    where
      by_above : (first : ℕ) → IsInst first → (b : Bool) → (if b then Some first else None) ≡ Some inst → IsInst inst
      by_above first is true e = let same : first ≡ inst = cc in subst (λ x. IsInst x) same is
      by_above first is false e = absurd (cc)

      by_answers : (answers : List (NodeId × ℕ)) → AllByRecursion AnswerIn answers → least_above_last round.last answers ≡ Some inst → IsInst inst
      by_answers [] a e = absurd (cc)
      by_answers (answer ∷ answers) a e = by_above (least_of answer.1 answers) (least_in answer.1 answers a.0) (nat_lt round.last (least_of answer.1 answers)) e

      by_test : (b : Bool) → least_where b round.last round.answers ≡ Some inst → IsInst inst
      by_test true e = by_answers round.answers all e
      by_test false e = absurd (cc)

  answered : (node : NodeId) (inst : ℕ) (round : Round) → IsInst inst → AllByRecursion AnswerIn round.answers → AllByRecursion AnswerIn (with_answer ring node inst round).answers
  answered node inst round is all = go (is_subscribed ring node && not (has_answered node round.answers))
    where
      go : (b : Bool) → AllByRecursion AnswerIn (if b then record round { answers = round.answers ++ (node, inst) ∷ [] } else round).answers
      go true = append_all AnswerIn round.answers ((node, inst) ∷ []) all (is, tt)
      go false = all

  -- what is trimmed by a round, with its frames
  trimmed_valid : (effects : Effects) (inst : ℕ) → IsInst inst → EffectsValid effects → EffectsValid (trims_above ring inst effects)
  trimmed_valid effects inst is d = go (nat_lt effects.part.kept.trim inst)
    where
      go : (b : Bool) → EffectsValid (if b then trims_all ring inst effects else effects)
      go false = d
      go true =
          valid_frames ring numbered (trims_to ring inst (with_line (Trim ring.own ring.id inst) effects)) (sends_each ring (other_acceptors ring) (body.TrimTo ring.id inst))
          (valid_each ring numbered (other_acceptors ring) (body.TrimTo ring.id inst) is) (valid_trims ring numbered (with_line (Trim ring.own ring.id inst) effects) inst is (valid_line ring numbered effects (Trim ring.own ring.id inst) tt d))

  trimmed_near : (effects : Effects) (inst : ℕ) → EffectsNear fine id effects → EffectsNear fine id (trims_above ring inst effects)
  trimmed_near effects inst n = go (nat_lt effects.part.kept.trim inst)
    where
      go : (b : Bool) → EffectsNear fine id (if b then trims_all ring inst effects else effects)
      go false = n
      go true =
          near_frames ring numbered fine id mine (trims_to ring inst (with_line (Trim ring.own ring.id inst) effects)) (sends_each ring (other_acceptors ring) (body.TrimTo ring.id inst))
          (each_fit ring numbered fine id mine (other_acceptors ring) (body.TrimTo ring.id inst) numbered)
          (near_trims ring numbered fine id mine (with_line (Trim ring.own ring.id inst) effects) inst (record { outstanding = n.outstanding; frames = n.frames }))

  ends : (link : Link) (round : Round) → AllByRecursion AnswerIn round.answers → (effects : Effects) → EffectsValid effects → EffectsNext fine id effects → (o : Option ℕ) → ((inst : ℕ) → o ≡ Some inst → IsInst inst)
      → Fits (ends_by ring link round effects o)
  ends link round all effects d n None is = ends_fit ring numbered fine id mine acceptor _ (record { near = record { outstanding = n.near.outstanding; frames = n.near.frames }; next = n.next })
  ends link round all effects d n (Some inst) is =
      let now : Effects = with_part (in_round None effects.part) effects in
      proposes_fit ring numbered fine id mine acceptor (trims_above ring inst now) link
      (trimmed_valid now inst (is inst refl) (record { part = record { kept = d.part.kept; role = d.part.role; round = tt; held = d.part.held; ordered = d.part.ordered }; changes = d.changes; frames = d.frames; learned = d.learned; lines = d.lines }))
      (trimmed_near now inst (record { outstanding = n.near.outstanding; frames = n.near.frames }))

  pub fits_asks_round : (link : Link) (part : Part) → PartValid part → PartFits ring part → (own_safe : Option ℕ) → ((inst : ℕ) → own_safe ≡ Some inst → IsInst inst) → Fits (asks_round ring link part own_safe)
  unfolding asks_round
  fits_asks_round link part p f own_safe safe = go (role_leads ring part.coordinator.role)
    where
      own : (o : Option ℕ) → ((inst : ℕ) → o ≡ Some inst → IsInst inst) → AllByRecursion AnswerIn (with_own_answer ring o (next_round part)).answers
      own None s = tt
      own (Some inst) s = answered ring.own inst (next_round part) (s inst refl) tt

      go : (b : Bool) → Fits (if b then asks ring link part own_safe else no_effects part)
      go false = fits_none ring numbered fine id mine part f
      go true =
          let round : Round = with_own_answer ring own_safe (next_round part) in
          let asked : List Sent = sends_each ring (by_id (replicas_of ring.subscribers)) (body.AskSafe ring.id (suc part.rounds.asked)) in
          ends link round (own own_safe safe) (with_frames asked (no_effects (with_asked part)))
          (valid_frames ring numbered (no_effects (with_asked part)) asked (valid_each ring numbered (by_id (replicas_of ring.subscribers)) (body.AskSafe ring.id (suc part.rounds.asked)) tt)
          (valid_none ring numbered (with_asked part) (record { kept = p.kept; role = p.role; round = tt; held = p.held; ordered = p.ordered })))
          (record { near = record { outstanding = f.outstanding; frames = each_fit ring numbered fine id mine (by_id (replicas_of ring.subscribers)) (body.AskSafe ring.id (suc part.rounds.asked)) numbered }; next = f.next })
          (least ring round) (least_inst round (own own_safe safe))

  pub fits_answers : (link : Link) (part : Part) → PartValid part → PartFits ring part → (from : NodeId) (number inst : ℕ) → IsInst inst → Fits (answers ring link part from number inst)
  unfolding answers
  fits_answers link part p f from number inst is = by_round part.rounds.current p.round
    where
      by_round : (o : Option Round) → RoundValid o → Fits (answers_in ring link part from number inst o)
      by_round None r = fits_none ring numbered fine id mine part f
      by_round (Some current) r = go (number == current.number)
        where
          go : (b : Bool) → Fits (if b then goes_on_round ring link (with_answer ring from inst current) (no_effects part) else no_effects part)
          go false = fits_none ring numbered fine id mine part f
          go true =
              let all = answered from inst current is r in
              ends link (with_answer ring from inst current) all (no_effects part) (valid_none ring numbered part p) (record { near = record { outstanding = f.outstanding; frames = tt }; next = f.next })
              (least ring (with_answer ring from inst current)) (least_inst (with_answer ring from inst current) all)
