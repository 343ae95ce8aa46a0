-- A round of trimming that ends: what it makes a trim line was told by each subscribed partition's trim quorum.
use Rattle.protocol.specs.Ballots.{role_leads}
use Rattle.step_lines.specs.Effects.{Stays}
use Rattle.std.proofs.Common.{◌≡◌, ℕ, suc, ◌<◌, ◌≤◌, ◌⊎◌, inl, inr, Bool, true, false, List, [], ◌∷◌, ◌++◌, Option, Some, None, refl, sym, ◌∙◌, subst, arith, true≢false, le_refl, le_trans}
use Rattle.std.specs.Prelude.{◌==◌, nat_lt, nat_le, ◌&&◌, not, if◌then◌else◌, min}
use Rattle.std.specs.List.{AllByRecursion}
use Rattle.std.proofs.lemmas.Bool.Decides.{nat_tests}
use Rattle.mrp_types.specs.declared.id.NodeId.{NodeId}
use Rattle.mrp_types.specs.declared.id.RingId.{RingId}
use Rattle.mrp_config.specs.Config.{Config, has_node, subscribers_of}
use Rattle.mrp_config.specs.declared.tables.PartitionTable.{PartitionTable}
use Rattle.quorums.specs.Groups.{Has}
use Rattle.ring_link.specs.Silence.{Link}
use Rattle.frames.specs.declared.body.Body.TheVariants.{AskSafe, TrimTo}
use Rattle.plain_model.proofs.TupleOrder.{split_and}
use Rattle.protocol.specs.Lines.{Line, Trim}
use Rattle.protocol.specs.Parts.{Ring, Round, Part, Effects}
use Rattle.protocol.specs.Rings.{sends_each, other_acceptors, replicas_of, by_id, is_subscribed}
use Rattle.protocol.specs.Effects.{no_effects, with_part, with_frames, with_line}
use Rattle.protocol.specs.Acceptor.{trims_to}
use Rattle.protocol.specs.Trimming.{has_answered, answered_of, have_quorums, least_of, least_above_last, least_where, is_answered, least, with_answer, in_round, trims_all, trims_above, ends_by, goes_on_round, with_own_answer, next_round, with_asked, asks, answers_in, answers, asks_round, with_current}
use Rattle.faithful.specs.Scanners.{told, some_reaches}
use Rattle.faithful.specs.Rules.{HaveTold, AllHaveTold}
use Rattle.recovery_lines.specs.Ties.{IsFit, IsPlaced, IsSafe, TellsSafe, RoundLines, CurrentLines}
use Rattle.faithful.proofs.Quorum.{different_count, different_more, some_reaches_is, is_some_reaches}
use Rattle.recovery_lines.proofs.Hearing.{by_test, in_partitions}
use Rattle.step_lines.proofs.Words.{ring_sends_each, Stays-refl, Stays-trans, stays_frames, stays_line, stays_rounds, stays_trims, proposes_stays}
use Rattle.quorums.proofs.Each.{appended}

-- a node is a replica of one partition
pub told_safe : (c : Config) → IsFit c → (lines : List Line) (ring : RingId) (answer : NodeId × ℕ) → TellsSafe c lines ring answer → IsSafe c lines ring answer
told_safe c fit lines ring answer s p has replica =
    let same : s.partition ≡ p = some_same s.partition p
    (sym (fit.alone s.partition answer.0 (in_partitions ring c.partitions s.partition s.subscribes) s.replica) ∙ fit.alone p answer.0 (in_partitions ring c.partitions p has) replica) in
    subst (λ (q : PartitionTable). (answer.1 ≡ 0) ⊎ (some_reaches q.rings ring answer.1 (told answer.0.0 lines) ≡ true)) same s.told
  where
    some_same : (u v : PartitionTable) → Some u ≡ Some v → u ≡ v
    some_same u v e = cc

pub own_placed : (c : Config) (x : NodeId) (ring : Ring) → IsPlaced c x ring → IsPlaced c ring.own ring
own_placed c x ring placed = subst (λ (n : NodeId). IsPlaced c n ring) (sym placed.own) placed

module _ (c : Config) (lines : List Line) where
  least_low : (inst : ℕ) (answers : List (NodeId × ℕ)) → (least_of inst answers ≤ inst) × AllByRecursion (λ (answer : NodeId × ℕ). least_of inst answers ≤ answer.1) answers
  least_low inst [] = (le_refl inst, tt)
  least_low inst (answer ∷ answers) =
      let rest = least_low (min inst answer.1) answers in
      (le_trans rest.0 (low_left inst answer.1), (le_trans rest.0 (low_right inst answer.1), rest.1))
    where
      low_left : (i j : ℕ) → min i j ≤ i
      low_left i j = omega arith

      low_right : (i j : ℕ) → min i j ≤ j
      low_right i j = omega arith

  module _ (ring : Ring) (placed : IsPlaced c ring.own ring) where
    same : ring.subscribers ≡ subscribers_of c.partitions ring.id
    same = placed.subscribers

    -- each of these partitions has told
    quorums_told : (inst : ℕ) (answers : List (NodeId × ℕ)) → 0 < inst → AllByRecursion (λ (answer : NodeId × ℕ). inst ≤ answer.1) answers → RoundLines c lines ring.id answers
        → (ps : List PartitionTable) → ((p : PartitionTable) → Has ps p → Has (subscribers_of c.partitions ring.id) p) → have_quorums ps answers ≡ true → AllByRecursion (HaveTold lines ring.id inst) ps
    quorums_told inst answers some low round [] sub h = tt
    quorums_told inst answers some low round (p ∷ ps) sub h =
        let s = split_and (nat_le p.trim_quorum (answered_of p answers)) (have_quorums ps answers) h in (
          le_trans (at_most p.trim_quorum (answered_of p answers) s.0)
              (different_count p.replicas (λ n. some_reaches p.rings ring.id inst (told n lines)) answers round.different (each answers low round.safe)),
          quorums_told inst answers some low round ps (λ q has. sub q (inr has)) s.1,
        )
      where
        at_most : (i j : ℕ) → nat_le i j ≡ true → i ≤ j
        at_most i j h = grind (arith, nat_tests)

        one : (answer : NodeId × ℕ) → inst ≤ answer.1 → IsSafe c lines ring.id answer → has_node p.replicas answer.0.0 ≡ true → some_reaches p.rings ring.id inst (told answer.0.0 lines) ≡ true
        one answer le safe replica = elim (safe p (sub p (inl refl)) replica) [
          | inl none ↦ absurd (omega (arith, none))
          | inr reaches ↦
              let r = some_reaches_is p.rings ring.id answer.1 (told answer.0.0 lines) reaches in
              is_some_reaches p.rings ring.id inst (told answer.0.0 lines) (record { tuple = r.tuple; there = r.there; reaches = le_trans le r.reaches })
        ]

        each : (ys : List (NodeId × ℕ)) → AllByRecursion (λ (answer : NodeId × ℕ). inst ≤ answer.1) ys → AllByRecursion (IsSafe c lines ring.id) ys
            → AllByRecursion (λ (answer : NodeId × ℕ). has_node p.replicas answer.0.0 ≡ true → some_reaches p.rings ring.id inst (told answer.0.0 lines) ≡ true) ys
        each [] l s = tt
        each (answer ∷ ys) l s = (one answer l.0 s.0, each ys l.1 s.1)

    pub least_told : (round : Round) (inst : ℕ) → RoundLines c lines ring.id round.answers → least ring round ≡ Some inst → AllHaveTold lines ring.id inst (subscribers_of c.partitions ring.id)
    unfolding least
    least_told round inst r e =
        subst (λ (ps : List PartitionTable). AllHaveTold lines ring.id inst ps) same
        (by_partitions ring.subscribers (λ p has. subst (λ (ps : List PartitionTable). Has ps p) same has) (is_answered ring.subscribers round.answers) refl e)
      where
        by_above : (ps : List PartitionTable) → ((p : PartitionTable) → Has ps p → Has (subscribers_of c.partitions ring.id) p) → have_quorums ps round.answers ≡ true
            → (answers : List (NodeId × ℕ)) → round.answers ≡ answers → least_above_last round.last answers ≡ Some inst → AllByRecursion (HaveTold lines ring.id inst) ps
        by_above ps sub h [] f g = absurd (cc)
        by_above ps sub h (answer ∷ answers) f g = go (nat_lt round.last (least_of answer.1 answers)) refl g
          where
            go : (b : Bool) → nat_lt round.last (least_of answer.1 answers) ≡ b → (if b then Some (least_of answer.1 answers) else None) ≡ Some inst → AllByRecursion (HaveTold lines ring.id inst) ps
            go false t u = absurd (cc)
            go true t u =
                let is : least_of answer.1 answers ≡ inst = cc in
                let more : round.last < least_of answer.1 answers = grind (arith, nat_tests) in
                let low = least_low answer.1 answers in
                let some : 0 < inst = omega arith in
                let all : AllByRecursion (λ (other : NodeId × ℕ). inst ≤ other.1) (answer ∷ answers) =
                subst (λ (i : ℕ). AllByRecursion (λ (other : NodeId × ℕ). i ≤ other.1) (answer ∷ answers)) is (low.0, low.1) in
                quorums_told inst round.answers some (subst (λ (ys : List (NodeId × ℕ)). AllByRecursion (λ (other : NodeId × ℕ). inst ≤ other.1) ys) (sym f) all) r ps sub h

        by_partitions : (ps : List PartitionTable) → ((p : PartitionTable) → Has ps p → Has (subscribers_of c.partitions ring.id) p) → (b : Bool) → is_answered ps round.answers ≡ b
            → least_where b round.last round.answers ≡ Some inst → AllHaveTold lines ring.id inst ps
        by_partitions ps sub false t g = absurd (cc)
        by_partitions [] sub true t g = absurd (true≢false (sym t))
        by_partitions (p ∷ ps) sub true t g = by_above (p ∷ ps) sub t round.answers refl g

    pub answer_lines : (node : NodeId) (inst : ℕ) (round : Round) → RoundLines c lines ring.id round.answers → IsSafe c lines ring.id (node, inst) → RoundLines c lines ring.id (with_answer ring node inst round).answers
    answer_lines node inst round r safe = go (is_subscribed ring node && not (has_answered node round.answers)) refl
      where
        not_true : (b : Bool) → not b ≡ true → b ≡ false
        not_true true e = absurd (true≢false (sym e))
        not_true false e = refl

        go : (b : Bool) → (is_subscribed ring node && not (has_answered node round.answers)) ≡ b → RoundLines c lines ring.id (if b then record round { answers = round.answers ++ (node, inst) ∷ [] } else round).answers
        go false e = r
        go true e =
            let s = split_and (is_subscribed ring node) (not (has_answered node round.answers)) e in
            record {
              different = different_more round.answers node inst r.different (not_true (has_answered node round.answers) s.1);
              safe = appended (IsSafe c lines ring.id) round.answers ((node, inst) ∷ []) r.safe (safe, tt);
            }

    -- ---- a round that may end

    ends_stays : (link : Link) (round : Round) (effects : Effects) → RoundLines c lines ring.id round.answers → Stays c lines ring.id effects (goes_on_round ring link round effects)
    ends_stays link round effects r = by_least (least ring round) refl
      where
        now : Effects
        now = with_part (in_round None effects.part) effects

        first : Stays c lines ring.id effects now
        first = stays_rounds c lines ring.id effects (with_current None effects.part.rounds) tt

        by_least : (o : Option ℕ) → least ring round ≡ o → Stays c lines ring.id effects (ends_by ring link round effects o)
        by_least None e = stays_rounds c lines ring.id effects (with_current (Some round) effects.part.rounds) r
        by_least (Some inst) e =
            Stays-trans c lines ring.id effects (trims_above ring inst now) (ends_by ring link round effects (Some inst))
            (Stays-trans c lines ring.id effects now (trims_above ring inst now) first (by_test (Stays c lines ring.id now) (nat_lt now.part.kept.trim inst) (trims_all ring inst now) now (λ t. all) (Stays-refl c lines ring.id now)))
            (proposes_stays c lines ring link (trims_above ring inst now))
          where
            told : AllHaveTold lines ring.id inst (subscribers_of c.partitions ring.id)
            told = least_told round inst r e

            lined : Effects
            lined = with_line (Trim ring.own ring.id inst) now

            cut : Effects
            cut = trims_to ring inst lined

            all : Stays c lines ring.id now (trims_all ring inst now)
            all = Stays-trans c lines ring.id now lined (trims_all ring inst now) (stays_line c lines ring.id now (Trim ring.own ring.id inst) (record { fits_node = placed.fits_node; fits_ring = placed.fits_ring; told = told }))
                (Stays-trans c lines ring.id lined cut (trims_all ring inst now) (stays_trims c lines ring inst lined (inr told))
                (stays_frames c lines ring.id cut (sends_each ring (other_acceptors ring) (TrimTo ring.id inst))
                (λ t. ring_sends_each c lines ring (other_acceptors ring) (TrimTo ring.id inst) (λ node. inr told))))

    -- Safe
    pub answers_stays : (link : Link) (part : Part) (from : NodeId) (number inst : ℕ) → CurrentLines c lines ring.id part.rounds.current → IsSafe c lines ring.id (from, inst)
        → Stays c lines ring.id (no_effects part) (answers ring link part from number inst)
    unfolding answers
    answers_stays link part from number inst current safe = by_round part.rounds.current current
      where
        by_round : (o : Option Round) → CurrentLines c lines ring.id o → Stays c lines ring.id (no_effects part) (answers_in ring link part from number inst o)
        by_round None r = Stays-refl c lines ring.id (no_effects part)
        by_round (Some round) r = by_test (Stays c lines ring.id (no_effects part)) (number == round.number) (goes_on_round ring link (with_answer ring from inst round) (no_effects part)) (no_effects part)
            (λ e. ends_stays link (with_answer ring from inst round) (no_effects part) (answer_lines from inst round r safe)) (Stays-refl c lines ring.id (no_effects part))

    -- a round is asked, with the own answer
    pub asks_stays : (link : Link) (part : Part) (own_safe : Option ℕ) → ((inst : ℕ) → own_safe ≡ Some inst → IsSafe c lines ring.id (ring.own, inst)) → Stays c lines ring.id (no_effects part) (asks_round ring link part own_safe)
    unfolding asks_round
    asks_stays link part own_safe safe = by_test (Stays c lines ring.id (no_effects part)) (role_leads ring part.coordinator.role) (asks ring link part own_safe) (no_effects part)
        (λ e. Stays-trans c lines ring.id (no_effects part) asked (asks ring link part own_safe)
        (Stays-trans c lines ring.id (no_effects part) (no_effects (with_asked part)) asked
        (stays_rounds c lines ring.id (no_effects part) (record { asked = suc part.rounds.asked; current = None }) tt)
        (stays_frames c lines ring.id (no_effects (with_asked part)) (sends_each ring (by_id (replicas_of ring.subscribers)) (AskSafe ring.id (suc part.rounds.asked)))
        (λ t. ring_sends_each c lines ring (by_id (replicas_of ring.subscribers)) (AskSafe ring.id (suc part.rounds.asked)) (λ node. tt))))
        (ends_stays link (with_own_answer ring own_safe (next_round part)) asked (by_own own_safe refl)))
        (Stays-refl c lines ring.id (no_effects part))
      where
        asked : Effects
        asked = with_frames (sends_each ring (by_id (replicas_of ring.subscribers)) (AskSafe ring.id (suc part.rounds.asked))) (no_effects (with_asked part))

        by_own : (o : Option ℕ) → own_safe ≡ o → RoundLines c lines ring.id (with_own_answer ring o (next_round part)).answers
        by_own None e = record { different = tt; safe = tt }
        by_own (Some inst) e = answer_lines ring.own inst (next_round part) (record { different = tt; safe = tt }) (safe inst e)
