-- A rule of a ring and all that it decides, range by range: the lines are right where each learn line agrees with the book
-- before it.
use Rattle.vote_state.specs.declared.ring.RingState.{RingState}
use Rattle.step_lines.proofs.Words.{proposes_stays}
use Rattle.step_lines.proofs.Onward.{nothing_more, Onward-trans, Onward-refl, put_rings, onward_prints, all_onward}
use Rattle.step_lines.specs.Effects.{AllAgree, AllTold, EffectsTold, Onward, Stays, Goes}
use Rattle.std.proofs.Common.{◌≡◌, ℕ, zero, suc, ◌^◌, ◌<◌, ◌≤◌, ◌⊎◌, inl, inr, Bool, true, false, List, [], ◌∷◌, ◌++◌, Option, Some, None, refl, sym, ◌∙◌, ap, subst, arith, true≢false}
use Rattle.std.specs.Prelude.{◌==◌, max, if◌then◌else◌}
use Rattle.std.specs.List.{AllByRecursion}
use Rattle.std.proofs.lemmas.Bool.{cases_lt}
use Rattle.std.proofs.lemmas.Bool.Decides.{nat_tests}
use Rattle.mrp_types.specs.declared.id.RingId.{RingId}
use Rattle.mrp_types.specs.declared.value.Value.{Value}
use Rattle.mrp_types.specs.declared.voted.Decided.{Decided}
use Rattle.mrp_config.specs.Config.{Config}
use Rattle.plain_model.proofs.TupleAt.{by_number}
use Rattle.range_map.specs.Entries.{value_at, IsIncreasingFrom}
use Rattle.protocol.specs.Lines.{Line, Learn}
use Rattle.protocol.specs.Meaning.{Meets}
use Rattle.protocol.proofs.EntryLemmas.{meets}
use Rattle.protocol.specs.Parts.{Ring, Rounds, Part, Learner, Effects}
use Rattle.protocol.specs.Effects.{no_effects}
use Rattle.protocol.specs.Learner.{first_of, value_in, is_news, with_range_learned, learns_news, learns}
use Rattle.protocol.specs.Proposing.{proposes}
use Rattle.protocol.specs.Node.{StepSoFar, RingPart, part_in, part_at, with_part, prints}
use Rattle.protocol.specs.Learning.{with_effects, Queued, queued, proposes_then, by_news, learns_one, then_learns, learns_up_to, applies_effects}
use Rattle.protocol.specs.Merging.{merges}
use Rattle.faithful.specs.Scanners.{past, book}
use Rattle.recovery_lines.specs.Ties.{IsCovered, IsFit, PartLines, CurrentLines, ActLines, AfterLines, PartTold}
use Rattle.faithful.proofs.Growing.{past_more}
use Rattle.step_lines.proofs.Composing.{part_put, effects_composed, learned_composed, effects_onward, told_put}

-- ---- each learn line agrees with the book before it

pub agree_before : (new lines : List Line) → AllAgree (past lines new) → AllAgree lines
agree_before [] lines all = all
agree_before (l ∷ new) lines all = (agree_before new (l ∷ lines) all).1

-- those of an earlier moment
pub agree_at : (c : Config) (before : List Line) (a b : StepSoFar) → Onward c before a b → AllAgree (past before b.lines) → AllAgree (past before a.lines)
agree_at c before a b g all =
    agree_before g.more (past before a.lines) (subst (λ (ls : List Line). AllAgree ls) (past_more before a.lines g.more) (subst (λ (ls : List Line). AllAgree (past before ls)) g.printed all))

-- ---- a part of the ring

pub record PartFound (lines : List Line) (ring : Ring) (part : Part) : Type 0 where
  pub ordered : IsIncreasingFrom 0 part.learner.held
  pub booked : (inst : ℕ) (value : Value) → value_in part.learner inst ≡ Some value → book lines ring.id inst ≡ Some value

pub part_found : (lines : List Line) (ring : Ring) (parts : List RingPart) (p : RingPart) → AllByRecursion (PartLines lines) parts → part_in parts ring.id ≡ Some p → PartFound lines ring p.part
part_found lines ring [] p all e = absurd (cc)
part_found lines ring (q ∷ parts) p all e = go (q.ring.id.0 == ring.id.0) refl e (λ f. part_found lines ring parts p all.1 f)
  where
    same_num : (i j : ℕ) → (i == j) ≡ true → i ≡ j
    same_num i j t = grind (arith, nat_tests)

    some_same : Some q ≡ Some p → q ≡ p
    some_same f = cc

    go : (b : Bool) → (q.ring.id.0 == ring.id.0) ≡ b → (if b then Some q else part_in parts ring.id) ≡ Some p → (part_in parts ring.id ≡ Some p → PartFound lines ring p.part) → PartFound lines ring p.part
    go true t f rest =
        let same : q.ring.id ≡ ring.id = by_number q.ring.id ring.id (same_num q.ring.id.0 ring.id.0 t) in
        subst (λ (r : RingPart). PartFound lines ring r.part) (some_same f) (record {
          ordered = all.0.ordered;
          booked = λ inst value h. subst (λ (r : RingId). book lines r inst ≡ Some value) same (all.0.booked inst value h);
        })
    go false t f rest = rest f

pub told_found : (c : Config) (lines : List Line) (ring : RingId) (parts : List RingPart) (p : RingPart) → AllByRecursion (PartTold c lines) parts → part_in parts ring ≡ Some p → EffectsTold c lines ring (no_effects p.part)
told_found c lines ring [] p all e = absurd (cc)
told_found c lines ring (q ∷ parts) p all e = go (q.ring.id.0 == ring.0) refl e (λ f. told_found c lines ring parts p all.1 f)
  where
    same_num : (i j : ℕ) → (i == j) ≡ true → i ≡ j
    same_num i j t = grind (arith, nat_tests)

    some_same : Some q ≡ Some p → q ≡ p
    some_same f = cc

    go : (b : Bool) → (q.ring.id.0 == ring.0) ≡ b → (if b then Some q else part_in parts ring) ≡ Some p → (part_in parts ring ≡ Some p → EffectsTold c lines ring (no_effects p.part)) → EffectsTold c lines ring (no_effects p.part)
    go true t f rest =
        let same : q.ring.id ≡ ring = by_number q.ring.id ring (same_num q.ring.id.0 ring.0 t) in
        subst (λ (r : RingPart). EffectsTold c lines ring (no_effects r.part)) (some_same f) (record {
          round = subst (λ (r : RingId). CurrentLines c lines r q.part.rounds.current) same all.0.round;
          trim = subst (λ (r : RingId). IsCovered c lines r q.part.kept.trim) same all.0.trim;
          frames = tt;
          plain = tt;
          changes = λ s h. h;
          epoch = λ s. refl;
        })
    go false t f rest = rest f

-- what a learner holds of a range that it took
record Taken (part : Part) (range : Decided) (after : Part) : Type 0 where
  ordered : IsIncreasingFrom 0 after.learner.held
  held : (inst : ℕ) (value : Value) → value_in after.learner inst ≡ Some value → (value_in part.learner inst ≡ Some value) ⊎ ((value ≡ range.value) × ((range.lo ≤ inst) × (inst < range.hi)))

taken_part : (ring : Ring) (part : Part) (range : Decided) → IsIncreasingFrom 0 part.learner.held → Taken part range (learns ring part range).part
unfolding learns
taken_part ring part range ordered = go (is_news range part.learner)
  where
    m : Meets first_of (max range.lo part.learner.base) range.hi range.value part.learner.held (with_range_learned range part.learner).held
    m = meets first_of range.value (max range.lo part.learner.base) range.hi part.learner.held ordered

    first : (o : Option Value) (inst : ℕ) (value : Value) → value_at inst part.learner.held ≡ o → range.lo ≤ inst → inst < range.hi → Some (first_of o range.value) ≡ Some value
        → (value_in part.learner inst ≡ Some value) ⊎ ((value ≡ range.value) × ((range.lo ≤ inst) × (inst < range.hi)))
    first None inst value e from to is = let same : value ≡ range.value = cc in inr (same, (from, to))
    first (Some held) inst value e from to is = inl (e ∙ is)

    go : (b : Bool) → Taken part range (learns_news b part range).part
    go false = record { ordered = ordered; held = λ inst value e. inl e }
    go true = record {
      ordered = m.in_order;
      held = λ inst value e. elim (cases_lt inst (max range.lo part.learner.base)) [
        | inl below ↦ inl (sym (m.below inst below) ∙ e)
        | inr from ↦ elim (cases_lt inst range.hi) [
          | inl to ↦ first (value_at inst part.learner.held) inst value refl (omega arith) to (sym (m.within inst from to) ∙ e)
          | inr above ↦ inl (sym (m.above inst above) ∙ e)
        ]
      ];
    }

-- what is no news leaves the part
no_news : (ring : Ring) (part : Part) (range : Decided) → (learns ring part range).news ≡ false → (learns ring part range).part ≡ part
unfolding learns
no_news ring part range e = go (is_news range part.learner) e
  where
    go : (b : Bool) → (learns_news b part range).news ≡ false → (learns_news b part range).part ≡ part
    go false f = refl
    go true f = absurd (true≢false f)

learns_rounds : (ring : Ring) (part : Part) (range : Decided) → (learns ring part range).part.rounds ≡ part.rounds
unfolding learns
learns_rounds ring part range = go (is_news range part.learner)
  where
    go : (b : Bool) → (learns_news b part range).part.rounds ≡ part.rounds
    go false = refl
    go true = refl

learns_kept : (ring : Ring) (part : Part) (range : Decided) → (learns ring part range).part.kept ≡ part.kept
unfolding learns
learns_kept ring part range = go (is_news range part.learner)
  where
    go : (b : Bool) → (learns_news b part range).part.kept ≡ part.kept
    go false = refl
    go true = refl

-- ---- range by range

module _ (c : Config) (ring : Ring) (before : List Line) where
  -- the coordinator proposes
  proposing_effects : (a : StepSoFar) (p : RingPart) → part_at a.view ring.id ≡ Some p → AllTold c before a → EffectsTold c before ring.id (proposes ring a.view.link p.part)
  proposing_effects a p e t = (proposes_stays c before ring a.view.link (no_effects p.part)).told (told_found c before ring.id a.view.parts p t.parts e)

  proposing_onward : (later : List Decided) (o : Option RingPart) (a : StepSoFar) → part_at a.view ring.id ≡ o → Onward c before a (proposes_then ring later o a).so_far
  proposing_onward later None a e = Onward-refl c before a
  proposing_onward later (Some p) a e = effects_onward c before ring (proposes ring a.view.link p.part) a (proposing_effects a p e)

  -- the learner takes a range
  taken_onward : (range : Decided) (p : RingPart) (a : StepSoFar) → part_at a.view ring.id ≡ Some p → Onward c before a (with_part ring (learns ring p.part range).part a)
  taken_onward range p a e = record {
    more = [];
    printed = nothing_more a.lines;
    id = refl;
    rings = put_rings ring.id (learns ring p.part range).part a.view.parts;
    journal = refl;
    checkpoints = refl;
    told = λ t. let d : EffectsTold c before ring.id (no_effects p.part) = told_found c before ring.id a.view.parts p t.parts e in record {
      parts = told_put c before ring.id (learns ring p.part range).part (subst (λ (r : Rounds). CurrentLines c before ring.id r.current) (sym (learns_rounds ring p.part range)) d.round)
          (subst (λ (k : RingState). IsCovered c before ring.id k.trim) (sym (learns_kept ring p.part range)) d.trim) a.view.parts t.parts;
      trims = t.trims;
      epoch = t.epoch;
    };
  }

  -- after the learn line
  merged_onward : (later : List Decided) (a : StepSoFar) → Onward c before a (proposes_then ring later (part_at (merges c a).view ring.id) (merges c a)).so_far
  merged_onward later a =
      Onward-trans c before a (merges c a) (proposes_then ring later (part_at (merges c a).view ring.id) (merges c a)).so_far (all_onward c before a) (proposing_onward later (part_at (merges c a).view ring.id) (merges c a) refl)

  -- a range
  one_onward : (range : Decided) (later : List Decided) (o : Option RingPart) (a : StepSoFar) → part_at a.view ring.id ≡ o → Onward c before a (learns_one c ring range later o a).so_far
  one_onward range later None a e = Onward-refl c before a
  one_onward range later (Some p) a e = go (learns ring p.part range).news
    where
      b : StepSoFar
      b = with_part ring (learns ring p.part range).part a

      go : (t : Bool) → Onward c before a (by_news c ring range later t b).so_far
      go false = taken_onward range p a e
      go true =
          let told : StepSoFar = prints (Learn b.view.id ring.id range.lo range.hi range.value ∷ []) b in
          let after : StepSoFar = (proposes_then ring later (part_at (merges c told).view ring.id) (merges c told)).so_far in
          Onward-trans c before a b after (taken_onward range p a e)
          (Onward-trans c before b told after (onward_prints c before (Learn b.view.id ring.id range.lo range.hi range.value ∷ []) b) (merged_onward later told))

  loop_onward : (most : ℕ) (q : Queued) → Onward c before q.so_far (learns_up_to most c ring q)
  loop_onward zero q = Onward-refl c before q.so_far
  loop_onward (suc most) q = go q.ranges (λ r. loop_onward most r)
    where
      go : (ranges : List Decided) → ((r : Queued) → Onward c before r.so_far (learns_up_to most c ring r)) → Onward c before q.so_far (then_learns (learns_up_to most c ring) c ring q ranges)
      go [] rest = Onward-refl c before q.so_far
      go (range ∷ later) rest =
          let r : Queued = learns_one c ring range later (part_at q.so_far.view ring.id) q.so_far in
          Onward-trans c before q.so_far r.so_far (learns_up_to most c ring r) (one_onward range later (part_at q.so_far.view ring.id) q.so_far refl) (rest r)

  pub applies_effects_onward : (effects : Effects) (a : StepSoFar) → (AllTold c before a → EffectsTold c before ring.id effects) → Onward c before a (applies_effects c ring effects a)
  unfolding applies_effects
  applies_effects_onward effects a told =
      let w : StepSoFar = with_effects ring effects a in
      Onward-trans c before a w (learns_up_to (2 ^ 44) c ring (queued ring [] effects a)) (effects_onward c before ring effects a told) (loop_onward (2 ^ 44) (queued ring [] effects a))

  module _ (fit : IsFit c) where
    proposing_lines : (later : List Decided) (o : Option RingPart) (a : StepSoFar) (lines : List Line) → part_at a.view ring.id ≡ o → ActLines c before lines a → AllTold c before a → AfterLines c before (proposes_then ring later o a).so_far
    proposing_lines later None a lines e ties told = record { lines = lines; ties = ties }
    proposing_lines later (Some p) a lines e ties told =
        let f : PartFound lines ring p.part = part_found lines ring a.view.parts p ties.done.parts e in
        let s : Stays c before ring.id (no_effects p.part) (proposes ring a.view.link p.part) = proposes_stays c before ring a.view.link (no_effects p.part) in
        record {
          lines = past lines (proposes ring a.view.link p.part).lines;
          ties = effects_composed c before lines a ties ring (proposes ring a.view.link p.part) (proposing_effects a p e told)
              (subst (λ (l : Learner). IsIncreasingFrom 0 l.held) (sym s.learner) f.ordered)
              (λ inst value h. f.booked inst value (subst (λ (l : Learner). value_in l inst ≡ Some value) s.learner h));
        }

    one_lines : (range : Decided) (later : List Decided) (o : Option RingPart) (a : StepSoFar) (lines : List Line) → part_at a.view ring.id ≡ o → ActLines c before lines a → AllTold c before a
        → AllAgree (past before (learns_one c ring range later o a).so_far.lines) → AfterLines c before (learns_one c ring range later o a).so_far
    one_lines range later None a lines e ties known all = record { lines = lines; ties = ties }
    one_lines range later (Some p) a lines e ties known all = go (learns ring p.part range).news refl all
      where
        b : StepSoFar
        b = with_part ring (learns ring p.part range).part a

        told : StepSoFar
        told = prints (Learn b.view.id ring.id range.lo range.hi range.value ∷ []) b

        found : PartFound lines ring p.part
        found = part_found lines ring a.view.parts p ties.done.parts e

        taken : Taken p.part range (learns ring p.part range).part
        taken = taken_part ring p.part range found.ordered

        go : (t : Bool) → (learns ring p.part range).news ≡ t → AllAgree (past before (by_news c ring range later t b).so_far.lines) → AfterLines c before (by_news c ring range later t b).so_far
        go true news all =
            let after : StepSoFar = (proposes_then ring later (part_at (merges c told).view ring.id) (merges c told)).so_far in
            let here : AllAgree (past before (a.lines ++ Learn a.view.id ring.id range.lo range.hi range.value ∷ [])) = agree_at c before told after (merged_onward later told) all in
            let now : AllAgree (Learn a.view.id ring.id range.lo range.hi range.value ∷ lines) =
            subst (λ (ls : List Line). AllAgree ls) (past_more before a.lines (Learn a.view.id ring.id range.lo range.hi range.value ∷ []) ∙ ap (λ (ls : List Line). Learn a.view.id ring.id range.lo range.hi range.value ∷ ls) ties.done.printed) here in
            let merged : AfterLines c before (merges c told) =
            learned_composed c before lines a ties ring fit (learns ring p.part range).part range taken.ordered
            (λ inst value h. elim (taken.held inst value h) [
              | inl old ↦ inl (found.booked inst value old)
              | inr new ↦ inr new
            ]) now.0 in
            let on : Onward c before a (merges c told) = Onward-trans c before a b (merges c told) (taken_onward range p a e)
            (Onward-trans c before b told (merges c told) (onward_prints c before (Learn b.view.id ring.id range.lo range.hi range.value ∷ []) b) (all_onward c before told)) in
            proposing_lines later (part_at (merges c told).view ring.id) (merges c told) merged.lines refl merged.ties (on.told known)
        go false news all =
            subst (λ (part : Part). AfterLines c before (with_part ring part a)) (sym (no_news ring p.part range news)) (record {
              lines = lines;
              ties = record {
                done = record {
                  printed = ties.done.printed;
                  own = ties.done.own;
                  right = ties.done.right;
                  known = ties.done.known;
                  frames = ties.done.frames;
                  replies = ties.done.replies;
                  parts = part_put lines ring p.part found.ordered found.booked a.view.parts ties.done.parts;
                };
                replica = ties.replica;
              };
            })

    loop_lines : (most : ℕ) (q : Queued) (lines : List Line) → ActLines c before lines q.so_far → AllTold c before q.so_far → AllAgree (past before (learns_up_to most c ring q).lines) → AfterLines c before (learns_up_to most c ring q)
    loop_lines zero q lines ties told all = record { lines = lines; ties = ties }
    loop_lines (suc most) q lines ties told all = go q.ranges (λ r ls t k g. loop_lines most r ls t k g) all
      where
        go : (ranges : List Decided) → ((r : Queued) (ls : List Line) → ActLines c before ls r.so_far → AllTold c before r.so_far → AllAgree (past before (learns_up_to most c ring r).lines) → AfterLines c before (learns_up_to most c ring r))
            → AllAgree (past before (then_learns (learns_up_to most c ring) c ring q ranges).lines) → AfterLines c before (then_learns (learns_up_to most c ring) c ring q ranges)
        go [] rest all = record { lines = lines; ties = ties }
        go (range ∷ later) rest all =
            let r : Queued = learns_one c ring range later (part_at q.so_far.view ring.id) q.so_far in
            let one : AfterLines c before r.so_far =
            one_lines range later (part_at q.so_far.view ring.id) q.so_far lines refl ties told (agree_at c before r.so_far (learns_up_to most c ring r) (loop_onward most r) all) in
            rest r one.lines one.ties ((one_onward range later (part_at q.so_far.view ring.id) q.so_far refl).told told) all

    -- A rule of the ring at the part that it finds, and all that follows it.
    pub applies_effects_lines : (effects : Effects) (a : StepSoFar) (lines : List Line) → ActLines c before lines a → AllTold c before a → EffectsTold c before ring.id effects → IsIncreasingFrom 0 effects.part.learner.held
        → ((inst : ℕ) (value : Value) → value_in effects.part.learner inst ≡ Some value → book lines ring.id inst ≡ Some value)
        → AllAgree (past before (applies_effects c ring effects a).lines) → AfterLines c before (applies_effects c ring effects a)
    unfolding applies_effects
    applies_effects_lines effects a lines ties told d ordered booked all =
        loop_lines (2 ^ 44) (queued ring [] effects a) (past lines effects.lines) (effects_composed c before lines a ties ring effects d ordered booked) ((effects_onward c before ring effects a (λ t. d)).told told) all

-- a rule at a part of the node
module _ (c : Config) (before : List Line) (p : RingPart) (a : StepSoFar) (e : part_at a.view p.ring.id ≡ Some p) (effects : Effects)
    (s : EffectsTold c before p.ring.id (no_effects p.part) → Stays c before p.ring.id (no_effects p.part) effects) where
  pub rule_goes : IsFit c → Goes c before a (applies_effects c p.ring effects a)
  rule_goes fit = record {
    onward = applies_effects_onward c p.ring before effects a (λ t. let d : EffectsTold c before p.ring.id (no_effects p.part) = told_found c before p.ring.id a.view.parts p t.parts e in (s d).told d);
    right = λ lines ties told all.
        let d : EffectsTold c before p.ring.id (no_effects p.part) = told_found c before p.ring.id a.view.parts p told.parts e in
        let f : PartFound lines p.ring p.part = part_found lines p.ring a.view.parts p ties.done.parts e in
        let same : effects.part.learner ≡ p.part.learner = (s d).learner in
        applies_effects_lines c p.ring before fit effects a lines ties told ((s d).told d)
        (subst (λ (l : Learner). IsIncreasingFrom 0 l.held) (sym same) f.ordered)
        (λ inst value h. f.booked inst value (subst (λ (l : Learner). value_in l inst ≡ Some value) same h)) all;
  }
