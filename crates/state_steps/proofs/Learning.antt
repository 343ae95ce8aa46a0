-- A rule of a ring and all that it decides, range by range.
use Rattle.std.proofs.Common.{◌≡◌, ℕ, zero, suc, ◌^◌, ◌<◌, ◌≤◌, ◌⊎◌, inl, inr, Bool, true, false, List, [], ◌∷◌, ◌++◌, Option, Some, None, refl, sym, ◌∙◌, ap, subst, arith, true≢false}
use Rattle.std.specs.Prelude.{◌==◌, nat_le, nat_lt, ◌&&◌, max, if◌then◌else◌}
use Rattle.std.specs.List.{AllByRecursion}
use Rattle.std.proofs.lemmas.Bool.{cases_lt}
use Rattle.std.proofs.lemmas.Bool.Decides.{nat_tests}
use Rattle.mrp_types.specs.declared.id.RingId.{RingId}
use Rattle.mrp_types.specs.declared.value.Value.{Value}
use Rattle.mrp_types.specs.declared.voted.Decided.{Decided}
use Rattle.mrp_config.specs.Config.{Config}
use Rattle.plain_model.proofs.TupleAt.{by_number}
use Rattle.range_map.specs.Entries.{value_at, IsIncreasingFrom}
use Rattle.protocol.specs.Lines.{Line, Learn, Trim, BallotLimit, InstanceLimit}
use Rattle.protocol.specs.Meaning.{Meets}
use Rattle.protocol.proofs.EntryLemmas.{meets}
use Rattle.protocol.specs.Parts.{Ring, Part, Learner, Effects}
use Rattle.protocol.specs.Effects.{no_effects}
use Rattle.protocol.specs.Learner.{first_of, value_in, is_news, with_range_learned, learns_news, learns}
use Rattle.protocol.specs.Proposing.{proposes}
use Rattle.protocol.specs.Node.{StepSoFar, RingPart, part_in, part_at, with_part, prints}
use Rattle.protocol.specs.Learning.{with_effects, Queued, queued, proposes_then, by_news, learns_one, then_learns, learns_up_to, applies_effects}
use Rattle.protocol.specs.Merging.{merges}
use Rattle.line_rules.specs.Scanners.{past, book, learned_by, or_else}
use Rattle.line_rules.specs.Rules.{HasNode, HasRing}
use Rattle.line_rules.proofs.Growing.{past_more, book_more}
use Rattle.recovery_lines.specs.Ties.{IsPlaced, PartLines, rings_in}
use Rattle.step_lines.specs.Effects.{Agrees, AllAgree}
use Rattle.step_lines.proofs.Composing.{part_put}
use Rattle.step_lines.proofs.Going.{part_placed, part_ring}
use Rattle.step_lines.proofs.Looping.{agree_before, PartFound, part_found}
use Rattle.step_lines.proofs.Onward.{nothing_more, lines_joined, put_rings, all_onward}
use Rattle.quiet_rules.specs.Quiet.{IsPlainSent, IsRingLine, OwesNothing, OwnNamesFit, Quiet}
use Rattle.quiet_rules.proofs.Words.{quiet_proposes}
use Rattle.quorums.proofs.Each.{mapped, appended}
use Rattle.state_steps.specs.Folded.{SentFolded}
use Rattle.state_steps.specs.States.{IsLimited, ActAt, AfterAt}
use Rattle.state_steps.proofs.Growing.{sents_past, parts_past, replica_past}
use Rattle.state_steps.proofs.Words.{as_it_was, act_line, paid_past, plains_folded}
use Rattle.state_steps.proofs.Merging.{merged}

-- ---- lines only grow

abbrev pub Grows : StepSoFar → StepSoFar → Type 0
Grows a b = (more : List Line) × (b.lines ≡ a.lines ++ more)

pub grows_none : (a b : StepSoFar) → b.lines ≡ a.lines → Grows a b
grows_none a b e = ([], e ∙ nothing_more a.lines)

pub grows_both : (a b d : StepSoFar) → Grows a b → Grows b d → Grows a d
grows_both a b d p q = (p.0 ++ q.0, q.1 ∙ ap (λ (ls : List Line). ls ++ q.0) p.1 ∙ lines_joined a.lines p.0 q.0)

pub agree_back : (before : List Line) (a b : StepSoFar) → Grows a b → AllAgree (past before b.lines) → AllAgree (past before a.lines)
agree_back before a b g all = agree_before g.0 (past before a.lines) (subst (λ (ls : List Line). AllAgree ls) (past_more before a.lines g.0) (subst (λ (ls : List Line). AllAgree (past before ls)) g.1 all))

merges_grow : (c : Config) (before : List Line) (a : StepSoFar) → Grows a (merges c a)
merges_grow c before a = let on = all_onward c before a in (on.more, on.printed)

module _ (c : Config) (before : List Line) (ring : Ring) where
  proposing_grows : (later : List Decided) (o : Option RingPart) (a : StepSoFar) → Grows a (proposes_then ring later o a).so_far
  proposing_grows later None a = grows_none a a refl
  proposing_grows later (Some p) a = ((proposes ring a.view.link p.part).lines, refl)

  news_grow : (later : List Decided) (a : StepSoFar) → Grows a (proposes_then ring later (part_at (merges c a).view ring.id) (merges c a)).so_far
  news_grow later a =
      grows_both a (merges c a) (proposes_then ring later (part_at (merges c a).view ring.id) (merges c a)).so_far (merges_grow c before a) (proposing_grows later (part_at (merges c a).view ring.id) (merges c a))

  one_grows : (range : Decided) (later : List Decided) (o : Option RingPart) (a : StepSoFar) → Grows a (learns_one c ring range later o a).so_far
  one_grows range later None a = grows_none a a refl
  one_grows range later (Some p) a = go (learns ring p.part range).news
    where
      b : StepSoFar
      b = with_part ring (learns ring p.part range).part a

      go : (t : Bool) → Grows a (by_news c ring range later t (with_part ring (learns ring p.part range).part a)).so_far
      go false = grows_none a (with_part ring (learns ring p.part range).part a) refl
      go true =
          let told : StepSoFar = prints (Learn a.view.id ring.id range.lo range.hi range.value ∷ []) (with_part ring (learns ring p.part range).part a) in
          grows_both a told (proposes_then ring later (part_at (merges c told).view ring.id) (merges c told)).so_far (Learn a.view.id ring.id range.lo range.hi range.value ∷ [], refl) (news_grow later told)

  loop_grows : (most : ℕ) (q : Queued) → Grows q.so_far (learns_up_to most c ring q)
  loop_grows zero q = grows_none q.so_far q.so_far refl
  loop_grows (suc most) q = go q.ranges (λ r. loop_grows most r)
    where
      go : (ranges : List Decided) → ((r : Queued) → Grows r.so_far (learns_up_to most c ring r)) → Grows q.so_far (then_learns (learns_up_to most c ring) c ring q ranges)
      go [] rest = grows_none q.so_far q.so_far refl
      go (range ∷ later) rest =
          let r : Queued = learns_one c ring range later (part_at q.so_far.view ring.id) q.so_far in
          grows_both q.so_far r.so_far (learns_up_to most c ring r) (one_grows range later (part_at q.so_far.view ring.id) q.so_far) (rest r)

  pub effects_grow : (effects : Effects) (a : StepSoFar) → Grows a (applies_effects c ring effects a)
  unfolding applies_effects
  effects_grow effects a = grows_both a (with_effects ring effects a) (learns_up_to (2 ^ 44) c ring (queued ring [] effects a)) (effects.lines, refl) (loop_grows (2 ^ 44) (queued ring [] effects a))

-- ---- what a learner holds of a range that it took

record Held (part : Part) (range : Decided) (after : Part) : Type 0 where
  ordered : IsIncreasingFrom 0 after.learner.held
  held : (inst : ℕ) (value : Value) → value_in after.learner inst ≡ Some value → (value_in part.learner inst ≡ Some value) ⊎ ((value ≡ range.value) × ((range.lo ≤ inst) × (inst < range.hi)))

range_held : (ring : Ring) (part : Part) (range : Decided) → IsIncreasingFrom 0 part.learner.held → Held part range (learns ring part range).part
unfolding learns
range_held ring part range ordered = go (is_news range part.learner)
  where
    m : Meets first_of (max range.lo part.learner.base) range.hi range.value part.learner.held (with_range_learned range part.learner).held
    m = meets first_of range.value (max range.lo part.learner.base) range.hi part.learner.held ordered

    first : (o : Option Value) (inst : ℕ) (value : Value) → value_at inst part.learner.held ≡ o → range.lo ≤ inst → inst < range.hi → Some (first_of o range.value) ≡ Some value
        → (value_in part.learner inst ≡ Some value) ⊎ ((value ≡ range.value) × ((range.lo ≤ inst) × (inst < range.hi)))
    first None inst value e from to is = let same : value ≡ range.value = cc in inr (same, (from, to))
    first (Some held) inst value e from to is = inl (e ∙ is)

    go : (b : Bool) → Held part range (learns_news b part range).part
    go false = record { ordered = ordered; held = λ inst value e. inl e }
    go true = record {
      ordered = m.in_order;
      held = λ inst value e. elim (cases_lt inst (max range.lo part.learner.base)) [
        | inl below ↦ inl (sym (m.below inst below) ∙ e)
        | inr from ↦ elim (cases_lt inst range.hi) [
          | inl to ↦ first (value_at inst part.learner.held) inst value refl (omega arith) to (sym (m.within inst from to) ∙ e)
          | inr above ↦ inl (sym (m.above inst above) ∙ e)
        ]
      ];
    }

-- what is no news leaves the part
no_news : (ring : Ring) (part : Part) (range : Decided) → (learns ring part range).news ≡ false → (learns ring part range).part ≡ part
unfolding learns
no_news ring part range e = go (is_news range part.learner) e
  where
    go : (b : Bool) → (learns_news b part range).news ≡ false → (learns_news b part range).part ≡ part
    go false f = refl
    go true f = absurd (true≢false f)

-- what is held is in the book once the line of the range is printed
held_booked : (lines : List Line) (l : Line) (ring : Ring) (part after : Part) (range : Decided) → Held part range after → ((inst : ℕ) (value : Value) → value_in part.learner inst ≡ Some value → book lines ring.id inst ≡ Some value)
    → ((inst : ℕ) → range.lo ≤ inst → inst < range.hi → learned_by ring.id inst l ≡ Some range.value) → ((inst : ℕ) (known : Value) → range.lo ≤ inst → inst < range.hi → book lines ring.id inst ≡ Some known → known ≡ range.value)
    → (inst : ℕ) (value : Value) → value_in after.learner inst ≡ Some value → book (l ∷ lines) ring.id inst ≡ Some value
held_booked lines l ring part after range h booked covers agrees inst value e = elim (h.held inst value e) [
  | inl old ↦ book_more l lines ring.id inst value (booked inst value old)
  | inr new ↦ by_book (book lines ring.id inst) refl new.0 new.1.0 new.1.1
]
  where
    by_book : (o : Option Value) → book lines ring.id inst ≡ o → value ≡ range.value → range.lo ≤ inst → inst < range.hi → or_else (book lines ring.id inst) (learned_by ring.id inst l) ≡ Some value
    by_book None f same from to = rw f (covers inst from to ∙ ap (λ (v : Value). Some v) (sym same))
    by_book (Some known) f same from to = rw f (ap (λ (v : Value). Some v) (agrees inst known from to f ∙ sym same))

-- ---- lines of a rule of a ring

line_quiet : (ring : Ring) (l : Line) → IsRingLine ring l → OwesNothing l
line_quiet ring (Trim node r inst) is = tt
line_quiet ring (BallotLimit node r) is = tt
line_quiet ring (InstanceLimit node r) is = tt
line_quiet ring other is = absurd is

line_named : (c : Config) (ring : Ring) → HasNode c ring.own → HasRing c ring.id → (l : Line) → IsRingLine ring l → OwnNamesFit c l
line_named c ring node there (Trim n r inst) is = tt
line_named c ring node there (BallotLimit n r) is = (subst (HasNode c) (sym is.0) node, subst (HasRing c) (sym is.1) there)
line_named c ring node there (InstanceLimit n r) is = (subst (HasNode c) (sym is.0) node, subst (HasRing c) (sym is.1) there)
line_named c ring node there other is = absurd is

module _ (c : Config) (limited : IsLimited c) (before : List Line) (ring : Ring) where
  -- ---- parts

  part_now : (a : StepSoFar) (lines : List Line) → ActAt c before lines a → (part : Part) → IsIncreasingFrom 0 part.learner.held → ((inst : ℕ) (value : Value) → value_in part.learner inst ≡ Some value → book lines ring.id inst ≡ Some value)
      → ActAt c before lines (with_part ring part a)
  part_now a lines at part ordered booked = record {
    printed = at.printed;
    fits = at.fits;
    placed = subst (λ (rs : List Ring). AllByRecursion (IsPlaced c a.view.id) rs) (sym (put_rings ring.id part a.view.parts)) at.placed;
    paid = at.paid;
    names = at.names;
    frames = at.frames;
    replies = at.replies;
    parts = part_put lines ring part ordered booked a.view.parts at.parts;
    replica = at.replica;
    newest = at.newest;
  }

  -- what a rule made
  effects_made : (a : StepSoFar) (lines : List Line) → ActAt c before lines a → (p : RingPart) → part_at a.view ring.id ≡ Some p → HasNode c ring.own → HasRing c ring.id → (effects : Effects) → Quiet ring (no_effects p.part) effects
      → ActAt c before (past lines effects.lines) (with_effects ring effects a)
  effects_made a lines at p e node there effects q =
      let f : PartFound lines ring p.part = part_found lines ring a.view.parts p at.parts e in
      let put : ActAt c before lines (with_part ring effects.part a) =
      part_now a lines at effects.part (subst (λ (l : Learner). IsIncreasingFrom 0 l.held) (sym q.learner) f.ordered) (λ inst value h. f.booked inst value (subst (λ (l : Learner). value_in l inst ≡ Some value) q.learner h)) in
      let is : AllByRecursion (IsRingLine ring) effects.lines = q.lines tt in
      record {
        printed = past_more before a.lines effects.lines ∙ ap (λ (ls : List Line). past ls effects.lines) at.printed;
        fits = at.fits;
        placed = put.placed;
        paid = paid_past c effects.lines lines (mapped (IsRingLine ring) OwesNothing (line_quiet ring) effects.lines is) at.paid;
        names = appended (OwnNamesFit c) a.lines effects.lines at.names (mapped (IsRingLine ring) (OwnNamesFit c) (line_named c ring node there) effects.lines is);
        frames = appended (SentFolded c (past lines effects.lines)) a.frames effects.frames (sents_past c effects.lines lines a.frames at.frames) (plains_folded c (past lines effects.lines) effects.frames (q.frames tt));
        replies = sents_past c effects.lines lines a.replies at.replies;
        parts = parts_past c effects.lines lines (with_part ring effects.part a).view.parts put.parts;
        replica = replica_past c effects.lines lines a.view.id a.view.service at.replica;
        newest = at.newest;
      }

  -- the ring of a part is one of the deployment, and the node is its own
  node_there : (a : StepSoFar) (lines : List Line) → ActAt c before lines a → (p : RingPart) → part_at a.view ring.id ≡ Some p → p.ring.own ≡ ring.own → HasNode c ring.own × HasRing c ring.id
  node_there a lines at p e own =
      let is : IsPlaced c a.view.id p.ring = part_placed (IsPlaced c a.view.id) a.view.parts ring.id p at.placed e in
      (subst (HasNode c) own is.fits_node, subst (HasRing c) (part_ring a.view.parts ring.id p e) is.fits_ring)

  module _ (node : HasNode c ring.own) (there : HasRing c ring.id) where
    proposing_made : (later : List Decided) (o : Option RingPart) (a : StepSoFar) (lines : List Line) → part_at a.view ring.id ≡ o → ActAt c before lines a → AfterAt c before (proposes_then ring later o a).so_far
    proposing_made later None a lines e at = as_it_was c before lines a at
    proposing_made later (Some p) a lines e at = record {
      lines = past lines (proposes ring a.view.link p.part).lines;
      at = effects_made a lines at p e node there (proposes ring a.view.link p.part) (quiet_proposes ring a.view.link (no_effects p.part));
    }

    one_made : (range : Decided) (later : List Decided) (o : Option RingPart) (a : StepSoFar) (lines : List Line) → part_at a.view ring.id ≡ o → ActAt c before lines a
        → AllAgree (past before (learns_one c ring range later o a).so_far.lines) → AfterAt c before (learns_one c ring range later o a).so_far
    one_made range later None a lines e at all = as_it_was c before lines a at
    one_made range later (Some p) a lines e at all = go (learns ring p.part range).news refl all
      where
        b : StepSoFar
        b = with_part ring (learns ring p.part range).part a

        l : Line
        l = Learn a.view.id ring.id range.lo range.hi range.value

        told : StepSoFar
        told = prints (Learn a.view.id ring.id range.lo range.hi range.value ∷ []) (with_part ring (learns ring p.part range).part a)

        found : PartFound lines ring p.part
        found = part_found lines ring a.view.parts p at.parts e

        held : Held p.part range (learns ring p.part range).part
        held = range_held ring p.part range found.ordered

        covers : (inst : ℕ) → range.lo ≤ inst → inst < range.hi → learned_by ring.id inst (Learn a.view.id ring.id range.lo range.hi range.value) ≡ Some range.value
        covers inst from to =
            let same : (ring.id.0 == ring.id.0) ≡ true = grind (arith, nat_tests) in
            let low : nat_le range.lo inst ≡ true = grind (arith, nat_tests) in
            let high : nat_lt inst range.hi ≡ true = grind (arith, nat_tests) in
            rw same (rw low (rw high refl))

        go : (t : Bool) → (learns ring p.part range).news ≡ t → AllAgree (past before (by_news c ring range later t b).so_far.lines) → AfterAt c before (by_news c ring range later t b).so_far
        go false news all = subst (λ (part : Part). AfterAt c before (with_part ring part a)) (sym (no_news ring p.part range news)) (record { lines = lines; at = part_now a lines at p.part found.ordered found.booked })
        go true news all =
            let last : StepSoFar = (proposes_then ring later (part_at (merges c told).view ring.id) (merges c told)).so_far in
            let here : AllAgree (past before (a.lines ++ l ∷ [])) = agree_back before told last (news_grow c before ring later told) all in
            let now : AllAgree (l ∷ lines) = subst (λ (ls : List Line). AllAgree ls) (past_more before a.lines (l ∷ []) ∙ ap (λ (ls : List Line). l ∷ ls) at.printed) here in
            let first : AfterAt c before (merges c told) = merged c limited before told (l ∷ lines) (record {
              printed = past_more before a.lines (l ∷ []) ∙ ap (λ (ls : List Line). l ∷ ls) at.printed;
              fits = at.fits;
              placed = subst (λ (rs : List Ring). AllByRecursion (IsPlaced c a.view.id) rs) (sym (put_rings ring.id (learns ring p.part range).part a.view.parts)) at.placed;
              paid = paid_past c (l ∷ []) lines (tt, tt) at.paid;
              names = appended (OwnNamesFit c) a.lines (l ∷ []) at.names (tt, tt);
              frames = sents_past c (l ∷ []) lines a.frames at.frames;
              replies = sents_past c (l ∷ []) lines a.replies at.replies;
              parts = part_put (l ∷ lines) ring (learns ring p.part range).part held.ordered (held_booked lines l ring p.part (learns ring p.part range).part range held found.booked covers now.0) a.view.parts
                  (parts_past c (l ∷ []) lines a.view.parts at.parts);
              replica = replica_past c (l ∷ []) lines a.view.id a.view.service at.replica;
              newest = at.newest;
            }) in
            proposing_made later (part_at (merges c told).view ring.id) (merges c told) first.lines refl first.at

    loop_made : (most : ℕ) (q : Queued) (lines : List Line) → ActAt c before lines q.so_far → AllAgree (past before (learns_up_to most c ring q).lines) → AfterAt c before (learns_up_to most c ring q)
    loop_made zero q lines at all = as_it_was c before lines q.so_far at
    loop_made (suc most) q lines at all = go q.ranges (λ r ls t g. loop_made most r ls t g) all
      where
        go : (ranges : List Decided) → ((r : Queued) (ls : List Line) → ActAt c before ls r.so_far → AllAgree (past before (learns_up_to most c ring r).lines) → AfterAt c before (learns_up_to most c ring r))
            → AllAgree (past before (then_learns (learns_up_to most c ring) c ring q ranges).lines) → AfterAt c before (then_learns (learns_up_to most c ring) c ring q ranges)
        go [] rest all = as_it_was c before lines q.so_far at
        go (range ∷ later) rest all =
            let r : Queued = learns_one c ring range later (part_at q.so_far.view ring.id) q.so_far in
            let one : AfterAt c before r.so_far = one_made range later (part_at q.so_far.view ring.id) q.so_far lines refl at (agree_back before r.so_far (learns_up_to most c ring r) (loop_grows c before ring most r) all) in
            rest r one.lines one.at all

  pub rule_made : (a : StepSoFar) (lines : List Line) → ActAt c before lines a → (p : RingPart) → part_at a.view ring.id ≡ Some p → p.ring.own ≡ ring.own → (effects : Effects) → Quiet ring (no_effects p.part) effects
      → AllAgree (past before (applies_effects c ring effects a).lines) → AfterAt c before (applies_effects c ring effects a)
  unfolding applies_effects
  rule_made a lines at p e own effects q all =
      let is = node_there a lines at p e own in
      loop_made is.0 is.1 (2 ^ 44) (queued ring [] effects a) (past lines effects.lines) (effects_made a lines at p e is.0 is.1 effects q) all
