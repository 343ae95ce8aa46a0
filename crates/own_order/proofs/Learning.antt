-- A rule of a ring prints nothing of the order; what it decides is learned, and then taken in turn.
use Rattle.std.proofs.Common.{◌≡◌, ℕ, zero, suc, ◌^◌, ◌<◌, ◌≤◌, Bool, true, false, List, [], ◌∷◌, ◌++◌, Option, Some, None, inl, refl, sym, subst, arith, append_assoc}
use Rattle.std.specs.Prelude.{◌==◌, max, if◌then◌else◌}
use Rattle.std.specs.List.{AllByRecursion}
use Rattle.std.proofs.lemmas.Bool.Decides.{nat_tests}
use Rattle.mrp_types.specs.declared.id.NodeId.{NodeId}
use Rattle.mrp_types.specs.declared.id.RingId.{RingId}
use Rattle.mrp_types.specs.declared.voted.Decided.{Decided}
use Rattle.mrp_config.specs.Config.{Config}
use Rattle.mrp_config.specs.declared.tables.PartitionTable.{PartitionTable}
use Rattle.quorums.proofs.Each.{mapped}
use Rattle.line_rules.proofs.Growing.{has_later}
use Rattle.plain_model.proofs.TupleAt.{by_number}
use Rattle.step_valid.proofs.Listed.{MeetsAt, with_met_all}
use Rattle.protocol.specs.Effects.{no_effects}
use Rattle.protocol.specs.Learner.{first_of, is_news, learns, learns_news}
use Rattle.protocol.specs.Learning.{Queued, applies_effects, by_news, learns_one, learns_up_to, proposes_then, queued, then_learns, with_effects}
use Rattle.protocol.specs.Lines.{Line, BallotLimit, InstanceLimit, Learn, Trim}
use Rattle.protocol.specs.Merging.{merges}
use Rattle.protocol.specs.Node.{RingPart, StepSoFar, part_at, prints, with_part, with_part_in}
use Rattle.protocol.specs.Parts.{Effects, Learner, Part, Ring}
use Rattle.protocol.specs.Proposing.{proposes}
use Rattle.quiet_rules.proofs.Words.{quiet_proposes}
use Rattle.quiet_rules.specs.Quiet.{IsRingLine, Quiet}
use Rattle.own_order.specs.Order.{IsLearned, is_of_order, point_of}
use Rattle.own_order.proofs.After.{After, EntryLearned, Ground, PartLearned, after_both, after_plain, learned_more, none_of_order, prints_ground, stays}
use Rattle.own_order.proofs.Merging.{merged, part_learned}

same_num : (i j : ℕ) → (i == j) ≡ true → i ≡ j
same_num i j e = grind (arith, nat_tests)

ring_line_plain : (ring : Ring) (l : Line) → IsRingLine ring l → is_of_order l ≡ false
ring_line_plain ring (Trim node r inst) is = refl
ring_line_plain ring (BallotLimit node r) is = refl
ring_line_plain ring (InstanceLimit node r) is = refl
ring_line_plain ring other is = absurd is

module _ (c : Config) (id : NodeId) (p : PartitionTable) where
  -- a part whose learner holds what was learned is put in its place
  put_learned : (ls : List Line) (ring : RingId) (part : Part) (parts : List RingPart) → AllByRecursion (EntryLearned c id p ls ring) part.learner.held → AllByRecursion (PartLearned c id p ls) parts
      → AllByRecursion (PartLearned c id p ls) (with_part_in ring part parts)
  put_learned ls ring part [] held all = tt
  put_learned ls ring part (x ∷ parts) held all = go (x.ring.id.0 == ring.0) refl (put_learned ls ring part parts held all.1)
    where
      go : (b : Bool) → (x.ring.id.0 == ring.0) ≡ b → AllByRecursion (PartLearned c id p ls) (with_part_in ring part parts)
          → AllByRecursion (PartLearned c id p ls) (if b then record x { part = part } ∷ parts else x ∷ with_part_in ring part parts)
      go true t later = (subst (λ (r : RingId). AllByRecursion (EntryLearned c id p ls r) part.learner.held) (sym (by_number x.ring.id ring (same_num x.ring.id.0 ring.0 t))) held, all.1)
      go false t later = (all.0, later)

  -- once its line is printed, a range that is news is learned
  news_learned : (ls : List Line) (ring : RingId) (part : Part) (range : Decided) → AllByRecursion (EntryLearned c id p ls ring) part.learner.held
      → AllByRecursion (EntryLearned c id p (ls ++ Learn id ring range.lo range.hi range.value ∷ []) ring) (learns_news true part range).part.learner.held
  news_learned ls ring part range held =
      with_met_all first_of (EntryLearned c id p now ring) range.value (max range.lo part.learner.base) range.hi part.learner.held met
      (mapped (EntryLearned c id p ls ring) (EntryLearned c id p now ring) (λ e is. learned_more c id p ls (Learn id ring range.lo range.hi range.value ∷ []) ring e.0 e.1 is) part.learner.held held)
    where
      now : List Line
      now = ls ++ Learn id ring range.lo range.hi range.value ∷ []

      new : (i : ℕ) → max range.lo part.learner.base ≤ i → i < range.hi → IsLearned now id ring i range.value
      new i from to = record { lo = range.lo; hi = range.hi; there = has_later ls (Learn id ring range.lo range.hi range.value ∷ []) (Learn id ring range.lo range.hi range.value) (inl refl); from = omega arith; to = to }

      met : (i : ℕ) → max range.lo part.learner.base ≤ i → i < range.hi → MeetsAt first_of (EntryLearned c id p now ring) range.value i
      met i from to None each = new i from to
      met i from to (Some held) each = each held refl

  module _ (before : List Line) (ring : Ring) where
    -- ---- what a rule made

    pub effects_after : (a : StepSoFar) (q : RingPart) (effects : Effects) → part_at a.view ring.id ≡ Some q → Quiet ring (no_effects q.part) effects → Ground c id p before a
        → After c id p before (point_of a.view.service) a.lines (with_effects ring effects a)
    effects_after a q effects at quiet g =
        after_plain c id p before (point_of a.view.service) a.lines effects.lines (with_effects ring effects a) (none_of_order (IsRingLine ring) (ring_line_plain ring) effects.lines (quiet.lines tt))
        (stays c id p before (with_effects ring effects a) (record {
          mine = g.mine;
          serves = g.serves;
          learned = put_learned (before ++ (a.lines ++ effects.lines)) ring.id effects.part a.view.parts
              (subst (λ (l : Learner). AllByRecursion (EntryLearned c id p (before ++ (a.lines ++ effects.lines)) ring.id) l.held) (sym quiet.learner)
              (part_learned c id p (before ++ (a.lines ++ effects.lines)) ring.id a.view.parts q more.learned at)) more.learned;
        }))
      where
        more : Ground c id p before (prints effects.lines a)
        more = prints_ground c id p before effects.lines a g

    proposing : (later : List Decided) (o : Option RingPart) (a : StepSoFar) → part_at a.view ring.id ≡ o → Ground c id p before a
        → After c id p before (point_of a.view.service) a.lines (proposes_then ring later o a).so_far
    proposing later None a at g = stays c id p before a g
    proposing later (Some q) a at g = effects_after a q (proposes ring a.view.link q.part) at (quiet_proposes ring a.view.link (no_effects q.part)) g

    -- ---- a range

    one_learned : (range : Decided) (later : List Decided) (o : Option RingPart) (a : StepSoFar) → part_at a.view ring.id ≡ o → Ground c id p before a
        → After c id p before (point_of a.view.service) a.lines (learns_one c ring range later o a).so_far
    unfolding learns
    one_learned range later None a at g = stays c id p before a g
    one_learned range later (Some q) a at g = go (is_news range q.part.learner)
      where
        held : AllByRecursion (EntryLearned c id p (before ++ a.lines) ring.id) q.part.learner.held
        held = part_learned c id p (before ++ a.lines) ring.id a.view.parts q g.learned at

        line : Line
        line = Learn a.view.id ring.id range.lo range.hi range.value

        news : StepSoFar
        news = prints (line ∷ []) (with_part ring (learns_news true q.part range).part a)

        more : Ground c id p before (prints (line ∷ []) a)
        more = prints_ground c id p before (line ∷ []) a g

        learned_now : AllByRecursion (EntryLearned c id p (before ++ (a.lines ++ line ∷ [])) ring.id) (learns_news true q.part range).part.learner.held
        learned_now =
            subst (λ (ls : List Line). AllByRecursion (EntryLearned c id p ls ring.id) (learns_news true q.part range).part.learner.held) (append_assoc before a.lines (line ∷ []))
            (subst (λ (x : NodeId). AllByRecursion (EntryLearned c id p ((before ++ a.lines) ++ Learn x ring.id range.lo range.hi range.value ∷ []) ring.id) (learns_news true q.part range).part.learner.held) (sym g.mine)
            (news_learned (before ++ a.lines) ring.id q.part range held))

        ground : Ground c id p before news
        ground = record {
          mine = g.mine;
          serves = g.serves;
          learned = put_learned (before ++ (a.lines ++ line ∷ [])) ring.id (learns_news true q.part range).part a.view.parts learned_now more.learned;
        }

        told : After c id p before (point_of a.view.service) a.lines (merges c news)
        told = after_plain c id p before (point_of a.view.service) a.lines (line ∷ []) (merges c news) refl (merged c id p before news ground)

        go : (b : Bool) → After c id p before (point_of a.view.service) a.lines (by_news c ring range later (learns_news b q.part range).news (with_part ring (learns_news b q.part range).part a)).so_far
        go false = stays c id p before (with_part ring q.part a) (record { mine = g.mine; serves = g.serves; learned = put_learned (before ++ a.lines) ring.id q.part a.view.parts held g.learned })
        go true =
            let b : StepSoFar = merges c news in
            after_both c id p before (point_of a.view.service) a.lines b (proposes_then ring later (part_at b.view ring.id) b).so_far told (proposing later (part_at b.view ring.id) b refl told.ground)

    -- ---- range by range

    loop_learned : (most : ℕ) (q : Queued) → Ground c id p before q.so_far → After c id p before (point_of q.so_far.view.service) q.so_far.lines (learns_up_to most c ring q)
    loop_learned zero q g = stays c id p before q.so_far g
    loop_learned (suc most) q g = go q.ranges (λ r h. loop_learned most r h)
      where
        go : (ranges : List Decided) → ((r : Queued) → Ground c id p before r.so_far → After c id p before (point_of r.so_far.view.service) r.so_far.lines (learns_up_to most c ring r))
            → After c id p before (point_of q.so_far.view.service) q.so_far.lines (then_learns (learns_up_to most c ring) c ring q ranges)
        go [] rest = stays c id p before q.so_far g
        go (range ∷ later) rest =
            let r : Queued = learns_one c ring range later (part_at q.so_far.view ring.id) q.so_far in
            let one = one_learned range later (part_at q.so_far.view ring.id) q.so_far refl g in
            after_both c id p before (point_of q.so_far.view.service) q.so_far.lines r.so_far (learns_up_to most c ring r) one (rest r one.ground)

    pub rule_after : (a : StepSoFar) (q : RingPart) (effects : Effects) → part_at a.view ring.id ≡ Some q → Quiet ring (no_effects q.part) effects → Ground c id p before a
        → After c id p before (point_of a.view.service) a.lines (applies_effects c ring effects a)
    unfolding applies_effects
    rule_after a q effects at quiet g =
        let made : StepSoFar = with_effects ring effects a in
        let first = effects_after a q effects at quiet g in
        after_both c id p before (point_of a.view.service) a.lines made (learns_up_to (2 ^ 44) c ring (queued ring [] effects a)) first (loop_learned (2 ^ 44) (queued ring [] effects a) first.ground)
