-- A rule of a ring, what it decides, and the merges and proposals that follow.
use Rattle.std.proofs.Common.{◌≡◌, ℕ, zero, suc, ◌^◌, Bool, true, false, List, [], ◌∷◌, Option, Some, None, refl, subst}
use Rattle.std.specs.Prelude.{◌==◌, if◌then◌else◌}
use Rattle.std.specs.List.{AllByRecursion}
use Rattle.mrp_types.specs.declared.id.RingId.{RingId}
use Rattle.mrp_types.specs.declared.voted.Decided.{Decided}
use Rattle.mrp_config.specs.Config.{Config}
use Rattle.protocol.specs.Lines.{Line, Learn}
use Rattle.protocol.specs.Parts.{Ring, Part, Effects}
use Rattle.protocol.specs.Effects.{no_effects}
use Rattle.protocol.specs.Rings.{is_acceptor}
use Rattle.protocol.specs.Learner.{learns}
use Rattle.protocol.specs.Proposing.{proposes}
use Rattle.protocol.specs.Merging.{merges}
use Rattle.protocol.specs.Node.{StepSoFar, View, RingPart, part_in, part_at, with_part_in, with_part, prints}
use Rattle.protocol.specs.Learning.{with_effects, Queued, queued, proposes_then, by_news, learns_one, then_learns, learns_up_to, applies_effects}
use Rattle.protocol.specs.Step.{at_acceptor, at_member}
use Rattle.protocol.specs.Tick.{rules_at, rules_for}
use Rattle.quorums.proofs.Each.{appended}
use Rattle.frame_parties.proofs.Invariant.{IsAddressed, AreAddressed, RingNamed, MemberNamed, ActNamed}
use Rattle.frame_parties.proofs.Words.{proposes_addressed}
use Rattle.frame_parties.proofs.Recovering.{named_if, named_prints, named_merges}

module _ (c : Config) where
  -- parts keep their rings
  rings_put : (ring : RingId) (part : Part) (parts : List RingPart) → AllByRecursion (MemberNamed c) parts → AllByRecursion (MemberNamed c) (with_part_in ring part parts)
  rings_put ring part [] all = tt
  rings_put ring part (p ∷ parts) all = go (p.ring.id.0 == ring.0) (rings_put ring part parts all.1)
    where
      go : (b : Bool) → AllByRecursion (MemberNamed c) (with_part_in ring part parts) → AllByRecursion (MemberNamed c) (if b then record p { part = part } ∷ parts else p ∷ with_part_in ring part parts)
      go true rest = (all.0, all.1)
      go false rest = (all.0, rest)

  -- the ring of a part that is found
  pub found_named : (parts : List RingPart) (ring : RingId) (p : RingPart) → AllByRecursion (MemberNamed c) parts → part_in parts ring ≡ Some p → MemberNamed c p
  found_named [] ring p all e = absurd (cc)
  found_named (x ∷ parts) ring p all e = go (x.ring.id.0 == ring.0) e (λ h. found_named parts ring p all.1 h)
    where
      go : (b : Bool) → (if b then Some x else part_in parts ring) ≡ Some p → (part_in parts ring ≡ Some p → MemberNamed c p) → MemberNamed c p
      go true h later = let same : x ≡ p = cc in subst (MemberNamed c) same all.0
      go false h later = later h

  -- ---- what a rule adds

  module _ (ring : Ring) (named : RingNamed c ring) where
    put_named : (part : Part) (a : StepSoFar) → ActNamed c a → ActNamed c (with_part ring part a)
    put_named part a w = record { own = w.own; rings = rings_put ring.id part a.view.parts w.rings; replica = w.replica; frames = w.frames; replies = w.replies }

    effects_named : (effects : Effects) (a : StepSoFar) → AreAddressed c effects.frames → ActNamed c a → ActNamed c (with_effects ring effects a)
    effects_named effects a new w = record {
      own = w.own;
      rings = rings_put ring.id effects.part a.view.parts w.rings;
      replica = w.replica;
      frames = appended (IsAddressed c) a.frames effects.frames w.frames new;
      replies = w.replies;
    }

    -- ---- learning, range by range

    proposes_named : (later : List Decided) (o : Option RingPart) (a : StepSoFar) → ActNamed c a → ActNamed c (proposes_then ring later o a).so_far
    proposes_named later None a w = w
    proposes_named later (Some p) a w = effects_named (proposes ring a.view.link p.part) a (proposes_addressed c ring named (no_effects p.part) a.view.link tt) w

    news_named : (range : Decided) (later : List Decided) (b : Bool) (a : StepSoFar) → ActNamed c a → ActNamed c (by_news c ring range later b a).so_far
    news_named range later false a w = w
    news_named range later true a w =
        let line : List Line = Learn a.view.id ring.id range.lo range.hi range.value ∷ [] in
        proposes_named later (part_at (merges c (prints line a)).view ring.id) (merges c (prints line a)) (named_merges c (prints line a) (named_prints c line a w))

    one_named : (range : Decided) (later : List Decided) (o : Option RingPart) (a : StepSoFar) → ActNamed c a → ActNamed c (learns_one c ring range later o a).so_far
    one_named range later None a w = w
    one_named range later (Some p) a w = news_named range later (learns ring p.part range).news (with_part ring (learns ring p.part range).part a) (put_named (learns ring p.part range).part a w)

    learns_up : (most : ℕ) (q : Queued) → ActNamed c q.so_far → ActNamed c (learns_up_to most c ring q)
    learns_up zero q w = w
    learns_up (suc most) q w = go q.ranges (λ r x. learns_up most r x)
      where
        go : (ranges : List Decided) → ((r : Queued) → ActNamed c r.so_far → ActNamed c (learns_up_to most c ring r)) → ActNamed c (then_learns (learns_up_to most c ring) c ring q ranges)
        go [] rest = w
        go (range ∷ later) rest = rest (learns_one c ring range later (part_at q.so_far.view ring.id) q.so_far) (one_named range later (part_at q.so_far.view ring.id) q.so_far w)

    pub applies_named : (effects : Effects) (a : StepSoFar) → AreAddressed c effects.frames → ActNamed c a → ActNamed c (applies_effects c ring effects a)
    unfolding applies_effects
    applies_named effects a new w = learns_up (2 ^ 44) (queued ring [] effects a) (effects_named effects a new w)

  -- ---- a rule at a part

  module _ (ring : RingId) (a : StepSoFar) (w : ActNamed c a) (rule : Ring → Part → View → Effects) (sends : (r : Ring) (part : Part) (view : View) → RingNamed c r → AreAddressed c (rule r part view).frames) where
    pub part_named : (p : RingPart) → part_at a.view ring ≡ Some p → ActNamed c (applies_effects c p.ring (rule p.ring p.part a.view) a)
    part_named p e = let named = found_named a.view.parts ring p w.rings e in applies_named p.ring named (rule p.ring p.part a.view) a (sends p.ring p.part a.view named) w

    pub acceptor_named : ActNamed c (at_acceptor (λ r part b. applies_effects c r (rule r part b.view) b) (part_at a.view ring) a)
    acceptor_named = by_part (part_at a.view ring) refl
      where
        by_part : (o : Option RingPart) → part_at a.view ring ≡ o → ActNamed c (at_acceptor (λ r part b. applies_effects c r (rule r part b.view) b) o a)
        by_part None e = w
        by_part (Some p) e = named_if c (is_acceptor p.ring) (applies_effects c p.ring (rule p.ring p.part a.view) a) a (part_named p e) w

    pub member_named : ActNamed c (at_member (λ r part b. applies_effects c r (rule r part b.view) b) (part_at a.view ring) a)
    member_named = by_part (part_at a.view ring) refl
      where
        by_part : (o : Option RingPart) → part_at a.view ring ≡ o → ActNamed c (at_member (λ r part b. applies_effects c r (rule r part b.view) b) o a)
        by_part None e = w
        by_part (Some p) e = part_named p e

    pub rule_named : ActNamed c (rules_for c ring rule a)
    rule_named = by_part (part_at a.view ring) refl
      where
        by_part : (o : Option RingPart) → part_at a.view ring ≡ o → ActNamed c (rules_at c rule o a)
        by_part None e = w
        by_part (Some p) e = named_if c (is_acceptor p.ring) (applies_effects c p.ring (rule p.ring p.part a.view) a) a (part_named p e) w
