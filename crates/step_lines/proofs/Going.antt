-- One rule of a step after another.
use Rattle.protocol.specs.Rings.{is_acceptor}
use Rattle.protocol.specs.Learning.{applies_effects}
use Rattle.protocol.specs.Step.{at_acceptor, at_member}
use Rattle.protocol.specs.Effects.{no_effects}
use Rattle.step_lines.proofs.Looping.{agree_at, rule_goes}
use Rattle.std.proofs.lemmas.Bool.Decides.{nat_tests}
use Rattle.plain_model.proofs.TupleAt.{by_number}
use Rattle.mrp_types.specs.declared.id.RingId.{RingId}
use Rattle.step_lines.proofs.Onward.{Onward-trans, Onward-refl}
use Rattle.protocol.specs.Parts.{Ring, Part, Effects}
use Rattle.std.proofs.Common.{◌≡◌, ℕ, Bool, true, false, List, [], ◌∷◌, Option, Some, None, refl, ◌∙◌, ap, subst, arith}
use Rattle.std.specs.Prelude.{◌==◌, if◌then◌else◌}
use Rattle.std.specs.List.{AllByRecursion}
use Rattle.mrp_config.specs.Config.{Config}
use Rattle.protocol.specs.Lines.{Line}
use Rattle.protocol.specs.Node.{StepSoFar, View, RingPart, part_in, part_at}
use Rattle.recovery_lines.specs.Ties.{IsFit, ActLines, AfterLines, rings_in}
use Rattle.step_lines.specs.Effects.{EffectsTold, Stays, Onward, Goes}
use Rattle.recovery_lines.proofs.Printing.{same_num}

module _ (c : Config) (before : List Line) where
  pub Goes-refl : (a : StepSoFar) → Goes c before a a
  Goes-refl a = record { onward = Onward-refl c before a; right = λ lines ties told all. record { lines = lines; ties = ties } }

  pub Goes-trans : (a b d : StepSoFar) → Goes c before a b → Goes c before b d → Goes c before a d
  Goes-trans a b d p q = record {
    onward = Onward-trans c before a b d p.onward q.onward;
    right = λ lines ties told all.
        let one : AfterLines c before b = p.right lines ties told (agree_at c before b d q.onward all) in
        q.right one.lines one.ties (p.onward.told told) all;
  }

  pub if_goes : (a : StepSoFar) (t : Bool) (x y : StepSoFar) → Goes c before a x → Goes c before a y → Goes c before a (if t then x else y)
  if_goes a true x y p q = p
  if_goes a false x y p q = q

  -- what needs nothing of what is learned
  pub goes_so : (a b : StepSoFar) → Onward c before a b → ((lines : List Line) → ActLines c before lines a → AfterLines c before b) → Goes c before a b
  goes_so a b on after = record { onward = on; right = λ lines ties told all. after lines ties }

-- ---- the part of a ring

-- it is a part of that ring
pub part_ring : (parts : List RingPart) (ring : RingId) (p : RingPart) → part_in parts ring ≡ Some p → p.ring.id ≡ ring
part_ring [] ring p e = absurd (cc)
part_ring (q ∷ parts) ring p e = go (q.ring.id.0 == ring.0) refl e (λ f. part_ring parts ring p f)
  where
    go : (t : Bool) → (q.ring.id.0 == ring.0) ≡ t → (if t then Some q else part_in parts ring) ≡ Some p → (part_in parts ring ≡ Some p → p.ring.id ≡ ring) → p.ring.id ≡ ring
    go true t f rest = let same : q ≡ p = some_same q p f in subst (λ (r : RingPart). r.ring.id ≡ ring) same (by_number q.ring.id ring (same_num q.ring.id.0 ring.0 t))
      where
        some_same : (u v : RingPart) → Some u ≡ Some v → u ≡ v
        some_same u v f = cc
    go false t f rest = rest f

pub part_placed : (P : Ring → Type 0) (parts : List RingPart) (ring : RingId) (p : RingPart) → AllByRecursion P (rings_in parts) → part_in parts ring ≡ Some p → P p.ring
part_placed P [] ring p all e = absurd (cc)
part_placed P (q ∷ parts) ring p all e = go (q.ring.id.0 == ring.0) e (λ f. part_placed P parts ring p all.1 f)
  where
    some_same : (u v : RingPart) → Some u ≡ Some v → u ≡ v
    some_same u v f = cc

    go : (t : Bool) → (if t then Some q else part_in parts ring) ≡ Some p → (part_in parts ring ≡ Some p → P p.ring) → P p.ring
    go true f rest = subst (λ (r : RingPart). P r.ring) (some_same q p f) all.0
    go false f rest = rest f

-- ---- a rule at the part of a ring

module _ (c : Config) (fit : IsFit c) (before : List Line) (ring : RingId) (a : StepSoFar) where
  pub part_goes : (h : Ring → Part → View → Effects) (p : RingPart) → part_at a.view ring ≡ Some p
      → (EffectsTold c before p.ring.id (no_effects p.part) → Stays c before p.ring.id (no_effects p.part) (h p.ring p.part a.view)) → Goes c before a (applies_effects c p.ring (h p.ring p.part a.view) a)
  part_goes h p e s = rule_goes c before p a (ap (λ (r : RingId). part_in a.view.parts r) (part_ring a.view.parts ring p e) ∙ e) (h p.ring p.part a.view) s fit

  pub acceptor_goes : (h : Ring → Part → View → Effects)
      → ((p : RingPart) → part_at a.view ring ≡ Some p → EffectsTold c before p.ring.id (no_effects p.part) → Stays c before p.ring.id (no_effects p.part) (h p.ring p.part a.view))
      → Goes c before a (at_acceptor (λ r part b. applies_effects c r (h r part b.view) b) (part_at a.view ring) a)
  acceptor_goes h s = by_part (part_at a.view ring) refl
    where
      by_part : (o : Option RingPart) → part_at a.view ring ≡ o → Goes c before a (at_acceptor (λ r part b. applies_effects c r (h r part b.view) b) o a)
      by_part None e = Goes-refl c before a
      by_part (Some p) e = if_goes c before a (is_acceptor p.ring) (applies_effects c p.ring (h p.ring p.part a.view) a) a (part_goes h p e (s p e)) (Goes-refl c before a)

  pub member_goes : (h : Ring → Part → View → Effects)
      → ((p : RingPart) → part_at a.view ring ≡ Some p → EffectsTold c before p.ring.id (no_effects p.part) → Stays c before p.ring.id (no_effects p.part) (h p.ring p.part a.view))
      → Goes c before a (at_member (λ r part b. applies_effects c r (h r part b.view) b) (part_at a.view ring) a)
  member_goes h s = by_part (part_at a.view ring) refl
    where
      by_part : (o : Option RingPart) → part_at a.view ring ≡ o → Goes c before a (at_member (λ r part b. applies_effects c r (h r part b.view) b) o a)
      by_part None e = Goes-refl c before a
      by_part (Some p) e = part_goes h p e (s p e)
