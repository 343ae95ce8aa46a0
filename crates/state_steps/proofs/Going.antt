-- One rule of a step after another.
use Rattle.std.proofs.Common.{◌≡◌, ℕ, Bool, true, false, List, [], ◌∷◌, Option, Some, None, refl, ◌∙◌, ap, subst}
use Rattle.std.specs.Prelude.{if◌then◌else◌}
use Rattle.mrp_types.specs.declared.id.RingId.{RingId}
use Rattle.mrp_config.specs.Config.{Config}
use Rattle.frames.specs.declared.sent.Sent.{Sent}
use Rattle.protocol.specs.Lines.{Line}
use Rattle.protocol.specs.Parts.{Ring, Part, Effects}
use Rattle.protocol.specs.Effects.{no_effects}
use Rattle.protocol.specs.Rings.{is_acceptor}
use Rattle.protocol.specs.Node.{StepSoFar, View, RingPart, part_in, part_at, sends_all}
use Rattle.protocol.specs.Learning.{applies_effects}
use Rattle.protocol.specs.Step.{at_acceptor, at_member}
use Rattle.line_rules.specs.Scanners.{past}
use Rattle.step_lines.specs.Effects.{AllAgree}
use Rattle.step_lines.proofs.Going.{part_ring}
use Rattle.quiet_rules.specs.Quiet.{Quiet}
use Rattle.state_steps.specs.States.{IsLimited, ActAt, AfterAt}
use Rattle.state_steps.proofs.Words.{as_it_was}
use Rattle.state_steps.proofs.Learning.{Grows, grows_none, grows_both, agree_back, effects_grow, rule_made}

-- lines only grow, and states are kept where each learn line agrees with the book before it
pub record Folds (c : Config) (before : List Line) (a b : StepSoFar) : Type 0 where
  pub grows : Grows a b
  pub folds : (lines : List Line) → ActAt c before lines a → AllAgree (past before b.lines) → AfterAt c before b

module _ (c : Config) (before : List Line) where
  pub folds_none : (a : StepSoFar) → Folds c before a a
  folds_none a = record { grows = grows_none a a refl; folds = λ lines at all. as_it_was c before lines a at }

  pub folds_both : (a b d : StepSoFar) → Folds c before a b → Folds c before b d → Folds c before a d
  folds_both a b d p q = record {
    grows = grows_both a b d p.grows q.grows;
    folds = λ lines at all. let one = p.folds lines at (agree_back before b d q.grows all) in q.folds one.lines one.at all;
  }

  pub if_folds : (a : StepSoFar) (t : Bool) (x y : StepSoFar) → Folds c before a x → Folds c before a y → Folds c before a (if t then x else y)
  if_folds a true x y p q = p
  if_folds a false x y p q = q

  -- what needs nothing of what is learned
  pub folds_so : (a b : StepSoFar) → Grows a b → ((lines : List Line) → ActAt c before lines a → AfterAt c before b) → Folds c before a b
  folds_so a b g after = record { grows = g; folds = λ lines at all. after lines at }

module _ (c : Config) (limited : IsLimited c) (before : List Line) (ring : RingId) (a : StepSoFar) where
  pub part_folds : (h : Ring → Part → View → Effects) → ((r : Ring) (part : Part) (view : View) → Quiet r (no_effects part) (h r part view)) → (p : RingPart) → part_at a.view ring ≡ Some p
      → Folds c before a (applies_effects c p.ring (h p.ring p.part a.view) a)
  part_folds h q p e = record {
    grows = effects_grow c before p.ring (h p.ring p.part a.view) a;
    folds = λ lines at all. rule_made c limited before p.ring a lines at p (ap (λ (r : RingId). part_in a.view.parts r) (part_ring a.view.parts ring p e) ∙ e) refl (h p.ring p.part a.view) (q p.ring p.part a.view) all;
  }

  pub acceptor_folds : (h : Ring → Part → View → Effects) → ((r : Ring) (part : Part) (view : View) → Quiet r (no_effects part) (h r part view))
      → Folds c before a (at_acceptor (λ r part b. applies_effects c r (h r part b.view) b) (part_at a.view ring) a)
  acceptor_folds h q = by_part (part_at a.view ring) refl
    where
      by_part : (o : Option RingPart) → part_at a.view ring ≡ o → Folds c before a (at_acceptor (λ r part b. applies_effects c r (h r part b.view) b) o a)
      by_part None e = folds_none c before a
      by_part (Some p) e = if_folds c before a (is_acceptor p.ring) (applies_effects c p.ring (h p.ring p.part a.view) a) a (part_folds h q p e) (folds_none c before a)

  pub member_folds : (h : Ring → Part → View → Effects) → ((r : Ring) (part : Part) (view : View) → Quiet r (no_effects part) (h r part view))
      → Folds c before a (at_member (λ r part b. applies_effects c r (h r part b.view) b) (part_at a.view ring) a)
  member_folds h q = by_part (part_at a.view ring) refl
    where
      by_part : (o : Option RingPart) → part_at a.view ring ≡ o → Folds c before a (at_member (λ r part b. applies_effects c r (h r part b.view) b) o a)
      by_part None e = folds_none c before a
      by_part (Some p) e = part_folds h q p e
