-- A node's step as an event of the machine's world.
use Rattle.std.proofs.Common.{◌≡◌, ℕ, Bool, true, false, cond, nat_eq, refl, sym, ◌∙◌, ap, arith}
use Rattle.std.proofs.lemmas.Bool.Decides.{nat_tests}
use Rattle.ring_safety.specs.Faces.{Face}
use Rattle.ring_safety.specs.Deeds.{all_done}
use Rattle.ring_safety.specs.Worlds.{Node, World, Step, Stopped, durables, with_node}
use Rattle.ring_safety.specs.Rules.{Grows}
use Rattle.ring_safety.proofs.Local.{Grows-refl, Grows-of_eq}
use Rattle.ring_safety.specs.Invariant.{Sound}
use Rattle.ring_safety.proofs.Worlds.{happens_more}
use Rattle.ring_reach.specs.Reach.{Reaches}
use Rattle.ring_reach.specs.Lifts.{HasStepped, WasStopped}

module _ {V : Type 0} (w : World V) (a : ℕ) (node : Node V) where
  pub node_there : with_node w a node a ≡ node
  node_there = let e : nat_eq a a ≡ true = grind (arith, nat_tests) in rw e refl

  pub node_elsewhere : (k : ℕ) → (k ≡ a → ⊥) → with_node w a node k ≡ w k
  node_elsewhere k ne = let e : nat_eq k a ≡ false = grind (arith, nat_tests) in rw e refl

module _ {V : Type 0} (n : ℕ) (w : World V) (sound : Sound n w) (a : ℕ) (g : Face V) (r : Reaches n (durables w) a (w a).durable g) where
  abbrev whole : Node V
  whole = record { durable = all_done r.deeds (w a).durable; pending = all_done r.deeds (w a).durable }

  abbrev half : Node V
  half = record { durable = (w a).durable; pending = all_done r.deeds (w a).durable }

  pub has_stepped : HasStepped n w a g
  has_stepped = record {
    event = Step a r.deeds;
    can = r.may;
    durable = ap (λ x. x.durable) (node_there w a whole) ∙ r.done;
    pending = ap (λ x. x.pending) (node_there w a whole) ∙ r.done;
    others = node_elsewhere w a whole;
    seen_there = λ k. there k (nat_eq k a);
    more = happens_more n w sound (Step a r.deeds) r.may;
  }
    where
      there : (k : ℕ) (b : Bool) → Grows (cond b g (w k).durable) (cond b whole (w k)).durable
      there k true = Grows-of_eq (sym r.done)
      there k false = Grows-refl (w k).durable

  pub was_stopped : WasStopped n w a g
  was_stopped = record {
    event = Stopped a r.deeds;
    can = r.may;
    pending = ap (λ x. x.pending) (node_there w a half) ∙ r.done;
    others = node_elsewhere w a half;
    durable = λ k. same k (nat_eq k a) refl;
  }
    where
      same : (k : ℕ) (b : Bool) → nat_eq k a ≡ b → (cond b half (w k)).durable ≡ (w k).durable
      same k true e = let here : k ≡ a = grind (arith, nat_tests) in ap (λ x. (w x).durable) (sym here)
      same k false e = refl
