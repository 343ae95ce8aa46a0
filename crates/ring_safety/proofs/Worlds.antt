-- Every reachable world keeps the invariant in both faces of each node, and so the rules.
use Rattle.std.proofs.Common.{◌≡◌, ◌⊎◌, inl, inr, ℕ, Bool, true, false, cond, nat_eq, List, [], ◌∷◌, refl, sym, ap, subst, arith}
use Rattle.std.proofs.lemmas.Bool.Decides.{nat_tests}
use Rattle.ring_safety.specs.Faces.{Face}
use Rattle.ring_safety.specs.Deeds.{Deed, all_done, MayAll}
use Rattle.ring_safety.specs.Worlds.{Node, World, Event, Step, Stopped, Before, After, empty, durables, with_node, happens, CanHappen, run, CanRun, IsFaceOf}
use Rattle.ring_safety.specs.Rules.{Grows}
use Rattle.ring_safety.specs.Invariant.{Local, Sound}
use Rattle.ring_safety.proofs.Local.{Grows-refl, Grows-of_eq, Grows-trans, Local-elsewhere, Local-blank}
use Rattle.ring_safety.proofs.Deeds.{Local-all_done}

pub Sound-empty : {V : Type 0} (n : ℕ) → Sound {V = V} n empty
Sound-empty n = record { durable = λ a. Local-blank n (durables empty) a refl; pending = λ a. Local-blank n (durables empty) a refl }

-- the node at k after a change at a: the new one, or the one before
node_at : {V : Type 0} (w : World V) (a : ℕ) (x : Node V) (k : ℕ) → ((k ≡ a) × (with_node w a x k ≡ x)) ⊎ (with_node w a x k ≡ w k)
node_at w a x k = go (nat_eq k a) refl
  where
    go : (b : Bool) → nat_eq k a ≡ b → ((k ≡ a) × (cond b x (w k) ≡ x)) ⊎ (cond b x (w k) ≡ w k)
    go true e = inl (grind (arith, nat_tests), refl)
    go false e = inr refl

module _ {V : Type 0} (n : ℕ) (w : World V) (sound : Sound n w) (a : ℕ) (x : Node V) (more : Grows (w a).durable x.durable) where
  with_more : (k : ℕ) → Grows (w k).durable (with_node w a x k).durable
  with_more k = go (node_at w a x k)
    where
      go : ((k ≡ a) × (with_node w a x k ≡ x)) ⊎ (with_node w a x k ≡ w k) → Grows (w k).durable (with_node w a x k).durable
      go (inl e) = Grows-trans (subst (λ i. Grows (w i).durable x.durable) (sym e.0) more) (Grows-of_eq (ap (λ y. y.durable) (sym e.1)))
      go (inr e) = Grows-of_eq (ap (λ y. y.durable) (sym e))

  -- a face that keeps the invariant in the world before keeps it in the one after, where it has grown from its node's face
  carried : (k : ℕ) (f : Face V) → Local n (durables w) k f → (y : Node V) → with_node w a x k ≡ y → Grows y.durable f → Local n (durables (with_node w a x)) k f
  carried k f local y e grown = Local-elsewhere n (durables w) (durables (with_node w a x)) with_more k f (Grows-trans (Grows-of_eq (ap (λ z. z.durable) e)) grown) local

  pub Sound-with : Local n (durables w) a x.durable → Local n (durables w) a x.pending → Grows x.durable x.pending → Sound n (with_node w a x)
  Sound-with d p within = record { durable = λ k. durable k (node_at w a x k); pending = λ k. pending k (node_at w a x k) }
    where
      durable : (k : ℕ) → ((k ≡ a) × (with_node w a x k ≡ x)) ⊎ (with_node w a x k ≡ w k) → Local n (durables (with_node w a x)) k (with_node w a x k).durable
      durable k (inl e) = subst (λ y. Local n (durables (with_node w a x)) k y.durable) (sym e.1)
          (carried k x.durable (subst (λ i. Local n (durables w) i x.durable) (sym e.0) d) x e.1 (Grows-refl x.durable))
      durable k (inr e) = subst (λ y. Local n (durables (with_node w a x)) k y.durable) (sym e)
          (carried k (w k).durable (sound.durable k) (w k) e (Grows-refl (w k).durable))

      pending : (k : ℕ) → ((k ≡ a) × (with_node w a x k ≡ x)) ⊎ (with_node w a x k ≡ w k) → Local n (durables (with_node w a x)) k (with_node w a x k).pending
      pending k (inl e) = subst (λ y. Local n (durables (with_node w a x)) k y.pending) (sym e.1)
          (carried k x.pending (subst (λ i. Local n (durables w) i x.pending) (sym e.0) p) x e.1 within)
      pending k (inr e) = subst (λ y. Local n (durables (with_node w a x)) k y.pending) (sym e)
          (carried k (w k).pending (sound.pending k) (w k) e (sound.pending k).grown)

module _ {V : Type 0} (n : ℕ) (w : World V) (sound : Sound n w) where
  -- deeds that may be done lead to a face that keeps the invariant, and has grown
  stepped : (a : ℕ) (deeds : List (Deed V)) → MayAll n (durables w) a (w a).durable deeds → Local n (durables w) a (all_done deeds (w a).durable)
  stepped a deeds may = Local-all_done n (durables w) sound.durable a (w a).durable (sound.durable a) deeds may

  pub happens_more : (e : Event V) → CanHappen n w e → (k : ℕ) → Grows (w k).durable (happens e w k).durable
  happens_more (Step a deeds) may = with_more n w sound a _ (stepped a deeds may).grown
  happens_more (Stopped a deeds) may = with_more n w sound a _ (Grows-refl (w a).durable)
  happens_more (Before a) may = with_more n w sound a _ (Grows-refl (w a).durable)
  happens_more (After a) may = with_more n w sound a _ (sound.pending a).grown

  pub Sound-happens : (e : Event V) → CanHappen n w e → Sound n (happens e w)
  Sound-happens (Step a deeds) may =
      let s = stepped a deeds may in
      Sound-with n w sound a _ s.grown s s (Grows-refl (all_done deeds (w a).durable))
  Sound-happens (Stopped a deeds) may =
      let s = stepped a deeds may in
      Sound-with n w sound a _ (Grows-refl (w a).durable) (sound.durable a) s s.grown
  Sound-happens (Before a) may = Sound-with n w sound a _ (Grows-refl (w a).durable) (sound.durable a) (sound.durable a) (Grows-refl (w a).durable)
  Sound-happens (After a) may = Sound-with n w sound a _ (sound.pending a).grown (sound.pending a) (sound.pending a) (Grows-refl (w a).pending)

  pub either_face : (a : ℕ) (f : Face V) → IsFaceOf w a f → Local n (durables w) a f
  either_face a f (inl e) = subst (Local n (durables w) a) (sym e) (sound.durable a)
  either_face a f (inr e) = subst (Local n (durables w) a) (sym e) (sound.pending a)

pub Sound-run : {V : Type 0} (n : ℕ) (w : World V) → Sound n w → (events : List (Event V)) → CanRun n w events → Sound n (run events w)
Sound-run n w sound [] can = sound
Sound-run n w sound (e ∷ es) can = Sound-run n (happens e w) (Sound-happens n w sound e can.0) es can.1

pub run_more : {V : Type 0} (n : ℕ) (w : World V) → Sound n w → (events : List (Event V)) → CanRun n w events → (k : ℕ) → Grows (w k).durable (run events w k).durable
run_more n w sound [] can k = Grows-refl (w k).durable
run_more n w sound (e ∷ es) can k =
    Grows-trans (happens_more n w sound e can.0 k) (run_more n (happens e w) (Sound-happens n w sound e can.0) es can.1 k)

pub Sound-reached : {V : Type 0} (n : ℕ) (events : List (Event V)) → CanRun n empty events → Sound n (run events empty)
Sound-reached n events can = Sound-run n empty (Sound-empty n) events can

-- each face of a later world has grown from the durable face before
pub later_more : {V : Type 0} (n : ℕ) (w : World V) → Sound n w → (events : List (Event V)) → CanRun n w events → (a : ℕ) (f : Face V) → IsFaceOf (run events w) a f → Grows (w a).durable f
later_more n w sound events can a f is = Grows-trans (run_more n w sound events can a) (either_face n (run events w) (Sound-run n w sound events can) a f is).grown
