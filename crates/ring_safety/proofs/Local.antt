-- The invariant of one face: of the blank one, and as the durable faces of others grow.
use Rattle.std.proofs.Common.{◌≡◌, inl, inr, ℕ, ◌≤◌, Some, None, subst, arith}
use Rattle.ring_safety.specs.Faces.{Vote, Proposal, Promise, Lead, Face, owner, blank}
use Rattle.ring_safety.specs.Deeds.{IsProposed, IsPromised, Backing}
use Rattle.ring_safety.specs.Rules.{Grows, Backed}
use Rattle.ring_safety.specs.Invariant.{Local}

pub Grows-refl : {V : Type 0} (f : Face V) → Grows f f
Grows-refl f = record { promise = omega arith; trim = omega arith; promises = λ p h. h; proposals = λ p h. h; casts = λ p h. h }

pub Grows-of_eq : {V : Type 0} {f g : Face V} → f ≡ g → Grows f g
Grows-of_eq {f = f} e = subst (Grows f) e (Grows-refl f)

pub Grows-trans : {V : Type 0} {f g h : Face V} → Grows f g → Grows g h → Grows f h
Grows-trans {f = f} {g = g} {h = h} r s =
    let a : f.promise ≤ g.promise = r.promise in
    let b : g.promise ≤ h.promise = s.promise in
    let c : f.trim ≤ g.trim = r.trim in
    let d : g.trim ≤ h.trim = s.trim in
    record {
      promise = omega arith;
      trim = omega arith;
      promises = λ p x. s.promises p (r.promises p x);
      proposals = λ p x. s.proposals p (r.proposals p x);
      casts = λ p x. s.casts p (r.casts p x);
    }

-- What is known grows with the faces.
module _ {V : Type 0} (n : ℕ) (old new : ℕ → Face V) (more : (k : ℕ) → Grows (old k) (new k)) (f g : Face V) (grows : Grows f g) where
  pub IsProposed-more : (p : Proposal V) → IsProposed n old f p → IsProposed n new g p
  IsProposed-more p (inl h) = inl ((more (owner n p.ballot)).proposals p h)
  IsProposed-more p (inr h) = inr (grows.proposals p h)

  pub IsPromised-more : (a k : ℕ) (p : Promise V) → IsPromised old a f k p → IsPromised new a g k p
  IsPromised-more a k p (inl h) = inl ((more k).promises p h)
  IsPromised-more a k p (inr h) = inr (h.0, grows.promises p h.1)

  pub Backing-more : (a : ℕ) (p : Proposal V) → Backing n old a f p → Backing n new a g p
  Backing-more a p b = record {
    members = b.members;
    promise = b.promise;
    majority = b.majority;
    made = λ k lt m. IsPromised-more a k (b.promise k) (b.made k lt m);
    serves = b.serves;
    due = b.due;
  }

  pub Backed-more : (a : ℕ) (p : Proposal V) → Backed n old a f p → Backed n new a g p
  unfolding Backing-more
  Backed-more a p b = record { backing = Backing-more a p b.backing; lower = b.lower }

-- the invariant stays true as the durable faces of others grow
pub Local-elsewhere : {V : Type 0} (n : ℕ) (old new : ℕ → Face V) → ((k : ℕ) → Grows (old k) (new k)) → (a : ℕ) (f : Face V) → Grows (new a) f
    → Local n old a f → Local n new a f
Local-elsewhere n old new more a f grown k = record {
  grown = grown;
  held_cast = k.held_cast;
  held_promised = k.held_promised;
  held_untrimmed = k.held_untrimmed;
  cast_promised = k.cast_promised;
  kept = k.kept;
  promised = k.promised;
  told_cast = k.told_cast;
  told_promised = k.told_promised;
  outdone = k.outdone;
  proposed = λ c h. IsProposed-more n old new more f f (Grows-refl f) c (k.proposed c h);
  owned = k.owned;
  proposal_promised = k.proposal_promised;
  proposal_cast = k.proposal_cast;
  one_value = k.one_value;
  leads_owned = k.leads_owned;
  leads_promised = k.leads_promised;
  leads_next = k.leads_next;
  backed = λ p h. Backed-more n old new more f f (Grows-refl f) a p (k.backed p h);
}

no_vote : {V : Type 0} {C : Type 0} {v : Vote V} → None ≡ Some v → C
no_vote e = cc

no_lead : {C : Type 0} {l : Lead} → None ≡ Some l → C
no_lead e = cc

pub Local-blank : {V : Type 0} (n : ℕ) (faces : ℕ → Face V) (a : ℕ) → faces a ≡ blank → Local n faces a blank
Local-blank n faces a e = record {
  grown = Grows-of_eq e;
  held_cast = λ i v x. no_vote x;
  held_promised = λ i v x. no_vote x;
  held_untrimmed = λ i v x. no_vote x;
  cast_promised = λ c h. absurd h;
  kept = λ c h. absurd h;
  promised = λ p h. absurd h;
  told_cast = λ p h. absurd h;
  told_promised = λ p h. absurd h;
  outdone = λ p h. absurd h;
  proposed = λ c h. absurd h;
  owned = λ p h. absurd h;
  proposal_promised = λ p h. absurd h;
  proposal_cast = λ p h. absurd h;
  one_value = λ p h. absurd h;
  leads_owned = λ l x. no_lead x;
  leads_promised = λ l x. no_lead x;
  leads_next = λ l x. no_lead x;
  backed = λ p h. absurd h;
}
