-- Deeds one after another, and over ranges of instances.
use Rattle.std.proofs.Common.{◌≡◌, ◌⊎◌, inl, inr, ℕ, zero, suc, ◌+◌, ◌<◌, ◌≤◌, Bool, true, false, cond, nat_eq, List, [], ◌∷◌, ◌++◌, Option, Some, refl, sym, ◌∙◌, ap, subst, arith}
use Rattle.std.proofs.lemmas.Bool.{cases_eq}
use Rattle.std.proofs.lemmas.Bool.Decides.{nat_tests}
use Rattle.quorums.specs.Groups.{Has}
use Rattle.ring_safety.specs.Faces.{Vote, Proposal, Promise, Face, owner, voted}
use Rattle.ring_safety.specs.Deeds.{Deed, Proposes, Votes, done, all_done, May, MayAll, MayPropose, MayVote, IsProposed, IsPromised, Backing}
use Rattle.ring_safety.specs.Rules.{Grows}
use Rattle.ring_safety.specs.Invariant.{Local}
use Rattle.ring_safety.proofs.Votes.{voted_here}
use Rattle.ring_safety.proofs.Local.{Grows-refl, Grows-trans, IsProposed-more, Backing-more}
use Rattle.ring_safety.proofs.Deeds.{Grows-done, Local-all_done}
use Rattle.ring_safety.proofs.Turns.{may_both, done_both}
use Rattle.ring_reach.specs.Reach.{Reaches, seen, proposal, IsAmong, HasVoted, Voting, Proposing}

-- ---- deeds in a row

Grows-all_done : {V : Type 0} (n : ℕ) (faces : ℕ → Face V) (a : ℕ) (f : Face V) (ds : List (Deed V)) → MayAll n faces a f ds → Grows f (all_done ds f)
Grows-all_done n faces a f [] may = Grows-refl f
Grows-all_done n faces a f (d ∷ ds) may = Grows-trans (Grows-done n faces a f d may.0) (Grows-all_done n faces a (done d f) ds may.1)

module _ {V : Type 0} (n : ℕ) (faces : ℕ → Face V) (a : ℕ) where
  pub reach_none : (f : Face V) → Reaches n faces a f f
  reach_none f = record { deeds = []; may = tt; done = refl }

  pub reach_first : (f g : Face V) (d : Deed V) → May n faces a f d → Reaches n faces a (done d f) g → Reaches n faces a f g
  reach_first f g d may r = record { deeds = d ∷ r.deeds; may = (may, r.may); done = r.done }

  pub reach_one : (f : Face V) (d : Deed V) → May n faces a f d → Reaches n faces a f (done d f)
  reach_one f d may = record { deeds = d ∷ []; may = (may, tt); done = refl }

  pub reach_both : (f g h : Face V) → Reaches n faces a f g → Reaches n faces a g h → Reaches n faces a f h
  reach_both f g h r s = record {
    deeds = r.deeds ++ s.deeds;
    may = may_both n faces a f r.deeds s.deeds r.may (subst (λ x. MayAll n faces a x s.deeds) (sym r.done) s.may);
    done = done_both f r.deeds s.deeds ∙ ap (λ x. all_done s.deeds x) r.done ∙ s.done;
  }

  pub Local-reach : ((k : ℕ) → Local n faces k (faces k)) → (f g : Face V) → Local n faces a f → Reaches n faces a f g → Local n faces a g
  Local-reach all f g local r = subst (λ x. Local n faces a x) r.done (Local-all_done n faces all a f local r.deeds r.may)

  pub Grows-reach : (f g : Face V) → Reaches n faces a f g → Grows f g
  Grows-reach f g r = subst (λ x. Grows f x) r.done (Grows-all_done n faces a f r.deeds r.may)

  -- ---- what is seen

  -- what the own face said, or a durable one
  pub proposed_seen : (f : Face V) (p : Proposal V) → Has (seen faces a f (owner n p.ballot)).proposals p → IsProposed n faces f p
  proposed_seen f p = go (nat_eq (owner n p.ballot) a)
    where
      go : (b : Bool) → Has (cond b f (faces (owner n p.ballot))).proposals p → IsProposed n faces f p
      go true h = inr h
      go false h = inl h

  pub promised_seen : (f : Face V) (k : ℕ) (p : Promise V) → Has (seen faces a f k).promises p → IsPromised faces a f k p
  promised_seen f k p = go (nat_eq k a) refl
    where
      go : (b : Bool) → nat_eq k a ≡ b → Has (cond b f (faces k)).promises p → IsPromised faces a f k p
      go true e h = inr (grind (arith, nat_tests), h)
      go false e h = inl h

  pub seen_more : (f g : Face V) → Grows f g → (k : ℕ) → Grows (seen faces a f k) (seen faces a g k)
  seen_more f g grows k = go (nat_eq k a)
    where
      go : (b : Bool) → Grows (cond b f (faces k)) (cond b g (faces k))
      go true = grows
      go false = Grows-refl (faces k)

  pub seen_from : (f : Face V) → Grows (faces a) f → (k : ℕ) → Grows (faces k) (seen faces a f k)
  seen_from f grows k = go (nat_eq k a) refl
    where
      go : (b : Bool) → nat_eq k a ≡ b → Grows (faces k) (cond b f (faces k))
      go true e = let same : k ≡ a = grind (arith, nat_tests) in subst (λ x. Grows (faces x) f) (sym same) grows
      go false e = Grows-refl (faces k)

  pub seen_own : (f : Face V) → seen faces a f a ≡ f
  seen_own f = let e : nat_eq a a ≡ true = grind (arith, nat_tests) in rw e refl

  -- ---- a vote at one instance

  voted_other : (votes : ℕ → Option (Vote V)) (i : ℕ) (v : Vote V) (j : ℕ) → (j ≡ i → ⊥) → voted votes i v j ≡ votes j
  voted_other votes i v j ne = let e : nat_eq j i ≡ false = grind (arith, nat_tests) in rw e refl

  none_voted : (f : Face V) (ballot lo : ℕ) (value : V) → HasVoted f f ballot lo 0 value
  none_voted f ballot lo value = record {
    promise = refl;
    trim = refl;
    inside = λ i x y. absurd (omega arith);
    outside = λ i x. refl;
    cast = λ i x y. absurd (omega arith);
    new = λ c h. inl h;
    promises = refl;
    grows = Grows-refl f;
  }

  -- g has cast the first vote, and h the later ones
  one_more_voted : (f g h : Face V) (ballot lo size : ℕ) (value : V) → g.promise ≡ f.promise → g.trim ≡ f.trim → g.promises ≡ f.promises → Grows f g
      → ((i : ℕ) → g.votes i ≡ voted f.votes lo (record { ballot = ballot; value = value }) i) → Has g.casts (proposal ballot lo value)
      → ((c : Proposal V) → Has g.casts c → Has (proposal ballot lo value ∷ f.casts) c) → HasVoted g h ballot (suc lo) size value → HasVoted f h ballot lo (suc size) value
  one_more_voted f g h ballot lo size value promise trim told grows votes cast one r = record {
    promise = r.promise ∙ promise;
    trim = r.trim ∙ trim;
    inside = λ i x y. elim (cases_eq i lo) [
      | inl same ↦
          r.outside i (λ u w. omega arith) ∙ votes i ∙ ap (λ j. voted f.votes lo (record { ballot = ballot; value = value }) j) same
          ∙ voted_here f.votes lo (record { ballot = ballot; value = value })
      | inr ne ↦ r.inside i (omega arith) (omega arith)
    ];
    outside = λ i x.
        let ne : (i ≡ lo → ⊥) = λ e. x (omega arith) (omega arith) in
        r.outside i (λ u w. x (omega arith) (omega arith)) ∙ votes i ∙ voted_other f.votes lo (record { ballot = ballot; value = value }) i ne;
    cast = λ i x y. elim (cases_eq i lo) [
      | inl same ↦ r.grows.casts (proposal ballot i value) (subst (λ j. Has g.casts (proposal ballot j value)) (sym same) cast)
      | inr ne ↦ r.cast i (omega arith) (omega arith)
    ];
    new = λ c x. by (r.new c x);
    promises = r.promises ∙ told;
    grows = Grows-trans grows r.grows;
  }
    where
      first : (c : Proposal V) → Has (proposal ballot lo value ∷ f.casts) c → Has f.casts c ⊎ IsAmong ballot lo (suc size) value c
      first c (inl e) = let at : c.instance ≡ lo = ap (λ (p : Proposal V). p.instance) e in
          inr (record { of_ballot = ap (λ (p : Proposal V). p.ballot) e; from = omega arith; to = omega arith; of_value = ap (λ (p : Proposal V). p.value) e })
      first c (inr h) = inl h

      by : {c : Proposal V} → Has g.casts c ⊎ IsAmong ballot (suc lo) size value c → Has f.casts c ⊎ IsAmong ballot lo (suc size) value c
      by {c} (inl h) = first c (one c h)
      by (inr m) = inr (record { of_ballot = m.of_ballot; from = let low = m.from in omega arith; to = let high = m.to in omega arith; of_value = m.of_value })

  -- ---- votes over a range

  pub votes_range : (size : ℕ) (f : Face V) (ballot lo : ℕ) (value : V) → f.promise ≡ ballot → f.trim ≤ lo
      → ((i : ℕ) → lo ≤ i → i < lo + size → IsProposed n faces f (proposal ballot i value)) → Voting n faces a f ballot lo size value
  votes_range zero f ballot lo value promised trim proposed = record { face = f; reached = reach_none f; voted = none_voted f ballot lo value; leads = refl }
  votes_range (suc size) f ballot lo value promised trim proposed =
      let g : Face V = done (Votes ballot lo value) f in
      let may : MayVote n faces f (proposal ballot lo value) = record { proposed = proposed lo (omega arith) (omega arith); promised = omega arith; untrimmed = trim } in
      let grows : Grows f g = Grows-done n faces a f (Votes ballot lo value) may in
      let known : (i : ℕ) → suc lo ≤ i → i < suc lo + size → IsProposed n faces g (proposal ballot i value) =
      λ i x y. IsProposed-more n faces faces (λ k. Grows-refl (faces k)) f g grows (proposal ballot i value) (proposed i (omega arith) (omega arith)) in
      let r : Voting n faces a g ballot (suc lo) size value = votes_range size g ballot (suc lo) value refl (omega arith) known in
      record {
        face = r.face;
        reached = reach_first f r.face (Votes ballot lo value) may r.reached;
        voted = one_more_voted f g r.face ballot lo size value (sym promised) refl refl grows (λ i. refl) (inl refl) (λ c h. h) r.voted;
        leads = r.leads;
      }

  -- ---- proposals over a range

  pub proposes_range : (size : ℕ) (f : Face V) (ballot next lo : ℕ) (value : V) → f.leads ≡ Some (record { ballot = ballot; next = next }) → next ≤ lo → f.promise ≡ ballot → f.trim ≤ lo
      → ((i : ℕ) → lo ≤ i → i < lo + size → Backing n faces a f (proposal ballot i value)) → Proposing n faces a f ballot lo size value
  proposes_range zero f ballot next lo value leads passed promised trim backed = record {
    face = f;
    reached = reach_none f;
    voted = none_voted f ballot lo value;
    next = next;
    leads = leads;
    passed = omega arith;
    proposed = λ i x y. absurd (omega arith);
  }
  proposes_range (suc size) f ballot next lo value leads passed promised trim backed =
      let g : Face V = done (Proposes ballot lo value) f in
      let may : MayPropose n faces a f (proposal ballot lo value) = record {
        next = next;
        leads = leads;
        promised = promised;
        unproposed = passed;
        untrimmed = trim;
        backing = backed lo (omega arith) (omega arith);
      } in
      let grows : Grows f g = Grows-done n faces a f (Proposes ballot lo value) may in
      let known : (i : ℕ) → suc lo ≤ i → i < suc lo + size → Backing n faces a g (proposal ballot i value) =
      λ i x y. Backing-more n faces faces (λ k. Grows-refl (faces k)) f g grows a (proposal ballot i value) (backed i (omega arith) (omega arith)) in
      let r : Proposing n faces a g ballot (suc lo) size value = proposes_range size g ballot (suc lo) (suc lo) value refl (omega arith) promised (omega arith) known in
      let end : r.next ≤ suc lo + size = r.passed in
      record {
        face = r.face;
        reached = reach_first f r.face (Proposes ballot lo value) may r.reached;
        voted = one_more_voted f g r.face ballot lo size value refl refl refl grows (λ i. refl) (inl refl) (λ c h. h) r.voted;
        next = r.next;
        leads = r.leads;
        passed = omega arith;
        proposed = λ i x y. elim (cases_eq i lo) [
          | inl same ↦ r.voted.grows.proposals (proposal ballot i value) (inl (ap (λ j. proposal ballot j value) same))
          | inr ne ↦ r.proposed i (omega arith) (omega arith)
        ];
      }
