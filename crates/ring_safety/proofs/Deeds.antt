-- Each deed that may be done keeps the invariant of the face.
use Rattle.std.proofs.Common.{◌≡◌, ◌⊎◌, inl, inr, ℕ, suc, ◌<◌, ◌≤◌, List, [], ◌∷◌, Option, Some, None, refl, sym, ◌∙◌, ap, subst, arith}
use Rattle.quorums.specs.Groups.{Has}
use Rattle.ring_safety.specs.Faces.{Vote, Proposal, Promise, Lead, Face, rank, owner}
use Rattle.ring_safety.specs.Deeds.{Deed, Promises, Starts, Proposes, Votes, Trims, done, all_done, May, MayAll, MayPropose, MayVote, MayStart, IsProposed, IsPromised}
use Rattle.ring_safety.specs.Rules.{Grows, Backed}
use Rattle.ring_safety.proofs.Votes.{each, voted_each, trimmed_each, page_each, voted_rank, voted_here, trimmed_above, page_inside}
use Rattle.ring_safety.specs.Invariant.{Local}
use Rattle.ring_safety.proofs.Local.{Grows-refl, Grows-trans, IsProposed-more, Backed-more}

-- nothing that was said is lost, and neither promise nor trim falls
pub Grows-done : {V : Type 0} (n : ℕ) (faces : ℕ → Face V) (a : ℕ) (f : Face V) (d : Deed V) → May n faces a f d → Grows f (done d f)
Grows-done n faces a f (Promises ballot low high) may = record { promise = may; trim = omega arith; promises = λ q h. inr h; proposals = λ q h. h; casts = λ q h. h }
Grows-done n faces a f (Starts ballot high) may =
    record { promise = omega (arith, may.above); trim = omega arith; promises = λ q h. inr h; proposals = λ q h. h; casts = λ q h. h }
Grows-done n faces a f (Proposes ballot instance value) may =
    record { promise = omega arith; trim = omega arith; promises = λ q h. h; proposals = λ q h. inr h; casts = λ q h. inr h }
Grows-done n faces a f (Votes ballot instance value) may =
    record { promise = may.promised; trim = omega arith; promises = λ q h. h; proposals = λ q h. h; casts = λ q h. inr h }
Grows-done n faces a f (Trims to) may = record { promise = omega arith; trim = may; promises = λ q h. h; proposals = λ q h. h; casts = λ q h. h }

some_lead : {b c : Lead} → Some b ≡ Some c → b ≡ c
some_lead e = cc

-- the only lead is this one
lead_is : (P : Lead → Type 0) {b : Lead} → P b → (l : Lead) → Some b ≡ Some l → P l
lead_is P h l e = subst P (some_lead e) h

-- A voice that promised: a face of acceptor k that keeps the invariant and has the promise, all of whose proposals in
-- ballots of a stand in a's face too.
pub record Voice {V : Type 0} (n : ℕ) (faces : ℕ → Face V) (a : ℕ) (f : Face V) (k : ℕ) (p : Promise V) : Type 0 where
  pub face : Face V
  pub local : Local n faces k face
  pub says : Has face.promises p
  pub mine : (q : Proposal V) → Has face.proposals q → owner n q.ballot ≡ a → Has f.proposals q

module _ {V : Type 0} (n : ℕ) (faces : ℕ → Face V) (all : (k : ℕ) → Local n faces k (faces k)) (a : ℕ) (f : Face V) (k : Local n faces a f) where
  -- what stands in a's durable face stands in this one
  own_stands : (b : ℕ) (q : Proposal V) → b ≡ a → Has (faces b).proposals q → Has f.proposals q
  own_stands b q e h = k.grown.proposals q (subst (λ x. Has (faces x).proposals q) e h)

  pub voice : (m : ℕ) (p : Promise V) → IsPromised faces a f m p → Voice n faces a f m p
  voice m p (inl h) = record { face = faces m; local = all m; says = h; mine = λ q s o. own_stands m q (sym ((all m).owned q s) ∙ o) s }
  voice m p (inr h) = record { face = f; local = subst (λ x. Local n faces x f) (sym h.0) k; says = h.1; mine = λ q s o. s }

  -- a cast of a ballot of a's, in such a voice, was proposed in a's face
  cast_mine : (m : ℕ) (p : Promise V) → Voice n faces a f m p → (q : Proposal V) → owner n q.ballot ≡ a → (g : Face V) → IsProposed n faces g q
      → ((r : Proposal V) → Has g.proposals r → owner n r.ballot ≡ a → Has f.proposals r) → Has f.proposals q
  cast_mine m p v q o g (inl h) mine = own_stands (owner n q.ballot) q o h
  cast_mine m p v q o g (inr h) mine = mine q h o

  -- before a value is proposed at an instance in a ballot, no promise of that ballot tells a vote of it there
  lower_told : (p : Proposal V) → MayPropose n faces a f p → (m : ℕ) (q : Promise V) → Voice n faces a f m q → q.ballot ≡ p.ballot
      → (o : Option (Vote V)) → q.told p.instance ≡ o → rank o ≤ p.ballot
  lower_told p may m q v same None e = omega arith
  lower_told p may m q v same (Some u) e = bound (grind arith)
    where
      low : u.ballot ≤ q.ballot
      low = v.local.told_promised q v.says p.instance u e

      again : u.ballot ≡ p.ballot → ⊥
      again s =
          let c : Proposal V = record { ballot = u.ballot; instance = p.instance; value = u.value } in
          let mine : owner n p.ballot ≡ a = k.leads_owned (record { ballot = p.ballot; next = may.next }) may.leads in
          let o : owner n u.ballot ≡ a = ap (owner n) s ∙ mine in
          let stands = cast_mine m q v c o v.face (v.local.proposed c (v.local.told_cast q v.says p.instance u e)) v.mine in
          let past : p.instance < may.next = k.leads_next (record { ballot = p.ballot; next = may.next }) may.leads c stands s in
          let new : may.next ≤ p.instance = may.unproposed in
          omega arith

      bound : (u.ballot < p.ballot) ⊎ (u.ballot ≡ p.ballot) → suc u.ballot ≤ p.ballot
      bound (inl l) = l
      bound (inr s) = absurd (again s)

  pub backed_new : (p : Proposal V) → MayPropose n faces a f p → Backed n faces a f p
  backed_new p may = record {
    backing = may.backing;
    lower = λ m lt is. lower_told p may m (may.backing.promise m) (voice m (may.backing.promise m) (may.backing.made m lt is))
        (may.backing.serves m lt is).of_ballot ((may.backing.promise m).told p.instance) refl;
  }

  known_more : (g : Face V) → Grows f g → (c : Proposal V) → IsProposed n faces f c → IsProposed n faces g c
  known_more g grows = IsProposed-more n faces faces (λ m. Grows-refl (faces m)) f g grows

  backed_more : (g : Face V) → Grows f g → (p : Proposal V) → Backed n faces a f p → Backed n faces a g p
  backed_more g grows = Backed-more n faces faces (λ m. Grows-refl (faces m)) f g grows a

  -- a new promise of a ballot no lower than the old: what it tells of a page is what the face holds
  pub Local-promises : (ballot low high : ℕ) → f.promise ≤ ballot → Local n faces a (done (Promises ballot low high) f)
  Local-promises ballot low high may = record {
    grown = Grows-trans k.grown (Grows-done n faces a f (Promises ballot low high) may);
    held_cast = k.held_cast;
    held_promised = λ i v e. omega (arith, k.held_promised i v e);
    held_untrimmed = k.held_untrimmed;
    cast_promised = λ c h. omega (arith, k.cast_promised c h);
    kept = k.kept;
    promised = each f.promises (omega arith) (λ p h. omega (arith, k.promised p h));
    told_cast = each f.promises (page_each (λ i v. Has f.casts (record { ballot = v.ballot; instance = i; value = v.value })) f.votes low high k.held_cast) k.told_cast;
    told_promised = each f.promises (page_each (λ i v. v.ballot ≤ ballot) f.votes low high (λ i v e. omega (arith, k.held_promised i v e))) k.told_promised;
    outdone = each f.promises
        (λ c h lt from to un. subst (λ o. c.ballot < rank o) (sym (page_inside f.votes low high c.instance from to)) (k.kept c h un))
        k.outdone;
    proposed = k.proposed;
    owned = k.owned;
    proposal_promised = λ p h. omega (arith, k.proposal_promised p h);
    proposal_cast = k.proposal_cast;
    one_value = k.one_value;
    leads_owned = k.leads_owned;
    leads_promised = λ l e. omega (arith, k.leads_promised l e);
    leads_next = k.leads_next;
    backed = λ p h. backed_more (done (Promises ballot low high) f) (Grows-done n faces a f (Promises ballot low high) may) p (k.backed p h);
  }

  -- a start is a promise to itself, and nothing was proposed in its ballot before
  pub Local-starts : (ballot high : ℕ) → MayStart n a f ballot → Local n faces a (done (Starts ballot high) f)
  Local-starts ballot high may =
      let above : f.promise < ballot = may.above in
      record {
        grown = Grows-trans k.grown (Grows-done n faces a f (Starts ballot high) may);
        held_cast = k.held_cast;
        held_promised = λ i v e. omega (arith, k.held_promised i v e);
        held_untrimmed = k.held_untrimmed;
        cast_promised = λ c h. omega (arith, k.cast_promised c h);
        kept = k.kept;
        promised = each f.promises (omega arith) (λ p h. omega (arith, k.promised p h));
        told_cast = each f.promises (page_each (λ i v. Has f.casts (record { ballot = v.ballot; instance = i; value = v.value })) f.votes f.trim high k.held_cast) k.told_cast;
        told_promised = each f.promises (page_each (λ i v. v.ballot ≤ ballot) f.votes f.trim high (λ i v e. omega (arith, k.held_promised i v e))) k.told_promised;
        outdone = each f.promises
            (λ c h lt from to un. subst (λ o. c.ballot < rank o) (sym (page_inside f.votes f.trim high c.instance from to)) (k.kept c h un))
            k.outdone;
        proposed = k.proposed;
        owned = k.owned;
        proposal_promised = λ p h. omega (arith, k.proposal_promised p h);
        proposal_cast = k.proposal_cast;
        one_value = k.one_value;
        leads_owned = lead_is (λ l. owner n l.ballot ≡ a) may.owned;
        leads_promised = lead_is (λ l. l.ballot ≤ ballot) (omega arith);
        leads_next = lead_is (λ l. (p : Proposal V) → Has f.proposals p → p.ballot ≡ l.ballot → p.instance < l.next)
            (λ p h s. absurd (omega (arith, k.proposal_promised p h)));
        backed = λ p h. backed_more (done (Starts ballot high) f) (Grows-done n faces a f (Starts ballot high) may) p (k.backed p h);
      }

  pub Local-proposes : (p : Proposal V) → MayPropose n faces a f p → Local n faces a (done (Proposes p.ballot p.instance p.value) f)
  Local-proposes p may =
      let lead : Lead = record { ballot = p.ballot; next = may.next } in
      let vote : Vote V = record { ballot = p.ballot; value = p.value } in
      let g : Face V = done (Proposes p.ballot p.instance p.value) f in
      let same : f.promise ≡ p.ballot = may.promised in
      let new : may.next ≤ p.instance = may.unproposed in
      let mine : owner n p.ballot ≡ a = k.leads_owned lead may.leads in
      let grows : Grows f g = Grows-done n faces a f (Proposes p.ballot p.instance p.value) may in
      let past : (q : Proposal V) → Has f.proposals q → q.ballot ≡ p.ballot → q.instance < may.next = k.leads_next lead may.leads in
      record {
        grown = Grows-trans k.grown grows;
        held_cast = voted_each (λ i v. Has (p ∷ f.casts) (record { ballot = v.ballot; instance = i; value = v.value })) f.votes p.instance vote
            (inl refl) (λ i v e. inr (k.held_cast i v e));
        held_promised = voted_each (λ i v. v.ballot ≤ f.promise) f.votes p.instance vote (omega arith) k.held_promised;
        held_untrimmed = voted_each (λ i v. f.trim ≤ i) f.votes p.instance vote may.untrimmed k.held_untrimmed;
        cast_promised = each f.casts (omega arith) k.cast_promised;
        kept = each f.casts
            (λ un. subst (λ o. p.ballot < rank o) (sym (voted_here f.votes p.instance vote)) (omega arith))
            (λ c h un. voted_rank f.votes p.instance vote c.instance c.ballot (omega (arith, k.cast_promised c h)) (k.kept c h un));
        promised = k.promised;
        told_cast = λ q h i v e. inr (k.told_cast q h i v e);
        told_promised = k.told_promised;
        outdone = λ q h. each f.casts (λ lt. absurd (omega (arith, k.promised q h))) (k.outdone q h);
        proposed = each f.casts (inr (inl refl)) (λ c h. known_more g grows c (k.proposed c h));
        owned = each f.proposals mine k.owned;
        proposal_promised = each f.proposals (omega arith) k.proposal_promised;
        proposal_cast = each f.proposals (inl refl) (λ q h. inr (k.proposal_cast q h));
        one_value = each f.proposals
            (each f.proposals (λ s t. refl) (λ q h s t. absurd (omega (arith, past q h (sym s)))))
            (λ q h. each f.proposals (λ s t. absurd (omega (arith, past q h s))) (k.one_value q h));
        leads_owned = lead_is (λ l. owner n l.ballot ≡ a) mine;
        leads_promised = lead_is (λ l. l.ballot ≤ f.promise) (omega arith);
        leads_next = lead_is (λ l. (q : Proposal V) → Has (p ∷ f.proposals) q → q.ballot ≡ l.ballot → q.instance < l.next)
            (each f.proposals (λ s. omega arith) (λ q h s. omega (arith, past q h s)));
        backed = each f.proposals (backed_more g grows p (backed_new p may)) (λ q h. backed_more g grows q (k.backed q h));
      }

  pub Local-votes : (p : Proposal V) → MayVote n faces f p → Local n faces a (done (Votes p.ballot p.instance p.value) f)
  Local-votes p may =
      let vote : Vote V = record { ballot = p.ballot; value = p.value } in
      let g : Face V = done (Votes p.ballot p.instance p.value) f in
      let above : f.promise ≤ p.ballot = may.promised in
      let grows : Grows f g = Grows-done n faces a f (Votes p.ballot p.instance p.value) may in
      record {
        grown = Grows-trans k.grown grows;
        held_cast = voted_each (λ i v. Has (p ∷ f.casts) (record { ballot = v.ballot; instance = i; value = v.value })) f.votes p.instance vote
            (inl refl) (λ i v e. inr (k.held_cast i v e));
        held_promised = voted_each (λ i v. v.ballot ≤ p.ballot) f.votes p.instance vote (omega arith) (λ i v e. omega (arith, k.held_promised i v e));
        held_untrimmed = voted_each (λ i v. f.trim ≤ i) f.votes p.instance vote may.untrimmed k.held_untrimmed;
        cast_promised = each f.casts (omega arith) (λ c h. omega (arith, k.cast_promised c h));
        kept = each f.casts
            (λ un. subst (λ o. p.ballot < rank o) (sym (voted_here f.votes p.instance vote)) (omega arith))
            (λ c h un. voted_rank f.votes p.instance vote c.instance c.ballot (omega (arith, k.cast_promised c h)) (k.kept c h un));
        promised = λ q h. omega (arith, k.promised q h);
        told_cast = λ q h i v e. inr (k.told_cast q h i v e);
        told_promised = k.told_promised;
        outdone = λ q h. each f.casts (λ lt. absurd (omega (arith, k.promised q h))) (k.outdone q h);
        proposed = each f.casts (known_more g grows p may.proposed) (λ c h. known_more g grows c (k.proposed c h));
        owned = k.owned;
        proposal_promised = λ q h. omega (arith, k.proposal_promised q h);
        proposal_cast = λ q h. inr (k.proposal_cast q h);
        one_value = k.one_value;
        leads_owned = k.leads_owned;
        leads_promised = λ l e. omega (arith, k.leads_promised l e);
        leads_next = k.leads_next;
        backed = λ q h. backed_more g grows q (k.backed q h);
      }

  pub Local-trims : (to : ℕ) → f.trim ≤ to → Local n faces a (done (Trims to) f)
  Local-trims to le = record {
    grown = Grows-trans k.grown (Grows-done n faces a f (Trims to) le);
    held_cast = trimmed_each (λ i v. Has f.casts (record { ballot = v.ballot; instance = i; value = v.value })) f.votes to (λ i v up e. k.held_cast i v e);
    held_promised = trimmed_each (λ i v. v.ballot ≤ f.promise) f.votes to (λ i v up e. k.held_promised i v e);
    held_untrimmed = trimmed_each (λ i v. to ≤ i) f.votes to (λ i v up e. up);
    cast_promised = k.cast_promised;
    kept = λ c h un. subst (λ o. c.ballot < rank o) (sym (trimmed_above f.votes to c.instance un)) (k.kept c h (omega arith));
    promised = k.promised;
    told_cast = k.told_cast;
    told_promised = k.told_promised;
    outdone = k.outdone;
    proposed = k.proposed;
    owned = k.owned;
    proposal_promised = k.proposal_promised;
    proposal_cast = k.proposal_cast;
    one_value = k.one_value;
    leads_owned = k.leads_owned;
    leads_promised = k.leads_promised;
    leads_next = k.leads_next;
    backed = λ q h. backed_more (done (Trims to) f) (Grows-done n faces a f (Trims to) le) q (k.backed q h);
  }

pub Local-done : {V : Type 0} (n : ℕ) (faces : ℕ → Face V) (all : (k : ℕ) → Local n faces k (faces k)) (a : ℕ) (f : Face V) → Local n faces a f
    → (d : Deed V) → May n faces a f d → Local n faces a (done d f)
Local-done n faces all a f k (Promises ballot low high) may = Local-promises n faces all a f k ballot low high may
Local-done n faces all a f k (Starts ballot high) may = Local-starts n faces all a f k ballot high may
Local-done n faces all a f k (Proposes ballot instance value) may = Local-proposes n faces all a f k (record { ballot = ballot; instance = instance; value = value }) may
Local-done n faces all a f k (Votes ballot instance value) may = Local-votes n faces all a f k (record { ballot = ballot; instance = instance; value = value }) may
Local-done n faces all a f k (Trims to) may = Local-trims n faces all a f k to may

pub Local-all_done : {V : Type 0} (n : ℕ) (faces : ℕ → Face V) (all : (k : ℕ) → Local n faces k (faces k)) (a : ℕ) (f : Face V) → Local n faces a f
    → (ds : List (Deed V)) → MayAll n faces a f ds → Local n faces a (all_done ds f)
Local-all_done n faces all a f k [] may = k
Local-all_done n faces all a f k (d ∷ ds) may = Local-all_done n faces all a (done d f) (Local-done n faces all a f k d may.0) ds may.1
