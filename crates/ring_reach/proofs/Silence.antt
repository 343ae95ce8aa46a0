-- What a step may do may also be done with empty pages in place of what it tells others: nobody rests on a promise that wasn't sent.
use Rattle.std.proofs.Common.{◌≡◌, ◌⊎◌, inl, inr, ℕ, ◌<◌, ◌≤◌, List, [], ◌∷◌, refl, sym, ◌∙◌, ap, subst, arith}
use Rattle.std.proofs.lemmas.Bool.{cases_eq}
use Rattle.quorums.specs.Groups.{Has}
use Rattle.ring_safety.specs.Faces.{Promise, Face, owner, page}
use Rattle.ring_safety.specs.Deeds.{Deed, Promises, Starts, Proposes, Votes, Trims, done, IsPromised, May, MayAll, all_done}
use Rattle.ring_safety.specs.Invariant.{Local}
use Rattle.ring_reach.specs.Reach.{Reaches}
use Rattle.ring_reach.specs.Silent.{with_promises, Silently}
use Rattle.ring_reach.proofs.Reaching.{reach_one, Local-reach}

module _ {V : Type 0} (n : ℕ) (faces : ℕ → Face V) (a : ℕ) (all : (k : ℕ) → Local n faces k (faces k)) (f : Face V) where
  -- these promises in place of those of g
  record Stands (g : Face V) (promises : List (Promise V)) : Type 0 where
    own : (p : Promise V) → Has g.promises p → owner n p.ballot ≡ a → Has promises p
    new : (p : Promise V) → Has promises p → Has f.promises p ⊎ ((owner n p.ballot ≡ a) ⊎ (p.high ≤ p.low))

  record Once (g : Face V) (promises : List (Promise V)) (d : Deed V) : Type 0 where
    deed : Deed V
    after : List (Promise V)
    may : May n faces a (with_promises promises g) deed
    same : done deed (with_promises promises g) ≡ with_promises after (done d g)
    stands : Stands (done d g) after

  -- one more promise of an own ballot
  owned : (g : Face V) (promises : List (Promise V)) (one : Promise V) → owner n one.ballot ≡ a → Stands g promises → Stands (with_promises (one ∷ g.promises) g) (one ∷ promises)
  owned g promises one mine s = record {
    own = λ p h o. by_own p h o;
    new = λ p h. by_new p h;
  }
    where
      by_own : (p : Promise V) → Has (one ∷ g.promises) p → owner n p.ballot ≡ a → Has (one ∷ promises) p
      by_own p (inl e) o = inl e
      by_own p (inr h) o = inr (s.own p h o)

      by_new : (p : Promise V) → Has (one ∷ promises) p → Has f.promises p ⊎ ((owner n p.ballot ≡ a) ⊎ (p.high ≤ p.low))
      by_new p (inl e) = inr (inl (subst (λ (q : Promise V). owner n q.ballot ≡ a) (sym e) mine))
      by_new p (inr h) = s.new p h

  -- one that was told to another, and is kept with an empty page
  emptied : (g : Face V) (promises : List (Promise V)) (one : Promise V) (ballot trim : ℕ) → one.ballot ≡ ballot → (owner n ballot ≡ a → ⊥) → Stands g promises
      → Stands (with_promises (one ∷ g.promises) g) ((record { ballot = ballot; low = 0; high = 0; trim = trim; told = page g.votes 0 0 }) ∷ promises)
  emptied g promises one ballot trim is ne s = record {
    own = λ p h o. by_own p h o;
    new = λ p h. by_new p h;
  }
    where
      empty : Promise V
      empty = record { ballot = ballot; low = 0; high = 0; trim = trim; told = page g.votes 0 0 }

      by_own : (p : Promise V) → Has (one ∷ g.promises) p → owner n p.ballot ≡ a → Has (empty ∷ promises) p
      by_own p (inl e) o = let same : p.ballot ≡ ballot = ap (λ (q : Promise V). q.ballot) e ∙ is in absurd (ne (subst (λ b. owner n b ≡ a) same o))
      by_own p (inr h) o = inr (s.own p h o)

      by_new : (p : Promise V) → Has (empty ∷ promises) p → Has f.promises p ⊎ ((owner n p.ballot ≡ a) ⊎ (p.high ≤ p.low))
      by_new p (inl e) =
          let low : p.low ≡ 0 = ap (λ (q : Promise V). q.low) e in
          let high : p.high ≡ 0 = ap (λ (q : Promise V). q.high) e in
          inr (inr (omega arith))
      by_new p (inr h) = s.new p h

  once : (g : Face V) (promises : List (Promise V)) → Local n faces a g → Stands g promises → (d : Deed V) → May n faces a g d → Once g promises d
  once g promises local s (Promises ballot low high) may = by_owner (cases_eq (owner n ballot) a)
    where
      one : Promise V
      one = record { ballot = ballot; low = low; high = high; trim = g.trim; told = page g.votes low high }

      by_owner : (owner n ballot ≡ a) ⊎ (owner n ballot ≡ a → ⊥) → Once g promises (Promises ballot low high)
      by_owner (inl mine) =
          let t = owned g promises one mine s in
          record { deed = Promises ballot low high; after = one ∷ promises; may = may; same = refl; stands = record { own = t.own; new = t.new } }
      by_owner (inr ne) =
          let t = emptied g promises one ballot g.trim refl ne s in
          record {
            deed = Promises ballot 0 0;
            after = (record { ballot = ballot; low = 0; high = 0; trim = g.trim; told = page g.votes 0 0 }) ∷ promises;
            may = may;
            same = refl;
            stands = record { own = t.own; new = t.new };
          }
  once g promises local s (Starts ballot high) may =
      let t = owned g promises (record { ballot = ballot; low = g.trim; high = high; trim = g.trim; told = page g.votes g.trim high }) may.owned s in
      record {
        deed = Starts ballot high;
        after = (record { ballot = ballot; low = g.trim; high = high; trim = g.trim; told = page g.votes g.trim high }) ∷ promises;
        may = record { owned = may.owned; above = may.above };
        same = refl;
        stands = record { own = t.own; new = t.new };
      }
  once g promises local s (Proposes ballot instance value) may = record {
    deed = Proposes ballot instance value;
    after = promises;
    may = record {
      next = may.next;
      leads = may.leads;
      promised = may.promised;
      unproposed = may.unproposed;
      untrimmed = may.untrimmed;
      backing = record {
        members = may.backing.members;
        promise = may.backing.promise;
        majority = may.backing.majority;
        made = λ k lt is. known k (may.backing.promise k) (may.backing.serves k lt is).of_ballot (may.backing.made k lt is);
        serves = may.backing.serves;
        due = may.backing.due;
      };
    };
    same = refl;
    stands = record { own = s.own; new = s.new };
  }
    where
      mine : owner n ballot ≡ a
      mine = local.leads_owned (record { ballot = ballot; next = may.next }) may.leads

      known : (k : ℕ) (p : Promise V) → p.ballot ≡ ballot → IsPromised faces a g k p → IsPromised faces a (with_promises promises g) k p
      known k p is (inl h) = inl h
      known k p is (inr h) = inr (h.0, s.own p h.1 (subst (λ b. owner n b ≡ a) (sym is) mine))
  once g promises local s (Votes ballot instance value) may = record {
    deed = Votes ballot instance value;
    after = promises;
    may = record { proposed = may.proposed; promised = may.promised; untrimmed = may.untrimmed };
    same = refl;
    stands = record { own = s.own; new = s.new };
  }
  once g promises local s (Trims to) may = record { deed = Trims to; after = promises; may = may; same = refl; stands = record { own = s.own; new = s.new } }

  record Throughout (g : Face V) (promises : List (Promise V)) (ds : List (Deed V)) : Type 0 where
    deeds : List (Deed V)
    after : List (Promise V)
    may : MayAll n faces a (with_promises promises g) deeds
    same : all_done deeds (with_promises promises g) ≡ with_promises after (all_done ds g)
    stands : Stands (all_done ds g) after

  throughout : (ds : List (Deed V)) (g : Face V) (promises : List (Promise V)) → Local n faces a g → Stands g promises → MayAll n faces a g ds → Throughout g promises ds
  throughout [] g promises local s may = record { deeds = []; after = promises; may = tt; same = refl; stands = s }
  throughout (d ∷ ds) g promises local s may =
      let one = once g promises local s d may.0 in
      let next : Local n faces a (done d g) = Local-reach n faces a all g (done d g) local (reach_one n faces a g d may.0) in
      let rest = throughout ds (done d g) one.after next one.stands may.1 in
      record {
        deeds = one.deed ∷ rest.deeds;
        after = rest.after;
        may = (one.may, subst (λ (x : Face V). MayAll n faces a x rest.deeds) (sym one.same) rest.may);
        same = ap (λ (x : Face V). all_done rest.deeds x) one.same ∙ rest.same;
        stands = rest.stands;
      }

  pub silently : Local n faces a f → (g : Face V) → Reaches n faces a f g → Silently n faces a f g
  silently local g r =
      let t = throughout r.deeds f f.promises local (record { own = λ p h o. h; new = λ p h. inl h }) r.may in
      record {
        promises = t.after;
        reached = record { deeds = t.deeds; may = t.may; done = t.same ∙ ap (λ (x : Face V). with_promises t.after x) r.done };
        new = λ p h lt. by_page p lt (t.stands.new p h);
      }
    where
      by_page : (p : Promise V) → p.low < p.high → Has f.promises p ⊎ ((owner n p.ballot ≡ a) ⊎ (p.high ≤ p.low)) → Has f.promises p ⊎ (owner n p.ballot ≡ a)
      by_page p lt (inl h) = inl h
      by_page p lt (inr (inl o)) = inr o
      by_page p lt (inr (inr empty)) = absurd (omega arith)
