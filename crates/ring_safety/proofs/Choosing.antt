-- Where a value is chosen, every proposal there of that ballot or a higher one is for that value: by induction on the ballot.
use Rattle.std.proofs.Common.{◌≡◌, ◌⊎◌, inl, inr, ℕ, zero, suc, ◌<◌, ◌≤◌, Option, Some, None, refl, sym, ◌∙◌, ap, subst, arith}
use Rattle.quorums.specs.Groups.{Has, Shared}
use Rattle.quorums.proofs.Meeting.{majorities_meet}
use Rattle.ring_safety.specs.Faces.{Vote, Proposal, Promise, Face, rank, owner}
use Rattle.ring_safety.specs.Deeds.{IsProposed, IsFree, IsHighest}
use Rattle.ring_safety.specs.Worlds.{Chosen}
use Rattle.ring_safety.specs.Rules.{Backed}
use Rattle.ring_safety.specs.Invariant.{Local}
use Rattle.ring_safety.proofs.Deeds.{Voice, voice}

-- what is below a bound that is one higher
at_or_below : (x y : ℕ) → x ≤ y → (x ≡ y) ⊎ (x < y)
at_or_below x y le = grind arith

told_above : {V : Type 0} (o : Option (Vote V)) (d : ℕ) → d < rank o → o ≡ None → ⊥
told_above o d lt e = let r : rank o ≡ 0 = ap rank e in omega arith

-- each proposal at the instance of c, of its ballot or a higher one and below a bound, is for its value
abbrev AllFor : {V : Type 0} → ℕ → (ℕ → Face V) → Proposal V → ℕ → Type 0
AllFor {V} n faces c bound = (a : ℕ) (f : Face V) → Local n faces a f → (p : Proposal V) → Has f.proposals p
    → p.instance ≡ c.instance → c.ballot ≤ p.ballot → p.ballot < bound → p.value ≡ c.value

module _ {V : Type 0} (n : ℕ) (faces : ℕ → Face V) (all : (k : ℕ) → Local n faces k (faces k)) (c : Proposal V) (chosen : Chosen n faces c) where
  -- what was cast was proposed by the owner of its ballot
  proposed_by_owner : (k : ℕ) → IsProposed n faces (faces k) c → Has (faces (owner n c.ballot)).proposals c
  proposed_by_owner k (inl h) = h
  proposed_by_owner k (inr h) = subst (λ x. Has (faces x).proposals c) (sym ((all k).owned c h)) h

  chosen_proposed : Has (faces (owner n c.ballot)).proposals c
  chosen_proposed =
      let s = majorities_meet n chosen.members chosen.members chosen.majority chosen.majority in
      proposed_by_owner s.member ((all s.member).proposed c (chosen.cast s.member s.below s.in_first))

  -- in the ballot of the choice
  same_ballot : (a : ℕ) (f : Face V) → Local n faces a f → (p : Proposal V) → Has f.proposals p → p.instance ≡ c.instance → c.ballot ≡ p.ballot → p.value ≡ c.value
  same_ballot a f k p h i e =
      let o : owner n c.ballot ≡ a = ap (owner n) e ∙ k.owned p h in
      let stands : Has f.proposals c = k.grown.proposals c (subst (λ x. Has (faces x).proposals c) o chosen_proposed) in
      k.one_value p h c stands (sym e) i

  -- a vote that a promise told, of a ballot from that of the choice on and below the bound, is for the chosen value
  told_for : (bound : ℕ) → AllFor n faces c bound → (a : ℕ) (f : Face V) (m : ℕ) (q : Promise V) → Voice n faces a f m q → (u : Vote V)
      → q.told c.instance ≡ Some u → c.ballot ≤ u.ballot → u.ballot < bound → u.value ≡ c.value
  told_for bound below a f m q v u e from to = go (v.local.proposed r (v.local.told_cast q v.says c.instance u e))
    where
      r : Proposal V
      r = record { ballot = u.ballot; instance = c.instance; value = u.value }

      go : IsProposed n faces v.face r → u.value ≡ c.value
      go (inl h) = below (owner n u.ballot) (faces (owner n u.ballot)) (all (owner n u.ballot)) r h refl from to
      go (inr h) = below m v.face v.local r h refl from to

  -- in a higher ballot: a member of the proposal's majority had cast the choice when it promised, and told that or more
  higher_ballot : (bound : ℕ) → AllFor n faces c bound → (a : ℕ) (f : Face V) → Local n faces a f → (p : Proposal V) → Has f.proposals p
      → p.instance ≡ c.instance → c.ballot < p.ballot → p.ballot ≤ bound → p.value ≡ c.value
  higher_ballot bound below a f k p h i higher to = go b.backing.due
    where
      b : Backed n faces a f p
      b = k.backed p h

      s : Shared n b.backing.members chosen.members
      s = majorities_meet n b.backing.members chosen.members b.backing.majority chosen.majority

      promise : Promise V
      promise = b.backing.promise s.member

      v : Voice n faces a f s.member promise
      v = voice n faces all a f k s.member promise (b.backing.made s.member s.below s.in_first)

      told : c.ballot < rank (promise.told c.instance)
      told =
          let serves = b.backing.serves s.member s.below s.in_first in
          let same : promise.ballot ≡ p.ballot = serves.of_ballot in
          let low : promise.low ≤ p.instance = serves.from_low in
          let high : p.instance < promise.high = serves.to_high in
          let untrimmed : promise.trim ≤ p.instance = serves.untrimmed in
          v.local.outdone promise v.says c (v.local.grown.casts c (chosen.cast s.member s.below s.in_second)) (omega arith) (omega arith) (omega arith) (omega arith)

      go : IsFree n b.backing.members (λ m. (b.backing.promise m).told p.instance) ⊎ IsHighest n b.backing.members (λ m. (b.backing.promise m).told p.instance) p.value
          → p.value ≡ c.value
      go (inl free) = absurd (told_above (promise.told c.instance) c.ballot told (ap promise.told (sym i) ∙ free s.member s.below s.in_first))
      go (inr top) =
          let q : Promise V = b.backing.promise top.member in
          let w : Voice n faces a f top.member q = voice n faces all a f k top.member q (b.backing.made top.member top.below top.is_member) in
          let e : q.told c.instance ≡ Some top.vote = ap q.told (sym i) ∙ top.tells in
          let r : rank (q.told p.instance) ≡ suc top.vote.ballot = ap rank top.tells in
          let t : rank (promise.told c.instance) ≡ rank (promise.told p.instance) = ap (λ x. rank (promise.told x)) (sym i) in
          let m : rank (promise.told p.instance) ≤ rank (q.told p.instance) = top.highest s.member s.below s.in_first in
          let above : c.ballot < rank (promise.told c.instance) = told in
          let l : rank (q.told p.instance) ≤ p.ballot = b.lower top.member top.below top.is_member in
          top.same ∙ told_for bound below a f top.member q w top.vote e (omega arith) (omega arith)

pub all_for : {V : Type 0} (n : ℕ) (faces : ℕ → Face V) (all : (k : ℕ) → Local n faces k (faces k)) (c : Proposal V) → Chosen n faces c → (bound : ℕ) → AllFor n faces c bound
all_for n faces all c chosen zero a f k p h i from to = absurd (omega arith)
all_for {V} n faces all c chosen (suc bound) a f k p h i from to = split (all_for n faces all c chosen bound) (at_or_below c.ballot p.ballot from)
  where
    split : AllFor n faces c bound → (c.ballot ≡ p.ballot) ⊎ (c.ballot < p.ballot) → p.value ≡ c.value
    split below (inl e) = same_ballot n faces all c chosen a f k p h i e
    split below (inr l) = higher_ballot n faces all c chosen bound below a f k p h i l (omega arith)

-- two chosen values at one instance are equal: the one of the higher ballot was proposed
pub one_chosen : {V : Type 0} (n : ℕ) (faces : ℕ → Face V) (all : (k : ℕ) → Local n faces k (faces k)) (c d : Proposal V) → Chosen n faces c → Chosen n faces d
    → c.instance ≡ d.instance → c.value ≡ d.value
one_chosen {V} n faces all c d p q i = split (grind arith)
  where
    later : (c d : Proposal V) → Chosen n faces c → Chosen n faces d → c.instance ≡ d.instance → c.ballot ≤ d.ballot → d.value ≡ c.value
    later c d p q i le = all_for n faces all c p (suc d.ballot) (owner n d.ballot) (faces (owner n d.ballot)) (all (owner n d.ballot)) d
        (chosen_proposed n faces all d q) (sym i) le (omega arith)

    split : (c.ballot ≤ d.ballot) ⊎ (d.ballot ≤ c.ballot) → c.value ≡ d.value
    split (inl le) = sym (later c d p q i le)
    split (inr le) = later d c q p (sym i) le
