-- Held votes after a vote, a trim, and as a page tells them; and lists with one more element.
use Rattle.std.proofs.Common.{◌≡◌, inl, inr, ℕ, ◌<◌, ◌≤◌, Bool, true, false, cond, ◌&&◌, nat_eq, nat_lt, nat_le, List, ◌∷◌, Option, Some, None, refl, sym, subst, arith}
use Rattle.std.proofs.lemmas.Bool.Decides.{nat_tests}
use Rattle.quorums.specs.Groups.{Has}
use Rattle.ring_safety.specs.Faces.{Vote, rank, voted, trimmed, page}

-- what holds of the new element and of each old one holds of each
pub each : {X : Type 0} {P : X → Type 0} {x : X} (xs : List X) → P x → ((y : X) → Has xs y → P y) → (y : X) → Has (x ∷ xs) y → P y
each {P = P} xs here there y (inl e) = subst P (sym e) here
each xs here there y (inr h) = there y h

some_vote : {V : Type 0} {u v : Vote V} → Some u ≡ Some v → u ≡ v
some_vote e = cc

pub voted_each : {V : Type 0} (P : ℕ → Vote V → Type 0) (votes : ℕ → Option (Vote V)) (i : ℕ) (v : Vote V) → P i v
    → ((j : ℕ) (u : Vote V) → votes j ≡ Some u → P j u) → (j : ℕ) (u : Vote V) → voted votes i v j ≡ Some u → P j u
voted_each {V} P votes i v here there j u = go (nat_eq j i) refl
  where
    go : (b : Bool) → nat_eq j i ≡ b → cond b (Some v) (votes j) ≡ Some u → P j u
    go true p e = let s : j ≡ i = grind (arith, nat_tests) in subst (λ k. P k u) (sym s) (subst (P i) (some_vote e) here)
    go false p e = there j u e

pub trimmed_each : {V : Type 0} (P : ℕ → Vote V → Type 0) (votes : ℕ → Option (Vote V)) (t : ℕ)
    → ((j : ℕ) (u : Vote V) → t ≤ j → votes j ≡ Some u → P j u) → (j : ℕ) (u : Vote V) → trimmed votes t j ≡ Some u → P j u
trimmed_each P votes t there j u = go (nat_lt j t) refl
  where
    go : (b : Bool) → nat_lt j t ≡ b → cond b None (votes j) ≡ Some u → P j u
    go true p e = cc
    go false p e = there j u (grind (arith, nat_tests)) e

pub page_each : {V : Type 0} (P : ℕ → Vote V → Type 0) (votes : ℕ → Option (Vote V)) (low high : ℕ)
    → ((j : ℕ) (u : Vote V) → votes j ≡ Some u → P j u) → (j : ℕ) (u : Vote V) → page votes low high j ≡ Some u → P j u
page_each P votes low high there j u = go (nat_le low j && nat_lt j high)
  where
    go : (b : Bool) → cond b (votes j) None ≡ Some u → P j u
    go true e = there j u e
    go false e = cc

-- a new vote of a ballot no lower than d is above d, also where it stands in another's place
pub voted_rank : {V : Type 0} (votes : ℕ → Option (Vote V)) (i : ℕ) (v : Vote V) (j d : ℕ) → d ≤ v.ballot → d < rank (votes j) → d < rank (voted votes i v j)
voted_rank votes i v j d low there = go (nat_eq j i)
  where
    go : (b : Bool) → d < rank (cond b (Some v) (votes j))
    go true = omega arith
    go false = there

pub voted_here : {V : Type 0} (votes : ℕ → Option (Vote V)) (i : ℕ) (v : Vote V) → voted votes i v i ≡ Some v
voted_here votes i v = let e : nat_eq i i ≡ true = grind (arith, nat_tests) in rw e refl

pub trimmed_above : {V : Type 0} (votes : ℕ → Option (Vote V)) (t j : ℕ) → t ≤ j → trimmed votes t j ≡ votes j
trimmed_above votes t j le = let e : nat_lt j t ≡ false = grind (arith, nat_tests) in rw e refl

pub page_inside : {V : Type 0} (votes : ℕ → Option (Vote V)) (low high j : ℕ) → low ≤ j → j < high → page votes low high j ≡ votes j
page_inside votes low high j from to = let e : (nat_le low j && nat_lt j high) ≡ true = grind (arith, nat_tests) in rw e refl
