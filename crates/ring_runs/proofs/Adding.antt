-- What votes the machine's nodes add: none of a ballot below a promise that stands in a durable face.
use Rattle.std.proofs.Common.{◌≡◌, ◌⊎◌, inl, inr, ℕ, ◌≤◌, Bool, true, false, cond, nat_eq, List, [], ◌∷◌, refl, sym, subst, arith}
use Rattle.std.proofs.lemmas.Bool.Decides.{nat_tests}
use Rattle.quorums.specs.Groups.{Has}
use Rattle.ring_safety.specs.Deeds.{Deed, Promises, Starts, Proposes, Votes, Trims, May, MayAll, done, all_done}
use Rattle.ring_safety.specs.Faces.{Proposal, Face}
use Rattle.ring_safety.specs.Worlds.{Node, World, Event, Step, Stopped, Before, After, CanHappen, CanRun, durables, empty, happens, run}

-- a later face has promised no less, and each vote that it has cast was cast, or is of no ballot below the promise
pub record Adds {V : Type 0} (f g : Face V) : Type 0 where
  pub promise : f.promise ≤ g.promise
  pub casts : (c : Proposal V) → Has g.casts c → Has f.casts c ⊎ (f.promise ≤ c.ballot)

module _ {V : Type 0} where
  Adds-refl : (f : Face V) → Adds f f
  Adds-refl f = record { promise = omega arith; casts = λ c h. inl h }

  Adds-trans : (f g h : Face V) → Adds f g → Adds g h → Adds f h
  Adds-trans f g h r s =
      let a : f.promise ≤ g.promise = r.promise in
      let b : g.promise ≤ h.promise = s.promise in
      record { promise = omega arith; casts = λ c x. go c (s.casts c x) }
    where
      go : (c : Proposal V) → Has g.casts c ⊎ (g.promise ≤ c.ballot) → Has f.casts c ⊎ (f.promise ≤ c.ballot)
      go c (inl x) = r.casts c x
      go c (inr le) = let a : f.promise ≤ g.promise = r.promise in inr (omega arith)

  -- ---- deeds

  module _ (n : ℕ) (faces : ℕ → Face V) (a : ℕ) where
    -- one vote more, of no ballot below the promise
    voted : (f g : Face V) (p : Proposal V) → f.promise ≤ g.promise → g.casts ≡ p ∷ f.casts → f.promise ≤ p.ballot → Adds f g
    voted f g p up same le = record { promise = up; casts = λ c h. go c (subst (λ (l : List (Proposal V)). Has l c) same h) }
      where
        go : (c : Proposal V) → Has (p ∷ f.casts) c → Has f.casts c ⊎ (f.promise ≤ c.ballot)
        go c (inl e) = inr (subst (λ (q : Proposal V). f.promise ≤ q.ballot) (sym e) le)
        go c (inr h) = inl h

    adds_done : (f : Face V) (d : Deed V) → May n faces a f d → Adds f (done d f)
    adds_done f (Promises ballot low high) may = record { promise = may; casts = λ c h. inl h }
    adds_done f (Starts ballot high) may = let above = may.above in record { promise = omega arith; casts = λ c h. inl h }
    adds_done f (Proposes ballot i value) may =
        let same : f.promise ≡ ballot = may.promised in
        voted f (done (Proposes ballot i value) f) (record { ballot = ballot; instance = i; value = value }) (omega arith) refl (omega arith)
    adds_done f (Votes ballot i value) may =
        let low : f.promise ≤ ballot = may.promised in
        voted f (done (Votes ballot i value) f) (record { ballot = ballot; instance = i; value = value }) low refl low
    adds_done f (Trims to) may = record { promise = omega arith; casts = λ c h. inl h }

    adds_all : (f : Face V) (ds : List (Deed V)) → MayAll n faces a f ds → Adds f (all_done ds f)
    adds_all f [] may = Adds-refl f
    adds_all f (d ∷ ds) may = Adds-trans f (done d f) (all_done ds (done d f)) (adds_done f d may.0) (adds_all (done d f) ds may.1)

  -- ---- events

  -- both faces of a node
  pub record BothAdd (f : Face V) (node : Node V) : Type 0 where
    pub durable : Adds f node.durable
    pub pending : Adds f node.pending

  -- one node is changed
  changed : (P : Node V → Type 0) (w : World V) (a k : ℕ) (x : Node V) → (k ≡ a → P x) → P (w k) → P (cond (nat_eq k a) x (w k))
  changed P w a k x new old = go (nat_eq k a) refl
    where
      go : (b : Bool) → nat_eq k a ≡ b → P (cond b x (w k))
      go true e = new (grind (arith, nat_tests))
      go false e = old

  both_happens : (n : ℕ) (w : World V) (f : Face V) (k : ℕ) → BothAdd f (w k) → (e : Event V) → CanHappen n w e → BothAdd f (happens e w k)
  both_happens n w f k b (Step a deeds) can =
      changed (BothAdd f) w a k (record { durable = all_done deeds (w a).durable; pending = all_done deeds (w a).durable })
      (λ e. let here = subst (λ (x : ℕ). BothAdd f (w x)) e b in
      let on = Adds-trans f (w a).durable (all_done deeds (w a).durable) here.durable (adds_all n (durables w) a (w a).durable deeds can) in
      record { durable = on; pending = on }) b
  both_happens n w f k b (Stopped a deeds) can =
      changed (BothAdd f) w a k (record { durable = (w a).durable; pending = all_done deeds (w a).durable })
      (λ e. let here = subst (λ (x : ℕ). BothAdd f (w x)) e b in
      record {
        durable = here.durable;
        pending = Adds-trans f (w a).durable (all_done deeds (w a).durable) here.durable (adds_all n (durables w) a (w a).durable deeds can);
      }) b
  both_happens n w f k b (Before a) can =
      changed (BothAdd f) w a k (record { durable = (w a).durable; pending = (w a).durable })
      (λ e. let here = subst (λ (x : ℕ). BothAdd f (w x)) e b in record { durable = here.durable; pending = here.durable }) b
  both_happens n w f k b (After a) can =
      changed (BothAdd f) w a k (record { durable = (w a).pending; pending = (w a).pending })
      (λ e. let here = subst (λ (x : ℕ). BothAdd f (w x)) e b in record { durable = here.pending; pending = here.pending }) b

  pub both_run : (n : ℕ) (f : Face V) (k : ℕ) (w : World V) → BothAdd f (w k) → (es : List (Event V)) → CanRun n w es → BothAdd f (run es w k)
  both_run n f k w b [] can = b
  both_run n f k w b (e ∷ es) can = both_run n f k (happens e w) (both_happens n w f k b e can.0) es can.1

  -- ---- the pending face and its own durable one

  abbrev pub PendingAdds : Node V → Type 0
  PendingAdds node = Adds node.durable node.pending

  own_happens : (n : ℕ) (w : World V) (k : ℕ) → PendingAdds (w k) → (e : Event V) → CanHappen n w e → PendingAdds (happens e w k)
  own_happens n w k b (Step a deeds) can =
      changed PendingAdds w a k (record { durable = all_done deeds (w a).durable; pending = all_done deeds (w a).durable }) (λ e. Adds-refl (all_done deeds (w a).durable)) b
  own_happens n w k b (Stopped a deeds) can =
      changed PendingAdds w a k (record { durable = (w a).durable; pending = all_done deeds (w a).durable }) (λ e. adds_all n (durables w) a (w a).durable deeds can) b
  own_happens n w k b (Before a) can = changed PendingAdds w a k (record { durable = (w a).durable; pending = (w a).durable }) (λ e. Adds-refl (w a).durable) b
  own_happens n w k b (After a) can = changed PendingAdds w a k (record { durable = (w a).pending; pending = (w a).pending }) (λ e. Adds-refl (w a).pending) b

  own_run : (n : ℕ) (k : ℕ) (w : World V) → PendingAdds (w k) → (es : List (Event V)) → CanRun n w es → PendingAdds (run es w k)
  own_run n k w b [] can = b
  own_run n k w b (e ∷ es) can = own_run n k (happens e w) (own_happens n w k b e can.0) es can.1

  -- in a world that events reach, both faces of a node add to its durable one
  pub reached_adds : (n : ℕ) (es : List (Event V)) → CanRun n empty es → (k : ℕ) → BothAdd (run es empty k).durable (run es empty k)
  reached_adds n es can k = record { durable = Adds-refl (run es empty k).durable; pending = own_run n k empty (Adds-refl (empty k).durable) es can }
