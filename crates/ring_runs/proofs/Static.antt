-- Where the nodes of a deployment sit, and that frames and lines say the same to whoever reads them.
use Rattle.std.proofs.Common.{◌≡◌, ℕ, zero, suc, ◌<◌, ◌≤◌, Bool, true, false, List, [], ◌∷◌, length, Option, Some, None, refl, sym, ◌∙◌, ap, subst, arith, get_or}
use Rattle.std.specs.Prelude.{◌==◌, if◌then◌else◌}
use Rattle.std.specs.List.{AllByRecursion, position_or_len}
use Rattle.std.proofs.lemmas.Bool.Decides.{nat_tests}
use Rattle.std.proofs.lemmas.List.Quantifiers.{position-Some}
use Rattle.std.proofs.lemmas.List.Sums.{fails_before_first}
use Rattle.std.proofs.lemmas.Grind.{common_steps}
use Rattle.mrp_types.specs.declared.id.NodeId.{NodeId}
use Rattle.mrp_types.specs.declared.id.Party.{Party}
use Rattle.mrp_types.specs.declared.id.Party.TheVariants.{Node, Client}
use Rattle.mrp_types.specs.declared.value.Value.{Value}
use Rattle.mrp_types.specs.Seats.{seat_of}
use Rattle.mrp_config.specs.Config.{Config, has_node}
use Rattle.mrp_config.specs.declared.tables.RingTable.{RingTable}
use Rattle.frames.specs.declared.body.Body.{Body}
use Rattle.frames.specs.declared.body.Body.TheVariants as body
use Rattle.frames.specs.declared.sent.Sent.{Sent}
use Rattle.ring_safety.specs.Faces.{Face}
use Rattle.protocol.specs.Rings.{ring_of, is_acceptor}
use Rattle.ring_tables.specs.Ties.{BodySaid, SaidBy, IsSaid, IsTold}
use Rattle.protocol.specs.Lines.{Line, Learn}
use Rattle.ring_tables.specs.Done.{Seats}
use Rattle.ring_runs.specs.Seats.{nobody, acceptor_at, acceptors, position_or, seat, IsDeployed}
use Rattle.quorums.proofs.Each.{mapped}

pub same_id : (a b : NodeId) → a.0 ≡ b.0 → a ≡ b
same_id a b e = ap (λ (n : ℕ). let made : NodeId = record { 0 = n } in made) e

-- ---- seats

abbrev is_it : NodeId → NodeId → Bool
is_it id other = other.0 == id.0

record Index (id : NodeId) (nodes : List NodeId) : Type 0 where
  at : ℕ
  within : at < length nodes
  same : is_it id (get_or nodes at nobody) ≡ true

indexed : (id : NodeId) (nodes : List NodeId) → has_node nodes id.0 ≡ true → Index id nodes
indexed id [] e = absurd (cc)
indexed id (node ∷ nodes) e = go (node.0 == id.0) refl e (λ f. indexed id nodes f)
  where
    go : (b : Bool) → (node.0 == id.0) ≡ b → (if b then true else has_node nodes id.0) ≡ true → (has_node nodes id.0 ≡ true → Index id nodes) → Index id (node ∷ nodes)
    go true t here later = record { at = 0; within = omega arith; same = t }
    go false t here later = let i = later here in let lt = i.within in record { at = suc i.at; within = omega arith; same = i.same }

record Found (id : NodeId) (nodes : List NodeId) : Type 0 where
  at : ℕ
  there : seat_of id nodes ≡ Some at

no_seat : (id : NodeId) (nodes : List NodeId) → seat_of id nodes ≡ None → length nodes ≤ position_or_len (is_it id) nodes
no_seat id nodes e = grind (arith, common_steps)

found : (id : NodeId) (nodes : List NodeId) → has_node nodes id.0 ≡ true → Found id nodes
found id nodes has = go (seat_of id nodes) refl
  where
    go : (o : Option ℕ) → seat_of id nodes ≡ o → Found id nodes
    go (Some k) e = record { at = k; there = e }
    go None e =
        let i = indexed id nodes has in
        let none = no_seat id nodes e in
        let lt = i.within in
        let fails = fails_before_first (is_it id) nodes i.at nobody (omega arith) in
        let same = i.same in
        absurd (cc)

seat_there : (id : NodeId) (nodes : List NodeId) (k : ℕ) → seat_of id nodes ≡ Some k → (k < length nodes) × ((get_or nodes k nobody).0 ≡ id.0)
seat_there id nodes k e =
    let p = position-Some (is_it id) nodes k nobody e in
    let test = p.1 in
    (p.0, grind (arith, nat_tests))

has_entry : (nodes : List NodeId) (k : ℕ) → k < length nodes → has_node nodes (get_or nodes k nobody).0 ≡ true
has_entry [] k lt = absurd (omega arith)
has_entry (node ∷ nodes) zero lt = let e : (node.0 == node.0) ≡ true = grind (arith, nat_tests) in rw e refl
has_entry (node ∷ nodes) (suc k) lt = go (node.0 == (get_or nodes k nobody).0) (has_entry nodes k (omega arith))
  where
    go : (b : Bool) → has_node nodes (get_or nodes k nobody).0 ≡ true → (if b then true else has_node nodes (get_or nodes k nobody).0) ≡ true
    go true h = refl
    go false h = h

module _ (config : Config) (table : RingTable) (d : IsDeployed config table) where
  pub seats_of : (id : NodeId) → is_acceptor (ring_of config id table) ≡ true → Seats (ring_of config id table) (seat table id)
  seats_of id member =
      let f = found id table.acceptors member in
      let at = seat_there id table.acceptors f.at f.there in
      let here : seat table id ≡ f.at = ap (λ o. position_or (length table.acceptors) id o) f.there in
      record {
        seat = f.there ∙ ap (λ (k : ℕ). Some k) (sym here);
        within = subst (λ k. k < length table.acceptors) (sym here) at.0;
        seats = λ node k e. (seat_there node table.acceptors k e).0;
        alone = λ k lt own.
            let number : (get_or table.acceptors k nobody).0 ≡ id.0 = grind (arith, nat_tests) in
            d.distinct k f.at lt at.0 (number ∙ sym at.1) ∙ sym here;
      }

  -- each position has its acceptor
  pub acceptor_seat : (k : ℕ) → k < acceptors table → seat_of (acceptor_at table k) table.acceptors ≡ Some k
  acceptor_seat k lt =
      let f = found (acceptor_at table k) table.acceptors (has_entry table.acceptors k lt) in
      let at = seat_there (acceptor_at table k) table.acceptors f.at f.there in
      f.there ∙ ap (λ (j : ℕ). Some j) (d.distinct f.at k at.0 lt at.1)

  pub seat_at : (k : ℕ) → k < acceptors table → seat table (acceptor_at table k) ≡ k
  seat_at k lt = ap (λ o. position_or (length table.acceptors) (acceptor_at table k) o) (acceptor_seat k lt)

  -- a low seat is an acceptor's
  pub low_seat : (id : NodeId) → seat table id < acceptors table → seat_of id table.acceptors ≡ Some (seat table id)
  low_seat id low = go (seat_of id table.acceptors) refl low
    where
      go : (o : Option ℕ) → seat_of id table.acceptors ≡ o → position_or (length table.acceptors) id o < length table.acceptors → o ≡ Some (position_or (length table.acceptors) id o)
      go None e lt = absurd (omega arith)
      go (Some k) e lt = refl

  -- two nodes have two seats
  pub seats_differ : (other id : NodeId) → (other.0 ≡ id.0 → ⊥) → seat table other ≡ seat table id → ⊥
  seats_differ other id ne e = go (seat_of other table.acceptors) refl (seat_of id table.acceptors) refl e
    where
      go : (o : Option ℕ) → seat_of other table.acceptors ≡ o → (p : Option ℕ) → seat_of id table.acceptors ≡ p
          → position_or (length table.acceptors) other o ≡ position_or (length table.acceptors) id p → ⊥
      go None f None g same = ne (omega arith)
      go None f (Some k) g same = let t = (seat_there id table.acceptors k g).0 in absurd (omega arith)
      go (Some i) f None g same = let t = (seat_there other table.acceptors i f).0 in absurd (omega arith)
      go (Some i) f (Some k) g same =
          let x = seat_there other table.acceptors i f in
          let y = seat_there id table.acceptors k g in
          ne (sym x.1 ∙ ap (λ n. (get_or table.acceptors n nobody).0) same ∙ y.1)

  -- ---- what frames say

  said_body : (own other : NodeId) (now : ℕ → Face Value) (from : NodeId) (b : Body) → BodySaid (ring_of config own table) now from b → BodySaid (ring_of config other table) now from b
  said_body own other now from (body.Promise r ballot lo hi trim votes) s = s
  said_body own other now from (body.Accept r ballot lo hi mask value) s = s
  said_body own other now from (body.Decide r lo hi left value) s = s
  said_body own other now from (body.Chosen r ranges) s = s
  said_body own other now from more s = tt

  pub said_by : (own other : NodeId) (now : ℕ → Face Value) (from : Party) (b : Body) → SaidBy (ring_of config own table) now from b → SaidBy (ring_of config other table) now from b
  said_by own other now (Node from) b s = said_body own other now from b s
  said_by own other now (Client from) b s = tt

  pub all_said : (own other : NodeId) (now : ℕ → Face Value) (frames : List Sent) → AllByRecursion (IsSaid (ring_of config own table) now) frames
      → AllByRecursion (IsSaid (ring_of config other table) now) frames
  all_said own other now frames s =
      mapped (IsSaid (ring_of config own table) now) (IsSaid (ring_of config other table) now) (λ sent t. said_by own other now sent.frame.from sent.frame.body t) frames s

  told_line : (own other : NodeId) (now : ℕ → Face Value) (line : Line) → IsTold (ring_of config own table) now line → IsTold (ring_of config other table) now line
  told_line own other now (Learn node r lo hi value) s = s
  told_line own other now more s = tt

  pub all_told : (own other : NodeId) (now : ℕ → Face Value) (lines : List Line) → AllByRecursion (IsTold (ring_of config own table) now) lines
      → AllByRecursion (IsTold (ring_of config other table) now) lines
  all_told own other now lines s = mapped (IsTold (ring_of config own table) now) (IsTold (ring_of config other table) now) (told_line own other now) lines s
