-- What follows of faithful lines.
use Rattle.std.proofs.Common.{◌≡◌, ℕ, ◌<◌, ◌≤◌, ◌⊎◌, inl, inr, Bool, true, false, List, [], ◌∷◌, Option, Some, None, refl, sym, ◌∙◌, ap, subst, arith}
use Rattle.std.specs.Prelude.{◌==◌, nat_le, if◌then◌else◌, IsTrue}
use Rattle.std.specs.List.{AllByRecursion}
use Rattle.mrp_types.specs.declared.id.NodeId.{NodeId}
use Rattle.mrp_types.specs.declared.id.RingId.{RingId}
use Rattle.mrp_types.specs.declared.id.ClientId.{ClientId}
use Rattle.mrp_types.specs.declared.place.Place.{Place}
use Rattle.mrp_types.specs.declared.value.Entry.{Entry}
use Rattle.mrp_types.specs.declared.value.Value.{Value}
use Rattle.mrp_types.specs.declared.value.Value.TheVariants.{Skip, Batch}
use Rattle.mrp_types.specs.Book.{book_of}
use Rattle.mrp_types.specs.Places.{place_lt}
use Rattle.mrp_types.proofs.PlaceOrder.{in_one_order}
use Rattle.mrp_types.proofs.TupleMoves.{has_past}
use Rattle.mrp_config.specs.Config.{Config, has_ring, partition_of}
use Rattle.mrp_config.specs.declared.tables.PartitionTable.{PartitionTable}
use Rattle.mrp_config.specs.Valid.{IsValid}
use Rattle.plain_model.specs.Tuples.{round_sizes, place_of, next_place, moved_past, past, tuple_at, has_rings, is_valid_tuple, is_at_or_after, IsBelow, IsNotBelow}
use Rattle.plain_model.specs.Fold.{place_with, entries_at_place, known_entries, asked_in, before_asked, place_of_asked, answer_at, answer_from, answer_of}
use Rattle.plain_model.proofs.TupleOrder.{split_and, same_number, next_is_one, not_below_by, not_below_past, valid_is_front, false_not_true, other_number}
use Rattle.plain_model.proofs.TupleChain.{is_le, later_rings}
use Rattle.transcript.specs.declared.line.Line.{Line}
use Rattle.transcript.specs.declared.line.Line.TheVariants.{Deliver, Restore, Begin, Chose, Saved, Down, Up}
use Rattle.line_rules.specs.Names as rule
use Rattle.line_rules.specs.Scanners.{moves, position, learned}
use Rattle.line_rules.specs.Rules.{Delivers, Answers, IsFaithfulLine, AreFaithful}
use Rattle.line_rules.specs.Follows.{delivered, AreInOrder, IsOrdered}
use Rattle.line_rules.proofs.Words.{no_true, nothing, some_same, node_same}
use Rattle.line_rules.proofs.Growing.{book_more}
use Rattle.line_rules.proofs.Printed.{rings_fit}
use Rattle.line_rules.proofs.Ranges.{book_learned, below_or_not}
use Rattle.line_rules.proofs.Decided.{next_in, some_rings, same_tuple}

-- ---- below and not below

-- a place of one of a tuple's rings is below it, or isn't
of_ring : (rings : List RingId) (k : List (RingId × ℕ)) (q : Place) → has_rings rings k ≡ true → has_ring rings q.ring.0 ≡ true → IsBelow q k ⊎ IsNotBelow q k
of_ring [] k q h r = no_true r
of_ring (ring ∷ rings) [] q h r = no_true h
of_ring (ring ∷ rings) (x ∷ k) q h r = go (ring.0 == q.ring.0) refl r (λ later. of_ring rings k q (later_rings ring rings x k h) later)
  where
    first : ring.0 ≡ x.0.0
    first = same_number ring.0 x.0.0 (split_and (ring.0 == x.0.0) (has_rings rings k) h).0

    go : (b : Bool) → (ring.0 == q.ring.0) ≡ b → (if b then true else has_ring rings q.ring.0) ≡ true → (has_ring rings q.ring.0 ≡ true → IsBelow q k ⊎ IsNotBelow q k) → IsBelow q (x ∷ k) ⊎ IsNotBelow q (x ∷ k)
    go true e r later =
        let own : q.ring.0 ≡ x.0.0 = sym (same_number ring.0 q.ring.0 e) ∙ first in
        elim (below_or_not q.inst x.1) [ inl less ↦ inl (inl (own, less)) | inr not ↦ inr (inl (own, not)) ]
    go false e r later = elim (later r) [ inl below ↦ inl (inr below) | inr not ↦ inr (inr not) ]

-- the ring of what is below a tuple is one of its rings
ring_of_below : (rings : List RingId) (k : List (RingId × ℕ)) (q : Place) → has_rings rings k ≡ true → IsBelow q k → has_ring rings q.ring.0 ≡ true
ring_of_below [] [] q h b = absurd b
ring_of_below [] (x ∷ k) q h b = no_true h
ring_of_below (ring ∷ rings) [] q h b = absurd b
ring_of_below (ring ∷ rings) (x ∷ k) q h b = go (ring.0 == q.ring.0) refl b (λ later. ring_of_below rings k q (later_rings ring rings x k h) later)
  where
    first : ring.0 ≡ x.0.0
    first = same_number ring.0 x.0.0 (split_and (ring.0 == x.0.0) (has_rings rings k) h).0

    go : (b : Bool) → (ring.0 == q.ring.0) ≡ b → IsBelow q (x ∷ k) → (IsBelow q k → has_ring rings q.ring.0 ≡ true) → (if b then true else has_ring rings q.ring.0) ≡ true
    go true e below later = refl
    go false e (inl hit) later = absurd (other_number ring.0 q.ring.0 e (first ∙ sym hit.0))
    go false e (inr below) later = later below

-- what is below a tuple is below one that is at or after it
below_later : (rings : List RingId) (k t : List (RingId × ℕ)) (q : Place) → has_rings rings k ≡ true → has_rings rings t ≡ true → is_at_or_after t k ≡ true → IsBelow q k → IsBelow q t
below_later [] [] t q hk ht a b = absurd b
below_later [] (y ∷ k) t q hk ht a b = no_true hk
below_later (ring ∷ rings) [] t q hk ht a b = absurd b
below_later (ring ∷ rings) (y ∷ k) [] q hk ht a b = no_true ht
below_later (ring ∷ rings) (y ∷ k) (x ∷ t) q hk ht a b =
    let first : ring.0 ≡ y.0.0 = same_number ring.0 y.0.0 (split_and (ring.0 == y.0.0) (has_rings rings k) hk).0 in
    let second : ring.0 ≡ x.0.0 = same_number ring.0 x.0.0 (split_and (ring.0 == x.0.0) (has_rings rings t) ht).0 in
    let parts = split_and (nat_le y.1 x.1) (is_at_or_after t k) a in
    let reaches : y.1 ≤ x.1 = is_le y.1 x.1 parts.0 in
    elim b [
      | inl hit ↦ (let less : q.inst < y.1 = hit.1 in inl (hit.0 ∙ sym first ∙ second, omega arith))
      | inr later ↦ inr (below_later rings k t q (later_rings ring rings y k hk) (later_rings ring rings x t ht) parts.1 later)
    ]

-- what is below a valid tuple comes before its next place
before_next : (m : ℕ → ℕ) (t : List (RingId × ℕ)) (q : Place) → is_valid_tuple m t ≡ true → IsBelow q t → IsTrue (place_lt m q (place_of (next_place m t)))
before_next m [] q valid below = absurd below
before_next m (x ∷ t) q valid below =
    valid_is_front m (x ∷ t) valid q (place_of (next_place m (x ∷ t))) below
    (not_below_by (next_place m (x ∷ t)) (x ∷ t) (place_of (next_place m (x ∷ t))) (next_is_one m x t) refl (omega arith))

-- a move keeps what is below
below_stays : (m : ℕ → ℕ) (rings : List RingId) (t : List (RingId × ℕ)) (q : Place) → has_rings rings t ≡ true → is_valid_tuple m t ≡ true → IsBelow q t → IsBelow q (past m t)
below_stays m rings [] q h valid below = absurd below
below_stays m rings (x ∷ t) q h valid below =
    elim (of_ring rings (past m (x ∷ t)) q (has_past m rings (x ∷ t) h) (ring_of_below rings (x ∷ t) q h below)) [
      | inl kept ↦ kept
      | inr not ↦ absurd (false_not_true (place_lt m q q) ((in_one_order m).irreflexive q) (valid_is_front m (x ∷ t) valid q q below (not_below_past m x t q not).0))
    ]

-- and takes in the next place
next_below : (m : ℕ → ℕ) (rings : List RingId) (t : List (RingId × ℕ)) → has_rings rings t ≡ true → has_ring rings (next_place m t).0.0 ≡ true → IsBelow (place_of (next_place m t)) (past m t)
next_below m [] [] h r = no_true r
next_below m (ring ∷ rings) [] h r = no_true h
next_below m rings (x ∷ t) h r =
    elim (of_ring rings (past m (x ∷ t)) (place_of (next_place m (x ∷ t))) (has_past m rings (x ∷ t) h) r) [
      | inl below ↦ below
      | inr not ↦ absurd ((not_below_past m x t (place_of (next_place m (x ∷ t))) not).1 refl)
    ]

all_map : {T : Type 0} (P Q : T → Type 0) (xs : List T) → ((x : T) → P x → Q x) → AllByRecursion P xs → AllByRecursion Q xs
all_map P Q [] to all = tt
all_map P Q (x ∷ xs) to all = (to x all.0, all_map P Q xs to all.1)

-- ---- deliveries

module _ (c : Config) (valid : IsValid c) (node : NodeId) where
  abbrev m : ℕ → ℕ
  m = round_sizes c

  abbrev stood : PartitionTable → List Line → List (RingId × ℕ)
  stood p before = position m p.rings node.0 before

  abbrev AreBelow : List Line → Type 0
  AreBelow before = (p : PartitionTable) → partition_of c.partitions node ≡ Some p → AllByRecursion (λ (q : Place). IsBelow q (stood p before)) (delivered node.0 before)

  abbrev Kept : List Line → Type 0
  Kept before = AreInOrder m (delivered node.0 before) × AreBelow before

  module _ (before : List Line) (kept : Kept before) (ring : RingId) (inst : ℕ) (d : Delivers c before node ring inst) where
    abbrev rings : List RingId
    rings = d.partition.rings

    fits : has_rings rings d.tuple ≡ true
    fits = rings_fit m rings d.tuple d.reached.to

    is_valid : is_valid_tuple m d.tuple ≡ true
    is_valid = (split_and (has_rings rings d.tuple) (is_valid_tuple m d.tuple) d.reached.to).1

    below_tuple : (q : Place) → IsBelow q (stood d.partition before) → IsBelow q d.tuple
    below_tuple q b = below_later rings (stood d.partition before) d.tuple q (rings_fit m rings (stood d.partition before) d.reached.from) fits d.reached.after b

    own_place : place_of (next_place m d.tuple) ≡ place_with ring inst
    own_place = ap (λ (x : RingId × ℕ). place_of x) d.next

    comes_after : AllByRecursion (λ (q : Place). IsTrue (place_lt m q (place_with ring inst))) (delivered node.0 before)
    comes_after =
        all_map (λ (q : Place). IsBelow q (stood d.partition before)) (λ (q : Place). IsTrue (place_lt m q (place_with ring inst))) (delivered node.0 before)
        (λ q b. subst (λ (p : Place). IsTrue (place_lt m q p)) own_place (before_next m d.tuple q is_valid (below_tuple q b))) (kept.1 d.partition d.replica)

    moved : moved_past (ring, inst) (tuple_at m rings (place_with ring inst)) ≡ past m d.tuple
    moved =
        ap (λ (k : List (RingId × ℕ)). moved_past (ring, inst) k) (same_tuple c before valid node d.partition d.replica ring inst d.tuple d.next d.reached.to)
        ∙ ap (λ (x : RingId × ℕ). moved_past x d.tuple) (sym d.next)

    stays_below : AllByRecursion (λ (q : Place). IsBelow q (moved_past (ring, inst) (tuple_at m rings (place_with ring inst)))) (place_with ring inst ∷ delivered node.0 before)
    stays_below = subst (λ (k : List (RingId × ℕ)). AllByRecursion (λ (q : Place). IsBelow q k) (place_with ring inst ∷ delivered node.0 before)) (sym moved) (
      subst (λ (p : Place). IsBelow p (past m d.tuple)) own_place (next_below m rings d.tuple fits (next_in m rings d.tuple (some_rings c before valid node d.partition d.replica) fits)),
      all_map (λ (q : Place). IsBelow q (stood d.partition before)) (λ (q : Place). IsBelow q (past m d.tuple)) (delivered node.0 before)
          (λ q b. below_stays m rings d.tuple q fits is_valid (below_tuple q b)) (kept.1 d.partition d.replica),
    )

  -- a line that moves no position
  quiet_kept : (before : List Line) (b : Bool) → Kept before →
      AreInOrder m (if b then delivered node.0 before else delivered node.0 before)
      × ((p : PartitionTable) → partition_of c.partitions node ≡ Some p →
      AllByRecursion (λ (q : Place). IsBelow q (if b then stood p before else stood p before)) (if b then delivered node.0 before else delivered node.0 before))
  quiet_kept before true kept = kept
  quiet_kept before false kept = kept

  one_more : (before : List Line) (line : Line) → IsFaithfulLine c before line → Kept before → Kept (line ∷ before)
  one_more before (Deliver other ring inst) own kept = go (other.0 == node.0) refl
    where
      mine : (other.0 == node.0) ≡ true → Delivers c before node ring inst
      mine e = let d : Delivers c before other ring inst = own rule.F2 in subst (λ (x : NodeId). Delivers c before x ring inst) (node_same other node (same_number other.0 node.0 e)) d

      at_own : (d : Delivers c before node ring inst) (p : PartitionTable) → partition_of c.partitions node ≡ Some p →
          AllByRecursion (λ (q : Place). IsBelow q (moved_past (ring, inst) (tuple_at m p.rings (place_with ring inst)))) (place_with ring inst ∷ delivered node.0 before)
      at_own d p e =
          subst (λ (x : PartitionTable). AllByRecursion (λ (q : Place). IsBelow q (moved_past (ring, inst) (tuple_at m x.rings (place_with ring inst)))) (place_with ring inst ∷ delivered node.0 before))
          (some_same d.partition p (sym d.replica ∙ e)) (stays_below before kept ring inst d)

      go : (b : Bool) → (other.0 == node.0) ≡ b →
          AreInOrder m (if b then place_with ring inst ∷ delivered node.0 before else delivered node.0 before)
          × ((p : PartitionTable) → partition_of c.partitions node ≡ Some p →
          AllByRecursion (λ (q : Place). IsBelow q (if b then moved_past (ring, inst) (tuple_at m p.rings (place_with ring inst)) else stood p before))
          (if b then place_with ring inst ∷ delivered node.0 before else delivered node.0 before))
      go true e = ((comes_after before kept ring inst (mine e), kept.0), λ p f. at_own (mine e) p f)
      go false e = kept
  one_more before (Restore other printed) own kept = go (other.0 == node.0)
    where
      go : (b : Bool) →
          AreInOrder m (if b then [] else delivered node.0 before)
          × ((p : PartitionTable) → partition_of c.partitions node ≡ Some p →
          AllByRecursion (λ (q : Place). IsBelow q (if b then moves m p.rings (Restore other printed) (stood p before) else stood p before)) (if b then [] else delivered node.0 before))
      go true = (tt, λ p e. tt)
      go false = kept
  one_more before (Begin other epoch attempt printed) own kept = quiet_kept before (other.0 == node.0) kept
  one_more before (Chose other epoch attempt printed from) own kept = quiet_kept before (other.0 == node.0) kept
  one_more before (Saved other printed) own kept = quiet_kept before (other.0 == node.0) kept
  one_more before (Down other cause) own kept = quiet_kept before (other.0 == node.0) kept
  one_more before (Up other epoch) own kept = quiet_kept before (other.0 == node.0) kept
  one_more before line own kept = kept

  all_kept : (before : List Line) → AreFaithful c before → Kept before
  all_kept [] h = (tt, λ p e. tt)
  all_kept (line ∷ before) h = one_more before line h.0 (all_kept before h.1)

  pub in_order : (before : List Line) → AreFaithful c before → AreInOrder m (delivered node.0 before)
  in_order before h = (all_kept before h).0

-- ---- answers

module _ (c : Config) (before : List Line) (client : ClientId) (seq : ℕ) where
  ordered_at : (place : Place) (entry : Entry) → asked_in client seq (entries_at_place (learned before) place) ≡ Some entry → IsOrdered before client seq
  ordered_at place entry asked = go (book_of (learned before) place.ring place.inst) refl asked
    where
      go : (v : Option Value) → book_of (learned before) place.ring place.inst ≡ v → asked_in client seq (known_entries v) ≡ Some entry → IsOrdered before client seq
      go None e asked = absurd (nothing entry asked)
      go (Some Skip) e asked = absurd (nothing entry asked)
      go (Some (Batch batch)) e asked = record { place = place; batch = batch; holds = book_learned before place.ring place.inst ∙ e; entry = entry; asked = asked }

  pub answered_is_ordered : (reply : List ℕ) → Answers c before client seq reply → IsOrdered before client seq
  unfolding answer_of
  answered_is_ordered reply a = by_place (place_of_asked (round_sizes c) (learned before) client seq) a.answer
    where
      by_entry : (place : Place) (o : Option Entry) → asked_in client seq (entries_at_place (learned before) place) ≡ o →
          answer_at c (learned before) place (before_asked client seq (entries_at_place (learned before) place)) o ≡ Some reply → IsOrdered before client seq
      by_entry place None e told = absurd (nothing reply told)
      by_entry place (Some entry) e told = ordered_at place entry e

      by_place : (o : Option Place) → answer_from c (learned before) client seq o ≡ Some reply → IsOrdered before client seq
      by_place None told = absurd (nothing reply told)
      by_place (Some place) told = by_entry place (asked_in client seq (entries_at_place (learned before) place)) refl told

pub ordered_stays : (before : List Line) (client : ClientId) (seq : ℕ) (line : Line) → IsOrdered before client seq → IsOrdered (line ∷ before) client seq
ordered_stays before client seq line o = record { place = o.place; batch = o.batch; holds = book_more line before o.place.ring o.place.inst (Batch o.batch) o.holds; entry = o.entry; asked = o.asked }
