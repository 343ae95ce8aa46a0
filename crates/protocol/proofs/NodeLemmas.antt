-- Nodes by id, and the members of a ring.
use Rattle.std.proofs.Common.{arith, ◌≡◌, ◌≤◌, ◌⊎◌, inl, inr, ℕ, suc, ◌+◌, ◌==◌, nat_lt, Bool, true, false, if◌then◌else◌, List, [], ◌∷◌, ◌++◌, length, take, drop, refl, sym, ap, true≢false, ◌∙◌, subst}
use Rattle.std.specs.Prelude.{not, ◌||◌, filter, cond}
use Rattle.std.proofs.lemmas.Bool.{cases_eq}
use Rattle.mrp_types.specs.declared.id.NodeId.{NodeId}
use Rattle.mrp_config.specs.Config.{has_node}
use Rattle.mrp_config.specs.declared.tables.PartitionTable.{PartitionTable}
use Rattle.plain_model.proofs.TupleOrder.{same_number, other_number}
use Rattle.protocol.specs.Rings.{with_node, by_id, replicas_of, members_of}
use Rattle.protocol.specs.Meaning.{times, AreByIdFrom, AreIncreasingFrom}

-- ---- the same nodes

abbrev once : NodeId → NodeId → ℕ
once node other = if other.0 == node.0 then 1 else 0

times_with : (node new : NodeId) (nodes : List NodeId) → times node (with_node new nodes) ≡ once node new + times node nodes
times_with node new [] = refl
times_with node new (other ∷ others) = by (nat_lt new.0 other.0) (times_with node new others)
  where
    by : (t : Bool) → times node (with_node new others) ≡ once node new + times node others →
        times node (if t then new ∷ other ∷ others else other ∷ with_node new others) ≡ once node new + (once node other + times node others)
    by true later = refl
    by false later = omega arith

pub same_times : (node : NodeId) (nodes : List NodeId) → times node (by_id nodes) ≡ times node nodes
same_times node [] = refl
same_times node (other ∷ nodes) = times_with node other (by_id nodes) ∙ ap (λ n. once node other + n) (same_times node nodes)

-- ---- their order

lower_from : (k j : ℕ) (nodes : List NodeId) → j ≤ k → AreByIdFrom k nodes → AreByIdFrom j nodes
lower_from k j [] le are = tt
lower_from k j (node ∷ nodes) le are = let here : k ≤ node.0 = are.0 in (omega arith, are.1)

with_order : (k : ℕ) (new : NodeId) (nodes : List NodeId) → k ≤ new.0 → AreByIdFrom k nodes → AreByIdFrom k (with_node new nodes)
with_order k new [] le are = (le, tt)
with_order k new (other ∷ others) le are = by (nat_lt new.0 other.0) refl (λ above. with_order other.0 new others above are.1)
  where
    less : (i j : ℕ) → nat_lt i j ≡ true → i ≤ j
    less i j e = grind arith

    more : (i j : ℕ) → nat_lt i j ≡ false → j ≤ i
    more i j e = grind arith

    by : (t : Bool) → nat_lt new.0 other.0 ≡ t → (other.0 ≤ new.0 → AreByIdFrom other.0 (with_node new others)) → AreByIdFrom k (if t then new ∷ other ∷ others else other ∷ with_node new others)
    by true e later = (le, (less new.0 other.0 e, are.1))
    by false e later = (are.0, later (more new.0 other.0 e))

pub by_id_order : (nodes : List NodeId) → AreByIdFrom 0 (by_id nodes)
by_id_order [] = tt
by_id_order (node ∷ nodes) = with_order 0 node (by_id nodes) (omega arith) (by_id_order nodes)

one_itself : (node : NodeId) → once node node ≡ 1
one_itself node = by (node.0 == node.0) refl
  where
    by : (t : Bool) → (node.0 == node.0) ≡ t → ◌≡◌ {A = ℕ} (if t then 1 else 0) 1
    by true e = refl
    by false e = absurd (other_number node.0 node.0 e refl)

one_of_same : (node other : NodeId) → node.0 ≡ other.0 → once node other ≡ 1
one_of_same node other same = by (other.0 == node.0) refl
  where
    by : (t : Bool) → (other.0 == node.0) ≡ t → ◌≡◌ {A = ℕ} (if t then 1 else 0) 1
    by true e = refl
    by false e = absurd (other_number other.0 node.0 e (sym same))

strictly : (k : ℕ) (nodes : List NodeId) → AreByIdFrom k nodes → ((node : NodeId) → times node nodes ≤ 1) → AreIncreasingFrom k nodes
strictly k [] are few = tt
strictly k (node ∷ []) are few = (are.0, tt)
strictly k (node ∷ next ∷ nodes) are few = (are.0, strictly (suc node.0) (next ∷ nodes) (apart (cases_eq node.0 next.0), are.1.1) fewer)
  where
    not_twice : (a b rest : ℕ) → a ≡ 1 → b ≡ 1 → a + (b + rest) ≤ 1 → ⊥
    not_twice a b rest ea eb le = omega arith

    apart : (node.0 ≡ next.0) ⊎ (node.0 ≡ next.0 → ⊥) → suc node.0 ≤ next.0
    apart (inl same) = absurd (not_twice (once node node) (once node next) (times node nodes) (one_itself node) (one_of_same node next same) (few node))
    apart (inr differ) = let le : node.0 ≤ next.0 = are.1.0 in omega arith

    without : (a rest : ℕ) → a + rest ≤ 1 → rest ≤ 1
    without a rest le = omega arith

    fewer : (other : NodeId) → times other (next ∷ nodes) ≤ 1
    fewer other = without (once other node) (times other (next ∷ nodes)) (few other)

pub by_id_increasing : (nodes : List NodeId) → ((node : NodeId) → times node nodes ≤ 1) → AreIncreasingFrom 0 (by_id nodes)
by_id_increasing nodes few = strictly 0 (by_id nodes) (by_id_order nodes) (λ node. subst (λ (n : ℕ). n ≤ 1) (sym (same_times node nodes)) (few node))

-- ---- whether a list has a node

either : Bool → Bool → Bool
either t rest = if t then true else rest

has_with : (id : ℕ) (new : NodeId) (nodes : List NodeId) → has_node (with_node new nodes) id ≡ (if new.0 == id then true else has_node nodes id)
has_with id new [] = refl
has_with id new (other ∷ others) = by (nat_lt new.0 other.0) (has_with id new others)
  where
    turn : (a b r : Bool) → (if a then true else (if b then true else r)) ≡ (if b then true else (if a then true else r))
    turn true true r = refl
    turn true false r = refl
    turn false true r = refl
    turn false false r = refl

    by : (t : Bool) → has_node (with_node new others) id ≡ (if new.0 == id then true else has_node others id) →
        has_node (if t then new ∷ other ∷ others else other ∷ with_node new others) id ≡ (if new.0 == id then true else (if other.0 == id then true else has_node others id))
    by true later = refl
    by false later = ap (λ (r : Bool). if other.0 == id then true else r) later ∙ turn (other.0 == id) (new.0 == id) (has_node others id)

has_by_id : (id : ℕ) (nodes : List NodeId) → has_node (by_id nodes) id ≡ has_node nodes id
has_by_id id [] = refl
has_by_id id (node ∷ nodes) = has_with id node (by_id nodes) ∙ ap (λ (r : Bool). if node.0 == id then true else r) (has_by_id id nodes)

has_append : (id : ℕ) (xs ys : List NodeId) → has_node (xs ++ ys) id ≡ (has_node xs id || has_node ys id)
has_append id [] ys = refl
has_append id (x ∷ xs) ys = by (x.0 == id) (has_append id xs ys)
  where
    by : (t : Bool) → has_node (xs ++ ys) id ≡ (has_node xs id || has_node ys id) →
        (if t then true else has_node (xs ++ ys) id) ≡ ((if t then true else has_node xs id) || has_node ys id)
    by true later = refl
    by false later = later

abbrev is_no : List NodeId → NodeId → Bool
is_no acceptors node = not (has_node acceptors node.0)

-- a node that is no acceptor stands among the others where it stood before
has_others : (acceptors : List NodeId) (id : ℕ) (nodes : List NodeId) → has_node acceptors id ≡ false →
    has_node (filter (λ (node : NodeId). not (has_node acceptors node.0)) nodes) id ≡ has_node nodes id
has_others acceptors id [] none = refl
has_others acceptors id (node ∷ nodes) none = by (not (has_node acceptors node.0)) refl (node.0 == id) refl (has_others acceptors id nodes none)
  where
    by : (p : Bool) → not (has_node acceptors node.0) ≡ p → (t : Bool) → (node.0 == id) ≡ t →
        has_node (filter (λ (node : NodeId). not (has_node acceptors node.0)) nodes) id ≡ has_node nodes id →
        has_node (cond p (node ∷ filter (λ (node : NodeId). not (has_node acceptors node.0)) nodes) (filter (λ (node : NodeId). not (has_node acceptors node.0)) nodes)) id
        ≡ (if node.0 == id then true else has_node nodes id)
    by true ep t et later = ap (λ (r : Bool). if node.0 == id then true else r) later
    by false ep true et later = absurd (true≢false (ap not (sym (ap (has_node acceptors) (same_number node.0 id et) ∙ none)) ∙ ep))
    by false ep false et later = later ∙ sym (ap (λ (t : Bool). if t then true else has_node nodes id) et)

-- an acceptor doesn't stand among the others
has_no_others : (acceptors : List NodeId) (id : ℕ) (nodes : List NodeId) → has_node acceptors id ≡ true →
    has_node (filter (λ (node : NodeId). not (has_node acceptors node.0)) nodes) id ≡ false
has_no_others acceptors id [] is = refl
has_no_others acceptors id (node ∷ nodes) is = by (not (has_node acceptors node.0)) refl (node.0 == id) refl (has_no_others acceptors id nodes is)
  where
    by : (p : Bool) → not (has_node acceptors node.0) ≡ p → (t : Bool) → (node.0 == id) ≡ t →
        has_node (filter (λ (node : NodeId). not (has_node acceptors node.0)) nodes) id ≡ false →
        has_node (cond p (node ∷ filter (λ (node : NodeId). not (has_node acceptors node.0)) nodes) (filter (λ (node : NodeId). not (has_node acceptors node.0)) nodes)) id ≡ false
    by false ep t et later = later
    by true ep true et later = absurd (true≢false (sym ep ∙ ap not (ap (has_node acceptors) (same_number node.0 id et) ∙ is)))
    by true ep false et later = ap (λ (t : Bool). if t then true else has_node (filter (λ (node : NodeId). not (has_node acceptors node.0)) nodes) id) et ∙ later

-- ---- members

take_front : (xs ys : List NodeId) → take (length xs) (xs ++ ys) ≡ xs
take_front [] ys = refl
take_front (x ∷ xs) ys = ap (λ (l : List NodeId). x ∷ l) (take_front xs ys)

drop_front : (xs ys : List NodeId) → drop (length xs) (xs ++ ys) ≡ ys
drop_front [] ys = refl
drop_front (x ∷ xs) ys = drop_front xs ys

abbrev others_of : List NodeId → List PartitionTable → List NodeId
others_of acceptors subscribers = by_id (filter (λ (node : NodeId). not (has_node acceptors node.0)) (replicas_of subscribers))

pub members_first : (acceptors : List NodeId) (subscribers : List PartitionTable) → take (length acceptors) (members_of acceptors subscribers) ≡ acceptors
unfolding members_of
members_first acceptors subscribers = take_front acceptors (others_of acceptors subscribers)

members_rest : (acceptors : List NodeId) (subscribers : List PartitionTable) → drop (length acceptors) (members_of acceptors subscribers) ≡ others_of acceptors subscribers
unfolding members_of
members_rest acceptors subscribers = drop_front acceptors (others_of acceptors subscribers)

pub members_order : (acceptors : List NodeId) (subscribers : List PartitionTable) → AreByIdFrom 0 (drop (length acceptors) (members_of acceptors subscribers))
members_order acceptors subscribers =
    subst (λ (nodes : List NodeId). AreByIdFrom 0 nodes) (sym (members_rest acceptors subscribers))
    (by_id_order (filter (λ (node : NodeId). not (has_node acceptors node.0)) (replicas_of subscribers)))

pub members_others : (acceptors : List NodeId) (subscribers : List PartitionTable) (node : NodeId) → has_node acceptors node.0 ≡ true →
    has_node (drop (length acceptors) (members_of acceptors subscribers)) node.0 ≡ false
members_others acceptors subscribers node is =
    ap (λ (nodes : List NodeId). has_node nodes node.0) (members_rest acceptors subscribers)
    ∙ has_by_id node.0 (filter (λ (node : NodeId). not (has_node acceptors node.0)) (replicas_of subscribers))
    ∙ has_no_others acceptors node.0 (replicas_of subscribers) is

pub members_all : (acceptors : List NodeId) (subscribers : List PartitionTable) (node : NodeId) →
    has_node (members_of acceptors subscribers) node.0 ≡ (has_node acceptors node.0 || has_node (replicas_of subscribers) node.0)
unfolding members_of
members_all acceptors subscribers node =
    has_append node.0 acceptors (others_of acceptors subscribers)
    ∙ ap (λ (r : Bool). has_node acceptors node.0 || r) (has_by_id node.0 (filter (λ (node : NodeId). not (has_node acceptors node.0)) (replicas_of subscribers)))
    ∙ by (has_node acceptors node.0) refl
  where
    by : (t : Bool) → has_node acceptors node.0 ≡ t →
        (t || has_node (filter (λ (node : NodeId). not (has_node acceptors node.0)) (replicas_of subscribers)) node.0) ≡ (t || has_node (replicas_of subscribers) node.0)
    by true e = refl
    by false e = has_others acceptors node.0 (replicas_of subscribers) e
