-- Who answered and who told: two groups of a partition's replicas share one.
use Rattle.std.proofs.Common.{◌≡◌, ℕ, suc, ◌+◌, ◌<◌, ◌≤◌, inl, inr, Bool, true, false, List, [], ◌∷◌, ◌++◌, Some, refl, sym, ◌∙◌, ap, subst, arith, true≢false, le_refl}
use Rattle.std.specs.Prelude.{◌==◌, nat_eq, nat_le, if◌then◌else◌, not, ◌&&◌, ◌||◌, length, cond, count_by}
use Rattle.std.specs.List.{AllByRecursion}
use Rattle.std.proofs.lemmas.Bool.Decides.{nat_tests}
use Rattle.std.proofs.lemmas.List.Sums.{sum_by-cons}
use Rattle.mrp_types.specs.declared.id.NodeId.{NodeId}
use Rattle.mrp_types.specs.declared.id.RingId.{RingId}
use Rattle.mrp_config.specs.Config.{has_node, has_ring, partition_of, subscribers_of}
use Rattle.mrp_config.specs.declared.tables.PartitionTable.{PartitionTable}
use Rattle.quorums.specs.Groups.{Has}
use Rattle.protocol.specs.Trimming.{has_answered}
use Rattle.faithful.specs.Scanners.{entry_of, Reaches, some_reaches}
use Rattle.faithful.specs.Answers.{AreDifferent, Both}
use Rattle.faithful.proofs.Ordering.{or_false, or_true}
use Rattle.quorums.proofs.Each.{mapped}

-- ---- lists

pub all_has : {T : Type 0} (P : T → Type 0) (xs : List T) (x : T) → AllByRecursion P xs → Has xs x → P x
all_has P [] x all h = absurd h
all_has P (y ∷ ys) x all (inl e) = subst (λ z. P z) (sym e) all.0
all_has P (y ∷ ys) x all (inr h) = all_has P ys x all.1 h

pub count_cons : {T : Type 0} (f : T → Bool) (x : T) (xs : List T) → count_by f (x ∷ xs) ≡ cond (f x) 1 0 + count_by f xs
count_cons f x xs = sum_by-cons (λ y. cond (f y) 1 0) x xs

pub share : (f g : NodeId → Bool) (nodes : List NodeId) → length nodes < count_by f nodes + count_by g nodes → Both f g nodes
share f g [] less = absurd (omega arith)
share f g (node ∷ nodes) less =
    let len : length (node ∷ nodes) ≡ suc (length nodes) = refl in
    let a : count_by f (node ∷ nodes) ≡ cond (f node) 1 0 + count_by f nodes = count_cons f node nodes in
    let b : count_by g (node ∷ nodes) ≡ cond (g node) 1 0 + count_by g nodes = count_cons g node nodes in
    let more : suc (length nodes) < (cond (f node) 1 0 + count_by f nodes) + (cond (g node) 1 0 + count_by g nodes) = omega arith in
    go (f node) (g node) refl refl more (λ l. share f g nodes l)
  where
    later : Both f g nodes → Both f g (node ∷ nodes)
    later b = record { node = b.node; there = inr b.there; in_first = b.in_first; in_second = b.in_second }

    go : (s t : Bool) → f node ≡ s → g node ≡ t → suc (length nodes) < (cond s 1 0 + count_by f nodes) + (cond t 1 0 + count_by g nodes)
        → (length nodes < count_by f nodes + count_by g nodes → Both f g nodes) → Both f g (node ∷ nodes)
    go true true e d less rest = record { node = node; there = inl refl; in_first = e; in_second = d }
    go true false e d less rest = later (rest (omega arith))
    go false true e d less rest = later (rest (omega arith))
    go false false e d less rest = later (rest (omega arith))

pub count_le : {T : Type 0} (f g : T → Bool) → ((x : T) → f x ≡ true → g x ≡ true) → (xs : List T) → count_by f xs ≤ count_by g xs
count_le f g sub [] = le_refl 0
count_le f g sub (x ∷ xs) =
    let a : count_by f (x ∷ xs) ≡ cond (f x) 1 0 + count_by f xs = count_cons f x xs in
    let b : count_by g (x ∷ xs) ≡ cond (g x) 1 0 + count_by g xs = count_cons g x xs in
    let le : cond (f x) 1 0 + count_by f xs ≤ cond (g x) 1 0 + count_by g xs = go (f x) (g x) (sub x) (count_le f g sub xs) in
    omega arith
  where
    go : (s t : Bool) → (s ≡ true → t ≡ true) → count_by f xs ≤ count_by g xs → cond s 1 0 + count_by f xs ≤ cond t 1 0 + count_by g xs
    go true true h le = omega arith
    go true false h le = absurd (true≢false (sym (h refl)))
    go false true h le = omega arith
    go false false h le = omega arith

pub all_count : {T : Type 0} (f : T → Bool) (xs : List T) → AllByRecursion (λ x. f x ≡ true) xs → count_by f xs ≡ length xs
all_count f [] all = refl
all_count f (x ∷ xs) all =
    let e : cond {A = ℕ} (f x) 1 0 ≡ 1 = ap (λ (b : Bool). cond {A = ℕ} b 1 0) all.0 in
    let rest : count_by f xs ≡ length xs = all_count f xs all.1 in
    let len : length (x ∷ xs) ≡ suc (length xs) = refl in
    let a : count_by f (x ∷ xs) ≡ cond (f x) 1 0 + count_by f xs = count_cons f x xs in
    omega arith

same_num : (a b : ℕ) → (a == b) ≡ true → a ≡ b
same_num a b e = grind (arith, nat_tests)

-- without one that passes, one less passes
count_without : (test : ℕ → Bool) (r : ℕ) (nodes : List NodeId) → has_node nodes r ≡ true → test r ≡ true
    → suc (count_by (λ (n : NodeId). test n.0 && not (n.0 == r)) nodes) ≤ count_by (λ (n : NodeId). test n.0) nodes
count_without test r [] has t = absurd (true≢false (sym has))
count_without test r (node ∷ nodes) has t =
    let a : count_by (λ (n : NodeId). test n.0) (node ∷ nodes) ≡ cond (test node.0) 1 0 + all = count_cons (λ (n : NodeId). test n.0) node nodes in
    let b : count_by (λ (n : NodeId). test n.0 && not (n.0 == r)) (node ∷ nodes) ≡ cond (test node.0 && not (node.0 == r)) 1 0 + less =
    count_cons (λ (n : NodeId). test n.0 && not (n.0 == r)) node nodes in
    let le : suc (cond (test node.0 && not (node.0 == r)) 1 0 + less) ≤ cond (test node.0) 1 0 + all = go (node.0 == r) refl has (λ h. count_without test r nodes h t) in
    omega arith
  where
    less : ℕ
    less = count_by (λ (n : NodeId). test n.0 && not (n.0 == r)) nodes

    all : ℕ
    all = count_by (λ (n : NodeId). test n.0) nodes

    below : less ≤ all
    below = count_le (λ (n : NodeId). test n.0 && not (n.0 == r)) (λ (n : NodeId). test n.0) (λ n h. first (test n.0) (not (n.0 == r)) h) nodes
      where
        first : (a b : Bool) → (a && b) ≡ true → a ≡ true
        first true b h = refl
        first false b h = h

    and_true : (b : Bool) → (b && true) ≡ b
    and_true true = refl
    and_true false = refl

    and_false : (b : Bool) → (b && false) ≡ false
    and_false true = refl
    and_false false = refl

    go : (b : Bool) → (node.0 == r) ≡ b → (if b then true else has_node nodes r) ≡ true → (has_node nodes r ≡ true → suc less ≤ all)
        → suc (cond (test node.0 && not (node.0 == r)) 1 0 + less) ≤ cond (test node.0) 1 0 + all
    go true e h rest =
        let under : less ≤ all = below in
        let one : cond {A = ℕ} (test node.0) 1 0 ≡ 1 = ap (λ (b : Bool). cond {A = ℕ} b 1 0) (ap test (same_num node.0 r e) ∙ t) in
        let none : cond {A = ℕ} (test node.0 && not (node.0 == r)) 1 0 ≡ 0 = ap (λ (b : Bool). cond {A = ℕ} (test node.0 && not b) 1 0) e ∙ ap (λ (b : Bool). cond {A = ℕ} b 1 0) (and_false (test node.0)) in
        omega arith
    go false e h rest =
        let same : cond {A = ℕ} (test node.0 && not (node.0 == r)) 1 0 ≡ cond {A = ℕ} (test node.0) 1 0 = ap (λ b. cond {A = ℕ} (test node.0 && not b) 1 0) e ∙ ap (λ (b : Bool). cond {A = ℕ} b 1 0) (and_true (test node.0)) in
        let le : suc less ≤ all = rest h in
        omega arith

-- as many different nodes that answered, and are among these and pass, as pass among these at most
pub different_count : {T : Type 0} (nodes : List NodeId) (test : ℕ → Bool) (answers : List (NodeId × T)) → AreDifferent answers
    → AllByRecursion (λ (answer : NodeId × T). has_node nodes answer.0.0 ≡ true → test answer.0.0 ≡ true) answers
    → count_by (λ (answer : NodeId × T). has_node nodes answer.0.0) answers ≤ count_by (λ (n : NodeId). test n.0) nodes
different_count nodes test [] different all = omega arith
different_count {T} nodes test (answer ∷ answers) different all =
    let a : count_by (λ (other : NodeId × T). has_node nodes other.0.0) (answer ∷ answers) ≡ cond (has_node nodes answer.0.0) 1 0 + count =
    count_cons (λ (other : NodeId × T). has_node nodes other.0.0) answer answers in
    let le : cond (has_node nodes answer.0.0) 1 0 + count ≤ count_by (λ (n : NodeId). test n.0) nodes =
    go (has_node nodes answer.0.0) refl (λ t a. different_count nodes t answers different.1 a) in
    omega arith
  where
    count : ℕ
    count = count_by (λ (other : NodeId × T). has_node nodes other.0.0) answers

    others : (rest : List (NodeId × T)) → has_answered answer.0 rest ≡ false → AllByRecursion (λ (other : NodeId × T). has_node nodes other.0.0 ≡ true → test other.0.0 ≡ true) rest
        → AllByRecursion (λ (other : NodeId × T). has_node nodes other.0.0 ≡ true → (test other.0.0 && not (other.0.0 == answer.0.0)) ≡ true) rest
    others [] none a = tt
    others (other ∷ rest) none a =
        let s = or_false (other.0.0 == answer.0.0) (has_answered answer.0 rest) none in
        (λ h. rw (a.0 h) (rw s.0 refl), others rest s.1 a.1)

    go : (b : Bool) → has_node nodes answer.0.0 ≡ b
        → ((t : ℕ → Bool) → AllByRecursion (λ (other : NodeId × T). has_node nodes other.0.0 ≡ true → t other.0.0 ≡ true) answers → count ≤ count_by (λ (n : NodeId). t n.0) nodes)
        → cond (has_node nodes answer.0.0) 1 0 + count ≤ count_by (λ (n : NodeId). test n.0) nodes
    go true e rest =
        let less : count ≤ count_by (λ (n : NodeId). test n.0 && not (n.0 == answer.0.0)) nodes = rest (λ n. test n && not (n == answer.0.0)) (others answers different.0 all.1) in
        let one : suc (count_by (λ (n : NodeId). test n.0 && not (n.0 == answer.0.0)) nodes) ≤ count_by (λ (n : NodeId). test n.0) nodes = count_without test answer.0.0 nodes e (all.0 e) in
        let head : cond {A = ℕ} (has_node nodes answer.0.0) 1 0 ≡ 1 = ap (λ (b : Bool). cond {A = ℕ} b 1 0) e in
        omega arith
    go false e rest =
        let head : cond {A = ℕ} (has_node nodes answer.0.0) 1 0 ≡ 0 = ap (λ (b : Bool). cond {A = ℕ} b 1 0) e in
        let le : count ≤ count_by (λ (n : NodeId). test n.0) nodes = rest test all.1 in
        omega arith

-- ---- who answered

pub record AnswerOf {T : Type 0} (P : NodeId × T → Type 0) (node : NodeId) : Type 0 where
  pub answer : NodeId × T
  pub same : answer.0.0 ≡ node.0
  pub holds : P answer

pub answer_of : {T : Type 0} (P : NodeId × T → Type 0) (node : NodeId) (answers : List (NodeId × T)) → AllByRecursion P answers → has_answered node answers ≡ true → AnswerOf P node
answer_of P node [] all h = absurd (true≢false (sym h))
answer_of P node (answer ∷ answers) all h = elim (or_true (answer.0.0 == node.0) (has_answered node answers) h) [
  | inl here ↦ record { answer = answer; same = same_num answer.0.0 node.0 here; holds = all.0 }
  | inr there ↦ answer_of P node answers all.1 there
]

-- each of them did
pub all_answered : {T : Type 0} (answers : List (NodeId × T)) → AllByRecursion (λ (answer : NodeId × T). has_answered answer.0 answers ≡ true) answers
all_answered [] = tt
all_answered {T} (answer ∷ answers) = (
  rw (same answer.0.0) refl,
  mapped (λ (other : NodeId × T). has_answered other.0 answers ≡ true)
      (λ (other : NodeId × T). has_answered other.0 (answer ∷ answers) ≡ true) (λ other h. later (answer.0.0 == other.0.0) (has_answered other.0 answers) h) answers (all_answered answers),
)
  where
    same : (x : ℕ) → nat_eq x x ≡ true
    same x = grind (arith, nat_tests)

    later : (a b : Bool) → b ≡ true → (a || b) ≡ true
    later true b e = refl
    later false b e = e

-- one answer more, of a node that hasn't answered
pub different_more : {T : Type 0} (answers : List (NodeId × T)) (node : NodeId) (t : T) → AreDifferent answers → has_answered node answers ≡ false → AreDifferent (answers ++ (node, t) ∷ [])
different_more [] node t d none = (refl, tt)
different_more {T} (answer ∷ answers) node t d none =
    let s = or_false (answer.0.0 == node.0) (has_answered node answers) none in
    (still answers d.0, different_more answers node t d.1 s.1)
  where
    flip : (a b : ℕ) → (a == b) ≡ false → (b == a) ≡ false
    flip a b e = grind (arith, nat_tests)

    still : (rest : List (NodeId × T)) → has_answered answer.0 rest ≡ false → has_answered answer.0 (rest ++ (node, t) ∷ []) ≡ false
    still [] e = rw (flip answer.0.0 node.0 (or_false (answer.0.0 == node.0) (has_answered node answers) none).0) refl
    still (other ∷ rest) e =
        let s = or_false (other.0.0 == answer.0.0) (has_answered answer.0 rest) e in
        rw s.0 (still rest s.1)

-- ---- entries

pub entry_reaches : (rings : List RingId) (ring : RingId) (xs ys : List ℕ) → Reaches xs ys → entry_of rings ring ys ≤ entry_of rings ring xs
entry_reaches [] ring xs ys r = le_refl 0
entry_reaches (g ∷ rings) ring [] [] r = le_refl 0
entry_reaches (g ∷ rings) ring [] (y ∷ ys) r = absurd r
entry_reaches (g ∷ rings) ring (x ∷ xs) [] r = absurd r
entry_reaches (g ∷ rings) ring (x ∷ xs) (y ∷ ys) r = go (g.0 == ring.0) (entry_reaches rings ring xs ys r.1)
  where
    go : (b : Bool) → entry_of rings ring ys ≤ entry_of rings ring xs → (if b then y else entry_of rings ring ys) ≤ (if b then x else entry_of rings ring xs)
    go true le = r.0
    go false le = le

pub record SomeReaches (rings : List RingId) (ring : RingId) (inst : ℕ) (tuples : List (List ℕ)) : Type 0 where
  pub tuple : List ℕ
  pub there : Has tuples tuple
  pub reaches : inst ≤ entry_of rings ring tuple

pub some_reaches_is : (rings : List RingId) (ring : RingId) (inst : ℕ) (tuples : List (List ℕ)) → some_reaches rings ring inst tuples ≡ true → SomeReaches rings ring inst tuples
some_reaches_is rings ring inst [] h = absurd (true≢false (sym h))
some_reaches_is rings ring inst (tuple ∷ tuples) h = go (nat_le inst (entry_of rings ring tuple)) refl h (λ t. some_reaches_is rings ring inst tuples t)
  where
    go : (b : Bool) → nat_le inst (entry_of rings ring tuple) ≡ b → (if b then true else some_reaches rings ring inst tuples) ≡ true
        → (some_reaches rings ring inst tuples ≡ true → SomeReaches rings ring inst tuples) → SomeReaches rings ring inst (tuple ∷ tuples)
    go true e h rest = record { tuple = tuple; there = inl refl; reaches = grind (arith, nat_tests) }
    go false e h rest = let s = rest h in record { tuple = s.tuple; there = inr s.there; reaches = s.reaches }

pub is_some_reaches : (rings : List RingId) (ring : RingId) (inst : ℕ) (tuples : List (List ℕ)) → SomeReaches rings ring inst tuples → some_reaches rings ring inst tuples ≡ true
is_some_reaches rings ring inst tuples s = found tuples s.there
  where
    test : nat_le inst (entry_of rings ring s.tuple) ≡ true
    test = let r : inst ≤ entry_of rings ring s.tuple = s.reaches in grind (arith, nat_tests)

    found : (ts : List (List ℕ)) → Has ts s.tuple → some_reaches rings ring inst ts ≡ true
    found [] h = absurd h
    found (t ∷ ts) (inl e) = subst (λ u. (if nat_le inst (entry_of rings ring u) then true else some_reaches rings ring inst ts) ≡ true) e (rw test refl)
    found (t ∷ ts) (inr h) = go (nat_le inst (entry_of rings ring t)) (found ts h)
      where
        go : (b : Bool) → some_reaches rings ring inst ts ≡ true → (if b then true else some_reaches rings ring inst ts) ≡ true
        go true e = refl
        go false e = e

-- ---- partitions

pub record PartitionThere (partitions : List PartitionTable) (node : NodeId) (p : PartitionTable) : Type 0 where
  pub there : Has partitions p
  pub replica : has_node p.replicas node.0 ≡ true

pub partition_there : (partitions : List PartitionTable) (node : NodeId) (p : PartitionTable) → partition_of partitions node ≡ Some p → PartitionThere partitions node p
partition_there [] node p e = absurd (cc)
partition_there (q ∷ partitions) node p e = go (has_node q.replicas node.0) refl e (λ d. partition_there partitions node p d)
  where
    go : (b : Bool) → has_node q.replicas node.0 ≡ b → (if b then Some q else partition_of partitions node) ≡ Some p
        → (partition_of partitions node ≡ Some p → PartitionThere partitions node p) → PartitionThere (q ∷ partitions) node p
    go true h e rest =
        let same : p ≡ q = cc in
        record { there = inl same; replica = subst (λ (r : PartitionTable). has_node r.replicas node.0 ≡ true) (sym same) h }
    go false h e rest = let r = rest e in record { there = inr r.there; replica = r.replica }

pub subscribed : (partitions : List PartitionTable) (ring : RingId) (p : PartitionTable) → Has partitions p → has_ring p.rings ring.0 ≡ true → Has (subscribers_of partitions ring) p
subscribed [] ring p h s = absurd h
subscribed (q ∷ partitions) ring p (inl e) s =
    let t : has_ring q.rings ring.0 ≡ true = subst (λ (r : PartitionTable). has_ring r.rings ring.0 ≡ true) e s in
    rw t (inl e)
subscribed (q ∷ partitions) ring p (inr h) s = go (has_ring q.rings ring.0) (subscribed partitions ring p h s)
  where
    go : (b : Bool) → Has (subscribers_of partitions ring) p → Has (if b then q ∷ subscribers_of partitions ring else subscribers_of partitions ring) p
    go true there = inr there
    go false there = there
