-- What one more answer says, and what all of them say.
use Rattle.std.proofs.Common.{arith, ◌≡◌, ℕ, ◌+◌, ◌<◌, ◌≤◌, ◌==◌, nat_le, nat_lt, min, ◌&&◌, ◌||◌, not, Bool, true, false, true≢false, if◌then◌else◌, List, [], ◌∷◌, ◌++◌, map, count_by, refl, sym, ◌∙◌, ap, subst, Option, Some, None}
use Rattle.std.proofs.lemmas.List.Sums.{sum_by-cons}
use Rattle.std.specs.List.{AllByRecursion, list_any, list_all}
use Rattle.mrp_types.specs.declared.id.NodeId.{NodeId}
use Rattle.mrp_types.specs.Members.{is_member}
use Rattle.mrp_types.specs.Seats.{AreDifferent, is_among, numbers_of_nodes}
use Rattle.mrp_config.specs.declared.tables.PartitionTable.{PartitionTable}
use Rattle.mrp_types.specs.declared.id.RingId.{RingId}
use Rattle.mrp_config.specs.Config.{has_node, has_ring, subscribers_of}
use Rattle.mrp_config.specs.Valid.{AreAtMost, IsPartition}
use Rattle.protocol.specs.Parts.{Ring, Round}
use Rattle.protocol.specs.Rings.{is_subscribed, replicas_of}
use Rattle.protocol.specs.Trimming.{has_answered, answered_of, have_quorums, least_of, least_above_last, least_where, is_answered, least, with_answer}
use Rattle.trim.specs.declared.subscribers.Subscriber.{Subscriber}
use Rattle.trim.specs.Quorums.{subscriber_of, IsOfNodes, is_of_one, has_quorum_of, have_quorums_of}
use Rattle.trim.specs.Rounds.{Trimming, lower, lowest_of, AreOnce, StandsFor}

-- ---- one more answer

pub answered_more : (node : NodeId) (answers : List (NodeId × ℕ)) (from : NodeId) (inst : ℕ) → has_answered node (answers ++ (from, inst) ∷ []) ≡ (has_answered node answers || (from.0 == node.0))
answered_more node [] from inst = last (from.0 == node.0)
  where
    last : (t : Bool) → (t || false) ≡ (false || t)
    last true = refl
    last false = refl
answered_more node (answer ∷ answers) from inst = by_first (answer.0.0 == node.0) (answered_more node answers from inst)
  where
    by_first : (t : Bool) → has_answered node (answers ++ (from, inst) ∷ []) ≡ (has_answered node answers || (from.0 == node.0)) →
        (t || has_answered node (answers ++ (from, inst) ∷ [])) ≡ ((t || has_answered node answers) || (from.0 == node.0))
    by_first true later = refl
    by_first false later = later

least_more : (first : ℕ) (answers : List (NodeId × ℕ)) (from : NodeId) (inst : ℕ) → least_of first (answers ++ (from, inst) ∷ []) ≡ min (least_of first answers) inst
least_more first [] from inst = refl
least_more first (answer ∷ answers) from inst = least_more (min first answer.1) answers from inst

pub lowest_more : (answers : List (NodeId × ℕ)) (from : NodeId) (inst : ℕ) → lowest_of (answers ++ (from, inst) ∷ []) ≡ Some (lower (lowest_of answers) inst)
lowest_more [] from inst = refl
lowest_more (answer ∷ answers) from inst = ap Some (least_more answer.1 answers from inst)

or_false : (t u : Bool) → (t || u) ≡ false → t ≡ false
or_false true u h = h
or_false false u h = refl

or_second : (t u : Bool) → (t || u) ≡ false → u ≡ false
or_second true u h = absurd (true≢false h)
or_second false u h = h

turned : (a b : ℕ) → (a == b) ≡ false → (b == a) ≡ false
turned a b h = grind arith

neither : (t u : Bool) → t ≡ false → u ≡ false → (t || u) ≡ false
neither true u h k = h
neither false u h k = k

pub once_more : (answers : List (NodeId × ℕ)) (from : NodeId) (inst : ℕ) → AreOnce answers → has_answered from answers ≡ false → AreOnce (answers ++ (from, inst) ∷ [])
once_more [] from inst once new = (refl, tt)
once_more (answer ∷ answers) from inst once new =
    let apart : (from.0 == answer.0.0) ≡ false = turned answer.0.0 from.0 (or_false (answer.0.0 == from.0) (has_answered from answers) new) in (
      answered_more answer.0 answers from inst ∙ neither (has_answered answer.0 answers) (from.0 == answer.0.0) once.0 apart,
      once_more answers from inst once.1 (or_second (answer.0.0 == from.0) (has_answered from answers) new),
    )

-- ---- nodes

pub any_node : (nodes : List NodeId) (n : ℕ) → list_any (λ (node : NodeId). node.0 == n) nodes ≡ has_node nodes n
any_node [] n = refl
any_node (node ∷ nodes) n = by_first (node.0 == n) (any_node nodes n)
  where
    by_first : (t : Bool) → list_any (λ (node : NodeId). node.0 == n) nodes ≡ has_node nodes n → (t || list_any (λ (node : NodeId). node.0 == n) nodes) ≡ (if t then true else has_node nodes n)
    by_first true later = refl
    by_first false later = later

has_node_among : (nodes : List NodeId) (n : ℕ) → has_node nodes n ≡ is_among n (numbers_of_nodes nodes)
has_node_among [] n = refl
has_node_among (node ∷ nodes) n = ap (λ t. if node.0 == n then true else t) (has_node_among nodes n)

has_node_append : (xs ys : List NodeId) (n : ℕ) → has_node (xs ++ ys) n ≡ (has_node xs n || has_node ys n)
has_node_append [] ys n = refl
has_node_append (x ∷ xs) ys n = by_first (x.0 == n) (has_node_append xs ys n)
  where
    by_first : (t : Bool) → has_node (xs ++ ys) n ≡ (has_node xs n || has_node ys n) → (if t then true else has_node (xs ++ ys) n) ≡ ((if t then true else has_node xs n) || has_node ys n)
    by_first true later = refl
    by_first false later = later

-- a replica of one of the subscribers
pub of_one : (node : NodeId) (ps : List PartitionTable) → is_of_one node (map subscriber_of ps) ≡ has_node (replicas_of ps) node.0
of_one node [] = refl
of_one node (p ∷ ps) = ap (λ t. has_node p.replicas node.0 || t) (of_one node ps) ∙ sym (has_node_append p.replicas (replicas_of ps) node.0)

low_node : (n : ℕ) (nodes : List NodeId) → AreAtMost 31 (numbers_of_nodes nodes) → has_node nodes n ≡ true → n < 32
low_node n [] low has = absurd (true≢false (sym has))
low_node n (node ∷ nodes) low has = by_test (node.0 == n) refl has (low_node n nodes low.1)
  where
    by_test : (t : Bool) → (node.0 == n) ≡ t → (if t then true else has_node nodes n) ≡ true → (has_node nodes n ≡ true → n < 32) → n < 32
    by_test true is has later = let same : node.0 ≡ n = grind arith in let most : node.0 ≤ 31 = low.0 in omega (arith, most, same)
    by_test false is has later = later has

pub low_of_one : (node : NodeId) (subscribers : List Subscriber) → AllByRecursion IsOfNodes subscribers → is_of_one node subscribers ≡ true → node.0 < 32
low_of_one node [] each is = absurd (true≢false (sym is))
low_of_one node (s ∷ subscribers) each is = by_test (has_node s.replicas node.0) refl is (low_of_one node subscribers each.1)
  where
    by_test : (t : Bool) → has_node s.replicas node.0 ≡ t → (t || is_of_one node subscribers) ≡ true → (is_of_one node subscribers ≡ true → node.0 < 32) → node.0 < 32
    by_test true has is later = low_node node.0 s.replicas each.0.low has
    by_test false has is later = later is

-- ---- answers of a partition

abbrev one_if : Bool → ℕ
one_if t = if t then 1 else 0

count_cons : {X : Type 0} (p : X → Bool) (x : X) (xs : List X) → count_by p (x ∷ xs) ≡ one_if (p x) + count_by p xs
count_cons p x xs = sum_by-cons (λ x. one_if (p x)) x xs

abbrev answered_by : List (NodeId × ℕ) → NodeId → Bool
answered_by answers node = has_answered node answers

none_answered : (replicas : List NodeId) → count_by (answered_by []) replicas ≡ 0
none_answered [] = refl
none_answered (r ∷ replicas) = let here = count_cons (answered_by []) r replicas in omega (arith, here, none_answered replicas)

-- one who isn't among them makes no difference
not_among : (answer : NodeId × ℕ) (answers : List (NodeId × ℕ)) (replicas : List NodeId) → is_among answer.0.0 (numbers_of_nodes replicas) ≡ false →
    count_by (answered_by (answer ∷ answers)) replicas ≡ count_by (answered_by answers) replicas
not_among answer answers [] apart = refl
not_among answer answers (r ∷ replicas) apart = by_test (r.0 == answer.0.0) refl apart (not_among answer answers replicas)
  where
    by_test : (t : Bool) → (r.0 == answer.0.0) ≡ t → (if t then true else is_among answer.0.0 (numbers_of_nodes replicas)) ≡ false →
        (is_among answer.0.0 (numbers_of_nodes replicas) ≡ false → count_by (answered_by (answer ∷ answers)) replicas ≡ count_by (answered_by answers) replicas) →
        count_by (answered_by (answer ∷ answers)) (r ∷ replicas) ≡ count_by (answered_by answers) (r ∷ replicas)
    by_test true is apart later = absurd (true≢false apart)
    by_test false is apart later =
        let other : (answer.0.0 == r.0) ≡ false = turned r.0 answer.0.0 is in
        let same : answered_by (answer ∷ answers) r ≡ answered_by answers r = ap (λ t. t || has_answered r answers) other in
        count_cons (answered_by (answer ∷ answers)) r replicas ∙ ap (λ t. one_if t + count_by (answered_by (answer ∷ answers)) replicas) same
        ∙ ap (λ n. one_if (answered_by answers r) + n) (later apart) ∙ sym (count_cons (answered_by answers) r replicas)

one_more : (answer : NodeId × ℕ) (answers : List (NodeId × ℕ)) (replicas : List NodeId) → AreDifferent (numbers_of_nodes replicas) → has_answered answer.0 answers ≡ false →
    count_by (answered_by (answer ∷ answers)) replicas ≡ one_if (has_node replicas answer.0.0) + count_by (answered_by answers) replicas
one_more answer answers [] apart new = refl
one_more answer answers (r ∷ replicas) apart new = by_test (r.0 == answer.0.0) refl (one_more answer answers replicas apart.1 new)
  where
    by_test : (t : Bool) → (r.0 == answer.0.0) ≡ t → count_by (answered_by (answer ∷ answers)) replicas ≡ one_if (has_node replicas answer.0.0) + count_by (answered_by answers) replicas →
        count_by (answered_by (answer ∷ answers)) (r ∷ replicas) ≡ one_if (if t then true else has_node replicas answer.0.0) + count_by (answered_by answers) (r ∷ replicas)
    by_test true is later =
        let number : answer.0.0 ≡ r.0 = grind arith in
        let here : (answer.0.0 == r.0) ≡ true = grind arith in
        let node : answer.0 ≡ r = ap (λ n. record { 0 = n }) number in
        let apart_here : is_among answer.0.0 (numbers_of_nodes replicas) ≡ false = subst (λ n. is_among n (numbers_of_nodes replicas) ≡ false) (sym number) apart.0 in
        let with_it = count_cons (answered_by (answer ∷ answers)) r replicas ∙ ap (λ t. one_if (t || has_answered r answers) + count_by (answered_by (answer ∷ answers)) replicas) here in
        let others = not_among answer answers replicas apart_here in
        let out : answered_by answers r ≡ false = subst (λ (n : NodeId). has_answered n answers ≡ false) node new in
        let without = count_cons (answered_by answers) r replicas ∙ ap (λ t. one_if t + count_by (answered_by answers) replicas) out in
        omega (arith, with_it, others, without)
    by_test false is later =
        let other : (answer.0.0 == r.0) ≡ false = turned r.0 answer.0.0 is in
        let with_it = count_cons (answered_by (answer ∷ answers)) r replicas ∙ ap (λ t. one_if (t || has_answered r answers) + count_by (answered_by (answer ∷ answers)) replicas) other in
        let without = count_cons (answered_by answers) r replicas in
        omega (arith, with_it, without, later)

-- as many replicas have answered as there are answers of replicas
pub counted_twice : (replicas : List NodeId) (answers : List (NodeId × ℕ)) → AreDifferent (numbers_of_nodes replicas) → AreOnce answers →
    count_by (λ (answer : NodeId × ℕ). has_node replicas answer.0.0) answers ≡ count_by (answered_by answers) replicas
counted_twice replicas [] apart once = sym (none_answered replicas)
counted_twice replicas (answer ∷ answers) apart once =
    let here = count_cons (λ (answer : NodeId × ℕ). has_node replicas answer.0.0) answer answers in
    let later = counted_twice replicas answers apart once.1 in
    let more = one_more answer answers replicas apart once.0 in
    omega (arith, here, later, more)

same_count : (p q : NodeId → Bool) → ((node : NodeId) → p node ≡ q node) → (replicas : List NodeId) → count_by p replicas ≡ count_by q replicas
same_count p q same [] = refl
same_count p q same (r ∷ replicas) =
    count_cons p r replicas ∙ ap (λ t. one_if t + count_by p replicas) (same r) ∙ ap (λ n. one_if (q r) + n) (same_count p q same replicas) ∙ sym (count_cons q r replicas)

quorums_are : (members : List Bool) (answers : List (NodeId × ℕ)) (ps : List PartitionTable) → ((node : NodeId) → is_member members node.0 ≡ has_answered node answers) → AreOnce answers →
    AllByRecursion (λ (p : PartitionTable). AreDifferent (numbers_of_nodes p.replicas)) ps → list_all (has_quorum_of members) (map subscriber_of ps) ≡ have_quorums ps answers
quorums_are members answers [] same once apart = refl
quorums_are members answers (p ∷ ps) same once apart =
    let count : count_by (λ (node : NodeId). is_member members node.0) p.replicas ≡ answered_of p answers =
    same_count (λ (node : NodeId). is_member members node.0) (answered_by answers) same p.replicas ∙ sym (counted_twice p.replicas answers apart.0 once) in
    ap (λ n. nat_le p.trim_quorum n && list_all (has_quorum_of members) (map subscriber_of ps)) count ∙ ap (λ t. nat_le p.trim_quorum (answered_of p answers) && t) (quorums_are members answers ps same once apart.1)

-- a round has all its quorums exactly where what is kept says so
pub kept_quorums : (t : Trimming) (asker : Ring) (round : Round) → StandsFor t asker round → have_quorums_of t.answered t.subscribers ≡ is_answered asker.subscribers round.answers
kept_quorums t asker round stands = ap (have_quorums_of t.answered) stands.subscribers ∙ by_list asker.subscribers stands.different
  where
    by_list : (ps : List PartitionTable) → AllByRecursion (λ (p : PartitionTable). AreDifferent (numbers_of_nodes p.replicas)) ps → have_quorums_of t.answered (map subscriber_of ps) ≡ is_answered ps round.answers
    by_list [] apart = refl
    by_list (p ∷ ps) apart = quorums_are t.answered round.answers (p ∷ ps) stands.answered stands.once apart

-- ---- the least

abbrev pub least_kept : ℕ → Option ℕ → Option ℕ
least_kept last None = None
least_kept last (Some lowest) = if nat_lt last lowest then Some lowest else None

least_by : (last : ℕ) (answers : List (NodeId × ℕ)) → least_kept last (lowest_of answers) ≡ least_above_last last answers
least_by last [] = refl
least_by last (answer ∷ answers) = refl

pub least_is : (t : Trimming) (asker : Ring) (round : Round) → StandsFor t asker round → (q : Bool) → have_quorums_of t.answered t.subscribers ≡ q → (if q then least_kept t.last t.lowest else None) ≡ least asker round
unfolding least
least_is t asker round stands true has =
    rw (stands.last, stands.lowest) (least_by round.last round.answers ∙ sym (ap (λ q. least_where q round.last round.answers) (sym (kept_quorums t asker round stands) ∙ has)))
least_is t asker round stands false has = sym (ap (λ q. least_where q round.last round.answers) (sym (kept_quorums t asker round stands) ∙ has))

pub is_above : (last lowest : ℕ) → last < lowest → least_kept last (Some lowest) ≡ Some lowest
is_above last lowest low = let test : nat_lt last lowest ≡ true = grind arith in rw test refl

pub is_not_above : (last lowest : ℕ) → lowest ≤ last → least_kept last (Some lowest) ≡ None
is_not_above last lowest low = let test : nat_lt last lowest ≡ false = grind arith in rw test refl

pub all_different : (nodes rings : List ℕ) (ring : RingId) (ps : List PartitionTable) → AllByRecursion (IsPartition nodes rings) ps →
    AllByRecursion (λ (p : PartitionTable). AreDifferent (numbers_of_nodes p.replicas)) (subscribers_of ps ring)
all_different nodes rings ring [] each = tt
all_different nodes rings ring (p ∷ ps) each = by_test (has_ring p.rings ring.0) (all_different nodes rings ring ps each.1)
  where
    by_test : (t : Bool) → AllByRecursion (λ (p : PartitionTable). AreDifferent (numbers_of_nodes p.replicas)) (subscribers_of ps ring) →
        AllByRecursion (λ (p : PartitionTable). AreDifferent (numbers_of_nodes p.replicas)) (if t then p ∷ subscribers_of ps ring else subscribers_of ps ring)
    by_test true later = (each.0.replicas.different, later)
    by_test false later = later

-- ---- an answer

second_true : (t u : Bool) → (t && u) ≡ true → u ≡ true
second_true true u h = h
second_true false u h = absurd (true≢false (sym h))

not_true : (t : Bool) → not t ≡ true → t ≡ false
not_true true h = sym h
not_true false h = refl

pub not_counted : (t : Trimming) (asker : Ring) (round : Round) (node : NodeId) (inst : ℕ) → StandsFor t asker round → (is_of_one node t.subscribers && not (is_member t.answered node.0)) ≡ false →
    with_answer asker node inst round ≡ round
not_counted t asker round node inst stands out =
    let test : (is_subscribed asker node && not (has_answered node round.answers)) ≡ false =
    sym (ap (λ t. t && not (has_answered node round.answers)) (ap (is_of_one node) stands.subscribers ∙ of_one node asker.subscribers))
    ∙ sym (ap (λ u. is_of_one node t.subscribers && not u) (stands.answered node)) ∙ out in
    rw test refl

pub counts_it : (t left : Trimming) (asker : Ring) (round : Round) (node : NodeId) (inst : ℕ) → StandsFor t asker round → (is_of_one node t.subscribers && not (is_member t.answered node.0)) ≡ true →
    left.number ≡ t.number → left.last ≡ t.last → left.subscribers ≡ t.subscribers → left.lowest ≡ Some (lower t.lowest inst) → is_member left.answered node.0 ≡ true →
    ((other : ℕ) → (other ≡ node.0 → ⊥) → is_member left.answered other ≡ is_member t.answered other) → StandsFor left asker (with_answer asker node inst round)
counts_it t left asker round node inst stands is number last subscribers lowest own others =
    let test : (is_subscribed asker node && not (has_answered node round.answers)) ≡ true =
    sym (ap (λ t. t && not (has_answered node round.answers)) (ap (is_of_one node) stands.subscribers ∙ of_one node asker.subscribers))
    ∙ sym (ap (λ u. is_of_one node t.subscribers && not u) (stands.answered node)) ∙ is in
    rw test (record {
      number = number ∙ stands.number;
      last = last ∙ stands.last;
      answered = λ other. member other (node.0 == other.0) refl ∙ sym (answered_more other round.answers node inst);
      lowest = lowest ∙ ap (λ l. Some (lower l inst)) stands.lowest ∙ sym (lowest_more round.answers node inst);
      once = once_more round.answers node inst stands.once (sym (stands.answered node) ∙ not_true (is_member t.answered node.0) (second_true (is_of_one node t.subscribers) (not (is_member t.answered node.0)) is));
      subscribers = subscribers ∙ stands.subscribers;
      different = stands.different;
    })
  where
    or_true : (t : Bool) → (t || true) ≡ true
    or_true true = refl
    or_true false = refl

    or_none : (t : Bool) → (t || false) ≡ t
    or_none true = refl
    or_none false = refl

    same_number : (a b : ℕ) → (a == b) ≡ true → a ≡ b
    same_number a b h = grind arith

    differ : (a b : ℕ) → (a == b) ≡ false → b ≡ a → ⊥
    differ a b h same = grind arith

    member : (other : NodeId) (q : Bool) → (node.0 == other.0) ≡ q → is_member left.answered other.0 ≡ (has_answered other round.answers || (node.0 == other.0))
    member other true at = subst (λ n. is_member left.answered n ≡ true) (same_number node.0 other.0 at) own ∙ sym (ap (λ q. has_answered other round.answers || q) at ∙ or_true (has_answered other round.answers))
    member other false at = others other.0 (differ node.0 other.0 at) ∙ stands.answered other ∙ sym (ap (λ q. has_answered other round.answers || q) at ∙ or_none (has_answered other round.answers))
