-- A ring of a valid deployment is what its laws ask for.
use Rattle.std.proofs.Common.{◌≡◌, inl, inr, ℕ, zero, suc, ◌+◌, ◌<◌, ◌≤◌, Bool, true, false, List, [], ◌∷◌, length, refl, sym, ◌∙◌, ap, subst, arith, get_or}
use Rattle.std.specs.Prelude.{◌==◌, if◌then◌else◌}
use Rattle.std.specs.List.{AllByRecursion}
use Rattle.std.proofs.lemmas.Bool.Decides.{nat_tests}
use Rattle.std.proofs.lemmas.List.{length-map}
use Rattle.mrp_types.specs.declared.id.NodeId.{NodeId}
use Rattle.mrp_config.specs.Config.{Config}
use Rattle.mrp_config.specs.Valid.{IsValid, IncreasesFrom, AreAtMost, AreDifferent, AreSeats}
use Rattle.mrp_config.specs.Walk.{is_among, numbers_of_nodes, node_ids, ring_ids}
use Rattle.mrp_config.specs.declared.tables.RingTable.{RingTable}
use Rattle.quorums.specs.Groups.{Has}
use Rattle.ring_runs.specs.Seats.{nobody, IsDeployed}

-- ---- the only table of its id

all_from : (least : ℕ) (rings : List RingTable) → IncreasesFrom least (ring_ids rings) → AllByRecursion (λ (t : RingTable). least ≤ t.id.0) rings
all_from least [] up = tt
all_from least (t ∷ rings) up = (up.0, weaker rings (all_from (t.id.0 + 1) rings up.1))
  where
    weaker : (ts : List RingTable) → AllByRecursion (λ (x : RingTable). t.id.0 + 1 ≤ x.id.0) ts → AllByRecursion (λ (x : RingTable). least ≤ x.id.0) ts
    weaker [] all = tt
    weaker (x ∷ xs) all = let low = up.0 in let next = all.0 in (omega arith, weaker xs all.1)

one_of : (P : RingTable → Type 0) (rings : List RingTable) (table : RingTable) → Has rings table → AllByRecursion P rings → P table
one_of P [] table has all = absurd has
one_of P (t ∷ rings) table (inl e) all = subst P (sym e) all.0
one_of P (t ∷ rings) table (inr more) all = one_of P rings table more all.1

only_one : (least : ℕ) (rings : List RingTable) (table : RingTable) → IncreasesFrom least (ring_ids rings) → Has rings table
    → AllByRecursion (λ (t : RingTable). t.id.0 ≡ table.id.0 → t ≡ table) rings
only_one least [] table up has = absurd has
only_one least (t ∷ rings) table up (inl e) = (λ same. sym e, above rings (all_from (t.id.0 + 1) rings up.1))
  where
    above : (ts : List RingTable) → AllByRecursion (λ (x : RingTable). t.id.0 + 1 ≤ x.id.0) ts → AllByRecursion (λ (x : RingTable). x.id.0 ≡ table.id.0 → x ≡ table) ts
    above [] all = tt
    above (x ∷ xs) all = (λ same. let own : table.id.0 ≡ t.id.0 = ap (λ (y : RingTable). y.id.0) e in let next = all.0 in absurd (omega arith), above xs all.1)
only_one least (t ∷ rings) table up (inr more) = (
  λ same. let high = one_of (λ (x : RingTable). t.id.0 + 1 ≤ x.id.0) rings table more (all_from (t.id.0 + 1) rings up.1) in absurd (omega arith),
  only_one (t.id.0 + 1) rings table up.1 more,
)

-- ---- its number

low_number : (rings : List RingTable) (table : RingTable) → AreAtMost 15 (ring_ids rings) → Has rings table → table.id.0 < 16
low_number [] table most has = absurd has
low_number (t ∷ rings) table most (inl e) = let own : table.id.0 ≡ t.id.0 = ap (λ (y : RingTable). y.id.0) e in let low = most.0 in omega arith
low_number (t ∷ rings) table most (inr more) = low_number rings table most.1 more

-- ---- its acceptors

among_entry : (nodes : List NodeId) (k : ℕ) → k < length nodes → is_among (get_or nodes k nobody).0 (numbers_of_nodes nodes) ≡ true
among_entry [] k lt = absurd (omega arith)
among_entry (node ∷ nodes) zero lt = let e : (node.0 == node.0) ≡ true = grind (arith, nat_tests) in rw e refl
among_entry (node ∷ nodes) (suc k) lt = go (node.0 == (get_or nodes k nobody).0) (among_entry nodes k (omega arith))
  where
    go : (b : Bool) → is_among (get_or nodes k nobody).0 (numbers_of_nodes nodes) ≡ true → (if b then true else is_among (get_or nodes k nobody).0 (numbers_of_nodes nodes)) ≡ true
    go true h = refl
    go false h = h

-- a number that isn't among those of some nodes is none of theirs
not_entry : (n : ℕ) (nodes : List NodeId) (k : ℕ) → k < length nodes → is_among n (numbers_of_nodes nodes) ≡ false → n ≡ (get_or nodes k nobody).0 → ⊥
not_entry n nodes k lt none e =
    let some : is_among n (numbers_of_nodes nodes) ≡ true = ap (λ (x : ℕ). is_among x (numbers_of_nodes nodes)) e ∙ among_entry nodes k lt in
    absurd (cc)

differ : (nodes : List NodeId) → AreDifferent (numbers_of_nodes nodes) → (i k : ℕ) → i < length nodes → k < length nodes
    → (get_or nodes i nobody).0 ≡ (get_or nodes k nobody).0 → i ≡ k
differ [] different i k lt below same = absurd (omega arith)
differ (node ∷ nodes) different zero zero lt below same = refl
differ (node ∷ nodes) different zero (suc k) lt below same = absurd (not_entry node.0 nodes k (omega arith) different.0 same)
differ (node ∷ nodes) different (suc i) zero lt below same = absurd (not_entry node.0 nodes i (omega arith) different.0 (sym same))
differ (node ∷ nodes) different (suc i) (suc k) lt below same = ap (λ (x : ℕ). suc x) (differ nodes different.1 i k (omega arith) (omega arith) same)

seats_of : (nodes : List ℕ) (rings : List RingTable) (table : RingTable) → AllByRecursion (λ (r : RingTable). AreSeats nodes (numbers_of_nodes r.acceptors)) rings → Has rings table
    → AreSeats nodes (numbers_of_nodes table.acceptors)
seats_of nodes rings table all has = one_of (λ (r : RingTable). AreSeats nodes (numbers_of_nodes r.acceptors)) rings table has all

pub deployed : (config : Config) (table : RingTable) → IsValid config → Has config.rings table → IsDeployed config table
deployed config table valid has = record {
  only = only_one 0 config.rings table valid.rings.ids has;
  number = low_number config.rings table valid.rings.numbers has;
  some =
      let few = (seats_of (node_ids config.nodes) config.rings table valid.rings.acceptors has).few.0 in
      let same = length-map table.acceptors (λ (node : NodeId). node.0) in
      omega arith;
  distinct = differ table.acceptors (seats_of (node_ids config.nodes) config.rings table valid.rings.acceptors has).different;
}
