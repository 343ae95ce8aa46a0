-- Reply lines name nodes, rings and clients of the deployment: those of the places that were delivered, and of entries of the book.
use Rattle.std.proofs.Common.{◌≡◌, ℕ, suc, Bool, true, false, List, [], ◌∷◌, ◌++◌, Option, Some, None, refl, sym, ◌∙◌, ap, subst, true≢false}
use Rattle.std.specs.Prelude.{◌==◌, if◌then◌else◌, drop}
use Rattle.std.specs.List.{AllByRecursion}
use Rattle.mrp_types.specs.declared.id.NodeId.{NodeId}
use Rattle.mrp_types.specs.declared.id.RingId.{RingId}
use Rattle.mrp_types.specs.declared.place.Place.{Place}
use Rattle.mrp_types.specs.declared.value.Entry.{Entry}
use Rattle.mrp_types.specs.declared.value.Value.{Value}
use Rattle.mrp_types.specs.Book.{Learning, covers, book_of}
use Rattle.mrp_types.specs.Seats.{is_among, numbers_of_nodes}
use Rattle.mrp_types.specs.Rings.{numbers_of_rings}
use Rattle.command_codec.specs.declared.command.Command.{Command}
use Rattle.command_codec.specs.declared.reply.Reply.{Reply as Answered}
use Rattle.mrp_config.specs.declared.tables.NodeTable.{NodeTable}
use Rattle.mrp_config.specs.declared.tables.RingTable.{RingTable}
use Rattle.mrp_config.specs.declared.tables.PartitionTable.{PartitionTable}
use Rattle.mrp_config.specs.Config.{Config, node_at, ring_at, has_node, has_ring, partition_of}
use Rattle.mrp_config.specs.Walk.{node_ids, ring_ids}
use Rattle.mrp_config.specs.Valid.{IsValid, IsPartition, AreAmong}
use Rattle.plain_model.specs.Tuples.{round_sizes, next_place}
use Rattle.plain_model.specs.Fold.{entries_below, entries_at_place, entries_of_value, known_entries, place_with, reply_to}
use Rattle.plain_model.specs.Tuples.{tuple_at}
use Rattle.plain_model.proofs.TupleOrder.{same_number}
use Rattle.protocol.specs.Lines.{Line, Deliver, Reply, Frame, Learn}
use Rattle.bare_world.specs.Worlds.{Happening}
use Rattle.line_rules.specs.Owed.{owed, reply_line, reply_lines, replies_after, replies_of}
use Rattle.line_rules.specs.Rules.{HasNode, HasRing, HasClient, Delivers, NamesFit, IsInTurn, F3}
use Rattle.line_rules.specs.Scanners.{past, learned}
use Rattle.line_rules.proofs.Decided.{next_in}
use Rattle.line_rules.proofs.Printed.{rings_fit}
use Rattle.faithful.proofs.Growing.{past_more}
use Rattle.faithful.proofs.Quorum.{all_has, partition_there}
use Rattle.recovery_lines.specs.Ties.{AreRight, IsRightLine}
use Rattle.quorums.proofs.Each.{mapped, appended, front_all}
use Rattle.ask_laws.specs.Asks.{asked_in, IsAsked}
use Rattle.ask_laws.specs.Carried.{LineCarries}
use Rattle.ask_laws.proofs.Reading.{entries-asked}
use Rattle.ask_laws.proofs.Worlds.{all_keep}
use Rattle.quiet_rules.specs.Quiet.{OwnNamesFit}
use Rattle.line_runs.specs.Invariant.{latest_first}
use Rattle.line_runs.specs.Laws.{IsRun, lines_of}
use Rattle.line_runs.proofs.Laws.{right_then}
use Rattle.state_runs.specs.Laws.{IsUnlisted}
use Rattle.state_runs.proofs.Laws.{line_in_turn, line_named}
use Rattle.state_runs.proofs.Worlds.{all_past}

-- ---- the deployment

node_table : (tables : List NodeTable) (x : ℕ) → is_among x (node_ids tables) ≡ true → (table : NodeTable) × (node_at tables x ≡ Some table)
node_table [] x h = absurd (true≢false (sym h))
node_table (table ∷ tables) x h = go (table.id.0 == x) h (λ later. node_table tables x later)
  where
    go : (b : Bool) → (if b then true else is_among x (node_ids tables)) ≡ true → (is_among x (node_ids tables) ≡ true → (t : NodeTable) × (node_at tables x ≡ Some t))
        → (t : NodeTable) × ((if b then Some table else node_at tables x) ≡ Some t)
    go true h later = (table, refl)
    go false h later = later h

ring_table : (tables : List RingTable) (x : ℕ) → is_among x (ring_ids tables) ≡ true → (table : RingTable) × (ring_at tables x ≡ Some table)
ring_table [] x h = absurd (true≢false (sym h))
ring_table (table ∷ tables) x h = go (table.id.0 == x) h (λ later. ring_table tables x later)
  where
    go : (b : Bool) → (if b then true else is_among x (ring_ids tables)) ≡ true → (is_among x (ring_ids tables) ≡ true → (t : RingTable) × (ring_at tables x ≡ Some t))
        → (t : RingTable) × ((if b then Some table else ring_at tables x) ≡ Some t)
    go true h later = (table, refl)
    go false h later = later h

node_known : (ids : List ℕ) (nodes : List NodeId) (x : ℕ) → AreAmong ids (numbers_of_nodes nodes) → has_node nodes x ≡ true → is_among x ids ≡ true
node_known ids [] x are h = absurd (true≢false (sym h))
node_known ids (n ∷ nodes) x are h = go (n.0 == x) refl h (λ later. node_known ids nodes x are.1 later)
  where
    go : (b : Bool) → (n.0 == x) ≡ b → (if b then true else has_node nodes x) ≡ true → (has_node nodes x ≡ true → is_among x ids ≡ true) → is_among x ids ≡ true
    go true e h later = subst (λ (k : ℕ). is_among k ids ≡ true) (same_number n.0 x e) are.0
    go false e h later = later h

ring_known : (ids : List ℕ) (rings : List RingId) (x : ℕ) → AreAmong ids (numbers_of_rings rings) → has_ring rings x ≡ true → is_among x ids ≡ true
ring_known ids [] x are h = absurd (true≢false (sym h))
ring_known ids (r ∷ rings) x are h = go (r.0 == x) refl h (λ later. ring_known ids rings x are.1 later)
  where
    go : (b : Bool) → (r.0 == x) ≡ b → (if b then true else has_ring rings x) ≡ true → (has_ring rings x ≡ true → is_among x ids ≡ true) → is_among x ids ≡ true
    go true e h later = subst (λ (k : ℕ). is_among k ids ≡ true) (same_number r.0 x e) are.0
    go false e h later = later h

module _ (c : Config) (valid : IsValid c) where
  partition_is : (node : NodeId) (p : PartitionTable) → partition_of c.partitions node ≡ Some p → IsPartition (node_ids c.nodes) (ring_ids c.rings) p
  partition_is node p e = all_has (IsPartition (node_ids c.nodes) (ring_ids c.rings)) c.partitions p valid.partitions.each (partition_there c.partitions node p e).there

  replica_has : (node : NodeId) (p : PartitionTable) → partition_of c.partitions node ≡ Some p → HasNode c node
  replica_has node p e = node_table c.nodes node.0 (node_known (node_ids c.nodes) p.replicas node.0 (partition_is node p e).replicas.known (partition_there c.partitions node p e).replica)

  -- the ring of a place that a node may deliver
  delivered_has : (before : List Line) (node : NodeId) (ring : RingId) (inst : ℕ) → Delivers c before node ring inst → HasRing c ring
  delivered_has before node ring inst d =
      let is = partition_is node d.partition d.replica in
      ring_table c.rings ring.0 (ring_known (ring_ids c.rings) d.partition.rings ring.0 is.known
      (subst (λ (place : RingId × ℕ). has_ring d.partition.rings place.0.0 ≡ true) d.next
      (next_in (round_sizes c) d.partition.rings d.tuple is.some.0 (rings_fit (round_sizes c) d.partition.rings d.tuple d.reached.to))))

-- ---- entries of the book

abbrev IsOurs : Config → Entry → Type 0
IsOurs c e = HasClient c e.client

abbrev AreOurs : Config → List Learning → Type 0
AreOurs c known = AllByRecursion (λ (l : Learning). AllByRecursion (IsOurs c) (entries_of_value l.value)) known

ours_at : (c : Config) (known : List Learning) (ring : RingId) (inst : ℕ) → AreOurs c known → AllByRecursion (IsOurs c) (known_entries (book_of known ring inst))
ours_at c [] ring inst all = tt
ours_at c (l ∷ known) ring inst all = go (ours_at c known ring inst all.1) (covers l ring inst)
  where
    go : AllByRecursion (IsOurs c) (known_entries (book_of known ring inst)) → (b : Bool) → AllByRecursion (IsOurs c) (known_entries (if b then Some l.value else book_of known ring inst))
    go later true = all.0
    go later false = later

ours_learned : (c : Config) (asked : ℕ → ℕ → Option Command) (lines : List Line) → AllByRecursion (LineCarries (IsAsked c asked)) lines → AreOurs c (learned lines)
ours_learned c asked [] all = tt
ours_learned c asked (l ∷ lines) all = by l all.0 (ours_learned c asked lines all.1)
  where
    by : (k : Line) → LineCarries (IsAsked c asked) k → AreOurs c (learned lines) → AreOurs c (learned (k ∷ lines))
    by (Learn node ring lo hi value) is later =
        appended (λ (l : Learning). AllByRecursion (IsOurs c) (entries_of_value l.value)) (learned lines) (record { ring = ring; lo = lo; hi = hi; value = value } ∷ []) later
        (mapped (IsAsked c asked ring.0) (IsOurs c) (λ e a. a.client) (entries_of_value value) (entries-asked c asked ring.0 value is), tt)
    by other is later = later

-- ---- what is owed

module _ (c : Config) (p : PartitionTable) (node : NodeId) (place : Place) (own : HasNode c node) (ring : HasRing c place.ring) where
  reply_named : (index : ℕ) (e : Entry) → IsOurs c e → (o : Option Answered) → AllByRecursion (NamesFit c) (reply_line node place index e o)
  reply_named index e ours None = tt
  reply_named index e ours (Some reply) = ((own, ring, ours), tt)

  replies_named : (before : List Entry) (index : ℕ) (es : List Entry) → AllByRecursion (IsOurs c) es → AllByRecursion (NamesFit c) (reply_lines p node place before index es)
  replies_named before index [] all = tt
  replies_named before index (e ∷ es) all =
      appended (NamesFit c) (reply_line node place index e (reply_to p before e)) (reply_lines p node place (before ++ e ∷ []) (suc index) es) (reply_named index e all.0 (reply_to p before e))
      (replies_named (before ++ e ∷ []) (suc index) es all.1)

  after_named : (o : Option (List Entry)) (es : List Entry) → AllByRecursion (IsOurs c) es → AllByRecursion (NamesFit c) (replies_after p node place o es)
  after_named None es all = tt
  after_named (Some below) es all = replies_named below 0 es all

module _ (c : Config) (valid : IsValid c) (asked : ℕ → ℕ → Option Command) where
  delivery_named : (lines : List Line) (node : NodeId) (ring : RingId) (inst : ℕ) → Delivers c lines node ring inst → AreOurs c (learned lines)
      → AllByRecursion (NamesFit c) (replies_of (round_sizes c) (learned lines) node (place_with ring inst) (partition_of c.partitions node))
  delivery_named lines node ring inst d ours = by (partition_of c.partitions node) refl
    where
      by : (o : Option PartitionTable) → partition_of c.partitions node ≡ o → AllByRecursion (NamesFit c) (replies_of (round_sizes c) (learned lines) node (place_with ring inst) o)
      by None e = tt
      by (Some p) e =
          after_named c p node (place_with ring inst) (replica_has c valid node p e) (delivered_has c valid lines node ring inst d)
          (entries_below (round_sizes c) (learned lines) (tuple_at (round_sizes c) p.rings (place_with ring inst))) (entries_at_place (learned lines) (place_with ring inst)) (ours_at c (learned lines) ring inst ours)

  rest_all : (P : Line → Type 0) (ls : List Line) → AllByRecursion P ls → AllByRecursion P (drop 1 ls)
  rest_all P [] all = tt
  rest_all P (l ∷ ls) all = all.1

  owed_named : (lines : List Line) → AreRight c lines → AllByRecursion (LineCarries (IsAsked c asked)) lines → AllByRecursion (NamesFit c) (owed c lines)
  owed_named [] right carry = tt
  owed_named (l ∷ lines) right carry = by l right.0 (owed_named lines right.1 carry.1)
    where
      by : (k : Line) → IsRightLine c lines k → AllByRecursion (NamesFit c) (owed c lines) → AllByRecursion (NamesFit c) (owed c (k ∷ lines))
      by (Deliver node ring inst) d later = delivery_named lines node ring inst d (ours_learned c asked lines carry.1)
      by (Reply node ring inst index client seq reply) is later = rest_all (NamesFit c) (owed c lines) later
      by other is later = later

-- ---- every run

module _ (c : Config) (hs : List Happening) (r : IsRun c hs) (before after : List Line) where
  owed_before : (rest : List Line) → lines_of c hs ≡ before ++ rest → AllByRecursion (NamesFit c) (owed c (latest_first before))
  owed_before rest at =
      owed_named c r.valid (asked_in c hs) (latest_first before) (right_then c hs r before rest at)
      (all_past (LineCarries (IsAsked c (asked_in c hs))) before [] (front_all (LineCarries (IsAsked c (asked_in c hs))) before rest
      (subst (λ (ls : List Line). AllByRecursion (LineCarries (IsAsked c (asked_in c hs))) ls) at (all_keep c hs r.may).carried.lines)) tt)

  pub line_rule : (l : Line) → IsUnlisted l → lines_of c hs ≡ before ++ l ∷ after → F3 c (latest_first before) l
  line_rule l unlisted at = record { turn = line_in_turn c hs r before after l at; names = by l unlisted (line_in_turn c hs r before after l at) (line_named c hs r before after l at) at }
    where
      by : (k : Line) → IsUnlisted k → IsInTurn c (latest_first before) k → OwnNamesFit c k → lines_of c hs ≡ before ++ k ∷ after → NamesFit c k
      by (Reply node ring inst index client seq reply) is pays own e =
          (subst (λ (ls : List Line). AllByRecursion (NamesFit c) ls) pays.next (owed_before (Reply node ring inst index client seq reply ∷ after) e)).0
      by (Frame number shown) is pays own e = absurd is
      by other is pays own e = own
