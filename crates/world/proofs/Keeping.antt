-- The lines of the one ring keep the rules of learn and of deliver lines, after those with which its nodes come up ready.
use Rattle.std.proofs.Common.{arith, ◌≡◌, ◌<◌, ◌≤◌, ℕ, zero, suc, ◌+◌, ◌==◌, inl, inr, Bool, true, false, if◌then◌else◌, List, [], ◌∷◌, ◌++◌, length, get_or, Option, Some, None, refl, sym, ◌∙◌, ap, subst, append-nil, Contains}
use Rattle.std.specs.Prelude.{is_some, nat_le, ◌&&◌}
use Rattle.std.specs.List.{AllByRecursion, flat_map}
use Rattle.mrp_types.specs.declared.id.NodeId.{NodeId}
use Rattle.mrp_types.specs.declared.id.RingId.{RingId}
use Rattle.mrp_types.specs.declared.place.Place.{Place}
use Rattle.mrp_types.specs.declared.value.Value.{Value}
use Rattle.mrp_types.specs.Book.{Learning, book_of}
use Rattle.mrp_types.specs.Seats.{is_among, numbers_of_nodes, seat_of}
use Rattle.mrp_types.specs.Rings.{IncreasesFrom, numbers_of_rings}
use Rattle.mrp_config.specs.declared.tables.NodeTable.{NodeTable}
use Rattle.mrp_config.specs.declared.tables.RingTable.{RingTable}
use Rattle.mrp_config.specs.declared.tables.PartitionTable.{PartitionTable}
use Rattle.mrp_config.specs.Config.{Config, node_at, ring_at, has_node, partition_of, round_of}
use Rattle.mrp_config.specs.Walk.{node_ids, ring_ids}
use Rattle.mrp_config.specs.Valid.{IsValid, IsPartition, ArePartitions, AreAmong}
use Rattle.mrp_config.proofs.Rounds.{round_in_range}
use Rattle.plain_model.specs.Lines.{learnings}
use Rattle.plain_model.specs.Lines as plain
use Rattle.plain_model.specs.Tuples.{round_sizes, first_tuple, instances, tuple_at, moved_past, count_before, is_tuple_of, is_at_or_after, IsBelow, IsNotBelow, has_rings, is_valid_tuple}
use Rattle.plain_model.specs.Fold.{place_with}
use Rattle.plain_model.proofs.Fronts.{learnings-append}
use Rattle.plain_model.proofs.TupleAt.{tuple_at_valid}
use Rattle.plain_model.proofs.TupleOrder.{both_true}
use Rattle.transcript.specs.declared.line.Line.{Line}
use Rattle.transcript.specs.declared.line.Line.TheVariants.{Learn, Deliver, Frame, End}
use Rattle.line_rules.specs.Names as rule
use Rattle.line_rules.specs.Scanners.{or_else, Restored, life, position, book, past}
use Rattle.line_rules.specs.Rules.{HasNode, HasRing, BySkips, Delivers, Keeps, IsFaithful}
use Rattle.line_rules.proofs.Growing.{same_number, past_more}
use Rattle.line_rules.proofs.OneBook.{one_book_of}
use Rattle.line_rules.proofs.Words.{no_true, ring_same}
use Rattle.schedule.specs.declared.event.ScheduleEvent.{ScheduleEvent}
use Rattle.world.specs.Built.{IsBuiltRing}
use Rattle.world.specs.Order.{ready_node, ready_replicas, ready_lines, EachKeeps, KeepsRules}
use Rattle.world.specs.System.{trace}
use Rattle.world.proofs.Stretches.{stood, stood_from, stood_after}
use Rattle.world.proofs.Seats.{IsMember, nobody, found, seat_below}
use Rattle.world.proofs.Exact.{Learns, Next, IsExactLine, IsExactAfter, exact_at, in_turn}
use Rattle.world.proofs.Worlds.{trace_is_exact}
use Rattle.world.proofs.Ready.{IsReadyAt, AreClean, ready_after, none_learned, clean_after}

-- ---- what a deployment has

has_is : (nodes : List NodeId) (x : ℕ) → has_node nodes x ≡ is_among x (numbers_of_nodes nodes)
has_is [] x = refl
has_is (node ∷ nodes) x = ap (λ (b : Bool). if node.0 == x then true else b) (has_is nodes x)

table_there : (tables : List NodeTable) (x : ℕ) → is_among x (node_ids tables) ≡ true → (table : NodeTable) × (node_at tables x ≡ Some table)
table_there [] x h = no_true h
table_there (table ∷ tables) x h = go (table.id.0 == x) h (λ later. table_there tables x later)
  where
    go : (b : Bool) → (if b then true else is_among x (node_ids tables)) ≡ true →
        (is_among x (node_ids tables) ≡ true → (t : NodeTable) × (node_at tables x ≡ Some t)) →
        (t : NodeTable) × ((if b then Some table else node_at tables x) ≡ Some t)
    go true h later = (table, refl)
    go false h later = later h

among_these : (ids ns : List ℕ) (x : ℕ) → AreAmong ids ns → is_among x ns ≡ true → is_among x ids ≡ true
among_these ids [] x are h = no_true h
among_these ids (n ∷ ns) x are h = go (n == x) refl h (λ later. among_these ids ns x are.1 later)
  where
    same : (a b : ℕ) → (a == b) ≡ true → a ≡ b
    same a b e = grind arith

    go : (b : Bool) → (n == x) ≡ b → (if b then true else is_among x ns) ≡ true → (is_among x ns ≡ true → is_among x ids ≡ true) → is_among x ids ≡ true
    go true e h later = subst (λ k. is_among k ids ≡ true) (same n x e) are.0
    go false e h later = later h

-- a node that stands in a list is there
found_there : (nodes : List NodeId) (k : ℕ) (d node : NodeId) → k < length nodes → (get_or nodes k d).0 ≡ node.0 → has_node nodes node.0 ≡ true
found_there [] k d node inside is = absurd (omega (arith, inside))
found_there (n ∷ nodes) zero d node inside is =
    let same : n.0 ≡ node.0 = is in
    rw same (rw (same_number node.0) refl)
found_there (n ∷ nodes) (suc k) d node inside is = go (n.0 == node.0) (found_there nodes k d node (omega (arith, shorter n nodes inside)) is)
  where
    shorter : (n : NodeId) (ns : List NodeId) → suc k < length (n ∷ ns) → k < length ns
    shorter n ns inside = grind arith

    go : (b : Bool) → has_node nodes node.0 ≡ true → (if b then true else has_node nodes node.0) ≡ true
    go true there = refl
    go false there = there

-- the rings of a partition, where there is one ring
only_one : (nodes : List ℕ) (p : PartitionTable) (ring : RingId) → IsPartition nodes (ring.0 ∷ []) p → p.rings ≡ ring ∷ []
only_one nodes p ring is = by p.rings is.some.0 is.increase is.known
  where
    this : (x : ℕ) → is_among x (ring.0 ∷ []) ≡ true → x ≡ ring.0
    this x h = go (ring.0 == x) refl h
      where
        same : (a b : ℕ) → (a == b) ≡ true → b ≡ a
        same a b e = grind arith

        go : (b : Bool) → (ring.0 == x) ≡ b → (if b then true else false) ≡ true → x ≡ ring.0
        go true e h = same ring.0 x e
        go false e h = no_true h

    by : (rings : List RingId) → 1 ≤ length rings → IncreasesFrom 0 (numbers_of_rings rings) → AreAmong (ring.0 ∷ []) (numbers_of_rings rings) → rings ≡ ring ∷ []
    by [] some increase known = absurd (omega (arith, some))
    by (r ∷ []) some increase known = ap (λ (x : RingId). x ∷ []) (ring_same r ring (this r.0 known.0))
    by (r ∷ s ∷ rings) some increase known =
        let one : r.0 ≡ ring.0 = this r.0 known.0 in
        let other : s.0 ≡ ring.0 = this s.0 known.1.0 in
        let less : r.0 + 1 ≤ s.0 = increase.1.0 in
        absurd (omega arith)

-- ---- tuples of one ring

-- the tuple of the places below an instance
abbrev below : RingId → ℕ → List (RingId × ℕ)
below ring inst = (ring, inst) ∷ []

module _ (m : ℕ → ℕ) (ring : RingId) where
  abbrev rings : List RingId
  rings = ring ∷ []

  tuple_is : (inst : ℕ) → tuple_at m rings (place_with ring inst) ≡ below ring inst
  tuple_is inst = rw (same_number ring.0) refl

  moved_is : (inst : ℕ) → moved_past (ring, inst) (tuple_at m rings (place_with ring inst)) ≡ below ring (inst + 1)
  moved_is inst = rw (same_number ring.0) refl

  one_tuple : ((r : ℕ) → 0 < m r) → (inst : ℕ) → is_tuple_of m rings (below ring inst) ≡ true
  one_tuple rounds inst =
      both_true (has_rings rings (below ring inst)) (is_valid_tuple m (below ring inst)) (rw (same_number ring.0) refl)
      (subst (λ (k : List (RingId × ℕ)). is_valid_tuple m k ≡ true) (tuple_is inst) (tuple_at_valid m rings (place_with ring inst) rounds))

  none_between : (inst : ℕ) (place : Place) → IsBelow place (below ring inst) → IsNotBelow place (below ring inst) → ⊥
  none_between inst place (inl less) (inl not) = no_both place.inst inst less.1 not.1
    where
      no_both : (a b : ℕ) → a < b → b ≤ a → ⊥
      no_both a b less not = grind arith
  none_between inst place (inl less) (inr none) = none
  none_between inst place (inr none) not = none

  -- where a node stands it goes on without a skip
  pub goes_on : ((r : ℕ) → 0 < m r) → (before : List Line) (k : List (RingId × ℕ)) (inst : ℕ) → k ≡ below ring inst → BySkips m rings before k (below ring inst)
  goes_on rounds before k inst is = subst (λ (j : List (RingId × ℕ)). BySkips m rings before j (below ring inst)) (sym is) (record {
    from = one_tuple rounds inst;
    to = one_tuple rounds inst;
    after = le_itself inst;
    skips = λ place less not. absurd (none_between inst place less not);
  })
    where
      le_itself : (n : ℕ) → (nat_le n n && true) ≡ true
      le_itself n = grind arith

  -- ---- where a node stands

  -- a node is ready, and stands at an instance
  abbrev pub StandsAt : ℕ → ℕ → List Line → Type 0
  StandsAt x now before = IsReadyAt m rings (below ring now) x before

  delivered : (node other : NodeId) (inst now : ℕ) (before : List Line) → StandsAt node.0 now before →
      StandsAt node.0 (stood_after node now (Deliver other ring inst)) (Deliver other ring inst ∷ before)
  delivered node other inst now before is = record { ready = ready_by (other.0 == node.0); stands = stands_by (other.0 == node.0) }
    where
      ready_by : (b : Bool) → (if b then or_else None (life node.0 before) else life node.0 before) ≡ Some Restored
      ready_by true = is.ready
      ready_by false = is.ready

      stands_by : (b : Bool) → (if b then moved_past (ring, inst) (tuple_at m rings (place_with ring inst)) else position m rings node.0 before) ≡ below ring (if b then inst + 1 else now)
      stands_by true = moved_is inst
      stands_by false = is.stands

-- after exact lines a node stands behind what it delivered
stands_after : (m : ℕ → ℕ) (table : RingTable) (node : NodeId) (now : ℕ) (printed lines before : List Line) → IsExactAfter table printed lines →
    StandsAt m table.id node.0 now before → StandsAt m table.id node.0 (stood_from node now lines) (past before lines)
stands_after m table node now printed [] before are is = is
stands_after m table node now printed (Learn other ring lo hi value ∷ lines) before are is =
    stands_after m table node now (printed ++ Learn other ring lo hi value ∷ []) lines (Learn other ring lo hi value ∷ before) are.1 (record { ready = is.ready; stands = is.stands })
stands_after m table node now printed (Deliver other ring inst ∷ lines) before are is =
    stands_after m table node (stood_after node now (Deliver other ring inst)) (printed ++ Deliver other ring inst ∷ []) lines (Deliver other ring inst ∷ before) are.1
    (subst (λ (r : RingId). StandsAt m table.id node.0 (stood_after node now (Deliver other r inst)) (Deliver other r inst ∷ before)) (sym are.0.first)
    (delivered m table.id node other inst now before is))
stands_after m table node now printed (Frame number frame ∷ lines) before are is =
    stands_after m table node now (printed ++ Frame number frame ∷ []) lines (Frame number frame ∷ before) are.1 (record { ready = is.ready; stands = is.stands })
stands_after m table node now printed (End events ∷ lines) before are is =
    stands_after m table node now (printed ++ End events ∷ []) lines (End events ∷ before) are.1 (record { ready = is.ready; stands = is.stands })
stands_after m table node now printed (other ∷ lines) before are is = absurd are.0

-- ---- a deployment that is built

module _ (c : Config) (table : RingTable) (valid : IsValid c) (built : IsBuiltRing c table) where
  abbrev p : PartitionTable
  p = built.replicas.0

  abbrev m : ℕ → ℕ
  m = round_sizes c

  abbrev start : List Line
  start = past [] (ready_lines c)

  rounds : (r : ℕ) → 0 < m r
  rounds r = let range = round_in_range c valid (record { 0 = r }) in omega (arith, range.0)

  partition_valid : IsPartition (node_ids c.nodes) (table.id.0 ∷ []) p
  partition_valid =
      let of : ArePartitions (node_ids c.nodes) (ring_ids c.rings) (p ∷ []) =
      subst (λ (ps : List PartitionTable). ArePartitions (node_ids c.nodes) (ring_ids c.rings) ps) built.replicas.1 valid.partitions in
      subst (λ (rs : List RingTable). IsPartition (node_ids c.nodes) (ring_ids rs) p) built.alone of.each.0

  rings_are : p.rings ≡ table.id ∷ []
  rings_are = only_one (node_ids c.nodes) p table.id partition_valid

  ring_there : HasRing c table.id
  ring_there =
      let here : ring_at (table ∷ []) table.id.0 ≡ Some table = rw (same_number table.id.0) refl in
      (table, ap (λ (rs : List RingTable). ring_at rs table.id.0) built.alone ∙ here)

  replica : (node : NodeId) → has_node p.replicas node.0 ≡ true → partition_of c.partitions node ≡ Some p
  replica node is =
      let here : partition_of (p ∷ []) node ≡ Some p = rw is refl in
      ap (λ (ps : List PartitionTable). partition_of ps node) built.replicas.1 ∙ here

  there : (node : NodeId) → has_node p.replicas node.0 ≡ true → HasNode c node
  there node is = table_there c.nodes node.0 (among_these (node_ids c.nodes) (numbers_of_nodes p.replicas) node.0 partition_valid.replicas.known (sym (has_is p.replicas node.0) ∙ is))

  -- an acceptor is a replica
  member : (node : NodeId) → IsMember table node → has_node p.replicas node.0 ≡ true
  member node is = go (seat_of node table.acceptors) refl is
    where
      go : (o : Option ℕ) → seat_of node table.acceptors ≡ o → is_some o ≡ true → has_node p.replicas node.0 ≡ true
      go None e h = no_true h
      go (Some k) e h =
          let inside : k < length table.acceptors = seat_below table (record { node = node; position = k }) e in
          let among : Contains p.replicas (get_or table.acceptors k nobody) = built.replicas.2.1 k nobody inside in
          found_there p.replicas among.0 (get_or table.acceptors k nobody) node among.1 (ap (λ (x : NodeId). x.0) among.2 ∙ found table node k e)

  -- ---- the lines with which the nodes come up

  these : ready_lines c ≡ ready_replicas p
  these = ap (λ (ps : List PartitionTable). flat_map ready_replicas ps) built.replicas.1 ∙ append-nil (ready_replicas p)

  pub ready_is_faithful : IsFaithful c (ready_lines c)
  ready_is_faithful = subst (λ (lines : List Line). IsFaithful c lines) (sym these) all.faithful
    where
      all : AreClean c p.rings (instances (first_tuple p.rings)) (past [] (ready_replicas p))
      all = clean_after c p replica there p.replicas [] (λ x h. has_is p.replicas x ∙ h) partition_valid.replicas.different
          (λ x h. record { untold = refl; unbegun = refl }) (record { faithful = tt; paid = refl; trims = tt })

  ready_first : (node : NodeId) → IsMember table node → StandsAt m table.id node.0 0 start
  ready_first node is =
      subst (λ (rs : List RingId). IsReadyAt m rs (first_tuple rs) node.0 start) rings_are
      (subst (λ (lines : List Line). IsReadyAt m p.rings (first_tuple p.rings) node.0 (past [] lines)) (sym these)
      (ready_after m p.rings node.0 p.replicas [] (inr (member node is))))

  same_book : (lines : List Line) (ring : RingId) (inst : ℕ) → book (past start lines) ring inst ≡ plain.book lines ring inst
  same_book lines ring inst =
      ap (λ (ls : List Line). book ls ring inst) (sym (past_more [] (ready_lines c) lines)) ∙ one_book_of (ready_lines c ++ lines) ring inst
      ∙ ap (λ (known : List Learning). book_of known ring inst) (learnings-append (ready_lines c) lines ∙ ap (λ (known : List Learning). known ++ learnings lines) none)
    where
      none : learnings (ready_lines c) ≡ []
      none = ap learnings these ∙ none_learned (instances (first_tuple p.rings)) p.replicas

  -- ---- a line after those before it

  learn_keeps : (front : List Line) (node : NodeId) (ring : RingId) (lo hi : ℕ) (value : Value) → Learns table front node ring lo hi value →
      Keeps rule.F1 c (past start front) (Learn node ring lo hi value)
  learn_keeps front node ring lo hi value l = record {
    fits_node = there node (member node l.fits);
    fits_ring = subst (λ (r : RingId). HasRing c r) (sym l.own) ring_there;
    some = l.some;
    low = l.low;
    wide = l.wide;
    agrees = λ inst known from to h. l.agrees inst known from to (sym (same_book front ring inst) ∙ h);
  }

  delivery : (front : List Line) (node : NodeId) (inst : ℕ) → IsExactAfter table [] front → Next table front node table.id inst → Delivers c (past start front) node table.id inst
  delivery front node inst are n =
      let at : StandsAt m table.id node.0 (stood front node) (past start front) = stands_after m table node 0 [] front start are (ready_first node n.fits) in
      record {
        partition = p;
        replica = replica node (member node n.fits);
        ready = at.ready;
        batch = n.holds.0;
        holds = same_book front table.id inst ∙ n.holds.1;
        tuple = below table.id inst;
        next = refl;
        reached = subst (λ (rs : List RingId). BySkips m rs (past start front) (position m rs node.0 (past start front)) (below table.id inst)) (sym rings_are)
            (goes_on m table.id rounds (past start front) (position m (table.id ∷ []) node.0 (past start front)) inst
            (at.stands ∙ ap (λ (k : ℕ). below table.id k) n.next));
      }

  deliver_keeps : (front : List Line) (node : NodeId) (ring : RingId) (inst : ℕ) → IsExactAfter table [] front → Next table front node ring inst →
      Keeps rule.F2 c (past start front) (Deliver node ring inst)
  deliver_keeps front node ring inst are n =
      subst (λ (r : RingId). Delivers c (past start front) node r inst) (sym n.first)
      (delivery front node inst are (record { first = refl; fits = n.fits; holds = n.holds; next = n.next }))

  first_rule : (front : List Line) (line : Line) → IsExactLine table front line → Keeps rule.F1 c (past start front) line
  first_rule front (Learn node ring lo hi value) is = learn_keeps front node ring lo hi value is
  first_rule front other is = tt

  second_rule : (front : List Line) (line : Line) → IsExactAfter table [] front → IsExactLine table front line → Keeps rule.F2 c (past start front) line
  second_rule front (Deliver node ring inst) are is = deliver_keeps front node ring inst are is
  second_rule front (Frame number frame) are is = tt
  second_rule front (End events) are is = tt
  second_rule front (Learn node ring lo hi value) are is = tt
  second_rule front other are is = absurd is

  exact_before : (lines front : List Line) (line : Line) (rest : List Line) → IsExactAfter table [] lines → lines ≡ front ++ line ∷ rest →
      IsExactAfter table [] front × IsExactLine table front line
  exact_before lines front line rest are whole = exact_at table [] front line rest (subst (λ (ls : List Line). IsExactAfter table [] ls) whole are)

  -- the lines of every list of events keep the rules
  pub trace_keeps : (events : List ScheduleEvent) → KeepsRules c (trace table events)
  trace_keeps events = record {
    one_value = λ front line rest whole. first_rule front line (exact_before (trace table events) front line rest all whole).1;
    one_order = λ front line rest whole.
        let now = exact_before (trace table events) front line rest all whole in
        second_rule front line now.0 now.1;
    in_turn = λ node. in_turn table [] (trace table events) node all;
  }
    where
      all : IsExactAfter table [] (trace table events)
      all = trace_is_exact table events
