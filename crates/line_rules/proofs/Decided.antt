-- Each test decides its rule.
use Rattle.std.proofs.Common.{◌≡◌, ℕ, ◌+◌, ◌<◌, ◌≤◌, inl, inr, Bool, true, false, List, [], ◌∷◌, length, Option, Some, None, refl, sym, ◌∙◌, ap, subst, arith}
use Rattle.std.specs.Prelude.{◌==◌, nat_le, ◌&&◌, ◌||◌, not, is_some, bytes_eq, if◌then◌else◌, count_by}
use Rattle.std.specs.Bool.{Decides}
use Rattle.std.specs.List.{AllByRecursion, list_all}
use Rattle.std.proofs.lemmas.Bool.Decides.{Decides-and, Decides-or, Decides-eqb, Decides-ltb, Decides-not}
use Rattle.std.proofs.lemmas.Slice.Eq.{bytes_eq-Decides}
use Rattle.mrp_types.specs.declared.id.NodeId.{NodeId}
use Rattle.mrp_types.specs.declared.id.RingId.{RingId}
use Rattle.mrp_types.specs.declared.id.ClientId.{ClientId}
use Rattle.mrp_types.specs.declared.id.Party.{Party}
use Rattle.mrp_types.specs.declared.id.Party.TheVariants.{Node, Client}
use Rattle.mrp_types.specs.declared.id.TheConstants.{END}
use Rattle.mrp_types.specs.declared.place.Place.{Place}
use Rattle.mrp_types.specs.declared.value.Value.{Value}
use Rattle.mrp_types.specs.declared.value.Value.TheVariants.{Skip, Batch}
use Rattle.mrp_types.specs.Book.{book_of}
use Rattle.mrp_types.specs.Values.{is_skip}
use Rattle.mrp_config.specs.Config.{Config, node_at, ring_at, client_at, has_node, has_ring, partition_of, subscribers_of}
use Rattle.mrp_config.specs.declared.tables.PartitionTable.{PartitionTable}
use Rattle.mrp_config.specs.Valid.{IsValid, IsPartition, IncreasesFrom, numbers_of_rings}
use Rattle.mrp_config.specs.Walk.{node_ids, ring_ids}
use Rattle.mrp_config.proofs.Rounds.{round_in_range}
use Rattle.plain_model.specs.Tuples.{round_sizes, next_place, tuple_at, has_rings, is_tuple_of, is_at_or_after, instances, IsOneOf}
use Rattle.plain_model.specs.Fold.{place_with, state_below, answer_of}
use Rattle.plain_model.specs.Lines.{IsWide}
use Rattle.plain_model.proofs.TupleOrder.{split_and, both_true, same_number, next_is_one}
use Rattle.tuple_laws.proofs.NextPlaces.{at-next, next-at}
use Rattle.transcript.specs.declared.line.ShownState.{ShownState}
use Rattle.transcript.specs.declared.line.Line.{Line}
use Rattle.transcript.specs.declared.line.Line.TheVariants.{Learn, Deliver, Reply, Answer, Busy, Begin, Chose, Restore, Saved, Trim, Refuse, BallotLimit, InstanceLimit, AttemptLimit, Down, Up, State, Frame}
use Rattle.line_rules.specs.Scanners.{Restored, life, up_epoch, attempting, unchosen, chosen, before_begin, told, begun, entry_of, Reaches, some_reaches, paired, position, book, learned}
use Rattle.quorums.specs.Groups.{Has}
use Rattle.line_rules.specs.Owed.{owed}
use Rattle.line_rules.specs.Rules.{HasNode, HasRing, HasClient, AllKnown, BySkips, Fits, IsLater, Learns, F1, F2, HasParty, NamesFit, IsInTurn, F3, F4, F5, IsReached, Chooses, Restores, F6, HaveTold, AllHaveTold, F7, Begins, F8, F9}
use Rattle.line_rules.specs.Tests.{is_some_that, is_empty, has_node_of, has_ring_of, has_client_of, is_ready, each_passes, each_between, each_below, is_by_skips, is_reached, is_fit, reaches, is_later, is_wide, agrees, learns, keeps_f1, is_batch, delivers, stands, keeps_f2, is_first, has_party, do_names_fit, is_in_turn, keeps_f3, shows, keeps_f4, keeps_f5, is_trim_reached, chooses, restores, keeps_f6, have_told, all_have_told, keeps_f7, begins, is_past, keeps_f8, refuses, keeps_f9}
use Rattle.line_rules.proofs.Words.{no_true, itself, like, le_decides, nothing, some_same, some_decides, that_decides, at_decides, all_decides, has_decides, among_decides, bytes_decide, attempt_decides, ready_decides, skips_decide, value_decides, node_same, ring_same, client_same}
use Rattle.line_rules.proofs.Printed.{rings_fit, printed_is}
use Rattle.line_rules.proofs.Ranges.{book_learned, Pass, range_decides, between_are, are_between, below_decides}

-- ---- names

node_decides : (c : Config) (node : NodeId) → Decides (has_node_of c node) (HasNode c node)
node_decides c node = some_decides (node_at c.nodes node.0)

ring_decides : (c : Config) (ring : RingId) → Decides (has_ring_of c ring) (HasRing c ring)
ring_decides c ring = some_decides (ring_at c.rings ring.0)

client_decides : (c : Config) (client : ClientId) → Decides (has_client_of c client) (HasClient c client)
client_decides c client = some_decides (client_at c.clients client.0)

-- ---- F1

wide_decides : (value : Value) (lo hi : ℕ) → Decides (is_wide value lo hi) (IsWide value lo hi)
wide_decides Skip lo hi = (λ h. tt, λ h. refl)
wide_decides (Batch batch) lo hi = Decides-eqb hi (lo + 1)

abbrev Agrees : List Line → RingId → ℕ → ℕ → Value → Type 0
Agrees before ring lo hi value = (inst : ℕ) (known : Value) → lo ≤ inst → inst < hi → book before ring inst ≡ Some known → known ≡ value

agrees_decide : (before : List Line) (ring : RingId) (lo hi : ℕ) (value : Value) →
    Decides (each_passes (agrees value) (learned before) ring lo hi) (Agrees before ring lo hi value)
agrees_decide before ring lo hi value = like (each_passes (agrees value) (learned before) ring lo hi) (range_decides (agrees value) ring (learned before) lo hi) to back
  where
    to : Pass (agrees value) ring (learned before) lo hi → Agrees before ring lo hi value
    to h inst known a b e =
        let stands : book_of (learned before) ring inst ≡ Some known = sym (book_learned before ring inst) ∙ e in
        (value_decides known value).0 (sym (ap (λ (o : Option Value). agrees value o) stands) ∙ h inst a b)

    back : Agrees before ring lo hi value → Pass (agrees value) ring (learned before) lo hi
    back h inst a b = go (book_of (learned before) ring inst) refl
      where
        go : (o : Option Value) → book_of (learned before) ring inst ≡ o → agrees value o ≡ true
        go None e = refl
        go (Some known) e = (value_decides known value).1 (h inst known a b (book_learned before ring inst ∙ e))

learns_decides : (c : Config) (before : List Line) (node : NodeId) (ring : RingId) (lo hi : ℕ) (value : Value) →
    Decides (learns c before node ring lo hi value) (Learns c before node ring lo hi value)
learns_decides c before node ring lo hi value =
    like (learns c before node ring lo hi value)
    (Decides-and _ _ (node_decides c node) (Decides-and _ _ (ring_decides c ring) (Decides-and _ _ (Decides-ltb lo hi) (Decides-and _ _ (le_decides hi END)
    (Decides-and _ _ (wide_decides value lo hi) (agrees_decide before ring lo hi value))))))
    (λ h. record { fits_node = h.0; fits_ring = h.1.0; some = h.1.1.0; low = h.1.1.1.0; wide = h.1.1.1.1.0; agrees = h.1.1.1.1.1 })
    (λ r. (r.fits_node, (r.fits_ring, (r.some, (r.low, (r.wide, r.agrees))))))

pub f1_decides : (c : Config) (before : List Line) (line : Line) → Decides (keeps_f1 c before line) (F1 c before line)
f1_decides c before (Learn node ring lo hi value) = learns_decides c before node ring lo hi value
f1_decides c before other = (λ h. tt, λ h. refl)

-- ---- replicas

partition_is : (P : PartitionTable → Type 0) (ps : List PartitionTable) (node : NodeId) (p : PartitionTable) → AllByRecursion P ps → partition_of ps node ≡ Some p → P p
partition_is P [] node p all e = absurd (nothing p e)
partition_is P (q ∷ ps) node p all e = go (has_node q.replicas node.0) (partition_is P ps node p all.1) e
  where
    go : (b : Bool) → (partition_of ps node ≡ Some p → P p) → (if b then Some q else partition_of ps node) ≡ Some p → P p
    go true later e = subst P (some_same q p e) all.0
    go false later e = later e

-- the entries of one of a tuple's rings
ring_in : (rings : List RingId) (tuple : List (RingId × ℕ)) (pair : RingId × ℕ) → has_rings rings tuple ≡ true → IsOneOf pair tuple → has_ring rings pair.0.0 ≡ true
ring_in [] [] pair h one = absurd one
ring_in [] (x ∷ xs) pair h one = no_true h
ring_in (r ∷ rings) [] pair h one = no_true h
ring_in (r ∷ rings) (x ∷ xs) pair h one =
    let s = split_and (r.0 == x.0.0) (has_rings rings xs) h in
    elim one [
      | inl e ↦ ap (λ (b : Bool). if b then true else has_ring rings pair.0.0)
          ((Decides-eqb r.0 pair.0.0).1 (same_number r.0 x.0.0 s.0 ∙ sym (ap (λ (y : RingId × ℕ). y.0.0) e)))
      | inr later ↦ go (r.0 == pair.0.0) (ring_in rings xs pair s.1 later)
    ]
  where
    go : (b : Bool) → has_ring rings pair.0.0 ≡ true → (if b then true else has_ring rings pair.0.0) ≡ true
    go true later = refl
    go false later = later

pub next_in : (m : ℕ → ℕ) (rings : List RingId) (tuple : List (RingId × ℕ)) → 1 ≤ length rings → has_rings rings tuple ≡ true → has_ring rings (next_place m tuple).0.0 ≡ true
next_in m [] tuple some h = absurd (omega arith)
next_in m (r ∷ rings) [] some h = no_true h
next_in m (r ∷ rings) (x ∷ xs) some h = ring_in (r ∷ rings) (x ∷ xs) (next_place m (x ∷ xs)) h (next_is_one m x xs)

-- ---- replies, trims, attempts

first_decides : (node : NodeId) (ring : RingId) (inst index : ℕ) (client : ClientId) (seq : ℕ) (reply : List ℕ) (lines : List Line) →
    Decides (is_first node ring inst index client seq reply lines) ((rest : List Line) × (lines ≡ Reply node ring inst index client seq reply ∷ rest))
first_decides node ring inst index client seq reply [] = (λ h. no_true h, λ p. let e = p.1 in cc)
first_decides node ring inst index client seq reply (Reply node' ring' inst' index' client' seq' reply' ∷ rest) =
    like (is_first node ring inst index client seq reply (Reply node' ring' inst' index' client' seq' reply' ∷ rest))
    (Decides-and _ _ (Decides-eqb node'.0 node.0) (Decides-and _ _ (Decides-eqb ring'.0 ring.0) (Decides-and _ _ (Decides-eqb inst' inst) (Decides-and _ _ (Decides-eqb index' index)
    (Decides-and _ _ (Decides-eqb client'.0 client.0) (Decides-and _ _ (Decides-eqb seq' seq) (bytes_eq-Decides reply' reply)))))))
    (λ h.
    let a : node' ≡ node = node_same node' node h.0 in
    let b : ring' ≡ ring = ring_same ring' ring h.1.0 in
    let d : inst' ≡ inst = h.1.1.0 in
    let f : index' ≡ index = h.1.1.1.0 in
    let g : client' ≡ client = client_same client' client h.1.1.1.1.0 in
    let i : seq' ≡ seq = h.1.1.1.1.1.0 in
    let j : reply' ≡ reply = h.1.1.1.1.1.1 in
    (rest, (cc)))
    (λ p.
    let e = p.1 in
    let a : node' ≡ node = cc in
    let b : ring' ≡ ring = cc in
    let g : client' ≡ client = cc in
    (ap (λ (x : NodeId). x.0) a, (ap (λ (x : RingId). x.0) b, ((cc), ((cc), (ap (λ (x : ClientId). x.0) g, ((cc), (cc))))))))
first_decides node ring inst index client seq reply (other ∷ rest) = (λ h. no_true h, λ p. let e = p.1 in cc)

trim_decides : (rings : List RingId) (printed : List ℕ) (line : Line) → Decides (is_trim_reached rings printed line) (IsReached rings printed line)
trim_decides rings printed (Trim node ring inst) = go (has_ring rings ring.0)
  where
    go : (b : Bool) → Decides (not b || nat_le inst (entry_of rings ring printed)) (b ≡ true → inst ≤ entry_of rings ring printed)
    go true = like (nat_le inst (entry_of rings ring printed)) (le_decides inst (entry_of rings ring printed)) (λ k e. k) (λ k. k refl)
    go false = (λ h e. no_true e, λ k. refl)
trim_decides rings printed other = (λ h. tt, λ h. refl)

reaches_decides : (xs ys : List ℕ) → Decides (reaches xs ys) (Reaches xs ys)
reaches_decides [] [] = (λ h. tt, λ h. refl)
reaches_decides [] (y ∷ ys) = (λ h. no_true h, λ h. absurd h)
reaches_decides (x ∷ xs) [] = (λ h. no_true h, λ h. absurd h)
reaches_decides (x ∷ xs) (y ∷ ys) = Decides-and _ _ (le_decides y x) (reaches_decides xs ys)

later_decides : (a b : ℕ × ℕ) → Decides (is_later a b) (IsLater a b)
later_decides a b = Decides-or _ _ (Decides-ltb b.0 a.0) (Decides-and _ _ (Decides-eqb b.0 a.0) (Decides-ltb b.1 a.1))

-- ---- F2

batch_decides : (o : Option Value) → Decides (is_some_that is_batch o) ((batch : List ℕ) × (o ≡ Some (Batch batch)))
batch_decides None = (λ h. no_true h, λ p. absurd (nothing (Batch p.0) p.1))
batch_decides (Some Skip) = (λ h. no_true h, λ p. absurd (no_skip p.0 p.1))
  where
    no_skip : (batch : List ℕ) → Some Skip ≡ Some (Batch batch) → ⊥
    no_skip batch e = cc
batch_decides (Some (Batch batch)) = (λ h. (batch, refl), λ p. refl)

module _ (c : Config) (before : List Line) where
  abbrev m : ℕ → ℕ
  m = round_sizes c

  abbrev stood : PartitionTable → NodeId → List (RingId × ℕ)
  stood p node = position m p.rings node.0 before

  known_decides : (k : List (RingId × ℕ)) → Decides (each_below is_some (learned before) k) (AllKnown before k)
  known_decides k =
      like (each_below is_some (learned before) k) (below_decides is_some (learned before) k)
      (λ h place b.
      let s = (some_decides (book_of (learned before) place.ring place.inst)).0 (h place b) in
      (s.0, book_learned before place.ring place.inst ∙ s.1))
      (λ h place b. (some_decides (book_of (learned before) place.ring place.inst)).1 ((h place b).0, sym (book_learned before place.ring place.inst) ∙ (h place b).1))

  skips_decides : (rings : List RingId) → IncreasesFrom 0 (numbers_of_rings rings) → (k k' : List (RingId × ℕ)) →
      Decides (is_by_skips m rings (learned before) k k') (BySkips m rings before k k')
  skips_decides rings rise k k' = (to, back)
    where
      to : is_by_skips m rings (learned before) k k' ≡ true → BySkips m rings before k k'
      to h =
          let from = split_and (is_tuple_of m rings k) (is_tuple_of m rings k' && (is_at_or_after k' k && each_between (is_some_that is_skip) (learned before) k' k)) h in
          let upto = split_and (is_tuple_of m rings k') (is_at_or_after k' k && each_between (is_some_that is_skip) (learned before) k' k) from.1 in
          let after = split_and (is_at_or_after k' k) (each_between (is_some_that is_skip) (learned before) k' k) upto.1 in
          record {
            from = from.0;
            to = upto.0;
            after = after.0;
            skips = λ place b n. book_learned before place.ring place.inst ∙ (skips_decide (book_of (learned before) place.ring place.inst)).0
                (between_are (is_some_that is_skip) (learned before) 0 rings k' k rise (rings_fit m rings k' upto.0) (rings_fit m rings k from.0) after.1 place b n);
          }

      back : BySkips m rings before k k' → is_by_skips m rings (learned before) k k' ≡ true
      back s =
          both_true (is_tuple_of m rings k) (is_tuple_of m rings k' && (is_at_or_after k' k && each_between (is_some_that is_skip) (learned before) k' k)) s.from
          (both_true (is_tuple_of m rings k') (is_at_or_after k' k && each_between (is_some_that is_skip) (learned before) k' k) s.to
          (both_true (is_at_or_after k' k) (each_between (is_some_that is_skip) (learned before) k' k) s.after
          (are_between (is_some_that is_skip) (learned before) rings k' k (rings_fit m rings k' s.to) (rings_fit m rings k s.from)
          (λ place b n. (skips_decide (book_of (learned before) place.ring place.inst)).1 (sym (book_learned before place.ring place.inst) ∙ s.skips place b n)))))

  module _ (valid : IsValid c) where
    rounds : (r : ℕ) → 0 < m r
    rounds r = (round_in_range c valid (record { 0 = r })).0

    own : (node : NodeId) (p : PartitionTable) → partition_of c.partitions node ≡ Some p → IsPartition (node_ids c.nodes) (ring_ids c.rings) p
    own node p e = partition_is (IsPartition (node_ids c.nodes) (ring_ids c.rings)) c.partitions node p valid.partitions.each e

    module _ (node : NodeId) (p : PartitionTable) (e : partition_of c.partitions node ≡ Some p) where
      abbrev Placed : RingId → ℕ → Type 0
      Placed ring inst = (tuple : List (RingId × ℕ)) × ((next_place m tuple ≡ (ring, inst)) × BySkips m p.rings before (stood p node) tuple)

      pub some_rings : 1 ≤ length p.rings
      some_rings = (own node p e).some.0

      -- a valid tuple is that of its next place
      pub same_tuple : (ring : RingId) (inst : ℕ) (tuple : List (RingId × ℕ)) → next_place m tuple ≡ (ring, inst) → is_tuple_of m p.rings tuple ≡ true → tuple_at m p.rings (place_with ring inst) ≡ tuple
      same_tuple ring inst tuple n v = ap (λ (x : RingId × ℕ). tuple_at m p.rings (place_with x.0 x.1)) (sym n) ∙ at-next m p.rings tuple rounds v

      placed_decides : (ring : RingId) (inst : ℕ) → Decides (has_ring p.rings ring.0 && is_reached c before node p (tuple_at m p.rings (place_with ring inst))) (Placed ring inst)
      placed_decides ring inst =
          like (has_ring p.rings ring.0 && is_reached c before node p (tuple_at m p.rings (place_with ring inst)))
          (Decides-and _ _ (itself (has_ring p.rings ring.0)) (skips_decides p.rings (own node p e).increase (stood p node) (tuple_at m p.rings (place_with ring inst))))
          (λ h. (tuple_at m p.rings (place_with ring inst), (next h.0, h.1)))
          (λ q. (has q.0 q.1.0 q.1.1.to, subst (λ (k : List (RingId × ℕ)). BySkips m p.rings before (stood p node) k) (sym (same_tuple ring inst q.0 q.1.0 q.1.1.to)) q.1.1))
        where
          next : has_ring p.rings ring.0 ≡ true → next_place m (tuple_at m p.rings (place_with ring inst)) ≡ (ring, inst)
          next h = let as_pair : Place → RingId × ℕ = λ x. (x.ring, x.inst) in ap as_pair (next-at m p.rings (place_with ring inst) rounds h)

          has : (tuple : List (RingId × ℕ)) → next_place m tuple ≡ (ring, inst) → is_tuple_of m p.rings tuple ≡ true → has_ring p.rings ring.0 ≡ true
          has tuple n v = subst (λ (x : RingId × ℕ). has_ring p.rings x.0.0 ≡ true) n (next_in m p.rings tuple some_rings (rings_fit m p.rings tuple v))

      abbrev DeliversAt : RingId → ℕ → Type 0
      DeliversAt ring inst = (life node.0 before ≡ Some Restored) × (((batch : List ℕ) × (book before ring inst ≡ Some (Batch batch))) × Placed ring inst)

      delivers_decides : (ring : RingId) (inst : ℕ) → Decides (delivers c before node ring inst p) (DeliversAt ring inst)
      delivers_decides ring inst = Decides-and _ _ (ready_decides node before) (Decides-and _ _ (batch_decides (book before ring inst)) (placed_decides ring inst))

      abbrev StandsAt : List ℕ → Type 0
      StandsAt printed = (life node.0 before ≡ Some Restored) × ((tuple : List (RingId × ℕ)) × ((printed ≡ instances tuple) × BySkips m p.rings before (stood p node) tuple))

      tuple_shown : (printed : List ℕ) (s : StandsAt printed) → paired p.rings printed ≡ s.1.0
      tuple_shown printed s = printed_is m p.rings printed s.1.0 s.1.1.1.to s.1.1.0

      stands_decides : (printed : List ℕ) → Decides (stands c before node printed p) (StandsAt printed)
      stands_decides printed =
          like (stands c before node printed p)
          (Decides-and _ _ (ready_decides node before) (Decides-and _ _ (bytes_eq-Decides printed (instances (paired p.rings printed)))
          (skips_decides p.rings (own node p e).increase (stood p node) (paired p.rings printed))))
          (λ h. (h.0, (paired p.rings printed, (h.1.0, h.1.1))))
          (λ s. (
            s.0,
            (
              s.1.1.0 ∙ ap (λ (k : List (RingId × ℕ)). instances k) (sym (tuple_shown printed s)),
              subst (λ (k : List (RingId × ℕ)). BySkips m p.rings before (stood p node) k) (sym (tuple_shown printed s)) s.1.1.1,
            ),
          ))

      abbrev ShowsAt : ShownState → Type 0
      ShowsAt shown = (s : StandsAt shown.tuple) × (state_below m (learned before) p s.1.0 ≡ Some shown.bytes)

      shows_decides : (shown : ShownState) → Decides (shows c before node shown p) (ShowsAt shown)
      shows_decides shown =
          like (shows c before node shown p)
          (Decides-and _ _ (stands_decides shown.tuple) (bytes_decide shown.bytes (state_below m (learned before) p (paired p.rings shown.tuple))))
          (λ h. (h.0, subst (λ (k : List (RingId × ℕ)). state_below m (learned before) p k ≡ Some shown.bytes) (tuple_shown shown.tuple h.0) h.1))
          (λ q. (q.0, subst (λ (k : List (RingId × ℕ)). state_below m (learned before) p k ≡ Some shown.bytes) (sym (tuple_shown shown.tuple q.0)) q.1))

    pub f2_decides : (line : Line) → Decides (keeps_f2 c before line) (F2 c before line)
    f2_decides (Deliver node ring inst) =
        like (is_some_that (delivers c before node ring inst) (partition_of c.partitions node))
        (that_decides (delivers c before node ring inst) (λ (p : PartitionTable). (life node.0 before ≡ Some Restored) × (((batch : List ℕ) × (book before ring inst ≡ Some (Batch batch))) × ((tuple : List (RingId × ℕ)) × ((next_place m tuple ≡ (ring, inst)) × BySkips m p.rings before (stood p node) tuple)))) (partition_of c.partitions node) (λ p e. delivers_decides node p e ring inst))
        (λ h. record { partition = h.0; replica = h.1.0; ready = h.1.1.0; batch = h.1.1.1.0.0; holds = h.1.1.1.0.1; tuple = h.1.1.1.1.0; next = h.1.1.1.1.1.0; reached = h.1.1.1.1.1.1 })
        (λ r. (r.partition, (r.replica, (r.ready, ((r.batch, r.holds), (r.tuple, (r.next, r.reached)))))))
    f2_decides (Saved node printed) =
        like (is_some_that (stands c before node printed) (partition_of c.partitions node))
        (that_decides (stands c before node printed) (λ (p : PartitionTable). (life node.0 before ≡ Some Restored) × ((tuple : List (RingId × ℕ)) × ((printed ≡ instances tuple) × BySkips m p.rings before (stood p node) tuple))) (partition_of c.partitions node) (λ p e. stands_decides node p e printed))
        (λ h. record { partition = h.0; replica = h.1.0; ready = h.1.1.0; tuple = h.1.1.1.0; shown = h.1.1.1.1.0; reached = h.1.1.1.1.1 })
        (λ r. (r.partition, (r.replica, (r.ready, (r.tuple, (r.shown, r.reached))))))
    f2_decides other = (λ h. tt, λ h. refl)

    pub f4_decides : (line : Line) → Decides (keeps_f4 c before line) (F4 c before line)
    f4_decides (State node (Some shown)) =
        like (is_some_that (shows c before node shown) (partition_of c.partitions node))
        (that_decides (shows c before node shown)
        (λ (p : PartitionTable). (s : (life node.0 before ≡ Some Restored) × ((tuple : List (RingId × ℕ)) × ((shown.tuple ≡ instances tuple) × BySkips m p.rings before (stood p node) tuple))) × (state_below m (learned before) p s.1.0 ≡ Some shown.bytes))
        (partition_of c.partitions node) (λ p e. shows_decides node p e shown))
        (λ h. record {
          stands = record { partition = h.0; replica = h.1.0; ready = h.1.1.0.0; tuple = h.1.1.0.1.0; shown = h.1.1.0.1.1.0; reached = h.1.1.0.1.1.1 };
          bytes = h.1.1.1;
        })
        (λ r. (r.stands.partition, (r.stands.replica, ((r.stands.ready, (r.stands.tuple, (r.stands.shown, r.stands.reached))), r.bytes))))
    f4_decides (State node None) =
        like (has_node_of c node && not (is_ready node before))
        (Decides-and _ _ (node_decides c node) (Decides-not _ (ready_decides node before)))
        (λ h. record { fits_node = h.0; closed = h.1 })
        (λ r. (r.fits_node, r.closed))
    f4_decides other = (λ h. tt, λ h. refl)

  -- ---- F3

  empty_decides : (lines : List Line) → Decides (is_empty lines) (lines ≡ [])
  empty_decides [] = (λ h. refl, λ h. refl)
  empty_decides (line ∷ lines) = (λ h. no_true h, λ e. cc)

  party_decides : (party : Party) → Decides (has_party c party) (HasParty c party)
  party_decides (Node node) = node_decides c node
  party_decides (Client client) = client_decides c client

  names_decide : (line : Line) → Decides (do_names_fit c line) (NamesFit c line)
  names_decide (Reply node ring inst index client seq reply) =
      like (has_node_of c node && (has_ring_of c ring && has_client_of c client))
      (Decides-and _ _ (node_decides c node) (Decides-and _ _ (ring_decides c ring) (client_decides c client)))
      (λ h. (h.0, h.1.0, h.1.1)) (λ n. (n.0, (n.1, n.2)))
  names_decide (Busy client seq) = client_decides c client
  names_decide (BallotLimit node ring) = Decides-and _ _ (node_decides c node) (ring_decides c ring)
  names_decide (InstanceLimit node ring) = Decides-and _ _ (node_decides c node) (ring_decides c ring)
  names_decide (AttemptLimit node) = node_decides c node
  names_decide (Down node cause) = node_decides c node
  names_decide (Up node epoch) = node_decides c node
  names_decide (Frame number (Some shown)) = Decides-and _ _ (party_decides shown.from) (party_decides shown.to)
  names_decide other = (λ h. tt, λ h. refl)

  turn_decides : (line : Line) → Decides (is_in_turn c before line) (IsInTurn c before line)
  turn_decides (Reply node ring inst index client seq reply) =
      like (is_first node ring inst index client seq reply (owed c before)) (first_decides node ring inst index client seq reply (owed c before))
      (λ h. record { rest = h.0; next = h.1 }) (λ r. (r.rest, r.next))
  turn_decides other = empty_decides (owed c before)

  pub f3_decides : (line : Line) → Decides (keeps_f3 c before line) (F3 c before line)
  f3_decides line = like (is_in_turn c before line && do_names_fit c line) (Decides-and _ _ (turn_decides line) (names_decide line))
      (λ h. record { turn = h.0; names = h.1 }) (λ r. (r.turn, r.names))

  -- ---- F5

  pub f5_decides : (line : Line) → Decides (keeps_f5 c before line) (F5 c before line)
  f5_decides (Answer client seq reply) =
      like (has_client_of c client && is_some_that (bytes_eq reply) (answer_of c (learned before) client seq))
      (Decides-and _ _ (client_decides c client) (bytes_decide reply (answer_of c (learned before) client seq)))
      (λ h. record { fits_client = h.0; answer = h.1 }) (λ r. (r.fits_client, r.answer))
  f5_decides other = (λ h. tt, λ h. refl)

  -- ---- F6

  fit_decides : (p : PartitionTable) (printed : List ℕ) → Decides (is_fit c p printed) (Fits m p printed)
  fit_decides p printed =
      like (is_fit c p printed)
      (Decides-and _ _ (bytes_eq-Decides printed (instances (paired p.rings printed))) (itself (is_tuple_of m p.rings (paired p.rings printed))))
      (λ h. record { tuple = paired p.rings printed; valid = h.1; shown = h.0 })
      (λ f. let same : paired p.rings printed ≡ f.tuple = printed_is m p.rings printed f.tuple f.valid f.shown in
      (f.shown ∙ ap (λ (k : List (RingId × ℕ)). instances k) (sym same), subst (λ (k : List (RingId × ℕ)). is_tuple_of m p.rings k ≡ true) (sym same) f.valid))

  chooses_decides : (node : NodeId) (epoch attempt : ℕ) (printed : List ℕ) (from : NodeId) →
      Decides (is_some_that (chooses c before node epoch attempt printed from) (partition_of c.partitions node)) (Chooses c before node epoch attempt printed from)
  chooses_decides node epoch attempt printed from =
      like (is_some_that (chooses c before node epoch attempt printed from) (partition_of c.partitions node))
      (that_decides (chooses c before node epoch attempt printed from)
      (λ (p : PartitionTable). Fits m p printed × ((attempting node.0 before ≡ Some (Some (epoch, attempt))) × (((earlier : List Line) × ((before_begin node.0 before ≡ Some earlier) × AllByRecursion (IsReached p.rings printed) earlier)) × ((has_node p.replicas from.0 ≡ true) × Has (told from.0 before) printed))))
      (partition_of c.partitions node)
      (λ p e. Decides-and _ _ (fit_decides p printed) (Decides-and _ _ (attempt_decides epoch attempt (attempting node.0 before))
      (Decides-and _ _ (that_decides (list_all (is_trim_reached p.rings printed)) (λ (earlier : List Line). AllByRecursion (IsReached p.rings printed) earlier) (before_begin node.0 before)
      (λ earlier b. all_decides (is_trim_reached p.rings printed) (λ (line : Line). IsReached p.rings printed line) (λ line. trim_decides p.rings printed line) earlier))
      (Decides-and _ _ (itself (has_node p.replicas from.0)) (among_decides printed (told from.0 before)))))))
      (λ h. record { partition = h.0; replica = h.1.0; fits = h.1.1.0; current = h.1.1.1.0; earlier = h.1.1.1.1.0.0; begins = h.1.1.1.1.0.1.0; trims = h.1.1.1.1.0.1.1; other = h.1.1.1.1.1.0; told = h.1.1.1.1.1.1 })
      (λ r. (r.partition, (r.replica, (r.fits, (r.current, ((r.earlier, (r.begins, r.trims)), (r.other, r.told)))))))

  restores_decides : (node : NodeId) (printed : List ℕ) → Decides (is_some_that (restores c before node printed) (partition_of c.partitions node)) (Restores c before node printed)
  restores_decides node printed =
      like (is_some_that (restores c before node printed) (partition_of c.partitions node))
      (that_decides (restores c before node printed)
      (λ (p : PartitionTable). Fits m p printed × ((life node.0 before ≡ Some Restored → ⊥) × (chosen node.0 before ≡ Some (Some printed))))
      (partition_of c.partitions node)
      (λ p e. Decides-and _ _ (fit_decides p printed) (Decides-and _ _ (Decides-not _ (ready_decides node before))
      (at_decides (is_some_that (bytes_eq printed)) (Some printed) (λ o. bytes_decide printed o) (chosen node.0 before)))))
      (λ h. record { partition = h.0; replica = h.1.0; fits = h.1.1.0; recovering = h.1.1.1.0; choice = h.1.1.1.1 })
      (λ r. (r.partition, (r.replica, (r.fits, (r.recovering, r.choice)))))

  pub f6_decides : (line : Line) → Decides (keeps_f6 c before line) (F6 c before line)
  f6_decides (Chose node epoch attempt printed from) = chooses_decides node epoch attempt printed from
  f6_decides (Restore node printed) = restores_decides node printed
  f6_decides other = (λ h. tt, λ h. refl)

  -- ---- F7

  told_decides : (ring : RingId) (inst : ℕ) (ps : List PartitionTable) → Decides (all_have_told before ring inst ps) (AllHaveTold before ring inst ps)
  told_decides ring inst [] = (λ h. no_true h, λ h. absurd h)
  told_decides ring inst (p ∷ ps) =
      all_decides (have_told before ring inst) (λ (q : PartitionTable). HaveTold before ring inst q)
      (λ q. le_decides q.trim_quorum (count_by (λ (node : NodeId). some_reaches q.rings ring inst (told node.0 before)) q.replicas)) (p ∷ ps)

  pub f7_decides : (line : Line) → Decides (keeps_f7 c before line) (F7 c before line)
  f7_decides (Trim node ring inst) =
      like (has_node_of c node && (has_ring_of c ring && all_have_told before ring inst (subscribers_of c.partitions ring)))
      (Decides-and _ _ (node_decides c node) (Decides-and _ _ (ring_decides c ring) (told_decides ring inst (subscribers_of c.partitions ring))))
      (λ h. record { fits_node = h.0; fits_ring = h.1.0; told = h.1.1 })
      (λ r. (r.fits_node, (r.fits_ring, r.told)))
  f7_decides other = (λ h. tt, λ h. refl)

  -- ---- F8

  begins_decides : (node : NodeId) (epoch attempt : ℕ) (printed : List ℕ) →
      Decides (is_some_that (begins c before node epoch attempt printed) (partition_of c.partitions node)) (Begins c before node epoch attempt printed)
  begins_decides node epoch attempt printed =
      like (is_some_that (begins c before node epoch attempt printed) (partition_of c.partitions node))
      (that_decides (begins c before node epoch attempt printed)
      (λ (p : PartitionTable). Fits m p printed × (((earlier : List ℕ) → Has (told node.0 before) earlier → Reaches printed earlier) × ((up_epoch node.0 before ≡ Some (Some epoch)) × (((other : ℕ × ℕ) → Has (begun node.0 before) other → IsLater (epoch, attempt) other) × AllKnown before (paired p.rings printed)))))
      (partition_of c.partitions node)
      (λ p e. Decides-and _ _ (fit_decides p printed) (Decides-and _ _ (has_decides (reaches printed) (λ (earlier : List ℕ). Reaches printed earlier) (λ earlier. reaches_decides printed earlier) (told node.0 before))
      (Decides-and _ _ (at_decides (is_some_that (λ (n : ℕ). n == epoch)) (Some epoch) (λ o. at_decides (λ (n : ℕ). n == epoch) epoch (λ n. Decides-eqb n epoch) o) (up_epoch node.0 before))
      (Decides-and _ _ (has_decides (is_later (epoch, attempt)) (λ (other : ℕ × ℕ). IsLater (epoch, attempt) other) (λ other. later_decides (epoch, attempt) other) (begun node.0 before))
      (known_decides (paired p.rings printed)))))))
      (λ h. record {
        partition = h.0;
        replica = h.1.0;
        tuple = h.1.1.0.tuple;
        valid = h.1.1.0.valid;
        shown = h.1.1.0.shown;
        later = h.1.1.1.0;
        up = h.1.1.1.1.0;
        fresh = h.1.1.1.1.1.0;
        known = subst (λ (k : List (RingId × ℕ)). AllKnown before k) (printed_is m h.0.rings printed h.1.1.0.tuple h.1.1.0.valid h.1.1.0.shown) h.1.1.1.1.1.1;
      })
      (λ r. (
        r.partition,
        (
          r.replica,
          (
            record { tuple = r.tuple; valid = r.valid; shown = r.shown },
            (
              r.later,
              (
                r.up,
                (
                  r.fresh,
                  subst (λ (k : List (RingId × ℕ)). AllKnown before k) (sym (printed_is m r.partition.rings printed r.tuple r.valid r.shown)) r.known,
                ),
              ),
            ),
          ),
        ),
      ))

  pub f8_decides : (line : Line) → Decides (keeps_f8 c before line) (F8 c before line)
  f8_decides (Begin node epoch attempt printed) = begins_decides node epoch attempt printed
  f8_decides (Saved node printed) =
      has_decides (is_past printed) (λ (earlier : List ℕ). Reaches printed earlier × (Reaches earlier printed → ⊥))
      (λ earlier. Decides-and _ _ (reaches_decides printed earlier) (Decides-not _ (reaches_decides earlier printed))) (told node.0 before)
  f8_decides other = (λ h. tt, λ h. refl)

  -- ---- F9

  pub f9_decides : (line : Line) → Decides (keeps_f9 c before line) (F9 c before line)
  f9_decides (Refuse node epoch attempt answered needed) =
      like (is_some_that (refuses before node epoch attempt answered needed) (partition_of c.partitions node))
      (that_decides (refuses before node epoch attempt answered needed)
      (λ (p : PartitionTable). (unchosen node.0 before ≡ Some (Some (epoch, attempt))) × ((needed ≡ p.recovery_quorum) × (answered < needed)))
      (partition_of c.partitions node)
      (λ p e. Decides-and _ _ (attempt_decides epoch attempt (unchosen node.0 before)) (Decides-and _ _ (Decides-eqb needed p.recovery_quorum) (Decides-ltb answered needed))))
      (λ h. record { partition = h.0; replica = h.1.0; current = h.1.1.0; quorum = h.1.1.1.0; few = h.1.1.1.1 })
      (λ r. (r.partition, (r.replica, (r.current, (r.quorum, r.few)))))
  f9_decides other = (λ h. tt, λ h. refl)
