-- The step takes what the replica takes.
use Rattle.std.proofs.Common.{arith, ◌≡◌, ℕ, zero, suc, ◌+◌, ◌-◌, ◌^◌, ◌<◌, ◌≤◌, ◌==◌, inl, inr, Bool, true, false, if◌then◌else◌, List, [], ◌∷◌, ◌++◌, map, refl, sym, ap, subst, ◌∙◌}
use Rattle.std.specs.Prelude.{Option, Some, None}
use Rattle.std.proofs.Math.Path.{ap₂}
use Rattle.mrp_types.specs.declared.id.NodeId.{NodeId}
use Rattle.mrp_types.specs.declared.id.RingId.{RingId}
use Rattle.mrp_types.specs.declared.place.Place.{Place}
use Rattle.mrp_types.specs.declared.value.Value.{Value}
use Rattle.mrp_types.specs.declared.value.Value.TheVariants.{Batch}
use Rattle.mrp_types.specs.declared.value.Entry.{Entry}
use Rattle.mrp_types.specs.Rounds.{size_of}
use Rattle.mrp_types.specs.Tuples.{IsTuple}
use Rattle.mrp_types.specs.Moves.{next_place, past, rings_of, count_below, IsOneOf}
use Rattle.mrp_types.proofs.TupleOrder.{next_is_one}
use Rattle.mrp_types.proofs.TupleMoves.{itself}
use Rattle.mrp_config.specs.declared.tables.PartitionTable.{PartitionTable}
use Rattle.mrp_config.specs.Config.{Config, has_ring}
use Rattle.frames.specs.declared.sent.Sent.{Sent}
use Rattle.plain_model.specs.Fold.{known_entries}
use Rattle.plain_model.specs.Replicas.{Replica, AppliedAll, applies, entries_of_batch}
use Rattle.plain_model.specs.Tuples.{round_sizes}
use Rattle.protocol.specs.Lines.{Line}
use Rattle.protocol.specs.Lines.{Deliver as DeliverLine}
use Rattle.protocol.specs.Node.{StepSoFar, View, Service, Ready, Standing, with_stage}
use Rattle.protocol.specs.Merging.{merges, merges_up_to, delivers, delivers_applied, reply_line}
use Rattle.merge.specs.Merged.{learned_at, Delivers, Waits}
use Rattle.merge.specs.Steps.{Agree}
use Rattle.merge.proofs.Stepping.{passes_skips, delivers_batch, ends_there}
use Rattle.delivery.specs.declared.batch.Delivery.{Delivery}
use Rattle.delivery.specs.Told.{Told, pair_of, reply_sent}
use Rattle.delivery.specs.Readied.{Readied, AreSizesOf, Fits, with_all}
use Rattle.delivery.proofs.Alike.{delivers_alike, waits_alike, nexts_low}
use Rattle.delivery.proofs.Counts.{delivers_counted, waits_counted}

-- a step on its way with these lines and replies, whose replica is ready there
abbrev pub so_far : List Line → List Sent → Service → Standing → StepSoFar → StepSoFar
so_far lines sent service standing a = with_all lines sent (with_stage service (Ready standing) a)

-- ---- one delivery

-- what the lines and replies are then
told_line : (lines new_lines : List Line) (node other : NodeId) (place : Place) (pair : RingId × ℕ) (replied : List (ℕ × Entry × List ℕ)) → other ≡ node → pair ≡ pair_of place →
    new_lines ≡ (lines ++ DeliverLine node place.ring place.inst ∷ []) ++ map (reply_line node (pair_of place)) replied →
    (lines ++ DeliverLine other pair.0 pair.1 ∷ []) ++ map (reply_line other pair) replied ≡ new_lines
told_line lines new_lines node other place pair replied own there is =
    ap₂ (λ (n : NodeId) (q : RingId × ℕ). (lines ++ DeliverLine n q.0 q.1 ∷ []) ++ map (reply_line n q) replied) own there ∙ sym is

-- what a delivery leaves, of a node and a partition, at a place
abbrev left_by : List Line → List Sent → Service → StepSoFar → ℕ → RingId × ℕ → List (RingId × ℕ) → AppliedAll → StepSoFar
left_by lines sent service a delivered pair next done =
    so_far ((lines ++ DeliverLine a.view.id pair.0 pair.1 ∷ []) ++ map (reply_line a.view.id pair) done.replies) (sent ++ map (reply_sent a.view.id service.partition.id) done.replies) service
    (record { tuple = next; replica = done.replica; delivered = delivered }) a

-- the replica that takes a batch, and the protocol's
delivers_so : (config : Config) (service : Service) (a : StepSoFar) (ready : Readied) (node : NodeId) (place : Place) (stop next : List (RingId × ℕ)) (batch : List ℕ) (entries : List Entry)
    (lines new_lines : List Line) (sent new_sent : List Sent) →
    a.view.id ≡ node → service.partition ≡ ready.partition → next_place (round_sizes config) stop ≡ pair_of place → past (round_sizes config) stop ≡ next → entries ≡ entries_of_batch batch →
    Told (record { own = node; partition = ready.partition.id; place = place }) (applies ready.partition ready.standing.replica entries).replies (lines ++ DeliverLine node place.ring place.inst ∷ []) new_lines sent new_sent →
    delivers config (record service { stage = Ready (record ready.standing { tuple = stop }) }) (record ready.standing { tuple = stop }) (next_place (round_sizes config) stop) batch
    (so_far lines sent service (record ready.standing { tuple = stop }) a)
    ≡ so_far new_lines new_sent service (record { tuple = next; replica = (applies ready.partition ready.standing.replica entries).replica; delivered = ready.standing.delivered + 1 }) a
delivers_so config service a ready node place stop next batch entries lines new_lines sent new_sent own partition there moved known told =
    ap (λ (t : List (RingId × ℕ)). left_by lines sent service a (ready.standing.delivered + 1) (next_place (round_sizes config) stop) t (applies service.partition ready.standing.replica (entries_of_batch batch))) moved
    ∙ ap (λ (d : AppliedAll). left_by lines sent service a (ready.standing.delivered + 1) (next_place (round_sizes config) stop) next d) same
    ∙ ap₂ (λ (ls : List Line) (fs : List Sent). so_far ls fs service (record { tuple = next; replica = (applies ready.partition ready.standing.replica entries).replica; delivered = ready.standing.delivered + 1 }) a)
    (told_line lines new_lines node a.view.id place (next_place (round_sizes config) stop) (applies ready.partition ready.standing.replica entries).replies own there told.lines)
    frames
  where
    same : applies service.partition ready.standing.replica (entries_of_batch batch) ≡ applies ready.partition ready.standing.replica entries
    same = ap₂ (λ (p : PartitionTable) (es : List Entry). applies p ready.standing.replica es) partition (sym known)

    frames : sent ++ map (reply_sent a.view.id service.partition.id) (applies ready.partition ready.standing.replica entries).replies ≡ new_sent
    frames = ap₂ (λ (n : NodeId) (p : PartitionTable). sent ++ map (reply_sent n p.id) (applies ready.partition ready.standing.replica entries).replies) own partition ∙ sym told.sent

pub delivers_one : (config : Config) (service : Service) (a : StepSoFar) (ready : Readied) (node : NodeId) (maps : List (List (ℕ × Value))) (place : Place) (next : List (RingId × ℕ)) (entries : List Entry)
    (lines new_lines : List Line) (sent new_sent : List Sent) (fuel : ℕ) → Fits config service a.view node maps ready → IsTuple ready.standing.tuple → (d : Delivers (round_sizes config) maps ready.standing.tuple place next) →
    entries ≡ known_entries (learned_at (rings_of ready.standing.tuple) maps (pair_of place)) →
    Told (record { own = node; partition = ready.partition.id; place = place }) (applies ready.partition ready.standing.replica entries).replies (lines ++ DeliverLine node place.ring place.inst ∷ []) new_lines sent new_sent →
    merges_up_to (d.finds.passes.count + suc fuel) config (so_far lines sent service ready.standing a)
    ≡ merges_up_to fuel config (so_far new_lines new_sent service (record { tuple = next; replica = (applies ready.partition ready.standing.replica entries).replica; delivered = ready.standing.delivered + 1 }) a)
delivers_one config service a ready node maps place next entries lines new_lines sent new_sent fuel fits is d known told =
    passes_skips config service ready.standing (with_all lines sent a) maps ready.standing.tuple d.stop fits.learned d.finds.passes (suc fuel)
    ∙ delivers_batch config service ready.standing (with_all lines sent a) maps ready.standing.tuple d.stop place fits.learned d.finds fuel
    ∙ ap (λ (b : StepSoFar). merges_up_to fuel config b)
    (delivers_so config service a ready node place d.stop next d.finds.batch entries lines new_lines sent new_sent fits.own fits.partition there d.moved
    (known ∙ ap (λ (x : RingId × ℕ). known_entries (learned_at (rings_of ready.standing.tuple) maps x)) (sym there) ∙ ap (λ (o : Option Value). known_entries o) d.finds.holds) told)
  where
    there : next_place (round_sizes config) d.stop ≡ pair_of place
    there = ap pair_of d.finds.next

-- ---- the ring of the next place

one_has : (pair : RingId × ℕ) (pairs : List (RingId × ℕ)) → IsOneOf pair pairs → has_ring (rings_of pairs) pair.0.0 ≡ true
one_has pair [] one = absurd one
one_has pair (x ∷ pairs) (inl same) = ap (λ (t : Bool). if t then true else has_ring (rings_of pairs) pair.0.0) (ap (λ (y : RingId × ℕ). x.0.0 == y.0.0) same ∙ itself x.0.0)
one_has pair (x ∷ pairs) (inr there) = by (x.0.0 == pair.0.0) (one_has pair pairs there)
  where
    by : (t : Bool) → has_ring (rings_of pairs) pair.0.0 ≡ true → (if t then true else has_ring (rings_of pairs) pair.0.0) ≡ true
    by true later = refl
    by false later = later

next_has : (m : ℕ → ℕ) (tuple next : List (RingId × ℕ)) → IsTuple tuple → rings_of next ≡ rings_of tuple → has_ring (rings_of tuple) (next_place m next).0.0 ≡ true
next_has m [] next is same = absurd (omega (arith, is.some))
next_has m (x ∷ pairs) [] is same = absurd (cc)
next_has m (x ∷ pairs) (y ∷ rest) is same = subst (λ (rings : List RingId). has_ring rings (next_place m (y ∷ rest)).0.0 ≡ true) same (one_has (next_place m (y ∷ rest)) (y ∷ rest) (next_is_one m y rest))

-- ---- all of them

abbrev pub fuel_left : List (RingId × ℕ) → List (RingId × ℕ) → ℕ
fuel_left old now = 2 ^ 44 + 1 - (count_below now - count_below old)

-- What the step still has to do from where the replica is, is the whole of what it has to do.
pub record Going (config : Config) (service : Service) (a : StepSoFar) (old now : Standing) (old_lines lines : List Line) (old_sent sent : List Sent) : Type 0 where
  pub same : merges config (so_far old_lines old_sent service old a) ≡ merges_up_to (fuel_left old.tuple now.tuple) config (so_far lines sent service now a)

pub begins : (config : Config) (service : Service) (a : StepSoFar) (old : Standing) (lines : List Line) (sent : List Sent) → Going config service a old old lines lines sent sent
unfolding merges
begins config service a old lines sent = record { same = ap (λ (n : ℕ). merges_up_to n config (so_far lines sent service old a)) all }
  where
    all : 2 ^ 44 + 1 ≡ fuel_left old.tuple old.tuple
    all = omega arith

pub goes : (config : Config) (service : Service) (a : StepSoFar) (old : Standing) (ready : Readied) (node : NodeId) (maps : List (List (ℕ × Value))) (place : Place) (next : List (RingId × ℕ)) (entries : List Entry)
    (old_lines lines new_lines : List Line) (old_sent sent new_sent : List Sent) → Fits config service a.view node maps ready → IsTuple ready.standing.tuple →
    Delivers (size_of ready.sizes) maps ready.standing.tuple place next → count_below old.tuple ≤ count_below ready.standing.tuple → count_below next ≤ 2 ^ 44 →
    entries ≡ known_entries (learned_at (rings_of ready.standing.tuple) maps (pair_of place)) →
    Told (record { own = node; partition = ready.partition.id; place = place }) (applies ready.partition ready.standing.replica entries).replies (lines ++ DeliverLine node place.ring place.inst ∷ []) new_lines sent new_sent →
    Going config service a old ready.standing old_lines lines old_sent sent →
    Going config service a old (record { tuple = next; replica = (applies ready.partition ready.standing.replica entries).replica; delivered = ready.standing.delivered + 1 }) old_lines new_lines old_sent new_sent
goes config service a old ready node maps place next entries old_lines lines new_lines old_sent sent new_sent fits is delivered after few known told going = record {
  same = going.same ∙ ap (λ (n : ℕ). merges_up_to n config (so_far lines sent service ready.standing a)) fuel
      ∙ delivers_one config service a ready node maps place next entries lines new_lines sent new_sent (fuel_left old.tuple next) fits is d known told;
}
  where
    d : Delivers (round_sizes config) maps ready.standing.tuple place next
    d = delivers_alike (size_of ready.sizes) (round_sizes config) maps ready.standing.tuple next place fits.sizes (nexts_low 0 ready.standing.tuple is.nexts) delivered

    fuel : fuel_left old.tuple ready.standing.tuple ≡ d.finds.passes.count + suc (fuel_left old.tuple next)
    fuel = omega (arith, delivers_counted (round_sizes config) maps ready.standing.tuple next place is d, after, few)

pub ends : (config : Config) (service : Service) (a : StepSoFar) (old : Standing) (ready : Readied) (node : NodeId) (maps : List (List (ℕ × Value))) (ring : RingId) (next : List (RingId × ℕ))
    (old_lines lines : List Line) (old_sent sent : List Sent) → Fits config service a.view node maps ready → IsTuple ready.standing.tuple → Waits (size_of ready.sizes) maps ready.standing.tuple ring next →
    rings_of next ≡ rings_of ready.standing.tuple → count_below old.tuple ≤ count_below ready.standing.tuple → count_below next ≤ 2 ^ 44 → Going config service a old ready.standing old_lines lines old_sent sent →
    merges config (so_far old_lines old_sent service old a) ≡ so_far lines sent service (record ready.standing { tuple = next }) a
ends config service a old ready node maps ring next old_lines lines old_sent sent fits is waits rings after few going =
    going.same ∙ ap (λ (n : ℕ). merges_up_to n config (so_far lines sent service ready.standing a)) fuel
    ∙ passes_skips config service ready.standing (with_all lines sent a) maps ready.standing.tuple next fits.learned w.passes left
    ∙ ends_there config service ready.standing (with_all lines sent a) maps ready.standing.tuple next ring fits.learned has w left
  where
    w : Waits (round_sizes config) maps ready.standing.tuple ring next
    w = waits_alike (size_of ready.sizes) (round_sizes config) maps ready.standing.tuple next ring fits.sizes (nexts_low 0 ready.standing.tuple is.nexts) waits

    left : ℕ
    left = fuel_left old.tuple next

    fuel : fuel_left old.tuple ready.standing.tuple ≡ w.passes.count + left
    fuel = omega (arith, waits_counted (round_sizes config) maps ready.standing.tuple next ring is w, after, few)

    has : has_ring (rings_of ready.standing.tuple) ring.0 ≡ true
    has = subst (λ (r : RingId). has_ring (rings_of ready.standing.tuple) r.0 ≡ true) w.next (next_has (round_sizes config) ready.standing.tuple next is rings)

-- ---- what the replica's calls leave

-- where it was, of the same partition, sizes and rings as at first, and no earlier
pub record IsLater (old was : Readied) : Type 0 where
  pub partition : was.partition ≡ old.partition
  pub sizes : was.sizes ≡ old.sizes
  pub rings : rings_of was.standing.tuple ≡ rings_of old.standing.tuple
  pub further : count_below old.standing.tuple ≤ count_below was.standing.tuple

fits_later : (config : Config) (service : Service) (view : View) (node : NodeId) (maps : List (List (ℕ × Value))) (old was : Readied) → IsLater old was → Fits config service view node maps old → Fits config service view node maps was
fits_later config service view node maps old was is fits = record {
  own = fits.own;
  partition = fits.partition ∙ sym is.partition;
  sizes = subst (λ (s : List ℕ). AreSizesOf config s) (sym is.sizes) fits.sizes;
  learned = subst (λ (rings : List RingId). Agree view rings maps) (sym is.rings) fits.learned;
}

-- that a place was passed
abbrev pub passed_to : Readied → List (RingId × ℕ) → Readied
passed_to was next = record was { standing = record was.standing { tuple = next } }

-- what a delivery of these entries leaves
abbrev pub delivered_of : Readied → List Entry → Readied
delivered_of passed entries = record passed {
  standing = record passed.standing {
    replica = (applies passed.partition passed.standing.replica entries).replica;
    delivered = passed.standing.delivered + 1;
  };
}

-- what a delivery of these entries tells
abbrev pub TellsOf : Readied → NodeId → Place → List Entry → List Line → List Line → List Sent → List Sent → Type 0
TellsOf passed node place entries lines new_lines sent new_sent =
    Told (record { own = node; partition = passed.partition.id; place = place }) (applies passed.partition passed.standing.replica entries).replies (lines ++ DeliverLine node place.ring place.inst ∷ []) new_lines sent new_sent

-- a place with a batch was passed, and its batch delivered
pub record Turned (maps : List (List (ℕ × Value))) (node : NodeId) (place : Place) (entries : List Entry) (was passed done : Readied) (old_lines new_lines : List Line) (old_sent new_sent : List Sent) : Type 0 where
  pub tuple : IsTuple was.standing.tuple
  pub delivers : Delivers (size_of was.sizes) maps was.standing.tuple place passed.standing.tuple
  pub rest : passed ≡ passed_to was passed.standing.tuple
  pub rings : rings_of passed.standing.tuple ≡ rings_of was.standing.tuple
  pub few : count_below passed.standing.tuple ≤ 2 ^ 44
  pub known : entries ≡ known_entries (learned_at (rings_of passed.standing.tuple) maps (pair_of place))
  pub done_is : done ≡ delivered_of passed entries
  pub told : TellsOf passed node place entries old_lines new_lines old_sent new_sent

pub turned_later : (maps : List (List (ℕ × Value))) (node : NodeId) (place : Place) (entries : List Entry) (old was passed done : Readied) (lines new_lines : List Line) (sent new_sent : List Sent) →
    IsLater old was → Turned maps node place entries was passed done lines new_lines sent new_sent → IsLater old done
turned_later maps node place entries old was passed done lines new_lines sent new_sent is turned = record {
  partition = ap (λ (r : Readied). r.partition) turned.done_is ∙ ap (λ (r : Readied). r.partition) turned.rest ∙ is.partition;
  sizes = ap (λ (r : Readied). r.sizes) turned.done_is ∙ ap (λ (r : Readied). r.sizes) turned.rest ∙ is.sizes;
  rings = ap (λ (r : Readied). rings_of r.standing.tuple) turned.done_is ∙ turned.rings ∙ is.rings;
  further = omega (
    arith,
    is.further,
    delivers_counted (size_of was.sizes) maps was.standing.tuple passed.standing.tuple place turned.tuple turned.delivers,
    ap (λ (r : Readied). count_below r.standing.tuple) turned.done_is,
  );
}

pub turned_less : (maps : List (List (ℕ × Value))) (node : NodeId) (place : Place) (entries : List Entry) (was passed done : Readied) (lines new_lines : List Line) (sent new_sent : List Sent) →
    Turned maps node place entries was passed done lines new_lines sent new_sent → 2 ^ 44 - count_below done.standing.tuple < 2 ^ 44 - count_below was.standing.tuple
turned_less maps node place entries was passed done lines new_lines sent new_sent turned =
    omega (
      arith,
      turned.few,
      delivers_counted (size_of was.sizes) maps was.standing.tuple passed.standing.tuple place turned.tuple turned.delivers,
      ap (λ (r : Readied). count_below r.standing.tuple) turned.done_is,
    )

pub turned_goes : (config : Config) (service : Service) (a : StepSoFar) (maps : List (List (ℕ × Value))) (node : NodeId) (place : Place) (entries : List Entry) (old was passed done : Readied)
    (old_lines lines new_lines : List Line) (old_sent sent new_sent : List Sent) → IsLater old was → Turned maps node place entries was passed done lines new_lines sent new_sent → Fits config service a.view node maps old →
    Going config service a old.standing was.standing old_lines lines old_sent sent → Going config service a old.standing done.standing old_lines new_lines old_sent new_sent
turned_goes config service a maps node place entries old was passed done old_lines lines new_lines old_sent sent new_sent is turned fits going =
    subst (λ (r : Readied). Going config service a old.standing r.standing old_lines new_lines old_sent new_sent)
    (sym (turned.done_is ∙ ap (λ (r : Readied). delivered_of r entries) turned.rest))
    (goes config service a old.standing was node maps place passed.standing.tuple entries old_lines lines new_lines old_sent sent new_sent (fits_later config service a.view node maps old was is fits) turned.tuple
    turned.delivers is.further turned.few (subst (λ (rings : List RingId). entries ≡ known_entries (learned_at rings maps (pair_of place))) turned.rings turned.known)
    (subst (λ (r : Readied). TellsOf r node place entries lines new_lines sent new_sent) turned.rest turned.told) going)

-- nothing is learned at the next place
pub waited : (config : Config) (service : Service) (a : StepSoFar) (maps : List (List (ℕ × Value))) (node : NodeId) (ring : RingId) (old was passed : Readied) (old_lines lines : List Line) (old_sent sent : List Sent) →
    IsLater old was → IsTuple was.standing.tuple → Waits (size_of was.sizes) maps was.standing.tuple ring passed.standing.tuple → passed ≡ passed_to was passed.standing.tuple →
    rings_of passed.standing.tuple ≡ rings_of was.standing.tuple → count_below passed.standing.tuple ≤ 2 ^ 44 → Fits config service a.view node maps old →
    Going config service a old.standing was.standing old_lines lines old_sent sent →
    merges config (so_far old_lines old_sent service old.standing a) ≡ so_far lines sent service passed.standing a
waited config service a maps node ring old was passed old_lines lines old_sent sent is tuple waits rest rings few fits going =
    ends config service a old.standing was node maps ring passed.standing.tuple old_lines lines old_sent sent (fits_later config service a.view node maps old was is fits) tuple waits rings is.further few going
    ∙ ap (λ (r : Readied). so_far lines sent service r.standing a) (sym rest)
