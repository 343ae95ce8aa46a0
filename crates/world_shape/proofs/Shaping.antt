-- Every world that a run reaches has its shape.
use Rattle.std.proofs.Common.{◌≡◌, ℕ, ◌+◌, ◌<◌, ◌≤◌, Bool, true, false, true≢false, List, [], ◌∷◌, ◌++◌, map, filter, Option, Some, None, refl, sym, ◌∙◌, ap, subst, arith}
use Rattle.std.specs.Prelude.{◌==◌, if◌then◌else◌, Ok}
use Rattle.std.specs.List.{AllByRecursion}
use Rattle.std.proofs.lemmas.Bool.Decides.{nat_tests}
use Rattle.mrp_types.specs.declared.id.NodeId.{NodeId}
use Rattle.mrp_types.specs.declared.id.RingId.{RingId}
use Rattle.mrp_types.specs.declared.id.ClientId.{ClientId}
use Rattle.mrp_types.specs.declared.id.Party.{Party}
use Rattle.mrp_types.specs.declared.id.Party.TheVariants.{Node, Client}
use Rattle.mrp_types.specs.declared.value.Value.{Value}
use Rattle.mrp_types.specs.Tuples.{IsTuple}
use Rattle.mrp_config.specs.Config.{Config, node_at, client_at, partition_of}
use Rattle.mrp_config.specs.Routing.{is_concerned, concerned_of, all_have, common, route_of}
use Rattle.mrp_config.specs.Valid.{IsValid, IncreasesFrom, AreAtMost, IsPartition, client_ids, numbers_of_rings}
use Rattle.command_codec.specs.declared.command.Command.{Command}
use Rattle.mrp_config.specs.Walk.{is_among, node_ids, ring_ids}
use Rattle.mrp_config.specs.declared.tables.NodeTable.{NodeTable}
use Rattle.mrp_config.specs.declared.tables.ClientTable.{ClientTable}
use Rattle.mrp_config.specs.declared.tables.RingTable.{RingTable}
use Rattle.mrp_config.specs.declared.tables.PartitionTable.{PartitionTable}
use Rattle.quorums.proofs.Each.{mapped}
use Rattle.plain_model.specs.Tuples.{round_sizes}
use Rattle.plain_model.proofs.TupleOrder.{same_number}
use Rattle.vote_state.specs.State.{State, ring_at, taken}
use Rattle.vote_state.specs.Valid.{IsRing}
use Rattle.frames.specs.declared.body.Body.{Body}
use Rattle.frames.specs.declared.body.Body.TheVariants as body
use Rattle.frames.specs.declared.sent.Sent.{Sent}
use Rattle.faithful.specs.Scanners.{past}
use Rattle.faithful.proofs.Quorum.{all_has}
use Rattle.protocol.specs.Parts.{Ring, Role, Idle, Active}
use Rattle.protocol.specs.Rings.{ring_of, is_member}
use Rattle.protocol.specs.Node.{View, RingPart, Service, Event, Work, Nothing, Records, Saves, Compacts, part_in, part_at}
use Rattle.protocol.specs.Step.{step}
use Rattle.beside_rings.specs.Beside.{changes_in}
use Rattle.ring_kept.specs.Kept.{kept_after}
use Rattle.ring_kept.proofs.Keeping.{ring_taken}
use Rattle.ring_safety.specs.Faces.{Face}
use Rattle.ring_tables.specs.Ties.{acceptors, RoleTies}
use Rattle.bare_world.specs.Worlds.{Possible, Host, Up, Down, World, Happening, Steps, nothing, steps_as}
use Rattle.bare_world.specs.Runs.{IsNode, MayCome, run, MayRun}
use Rattle.bare_world.proofs.Onward.{run_both, may_both}
use Rattle.step_valid.specs.Valid.{BodyValid, SentValid, RoleValid, MemberValid, ViewValid, StepValid}
use Rattle.step_valid.proofs.Going.{member_numbered}
use Rattle.vote_journal.specs.Journal.{Journal}
use Rattle.vote_state.specs.declared.ring.RingState.{RingState}
use Rattle.step_valid.proofs.Ending.{step_valid}
use Rattle.valid_runs.specs.Worlds.{HostValid, WorldValid}
use Rattle.valid_runs.proofs.Running.{event_valid, runs_valid}
use Rattle.ask_laws.specs.Asks.{asked_in, IsAsked}
use Rattle.ask_laws.specs.Carried.{PartyCarries, SentCarries}
use Rattle.recovery_lines.specs.Ties.{TellsTuple, PartySaid, IsSaid, ReplicaLines, rings_in}
use Rattle.disk_states.specs.Works.{journal_after}
use Rattle.bare_ties.proofs.Changing.{step_by}
use Rattle.disk_runs.proofs.Tuples.{known_spelled}
use Rattle.disk_runs.proofs.Works.{listed}
use Rattle.step_shape.specs.Shaped.{BodyFits, MayGo, MemberFits}
use Rattle.step_shape.proofs.Ending.{are_numbered}
use Rattle.world_shape.specs.Shape.{served, RoleShape, PartShape, NodeShape, HostShape, StepShape, SentShape}
use Rattle.world_shape.proofs.Spelled.{HasTuples, spelled_body, short_frame, has_widths}
use Rattle.world_shape.proofs.Fitting.{HostFits, UpFits, FromFits, PartyFits, WorldFits, blank, lines_of, up_lines, view_valid, part_stands, found_part, runs_fit}

-- ---- parts in the order of their rings

abbrev Rising : ℕ → List Ring → Type 0
Rising k [] = Unit {0}
Rising k (r ∷ rings) = (k ≤ r.id.0) × Rising (r.id.0 + 1) rings

weaker : (j k : ℕ) (rings : List Ring) → j ≤ k → Rising k rings → Rising j rings
weaker j k [] le up = tt
weaker j k (r ∷ rings) le up = let low = up.0 in (omega arith, up.1)

rings_rise : (config : Config) (id : NodeId) (k : ℕ) (tables : List RingTable) → IncreasesFrom k (ring_ids tables) → Rising k (filter is_member (map (ring_of config id) tables))
rings_rise config id k [] up = tt
rings_rise config id k (t ∷ tables) up = go (is_member (ring_of config id t)) (rings_rise config id (t.id.0 + 1) tables up.1)
  where
    go : (b : Bool) → Rising (t.id.0 + 1) (filter is_member (map (ring_of config id) tables))
        → Rising k (if b then ring_of config id t ∷ filter is_member (map (ring_of config id) tables) else filter is_member (map (ring_of config id) tables))
    go true rest = (up.0, rest)
    go false rest = let low = up.0 in weaker k (t.id.0 + 1) (filter is_member (map (ring_of config id) tables)) (omega arith) rest

-- the part that is found is of this ring
found_id : (parts : List RingPart) (ring : RingId) (p : RingPart) → part_in parts ring ≡ Some p → p.ring.id.0 ≡ ring.0
found_id [] ring p e = absurd (cc)
found_id (x ∷ parts) ring p e = go (x.ring.id.0 == ring.0) refl e (λ h. found_id parts ring p h)
  where
    go : (b : Bool) → (x.ring.id.0 == ring.0) ≡ b → (if b then Some x else part_in parts ring) ≡ Some p → (part_in parts ring ≡ Some p → p.ring.id.0 ≡ ring.0) → p.ring.id.0 ≡ ring.0
    go true same h later = let is : x ≡ p = cc in subst (λ (q : RingPart). q.ring.id.0 ≡ ring.0) is (same_number x.ring.id.0 ring.0 same)
    go false other h later = later h

found_low : (k : ℕ) (parts : List RingPart) (ring : RingId) (p : RingPart) → Rising k (rings_in parts) → part_in parts ring ≡ Some p → k ≤ p.ring.id.0
found_low k [] ring p up e = absurd (cc)
found_low k (x ∷ parts) ring p up e = go (x.ring.id.0 == ring.0) e (λ h. found_low (x.ring.id.0 + 1) parts ring p up.1 h)
  where
    go : (b : Bool) → (if b then Some x else part_in parts ring) ≡ Some p → (part_in parts ring ≡ Some p → x.ring.id.0 + 1 ≤ p.ring.id.0) → k ≤ p.ring.id.0
    go true h later = let is : x ≡ p = cc in subst (λ (q : RingPart). k ≤ q.ring.id.0) is up.0
    go false h later = let past = later h in let low = up.0 in omega arith

-- what is so of each part that is found is so of each part
each_found : (k : ℕ) (parts : List RingPart) → Rising k (rings_in parts) → (Q : RingPart → Type 0) → ((ring : RingId) (p : RingPart) → part_in parts ring ≡ Some p → Q p) → AllByRecursion Q parts
each_found k [] up Q each = tt
each_found k (x ∷ parts) up Q each = (each x.ring.id x (here (x.ring.id.0 == x.ring.id.0) refl), each_found (x.ring.id.0 + 1) parts up.1 Q (λ ring p e. each ring p (later ring p e (x.ring.id.0 == ring.0) refl)))
  where
    here : (b : Bool) → (x.ring.id.0 == x.ring.id.0) ≡ b → (if b then Some x else part_in parts x.ring.id) ≡ Some x
    here true e = refl
    here false e = absurd (let yes : (x.ring.id.0 == x.ring.id.0) ≡ true = grind (arith, nat_tests) in true≢false (sym yes ∙ e))

    later : (ring : RingId) (p : RingPart) → part_in parts ring ≡ Some p → (b : Bool) → (x.ring.id.0 == ring.0) ≡ b → (if b then Some x else part_in parts ring) ≡ Some p
    later ring p e false other = e
    later ring p e true same =
        let at = same_number x.ring.id.0 ring.0 same in
        let of_ring = found_id parts ring p e in
        let past = found_low (x.ring.id.0 + 1) parts ring p up.1 e in
        absurd (omega arith)

-- ---- numbers of a deployment

node_low : (nodes : List NodeTable) → AreAtMost 31 (node_ids nodes) → (n : ℕ) (table : NodeTable) → node_at nodes n ≡ Some table → n < 32
node_low [] low n table e = absurd (cc)
node_low (x ∷ nodes) low n table e = go (x.id.0 == n) refl e (λ h. node_low nodes low.1 n table h)
  where
    go : (b : Bool) → (x.id.0 == n) ≡ b → (if b then Some x else node_at nodes n) ≡ Some table → (node_at nodes n ≡ Some table → n < 32) → n < 32
    go true same h later = let at = same_number x.id.0 n same in let first = low.0 in omega arith
    go false other h later = later h

client_low : (clients : List ClientTable) → AreAtMost 255 (client_ids clients) → (n : ℕ) (table : ClientTable) → client_at clients n ≡ Some table → n < 256
client_low [] low n table e = absurd (cc)
client_low (x ∷ clients) low n table e = go (x.id.0 == n) refl e (λ h. client_low clients low.1 n table h)
  where
    go : (b : Bool) → (x.id.0 == n) ≡ b → (if b then Some x else client_at clients n) ≡ Some table → (client_at clients n ≡ Some table → n < 256) → n < 256
    go true same h later = let at = same_number x.id.0 n same in let first = low.0 in omega arith
    go false other h later = later h

-- a ring that orders a command
abbrev IsLow : PartitionTable → Type 0
IsLow p = (p.home.0 < 16) × AreAtMost 15 (numbers_of_rings p.rings)

among_low : (n : ℕ) (numbers : List ℕ) → AreAtMost 15 numbers → is_among n numbers ≡ true → n < 16
among_low n [] low e = absurd (cc)
among_low n (x ∷ numbers) low e = go (x == n) refl e (λ h. among_low n numbers low.1 h)
  where
    go : (b : Bool) → (x == n) ≡ b → (if b then true else is_among n numbers) ≡ true → (is_among n numbers ≡ true → n < 16) → n < 16
    go true same h later = let at = same_number x n same in let first = low.0 in omega arith
    go false other h later = later h

common_low : (ps : List PartitionTable) (rings : List RingId) → AreAtMost 15 (numbers_of_rings rings) → (ring : RingId) → common ps rings ≡ Ok ring → ring.0 < 16
common_low ps [] low ring e = absurd (cc)
common_low ps (r ∷ rings) low ring e = go (all_have ps r.0) e (λ h. common_low ps rings low.1 ring h)
  where
    go : (b : Bool) → (if b then Ok r else common ps rings) ≡ Ok ring → (common ps rings ≡ Ok ring → ring.0 < 16) → ring.0 < 16
    go true h later = let same : r ≡ ring = cc in let at : r.0 ≡ ring.0 = ap (λ (x : RingId). x.0) same in let first = low.0 in omega arith
    go false h later = later h

route_low : (ps : List PartitionTable) → AllByRecursion IsLow ps → (ring : RingId) → route_of ps ≡ Ok ring → ring.0 < 16
route_low [] all ring e = absurd (cc)
route_low (p ∷ []) all ring e = let same : p.home ≡ ring = cc in let at : p.home.0 ≡ ring.0 = ap (λ (x : RingId). x.0) same in let first = all.0.0 in omega arith
route_low (p ∷ q ∷ ps) all ring e = common_low (q ∷ ps) p.rings all.0.1 ring e

low_of : (nodes rings : List ℕ) (p : PartitionTable) → IsPartition nodes rings p → IsLow p
low_of nodes rings p is = (among_low p.home.0 (numbers_of_rings p.rings) is.numbers is.home, is.numbers)

concerned_all : (P : PartitionTable → Type 0) (command : Command) (ps : List PartitionTable) → AllByRecursion P ps → AllByRecursion P (concerned_of command ps)
concerned_all P command [] all = tt
concerned_all P command (p ∷ ps) all = go (is_concerned command p) (concerned_all P command ps all.1)
  where
    go : (b : Bool) → AllByRecursion P (concerned_of command ps) → AllByRecursion P (if b then p ∷ concerned_of command ps else concerned_of command ps)
    go true rest = (all.0, rest)
    go false rest = rest

concerned_low : (config : Config) → IsValid config → (command : Command) → AllByRecursion IsLow (concerned_of command config.partitions)
concerned_low config valid command =
    concerned_all IsLow command config.partitions
    (mapped (IsPartition (node_ids config.nodes) (ring_ids config.rings)) IsLow (low_of (node_ids config.nodes) (ring_ids config.rings)) config.partitions valid.partitions.each)

-- ---- the journal after a step

pub state_after : (view : View) (work : Work) → (journal_after view work).state ≡ taken (changes_in work) view.journal.state
state_after view Nothing = refl
state_after view (Records []) = refl
state_after view (Records (c ∷ cs)) = refl
state_after view (Saves tuple state) = refl
state_after view Compacts = refl

-- ---- a world that a run has reached

module _ (config : Config) (valid : IsValid config) (before : List Happening) (ran : MayRun config nothing before) where
  abbrev now : World
  now = run config before nothing

  abbrev fit : WorldFits (λ e. Unit {0}) config now
  fit = runs_fit config valid before ran

  abbrev good : WorldValid config now
  good = runs_valid config valid before ran

  up_fits : (id : NodeId) (view : View) → now.hosts id.0 ≡ Up view → UpFits config id view
  up_fits id view here = subst (λ (h : Host). HostFits config id h) here (fit.hosts id.0)

  -- what a part keeps is what the journal has of its ring, and its role is of the size of its ring
  record Found (view : View) (p : RingPart) : Type 0 where
    journal : p.part.kept ≡ ring_at view.journal.state p.ring.id
    role : RoleShape p.ring p.part.coordinator.role

  found_part_of : (id : NodeId) (view : View) → now.hosts id.0 ≡ Up view → (ring : RingId) (p : RingPart) → part_at view ring ≡ Some p → Found view p
  found_part_of id view here ring p e =
      let member = found_part (MemberValid config view.id) view.parts ring p (view_valid (λ e. Unit {0}) config valid before ran id view here).parts e in
      let named = (up_lines (λ e. Unit {0}) config valid before ran id view here).id in
      let table : RingTable = member.of_ring.table in
      let same : p.ring ≡ ring_of config id table = subst (λ (n : NodeId). p.ring ≡ ring_of config n table) named member.of_ring.same in
      let of_id : p.ring.id ≡ table.id = ap (λ (r : Ring). r.id) same in
      let at : ring ≡ table.id = same_ring ring p.ring.id (sym (found_id view.parts ring p e)) ∙ of_id in
      let stands = (part_stands (λ e. Unit {0}) config valid before ran table member.of_ring.listed id view here).1.part p (subst (λ (r : RingId). part_at view r ≡ Some p) at e) in
      record {
        journal = stands.kept ∙ ap (λ (r : RingId). ring_at view.journal.state r) (sym of_id);
        role = subst (λ (r : Ring). RoleShape r p.part.coordinator.role) (sym same) (by (ring_of config id table) _ _ p.part.coordinator.role stands.ties.role member.part.role);
      }
    where
      same_ring : (r s : RingId) → r.0 ≡ s.0 → r ≡ s
      same_ring r s x = ap (λ (n : ℕ). let made : RingId = record { 0 = n } in made) x

      by : (r : Ring) (faces : ℕ → Face Value) (f : Face Value) (role : Role) → RoleTies (acceptors r) faces f role → RoleValid role → RoleShape r role
      by r faces f Idle ties v = tt
      by r faces f (Active campaign) ties v = record { sized = ties.sized; ended = v.covered; reports = v.ordered }

  node_shape : (id : NodeId) (view : View) → now.hosts id.0 ≡ Up view → NodeShape config id view
  node_shape id view here =
      let u = up_fits id view here in
      let v = view_valid (λ e. Unit {0}) config valid before ran id view here in
      let lines = up_lines (λ e. Unit {0}) config valid before ran id view here in
      record {
        there = u.there;
        named = lines.id;
        rings = u.rings;
        parts = each_found 0 view.parts (subst (λ (rs : List Ring). Rising 0 rs) (sym u.rings) (rings_rise config id 0 config.rings valid.rings.ids)) (PartShape view.journal.state)
            (λ ring p e.
            let f = found_part_of id view here ring p e in
            let m = found_part (MemberValid config view.id) view.parts ring p v.parts e in
            let fits = found_part MemberFits view.parts ring p u.whole.parts e in
            record { journal = f.journal; kept = m.part.kept; role = f.role; held = m.part.ordered; outside = fits.outside });
        serves = by view.service lines.replica;
        state = v.state;
      }
    where
      by : (o : Option Service) → ReplicaLines config (past [] now.lines) id view.journal.state.epoch view.checkpoints.newest o → served o ≡ partition_of config.partitions id
      by None replica = sym replica
      by (Some service) replica = sym replica.own.replica

  pub host_shape : (id : NodeId) (host : Host) → now.hosts id.0 ≡ host → HostShape config id host
  host_shape id (Up view) here = node_shape id view here
  host_shape id (Down durable pending) here = subst (λ (h : Host). HostValid config h) here (good.hosts id.0)

  pub absent : (id : NodeId) → (IsNode config id → ⊥) → now.hosts id.0 ≡ nothing.hosts id.0
  absent id none = by (now.hosts id.0) (fit.hosts id.0)
    where
      by : (host : Host) → HostFits config id host → host ≡ nothing.hosts id.0
      by (Up view) u = absurd (none u.there)
      by (Down durable pending) d = let both = d.absent none in ap (λ (p : Possible). Down p pending) both.0 ∙ ap (λ (p : Possible). Down blank p) both.1

  -- ---- frames

  tuple_of : (x : NodeId) (tuple : List (RingId × ℕ)) → TellsTuple config (past [] now.lines) x tuple → IsTuple tuple
  tuple_of x tuple t =
      let partition = all_has (IsPartition (node_ids config.nodes) (ring_ids config.rings)) config.partitions t.partition valid.partitions.each (listed config.partitions x t.partition t.replica) in
      known_spelled config now.lines good.lines (node_ids config.nodes) (ring_ids config.rings) t.partition partition (round_sizes config) tuple t.valid
      ((lines_of (λ e. Unit {0}) config valid before ran).known x t.partition tuple t.replica t.valid t.told)

  -- the tuples of a frame from one node, to another where it has any
  tuples_to : (x : NodeId) (to : Party) (b : Body) → MayGo to b → PartySaid config (past [] now.lines) (Node x) to b → HasTuples b
  tuples_to x (Node y) (body.HaveCheckpoint epoch attempt tuple) may said = tuple_of x tuple said.1
  tuples_to x (Node y) (body.AskPart epoch attempt tuple offset) may said = tuple_of y tuple said
  tuples_to x (Node y) (body.Part epoch attempt tuple offset total bytes) may said = tuple_of x tuple said
  tuples_to x (Node y) (body.Gone epoch attempt asked newer) may said = (tuple_of x asked said.1.0, tuple_of x newer said.1.1)
  tuples_to x (Node y) other may said = tt
  tuples_to x (Client y) (body.Reply client seq partition reply) may said = tt
  tuples_to x (Client y) other may said = absurd may

  node_frame : (x : NodeId) (to : Party) (b : Body) → BodyValid b → IsNode config x → BodyFits (λ e. Unit {0}) b → MayGo to b → PartySaid config (past [] now.lines) (Node x) to b → SentShape (record { to = to; frame = record { from = Node x; body = b } })
  node_frame x to b v there f may said =
      let t = tuples_to x to b may said in
      record { frame = record { from = node_low config.nodes valid.nodes.numbers x.0 there.0 there.1; body = spelled_body (λ e. Unit {0}) b v f t; short = short_frame (λ e. Unit {0}) (Node x) b v f t }; numbers = has_widths (λ e. Unit {0}) b f; id = tt }

  client_frame : (c : ClientId) (to : Party) (b : Body) → BodyValid b → PartyCarries (IsAsked config (asked_in config before)) (IsValid config) (Client c) b → SentShape (record { to = to; frame = record { from = Client c; body = b } })
  client_frame c to (body.Submit r hops client seq command) v carries =
      let is = carries.2 in
      let f : BodyFits (λ e. Unit {0}) (body.Submit r hops client seq command) = (route_low (concerned_of is.command config.partitions) (concerned_low config valid is.command) r is.route, let none = carries.0 in omega arith) in
      let who : c.0 < 256 = (let same : client.0 ≡ c.0 = ap (λ (n : ClientId). n.0) carries.1 in let low = client_low config.clients valid.clients.numbers client.0 is.client.0 is.client.1 in omega arith) in
      record { frame = record { from = carries.0; body = spelled_body (λ e. Unit {0}) (body.Submit r hops client seq command) v f tt; short = short_frame (λ e. Unit {0}) (Client c) (body.Submit r hops client seq command) v f tt }; numbers = tt; id = who }
  client_frame c to other v carries = absurd carries

  sent_shape : (sent : Sent) → SentValid sent → FromFits (λ e. Unit {0}) config sent → IsSaid config (past [] now.lines) sent → SentCarries (IsAsked config (asked_in config before)) (IsValid config) sent → SentShape sent
  sent_shape sent v f said carries = by sent.frame.from f said carries
    where
      by : (from : Party) → PartyFits (λ e. Unit {0}) config from sent.to sent.frame.body → PartySaid config (past [] now.lines) from sent.to sent.frame.body → PartyCarries (IsAsked config (asked_in config before)) (IsValid config) from sent.frame.body
          → SentShape (record { to = sent.to; frame = record { from = from; body = sent.frame.body } })
      by (Node x) fits told c = node_frame x sent.to sent.frame.body v fits.0 fits.1 fits.2 told
      by (Client x) fits told c = client_frame x sent.to sent.frame.body v c

  pub all_sent : (frames : List Sent) → AllByRecursion SentValid frames → AllByRecursion (FromFits (λ e. Unit {0}) config) frames → AllByRecursion (IsSaid config (past [] now.lines)) frames
      → AllByRecursion (SentCarries (IsAsked config (asked_in config before)) (IsValid config)) frames → AllByRecursion SentShape frames
  all_sent [] v f s c = tt
  all_sent (sent ∷ frames) v f s c = (sent_shape sent v.0 f.0 s.0 c.0, all_sent frames v.1 f.1 s.1 c.1)

-- ---- steps

-- where a node is after a step of it
stepped_there : (config : Config) (before : List Happening) (id : NodeId) (view : View) (event : Event) → (run config before nothing).hosts id.0 ≡ Up view
    → (run config (before ++ Steps id event ∷ []) nothing).hosts id.0 ≡ Up (step config view event).view
stepped_there config before id view event here =
    ap (λ (w : World). w.hosts id.0) (run_both config nothing before (Steps id event ∷ []))
    ∙ ap (λ (h : Host). (steps_as config id event h (run config before nothing)).hosts id.0) here
    ∙ itself id.0 (Up (step config view event).view) ((run config before nothing).hosts id.0)
  where
    itself : (n : ℕ) (x y : Host) → (if n == n then x else y) ≡ x
    itself n x y = go (n == n) refl
      where
        go : (t : Bool) → (n == n) ≡ t → (if t then x else y) ≡ x
        go true e = refl
        go false e = absurd (let yes : (n == n) ≡ true = grind (arith, nat_tests) in true≢false (sym yes ∙ e))

module _ (config : Config) (valid : IsValid config) (before : List Happening) (ran : MayRun config nothing before) where
  pub step_shape : (id : NodeId) (view : View) (event : Event) → (run config before nothing).hosts id.0 ≡ Up view → MayCome (run config before nothing) id event → StepShape view (step config view event)
  step_shape id view event here may = record { changes = s.changes; kept = λ ring p q e d. kept ring p q e d }
    where
      v : ViewValid config view
      v = view_valid (λ e. Unit {0}) config valid before ran id view here

      s : StepValid config view.id (step config view event)
      s = step_valid config (are_numbered config valid) view v event (event_valid config (are_numbered config valid) (run config before nothing) id event may (runs_valid config valid before ran))

      went : MayRun config nothing (before ++ Steps id event ∷ [])
      went = may_both config nothing before (Steps id event ∷ []) ran (may, tt)

      state : (step config view event).view.journal.state ≡ taken (changes_in (step config view event).work) view.journal.state
      state = ap (λ (j : Journal). j.state) (step_by config view event).journal ∙ state_after view (step config view event).work

      same_ring : (r t : RingId) → r.0 ≡ t.0 → r ≡ t
      same_ring r t x = ap (λ (n : ℕ). let made : RingId = record { 0 = n } in made) x

      kept : (ring : RingId) (p q : RingPart) → part_at view ring ≡ Some p → part_at (step config view event).view ring ≡ Some q → q.part.kept ≡ kept_after ring (changes_in (step config view event).work) p.part.kept
      kept ring p q e d =
          let one = found_part_of config valid before ran id view here ring p e in
          let two = found_part_of config valid (before ++ Steps id event ∷ []) went id (step config view event).view (stepped_there config before id view event here) ring q d in
          let first : p.ring.id ≡ ring = same_ring p.ring.id ring (found_id view.parts ring p e) in
          let second : q.ring.id ≡ ring = same_ring q.ring.id ring (found_id (step config view event).view.parts ring q d) in
          let member = found_part (MemberValid config view.id) view.parts ring p v.parts e in
          let number : IsRing p.ring.id = member_numbered config view.id p.ring (are_numbered config valid) member.of_ring in
          let at = found_id view.parts ring p e in
          let all = v.state.all in
          two.journal ∙ ap (λ (r : RingId). ring_at (step config view event).view.journal.state r) second ∙ ap (λ (x : State). ring_at x ring) state
          ∙ ring_taken ring (changes_in (step config view event).work) view.journal.state (omega arith)
          ∙ ap (λ (r : RingState). kept_after ring (changes_in (step config view event).work) r) (ap (λ (r : RingId). ring_at view.journal.state r) (sym first) ∙ sym one.journal)
