-- Every happening of a world on disks, the start of one, and so every run.
use Rattle.std.proofs.Common.{◌≡◌, ℕ, ◌+◌, ◌<◌, ◌≤◌, ◌^◌, ◌==◌, Bool, true, false, cond, List, [], ◌∷◌, ◌++◌, map, Option, Some, None, inl, inr, refl, sym, ap, ◌∙◌, subst, arith}
use Rattle.std.specs.Prelude.{if◌then◌else◌, length, slice_get}
use Rattle.std.specs.Option.{option_map}
use Rattle.std.proofs.lemmas.Bool.Decides.{eqb_tells}
use Rattle.frames.specs.declared.sent.Sent.{Sent}
use Rattle.transcript.specs.declared.line.ShownFrame.{ShownFrame}
use Rattle.protocol.specs.Opening.{opened}
use Rattle.std.specs.List.{AllByRecursion}
use Rattle.std.specs.Map.{lookup}
use Rattle.std.specs.BTreeMap.{is_at}
use Rattle.mrp_types.specs.declared.id.NodeId.{NodeId}
use Rattle.mrp_types.specs.declared.id.ClientId.{ClientId}
use Rattle.mrp_types.specs.Rings.{IncreasesFrom}
use Rattle.mrp_config.specs.Config.{Config}
use Rattle.mrp_config.specs.Config as config
use Rattle.mrp_config.specs.Valid.{IsValid}
use Rattle.mrp_config.specs.Walk.{node_ids}
use Rattle.mrp_config.specs.declared.tables.NodeTable.{NodeTable}
use Rattle.mrp_config.specs.declared.tables.ClientTable.{ClientTable}
use Rattle.disk_model.specs.declared.plan.Plan.{Plan}
use Rattle.disk_model.specs.Crash.{left_by}
use Rattle.plain_model.proofs.TupleOrder.{same_number}
use Rattle.protocol.specs.Lines.{Line}
use Rattle.protocol.specs.Lines as line
use Rattle.protocol.specs.Client.{new_client}
use Rattle.protocol.specs.Node.{Event, Ticks, Leads, state_shown}
use Rattle.transcript.specs.declared.line.ShownState.{ShownState}
use Rattle.quorums.specs.Groups.{Has}
use Rattle.bare_world.specs.Worlds as bare
use Rattle.bare_world.specs.Runs.{IsNode, IsClient, MayCome, MayRun}
use Rattle.world_model.specs.Disks.{no_plan, with_fuse, with_fail, with_fail_read}
use Rattle.world_model.specs.Events.{ScheduleEvent}
use Rattle.world_model.specs.Events as event
use Rattle.world_model.specs.Runs.{Happening, Scheduled, Returns, MayReturn, MayBeScheduled, MayHappen, outcome_of, ran_from, run_of, IsRun}
use Rattle.world_model.specs.Runs as disks
use Rattle.world_model.specs.Worlds.{Host, Up, Down, World, Outcome, quiet, prints, node_at, with_node, sends, for_each, opens_first, nothing, started, happens, steps, ticks_client, loses, faults, lists, state_of_host, id_of_node, id_of_client, client_cmp, shown_of}
use Rattle.world_model.proofs.Scheduled.{may_be, may_run, trace_is}
use Rattle.world_model.specs.Trace.{trace}
use Rattle.disk_states.proofs.Working.{empty_stands}
use Rattle.bare_ties.specs.Ties.{OpenEnds, Opened, Failed}
use Rattle.bare_ties.proofs.Opening.{open_ends}
use Rattle.disk_runs.specs.Runs.{never, NodeTies, ClientTies, WorldTies, world_after, GoesOn, IsShown, Fits}
use Rattle.disk_runs.proofs.Lookups.{eq_turned}
use Rattle.disk_runs.proofs.Going.{Goes, by_none, by_one, then_goes, each_goes}
use Rattle.disk_runs.proofs.Tying.{node_put}
use Rattle.disk_runs.proofs.Nodes.{step_goes, crash_goes, open_goes, return_goes, faults_tie}
use Rattle.disk_runs.proofs.Frames.{Works, asks_goes, tick_goes, deliver_goes, flow_goes}

module _ (c : Config) (valid : IsValid c) (works : Works c) where
  small_journal : c.journal < 2 ^ 32
  small_journal = let most = valid.journal.1 in omega arith

  -- ---- a happening

  node_event : (event : Event) → ((past : List bare.Happening) (id : NodeId) → MayCome (world_after c past) id event) → (id : NodeId) → Goes c (steps c event id)
  node_event event may id past ran w ties = step_goes c past ran w ties id event (may past id) (works past ran w ties id event (may past id))

  tick_of : (id : NodeId) → Goes c (steps c Ticks id)
  tick_of id = node_event Ticks (λ past n. tt) id

  client_tick : (id : ClientId) → Goes c (ticks_client c id)
  client_tick id past ran w ties = tick_goes c past ran w ties id

  -- a world in which the cursor stands elsewhere, or faults were set
  still : (past : List bare.Happening) → MayRun c bare.nothing past → (w : World) → WorldTies c w (world_after c past) → GoesOn c past (quiet w)
  still past ran w ties = by_none c past ran w ties

  shown_goes : (id : NodeId) → IsNode c id → Goes c (λ w. prints (line.State id (state_of_host (node_at w id)) ∷ []) w)
  shown_goes id there past ran w ties =
      by_one c past ran (bare.Shows id) there tt (bare.with_lines (line.State id (bare.state_of_host (b.hosts id.0)) ∷ []) b) refl (prints (line.State id (state_of_host (node_at w id)) ∷ []) w)
      (record { nodes = ties.nodes; clients = ties.clients; frames = ties.frames }) (ap (λ (s : Option ShownState). b.lines ++ line.State id s ∷ []) (same (node_at w id) (b.hosts id.0) (ties.nodes id)))
    where
      b : bare.World
      b = world_after c past

      same : (o : Option Host) (h : bare.Host) → NodeTies c id o h → bare.state_of_host h ≡ state_of_host o
      same None h tied = ap bare.state_of_host tied
      same (Some (Up view disk)) (bare.Up x) tied = ap state_shown tied.1.0
      same (Some (Up view disk)) (bare.Down durable pending) tied = absurd tied.1
      same (Some (Down told plan)) (bare.Up x) tied = absurd tied.1
      same (Some (Down told plan)) (bare.Down durable pending) tied = refl

  listed_goes : (number : ℕ) → Goes c (lists number)
  listed_goes number past ran w ties =
      let shown : Option ShownFrame = option_map shown_of (slice_get w.frames number) in
      by_one c past ran (bare.Lists number shown) tt (ap (λ (frames : List Sent). option_map shown_of (slice_get frames number)) (sym ties.frames)) (bare.with_lines (line.Frame number shown ∷ []) (world_after c past)) refl (lists number w)
      (record { nodes = ties.nodes; clients = ties.clients; frames = ties.frames }) refl

  faulty : (sets : Plan → Plan) (id : NodeId) → Goes c (λ w. quiet (faults sets id w))
  faulty sets id past ran w ties = still past ran (faults sets id w) (faults_tie c past ran w ties id sets)

  pub event_goes : (e : ScheduleEvent) → MayBeScheduled e → IsShown c e → Goes c (happens c e)
  unfolding happens
  event_goes (event.Ask client command) may shown past ran w ties = asks_goes c past ran w ties client command may
  event_goes (event.Flow count) may shown past ran w ties = flow_goes c works count past ran w ties
  event_goes (event.Lose count) may shown past ran w ties = still past ran (loses count w) (record { nodes = ties.nodes; clients = ties.clients; frames = ties.frames })
  event_goes (event.Deliver frame) may shown past ran w ties = deliver_goes c works frame past ran w ties
  event_goes (event.List frame) may shown past ran w ties = listed_goes frame past ran w ties
  event_goes event.TickAll may shown past ran w ties =
      then_goes c past (for_each (steps c Ticks) (map id_of_node c.nodes) w) (λ next. for_each (ticks_client c) (map id_of_client c.clients) next)
      (each_goes c (steps c Ticks) tick_of (map id_of_node c.nodes) past ran w ties)
      (λ next ran_next tied. each_goes c (ticks_client c) client_tick (map id_of_client c.clients) next ran_next (for_each (steps c Ticks) (map id_of_node c.nodes) w).world tied)
  event_goes (event.TickNode node) may shown past ran w ties = tick_of node past ran w ties
  event_goes (event.TickClient client) may shown past ran w ties = client_tick client past ran w ties
  event_goes (event.Lead node ring) may shown past ran w ties = node_event (Leads ring) (λ past n. tt) node past ran w ties
  event_goes (event.Crash node) may shown past ran w ties = crash_goes c past ran w ties node
  event_goes (event.Restart node image) may shown past ran w ties = return_goes c past ran w ties node small_journal (left_by image) (λ told plan found. may_be image told)
  event_goes (event.Fuse node calls) may shown past ran w ties = faulty (with_fuse calls) node past ran w ties
  event_goes (event.Fail node calls) may shown past ran w ties = faulty (with_fail calls) node past ran w ties
  event_goes (event.FailRead node calls) may shown past ran w ties = faulty (with_fail_read calls) node past ran w ties
  event_goes (event.Show node) may shown past ran w ties = shown_goes node shown past ran w ties

  pub happening_goes : (x : Happening) (past : List bare.Happening) → MayRun c bare.nothing past → (w : World) → WorldTies c w (world_after c past) → MayHappen w x → Fits c x → GoesOn c past (outcome_of c x w)
  happening_goes (Scheduled e) past ran w ties may fits = event_goes e may fits past ran w ties
  happening_goes (Returns id image) past ran w ties may fits =
      return_goes c past ran w ties id small_journal (λ told. image) (λ told plan found. subst (λ (o : Option Host). MayReturn image o) found may)

  -- ---- the start

  -- an opening changes no other node
  elsewhere : (id : NodeId) (stood : bare.Possible) (w : World) (o : Outcome) → OpenEnds c id stood w o → (q : NodeId) → (q.0 == id.0) ≡ false → node_at o.world q ≡ node_at w q
  elsewhere id stood w o (Opened kept disk is may up) q other =
      let made = opened c id kept.journal kept.checkpoints in
      ap (λ (x : Outcome). node_at x.world q) is ∙ sent made.frames (with_node id (Up made.view disk) w) ∙ put (Up made.view disk)
    where
      sent : (frames : List Sent) (v : World) → node_at (sends frames v) q ≡ node_at v q
      sent [] v = refl
      sent (x ∷ frames) v = refl

      put : (host : Host) → node_at (with_node id host w) q ≡ node_at w q
      put host = node_put w id host q ∙ ap (λ (t : Bool). cond t (Some host) (node_at w q)) other
  elsewhere id stood w o (Failed told cause left is may down) q other =
      ap (λ (x : Outcome). node_at x.world q) is ∙ node_put w id (Down told no_plan) q ∙ ap (λ (t : Bool). cond t (Some (Down told no_plan)) (node_at w q)) other

  first_ends : (id : NodeId) → IsNode c id → (w : World) → OpenEnds c id never w (opens_first c id w)
  first_ends id there w = open_ends c id (record { journal0 = []; journal1 = []; check2 = []; check3 = [] }) never no_plan w small_journal (omega arith) there (empty_stands id)

  -- nodes from this number on haven't opened
  abbrev Unopened : ℕ → World → Type 0
  Unopened n w = (q : NodeId) → n ≤ q.0 → node_at w q ≡ None

  unopened_more : (id : NodeId) → IsNode c id → (w : World) → Unopened id.0 w → Unopened (id.0 + 1) (opens_first c id w).world
  unopened_more id there w fresh q later = elsewhere id never w (opens_first c id w) (first_ends id there w) q (other (q.0 == id.0) refl) ∙ fresh q (omega arith)
    where
      other : (t : Bool) → (q.0 == id.0) ≡ t → (q.0 == id.0) ≡ false
      other false e = e
      other true e = absurd (let same = same_number q.0 id.0 e in omega arith)

  starts_go : (nodes : List NodeTable) (n : ℕ) → IncreasesFrom n (node_ids nodes) → ((t : NodeTable) → Has nodes t → IsNode c t.id) → (past : List bare.Happening) → MayRun c bare.nothing past → (w : World)
      → WorldTies c w (world_after c past) → Unopened n w → GoesOn c past (for_each (opens_first c) (map id_of_node nodes) w)
  starts_go [] n rise each past ran w ties fresh = by_none c past ran w ties
  starts_go (t ∷ nodes) n rise each past ran w ties fresh =
      then_goes c past (opens_first c t.id w) (for_each (opens_first c) (map id_of_node nodes)) (open_goes c past ran w ties t.id there never never (down (node_at w t.id) (ties.nodes t.id) (fresh t.id low)) false (opens_first c t.id w)
      (first_ends t.id there w))
      (λ next may tied. starts_go nodes (t.id.0 + 1) rise.1 (λ x has. each x (inr has)) next may (opens_first c t.id w).world tied
      (unopened_more t.id there w (λ q later. fresh q (omega (arith, low)))))
    where
      there : IsNode c t.id
      there = each t (inl refl)

      low : n ≤ t.id.0
      low = rise.0

      down : (o : Option Host) → NodeTies c t.id o ((world_after c past).hosts t.id.0) → o ≡ None → (world_after c past).hosts t.id.0 ≡ bare.Down never never
      down None tied none = tied
      down (Some host) tied none = absurd cc

  -- each of the deployment's nodes is found
  is_node : (nodes : List NodeTable) (t : NodeTable) → Has nodes t → (table : NodeTable) × (config.node_at nodes t.id.0 ≡ Some table)
  is_node [] t has = absurd has
  is_node (x ∷ nodes) t (inl same) = by (x.id.0 == t.id.0) refl
    where
      by : (b : Bool) → (x.id.0 == t.id.0) ≡ b → (table : NodeTable) × ((if b then Some x else config.node_at nodes t.id.0) ≡ Some table)
      by true e = (x, refl)
      by false e = absurd (not_itself t.id.0 (ap (λ (y : NodeTable). y.id.0 == t.id.0) same ∙ e))
        where
          not_itself : (n : ℕ) → (n == n) ≡ false → ⊥
          not_itself n e = elim (eqb_tells n n) [ inl alike ↦ (let wrong : true ≡ false = sym alike.0 ∙ e in cc) | inr differs ↦ differs.1 refl ]
  is_node (x ∷ nodes) t (inr later) = by (x.id.0 == t.id.0) (is_node nodes t later)
    where
      by : (b : Bool) → (table : NodeTable) × (config.node_at nodes t.id.0 ≡ Some table) → (table : NodeTable) × ((if b then Some x else config.node_at nodes t.id.0) ≡ Some table)
      by true rest = (x, refl)
      by false rest = rest

  -- before the start nothing has happened in either world
  clients_tie : (tables : List ClientTable) (id : ClientId) → ((t : ClientTable) → config.client_at tables id.0 ≡ Some t → IsClient c id)
      → ClientTies c id (lookup (is_at (client_cmp id)) (map (λ client. (id_of_client client, new_client (id_of_client client))) tables)) (new_client (record { 0 = id.0 }))
  clients_tie [] id known = tt
  clients_tie (t ∷ tables) id known = by (is_at (client_cmp id) t.id) refl (λ more. clients_tie tables id more)
    where
      by : (b : Bool) → is_at (client_cmp id) t.id ≡ b
          → (((x : ClientTable) → config.client_at tables id.0 ≡ Some x → IsClient c id)
          → ClientTies c id (lookup (is_at (client_cmp id)) (map (λ client. (id_of_client client, new_client (id_of_client client))) tables)) (new_client (record { 0 = id.0 })))
          → ClientTies c id (cond b (Some (new_client t.id)) (lookup (is_at (client_cmp id)) (map (λ client. (id_of_client client, new_client (id_of_client client))) tables))) (new_client (record { 0 = id.0 }))
      by true e later =
          let here : (t.id.0 == id.0) ≡ true = sym (eq_turned id.0 t.id.0) ∙ e in
          (known t (ap (λ (b : Bool). if b then Some t else config.client_at tables id.0) here), ap (λ (n : ℕ). new_client (record { 0 = n })) (sym (same_number t.id.0 id.0 here)))
      by false e later =
          let other : (t.id.0 == id.0) ≡ false = sym (eq_turned id.0 t.id.0) ∙ e in
          later (λ x found. known x (ap (λ (b : Bool). if b then Some t else config.client_at tables id.0) other ∙ found))

  first_ties : WorldTies c (nothing c) bare.nothing
  first_ties = record { nodes = λ id. refl; clients = λ id. clients_tie c.clients id (λ t found. (t, found)); frames = refl }

  pub start_goes : GoesOn c [] (started c)
  unfolding started
  start_goes = starts_go c.nodes 0 valid.nodes.ids (λ t has. is_node c.nodes t has) [] tt (nothing c) first_ties (λ q low. refl)

  -- ---- runs

  pub ran_goes : (xs : List Happening) (past : List bare.Happening) → MayRun c bare.nothing past → (w : World) → WorldTies c w (world_after c past) → disks.MayRun c xs w → AllByRecursion (Fits c) xs → GoesOn c past (ran_from c xs w)
  ran_goes [] past ran w ties may fits = by_none c past ran w ties
  ran_goes (x ∷ xs) past ran w ties may fits =
      then_goes c past (outcome_of c x w) (λ next. ran_from c xs next) (happening_goes x past ran w ties may.0 fits.0)
      (λ next ran_next tied. ran_goes xs next ran_next (outcome_of c x w).world tied may.1 fits.1)

  pub run_goes : (xs : List Happening) → IsRun c xs → AllByRecursion (Fits c) xs → GoesOn c [] (run_of c xs)
  run_goes xs may fits = then_goes c [] (started c) (λ w. ran_from c xs w) start_goes (λ next ran tied. ran_goes xs next ran (started c).world tied may fits)

  -- a schedule's lines are those of its run, and each of its events may happen when its turn comes
  pub scheduled_fit : (events : List ScheduleEvent) → AllByRecursion (IsShown c) events → AllByRecursion (Fits c) (map Scheduled events)
  scheduled_fit [] shown = tt
  scheduled_fit (e ∷ events) shown = (shown.0, scheduled_fit events shown.1)

  pub schedule_goes : (events : List ScheduleEvent) → AllByRecursion MayBeScheduled events → AllByRecursion (IsShown c) events
      → (hs : List bare.Happening) × MayRun c bare.nothing hs × (trace c events ≡ (world_after c hs).lines ++ line.End (length events) ∷ [])
  schedule_goes events may shown =
      let goes = run_goes (map Scheduled events) (may_run c events (started c).world may) (scheduled_fit events shown) in
      (goes.more, goes.may, trace_is c events ∙ ap (λ lines. lines ++ line.End (length events) ∷ []) (sym goes.lines))
