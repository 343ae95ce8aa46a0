-- Where no fault is set at a node, its plan stays without one, and no line says that its disk failed.
use Rattle.std.proofs.Common.{◌≡◌, inl, inr, ℕ, zero, suc, ◌+◌, ◌==◌, Bool, true, false, true≢false, ◌||◌, cond, List, [], ◌∷◌, ◌++◌, length, map, Option, Some, None, Result, Ok, Err, refl, sym, ap, ◌∙◌, subst, arith}
use Rattle.std.specs.Prelude.{slice_get}
use Rattle.std.proofs.lemmas.Bool.Decides.{nat_tests}
use Rattle.std.specs.List.{AllByRecursion, list_any}
use Rattle.mrp_types.specs.declared.id.NodeId.{NodeId}
use Rattle.mrp_types.specs.declared.id.ClientId.{ClientId}
use Rattle.mrp_types.specs.declared.id.Party.{Party}
use Rattle.mrp_types.specs.declared.id.Party.TheVariants.{Node, Client}
use Rattle.mrp_config.specs.Config.{Config}
use Rattle.mrp_config.specs.Valid.{IsValid}
use Rattle.command_codec.specs.declared.command.Command.{Command}
use Rattle.frames.specs.declared.sent.Sent.{Sent}
use Rattle.disk_model.specs.declared.areas.Areas.{Areas}
use Rattle.disk_model.specs.declared.call.Call.{Call}
use Rattle.disk_model.specs.declared.plan.Plan.{Plan}
use Rattle.disk_model.specs.Calls.{Told, IsImage, reads}
use Rattle.disk_model.specs.Crash.{left_by}
use Rattle.disk_model.specs.Sim.{Sim}
use Rattle.disk_model.specs.Running.{Ran, ran, changes_in}
use Rattle.quorums.specs.Groups.{Has}
use Rattle.quorums.proofs.Each.{mapped, appended}
use Rattle.protocol.specs.Lines.{Line, Cause, Crash, Disk, Full, Down as WentDown}
use Rattle.protocol.specs.Lines as line
use Rattle.protocol.specs.Client.{ClientView, ClientEffects, asks, client_ticks, client_takes}
use Rattle.protocol.specs.Node.{View, Event, Ticks, Takes, Leads, Stepped, ops_of, is_full}
use Rattle.protocol.specs.Opening.{opened}
use Rattle.protocol.specs.Step.{step}
use Rattle.bare_world.specs.Worlds as bare
use Rattle.bare_world.specs.Runs.{MayRun}
use Rattle.world_model.specs.Disks.{cause_of, settled, no_plan, with_fuse, with_fail, with_fail_read, restarted}
use Rattle.world_model.specs.Events.{ScheduleEvent}
use Rattle.world_model.specs.Events as event
use Rattle.world_model.specs.Opening.{Opening, Kept, opening}
use Rattle.world_model.specs.Runs.{Happening, Scheduled, Returns, MayReturn, MayBeScheduled, MayHappen, outcome_of, ran_from, run_of}
use Rattle.world_model.specs.Runs as disks
use Rattle.world_model.specs.Worlds.{Host, Up, Down, World, Outcome, quiet, and_then, for_each, node_at, with_node, with_client, sends, goes_down, after_step, worked, unless_full, steps_as, steps, opened_as, opened_where, opens, client_step, client_gets, delivers_to, delivers, moves_on, flows, loses, lists, client_asks, client_step_tick, ticks_client, crashes, comes_back, with_faults, faults_at, faults, state_of_host, id_of_node, id_of_client, client_at, happens, opens_first, nothing, started, empty_disk}
use Rattle.world_model.specs.Trace.{trace}
use Rattle.world_model.proofs.Scheduled.{may_be, may_run, trace_is}
use Rattle.disk_states.proofs.Opening.{opening_full}
use Rattle.disk_states.proofs.Working.{empty_stands}
use Rattle.disk_runs.specs.Runs.{never, WorldTies, world_after, GoesOn, IsShown, Fits}
use Rattle.disk_runs.proofs.Whole.{happening_goes, start_goes}
use Rattle.disk_runs.proofs.Works.{all_work}
use Rattle.disk_runs.proofs.Tying.{node_put, same_node}
use Rattle.disk_runs.proofs.Readable.{no_damage}
use Rattle.disk_faults.specs.Faults.{is_fault_at, sets_fault}
use Rattle.disk_faults.proofs.Plans.{Calm, Ends, ran_ends}
use Rattle.disk_faults.proofs.Quiet.{IsNoDown, Quiet, own_lines}
use Rattle.node_lines.proofs.Stepping.{step_quiet, opened_quiet}
use Rattle.disk_faults.proofs.Asking.{asks_quiet, client_ticks_quiet, client_takes_quiet}

-- the line isn't that of a disk of this node that failed
pub IsOther : NodeId → Line → Type 0
IsOther id l = l ≡ WentDown id Disk → ⊥

no_down : (id : NodeId) (l : Line) → IsNoDown l → IsOther id l
unfolding IsOther
no_down id (WentDown node cause) is = absurd is
no_down id other is = λ e. absurd cc

abbrev HostCalm : Option Host → Type 0
HostCalm None = Unit {0}
HostCalm (Some (Up view disk)) = Calm disk.trouble.plan
HostCalm (Some (Down told plan)) = Calm plan

-- a node's plan has no such fault after this, and no line says that its disk failed
pub record Keeps (id : NodeId) (o : Outcome) : Type 0 where
  pub calm : HostCalm (node_at o.world id)
  pub lines : AllByRecursion (IsOther id) o.lines

module _ (config : Config) (id : NodeId) where
  -- this word keeps it
  abbrev Keeping : (World → Outcome) → Type 0
  Keeping word = (w : World) → HostCalm (node_at w id) → Keeps id (word w)

  others : (lines : List Line) → Quiet lines → AllByRecursion (IsOther id) lines
  others lines all = mapped IsNoDown (IsOther id) (no_down id) lines all

  joined : (o : Outcome) (more : World → Outcome) → Keeps id o → Keeps id (more o.world) → Keeps id (and_then o more)
  joined o more first second = record { calm = second.calm; lines = appended (IsOther id) o.lines (more o.world).lines first.lines second.lines }

  each_keeps : {A : Type 0} (word : A → World → Outcome) → ((x : A) → Keeping (word x)) → (xs : List A) → Keeping (for_each word xs)
  each_keeps word keeps [] w calm = record { calm = calm; lines = tt }
  each_keeps word keeps (x ∷ xs) w calm =
      let first = keeps x w calm in
      joined (word x w) (λ next. for_each word xs next) first (each_keeps word keeps xs (word x w).world first.calm)

  still : (w : World) → HostCalm (node_at w id) → Keeps id (quiet w)
  still w calm = record { calm = calm; lines = tt }

  sent : (frames : List Sent) (w : World) → HostCalm (node_at w id) → HostCalm (node_at (sends frames w) id)
  sent [] w calm = calm
  sent (s ∷ frames) w calm = calm

  -- a host is put at a node
  put : (q : NodeId) (host : Host) (w : World) → ((id.0 == q.0) ≡ true → HostCalm (Some host)) → HostCalm (node_at w id) → HostCalm (node_at (with_node q host w) id)
  put q host w own calm = subst HostCalm (sym (node_put w q host id)) (by (id.0 == q.0) refl)
    where
      by : (t : Bool) → (id.0 == q.0) ≡ t → HostCalm (cond t (Some host) (node_at w id))
      by true e = own e
      by false e = calm

  -- ---- a node goes down, or goes on

  not_it : (q : NodeId) (cause : Cause) → ((id.0 == q.0) ≡ true → cause ≡ Disk → ⊥) → IsOther id (WentDown q cause)
  unfolding IsOther
  not_it q cause never e =
      let same : q ≡ id = cc in
      let why : cause ≡ Disk = cc in
      never (ap (λ (n : NodeId). id.0 == n.0) same ∙ itself id.0) why
    where
      itself : (n : ℕ) → (n == n) ≡ true
      itself n = grind (arith, nat_tests)

  falls : (q : NodeId) (disk : Sim) (cause : Cause) → ((id.0 == q.0) ≡ true → cause ≡ Disk → ⊥) → Keeping (goes_down q disk cause)
  falls q disk cause never w calm = record {
    calm = put q (Down disk.told no_plan) w (λ e. record { fail = refl; fail_read = refl }) calm;
    lines = (not_it q cause never, tt);
  }

  settled_plan : (calls : List Call) (disk : Sim) → (settled calls disk).trouble ≡ disk.trouble
  settled_plan [] disk = refl
  settled_plan (c ∷ calls) disk = refl

  goes_on : (q : NodeId) (before : List Line) (made : Stepped) (calls : List Call) (disk : Sim) → Quiet before → Quiet made.lines → ((id.0 == q.0) ≡ true → Calm disk.trouble.plan)
      → Keeping (after_step q before made calls disk)
  goes_on q before made calls disk first second own w calm = record {
    calm = sent made.frames (with_node q (Up made.view (settled calls disk)) w)
        (put q (Up made.view (settled calls disk)) w (λ e. subst (λ (p : Plan). Calm p) (sym (ap (λ t. t.plan) (settled_plan calls disk))) (own e)) calm);
    lines = others (before ++ made.lines) (appended IsNoDown before made.lines first second);
  }

  -- why a node stops whose plan has no such fault
  cause_is : (disk : Sim) → disk.trouble.stopped ≡ true → cause_of disk ≡ Disk → ⊥
  cause_is disk stopped e = by disk.trouble.stopped stopped e
    where
      by : (b : Bool) → b ≡ true → cond b Crash Disk ≡ Disk → ⊥
      by true is e = absurd cc
      by false is e = true≢false (sym is)

  -- ---- a step

  -- what is so of this node is so of that one
  own_plan : (q : NodeId) (w : World) (host : Host) → node_at w q ≡ Some host → HostCalm (node_at w id) → (id.0 == q.0) ≡ true → HostCalm (Some host)
  own_plan q w host found calm same = subst HostCalm (ap (λ (n : NodeId). node_at w n) (sym (same_node id q same)) ∙ found) calm

  by_work : (q : NodeId) (made : Stepped) (calls : List Call) (now : Ran) → Quiet made.lines → ((id.0 == q.0) ≡ true → Ends now) → Keeping (worked q made calls now.disk now.done)
  by_work q made calls now lines own w calm = by now.done refl
    where
      by : (b : Bool) → now.done ≡ b → Keeps id (worked q made calls now.disk b w)
      by true e = goes_on q [] made calls now.disk tt lines (λ same. (own same).calm) w calm
      by false e = falls q now.disk (cause_of now.disk) (λ same. cause_is now.disk ((own same).by_fuse e)) w calm

  steps_keep : (event : Event) (q : NodeId) → Keeping (steps config event q)
  steps_keep event q w calm = by (node_at w q) refl
    where
      at : (view : View) (disk : Sim) → node_at w q ≡ Some (Up view disk) → (b : Bool) → Keeps id (unless_full q view (step config view event) disk b w)
      at view disk found true = falls q disk Full (λ same e. absurd cc) w calm
      at view disk found false =
          let made = step config view event in
          let ops = ops_of view made.work disk.told in
          by_work q made (changes_in ops) (ran ops disk) (own_lines (step config view event).lines (step_quiet config view event)) (λ same. ran_ends ops disk (own_plan q w (Up view disk) found calm same)) w calm

      by : (o : Option Host) → node_at w q ≡ o → Keeps id (steps_as config q event o w)
      by None found = still w calm
      by (Some (Down told plan)) found = still w calm
      by (Some (Up view disk)) found = at view disk found (is_full view (step config view event).work)

  -- ---- an opening

  opens_keep : (q : NodeId) (disk : Sim) → ((id.0 == q.0) ≡ true → Calm disk.trouble.plan) → ((opening config q (reads disk.told)).result ≡ Err Disk → ⊥) → Keeping (opens config q disk)
  opens_keep q disk own sound w calm = by now.done refl
    where
      found : Opening Kept
      found = opening config q (reads disk.told)

      now : Ran
      now = ran found.work disk

      ends : (id.0 == q.0) ≡ true → Ends now
      ends same = ran_ends found.work disk (own same)

      by_result : (r : Result Kept Cause) → found.result ≡ r → Keeps id (opened_as config q now.disk.told.calls now.disk r w)
      by_result (Err cause) e = falls q now.disk cause (λ same is. sound (e ∙ ap Err is)) w calm
      by_result (Ok kept) e =
          goes_on q (line.Up q kept.journal.state.epoch ∷ []) (opened config q kept.journal kept.checkpoints) now.disk.told.calls now.disk (tt, tt)
          (own_lines (opened config q kept.journal kept.checkpoints).lines (opened_quiet config q kept.journal kept.checkpoints)) (λ same. (ends same).calm) w calm

      by : (b : Bool) → now.done ≡ b → Keeps id (opened_where config q found.result now.disk b w)
      by true e = by_result found.result refl
      by false e = falls q now.disk (cause_of now.disk) (λ same. cause_is now.disk ((ends same).by_fuse e)) w calm

  comes_keep : (q : NodeId) (image : Told → Areas) (w : World) → ((told : Told) (plan : Plan) → node_at w q ≡ Some (Down told plan) → (opening config q (image told)).result ≡ Err Disk → ⊥)
      → HostCalm (node_at w id) → Keeps id (comes_back config q image (node_at w q) w)
  comes_keep q image w sound calm = by (node_at w q) refl
    where
      by : (o : Option Host) → node_at w q ≡ o → Keeps id (comes_back config q image o w)
      by None found = still w calm
      by (Some (Up view disk)) found = still w calm
      by (Some (Down told plan)) found = opens_keep q (restarted (image told) plan) (λ same. own_plan q w (Down told plan) found calm same) (sound told plan found) w calm

  -- ---- clients

  client_keeps : (q : ClientId) (made : ClientEffects) → Quiet made.lines → Keeping (client_step q made)
  client_keeps q made lines w calm = record { calm = sent made.frames (with_client q made.client w) calm; lines = others made.lines lines }

  asks_keep : (q : ClientId) (command : Command) → Keeping (λ w. client_asks config q command (client_at w q) w)
  asks_keep q command w calm = by (client_at w q)
    where
      by : (o : Option ClientView) → Keeps id (client_asks config q command o w)
      by None = still w calm
      by (Some view) = client_keeps q (asks config view command) (asks_quiet config view command) w calm

  client_tick_keeps : (q : ClientId) → Keeping (ticks_client config q)
  client_tick_keeps q w calm = by (client_at w q)
    where
      by : (o : Option ClientView) → Keeps id (client_step_tick config q o w)
      by None = still w calm
      by (Some view) = client_keeps q (client_ticks config view) (client_ticks_quiet config view) w calm

  -- ---- frames

  comes_to : (s : Sent) (to : Party) → Keeping (delivers_to config to s)
  comes_to s (Node q) w calm = steps_keep (Takes s.frame) q w calm
  comes_to s (Client q) w calm = by (client_at w q)
    where
      by : (o : Option ClientView) → Keeps id (client_gets config q s.frame.body o w)
      by None = still w calm
      by (Some view) = client_keeps q (client_takes config view s.frame.body) (client_takes_quiet config view s.frame.body) w calm

  delivers_keep : (o : Option Sent) → Keeping (delivers config o)
  delivers_keep None w calm = still w calm
  delivers_keep (Some s) w calm = comes_to s s.to w calm

  flows_keep : (count : ℕ) → Keeping (flows config count)
  flows_keep zero w calm = still w calm
  flows_keep (suc count) w calm = by (slice_get w.frames w.cursor) (λ v kept. flows_keep count v kept)
    where
      by : (o : Option Sent) → Keeping (flows config count) → Keeps id (moves_on config (λ next. flows config count next) o w)
      by None rest = still w calm
      by (Some s) rest =
          let moved : World = record w { cursor = w.cursor + 1 } in
          let first = comes_to s s.to moved calm in
          joined (delivers_to config s.to s moved) (λ next. flows config count next) first (rest (delivers_to config s.to s moved).world first.calm)

  -- ---- faults, crashes and events

  faults_keep : (sets : Plan → Plan) (q : NodeId) → ((id.0 == q.0) ≡ true → (p : Plan) → Calm p → Calm (sets p)) → Keeping (λ w. quiet (faults sets q w))
  faults_keep sets q stays w calm = by (node_at w q) refl
    where
      by : (o : Option Host) → node_at w q ≡ o → Keeps id (quiet (faults_at sets q o w))
      by None found = still w calm
      by (Some (Up view disk)) found =
          still (with_node q (with_faults sets (Up view disk)) w) (put q (with_faults sets (Up view disk)) w (λ same. stays same disk.trouble.plan (own_plan q w (Up view disk) found calm same)) calm)
      by (Some (Down told plan)) found =
          still (with_node q (with_faults sets (Down told plan)) w) (put q (with_faults sets (Down told plan)) w (λ same. stays same plan (own_plan q w (Down told plan) found calm same)) calm)

  crash_keeps : (q : NodeId) → Keeping (λ w. crashes q (node_at w q) w)
  crash_keeps q w calm = by (node_at w q)
    where
      by : (o : Option Host) → Keeps id (crashes q o w)
      by None = still w calm
      by (Some (Down told plan)) = still w calm
      by (Some (Up view disk)) = falls q disk Crash (λ same e. absurd cc) w calm

  -- no opening of a world finds damage
  abbrev Sound : World → Type 0
  Sound w = (q : NodeId) (told : Told) (plan : Plan) → node_at w q ≡ Some (Down told plan) → (image : Areas) → IsImage told image → (opening config q image).result ≡ Err Disk → ⊥

  event_keeps : (e : ScheduleEvent) → is_fault_at id e ≡ false → (w : World) → Sound w → HostCalm (node_at w id) → Keeps id (happens config e w)
  unfolding happens
  event_keeps (event.Ask client command) other w sound calm = asks_keep client command w calm
  event_keeps (event.Flow count) other w sound calm = flows_keep count w calm
  event_keeps (event.Lose count) other w sound calm = still (loses count w) calm
  event_keeps (event.Deliver frame) other w sound calm = delivers_keep (slice_get w.frames frame) w calm
  event_keeps (event.List frame) other w sound calm = record { calm = calm; lines = others (lists frame w).lines (tt, tt) }
  event_keeps event.TickAll other w sound calm =
      let first = each_keeps (steps config Ticks) (steps_keep Ticks) (map id_of_node config.nodes) w calm in
      let then : World = (for_each (steps config Ticks) (map id_of_node config.nodes) w).world in
      joined (for_each (steps config Ticks) (map id_of_node config.nodes) w) (λ next. for_each (ticks_client config) (map id_of_client config.clients) next) first
      (each_keeps (ticks_client config) client_tick_keeps (map id_of_client config.clients) then first.calm)
  event_keeps (event.TickNode node) other w sound calm = steps_keep Ticks node w calm
  event_keeps (event.TickClient client) other w sound calm = client_tick_keeps client w calm
  event_keeps (event.Lead node ring) other w sound calm = steps_keep (Leads ring) node w calm
  event_keeps (event.Crash node) other w sound calm = crash_keeps node w calm
  event_keeps (event.Restart node image) other w sound calm =
      comes_keep node (left_by image) w (λ told plan found. sound node told plan found (left_by image told) (may_be image told)) calm
  event_keeps (event.Fuse node calls) other w sound calm = faults_keep (with_fuse calls) node (λ same p is. record { fail = is.fail; fail_read = is.fail_read }) w calm
  event_keeps (event.Fail node calls) other w sound calm = faults_keep (with_fail calls) node (λ same p is. absurd (true≢false (sym same ∙ other))) w calm
  event_keeps (event.FailRead node calls) other w sound calm = faults_keep (with_fail_read calls) node (λ same p is. absurd (true≢false (sym same ∙ other))) w calm
  event_keeps (event.Show node) other w sound calm = record { calm = calm; lines = others (line.State node (state_of_host (node_at w node)) ∷ []) (tt, tt) }

  happening_keeps : (x : Happening) → sets_fault id x ≡ false → (w : World) → MayHappen w x → Sound w → HostCalm (node_at w id) → Keeps id (outcome_of config x w)
  happening_keeps (Scheduled e) other w may sound calm = event_keeps e other w sound calm
  happening_keeps (Returns q image) other w may sound calm =
      comes_keep q (λ told. image) w (λ told plan found. sound q told plan found image (subst (λ (o : Option Host). MayReturn image o) found may)) calm

  -- ---- runs

  module _ (valid : IsValid config) where
    sound_at : (past : List bare.Happening) → MayRun config bare.nothing past → (w : World) → WorldTies config w (world_after config past) → Sound w
    sound_at past ran w ties q told plan found image is fails =
        let full = no_damage config valid past ran w ties q told plan found image is Disk fails in
        let never : Disk ≡ Full = full.full.full in absurd cc

    first_sound : (q : NodeId) → (opening config q (reads empty_disk.told)).result ≡ Err Disk → ⊥
    first_sound q fails =
        let most = valid.journal.1 in
        let full = opening_full config q (record { journal0 = []; journal1 = []; check2 = []; check3 = [] }) never (omega arith) (omega arith) (empty_stands q) (λ p one mine none. absurd cc) Disk fails in
        let wrong : Disk ≡ Full = full.full in absurd cc

    start_keeps : Keeps id (started config)
    unfolding started
    start_keeps =
        each_keeps (opens_first config) (λ q w calm. opens_keep q empty_disk (λ same. record { fail = refl; fail_read = refl }) (first_sound q) w calm) (map id_of_node config.nodes) (nothing config) tt

    parts : (x y : Bool) → (x || y) ≡ false → (x ≡ false) × (y ≡ false)
    parts true y e = absurd (true≢false e)
    parts false y e = (refl, e)

    ran_keeps : (xs : List Happening) (past : List bare.Happening) → MayRun config bare.nothing past → (w : World) → WorldTies config w (world_after config past) → disks.MayRun config xs w
        → AllByRecursion (Fits config) xs → list_any (sets_fault id) xs ≡ false → HostCalm (node_at w id) → Keeps id (ran_from config xs w)
    ran_keeps [] past ran w ties may fits none calm = still w calm
    ran_keeps (x ∷ xs) past ran w ties may fits none calm =
        let each = parts (sets_fault id x) (list_any (sets_fault id) xs) none in
        let first = happening_keeps x each.0 w may.0 (sound_at past ran w ties) calm in
        let goes : GoesOn config past (outcome_of config x w) = happening_goes config valid (all_work config valid) x past ran w ties may.0 fits.0 in
        joined (outcome_of config x w) (λ next. ran_from config xs next) first
        (ran_keeps xs (past ++ goes.more) goes.may (outcome_of config x w).world goes.ties may.1 fits.1 each.1 first.calm)

    run_keeps : (xs : List Happening) → disks.IsRun config xs → AllByRecursion (Fits config) xs → list_any (sets_fault id) xs ≡ false → Keeps id (run_of config xs)
    run_keeps xs may fits none =
        let goes : GoesOn config [] (started config) = start_goes config valid (all_work config valid) in
        joined (started config) (λ w. ran_from config xs w) start_keeps
        (ran_keeps xs goes.more goes.may (started config).world goes.ties may fits none start_keeps.calm)

    not_among : (lines : List Line) → AllByRecursion (IsOther id) lines → Has lines (WentDown id Disk) → ⊥
    unfolding IsOther
    not_among [] all has = has
    not_among (l ∷ lines) all (inl is) = all.0 (sym is)
    not_among (l ∷ lines) all (inr later) = not_among lines all.1 later

    pub run_faults : (xs : List Happening) → disks.IsRun config xs → AllByRecursion (Fits config) xs → Has (run_of config xs).lines (WentDown id Disk) → list_any (sets_fault id) xs ≡ true
    run_faults xs may fits has = by (list_any (sets_fault id) xs) refl
      where
        by : (b : Bool) → list_any (sets_fault id) xs ≡ b → b ≡ true
        by true e = refl
        by false e = absurd (not_among (run_of config xs).lines (run_keeps xs may fits e).lines has)

    -- the end isn't such a line
    before_end : (lines : List Line) (count : ℕ) → Has (lines ++ line.End count ∷ []) (WentDown id Disk) → Has lines (WentDown id Disk)
    before_end [] count (inl is) = absurd cc
    before_end [] count (inr later) = later
    before_end (l ∷ lines) count (inl is) = inl is
    before_end (l ∷ lines) count (inr later) = inr (before_end lines count later)

    fitting : (events : List ScheduleEvent) → AllByRecursion (IsShown config) events → AllByRecursion (Fits config) (map Scheduled events)
    fitting [] shown = tt
    fitting (e ∷ events) shown = (shown.0, fitting events shown.1)

    pub trace_faults : (events : List ScheduleEvent) → AllByRecursion MayBeScheduled events → AllByRecursion (IsShown config) events → Has (trace config events) (WentDown id Disk)
        → list_any (sets_fault id) (map Scheduled events) ≡ true
    trace_faults events may shown has =
        run_faults (map Scheduled events) (may_run config events (started config).world may) (fitting events shown)
        (before_end (run_of config (map Scheduled events)).lines (length events) (subst (λ lines. Has lines (WentDown id Disk)) (trace_is config events) has))
