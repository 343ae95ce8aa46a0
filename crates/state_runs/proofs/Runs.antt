-- Every run keeps states.
use Rattle.std.proofs.Common.{◌≡◌, ℕ, Bool, true, false, List, [], ◌∷◌, ◌++◌, Option, Some, None, refl, sym, ◌∙◌, ap, subst, append-nil}
use Rattle.std.specs.Prelude.{◌==◌, if◌then◌else◌}
use Rattle.std.specs.List.{AllByRecursion}
use Rattle.mrp_types.specs.declared.id.NodeId.{NodeId}
use Rattle.mrp_types.specs.declared.id.ClientId.{ClientId}
use Rattle.mrp_types.specs.declared.id.Party.{Party}
use Rattle.mrp_types.specs.declared.id.Party.TheVariants.{Node, Client}
use Rattle.mrp_types.specs.Book.{Learning}
use Rattle.mrp_config.specs.Config.{Config, partition_of}
use Rattle.mrp_config.specs.Valid.{IsValid}
use Rattle.frames.specs.declared.frame.Frame.{Frame}
use Rattle.frames.specs.declared.body.Body.{Body}
use Rattle.checkpoint.specs.Checkpoints.{Checkpoint, Checkpoints}
use Rattle.vote_journal.specs.Journal.{Journal}
use Rattle.plain_model.specs.Lines.{learnings}
use Rattle.protocol.specs.Lines.{Line, Cause}
use Rattle.protocol.specs.Lines as line
use Rattle.protocol.specs.Client.{ClientEffects, asks, client_ticks, client_takes}
use Rattle.protocol.specs.Opening.{opened}
use Rattle.protocol.specs.Node.{View, Event, Ticks, Takes, Leads}
use Rattle.protocol.specs.Step.{step}
use Rattle.bare_world.specs.Worlds.{Possible, Host, Up, Down, World, nothing, Happening, Steps, Breaks, Crashes, Opens, Fails, Asks, ClientTicks, ClientTakes, Shows, Lists, chosen, possible_of, happens, steps_as, breaks_as, crashes_as, opens_as, fails_as, client_step, state_of_host, with_lines}
use Rattle.bare_world.specs.Runs.{IsNode, IsClient, MayCome, MayOpenAt, MayLeaveAt, MayHappen, run, MayRun}
use Rattle.bare_world.proofs.Onward.{run_both, may_both}
use Rattle.state_laws.specs.Books.{AreOfBytes}
use Rattle.line_rules.specs.Rules.{HasNode, HasClient}
use Rattle.line_rules.specs.Scanners.{past, learned}
use Rattle.line_rules.proofs.Growing.{same_number}
use Rattle.faithful.proofs.Growing.{past_more}
use Rattle.faithful.proofs.Quorum.{all_has}
use Rattle.recovery_lines.specs.Ties.{PartySaid, IsPlaced, ReplicaLines, ViewLines, rings_in}
use Rattle.step_lines.specs.Effects.{AllAgree, EventSaid}
use Rattle.quiet_rules.specs.Quiet.{OwesNothing, OwnNamesFit}
use Rattle.ask_laws.proofs.Reading.{book-of-bytes}
use Rattle.ask_laws.proofs.Worlds.{all_keep}
use Rattle.line_runs.specs.Invariant.{node, UpLines, HostLines, WorldLines}
use Rattle.line_runs.specs.Laws.{IsRun}
use Rattle.line_runs.proofs.Fitting.{valid_fits}
use Rattle.line_runs.proofs.Laws.{run_lines, body_said}
use Rattle.state_steps.specs.Folded.{PartyFolded, SentFolded}
use Rattle.state_steps.specs.States.{NewestAt, ReplicaAt, StepAt, ViewAt, EventFolded}
use Rattle.state_steps.proofs.Growing.{newest_more}
use Rattle.state_steps.proofs.Words.{paid_still}
use Rattle.state_steps.proofs.Whole.{step_at, opened_at}
use Rattle.state_steps.proofs.Left.{step_left_at}
use Rattle.state_runs.specs.Invariant.{PossibleAt, UpAt, HostAt, StatesAt, KeepsStates}
use Rattle.state_runs.proofs.Books.{learned_latest, all_agree}
use Rattle.state_runs.proofs.Deployed.{valid_limited}
use Rattle.state_runs.proofs.Worlds.{stepped_states, down_states, still_states, first_states}
use Rattle.state_runs.proofs.Clients.{IsBeside, owe_none, fit_own, beside_asks, beside_ticks, beside_takes}

-- the node that was put is there
put_id : (c : Config) (lines : List Line) (x : ℕ) (view : View) (hosts : ℕ → Host) → HostLines c lines x (if x == x then Up view else hosts x) → view.id ≡ node x
put_id c lines x view hosts h = (subst (λ (b : Bool). HostLines c lines x (if b then Up view else hosts x)) (same_number x) h).id

-- ---- a happening after a run

module _ (c : Config) (hs : List Happening) (r : IsRun c hs) where
  abbrev now : World
  now = run c hs nothing

  abbrev so_far : List Line
  so_far = past [] (run c hs nothing).lines

  pub longer : (h : Happening) → MayHappen c now h → IsRun c (hs ++ h ∷ [])
  longer h may = record { valid = r.valid; may = may_both c nothing hs (h ∷ []) r.may (may, tt) }

  pub lines_then : (h : Happening) → MayHappen c now h → WorldLines c (happens c h now)
  lines_then h may = subst (λ (v : World). WorldLines c v) (run_both c nothing hs (h ∷ [])) (run_lines c (hs ++ h ∷ []) (longer h may))

  pub agree_then : (h : Happening) → MayHappen c now h → AllAgree (past [] (happens c h now).lines)
  agree_then h may = subst (λ (v : World). AllAgree (past [] v.lines)) (run_both c nothing hs (h ∷ [])) (all_agree c (hs ++ h ∷ []) (longer h may))

  given : AreOfBytes (learned so_far)
  given = subst (λ (known : List Learning). AreOfBytes known) (sym (learned_latest (run c hs nothing).lines)) (book-of-bytes c hs r.valid r.may)

  pub up_lines : (n : ℕ) (view : View) → now.hosts n ≡ Up view → UpLines c so_far n view
  up_lines n view e = subst (λ (host : Host). HostLines c so_far n host) e ((run_lines c hs r).hosts n)

  pub view_lines : (n : ℕ) (view : View) → UpLines c so_far n view → ViewLines c so_far view
  view_lines n view u = record {
    right = (run_lines c hs r).right;
    known = (run_lines c hs r).known;
    parts = u.parts;
    replica = subst (λ (x : NodeId). ReplicaLines c so_far x view.journal.state.epoch view.checkpoints.newest view.service) (sym u.id) u.replica;
  }

  -- what came was said
  pub event_said : (id : NodeId) (event : Event) → MayCome now id event → EventSaid c so_far id event
  event_said id Ticks may = tt
  event_said id (Leads ring) may = tt
  event_said id (Takes frame) may = go frame.from refl
    where
      go : (from : Party) → frame.from ≡ from → PartySaid c so_far from (Node id) frame.body
      go (Client from) e = tt
      go (Node from) e =
          body_said c hs r may.sent from id frame.body may.there (record { from_node = ap (λ (f : Frame). f.from) may.same ∙ e; to_node = may.by; same = ap (λ (f : Frame). f.body) may.same })

  pub step_agrees : (id : NodeId) (event : Event) (view : View) → now.hosts id.0 ≡ Up view → MayCome now id event → AllAgree (past so_far (step c view event).lines)
  step_agrees id event view e may =
      let all : AllAgree (past [] (steps_as c id event (Up view) now).lines) = subst (λ (host : Host). AllAgree (past [] (steps_as c id event host now).lines)) e (agree_then (Steps id event) may) in
      subst (λ (ls : List Line). AllAgree ls) (past_more [] (run c hs nothing).lines (step c view event).lines) all

  pub own_client : (id : ClientId) → IsClient c id → HasClient c ((run c hs nothing).clients id.0).id
  own_client id there = subst (λ (k : ClientId). HasClient c k) (sym ((all_keep c hs r.may).clients.each id.0).id) there

  module _ (kept : KeepsStates c now) where
    event_folded : (id : NodeId) (event : Event) → MayCome now id event → EventFolded c so_far event
    event_folded id Ticks may = tt
    event_folded id (Leads ring) may = tt
    event_folded id (Takes frame) may =
        subst (λ (f : Frame). PartyFolded c so_far f.from f.body) may.same (all_has (SentFolded c so_far) (run c hs nothing).frames may.sent kept.frames may.there)

    up_at : (n : ℕ) (view : View) → now.hosts n ≡ Up view → UpAt c so_far n view
    up_at n view e = subst (λ (host : Host). HostAt c so_far n host) e (kept.hosts n)

    view_at : (n : ℕ) (view : View) → UpLines c so_far n view → UpAt c so_far n view → ViewAt c so_far view
    view_at n view u k = record {
      paid = kept.paid;
      replica = subst (λ (x : NodeId). ReplicaAt c so_far x view.service) (sym u.id) k.replica;
      newest = subst (λ (x : NodeId). NewestAt c so_far (partition_of c.partitions x) view.checkpoints.newest) (sym u.id) k.newest;
    }

    -- ---- steps

    step_id : (id : NodeId) (event : Event) (view : View) → now.hosts id.0 ≡ Up view → MayCome now id event → (step c view event).view.id ≡ node id.0
    step_id id event view e may =
        let t : WorldLines c (steps_as c id event (Up view) now) = subst (λ (host : Host). WorldLines c (steps_as c id event host now)) e (lines_then (Steps id event) may) in
        put_id c (past [] (steps_as c id event (Up view) now).lines) id.0 (step c view event).view (run c hs nothing).hosts (t.hosts id.0)

    step_then : (id : NodeId) (event : Event) (view : View) → now.hosts id.0 ≡ Up view → MayCome now id event → StepAt c so_far (step c view event)
    step_then id event view e may =
        let u = up_lines id.0 view e in
        let k = up_at id.0 view e in
        step_at c (valid_fits c r.valid) (valid_limited c r.valid) so_far view (view_lines id.0 view u) (view_at id.0 view u k)
        (subst (λ (x : NodeId). AllByRecursion (IsPlaced c x) (rings_in view.parts)) (sym u.id) u.placed) (subst (λ (x : NodeId). HasNode c x) (sym u.id) k.there) given event (event_folded id event may) (step_agrees id event view e may)

    -- its checkpoint, also where its work is stopped
    left_then : (id : NodeId) (event : Event) (view : View) → now.hosts id.0 ≡ Up view → MayCome now id event → PossibleAt c so_far id.0 (possible_of (step c view event).view)
    left_then id event view e may =
        let u = up_lines id.0 view e in
        let k = up_at id.0 view e in
        subst (λ (x : NodeId). NewestAt c so_far (partition_of c.partitions x) (step c view event).view.checkpoints.newest) (step_id id event view e may)
        (step_left_at c (valid_fits c r.valid) (valid_limited c r.valid) so_far view (view_lines id.0 view u) (view_at id.0 view u k)
        (subst (λ (x : NodeId). AllByRecursion (IsPlaced c x) (rings_in view.parts)) (sym u.id) u.placed) (subst (λ (x : NodeId). HasNode c x) (sym u.id) k.there) given event
        (subst (λ (x : NodeId). EventSaid c so_far x event) (sym u.id) (event_said id event may)))

    steps_kept : (id : NodeId) (event : Event) (host : Host) → now.hosts id.0 ≡ host → MayCome now id event → KeepsStates c (steps_as c id event host now)
    steps_kept id event (Down durable pending) e may = kept
    steps_kept id event (Up view) e may =
        subst (λ (ls : List Line). StatesAt c ls (steps_as c id event (Up view) now)) (sym (past_more [] (run c hs nothing).lines (step c view event).lines))
        (stepped_states c so_far now (steps_as c id event (Up view) now) id.0 [] (step c view event) refl refl (up_at id.0 view e).there (step_id id event view e may) tt kept (step_then id event view e may))

    breaks_kept : (id : NodeId) (event : Event) (cause : Cause) (host : Host) → now.hosts id.0 ≡ host → MayCome now id event → KeepsStates c (breaks_as c id event cause host now)
    breaks_kept id event cause (Down durable pending) e may = kept
    breaks_kept id event cause (Up view) e may =
        subst (λ (ls : List Line). StatesAt c ls (breaks_as c id event cause (Up view) now)) (sym (past_more [] (run c hs nothing).lines (line.Down id cause ∷ [])))
        (down_states c so_far now (breaks_as c id event cause (Up view) now) id.0 cause (possible_of view) (possible_of (step c view event).view) refl refl (up_at id.0 view e).there kept
        (up_at id.0 view e).newest (left_then id event view e may))

    crashes_kept : (id : NodeId) (cause : Cause) (host : Host) → now.hosts id.0 ≡ host → KeepsStates c (crashes_as id cause host now)
    crashes_kept id cause (Down durable pending) e = kept
    crashes_kept id cause (Up view) e =
        subst (λ (ls : List Line). StatesAt c ls (crashes_as id cause (Up view) now)) (sym (past_more [] (run c hs nothing).lines (line.Down id cause ∷ [])))
        (down_states c so_far now (crashes_as id cause (Up view) now) id.0 cause (possible_of view) (possible_of view) refl refl (up_at id.0 view e).there kept (up_at id.0 view e).newest (up_at id.0 view e).newest)

    -- ---- openings

    picked : (after : Bool) (n : ℕ) (durable pending : Possible) → PossibleAt c so_far n durable × PossibleAt c so_far n pending → PossibleAt c so_far n (chosen after durable pending)
    picked true n durable pending p = p.1
    picked false n durable pending p = p.0

    stood : (n : ℕ) (after : Bool) (durable pending : Possible) → now.hosts n ≡ Down durable pending → PossibleAt c so_far n (chosen after durable pending)
    stood n after durable pending e = picked after n durable pending (subst (λ (host : Host). HostAt c so_far n host) e (kept.hosts n))

    opened_id : (id : NodeId) (after : Bool) (journal : Journal) (checkpoints : Checkpoints) (durable pending : Possible) → now.hosts id.0 ≡ Down durable pending
        → MayOpenAt c id after journal checkpoints (now.hosts id.0) → (opened c id journal checkpoints).view.id ≡ node id.0
    opened_id id after journal checkpoints durable pending e may =
        let t : WorldLines c (opens_as c id journal checkpoints (Down durable pending) now) =
        subst (λ (host : Host). WorldLines c (opens_as c id journal checkpoints host now)) e (lines_then (Opens id after journal checkpoints) may) in
        put_id c (past [] (opens_as c id journal checkpoints (Down durable pending) now).lines) id.0 (opened c id journal checkpoints).view (run c hs nothing).hosts (t.hosts id.0)

    opens_kept : (id : NodeId) (after : Bool) (journal : Journal) (checkpoints : Checkpoints) (host : Host) → now.hosts id.0 ≡ host → MayOpenAt c id after journal checkpoints host
        → KeepsStates c (opens_as c id journal checkpoints host now)
    opens_kept id after journal checkpoints (Up view) e may = kept
    opens_kept id after journal checkpoints (Down durable pending) e may =
        let newest : NewestAt c so_far (partition_of c.partitions id) checkpoints.newest =
        subst (λ (o : Option Checkpoint). NewestAt c so_far (partition_of c.partitions id) o) (sym may.newest) (stood id.0 after durable pending e) in
        subst (λ (ls : List Line). StatesAt c ls (opens_as c id journal checkpoints (Down durable pending) now))
        (sym (past_more [] (run c hs nothing).lines (line.Up id journal.state.epoch ∷ (opened c id journal checkpoints).lines)))
        (stepped_states c so_far now (opens_as c id journal checkpoints (Down durable pending) now) id.0 (line.Up id journal.state.epoch ∷ []) (opened c id journal checkpoints) refl refl may.node
        (opened_id id after journal checkpoints durable pending e (subst (λ (host : Host). MayOpenAt c id after journal checkpoints host) (sym e) may)) (may.node, tt) kept
        (opened_at c (valid_limited c r.valid) (line.Up id journal.state.epoch ∷ so_far) id journal checkpoints may.node (paid_still c (line.Up id journal.state.epoch) so_far tt kept.paid)
        (newest_more c (line.Up id journal.state.epoch) so_far (partition_of c.partitions id) checkpoints.newest newest)))

    fails_kept : (id : NodeId) (after : Bool) (left : Possible) (cause : Cause) (host : Host) → now.hosts id.0 ≡ host → IsNode c id → MayLeaveAt after left host → KeepsStates c (fails_as id after left cause host now)
    fails_kept id after left cause (Up view) e there may = kept
    fails_kept id after left cause (Down durable pending) e there may =
        subst (λ (ls : List Line). StatesAt c ls (fails_as id after left cause (Down durable pending) now)) (sym (past_more [] (run c hs nothing).lines (line.Down id cause ∷ [])))
        (down_states c so_far now (fails_as id after left cause (Down durable pending) now) id.0 cause (chosen after durable pending) left refl refl there kept (stood id.0 after durable pending e)
        (subst (λ (o : Option Checkpoint). NewestAt c so_far (partition_of c.partitions id) o) (sym may.newest) (stood id.0 after durable pending e)))

    -- ---- clients, and what is shown

    client_kept : (id : ClientId) (effects : ClientEffects) → IsBeside c effects → KeepsStates c (client_step id effects now)
    client_kept id effects b =
        subst (λ (ls : List Line). StatesAt c ls (client_step id effects now)) (sym (past_more [] (run c hs nothing).lines effects.lines))
        (still_states c so_far now (client_step id effects now) effects.lines effects.frames refl refl (owe_none c effects.lines b.lines) (fit_own c effects.lines b.lines) (b.frames (past so_far effects.lines)) kept)

    shown_kept : (l : Line) → OwesNothing l → OwnNamesFit c l → KeepsStates c (with_lines (l ∷ []) now)
    shown_kept l owes fits =
        subst (λ (ls : List Line). StatesAt c ls (with_lines (l ∷ []) now)) (sym (past_more [] (run c hs nothing).lines (l ∷ [])))
        (still_states c so_far now (with_lines (l ∷ []) now) (l ∷ []) [] (sym (append-nil (run c hs nothing).frames)) refl (owes, tt) (fits, tt) tt kept)

    pub happens_kept : (h : Happening) → MayHappen c now h → KeepsStates c (happens c h now)
    happens_kept (Steps id event) may = steps_kept id event ((run c hs nothing).hosts id.0) refl may
    happens_kept (Breaks id event cause) may = breaks_kept id event cause ((run c hs nothing).hosts id.0) refl may
    happens_kept (Crashes id cause) may = crashes_kept id cause ((run c hs nothing).hosts id.0) refl
    happens_kept (Opens id after journal checkpoints) may = opens_kept id after journal checkpoints ((run c hs nothing).hosts id.0) refl may
    happens_kept (Fails id after left cause) may = fails_kept id after left cause ((run c hs nothing).hosts id.0) refl may.0 may.1
    happens_kept (Asks id command) may = client_kept id (asks c ((run c hs nothing).clients id.0) command) (beside_asks c ((run c hs nothing).clients id.0) command (own_client id may.0))
    happens_kept (ClientTicks id) may = client_kept id (client_ticks c ((run c hs nothing).clients id.0)) (beside_ticks c ((run c hs nothing).clients id.0))
    happens_kept (ClientTakes id body) may = client_kept id (client_takes c ((run c hs nothing).clients id.0) body) (beside_takes c ((run c hs nothing).clients id.0) body)
    happens_kept (Shows id) may = shown_kept (line.State id (state_of_host ((run c hs nothing).hosts id.0))) tt tt
    happens_kept (Lists number shown) may = shown_kept (line.Frame number shown) tt tt

-- ---- runs

-- from a world that a run has left
states_on : (c : Config) → IsValid c → (first rest : List Happening) → MayRun c nothing first → MayRun c (run c first nothing) rest → KeepsStates c (run c first nothing) → KeepsStates c (run c rest (run c first nothing))
states_on c valid first [] may more kept = kept
states_on c valid first (h ∷ rest) may more kept =
    let same = run_both c nothing first (h ∷ []) in
    let there : KeepsStates c (happens c h (run c first nothing)) = happens_kept c first (record { valid = valid; may = may }) kept h more.0 in
    subst (λ (w : World). KeepsStates c (run c rest w)) (run_both c nothing first (h ∷ []))
    (states_on c valid (first ++ h ∷ []) rest (may_both c nothing first (h ∷ []) may (more.0, tt)) (subst (λ (w : World). MayRun c w rest) (sym same) more.1) (subst (λ (w : World). KeepsStates c w) (sym same) there))

pub run_states : (c : Config) (hs : List Happening) → IsRun c hs → KeepsStates c (run c hs nothing)
run_states c hs r = states_on c r.valid [] hs tt r.may (first_states c)
