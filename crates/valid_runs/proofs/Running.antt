-- A valid world stays so, whatever happens.
use Rattle.std.proofs.Common.{◌≡◌, inl, inr, ℕ, zero, suc, Bool, true, false, List, [], ◌∷◌, ◌++◌, refl, sym, ap, subst, arith}
use Rattle.std.specs.Prelude.{◌==◌, if◌then◌else◌, replicate}
use Rattle.std.specs.List.{AllByRecursion}
use Rattle.mrp_types.specs.declared.id.NodeId.{NodeId}
use Rattle.mrp_types.specs.declared.id.ClientId.{ClientId}
use Rattle.mrp_types.specs.declared.id.Party.{Party}
use Rattle.mrp_config.specs.Config.{Config}
use Rattle.mrp_config.specs.Walk.{ring_ids}
use Rattle.mrp_config.specs.Valid.{AreAtMost, IsValid}
use Rattle.mrp_config.specs.declared.tables.RingTable.{RingTable}
use Rattle.quorums.specs.Groups.{Has}
use Rattle.vote_state.specs.State.{State, IsKept, AreRings, IsState, no_votes, nothing_kept}
use Rattle.vote_state.specs.declared.ring.RingState.{RingState}
use Rattle.vote_state.specs.Valid.{IsRing}
use Rattle.vote_state.proofs.StateLemmas.{append_all, none_kept}
use Rattle.vote_journal.specs.Journal.{Journal}
use Rattle.checkpoint.specs.Checkpoints.{Checkpoints}
use Rattle.frames.specs.declared.frame.Frame.{Frame}
use Rattle.frames.specs.declared.sent.Sent.{Sent}
use Rattle.protocol.specs.Lines.{Line, Learn, Cause}
use Rattle.protocol.specs.Lines as line
use Rattle.protocol.specs.Client.{ClientEffects}
use Rattle.protocol.specs.Node.{Event, Ticks, Takes, Leads, Stepped}
use Rattle.protocol.specs.Opening.{opened}
use Rattle.protocol.specs.Step.{step}
use Rattle.bare_world.specs.Worlds.{Possible, Host, Up, Down, World, Happening, Steps, Breaks, Crashes, Opens, Fails, Asks, ClientTicks, ClientTakes, Shows, Lists, nothing, possible_of, chosen, with_host, after_step, steps_as, breaks_as, crashes_as, opens_as, fails_as, goes_down, client_step, state_of_host, happens}
use Rattle.bare_world.specs.Runs.{WasSent, MayCome, MayOpenAt, MayLeaveAt, MayHappen, run, MayRun}
use Rattle.step_valid.specs.Valid.{SentValid, BodyValid, IsMemberOf, LineValid, AreNumbered, EventValid, StepValid}
use Rattle.step_valid.proofs.Ending.{step_valid, opened_valid}
use Rattle.valid_runs.specs.Worlds.{HostValid, ClientValid, LineFits, WorkValid, ReadValid, WorldValid}
use Rattle.valid_runs.proofs.Clients.{ClientEffectsValid, asks_valid, ticks_valid, takes_valid}

-- ---- deployments

among : (tables : List RingTable) → AreAtMost 15 (ring_ids tables) → (table : RingTable) → Has tables table → IsRing table.id
among [] all table there = absurd there
among (t ∷ tables) all table (inl e) = let low = all.0 in let same = ap (λ (x : RingTable). x.id.0) e in omega arith
among (t ∷ tables) all table (inr there) = among tables all.1 table there

pub numbered : (config : Config) → IsValid config → AreNumbered config
numbered config valid = among config.rings valid.rings.numbers

-- ---- parts of a world

sent_valid : (frames : List Sent) → AllByRecursion SentValid frames → (sent : Sent) → Has frames sent → SentValid sent
sent_valid [] all sent there = absurd there
sent_valid (x ∷ frames) all sent (inl e) = subst (λ (s : Sent). SentValid s) (sym e) all.0
sent_valid (x ∷ frames) all sent (inr there) = sent_valid frames all.1 sent there

frame_valid : (frames : List Sent) → AllByRecursion SentValid frames → (to : Party) (frame : Frame) → WasSent frames to frame → BodyValid frame.body
frame_valid frames all to frame was = subst (λ (f : Frame). BodyValid f.body) was.same (sent_valid frames all was.sent was.there)

-- a line of a node names that node
line_fits : (config : Config) (id : NodeId) (l : Line) → LineValid config id l → LineFits config l
line_fits config id (Learn node r lo hi value) v = record {
  ring = v.1.ring;
  of_ring = subst (λ (n : NodeId). IsMemberOf config n v.1.ring) (sym v.0) v.1.of_ring;
  named = v.1.named;
  some = v.1.some;
  decided = v.1.decided;
}
line_fits config id other v = tt

lines_fit : (config : Config) (id : NodeId) (lines : List Line) → AllByRecursion (LineValid config id) lines → AllByRecursion (LineFits config) lines
lines_fit config id [] all = tt
lines_fit config id (l ∷ lines) all = (line_fits config id l all.0, lines_fit config id lines all.1)

chosen_valid : (after : Bool) (durable pending : Possible) → IsState durable.state → IsState pending.state → IsState (chosen after durable pending).state
chosen_valid false durable pending d p = d
chosen_valid true durable pending d p = p

same_rings : (a b : State) → a.rings ≡ b.rings → IsState b → IsState a
same_rings a b e s = subst (λ (l : List RingState). AreRings l) (sym e) s

module _ (config : Config) (deployed : AreNumbered config) where
  with_host_valid : (id : NodeId) (host : Host) (w : World) → HostValid config host → WorldValid config w → WorldValid config (with_host id host w)
  with_host_valid id host w h v = record { hosts = λ k. go k (k == id.0); clients = v.clients; frames = v.frames; lines = v.lines; works = v.works; read = v.read }
    where
      go : (k : ℕ) (b : Bool) → HostValid config (if b then host else w.hosts k)
      go k true = h
      go k false = v.hosts k

  after_step_valid : (id own : NodeId) (before : List Line) (made : Stepped) (w : World) → AllByRecursion (LineFits config) before → StepValid config own made → WorldValid config w
      → WorldValid config (after_step id before made w)
  after_step_valid id own before made w first s v =
      let host = with_host_valid id (Up made.view) w s.view v in
      record {
        hosts = host.hosts;
        clients = v.clients;
        frames = append_all SentValid w.frames made.frames v.frames s.frames;
        lines = append_all (LineFits config) w.lines (before ++ made.lines) v.lines (append_all (LineFits config) before made.lines first (lines_fit config own made.lines s.lines));
        works = v.works;
        read = v.read;
      }

  goes_down_valid : (id : NodeId) (cause : Cause) (durable pending : Possible) (w : World) → IsState durable.state → IsState pending.state → WorldValid config w
      → WorldValid config (goes_down id cause durable pending w)
  goes_down_valid id cause durable pending w d p v =
      let host = with_host_valid id (Down durable pending) w (d, p) v in
      record {
        hosts = host.hosts;
        clients = v.clients;
        frames = v.frames;
        lines = append_all (LineFits config) w.lines (line.Down id cause ∷ []) v.lines (tt, tt);
        works = v.works;
        read = v.read;
      }

  client_valid : (id : ClientId) (made : ClientEffects) (w : World) → ClientEffectsValid config made → WorldValid config w → WorldValid config (client_step id made w)
  client_valid id made w d v = record {
    hosts = v.hosts;
    clients = λ k. go k (k == id.0);
    frames = append_all SentValid w.frames made.frames v.frames d.frames;
    lines = append_all (LineFits config) w.lines made.lines v.lines d.lines;
    works = v.works;
    read = v.read;
  }
    where
      go : (k : ℕ) (b : Bool) → ClientValid (if b then made.client else w.clients k)
      go k true = d.client
      go k false = v.clients k

  -- ---- a happening

  pub event_valid : (w : World) (id : NodeId) (event : Event) → MayCome w id event → WorldValid config w → EventValid event
  event_valid w id Ticks may v = tt
  event_valid w id (Takes frame) may v = frame_valid w.frames v.frames _ frame may
  event_valid w id (Leads ring) may v = tt

  steps_valid : (id : NodeId) (event : Event) (host : Host) (w : World) → HostValid config host → EventValid event → WorldValid config w → WorldValid config (steps_as config id event host w)
  steps_valid id event (Down durable pending) w h e v = v
  steps_valid id event (Up view) w h e v =
      let s = step_valid config deployed view h event e in
      let on = after_step_valid id view.id [] (step config view event) w tt s v in
      record {
        hosts = on.hosts;
        clients = on.clients;
        frames = on.frames;
        lines = on.lines;
        works = append_all WorkValid w.works ((id, (step config view event).work) ∷ []) v.works (s.changes, tt);
        read = on.read;
      }

  breaks_valid : (id : NodeId) (event : Event) (cause : Cause) (host : Host) (w : World) → HostValid config host → EventValid event → WorldValid config w
      → WorldValid config (breaks_as config id event cause host w)
  breaks_valid id event cause (Down durable pending) w h e v = v
  breaks_valid id event cause (Up view) w h e v =
      goes_down_valid id cause (possible_of view) (possible_of (step config view event).view) w h.state (step_valid config deployed view h event e).view.state v

  crashes_valid : (id : NodeId) (cause : Cause) (host : Host) (w : World) → HostValid config host → WorldValid config w → WorldValid config (crashes_as id cause host w)
  crashes_valid id cause (Down durable pending) w h v = v
  crashes_valid id cause (Up view) w h v = goes_down_valid id cause (possible_of view) (possible_of view) w h.state h.state v

  opens_valid : (id : NodeId) (after : Bool) (journal : Journal) (checkpoints : Checkpoints) (host : Host) (w : World) → HostValid config host → MayOpenAt config id after journal checkpoints host
      → WorldValid config w → WorldValid config (opens_as config id journal checkpoints host w)
  opens_valid id after journal checkpoints (Up view) w h may v = v
  opens_valid id after journal checkpoints (Down durable pending) w h may v =
      let state = same_rings journal.state (chosen after durable pending).state may.rings (chosen_valid after durable pending h.0 h.1) in
      let on = after_step_valid id id (line.Up id journal.state.epoch ∷ []) (opened config id journal checkpoints) w (tt, tt) (opened_valid config id journal checkpoints state) v in
      record {
        hosts = on.hosts;
        clients = on.clients;
        frames = on.frames;
        lines = on.lines;
        works = on.works;
        read = append_all ReadValid w.read ((id, journal.state) ∷ []) v.read (state, tt);
      }

  fails_valid : (id : NodeId) (after : Bool) (left : Possible) (cause : Cause) (host : Host) (w : World) → HostValid config host → MayLeaveAt after left host → WorldValid config w
      → WorldValid config (fails_as id after left cause host w)
  fails_valid id after left cause (Up view) w h may v = v
  fails_valid id after left cause (Down durable pending) w h may v =
      let state = chosen_valid after durable pending h.0 h.1 in
      goes_down_valid id cause (chosen after durable pending) left w state (same_rings left.state (chosen after durable pending).state may.rings state) v

  printed : (l : Line) (w : World) → LineFits config l → WorldValid config w → WorldValid config (record w { lines = w.lines ++ l ∷ [] })
  printed l w fits v = record { hosts = v.hosts; clients = v.clients; frames = v.frames; lines = append_all (LineFits config) w.lines (l ∷ []) v.lines (fits, tt); works = v.works; read = v.read }

  pub happens_valid : (h : Happening) (w : World) → WorldValid config w → MayHappen config w h → WorldValid config (happens config h w)
  happens_valid (Steps id event) w v may = steps_valid id event (w.hosts id.0) w (v.hosts id.0) (event_valid w id event may v) v
  happens_valid (Breaks id event cause) w v may = breaks_valid id event cause (w.hosts id.0) w (v.hosts id.0) (event_valid w id event may v) v
  happens_valid (Crashes id cause) w v may = crashes_valid id cause (w.hosts id.0) w (v.hosts id.0) v
  happens_valid (Opens id after journal checkpoints) w v may = opens_valid id after journal checkpoints (w.hosts id.0) w (v.hosts id.0) may v
  happens_valid (Fails id after left cause) w v may = fails_valid id after left cause (w.hosts id.0) w (v.hosts id.0) may.1 v
  happens_valid (Asks id command) w v may = client_valid id _ w (asks_valid config (w.clients id.0) (v.clients id.0) command may.1.valid) v
  happens_valid (ClientTicks id) w v may = client_valid id _ w (ticks_valid config (w.clients id.0) (v.clients id.0)) v
  happens_valid (ClientTakes id b) w v may = client_valid id _ w (takes_valid config (w.clients id.0) (v.clients id.0) b) v
  happens_valid (Shows id) w v may = printed (line.State id (state_of_host (w.hosts id.0))) w tt v
  happens_valid (Lists number shown) w v may = printed (line.Frame number shown) w tt v

  -- ---- runs

  pub run_valid : (hs : List Happening) (w : World) → WorldValid config w → MayRun config w hs → WorldValid config (run config hs w)
  run_valid [] w v may = v
  run_valid (h ∷ hs) w v may = run_valid hs (happens config h w) (happens_valid h w v may.0) may.1

-- nobody has done anything
no_rings : (n : ℕ) → AllByRecursion IsKept (replicate n no_votes)
no_rings zero = tt
no_rings (suc n) = (none_kept, no_rings n)

nothing_state : IsState nothing_kept
nothing_state = record { all = refl; each = no_rings 16 }

pub nothing_valid : (config : Config) → WorldValid config nothing
nothing_valid config = record {
  hosts = λ k. (nothing_state, nothing_state);
  clients = λ k. record { numbered = omega arith; asked = tt };
  frames = tt;
  lines = tt;
  works = tt;
  read = tt;
}

pub runs_valid : (config : Config) → IsValid config → (hs : List Happening) → MayRun config nothing hs → WorldValid config (run config hs nothing)
runs_valid config valid hs may = run_valid config (numbered config valid) hs nothing (nothing_valid config) may
