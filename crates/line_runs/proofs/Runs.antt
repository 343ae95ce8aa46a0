-- Every run keeps the invariant, where each of its learn lines agrees with the book before it.
use Rattle.recovery_lines.proofs.Printing.{differ}
use Rattle.mrp_types.specs.declared.id.ClientId.{ClientId}
use Rattle.std.proofs.Common.{◌≡◌, ℕ, ◌+◌, ◌⊎◌, inl, inr, Bool, true, false, List, [], ◌∷◌, ◌++◌, Option, Some, None, refl, sym, ◌∙◌, ap, subst}
use Rattle.std.specs.Prelude.{slice_index_or}
use Rattle.std.specs.List.{AllByRecursion}
use Rattle.mrp_types.specs.declared.id.NodeId.{NodeId}
use Rattle.mrp_types.specs.declared.id.Party.{Party}
use Rattle.mrp_types.specs.declared.id.Party.TheVariants.{Node}
use Rattle.mrp_config.specs.Config.{Config, partition_of}
use Rattle.mrp_config.specs.declared.tables.PartitionTable.{PartitionTable}
use Rattle.frames.specs.declared.frame.Frame.{Frame}
use Rattle.frames.specs.declared.sent.Sent.{Sent}
use Rattle.checkpoint.specs.Checkpoints.{Checkpoint, Checkpoints}
use Rattle.vote_state.specs.State.{State, no_votes}
use Rattle.vote_state.specs.declared.ring.RingState.{RingState}
use Rattle.vote_journal.specs.Journal.{Journal}
use Rattle.protocol.specs.Lines.{Line, Cause}
use Rattle.protocol.specs.Lines as line
use Rattle.protocol.specs.Client.{ClientEffects, asks, client_ticks, client_takes}
use Rattle.protocol.specs.Opening.{parts_of, opened}
use Rattle.protocol.specs.Node.{View, Event, Ticks, Takes, Leads, Stepped}
use Rattle.protocol.specs.Step.{step}
use Rattle.bare_world.specs.Worlds.{Possible, Host, Up, Down, World, Happening, Steps, Breaks, Crashes, Opens, Fails, Asks, ClientTicks, ClientTakes, Shows, Lists, chosen, possible_of, happens, steps_as, breaks_as, crashes_as, opens_as, fails_as, client_step, state_of_host, with_lines}
use Rattle.bare_world.specs.Runs.{MayCome, MayOpenAt, MayLeaveAt, MayHappen, run, MayRun}
use Rattle.faithful.specs.Scanners.{past}
use Rattle.faithful.proofs.Growing.{past_more}
use Rattle.faithful.proofs.Quorum.{all_has}
use Rattle.recovery_lines.specs.Ties.{IsFit, AreCovered, IsCovered, PartySaid, IsSaid, ViewLines, StepLines, KeptLines, IsPlaced, ReplicaLines, rings_in}
use Rattle.recovery_lines.proofs.Saving.{kept_next}
use Rattle.recovery_lines.proofs.Merging.{IsStill}
use Rattle.step_lines.specs.Effects.{AllAgree, KeptFor, LeftTold, EventSaid}
use Rattle.step_lines.proofs.Onward.{nothing_more, lines_joined}
use Rattle.step_lines.proofs.Looping.{agree_before}
use Rattle.step_lines.proofs.Ending.{kept_for}
use Rattle.step_lines.proofs.Whole.{step_left, step_right}
use Rattle.step_lines.proofs.Opening.{placed_fresh, opened_left, opened_lines}
use Rattle.line_runs.specs.Invariant.{node, PossibleLines, UpLines, HostLines, TiedTo, WorldLines}
use Rattle.line_runs.proofs.Worlds.{covered_past, stepped_world, down_world, still_world}
use Rattle.line_runs.proofs.Clients.{IsQuiet, quiet_asks, quiet_ticks, quiet_takes}

-- ---- lines only grow

abbrev Adds : World → World → Type 0
Adds w v = (more : List Line) × (v.lines ≡ w.lines ++ more)

adds_none : (w : World) → Adds w w
adds_none w = ([], nothing_more w.lines)

adds_both : (u v w : World) → Adds u v → Adds v w → Adds u w
adds_both u v w p q = (p.0 ++ q.0, q.1 ∙ ap (λ (ls : List Line). ls ++ q.0) p.1 ∙ lines_joined u.lines p.0 q.0)

happens_adds : (c : Config) (h : Happening) (w : World) → Adds w (happens c h w)
happens_adds c (Steps id event) w = go (w.hosts id.0)
  where
    go : (host : Host) → Adds w (steps_as c id event host w)
    go (Down durable pending) = adds_none w
    go (Up view) = (_, refl)
happens_adds c (Breaks id event cause) w = go (w.hosts id.0)
  where
    go : (host : Host) → Adds w (breaks_as c id event cause host w)
    go (Down durable pending) = adds_none w
    go (Up view) = (_, refl)
happens_adds c (Crashes id cause) w = go (w.hosts id.0)
  where
    go : (host : Host) → Adds w (crashes_as id cause host w)
    go (Down durable pending) = adds_none w
    go (Up view) = (_, refl)
happens_adds c (Opens id after journal checkpoints) w = go (w.hosts id.0)
  where
    go : (host : Host) → Adds w (opens_as c id journal checkpoints host w)
    go (Down durable pending) = (_, refl)
    go (Up view) = adds_none w
happens_adds c (Fails id after left cause) w = go (w.hosts id.0)
  where
    go : (host : Host) → Adds w (fails_as id after left cause host w)
    go (Down durable pending) = (_, refl)
    go (Up view) = adds_none w
happens_adds c (Asks id command) w = (_, refl)
happens_adds c (ClientTicks id) w = (_, refl)
happens_adds c (ClientTakes id body) w = (_, refl)
happens_adds c (Shows id) w = (_, refl)
happens_adds c (Lists number shown) w = (_, refl)

pub run_adds : (c : Config) (hs : List Happening) (w : World) → Adds w (run c hs w)
run_adds c [] w = adds_none w
run_adds c (h ∷ hs) w = adds_both w (happens c h w) (run c hs (happens c h w)) (happens_adds c h w) (run_adds c hs (happens c h w))

-- ---- a happening

module _ (c : Config) (fit : IsFit c) (w : World) (ties : WorldLines c w) where
  -- what came was said
  event_said : (id : NodeId) (event : Event) → MayCome w id event → EventSaid c (past [] w.lines) id event
  event_said id Ticks may = tt
  event_said id (Leads ring) may = tt
  event_said id (Takes frame) may =
      let s : IsSaid c (past [] w.lines) may.sent = all_has (IsSaid c (past [] w.lines)) w.frames may.sent ties.frames may.there in
      subst (λ (f : Frame). PartySaid c (past [] w.lines) f.from (Node id) f.body) may.same
      (subst (λ (to : Party). PartySaid c (past [] w.lines) may.sent.frame.from to may.sent.frame.body) may.by s)

  view_lines : (view : View) (n : ℕ) → UpLines c (past [] w.lines) n view → ViewLines c (past [] w.lines) view
  view_lines view n u = record { right = ties.right; known = ties.known; parts = u.parts; replica = subst (λ (x : NodeId). ReplicaLines c (past [] w.lines) x view.journal.state.epoch view.checkpoints.newest view.service) (sym u.id) u.replica }

  left_of : (view : View) (id : NodeId) (event : Event) → UpLines c (past [] w.lines) id.0 view → MayCome w id event → LeftTold c (past [] w.lines) id (rings_in view.parts) (step c view event)
  left_of view id event u may = subst (λ (x : NodeId). LeftTold c (past [] w.lines) x (rings_in view.parts) (step c view event)) u.id
      (step_left c fit (past [] w.lines) view (view_lines view id.0 u) (subst (λ (x : NodeId). AllByRecursion (IsPlaced c x) (rings_in view.parts)) (sym u.id) u.placed) u.told u.covered event
      (subst (λ (x : NodeId). EventSaid c (past [] w.lines) x event) (sym u.id) (event_said id event may)))

  right_of : (view : View) (id : NodeId) (event : Event) → UpLines c (past [] w.lines) id.0 view → MayCome w id event → AllAgree (past (past [] w.lines) (step c view event).lines)
      → (new : List Line) × StepLines c (past [] w.lines) new id (step c view event)
  right_of view id event u may all = subst (λ (x : NodeId). (new : List Line) × StepLines c (past [] w.lines) new x (step c view event)) u.id
      (step_right c fit (past [] w.lines) view (view_lines view id.0 u) (subst (λ (x : NodeId). AllByRecursion (IsPlaced c x) (rings_in view.parts)) (sym u.id) u.placed) u.told u.covered event
      (subst (λ (x : NodeId). EventSaid c (past [] w.lines) x event) (sym u.id) (event_said id event may)) all)

  standing : (view : View) (n : ℕ) → UpLines c (past [] w.lines) n view → PossibleLines c (past [] w.lines) n (possible_of view)
  standing view n u = record { kept = kept_for c (past [] w.lines) (node n) view.journal.state.epoch view.checkpoints.newest view.service u.replica; covered = u.covered }

  steps_kept : (id : NodeId) (event : Event) (host : Host) → w.hosts id.0 ≡ host → MayCome w id event → AllAgree (past [] (steps_as c id event host w).lines) → WorldLines c (steps_as c id event host w)
  steps_kept id event (Down durable pending) e may all = ties
  steps_kept id event (Up view) e may all =
      let u : UpLines c (past [] w.lines) id.0 view = subst (λ (host : Host). HostLines c (past [] w.lines) id.0 host) e (ties.hosts id.0) in
      let effects : Stepped = step c view event in
      let r = right_of view id event u may (subst (λ (ls : List Line). AllAgree ls) (past_more [] w.lines effects.lines) all) in
      subst (λ (ls : List Line). TiedTo c ls (steps_as c id event (Up view) w)) (sym r.1.printed ∙ sym (past_more [] w.lines effects.lines))
      (stepped_world c (past [] w.lines) w (steps_as c id event (Up view) w) id.0 [] r.0 effects refl refl tt ties (rings_in view.parts) u.placed (left_of view id event u may) r.1)

  breaks_kept : (id : NodeId) (event : Event) (cause : Cause) (host : Host) → w.hosts id.0 ≡ host → MayCome w id event → WorldLines c (breaks_as c id event cause host w)
  breaks_kept id event cause (Down durable pending) e may = ties
  breaks_kept id event cause (Up view) e may =
      let u : UpLines c (past [] w.lines) id.0 view = subst (λ (host : Host). HostLines c (past [] w.lines) id.0 host) e (ties.hosts id.0) in
      let left = left_of view id event u may in
      subst (λ (ls : List Line). TiedTo c ls (breaks_as c id event cause (Up view) w)) (sym (past_more [] w.lines (line.Down id cause ∷ [])))
      (down_world c (past [] w.lines) w (breaks_as c id event cause (Up view) w) id.0 cause (possible_of view) (possible_of (step c view event).view) refl refl ties (standing view id.0 u) (record { kept = left.kept; covered = left.covered }))

  crashes_kept : (id : NodeId) (cause : Cause) (host : Host) → w.hosts id.0 ≡ host → WorldLines c (crashes_as id cause host w)
  crashes_kept id cause (Down durable pending) e = ties
  crashes_kept id cause (Up view) e =
      let u : UpLines c (past [] w.lines) id.0 view = subst (λ (host : Host). HostLines c (past [] w.lines) id.0 host) e (ties.hosts id.0) in
      subst (λ (ls : List Line). TiedTo c ls (crashes_as id cause (Up view) w)) (sym (past_more [] w.lines (line.Down id cause ∷ [])))
      (down_world c (past [] w.lines) w (crashes_as id cause (Up view) w) id.0 cause (possible_of view) (possible_of view) refl refl ties (standing view id.0 u) (standing view id.0 u))

  -- ---- down

  picked : (after : Bool) (n : ℕ) (durable pending : Possible) → PossibleLines c (past [] w.lines) n durable × PossibleLines c (past [] w.lines) n pending → PossibleLines c (past [] w.lines) n (chosen after durable pending)
  picked true n durable pending p = p.1
  picked false n durable pending p = p.0

  rings_covered : (lines : List Line) (s t : State) → s.rings ≡ t.rings → AreCovered c lines t → AreCovered c lines s
  rings_covered lines s t e h ring = subst (λ (rs : List RingState). IsCovered c lines ring (slice_index_or rs ring.0 no_votes).trim) (sym e) (h ring)

  opens_kept : (id : NodeId) (after : Bool) (journal : Journal) (checkpoints : Checkpoints) (host : Host) → w.hosts id.0 ≡ host → MayOpenAt c id after journal checkpoints host → WorldLines c (opens_as c id journal checkpoints host w)
  opens_kept id after journal checkpoints (Up view) e may = ties
  opens_kept id after journal checkpoints (Down durable pending) e may =
      let both = subst (λ (host : Host). HostLines c (past [] w.lines) id.0 host) e (ties.hosts id.0) in
      let stood : Possible = chosen after durable pending in
      let p : PossibleLines c (past [] w.lines) id.0 (chosen after durable pending) = picked after id.0 durable pending both in
      let kept : KeptFor c (past [] w.lines) id (chosen after durable pending).state.epoch checkpoints.newest (partition_of c.partitions id) =
      subst (λ (k : Option Checkpoint). KeptFor c (past [] w.lines) id (chosen after durable pending).state.epoch k (partition_of c.partitions id)) (sym may.newest) p.kept in
      let up : Line = line.Up id ((chosen after durable pending).state.epoch + 1) in
      let covered : AreCovered c (up ∷ past [] w.lines) journal.state = covered_past c (up ∷ []) (past [] w.lines) journal.state (rings_covered (past [] w.lines) journal.state (chosen after durable pending).state may.rings p.covered) in
      let effects : Stepped = opened c id journal checkpoints in
      let r = opened_lines c fit (past [] w.lines) id journal checkpoints (chosen after durable pending).state.epoch may.epoch kept ties.right ties.known covered in
      let l = opened_left c fit (past [] w.lines) id journal checkpoints (chosen after durable pending).state.epoch may.epoch kept covered in
      let v : World = opens_as c id journal checkpoints (Down durable pending) w in
      subst (λ (ls : List Line). TiedTo c ls v) (sym (r.1.printed) ∙ sym (ap (λ (n : ℕ). past (line.Up id n ∷ past [] w.lines) effects.lines) may.epoch) ∙ sym (past_more [] w.lines (line.Up id journal.state.epoch ∷ effects.lines)))
      (stepped_world c (past [] w.lines) w v id.0 (up ∷ []) r.0 effects refl refl ((λ other ne. differ id.0 other ne), tt) ties (rings_in (parts_of c id journal.state c.rings)) (placed_fresh c [] id journal.state may.node c.rings (λ ring has. has)) l r.1)

  fails_kept : (id : NodeId) (after : Bool) (left : Possible) (cause : Cause) (host : Host) → w.hosts id.0 ≡ host → MayLeaveAt after left host → WorldLines c (fails_as id after left cause host w)
  fails_kept id after left cause (Up view) e may = ties
  fails_kept id after left cause (Down durable pending) e may =
      let both = subst (λ (host : Host). HostLines c (past [] w.lines) id.0 host) e (ties.hosts id.0) in
      let p : PossibleLines c (past [] w.lines) id.0 (chosen after durable pending) = picked after id.0 durable pending both in
      subst (λ (ls : List Line). TiedTo c ls (fails_as id after left cause (Down durable pending) w)) (sym (past_more [] w.lines (line.Down id cause ∷ [])))
      (down_world c (past [] w.lines) w (fails_as id after left cause (Down durable pending) w) id.0 cause (chosen after durable pending) left refl refl ties p
      (record { kept = go (partition_of c.partitions id) may.epoch may.newest p.kept; covered = rings_covered (past [] w.lines) left.state (chosen after durable pending).state may.rings p.covered }))
    where
      go : (o : Option PartitionTable) → (left.state.epoch ≡ (chosen after durable pending).state.epoch) ⊎ (left.state.epoch ≡ (chosen after durable pending).state.epoch + 1) → left.newest ≡ (chosen after durable pending).newest
          → KeptFor c (past [] w.lines) id (chosen after durable pending).state.epoch (chosen after durable pending).newest o → KeptFor c (past [] w.lines) id left.state.epoch left.newest o
      go None e same k = tt
      go (Some p) (inl e) same k = subst (λ (n : ℕ). KeptLines c (past [] w.lines) id n p left.newest) (sym e) (subst (λ (o : Option Checkpoint). KeptLines c (past [] w.lines) id (chosen after durable pending).state.epoch p o) (sym same) k)
      go (Some p) (inr e) same k = subst (λ (n : ℕ). KeptLines c (past [] w.lines) id n p left.newest) (sym e)
          (kept_next c (past [] w.lines) id (chosen after durable pending).state.epoch p left.newest (subst (λ (o : Option Checkpoint). KeptLines c (past [] w.lines) id (chosen after durable pending).state.epoch p o) (sym same) k))

  -- ---- clients, and what is shown

  client_kept : (id : ClientId) (effects : ClientEffects) → IsQuiet c effects → WorldLines c (client_step id effects w)
  client_kept id effects q = subst (λ (ls : List Line). TiedTo c ls (client_step id effects w)) (sym (past_more [] w.lines effects.lines))
      (still_world c (past [] w.lines) w (client_step id effects w) effects.lines effects.frames refl refl q.still q.said ties)

  shown_kept : (l : Line) → IsStill c l → WorldLines c (with_lines (l ∷ []) w)
  shown_kept l still = subst (λ (ls : List Line). TiedTo c ls (with_lines (l ∷ []) w)) (sym (past_more [] w.lines (l ∷ [])))
      (still_world c (past [] w.lines) w (with_lines (l ∷ []) w) (l ∷ []) [] (frames_none w.frames) refl (still, tt) (λ ls. tt) ties)
    where
      frames_none : (fs : List Sent) → fs ≡ fs ++ []
      frames_none [] = refl
      frames_none (f ∷ fs) = ap (λ (gs : List Sent). f ∷ gs) (frames_none fs)

  pub happens_kept : (h : Happening) → MayHappen c w h → AllAgree (past [] (happens c h w).lines) → WorldLines c (happens c h w)
  happens_kept (Steps id event) may all = steps_kept id event (w.hosts id.0) refl may all
  happens_kept (Breaks id event cause) may all = breaks_kept id event cause (w.hosts id.0) refl may
  happens_kept (Crashes id cause) may all = crashes_kept id cause (w.hosts id.0) refl
  happens_kept (Opens id after journal checkpoints) may all = opens_kept id after journal checkpoints (w.hosts id.0) refl may
  happens_kept (Fails id after left cause) may all = fails_kept id after left cause (w.hosts id.0) refl may.1
  happens_kept (Asks id command) may all = client_kept id (asks c (w.clients id.0) command) (quiet_asks c (w.clients id.0) command)
  happens_kept (ClientTicks id) may all = client_kept id (client_ticks c (w.clients id.0)) (quiet_ticks c (w.clients id.0))
  happens_kept (ClientTakes id body) may all = client_kept id (client_takes c (w.clients id.0) body) (quiet_takes c (w.clients id.0) body)
  happens_kept (Shows id) may all = shown_kept (line.State id (state_of_host (w.hosts id.0))) (λ x. refl, λ before. tt)
  happens_kept (Lists number shown) may all = shown_kept (line.Frame number shown) (λ x. refl, λ before. tt)

-- ---- a run

pub run_kept : (c : Config) (fit : IsFit c) (hs : List Happening) (w : World) → WorldLines c w → MayRun c w hs → AllAgree (past [] (run c hs w).lines) → WorldLines c (run c hs w)
run_kept c fit [] w ties may all = ties
run_kept c fit (h ∷ hs) w ties may all =
    let v : World = happens c h w in
    let more = run_adds c hs (happens c h w) in
    let here : AllAgree (past [] (happens c h w).lines) = agree_before more.0 (past [] v.lines) (subst (λ (ls : List Line). AllAgree ls) (past_more [] v.lines more.0) (subst (λ (ls : List Line). AllAgree (past [] ls)) more.1 all)) in
    run_kept c fit hs (happens c h w) (happens_kept c fit w ties h may.0 here) may.1 all
