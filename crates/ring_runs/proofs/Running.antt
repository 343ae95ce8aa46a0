-- Every world without bytes that a run reaches stands for a sound world of the ring's machine.
use Rattle.std.proofs.Common.{◌∙◌, ◌≡◌, ◌⊎◌, inl, inr, ℕ, ◌<◌, Bool, true, false, List, [], ◌∷◌, ◌++◌, length, refl, sym, subst, arith, ap}
use Rattle.std.specs.Prelude.{◌==◌, if◌then◌else◌, slice_index_or}
use Rattle.std.specs.List.{AllByRecursion}
use Rattle.std.proofs.lemmas.Bool.Decides.{nat_tests}
use Rattle.std.proofs.lemmas.List.{get_or-replicate}
use Rattle.mrp_types.specs.declared.id.NodeId.{NodeId}
use Rattle.mrp_types.specs.declared.id.ClientId.{ClientId}
use Rattle.mrp_types.specs.declared.value.Value.{Value}
use Rattle.ring_reach.specs.Silent.{Silently, with_promises}
use Rattle.mrp_types.specs.declared.id.RingId.{RingId}
use Rattle.vote_state.specs.declared.change.Change.{Change}
use Rattle.mrp_config.specs.Config.{Config}
use Rattle.mrp_config.specs.declared.tables.RingTable.{RingTable}
use Rattle.frames.specs.declared.frame.Frame.{Frame}
use Rattle.frames.specs.declared.sent.Sent.{Sent}
use Rattle.quorums.specs.Groups.{Has}
use Rattle.vote_state.specs.declared.ring.RingState.{RingState}
use Rattle.vote_state.specs.declared.change.Change.TheVariants as change
use Rattle.vote_state.specs.State.{State, ring_at, no_votes, nothing_kept}
use Rattle.vote_journal.specs.Journal.{Journal}
use Rattle.checkpoint.specs.Checkpoints.{Checkpoints}
use Rattle.ring_safety.specs.Faces.{Proposal, Face, blank, Promise, owner}
use Rattle.ring_safety.specs.Invariant.{Sound}
use Rattle.ring_safety.specs.Rules.{Grows}
use Rattle.ring_safety.specs.Worlds.{Before, After, CanHappen, CanRun, durables, happens, empty}
use Rattle.ring_safety.specs.Worlds as machine
use Rattle.ring_safety.proofs.Local.{Grows-refl, Grows-of_eq}
use Rattle.ring_safety.proofs.Worlds.{Sound-empty, Sound-happens, happens_more}
use Rattle.ring_reach.specs.Lifts.{HasStepped, WasStopped}
use Rattle.ring_reach.specs.Reach.{seen}
use Rattle.ring_reach.proofs.Lifting.{node_there, node_elsewhere, has_stepped, was_stopped}
use Rattle.ring_reach.proofs.Silence.{silently}
use Rattle.ring_kept.specs.Kept.{KeptTies}
use Rattle.protocol.specs.Client.{ClientEffects, asks, client_ticks, client_takes}
use Rattle.protocol.specs.Lines.{Line, Cause}
use Rattle.protocol.specs.Lines as line
use Rattle.protocol.specs.Node.{View, Event, Ticks, Takes, Leads, Stepped, Work, Nothing}
use Rattle.protocol.specs.Opening.{opened}
use Rattle.protocol.specs.Rings.{ring_of}
use Rattle.protocol.specs.Step.{step}
use Rattle.beside_rings.specs.Beside.{changes_in}
use Rattle.ring_steps.specs.Stands.{ViewStands, EventSaid, StepStands}
use Rattle.ring_tables.specs.Ties.{SaidBy, IsSaid, IsTold, IsRecorded, IsVotedIn, AreRecorded, IsToldIn}
use Rattle.ring_steps.proofs.Ending.{step_stands}
use Rattle.ring_tables.proofs.More.{all_said_more, all_told_more, all_recorded_more, none_recorded}
use Rattle.ring_steps.proofs.Opened.{opened_stands}
use Rattle.bare_world.specs.Runs.{MayCome, MayOpenAt, MayLeaveAt, MayHappen, MayRun}
use Rattle.bare_world.specs.Worlds.{Possible, Host, Up, Down, World, Happening, Steps, Breaks, Crashes, Opens, Fails, Asks, ClientTicks, ClientTakes, Shows, Lists, with_host, with_client, with_frames, with_lines, with_work, with_read, possible_of, chosen, after_step, goes_down, stepped, client_step, state_of_host, nothing}
use Rattle.bare_world.specs.Worlds as bare
use Rattle.ring_runs.specs.Seats.{acceptors, nobody, seat, IsDeployed}
use Rattle.ring_runs.specs.Histories.{History, at_first, is_done, is_stopped, by_step, by_break, by_crash, found, by_restart, by_opening, goes, history}
use Rattle.ring_runs.specs.Standing.{IsDoneBy, DownStands, HostStands, WorkStands, IsReadIn, ReadStands, WorldStands, Later, Tied}
use Rattle.ring_runs.proofs.Clients.{IsQuiet, asks_quiet, ticks_quiet, takes_quiet}
use Rattle.ring_runs.proofs.Stopping.{stopped_there, stopped_elsewhere, still_recorded, same_node}
use Rattle.ring_runs.proofs.Growing.{view_more, host_elsewhere, own_view, IsReadIn-more, read_in, later_none, later_one, later_both, later_grows, more_frames, more_lines, more_work, more_read, one_of, has_first, has_last, done_more, told_more, has_second}
use Rattle.ring_runs.proofs.Static.{same_id, seats_of, seats_differ, said_by, all_said, all_told}
use Rattle.quorums.proofs.Each.{mapped, appended}

pub since : (config : Config) (table : RingTable) (from mid : machine.World Value) (h : History) → Later (acceptors table) from mid → Tied config table mid h → Tied config table from h
since config table from mid h l t = record { machine_world = t.machine_world; later = later_both (acceptors table) from mid t.machine_world l t.later; sound = t.sound; stands = t.stands }

module _ (config : Config) (table : RingTable) (d : IsDeployed config table) (w : machine.World Value) (sound : Sound (acceptors table) w) (h : History) (t : WorldStands config table w h) where
  -- what comes to a node was said
  event_said : (id : NodeId) (event : Event) → MayCome h.world id event → EventSaid (ring_of config id table) (durables w) event
  event_said id Ticks may = tt
  event_said id (Leads ring) may = tt
  event_said id (Takes frame) may =
      said_by config table d nobody id (durables w) frame.from frame.body
      (subst (λ (f : Frame). SaidBy (ring_of config nobody table) (durables w) f.from f.body) may.same
      (one_of (IsSaid (ring_of config nobody table) (durables w)) h.world.frames may.sent may.there t.frames))

  done_still : (late : machine.World Value) → ((k : ℕ) → Grows (durables w k) (durables late k)) → AllByRecursion (WorkStands table late) h.done
  done_still late more = mapped (WorkStands table w) (WorkStands table late)
      (λ e r. all_recorded_more (ring_of config nobody table) (durables w (seat table e.0)) (durables late (seat table e.0)) (more (seat table e.0)) (changes_in e.1) r) h.done t.done

  -- One host is another, and so is the machine's node of its seat.
  module _ (id : NodeId) (late : machine.World Value) (others : (k : ℕ) → (k ≡ seat table id → ⊥) → late k ≡ w k) (more : (k : ℕ) → Grows (durables w k) (durables late k))
      (host : Host) (stopped : ℕ → Work) (same : (other : NodeId) → (other.0 ≡ id.0 → ⊥) → stopped other.0 ≡ h.stopped other.0) (own : HostStands config table late id (stopped id.0) host)
      (done : List (NodeId × Work)) (grown : (e : NodeId × Work) → Has h.done e → Has done e) (fine : AllByRecursion (WorkStands table late) done)
      (cast : (c : Proposal Value) → Has (durables late (seat table id)).casts c → IsDoneBy table done id c)
      (frames : List Sent) (kept : (x : Sent) → Has h.world.frames x → Has frames x) (said : AllByRecursion (IsSaid (ring_of config nobody table) (durables late)) frames)
      (told : (p : Promise Value) → Has (durables late (seat table id)).promises p → p.low < p.high
      → (owner (acceptors table) p.ballot ≡ seat table id) ⊎ IsToldIn (ring_of config id table) frames p)
      (beyond : (c : Proposal Value) → Has (late (seat table id)).pending.casts c
      → Has (durables late (seat table id)).casts c ⊎ IsVotedIn table.id (changes_in (stopped id.0)) c) where
    hosts_after : (other : NodeId) → HostStands config table late other (stopped other.0) (if other.0 == id.0 then host else h.world.hosts other.0)
    hosts_after other = go (other.0 == id.0) refl
      where
        go : (b : Bool) → (other.0 == id.0) ≡ b → HostStands config table late other (stopped other.0) (if b then host else h.world.hosts other.0)
        go true e =
            let it : id ≡ other = same_id id other (grind (arith, nat_tests)) in
            subst (λ (x : NodeId). HostStands config table late x (stopped x.0) host) it own
        go false e =
            let ne : (other.0 ≡ id.0 → ⊥) = grind (arith, nat_tests) in
            subst (λ (work : Work). HostStands config table late other work (h.world.hosts other.0)) (sym (same other ne))
            (host_elsewhere config table w late more other (h.stopped other.0) (h.world.hosts other.0) (others (seat table other) (seats_differ config table d other id ne)) (t.hosts other))

    casts_after : (other : NodeId) (c : Proposal Value) → Has (durables late (seat table other)).casts c → IsDoneBy table done other c
    casts_after other c has = go (other.0 == id.0) refl
      where
        go : (b : Bool) → (other.0 == id.0) ≡ b → IsDoneBy table done other c
        go true e =
            let it : other ≡ id = same_id other id (grind (arith, nat_tests)) in
            subst (λ (x : NodeId). IsDoneBy table done x c) (sym it) (cast c (subst (λ (x : NodeId). Has (durables late (seat table x)).casts c) it has))
        go false e =
            let ne : (other.0 ≡ id.0 → ⊥) = grind (arith, nat_tests) in
            let was : IsDoneBy table h.done other c =
            t.cast other c (subst (λ (x : machine.Node Value). Has x.durable.casts c) (others (seat table other) (seats_differ config table d other id ne)) has) in
            record { work = was.work; there = grown (other, was.work) was.there; voted = was.voted }

    abbrev is_beyond : NodeId → Work → machine.Node Value → Type 0
    is_beyond other work node = (c : Proposal Value) → Has node.pending.casts c → Has node.durable.casts c ⊎ IsVotedIn table.id (changes_in work) c

    beyond_after : (other : NodeId) → is_beyond other (stopped other.0) (late (seat table other))
    beyond_after other = go (other.0 == id.0) refl
      where
        go : (b : Bool) → (other.0 == id.0) ≡ b → is_beyond other (stopped other.0) (late (seat table other))
        go true e =
            let it : other ≡ id = same_id other id (grind (arith, nat_tests)) in
            subst (λ (x : NodeId). is_beyond x (stopped x.0) (late (seat table x))) (sym it) beyond
        go false e =
            let ne : (other.0 ≡ id.0 → ⊥) = grind (arith, nat_tests) in
            subst (λ (x : machine.Node Value). is_beyond other (stopped other.0) x) (sym (others (seat table other) (seats_differ config table d other id ne)))
            (subst (λ (work : Work). is_beyond other work (w (seat table other))) (sym (same other ne)) (t.beyond other))

    told_after : (other : NodeId) (p : Promise Value) → Has (durables late (seat table other)).promises p → p.low < p.high
        → (owner (acceptors table) p.ballot ≡ seat table other) ⊎ IsToldIn (ring_of config other table) frames p
    told_after other p has lt = go (other.0 == id.0) refl
      where
        go : (b : Bool) → (other.0 == id.0) ≡ b → (owner (acceptors table) p.ballot ≡ seat table other) ⊎ IsToldIn (ring_of config other table) frames p
        go true e =
            let it : other ≡ id = same_id other id (grind (arith, nat_tests)) in
            subst (λ (x : NodeId). (owner (acceptors table) p.ballot ≡ seat table x) ⊎ IsToldIn (ring_of config x table) frames p) (sym it)
            (told p (subst (λ (x : NodeId). Has (durables late (seat table x)).promises p) it has) lt)
        go false e =
            let ne : (other.0 ≡ id.0 → ⊥) = grind (arith, nat_tests) in
            told_more (ring_of config other table) (owner (acceptors table) p.ballot ≡ seat table other) h.world.frames frames p kept
            (t.told other p (subst (λ (x : machine.Node Value). Has x.durable.promises p) (others (seat table other) (seats_differ config table d other id ne)) has) lt)

    world_after : WorldStands config table late (record { world = record (with_host id host h.world) { frames = frames }; stopped = stopped; done = done })
    world_after = record {
      hosts = hosts_after;
      frames = said;
      lines = all_told_more (ring_of config nobody table) (durables w) (durables late) more h.world.lines t.lines;
      done = fine;
      cast = casts_after;
      beyond = beyond_after;
      told = told_after;
      works = mapped (λ (e : NodeId × Work). Has h.done e) (λ (e : NodeId × Work). Has done e) grown h.world.works t.works;
      read = mapped (ReadStands table w) (ReadStands table late)
          (λ e r. IsReadIn-more (durables w (seat table e.0)) (durables late (seat table e.0)) (ring_at e.1 table.id) (more (seat table e.0)) r) h.world.read t.read;
    }

  -- ---- a step that ends well

  -- the machine's world once the node has stepped, and what its view, frames and lines then stand for
  module _ (id : NodeId) (before : List Line) (made : Stepped) (quiet : (now : ℕ → Face Value) → AllByRecursion (IsTold (ring_of config id table) now) before)
      (s : StepStands (ring_of config id table) (durables w) (seat table id) (w (seat table id)).durable made) where
    event : HasStepped (acceptors table) w (seat table id) s.face
    event = has_stepped (acceptors table) w sound (seat table id) s.face s.reached

    abbrev done_then : List (NodeId × Work)
    done_then = h.done ++ (id, made.work) ∷ []

    cast_then : (c : Proposal Value) → Has (durables (happens event.event w) (seat table id)).casts c → IsDoneBy table (h.done ++ (id, made.work) ∷ []) id c
    cast_then c has = go (s.recorded.voted c (subst (λ (f : Face Value). Has f.casts c) event.durable has))
      where
        go : Has (w (seat table id)).durable.casts c ⊎ IsVotedIn table.id (changes_in made.work) c → IsDoneBy table (h.done ++ (id, made.work) ∷ []) id c
        go (inl old) = done_more table h.done ((id, made.work) ∷ []) id c (t.cast id c old)
        go (inr v) = record { work = made.work; there = has_last h.done (id, made.work); voted = v }

    told_then : (p : Promise Value) → Has (durables (happens event.event w) (seat table id)).promises p → p.low < p.high
        → (owner (acceptors table) p.ballot ≡ seat table id) ⊎ IsToldIn (ring_of config id table) (h.world.frames ++ made.frames) p
    told_then p has lt = go (s.told p (subst (λ (f : Face Value). Has f.promises p) event.durable has) lt)
      where
        go : Has (w (seat table id)).durable.promises p ⊎ ((owner (acceptors table) p.ballot ≡ seat table id) ⊎ IsToldIn (ring_of config id table) made.frames p)
            → (owner (acceptors table) p.ballot ≡ seat table id) ⊎ IsToldIn (ring_of config id table) (h.world.frames ++ made.frames) p
        go (inl old) = told_more (ring_of config id table) (owner (acceptors table) p.ballot ≡ seat table id) h.world.frames (h.world.frames ++ made.frames) p
            (λ x there. has_first h.world.frames made.frames x there) (t.told id p old lt)
        go (inr new) = told_more (ring_of config id table) (owner (acceptors table) p.ballot ≡ seat table id) made.frames (h.world.frames ++ made.frames) p
            (λ x there. has_second h.world.frames made.frames x there) new

    went : WorldStands config table (happens event.event w) (record { world = after_step id before made h.world; stopped = h.stopped; done = h.done ++ (id, made.work) ∷ [] })
    went =
        let own : ViewStands (ring_of config id table) (durables (happens event.event w)) (happens event.event w (seat table id)).durable made.view =
        subst (λ (f : Face Value). ViewStands (ring_of config id table) (durables (happens event.event w)) f made.view) (sym event.durable)
        (view_more (ring_of config id table) (seen (durables w) (seat table id) s.face) (durables (happens event.event w)) event.seen_there s.face made.view s.stands) in
        more_lines config table (happens event.event w) (record { world = with_frames made.frames (with_host id (Up made.view) h.world); stopped = h.stopped; done = h.done ++ (id, made.work) ∷ [] })
        (before ++ made.lines)
        (all_told config table d id nobody (durables (happens event.event w)) (before ++ made.lines)
        (appended (IsTold (ring_of config id table) (durables (happens event.event w))) before made.lines (quiet (durables (happens event.event w)))
        (all_told_more (ring_of config id table) (seen (durables w) (seat table id) s.face) (durables (happens event.event w)) event.seen_there made.lines s.lines)))
        (world_after id (happens event.event w) event.others event.more (Up made.view) h.stopped (λ other ne. refl) own (h.done ++ (id, made.work) ∷ [])
        (λ e has. has_first h.done ((id, made.work) ∷ []) e has)
        (appended (WorkStands table (happens event.event w)) h.done ((id, made.work) ∷ []) (done_still (happens event.event w) event.more)
        (subst (λ (f : Face Value). AllByRecursion (IsRecorded table.id f) (changes_in made.work)) (sym event.durable) s.recorded.stand, tt))
        cast_then (h.world.frames ++ made.frames) (λ x there. has_first h.world.frames made.frames x there)
        (appended (IsSaid (ring_of config nobody table) (durables (happens event.event w))) h.world.frames made.frames
        (all_said_more (ring_of config nobody table) (durables w) (durables (happens event.event w)) event.more h.world.frames t.frames)
        (all_said config table d id nobody (durables (happens event.event w)) made.frames
        (all_said_more (ring_of config id table) (seen (durables w) (seat table id) s.face) (durables (happens event.event w)) event.seen_there made.frames s.frames)))
        told_then (λ c has. inl (subst (λ (f : Face Value). Has f.casts c) (event.pending ∙ sym event.durable) has)))

    pub goes_well : Tied config table w (record { world = after_step id before made h.world; stopped = h.stopped; done = h.done ++ (id, made.work) ∷ [] })
    goes_well = record {
      machine_world = happens event.event w;
      later = later_one (acceptors table) w event.event event.can;
      sound = Sound-happens (acceptors table) w sound event.event event.can;
      stands = went;
    }

    pub steps_well : Tied config table w (record { world = with_work id made.work (after_step id before made h.world); stopped = h.stopped; done = h.done ++ (id, made.work) ∷ [] })
    steps_well = record {
      machine_world = happens event.event w;
      later = later_one (acceptors table) w event.event event.can;
      sound = Sound-happens (acceptors table) w sound event.event event.can;
      stands = more_work config table (happens event.event w) (record { world = after_step id before made h.world; stopped = h.stopped; done = h.done ++ (id, made.work) ∷ [] }) id made.work
          (has_last h.done (id, made.work)) went;
    }

  -- ---- a node that goes down

  -- its machine's node is another, whose durable face has cast nothing new
  module _ (id : NodeId) (late : machine.World Value) (others : (k : ℕ) → (k ≡ seat table id → ⊥) → late k ≡ w k) (more : (k : ℕ) → Grows (durables w k) (durables late k))
      (durable pending : Possible) (work : Work) (own : DownStands table (seat table id) (late (seat table id)) work durable.state pending.state)
      (none : (c : Proposal Value) → Has (durables late (seat table id)).casts c → Has (durables w (seat table id)).casts c)
      (untold : (p : Promise Value) → Has (durables late (seat table id)).promises p → Has (durables w (seat table id)).promises p) where
    down_after : WorldStands config table late (is_stopped id work (record h { world = with_host id (Down durable pending) h.world }))
    down_after =
        world_after id late others more (Down durable pending) (λ k. if k == id.0 then work else h.stopped k) (λ other ne. stopped_elsewhere id other work h.stopped ne)
        (subst (λ (x : Work). DownStands table (seat table id) (late (seat table id)) x durable.state pending.state) (sym (stopped_there id work h.stopped)) own)
        h.done (λ e has. has) (done_still late more) (λ c has. t.cast id c (none c has)) h.world.frames (λ x there. there)
        (all_said_more (ring_of config nobody table) (durables w) (durables late) more h.world.frames t.frames) (λ p has lt. t.told id p (untold p has) lt)
        (subst (λ (x : Work). DownStands table (seat table id) (late (seat table id)) x durable.state pending.state) (sym (stopped_there id work h.stopped)) own).made.voted

    says_down : (cause : Cause) → WorldStands config table late (is_stopped id work (record h { world = goes_down id cause durable pending h.world }))
    says_down cause =
        more_lines config table late (is_stopped id work (record h { world = with_host id (Down durable pending) h.world })) (line.Down id cause ∷ []) (tt, tt) down_after

  -- a step that a failure stops
  pub breaks : (id : NodeId) (view : View) → ViewStands (ring_of config id table) (durables w) (w (seat table id)).durable view → (made : Stepped)
      → StepStands (ring_of config id table) (durables w) (seat table id) (w (seat table id)).durable made → (cause : Cause)
      → Tied config table w (is_stopped id made.work (record h { world = goes_down id cause (possible_of view) (possible_of made.view) h.world }))
  breaks id view v made s cause =
      let q : Silently (acceptors table) (durables w) (seat table id) (w (seat table id)).durable s.face =
      silently (acceptors table) (durables w) (seat table id) sound.durable (w (seat table id)).durable (sound.durable (seat table id)) s.face s.reached in
      let g : Face Value = with_promises q.promises s.face in
      let e : WasStopped (acceptors table) w (seat table id) (with_promises q.promises s.face) =
      was_stopped (acceptors table) w sound (seat table id) (with_promises q.promises s.face) q.reached in
      let recorded : AreRecorded table.id (w (seat table id)).durable (with_promises q.promises s.face) (changes_in made.work) = record {
        stand = mapped (IsRecorded table.id s.face) (IsRecorded table.id (with_promises q.promises s.face)) (still_recorded table.id s.face q.promises) (changes_in made.work) s.recorded.stand;
        voted = s.recorded.voted;
      } in
      let k : KeptTies s.face (ring_at made.view.journal.state table.id) = s.stands.kept in
      let ties : KeptTies (with_promises q.promises s.face) (ring_at made.view.journal.state table.id) =
      record { promise = k.promise; trim = k.trim; votes = k.votes; ordered = k.ordered; ended = k.ended } in
      let stood : DownStands table (seat table id) (record { durable = (w (seat table id)).durable; pending = with_promises q.promises s.face }) made.work view.journal.state made.view.journal.state =
      record { durable_rings = v.rings; pending_rings = s.stands.rings; durable_ties = v.kept; pending_ties = ties; made = recorded; silent = q.new } in
      record {
        machine_world = happens e.event w;
        later = later_one (acceptors table) w e.event e.can;
        sound = Sound-happens (acceptors table) w sound e.event e.can;
        stands = says_down id (happens e.event w) e.others (λ k. Grows-of_eq (sym (e.durable k))) (possible_of view) (possible_of made.view) made.work
            (subst (λ (x : machine.Node Value). DownStands table (seat table id) x made.work view.journal.state made.view.journal.state)
            (same_node (happens e.event w (seat table id)) (w (seat table id)).durable (with_promises q.promises s.face) (e.durable (seat table id)) e.pending) stood)
            (λ c has. subst (λ (f : Face Value). Has f.casts c) (e.durable (seat table id)) has)
            (λ p has. subst (λ (f : Face Value). Has f.promises p) (e.durable (seat table id)) has) cause;
      }

  abbrev before_node : NodeId → machine.Node Value
  before_node id = record { durable = (w (seat table id)).durable; pending = (w (seat table id)).durable }

  -- a node on the state before, of which its durable face is known
  before_down : (id : NodeId) (durable : State) → table.id.0 < length durable.rings → KeptTies (w (seat table id)).durable (ring_at durable table.id)
      → DownStands table (seat table id) (happens (Before (seat table id)) w (seat table id)) Nothing durable durable
  before_down id durable rings ties =
      subst (λ (x : machine.Node Value). DownStands table (seat table id) x Nothing durable durable) (sym (node_there w (seat table id) (before_node id)))
      (record { durable_rings = rings; pending_rings = rings; durable_ties = ties; pending_ties = ties; made = none_recorded table.id (w (seat table id)).durable; silent = λ p has lt. inl has })

  before_casts : (id : NodeId) (c : Proposal Value) → Has (durables (happens (Before (seat table id)) w) (seat table id)).casts c → Has (durables w (seat table id)).casts c
  before_casts id c has = subst (λ (x : machine.Node Value). Has x.durable.casts c) (node_there w (seat table id) (before_node id)) has

  before_promises : (id : NodeId) (p : Promise Value) → Has (durables (happens (Before (seat table id)) w) (seat table id)).promises p → Has (durables w (seat table id)).promises p
  before_promises id p has = subst (λ (x : machine.Node Value). Has x.durable.promises p) (node_there w (seat table id) (before_node id)) has

  -- a node that goes down between steps
  pub crashes : (id : NodeId) (view : View) → ViewStands (ring_of config id table) (durables w) (w (seat table id)).durable view → (cause : Cause)
      → Tied config table w (is_stopped id Nothing (record h { world = goes_down id cause (possible_of view) (possible_of view) h.world }))
  crashes id view v cause = record {
    machine_world = happens (Before (seat table id)) w;
    later = later_one (acceptors table) w (Before (seat table id)) tt;
    sound = Sound-happens (acceptors table) w sound (Before (seat table id)) tt;
    stands = says_down id (happens (Before (seat table id)) w) (node_elsewhere w (seat table id) (before_node id)) (happens_more (acceptors table) w sound (Before (seat table id)) tt)
        (possible_of view) (possible_of view) Nothing (before_down id view.journal.state v.rings v.kept) (before_casts id) (before_promises id) cause;
  }

  -- ---- a restart chooses one of the two states

  pub restarts : (id : NodeId) (after : Bool) (durable pending : Possible) → DownStands table (seat table id) (w (seat table id)) (h.stopped id.0) durable.state pending.state
      → Tied config table w (record (found id after h) { world = with_host id (Down (chosen after durable pending) (chosen after durable pending)) h.world })
  restarts id false durable pending s = record {
    machine_world = happens (Before (seat table id)) w;
    later = later_one (acceptors table) w (Before (seat table id)) tt;
    sound = Sound-happens (acceptors table) w sound (Before (seat table id)) tt;
    stands = down_after id (happens (Before (seat table id)) w) (node_elsewhere w (seat table id) (before_node id)) (happens_more (acceptors table) w sound (Before (seat table id)) tt)
        durable durable Nothing (before_down id durable.state s.durable_rings s.durable_ties) (before_casts id) (before_promises id);
  }
  restarts id true durable pending s =
      let node : machine.Node Value = record { durable = (w (seat table id)).pending; pending = (w (seat table id)).pending } in
      let late : machine.World Value = happens (After (seat table id)) w in
      let own : DownStands table (seat table id) (happens (After (seat table id)) w (seat table id)) Nothing pending.state pending.state =
      subst (λ (x : machine.Node Value). DownStands table (seat table id) x Nothing pending.state pending.state)
      (sym (node_there w (seat table id) (record { durable = (w (seat table id)).pending; pending = (w (seat table id)).pending })))
      (record { durable_rings = s.pending_rings; pending_rings = s.pending_rings; durable_ties = s.pending_ties; pending_ties = s.pending_ties; made = none_recorded table.id (w (seat table id)).pending; silent = λ p has lt. inl has }) in
      record {
        machine_world = happens (After (seat table id)) w;
        later = later_one (acceptors table) w (After (seat table id)) tt;
        sound = Sound-happens (acceptors table) w sound (After (seat table id)) tt;
        stands = world_after id (happens (After (seat table id)) w)
            (node_elsewhere w (seat table id) (record { durable = (w (seat table id)).pending; pending = (w (seat table id)).pending }))
            (happens_more (acceptors table) w sound (After (seat table id)) tt) (Down pending pending)
            (λ k. if k == id.0 then Nothing else h.stopped k) (λ other ne. stopped_elsewhere id other Nothing h.stopped ne)
            (subst (λ (x : Work). DownStands table (seat table id) (happens (After (seat table id)) w (seat table id)) x pending.state pending.state) (sym (stopped_there id Nothing h.stopped)) own)
            (h.done ++ (id, h.stopped id.0) ∷ []) (λ e has. has_first h.done ((id, h.stopped id.0) ∷ []) e has)
            (appended (WorkStands table (happens (After (seat table id)) w)) h.done ((id, h.stopped id.0) ∷ [])
            (done_still (happens (After (seat table id)) w) (happens_more (acceptors table) w sound (After (seat table id)) tt)) (
              subst (λ (x : machine.Node Value). AllByRecursion (IsRecorded table.id x.durable) (changes_in (h.stopped id.0)))
                  (sym (node_there w (seat table id) (record { durable = (w (seat table id)).pending; pending = (w (seat table id)).pending }))) s.made.stand,
              tt,
            ))
            casts h.world.frames (λ x there. there)
            (all_said_more (ring_of config nobody table) (durables w) (durables (happens (After (seat table id)) w)) (happens_more (acceptors table) w sound (After (seat table id)) tt) h.world.frames t.frames)
            told
            (subst (λ (x : Work). DownStands table (seat table id) (happens (After (seat table id)) w (seat table id)) x pending.state pending.state) (sym (stopped_there id Nothing h.stopped)) own).made.voted;
      }
    where
      go : (c : Proposal Value) → Has (w (seat table id)).durable.casts c ⊎ IsVotedIn table.id (changes_in (h.stopped id.0)) c → IsDoneBy table (h.done ++ (id, h.stopped id.0) ∷ []) id c
      go c (inl old) = done_more table h.done ((id, h.stopped id.0) ∷ []) id c (t.cast id c old)
      go c (inr v) = record { work = h.stopped id.0; there = has_last h.done (id, h.stopped id.0); voted = v }

      promised : (p : Promise Value) → p.low < p.high → Has (w (seat table id)).durable.promises p ⊎ (owner (acceptors table) p.ballot ≡ seat table id)
          → (owner (acceptors table) p.ballot ≡ seat table id) ⊎ IsToldIn (ring_of config id table) h.world.frames p
      promised p lt (inl old) = t.told id p old lt
      promised p lt (inr own) = inl own

      told : (p : Promise Value) → Has (durables (happens (After (seat table id)) w) (seat table id)).promises p → p.low < p.high
          → (owner (acceptors table) p.ballot ≡ seat table id) ⊎ IsToldIn (ring_of config id table) h.world.frames p
      told p has lt = promised p lt (s.silent p (subst (λ (x : machine.Node Value). Has x.durable.promises p)
          (node_there w (seat table id) (record { durable = (w (seat table id)).pending; pending = (w (seat table id)).pending })) has) lt)

      casts : (c : Proposal Value) → Has (durables (happens (After (seat table id)) w) (seat table id)).casts c → IsDoneBy table (h.done ++ (id, h.stopped id.0) ∷ []) id c
      casts c has = go c (s.made.voted c (subst (λ (x : machine.Node Value). Has x.durable.casts c)
          (node_there w (seat table id) (record { durable = (w (seat table id)).pending; pending = (w (seat table id)).pending })) has))

-- ---- an opening, after the choice

module _ (config : Config) (table : RingTable) (d : IsDeployed config table) (from : machine.World Value) where
  kept_rings : (f : Face Value) (state next : State) → next.rings ≡ state.rings → KeptTies f (ring_at state table.id) → KeptTies f (ring_at next table.id)
  kept_rings f state next same k = subst (λ (r : List RingState). KeptTies f (slice_index_or r table.id.0 no_votes)) (sym same) k

  host_there : (id : NodeId) (host : Host) (world : World) → (with_host id host world).hosts id.0 ≡ host
  host_there id host world = let e : (id.0 == id.0) ≡ true = grind (arith, nat_tests) in rw e refl

  -- a host that was put is put again: the last one stays
  again : (id : NodeId) (one two : Host) (world : World) (stopped : ℕ → Work) (w : machine.World Value)
      → ((other : NodeId) → HostStands config table w other (stopped other.0) (if other.0 == id.0 then two else (if other.0 == id.0 then one else world.hosts other.0)))
      → (other : NodeId) → HostStands config table w other (stopped other.0) (if other.0 == id.0 then two else world.hosts other.0)
  again id one two world stopped w each other = go (other.0 == id.0) (each other)
    where
      go : (b : Bool) → HostStands config table w other (stopped other.0) (if b then two else (if b then one else world.hosts other.0))
          → HostStands config table w other (stopped other.0) (if b then two else world.hosts other.0)
      go true s = s
      go false s = s

  -- a node that is down, of which one state is known
  module _ (id : NodeId) (stood : Possible) (world : World) (h : History) (t : Tied config table from (record h { world = with_host id (Down stood stood) world })) where
    down : DownStands table (seat table id) (t.machine_world (seat table id)) (h.stopped id.0) stood.state stood.state
    down = subst (λ (x : Host). HostStands config table t.machine_world id (h.stopped id.0) x) (host_there id (Down stood stood) world) (t.stands.hosts id)

    read_now : IsReadIn (durables t.machine_world (seat table id)) (ring_at stood.state table.id)
    read_now = read_in (acceptors table) (durables t.machine_world) (seat table id) (durables t.machine_world (seat table id)) (ring_at stood.state table.id)
        (t.sound.durable (seat table id)) down.durable_ties

    pub opens_well : (journal : Journal) (checkpoints : Checkpoints) → journal.state.rings ≡ stood.state.rings
        → Tied config table from (record (is_done id (opened config id journal checkpoints).work h) {
          world = with_read id journal.state (after_step id (line.Up id journal.state.epoch ∷ []) (opened config id journal checkpoints) world);
        })
    opens_well journal checkpoints same =
        let put : History = record h { world = with_host id (Down stood stood) world } in
        let s : StepStands (ring_of config id table) (durables t.machine_world) (seat table id) (t.machine_world (seat table id)).durable (opened config id journal checkpoints) =
        opened_stands config id table d.only (durables t.machine_world) (seat table id) (t.machine_world (seat table id)).durable journal checkpoints
        (subst (λ (r : List RingState). table.id.0 < length r) (sym same) down.durable_rings)
        (kept_rings (t.machine_world (seat table id)).durable stood.state journal.state same down.durable_ties) in
        let g : Tied config table t.machine_world (is_done id (opened config id journal checkpoints).work (record h {
          world = after_step id (line.Up id journal.state.epoch ∷ []) (opened config id journal checkpoints) (with_host id (Down stood stood) world);
        })) =
        goes_well config table d t.machine_world t.sound (record h { world = with_host id (Down stood stood) world }) t.stands id (line.Up id journal.state.epoch ∷ [])
        (opened config id journal checkpoints) (λ now. (tt, tt)) s in
        let read : ReadStands table g.machine_world (id, journal.state) =
        subst (λ (r : List RingState). IsReadIn (durables g.machine_world (seat table id)) (slice_index_or r table.id.0 no_votes)) (sym same)
        (IsReadIn-more (durables t.machine_world (seat table id)) (durables g.machine_world (seat table id)) (ring_at stood.state table.id)
        (later_grows (acceptors table) t.machine_world g.machine_world t.sound g.later (seat table id)) read_now) in
        record {
          machine_world = g.machine_world;
          later = later_both (acceptors table) from t.machine_world g.machine_world t.later g.later;
          sound = g.sound;
          stands = more_read config table g.machine_world
              (is_done id (opened config id journal checkpoints).work (record h { world = after_step id (line.Up id journal.state.epoch ∷ []) (opened config id journal checkpoints) world })) id journal.state read
              (record {
                hosts = again id (Down stood stood) (Up (opened config id journal checkpoints).view) world h.stopped g.machine_world g.stands.hosts;
                frames = g.stands.frames;
                lines = g.stands.lines;
                done = g.stands.done;
                cast = g.stands.cast;
                beyond = g.stands.beyond;
                told = g.stands.told;
                works = g.stands.works;
                read = g.stands.read;
              });
        }

    pub fails_open : (left : Possible) (cause : Cause) → left.state.rings ≡ stood.state.rings → Tied config table from (record h { world = goes_down id cause stood left world })
    fails_open left cause same = record {
      machine_world = t.machine_world;
      later = t.later;
      sound = t.sound;
      stands = more_lines config table t.machine_world (record h { world = with_host id (Down stood left) world }) (line.Down id cause ∷ []) (tt, tt)
          (record {
            hosts = again id (Down stood stood) (Down stood left) world h.stopped t.machine_world (v.hosts);
            frames = v.frames;
            lines = v.lines;
            done = v.done;
            cast = v.cast;
            beyond = v.beyond;
            told = v.told;
            works = v.works;
            read = v.read;
          });
    }
      where
        v : WorldStands config table t.machine_world (record h { world = with_host id (Down stood left) (with_host id (Down stood stood) world) })
        v = world_after config table d t.machine_world t.sound (record h { world = with_host id (Down stood stood) world }) t.stands id t.machine_world (λ k ne. refl)
            (λ k. Grows-refl (durables t.machine_world k)) (Down stood left) h.stopped (λ other ne. refl)
            (record {
              durable_rings = down.durable_rings;
              pending_rings = subst (λ (r : List RingState). table.id.0 < length r) (sym same) down.pending_rings;
              durable_ties = down.durable_ties;
              pending_ties = kept_rings (t.machine_world (seat table id)).pending stood.state left.state same down.pending_ties;
              made = down.made;
              silent = down.silent;
            })
            h.done (λ e has. has) t.stands.done (λ c has. t.stands.cast id c has) world.frames (λ x there. there) t.stands.frames (λ p has lt. t.stands.told id p has lt) down.made.voted

  -- ---- clients

  client_step_quiet : (h : History) → Tied config table from h → (id : ClientId) (made : ClientEffects) → ((now : ℕ → Face Value) → IsQuiet (ring_of config nobody table) now made)
      → Tied config table from (record h { world = client_step id made h.world })
  client_step_quiet h t id made quiet = record {
    machine_world = t.machine_world;
    later = t.later;
    sound = t.sound;
    stands = more_lines config table t.machine_world (record h { world = with_frames made.frames (with_client id made.client h.world) }) made.lines (quiet (durables t.machine_world)).lines
        (more_frames config table t.machine_world (record h { world = with_client id made.client h.world }) made.frames (quiet (durables t.machine_world)).frames
        (record { hosts = s.hosts; frames = s.frames; lines = s.lines; done = s.done; cast = s.cast; beyond = s.beyond; told = s.told; works = s.works; read = s.read }));
  }
    where
      s : WorldStands config table t.machine_world h
      s = t.stands

  -- a line that tells of no learning
  prints_quiet : (h : History) → Tied config table from h → (l : Line) → ((now : ℕ → Face Value) → IsTold (ring_of config nobody table) now l)
      → Tied config table from (record h { world = with_lines (l ∷ []) h.world })
  prints_quiet h t l quiet = record {
    machine_world = t.machine_world;
    later = t.later;
    sound = t.sound;
    stands = more_lines config table t.machine_world h (l ∷ []) (quiet (durables t.machine_world), tt) t.stands;
  }

  -- ---- a happening

  -- the step of a node that is up
  stands_step : (h : History) (t : Tied config table from h) (id : NodeId) (event : Event) → MayCome h.world id event → (view : View)
      → ViewStands (ring_of config id table) (durables t.machine_world) (t.machine_world (seat table id)).durable view
      → StepStands (ring_of config id table) (durables t.machine_world) (seat table id) (t.machine_world (seat table id)).durable (step config view event)
  stands_step h t id event may view s =
      step_stands config (ring_of config id table) (durables t.machine_world) (seat table id) (t.machine_world (seat table id)).durable (seats_of config table d id) t.sound.durable
      (t.sound.durable (seat table id)) view (own_view (ring_of config id table) t.machine_world (seat table id) view s) event
      (event_said config table d t.machine_world t.sound h t.stands id event may)

  chosen_now : (h : History) (t : Tied config table from h) (id : NodeId) (after : Bool) (durable pending : Possible)
      → DownStands table (seat table id) (t.machine_world (seat table id)) (h.stopped id.0) durable.state pending.state
      → Tied config table from (record (found id after h) { world = with_host id (Down (chosen after durable pending) (chosen after durable pending)) h.world })
  chosen_now h t id after durable pending s =
      since config table from t.machine_world (record (found id after h) { world = with_host id (Down (chosen after durable pending) (chosen after durable pending)) h.world }) t.later
      (restarts config table d t.machine_world t.sound h t.stands id after durable pending s)

  pub tied_happens : (h : History) → Tied config table from h → (x : Happening) → MayHappen config h.world x → Tied config table from (goes config x h)
  tied_happens h t (Steps id event) may = go (h.world.hosts id.0) (t.stands.hosts id)
    where
      go : (host : Host) → HostStands config table t.machine_world id (h.stopped id.0) host
          → Tied config table from (record (by_step config id event host h) { world = bare.steps_as config id event host h.world })
      go (Down durable pending) s = t
      go (Up view) s =
          since config table from t.machine_world (record (is_done id (step config view event).work h) { world = stepped id (step config view event) h.world }) t.later
          (steps_well config table d t.machine_world t.sound h t.stands id [] (step config view event) (λ now. tt) (stands_step h t id event may view s))
  tied_happens h t (Breaks id event cause) may = go (h.world.hosts id.0) (t.stands.hosts id)
    where
      go : (host : Host) → HostStands config table t.machine_world id (h.stopped id.0) host
          → Tied config table from (record (by_break config id event host h) { world = bare.breaks_as config id event cause host h.world })
      go (Down durable pending) s = t
      go (Up view) s =
          since config table from t.machine_world
          (is_stopped id (step config view event).work (record h { world = goes_down id cause (possible_of view) (possible_of (step config view event).view) h.world })) t.later
          (breaks config table d t.machine_world t.sound h t.stands id view s (step config view event) (stands_step h t id event may view s) cause)
  tied_happens h t (Crashes id cause) may = go (h.world.hosts id.0) (t.stands.hosts id)
    where
      go : (host : Host) → HostStands config table t.machine_world id (h.stopped id.0) host
          → Tied config table from (record (by_crash id host h) { world = bare.crashes_as id cause host h.world })
      go (Down durable pending) s = t
      go (Up view) s =
          since config table from t.machine_world (is_stopped id Nothing (record h { world = goes_down id cause (possible_of view) (possible_of view) h.world })) t.later
          (crashes config table d t.machine_world t.sound h t.stands id view s cause)
  tied_happens h t (Opens id after journal checkpoints) may = go (h.world.hosts id.0) (t.stands.hosts id) may
    where
      go : (host : Host) → HostStands config table t.machine_world id (h.stopped id.0) host → MayOpenAt config id after journal checkpoints host
          → Tied config table from (record (by_opening config id after journal checkpoints host h) { world = bare.opens_as config id journal checkpoints host h.world })
      go (Up view) s opens = t
      go (Down durable pending) s opens =
          opens_well id (chosen after durable pending) h.world (found id after h) (chosen_now h t id after durable pending s) journal checkpoints opens.rings
  tied_happens h t (Fails id after left cause) may = go (h.world.hosts id.0) (t.stands.hosts id) may.1
    where
      go : (host : Host) → HostStands config table t.machine_world id (h.stopped id.0) host → MayLeaveAt after left host
          → Tied config table from (record (by_restart id after host h) { world = bare.fails_as id after left cause host h.world })
      go (Up view) s leaves = t
      go (Down durable pending) s leaves =
          fails_open id (chosen after durable pending) h.world (found id after h) (chosen_now h t id after durable pending s) left cause leaves.rings
  tied_happens h t (Asks id command) may =
      client_step_quiet h t id (asks config (h.world.clients id.0) command) (λ now. asks_quiet (ring_of config nobody table) now config (h.world.clients id.0) command)
  tied_happens h t (ClientTicks id) may =
      client_step_quiet h t id (client_ticks config (h.world.clients id.0)) (λ now. ticks_quiet (ring_of config nobody table) now config (h.world.clients id.0))
  tied_happens h t (ClientTakes id body) may =
      client_step_quiet h t id (client_takes config (h.world.clients id.0) body) (λ now. takes_quiet (ring_of config nobody table) now config (h.world.clients id.0) body)
  tied_happens h t (Shows id) may = prints_quiet h t (line.State id (state_of_host (h.world.hosts id.0))) (λ now. tt)
  tied_happens h t (Lists number shown) may = prints_quiet h t (line.Frame number shown) (λ now. tt)

  -- ---- a run

  pub tied_run : (h : History) → Tied config table from h → (xs : List Happening) → MayRun config h.world xs → Tied config table from (history config xs h)
  tied_run h t [] may = t
  tied_run h t (x ∷ xs) may = tied_run (goes config x h) (tied_happens h t x may.0) xs may.1

-- ---- the start

module _ (config : Config) (table : RingTable) (d : IsDeployed config table) where
  nothing_at : ring_at nothing_kept table.id ≡ no_votes
  nothing_at = get_or-replicate 16 table.id.0 no_votes no_votes d.number

  pub tied_first : Tied config table empty at_first
  tied_first = record {
    machine_world = empty;
    later = later_none (acceptors table) empty;
    sound = Sound-empty (acceptors table);
    stands = record {
      hosts = λ id. record {
        durable_rings = within;
        pending_rings = within;
        durable_ties = subst (λ (r : RingState). KeptTies blank r) (sym nothing_at) none;
        pending_ties = subst (λ (r : RingState). KeptTies blank r) (sym nothing_at) none;
        made = none_recorded table.id blank;
        silent = λ p has lt. absurd has;
      };
      frames = tt;
      lines = tt;
      done = tt;
      cast = λ id c has. absurd has;
      beyond = λ id c has. absurd has;
      told = λ id p has lt. absurd has;
      works = tt;
      read = tt;
    };
  }
    where
      none : KeptTies blank no_votes
      none = record { promise = refl; trim = refl; votes = λ i. refl; ordered = tt; ended = λ i past. refl }

      within : table.id.0 < length nothing_kept.rings
      within = d.number

  -- every world that a run reaches stands for a sound world of the ring's machine
  pub tied_reached : (xs : List Happening) → MayRun config nothing xs → Tied config table empty (history config xs at_first)
  tied_reached xs may = tied_run config table d empty at_first tied_first xs may

  -- and one that is reached later stands for a later one
  pub tied_later : (from : machine.World Value) (early : History) (t : Tied config table from early) (xs : List Happening) → MayRun config early.world xs
      → Tied config table t.machine_world (history config xs early)
  tied_later from early t xs may =
      tied_run config table d t.machine_world early
      (record { machine_world = t.machine_world; later = later_none (acceptors table) t.machine_world; sound = t.sound; stands = t.stands }) xs may
