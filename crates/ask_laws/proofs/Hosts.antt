-- What happens at a node leaves a world that carries what it carried.
use Rattle.std.proofs.Common.{◌≡◌, ℕ, Bool, true, false, List, [], ◌∷◌, ◌++◌, Option, sym, subst}
use Rattle.std.specs.Prelude.{◌==◌, if◌then◌else◌, slice_index_or}
use Rattle.std.specs.List.{AllByRecursion}
use Rattle.mrp_types.specs.declared.id.NodeId.{NodeId}
use Rattle.mrp_types.specs.declared.value.Entry.{Entry}
use Rattle.mrp_types.specs.Entries.{IsEntry}
use Rattle.mrp_config.specs.Config.{Config}
use Rattle.frames.specs.declared.frame.Frame.{Frame}
use Rattle.frames.specs.declared.sent.Sent.{Sent}
use Rattle.vote_state.specs.declared.ring.RingState.{RingState}
use Rattle.vote_state.specs.State.{State, no_votes}
use Rattle.vote_journal.specs.Journal.{Journal}
use Rattle.checkpoint.specs.Checkpoints.{Checkpoint, Checkpoints}
use Rattle.state_laws.specs.States.{HasFewLogs}
use Rattle.protocol.specs.Lines.{Line, Cause}
use Rattle.protocol.specs.Lines as line
use Rattle.protocol.specs.Node.{Event, Ticks, Takes, Leads, Stepped, Work}
use Rattle.protocol.specs.Opening.{opened}
use Rattle.protocol.specs.Step.{step}
use Rattle.bare_world.specs.Worlds.{Possible, Host, Up, Down, World, nothing, with_host, possible_of, chosen, after_step, goes_down, steps_as, breaks_as, crashes_as, opens_as, fails_as}
use Rattle.bare_world.specs.Runs.{MayCome, MayOpenAt, MayLeaveAt}
use Rattle.ask_laws.specs.Carried.{NewestKeeps, PossibleCarries, VotesCarry, StateCarries, WorkCarries, LineCarries, SentCarries, PartyCarries, EventCarries, StepCarries, HostCarries, WorldCarries}
use Rattle.ask_laws.proofs.Commands.{IsOfBytes}
use Rattle.ask_laws.proofs.Lists.{appended, one_of}
use Rattle.ask_laws.proofs.Stepping.{nothing_carries, opened_carries, step_carries}

module _ (Is : ℕ → Entry → Type 0) (Valid : Type 0) where
  -- the rings alone tell what a state carries
  same_rings : (s t : State) → t.rings ≡ s.rings → StateCarries Is s → StateCarries Is t
  same_rings s t same c = λ r. subst (λ (rings : List RingState). VotesCarry Is r (slice_index_or rings r no_votes).votes) (sym same) (c r)

  pub lines_put : (lines : List Line) (w : World) → AllByRecursion (LineCarries Is) lines → WorldCarries Is Valid w → WorldCarries Is Valid (record w { lines = w.lines ++ lines })
  lines_put lines w is c = record { hosts = c.hosts; frames = c.frames; lines = appended (LineCarries Is) w.lines lines c.lines is; works = c.works; read = c.read }

  pub frames_put : (frames : List Sent) (w : World) → AllByRecursion (SentCarries Is Valid) frames → WorldCarries Is Valid w → WorldCarries Is Valid (record w { frames = w.frames ++ frames })
  frames_put frames w is c = record { hosts = c.hosts; frames = appended (SentCarries Is Valid) w.frames frames c.frames is; lines = c.lines; works = c.works; read = c.read }

  host_put : (id : NodeId) (host : Host) (w : World) → HostCarries Is Valid host → WorldCarries Is Valid w → WorldCarries Is Valid (with_host id host w)
  host_put id host w is c = record { hosts = λ k. by k (k == id.0); frames = c.frames; lines = c.lines; works = c.works; read = c.read }
    where
      by : (k : ℕ) (t : Bool) → HostCarries Is Valid (if t then host else w.hosts k)
      by k true = is
      by k false = c.hosts k

  after_step_carries : (id : NodeId) (before : List Line) (made : Stepped) (w : World) → AllByRecursion (LineCarries Is) before → StepCarries Is Valid made → WorldCarries Is Valid w
      → WorldCarries Is Valid (after_step id before made w)
  after_step_carries id before made w lines d c =
      let up : World = with_host id (Up made.view) w in
      let sent : World = record up { frames = up.frames ++ made.frames } in
      lines_put (before ++ made.lines) sent (appended (LineCarries Is) before made.lines lines d.lines) (frames_put made.frames up d.frames (host_put id (Up made.view) w d.view c))

  goes_down_carries : (id : NodeId) (cause : Cause) (durable pending : Possible) (w : World) → PossibleCarries Is Valid durable → PossibleCarries Is Valid pending → WorldCarries Is Valid w
      → WorldCarries Is Valid (goes_down id cause durable pending w)
  goes_down_carries id cause durable pending w old new c = lines_put (line.Down id cause ∷ []) (with_host id (Down durable pending) w) (tt, tt) (host_put id (Down durable pending) w (old, new) c)

  chosen_carries : (after : Bool) (durable pending : Possible) → PossibleCarries Is Valid durable → PossibleCarries Is Valid pending → PossibleCarries Is Valid (chosen after durable pending)
  chosen_carries true durable pending old new = new
  chosen_carries false durable pending old new = old

  -- a frame that comes was sent
  pub came_carries : (w : World) (id : NodeId) (event : Event) → MayCome w id event → WorldCarries Is Valid w → EventCarries Is Valid event
  came_carries w id Ticks may c = tt
  came_carries w id (Leads ring) may c = tt
  came_carries w id (Takes frame) may c = subst (λ (f : Frame). PartyCarries Is Valid f.from f.body) may.same (one_of (SentCarries Is Valid) w.frames may.sent c.frames may.there)

  -- ---- what happens to a node

  pub crashes_carry : (id : NodeId) (cause : Cause) (host : Host) (w : World) → HostCarries Is Valid host → WorldCarries Is Valid w → WorldCarries Is Valid (crashes_as id cause host w)
  crashes_carry id cause (Down durable pending) w h c = c
  crashes_carry id cause (Up view) w h c = goes_down_carries id cause (possible_of view) (possible_of view) w (record { state = h.state; newest = h.newest }) (record { state = h.state; newest = h.newest }) c

  pub opens_carry : (given : Valid → (r : ℕ) (e : Entry) → Is r e → IsOfBytes e) (config : Config) → (Valid → AllByRecursion HasFewLogs config.partitions) → (id : NodeId) (after : Bool) (journal : Journal) (checkpoints : Checkpoints) (host : Host) (w : World) → MayOpenAt config id after journal checkpoints host
      → HostCarries Is Valid host → WorldCarries Is Valid w
      → WorldCarries Is Valid (opens_as config id journal checkpoints host w)
  opens_carry given config logs id after journal checkpoints (Up view) w may h c = c
  opens_carry given config logs id after journal checkpoints (Down durable pending) w may h c =
      let now : World = after_step id (line.Up id journal.state.epoch ∷ []) (opened config id journal checkpoints) w in
      record {
        hosts = on.hosts;
        frames = on.frames;
        lines = on.lines;
        works = on.works;
        read = appended (λ (x : NodeId × State). StateCarries Is x.1) now.read ((id, journal.state) ∷ []) on.read (state, tt);
      }
    where
      stood : PossibleCarries Is Valid (chosen after durable pending)
      stood = chosen_carries after durable pending h.0 h.1

      state : StateCarries Is journal.state
      state = same_rings (chosen after durable pending).state journal.state may.rings stood.state

      newest : Valid → NewestKeeps checkpoints.newest
      newest few = subst (λ (o : Option Checkpoint). NewestKeeps o) (sym may.newest) (stood.newest few)

      on : WorldCarries Is Valid (after_step id (line.Up id journal.state.epoch ∷ []) (opened config id journal checkpoints) w)
      on = after_step_carries id (line.Up id journal.state.epoch ∷ []) (opened config id journal checkpoints) w (tt, tt) (opened_carries Is Valid given config logs id journal checkpoints state newest) c

  pub fails_carry : (id : NodeId) (after : Bool) (left : Possible) (cause : Cause) (host : Host) (w : World) → MayLeaveAt after left host → HostCarries Is Valid host → WorldCarries Is Valid w
      → WorldCarries Is Valid (fails_as id after left cause host w)
  fails_carry id after left cause (Up view) w may h c = c
  fails_carry id after left cause (Down durable pending) w may h c =
      let old = chosen_carries after durable pending h.0 h.1 in
      goes_down_carries id cause (chosen after durable pending) left w old
      (record { state = same_rings (chosen after durable pending).state left.state may.rings old.state; newest = λ few. subst (λ (o : Option Checkpoint). NewestKeeps o) (sym may.newest) (old.newest few) }) c

  module _ (valid : (r : ℕ) (e : Entry) → Is r e → IsEntry e) (given : Valid → (r : ℕ) (e : Entry) → Is r e → IsOfBytes e) (config : Config) where
    pub steps_carry : (id : NodeId) (event : Event) (host : Host) (w : World) → EventCarries Is Valid event → HostCarries Is Valid host → WorldCarries Is Valid w → WorldCarries Is Valid (steps_as config id event host w)
    steps_carry id event (Down durable pending) w came h c = c
    steps_carry id event (Up view) w came h c =
        let now : World = after_step id [] (step config view event) w in
        record {
          hosts = on.hosts;
          frames = on.frames;
          lines = on.lines;
          works = appended (λ (x : NodeId × Work). WorkCarries Is x.1) now.works ((id, (step config view event).work) ∷ []) on.works (made.work, tt);
          read = on.read;
        }
      where
        made : StepCarries Is Valid (step config view event)
        made = step_carries Is Valid valid given config view event h came

        on : WorldCarries Is Valid (after_step id [] (step config view event) w)
        on = after_step_carries id [] (step config view event) w tt made c

    pub breaks_carry : (id : NodeId) (event : Event) (cause : Cause) (host : Host) (w : World) → EventCarries Is Valid event → HostCarries Is Valid host → WorldCarries Is Valid w
        → WorldCarries Is Valid (breaks_as config id event cause host w)
    breaks_carry id event cause (Down durable pending) w came h c = c
    breaks_carry id event cause (Up view) w came h c =
        goes_down_carries id cause (possible_of view) (possible_of (step config view event).view) w (record { state = h.state; newest = h.newest })
        (let made = step_carries Is Valid valid given config view event h came in record { state = made.view.state; newest = made.view.newest }) c

  pub none_carries : WorldCarries Is Valid nothing
  none_carries = record {
    hosts = λ k. (record { state = nothing_carries Is Valid; newest = λ few. tt }, record { state = nothing_carries Is Valid; newest = λ few. tt });
    frames = tt;
    lines = tt;
    works = tt;
    read = tt;
  }
