-- Whatever counts as done in a run carries entries that were asked alone; so does the work of each step that was stopped.
use Rattle.std.proofs.Common.{◌≡◌, ℕ, ◌==◌, ◌&&◌, Bool, true, false, List, [], ◌∷◌, ◌++◌, Option, Some, None, if◌then◌else◌}
use Rattle.std.specs.List.{AllByRecursion}
use Rattle.mrp_types.specs.declared.id.NodeId.{NodeId}
use Rattle.mrp_types.specs.declared.value.Entry.{Entry}
use Rattle.command_codec.specs.declared.command.Command.{Command}
use Rattle.mrp_config.specs.Config.{Config}
use Rattle.vote_state.specs.State.{State}
use Rattle.vote_journal.specs.Journal.{Journal}
use Rattle.checkpoint.specs.Checkpoints.{Checkpoints}
use Rattle.quorums.proofs.Each.{appended, mapped}
use Rattle.protocol.specs.Node.{Event, Work, Nothing}
use Rattle.protocol.specs.Opening.{opened}
use Rattle.protocol.specs.Step.{step}
use Rattle.bare_world.specs.Worlds.{Host, Up, Down, World, nothing, Happening, Steps, Breaks, Crashes, Opens, Fails, Asks, ClientTicks, ClientTakes, Shows, Lists, steps_as, opens_as}
use Rattle.bare_world.specs.Runs.{MayHappen, MayRun}
use Rattle.ask_laws.specs.Asks.{asked_with, asked_after, asked_in, takes, IsAsked}
use Rattle.ask_laws.specs.Carried.{StateCarries, StepCarries, WorkCarries, WorldCarries}
use Rattle.ask_laws.proofs.Clients.{asked_more, or_more}
use Rattle.ask_laws.proofs.Hosts.{none_carries}
use Rattle.ask_laws.proofs.More.{world_more}
use Rattle.ask_laws.proofs.Stepping.{opened_carries}
use Rattle.ask_laws.proofs.Worlds.{RunKeeps, all_keep, happening_keeps}
use Rattle.ring_runs.specs.Histories.{History, at_first, is_done, is_stopped, found, noted, goes, by_step, by_break, by_crash, by_restart, by_opening, history}

abbrev pub OneCarries : (ℕ → Entry → Type 0) → NodeId × Work → Type 0
OneCarries Is x = WorkCarries Is x.1

pub record DoneCarries (Is : ℕ → Entry → Type 0) (h : History) : Type 0 where
  pub done : AllByRecursion (OneCarries Is) h.done
  pub stopped : (k : ℕ) → WorkCarries Is (h.stopped k)

last_of : {T : Type 0} (P : T → Type 0) (xs : List T) (x : T) → AllByRecursion P (xs ++ x ∷ []) → P x
last_of P [] x all = all.0
last_of P (y ∷ xs) x all = last_of P xs x all.1

-- ---- what is noted

module _ (Is : ℕ → Entry → Type 0) where
  done_more : (id : NodeId) (work : Work) (h : History) → WorkCarries Is work → DoneCarries Is h → DoneCarries Is (is_done id work h)
  done_more id work h one all = record { done = appended (OneCarries Is) h.done ((id, work) ∷ []) all.done (one, tt); stopped = all.stopped }

  stopped_at : (id : NodeId) (work : Work) (h : History) → WorkCarries Is work → DoneCarries Is h → DoneCarries Is (is_stopped id work h)
  stopped_at id work h one all = record { done = all.done; stopped = λ k. by k (k == id.0) }
    where
      by : (k : ℕ) (b : Bool) → WorkCarries Is (if b then work else h.stopped k)
      by k true = one
      by k false = all.stopped k

  found_carries : (id : NodeId) (after : Bool) (h : History) → DoneCarries Is h → DoneCarries Is (found id after h)
  found_carries id false h all = stopped_at id Nothing h tt all
  found_carries id true h all = stopped_at id Nothing (is_done id (h.stopped id.0) h) tt (done_more id (h.stopped id.0) h (all.stopped id.0) all)

-- an opening that read states of entries so does work of them
opened_work : (Is : ℕ → Entry → Type 0) (c : Config) (id : NodeId) (journal : Journal) (checkpoints : Checkpoints) → StateCarries Is journal.state → WorkCarries Is (opened c id journal checkpoints).work
opened_work Is c id journal checkpoints state =
    let step : StepCarries Is ⊥ (opened c id journal checkpoints) = opened_carries Is ⊥ (λ none. absurd none) c (λ none. absurd none) id journal checkpoints state (λ none. absurd none) in
    step.work

module _ (c : Config) (h : History) (asked : ℕ → ℕ → Option Command) (keeps : RunKeeps c asked h.world) (all : DoneCarries (IsAsked c asked) h) where
  step_work : (id : NodeId) (event : Event) (host : Host) → AllByRecursion (OneCarries (IsAsked c asked)) (steps_as c id event host h.world).works → DoneCarries (IsAsked c asked) (by_step c id event host h)
  step_work id event (Down durable pending) works = all
  step_work id event (Up view) works = done_more (IsAsked c asked) id (step c view event).work h (last_of (OneCarries (IsAsked c asked)) h.world.works (id, (step c view event).work) works) all

  break_work : (id : NodeId) (event : Event) (host : Host) → AllByRecursion (OneCarries (IsAsked c asked)) (steps_as c id event host h.world).works → DoneCarries (IsAsked c asked) (by_break c id event host h)
  break_work id event (Down durable pending) works = all
  break_work id event (Up view) works = stopped_at (IsAsked c asked) id (step c view event).work h (last_of (OneCarries (IsAsked c asked)) h.world.works (id, (step c view event).work) works) all

  crash_work : (id : NodeId) (host : Host) → DoneCarries (IsAsked c asked) (by_crash id host h)
  crash_work id (Down durable pending) = all
  crash_work id (Up view) = stopped_at (IsAsked c asked) id Nothing h tt all

  restart_work : (id : NodeId) (after : Bool) (host : Host) → DoneCarries (IsAsked c asked) (by_restart id after host h)
  restart_work id after (Up view) = all
  restart_work id after (Down durable pending) = found_carries (IsAsked c asked) id after h all

  open_work : (id : NodeId) (after : Bool) (journal : Journal) (checkpoints : Checkpoints) (host : Host)
      → AllByRecursion (λ (x : NodeId × State). StateCarries (IsAsked c asked) x.1) (opens_as c id journal checkpoints host h.world).read
      → DoneCarries (IsAsked c asked) (by_opening c id after journal checkpoints host h)
  open_work id after journal checkpoints (Up view) read = all
  open_work id after journal checkpoints (Down durable pending) read =
      done_more (IsAsked c asked) id (opened c id journal checkpoints).work (found id after h)
      (opened_work (IsAsked c asked) c id journal checkpoints (last_of (λ (x : NodeId × State). StateCarries (IsAsked c asked) x.1) h.world.read (id, journal.state) read))
      (found_carries (IsAsked c asked) id after h all)

  -- what happens next notes works of entries that were asked by now
  noted_carries : (x : Happening) → MayHappen c h.world x → DoneCarries (IsAsked c asked) (noted c x h)
  noted_carries (Steps id event) may = step_work id event (h.world.hosts id.0) (happening_keeps c asked h.world (Steps id event) may keeps).carried.works
  noted_carries (Breaks id event cause) may = break_work id event (h.world.hosts id.0) (happening_keeps c asked h.world (Steps id event) may keeps).carried.works
  noted_carries (Crashes id cause) may = crash_work id (h.world.hosts id.0)
  noted_carries (Opens id after journal checkpoints) may =
      open_work id after journal checkpoints (h.world.hosts id.0) (happening_keeps c asked h.world (Opens id after journal checkpoints) may keeps).carried.read
  noted_carries (Fails id after left cause) may = restart_work id after (h.world.hosts id.0)
  noted_carries (Asks id command) may = all
  noted_carries (ClientTicks id) may = all
  noted_carries (ClientTakes id body) may = all
  noted_carries (Shows id) may = all
  noted_carries (Lists number shown) may = all

-- ---- more is asked

module _ (Is Js : ℕ → Entry → Type 0) (more : (r : ℕ) (e : Entry) → Is r e → Js r e) where
  work_more : (id : NodeId) (work : Work) → WorkCarries Is work → WorkCarries Js work
  work_more id work carries =
      let first : WorldCarries Is ⊥ nothing = none_carries Is ⊥ in
      let one : WorldCarries Js ⊥ (record nothing { works = (id, work) ∷ [] }) =
      world_more Is Js ⊥ more (record nothing { works = (id, work) ∷ [] }) (record { hosts = first.hosts; frames = tt; lines = tt; works = (carries, tt); read = tt }) in
      one.works.0

  carries_more : (h : History) → DoneCarries Is h → DoneCarries Js h
  carries_more h all = record {
    done = mapped (OneCarries Is) (OneCarries Js) (λ x one. work_more x.0 x.1 one) h.done all.done;
    stopped = λ k. work_more (record { 0 = k }) (h.stopped k) (all.stopped k);
  }

told_more : (c : Config) (w : World) (x : Happening) (asked : ℕ → ℕ → Option Command) (k s : ℕ) (command : Command) → asked k s ≡ Some command → asked_with c w x asked k s ≡ Some command
told_more c w (Asks id asks) asked k s command e =
    or_more (asked k s) (if (id.0 == k) && (((w.clients id.0).next == s) && takes c (w.clients id.0) asks) then Some asks else None) command e
told_more c w other asked k s command e = e

-- ---- runs

done_on : (c : Config) (h : History) (asked : ℕ → ℕ → Option Command) → RunKeeps c asked h.world → DoneCarries (IsAsked c asked) h → (xs : List Happening) → MayRun c h.world xs
    → DoneCarries (IsAsked c (asked_after c xs h.world asked)) (history c xs h)
done_on c h asked keeps all [] may = all
done_on c h asked keeps all (x ∷ xs) may =
    let now : ℕ → ℕ → Option Command = asked_with c h.world x asked in
    let noted_now = carries_more (IsAsked c asked) (IsAsked c now) (asked_more c asked now (told_more c h.world x asked)) (noted c x h) (noted_carries c h asked keeps all x may.0) in
    done_on c (goes c x h) now (happening_keeps c asked h.world x may.0 keeps) (record { done = noted_now.done; stopped = noted_now.stopped }) xs may.1

pub done_carries : (c : Config) (xs : List Happening) → MayRun c nothing xs → DoneCarries (IsAsked c (asked_in c xs)) (history c xs at_first)
done_carries c xs may = done_on c at_first (λ k s. None) (all_keep c [] tt) (record { done = tt; stopped = λ k. tt }) xs may
