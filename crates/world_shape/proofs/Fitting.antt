-- Every world that a run reaches fits: its nodes and its frames keep what `step_shape` keeps of a step.
use Rattle.std.proofs.Common.{◌≡◌, inl, inr, ℕ, zero, suc, ◌+◌, ◌^◌, ◌&&◌, Bool, true, false, true≢false, List, [], ◌∷◌, ◌++◌, map, filter, Option, Some, None, refl, sym, ◌∙◌, ap, subst, arith}
use Rattle.std.specs.Prelude.{◌==◌, ◌%◌, nat_lt, not, if◌then◌else◌, slice_index_or, replicate, Result, Ok, Err}
use Rattle.std.specs.List.{AllByRecursion}
use Rattle.std.proofs.lemmas.Bool.Decides.{nat_tests}
use Rattle.mrp_types.specs.declared.id.NodeId.{NodeId}
use Rattle.mrp_types.specs.declared.id.RingId.{RingId}
use Rattle.mrp_types.specs.declared.id.ClientId.{ClientId}
use Rattle.mrp_types.specs.declared.id.PartitionId.{PartitionId}
use Rattle.mrp_types.specs.declared.id.Party.{Party}
use Rattle.mrp_types.specs.declared.id.Party.TheVariants.{Node, Client}
use Rattle.mrp_config.specs.Config.{Config, partition_of, partition_at, ring_at as table_at}
use Rattle.mrp_config.specs.Valid.{IsValid}
use Rattle.mrp_config.specs.Routing.{concerned_of, route_of, is_concerned}
use Rattle.mrp_config.specs.declared.routing.NoGroup.{NoGroup}
use Rattle.mrp_config.specs.declared.tables.RingTable.{RingTable}
use Rattle.mrp_config.specs.declared.tables.PartitionTable.{PartitionTable}
use Rattle.quorums.specs.Groups.{Has}
use Rattle.quorums.proofs.Each.{mapped, appended}
use Rattle.command_codec.specs.declared.command.Command.{Command}
use Rattle.command_codec.specs.declared.reply.Reply.{Reply}
use Rattle.command_codec.specs.declared.fault.CodecFault.{CodecFault}
use Rattle.command_codec.specs.Grammar.{reply_of}
use Rattle.vote_state.specs.declared.ring.RingState.{RingState}
use Rattle.vote_state.specs.State.{State, no_votes, nothing_kept}
use Rattle.vote_journal.specs.Journal.{Journal, recorded}
use Rattle.vote_state.specs.declared.change.Change.{Change}
use Rattle.checkpoint.specs.Checkpoints.{Checkpoint, Checkpoints}
use Rattle.frames.specs.declared.body.Body.{Body}
use Rattle.frames.specs.declared.body.Body.TheVariants as body
use Rattle.frames.specs.declared.frame.Frame.{Frame}
use Rattle.frames.specs.declared.sent.Sent.{Sent}
use Rattle.beside_rings.specs.Beside.{AreSame}
use Rattle.beside_rings.proofs.Recovered.{untouched_begins}
use Rattle.faithful.specs.Scanners.{past}
use Rattle.faithful.proofs.Quorum.{all_has}
use Rattle.protocol.specs.Lines.{Line, Cause}
use Rattle.protocol.specs.Parts.{Ring}
use Rattle.protocol.specs.Rings.{ring_of, is_member, is_acceptor}
use Rattle.protocol.specs.Client.{Asked, ClientView, ClientEffects, idles, acceptor_at, acceptors_of, submit_to, sends_it, asked_first, asks_on, asks_beside, asks, ticks_for, client_ticks, fits, with_part, has_part, have_all, answers, gathered, replied_with, replied_by, replied_for, replied, client_takes}
use Rattle.protocol.specs.Node.{View, RingPart, Recovering, Event, Ticks, Takes, Leads, StepSoFar, part_in, begun_with}
use Rattle.protocol.specs.Opening.{part_of_ring, parts_of, view_of, begins_first, opened}
use Rattle.protocol.specs.Step.{step}
use Rattle.bare_world.specs.Worlds.{Possible, Host, Up, Down, World, Happening, Steps, Breaks, Crashes, Opens, Fails, Asks, ClientTicks, ClientTakes, Shows, Lists, nothing, possible_of, chosen, steps_as, breaks_as, crashes_as, opens_as, fails_as, goes_down, client_step, happens}
use Rattle.bare_world.specs.Runs.{IsNode, MayCome, MayOpenAt, MayLeaveAt, MayHappen, run, MayRun}
use Rattle.bare_world.proofs.Onward.{run_both, may_both}
use Rattle.step_valid.specs.Valid.{ViewValid}
use Rattle.valid_runs.specs.Worlds.{HostValid}
use Rattle.valid_runs.proofs.Running.{event_valid, runs_valid}
use Rattle.ask_laws.specs.Asks.{asked_in, IsAsked}
use Rattle.plain_model.proofs.TupleOrder.{same_number}
use Rattle.ask_laws.specs.Carried.{VotesCarry, PossibleCarries, NewestKeeps, ViewCarries, HostCarries}
use Rattle.ask_laws.proofs.Given.{entry_of_bytes}
use Rattle.ask_laws.proofs.Hosts.{came_carries}
use Rattle.ask_laws.proofs.Worlds.{all_keep}
use Rattle.recovery_lines.specs.Ties.{IsPlaced, PartySaid, IsSaid, ReplicaLines, ViewLines, rings_in}
use Rattle.step_lines.specs.Effects.{EventSaid}
use Rattle.step_lines.proofs.Whole.{step_left}
use Rattle.line_runs.specs.Invariant.{node, UpLines, HostLines, WorldLines}
use Rattle.line_runs.proofs.Fitting.{valid_fits}
use Rattle.line_runs.proofs.Laws.{run_lines}
use Rattle.ring_steps.specs.Stands.{PartStands, ViewStands}
use Rattle.ring_safety.specs.Worlds as machine
use Rattle.ring_safety.specs.Worlds.{durables}
use Rattle.ring_runs.specs.Histories.{at_first, history}
use Rattle.ring_runs.specs.Seats.{seat}
use Rattle.ring_runs.specs.Standing.{HostStands, Tied}
use Rattle.ring_runs.proofs.Whole.{world_of, reached}
use Rattle.step_shape.specs.Shaped.{BodyFits, MayGo, SentFits, FrameFits, MemberFits, NewestFits, ViewFits, EventFits, StepFits, KeepsNothing}
use Rattle.step_shape.proofs.Ending.{are_numbered, tables_differ, partitions_fit, step_fits, opened_fits}
use Rattle.world_shape.specs.Shape.{rings_of}

-- ---- what is kept

pub record PossibleFits (config : Config) (id : NodeId) (p : Possible) : Type 0 where
  pub newest : NewestFits p.newest
  pub none : KeepsNothing config id p.state

pub record UpFits (config : Config) (id : NodeId) (view : View) : Type 0 where
  pub there : IsNode config id
  pub rings : rings_in view.parts ≡ rings_of config id
  pub whole : ViewFits view

abbrev pub blank : Possible
blank = record { state = nothing_kept; newest = None }

pub record DownFits (config : Config) (id : NodeId) (durable pending : Possible) : Type 0 where
  pub durable_fits : PossibleFits config id durable
  pub pending_fits : PossibleFits config id pending
  pub absent : (IsNode config id → ⊥) → (durable ≡ blank) × (pending ≡ blank)

abbrev pub HostFits : Config → NodeId → Host → Type 0
HostFits config id (Up view) = UpFits config id view
HostFits config id (Down durable pending) = DownFits config id durable pending

-- a frame of a node is one of a node of the deployment
abbrev pub PartyFits : (ℕ → Type 0) → Config → Party → Party → Body → Type 0
PartyFits fine config (Node id) to b = IsNode config id × BodyFits fine b × MayGo to b
PartyFits fine config (Client id) to b = Unit {0}

abbrev pub FromFits : (ℕ → Type 0) → Config → Sent → Type 0
FromFits fine config sent = PartyFits fine config sent.frame.from sent.to sent.frame.body

pub record WorldFits (fine : ℕ → Type 0) (config : Config) (w : World) : Type 0 where
  pub hosts : (n : ℕ) → HostFits config (node n) (w.hosts n)
  pub frames : AllByRecursion (FromFits fine config) w.frames

-- ---- rings

same_rings : (qs ps : List RingPart) → AreSame qs ps → rings_in ps ≡ rings_in qs
same_rings [] [] s = refl
same_rings [] (p ∷ ps) s = absurd s
same_rings (q ∷ qs) [] s = absurd s
same_rings (q ∷ qs) (p ∷ ps) s = ap (λ (r : Ring). r ∷ rings_in ps) s.0.ring ∙ ap (λ (rs : List Ring). q.ring ∷ rs) (same_rings qs ps s.1)

parts_rings : (config : Config) (id : NodeId) (state : State) (tables : List RingTable) → rings_in (parts_of config id state tables) ≡ filter is_member (map (ring_of config id) tables)
parts_rings config id state [] = refl
parts_rings config id state (t ∷ tables) = go (is_member (ring_of config id t)) (parts_rings config id state tables)
  where
    go : (b : Bool) → rings_in (parts_of config id state tables) ≡ filter is_member (map (ring_of config id) tables)
        → rings_in (if b then part_of_ring state (ring_of config id t) ∷ parts_of config id state tables else parts_of config id state tables)
        ≡ (if b then ring_of config id t ∷ filter is_member (map (ring_of config id) tables) else filter is_member (map (ring_of config id) tables))
    go false rest = rest
    go true rest = ap (λ (rs : List Ring). ring_of config id t ∷ rs) rest

opened_rings : (config : Config) (id : NodeId) (journal : Journal) (checkpoints : Checkpoints) → rings_in (opened config id journal checkpoints).view.parts ≡ rings_of config id
unfolding opened
opened_rings config id journal checkpoints = go (partition_of config.partitions id) ∙ parts_rings config id journal.state config.rings
  where
    first : StepSoFar
    first = begun_with (view_of config id journal checkpoints)

    go : (o : Option PartitionTable) → rings_in (begins_first config o (begun_with (view_of config id journal checkpoints))).view.parts ≡ rings_in (parts_of config id journal.state config.rings)
    go None = refl
    go (Some partition) =
        let u = untouched_begins config (record { partition = partition; attempts = 0; stage = Recovering (record { number = 0; ticks = 0; answers = []; choice = None }) }) first in
        same_rings (parts_of config id journal.state config.rings) _ u.parts

ring_listed : (config : Config) (id : NodeId) (tables : List RingTable) (t : RingTable) → Has tables t → is_member (ring_of config id t) ≡ true → Has (filter is_member (map (ring_of config id) tables)) (ring_of config id t)
ring_listed config id [] t has member = absurd has
ring_listed config id (x ∷ tables) t (inl e) member = go (is_member (ring_of config id x)) refl
  where
    go : (b : Bool) → is_member (ring_of config id x) ≡ b → Has (if b then ring_of config id x ∷ filter is_member (map (ring_of config id) tables) else filter is_member (map (ring_of config id) tables)) (ring_of config id t)
    go true is = inl (ap (λ (y : RingTable). ring_of config id y) e)
    go false is = absurd (true≢false (sym member ∙ ap (λ (y : RingTable). is_member (ring_of config id y)) e ∙ is))
ring_listed config id (x ∷ tables) t (inr later) member = go (is_member (ring_of config id x)) (ring_listed config id tables t later member)
  where
    go : (b : Bool) → Has (filter is_member (map (ring_of config id) tables)) (ring_of config id t)
        → Has (if b then ring_of config id x ∷ filter is_member (map (ring_of config id) tables) else filter is_member (map (ring_of config id) tables)) (ring_of config id t)
    go true rest = inr rest
    go false rest = rest

-- a ring that is among those of the parts has a part
part_there : (parts : List RingPart) (r : Ring) → Has (rings_in parts) r → (p : RingPart) × (part_in parts r.id ≡ Some p)
part_there [] r has = absurd has
part_there (x ∷ parts) r has = go (x.ring.id.0 == r.id.0) refl has (λ h. part_there parts r h)
  where
    go : (b : Bool) → (x.ring.id.0 == r.id.0) ≡ b → Has (rings_in (x ∷ parts)) r → (Has (rings_in parts) r → (p : RingPart) × (part_in parts r.id ≡ Some p)) → (p : RingPart) × ((if b then Some x else part_in parts r.id) ≡ Some p)
    go true e h later = (x, refl)
    go false e (inl same) later = absurd (let at : r.id.0 ≡ x.ring.id.0 = ap (λ (y : Ring). y.id.0) same in let yes : (x.ring.id.0 == r.id.0) ≡ true = grind (arith, nat_tests) in true≢false (sym yes ∙ e))
    go false e (inr h) later = later h

pub found_part : (P : RingPart → Type 0) (parts : List RingPart) (ring : RingId) (p : RingPart) → AllByRecursion P parts → part_in parts ring ≡ Some p → P p
found_part P [] ring p all e = absurd (cc)
found_part P (x ∷ parts) ring p all e = go (x.ring.id.0 == ring.0) e (λ h. found_part P parts ring p all.1 h)
  where
    go : (b : Bool) → (if b then Some x else part_in parts ring) ≡ Some p → (part_in parts ring ≡ Some p → P p) → P p
    go true h later = let same : x ≡ p = cc in subst P same all.0
    go false h later = later h

-- ---- clients

abbrev IsOfClient : Sent → Type 0
IsOfClient sent = (c : ClientId) × (sent.frame.from ≡ Client c)

module _ (config : Config) where
  abbrev OfClient : ClientEffects → Type 0
  OfClient effects = AllByRecursion IsOfClient effects.frames

  sends_of : (c : ClientView) (a : Asked) → OfClient (sends_it config c a)
  sends_of c a = to (acceptor_at a.tries (acceptors_of (table_at config.rings a.ring.0)))
    where
      to : (o : Option NodeId) → AllByRecursion IsOfClient (submit_to c a o)
      to None = tt
      to (Some n) = ((c.id, refl), tt)

  asks_of : (c : ClientView) (command : Command) → OfClient (asks config c command)
  unfolding asks
  asks_of c command = beside c.asked
    where
      by_test : (ring : RingId) (b : Bool) → OfClient (if b then sends_it config (record c { next = c.next + 1 }) (asked_first c.next command ring) else idles c)
      by_test ring false = tt
      by_test ring true = sends_of (record c { next = c.next + 1 }) (asked_first c.next command ring)

      on : (r : Result RingId NoGroup) → OfClient (asks_on config c command r)
      on (Err none) = tt
      on (Ok ring) = by_test ring (nat_lt c.next (2 ^ 63))

      beside : (o : Option Asked) → OfClient (asks_beside config c command o)
      beside (Some a) = tt
      beside None = on (route_of (concerned_of command config.partitions))

  ticks_of : (c : ClientView) → OfClient (client_ticks config c)
  unfolding client_ticks
  ticks_of c = at c.asked
    where
      at : (o : Option Asked) → OfClient (ticks_for config c o)
      at None = tt
      at (Some a) = go ((a.ticks + 1) % config.resend == 0)
        where
          go : (b : Bool) → OfClient (if b then sends_it config c (record a { ticks = a.ticks + 1; tries = a.tries + 1 }) else idles (record c { asked = Some (record a { ticks = a.ticks + 1 }) }))
          go true = sends_of c (record a { ticks = a.ticks + 1; tries = a.tries + 1 })
          go false = tt

  replied_of : (c : ClientView) (seq : ℕ) (partition : PartitionId) (reply : List ℕ) → OfClient (replied config c seq partition reply)
  unfolding replied
  replied_of c seq partition reply = at c.asked
    where
      done : (a : Asked) → OfClient (gathered config c a)
      done a = go (have_all (concerned_of a.command config.partitions) a.parts)
        where
          go : (b : Bool) → OfClient (if b then answers c a else idles (record c { asked = Some a }))
          go true = tt
          go false = tt

      with_reply : (a : Asked) (p : PartitionTable) (r : Result Reply CodecFault) → OfClient (replied_with config c a p r)
      with_reply a p (Err fault) = tt
      with_reply a p (Ok r) = go (fits p a.command r)
        where
          go : (b : Bool) → OfClient (if b then gathered config c (record a { parts = with_part p.id r a.parts }) else idles c)
          go false = tt
          go true = done (record a { parts = with_part p.id r a.parts })

      by : (a : Asked) (o : Option PartitionTable) → OfClient (replied_by config c a o reply)
      by a None = tt
      by a (Some p) = go (is_concerned a.command p && not (has_part a.parts p.id))
        where
          go : (b : Bool) → OfClient (if b then replied_with config c a p (reply_of reply) else idles c)
          go true = with_reply a p (reply_of reply)
          go false = tt

      at : (o : Option Asked) → OfClient (replied_for config c seq partition reply o)
      at None = tt
      at (Some a) = go (a.seq == seq)
        where
          go : (b : Bool) → OfClient (if b then replied_by config c a (partition_at config.partitions partition.0) reply else idles c)
          go true = by a (partition_at config.partitions partition.0)
          go false = tt

  takes_of : (c : ClientView) (b : Body) → OfClient (client_takes config c b)
  unfolding client_takes
  takes_of c (body.Reply client seq partition reply) = go (client.0 == c.id.0)
    where
      go : (b : Bool) → OfClient (if b then replied config c seq partition reply else idles c)
      go true = replied_of c seq partition reply
      go false = tt
  takes_of c other = tt

  client_fits : (fine : ℕ → Type 0) (sent : Sent) → IsOfClient sent → FromFits fine config sent
  client_fits fine sent is = subst (λ (p : Party). PartyFits fine config p sent.to sent.frame.body) (sym is.1) tt

  own_fits : (fine : ℕ → Type 0) (id : NodeId) → IsNode config id → (sent : Sent) → SentFits fine id sent → FromFits fine config sent
  own_fits fine id there sent is = subst (λ (p : Party). PartyFits fine config p sent.to sent.frame.body) (sym is.from) (there, is.fits, is.to)

-- ---- a world that a run has reached

module _ (fine : ℕ → Type 0) (config : Config) (valid : IsValid config) (before : List Happening) (ran : MayRun config nothing before) where
  abbrev b : World
  b = run config before nothing

  pub view_valid : (id : NodeId) (view : View) → b.hosts id.0 ≡ Up view → ViewValid config view
  view_valid id view here = subst (λ (h : Host). HostValid config h) here ((runs_valid config valid before ran).hosts id.0)

  view_carries : (id : NodeId) (view : View) → b.hosts id.0 ≡ Up view → ViewCarries (IsAsked config (asked_in config before)) (IsValid config) view
  view_carries id view here = subst (λ (h : Host). HostCarries (IsAsked config (asked_in config before)) (IsValid config) h) here ((all_keep config before ran).carried.hosts id.0)

  pub lines_of : WorldLines config b
  lines_of = run_lines config before (record { valid = valid; may = ran })

  pub up_lines : (id : NodeId) (view : View) → b.hosts id.0 ≡ Up view → UpLines config (past [] b.lines) id.0 view
  up_lines id view here = subst (λ (h : Host). HostLines config (past [] b.lines) id.0 h) here (lines_of.hosts id.0)

  event_said : (id : NodeId) (event : Event) → MayCome b id event → EventSaid config (past [] b.lines) id event
  event_said id Ticks may = tt
  event_said id (Leads ring) may = tt
  event_said id (Takes frame) may =
      let s : IsSaid config (past [] b.lines) may.sent = all_has (IsSaid config (past [] b.lines)) b.frames may.sent lines_of.frames may.there in
      subst (λ (f : Frame). PartySaid config (past [] b.lines) f.from (Node id) f.body) may.same
      (subst (λ (to : Party). PartySaid config (past [] b.lines) may.sent.frame.from to may.sent.frame.body) may.by s)

  -- a step keeps the rings
  rings_stay : (id : NodeId) (view : View) (event : Event) → b.hosts id.0 ≡ Up view → MayCome b id event → rings_in (step config view event).view.parts ≡ rings_in view.parts
  rings_stay id view event here may =
      let u = up_lines id view here in
      let lines : List Line = past [] b.lines in
      let seen : ViewLines config lines view = record { right = lines_of.right; known = lines_of.known; parts = u.parts; replica = subst (λ (x : NodeId). ReplicaLines config lines x view.journal.state.epoch view.checkpoints.newest view.service) (sym u.id) u.replica } in
      (step_left config (valid_fits config valid) lines view seen (subst (λ (x : NodeId). AllByRecursion (IsPlaced config x) (rings_in view.parts)) (sym u.id) u.placed) u.told u.covered event
      (subst (λ (x : NodeId). EventSaid config lines x event) (sym u.id) (event_said id event may))).rings_stay

  -- what the part of a ring has to do with the ring's machine
  pub part_stands : (table : RingTable) → Has config.rings table → (id : NodeId) (view : View) → b.hosts id.0 ≡ Up view
      → (t : Tied config table machine.empty (history config before at_first)) × ViewStands (ring_of config id table) (durables t.machine_world) (t.machine_world (seat table id)).durable view
  part_stands table has id view here =
      let t = reached config table valid has before ran in
      let at : (history config before at_first).world.hosts id.0 ≡ Up view = ap (λ (w : World). w.hosts id.0) (world_of config at_first before) ∙ here in
      (t, subst (λ (h : Host). HostStands config table t.machine_world id ((history config before at_first).stopped id.0) h) at (t.stands.hosts id))

  -- a disk of a node that is up keeps nothing of rings of which it is no acceptor
  keeps_nothing : (id : NodeId) (view : View) → b.hosts id.0 ≡ Up view → rings_in view.parts ≡ rings_of config id → ViewFits view → KeepsNothing config id view.journal.state
  keeps_nothing id view here rings fits table has member outside =
      let listed = subst (λ (rs : List Ring). Has rs (ring_of config id table)) (sym rings) (ring_listed config id config.rings table has member) in
      let there = part_there view.parts (ring_of config id table) listed in
      let p : RingPart = there.0 in
      let stands : PartStands (ring_of config id table) _ _ view there.0 = (part_stands table has id view here).1.part there.0 there.1 in
      let f : MemberFits there.0 = found_part MemberFits view.parts table.id there.0 fits.parts there.1 in
      let out = f.outside (ap is_acceptor stands.of_ring ∙ outside) in
      sym stands.kept ∙ out.kept

  event_fits : (id : NodeId) (event : Event) → WorldFits fine config b → MayCome b id event → EventFits fine event
  event_fits id Ticks w may = tt
  event_fits id (Leads ring) w may = tt
  event_fits id (Takes frame) w may =
      let s : FromFits fine config may.sent = all_has (FromFits fine config) b.frames may.sent w.frames may.there in
      subst (λ (f : Frame). FrameFits fine f.from f.body) may.same (by may.sent.frame.from s)
    where
      by : (from : Party) → PartyFits fine config from may.sent.to may.sent.frame.body → FrameFits fine from may.sent.frame.body
      by (Node x) h = h.1
      by (Client x) h = tt

  made : (id : NodeId) (view : View) (event : Event) → fine view.journal.state.epoch → WorldFits fine config b → b.hosts id.0 ≡ Up view → UpFits config id view → MayCome b id event → StepFits fine view.id (step config view event)
  made id view event low w here u may =
      step_fits config (are_numbered config valid) (tables_differ config valid) (IsAsked config (asked_in config before)) (IsValid config) valid (λ r e is. is.entry) (λ deployed r e is. entry_of_bytes config (asked_in config before) deployed r e is) fine
      view (view_valid id view here) (view_carries id view here) u.whole low event (event_valid config (are_numbered config valid) b id event may (runs_valid config valid before ran))
      (came_carries (IsAsked config (asked_in config before)) (IsValid config) b id event may (all_keep config before ran).carried) (event_fits id event w may)

  pub stepped_fits : (id : NodeId) (view : View) (event : Event) → fine view.journal.state.epoch → WorldFits fine config b → b.hosts id.0 ≡ Up view → UpFits config id view → MayCome b id event → UpFits config id (step config view event).view
  stepped_fits id view event low w here u may = record { there = u.there; rings = rings_stay id view event here may ∙ u.rings; whole = (made id view event low w here u may).view }

  sent_fit : (id : NodeId) (view : View) (frames : List Sent) → b.hosts id.0 ≡ Up view → IsNode config id → AllByRecursion (SentFits fine view.id) frames → AllByRecursion (FromFits fine config) frames
  sent_fit id view frames here there all = mapped (SentFits fine view.id) (FromFits fine config) (λ sent is. own_fits config fine id there sent (subst (λ (n : NodeId). SentFits fine n sent) (up_lines id view here).id is)) frames all

-- where the world is that a happening leaves of one host
itself : (n : ℕ) (x y : Host) → (if n == n then x else y) ≡ x
itself n x y = go (n == n) refl
  where
    go : (t : Bool) → (n == n) ≡ t → (if t then x else y) ≡ x
    go true e = refl
    go false e = absurd (let yes : (n == n) ≡ true = grind (arith, nat_tests) in true≢false (sym yes ∙ e))

-- the epoch of each node that is up is fine
abbrev pub UpsFine : (ℕ → Type 0) → World → Type 0
UpsFine fine w = (id : NodeId) (view : View) → w.hosts id.0 ≡ Up view → fine view.journal.state.epoch

pub opened_journal : (config : Config) (id : NodeId) (journal : Journal) (checkpoints : Checkpoints) → (opened config id journal checkpoints).view.journal ≡ journal
unfolding opened
opened_journal config id journal checkpoints = go (partition_of config.partitions id)
  where
    recorded_none : (j : Journal) (cs : List Change) → cs ≡ [] → recorded j cs ≡ j
    recorded_none j [] e = refl
    recorded_none j (c ∷ cs) e = absurd (cc)

    first : StepSoFar
    first = begun_with (view_of config id journal checkpoints)

    go : (o : Option PartitionTable) → recorded (begins_first config o (begun_with (view_of config id journal checkpoints))).view.journal (begins_first config o (begun_with (view_of config id journal checkpoints))).changes ≡ journal
    go None = refl
    go (Some partition) =
        let u = untouched_begins config (record { partition = partition; attempts = 0; stage = Recovering (record { number = 0; ticks = 0; answers = []; choice = None }) }) first in
        recorded_none _ _ u.changes ∙ u.journal

opened_fine : (fine : ℕ → Type 0) (config : Config) (id : NodeId) (journal : Journal) (checkpoints : Checkpoints) → fine (opened config id journal checkpoints).view.journal.state.epoch → fine journal.state.epoch
opened_fine fine config id journal checkpoints low = subst (λ (j : Journal). fine j.state.epoch) (opened_journal config id journal checkpoints) low

put_host : (config : Config) (id : NodeId) (host : Host) (w : World) → HostFits config id host → ((n : ℕ) → HostFits config (node n) (w.hosts n)) → (n : ℕ) → HostFits config (node n) (if n == id.0 then host else w.hosts n)
put_host config id host w h all n = go (n == id.0) refl
  where
    go : (t : Bool) → (n == id.0) ≡ t → HostFits config (node n) (if t then host else w.hosts n)
    go true e = subst (λ (k : ℕ). HostFits config (node k) host) (sym (same_number n id.0 e)) h
    go false e = all n

module _ (fine : ℕ → Type 0) (config : Config) (valid : IsValid config) (before : List Happening) (ran : MayRun config nothing before) (ups : UpsFine fine (run config before nothing)) (fit : WorldFits fine config (run config before nothing)) where
  abbrev now : World
  now = run config before nothing

  steps_fit : (id : NodeId) (event : Event) (host : Host) → now.hosts id.0 ≡ host → MayCome now id event → WorldFits fine config (steps_as config id event host now)
  steps_fit id event (Down durable pending) here may = fit
  steps_fit id event (Up view) here may =
      let u : UpFits config id view = subst (λ (h : Host). HostFits config id h) here (fit.hosts id.0) in
      record {
        hosts = put_host config id (Up (step config view event).view) now (stepped_fits fine config valid before ran id view event (ups id view here) fit here u may) fit.hosts;
        frames = appended (FromFits fine config) now.frames (step config view event).frames fit.frames (sent_fit fine config valid before ran id view (step config view event).frames here u.there (made fine config valid before ran id view event (ups id view here) fit here u may).frames);
      }

  falls : (id : NodeId) (cause : Cause) (durable pending : Possible) → DownFits config id durable pending → WorldFits fine config (goes_down id cause durable pending now)
  falls id cause durable pending d = record { hosts = put_host config id (Down durable pending) now d fit.hosts; frames = fit.frames }

  -- the disk of a node that is up
  stands : (id : NodeId) (view : View) → now.hosts id.0 ≡ Up view → UpFits config id view → PossibleFits config id (possible_of view)
  stands id view here u = record { newest = u.whole.newest; none = keeps_nothing fine config valid before ran id view here u.rings u.whole }

  -- and the one that a step would leave
  would_stand : (id : NodeId) (view : View) (event : Event) → now.hosts id.0 ≡ Up view → UpFits config id view → MayCome now id event → PossibleFits config id (possible_of (step config view event).view)
  would_stand id view event here u may =
      let more : List Happening = before ++ Steps id event ∷ [] in
      let went : MayRun config nothing more = may_both config nothing before (Steps id event ∷ []) ran (may, tt) in
      let next = stepped_fits fine config valid before ran id view event (ups id view here) fit here u may in
      record { newest = next.whole.newest; none = keeps_nothing fine config valid more went id (step config view event).view (at more) next.rings next.whole }
    where
      at : (more : List Happening) → (run config (before ++ Steps id event ∷ []) nothing).hosts id.0 ≡ Up (step config view event).view
      at more = ap (λ (w : World). w.hosts id.0) (run_both config nothing before (Steps id event ∷ [])) ∙ ap (λ (h : Host). (steps_as config id event h now).hosts id.0) here ∙ itself id.0 (Up (step config view event).view) (now.hosts id.0)

  breaks_fit : (id : NodeId) (event : Event) (cause : Cause) (host : Host) → now.hosts id.0 ≡ host → MayCome now id event → WorldFits fine config (breaks_as config id event cause host now)
  breaks_fit id event cause (Down durable pending) here may = fit
  breaks_fit id event cause (Up view) here may =
      let u : UpFits config id view = subst (λ (h : Host). HostFits config id h) here (fit.hosts id.0) in
      falls id cause (possible_of view) (possible_of (step config view event).view)
      (record { durable_fits = stands id view here u; pending_fits = would_stand id view event here u may; absent = λ none. absurd (none u.there) })

  crashes_fit : (id : NodeId) (cause : Cause) (host : Host) → now.hosts id.0 ≡ host → WorldFits fine config (crashes_as id cause host now)
  crashes_fit id cause (Down durable pending) here = fit
  crashes_fit id cause (Up view) here =
      let u : UpFits config id view = subst (λ (h : Host). HostFits config id h) here (fit.hosts id.0) in
      falls id cause (possible_of view) (possible_of view) (record { durable_fits = stands id view here u; pending_fits = stands id view here u; absent = λ none. absurd (none u.there) })

  -- ---- down

  picked : (id : NodeId) (after : Bool) (durable pending : Possible) → DownFits config id durable pending → PossibleFits config id (chosen after durable pending)
  picked id false durable pending d = d.durable_fits
  picked id true durable pending d = d.pending_fits

  same_kept : (id : NodeId) (s t : State) → s.rings ≡ t.rings → KeepsNothing config id t → KeepsNothing config id s
  same_kept id s t e none table has member outside = subst (λ (rs : List RingState). slice_index_or rs table.id.0 no_votes ≡ no_votes) (sym e) (none table has member outside)

  opens_fit : (id : NodeId) (after : Bool) (journal : Journal) (checkpoints : Checkpoints) (host : Host) → now.hosts id.0 ≡ host → MayOpenAt config id after journal checkpoints host → UpsFine fine (opens_as config id journal checkpoints host now)
      → WorldFits fine config (opens_as config id journal checkpoints host now)
  opens_fit id after journal checkpoints (Up view) here may next = fit
  opens_fit id after journal checkpoints (Down durable pending) here may next =
      let d : DownFits config id durable pending = subst (λ (h : Host). HostFits config id h) here (fit.hosts id.0) in
      let stood : PossibleFits config id (chosen after durable pending) = picked id after durable pending d in
      let both = subst (λ (h : Host). HostCarries (IsAsked config (asked_in config before)) (IsValid config) h) here ((all_keep config before ran).carried.hosts id.0) in
      let carries = which after durable pending both.0 both.1 in
      let effects = opened_fits config (are_numbered config valid) (IsAsked config (asked_in config before)) (λ r e is. entry_of_bytes config (asked_in config before) valid r e is) fine id (partitions_fit config valid id) journal checkpoints
      (subst (λ (rs : List RingState). (ring : ℕ) → VotesCarry (IsAsked config (asked_in config before)) ring (slice_index_or rs ring no_votes).votes) (sym may.rings) carries.state)
      (subst (λ (o : Option Checkpoint). NewestKeeps o) (sym may.newest) (carries.newest valid)) (subst (λ (o : Option Checkpoint). NewestFits o) (sym may.newest) stood.newest)
      (same_kept id journal.state (chosen after durable pending).state may.rings stood.none)
      (opened_fine fine config id journal checkpoints (next id (opened config id journal checkpoints).view (itself id.0 (Up (opened config id journal checkpoints).view) (now.hosts id.0)))) in
      record {
        hosts = put_host config id (Up (opened config id journal checkpoints).view) now (record { there = may.node; rings = opened_rings config id journal checkpoints; whole = effects.view }) fit.hosts;
        frames = appended (FromFits fine config) now.frames (opened config id journal checkpoints).frames fit.frames (mapped (SentFits fine id) (FromFits fine config) (own_fits config fine id may.node) (opened config id journal checkpoints).frames effects.frames);
      }
    where
      which : (after : Bool) (x y : Possible) → PossibleCarries (IsAsked config (asked_in config before)) (IsValid config) x → PossibleCarries (IsAsked config (asked_in config before)) (IsValid config) y
          → PossibleCarries (IsAsked config (asked_in config before)) (IsValid config) (chosen after x y)
      which false x y p q = p
      which true x y p q = q

  fails_fit : (id : NodeId) (after : Bool) (left : Possible) (cause : Cause) (host : Host) → now.hosts id.0 ≡ host → IsNode config id → MayLeaveAt after left host → WorldFits fine config (fails_as id after left cause host now)
  fails_fit id after left cause (Up view) here there may = fit
  fails_fit id after left cause (Down durable pending) here there may =
      let d : DownFits config id durable pending = subst (λ (h : Host). HostFits config id h) here (fit.hosts id.0) in
      let stood : PossibleFits config id (chosen after durable pending) = picked id after durable pending d in
      falls id cause (chosen after durable pending) left (record {
        durable_fits = stood;
        pending_fits = record { newest = subst (λ (o : Option Checkpoint). NewestFits o) (sym may.newest) stood.newest; none = same_kept id left.state (chosen after durable pending).state may.rings stood.none };
        absent = λ none. absurd (none there);
      })

  client_step_fits : (id : ClientId) (effects : ClientEffects) → AllByRecursion IsOfClient effects.frames → WorldFits fine config (client_step id effects now)
  client_step_fits id effects all = record { hosts = fit.hosts; frames = appended (FromFits fine config) now.frames effects.frames fit.frames (mapped IsOfClient (FromFits fine config) (client_fits config fine) effects.frames all) }

  happens_fit : (h : Happening) → MayHappen config now h → UpsFine fine (happens config h now) → WorldFits fine config (happens config h now)
  happens_fit (Steps id event) may next = steps_fit id event (now.hosts id.0) refl may
  happens_fit (Breaks id event cause) may next = breaks_fit id event cause (now.hosts id.0) refl may
  happens_fit (Crashes id cause) may next = crashes_fit id cause (now.hosts id.0) refl
  happens_fit (Opens id after journal checkpoints) may next = opens_fit id after journal checkpoints (now.hosts id.0) refl may next
  happens_fit (Fails id after left cause) may next = fails_fit id after left cause (now.hosts id.0) refl may.0 may.1
  happens_fit (Asks id command) may next = client_step_fits id (asks config (now.clients id.0) command) (asks_of config (now.clients id.0) command)
  happens_fit (ClientTicks id) may next = client_step_fits id (client_ticks config (now.clients id.0)) (ticks_of config (now.clients id.0))
  happens_fit (ClientTakes id b) may next = client_step_fits id (client_takes config (now.clients id.0) b) (takes_of config (now.clients id.0) b)
  happens_fit (Shows id) may next = record { hosts = fit.hosts; frames = fit.frames }
  happens_fit (Lists number shown) may next = record { hosts = fit.hosts; frames = fit.frames }

-- ---- every run

nothing_none : (id : NodeId) (n i : ℕ) → slice_index_or (replicate n no_votes) i no_votes ≡ no_votes
nothing_none id zero i = refl
nothing_none id (suc n) zero = refl
nothing_none id (suc n) (suc i) = nothing_none id n i

nothing_fits : (fine : ℕ → Type 0) (config : Config) → WorldFits fine config nothing
nothing_fits fine config = record {
  hosts = λ n. record { durable_fits = record { newest = tt; none = λ t has m o. nothing_none (node n) 16 t.id.0 }; pending_fits = record { newest = tt; none = λ t has m o. nothing_none (node n) 16 t.id.0 }; absent = λ none. (refl, refl) };
  frames = tt;
}

-- in each world on the way the epoch of each node that is up is fine
abbrev pub AllFine : (ℕ → Type 0) → Config → List Happening → World → Type 0
AllFine fine config [] w = UpsFine fine w
AllFine fine config (h ∷ hs) w = UpsFine fine w × AllFine fine config hs (happens config h w)

first_fine : (fine : ℕ → Type 0) (config : Config) (hs : List Happening) (w : World) → AllFine fine config hs w → UpsFine fine w
first_fine fine config [] w all = all
first_fine fine config (h ∷ hs) w all = all.0

goes_on : (fine : ℕ → Type 0) (config : Config) → IsValid config → (hs before : List Happening) → MayRun config nothing before → AllFine fine config hs (run config before nothing) → WorldFits fine config (run config before nothing)
    → MayRun config (run config before nothing) hs → WorldFits fine config (run config hs (run config before nothing))
goes_on fine config valid [] before ran all fit may = fit
goes_on fine config valid (h ∷ hs) before ran all fit may =
    let next = happens_fit fine config valid before ran all.0 fit h may.0 (first_fine fine config hs (happens config h (run config before nothing)) all.1) in
    let same = run_both config nothing before (h ∷ []) in
    subst (λ (w : World). WorldFits fine config (run config hs w)) same
    (goes_on fine config valid hs (before ++ h ∷ []) (may_both config nothing before (h ∷ []) ran (may.0, tt)) (subst (λ (w : World). AllFine fine config hs w) (sym same) all.1)
    (subst (λ (w : World). WorldFits fine config w) (sym same) next) (subst (λ (w : World). MayRun config w hs) (sym same) may.1))

pub runs_fine : (fine : ℕ → Type 0) (config : Config) → IsValid config → (hs : List Happening) → MayRun config nothing hs → AllFine fine config hs nothing → WorldFits fine config (run config hs nothing)
runs_fine fine config valid hs may all = goes_on fine config valid hs [] tt all (nothing_fits fine config) may

always : (config : Config) (hs : List Happening) (w : World) → AllFine (λ e. Unit {0}) config hs w
always config [] w = λ id view here. tt
always config (h ∷ hs) w = (λ id view here. tt, always config hs (happens config h w))

-- whatever epochs are
pub runs_fit : (config : Config) → IsValid config → (hs : List Happening) → MayRun config nothing hs → WorldFits (λ e. Unit {0}) config (run config hs nothing)
runs_fit config valid hs may = runs_fine (λ e. Unit {0}) config valid hs may (always config hs nothing)
