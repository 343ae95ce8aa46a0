-- What carries entries of one property carries entries of a weaker one.
use Rattle.std.proofs.Common.{ℕ, List}
use Rattle.std.specs.Prelude.{slice_index_or}
use Rattle.std.specs.List.{AllByRecursion}
use Rattle.mrp_types.specs.declared.id.NodeId.{NodeId}
use Rattle.mrp_types.specs.declared.id.ClientId.{ClientId}
use Rattle.mrp_types.specs.declared.id.Party.{Party}
use Rattle.mrp_types.specs.declared.id.Party.TheVariants.{Node, Client}
use Rattle.mrp_types.specs.declared.value.Entry.{Entry}
use Rattle.mrp_types.specs.declared.value.Value.{Value}
use Rattle.mrp_types.specs.declared.value.Value.TheVariants.{Skip, Batch}
use Rattle.mrp_types.specs.declared.voted.Voted.{Voted}
use Rattle.mrp_types.specs.declared.voted.Decided.{Decided}
use Rattle.frames.specs.declared.body.Body.{Body}
use Rattle.frames.specs.declared.body.Body.TheVariants.{Submit, Promise, Accept, Decide, Chosen, Part}
use Rattle.frames.specs.declared.sent.Sent.{Sent}
use Rattle.vote_state.specs.declared.cast.Cast.{Cast}
use Rattle.vote_state.specs.declared.change.Change.{Change}
use Rattle.vote_state.specs.declared.change.Change.TheVariants.{Epoch, Vote}
use Rattle.vote_state.specs.State.{State, no_votes}
use Rattle.protocol.specs.Lines.{Line, Learn}
use Rattle.protocol.specs.Parts.{Pending, Role, Idle, Active}
use Rattle.protocol.specs.Node.{RingPart, Work, Records}
use Rattle.bare_world.specs.Worlds.{Host, Up, Down, World}
use Rattle.ask_laws.specs.Carried.{ValueCarries, VotesCarry, RoleCarries, RingPartCarries, StateCarries, ChangeCarries, WorkCarries, LineCarries, BodyCarries, ClientSends, PartyCarries, SentCarries, HostCarries, WorldCarries}
use Rattle.ask_laws.proofs.Lists.{mapped}

module _ (Is Js : ℕ → Entry → Type 0) (Valid : Type 0) (more : (r : ℕ) (e : Entry) → Is r e → Js r e) where
  value_more : (r : ℕ) (value : Value) → ValueCarries Is r value → ValueCarries Js r value
  value_more r Skip is = tt
  value_more r (Batch batch) is = record { entries = is.entries; spelled = is.spelled; valid = is.valid; each = mapped (Is r) (Js r) (more r) is.entries is.each }

  votes_more : (r : ℕ) (votes : List (ℕ × Cast)) → VotesCarry Is r votes → VotesCarry Js r votes
  votes_more r votes is = mapped (λ (e : ℕ × Cast). ValueCarries Is r e.1.value) (λ (e : ℕ × Cast). ValueCarries Js r e.1.value) (λ e v. value_more r e.1.value v) votes is

  ranges_more : (r : ℕ) (ranges : List Decided) → AllByRecursion (λ (d : Decided). ValueCarries Is r d.value) ranges → AllByRecursion (λ (d : Decided). ValueCarries Js r d.value) ranges
  ranges_more r ranges is = mapped (λ (d : Decided). ValueCarries Is r d.value) (λ (d : Decided). ValueCarries Js r d.value) (λ d v. value_more r d.value v) ranges is

  role_more : (r : ℕ) (role : Role) → RoleCarries Is r role → RoleCarries Js r role
  role_more r Idle is = tt
  role_more r (Active campaign) is = record {
    reports = votes_more r campaign.reports is.reports;
    outstanding = ranges_more r campaign.outstanding is.outstanding;
    pending = mapped (λ (p : Pending). Is r p.entry) (λ (p : Pending). Js r p.entry) (λ p e. more r p.entry e) campaign.pending is.pending;
  }

  part_more : (p : RingPart) → RingPartCarries Is p → RingPartCarries Js p
  part_more p is = record {
    votes = votes_more p.ring.id.0 p.part.kept.votes is.votes;
    role = role_more p.ring.id.0 p.part.coordinator.role is.role;
    held = mapped (λ (e : ℕ × Value). ValueCarries Is p.ring.id.0 e.1) (λ (e : ℕ × Value). ValueCarries Js p.ring.id.0 e.1) (λ e v. value_more p.ring.id.0 e.1 v) p.part.learner.held is.held;
  }

  state_more : (s : State) → StateCarries Is s → StateCarries Js s
  state_more s is = λ r. votes_more r (slice_index_or s.rings r no_votes).votes (is r)

  host_more : (host : Host) → HostCarries Is Valid host → HostCarries Js Valid host
  host_more (Up view) is = record { state = state_more view.journal.state is.state; parts = mapped (RingPartCarries Is) (RingPartCarries Js) part_more view.parts is.parts; replica = is.replica; newest = is.newest }
  host_more (Down durable pending) is = (record { state = state_more durable.state is.0.state; newest = is.0.newest }, record { state = state_more pending.state is.1.state; newest = is.1.newest })

  change_more : (change : Change) → ChangeCarries Is change → ChangeCarries Js change
  change_more (Epoch epoch) is = absurd is
  change_more (Vote ring v) is = value_more ring.0 v.value is
  change_more other is = tt

  work_more : (work : Work) → WorkCarries Is work → WorkCarries Js work
  work_more (Records changes) is = mapped (ChangeCarries Is) (ChangeCarries Js) change_more changes is
  work_more other is = tt

  line_more : (line : Line) → LineCarries Is line → LineCarries Js line
  line_more (Learn node ring lo hi value) is = value_more ring.0 value is
  line_more other is = tt

  body_more : (body : Body) → BodyCarries Is Valid body → BodyCarries Js Valid body
  body_more (Submit ring hops client seq command) is = more ring.0 (record { client = client; seq = seq; command = command }) is
  body_more (Promise ring ballot lo hi trim votes) is =
      mapped (λ (v : Voted). ValueCarries Is ring.0 v.value) (λ (v : Voted). ValueCarries Js ring.0 v.value) (λ v x. value_more ring.0 v.value x) votes is
  body_more (Accept ring ballot lo hi mask value) is = value_more ring.0 value is
  body_more (Decide ring lo hi left value) is = value_more ring.0 value is
  body_more (Chosen ring ranges) is = ranges_more ring.0 ranges is
  body_more (Part epoch attempt tuple offset total bytes) is = is
  body_more other is = tt

  client_more : (id : ClientId) (body : Body) → ClientSends Is id body → ClientSends Js id body
  client_more id (Submit ring hops client seq command) is = (is.0, is.1, more ring.0 (record { client = client; seq = seq; command = command }) is.2)
  client_more id other is = absurd is

  sent_more : (sent : Sent) → SentCarries Is Valid sent → SentCarries Js Valid sent
  sent_more sent is = by sent.frame.from is
    where
      by : (from : Party) → PartyCarries Is Valid from sent.frame.body → PartyCarries Js Valid from sent.frame.body
      by (Node id) c = body_more sent.frame.body c
      by (Client id) c = client_more id sent.frame.body c

  pub world_more : (w : World) → WorldCarries Is Valid w → WorldCarries Js Valid w
  world_more w is = record {
    hosts = λ k. host_more (w.hosts k) (is.hosts k);
    frames = mapped (SentCarries Is Valid) (SentCarries Js Valid) sent_more w.frames is.frames;
    lines = mapped (LineCarries Is) (LineCarries Js) line_more w.lines is.lines;
    works = mapped (λ (x : NodeId × Work). WorkCarries Is x.1) (λ (x : NodeId × Work). WorkCarries Js x.1) (λ x c. work_more x.1 c) w.works is.works;
    read = mapped (λ (x : NodeId × State). StateCarries Is x.1) (λ (x : NodeId × State). StateCarries Js x.1) (λ x c. state_more x.1 c) w.read is.read;
  }
