-- What a node does with a frame and with an order to lead, and a step as a whole.
use Rattle.std.specs.Prelude.{ℕ, ◌==◌, nat_lt, List, Option, Some, None, Result, Ok, Err, Bool, false, if◌then◌else◌, ◌&&◌}
use Rattle.mrp_types.specs.declared.id.NodeId.{NodeId}
use Rattle.mrp_types.specs.declared.id.RingId.{RingId}
use Rattle.mrp_types.specs.declared.id.ClientId.{ClientId}
use Rattle.mrp_types.specs.declared.id.Party.{Party}
use Rattle.mrp_types.specs.declared.id.Party.TheVariants.{Node, Client}
use Rattle.mrp_config.specs.Config.{Config}
use Rattle.mrp_config.specs.declared.routing.NoGroup.{NoGroup}
use Rattle.mrp_config.specs.Routing.{concerned_of, route_of}
use Rattle.command_codec.specs.declared.command.Command.{Command}
use Rattle.command_codec.specs.declared.fault.CodecFault.{CodecFault}
use Rattle.command_codec.specs.Grammar.{command_of}
use Rattle.frames.specs.declared.body.Body.{Body}
use Rattle.frames.specs.declared.body.Body.TheVariants.{Submit, Prepare, Promise, Refuse, Accept, Decide, Fetch, Chosen, Trimmed, AskSafe, Safe, TrimTo, AskCheckpoint, HaveCheckpoint, AskPart, Part as PartFrame, Gone, Reply, Hello}
use Rattle.ring_link.specs.Silence.{with_heard}
use Rattle.protocol.specs.Parts.{Ring, Part}
use Rattle.protocol.specs.Rings.{is_acceptor, sends_to}
use Rattle.protocol.specs.Acceptor.{prepares, accepts, fetches}
use Rattle.protocol.specs.Coordinator.{leads, promised, refused, submits}
use Rattle.protocol.specs.Learner.{decided, chosen}
use Rattle.protocol.specs.Trimming.{trimmed, answers}
use Rattle.protocol.specs.Node.{StepSoFar, View, RingPart, Service, Stage, Recovering, Ready, Attempt, Event, Ticks, Takes, Leads, Stepped, begun_with, finished, part_at, sends_all}
use Rattle.protocol.specs.Merging.{place_of}
use Rattle.protocol.specs.Recovery.{begins, answered_by, takes_part, takes_gone, tells_checkpoint, tells_part, safe_of}
use Rattle.protocol.specs.Bases.{rebases}
use Rattle.protocol.specs.Learning.{applies_effects}
use Rattle.protocol.specs.Tick.{ticks}

-- ---- trims that a replica can't keep up with

-- whether the merge waits on the ring at an instance below the trim
abbrev pub waits_below : RingId → ℕ → RingId × ℕ → Bool
waits_below ring trim place = (place.0.0 == ring.0) && nat_lt place.1 trim

abbrev pub begins_if_waits_below : Config → RingId → ℕ → Service → Stage → StepSoFar → StepSoFar
begins_if_waits_below config ring trim service (Recovering attempt) a = a
begins_if_waits_below config ring trim service (Ready standing) a = if waits_below ring trim (place_of config standing) then begins config service a else a

-- A frame told a trim: where a ready replica waits below it, a new attempt begins, since what it waits for is gone.
abbrev pub after_trim : Config → RingId → ℕ → Option Service → StepSoFar → StepSoFar
after_trim config ring trim None a = a
after_trim config ring trim (Some service) a = begins_if_waits_below config ring trim service service.stage a

abbrev pub recovers_if_trimmed : Config → RingId → ℕ → StepSoFar → StepSoFar
recovers_if_trimmed config ring trim a = after_trim config ring trim a.view.service a

-- ---- the frames of a ring

-- a rule of the ring at any member
abbrev pub at_member : (Ring → Part → StepSoFar → StepSoFar) → Option RingPart → StepSoFar → StepSoFar
at_member rule None a = a
at_member rule (Some p) a = rule p.ring p.part a

-- a rule of the ring at its acceptors alone; other members drop the frame
abbrev pub at_acceptor : (Ring → Part → StepSoFar → StepSoFar) → Option RingPart → StepSoFar → StepSoFar
at_acceptor rule None a = a
at_acceptor rule (Some p) a = if is_acceptor p.ring then rule p.ring p.part a else a

-- whether the command is ordered by the ring
abbrev pub is_routed : RingId → Result RingId NoGroup → Bool
is_routed ring (Ok route) = route.0 == ring.0
is_routed ring (Err none) = false

abbrev pub is_for : Config → RingId → Result Command CodecFault → Bool
is_for config ring (Ok command) = is_routed ring (route_of (concerned_of command config.partitions))
is_for config ring (Err fault) = false

-- A trim is told: an acceptor takes it and goes on proposing, another member doesn't keep it. For a replica that waits below
-- it counts in both cases.
abbrev pub handles_trim_at : Config → RingId → ℕ → Option RingPart → StepSoFar → StepSoFar
handles_trim_at config ring trim None a = a
handles_trim_at config ring trim (Some p) a =
    recovers_if_trimmed config ring trim (if is_acceptor p.ring then applies_effects config p.ring (trimmed p.ring a.view.link p.part trim) a else a)

abbrev pub handles_trim : Config → RingId → ℕ → StepSoFar → StepSoFar
handles_trim config ring trim a = handles_trim_at config ring trim (part_at a.view ring) a

-- A command is for the ring that orders it alone.
abbrev pub handles_submit : Config → RingId → ℕ → ClientId → ℕ → List ℕ → StepSoFar → StepSoFar
handles_submit config ring hops client seq command a =
    if is_for config ring (command_of command)
    then at_acceptor (λ r part b. applies_effects config r (submits r b.view.link part hops client seq command) b) (part_at a.view ring) a else a

-- ---- the frames of trimming that ask a replica

abbrev pub tells_safe : NodeId → RingId → ℕ → Option ℕ → StepSoFar → StepSoFar
tells_safe from ring round None a = a
tells_safe from ring round (Some inst) a = sends_all (sends_to a.view.id from (Safe ring round inst)) a

-- ---- the frames of recovery

abbrev pub at_service : (Service → StepSoFar → StepSoFar) → Option Service → StepSoFar → StepSoFar
at_service rule None a = a
at_service rule (Some service) a = rule service a

abbrev pub at_attempt : (Attempt → StepSoFar → StepSoFar) → Stage → StepSoFar → StepSoFar
at_attempt rule (Ready standing) a = a
at_attempt rule (Recovering attempt) a = rule attempt a

-- a rule of an attempt that isn't restored
abbrev pub recovering : (Service → Attempt → StepSoFar → StepSoFar) → Option Service → StepSoFar → StepSoFar
recovering rule service a = at_service (λ s. at_attempt (rule s) s.stage) service a

-- ---- a frame

-- Each word is the rule of one kind of frame.
abbrev pub handles_body : Config → NodeId → Body → StepSoFar → StepSoFar
handles_body config from (Submit ring hops client seq command) a = handles_submit config ring hops client seq command a
handles_body config from (Prepare ring ballot lo) a = at_acceptor (λ r part b. applies_effects config r (prepares r part from ballot lo) b) (part_at a.view ring) a
handles_body config from (Promise ring ballot lo hi trim votes) a =
    at_acceptor (λ r part b. recovers_if_trimmed config ring trim (applies_effects config r (promised r b.view.link part from ballot lo hi trim votes) b)) (part_at a.view ring) a
handles_body config from (Refuse ring ballot promise) a = at_acceptor (λ r part b. applies_effects config r (refused r part ballot promise) b) (part_at a.view ring) a
handles_body config from (Accept ring ballot lo hi mask value) a =
    at_acceptor (λ r part b. applies_effects config r (accepts r b.view.link part ballot lo hi mask value) b) (part_at a.view ring) a
handles_body config from (Decide ring lo hi left value) a = at_member (λ r part b. applies_effects config r (decided r b.view.link part lo hi left value) b) (part_at a.view ring) a
handles_body config from (Fetch ring lo) a = at_acceptor (λ r part b. applies_effects config r (fetches r part from lo) b) (part_at a.view ring) a
handles_body config from (Chosen ring ranges) a = at_member (λ r part b. applies_effects config r (chosen r part ranges) b) (part_at a.view ring) a
handles_body config from (Trimmed ring trim) a = handles_trim config ring trim a
handles_body config from (TrimTo ring trim) a = handles_trim config ring trim a
handles_body config from (AskSafe ring round) a = tells_safe from ring round (safe_of a.view ring a.view.service) a
handles_body config from (Safe ring round inst) a = at_acceptor (λ r part b. applies_effects config r (answers r b.view.link part from round inst) b) (part_at a.view ring) a
handles_body config from (AskCheckpoint epoch attempt) a = at_service (λ s. tells_checkpoint s from epoch attempt) a.view.service a
handles_body config from (HaveCheckpoint epoch attempt tuple) a = recovering (λ s now. answered_by config s now from epoch attempt tuple) a.view.service a
handles_body config from (AskPart epoch attempt tuple offset) a = at_service (λ s. tells_part config s from epoch attempt tuple offset) a.view.service a
handles_body config from (PartFrame epoch attempt tuple offset total bytes) a = recovering (λ s now. takes_part config s now from epoch attempt tuple offset total bytes) a.view.service a
handles_body config from (Gone epoch attempt asked newer) a = recovering (λ s now. takes_gone config s now from epoch attempt asked newer) a.view.service a
handles_body config from (Reply client seq partition reply) a = a
handles_body config from Hello a = a

-- a frame of a node is heard before it is looked at, also one that is dropped; a client sends commands alone
abbrev pub handles_from : Config → Party → Body → StepSoFar → StepSoFar
handles_from config (Node from) body a = handles_body config from body (record a { view = record a.view { link = with_heard from.0 a.view.link } })
handles_from config (Client from) (Submit ring hops client seq command) a = handles_submit config ring hops client seq command a
handles_from config (Client from) other a = a

-- ---- a step

-- One event at one node. A tick saves, or compacts, or goes on to the ticks of recovery and of the rings.
unfoldable pub step : Config → View → Event → Stepped
step config view Ticks = ticks config view
step config view (Takes frame) = finished (rebases (handles_from config frame.from frame.body (begun_with view)))
step config view (Leads ring) =
    finished (rebases (at_acceptor (λ r part a. applies_effects config r (leads r a.view.link part) a) (part_at view ring) (begun_with view)))
