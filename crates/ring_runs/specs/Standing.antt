-- How a world without bytes, with its history, stands for a world of the machine of one ring.
use Rattle.std.specs.Prelude.{◌≡◌, ◌⊎◌, ℕ, ◌<◌, ◌≤◌, List, length, Some}
use Rattle.std.specs.List.{AllByRecursion}
use Rattle.mrp_types.specs.declared.id.NodeId.{NodeId}
use Rattle.mrp_types.specs.declared.value.Value.{Value}
use Rattle.mrp_config.specs.Config.{Config}
use Rattle.mrp_config.specs.declared.tables.RingTable.{RingTable}
use Rattle.quorums.specs.Groups.{Has}
use Rattle.range_map.specs.Entries.{value_at}
use Rattle.vote_state.specs.declared.cast.Cast.{Cast}
use Rattle.vote_state.specs.declared.ring.RingState.{RingState}
use Rattle.vote_state.specs.State.{State, ring_at}
use Rattle.ring_safety.specs.Faces.{Promise, Proposal, Face, owner}
use Rattle.ring_safety.specs.Worlds.{CanRun, durables}
use Rattle.ring_safety.specs.Worlds as machine
use Rattle.ring_safety.specs.Invariant.{Sound}
use Rattle.ring_reach.specs.Reach.{proposal}
use Rattle.ring_kept.specs.Kept.{KeptTies}
use Rattle.protocol.specs.Rings.{ring_of}
use Rattle.protocol.specs.Node.{Work}
use Rattle.ring_tables.specs.Ties.{IsSaid, IsTold, IsRecorded, IsVotedIn, IsToldIn, AreRecorded}
use Rattle.beside_rings.specs.Beside.{changes_in}
use Rattle.ring_steps.specs.Stands.{ViewStands}
use Rattle.bare_world.specs.Worlds.{Host, Up, Down}
use Rattle.ring_runs.specs.Histories.{History}
use Rattle.ring_runs.specs.Seats.{acceptors, nobody, seat}

-- ---- nodes

-- a node that is down: its two states stand for its two faces, and what the later one has cast beyond the earlier one is what the
-- stopped step would have recorded
pub record DownStands (table : RingTable) (a : ℕ) (node : machine.Node Value) (stopped : Work) (durable pending : State) : Type 0 where
  pub durable_rings : table.id.0 < length durable.rings
  pub pending_rings : table.id.0 < length pending.rings
  pub durable_ties : KeptTies node.durable (ring_at durable table.id)
  pub pending_ties : KeptTies node.pending (ring_at pending table.id)
  pub made : AreRecorded table.id node.durable node.pending (changes_in stopped)
  -- it has told nobody of a promise with a page, but for starts of its own
  pub silent : (p : Promise Value) → Has node.pending.promises p → p.low < p.high → Has node.durable.promises p ⊎ (owner (acceptors table) p.ballot ≡ a)

-- a node that is up: its view stands for its durable face, by what the durable faces of all say
abbrev pub HostStands : Config → RingTable → machine.World Value → NodeId → Work → Host → Type 0
HostStands config table w id stopped (Up view) = ViewStands (ring_of config id table) (durables w) (w (seat table id)).durable view
HostStands config table w id stopped (Down durable pending) = DownStands table (seat table id) (w (seat table id)) stopped durable.state pending.state

-- ---- what was done

-- what was recorded stands in its node's durable face
abbrev pub WorkStands : RingTable → machine.World Value → NodeId × Work → Type 0
WorkStands table w done = AllByRecursion (IsRecorded table.id (w (seat table done.0)).durable) (changes_in done.1)

-- what an opening has read: its promise and its trim are kept, and its votes were cast
pub record IsReadIn (f : Face Value) (kept : RingState) : Type 0 where
  pub promise : kept.promise ≤ f.promise
  pub trim : kept.trim ≤ f.trim
  pub cast : (i : ℕ) (cast : Cast) → value_at i kept.votes ≡ Some cast → Has f.casts (proposal cast.ballot i cast.value)

abbrev pub ReadStands : RingTable → machine.World Value → NodeId × State → Type 0
ReadStands table w read = IsReadIn (w (seat table read.0)).durable (ring_at read.1 table.id)

-- a work of the node that is done has recorded the vote
pub record IsDoneBy (table : RingTable) (done : List (NodeId × Work)) (id : NodeId) (c : Proposal Value) : Type 0 where
  pub work : Work
  pub there : Has done (id, work)
  pub voted : IsVotedIn table.id (changes_in work) c

-- ---- the world

pub record WorldStands (config : Config) (table : RingTable) (w : machine.World Value) (h : History) : Type 0 where
  pub hosts : (id : NodeId) → HostStands config table w id (h.stopped id.0) (h.world.hosts id.0)
  pub frames : AllByRecursion (IsSaid (ring_of config nobody table) (durables w)) h.world.frames
  pub lines : AllByRecursion (IsTold (ring_of config nobody table) (durables w)) h.world.lines
  -- what is done stands in durable faces, and each vote of a durable face is done
  pub done : AllByRecursion (WorkStands table w) h.done
  pub cast : (id : NodeId) (c : Proposal Value) → Has (durables w (seat table id)).casts c → IsDoneBy table h.done id c
  -- what a pending face has cast beyond the durable one, its node's stopped step has recorded
  pub beyond : (id : NodeId) (c : Proposal Value) → Has (w (seat table id)).pending.casts c
      → Has (durables w (seat table id)).casts c ⊎ IsVotedIn table.id (changes_in (h.stopped id.0)) c
  -- each promise of a durable face with a page was sent, or is a start of its node's own
  pub told : (id : NodeId) (p : Promise Value) → Has (durables w (seat table id)).promises p → p.low < p.high
      → (owner (acceptors table) p.ballot ≡ seat table id) ⊎ IsToldIn (ring_of config id table) h.world.frames p
  -- the world's own histories: what steps recorded that ended well, and what openings have read
  pub works : AllByRecursion (λ (e : NodeId × Work). Has h.done e) h.world.works
  pub read : AllByRecursion (ReadStands table w) h.world.read

-- a world of the machine that a run of it reaches from an earlier one
pub record Later (n : ℕ) (early late : machine.World Value) : Type 0 where
  pub events : List (machine.Event Value)
  pub can : CanRun n early events
  pub is : machine.run events early ≡ late

-- The world stands for a sound one of the machine, which is later than `from`.
pub record Tied (config : Config) (table : RingTable) (from : machine.World Value) (h : History) : Type 0 where
  pub machine_world : machine.World Value
  pub later : Later (acceptors table) from machine_world
  pub sound : Sound (acceptors table) machine_world
  pub stands : WorldStands config table machine_world h
