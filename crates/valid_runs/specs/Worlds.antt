-- A world without bytes in which every record may stand in a journal, and every learn line has its shape.
use Rattle.std.specs.Prelude.{ℕ, ◌≤◌, Option, Some, None}
use Rattle.std.specs.List.{AllByRecursion}
use Rattle.mrp_types.specs.declared.id.ClientId.{ClientId}
use Rattle.mrp_types.specs.declared.id.NodeId.{NodeId}
use Rattle.mrp_types.specs.Entries.{IsEntry}
use Rattle.mrp_config.specs.Config.{Config}
use Rattle.command_codec.specs.Spelling.{command_bytes}
use Rattle.vote_state.specs.State.{State, IsState}
use Rattle.vote_state.specs.Valid.{IsChange}
use Rattle.protocol.specs.Client.{Asked, ClientView}
use Rattle.protocol.specs.Lines.{Line, Learn}
use Rattle.protocol.specs.Node.{Work}
use Rattle.bare_world.specs.Worlds.{Host, Up, Down, World}
use Rattle.step_valid.specs.Valid.{SentValid, ViewValid, LearnValid}
use Rattle.beside_rings.specs.Beside.{changes_in}

-- a node that is up has a valid view; of one that is down both states may stand in records
abbrev pub HostValid : Config → Host → Type 0
HostValid config (Up view) = ViewValid config view
HostValid config (Down durable pending) = IsState durable.state × IsState pending.state

-- what a client waits for may stand in a batch
abbrev pub AskedValid : ClientId → Option Asked → Type 0
AskedValid id None = Unit {0}
AskedValid id (Some a) = IsEntry (record { client = id; seq = a.seq; command = command_bytes a.command })

pub record ClientValid (c : ClientView) : Type 0 where
  pub numbered : 1 ≤ c.next
  pub asked : AskedValid c.id c.asked

-- A learn line names a node and a ring of which that is a member; its range isn't empty, ends at the end of all instances at
-- most, and has a value with a spelling, a batch alone.
abbrev pub LineFits : Config → Line → Type 0
LineFits config (Learn node r lo hi value) = LearnValid config node r (record { lo = lo; hi = hi; value = value })
LineFits config other = Unit {0}

-- what a step recorded that ended well may stand in a record
abbrev pub WorkValid : NodeId × Work → Type 0
WorkValid done = AllByRecursion IsChange (changes_in done.1)

abbrev pub ReadValid : NodeId × State → Type 0
ReadValid read = IsState read.1

pub record WorldValid (config : Config) (w : World) : Type 0 where
  pub hosts : (k : ℕ) → HostValid config (w.hosts k)
  pub clients : (k : ℕ) → ClientValid (w.clients k)
  pub frames : AllByRecursion SentValid w.frames
  pub lines : AllByRecursion (LineFits config) w.lines
  pub works : AllByRecursion WorkValid w.works
  pub read : AllByRecursion ReadValid w.read
