-- What ties a world on disks to a world without bytes, and that what happens to the one is a run of the other.
use Rattle.std.specs.Prelude.{◌≡◌, List, [], ◌∷◌, ◌++◌, slice_get, option_map, Option, None, Some}
use Rattle.mrp_types.specs.declared.id.NodeId.{NodeId}
use Rattle.mrp_types.specs.declared.id.ClientId.{ClientId}
use Rattle.mrp_config.specs.Config.{Config}
use Rattle.vote_state.specs.State.{nothing_kept}
use Rattle.disk_model.specs.declared.areas.Areas.{Areas}
use Rattle.protocol.specs.Client.{ClientView}
use Rattle.protocol.specs.Lines.{Cause}
use Rattle.bare_world.specs.Worlds as bare
use Rattle.bare_world.specs.Runs.{IsNode, IsClient, run, MayRun}
use Rattle.world_model.specs.Events.{ScheduleEvent}
use Rattle.world_model.specs.Events as event
use Rattle.world_model.specs.Worlds.{Host, World, Outcome, node_at, client_at, shown_of}
use Rattle.world_model.specs.Runs.{Happening, Scheduled, Returns}
use Rattle.disk_states.specs.States.{StandsFor}
use Rattle.disk_states.specs.Openings.{IsFull}
use Rattle.bare_ties.specs.Ties.{HostTies}

-- ---- worlds

-- what a disk stands for on which nothing was ever written
abbrev pub never : bare.Possible
never = record { state = nothing_kept; newest = None }

-- a node that was opened is one of the deployment; one that wasn't has an empty disk
abbrev pub NodeTies : Config → NodeId → Option Host → bare.Host → Type 0
NodeTies config id None other = other ≡ bare.Down never never
NodeTies config id (Some host) other = IsNode config id × HostTies config id host other

abbrev pub ClientTies : Config → ClientId → Option ClientView → ClientView → Type 0
ClientTies config id None other = Unit {0}
ClientTies config id (Some view) other = IsClient config id × (other ≡ view)

-- node by node and client by client, and with the same frames
pub record WorldTies (config : Config) (w : World) (b : bare.World) : Type 0 where
  pub nodes : (id : NodeId) → NodeTies config id (node_at w id) (b.hosts id.0)
  pub clients : (id : ClientId) → ClientTies config id (client_at w id) (b.clients id.0)
  pub frames : b.frames ≡ w.frames

-- ---- runs

-- the world without bytes after these happenings
abbrev pub world_after : Config → List bare.Happening → bare.World
world_after config past = run config past bare.nothing

-- a line lists the frame of its number, where one was sent by then
abbrev pub IsListed : bare.World → bare.Happening → Type 0
IsListed w (bare.Lists number shown) = shown ≡ option_map shown_of (slice_get w.frames number)
IsListed w other = Unit {0}

-- each does that is listed by these happenings, from this world on
abbrev pub AreListed : Config → List bare.Happening → bare.World → Type 0
AreListed config [] w = Unit {0}
AreListed config (h ∷ hs) w = IsListed w h × AreListed config hs (bare.happens config h w)

-- A run without bytes goes on, by some happenings or by none, to a world tied to that of an outcome, and prints its lines; it lists
-- frames as they were sent.
pub record GoesOn (config : Config) (past : List bare.Happening) (o : Outcome) : Type 0 where
  pub more : List bare.Happening
  pub may : MayRun config bare.nothing (past ++ more)
  pub ties : WorldTies config o.world (world_after config (past ++ more))
  pub lines : (world_after config (past ++ more)).lines ≡ (world_after config past).lines ++ o.lines
  pub listed : AreListed config more (world_after config past)

-- an order to show a node names one of the deployment
abbrev pub IsShown : Config → ScheduleEvent → Type 0
IsShown config (event.Show node) = IsNode config node
IsShown config other = Unit {0}

abbrev pub Fits : Config → Happening → Type 0
Fits config (Scheduled event) = IsShown config event
Fits config (Returns id image) = Unit {0}

-- ---- openings

-- An opening that fails by itself finds a state of the node in its last epoch, or without room for the record of the next one.
pub record FailsFull (config : Config) (id : NodeId) (image : Areas) (cause : Cause) : Type 0 where
  pub stood : bare.Possible
  pub stands : StandsFor id stood image
  pub full : IsFull config id image stood cause
