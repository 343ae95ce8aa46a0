-- What the rules of the world are about: every run, with any images that a crash may leave.
use Rattle.std.specs.Prelude.{List, [], ◌∷◌, Option, None, Some}
use Rattle.mrp_types.specs.declared.id.NodeId.{NodeId}
use Rattle.mrp_config.specs.Config.{Config}
use Rattle.disk_model.specs.declared.areas.Areas.{Areas}
use Rattle.disk_model.specs.Calls.{IsImage}
use Rattle.protocol.specs.Client.{MayBeAsked}
use Rattle.world_model.specs.Events.{ScheduleEvent}
use Rattle.world_model.specs.Events as event
use Rattle.world_model.specs.Worlds.{Host, Up, Down, World, Outcome, quiet, and_then, node_at, happens, comes_back, started}

pub data Happening : Type 0 where
  -- an event of a schedule, of whose restarts each has one of three images
  Scheduled : ScheduleEvent → Happening
  -- a node that is down opens on these areas
  Returns : NodeId → (image : Areas) → Happening

-- what comes of it
abbrev pub outcome_of : Config → Happening → World → Outcome
outcome_of config (Scheduled event) w = happens config event w
outcome_of config (Returns id image) w = comes_back config id (λ told. image) (node_at w id) w

-- the areas are an image of a disk that is down; what a node that is up does not do needs none
abbrev pub MayReturn : Areas → Option Host → Type 0
MayReturn image None = Unit {0}
MayReturn image (Some (Up view disk)) = Unit {0}
MayReturn image (Some (Down told plan)) = IsImage told image

-- a command that is asked may be; any other event may stand in a schedule
abbrev pub MayBeScheduled : ScheduleEvent → Type 0
MayBeScheduled (event.Ask client command) = MayBeAsked command
MayBeScheduled other = Unit {0}

abbrev pub MayHappen : World → Happening → Type 0
MayHappen w (Scheduled event) = MayBeScheduled event
MayHappen w (Returns id image) = MayReturn image (node_at w id)

-- the world after all of them, and their lines
abbrev pub ran_from : Config → List Happening → World → Outcome
ran_from config [] w = quiet w
ran_from config (x ∷ xs) w = and_then (outcome_of config x w) (λ next. ran_from config xs next)

-- each may happen when its turn comes
abbrev pub MayRun : Config → List Happening → World → Type 0
MayRun config [] w = Unit {0}
MayRun config (x ∷ xs) w = MayHappen w x × MayRun config xs (outcome_of config x w).world

-- the start, and what comes of all of them
abbrev pub run_of : Config → List Happening → Outcome
run_of config xs = and_then (started config) (λ w. ran_from config xs w)

-- From the start on each of them happens when it may.
abbrev pub IsRun : Config → List Happening → Type 0
IsRun config xs = MayRun config xs (started config).world
