-- A world without bytes, and what counts as done in the run that led to it.
use Rattle.std.specs.Prelude.{ℕ, ◌==◌, Bool, true, false, List, [], ◌∷◌, ◌++◌, if◌then◌else◌}
use Rattle.mrp_types.specs.declared.id.NodeId.{NodeId}
use Rattle.mrp_config.specs.Config.{Config}
use Rattle.protocol.specs.Node.{Event, Work, Nothing}
use Rattle.vote_journal.specs.Journal.{Journal}
use Rattle.checkpoint.specs.Checkpoints.{Checkpoints}
use Rattle.protocol.specs.Opening.{opened}
use Rattle.protocol.specs.Step.{step}
use Rattle.bare_world.specs.Worlds.{Host, Up, Down, World, Happening, Steps, Breaks, Crashes, Opens, Fails, happens, nothing}

-- The world; of each node that is down the work of its step that was stopped; and the work that is done: of each step and opening
-- that ended well, and of each step that was stopped and that a restart found on the disk, also where its opening then failed.
pub record History : Type 0 where
  pub world : World
  pub stopped : ℕ → Work
  pub done : List (NodeId × Work)

abbrev pub at_first : History
at_first = record { world = nothing; stopped = λ k. Nothing; done = [] }

abbrev pub is_done : NodeId → Work → History → History
is_done id work h = record h { done = h.done ++ (id, work) ∷ [] }

abbrev pub is_stopped : NodeId → Work → History → History
is_stopped id work h = record h { stopped = λ k. if k == id.0 then work else h.stopped k }

-- ---- what a happening adds

abbrev pub by_step : Config → NodeId → Event → Host → History → History
by_step config id event (Down durable pending) h = h
by_step config id event (Up view) h = is_done id (step config view event).work h

abbrev pub by_break : Config → NodeId → Event → Host → History → History
by_break config id event (Down durable pending) h = h
by_break config id event (Up view) h = is_stopped id (step config view event).work h

abbrev pub by_crash : NodeId → Host → History → History
by_crash id (Down durable pending) h = h
by_crash id (Up view) h = is_stopped id Nothing h

-- a restart on the state before, or on the one after
abbrev pub found : NodeId → Bool → History → History
found id false h = is_stopped id Nothing h
found id true h = is_stopped id Nothing (is_done id (h.stopped id.0) h)

abbrev pub by_restart : NodeId → Bool → Host → History → History
by_restart id after (Up view) h = h
by_restart id after (Down durable pending) h = found id after h

abbrev pub by_opening : Config → NodeId → Bool → Journal → Checkpoints → Host → History → History
by_opening config id after journal checkpoints (Up view) h = h
by_opening config id after journal checkpoints (Down durable pending) h = is_done id (opened config id journal checkpoints).work (found id after h)

abbrev pub noted : Config → Happening → History → History
noted config (Steps id event) h = by_step config id event (h.world.hosts id.0) h
noted config (Breaks id event cause) h = by_break config id event (h.world.hosts id.0) h
noted config (Crashes id cause) h = by_crash id (h.world.hosts id.0) h
noted config (Opens id after journal checkpoints) h = by_opening config id after journal checkpoints (h.world.hosts id.0) h
noted config (Fails id after left cause) h = by_restart id after (h.world.hosts id.0) h
noted config other h = h

abbrev pub goes : Config → Happening → History → History
goes config x h = record (noted config x h) { world = happens config x h.world }

-- ---- runs

abbrev pub history : Config → List Happening → History → History
history config [] h = h
history config (x ∷ xs) h = history config xs (goes config x h)
