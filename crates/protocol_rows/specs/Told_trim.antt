-- A frame that tells a trim above the place for which a ready replica waits: the step of that node alone.
use Rattle.std.specs.Prelude.{List, [], ◌∷◌, map, Option, Some, None}
use Rattle.mrp_types.specs.declared.id.NodeId.{NodeId}
use Rattle.mrp_types.specs.declared.id.Party.TheVariants.{Node}
use Rattle.vote_state.specs.declared.change.Change.TheVariants as change
use Rattle.frames.specs.declared.frame.Frame.{Frame}
use Rattle.frames.specs.declared.sent.Sent.{Sent}
use Rattle.frames.specs.declared.body.Body.TheVariants.{Trimmed, AskCheckpoint}
use Rattle.protocol.specs.Lines.{Line}
use Rattle.protocol.specs.Lines as line
use Rattle.protocol.specs.Node.{Work, Records, Takes, Stepped}
use Rattle.protocol.specs.Step.{step}
use Rattle.world_model.specs.Worlds.{Host, Up, Down, node_at}
use Rattle.world_model.specs.Runs.{Scheduled, run_of}
use Rattle.protocol_rows.specs.Words.{node, ring}
use Rattle.protocol_rows.specs.Three_nodes.{config}
use Rattle.protocol_rows.specs.Late_answers.{schedule}

-- what a step does, sends and prints
pub record Shown : Type 0 where
  pub work : Work
  pub frames : List Sent
  pub lines : List Line

abbrev pub shown_of : Stepped → Shown
shown_of effects = record { work = effects.work; frames = effects.frames; lines = effects.lines }

abbrev pub told : Frame
told = record { from = Node (node 0); body = Trimmed (ring 0) 4 }

-- the step of a node that is up on that frame
abbrev pub step_of : Option Host → Option Shown
step_of None = None
step_of (Some (Down disk plan)) = None
step_of (Some (Up view disk)) = Some (shown_of (step config view (Takes told)))

-- Node 1 has come back, in its second epoch, and is ready at the tuple 0.
abbrev pub shown : Option Shown
shown = step_of (node_at (run_of config (map Scheduled schedule)).world (node 1))

abbrev pub asks : NodeId → Sent
asks to = record { to = Node to; frame = record { from = Node (node 1); body = AskCheckpoint 2 2 } }

-- The trim is recorded, and the second attempt begins.
abbrev pub wanted : Shown
wanted = record {
  work = Records (change.Trim (ring 0) 4 ∷ []);
  frames = asks (node 0) ∷ asks (node 2) ∷ [];
  lines = line.Begin (node 1) 2 2 (0 ∷ []) ∷ [];
}
