-- What the areas of a node's disk stand for: the state of its journal, and its newest checkpoint; and what calls make of it.
use Rattle.std.specs.Prelude.{◌≡◌, ◌⊎◌, ℕ, List, take, Some, Ok}
use Rattle.mrp_types.specs.declared.id.NodeId.{NodeId}
use Rattle.disk_model.specs.declared.area.Area.{Area}
use Rattle.disk_model.specs.declared.areas.Areas.{Areas}
use Rattle.disk_model.specs.declared.call.Call.{Call}
use Rattle.disk_model.specs.Areas.{bytes_of}
use Rattle.disk_model.specs.Calls.{Told, and_then, reads, IsImage, IsSettled}
use Rattle.gate_area.specs.declared.pair.Pair.TheVariants.{Journal as JournalPair}
use Rattle.gate_area.specs.Standing.{stands}
use Rattle.gate_log.specs.Records.{StandsFor as Spells}
use Rattle.gate_log.specs.Journal.{records_in}
use Rattle.vote_journal.specs.Journal.{Journal, Stands, state_of}
use Rattle.checkpoint.specs.Checkpoints.{Checkpoints, checkpoints_in}
use Rattle.bare_world.specs.Worlds.{Possible}

-- ---- what areas stand for

-- The areas of the journal hold these records: a walk finds them, and the area that stands, where one does, spells them.
pub record HaveRecords (records : List (List ℕ)) (areas : Areas) : Type 0 where
  pub found : records_in areas ≡ Ok records
  pub spelled : (area : Area) (generation : ℕ) → stands JournalPair areas ≡ Ok (Some (area, generation)) → Spells records (bytes_of area areas)

-- The areas stand for a possible state of a node: its records make that state, and its newest checkpoint is that one.
pub record StandsFor (id : NodeId) (p : Possible) (areas : Areas) : Type 0 where
  pub records : List (List ℕ)
  pub journal : HaveRecords records areas
  pub state : state_of id records ≡ Ok p.state
  pub checkpoints : Checkpoints
  pub checks : checkpoints_in areas ≡ Ok checkpoints
  pub newest : checkpoints.newest ≡ p.newest

-- the state of a journal, with the newest of these checkpoints
abbrev pub possible_at : Journal → Checkpoints → Possible
possible_at j c = record { state = j.state; newest = c.newest }

-- ---- disks

-- each image of a disk stands for one of two states: what stood before the work that was stopped, or what that work would have
-- left; they are the same where no work was stopped
abbrev pub AllStandFor : NodeId → Told → Possible → Possible → Type 0
AllStandFor id t durable pending = (image : Areas) → IsImage t image → StandsFor id durable image ⊎ StandsFor id pending image

-- the disk of a node that is up: nothing is pending on it, and its areas hold this journal and these checkpoints
pub record IsHeld (j : Journal) (c : Checkpoints) (t : Told) : Type 0 where
  pub settled : IsSettled t
  pub journal : Stands j (reads t)
  pub checks : checkpoints_in (reads t) ≡ Ok c

-- These calls take a disk from one state to the state of a journal and checkpoints: wherever they are stopped each image stands
-- for one of the two, and once all are made the disk holds that journal and those checkpoints.
pub record BringsAbout (t : Told) (calls : List Call) (before : Possible) (j : Journal) (c : Checkpoints) : Type 0 where
  pub stopped : (i : ℕ) → AllStandFor j.id (and_then t (take i calls)) before (possible_at j c)
  pub done : IsHeld j c (and_then t calls)
