-- Short words for the worked schedules.
use Rattle.std.specs.Prelude.{ℕ, ◌-◌, List, [], ◌∷◌, length, drop}
use Rattle.mrp_types.specs.declared.id.NodeId.{NodeId}
use Rattle.mrp_types.specs.declared.id.RingId.{RingId}
use Rattle.mrp_types.specs.declared.id.ClientId.{ClientId}
use Rattle.mrp_types.specs.declared.id.PartitionId.{PartitionId}
use Rattle.mrp_types.specs.declared.id.LogId.{LogId}
use Rattle.protocol.specs.Lines.{Line, Answer, Busy}

abbrev pub node : ℕ → NodeId
node n = record { 0 = n }

abbrev pub ring : ℕ → RingId
ring n = record { 0 = n }

abbrev pub client : ℕ → ClientId
client n = record { 0 = n }

abbrev pub partition : ℕ → PartitionId
partition n = record { 0 = n }

abbrev pub log : ℕ → LogId
log n = record { 0 = n }

-- the last of some, as many as there are in another list: for a law of the last lines alone, as the script `row` writes it
abbrev pub last_of : {A : Type 0} → List A → List A → List A
last_of xs ys = drop (length ys - length xs) ys

-- what clients are told of their commands: the answers, and that a command isn't asked since the client is busy
abbrev pub told_to_clients : List Line → List Line
told_to_clients [] = []
told_to_clients (Answer client seq reply ∷ lines) = Answer client seq reply ∷ told_to_clients lines
told_to_clients (Busy client seq ∷ lines) = Busy client seq ∷ told_to_clients lines
told_to_clients (other ∷ lines) = told_to_clients lines
