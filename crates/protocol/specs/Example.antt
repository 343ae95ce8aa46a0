-- A ring made by hand, and what its nodes do in a few turns.
use Rattle.std.specs.Prelude.{ℕ, ◌^◌, List, [], ◌∷◌, replicate, Some}
use Rattle.mrp_types.specs.declared.id.NodeId.{NodeId}
use Rattle.mrp_types.specs.declared.id.RingId.{RingId}
use Rattle.mrp_types.specs.declared.id.ClientId.{ClientId}
use Rattle.mrp_types.specs.declared.value.Value.{Value}
use Rattle.mrp_types.specs.declared.value.Value.TheVariants.{Batch}
use Rattle.command_codec.specs.Spelling.{batch_bytes}
use Rattle.mrp_config.specs.declared.tables.PartitionTable.{PartitionTable}
use Rattle.ring_link.specs.Silence.{Link}
use Rattle.vote_state.specs.State.{no_votes}
use Rattle.protocol.specs.Parts.{Ring, Part, Effects}
use Rattle.protocol.specs.Effects.{with_rounds}
use Rattle.protocol.specs.Learner.{new_part}
use Rattle.protocol.specs.Acceptor.{prepares, accepts}
use Rattle.protocol.specs.Coordinator.{leads, promised, submits}
use Rattle.protocol.specs.Leading.{levels}

abbrev pub node : ℕ → NodeId
node n = record { 0 = n }

abbrev pub ring_id : RingId
ring_id = record { 0 = 0 }

-- a partition whose replicas are these nodes
abbrev pub partition : List NodeId → ℕ → PartitionTable
partition replicas quorum = record {
  id = record { 0 = 0 };
  replicas = replicas;
  rings = ring_id ∷ [];
  home = ring_id;
  from = [];
  to = [];
  logs = [];
  trim_quorum = quorum;
  recovery_quorum = quorum;
}

-- a ring of these acceptors, all of them replicas, as one of them sees it
abbrev pub example : List NodeId → ℕ → ℕ → Ring
example acceptors quorum own = record {
  id = ring_id;
  own = node own;
  acceptors = acceptors;
  members = acceptors;
  subscribers = partition acceptors quorum ∷ [];
  window = 16;
  lambda = 4;
  delta = 1;
}

abbrev pub three : ℕ → Ring
three own = example (node 0 ∷ node 1 ∷ node 2 ∷ []) 2 own

abbrev pub alone : Ring
alone = example (node 0 ∷ []) 1 0

-- nobody was silent yet
abbrev pub fresh_link : Link
fresh_link = record { suspect = 16; quiet = replicate 256 0 }

abbrev pub opened : Ring → Part
opened ring = new_part ring no_votes

-- the node 0 once it started a ballot and the node 1 promised it
abbrev pub led : Part
led = (promised (three 0) fresh_link (leads (three 0) fresh_link (opened (three 0))).part (node 1) 3 0 (2 ^ 40) 0 []).part

-- the command of two bytes that a client's number stands for
abbrev pub told : ℕ → List ℕ
told seq = seq ∷ seq ∷ []

abbrev pub client : ClientId
client = record { 0 = 9 }

-- a batch of one such command
abbrev pub batch_with : ℕ → Value
batch_with seq = Batch (batch_bytes ((record { client = client; seq = seq; command = told seq }) ∷ []))

-- what the node 0 does with a command, and then with another one
abbrev pub first_submit : Effects
first_submit = submits (three 0) fresh_link led 0 client 1 (told 1)

abbrev pub second_submit : Effects
second_submit = submits (three 0) fresh_link first_submit.part 0 client 2 (told 2)

-- the node 1 voted for the second of the two alone, and then starts a ballot, which the node 2 promises
abbrev pub voted_second : Part
voted_second = (accepts (three 1) fresh_link (prepares (three 1) (opened (three 1)) (node 0) 3 0).part 3 1 2 1 (batch_with 2)).part

abbrev pub taken_over : Effects
taken_over = promised (three 1) fresh_link (leads (three 1) fresh_link voted_second).part (node 2) 4 0 (2 ^ 40) 0 []

-- a ring of one acceptor: the leveller's tick at the start of a ballot
abbrev pub alone_levels : Effects
alone_levels = levels alone fresh_link (leads alone fresh_link (opened alone)).part

-- a round of the node 0 in which it gave its own answer
abbrev pub asked : Part
asked = with_rounds (record { asked = 1; current = Some (record { number = 1; last = 0; answers = (node 0, 5) ∷ [] }) }) led
