-- What the lines of the program keep, after the lines with which a system begins whose nodes are ready at once.
use Rattle.std.specs.Prelude.{◌≡◌, ℕ, List, [], ◌∷◌, ◌++◌, length}
use Rattle.std.specs.List.{flat_map}
use Rattle.mrp_types.specs.declared.id.NodeId.{NodeId}
use Rattle.mrp_config.specs.Config.{Config}
use Rattle.mrp_config.specs.declared.tables.PartitionTable.{PartitionTable}
use Rattle.plain_model.specs.Tuples.{first_tuple, instances}
use Rattle.transcript.specs.declared.line.Line.{Line}
use Rattle.transcript.specs.declared.line.Line.TheVariants.{Up, Begin, Chose, Restore}
use Rattle.line_rules.specs.Names.{Rule}
use Rattle.line_rules.specs.Names as rule
use Rattle.line_rules.specs.Rules.{Keeps}
use Rattle.line_rules.specs.Scanners.{past}
use Rattle.world.specs.Lines.{deliveries, counted}

-- A node is up for the first time, begins its first attempt at a tuple, chooses what it told itself, and is ready there.
abbrev pub ready_node : List ℕ → NodeId → List Line
ready_node printed node = Up node 1 ∷ Begin node 1 1 printed ∷ Chose node 1 1 printed node ∷ Restore node printed ∷ []

-- each replica of a partition, at the first tuple of its rings
abbrev pub ready_replicas : PartitionTable → List Line
ready_replicas p = flat_map (ready_node (instances (first_tuple p.rings))) p.replicas

-- The lines with which a whole system begins whose nodes are ready: each replica of each partition in order. Where the step is
-- built, these are the acceptors of the one ring.
abbrev pub ready_lines : Config → List Line
ready_lines c = flat_map ready_replicas c.partitions

-- each line keeps the rule after those and the lines before it
abbrev pub EachKeeps : Rule → Config → List Line → Type 0
EachKeeps name c lines = (front : List Line) (line : Line) (rest : List Line) → lines ≡ front ++ line ∷ rest → Keeps name c (past (past [] (ready_lines c)) front) line

-- Lines that keep the rules of learn and of deliver lines, and in which each node delivers the instances 0, 1, 2 and so on without a
-- gap or a repeat.
pub record KeepsRules (c : Config) (lines : List Line) : Type 0 where
  pub one_value : EachKeeps rule.F1 c lines
  pub one_order : EachKeeps rule.F2 c lines
  pub in_turn : (node : NodeId) → deliveries node lines ≡ counted 0 (length (deliveries node lines))
