-- Learn lines by the rule that is printed as F1, with respect to the lines before.
use Rattle.std.specs.Prelude.{◌≡◌, ℕ, ◌<◌, ◌≤◌, List, ◌∷◌, ◌++◌}
use Rattle.mrp_types.specs.declared.id.NodeId.{NodeId}
use Rattle.mrp_types.specs.declared.id.RingId.{RingId}
use Rattle.mrp_types.specs.declared.value.Value.{Value}
use Rattle.mrp_config.specs.Config.{Config}
use Rattle.quorums.specs.Groups.{Has}
use Rattle.protocol.specs.Lines.{Line, Learn}
use Rattle.step_valid.specs.Valid.{LearnValid}

-- The line names a node and a ring of which that is a member; its range isn't empty, ends at the end of all instances at most, and
-- has a batch only alone; and each earlier learn line of the ring that covers an instance of it has this value there.
pub record KeepsF1 (config : Config) (before : List Line) (node : NodeId) (ring : RingId) (lo hi : ℕ) (value : Value) : Type 0 where
  pub shape : LearnValid config node ring (record { lo = lo; hi = hi; value = value })
  pub agrees : (other : NodeId) (low high : ℕ) (earlier : Value) → Has before (Learn other ring low high earlier) → (i : ℕ) → lo ≤ i → i < hi → low ≤ i → i < high
      → earlier ≡ value

-- each learn line keeps the rule, with respect to the lines before it
abbrev pub LearnLinesKeepF1 : Config → List Line → Type 0
LearnLinesKeepF1 config lines = (before after : List Line) (node : NodeId) (ring : RingId) (lo hi : ℕ) (value : Value) → lines ≡ before ++ Learn node ring lo hi value ∷ after
    → KeepsF1 config before node ring lo hi value
