-- What is read of the lines of one ring: what a node delivered.
use Rattle.std.specs.Prelude.{ℕ, zero, suc, ◌+◌, ◌==◌, if◌then◌else◌, List, [], ◌∷◌}
use Rattle.mrp_types.specs.declared.id.NodeId.{NodeId}
use Rattle.transcript.specs.declared.line.Line.{Line}
use Rattle.transcript.specs.declared.line.Line.TheVariants.{Deliver}

-- the instances that a node delivered, in order
abbrev pub deliveries : NodeId → List Line → List ℕ
deliveries node [] = []
deliveries node (Deliver other ring inst ∷ lines) = if other.0 == node.0 then inst ∷ deliveries node lines else deliveries node lines
deliveries node (other ∷ lines) = deliveries node lines

-- so many numbers, one after another from the first on
abbrev pub counted : ℕ → ℕ → List ℕ
counted first zero = []
counted first (suc n) = first ∷ counted (first + 1) n
