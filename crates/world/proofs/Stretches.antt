-- Where a node of the ring stands after lines: just past the last instance that it delivered.
use Rattle.std.proofs.Common.{◌≡◌, ℕ, ◌+◌, ◌==◌, if◌then◌else◌, List, [], ◌∷◌, ◌++◌, refl}
use Rattle.mrp_types.specs.declared.id.NodeId.{NodeId}
use Rattle.transcript.specs.declared.line.Line.{Line}
use Rattle.transcript.specs.declared.line.Line.TheVariants.{Deliver}

abbrev pub stood_after : NodeId → ℕ → Line → ℕ
stood_after node now (Deliver other ring inst) = if other.0 == node.0 then inst + 1 else now
stood_after node now other = now

abbrev pub stood_from : NodeId → ℕ → List Line → ℕ
stood_from node now [] = now
stood_from node now (line ∷ lines) = stood_from node (stood_after node now line) lines

abbrev pub stood : List Line → NodeId → ℕ
stood before node = stood_from node 0 before

pub stood_from-append : (node : NodeId) (now : ℕ) (xs ys : List Line) → stood_from node now (xs ++ ys) ≡ stood_from node (stood_from node now xs) ys
stood_from-append node now [] ys = refl
stood_from-append node now (x ∷ xs) ys = stood_from-append node (stood_after node now x) xs ys
