-- Lines of a node alone.
use Rattle.std.proofs.Common.{List, Bool, true, false}
use Rattle.std.specs.Prelude.{if◌then◌else◌}
use Rattle.std.specs.List.{AllByRecursion}
use Rattle.protocol.specs.Lines.{Line}
use Rattle.protocol.specs.Node.{StepSoFar}
use Rattle.protocol.specs.Parts.{Effects}
use Rattle.node_lines.specs.Printed.{IsNodeLine}

abbrev pub Quiet : List Line → Type 0
Quiet lines = AllByRecursion IsNodeLine lines

-- a choice between two
pub either : (b : Bool) (x y : Effects) → Quiet x.lines → Quiet y.lines → Quiet (if b then x else y).lines
either true x y p q = p
either false x y p q = q

pub either_so : (b : Bool) (x y : StepSoFar) → Quiet x.lines → Quiet y.lines → Quiet (if b then x else y).lines
either_so true x y p q = p
either_so false x y p q = q
