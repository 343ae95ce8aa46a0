-- Lines that say of no node that it went down.
use Rattle.std.proofs.Common.{List, [], ◌∷◌}
use Rattle.std.specs.List.{AllByRecursion}
use Rattle.protocol.specs.Lines.{Line, Down}
use Rattle.node_lines.specs.Printed.{IsNodeLine}

abbrev pub IsNoDown : Line → Type 0
IsNoDown (Down node cause) = ⊥
IsNoDown other = Unit {0}

abbrev pub Quiet : List Line → Type 0
Quiet lines = AllByRecursion IsNoDown lines

-- no line of a node is one of them
own_line : (l : Line) → IsNodeLine l → IsNoDown l
own_line (Down node cause) is = is
own_line other is = tt

pub own_lines : (lines : List Line) → AllByRecursion IsNodeLine lines → Quiet lines
own_lines [] all = tt
own_lines (l ∷ lines) all = (own_line l all.0, own_lines lines all.1)
