-- Lines that are right meet their rules.
use Rattle.std.proofs.Common.{List, [], ◌∷◌}
use Rattle.mrp_config.specs.Config.{Config}
use Rattle.protocol.specs.Lines.{Line, Chose}
use Rattle.faithful.specs.Rules.{IsFaithfulLine, AreFaithful}
use Rattle.recovery_lines.specs.Ties.{IsRightLine, AreRight}

pub right_line : (c : Config) (before : List Line) (l : Line) → IsRightLine c before l → IsFaithfulLine c before l
right_line c before (Chose node epoch attempt tuple from) right = right.0
right_line c before other right = right

pub right_lines : (c : Config) (lines : List Line) → AreRight c lines → AreFaithful c lines
right_lines c [] right = tt
right_lines c (l ∷ lines) right = (right_line c lines l right.0, right_lines c lines right.1)
