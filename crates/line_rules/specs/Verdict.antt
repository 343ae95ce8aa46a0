-- The verdict on lines: faithful, or the first line at fault with the least rule that it breaks.
use Rattle.std.specs.Prelude.{◌≡◌, ℕ, suc, Bool, if◌then◌else◌, List, [], ◌∷◌, ◌++◌, length, Option, Some, None}
use Rattle.mrp_config.specs.Config.{Config}
use Rattle.transcript.specs.declared.line.Line.{Line}
use Rattle.line_rules.specs.Names.{Rule, rules}
use Rattle.line_rules.specs.Names as rule
use Rattle.line_rules.specs.Rules.{Keeps, IsFaithful}
use Rattle.line_rules.specs.Scanners.{past}
use Rattle.line_rules.specs.Tests.{keeps_f1, keeps_f2, keeps_f3, keeps_f4, keeps_f5, keeps_f6, keeps_f7, keeps_f8, keeps_f9}

-- whether a line keeps a rule
abbrev pub keeps : Rule → Config → List Line → Line → Bool
keeps rule.F1 c before line = keeps_f1 c before line
keeps rule.F2 c before line = keeps_f2 c before line
keeps rule.F3 c before line = keeps_f3 c before line
keeps rule.F4 c before line = keeps_f4 c before line
keeps rule.F5 c before line = keeps_f5 c before line
keeps rule.F6 c before line = keeps_f6 c before line
keeps rule.F7 c before line = keeps_f7 c before line
keeps rule.F8 c before line = keeps_f8 c before line
keeps rule.F9 c before line = keeps_f9 c before line

-- the first of some rules that a line breaks
abbrev pub first_broken : Config → List Line → Line → List Rule → Option Rule
first_broken c before line [] = None
first_broken c before line (r ∷ rs) = if keeps r c before line then first_broken c before line rs else Some r

-- the least rule that a line breaks
abbrev pub broken_by : Config → List Line → Line → Option Rule
broken_by c before line = first_broken c before line rules

-- All lines are faithful, so many of them; or the first at fault, counted from 1, and the rule.
pub data Verdict : Type 0 where
  Faithful : (lines : ℕ) → Verdict
  Broken : (line : ℕ) (rule : Rule) → Verdict

abbrev pub or_broken : ℕ → Option Rule → Verdict → Verdict
or_broken number None later = later
or_broken number (Some r) later = Broken number r

-- of lines after others, of which there are so many
abbrev pub verdict_after : Config → List Line → ℕ → List Line → Verdict
verdict_after c before number [] = Faithful number
verdict_after c before number (line ∷ lines) = or_broken (suc number) (broken_by c before line) (verdict_after c (line ∷ before) (suc number) lines)

abbrev pub verdict : Config → List Line → Verdict
verdict c lines = verdict_after c [] 0 lines

-- What a line at fault means: the lines before it are faithful, and it breaks the rule.
pub record FirstFault (c : Config) (lines : List Line) (number : ℕ) (broken : Rule) : Type 0 where
  pub front : List Line
  pub line : Line
  pub rest : List Line
  pub whole : lines ≡ front ++ line ∷ rest
  pub counted : number ≡ suc (length front)
  pub faithful : IsFaithful c front
  pub least : broken_by c (past [] front) line ≡ Some broken
  pub breaks : Keeps broken c (past [] front) line → ⊥
