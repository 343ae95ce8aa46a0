-- The rules by their printed names.
use Rattle.std.specs.Prelude.{List, [], ◌∷◌}

pub data Rule : Type 0 where
  F1 : Rule
  F2 : Rule
  F3 : Rule
  F4 : Rule
  F5 : Rule
  F6 : Rule
  F7 : Rule
  F8 : Rule
  F9 : Rule

-- all of them, in order
abbrev pub rules : List Rule
rules = F1 ∷ F2 ∷ F3 ∷ F4 ∷ F5 ∷ F6 ∷ F7 ∷ F8 ∷ F9 ∷ []
