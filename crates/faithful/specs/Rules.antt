-- What lines say of tuples: the rules of deliveries, saves, choices, restores, trims, attempts and refusals, which stand in
-- `line_rules`. That of a saved line is said as one, of where the node stands and of what it told.
use Rattle.std.specs.Prelude.{ℕ, List, [], ◌∷◌}
use Rattle.mrp_types.specs.declared.id.NodeId.{NodeId}
use Rattle.mrp_config.specs.Config.{Config}
use Rattle.protocol.specs.Lines.{Line, Deliver, Begin, Chose, Restore, Saved, Trim, Refuse}
use Rattle.line_rules.specs.Rules.{Stands, IsSavedLater}
pub use Rattle.line_rules.specs.Rules.{HasNode, HasRing, IsKnown, AllKnown, BySkips, Fits, IsLater, Delivers, IsReached, Chooses, Restores, HaveTold, AllHaveTold, Trims, Begins, Refuses}

-- a saved line by both of its rules: its tuple is reached by skips, and it is after each tuple that the node told
pub record Saves (c : Config) (before : List Line) (node : NodeId) (printed : List ℕ) : Type 0 where
  pub stands : Stands c before node printed
  pub later : IsSavedLater before node printed

-- a line after those before it
abbrev pub IsFaithfulLine : Config → List Line → Line → Type 0
IsFaithfulLine c before (Deliver node ring inst) = Delivers c before node ring inst
IsFaithfulLine c before (Saved node tuple) = Saves c before node tuple
IsFaithfulLine c before (Chose node epoch attempt tuple from) = Chooses c before node epoch attempt tuple from
IsFaithfulLine c before (Restore node tuple) = Restores c before node tuple
IsFaithfulLine c before (Trim node ring inst) = Trims c before node ring inst
IsFaithfulLine c before (Begin node epoch attempt tuple) = Begins c before node epoch attempt tuple
IsFaithfulLine c before (Refuse node epoch attempt answered needed) = Refuses c before node epoch attempt answered needed
IsFaithfulLine c before other = Unit {0}

-- all of them
abbrev pub AreFaithful : Config → List Line → Type 0
AreFaithful c [] = Unit {0}
AreFaithful c (l ∷ before) = IsFaithfulLine c before l × AreFaithful c before
