-- What a node reaches by deeds of which it tells nothing: the same face, but for promises.
use Rattle.std.specs.Prelude.{◌≡◌, ◌⊎◌, ℕ, ◌<◌, List}
use Rattle.quorums.specs.Groups.{Has}
use Rattle.ring_safety.specs.Faces.{Promise, Face, owner}
use Rattle.ring_reach.specs.Reach.{Reaches}

abbrev pub with_promises : {V : Type 0} → List (Promise V) → Face V → Face V
with_promises promises f = record f { promises = promises }

-- Node a reaches g but for promises: each new one is of a ballot that it owns, or its page is empty.
pub record Silently {V : Type 0} (n : ℕ) (faces : ℕ → Face V) (a : ℕ) (f g : Face V) : Type 0 where
  pub promises : List (Promise V)
  pub reached : Reaches n faces a f (with_promises promises g)
  pub new : (p : Promise V) → Has promises p → p.low < p.high → Has f.promises p ⊎ (owner n p.ballot ≡ a)
