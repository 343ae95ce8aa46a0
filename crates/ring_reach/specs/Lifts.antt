-- What a world is once a node of it has made a step, or was stopped in one.
use Rattle.std.specs.Prelude.{◌≡◌, ℕ}
use Rattle.ring_safety.specs.Faces.{Face}
use Rattle.ring_safety.specs.Worlds.{World, Event, CanHappen, durables, happens}
use Rattle.ring_safety.specs.Rules.{Grows}
use Rattle.ring_reach.specs.Reach.{seen}

-- a step of node a to the face g that ended well
pub record HasStepped {V : Type 0} (n : ℕ) (w : World V) (a : ℕ) (g : Face V) : Type 0 where
  pub event : Event V
  pub can : CanHappen n w event
  pub durable : (happens event w a).durable ≡ g
  pub pending : (happens event w a).pending ≡ g
  pub others : (k : ℕ) → (k ≡ a → ⊥) → happens event w k ≡ w k
  -- what the node saw stands in the world
  pub seen_there : (k : ℕ) → Grows (seen (durables w) a g k) (durables (happens event w) k)
  pub more : (k : ℕ) → Grows (durables w k) (durables (happens event w) k)

-- a step of node a to the face g that was stopped: nobody can tell
pub record WasStopped {V : Type 0} (n : ℕ) (w : World V) (a : ℕ) (g : Face V) : Type 0 where
  pub event : Event V
  pub can : CanHappen n w event
  pub pending : (happens event w a).pending ≡ g
  pub others : (k : ℕ) → (k ≡ a → ⊥) → happens event w k ≡ w k
  pub durable : (k : ℕ) → durables (happens event w) k ≡ durables w k
