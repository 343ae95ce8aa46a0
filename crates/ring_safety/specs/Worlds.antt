-- Worlds of acceptors with crashes. A node has two faces: the durable one, from which others may have heard, and the
-- pending one, which stands for a step that a device failure stopped. A disk shows one of the two at the next restart.
use Rattle.std.specs.Prelude.{◌≡◌, ◌⊎◌, ℕ, Bool, true, cond, nat_eq, List, [], ◌∷◌, ◌<◌}
use Rattle.quorums.specs.Groups.{Has, IsMajority}
use Rattle.ring_safety.specs.Faces.{Proposal, Face, blank}
use Rattle.ring_safety.specs.Deeds.{Deed, all_done, MayAll}

pub record Node (V : Type 0) : Type 0 where
  pub durable : Face V
  pub pending : Face V

-- the node at each position
abbrev pub World : Type 0 → Type 0
World V = ℕ → Node V

-- nothing has happened
abbrev pub empty : {V : Type 0} → World V
empty k = record { durable = blank; pending = blank }

abbrev pub durables : {V : Type 0} → World V → ℕ → Face V
durables w k = (w k).durable

-- the world with another node at a position
abbrev pub with_node : {V : Type 0} → World V → ℕ → Node V → World V
with_node w a node k = cond (nat_eq k a) node (w k)

pub data Event (V : Type 0) : Type 0 where
  -- a step that ends well: its deeds are done together, and then said. Each step starts from the durable face: a pending one
  -- that a stopped step left is dropped, as by a restart on the state before
  Step : (node : ℕ) → List (Deed V) → Event V
  -- a step that a device failure stops: nothing of it is said, and the disk stands for the state before it or after it
  Stopped : (node : ℕ) → List (Deed V) → Event V
  -- a restart on an image that stands for the state before
  Before : (node : ℕ) → Event V
  -- a restart on an image that stands for the state after
  After : (node : ℕ) → Event V

-- What a restart keeps is what the disk stands for. A real node then leads nothing; the laws do not need that it does.
abbrev pub happens : {V : Type 0} → Event V → World V → World V
happens (Step a deeds) w = with_node w a (record { durable = all_done deeds (w a).durable; pending = all_done deeds (w a).durable })
happens (Stopped a deeds) w = with_node w a (record { durable = (w a).durable; pending = all_done deeds (w a).durable })
happens (Before a) w = with_node w a (record { durable = (w a).durable; pending = (w a).durable })
happens (After a) w = with_node w a (record { durable = (w a).pending; pending = (w a).pending })

-- whether an event may happen in a ring of n acceptors. A node's step rests on its own face and on what durable faces say
abbrev pub CanHappen : {V : Type 0} → ℕ → World V → Event V → Type 0
CanHappen n w (Step a deeds) = MayAll n (durables w) a (w a).durable deeds
CanHappen n w (Stopped a deeds) = MayAll n (durables w) a (w a).durable deeds
CanHappen n w (Before a) = Unit {0}
CanHappen n w (After a) = Unit {0}

-- the world after a list of events
abbrev pub run : {V : Type 0} → List (Event V) → World V → World V
run [] w = w
run (e ∷ es) w = run es (happens e w)

-- each event may happen when its turn comes
abbrev pub CanRun : {V : Type 0} → ℕ → World V → List (Event V) → Type 0
CanRun n w [] = Unit {0}
CanRun n w (e ∷ es) = CanHappen n w e × CanRun n (happens e w) es

-- f is one of the two faces of node a
abbrev pub IsFaceOf : {V : Type 0} → World V → ℕ → Face V → Type 0
IsFaceOf w a f = (f ≡ (w a).durable) ⊎ (f ≡ (w a).pending)

-- the value is chosen: a majority has cast it at this instance in this ballot, durably
pub record Chosen {V : Type 0} (n : ℕ) (faces : ℕ → Face V) (p : Proposal V) : Type 0 where
  pub members : ℕ → Bool
  pub majority : IsMajority n members
  pub cast : (k : ℕ) → k < n → members k ≡ true → Has (faces k).casts p
