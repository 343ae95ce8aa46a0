-- How a merge passes what was learned: place after place in the one order of the places of its rings. It stops behind the first
-- batch, or at the first place that isn't learned.
use Rattle.std.specs.Prelude.{ℕ, zero, suc, ◌+◌, ◌-◌, ◌<◌, ◌^◌, ◌≡◌, ◌==◌, Bool, true, false, not, if◌then◌else◌, bytes_eq, List, ◌∷◌, Option, Some, None}
use Rattle.mrp_types.specs.declared.id.RingId.{RingId}
use Rattle.mrp_types.specs.declared.place.Place.{Place}
use Rattle.mrp_types.specs.declared.value.Value.{Value}
use Rattle.mrp_types.specs.declared.value.Value.TheVariants.{Skip, Batch}
use Rattle.mrp_types.specs.Moves.{place_of, next_place, past, past_many, rings_of}
use Rattle.range_map.specs.Entries.{value_at}
use Rattle.merge.specs.declared.passing.Next.{Next}
use Rattle.merge.specs.declared.passing.Next.TheVariants.{Deliver, Wait}

-- What a merge is: where it stands in its rings, and the sizes of the rounds by the rings' numbers.
pub record Merging : Type 0 where
  pub tuple : List (RingId × ℕ)
  pub sizes : List ℕ

-- What was learned at a place, of the map of its ring: the maps stand in the order of the rings.
abbrev pub learned_at : List RingId → List (List (ℕ × Value)) → RingId × ℕ → Option Value
learned_at (ring ∷ rings) (map ∷ maps) place = if ring.0 == place.0.0 then value_at place.1 map else learned_at rings maps place
learned_at rings maps place = None

-- From the first tuple the second is reached by passing places, one after the other, and at each of them Skip was learned.
pub record PassesSkips (m : ℕ → ℕ) (rings : List RingId) (maps : List (List (ℕ × Value))) (from to : List (RingId × ℕ)) : Type 0 where
  pub count : ℕ
  pub moved : past_many m count from ≡ to
  pub skips : (k : ℕ) → k < count → learned_at rings maps (next_place m (past_many m k from)) ≡ Some Skip

-- Behind skips the next place has a batch.
pub record FindsBatch (m : ℕ → ℕ) (maps : List (List (ℕ × Value))) (old : List (RingId × ℕ)) (place : Place) (stop : List (RingId × ℕ)) : Type 0 where
  pub passes : PassesSkips m (rings_of old) maps old stop
  pub next : place_of (next_place m stop) ≡ place
  pub batch : List ℕ
  pub holds : learned_at (rings_of old) maps (next_place m stop) ≡ Some (Batch batch)

-- The batch is delivered: the tuple comes to stand behind its place.
pub record Delivers (m : ℕ → ℕ) (maps : List (List (ℕ × Value))) (old : List (RingId × ℕ)) (place : Place) (new : List (RingId × ℕ)) : Type 0 where
  pub stop : List (RingId × ℕ)
  pub finds : FindsBatch m maps old place stop
  pub moved : past m stop ≡ new

-- Behind skips nothing was learned at the next place, which is of this ring.
pub record Waits (m : ℕ → ℕ) (maps : List (List (ℕ × Value))) (old : List (RingId × ℕ)) (ring : RingId) (new : List (RingId × ℕ)) : Type 0 where
  pub passes : PassesSkips m (rings_of old) maps old new
  pub next : (next_place m new).0 ≡ ring
  pub bare : learned_at (rings_of old) maps (next_place m new) ≡ None

abbrev pub Merges : (ℕ → ℕ) → List (List (ℕ × Value)) → List (RingId × ℕ) → Next → List (RingId × ℕ) → Type 0
Merges m maps old (Deliver place) new = Delivers m maps old place new
Merges m maps old (Wait ring) new = Waits m maps old ring new

-- where the skips end: at a batch, or at a place that isn't learned
abbrev pub Stops : (ℕ → ℕ) → List (List (ℕ × Value)) → List (RingId × ℕ) → Next → List (RingId × ℕ) → Type 0
Stops m maps old (Deliver place) stop = FindsBatch m maps old place stop
Stops m maps old (Wait ring) stop = Waits m maps old ring stop

-- where the merge stands then
abbrev pub behind : (ℕ → ℕ) → Next → List (RingId × ℕ) → List (RingId × ℕ)
behind m (Deliver place) stop = past m stop
behind m (Wait ring) stop = stop

-- a place that is delivered is below the end of all instances
abbrev pub HasRoom : (ℕ → ℕ) → Next → List (RingId × ℕ) → Type 0
HasRoom m (Deliver place) stop = (next_place m stop).1 < 2 ^ 40
HasRoom m (Wait ring) stop = Unit {0}

-- ---- learned runs whose end a merge passes

abbrev pub is_same : Value → Value → Bool
is_same Skip Skip = true
is_same (Batch a) (Batch b) = bytes_eq a b
is_same v w = false

-- whether a run of equal values ends between two neighbours
abbrev pub ends_between : Option Value → Option Value → Bool
ends_between None after = false
ends_between (Some v) None = true
ends_between (Some v) (Some w) = not (is_same v w)

-- how many runs of equal values end at one of n instances from an instance on
abbrev pub ends_from : List (ℕ × Value) → ℕ → ℕ → ℕ
ends_from map inst zero = 0
ends_from map inst (suc n) = (if ends_between (value_at inst map) (value_at (suc inst) map) then 1 else 0) + ends_from map (suc inst) n

-- how many runs of all rings end below the second tuple and not below the first one
abbrev pub runs_passed : List (List (ℕ × Value)) → List (RingId × ℕ) → List (RingId × ℕ) → ℕ
runs_passed (map ∷ maps) (x ∷ from) (y ∷ to) = ends_from map x.1 (y.1 - x.1) + runs_passed maps from to
runs_passed maps from to = 0
