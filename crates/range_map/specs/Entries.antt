-- A finite map from instances to values, as the list of its entries in increasing order of instance.
use Rattle.std.specs.Prelude.{◌≡◌, ◌≢◌, ℕ, zero, suc, ◌-◌, ◌<◌, ◌≤◌, nat_eq, nat_le, nat_lt, List, [], ◌∷◌, ◌++◌, Option, Some, None, IsSome, filter}
use Rattle.std.specs.Map.{lookup}

module _ {T : Type 0} where
  -- the value at an instance, where it is held
  abbrev pub value_at : ℕ → List (ℕ × T) → Option T
  value_at i es = lookup (nat_eq i) es

  -- the entries are in increasing order, from k on
  abbrev pub IsIncreasingFrom : ℕ → List (ℕ × T) → Type 0
  IsIncreasingFrom k [] = Unit {0}
  IsIncreasingFrom k (e ∷ es) = (k ≤ e.0) × IsIncreasingFrom (suc e.0) es

  -- the entries below an instance
  abbrev pub entries_before : ℕ → List (ℕ × T) → List (ℕ × T)
  entries_before i es = filter (λ e. nat_lt e.0 i) es

  -- the entries from an instance on
  abbrev pub entries_from : ℕ → List (ℕ × T) → List (ℕ × T)
  entries_from i es = filter (λ e. nat_le i e.0) es

  -- one value at each of n instances from lo on
  unfoldable pub spread_over : ℕ → ℕ → T → List (ℕ × T)
  spread_over lo zero v = []
  spread_over lo (suc n) v = (lo, v) ∷ spread_over (suc lo) n v

  -- one value at each instance from lo on and below hi
  abbrev pub spread : ℕ → ℕ → T → List (ℕ × T)
  spread lo hi v = spread_over lo (hi - lo) v

  -- the map once a range holds one value
  abbrev pub with_range : ℕ → ℕ → T → List (ℕ × T) → List (ℕ × T)
  with_range lo hi v es = entries_before lo es ++ spread lo hi v ++ entries_from hi es

  -- the least instance that isn't held, from `from` on
  pub record IsNextGap (es : List (ℕ × T)) (from gap : ℕ) : Type 0 where
    pub from_there : from ≤ gap
    pub not_held : value_at gap es ≡ None
    pub held_before : (i : ℕ) → from ≤ i → i < gap → IsSome (value_at i es)

  -- the least instance that is held, from `from` on
  pub record IsNextHeld (es : List (ℕ × T)) (from next : ℕ) : Type 0 where
    pub from_there : from ≤ next
    pub held : IsSome (value_at next es)
    pub none_before : (i : ℕ) → from ≤ i → i < next → value_at i es ≡ None

  -- the range of one value that begins at the least held instance from `from` on and can't be longer
  pub record IsNextRun (es : List (ℕ × T)) (from lo hi : ℕ) (value : T) : Type 0 where
    pub begins : IsNextHeld es from lo
    pub some : lo < hi
    pub equal : (j : ℕ) → lo ≤ j → j < hi → value_at j es ≡ Some value
    pub longest : value_at hi es ≢ Some value

  -- the longest range round an instance that holds what the instance holds
  pub record IsRunRound (es : List (ℕ × T)) (i lo hi : ℕ) : Type 0 where
    pub begins : lo ≤ i
    pub ends : i < hi
    pub equal : (j : ℕ) → lo ≤ j → j < hi → value_at j es ≡ value_at i es
    pub longest_below : (j : ℕ) → suc j ≡ lo → value_at j es ≢ value_at i es
    pub longest_above : value_at hi es ≢ value_at i es
