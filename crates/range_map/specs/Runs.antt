-- The runs that a map keeps, each by the instance where it begins.
use Rattle.std.specs.Prelude.{◌≡◌, ◌≢◌, ℕ, ◌<◌, ◌≤◌, ◌^◌, nat_le, nat_lt, ◌&&◌, List, [], ◌∷◌, ◌++◌, Option, Some, None, if◌then◌else◌}
use Rattle.std.specs.Map.{lookup}
use Rattle.std.specs.BTreeMap.{is_at}
use Rattle.std.specs.Ordering.{nat_cmp}
use Rattle.range_map.specs.declared.run.Run.{Run}
use Rattle.range_map.specs.Entries.{spread}

module _ {T : Type 0} where
  -- the entries that the runs stand for
  abbrev pub entries_of : List (ℕ × Run T) → List (ℕ × T)
  entries_of [] = []
  entries_of (e ∷ es) = spread e.0 e.1.end e.1.value ++ entries_of es

  -- the value that the runs hold at an instance
  abbrev pub held : ℕ → List (ℕ × Run T) → Option T
  held i [] = None
  held i (e ∷ es) = if nat_le e.0 i && nat_lt i e.1.end then Some e.1.value else held i es

  -- the run that begins at an instance
  abbrev pub run_from : List (ℕ × Run T) → ℕ → Option (Run T)
  run_from es a = lookup (is_at (nat_cmp a)) es

  -- the runs are in order from k on, none is empty, none reaches into the next, and none passes the end of all ranges
  abbrev pub IsPlacedFrom : ℕ → List (ℕ × Run T) → Type 0
  IsPlacedFrom k [] = Unit {0}
  IsPlacedFrom k (e ∷ es) = (k ≤ e.0) × (e.0 < e.1.end) × (e.1.end ≤ 2 ^ 40) × IsPlacedFrom e.1.end es

  -- no two runs that touch hold one value, but where they touch at x or y
  abbrev pub IsJoinedBut : ℕ → ℕ → (ℕ → Option (Run T)) → Type 0
  IsJoinedBut x y g = (a : ℕ) (r s : Run T) → g a ≡ Some r → g r.end ≡ Some s → r.end ≢ x → r.end ≢ y → r.value ≢ s.value

  -- no run is empty, none passes the end of all ranges, and none reaches into another
  pub record IsApart (g : ℕ → Option (Run T)) : Type 0 where
    pub filled : (a : ℕ) (r : Run T) → g a ≡ Some r → a < r.end
    pub ended : (a : ℕ) (r : Run T) → g a ≡ Some r → r.end ≤ 2 ^ 40
    pub apart : (a b : ℕ) (r s : Run T) → g a ≡ Some r → g b ≡ Some s → a < b → r.end ≤ b

  -- no run crosses x
  abbrev pub IsCutAt : ℕ → (ℕ → Option (Run T)) → Type 0
  IsCutAt x g = (a : ℕ) (r : Run T) → g a ≡ Some r → a < x → r.end ≤ x

  -- the runs are apart, and none could be longer
  pub record IsMaximal (es : List (ℕ × Run T)) : Type 0 where
    pub placed : IsPlacedFrom 0 es
    pub joined : IsJoinedBut 0 0 (run_from es)

  -- the last run that begins at i or before
  pub record IsLastUpTo (g : ℕ → Option (Run T)) (i lo : ℕ) (run : Run T) : Type 0 where
    pub found : g lo ≡ Some run
    pub up_to : lo ≤ i
    pub last : (a : ℕ) (r : Run T) → g a ≡ Some r → a ≤ i → a ≤ lo

  -- the run that holds i
  pub record IsCover (g : ℕ → Option (Run T)) (i lo : ℕ) (run : Run T) : Type 0 where
    pub found : g lo ≡ Some run
    pub begins : lo ≤ i
    pub ends : i < run.end

  -- the first run that begins from lo on, where it begins below hi
  pub record IsFirstWithin (g : ℕ → Option (Run T)) (lo hi first : ℕ) (run : Run T) : Type 0 where
    pub found : g first ≡ Some run
    pub from_there : lo ≤ first
    pub below : first < hi
    pub none_before : (a : ℕ) → lo ≤ a → a < first → g a ≡ None

  -- no run holds i
  abbrev pub IsBare : (ℕ → Option (Run T)) → ℕ → Type 0
  IsBare g i = (a : ℕ) (r : Run T) → g a ≡ Some r → a ≤ i → r.end ≤ i

  -- what is seen of the runs from a floor on
  abbrev pub seen_at : ℕ → ℕ → List (ℕ × Run T) → Option T
  seen_at floor i es = if nat_le floor i then held i es else None

  -- the runs hold what they held, and none crosses `at`
  pub record Cuts (at : ℕ) (old new : List (ℕ × Run T)) : Type 0 where
    pub placed : IsPlacedFrom 0 new
    pub same : (i : ℕ) → held i new ≡ held i old
    pub cut : IsCutAt at (run_from new)
    pub kept : (x : ℕ) → IsCutAt x (run_from old) → IsCutAt x (run_from new)
    pub joined : (y : ℕ) → IsJoinedBut 0 y (run_from old) → IsJoinedBut at y (run_from new)

  -- the runs hold what they held, and those that touch at `at` differ
  pub record Joins (at : ℕ) (old new : List (ℕ × Run T)) : Type 0 where
    pub placed : IsPlacedFrom 0 new
    pub same : (i : ℕ) → held i new ≡ held i old
    pub joined : (y : ℕ) → IsJoinedBut at y (run_from old) → IsJoinedBut 0 y (run_from new)

  -- no run begins in the range any more, and the others stay
  pub record Clears (lo hi : ℕ) (old new : List (ℕ × Run T)) : Type 0 where
    pub placed : IsPlacedFrom 0 old → IsPlacedFrom 0 new
    pub none_within : (a : ℕ) → lo ≤ a → a < hi → run_from new a ≡ None
    pub before : (a : ℕ) → a < lo → run_from new a ≡ run_from old a
    pub after : (a : ℕ) → hi ≤ a → run_from new a ≡ run_from old a

  -- the range holds v, and all else what it held
  pub record Sets (lo hi : ℕ) (v : T) (old new : List (ℕ × Run T)) : Type 0 where
    pub maximal : IsMaximal new
    pub set : (i : ℕ) → held i new ≡ (if nat_le lo i && nat_lt i hi then Some v else held i old)

  -- from a floor on the runs hold what they held, and below it they hold nothing
  pub record Settles (floor : ℕ) (old new : List (ℕ × Run T)) : Type 0 where
    pub maximal : IsMaximal new
    pub seen : (i : ℕ) → held i new ≡ seen_at floor i old

  -- from a floor on the runs hold what they held
  pub record Drops (floor : ℕ) (old new : List (ℕ × Run T)) : Type 0 where
    pub maximal : IsMaximal new
    pub same : (i : ℕ) → floor ≤ i → held i new ≡ held i old

  -- seen from one floor before and from another after, the range holds v and all else what it held
  pub record Replaces (floor lo hi : ℕ) (v : T) (old : List (ℕ × Run T)) (next : ℕ) (new : List (ℕ × Run T)) : Type 0 where
    pub maximal : IsMaximal new
    pub seen : (i : ℕ) → seen_at next i new ≡ (if nat_le lo i && nat_lt i hi then Some v else seen_at floor i old)
