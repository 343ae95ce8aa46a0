-- The votes of a ring: at each instance a ballot and a value, in increasing order of instance. And the same as ranges.
use Rattle.std.specs.Prelude.{◌≡◌, ℕ, zero, suc, ◌-◌, ◌<◌, ◌≤◌, nat_eq, nat_le, nat_lt, Bool, true, false, ◌&&◌, if◌then◌else◌, List, [], ◌∷◌, Option, Some, None}
use Rattle.mrp_types.specs.declared.value.Value.{Value}
use Rattle.mrp_types.specs.declared.value.Value.TheVariants.{Skip, Batch}
use Rattle.mrp_types.specs.Values.{is_skip}
use Rattle.range_map.specs.Entries.{value_at, with_range}
use Rattle.vote_state.specs.declared.cast.Cast.{Cast}
use Rattle.mrp_types.specs.declared.voted.Voted.{Voted}

-- what a range votes for at each of its instances
abbrev pub cast_of : Voted → Cast
cast_of v = record { ballot = v.ballot; value = v.value }

-- one vote for each instance from lo on and below hi
abbrev pub voted : ℕ → ℕ → Cast → Voted
voted lo hi cast = record { lo = lo; hi = hi; ballot = cast.ballot; value = cast.value }

-- whether a range that ends at an instance and the next one are one: they touch, are of one ballot, and both are Skip
abbrev pub is_one : ℕ → Cast → Voted → Bool
is_one end cast next = nat_eq end next.lo && (nat_eq cast.ballot next.ballot && (is_skip cast.value && is_skip next.value))

-- a vote at one instance, before the ranges of later instances
abbrev pub vote_before : ℕ → Cast → List Voted → List Voted
vote_before i cast [] = voted i (suc i) cast ∷ []
vote_before i cast (next ∷ ranges) = if is_one (suc i) cast next then voted i next.hi cast ∷ ranges else voted i (suc i) cast ∷ next ∷ ranges

-- the votes as maximal ranges
unfoldable pub ranges_of : List (ℕ × Cast) → List Voted
ranges_of [] = []
ranges_of (e ∷ es) = vote_before e.0 e.1 (ranges_of es)

-- ---- what these ranges are, in plain words

-- the vote of the first range that has the instance
abbrev pub cast_at : ℕ → List Voted → Option Cast
cast_at i [] = None
cast_at i (range ∷ ranges) = if nat_le range.lo i && nat_lt i range.hi then Some (cast_of range) else cast_at i ranges

-- the ranges are in order from k on, none is empty, and none reaches into the next
abbrev pub AreInOrderFrom : ℕ → List Voted → Type 0
AreInOrderFrom k [] = Unit {0}
AreInOrderFrom k (range ∷ ranges) = (k ≤ range.lo) × (range.lo < range.hi) × AreInOrderFrom range.hi ranges

-- a batch has a range of one instance
abbrev pub IsAlone : Voted → Type 0
IsAlone range = is_skip range.value ≡ false → range.hi ≡ suc range.lo

abbrev pub AreAlone : List Voted → Type 0
AreAlone [] = Unit {0}
AreAlone (range ∷ ranges) = IsAlone range × AreAlone ranges

-- the next range couldn't be joined to this one
abbrev pub IsApartFrom : Voted → List Voted → Type 0
IsApartFrom range [] = Unit {0}
IsApartFrom range (next ∷ ranges) = is_one range.hi (cast_of range) next ≡ false

-- no two neighbours could be joined
abbrev pub AreApart : List Voted → Type 0
AreApart [] = Unit {0}
AreApart (range ∷ ranges) = IsApartFrom range ranges × AreApart ranges

-- Ranges in order, with exactly these votes; no two neighbours could be joined, and a batch has a range of its own.
pub record AreMaximalRanges (votes : List (ℕ × Cast)) (ranges : List Voted) : Type 0 where
  pub in_order : AreInOrderFrom 0 ranges
  pub same : (i : ℕ) → cast_at i ranges ≡ value_at i votes
  pub apart : AreApart ranges
  pub alone : AreAlone ranges

-- the votes once these ranges were voted for, one after another
abbrev pub votes_of_ranges : List Voted → List (ℕ × Cast) → List (ℕ × Cast)
votes_of_ranges [] votes = votes
votes_of_ranges (range ∷ ranges) votes = votes_of_ranges ranges (with_range range.lo range.hi (cast_of range) votes)

-- ---- whether votes are held

-- whether two lists of bytes are one
abbrev pub are_same_bytes : List ℕ → List ℕ → Bool
are_same_bytes [] [] = true
are_same_bytes [] (y ∷ ys) = false
are_same_bytes (x ∷ xs) [] = false
are_same_bytes (x ∷ xs) (y ∷ ys) = nat_eq x y && are_same_bytes xs ys

abbrev pub is_same_value : Value → Value → Bool
is_same_value Skip Skip = true
is_same_value Skip (Batch b) = false
is_same_value (Batch a) Skip = false
is_same_value (Batch a) (Batch b) = are_same_bytes a b

-- whether this is that ballot and value
abbrev pub is_cast : Cast → Option Cast → Bool
is_cast cast None = false
is_cast cast (Some held) = nat_eq held.ballot cast.ballot && is_same_value held.value cast.value

-- whether each of n instances from lo on holds that ballot and value
abbrev pub each_held : ℕ → ℕ → Cast → List (ℕ × Cast) → Bool
each_held lo zero cast votes = true
each_held lo (suc n) cast votes = is_cast cast (value_at lo votes) && each_held (suc lo) n cast votes

-- whether each instance of the range holds that ballot and value
unfoldable pub are_held : Voted → List (ℕ × Cast) → Bool
are_held v votes = each_held v.lo (v.hi - v.lo) (cast_of v) votes
