-- Groups of members, and when two groups must share one. A member is a number below n. A group is said in two ways: as a
-- test on numbers, or as a list of different members.
use Rattle.std.specs.Prelude.{◌≡◌, ℕ, zero, suc, ◌+◌, ◌/◌, ◌<◌, ◌≤◌, ◌⊎◌, Bool, true, false, cond, ◌||◌, nat_eq, List, [], ◌∷◌}

-- x stands in the list
abbrev pub Has : {X : Type 0} → List X → X → Type 0
Has [] x = ⊥
Has (y ∷ ys) x = (x ≡ y) ⊎ Has ys x

-- how many of the members 0 .. n-1 pass the test
abbrev pub count : (ℕ → Bool) → ℕ → ℕ
count group zero = 0
count group (suc n) = cond (group n) 1 0 + count group n

-- the least size of a group that is more than half of n members
abbrev pub majority : ℕ → ℕ
majority n = n / 2 + 1

-- the test passes more than half of n members
abbrev pub IsMajority : ℕ → (ℕ → Bool) → Type 0
IsMajority n group = majority n ≤ count group n

-- one member passes both tests
pub record Shared (n : ℕ) (first second : ℕ → Bool) : Type 0 where
  pub member : ℕ
  pub below : member < n
  pub in_first : first member ≡ true
  pub in_second : second member ≡ true

-- no element stands twice in the list
abbrev pub AllDifferent : List ℕ → Type 0
AllDifferent [] = Unit {0}
AllDifferent (x ∷ xs) = (Has xs x → ⊥) × AllDifferent xs

-- the list names different members
pub record AreMembers (n : ℕ) (xs : List ℕ) : Type 0 where
  pub below : (m : ℕ) → Has xs m → m < n
  pub different : AllDifferent xs

-- one member stands in both lists
pub record SharedInLists (n : ℕ) (first second : List ℕ) : Type 0 where
  pub member : ℕ
  pub below : member < n
  pub in_first : Has first member
  pub in_second : Has second member

-- the test that a list makes: does it name m?
abbrev pub is_in : List ℕ → ℕ → Bool
is_in [] m = false
is_in (x ∷ xs) m = nat_eq m x || is_in xs m

-- the list that a test makes: the members that pass it, the greatest first
abbrev pub members_of : (ℕ → Bool) → ℕ → List ℕ
members_of group zero = []
members_of group (suc n) = cond (group n) (n ∷ members_of group n) (members_of group n)
