-- Levelling: how many instances a ring is short of its pace, read off the calls so far.
use Rattle.std.specs.Prelude.{ℕ, ◌+◌, ◌-◌, ◌*◌, ◌/◌, ◌%◌, Bool, ◌&&◌, ◌==◌, nat_lt, max, List, [], ◌∷◌, Option, Some, None, zero, suc, if◌then◌else◌}

-- what was told to a leveller: that n instances were started, or that a tick passed
pub data Call : Type 0 where
  Started : ℕ → Call
  Tick : Call

-- how many ticks passed
abbrev pub ticks_in : List Call → ℕ
ticks_in [] = 0
ticks_in (Started n ∷ calls) = ticks_in calls
ticks_in (Tick ∷ calls) = suc (ticks_in calls)

-- how many instances were started
abbrev pub started_in : List Call → ℕ
started_in [] = 0
started_in (Started n ∷ calls) = n + started_in calls
started_in (Tick ∷ calls) = started_in calls

-- the calls that came after the k-th tick; all of them where k is 0
abbrev pub after_tick : ℕ → List Call → List Call
after_tick zero calls = calls
after_tick (suc k) [] = []
after_tick (suc k) (Started n ∷ calls) = after_tick (suc k) calls
after_tick (suc k) (Tick ∷ calls) = after_tick k calls

-- every how many ticks the ring is levelled: delta, and at each tick where delta is 0
abbrev pub period : ℕ → ℕ
period delta = max 1 delta

-- the number of the last tick at which the ring was levelled, 0 before the first
abbrev pub last_due : ℕ → List Call → ℕ
last_due delta calls = ticks_in calls / period delta * period delta

-- how many of the lambda * delta instances that are due from one levelling to the next weren't started since the last
abbrev pub shortfall : ℕ → ℕ → List Call → ℕ
shortfall lambda delta calls = lambda * delta - started_in (after_tick (last_due delta calls) calls)

-- whether the tick that comes after these calls is one at which the ring is levelled
abbrev pub is_due : ℕ → List Call → Bool
is_due delta calls = (suc (ticks_in calls) % period delta) == 0

-- what the tick that comes after these calls answers: the shortfall, where it is due and the shortfall is positive
abbrev pub answer_after : ℕ → ℕ → List Call → Option ℕ
answer_after lambda delta calls =
    if is_due delta calls && nat_lt 0 (shortfall lambda delta calls) then Some (shortfall lambda delta calls) else None

-- what a leveller keeps: its two settings, the ticks since the last levelling and the shortfall as it stands
pub record Levelling : Type 0 where
  pub lambda : ℕ
  pub delta : ℕ
  pub ticks : ℕ
  pub shortfall : ℕ

-- what is kept once these calls were made
abbrev pub levelling_after : ℕ → ℕ → List Call → Levelling
levelling_after lambda delta calls = record {
  lambda = lambda;
  delta = delta;
  ticks = ticks_in calls % period delta;
  shortfall = shortfall lambda delta calls;
}

-- What is kept, call by call, for a definition that holds no list of calls: that it agrees with the lists is promised by the calls.

-- what is kept once n more instances were started
abbrev pub with_started : ℕ → Levelling → Levelling
with_started n l = record l { shortfall = l.shortfall - n }

-- whether the next tick levels the ring
abbrev pub levels_next : Levelling → Bool
levels_next l = suc l.ticks == period l.delta

-- what is kept once a tick passed
abbrev pub with_tick : Levelling → Levelling
with_tick l =
    if levels_next l then record l { ticks = 0; shortfall = l.lambda * l.delta } else record l { ticks = suc l.ticks }

-- what a tick answers
abbrev pub answer_of : Levelling → Option ℕ
answer_of l = if levels_next l && nat_lt 0 l.shortfall then Some l.shortfall else None
