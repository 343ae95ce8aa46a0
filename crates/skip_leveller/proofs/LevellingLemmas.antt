-- What one more call does to what the calls so far leave.
use Rattle.std.proofs.Common.{◌≡◌, ℕ, zero, suc, ◌+◌, ◌-◌, ◌*◌, ◌/◌, ◌%◌, ◌<◌, ◌≤◌, true, false, List, [], ◌∷◌, ◌++◌, refl, ◌∙◌, ap, arith, inl, inr}
use Rattle.std.specs.Prelude.{◌==◌}
use Rattle.std.proofs.lemmas.Bool.{cases_lt}
use Rattle.std.proofs.lemmas.Bool.Decides.{nat_tests}
use Rattle.std.proofs.lemmas.Nat.{div-add-mod', mod_below}
use Rattle.std.proofs.Math.Nat.{suc-mod, mod-eq_of_lt, mod_self}
use Rattle.skip_leveller.specs.Levelling.{Call, Started, Tick, ticks_in, started_in, after_tick, period, last_due, shortfall, levelling_after, with_started, levels_next, with_tick}

pub ticks_in-append-started : (calls : List Call) (n : ℕ) → ticks_in (calls ++ Started n ∷ []) ≡ ticks_in calls
ticks_in-append-started [] n = refl
ticks_in-append-started (Started m ∷ calls) n = ticks_in-append-started calls n
ticks_in-append-started (Tick ∷ calls) n = ap suc (ticks_in-append-started calls n)

pub ticks_in-append-tick : (calls : List Call) → ticks_in (calls ++ Tick ∷ []) ≡ suc (ticks_in calls)
ticks_in-append-tick [] = refl
ticks_in-append-tick (Started m ∷ calls) = ticks_in-append-tick calls
ticks_in-append-tick (Tick ∷ calls) = ap suc (ticks_in-append-tick calls)

pub started_in-append : (a b : List Call) → started_in (a ++ b) ≡ started_in a + started_in b
started_in-append [] b = omega arith
started_in-append (Started m ∷ a) b = omega (arith, started_in-append a b)
started_in-append (Tick ∷ a) b = started_in-append a b

-- a call that comes later is among the calls after a tick that passed
pub after_tick-append : (k : ℕ) (calls last : List Call) → k ≤ ticks_in calls → after_tick k (calls ++ last) ≡ after_tick k calls ++ last
after_tick-append zero calls last h = refl
after_tick-append (suc k) [] last h = absurd (omega arith)
after_tick-append (suc k) (Started m ∷ calls) last h = after_tick-append (suc k) calls last h
after_tick-append (suc k) (Tick ∷ calls) last h = after_tick-append k calls last (omega arith)

-- nothing comes after a tick that was the last call
pub after_tick-last : (calls : List Call) → after_tick (suc (ticks_in calls)) (calls ++ Tick ∷ []) ≡ []
after_tick-last [] = refl
after_tick-last (Started m ∷ calls) = after_tick-last calls
after_tick-last (Tick ∷ calls) = after_tick-last calls

period_pos : (delta : ℕ) → 0 < period delta
period_pos delta = omega arith

-- the last levelling and the ticks since make all ticks
pub last_due-split : (delta : ℕ) (calls : List Call) → last_due delta calls + ticks_in calls % period delta ≡ ticks_in calls
last_due-split delta calls = div-add-mod' (ticks_in calls) (period delta)

pub last_due_le : (delta : ℕ) (calls : List Call) → last_due delta calls ≤ ticks_in calls
last_due_le delta calls = omega (arith, last_due-split delta calls)

-- where the next tick isn't due, one tick more has passed since the last levelling
stays : (t p : ℕ) → suc (t % p) < p → suc t % p ≡ suc (t % p)
stays t p h = suc-mod t p ∙ mod-eq_of_lt h

stays_last : (t p : ℕ) → suc (t % p) < p → suc t / p * p ≡ t / p * p
stays_last t p h = omega (arith, div-add-mod' t p, div-add-mod' (suc t) p, stays t p h)

-- where it is, none has
falls : (t p : ℕ) → suc (t % p) ≡ p → suc t % p ≡ 0
falls t p h = suc-mod t p ∙ ap (λ n. n % p) h ∙ mod_self p

falls_last : (t p : ℕ) → suc (t % p) ≡ p → suc t / p * p ≡ suc t
falls_last t p h = omega (arith, div-add-mod' (suc t) p, falls t p h)

-- the tick that comes next either is due or isn't
data Next (t p : ℕ) : Type 0 where
  Due : suc (t % p) ≡ p → Next t p
  Early : suc (t % p) < p → Next t p

next_of : (t p : ℕ) → 0 < p → Next t p
next_of t p h =
    elim (cases_lt (suc (t % p)) p) [ inl lt ↦ Early lt | inr ge ↦ Due (omega (arith, mod_below t p h)) ]

pub shortfall-started : (lambda delta : ℕ) (calls : List Call) (n : ℕ) → shortfall lambda delta (calls ++ Started n ∷ []) ≡ shortfall lambda delta calls - n
shortfall-started lambda delta calls n =
    rw (ticks_in-append-started calls n, after_tick-append (last_due delta calls) calls (Started n ∷ []) (last_due_le delta calls), started_in-append (after_tick (last_due delta calls) calls) (Started n ∷ []))
    (omega arith)

-- what is kept agrees with the list of calls after a call of `started`
pub levelling_after-started : (lambda delta : ℕ) (calls : List Call) (n : ℕ) → with_started n (levelling_after lambda delta calls) ≡ levelling_after lambda delta (calls ++ Started n ∷ [])
levelling_after-started lambda delta calls n =
    let ticks = ticks_in-append-started calls n in
    let short = shortfall-started lambda delta calls n in
    cc

shortfall-early : (lambda delta : ℕ) (calls : List Call) → suc (ticks_in calls % period delta) < period delta → shortfall lambda delta (calls ++ Tick ∷ []) ≡ shortfall lambda delta calls
shortfall-early lambda delta calls h =
    rw (ticks_in-append-tick calls, stays_last (ticks_in calls) (period delta) h, after_tick-append (last_due delta calls) calls (Tick ∷ []) (last_due_le delta calls), started_in-append (after_tick (last_due delta calls) calls) (Tick ∷ []))
    (omega arith)

shortfall-due : (lambda delta : ℕ) (calls : List Call) → suc (ticks_in calls % period delta) ≡ period delta → shortfall lambda delta (calls ++ Tick ∷ []) ≡ lambda * delta
shortfall-due lambda delta calls h =
    rw (ticks_in-append-tick calls, falls_last (ticks_in calls) (period delta) h, after_tick-last calls) (omega arith)

not_due : (a b : ℕ) → a < b → (a == b) ≡ false
not_due a b h = grind (arith, nat_tests)

due_now : (a b : ℕ) → a ≡ b → (a == b) ≡ true
due_now a b h = grind (arith, nat_tests)

with_tick-case : (lambda delta : ℕ) (calls : List Call) → Next (ticks_in calls) (period delta) → with_tick (levelling_after lambda delta calls) ≡ levelling_after lambda delta (calls ++ Tick ∷ [])
with_tick-case lambda delta calls (Early h) =
    let test : levels_next (levelling_after lambda delta calls) ≡ false = not_due (suc (ticks_in calls % period delta)) (period delta) h in
    let ticks : ticks_in (calls ++ Tick ∷ []) % period delta ≡ suc (ticks_in calls % period delta) =
    ap (λ n. n % period delta) (ticks_in-append-tick calls) ∙ stays (ticks_in calls) (period delta) h in
    let short = shortfall-early lambda delta calls h in
    rw test cc
with_tick-case lambda delta calls (Due h) =
    let test : levels_next (levelling_after lambda delta calls) ≡ true = due_now (suc (ticks_in calls % period delta)) (period delta) h in
    let ticks : ticks_in (calls ++ Tick ∷ []) % period delta ≡ 0 =
    ap (λ n. n % period delta) (ticks_in-append-tick calls) ∙ falls (ticks_in calls) (period delta) h in
    let short = shortfall-due lambda delta calls h in
    rw test cc

-- and after a tick
pub levelling_after-tick : (lambda delta : ℕ) (calls : List Call) → with_tick (levelling_after lambda delta calls) ≡ levelling_after lambda delta (calls ++ Tick ∷ [])
levelling_after-tick lambda delta calls =
    with_tick-case lambda delta calls (next_of (ticks_in calls) (period delta) (period_pos delta))
