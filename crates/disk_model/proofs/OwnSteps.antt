-- The steps of one area among the calls of a disk, one call at a time.
use Rattle.std.proofs.Common.{◌≡◌, ℕ, ◌≤◌, min, max, Bool, true, false, ◌||◌, cond, List, [], ◌∷◌, ◌++◌, length, refl, ap, sym, ◌∙◌, append_assoc, arith}
use Rattle.std.specs.List.{list_any}
use Rattle.disk_model.specs.declared.area.Area.{Area}
use Rattle.disk_model.specs.declared.call.Call.{Call}
use Rattle.disk_model.specs.declared.call.Call.TheVariants.{Write, Cut, Sync}
use Rattle.disk_model.specs.Areas.{same}
use Rattle.disk_model.specs.Calls.{own}
use Rattle.disk_model.specs.Crash.{covers}
use Rattle.disk_model.specs.Steps.{Step, Put, Shrink, Kept, after, changed, least, most, step_on, steps_on}

chosen : (b : Bool) (step : Step) (steps : List Step) → cond b (step ∷ steps) steps ≡ cond b (step ∷ []) [] ++ steps
chosen true step steps = refl
chosen false step steps = refl

pub own-cons : (area : Area) (call : Call) (calls : List Call) → own area (call ∷ calls) ≡ own area (call ∷ []) ++ own area calls
own-cons area (Write b at bytes) calls = chosen (same area b) (Put at bytes) (own area calls)
own-cons area (Cut b len) calls = chosen (same area b) (Shrink len) (own area calls)
own-cons area Sync calls = refl

pub own-append : (area : Area) (xs ys : List Call) → own area (xs ++ ys) ≡ own area xs ++ own area ys
own-append area [] ys = refl
own-append area (call ∷ xs) ys =
    own-cons area call (xs ++ ys)
    ∙ ap (λ rest. own area (call ∷ []) ++ rest) (own-append area xs ys)
    ∙ sym (append_assoc (own area (call ∷ [])) (own area xs) (own area ys))
    ∙ ap (λ front. front ++ own area ys) (sym (own-cons area call xs))

pub after-append : (file : List ℕ) (xs ys : List Step) → after file (xs ++ ys) ≡ after (after file xs) ys
after-append file [] ys = refl
after-append file (step ∷ xs) ys = after-append (changed file step) xs ys

pub after-own-cons : (file : List ℕ) (area : Area) (call : Call) (calls : List Call) → after file (own area (call ∷ calls)) ≡ after (after file (own area (call ∷ []))) (own area calls)
after-own-cons file area call calls = ap (after file) (own-cons area call calls) ∙ after-append file (own area (call ∷ [])) (own area calls)

pub steps_on-append : (k : Kept) (xs ys : List Step) → steps_on k (xs ++ ys) ≡ steps_on (steps_on k xs) ys
steps_on-append k [] ys = refl
steps_on-append k (step ∷ xs) ys = steps_on-append (step_on k step) xs ys

pub least-bound : (file : List ℕ) (steps : List Step) → least file steps ≤ length file
least-bound file [] = omega arith
least-bound file (step ∷ steps) = omega arith

pub most-bound : (file : List ℕ) (steps : List Step) → length file ≤ most file steps
most-bound file [] = omega arith
most-bound file (step ∷ steps) = omega arith

least-chosen : (b : Bool) (file : List ℕ) (step : Step) (steps : List Step) → least file (cond b (step ∷ steps) steps) ≡ min (length file) (least (after file (cond b (step ∷ []) [])) steps)
least-chosen true file step steps = refl
least-chosen false file step steps = omega (arith, least-bound file steps)

pub least-own-cons : (file : List ℕ) (area : Area) (call : Call) (calls : List Call) → least file (own area (call ∷ calls)) ≡ min (length file) (least (after file (own area (call ∷ []))) (own area calls))
least-own-cons file area (Write b at bytes) calls = least-chosen (same area b) file (Put at bytes) (own area calls)
least-own-cons file area (Cut b len) calls = least-chosen (same area b) file (Shrink len) (own area calls)
least-own-cons file area Sync calls = refl

most-chosen : (b : Bool) (file : List ℕ) (step : Step) (steps : List Step) → most file (cond b (step ∷ steps) steps) ≡ max (length file) (most (after file (cond b (step ∷ []) [])) steps)
most-chosen true file step steps = refl
most-chosen false file step steps = omega (arith, most-bound file steps)

pub most-own-cons : (file : List ℕ) (area : Area) (call : Call) (calls : List Call) → most file (own area (call ∷ calls)) ≡ max (length file) (most (after file (own area (call ∷ []))) (own area calls))
most-own-cons file area (Write b at bytes) calls = most-chosen (same area b) file (Put at bytes) (own area calls)
most-own-cons file area (Cut b len) calls = most-chosen (same area b) file (Shrink len) (own area calls)
most-own-cons file area Sync calls = refl

any-append : (p : Step → Bool) (xs ys : List Step) → list_any p (xs ++ ys) ≡ list_any p xs || list_any p ys
any-append p [] ys = refl
any-append p (x ∷ xs) ys = or_after (p x) (list_any p xs) (list_any p ys) (list_any p (xs ++ ys)) (any-append p xs ys)
  where
    or_after : (a b c d : Bool) → d ≡ b || c → a || d ≡ (a || b) || c
    or_after true b c d e = refl
    or_after false b c d e = e

pub any-own-cons : (position : ℕ) (area : Area) (call : Call) (calls : List Call) → list_any (covers position) (own area (call ∷ calls)) ≡ list_any (covers position) (own area (call ∷ [])) || list_any (covers position) (own area calls)
any-own-cons position area call calls = ap (list_any (covers position)) (own-cons area call calls) ∙ any-append (covers position) (own area (call ∷ [])) (own area calls)
