-- `Has` and std's `Contains` are one thing: an element stands at some index.
use Rattle.std.proofs.Common.{◌≡◌, inl, inr, ℕ, zero, suc, ◌<◌, List, [], ◌∷◌, length, get_or, Contains, sym, arith}
use Rattle.quorums.specs.Groups.{Has}

pub has_to_contains : {X : Type 0} (xs : List X) (x : X) → Has xs x → Contains xs x
has_to_contains [] x h = absurd h
has_to_contains (y ∷ ys) x (inl e) = (0, omega arith, sym e)
has_to_contains (y ∷ ys) x (inr h) =
    let c = has_to_contains ys x h in
    let l : c.0 < length ys = c.1 in
    (suc c.0, omega arith, c.2)

at_to_has : {X : Type 0} (xs : List X) (x : X) (k : ℕ) → k < length xs → get_or xs k x ≡ x → Has xs x
at_to_has [] x k l e = absurd (omega arith)
at_to_has (y ∷ ys) x zero l e = inl (sym e)
at_to_has (y ∷ ys) x (suc k) l e = inr (at_to_has ys x k (omega arith) e)

pub contains_to_has : {X : Type 0} (xs : List X) (x : X) → Contains xs x → Has xs x
contains_to_has xs x c = at_to_has xs x c.0 c.1 c.2
