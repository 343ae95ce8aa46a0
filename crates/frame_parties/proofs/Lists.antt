-- What holds of each of a list holds of what is found in it.
use Rattle.std.proofs.Common.{ℕ, zero, suc, Bool, true, false, List, [], ◌∷◌, take, drop, Option, Some, None}
use Rattle.std.specs.Prelude.{◌+◌, ◌==◌, cond, slice_get, find}
use Rattle.std.specs.List.{AllByRecursion, before_first, after_first, position_or_len, flat_map}
use Rattle.mrp_types.specs.declared.id.NodeId.{NodeId}
use Rattle.ring_link.specs.Silence.{is_next, round_from, successor_by}
use Rattle.quorums.proofs.Each.{appended}

abbrev pub IfThere : {T : Type 0} → (T → Type 0) → Option T → Type 0
IfThere P None = Unit {0}
IfThere P (Some x) = P x

pub find_all : {T : Type 0} (P : T → Type 0) (test : T → Bool) (xs : List T) → AllByRecursion P xs → IfThere P (find test xs)
find_all P test [] all = tt
find_all P test (x ∷ xs) all = go (test x) (find_all P test xs all.1)
  where
    go : (b : Bool) → IfThere P (find test xs) → IfThere P (cond b (Some x) (find test xs))
    go true later = all.0
    go false later = later

pub get_all : {T : Type 0} (P : T → Type 0) (xs : List T) (i : ℕ) → AllByRecursion P xs → IfThere P (slice_get xs i)
get_all P [] i all = tt
get_all P (x ∷ xs) zero all = all.0
get_all P (x ∷ xs) (suc i) all = get_all P xs i all.1

take_all : {T : Type 0} (P : T → Type 0) (n : ℕ) (xs : List T) → AllByRecursion P xs → AllByRecursion P (take n xs)
take_all P zero xs all = tt
take_all P (suc n) [] all = tt
take_all P (suc n) (x ∷ xs) all = (all.0, take_all P n xs all.1)

drop_all : {T : Type 0} (P : T → Type 0) (n : ℕ) (xs : List T) → AllByRecursion P xs → AllByRecursion P (drop n xs)
drop_all P zero xs all = all
drop_all P (suc n) [] all = tt
drop_all P (suc n) (x ∷ xs) all = drop_all P n xs all.1

pub flat_all : {S T : Type 0} (Q : S → Type 0) (P : T → Type 0) (f : S → List T) → ((x : S) → Q x → AllByRecursion P (f x)) → (xs : List S) → AllByRecursion Q xs → AllByRecursion P (flat_map f xs)
flat_all Q P f each [] all = tt
flat_all Q P f each (x ∷ xs) all = appended P (f x) (flat_map f xs) (each x all.0) (flat_all Q P f each xs all.1)

-- the next one round a ring
pub next_all : (P : NodeId → Type 0) (suspected : ℕ → Bool) (order : List NodeId) (own : NodeId) → AllByRecursion P order → IfThere P (successor_by suspected order own)
next_all P suspected order own all =
    find_all P (is_next suspected own) (round_from own order)
    (appended P (after_first (λ n. n.0 == own.0) order) (before_first (λ n. n.0 == own.0) order)
    (drop_all P (position_or_len (λ n. n.0 == own.0) order + 1) order all) (take_all P (position_or_len (λ n. n.0 == own.0) order) order all))
