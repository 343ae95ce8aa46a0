-- Partitions and their replies, side by side.
use Rattle.std.proofs.Common.{◌≡◌, ℕ, zero, suc, ◌≤◌, ◌==◌, nat_lt, Bool, true, false, if◌then◌else◌, ◌||◌, List, [], ◌∷◌, length, map, refl, ap, arith}
use Rattle.std.specs.List.{zip, insert, remove, list_any}
use Rattle.mrp_types.specs.declared.id.PartitionId.{PartitionId}
use Rattle.command_codec.specs.declared.reply.Reply.{Reply}
use Rattle.protocol.specs.Client.{has_part, with_part}
use Rattle.client_core.specs.Places.{place_in}

pub zip_length : (ids : List PartitionId) (rs : List Reply) → length ids ≡ length rs → length (zip ids rs) ≡ length ids
zip_length [] rs same = refl
zip_length (x ∷ xs) [] same = absurd (omega (arith, same))
zip_length (x ∷ xs) (r ∷ rs) same = ap suc (zip_length xs rs (omega (arith, same)))

pub replies_of_zip : (ids : List PartitionId) (rs : List Reply) → length ids ≡ length rs → map (λ (part : PartitionId × Reply). part.1) (zip ids rs) ≡ rs
replies_of_zip [] [] same = refl
replies_of_zip [] (r ∷ rs) same = absurd (omega (arith, same))
replies_of_zip (x ∷ xs) [] same = absurd (omega (arith, same))
replies_of_zip (x ∷ xs) (r ∷ rs) same = ap (λ (l : List Reply). r ∷ l) (replies_of_zip xs rs (omega (arith, same)))

pub removed_zip : (ids : List PartitionId) (rs : List Reply) (at : ℕ) → length ids ≡ length rs → zip (remove ids at) (remove rs at) ≡ remove (zip ids rs) at
removed_zip [] [] zero same = refl
removed_zip [] [] (suc n) same = refl
removed_zip [] (r ∷ rs) at same = absurd (omega (arith, same))
removed_zip (x ∷ xs) [] at same = absurd (omega (arith, same))
removed_zip (x ∷ xs) (r ∷ rs) zero same = refl
removed_zip (x ∷ xs) (r ∷ rs) (suc n) same = ap (λ (l : List (PartitionId × Reply)). (x, r) ∷ l) (removed_zip xs rs n (omega (arith, same)))

pub inserted_zip : (ids : List PartitionId) (rs : List Reply) (id : PartitionId) (r : Reply) → length ids ≡ length rs →
    zip (insert ids (place_in id.0 ids) id) (insert rs (place_in id.0 ids) r) ≡ with_part id r (zip ids rs)
inserted_zip [] [] id r same = refl
inserted_zip [] (s ∷ rs) id r same = absurd (omega (arith, same))
inserted_zip (x ∷ xs) [] id r same = absurd (omega (arith, same))
inserted_zip (x ∷ xs) (s ∷ rs) id r same = by_test (nat_lt id.0 x.0) (inserted_zip xs rs id r (omega (arith, same)))
  where
    -- the place where the new one is less, or that in the others
    by_test : (t : Bool) →
        zip (insert xs (place_in id.0 xs) id) (insert rs (place_in id.0 xs) r) ≡ with_part id r (zip xs rs) →
        zip (insert (x ∷ xs) (if t then zero else suc (place_in id.0 xs)) id) (insert (s ∷ rs) (if t then zero else suc (place_in id.0 xs)) r)
        ≡ (if t then (id, r) ∷ (x, s) ∷ zip xs rs else (x, s) ∷ with_part id r (zip xs rs))
    by_test true later = refl
    by_test false later = ap (λ (l : List (PartitionId × Reply)). (x, s) ∷ l) later

pub removed_inserted : {X : Type 0} (xs : List X) (at : ℕ) (x : X) → at ≤ length xs → remove (insert xs at x) at ≡ xs
removed_inserted [] zero x low = refl
removed_inserted [] (suc n) x low = absurd (omega (arith, low))
removed_inserted (y ∷ ys) zero x low = refl
removed_inserted (y ∷ ys) (suc n) x low = ap (λ l. y ∷ l) (removed_inserted ys n x (omega (arith, low)))

pub inserted_length : {X : Type 0} (xs : List X) (at : ℕ) (x : X) → at ≤ length xs → length (insert xs at x) ≡ suc (length xs)
inserted_length [] zero x low = refl
inserted_length [] (suc n) x low = absurd (omega (arith, low))
inserted_length (y ∷ ys) zero x low = refl
inserted_length (y ∷ ys) (suc n) x low = ap suc (inserted_length ys n x (omega (arith, low)))

pub inside : (id : ℕ) (ids : List PartitionId) → place_in id ids ≤ length ids
inside id [] = omega arith
inside id (x ∷ xs) = by_test (nat_lt id x.0) (inside id xs)
  where
    by_test : (t : Bool) → place_in id xs ≤ length xs → (if t then 0 else suc (place_in id xs)) ≤ length (x ∷ xs)
    by_test true low = omega arith
    by_test false low = omega (arith, low)

pub has_of_zip : (ids : List PartitionId) (rs : List Reply) (id : PartitionId) → length ids ≡ length rs →
    has_part (zip ids rs) id ≡ list_any (λ (x : PartitionId). x.0 == id.0) ids
has_of_zip [] rs id same = refl
has_of_zip (x ∷ xs) [] id same = absurd (omega (arith, same))
has_of_zip (x ∷ xs) (r ∷ rs) id same = ap (λ (t : Bool). (x.0 == id.0) || t) (has_of_zip xs rs id (omega (arith, same)))
