-- Tuples that are compared.
use Rattle.std.proofs.Common.{arith, nat_le, ◌≡◌, ℕ, suc, ◌≤◌, ◌==◌, ◌&&◌, Bool, true, false, List, [], ◌∷◌, length, drop, min, refl, ◌∙◌, ap}
use Rattle.std.proofs.lemmas.List.{drop_all}
use Rattle.mrp_types.specs.declared.id.RingId.{RingId}
use Rattle.checkpoint.specs.Checkpoints.{is_same_tuple, is_after}

none : (t u : Bool) → (t && (u && false)) ≡ false
none true true = refl
none true false = refl
none false u = refl

-- tuples of other lengths are not one
pub differ : (xs ys : List (RingId × ℕ)) → (length xs ≡ length ys → ⊥) → is_same_tuple xs ys ≡ false
differ [] [] apart = absurd (apart refl)
differ [] (y ∷ ys) apart = refl
differ (x ∷ xs) [] apart = refl
differ (x ∷ xs) (y ∷ ys) apart =
    ap (λ t. (x.0.0 == y.0.0) && ((x.1 == y.1) && t)) (differ xs ys (λ same. apart (ap (λ n. suc n) same))) ∙ none (x.0.0 == y.0.0) (x.1 == y.1)

none_after : (xs : List (RingId × ℕ)) → is_after xs [] ≡ false
none_after [] = refl
none_after (x ∷ xs) = refl

-- at the end of one of them no entry is after
pub at_end : (i : ℕ) (xs ys : List (RingId × ℕ)) → min (length xs) (length ys) ≤ i → is_after (drop i xs) (drop i ys) ≡ false
at_end i xs ys past = by_less (nat_le (length xs) i) refl
  where
    by_less : (t : Bool) → nat_le (length xs) i ≡ t → is_after (drop i xs) (drop i ys) ≡ false
    by_less true is = let low : length xs ≤ i = grind arith in rw (drop_all i xs low) refl
    by_less false is = let low : length ys ≤ i = grind arith in rw (drop_all i ys low) (none_after (drop i xs))
