-- Hexadecimal digits, piece by piece.
use Rattle.std.proofs.Common.{arith, ◌≡◌, ℕ, ◌∷◌, List, [], ◌++◌, ◌==◌, true, length, refl, sym, ap, ◌∙◌, append_assoc, append-nil}
use Rattle.std.specs.Prelude.{◌/◌, ◌%◌, slice_index}
use Rattle.hex.specs.Hex.{encode_with, encode_lower, lower_digits}

encoded_both : (t a b : List ℕ) → encode_with t (a ++ b) ≡ encode_with t a ++ encode_with t b
unfolding encode_with
encoded_both t [] b = refl
encoded_both t (x ∷ a) b = ap (λ (l : List ℕ). slice_index t (x / 16) ∷ slice_index t (x % 16) ∷ l) (encoded_both t a b)

-- the digits of a piece were added
pub digits_further : (before after rest piece others whole : List ℕ) → rest ≡ piece ++ others → after ≡ before ++ encode_lower piece →
    before ++ encode_lower rest ≡ whole → after ++ encode_lower others ≡ whole
digits_further before after rest piece others whole parts added so_far =
    ap (λ (l : List ℕ). l ++ encode_lower others) added
    ∙ append_assoc before (encode_lower piece) (encode_lower others)
    ∙ ap (λ (l : List ℕ). before ++ l) (sym (encoded_both lower_digits piece others) ∙ ap encode_lower (sym parts))
    ∙ so_far

-- no byte is left
pub all_digits : (out old rest digits : List ℕ) → true ≡ (length rest == 0) → out ++ encode_lower rest ≡ (old ++ 32 ∷ []) ++ digits → out ≡ old ++ 32 ∷ digits
unfolding encode_with
all_digits out old [] digits none so_far = sym (append-nil out) ∙ so_far ∙ append_assoc old (32 ∷ []) digits
all_digits out old (x ∷ rest) digits none so_far = absurd (grind arith)
