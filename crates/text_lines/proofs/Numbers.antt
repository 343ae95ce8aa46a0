-- Words that are no number or a large one, and the words of a line.
use Rattle.std.proofs.Common.{arith, ◌≡◌, ◌<◌, ℕ, ◌^◌, List, Option, Some, None, Result, Ok, Err, refl, sym, ap, ◌∙◌, subst, nat_lt, if◌then◌else◌, Bool, true, false, length}
use Rattle.std.specs.List.{list_all}
use Rattle.std.specs.Char.{is_ascii_digit}
use Rattle.std.specs.Str.{IsUtf8}
use Rattle.std.specs.Str.Parse.{digits_value, ParsesUnsigned}
use Rattle.std.specs.Result.{OkIff}
use Rattle.std.proofs.lemmas.Fmt.{IsAscii-from_digits}
use Rattle.std.proofs.lemmas.Str.{IsUtf8-from_ascii}
use Rattle.std.proofs.lemmas.Str.Parse.{parse_digits}
use Rattle.text_lines.specs.declared.fault.TextFault.{TextFault}
use Rattle.text_lines.specs.declared.fault.TextFault.TheVariants.{Number, Range, Left}
use Rattle.text_lines.specs.Reading.{is_led, is_decimal, number_of, end_at}
use Rattle.text_lines.specs.Split.{pieces_of, place_of}
use Rattle.text_lines.proofs.Inverse.{own, led_some}
use Rattle.text_lines.proofs.Places.{pieces_of_at, pieces_at}
use Rattle.mrp_types.proofs.TestLemmas.{both}

abbrev pub chosen : ℕ → Bool → Result ℕ TextFault
chosen n t = if t then (if nat_lt n (2 ^ 64) then Ok n else Err Range) else Err Number

no_decimal : (n : ℕ) (t : Bool) → (t ≡ true → ⊥) → Err Number ≡ chosen n t
no_decimal n true never = absurd (never refl)
no_decimal n false never = refl

-- a word that is no text is no number
pub no_text : (word : List ℕ) → (IsUtf8 word → ⊥) → Err Number ≡ number_of word
no_text word none = no_decimal (digits_value 10 word) (is_decimal word) (λ h.
    let tests = both (is_led word) (list_all is_ascii_digit word) h in
    none (IsUtf8-from_ascii word (IsAscii-from_digits word (own.to word tests.1))))

large : (n : ℕ) → (n < 2 ^ 64 → ⊥) → Err Range ≡ chosen n true
large n never = grind (arith, never)

unparsed : {E : Type 0} (word : List ℕ) (r : Result ℕ E) (e : E) → is_decimal word ≡ true → r ≡ Err e →
    OkIff r ((0 < length word) × (digits_value 10 word < 2 ^ 64)) (digits_value 10 word) → Err Range ≡ number_of word
unparsed word (Ok n) e decimal is parse = absurd cc
unparsed word (Err f) e decimal is never =
    let tests = both (is_led word) (list_all is_ascii_digit word) decimal in
    large (digits_value 10 word) (λ fits. never (led_some word tests.0, fits)) ∙ ap (chosen (digits_value 10 word)) (sym decimal)

-- a decimal that does not parse is large
pub is_large : {E : Type 0} (word text : List ℕ) (r : Result ℕ E) (e : E) → is_decimal word ≡ true → text ≡ word → ParsesUnsigned 64 10 text r → r ≡ Err e →
    Err Range ≡ number_of word
is_large word text r e decimal same parse is =
    let tests = both (is_led word) (list_all is_ascii_digit word) decimal in
    let of_word = subst (λ (t : List ℕ). ParsesUnsigned 64 10 t r) same parse in
    unparsed word r e decimal is (parse_digits own 64 word r of_word tests.1)

none_of : (byte : ℕ) (bytes : List ℕ) (place : Option ℕ) → end_at (pieces_at byte bytes place) ≡ Err Left
none_of byte bytes None = refl
none_of byte bytes (Some k) = refl

-- a text has a piece
pub some_piece : (byte : ℕ) (bytes : List ℕ) → end_at (pieces_of byte bytes) ≡ Err Left
some_piece byte bytes = rw (pieces_of_at byte bytes) (none_of byte bytes (place_of byte bytes))
