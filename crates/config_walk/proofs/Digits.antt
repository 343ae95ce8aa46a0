-- One more digit in front, and where the digits end.
use Rattle.std.proofs.Common.{◌≡◌, ℕ, ◌+◌, ◌*◌, ◌<◌, ◌≤◌, List, take, get_or, length, arith, lit≤}
use Rattle.std.proofs.lemmas.List.{get_or_past}
use Rattle.std.proofs.lemmas.Int.Digits.{digits_more, digits_value_more}
use Rattle.std.specs.Char.{digit_value}
use Rattle.std.specs.Str.Parse.{AllDigits, digits_value}

pub more_digits : (text : List ℕ) (count index value byte digit : ℕ) → count ≡ index → index < length text → AllDigits 10 (take count text) → value ≡ digits_value 10 (take count text) → byte ≡ get_or text index 0 → (digit_value byte < 10) × (digit ≡ digit_value byte) → AllDigits 10 (take (count + 1) text) × (value * 10 + digit ≡ digits_value 10 (take (count + 1) text))
more_digits text count index value byte digit same within all is read h =
    let inside : count < length text = omega arith in
    let at : byte ≡ get_or text count 0 = rw same read in
    (digits_more 10 text count inside all (rw (← at) h.0), rw (digits_value_more 10 text count inside, ← at, ← is, h.1))

pub past_end : (text : List ℕ) (count index : ℕ) → count ≡ index → length text ≤ index → 10 ≤ digit_value (get_or text count 0)
past_end text count index same end = rw (same, get_or_past text index 0 end) (lit≤ tt)

pub no_digit : (text : List ℕ) (count index byte : ℕ) → count ≡ index → byte ≡ get_or text index 0 → ¬ (digit_value byte < 10) → 10 ≤ digit_value (get_or text count 0)
no_digit text count index byte same read h = rw (same, ← read) (let d = digit_value byte in omega arith)
