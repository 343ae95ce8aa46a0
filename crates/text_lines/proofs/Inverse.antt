-- Numbers and bytes are read as they are spelled, and their spellings have no space and no line feed.
use Rattle.std.proofs.Common.{arith, rules, lit<, get_or, zero, suc, ◌*◌, ◌≡◌, ◌≢◌, ◌<◌, ◌≤◌, ℕ, ◌^◌, ◌+◌, List, [], ◌∷◌, length, refl, sym, ap, ◌∙◌, subst, nat_lt, ◌==◌, if◌then◌else◌, Bool, true, false, codes, Ok, Err}
use Rattle.std.proofs.lemmas.Grind.{common_steps}
use Rattle.std.proofs.lemmas.Slice.Eq.{bytes_eq-Decides}
use Rattle.std.proofs.lemmas.Fmt.{decimal_is_IsNumeral, decimal_digit, first_decimal, digits_decimal, digits_value-decimal, decimal-digits_value}
use Rattle.std.proofs.lemmas.Str.Parse.{IsNumeralModel, numerals_by_value}
use Rattle.std.proofs.lemmas.List.Elements.{recursion_from_All}
use Rattle.std.specs.Prelude.{Result}
use Rattle.std.specs.List.{AllByRecursion, list_all}
use Rattle.std.specs.Str.{bytes_eq}
use Rattle.std.specs.Str.Parse.{digits_value, AllDigits}
use Rattle.std.specs.Char.{digit_value, is_ascii_digit}
use Rattle.std.specs.Fmt.{decimal}
use Rattle.hex.specs.Hex.{encode_lower, lower_digits, decode_of, is_hex_digit, IsBytes}
use Rattle.hex.specs.declared.error.FromHexError.{FromHexError}
use Rattle.hex.proofs.HexLemmas.{decode_of-encode_lower, decode_of-ok, length-encode_with}
use Rattle.text_lines.specs.Text.{hex_text}
use Rattle.mrp_types.specs.Reading.{◌>>=◌}
use Rattle.text_lines.specs.Reading.{is_led, is_decimal, number_of, number_within, hex_of, decoded}
use Rattle.text_lines.specs.declared.fault.TextFault.{TextFault}
use Rattle.text_lines.specs.declared.fault.TextFault.TheVariants.{Number, Range, Hex}
use Rattle.text_lines.proofs.Laws.{Lacks}
use Rattle.mrp_types.proofs.TestLemmas.{both, below, not_above}

-- ---- steps of reading

-- a step that gave something had something to go on
pub bound : {A B E : Type 0} (r : Result A E) (f : A → Result B E) (y : B) → (r >>= f) ≡ Ok y → (x : A) × (r ≡ Ok x) × (f x ≡ Ok y)
bound (Ok x) f y h = (x, refl, h)
bound (Err e) f y h = absurd cc

-- where a test chose a value, it held, or it did not
pub then_was : {A E : Type 0} (t : Bool) (fault : E) (r : Result A E) (y : A) → (if t then r else Err fault) ≡ Ok y → (t ≡ true) × (r ≡ Ok y)
then_was true fault r y h = (refl, h)
then_was false fault r y h = absurd cc

pub else_was : {A E : Type 0} (t : Bool) (fault : E) (r : Result A E) (y : A) → (if t then Err fault else r) ≡ Ok y → (t ≡ false) × (r ≡ Ok y)
else_was true fault r y h = absurd cc
else_was false fault r y h = (refl, h)

abbrev pub done : {A : Type 0} → A → Result A TextFault
done x = Ok x

pub ok_is : {A : Type 0} (x y : A) → done x ≡ done y → x ≡ y
ok_is x y h = cc

-- ---- numbers

-- a test that all are digits tells the texts of numbers
pub own : IsNumeralModel (λ ds. list_all is_ascii_digit ds ≡ true) (digits_value 10)
own = numerals_by_value _ (search rules)

led_zero : is_led (decimal 0) ≡ true
led_zero = rw (decimal_digit 0 (lit< tt)) refl

led_high : (word : List ℕ) → 48 < get_or word 0 0 → is_led word ≡ true
led_high [] high = absurd (omega (arith, high))
led_high (b ∷ []) high = refl
led_high (b ∷ c ∷ rest) high = grind arith

led_decimal : (n : ℕ) → n < 2 ^ 64 → is_led (decimal n) ≡ true
led_decimal zero fits = led_zero
led_decimal (suc n) fits = led_high (decimal (suc n)) (first_decimal (suc n) (omega arith) fits)

pub decimal_is_decimal : (n : ℕ) → n < 2 ^ 64 → is_decimal (decimal n) ≡ true
decimal_is_decimal n fits = rw (led_decimal n fits, digits_decimal own n fits) refl

pub number_of_decimal : (n : ℕ) → n < 2 ^ 64 → number_of (decimal n) ≡ Ok n
number_of_decimal n fits =
    let value : digits_value 10 (decimal n) ≡ n = digits_value-decimal own n fits in
    let small : nat_lt n (2 ^ 64) ≡ true = grind arith in
    rw (decimal_is_decimal n fits, value, small) refl

pub led_some : (word : List ℕ) → is_led word ≡ true → 0 < length word
led_some [] led = absurd (grind arith)
led_some (b ∷ rest) led = grind (arith, common_steps)

led_alone : (word : List ℕ) → is_led word ≡ true → get_or word 0 0 ≡ 48 → length word ≡ 1
led_alone [] led first = absurd (grind arith)
led_alone (b ∷ []) led first = refl
led_alone (b ∷ c ∷ rest) led first = absurd (grind arith)

pub decimal_of_number : (word : List ℕ) (n : ℕ) → number_of word ≡ Ok n → (word ≡ decimal n) × (n < 2 ^ 64)
decimal_of_number word n h =
    let v = digits_value 10 word in
    let was = then_was (is_decimal word) Number (if nat_lt v (2 ^ 64) then Ok v else Err Range) n h in
    let fit = then_was (nat_lt v (2 ^ 64)) Range (Ok v) n was.1 in
    let tests = both (is_led word) (list_all is_ascii_digit word) was.0 in
    let small : v < 2 ^ 64 = below v (2 ^ 64) fit.0 in
    let text : decimal v ≡ word = decimal-digits_value own word tests.1 (led_some word tests.0) (led_alone word tests.0) small in
    let is : v ≡ n = ok_is v n fit.1 in
    (sym text ∙ ap decimal is, subst (λ (k : ℕ). k < 2 ^ 64) is small)

pub within_decimal : (n least most : ℕ) (rest : List (List ℕ)) → least ≤ n → n ≤ most → most < 2 ^ 64 →
    number_within least most (decimal n ∷ rest) ≡ Ok (n, rest)
within_decimal n least most rest enough few small =
    let fits : n < 2 ^ 64 = omega arith in
    rw (number_of_decimal n fits, not_above least n enough, not_above n most few) refl

-- ---- bytes

pub false_if : (t : Bool) → (t ≡ true → ⊥) → t ≡ false
false_if true never = absurd (never refl)
false_if false never = refl

long_is_no_dash : (word : List ℕ) → 2 ≤ length word → bytes_eq word (codes "-") ≡ false
long_is_no_dash word long = false_if (bytes_eq word (codes "-")) (λ h.
    let dash : word ≡ codes "-" = (bytes_eq-Decides word (codes "-")).0 h in
    let one : length word ≡ 1 = ap length dash in
    omega (arith, one, long))

long_is_some : (word : List ℕ) → 2 ≤ length word → (length word == 0) ≡ false
long_is_some word long = grind arith

hex_of_code : (word bytes : List ℕ) → 2 ≤ length word → decode_of word ≡ Ok bytes → encode_lower bytes ≡ word → hex_of word ≡ Ok bytes
hex_of_code word bytes long read code =
    let same : bytes_eq (encode_lower bytes) word ≡ true = (bytes_eq-Decides (encode_lower bytes) word).1 code in
    rw (long_is_no_dash word long, long_is_some word long, read, same) refl

pub hex_of_text : (bytes : List ℕ) → IsBytes bytes → hex_of (hex_text bytes) ≡ Ok bytes
hex_of_text [] are = refl
hex_of_text (b ∷ rest) are =
    let all = b ∷ rest in
    let long : length (encode_lower all) ≡ 2 * length all = length-encode_with lower_digits all in
    let some : length all ≡ length rest + 1 = grind (arith, common_steps) in
    hex_of_code (encode_lower all) all (omega (arith, long, some)) (decode_of-encode_lower all are) refl

some_text : (bytes word : List ℕ) → encode_lower bytes ≡ word → (length word == 0) ≡ false → word ≡ hex_text bytes
some_text [] word code some =
    let none : length word ≡ 0 = sym (ap length code) ∙ length-encode_with lower_digits [] in
    absurd (grind (arith, none, some))
some_text (b ∷ rest) word code some = sym code

decoded_text : (d : Result (List ℕ) FromHexError) (word bytes : List ℕ) → decode_of word ≡ d → decoded word d ≡ Ok bytes →
    (encode_lower bytes ≡ word) × IsBytes bytes
decoded_text (Ok v) word bytes read h =
    let was = then_was (bytes_eq (encode_lower v) word) Hex (Ok v) bytes h in
    let code : encode_lower v ≡ word = (bytes_eq-Decides (encode_lower v) word).0 was.0 in
    let ok = decode_of-ok word v read in
    let is : v ≡ bytes = ok_is v bytes was.1 in
    (ap encode_lower (sym is) ∙ code, subst (λ (x : List ℕ). IsBytes x) is ok.3)
decoded_text (Err e) word bytes read h = absurd cc

no_bytes : IsBytes []
no_bytes i = lit< tt

text_by_tests : (t u : Bool) (d : Result (List ℕ) FromHexError) (word bytes : List ℕ) → bytes_eq word (codes "-") ≡ t → (length word == 0) ≡ u →
    decode_of word ≡ d → (if t then Ok [] else (if u then Err Hex else decoded word d)) ≡ Ok bytes → (word ≡ hex_text bytes) × IsBytes bytes
text_by_tests true u d word bytes dash some read h =
    let empty : [] ≡ bytes = cc in
    let none : IsBytes bytes = subst (λ (x : List ℕ). IsBytes x) empty no_bytes in
    ((bytes_eq-Decides word (codes "-")).0 dash ∙ ap hex_text empty, none)
text_by_tests false true d word bytes dash some read h = absurd cc
text_by_tests false false d word bytes dash some read h =
    let was = decoded_text d word bytes read h in
    (some_text bytes word was.0 some, was.1)

pub text_of_hex : (word bytes : List ℕ) → hex_of word ≡ Ok bytes → (word ≡ hex_text bytes) × IsBytes bytes
text_of_hex word bytes h = text_by_tests (bytes_eq word (codes "-")) (length word == 0) (decode_of word) word bytes refl refl refl h

-- ---- no space and no line feed

digit_differs : (c byte : ℕ) → digit_value c < 10 → byte < 48 → c ≢ byte
digit_differs c byte digit low = λ same. grind (arith, common_steps)

lacks_digits : (byte : ℕ) (ds : List ℕ) → byte < 48 → AllDigits 10 ds → Lacks byte ds
lacks_digits byte [] low all = tt
lacks_digits byte (d ∷ ds) low all = (digit_differs d byte all.0 low, lacks_digits byte ds low all.1)

pub lacks_decimal : (byte n : ℕ) → byte < 48 → n < 2 ^ 64 → Lacks byte (decimal n)
lacks_decimal byte n low fits = lacks_digits byte (decimal n) low (decimal_is_IsNumeral n fits).0.1

hex_digit_differs : (c byte : ℕ) → is_hex_digit c ≡ true → byte < 48 → c ≢ byte
hex_digit_differs c byte digit low = λ same. grind (arith, common_steps)

lacks_hex_digits : (byte : ℕ) (ds : List ℕ) → byte < 48 → AllByRecursion (λ c. is_hex_digit c ≡ true) ds → Lacks byte ds
lacks_hex_digits byte [] low all = tt
lacks_hex_digits byte (d ∷ ds) low all = (hex_digit_differs d byte all.0 low, lacks_hex_digits byte ds low all.1)

pub lacks_encoded : (byte : ℕ) (bytes : List ℕ) → byte < 48 → IsBytes bytes → Lacks byte (encode_lower bytes)
lacks_encoded byte bytes low are =
    let ok = decode_of-ok (encode_lower bytes) bytes (decode_of-encode_lower bytes are) in
    lacks_hex_digits byte (encode_lower bytes) low (recursion_from_All (λ c. is_hex_digit c ≡ true) (encode_lower bytes) ok.1)

pub lacks_hex : (byte : ℕ) (bytes : List ℕ) → byte < 45 → IsBytes bytes → Lacks byte (hex_text bytes)
lacks_hex byte [] low are = (λ same. omega (arith, same, low), tt)
lacks_hex byte (b ∷ rest) low are = lacks_encoded byte (b ∷ rest) (omega (arith, low)) are
