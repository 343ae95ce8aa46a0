-- An address is the text of four bytes and a port, in decimal without leading zeros, and no other text is one.
use Rattle.std.proofs.Common.{◌≡◌, ℕ, ◌^◌, ◌<◌, ◌≤◌, ◌==◌, nat_lt, true, false, ◌&&◌, ◌||◌, Bool, List, [], ◌∷◌, ◌++◌, length, get_or, take, drop, Option, Some, None, decimal, refl, sym, ap, subst, ◌∙◌, arith, inl, inr, drop_at, take-append-drop, lit≤, le-ltb, lt-ltb, ne_eqb, eq-eqb, eqb-true, get_or-take}
use Rattle.std.proofs.lemmas.Bool.{and_left, and_right, and_from, both_ways, cases_lt, ltb-false}
use Rattle.std.proofs.lemmas.List.{get_or_append_left, append-nil}
use Rattle.std.proofs.lemmas.Option.{none-some, same_Some}
use Rattle.std.proofs.lemmas.Fmt.{decimal_is_IsNumeral, decimal_digit, first_decimal, decimal-digits_value}
use Rattle.std.proofs.lemmas.Str.Parse.{numerals_by_value, tells_digits}
use Rattle.std.specs.Str.Parse.{digits_value}
use Rattle.std.specs.Net.Reader.{read_number}
use Rattle.std.proofs.NetLemmas.Options.{cond_some, cond_none}
use Rattle.std.proofs.NetLemmas.Numbers.{NoDigit, read_number_some, read_number_sound}
use Rattle.config_walk.specs.Address.{◌>>=◌, past_number, past_byte, past_part, past_ip, is_end, is_address, IsAddress}

-- ---- steps

bind_some : {A B P : Type 0} (o : Option A) (f : A → Option B) (y : B) → (o >>= f) ≡ Some y → ((x : A) → o ≡ Some x → f x ≡ Some y → P) → P
bind_some None f y e k = absurd (none-some y e)
bind_some (Some x) f y e k = k x refl e

both_false : (a b : Bool) → (a || b) ≡ false → (a ≡ false) × (b ≡ false)
both_false true b e = absurd cc
both_false false b e = (refl, e)

one_false : (a b : Bool) → a ≡ false → b ≡ false → (a || b) ≡ false
one_false a b e f = rw (e, f) refl

ends : (o : Option (List ℕ)) → is_end o ≡ true → o ≡ Some []
ends None e = absurd cc
ends (Some []) e = refl
ends (Some (b ∷ rest)) e = absurd (omega (arith, eqb-true (length (b ∷ rest)) 0 e))

-- ---- numbers

-- what stands behind a number is what follows its decimal
pub record IsPast (least most : ℕ) (text rest : List ℕ) : Type 0 where
  pub number : ℕ
  pub low : least ≤ number
  pub high : number ≤ most
  pub spelled : text ≡ decimal number ++ rest
  pub stops : NoDigit 10 rest

-- a decimal has one digit, or begins with another digit than 0
no_leading_zero : (n : ℕ) (rest : List ℕ) → n < 2 ^ 64 → (nat_lt 1 (length (decimal n)) && (get_or (decimal n ++ rest) 0 0 == 48)) ≡ false
no_leading_zero n rest small =
    elim (cases_lt n 10) [
      | inl one ↦ and_left _ _ (le-ltb 1 (length (decimal n)) (omega (arith, ap length (decimal_digit n one))))
      | inr more ↦
          let first = first_decimal n (omega arith) small in
          let same = get_or_append_left (decimal n) rest 0 0 (decimal_is_IsNumeral n small).0.0 in
          and_right _ _ (ne_eqb (get_or (decimal n ++ rest) 0 0) 48 (omega arith))
    ]

past_number_sound : (least most : ℕ) (text rest : List ℕ) → most < 2 ^ 64 → past_number least most text ≡ Some rest → IsPast least most text rest
unfolding past_number
past_number_sound least most text rest fits e =
    bind_some (read_number 10 most text) _ rest e λ n read kept.
    let (test, some) = cond_none _ _ _ kept in
    let (not_low, plain) = both_false _ _ test in
    let (number, within, len, stop) = read_number_sound 10 most text n.0 n.1 (lit≤ tt) read in
    let ds = take n.1 text in
    let rest_is : drop n.1 text ≡ rest = same_Some _ _ some in
    let some_digit : 0 < n.1 = omega (arith, number.0.0) in
    let alone : get_or ds 0 0 ≡ 48 → length ds ≡ 1 = λ zero_first.
    elim (cases_lt 1 n.1) [
      | inl more ↦ absurd (both_ways _ plain (and_from _ _ (lt-ltb _ _ more) (eq-eqb _ _ (sym (get_or-take n.1 text 0 0 some_digit) ∙ zero_first))))
      | inr one ↦ omega arith
    ] in
    let small : digits_value 10 ds < 2 ^ 64 = omega (arith, number.1) in
    let spelled = decimal-digits_value (numerals_by_value _ tells_digits) ds number.0.1 number.0.0 alone small in
    record {
      number = n.0;
      low = ltb-false n.0 least not_low;
      high = within;
      spelled = rw (← number.1, spelled, ← rest_is) (sym (take-append-drop n.1 text));
      stops = rw (← rest_is) stop;
    }

past_number_complete : (least most n : ℕ) (rest : List ℕ) → most < 2 ^ 64 → least ≤ n → n ≤ most → NoDigit 10 rest → past_number least most (decimal n ++ rest) ≡ Some rest
unfolding past_number
past_number_complete least most n rest fits low high stop =
    let small : n < 2 ^ 64 = omega arith in
    let (numeral, value) = decimal_is_IsNumeral n small in
    let read = read_number_some 10 most (decimal n) rest numeral (omega (arith, value)) stop in
    rw (read, value, one_false _ _ (le-ltb n least low) (no_leading_zero n rest small), drop_at (decimal n) rest _ refl) refl

-- ---- parts

past_byte_sound : (byte : ℕ) (text rest : List ℕ) → past_byte byte text ≡ Some rest → text ≡ byte ∷ rest
past_byte_sound byte [] rest e = absurd (none-some rest e)
past_byte_sound byte (c ∷ text) rest e =
    let (same, tail) = cond_some _ _ _ e in
    rw (eqb-true c byte same, tail) refl

past_byte_complete : (byte : ℕ) (rest : List ℕ) → past_byte byte (byte ∷ rest) ≡ Some rest
past_byte_complete byte rest = rw (eq-eqb byte byte refl) refl

-- a part of 0 to 255 and a byte that is no digit
record IsPastPart (byte : ℕ) (text rest : List ℕ) : Type 0 where
  number : ℕ
  few : number < 256
  spelled : text ≡ decimal number ++ byte ∷ rest

past_part_sound : (byte : ℕ) (text rest : List ℕ) → past_part byte text ≡ Some rest → IsPastPart byte text rest
past_part_sound byte text rest e =
    bind_some (past_number 0 255 text) _ rest e λ behind read kept.
    let n = past_number_sound 0 255 text behind (lit≤ tt) read in
    record {
      number = n.number;
      few = omega (arith, n.high);
      spelled = n.spelled ∙ ap (λ t. decimal n.number ++ t) (past_byte_sound byte behind rest kept);
    }

past_part_complete : (byte n : ℕ) (rest : List ℕ) → n < 256 → NoDigit 10 (byte ∷ rest) → past_part byte (decimal n ++ byte ∷ rest) ≡ Some rest
past_part_complete byte n rest few stop =
    rw (past_number_complete 0 255 n (byte ∷ rest) (lit≤ tt) (omega arith) (omega arith) stop) (past_byte_complete byte rest)

-- ---- addresses

joined : (text second third fourth port a b c d p : List ℕ) → text ≡ a ++ 46 ∷ second → second ≡ b ++ 46 ∷ third → third ≡ c ++ 46 ∷ fourth → fourth ≡ d ++ 58 ∷ port → port ≡ p → text ≡ a ++ 46 ∷ (b ++ 46 ∷ (c ++ 46 ∷ (d ++ 58 ∷ p)))
joined text second third fourth port a b c d p e₁ e₂ e₃ e₄ e₅ = rw (e₁, e₂, e₃, e₄, e₅) refl

pub address_is : (text : List ℕ) → is_address text ≡ true → IsAddress text
unfolding past_ip
address_is text e =
    bind_some (past_ip text) (past_number 1 65535) [] (ends _ e) λ port read_ip read_port.
    bind_some (past_part 46 text) _ port read_ip λ second read_a e₁.
    bind_some (past_part 46 second) _ port e₁ λ third read_b e₂.
    bind_some (past_part 46 third) _ port e₂ λ fourth read_c read_d.
    let a = past_part_sound 46 text second read_a in
    let b = past_part_sound 46 second third read_b in
    let c = past_part_sound 46 third fourth read_c in
    let d = past_part_sound 58 fourth port read_d in
    let p = past_number_sound 1 65535 port [] (lit≤ tt) read_port in
    let port_is : port ≡ decimal p.number = p.spelled ∙ append-nil (decimal p.number) in
    record {
      a = a.number;
      b = b.number;
      c = c.number;
      d = d.number;
      port = p.number;
      bytes = (a.few, b.few, c.few, d.few);
      above = p.low;
      short = omega (arith, p.high);
      spelled = joined text second third fourth port _ _ _ _ _ a.spelled b.spelled c.spelled d.spelled port_is;
    }

pub is_an_address : (text : List ℕ) → IsAddress text → is_address text ≡ true
unfolding past_ip
is_an_address text h =
    let port = past_number_complete 1 65535 h.port [] (lit≤ tt) h.above (omega (arith, h.short)) (lit≤ tt) in
    let whole : past_number 1 65535 (decimal h.port) ≡ Some [] = subst (λ t. past_number 1 65535 t ≡ Some []) (append-nil (decimal h.port)) port in
    rw (
      h.spelled,
      past_part_complete 46 h.a _ h.bytes.0 (lit≤ tt),
      past_part_complete 46 h.b _ h.bytes.1 (lit≤ tt),
      past_part_complete 46 h.c _ h.bytes.2 (lit≤ tt),
      past_part_complete 58 h.d _ h.bytes.3 (lit≤ tt),
      whole,
    ) refl
