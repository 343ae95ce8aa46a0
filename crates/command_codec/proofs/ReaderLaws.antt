-- What a field's reader takes is the field's spelling, and what is spelled so is read.
use Rattle.std.proofs.Common.{◌≡◌, ℕ, suc, ◌+◌, ◌^◌, ◌<◌, ◌≤◌, Bool, true, false, List, [], ◌∷◌, ◌++◌, length, get_or, take, drop, Result, Ok, Err, refl, sym, ap, subst, ◌∙◌, append_assoc, arith, inl, inr, nat_lt, if◌then◌else◌, IsTrue}
use Rattle.std.specs.Int.{Width, w16, w32, w64, byte_len, from_be_bytes}
use Rattle.std.proofs.lemmas.Bool.{cases_lt, ltb-false, le-ltb}
use Rattle.std.proofs.lemmas.List.{take_at, drop_at, take-append-drop, length-append, length-take, get_or-drop, get_or-take, get_or_past}
use Rattle.std.proofs.lemmas.Nat.{be_bytes_2, be_bytes_4, be_bytes_8, from_be_bytes-to_be_bytes_2, from_be_bytes-to_be_bytes_4, from_be_bytes-to_be_bytes_8}
use Rattle.command_codec.specs.declared.fault.CodecFault.{CodecFault}
use Rattle.command_codec.specs.declared.fault.CodecFault.TheVariants.{Short, BadField, TooLong}
use Rattle.command_codec.specs.Fields.{u16_bytes, u32_bytes, u64_bytes, string16}
use Rattle.mrp_types.specs.Reading.{◌>>=◌}
use Rattle.command_codec.specs.Reader.{Spot, Reader, byte_of, byte_at, bytes_at, number_at, within, length_at, string_at, string_that}

-- ---- bytes

abbrev pub AreBytes : List ℕ → Type 0
AreBytes bytes = (i : ℕ) → get_or bytes i 0 < 256

drop_are : (n : ℕ) (bytes : List ℕ) → AreBytes bytes → AreBytes (drop n bytes)
drop_are n bytes are i = rw get_or-drop (are (n + i))

take_are : (n : ℕ) (bytes : List ℕ) → AreBytes bytes → AreBytes (take n bytes)
take_are n bytes are i =
    elim (cases_lt i n) [
      | inl less ↦ rw (get_or-take n bytes i 0 less) (are i)
      | inr most ↦ rw (get_or_past (take n bytes) i 0 (omega (arith, length-take n bytes))) (omega arith)
    ]

pub rest_are : (b : ℕ) (bytes : List ℕ) → AreBytes (b ∷ bytes) → AreBytes bytes
rest_are b bytes are i = are (suc i)

-- ---- steps

-- a step that found no fault had one before it that found none
pub bound : {A B : Type 0} (r : Result A CodecFault) (f : A → Result B CodecFault) (y : B) → (r >>= f) ≡ Ok y → (x : A) × (r ≡ Ok x) × (f x ≡ Ok y)
bound (Ok x) f y h = (x, refl, h)
bound (Err e) f y h = absurd cc

abbrev pub done : {A : Type 0} → A → Result A CodecFault
done x = Ok x

pub ok_is : {A : Type 0} (x y : A) → done x ≡ done y → x ≡ y
ok_is x y h = cc

-- where a test chose a value over a fault
pub then_was : {A : Type 0} (t : Bool) (fault : CodecFault) (x y : A) → (if t then Ok x else Err fault) ≡ Ok y → (t ≡ true) × (x ≡ y)
then_was true fault x y h = (refl, cc)
then_was false fault x y h = absurd cc

pub else_was : {A : Type 0} (t : Bool) (fault : CodecFault) (r : Result A CodecFault) (y : A) → (if t then Err fault else r) ≡ Ok y → (t ≡ false) × (r ≡ Ok y)
else_was true fault r y h = absurd cc
else_was false fault r y h = (refl, h)

-- ---- a field

-- the bytes at a spot are a text and what is left
pub record Took (spot : Spot) (text : List ℕ) (left : Spot) : Type 0 where
  pub parts : spot.rest ≡ text ++ left.rest
  pub bytes : AreBytes left.rest

pub took_both : (a : Spot) (x : List ℕ) (b : Spot) (y : List ℕ) (c : Spot) → Took a x b → Took b y c → Took a (x ++ y) c
took_both a x b y c first second = record {
  parts = first.parts ∙ ap (λ (t : List ℕ). x ++ t) second.parts ∙ sym (append_assoc x y c.rest);
  bytes = second.bytes;
}

-- a reader read the text of a value
abbrev pub Again : (V : Type 0) → Reader V → (V → List ℕ) → V → ℕ → List ℕ → Type 0
Again V read text value at tail = (behind : ℕ) × (read (record { at = at; rest = text value ++ tail }) ≡ Ok (value, record { at = behind; rest = tail }))

-- the two laws of a reader: it takes just the text of a value that may stand there, and takes each of these
pub record Field (V : Type 0) (read : Reader V) (text : V → List ℕ) (Is : V → Type 0) : Type 0 where
  pub was : (spot : Spot) (x : V × Spot) → AreBytes spot.rest → read spot ≡ Ok x → Took spot (text x.0) x.1 × Is x.0
  pub again : (value : V) (at : ℕ) (tail : List ℕ) → Is value → Again V read text value at tail

-- ---- one byte

abbrev pub one_byte : ℕ → List ℕ
one_byte b = b ∷ []

byte_was : (at : ℕ) (rest : List ℕ) (x : ℕ × Spot) → AreBytes rest → byte_of at rest ≡ Ok x → Took (record { at = at; rest = rest }) (one_byte x.0) x.1 × (x.0 < 256)
byte_was at [] x are h = absurd cc
byte_was at (b ∷ rest) x are h =
    subst (λ (y : ℕ × Spot). Took (record { at = at; rest = b ∷ rest }) (one_byte y.0) y.1 × (y.0 < 256)) (ok_is (b, record { at = at + 1; rest = rest }) x h)
    (record { parts = refl; bytes = rest_are b rest are }, are 0)

pub byte_law : Field ℕ byte_at one_byte (λ n. n < 256)
byte_law = record {
  was = λ spot x are h. byte_was spot.at spot.rest x are h;
  again = λ value at tail is. (at + 1, refl);
}

-- the same where nothing is asked of the byte
pub any_byte_law : Field ℕ byte_at one_byte (λ n. Unit {0})
any_byte_law = record {
  was = λ spot x are h. ((byte_was spot.at spot.rest x are h).0, tt);
  again = λ value at tail is. (at + 1, refl);
}

-- ---- so many bytes

bytes_was : (count : ℕ) (spot : Spot) (x : List ℕ × Spot) → AreBytes spot.rest → bytes_at count spot ≡ Ok x → Took spot x.0 x.1 × (length x.0 ≡ count) × AreBytes x.0
unfolding bytes_at
bytes_was count spot x are h =
    let g = else_was (nat_lt (length spot.rest) count) (Short spot.at) (Ok (take count spot.rest, record { at = spot.at + count; rest = drop count spot.rest })) x h in
    let long : count ≤ length spot.rest = ltb-false _ _ g.0 in
    subst (λ (y : List ℕ × Spot). Took spot y.0 y.1 × (length y.0 ≡ count) × AreBytes y.0) (ok_is _ x g.1)
    (record { parts = sym (take-append-drop count spot.rest); bytes = drop_are count spot.rest are }, omega (arith, length-take count spot.rest), take_are count spot.rest are)

bytes_again : (value : List ℕ) (at : ℕ) (tail : List ℕ) → Again (List ℕ) (bytes_at (length value)) (λ v. v) value at tail
unfolding bytes_at
bytes_again value at tail =
    let long : nat_lt (length (value ++ tail)) (length value) ≡ false = le-ltb _ _ (omega (arith, length-append value tail)) in
    (at + length value, rw (long, take_at value tail (length value) refl, drop_at value tail (length value) refl) refl)

-- ---- numbers

-- numbers below a limit have a spelling of one length
pub record IsWide (w : Width) (limit : ℕ) (text : ℕ → List ℕ) : Type 0 where
  pub back : (bytes : List ℕ) → length bytes ≡ byte_len w → AreBytes bytes → text (from_be_bytes w bytes) ≡ bytes
  pub wide : (n : ℕ) → length (text n) ≡ byte_len w
  pub forth : (n : ℕ) → n < limit → from_be_bytes w (text n) ≡ n
  pub below : (bytes : List ℕ) → length bytes ≡ byte_len w → AreBytes bytes → from_be_bytes w bytes < limit

pub wide16 : IsWide w16 (2 ^ 16) u16_bytes
unfolding u16_bytes
wide16 = record {
  back = λ bytes long are. be_bytes_2 bytes _ long are refl;
  wide = λ n. refl;
  forth = λ n less. from_be_bytes-to_be_bytes_2 n less;
  below = λ bytes long are. omega (arith, are 0, are 1);
}

pub wide32 : IsWide w32 (2 ^ 32) u32_bytes
unfolding u32_bytes
wide32 = record {
  back = λ bytes long are. be_bytes_4 bytes _ long are refl;
  wide = λ n. refl;
  forth = λ n less. from_be_bytes-to_be_bytes_4 n less;
  below = λ bytes long are. omega (arith, are 0, are 1, are 2, are 3);
}

pub wide64 : IsWide w64 (2 ^ 64) u64_bytes
unfolding u64_bytes
wide64 = record {
  back = λ bytes long are. be_bytes_8 bytes _ long are refl;
  wide = λ n. refl;
  forth = λ n less. from_be_bytes-to_be_bytes_8 n less;
  below = λ bytes long are. omega (arith, are 0, are 1, are 2, are 3, are 4, are 5, are 6, are 7);
}

number_was : (w : Width) (limit : ℕ) (text : ℕ → List ℕ) → IsWide w limit text → (spot : Spot) (x : ℕ × Spot) → AreBytes spot.rest → number_at w spot ≡ Ok x →
    Took spot (text x.0) x.1 × (x.0 < limit)
unfolding number_at
number_was w limit text wide spot x are h =
    let b = bound (bytes_at (byte_len w) spot) (λ bytes. Ok (from_be_bytes w bytes.0, bytes.1)) x h in
    let t = bytes_was (byte_len w) spot b.0 are b.1 in
    subst (λ (y : ℕ × Spot). Took spot (text y.0) y.1 × (y.0 < limit)) (ok_is (from_be_bytes w b.0.0, b.0.1) x b.2)
    (record { parts = t.0.parts ∙ ap (λ (a : List ℕ). a ++ b.0.1.rest) (sym (wide.back b.0.0 t.1 t.2)); bytes = t.0.bytes }, wide.below b.0.0 t.1 t.2)

number_again : (w : Width) (limit : ℕ) (text : ℕ → List ℕ) → IsWide w limit text → (value at : ℕ) (tail : List ℕ) → value < limit → Again ℕ (number_at w) text value at tail
unfolding number_at
number_again w limit text wide value at tail less =
    let b = bytes_again (text value) at tail in
    let bytes : bytes_at (byte_len w) (record { at = at; rest = text value ++ tail }) ≡ Ok (text value, record { at = b.0; rest = tail }) = subst (λ (n : ℕ). bytes_at n (record { at = at; rest = text value ++ tail }) ≡ Ok (text value, record { at = b.0; rest = tail })) (wide.wide value) b.1 in
    (b.0, rw (bytes, wide.forth value less) refl)

pub number_law : (w : Width) (limit : ℕ) (text : ℕ → List ℕ) → IsWide w limit text → Field ℕ (number_at w) text (λ n. n < limit)
number_law w limit text wide = record {
  was = number_was w limit text wide;
  again = number_again w limit text wide;
}

-- ---- a range

not_below : (a b : ℕ) → nat_lt a b ≡ false → b ≤ a
not_below a b h = ltb-false a b h

within_was : (least most : ℕ) (read : Reader ℕ) (text : ℕ → List ℕ) (Is : ℕ → Type 0) → Field ℕ read text Is → (spot : Spot) (x : ℕ × Spot) → AreBytes spot.rest → within least most read spot ≡ Ok x →
    Took spot (text x.0) x.1 × (Is x.0 × (least ≤ x.0) × (x.0 ≤ most))
unfolding within
within_was least most read text Is law spot x are h =
    let b = bound (read spot) (λ number. if nat_lt number.0 least then Err (BadField spot.at) else (if nat_lt most number.0 then Err (BadField spot.at) else Ok number)) x h in
    let low = else_was (nat_lt b.0.0 least) (BadField spot.at) (if nat_lt most b.0.0 then Err (BadField spot.at) else Ok b.0) x b.2 in
    let high = else_was (nat_lt most b.0.0) (BadField spot.at) (Ok b.0) x low.1 in
    let t = law.was spot b.0 are b.1 in
    subst (λ (y : ℕ × Spot). Took spot (text y.0) y.1 × (Is y.0 × (least ≤ y.0) × (y.0 ≤ most))) (ok_is b.0 x high.1)
    (t.0, (t.1, not_below b.0.0 least low.0, not_below most b.0.0 high.0))

within_again : (least most : ℕ) (read : Reader ℕ) (text : ℕ → List ℕ) (Is : ℕ → Type 0) → Field ℕ read text Is → (value at : ℕ) (tail : List ℕ) → (Is value × (least ≤ value) × (value ≤ most)) →
    Again ℕ (within least most read) text value at tail
unfolding within
within_again least most read text Is law value at tail is =
    let r = law.again value at tail is.0 in
    let low : nat_lt value least ≡ false = le-ltb _ _ is.1 in
    let high : nat_lt most value ≡ false = le-ltb _ _ is.2 in
    (r.0, rw (r.1, low, high) refl)

pub within_law : (least most : ℕ) (read : Reader ℕ) (text : ℕ → List ℕ) (Is : ℕ → Type 0) → Field ℕ read text Is →
    Field ℕ (within least most read) text (λ n. Is n × (least ≤ n) × (n ≤ most))
within_law least most read text Is law = record {
  was = within_was least most read text Is law;
  again = within_again least most read text Is law;
}

-- ---- strings

length_was : (least most : ℕ) (spot : Spot) (x : ℕ × Spot) → AreBytes spot.rest → length_at least most spot ≡ Ok x → Took spot (u16_bytes x.0) x.1 × ((least ≤ x.0) × (x.0 ≤ most))
unfolding length_at
length_was least most spot x are h =
    let b = bound (number_at w16 spot) (λ number. if nat_lt number.0 least then Err (BadField spot.at) else (if nat_lt most number.0 then Err (TooLong spot.at) else Ok number)) x h in
    let low = else_was (nat_lt b.0.0 least) (BadField spot.at) (if nat_lt most b.0.0 then Err (TooLong spot.at) else Ok b.0) x b.2 in
    let high = else_was (nat_lt most b.0.0) (TooLong spot.at) (Ok b.0) x low.1 in
    let t = number_was w16 (2 ^ 16) u16_bytes wide16 spot b.0 are b.1 in
    subst (λ (y : ℕ × Spot). Took spot (u16_bytes y.0) y.1 × ((least ≤ y.0) × (y.0 ≤ most))) (ok_is b.0 x high.1)
    (t.0, (not_below b.0.0 least low.0, not_below most b.0.0 high.0))

length_again : (least most : ℕ) → most < 2 ^ 16 → (value at : ℕ) (tail : List ℕ) → least ≤ value → value ≤ most → Again ℕ (length_at least most) u16_bytes value at tail
unfolding length_at
length_again least most fits value at tail some few =
    let r = number_again w16 (2 ^ 16) u16_bytes wide16 value at tail (omega arith) in
    let low : nat_lt value least ≡ false = le-ltb _ _ some in
    let high : nat_lt most value ≡ false = le-ltb _ _ few in
    (r.0, rw (r.1, low, high) refl)

-- a list of bytes whose length is in a range
abbrev pub HasLength : ℕ → ℕ → List ℕ → Type 0
HasLength least most bytes = (least ≤ length bytes) × (length bytes ≤ most)

-- a length and as many bytes
string_took : (spot : Spot) (n : ℕ) (middle : Spot) (bytes : List ℕ) (left : Spot) → Took spot (u16_bytes n) middle → Took middle bytes left → length bytes ≡ n → Took spot (string16 bytes) left
string_took spot n middle bytes left first second long =
    took_both spot (u16_bytes (length bytes)) middle bytes left (subst (λ (k : ℕ). Took spot (u16_bytes k) middle) (sym long) first) second

string_was : (least most : ℕ) (spot : Spot) (x : List ℕ × Spot) → AreBytes spot.rest → string_at least most spot ≡ Ok x → Took spot (string16 x.0) x.1 × HasLength least most x.0
unfolding string_at
string_was least most spot x are h =
    let b = bound (length_at least most spot) (λ number. bytes_at number.0 number.1) x h in
    let t = length_was least most spot b.0 are b.1 in
    let u = bytes_was b.0.0 b.0.1 x t.0.bytes b.2 in
    (string_took spot b.0.0 b.0.1 x.0 x.1 t.0 u.0 u.1, (omega (arith, t.1.0, u.1), omega (arith, t.1.1, u.1)))

string_again : (least most : ℕ) → most < 2 ^ 16 → (value : List ℕ) (at : ℕ) (tail : List ℕ) → HasLength least most value → Again (List ℕ) (string_at least most) string16 value at tail
unfolding string_at
string_again least most fits value at tail is =
    let r = length_again least most fits (length value) at (value ++ tail) is.0 is.1 in
    let b = bytes_again value r.0 tail in
    let text : string16 value ++ tail ≡ u16_bytes (length value) ++ (value ++ tail) = append_assoc (u16_bytes (length value)) value tail in
    (b.0, rw (text, r.1) b.1)

pub string_law : (least most : ℕ) → most < 2 ^ 16 → Field (List ℕ) (string_at least most) string16 (HasLength least most)
string_law least most fits = record {
  was = string_was least most;
  again = string_again least most fits;
}

string_that_was : (least most : ℕ) (test : List ℕ → Bool) (spot : Spot) (x : List ℕ × Spot) → AreBytes spot.rest → string_that least most test spot ≡ Ok x →
    Took spot (string16 x.0) x.1 × (HasLength least most x.0 × IsTrue (test x.0))
unfolding string_that
string_that_was least most test spot x are h =
    let b = bound (length_at least most spot) (λ number. bytes_at number.0 number.1 >>= λ bytes. if test bytes.0 then Ok bytes else Err (BadField number.1.at)) x h in
    let c = bound (bytes_at b.0.0 b.0.1) (λ bytes. if test bytes.0 then Ok bytes else Err (BadField b.0.1.at)) x b.2 in
    let g = then_was (test c.0.0) (BadField b.0.1.at) c.0 x c.2 in
    let t = length_was least most spot b.0 are b.1 in
    let u = bytes_was b.0.0 b.0.1 c.0 t.0.bytes c.1 in
    let is : IsTrue (test c.0.0) = g.0 in
    subst (λ (y : List ℕ × Spot). Took spot (string16 y.0) y.1 × (HasLength least most y.0 × IsTrue (test y.0))) g.1
    (string_took spot b.0.0 b.0.1 c.0.0 c.0.1 t.0 u.0 u.1, ((omega (arith, t.1.0, u.1), omega (arith, t.1.1, u.1)), is))

string_that_again : (least most : ℕ) (test : List ℕ → Bool) → most < 2 ^ 16 → (value : List ℕ) (at : ℕ) (tail : List ℕ) → (HasLength least most value × IsTrue (test value)) →
    Again (List ℕ) (string_that least most test) string16 value at tail
unfolding string_that
string_that_again least most test fits value at tail is =
    let r = length_again least most fits (length value) at (value ++ tail) is.0.0 is.0.1 in
    let b = bytes_again value r.0 tail in
    let text : string16 value ++ tail ≡ u16_bytes (length value) ++ (value ++ tail) = append_assoc (u16_bytes (length value)) value tail in
    let passes : test value ≡ true = is.1 in
    (b.0, rw (text, r.1, b.1, passes) refl)

pub string_that_law : (least most : ℕ) (test : List ℕ → Bool) → most < 2 ^ 16 → Field (List ℕ) (string_that least most test) string16 (λ v. HasLength least most v × IsTrue (test v))
string_that_law least most test fits = record {
  was = string_that_was least most test;
  again = string_that_again least most test fits;
}
