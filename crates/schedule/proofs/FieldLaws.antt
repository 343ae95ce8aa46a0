-- Each kind of word is read as it is spelled, and what is read is spelled so.
use Rattle.std.proofs.Common.{arith, lit<, zero, suc, ◌≡◌, ◌≤◌, ◌<◌, ℕ, ◌^◌, ◌+◌, List, [], ◌∷◌, ◌++◌, length, refl, sym, ap, ◌∙◌, subst, nat_lt, nat_le, ◌&&◌, if◌then◌else◌, Bool, true, Ok, Err, IsTrue, append_assoc}
use Rattle.std.proofs.Math.Path.{ap₂}
use Rattle.std.specs.Prelude.{Result, map}
use Rattle.std.specs.List.{AllByRecursion}
use Rattle.std.specs.Fmt.{decimal}
use Rattle.hex.specs.Hex.{encode_lower, IsBytes}
use Rattle.text_lines.specs.declared.fault.TextFault.{TextFault}
use Rattle.text_lines.specs.declared.fault.TextFault.TheVariants.{Range, Left}
use Rattle.text_lines.specs.Split.{pieces_of}
use Rattle.text_lines.specs.Text.{hex_text, joined_by}
use Rattle.mrp_types.specs.Reading.{◌>>=◌}
use Rattle.text_lines.specs.Reading.{number_of, hex_of, end_at}
use Rattle.text_lines.proofs.Laws.{Lacks, pieces_of_joined, joined_pieces_of}
use Rattle.text_lines.proofs.Inverse.{bound, then_was, else_was, ok_is, number_of_decimal, decimal_of_number, hex_of_text, text_of_hex, lacks_decimal, lacks_encoded, lacks_hex}
use Rattle.text_lines.proofs.Numbers.{some_piece}
use Rattle.text_lines.proofs.WordLaws.{Field, lacks_joined}
use Rattle.mrp_types.specs.declared.id.LogId.{LogId}
use Rattle.mrp_types.proofs.TestLemmas.{both, below as is_below, not_above, at_most}
use Rattle.command_codec.specs.Valid.{rises_from}
use Rattle.schedule.specs.Fields.{ranged, number_in, known, bytes_in, single, byte_of, logs_from, logs_of}
use Rattle.schedule.specs.Spelling.{logs_text, IsWithin, IsKnown, AreBytes, AreLogs}

-- ---- ranges

ranged_was : {V : Type 0} (least most size : ℕ) (v x : V) → ranged least most size v ≡ Ok x → IsWithin least most size × (v ≡ x)
ranged_was least most size v x h =
    let low = else_was (nat_lt size least) Range (if nat_lt most size then Err Range else Ok v) x h in
    let high = else_was (nat_lt most size) Range (Ok v) x low.1 in
    let enough : least ≤ size = at_most least size low.0 in
    let few : size ≤ most = at_most size most high.0 in
    ((enough, few), ok_is v x high.1)

-- ---- numbers

pub any : Field number_of decimal (λ n. n < 2 ^ 64)
any = record {
  read = λ n fits. number_of_decimal n fits;
  was = decimal_of_number;
  lacks = λ byte low n fits. lacks_decimal byte n (omega (arith, low)) fits;
}

number_read : (least most n : ℕ) → most < 2 ^ 64 → IsWithin least most n → number_in least most (decimal n) ≡ Ok n
unfolding number_in
number_read least most n small is =
    let fits : n < 2 ^ 64 = omega (arith, small, is.1) in
    rw (number_of_decimal n fits, not_above least n is.0, not_above n most is.1) refl

number_was : (least most : ℕ) (word : List ℕ) (n : ℕ) → number_in least most word ≡ Ok n → (word ≡ decimal n) × IsWithin least most n
unfolding number_in
number_was least most word n h =
    let step = bound (number_of word) (λ k. ranged least most k k) n h in
    let was = ranged_was least most step.0 step.0 n step.2 in
    ((decimal_of_number word step.0 step.1).0 ∙ ap decimal was.1, subst (λ (k : ℕ). IsWithin least most k) was.1 was.0)

pub number : (least most : ℕ) → most < 2 ^ 64 → Field (number_in least most) decimal (IsWithin least most)
number least most small = record {
  read = λ n is. number_read least most n small is;
  was = number_was least most;
  lacks = λ byte low n is. lacks_decimal byte n (omega (arith, low)) (omega (arith, small, is.1));
}

known_read : (test : ℕ → Bool) (n : ℕ) → IsKnown test n → known test (decimal n) ≡ Ok n
unfolding known
known_read test n is = rw (number_read 0 255 n (lit< tt) is.0, is.1) refl

known_was : (test : ℕ → Bool) (word : List ℕ) (n : ℕ) → known test word ≡ Ok n → (word ≡ decimal n) × IsKnown test n
unfolding known
known_was test word n h =
    let step = bound (number_in 0 255 word) (λ k. if test k then Ok k else Err Range) n h in
    let passed = then_was (test step.0) Range (Ok step.0) n step.2 in
    let same : step.0 ≡ n = ok_is step.0 n passed.1 in
    let was = number_was 0 255 word step.0 step.1 in
    (was.0 ∙ ap decimal same, subst (λ (k : ℕ). IsKnown test k) same (was.1, passed.0))

pub known_number : (test : ℕ → Bool) → Field (known test) decimal (IsKnown test)
known_number test = record {
  read = known_read test;
  was = known_was test;
  lacks = λ byte low n is. lacks_decimal byte n (omega (arith, low)) (omega (arith, is.0.1));
}

-- ---- bytes

bytes_read : (least most : ℕ) (bytes : List ℕ) → AreBytes least most bytes → bytes_in least most (hex_text bytes) ≡ Ok bytes
unfolding bytes_in
bytes_read least most bytes are = rw (hex_of_text bytes are.0, not_above least (length bytes) are.1.0, not_above (length bytes) most are.1.1) refl

bytes_were : (least most : ℕ) (word bytes : List ℕ) → bytes_in least most word ≡ Ok bytes → (word ≡ hex_text bytes) × AreBytes least most bytes
unfolding bytes_in
bytes_were least most word bytes h =
    let step = bound (hex_of word) (λ (b : List ℕ). ranged least most (length b) b) bytes h in
    let was = ranged_was least most (length step.0) step.0 bytes step.2 in
    let text = text_of_hex word step.0 step.1 in
    (text.0 ∙ ap hex_text was.1, subst (λ (b : List ℕ). AreBytes least most b) was.1 (text.1, was.0))

pub bytes : (least most : ℕ) → Field (bytes_in least most) hex_text (AreBytes least most)
bytes least most = record {
  read = bytes_read least most;
  was = bytes_were least most;
  lacks = λ byte low bs are. lacks_hex byte bs (omega (arith, low)) are.0;
}

one_byte : (b : ℕ) → b < 256 → IsBytes (b ∷ [])
one_byte b fits zero = fits
one_byte b fits (suc i) = lit< tt

byte_read : (b : ℕ) → b < 256 → byte_of (encode_lower (b ∷ [])) ≡ Ok b
unfolding byte_of
byte_read b fits = rw (hex_of_text (b ∷ []) (one_byte b fits)) refl

single_was : (bs : List ℕ) (b : ℕ) → single bs ≡ Ok b → bs ≡ b ∷ []
single_was [] b h = absurd cc
single_was (x ∷ []) b h = ap (λ (y : ℕ). y ∷ []) (ok_is x b h)
single_was (x ∷ y ∷ rest) b h = absurd cc

byte_was : (word : List ℕ) (b : ℕ) → byte_of word ≡ Ok b → (word ≡ encode_lower (b ∷ [])) × (b < 256)
unfolding byte_of
byte_was word b h =
    let step = bound (hex_of word) single b h in
    let same = single_was step.0 b step.2 in
    let text = text_of_hex word step.0 step.1 in
    let are : IsBytes (b ∷ []) = subst (λ (bs : List ℕ). IsBytes bs) same text.1 in
    (text.0 ∙ ap hex_text same, are 0)

pub byte : Field byte_of (λ b. encode_lower (b ∷ [])) (λ b. b < 256)
byte = record {
  read = byte_read;
  was = byte_was;
  lacks = λ low_byte low b fits. lacks_encoded low_byte (b ∷ []) (omega (arith, low)) (one_byte b fits);
}

-- ---- logs

abbrev pub texts_of : List LogId → List (List ℕ)
texts_of logs = map (λ (log : LogId). decimal log.0) logs

log_within : (least n : ℕ) → nat_le least n ≡ true → nat_lt n 64 ≡ true → IsWithin least 63 n
log_within least n low high =
    let enough : least ≤ n = grind arith in
    let few : n < 64 = is_below n 64 high in
    (enough, omega (arith, few))

logs_read : (least : ℕ) (logs : List LogId) → IsTrue (rises_from least logs) → logs_from least (texts_of logs) ≡ Ok logs
logs_read least [] rise = refl
logs_read least (log ∷ logs) rise =
    let first = both (nat_le least log.0) (nat_lt log.0 64 && rises_from (log.0 + 1) logs) rise in
    let second = both (nat_lt log.0 64) (rises_from (log.0 + 1) logs) first.1 in
    rw (number_read least 63 log.0 (lit< tt) (log_within least log.0 first.0 second.0), logs_read (log.0 + 1) logs second.1) refl

rises : (least n : ℕ) (logs : List LogId) → IsWithin least 63 n → IsTrue (rises_from (n + 1) logs) → IsTrue (rises_from least (record { 0 = n } ∷ logs))
rises least n logs is rise =
    let low : nat_le least n ≡ true = grind (arith, is.0) in
    let high : nat_lt n 64 ≡ true = grind (arith, is.1) in
    rw (low, high) rise

logs_were : (least : ℕ) (pieces : List (List ℕ)) (logs : List LogId) → logs_from least pieces ≡ Ok logs → (pieces ≡ texts_of logs) × IsTrue (rises_from least logs)
logs_were least [] logs h =
    let same : [] ≡ logs = ok_is [] logs h in
    subst (λ (l : List LogId). ([] ≡ texts_of l) × IsTrue (rises_from least l)) same (refl, refl)
logs_were least (piece ∷ pieces) logs h =
    let one = bound (number_in least 63 piece) (λ n. logs_from (n + 1) pieces >>= λ (ls : List LogId). Ok (record { 0 = n } ∷ ls)) logs h in
    let n = one.0 in
    let two = bound (logs_from (n + 1) pieces) (λ (ls : List LogId). Ok (record { 0 = n } ∷ ls)) logs one.2 in
    let first = number_was least 63 piece n one.1 in
    let others = logs_were (n + 1) pieces two.0 two.1 in
    subst (λ (l : List LogId). (piece ∷ pieces ≡ texts_of l) × IsTrue (rises_from least l)) (ok_is (record { 0 = n } ∷ two.0) logs two.2)
    (ap₂ (λ (p : List ℕ) (ps : List (List ℕ)). p ∷ ps) first.0 others.0, rises least n two.0 first.1 others.1)

lacks_texts : (byte least : ℕ) → byte < 48 → (logs : List LogId) → IsTrue (rises_from least logs) → AllByRecursion (Lacks byte) (texts_of logs)
lacks_texts byte least low [] rise = tt
lacks_texts byte least low (log ∷ logs) rise =
    let first = both (nat_le least log.0) (nat_lt log.0 64 && rises_from (log.0 + 1) logs) rise in
    let second = both (nat_lt log.0 64) (rises_from (log.0 + 1) logs) first.1 in
    let small : log.0 < 64 = is_below log.0 64 second.0 in
    (lacks_decimal byte log.0 low (omega (arith, small)), lacks_texts byte (log.0 + 1) low logs second.1)

pieces_of_logs : (logs : List LogId) → AreLogs logs → pieces_of 44 (logs_text logs) ≡ texts_of logs
pieces_of_logs [] are = absurd (omega (arith, are.0))
pieces_of_logs (log ∷ logs) are = pieces_of_joined 44 (decimal log.0) (texts_of logs) (lacks_texts 44 0 (lit< tt) (log ∷ logs) are.1)

logs_text_read : (logs : List LogId) → AreLogs logs → logs_of (logs_text logs) ≡ Ok logs
unfolding logs_of
logs_text_read logs are = rw (pieces_of_logs logs are) (logs_read 0 logs are.1)

some_logs : (word : List ℕ) (logs : List LogId) → pieces_of 44 word ≡ texts_of logs → 1 ≤ length logs
some_logs word [] none =
    let wrong : Ok tt ≡ Err Left = ap end_at (sym none) ∙ some_piece 44 word in
    absurd cc
some_logs word (log ∷ logs) is = grind arith

logs_text_was : (word : List ℕ) (logs : List LogId) → logs_of word ≡ Ok logs → (word ≡ logs_text logs) × AreLogs logs
unfolding logs_of
logs_text_was word logs h =
    let were = logs_were 0 (pieces_of 44 word) logs h in
    (sym (joined_pieces_of 44 word) ∙ ap (joined_by 44) were.0, (some_logs word logs were.0, were.1))

pub logs : Field logs_of logs_text AreLogs
logs = record {
  read = logs_text_read;
  was = logs_text_was;
  lacks = λ byte low ls are. lacks_joined byte 44 (λ same. omega (arith, same, low)) (texts_of ls) (lacks_texts byte 0 (omega (arith, low)) ls are.1);
}

-- ---- reading logs piece by piece

abbrev pub after_logs : List LogId → Result (List LogId) TextFault → Result (List LogId) TextFault
after_logs done rest = rest >>= λ (ls : List LogId). Ok (done ++ ls)

pub none_after : (rest : Result (List LogId) TextFault) → after_logs [] rest ≡ rest
none_after (Ok ls) = refl
none_after (Err fault) = refl

pub one_after : (done : List LogId) (log : LogId) (rest : Result (List LogId) TextFault) → after_logs done (rest >>= λ (ls : List LogId). Ok (log ∷ ls)) ≡ after_logs (done ++ log ∷ []) rest
one_after done log (Ok ls) = ap Ok (sym (append_assoc done (log ∷ []) ls))
one_after done log (Err fault) = refl
