-- Each kind of word is read as it is spelled, and what is read is spelled so.
use Rattle.std.proofs.Common.{arith, lit<, ◌≡◌, ◌≤◌, ◌<◌, ℕ, ◌^◌, List, [], ◌∷◌, length, Option, Some, None, refl, sym, ap, ◌∙◌, subst, nat_lt, nat_le, ◌==◌, ◌&&◌, if◌then◌else◌, Bool, true, false, codes, Ok, Err, IsTrue}
use Rattle.std.proofs.Math.Path.{ap₂}
use Rattle.std.proofs.lemmas.Grind.{common_steps}
use Rattle.std.proofs.lemmas.Slice.Eq.{bytes_eq-Decides}
use Rattle.std.specs.Prelude.{Result, map}
use Rattle.std.specs.List.{AllByRecursion}
use Rattle.std.specs.Option.{option_map, option_and_then}
use Rattle.std.specs.Str.{bytes_eq}
use Rattle.std.specs.Fmt.{decimal}
use Rattle.hex.specs.Hex.{encode_lower, decode_pairs}
use Rattle.text_lines.specs.Split.{pieces_of, onto_first}
use Rattle.text_lines.specs.Text.{joined_by}
use Rattle.text_lines.specs.Reading.{number_of as decimal_of, hex_of}
use Rattle.text_lines.specs.declared.fault.TextFault.{TextFault}
use Rattle.text_lines.proofs.Laws.{Lacks, pieces_of_joined, joined_pieces_of}
use Rattle.text_lines.proofs.Inverse.{number_of_decimal, decimal_of_number, hex_of_text, text_of_hex, lacks_decimal, lacks_encoded, false_if}
use Rattle.command_codec.specs.Grammar.{batch_at}
use Rattle.command_codec.specs.Parts.{spells_batch}
use Rattle.mrp_types.proofs.TestLemmas.{both, below as is_below, some_is}
use Rattle.mrp_types.specs.declared.id.Party.{Party}
use Rattle.mrp_types.specs.declared.id.Party.TheVariants.{Node, Client}
use Rattle.mrp_types.specs.declared.value.Value.{Value}
use Rattle.mrp_types.specs.declared.value.Value.TheVariants.{Skip, Batch}
use Rattle.transcript.specs.Spelling.{value_text, tuple_text, party_text, IsCount, IsValue, AreBytes, AreInstances, IsParty}
use Rattle.transcript.specs.Fields.{below, number_of, numbers_of, tuple_of, party_of, some_bytes, bytes_of, batch_value, value_of}
use Rattle.text_lines.proofs.WordLaws.{none_low, lacks_low, lacks_joined}
use Rattle.transcript.proofs.WordLaws.{Field}

-- where a test chose a value, it held
then_was : {A : Type 0} (t : Bool) (x y : A) → (if t then Some x else None) ≡ Some y → (t ≡ true) × (x ≡ y)
then_was true x y h = (refl, cc)
then_was false x y h = absurd (grind arith)

-- ---- numbers

number_read : (limit n : ℕ) → limit ≤ 2 ^ 64 → n < limit → number_of limit (decimal n) ≡ Some n
unfolding number_of
number_read limit n most less =
    let fits : n < 2 ^ 64 = omega (arith, most, less) in
    let small : nat_lt n limit ≡ true = grind arith in
    rw (number_of_decimal n fits, small) refl

number_found : (limit : ℕ) (word : List ℕ) (n : ℕ) (read : Result ℕ TextFault) → decimal_of word ≡ read → below limit read ≡ Some n → (word ≡ decimal n) × (n < limit)
number_found limit word n (Ok k) is h =
    let was = then_was (nat_lt k limit) k n h in
    let small : k < limit = is_below k limit was.0 in
    ((decimal_of_number word k is).0 ∙ ap decimal was.1, subst (λ (i : ℕ). i < limit) was.1 small)
number_found limit word n (Err fault) is h = absurd (grind arith)

number_was : (limit : ℕ) (word : List ℕ) (n : ℕ) → number_of limit word ≡ Some n → (word ≡ decimal n) × (n < limit)
unfolding number_of
number_was limit word n h = number_found limit word n (decimal_of word) refl h

pub number : (limit : ℕ) → limit ≤ 2 ^ 64 → Field (number_of limit) decimal (λ n. n < limit)
number limit most = record {
  read = λ n less. number_read limit n most less;
  was = number_was limit;
  lacks = λ byte low n less. lacks_decimal byte n (omega (arith, low)) (omega (arith, most, less));
}

pub id : Field (number_of 256) decimal (λ n. n < 256)
id = number 256 (omega arith)

pub count : Field (number_of (2 ^ 64)) decimal (λ n. n < 2 ^ 64)
count = number (2 ^ 64) (omega arith)

-- ---- tuples

numbers_read : (tuple : List ℕ) → AllByRecursion IsCount tuple → numbers_of (map decimal tuple) ≡ Some tuple
numbers_read [] are = refl
numbers_read (n ∷ tuple) are = rw (count.read n are.0, numbers_read tuple are.1) refl

-- a number before the others
number_first : (piece : List ℕ) (pieces : List (List ℕ)) (found : Option ℕ) (others : Option (List ℕ)) (tuple : List ℕ) → number_of (2 ^ 64) piece ≡ found → numbers_of pieces ≡ others
    → ((ns : List ℕ) → numbers_of pieces ≡ Some ns → (pieces ≡ map decimal ns) × AllByRecursion IsCount ns)
    → option_and_then (λ n. option_map (λ (ns : List ℕ). n ∷ ns) others) found ≡ Some tuple → (piece ∷ pieces ≡ map decimal tuple) × AllByRecursion IsCount tuple
number_first piece pieces None others tuple one more was h = absurd (grind arith)
number_first piece pieces (Some n) None tuple one more was h = absurd (grind arith)
number_first piece pieces (Some n) (Some ns) tuple one more was h =
    let first = count.was piece n one in
    let rest = was ns more in
    let same : n ∷ ns ≡ tuple = some_is (n ∷ ns) tuple h in
    (ap₂ (λ (p : List ℕ) (ps : List (List ℕ)). p ∷ ps) first.0 rest.0 ∙ ap (map decimal) same, subst (λ (t : List ℕ). AllByRecursion IsCount t) same (first.1, rest.1))

numbers_were : (pieces : List (List ℕ)) (tuple : List ℕ) → numbers_of pieces ≡ Some tuple → (pieces ≡ map decimal tuple) × AllByRecursion IsCount tuple
numbers_were [] tuple h =
    let same : [] ≡ tuple = some_is [] tuple h in
    subst (λ (t : List ℕ). ([] ≡ map decimal t) × AllByRecursion IsCount t) same (refl, tt)
numbers_were (piece ∷ pieces) tuple h = number_first piece pieces (number_of (2 ^ 64) piece) (numbers_of pieces) tuple refl refl (λ ns is. numbers_were pieces ns is) h

lacks_numbers : (byte : ℕ) → byte < 48 → (tuple : List ℕ) → AllByRecursion IsCount tuple → AllByRecursion (Lacks byte) (map decimal tuple)
lacks_numbers byte low [] are = tt
lacks_numbers byte low (n ∷ tuple) are = (lacks_decimal byte n low are.0, lacks_numbers byte low tuple are.1)

pieces_of_tuple : (tuple : List ℕ) → AreInstances tuple → pieces_of 44 (tuple_text tuple) ≡ map decimal tuple
pieces_of_tuple [] are = absurd (omega (arith, are.1.0))
pieces_of_tuple (n ∷ tuple) are = pieces_of_joined 44 (decimal n) (map decimal tuple) (lacks_numbers 44 (lit< tt) (n ∷ tuple) are.0)

as_many : (tuple : List ℕ) → length (map decimal tuple) ≡ length tuple
as_many tuple = grind (arith, common_steps)

tuple_read : (tuple : List ℕ) → AreInstances tuple → tuple_of (tuple_text tuple) ≡ Some tuple
unfolding tuple_of
tuple_read tuple are =
    let few : length tuple ≤ 16 = are.1.1 in
    let short : nat_le (length (map decimal tuple)) 16 ≡ true = rw (as_many tuple) (grind (arith, few)) in
    rw (pieces_of_tuple tuple are, short) (numbers_read tuple are.0)

-- a text has a piece at least
piece_there : (byte : ℕ) (text : List ℕ) → 1 ≤ length (pieces_of byte text)
piece_there byte [] = omega arith
piece_there byte (b ∷ rest) = by (b == byte)
  where
    onto : (pieces : List (List ℕ)) → 1 ≤ length (onto_first b pieces)
    onto [] = omega arith
    onto (piece ∷ pieces) = grind (arith, common_steps)

    by : (t : Bool) → 1 ≤ length (if t then [] ∷ pieces_of byte rest else onto_first b (pieces_of byte rest))
    by true = grind (arith, common_steps)
    by false = onto (pieces_of byte rest)

by_length : (short : Bool) (word tuple : List ℕ) → nat_le (length (pieces_of 44 word)) 16 ≡ short → (if short then numbers_of (pieces_of 44 word) else None) ≡ Some tuple →
    (word ≡ tuple_text tuple) × AreInstances tuple
by_length false word tuple is h = absurd (grind arith)
by_length true word tuple is h =
    let were = numbers_were (pieces_of 44 word) tuple h in
    let few : length (pieces_of 44 word) ≤ 16 = grind (arith, is) in
    let all : length (pieces_of 44 word) ≡ length tuple = ap length were.0 ∙ as_many tuple in
    let some : 1 ≤ length (pieces_of 44 word) = piece_there 44 word in
    (sym (joined_pieces_of 44 word) ∙ ap (joined_by 44) were.0, (were.1, (omega (arith, all, some), omega (arith, all, few))))

tuple_was : (word tuple : List ℕ) → tuple_of word ≡ Some tuple → (word ≡ tuple_text tuple) × AreInstances tuple
unfolding tuple_of
tuple_was word tuple h = by_length (nat_le (length (pieces_of 44 word)) 16) word tuple refl h

pub tuple : Field tuple_of tuple_text AreInstances
tuple = record {
  read = tuple_read;
  was = tuple_was;
  lacks = λ byte low tuple are. lacks_joined byte 44 (λ same. omega (arith, same, low)) (map decimal tuple) (lacks_numbers byte (omega (arith, low)) tuple are.0);
}

dash_is_no_tuple : tuple_of (codes "-") ≡ None
unfolding tuple_of number_of
dash_is_no_tuple = refl

pub tuple_is_no_dash : (tuple : List ℕ) → AreInstances tuple → bytes_eq (tuple_text tuple) (codes "-") ≡ false
tuple_is_no_dash tuple are = false_if (bytes_eq (tuple_text tuple) (codes "-")) (λ h.
    let same : tuple_text tuple ≡ codes "-" = (bytes_eq-Decides (tuple_text tuple) (codes "-")).0 h in
    let wrong : None ≡ Some tuple = sym dash_is_no_tuple ∙ ap tuple_of (sym same) ∙ tuple_read tuple are in
    grind (arith, wrong))

-- ---- parties

party_read : (party : Party) → IsParty party → party_of (party_text party) ≡ Some party
party_read (Node node) is = ap (option_map (λ n. Node (record { 0 = n }))) (id.read node.0 is)
party_read (Client client) is = ap (option_map (λ n. Client (record { 0 = n }))) (id.read client.0 is)

-- a letter before the number that a word says
named : (letter : ℕ) (made : ℕ → Party) (digits : List ℕ) (number : Option ℕ) (party : Party) →
    ((n : ℕ) → party_text (made n) ≡ letter ∷ decimal n) → ((n : ℕ) → n < 256 → IsParty (made n)) →
    number_of 256 digits ≡ number → option_map made number ≡ Some party → (letter ∷ digits ≡ party_text party) × IsParty party
named letter made digits None party text may said h = absurd (grind arith)
named letter made digits (Some n) party text may said h =
    let was = id.was digits n said in
    let is : made n ≡ party = some_is (made n) party h in
    (ap (λ (ds : List ℕ). letter ∷ ds) was.0 ∙ sym (text n) ∙ ap party_text is, subst (λ (p : Party). IsParty p) is (may n was.1))

by_letter : (node client : Bool) (b : ℕ) (digits : List ℕ) (party : Party) → (b == 110) ≡ node → (b == 99) ≡ client →
    (if node then option_map (λ n. Node (record { 0 = n })) (number_of 256 digits)
    else if client then option_map (λ n. Client (record { 0 = n })) (number_of 256 digits) else None) ≡ Some party →
    (b ∷ digits ≡ party_text party) × IsParty party
by_letter true client b digits party is other h =
    let letter : b ≡ 110 = grind arith in
    rw letter (named 110 (λ n. Node (record { 0 = n })) digits (number_of 256 digits) party (λ n. refl) (λ n less. less) refl h)
by_letter false true b digits party other is h =
    let letter : b ≡ 99 = grind arith in
    rw letter (named 99 (λ n. Client (record { 0 = n })) digits (number_of 256 digits) party (λ n. refl) (λ n less. less) refl h)
by_letter false false b digits party other another h = absurd (grind arith)

party_was : (word : List ℕ) (party : Party) → party_of word ≡ Some party → (word ≡ party_text party) × IsParty party
party_was [] party h = absurd (grind arith)
party_was (b ∷ digits) party h = by_letter (b == 110) (b == 99) b digits party refl refl h

party_lacks : (byte : ℕ) → byte < 44 → (party : Party) → IsParty party → Lacks byte (party_text party)
party_lacks byte low (Node node) is = (λ same. omega (arith, same, low), id.lacks byte low node.0 is)
party_lacks byte low (Client client) is = (λ same. omega (arith, same, low), id.lacks byte low client.0 is)

pub party : Field party_of party_text IsParty
party = record { read = party_read; was = party_was; lacks = party_lacks }

none_is_no_party : party_of (codes "none") ≡ None
unfolding number_of
none_is_no_party = refl

pub party_is_no_none : (party : Party) → IsParty party → bytes_eq (party_text party) (codes "none") ≡ false
party_is_no_none party is = false_if (bytes_eq (party_text party) (codes "none")) (λ h.
    let same : party_text party ≡ codes "none" = (bytes_eq-Decides (party_text party) (codes "none")).0 h in
    let wrong : None ≡ Some party = sym none_is_no_party ∙ ap party_of (sym same) ∙ party_read party is in
    grind (arith, wrong))

-- ---- bytes

bytes_read : (bytes : List ℕ) → AreBytes bytes → bytes_of (encode_lower bytes) ≡ Some bytes
unfolding bytes_of
bytes_read [] is = absurd (omega (arith, is.1))
bytes_read (b ∷ rest) is = rw (hex_of_text (b ∷ rest) is.0) refl

bytes_found : (word bytes : List ℕ) (read : Result (List ℕ) TextFault) → hex_of word ≡ read → some_bytes read ≡ Some bytes → (word ≡ encode_lower bytes) × AreBytes bytes
bytes_found word bytes (Ok []) is h = absurd (grind arith)
bytes_found word bytes (Ok (b ∷ rest)) is h =
    let was = text_of_hex word (b ∷ rest) is in
    let same : b ∷ rest ≡ bytes = some_is (b ∷ rest) bytes h in
    let some : 1 ≤ length (b ∷ rest) = grind (arith, common_steps) in
    (was.0 ∙ ap encode_lower same, subst (λ (x : List ℕ). AreBytes x) same (was.1, some))
bytes_found word bytes (Err fault) is h = absurd (grind arith)

bytes_was : (word bytes : List ℕ) → bytes_of word ≡ Some bytes → (word ≡ encode_lower bytes) × AreBytes bytes
unfolding bytes_of
bytes_was word bytes h = bytes_found word bytes (hex_of word) refl h

pub bytes : Field bytes_of encode_lower AreBytes
bytes = record { read = bytes_read; was = bytes_was; lacks = λ byte low bytes is. lacks_encoded byte bytes (omega (arith, low)) is.0 }

-- ---- values

no_batch_of_nothing : spells_batch [] ≡ false
unfolding batch_at
no_batch_of_nothing = refl

batch_has_bytes : (batch : List ℕ) → IsTrue (spells_batch batch) → 1 ≤ length batch
batch_has_bytes [] is =
    let wrong : true ≡ false = sym is ∙ no_batch_of_nothing in
    absurd (grind (arith, wrong))
batch_has_bytes (b ∷ rest) is = grind (arith, common_steps)

skip_is_no_bytes : bytes_of (codes "skip") ≡ None
unfolding bytes_of decode_pairs
skip_is_no_bytes = refl

bytes_are_no_skip : (all : List ℕ) → AreBytes all → bytes_eq (encode_lower all) (codes "skip") ≡ false
bytes_are_no_skip all is = false_if (bytes_eq (encode_lower all) (codes "skip")) (λ h.
    let same : encode_lower all ≡ codes "skip" = (bytes_eq-Decides (encode_lower all) (codes "skip")).0 h in
    let wrong : None ≡ Some all = sym skip_is_no_bytes ∙ ap bytes_of (sym same) ∙ bytes_read all is in
    grind (arith, wrong))

value_read : (value : Value) → IsValue value → value_of (value_text value) ≡ Some value
value_read Skip is = refl
value_read (Batch batch) is =
    let are : AreBytes batch = (is.0, batch_has_bytes batch is.1.1) in
    let short : nat_le (length batch) 8192 ≡ true = grind (arith, is.1.0) in
    rw (bytes_are_no_skip batch are, bytes_read batch are, short, is.1.1) refl

batch_was : (read : Option (List ℕ)) (word : List ℕ) (value : Value) → bytes_of word ≡ read → option_and_then batch_value read ≡ Some value →
    (word ≡ value_text value) × IsValue value
batch_was None word value said h = absurd (grind arith)
batch_was (Some batch) word value said h =
    let was = then_was (nat_le (length batch) 8192 && spells_batch batch) (Batch batch) value h in
    let tests = both (nat_le (length batch) 8192) (spells_batch batch) was.0 in
    let short : length batch ≤ 8192 = grind (arith, tests.0) in
    let spelled = bytes_was word batch said in
    (spelled.0 ∙ ap value_text was.1, subst (λ (v : Value). IsValue v) was.1 (spelled.1.0, (short, tests.1)))

by_skip : (skip : Bool) (word : List ℕ) (value : Value) → bytes_eq word (codes "skip") ≡ skip →
    (if skip then Some Skip else option_and_then batch_value (bytes_of word)) ≡ Some value → (word ≡ value_text value) × IsValue value
by_skip true word value is h =
    let same : Skip ≡ value = some_is Skip value h in
    ((bytes_eq-Decides word (codes "skip")).0 is ∙ ap value_text same, subst (λ (v : Value). IsValue v) same tt)
by_skip false word value is h = batch_was (bytes_of word) word value refl h

value_was : (word : List ℕ) (value : Value) → value_of word ≡ Some value → (word ≡ value_text value) × IsValue value
value_was word value h = by_skip (bytes_eq word (codes "skip")) word value refl h

value_lacks : (byte : ℕ) → byte < 44 → (value : Value) → IsValue value → Lacks byte (value_text value)
unfolding none_low
value_lacks byte low Skip is = lacks_low byte low (codes "skip") refl
value_lacks byte low (Batch batch) is = lacks_encoded byte batch (omega (arith, low)) is.0

pub value : Field value_of value_text IsValue
value = record { read = value_read; was = value_was; lacks = value_lacks }
