-- The bytes of an area spell records exactly where the walk over them finds these records.
use Rattle.std.proofs.Common.{◌≡◌, ◌≢◌, ℕ, ◌+◌, ◌<◌, ◌≤◌, ◌^◌, Bool, true, false, cond, nat_eq, nat_lt, inl, inr, List, [], ◌∷◌, ◌++◌, length, take, drop, get_or, zero, suc, Result, Ok, Err, refl, ap, sym, ◌∙◌, subst, append_assoc, arith, length-take, length-append, length-drop}
use Rattle.std.specs.List.{All}
use Rattle.std.proofs.Math.Seq.{take-add, drop-cons, take-append_seam, drop-append_seam}
use Rattle.std.proofs.lemmas.Bool.{cases_lt, ltb-false, le-ltb}
use Rattle.std.proofs.lemmas.Bool.Decides.{eqb_tells}
use Rattle.std.proofs.lemmas.List.{get_or-drop, get_or-take, get_or_past, take-append-drop}
use Rattle.std.proofs.lemmas.List.Elements.{All-nil, All-cons, All-head, All-tail}
use Rattle.std.proofs.lemmas.Nat.{be_bytes_4, from_be_bytes-to_be_bytes_4}
use Rattle.gate_log.specs.Records.{u32_bytes, u32_of, opened_record, all_opened, room, gate_of, IsShort, StandsFor, Mark, Shut, Opens, Broken, mark_behind, mark_of, preceded, record_at, by_mark, records_from, walk_of}
use Rattle.gate_area.proofs.Heads.{not_one}

pub length-u32 : (n : ℕ) → length (u32_bytes n) ≡ 4
unfolding u32_bytes
length-u32 n = refl

pub length-opened : (records : List (List ℕ)) → length (all_opened records) ≡ room records
length-opened [] = refl
length-opened (r ∷ rs) =
    length-append (opened_record r) (all_opened rs)
    ∙ omega (arith, length-append (u32_bytes (length r)) r, length-u32 (length r), length-opened rs)

u32_again : (n : ℕ) → n < 2 ^ 32 → u32_of (u32_bytes n) ≡ n
unfolding u32_bytes u32_of
u32_again n short = from_be_bytes-to_be_bytes_4 n short

-- a record behind an open gate is found there
mark_of_record : (r more : List ℕ) → IsShort r → mark_of (opened_record r ++ more) ≡ Opens (length r)
mark_of_record r more short =
    let rest = (u32_bytes (length r) ++ r) ++ more in
    let four : take 4 rest ≡ u32_bytes (length r) =
    ap (take 4) (append_assoc (u32_bytes (length r)) r more)
    ∙ ap (λ n. take n (u32_bytes (length r) ++ (r ++ more))) (sym (length-u32 (length r)))
    ∙ take-append_seam (u32_bytes (length r)) (r ++ more) in
    let size : u32_of (take 4 rest) ≡ length r = ap u32_of four ∙ u32_again (length r) short in
    let long : 4 + length r ≤ length rest = omega (arith, length-append (u32_bytes (length r) ++ r) more, length-append (u32_bytes (length r)) r, length-u32 (length r)) in
    let some : nat_lt (length rest) 4 ≡ false = le-ltb _ _ (omega arith) in
    let all : nat_lt (length rest) (4 + length r) ≡ false = le-ltb _ _ long in
    ap (λ b. cond b Broken (cond (nat_lt (length rest) (4 + u32_of (take 4 rest))) Broken (Opens (u32_of (take 4 rest))))) some
    ∙ ap (λ n. cond (nat_lt (length rest) (4 + n)) Broken (Opens n)) size
    ∙ ap (λ b. cond b Broken (Opens (length r))) all

length-record : (r : List ℕ) → length (opened_record r) ≡ 5 + length r
length-record r = omega (arith, length-append (u32_bytes (length r)) r, length-u32 (length r))

behind_record : (r more : List ℕ) → drop (5 + length r) (opened_record r ++ more) ≡ more
behind_record r more = ap (λ n. drop n (opened_record r ++ more)) (sym (length-record r)) ∙ drop-append_seam (opened_record r) more

inside_record : (r more : List ℕ) → record_at (length r) (opened_record r ++ more) ≡ r
inside_record r more =
    ap (λ bytes. take (length r) (drop 4 bytes)) (append_assoc (u32_bytes (length r)) r more)
    ∙ ap (λ n. take (length r) (drop n (u32_bytes (length r) ++ (r ++ more)))) (sym (length-u32 (length r)))
    ∙ ap (take (length r)) (drop-append_seam (u32_bytes (length r)) (r ++ more))
    ∙ take-append_seam r more

-- what is spelled from a gate on is found
from_spelled : (records : List (List ℕ)) (most at gate : ℕ) (tail : List ℕ) → gate ≢ 1 → All IsShort records → length records < most
    → records_from most at (all_opened records ++ gate ∷ tail) ≡ Ok records
from_spelled records zero at gate tail shut short low = absurd (omega arith)
from_spelled [] (suc most) at gate tail shut short low =
    ap (λ b. by_mark (cond b (mark_behind tail) Shut) at (λ size. preceded (record_at size (gate ∷ tail)) (records_from most (at + (5 + size)) (drop (5 + size) (gate ∷ tail))))) (not_one gate shut)
from_spelled (r ∷ rs) (suc most) at gate tail shut short low =
    let more = all_opened rs ++ gate ∷ tail in
    let apart : all_opened (r ∷ rs) ++ gate ∷ tail ≡ opened_record r ++ more = append_assoc (opened_record r) (all_opened rs) (gate ∷ tail) in
    ap (records_from (suc most) at) apart
    ∙ ap (λ m. by_mark m at (λ size. preceded (record_at size (opened_record r ++ more)) (records_from most (at + (5 + size)) (drop (5 + size) (opened_record r ++ more))))) (mark_of_record r more (All-head IsShort r rs short))
    ∙ ap (λ x. preceded x (records_from most (at + (5 + length r)) (drop (5 + length r) (opened_record r ++ more)))) (inside_record r more)
    ∙ ap (λ x. preceded r (records_from most (at + (5 + length r)) x)) (behind_record r more)
    ∙ ap (preceded r) (from_spelled rs most (at + (5 + length r)) gate tail shut (All-tail IsShort r rs short) (omega arith))

count-room : (records : List (List ℕ)) → length records ≤ room records
count-room [] = omega arith
count-room (r ∷ rs) = omega (arith, count-room rs)

-- an area behind its front, as its records spell it
behind_front : (records : List (List ℕ)) (file : List ℕ) → StandsFor records file
    → drop 16 file ≡ all_opened records ++ get_or file (gate_of records) 0 ∷ drop (suc (gate_of records)) file
behind_front records file stands =
    let gate = gate_of records in
    let sixteen : length (take 16 file) ≡ 16 = omega (arith, length-take 16 file, stands.within) in
    let tail = get_or file gate 0 ∷ drop (suc gate) file in
    let whole : file ≡ take 16 file ++ (all_opened records ++ tail) =
    sym (take-append-drop gate file)
    ∙ ap (λ front. front ++ drop gate file) stands.spelled
    ∙ ap (λ rest. (take 16 file ++ all_opened records) ++ rest) (drop-cons file gate 0 stands.within)
    ∙ append_assoc (take 16 file) (all_opened records) tail in
    ap (drop 16) whole
    ∙ ap (λ n. drop n (take 16 file ++ (all_opened records ++ tail))) (sym sixteen)
    ∙ drop-append_seam (take 16 file) (all_opened records ++ tail)

-- the walk finds the records that an area stands for
pub walk_finds : (records : List (List ℕ)) (file : List ℕ) → StandsFor records file → walk_of file ≡ Ok records
walk_finds records file stands =
    ap (records_from (length file) 16) (behind_front records file stands)
    ∙ from_spelled records (length file) 16 (get_or file (gate_of records) 0) (drop (suc (gate_of records)) file) stands.shut stands.short (omega (arith, count-room records, stands.within))

abbrev pub AreBytes : List ℕ → Type 0
AreBytes bytes = (i : ℕ) → get_or bytes i 0 < 256

-- records and a closed gate from here on
record Spelled (records : List (List ℕ)) (rest : List ℕ) : Type 0 where
  short : All IsShort records
  within : room records < length rest
  opened : take (room records) rest ≡ all_opened records
  shut : get_or rest (room records) 0 ≢ 1

mark_shut : (rest : List ℕ) → mark_of rest ≡ Shut → Spelled [] rest
mark_shut [] is = absurd (let no : Broken ≡ Shut = is in cc)
mark_shut (gate ∷ tail) is = record {
  short = All-nil IsShort;
  within = omega arith;
  opened = refl;
  shut = λ one. (let no : mark_behind tail ≡ Shut = sym (ap (λ n. cond (nat_eq n 1) (mark_behind tail) Shut) one) ∙ is in never tail no);
}
  where
    either : (a b : Bool) (n : ℕ) → cond a Broken (cond b Broken (Opens n)) ≡ Shut → ⊥
    either true b n e = cc
    either false true n e = cc
    either false false n e = cc

    never : (tail : List ℕ) → mark_behind tail ≡ Shut → ⊥
    never tail e = either (nat_lt (length tail) 4) (nat_lt (length tail) (4 + u32_of (take 4 tail))) (u32_of (take 4 tail)) e

-- what an open gate says of what follows it
record Behind (size : ℕ) (rest : List ℕ) : Type 0 where
  long : 5 + size ≤ length rest
  gate : take 1 rest ≡ 1 ∷ []
  number : u32_of (take 4 (drop 1 rest)) ≡ size

mark_opens : (size : ℕ) (rest : List ℕ) → mark_of rest ≡ Opens size → Behind size rest
mark_opens size [] is = absurd (let no : Broken ≡ Opens size = is in cc)
mark_opens size (gate ∷ tail) is = elim (eqb_tells gate 1) [
  | inl alike ↦
      let e : mark_behind tail ≡ Opens size = sym (ap (λ b. cond b (mark_behind tail) Shut) alike.0) ∙ is in
      let parts = tests (nat_lt (length tail) 4) (nat_lt (length tail) (4 + u32_of (take 4 tail))) (u32_of (take 4 tail)) size e in
      record { long = omega (arith, ltb-false _ _ parts.0, ltb-false _ _ parts.1, parts.2); gate = ap (λ n. n ∷ []) alike.1; number = parts.2 }
  | inr other ↦ absurd (let no : Shut ≡ Opens size = sym (ap (λ b. cond b (mark_behind tail) Shut) other.0) ∙ is in cc)
]
  where
    tests : (a b : Bool) (n size : ℕ) → cond a Broken (cond b Broken (Opens n)) ≡ Opens size → (a ≡ false) × (b ≡ false) × (n ≡ size)
    tests true b n size e = absurd cc
    tests false true n size e = absurd cc
    tests false false n size e = (refl, refl, cc)

u32_back : (bytes : List ℕ) → length bytes ≡ 4 → AreBytes bytes → u32_bytes (u32_of bytes) ≡ bytes
unfolding u32_bytes u32_of
u32_back bytes four are = be_bytes_4 bytes _ four are refl

u32_below : (bytes : List ℕ) → length bytes ≡ 4 → AreBytes bytes → u32_of bytes < 2 ^ 32
unfolding u32_of
u32_below bytes four are = omega (arith, are 0, are 1, are 2, are 3)

drop_are : (n : ℕ) (bytes : List ℕ) → AreBytes bytes → AreBytes (drop n bytes)
drop_are n bytes are i = rw get_or-drop (are (n + i))

take_are : (n : ℕ) (bytes : List ℕ) → AreBytes bytes → AreBytes (take n bytes)
take_are n bytes are i =
    elim (cases_lt i n) [
      | inl less ↦ rw (get_or-take n bytes i 0 less) (are i)
      | inr most ↦ rw (get_or_past (take n bytes) i 0 (omega (arith, length-take n bytes))) (omega arith)
    ]

-- an open gate, its length and its bytes are the record's spelling
record_spelled : (size : ℕ) (rest : List ℕ) → AreBytes rest → Behind size rest → take (5 + size) rest ≡ opened_record (record_at size rest)
record_spelled size rest are behind =
    let four = take 4 (drop 1 rest) in
    let is_four : length four ≡ 4 = omega (arith, length-take 4 (drop 1 rest), length-drop 1 rest, behind.long) in
    let are_four : AreBytes four = take_are 4 (drop 1 rest) (drop_are 1 rest are) in
    let size_is : length (record_at size rest) ≡ size = omega (arith, length-take size (drop 5 rest), length-drop 5 rest, behind.long) in
    let spelled : four ≡ u32_bytes (length (record_at size rest)) = sym (u32_back four is_four are_four) ∙ ap u32_bytes (behind.number ∙ sym size_is) in
    let five : take 5 rest ≡ 1 ∷ four = take-add 1 4 rest ∙ ap (λ front. front ++ four) behind.gate in
    take-add 5 size rest
    ∙ ap (λ front. front ++ record_at size rest) (five ∙ ap (λ bytes. 1 ∷ bytes) spelled)

record_short : (size : ℕ) (rest : List ℕ) → AreBytes rest → Behind size rest → IsShort (record_at size rest)
record_short size rest are behind =
    let four = take 4 (drop 1 rest) in
    let is_four : length four ≡ 4 = omega (arith, length-take 4 (drop 1 rest), length-drop 1 rest, behind.long) in
    let below = u32_below four is_four (take_are 4 (drop 1 rest) (drop_are 1 rest are)) in
    omega (arith, length-take size (drop 5 rest), below, behind.number)

-- a record before the others
one_more : (size : ℕ) (rest : List ℕ) (rs : List (List ℕ)) → AreBytes rest → Behind size rest → Spelled rs (drop (5 + size) rest)
    → Spelled (record_at size rest ∷ rs) rest
one_more size rest rs are behind more =
    let r = record_at size rest in
    let size_is : length r ≡ size = omega (arith, length-take size (drop 5 rest), length-drop 5 rest, behind.long) in
    let room_is : 5 + (length r + room rs) ≡ (5 + size) + room rs = omega (arith, size_is) in
    record {
      short = All-cons IsShort r rs (record_short size rest are behind) more.short;
      within = omega (arith, size_is, length-drop (5 + size) rest, more.within);
      opened = ap (λ n. take n rest) room_is ∙ take-add (5 + size) (room rs) rest
          ∙ ap (λ front. front ++ take (room rs) (drop (5 + size) rest)) (record_spelled size rest are behind)
          ∙ ap (λ bytes. opened_record r ++ bytes) more.opened;
      shut = λ one. more.shut (get_or-drop (5 + size) rest (room rs) 0 ∙ ap (λ n. get_or rest n 0) (sym room_is) ∙ one);
    }

preceded_is : (r : List ℕ) (x : Result (List (List ℕ)) ℕ) (records : List (List ℕ)) → preceded r x ≡ Ok records → (rs : List (List ℕ)) × (x ≡ Ok rs) × (r ∷ rs ≡ records)
preceded_is r (Ok rs) records e = (rs, refl, cc)
preceded_is r (Err at) records e = absurd cc

-- what is found by the mark of a gate is spelled there, if what is found behind the record is
by_its_mark : (at : ℕ) (rest : List ℕ) (records : List (List ℕ)) (more : ℕ → Result (List (List ℕ)) ℕ) → AreBytes rest
    → ((size : ℕ) (rs : List (List ℕ)) → more size ≡ Ok rs → Spelled rs (drop (5 + size) rest))
    → (m : Mark) → mark_of rest ≡ m → by_mark m at (λ size. preceded (record_at size rest) (more size)) ≡ Ok records → Spelled records rest
by_its_mark at rest records more are behind Shut is found =
    let none : [] ≡ records = cc in
    subst (λ (rs : List (List ℕ)). Spelled rs rest) none (mark_shut rest is)
by_its_mark at rest records more are behind Broken is found = absurd (let no : Err at ≡ Ok records = found in cc)
by_its_mark at rest records more are behind (Opens size) is found =
    let parts = preceded_is (record_at size rest) (more size) records found in
    subst (λ (rs : List (List ℕ)). Spelled rs rest) parts.2 (one_more size rest parts.0 are (mark_opens size rest is) (behind size parts.0 parts.1))

-- what is found from a gate on is spelled there
to_spelled : (most at : ℕ) (rest : List ℕ) (records : List (List ℕ)) → AreBytes rest → records_from most at rest ≡ Ok records → Spelled records rest
to_spelled zero at rest records are found = absurd (let no : Err at ≡ Ok records = found in cc)
to_spelled (suc most) at rest records are found =
    by_its_mark at rest records (λ size. records_from most (at + (5 + size)) (drop (5 + size) rest)) are
    (λ size rs e. to_spelled most (at + (5 + size)) (drop (5 + size) rest) rs (drop_are (5 + size) rest are) e)
    (mark_of rest) refl found

-- an area in which the walk finds records stands for them
pub found_stands : (records : List (List ℕ)) (file : List ℕ) → AreBytes file → walk_of file ≡ Ok records → StandsFor records file
found_stands records file are found =
    let s = to_spelled (length file) 16 (drop 16 file) records (drop_are 16 file are) found in
    record {
      short = s.short;
      within = omega (arith, s.within, length-drop 16 file);
      spelled = take-add 16 (room records) file ∙ ap (λ bytes. take 16 file ++ bytes) s.opened;
      shut = λ one. s.shut (get_or-drop 16 file (room records) 0 ∙ one);
    }
