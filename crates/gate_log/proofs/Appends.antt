-- What the calls of an append leave of an area: the old records, or these and one more.
use Rattle.std.proofs.Common.{◌≡◌, ℕ, ◌+◌, ◌<◌, ◌≤◌, ◌==◌, if◌then◌else◌, cond, nat_eq, false, inl, inr, List, [], ◌∷◌, ◌++◌, length, take, drop, get_or, refl, ap, sym, ◌∙◌, append_assoc, arith, length-take, length-append}
use Rattle.std.proofs.Math.Seq.{get_or-append_seam}
use Rattle.std.proofs.lemmas.List.{append-nil, take_at, take-take, take-append-le}
use Rattle.std.proofs.lemmas.Bool.Decides.{eqb_tells}
use Rattle.std.proofs.lemmas.List.Elements.{All-nil, All-cons, All-append}
use Rattle.gate_area.specs.Gate.{opened, IsShut}
use Rattle.gate_area.proofs.Renewals.{opened_is}
use Rattle.gate_log.specs.Records.{u32_bytes, opened_record, all_opened, room, gate_of, end_of, base_of, behind_gate, IsShort, StandsFor}
use Rattle.gate_log.proofs.Spelling.{length-u32}

-- an area whose gate stays shut stands for the same records
pub shut_stands : (records : List (List ℕ)) (body file image : List ℕ) → StandsFor records file → IsShut (gate_of records) body file image → StandsFor records image
shut_stands records body file image stands is =
    let sixteen : take 16 image ≡ take 16 file =
    sym (take-take 16 (gate_of records) image (omega arith)) ∙ ap (take 16) is.front ∙ take-take 16 (gate_of records) file (omega arith) in
    record {
      short = stands.short;
      within = is.within;
      spelled = is.front ∙ stands.spelled ∙ ap (λ front. front ++ all_opened records) (sym sixteen);
      shut = is.shut;
    }

-- its first 16 bytes are those that it had
pub opened_front : (gate : ℕ) (body file : List ℕ) → gate < length file → 16 ≤ gate → take 16 (opened gate body file) ≡ take 16 file
opened_front gate body file within far =
    ap (take 16) (opened_is gate body file within)
    ∙ take-append-le 16 (take gate file) (1 ∷ (body ++ drop (gate + 1 + length body) file)) (omega (arith, length-take gate file))
    ∙ take-take 16 gate file far

all_opened-append : (xs ys : List (List ℕ)) → all_opened (xs ++ ys) ≡ all_opened xs ++ all_opened ys
all_opened-append [] ys = refl
all_opened-append (x ∷ xs) ys = ap (λ rest. opened_record x ++ rest) (all_opened-append xs ys) ∙ sym (append_assoc (opened_record x) (all_opened xs) (all_opened ys))

room-append : (xs ys : List (List ℕ)) → room (xs ++ ys) ≡ room xs + room ys
room-append [] ys = omega arith
room-append (x ∷ xs) ys = omega (arith, room-append xs ys)

pub room-more : (records : List (List ℕ)) (r : List ℕ) → room (records ++ r ∷ []) ≡ room records + (5 + length r)
room-more records r = omega (arith, room-append records (r ∷ []))

pub end-more : (records : List (List ℕ)) (r : List ℕ) → end_of (records ++ r ∷ []) ≡ end_of records + (5 + length r)
end-more records r = omega (arith, room-more records r)

opened-more : (records : List (List ℕ)) (r : List ℕ) → all_opened (records ++ r ∷ []) ≡ all_opened records ++ opened_record r
opened-more records r = all_opened-append records (r ∷ []) ∙ ap (λ x. all_opened records ++ x) (append-nil (opened_record r))

-- an area whose gate was opened stands for one record more
pub opened_stands : (records : List (List ℕ)) (r file : List ℕ) → IsShort r → StandsFor records file
    → StandsFor (records ++ r ∷ []) (opened (gate_of records) (behind_gate r) file)
opened_stands records r file short stands =
    let gate = gate_of records in
    let image = opened gate (behind_gate r) file in
    let rest = drop (gate + 1 + length (behind_gate r)) file in
    let front : length (take gate file) ≡ gate = omega (arith, length-take gate file, stands.within) in
    let closed = 0 ∷ rest in
    let size : length (opened_record r) ≡ 5 + length r = omega (arith, length-append (u32_bytes (length r)) r, length-u32 (length r)) in
    let parts : image ≡ (take gate file ++ opened_record r) ++ closed =
    opened_is gate (behind_gate r) file stands.within
    ∙ ap (λ x. take gate file ++ (1 ∷ x)) (append_assoc (u32_bytes (length r)) (r ++ 0 ∷ []) rest ∙ ap (λ x. u32_bytes (length r) ++ x) (append_assoc r (0 ∷ []) rest) ∙ sym (append_assoc (u32_bytes (length r)) r closed))
    ∙ sym (append_assoc (take gate file) (opened_record r) closed) in
    let more : gate_of (records ++ r ∷ []) ≡ gate + (5 + length r) = omega (arith, room-more records r) in
    let long : length (take gate file ++ opened_record r) ≡ gate_of (records ++ r ∷ []) = omega (arith, length-append (take gate file) (opened_record r), front, size, more) in
    let sixteen : take 16 image ≡ take 16 file = opened_front gate (behind_gate r) file stands.within (omega arith) in
    record {
      short = All-append IsShort records (r ∷ []) stands.short (All-cons IsShort r [] short (All-nil IsShort));
      within = omega (arith, ap length parts, length-append (take gate file ++ opened_record r) closed, long);
      spelled = ap (take (gate_of (records ++ r ∷ []))) parts
          ∙ take_at (take gate file ++ opened_record r) closed (gate_of (records ++ r ∷ [])) long
          ∙ ap (λ x. x ++ opened_record r) stands.spelled
          ∙ append_assoc (take 16 file) (all_opened records) (opened_record r)
          ∙ ap (λ x. take 16 file ++ x) (sym (opened-more records r))
          ∙ ap (λ x. x ++ all_opened (records ++ r ∷ [])) (sym sixteen);
      shut = λ one. (let zero_is : get_or image (gate_of (records ++ r ∷ [])) 0 ≡ 0 =
          ap (λ x. get_or x (gate_of (records ++ r ∷ [])) 0) parts
          ∙ ap (λ n. get_or ((take gate file ++ opened_record r) ++ closed) n 0) (sym long)
          ∙ get_or-append_seam (take gate file ++ opened_record r) 0 rest 0 in
          omega (arith, zero_is, one));
    }

-- the end after the first record stays where there is one
pub base-more : (records : List (List ℕ)) (r : List ℕ) → base_of (records ++ r ∷ []) ≡ (if base_of records == 17 then end_of records + (5 + length r) else base_of records)
base-more [] r = omega arith
base-more (x ∷ xs) r = ap (λ b. cond b (end_of (x ∷ xs) + (5 + length r)) (22 + length x)) (sym (not_seventeen (length x)))
  where
    not_seventeen : (n : ℕ) → nat_eq (22 + n) 17 ≡ false
    not_seventeen n = elim (eqb_tells (22 + n) 17) [ inl alike ↦ absurd (omega (arith, alike.1)) | inr other ↦ other.0 ]
