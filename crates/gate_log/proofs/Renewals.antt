-- What renewing an area leaves, and what the journal then stands for.
use Rattle.std.proofs.Common.{◌≡◌, ℕ, ◌+◌, ◌-◌, ◌<◌, ◌≤◌, ◌^◌, ◌⊎◌, inl, inr, Bool, true, false, cond, not, nat_eq, nat_lt, List, [], ◌∷◌, ◌++◌, length, take, get_or, None, Ok, Err, refl, ap, sym, ◌∙◌, subst, arith, append_assoc, length-append}
use Rattle.std.specs.List.{All}
use Rattle.std.specs.Int.{from_be_bytes, w64}
use Rattle.std.proofs.Math.Seq.{get_or-append_seam}
use Rattle.std.proofs.lemmas.Bool.{le-leb, lt-ltb, le-ltb, ltb-false}
use Rattle.std.proofs.lemmas.Bool.Decides.{eqb_tells}
use Rattle.std.proofs.lemmas.List.{append-nil, take_at, drop_all}
use Rattle.std.proofs.lemmas.List.Elements.{All-nil, All-cons}
use Rattle.std.proofs.lemmas.Nat.{from_be_bytes-to_be_bytes_8}
use Rattle.disk_model.specs.declared.area.Area.{Area}
use Rattle.disk_model.specs.declared.area.Area.TheVariants.{Journal0, Journal1, Check2, Check3}
use Rattle.disk_model.specs.declared.areas.Areas.{Areas}
use Rattle.disk_model.specs.Areas.{number_of, bytes_of, same}
use Rattle.disk_model.specs.Calls.{Told, and_then, area_bytes, reads, IsSettled}
use Rattle.disk_model.proofs.OnArea.{own-on, image-other}
use Rattle.disk_model.proofs.Reading.{area_bytes-and_then, reads-bytes}
use Rattle.disk_model.specs.Steps.{after}
use Rattle.gate_area.specs.declared.pair.Pair.TheVariants.{Journal}
use Rattle.gate_area.specs.declared.pair.Head.{Head}
use Rattle.gate_area.specs.declared.pair.Head.TheVariants.{Closed, Spoilt, Open}
use Rattle.gate_area.specs.Gate.{HasFront, FrontOrShort, OthersStay, retire_steps, retire_calls, gate_steps, gate_calls, renew_calls, IsClosed, RenewLeaves}
use Rattle.gate_area.specs.Standing.{judged, standing, stands, head_in, head_of, generation_of, other_of}
use Rattle.gate_area.proofs.Heads.{head-short, head-shut}
use Rattle.gate_area.proofs.Pairs.{retire_retires, retire_settles}
use Rattle.gate_log.specs.Journal.{Log, Holds, log_of, compacted, records_in, records_of}
use Rattle.gate_log.specs.Moments.{OldOrNew, SameRecords}
use Rattle.gate_log.specs.Records.{u32_bytes, u64_bytes, opened_record, all_opened, room, gate_of, behind_gate, front_bytes, area_body, IsShort, StandsFor}
use Rattle.gate_area.proofs.Renewals.{opened_is}
use Rattle.gate_log.proofs.Fronts.{SameFront, same_head, front_stays, heads}
use Rattle.gate_log.proofs.Moves.{records_are, checks_stay, standing_area, Judgement, stood, spoilt, e_fault, e_area}
use Rattle.disk_model.proofs.Went.{and_then-and_then}
use Rattle.gate_area.proofs.Phases.{reads_image}
use Rattle.gate_log.proofs.Spelling.{length-opened}

-- ---- the bytes that an area is founded with

pub length-u64 : (n : ℕ) → length (u64_bytes n) ≡ 8
unfolding u64_bytes
length-u64 n = refl

u64_again : (n : ℕ) → n < 2 ^ 64 → from_be_bytes w64 (u64_bytes n) ≡ n
unfolding u64_bytes
u64_again n low = from_be_bytes-to_be_bytes_8 n low

pub length-body : (generation : ℕ) (records : List (List ℕ)) → length (area_body generation records) ≡ 16 + room records
length-body generation records =
    omega (arith, length-append (u64_bytes generation) (all_opened records ++ 0 ∷ []), length-u64 generation, length-append (all_opened records) (0 ∷ []), length-opened records)

-- its first 16 bytes
front_is : (generation : ℕ) (rest : List ℕ)
    → take 16 (1 ∷ 0x4d ∷ 0x52 ∷ 0x4a ∷ 0 ∷ 0 ∷ 0 ∷ 1 ∷ (u64_bytes generation ++ rest)) ≡ 1 ∷ 0x4d ∷ 0x52 ∷ 0x4a ∷ 0 ∷ 0 ∷ 0 ∷ 1 ∷ u64_bytes generation
front_is generation rest =
    ap (λ l. 1 ∷ 0x4d ∷ 0x52 ∷ 0x4a ∷ 0 ∷ 0 ∷ 0 ∷ 1 ∷ l) (take_at (u64_bytes generation) rest 8 (length-u64 generation))

-- such a front counts, with its generation
front_counts : (generation : ℕ) → 0 < generation → generation < 2 ^ 64 → head_in Journal (1 ∷ 0x4d ∷ 0x52 ∷ 0x4a ∷ 0 ∷ 0 ∷ 0 ∷ 1 ∷ u64_bytes generation) ≡ Open generation
unfolding generation_of
front_counts generation some low =
    ap (λ n. cond (nat_eq n 0) (Spoilt 8) (Open n)) (u64_again generation low)
    ∙ ap (λ b. cond b (Spoilt 8) (Open generation)) (not_zero generation some)
  where
    not_zero : (n : ℕ) → 0 < n → nat_eq n 0 ≡ false
    not_zero n some = elim (eqb_tells n 0) [ inl alike ↦ absurd (omega (arith, alike.1)) | inr other ↦ other.0 ]

pub founded_head : (generation : ℕ) (records : List (List ℕ)) (file : List ℕ) → 0 < generation → generation < 2 ^ 64 → file ≡ 1 ∷ area_body generation records → head_of Journal file ≡ Open generation
founded_head generation records file some low is =
    ap (λ b. cond b (head_in Journal (take 16 file)) Closed) (le-leb 17 (length file) (omega (arith, ap length is, length-body generation records)))
    ∙ ap (head_in Journal) (ap (take 16) is ∙ front_is generation (all_opened records ++ 0 ∷ []))
    ∙ front_counts generation some low

pub founded_stands : (generation : ℕ) (records : List (List ℕ)) (file : List ℕ) → All IsShort records → file ≡ 1 ∷ area_body generation records → StandsFor records file
founded_stands generation records file short is =
    let front = 1 ∷ 0x4d ∷ 0x52 ∷ 0x4a ∷ 0 ∷ 0 ∷ 0 ∷ 1 ∷ u64_bytes generation in
    let rest = all_opened records ++ 0 ∷ [] in
    let sixteen : length front ≡ 16 = omega (arith, length-u64 generation) in
    let whole : file ≡ (front ++ all_opened records) ++ 0 ∷ [] = is ∙ sym (append_assoc front (all_opened records) (0 ∷ [])) in
    let long : length (front ++ all_opened records) ≡ gate_of records = omega (arith, length-append front (all_opened records), sixteen, length-opened records) in
    record {
      short = short;
      within = omega (arith, ap length whole, length-append (front ++ all_opened records) (0 ∷ []), long);
      spelled = ap (take (gate_of records)) whole ∙ take_at (front ++ all_opened records) (0 ∷ []) (gate_of records) long
          ∙ ap (λ l. l ++ all_opened records) (sym (ap (take 16) is ∙ front_is generation rest));
      shut = λ one. (let zero_is : get_or file (gate_of records) 0 ≡ 0 =
          ap (λ l. get_or l (gate_of records) 0) whole ∙ ap (λ n. get_or ((front ++ all_opened records) ++ 0 ∷ []) n 0) (sym long) ∙ get_or-append_seam (front ++ all_opened records) 0 [] 0 in
          omega (arith, zero_is, one));
    }

-- ---- at each moment

closed_head : (size : ℕ) (image : List ℕ) → IsClosed size image → head_of Journal image ≡ Closed
closed_head size image is = head-shut Journal [] image image (record { no_longer = omega arith; within = is.some; front = refl; shut = is.shut })

front_head : (file image : List ℕ) → HasFront file image → SameFront file image
front_head file image has = record { long = omega (arith, has.longer, has.no_longer); longer = has.longer; front = has.front }

-- ---- a fresh pair

record IsFresh (areas : Areas) : Type 0 where
  first : head_of Journal areas.journal0 ≡ Closed
  second : head_of Journal areas.journal1 ≡ Closed
  empty : length areas.journal1 ≡ 0
  few : length areas.journal0 ≤ 17

abbrev no_area : Judgement
no_area = Ok None

fresh_tests : (a b : Bool) → cond {A = Judgement} (not a) (Err (Journal0, 0)) (cond b (Err (Journal0, 0)) no_area) ≡ no_area → (a ≡ true) × (b ≡ false)
fresh_tests true true e = absurd cc
fresh_tests true false e = (refl, refl)
fresh_tests false b e = absurd cc

fresh_heads : (n m : ℕ) (h s : Head) → judged Journal n m h s ≡ no_area → (h ≡ Closed) × (s ≡ Closed) × (m ≡ 0) × (n ≤ 17)
fresh_heads n m (Spoilt at) s e = absurd (let no : spoilt Journal0 at ≡ no_area = e in cc)
fresh_heads n m (Open k) (Spoilt at) e = absurd (let no : spoilt Journal1 at ≡ no_area = e in cc)
fresh_heads n m (Open k) (Open l) e = absurd (never (nat_eq k l) (nat_lt l k) k l e)
  where
    never : (a b : Bool) (k l : ℕ) → cond {A = Judgement} a (Err (Journal1, 8)) (cond b (stood Journal0 k) (stood Journal1 l)) ≡ no_area → ⊥
    never true b k l e = cc
    never false true k l e = cc
    never false false k l e = cc
fresh_heads n m (Open k) Closed e = absurd (let no : stood Journal0 k ≡ no_area = e in cc)
fresh_heads n m Closed (Spoilt at) e = absurd (let no : spoilt Journal1 at ≡ no_area = e in cc)
fresh_heads n m Closed (Open k) e = absurd (let no : stood Journal1 k ≡ no_area = e in cc)
fresh_heads n m Closed Closed e =
    let tests = fresh_tests (nat_eq m 0) (nat_lt 17 n) e in
    (refl, refl, empty m tests.0, ltb-false 17 n tests.1)
  where
    empty : (m : ℕ) → nat_eq m 0 ≡ true → m ≡ 0
    empty m e = elim (eqb_tells m 0) [ inl alike ↦ alike.1 | inr other ↦ absurd (let no : true ≡ false = sym e ∙ other.0 in cc) ]

fresh_is : (areas : Areas) → stands Journal areas ≡ no_area → IsFresh areas
fresh_is areas e =
    let parts = fresh_heads (length areas.journal0) (length areas.journal1) (head_of Journal areas.journal0) (head_of Journal areas.journal1) e in
    record { first = parts.0; second = parts.1; empty = parts.2; few = parts.3 }

is_fresh : (areas : Areas) → IsFresh areas → stands Journal areas ≡ no_area
is_fresh areas is =
    heads (length areas.journal0) (length areas.journal1) (head_of Journal areas.journal0) Closed (head_of Journal areas.journal1) Closed is.first is.second
    ∙ ap (λ b. cond {A = Judgement} (not b) (Err (Journal0, 0)) (cond (nat_lt 17 (length areas.journal0)) (Err (Journal0, 0)) no_area)) (ap (λ n. nat_eq n 0) is.empty)
    ∙ ap (λ b. cond {A = Judgement} b (Err (Journal0, 0)) no_area) (le-ltb 17 (length areas.journal0) is.few)

-- a fresh journal that was founded stands
pub fresh_holds : (limit : ℕ) (before image : Areas) → stands Journal before ≡ no_area → OthersStay Journal0 before image → image.journal0 ≡ 1 ∷ area_body 1 [] → Holds (log_of Journal0 1 limit []) [] image
fresh_holds limit before image fresh others all =
    let is = fresh_is before fresh in
    record {
      standing =
          heads (length image.journal0) (length image.journal1) (head_of Journal image.journal0) (Open 1) (head_of Journal image.journal1) Closed
          (founded_head 1 [] image.journal0 (omega arith) (omega arith) all) (ap (head_of Journal) (others Journal1 refl) ∙ is.second);
      content = founded_stands 1 [] image.journal0 (All-nil IsShort) all;
      end = refl;
      base_end = refl;
    }

-- a fresh pair, or one with a fresh journal, has no records
pub fresh_leaves : (before image : Areas) → stands Journal before ≡ no_area → RenewLeaves Journal0 (area_body 1 []) before image → records_in image ≡ Ok []
fresh_leaves before image fresh leaves = by leaves.file
  where
    still : (before image : Areas) → stands Journal before ≡ no_area → RenewLeaves Journal0 (area_body 1 []) before image → head_of Journal image.journal0 ≡ Closed → length image.journal0 ≤ 17 → records_in image ≡ Ok []
    still before image fresh leaves closed few =
        let is = fresh_is before fresh in
        let same_second = leaves.others Journal1 refl in
        ap (records_of image) (is_fresh image (record { first = closed; second = ap (head_of Journal) same_second ∙ is.second; empty = ap length same_second ∙ is.empty; few = few }))

    by : FrontOrShort before.journal0 image.journal0 ⊎ (IsClosed (length (area_body 1 [])) image.journal0 ⊎ (image.journal0 ≡ 1 ∷ area_body 1 [])) → records_in image ≡ Ok []
    by (inl (inl has)) =
        let is = fresh_is before fresh in
        still before image fresh leaves (same_head before.journal0 image.journal0 (front_head before.journal0 image.journal0 has) ∙ is.first) (omega (arith, has.no_longer, is.few))
    by (inl (inr few)) = still before image fresh leaves (head-short Journal image.journal0 few.short) (omega (arith, few.short))
    by (inr (inl closed)) = still before image fresh leaves (closed_head (length (area_body 1 [])) image.journal0 closed) (omega (arith, closed.no_longer, length-body 1 []))
    by (inr (inr all)) = let holds = fresh_holds 17 before image fresh leaves.others all in records_are image Journal0 1 [] holds.standing holds.content

-- so it stands for what it stood for
pub fresh_same : (before image : Areas) → stands Journal before ≡ no_area → RenewLeaves Journal0 (area_body 1 []) before image → SameRecords before image
fresh_same before image fresh leaves = record {
  checks = checks_stay Journal0 before image (inl refl) leaves.others;
  records = fresh_leaves before image fresh leaves ∙ sym (ap (records_of before) fresh);
}

-- ---- a log whose other area is renewed

pub number : (a : Area) (k : ℕ) (area : Area) (g : ℕ) → stood a k ≡ stood area g → k ≡ g
number a k area g e = let pair : (let p : Area × ℕ = (a, k) in p) ≡ (let q : Area × ℕ = (area, g) in q) = cc in ap (λ (p : Area × ℕ). p.1) pair

none_stands : (a b : Bool) (area : Area) (g : ℕ) → cond {A = Judgement} (not a) (Err (Journal0, 0)) (cond b (Err (Journal0, 0)) (Ok None)) ≡ stood area g → ⊥
none_stands true true area g e = cc
none_stands true false area g e = cc
none_stands false b area g e = cc

-- the areas of the checkpoints aren't the journal's
not_own : (area : Area) → 2 ≤ number_of area → (area ≡ Journal0) ⊎ (area ≡ Journal1) → ⊥
not_own area later (inl first) = omega (arith, ap number_of first)
not_own area later (inr second) = omega (arith, ap number_of second)

first_counts : (n m : ℕ) (h s : Head) (g : ℕ) → judged Journal n m h s ≡ stood Journal0 g → h ≡ Open g
first_counts n m (Spoilt at) s g e = absurd (e_fault Journal0 at (Journal0, g) e)
first_counts n m (Open k) (Spoilt at) g e = absurd (e_fault Journal1 at (Journal0, g) e)
first_counts n m (Open k) (Open l) g e = ap Open (chosen (nat_eq k l) (nat_lt l k) k l g e)
  where
    chosen : (a b : Bool) (k l g : ℕ) → cond {A = Judgement} a (Err (Journal1, 8)) (cond b (stood Journal0 k) (stood Journal1 l)) ≡ stood Journal0 g → k ≡ g
    chosen true b k l g e = absurd (e_fault Journal1 8 (Journal0, g) e)
    chosen false true k l g e = number Journal0 k Journal0 g e
    chosen false false k l g e = absurd (let no : Journal0 ≡ Journal1 = e_area Journal1 l Journal0 g e in cc)
first_counts n m (Open k) Closed g e = ap Open (number Journal0 k Journal0 g e)
first_counts n m Closed (Spoilt at) g e = absurd (e_fault Journal1 at (Journal0, g) e)
first_counts n m Closed (Open k) g e = absurd (let no : Journal0 ≡ Journal1 = e_area Journal1 k Journal0 g e in cc)
first_counts n m Closed Closed g e = absurd (none_stands (nat_eq m 0) (nat_lt 17 n) Journal0 g e)

second_counts : (n m : ℕ) (h s : Head) (g : ℕ) → judged Journal n m h s ≡ stood Journal1 g → s ≡ Open g
second_counts n m (Spoilt at) s g e = absurd (e_fault Journal0 at (Journal1, g) e)
second_counts n m (Open k) (Spoilt at) g e = absurd (e_fault Journal1 at (Journal1, g) e)
second_counts n m (Open k) (Open l) g e = ap Open (chosen (nat_eq k l) (nat_lt l k) k l g e)
  where
    chosen : (a b : Bool) (k l g : ℕ) → cond {A = Judgement} a (Err (Journal1, 8)) (cond b (stood Journal0 k) (stood Journal1 l)) ≡ stood Journal1 g → l ≡ g
    chosen true b k l g e = absurd (e_fault Journal1 8 (Journal1, g) e)
    chosen false true k l g e = absurd (let no : Journal1 ≡ Journal0 = e_area Journal0 k Journal1 g e in cc)
    chosen false false k l g e = number Journal1 l Journal1 g e
second_counts n m (Open k) Closed g e = absurd (let no : Journal1 ≡ Journal0 = e_area Journal0 k Journal1 g e in cc)
second_counts n m Closed (Spoilt at) g e = absurd (e_fault Journal1 at (Journal1, g) e)
second_counts n m Closed (Open k) g e = ap Open (number Journal1 k Journal1 g e)
second_counts n m Closed Closed g e = absurd (none_stands (nat_eq m 0) (nat_lt 17 n) Journal1 g e)

-- the greater generation stands
next_second : (n m g : ℕ) → judged Journal n m (Open g) (Open (g + 1)) ≡ stood Journal1 (g + 1)
next_second n m g =
    ap (λ b. cond {A = Judgement} b (Err (Journal1, 8)) (cond (nat_lt (g + 1) g) (stood Journal0 g) (stood Journal1 (g + 1)))) (differ g)
    ∙ ap (λ b. cond {A = Judgement} b (stood Journal0 g) (stood Journal1 (g + 1))) (le-ltb (g + 1) g (omega arith))
  where
    differ : (g : ℕ) → nat_eq g (g + 1) ≡ false
    differ g = elim (eqb_tells g (g + 1)) [ inl alike ↦ absurd (omega (arith, alike.1)) | inr other ↦ other.0 ]

next_first : (n m g : ℕ) → judged Journal n m (Open (g + 1)) (Open g) ≡ stood Journal0 (g + 1)
next_first n m g =
    ap (λ b. cond {A = Judgement} b (Err (Journal1, 8)) (cond (nat_lt g (g + 1)) (stood Journal0 (g + 1)) (stood Journal1 g))) (differ g)
    ∙ ap (λ b. cond {A = Judgement} b (stood Journal0 (g + 1)) (stood Journal1 g)) (lt-ltb g (g + 1) (omega arith))
  where
    differ : (g : ℕ) → nat_eq (g + 1) g ≡ false
    differ g = elim (eqb_tells (g + 1) g) [ inl alike ↦ absurd (omega (arith, alike.1)) | inr other ↦ other.0 ]

-- beside an area that doesn't count the one that stood stands
pub closed_stands : (area : Area) (g : ℕ) (before image : Areas) → (area ≡ Journal0) ⊎ (area ≡ Journal1) → stands Journal before ≡ stood area g → OthersStay (other_of area) before image
    → head_of Journal (bytes_of (other_of area) image) ≡ Closed → stands Journal image ≡ stood area g
closed_stands Journal0 g before image own standing others closed =
    let first = first_counts (length before.journal0) (length before.journal1) (head_of Journal before.journal0) (head_of Journal before.journal1) g standing in
    heads (length image.journal0) (length image.journal1) (head_of Journal image.journal0) (Open g) (head_of Journal image.journal1) Closed (ap (head_of Journal) (others Journal0 refl) ∙ first) closed
closed_stands Journal1 g before image own standing others closed =
    let second = second_counts (length before.journal0) (length before.journal1) (head_of Journal before.journal0) (head_of Journal before.journal1) g standing in
    heads (length image.journal0) (length image.journal1) (head_of Journal image.journal0) Closed (head_of Journal image.journal1) (Open g) closed (ap (head_of Journal) (others Journal1 refl) ∙ second)
closed_stands Check2 g before image own standing others closed = absurd (not_own Check2 (omega arith) own)
closed_stands Check3 g before image own standing others closed = absurd (not_own Check3 (omega arith) own)

-- beside an area with the next generation it doesn't
pub next_stands : (area : Area) (g : ℕ) (before image : Areas) → (area ≡ Journal0) ⊎ (area ≡ Journal1) → stands Journal before ≡ stood area g → OthersStay (other_of area) before image
    → head_of Journal (bytes_of (other_of area) image) ≡ Open (g + 1) → stands Journal image ≡ stood (other_of area) (g + 1)
next_stands Journal0 g before image own standing others next =
    let first = first_counts (length before.journal0) (length before.journal1) (head_of Journal before.journal0) (head_of Journal before.journal1) g standing in
    heads (length image.journal0) (length image.journal1) (head_of Journal image.journal0) (Open g) (head_of Journal image.journal1) (Open (g + 1)) (ap (head_of Journal) (others Journal0 refl) ∙ first) next
    ∙ next_second (length image.journal0) (length image.journal1) g
next_stands Journal1 g before image own standing others next =
    let second = second_counts (length before.journal0) (length before.journal1) (head_of Journal before.journal0) (head_of Journal before.journal1) g standing in
    heads (length image.journal0) (length image.journal1) (head_of Journal image.journal0) (Open (g + 1)) (head_of Journal image.journal1) (Open g) next (ap (head_of Journal) (others Journal1 refl) ∙ second)
    ∙ next_first (length image.journal0) (length image.journal1) g
next_stands Check2 g before image own standing others next = absurd (not_own Check2 (omega arith) own)
next_stands Check3 g before image own standing others next = absurd (not_own Check3 (omega arith) own)

-- a log whose other area was founded with one record and the next generation
pub next_holds : (log : Log) (records : List (List ℕ)) (r : List ℕ) (before image : Areas) → IsShort r → log.generation < 2 ^ 64 - 1 → Holds log records before → OthersStay (other_of log.area) before image
    → bytes_of (other_of log.area) image ≡ 1 ∷ area_body (log.generation + 1) (r ∷ []) → Holds (compacted log r) (r ∷ []) image
next_holds log records r before image short room_left holds others all =
    record {
      standing = next_stands log.area log.generation before image (standing_area log records before holds) holds.standing others
          (founded_head (log.generation + 1) (r ∷ []) (bytes_of (other_of log.area) image) (omega arith) (omega arith) all);
      content = founded_stands (log.generation + 1) (r ∷ []) (bytes_of (other_of log.area) image) (All-cons IsShort r [] short (All-nil IsShort)) all;
      end = refl;
      base_end = refl;
    }

-- the area that stands isn't the other one
apart : (area : Area) → (area ≡ Journal0) ⊎ (area ≡ Journal1) → same area (other_of area) ≡ false
apart Journal0 own = refl
apart Journal1 own = refl
apart Check2 own = refl
apart Check3 own = refl

pub other_own : (area : Area) → (area ≡ Journal0) ⊎ (area ≡ Journal1) → (other_of area ≡ Journal0) ⊎ (other_of area ≡ Journal1)
other_own area (inl first) = inr (ap other_of first)
other_own area (inr second) = inl (ap other_of second)

-- at each moment of a compaction
pub compact_leaves : (log : Log) (records : List (List ℕ)) (r : List ℕ) (before image : Areas) → IsShort r → log.generation < 2 ^ 64 - 1 → Holds log records before
    → RenewLeaves (other_of log.area) (area_body (log.generation + 1) (r ∷ [])) before image → OldOrNew records (r ∷ []) before image
compact_leaves log records r before image short room_left holds leaves = record {
  checks = checks_stay other before image (other_own log.area own) leaves.others;
  records = by leaves.file;
}
  where
    other : Area
    other = other_of log.area

    own : (log.area ≡ Journal0) ⊎ (log.area ≡ Journal1)
    own = standing_area log records before holds

    old : stands Journal image ≡ stood log.area log.generation → records_in image ≡ Ok records
    old standing = records_are image log.area log.generation records standing (subst (StandsFor records) (sym (leaves.others log.area (apart log.area own))) holds.content)

    by : FrontOrShort (bytes_of other before) (bytes_of other image) ⊎ (IsClosed (length (area_body (log.generation + 1) (r ∷ []))) (bytes_of other image) ⊎ (bytes_of other image ≡ 1 ∷ area_body (log.generation + 1) (r ∷ [])))
        → (records_in image ≡ Ok records) ⊎ (records_in image ≡ Ok (r ∷ []))
    by (inl (inl has)) = inl (old (front_stays other (log.area, log.generation) before image leaves.others (front_head (bytes_of other before) (bytes_of other image) has) holds.standing))
    by (inl (inr few)) = inl (old (closed_stands log.area log.generation before image own holds.standing leaves.others (head-short Journal (bytes_of other image) few.short)))
    by (inr (inl closed)) = inl (old (closed_stands log.area log.generation before image own holds.standing leaves.others (closed_head (length (area_body (log.generation + 1) (r ∷ []))) (bytes_of other image) closed)))
    by (inr (inr all)) =
        let next = next_holds log records r before image short room_left holds leaves.others all in
        inr (records_are image other (log.generation + 1) (r ∷ []) next.standing next.content)

-- ---- when it is done

pub record IsRenewed (area : Area) (body : List ℕ) (before image : Areas) : Type 0 where
  pub others : OthersStay area before image
  pub whole : bytes_of area image ≡ 1 ∷ body

pub renewed : (t : Told) (area : Area) (body : List ℕ) → 16 ≤ length body → IsSettled t → IsRenewed area body (reads t) (reads (and_then t (renew_calls area body t)))
renewed t area body long settled =
    let u = and_then t (retire_calls area t) in
    let few = retire_retires area t in
    let f = area_bytes area u in
    let P : Told → Type 0 = λ x. IsRenewed area body (reads t) (reads x) in
    let w = and_then u (gate_calls area 0 body) in
    subst P (and_then-and_then t (retire_calls area t) (gate_calls area 0 body)) (record {
      others = λ b other.
          image-other u b area (gate_steps 0 body) 4 (reads w) other (retire_settles area t) (reads_image w)
          ∙ sym (reads-bytes u b)
          ∙ image-other t b area (retire_steps (length (area_bytes area t))) 4 (reads u) other settled (reads_image u)
          ∙ sym (reads-bytes t b);
      whole =
          reads-bytes w area ∙ area_bytes-and_then area u (gate_calls area 0 body) ∙ ap (after f) (own-on area (gate_steps 0 body))
          ∙ opened_is 0 body f few.some ∙ ap (λ l. 1 ∷ (body ++ l)) (drop_all (0 + 1 + length body) f (omega (arith, few.short))) ∙ ap (λ l. 1 ∷ l) (append-nil body);
    })

-- ---- the bytes of a compaction

pub body_of_one : (generation : ℕ) (r bytes : List ℕ) → bytes ≡ front_bytes generation ++ (1 ∷ behind_gate r) → bytes ≡ area_body generation (r ∷ [])
body_of_one generation r bytes is =
    is ∙ ap (λ l. front_bytes generation ++ l)
    (ap (λ l. 1 ∷ l) (sym (append_assoc (u32_bytes (length r)) r (0 ∷ []))) ∙ ap (λ l. l ++ 0 ∷ []) (sym (append-nil (opened_record r))))
