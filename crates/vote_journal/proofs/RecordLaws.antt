-- A record is read as it is spelled, and what is read is spelled so.
use Rattle.std.proofs.Common.{◌≡◌, ℕ, zero, suc, ◌+◌, ◌-◌, ◌^◌, ◌<◌, ◌≤◌, Bool, true, false, List, [], ◌∷◌, ◌++◌, ◌==◌, if◌then◌else◌, nat_lt, length, Result, Ok, Err, refl, sym, ap, subst, ◌∙◌, append_assoc, append-nil, arith, inl, inr, IsTrue, IfOk}
use Rattle.std.specs.Prelude.{IsErrAnd}
use Rattle.std.specs.Int.{w32, w64}
use Rattle.std.specs.List.{AllByRecursion}
use Rattle.std.proofs.lemmas.Bool.{eqb-true}
use Rattle.std.proofs.lemmas.List.{nil_from_length, length-append}
use Rattle.std.proofs.lemmas.List.Concat.{flat_map-cons}
use Rattle.mrp_types.specs.declared.id.RingId.{RingId}
use Rattle.mrp_types.specs.declared.value.Value.{Value}
use Rattle.command_codec.specs.declared.fault.CodecFault.{CodecFault}
use Rattle.command_codec.specs.declared.fault.CodecFault.TheVariants.{BadKind, BadField, Left}
use Rattle.command_codec.specs.Fields.{u32_bytes, u64_bytes}
use Rattle.mrp_types.specs.Reading.{◌>>=◌, both, shown, nothing}
use Rattle.command_codec.specs.Reader.{Spot, Reader, byte_at, number_at, within, ended, whole, start, Fails, Reads, Says}
use Rattle.mrp_types.proofs.TestLemmas.{both as both_tests, below}
use Rattle.command_codec.proofs.ReaderLaws.{AreBytes, bound, ok_is, then_was, Took, took_both, Again, Field, number_law, wide32, rest_are}
use Rattle.command_codec.proofs.Combined.{follow_law, both_law, shown_was, kind_was, kind_again, chosen}
use Rattle.command_codec.proofs.PartLaws.{ring_text, IsRing, ring_law, IsNumber, wide_law, range_text, IsRangeFrom, range_law, not_none, MayStand, value_text, value_law}
use Rattle.command_codec.specs.Parts.{ring_at, ballot_at, inst_at, range_at, value_at, is_one_of}
use Rattle.mrp_types.specs.declared.voted.Voted.{Voted}
use Rattle.vote_state.specs.declared.change.Change.{Change}
use Rattle.vote_state.specs.declared.change.Change.TheVariants.{Epoch, Promise, Vote, Trim}
use Rattle.vote_journal.specs.declared.record.First.{First}
use Rattle.vote_journal.specs.Spelling.{change_bytes, changes_bytes, named_bytes, numbered, record_bytes, first_bytes, IsRecord, is_epoch_first, IsFirst}
use Rattle.vote_state.specs.Valid.{IsChange}
use Rattle.vote_journal.specs.Grammar.{epoch_at, promise_at, range_value_at, vote_of, vote_at, trim_at, change_of_kind, change_at, is_past, changes_at, is_newer, is_count, numbered_at, in_format, changes_of, first_changes_at, first_at, first_size, first_of}

-- ---- reading in turn

-- what was read before, and what is still read
abbrev pub before : List Change → Result (List Change × Spot) CodecFault → Result (List Change × Spot) CodecFault
before front read = read >>= λ x. Ok (front ++ x.0, x.1)

pub none_before : (read : Result (List Change × Spot) CodecFault) → before [] read ≡ read
none_before (Ok x) = refl
none_before (Err e) = refl

regroup : (front : List Change) (v : Change) (read : Result (List Change × Spot) CodecFault) → before front (read >>= λ x. Ok (v ∷ x.0, x.1)) ≡ before (front ++ v ∷ []) read
regroup front v (Ok x) = ap (λ (vs : List Change). Ok (vs, x.1)) (sym (append_assoc front (v ∷ []) x.0))
regroup front v (Err e) = refl

-- one more was read
one_more : (most : ℕ) (front : List Change) (spot : Spot) (v : Change) (behind : Spot) → is_past spot ≡ false → change_at spot ≡ Ok (v, behind) → before front (changes_at (suc most) spot) ≡ before (front ++ v ∷ []) (changes_at most behind)
one_more most front spot v behind some h = rw (some, h) (regroup front v (changes_at most behind))

pub begins : (front : List Change) (most : ℕ) (spot : Spot) → front ≡ [] → before front (changes_at (most - 0) spot) ≡ changes_at most spot
begins front most spot none =
    let k : most - 0 ≡ most = omega arith in
    rw (none, k) (none_before (changes_at most spot))

pub goes_on : (front now : List Change) (most turn : ℕ) (spot : Spot) (v : Change) (behind : Spot) (total : Result (List Change × Spot) CodecFault) →
    turn < most → is_past spot ≡ false → change_at spot ≡ Ok (v, behind) → now ≡ front ++ v ∷ [] →
    before front (changes_at (most - turn) spot) ≡ total → before now (changes_at (most - (turn + 1)) behind) ≡ total
goes_on front now most turn spot v behind total less some h grown so_far =
    let k : most - turn ≡ suc (most - (turn + 1)) = omega arith in
    rw grown (sym (one_more (most - (turn + 1)) front spot v behind some h) ∙ ap (λ (n : ℕ). before front (changes_at n spot)) (sym k) ∙ so_far)

pub is_done : (front : List Change) (most turn : ℕ) (spot : Spot) (total : Result (List Change × Spot) CodecFault) → most ≤ turn → before front (changes_at (most - turn) spot) ≡ total → total ≡ Ok (front, spot)
is_done front most turn spot total all so_far =
    let k : most - turn ≡ 0 = omega arith in
    let one : before front (changes_at (most - turn) spot) ≡ Ok (front, spot) = rw k (ap (λ (vs : List Change). Ok (vs, spot)) (append-nil front)) in
    sym so_far ∙ one

pub is_past_all : (front : List Change) (most turn : ℕ) (spot : Spot) (total : Result (List Change × Spot) CodecFault) → turn < most → is_past spot ≡ true → before front (changes_at (most - turn) spot) ≡ total → total ≡ Ok (front, spot)
is_past_all front most turn spot total less past so_far =
    let k : most - turn ≡ suc (most - (turn + 1)) = omega arith in
    let one : before front (changes_at (most - turn) spot) ≡ Ok (front, spot) = rw (k, past) (ap (λ (vs : List Change). Ok (vs, spot)) (append-nil front)) in
    sym so_far ∙ one

-- a turn's fault is the fault of all
pub fails_by : (front : List Change) (most turn : ℕ) (spot : Spot) (total : Result (List Change × Spot) CodecFault) (e : CodecFault) →
    turn < most → is_past spot ≡ false → Fails (change_at spot) e → before front (changes_at (most - turn) spot) ≡ total → Fails total e
fails_by front most turn spot total e less some (inl memory) so_far = inl memory
fails_by front most turn spot total e less some (inr h) so_far =
    let k : most - turn ≡ suc (most - (turn + 1)) = omega arith in
    let one : before front (changes_at (most - turn) spot) ≡ Err e = rw (k, some, h) refl in
    inr (sym so_far ∙ one)

-- the call ends by the fault of a turn
pub ends : (front : List Change) (most turn : ℕ) (spot left : Spot) (total : Result (List Change × Spot) CodecFault) (e : CodecFault) (r : Result (List Change) CodecFault) → IsErrAnd r (λ x. x ≡ e) →
    turn < most → is_past spot ≡ false → Fails (change_at spot) e → before front (changes_at (most - turn) spot) ≡ total → Reads (λ (c : List Change). c) total r left
ends front most turn spot left total e (Ok x) is less some fails so_far = absurd is
ends front most turn spot left total e (Err x) is less some fails so_far = rw is (fails_by front most turn spot total e less some fails so_far)

-- ---- a vote

abbrev pub range_value_text : (ℕ × ℕ) × Value → List ℕ
range_value_text v = range_text v.0 ++ value_text v.1

abbrev pub IsRangeValue : (ℕ × ℕ) × Value → Type 0
IsRangeValue v = IsRangeFrom 0 v.0 × MayStand true (is_one_of v.0) v.1

range_value_law : Field ((ℕ × ℕ) × Value) range_value_at range_value_text IsRangeValue
range_value_law =
    follow_law (ℕ × ℕ) Value range_at (λ range. value_at true (is_one_of range)) range_text value_text (IsRangeFrom 0) (λ range. MayStand true (is_one_of range)) (range_law 0) (λ range. value_law true (is_one_of range))

-- ---- changes

abbrev pub ring_number_text : RingId × ℕ → List ℕ
ring_number_text v = ring_text v.0 ++ u64_bytes v.1

abbrev pub IsRingNumber : ℕ → RingId × ℕ → Type 0
IsRingNumber most v = IsRing v.0 × IsNumber 0 most v.1

ring_number_law : (most : ℕ) → Field (RingId × ℕ) (both ring_at (within 0 most (number_at w64))) ring_number_text (IsRingNumber most)
ring_number_law most = both_law RingId ℕ ring_at (within 0 most (number_at w64)) ring_text u64_bytes IsRing (IsNumber 0 most) ring_law (wide_law 0 most)

abbrev pub ballot_vote_text : ℕ × ((ℕ × ℕ) × Value) → List ℕ
ballot_vote_text v = u64_bytes v.0 ++ range_value_text v.1

abbrev pub IsBallotVote : ℕ × ((ℕ × ℕ) × Value) → Type 0
IsBallotVote v = IsNumber 0 (2 ^ 48 - 1) v.0 × IsRangeValue v.1

abbrev pub vote_text : RingId × (ℕ × ((ℕ × ℕ) × Value)) → List ℕ
vote_text v = ring_text v.0 ++ ballot_vote_text v.1

abbrev pub IsVoteText : RingId × (ℕ × ((ℕ × ℕ) × Value)) → Type 0
IsVoteText v = IsRing v.0 × IsBallotVote v.1

vote_law : Field (RingId × (ℕ × ((ℕ × ℕ) × Value))) (both ring_at (both ballot_at range_value_at)) vote_text IsVoteText
vote_law =
    both_law RingId (ℕ × ((ℕ × ℕ) × Value)) ring_at (both ballot_at range_value_at) ring_text ballot_vote_text IsRing IsBallotVote ring_law
    (both_law ℕ ((ℕ × ℕ) × Value) ballot_at range_value_at u64_bytes range_value_text (IsNumber 0 (2 ^ 48 - 1)) IsRangeValue (wide_law 0 (2 ^ 48 - 1)) range_value_law)

vote_is : (v : RingId × (ℕ × ((ℕ × ℕ) × Value))) → IsVoteText v → IsChange (vote_of v)
vote_is v is =
    let ballot = is.1.0.2 in
    let lo = is.1.1.0.0.2 in
    let low = is.1.1.0.1.1 in
    let hi = is.1.1.0.1.2 in (
      is.0,
      record {
        ballot = omega arith;
        range = omega arith;
        end = hi;
        alone = λ batch. eqb-true _ _ (is.1.1.1.batch batch) ∙ one_more_is v.1.1.0.0;
        value = is.1.1.1.spelled;
      },
    )
  where
    one_more_is : (n : ℕ) → n + 1 ≡ suc n
    one_more_is n = omega arith

is_vote : (ring : RingId) (v : Voted) → IsChange (Vote ring v) → IsVoteText (ring, (v.ballot, ((v.lo, v.hi), v.value)))
is_vote ring v is =
    let valid = is.1 in
    let ballot = valid.ballot in
    let range = valid.range in
    let end = valid.end in
    (is.0, ((omega arith, omega arith, omega arith), (((omega arith, omega arith, omega arith), (omega arith, omega arith, omega arith)), record { skip = λ _. refl; batch = λ batch. is_one (valid.alone batch); spelled = valid.value })))
  where
    is_one : v.hi ≡ suc v.lo → (v.hi == v.lo + 1) ≡ true
    is_one h = grind arith

abbrev pub WasRead : ℕ → List ℕ → Change × Spot → Type 0
WasRead at rest x = Took (record { at = at; rest = rest }) (change_bytes x.0) x.1 × IsChange x.0

of_kind_was : (at behind kind : ℕ) (rest : List ℕ) (x : Change × Spot) → AreBytes rest → change_of_kind at kind (record { at = behind; rest = rest }) ≡ Ok x → WasRead at (kind ∷ rest) x
unfolding change_of_kind epoch_at promise_at vote_at trim_at
of_kind_was at behind kind rest x are h =
    chosen Change (kind == 1) _ _ x (WasRead at (kind ∷ rest) x) h
    (λ is r. kind_was ℕ Change Epoch (number_at w32) u32_bytes change_bytes (λ n. n < 2 ^ 32) IsChange (number_law w32 (2 ^ 32) u32_bytes wide32) 1
    (λ v ok. refl) (λ v ok. ok) kind (eqb-true kind 1 is) at behind rest x are r)
    (λ h. chosen Change (kind == 2) _ _ x (WasRead at (kind ∷ rest) x) h
    (λ is r. kind_was (RingId × ℕ) Change (λ v. Promise v.0 v.1) (both ring_at ballot_at) ring_number_text change_bytes (IsRingNumber (2 ^ 48 - 1)) IsChange (ring_number_law (2 ^ 48 - 1)) 2
    (λ v ok. refl) (λ v ok. (ok.0, omega (arith, ok.1.2))) kind (eqb-true kind 2 is) at behind rest x are r)
    (λ h. chosen Change (kind == 3) _ _ x (WasRead at (kind ∷ rest) x) h
    (λ is r. kind_was (RingId × (ℕ × ((ℕ × ℕ) × Value))) Change vote_of (both ring_at (both ballot_at range_value_at)) vote_text change_bytes IsVoteText IsChange vote_law 3
    (λ v ok. refl) (λ v ok. vote_is v ok) kind (eqb-true kind 3 is) at behind rest x are r)
    (λ h. chosen Change (kind == 4) _ _ x (WasRead at (kind ∷ rest) x) h
    (λ is r. kind_was (RingId × ℕ) Change (λ v. Trim v.0 v.1) (both ring_at inst_at) ring_number_text change_bytes (IsRingNumber (2 ^ 40 - 1)) IsChange (ring_number_law (2 ^ 40 - 1)) 4
    (λ v ok. refl) (λ v ok. (ok.0, omega (arith, ok.1.2))) kind (eqb-true kind 4 is) at behind rest x are r)
    (λ h. absurd (no_kind at x h)))))
  where
    no_kind : (at : ℕ) (x : Change × Spot) → Err (BadKind at) ≡ Ok x → ⊥
    no_kind at x h = cc

change_was : (at : ℕ) (rest : List ℕ) (x : Change × Spot) → AreBytes rest → change_at (record { at = at; rest = rest }) ≡ Ok x → WasRead at rest x
unfolding change_at
change_was at [] x are h = absurd (no_byte at x h)
  where
    no_byte : (at : ℕ) (x : Change × Spot) → change_at (record { at = at; rest = [] }) ≡ Ok x → ⊥
    no_byte at x h = cc
change_was at (kind ∷ rest) x are h = of_kind_was at (at + 1) kind rest x (rest_are kind rest are) h

change_again : (change : Change) (at : ℕ) (tail : List ℕ) → IsChange change → Again Change change_at change_bytes change at tail
unfolding change_at change_of_kind epoch_at promise_at vote_at trim_at
change_again (Epoch epoch) at tail is = kind_again ℕ Change Epoch (number_at w32) u32_bytes (λ n. n < 2 ^ 32) (number_law w32 (2 ^ 32) u32_bytes wide32) epoch (at + 1) tail is
change_again (Promise ring ballot) at tail is =
    kind_again (RingId × ℕ) Change (λ v. Promise v.0 v.1) (both ring_at ballot_at) ring_number_text (IsRingNumber (2 ^ 48 - 1)) (ring_number_law (2 ^ 48 - 1)) (ring, ballot) (at + 1) tail
    (is.0, (omega (arith, is.1), omega arith, omega (arith, is.1)))
change_again (Vote ring v) at tail is =
    kind_again (RingId × (ℕ × ((ℕ × ℕ) × Value))) Change vote_of (both ring_at (both ballot_at range_value_at)) vote_text IsVoteText vote_law (ring, (v.ballot, ((v.lo, v.hi), v.value))) (at + 1) tail (is_vote ring v is)
change_again (Trim ring inst) at tail is =
    kind_again (RingId × ℕ) Change (λ v. Trim v.0 v.1) (both ring_at inst_at) ring_number_text (IsRingNumber (2 ^ 40 - 1)) (ring_number_law (2 ^ 40 - 1)) (ring, inst) (at + 1) tail
    (is.0, (omega (arith, is.1), omega arith, omega (arith, is.1)))

pub change_law : Field Change change_at change_bytes IsChange
change_law = record {
  was = λ spot x are h. change_was spot.at spot.rest x are h;
  again = change_again;
}

-- ---- changes until nothing is left

past_is : (spot : Spot) → is_past spot ≡ true → spot.rest ≡ []
past_is spot h = nil_from_length spot.rest (eqb-true _ _ h)

abbrev pub WereRead : Spot → List Change × Spot → Type 0
WereRead spot x = Took spot (changes_bytes x.0) x.1 × AllByRecursion IsChange x.0

none_read : (spot : Spot) (x : List Change × Spot) → AreBytes spot.rest → nothing {E = CodecFault} {V = List Change} [] spot ≡ Ok x → WereRead spot x
none_read spot x are h = subst (λ (y : List Change × Spot). WereRead spot y) (ok_is ([], spot) x h) (record { parts = refl; bytes = are }, tt)

changes_were : (most : ℕ) (spot : Spot) (x : List Change × Spot) → AreBytes spot.rest → changes_at most spot ≡ Ok x → WereRead spot x
changes_were zero spot x are h = none_read spot x are h
changes_were (suc most) spot x are h =
    chosen (List Change) (is_past spot) _ _ x (WereRead spot x) h
    (λ past r. none_read spot x are r)
    (λ r.
    let p = bound (change_at spot) (λ first. changes_at most first.1 >>= λ others. Ok (first.0 ∷ others.0, others.1)) x r in
    let q = bound (changes_at most p.0.1) (λ others. Ok (p.0.0 ∷ others.0, others.1)) x p.2 in
    let t = change_law.was spot p.0 are p.1 in
    let u = changes_were most p.0.1 q.0 t.0.bytes q.1 in
    let all = took_both spot (change_bytes p.0.0) p.0.1 (changes_bytes q.0.0) q.0.1 t.0 u.0 in
    subst (λ (y : List Change × Spot). WereRead spot y) (ok_is (p.0.0 ∷ q.0.0, q.0.1) x q.2) (rw flat_map-cons all, (t.1, u.1)))

some_length : (change : Change) → 1 ≤ length (change_bytes change)
some_length (Epoch epoch) = omega arith
some_length (Promise ring ballot) = omega arith
some_length (Vote ring v) = omega arith
some_length (Trim ring inst) = omega arith

some_bytes : (change : Change) (tail : List ℕ) → (length (change_bytes change ++ tail) == 0) ≡ false
some_bytes change tail = let some = some_length change in not_none (length (change_bytes change ++ tail)) (omega (arith, length-append (change_bytes change) tail))

changes_again : (changes : List Change) (most at : ℕ) → length changes ≤ most → AllByRecursion IsChange changes →
    (behind : ℕ) × (changes_at most (record { at = at; rest = changes_bytes changes }) ≡ Ok (changes, record { at = behind; rest = [] }))
changes_again [] zero at fits each = (at, refl)
changes_again [] (suc most) at fits each = (at, refl)
changes_again (c ∷ cs) zero at fits each = absurd (omega arith)
changes_again (c ∷ cs) (suc most) at fits each =
    let p = change_law.again c at (changes_bytes cs) each.0 in
    let q = changes_again cs most p.0 (omega arith) each.1 in
    (q.0, ap (λ (r : List ℕ). changes_at (suc most) (record { at = at; rest = r })) (flat_map-cons change_bytes c cs) ∙ rw (some_bytes c (changes_bytes cs), p.1, q.1) refl)

no_more_changes_than_bytes : (changes : List Change) → length changes ≤ length (changes_bytes changes)
no_more_changes_than_bytes [] = omega arith
no_more_changes_than_bytes (c ∷ cs) =
    let rest = no_more_changes_than_bytes cs in
    let one = some_length c in
    let parts : length (changes_bytes (c ∷ cs)) ≡ length (change_bytes c) + length (changes_bytes cs) = ap (λ (x : List ℕ). length x) (flat_map-cons change_bytes c cs) ∙ length-append (change_bytes c) (changes_bytes cs) in
    omega arith

-- ---- the formats

-- a body alone is the text of what was read
alone_was : (V : Type 0) (body : Reader V) (text : V → List ℕ) (Is : V → Type 0) → ((spot : Spot) (x : V × Spot) → AreBytes spot.rest → body spot ≡ Ok x → Took spot (text x.0) x.1 × Is x.0) →
    (bytes : List ℕ) (value : V) → AreBytes bytes → whole body bytes ≡ Ok value → (bytes ≡ text value) × Is value
alone_was V body text Is was bytes value are h =
    let p = bound (body (start bytes)) (λ x. ended x.0 x.1) value h in
    let g = then_was (length p.0.1.rest == 0) (Left p.0.1.at) p.0.0 value p.2 in
    let t = was (start bytes) p.0 are p.1 in
    let none : p.0.1.rest ≡ [] = nil_from_length p.0.1.rest (eqb-true _ _ g.0) in
    let parts : bytes ≡ text p.0.0 = t.0.parts ∙ ap (λ (r : List ℕ). text p.0.0 ++ r) none ∙ append-nil (text p.0.0) in
    subst (λ (v : V). (bytes ≡ text v) × Is v) g.1 (parts, t.1)

count_was : (count size : ℕ) → is_count count size ≡ true → (0 < count) × (size ≡ count)
count_was count size h =
    let tests = both_tests (nat_lt 0 count) (size == count) h in
    (below 0 count tests.0, eqb-true size count tests.1)

-- behind the first byte is the number of changes, and they are the text of what was read
numbered_was : (V : Type 0) (size : V → ℕ) (body : Reader V) (text : V → List ℕ) (Is : V → Type 0) → ((spot : Spot) (x : V × Spot) → AreBytes spot.rest → body spot ≡ Ok x → Took spot (text x.0) x.1 × Is x.0) →
    (first : ℕ) (rest : List ℕ) (value : V) → AreBytes (first ∷ rest) → whole (numbered_at size body) (first ∷ rest) ≡ Ok value → (rest ≡ u32_bytes (size value) ++ text value) × (0 < size value) × (size value < 2 ^ 32) × Is value
unfolding numbered_at
numbered_was V size body text Is was first rest value are h =
    let behind : Spot = record { at = 1; rest = rest } in
    let p = bound (number_at w32 behind >>= λ count. body count.1 >>= λ x. if is_count count.0 (size x.0) then Ok x else Err (BadField 1)) (λ x. ended x.0 x.1) value h in
    let g = then_was (length p.0.1.rest == 0) (Left p.0.1.at) p.0.0 value p.2 in
    let q = bound (number_at w32 behind) (λ count. body count.1 >>= λ x. if is_count count.0 (size x.0) then Ok x else Err (BadField 1)) p.0 p.1 in
    let n = (number_law w32 (2 ^ 32) u32_bytes wide32).was behind q.0 (rest_are first rest are) q.1 in
    let r = bound (body q.0.1) (λ x. if is_count q.0.0 (size x.0) then Ok x else Err (BadField 1)) p.0 q.2 in
    let t = was q.0.1 r.0 n.0.bytes r.1 in
    let c = then_was (is_count q.0.0 (size r.0.0)) (BadField 1) r.0 p.0 r.2 in
    let counts = count_was q.0.0 (size r.0.0) c.0 in
    let none : r.0.1.rest ≡ [] = ap (λ (y : V × Spot). y.1.rest) c.1 ∙ nil_from_length p.0.1.rest (eqb-true _ _ g.0) in
    let parts : rest ≡ u32_bytes (size r.0.0) ++ text r.0.0 =
    n.0.parts ∙ ap (λ (t : List ℕ). u32_bytes q.0.0 ++ t) (t.0.parts ∙ ap (λ (t : List ℕ). text r.0.0 ++ t) none ∙ append-nil (text r.0.0)) ∙ ap (λ (k : ℕ). u32_bytes k ++ text r.0.0) (sym counts.1) in
    subst (λ (v : V). (rest ≡ u32_bytes (size v) ++ text v) × (0 < size v) × (size v < 2 ^ 32) × Is v) (ap (λ (y : V × Spot). y.0) c.1 ∙ g.1)
    (parts, rw counts.1 counts.0, rw counts.1 n.1, t.1)

-- what was read of a record in either format is spelled so
pub record_was : (V : Type 0) (size : V → ℕ) (body : Reader V) (text : V → List ℕ) (Is : V → Type 0) → ((spot : Spot) (x : V × Spot) → AreBytes spot.rest → body spot ≡ Ok x → Took spot (text x.0) x.1 × Is x.0) →
    (bytes : List ℕ) (value : V) → AreBytes bytes → whole (in_format (is_newer bytes) size body) bytes ≡ Ok value → IsRecord (size value) (text value) bytes × Is value
record_was V size body text Is was [] value are h = let t = alone_was V body text Is was [] value are h in (inl t.0, t.1)
record_was V size body text Is was (b ∷ rest) value are h = by (b == 6) refl h
  where
    by : (newer : Bool) → (b == 6) ≡ newer → whole (in_format newer size body) (b ∷ rest) ≡ Ok value → IsRecord (size value) (text value) (b ∷ rest) × Is value
    by true six h =
        let t = numbered_was V size body text Is was b rest value are h in
        (inr (ap (λ (k : ℕ). k ∷ rest) (eqb-true b 6 six) ∙ ap (λ (r : List ℕ). 6 ∷ r) t.0, t.1, t.2), t.3)
    by false six h = let t = alone_was V body text Is was (b ∷ rest) value are h in (inl t.0, t.1)

-- what holds of all that a body reads holds in either format
pub in_either_format : (V : Type 0) (size : V → ℕ) (body : Reader V) (P : V → Type 0) → ((spot : Spot) (x : V × Spot) → body spot ≡ Ok x → P x.0) →
    (newer : Bool) (spot : Spot) (x : V × Spot) → in_format newer size body spot ≡ Ok x → P x.0
unfolding numbered_at
in_either_format V size body P each false spot x h = each spot x h
in_either_format V size body P each true spot x h =
    let k = bound (byte_at spot) (λ kind. number_at w32 kind.1 >>= λ count. body count.1 >>= λ y. if is_count count.0 (size y.0) then Ok y else Err (BadField kind.1.at)) x h in
    let n = bound (number_at w32 k.0.1) (λ count. body count.1 >>= λ y. if is_count count.0 (size y.0) then Ok y else Err (BadField k.0.1.at)) x k.2 in
    let f = bound (body n.0.1) (λ y. if is_count n.0.0 (size y.0) then Ok y else Err (BadField k.0.1.at)) x n.2 in
    let t = then_was (is_count n.0.0 (size f.0.0)) (BadField k.0.1.at) f.0 x f.2 in
    subst (λ (y : V × Spot). P y.0) t.1 (each n.0.1 f.0 f.1)

-- what is spelled as a body is read, where the reader takes all of its text at each place
abbrev pub IsReadAgain : (V : Type 0) → Reader V → List ℕ → V → Type 0
IsReadAgain V body text value = (at : ℕ) → (behind : ℕ) × (body (record { at = at; rest = text }) ≡ Ok (value, record { at = behind; rest = [] }))

alone_again : (V : Type 0) (size : V → ℕ) (body : Reader V) (text : List ℕ) (value : V) → is_newer text ≡ false → IsReadAgain V body text value → whole (in_format (is_newer text) size body) text ≡ Ok value
alone_again V size body text value older again = let r = again 0 in rw (older, r.1) refl

numbered_again : (V : Type 0) (size : V → ℕ) (body : Reader V) (text : List ℕ) (value : V) → 0 < size value → size value < 2 ^ 32 → IsReadAgain V body text value → whole (numbered_at size body) (numbered (size value) text) ≡ Ok value
unfolding numbered_at
numbered_again V size body text value some fits again =
    let n = (number_law w32 (2 ^ 32) u32_bytes wide32).again (size value) 1 text fits in
    let r = again n.0 in
    let counts = is_counted (size value) some in
    rw (n.1, r.1, counts) refl
  where
    is_counted : (n : ℕ) → 0 < n → is_count n n ≡ true
    is_counted n some = grind arith

-- the kinds of changes are others than 6
older_changes : (changes : List Change) → is_newer (changes_bytes changes) ≡ false
older_changes [] = refl
older_changes (Epoch epoch ∷ cs) = ap is_newer (flat_map-cons change_bytes (Epoch epoch) cs)
older_changes (Promise ring ballot ∷ cs) = ap is_newer (flat_map-cons change_bytes (Promise ring ballot) cs)
older_changes (Vote ring v ∷ cs) = ap is_newer (flat_map-cons change_bytes (Vote ring v) cs)
older_changes (Trim ring inst ∷ cs) = ap is_newer (flat_map-cons change_bytes (Trim ring inst) cs)

-- ---- all of the bytes of a record

all_were : (bytes : List ℕ) (changes : List Change) → AreBytes bytes → changes_of bytes ≡ Ok changes → IsRecord (length changes) (changes_bytes changes) bytes × AllByRecursion IsChange changes
all_were bytes changes are h = record_was (List Change) (λ cs. length cs) (changes_at (length bytes)) changes_bytes (AllByRecursion IsChange) (changes_were (length bytes)) bytes changes are h

-- a record of format 2 is read
pub all_again : (changes : List Change) → 0 < length changes → length changes < 2 ^ 32 → AllByRecursion IsChange changes → changes_of (record_bytes changes) ≡ Ok changes
all_again changes some fits each =
    numbered_again (List Change) (λ cs. length cs) (changes_at (length (record_bytes changes))) (changes_bytes changes) changes some fits
    (λ at. changes_again changes (length (record_bytes changes)) at (omega (arith, no_more_changes_than_bytes changes, length-append (u32_bytes (length changes)) (changes_bytes changes))) each)

again_so : (changes : List Change) (bytes : List ℕ) → AllByRecursion IsChange changes → IsRecord (length changes) (changes_bytes changes) bytes → changes_of bytes ≡ Ok changes
again_so changes bytes each (inl alone) =
    ap changes_of alone
    ∙ alone_again (List Change) (λ cs. length cs) (changes_at (length (changes_bytes changes))) (changes_bytes changes) changes (older_changes changes)
    (λ at. changes_again changes (length (changes_bytes changes)) at (no_more_changes_than_bytes changes) each)
again_so changes bytes each (inr numbered) = ap changes_of numbered.0 ∙ all_again changes numbered.1 numbered.2 each

pub found_by : (bytes : List ℕ) (r : Result (List Change) CodecFault) → AreBytes bytes → Says (λ (c : List Change). c) (changes_of bytes) r → IfOk r (λ c. IsRecord (length c) (changes_bytes c) bytes × AllByRecursion IsChange c)
found_by bytes (Ok changes) are says = all_were bytes changes are says
found_by bytes (Err e) are says = tt

pub only_so : (bytes : List ℕ) (r : Result (List Change) CodecFault) → Says (λ (c : List Change). c) (changes_of bytes) r → (changes : List Change) → AllByRecursion IsChange changes →
    IsRecord (length changes) (changes_bytes changes) bytes → Says (λ (c : List Change). c) (Ok changes) r
only_so bytes r says changes each spelled =
    subst (λ (o : Result (List Change) CodecFault). Says (λ (c : List Change). c) o r) (again_so changes bytes each spelled) says

-- ---- the first record

abbrev pub made_first : ℕ × List Change → First
made_first x = record { node = record { 0 = x.0 }; changes = x.1 }

first_were : (most : ℕ) (spot : Spot) (x : List Change × Spot) → AreBytes spot.rest → first_changes_at most spot ≡ Ok x → WereRead spot x × IsTrue (is_epoch_first x.0)
first_were most spot x are h =
    let p = bound (changes_at most spot) (λ changes. if is_epoch_first changes.0 then Ok changes else Err (BadField spot.at)) x h in
    let g = then_was (is_epoch_first p.0.0) (BadField spot.at) p.0 x p.2 in
    let t = changes_were most spot p.0 are p.1 in
    subst (λ (y : List Change × Spot). WereRead spot y × IsTrue (is_epoch_first y.0)) g.1 (t, g.0)

-- what was read of a first record's changes
abbrev pub FirstRead : ℕ → List ℕ → First × Spot → Type 0
FirstRead at bytes x = Took (record { at = at; rest = bytes }) (named_bytes x.0.node x.0.changes) x.1 × IsFirst x.0

after_kind : (most at behind : ℕ) (rest : List ℕ) (x : First × Spot) → AreBytes rest → shown made_first (both byte_at (first_changes_at most)) (record { at = behind; rest = rest }) ≡ Ok x → FirstRead at (5 ∷ rest) x
after_kind most at behind [] x are h = absurd (no_byte most behind x h)
  where
    no_byte : (most behind : ℕ) (x : First × Spot) → shown made_first (both byte_at (first_changes_at most)) (record { at = behind; rest = [] }) ≡ Ok x → ⊥
    no_byte most behind x h = cc
after_kind most at behind (node ∷ rest) x are h =
    let p = shown_was (ℕ × List Change) First made_first (both byte_at (first_changes_at most)) (record { at = behind; rest = node ∷ rest }) x h in
    let q = bound (first_changes_at most (record { at = behind + 1; rest = rest })) (λ b. Ok ((node, b.0), b.1)) p.0 p.1 in
    let t = first_were most (record { at = behind + 1; rest = rest }) q.0 (rest_are node rest are) q.1 in
    let parts : 5 ∷ node ∷ rest ≡ 5 ∷ node ∷ (changes_bytes q.0.0 ++ q.0.1.rest) = ap (λ (r : List ℕ). 5 ∷ node ∷ r) t.0.0.parts in
    subst (λ (y : First × Spot). FirstRead at (5 ∷ node ∷ rest) y) (ap (λ (y : (ℕ × List Change) × Spot). (made_first y.0, y.1)) (ok_is ((node, q.0.0), q.0.1) p.0 q.2) ∙ p.2)
    (record { parts = parts; bytes = t.0.0.bytes }, record { each = t.0.1; epoch = t.1 })

first_was : (most at : ℕ) (bytes : List ℕ) (x : First × Spot) → AreBytes bytes → first_at most (record { at = at; rest = bytes }) ≡ Ok x → FirstRead at bytes x
unfolding first_at
first_was most at [] x are h = absurd (no_byte most at x h)
  where
    no_byte : (most at : ℕ) (x : First × Spot) → first_at most (record { at = at; rest = [] }) ≡ Ok x → ⊥
    no_byte most at x h = cc
first_was most at (kind ∷ rest) x are h =
    chosen First (kind == 5) _ _ x (FirstRead at (kind ∷ rest) x) h
    (λ is r. subst (λ (k : ℕ). FirstRead at (k ∷ rest) x) (sym (eqb-true kind 5 is)) (after_kind most at (at + 1) rest x (rest_are kind rest are) r))
    (λ r. absurd (no_kind at x r))
  where
    no_kind : (at : ℕ) (x : First × Spot) → Err (BadKind at) ≡ Ok x → ⊥
    no_kind at x h = cc

abbrev pub IsFirstRecord : First → List ℕ → Type 0
IsFirstRecord first bytes = IsRecord (first_size first) (named_bytes first.node first.changes) bytes

whole_first_was : (bytes : List ℕ) (first : First) → AreBytes bytes → first_of bytes ≡ Ok first → IsFirstRecord first bytes × IsFirst first
whole_first_was bytes first are h =
    record_was First first_size (first_at (length bytes)) (λ f. named_bytes f.node f.changes) IsFirst (λ spot x are h. first_was (length bytes) spot.at spot.rest x are h) bytes first are h

first_again : (most : ℕ) (first : First) → IsFirst first → length first.changes ≤ most → IsReadAgain First (first_at most) (named_bytes first.node first.changes) first
unfolding first_at
first_again most first is fits at =
    let r = changes_again first.changes most (at + 1 + 1) fits is.each in
    let epoch : is_epoch_first first.changes ≡ true = is.epoch in
    (r.0, rw (r.1, epoch) refl)

-- a first record of format 2 is read
pub whole_first_again : (first : First) → IsFirst first → length first.changes + 1 < 2 ^ 32 → first_of (first_bytes first.node first.changes) ≡ Ok first
whole_first_again first is fits =
    numbered_again First first_size (first_at (length (first_bytes first.node first.changes))) (named_bytes first.node first.changes) first (omega arith) fits
    (first_again (length (first_bytes first.node first.changes)) first is (omega (arith, no_more_changes_than_bytes first.changes, length-append (u32_bytes (length first.changes + 1)) (named_bytes first.node first.changes))))

first_again_so : (first : First) (bytes : List ℕ) → IsFirst first → IsFirstRecord first bytes → first_of bytes ≡ Ok first
first_again_so first bytes is (inl alone) =
    let text = named_bytes first.node first.changes in
    ap first_of alone
    ∙ alone_again First first_size (first_at (length text)) text first refl (first_again (length text) first is (omega (arith, no_more_changes_than_bytes first.changes)))
first_again_so first bytes is (inr numbered) = ap first_of numbered.0 ∙ whole_first_again first is numbered.2

pub found_first : (bytes : List ℕ) (r : Result First CodecFault) → AreBytes bytes → Says (λ (f : First). f) (first_of bytes) r → IfOk r (λ f. IsFirstRecord f bytes × IsFirst f)
found_first bytes (Ok first) are says = whole_first_was bytes first are says
found_first bytes (Err e) are says = tt

pub only_first : (bytes : List ℕ) (r : Result First CodecFault) → Says (λ (f : First). f) (first_of bytes) r → (first : First) → IsFirst first → IsFirstRecord first bytes → Says (λ (f : First). f) (Ok first) r
only_first bytes r says first is spelled =
    subst (λ (o : Result First CodecFault). Says (λ (f : First). f) o r) (first_again_so first bytes is spelled) says
