-- Votes, decided ranges and tuples are read as they are spelled.
use Rattle.std.proofs.Common.{◌≡◌, ℕ, ◌+◌, ◌-◌, ◌^◌, ◌<◌, ◌≤◌, ◌==◌, Bool, true, List, [], ◌∷◌, ◌++◌, length, refl, arith}
use Rattle.std.specs.Int.{w16}
use Rattle.mrp_types.specs.Values.{is_skip}
use Rattle.mrp_types.specs.Tuples.{AreNexts, IsTuple}
use Rattle.mrp_types.specs.declared.id.RingId.{RingId}
use Rattle.mrp_types.specs.declared.value.Value.{Value}
use Rattle.mrp_types.specs.declared.voted.Voted.{Voted}
use Rattle.mrp_types.specs.declared.voted.Decided.{Decided}
use Rattle.command_codec.specs.Fields.{u16_bytes, u64_bytes}
use Rattle.command_codec.specs.Parts.{range_from, is_one_of, value_at, ballot_at}
use Rattle.mrp_types.specs.Reading.{follow, both, shown}
use Rattle.command_codec.specs.Reader.{Reader, byte_at, number_at, within}
use Rattle.command_codec.proofs.ReaderLaws.{Field, one_byte, byte_law, number_law, wide16, within_law}
use Rattle.command_codec.proofs.Combined.{follow_law, both_law, shown_law, counted_law, AllInChain}
use Rattle.command_codec.proofs.PartLaws.{ring_text, IsNumber, wide_law, range_text, IsRangeFrom, range_law, MayStand, value_text, value_law}
use Rattle.frames.specs.declared.lists.Before.{Before}
use Rattle.frames.specs.Ranges.{nothing_before, after_vote, after_decided, may_skip}
use Rattle.frames.specs.Grammar.{voted_of, vote_at, votes_at, decided_of, decided_at, ranges_at, next_at, after_ring, tuple_at}
use Rattle.frames.specs.Spelling.{vote_bytes, decided_bytes, votes_bytes, ranges_bytes, next_bytes, tuple_bytes}
use Rattle.frames.specs.Valid.{IsBallot, IsValueOf, IsBehind, AreVotes, AreRanges}

-- ---- one after the other, with what can be inferred left out

pub pair : {A B : Type 0} {first : Reader A} {second : Reader B} {a : A → List ℕ} {b : B → List ℕ} {IsA : A → Type 0} {IsB : B → Type 0} →
    Field A first a IsA → Field B second b IsB → Field (A × B) (both first second) (λ v. a v.0 ++ b v.1) (λ v. IsA v.0 × IsB v.1)
pair {A} {B} {first} {second} {a} {b} {IsA} {IsB} l r = both_law A B first second a b IsA IsB l r

pub then_by : {A B : Type 0} {first : Reader A} {second : A → Reader B} {a : A → List ℕ} {b : B → List ℕ} {IsA : A → Type 0} {IsB : A → B → Type 0} →
    Field A first a IsA → ((x : A) → Field B (second x) b (IsB x)) → Field (A × B) (follow first second) (λ v. a v.0 ++ b v.1) (λ v. IsA v.0 × IsB v.0 v.1)
then_by {A} {B} {first} {second} {a} {b} {IsA} {IsB} l r = follow_law A B first second a b IsA IsB l r

-- ---- values of ranges

-- the value of a range, where a Skip may or may not stand
is_one : (lo hi : ℕ) → (hi == lo + 1) ≡ true → hi ≡ lo + 1
is_one lo hi h = grind arith

one_is : (lo hi : ℕ) → hi ≡ lo + 1 → (hi == lo + 1) ≡ true
one_is lo hi h = grind arith

pub stands : (skips : Bool) (lo hi : ℕ) (value : Value) → MayStand skips (hi == lo + 1) value → IsValueOf lo hi value
stands skips lo hi value h = record { spelled = h.spelled; alone = λ batch. is_one lo hi (h.batch batch) }

pub may_stand : (skips : Bool) (lo hi : ℕ) (value : Value) → (is_skip value ≡ true → skips ≡ true) → IsValueOf lo hi value → MayStand skips (hi == lo + 1) value
may_stand skips lo hi value skip h = record { skip = skip; batch = λ batch. one_is lo hi (h.alone batch); spelled = h.spelled }

-- ---- votes

abbrev pub IsVote : Before → Voted → Type 0
IsVote before v = IsRangeFrom before.end (v.lo, v.hi) × (IsNumber 0 (2 ^ 48 - 1) v.ballot × MayStand (may_skip before v.lo v.ballot) (v.hi == v.lo + 1) v.value)

vote_law : (before : Before) → Field Voted (vote_at before) vote_bytes (IsVote before)
unfolding vote_at
vote_law before =
    shown_law ((ℕ × ℕ) × (ℕ × Value)) Voted voted_of (λ v. ((v.lo, v.hi), (v.ballot, v.value)))
    (follow (range_from before.end) (λ range. follow ballot_at (λ ballot. value_at (may_skip before range.0 ballot) (is_one_of range))))
    (λ x. range_text x.0 ++ (u64_bytes x.1.0 ++ value_text x.1.1)) vote_bytes
    (λ x. IsRangeFrom before.end x.0 × (IsNumber 0 (2 ^ 48 - 1) x.1.0 × MayStand (may_skip before x.0.0 x.1.0) (x.0.1 == x.0.0 + 1) x.1.1)) (IsVote before)
    (then_by (range_law before.end) (λ range. then_by (wide_law 0 (2 ^ 48 - 1)) (λ ballot. value_law (may_skip before range.0 ballot) (is_one_of range))))
    (λ x. refl) (λ x is. is) (λ v. refl) (λ v is. is)

vote_is : (before : Before) (v : Voted) → IsVote before v → IsBehind before v.lo v.hi v.ballot v.value × IsBallot v.ballot
vote_is before v h = (
  record {
    behind = h.0.0.1;
    range = (omega (arith, h.0.1.1), h.0.1.2);
    stands = stands (may_skip before v.lo v.ballot) v.lo v.hi v.value h.1.1;
    apart = h.1.1.skip;
  },
  omega (arith, h.1.0.2),
)

is_vote : (before : Before) (v : Voted) → IsBehind before v.lo v.hi v.ballot v.value → IsBallot v.ballot → IsVote before v
is_vote before v h ballot = (
  ((omega (arith, h.range.0, h.range.1), h.behind, omega (arith, h.range.0, h.range.1)), (omega (arith, h.range.1), omega (arith, h.range.0), h.range.1)),
  ((omega (arith, ballot), omega arith, omega (arith, ballot)), may_stand (may_skip before v.lo v.ballot) v.lo v.hi v.value h.apart h.stands),
)

pub are_votes : (before : Before) (votes : List Voted) → AllInChain IsVote after_vote before votes → AreVotes before votes
are_votes before [] h = tt
are_votes before (v ∷ votes) h = let one = vote_is before v h.0 in (one.0, one.1, are_votes (after_vote v) votes h.1)

pub votes_are : (before : Before) (votes : List Voted) → AreVotes before votes → AllInChain IsVote after_vote before votes
votes_are before [] h = tt
votes_are before (v ∷ votes) h = (is_vote before v h.0 h.1, votes_are (after_vote v) votes h.2)

pub votes_law : Field (List Voted) votes_at votes_bytes (λ vs. (length vs < 2 ^ 16) × AllInChain IsVote after_vote nothing_before vs)
unfolding votes_at
votes_law =
    counted_law Before Voted (number_at w16) u16_bytes (λ n. n < 2 ^ 16) (number_law w16 (2 ^ 16) u16_bytes wide16) vote_at after_vote vote_bytes IsVote vote_law nothing_before

-- ---- decided ranges

abbrev pub IsDecided : Before → Decided → Type 0
IsDecided before d = IsRangeFrom before.end (d.lo, d.hi) × MayStand (may_skip before d.lo 0) (d.hi == d.lo + 1) d.value

decided_law : (before : Before) → Field Decided (decided_at before) decided_bytes (IsDecided before)
unfolding decided_at
decided_law before =
    shown_law ((ℕ × ℕ) × Value) Decided decided_of (λ d. ((d.lo, d.hi), d.value))
    (follow (range_from before.end) (λ range. value_at (may_skip before range.0 0) (is_one_of range)))
    (λ x. range_text x.0 ++ value_text x.1) decided_bytes
    (λ x. IsRangeFrom before.end x.0 × MayStand (may_skip before x.0.0 0) (x.0.1 == x.0.0 + 1) x.1) (IsDecided before)
    (then_by (range_law before.end) (λ range. value_law (may_skip before range.0 0) (is_one_of range)))
    (λ x. refl) (λ x is. is) (λ d. refl) (λ d is. is)

decided_is : (before : Before) (d : Decided) → IsDecided before d → IsBehind before d.lo d.hi 0 d.value
decided_is before d h = record {
  behind = h.0.0.1;
  range = (omega (arith, h.0.1.1), h.0.1.2);
  stands = stands (may_skip before d.lo 0) d.lo d.hi d.value h.1;
  apart = h.1.skip;
}

is_decided : (before : Before) (d : Decided) → IsBehind before d.lo d.hi 0 d.value → IsDecided before d
is_decided before d h = (
  ((omega (arith, h.range.0, h.range.1), h.behind, omega (arith, h.range.0, h.range.1)), (omega (arith, h.range.1), omega (arith, h.range.0), h.range.1)),
  may_stand (may_skip before d.lo 0) d.lo d.hi d.value h.apart h.stands,
)

pub are_ranges : (before : Before) (ranges : List Decided) → AllInChain IsDecided after_decided before ranges → AreRanges before ranges
are_ranges before [] h = tt
are_ranges before (d ∷ ranges) h = (decided_is before d h.0, are_ranges (after_decided d) ranges h.1)

pub ranges_are : (before : Before) (ranges : List Decided) → AreRanges before ranges → AllInChain IsDecided after_decided before ranges
ranges_are before [] h = tt
ranges_are before (d ∷ ranges) h = (is_decided before d h.0, ranges_are (after_decided d) ranges h.1)

pub ranges_law : Field (List Decided) ranges_at ranges_bytes (λ ds. ((length ds < 2 ^ 16) × (1 ≤ length ds) × (length ds ≤ 65535)) × AllInChain IsDecided after_decided nothing_before ds)
unfolding ranges_at
ranges_law =
    counted_law Before Decided (within 1 65535 (number_at w16)) u16_bytes (λ n. (n < 2 ^ 16) × (1 ≤ n) × (n ≤ 65535))
    (within_law 1 65535 (number_at w16) u16_bytes (λ n. n < 2 ^ 16) (number_law w16 (2 ^ 16) u16_bytes wide16)) decided_at after_decided decided_bytes IsDecided decided_law nothing_before

-- ---- tuples

abbrev pub IsNext : ℕ → RingId × ℕ → Type 0
IsNext least x = ((x.0.0 < 256) × (least ≤ x.0.0) × (x.0.0 ≤ 15)) × IsNumber 0 (2 ^ 40) x.1

ring_from_law : (least : ℕ) → Field RingId (shown (λ n. record { 0 = n }) (within least 15 byte_at)) ring_text (λ ring. (ring.0 < 256) × (least ≤ ring.0) × (ring.0 ≤ 15))
ring_from_law least =
    shown_law ℕ RingId (λ n. record { 0 = n }) (λ ring. ring.0) (within least 15 byte_at) one_byte ring_text (λ n. (n < 256) × (least ≤ n) × (n ≤ 15)) (λ ring. (ring.0 < 256) × (least ≤ ring.0) × (ring.0 ≤ 15))
    (within_law least 15 byte_at one_byte (λ n. n < 256) byte_law) (λ n. refl) (λ n is. is) (λ ring. refl) (λ ring is. is)

next_law : (least : ℕ) → Field (RingId × ℕ) (next_at least) next_bytes (IsNext least)
next_law least = pair (ring_from_law least) (wide_law 0 (2 ^ 40))

nexts_are : (least : ℕ) (pairs : List (RingId × ℕ)) → AreNexts least pairs → AllInChain IsNext after_ring least pairs
nexts_are least [] h = tt
nexts_are least (x ∷ pairs) h = (((omega (arith, h.1), h.0, omega (arith, h.1)), (omega (arith, h.2), omega arith, h.2)), nexts_are (x.0.0 + 1) pairs h.3)

are_nexts : (least : ℕ) (pairs : List (RingId × ℕ)) → AllInChain IsNext after_ring least pairs → AreNexts least pairs
are_nexts least [] h = tt
are_nexts least (x ∷ pairs) h = (h.0.0.1, omega (arith, h.0.0.2), h.0.1.2, are_nexts (x.0.0 + 1) pairs h.1)

abbrev AreCounted : List (RingId × ℕ) → Type 0
AreCounted pairs = ((length pairs < 256) × (1 ≤ length pairs) × (length pairs ≤ 16)) × AllInChain IsNext after_ring 0 pairs

counted_tuple : Field (List (RingId × ℕ)) tuple_at tuple_bytes AreCounted
unfolding tuple_at
counted_tuple =
    counted_law ℕ (RingId × ℕ) (within 1 16 byte_at) one_byte (λ n. (n < 256) × (1 ≤ n) × (n ≤ 16)) (within_law 1 16 byte_at one_byte (λ n. n < 256) byte_law) next_at after_ring next_bytes IsNext next_law 0

pub tuple_law : Field (List (RingId × ℕ)) tuple_at tuple_bytes IsTuple
tuple_law = record {
  was = λ spot x are h.
      let t = counted_tuple.was spot x are h in
      (t.0, record { some = t.1.0.1; few = t.1.0.2; nexts = are_nexts 0 x.0 t.1.1 });
  again = λ value at tail is. counted_tuple.again value at tail ((omega (arith, is.few), is.some, is.few), nexts_are 0 value is.nexts);
}
