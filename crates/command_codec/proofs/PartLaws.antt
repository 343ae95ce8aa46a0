-- The laws of parts that records, frames and checkpoints share.
use Rattle.std.proofs.Common.{lit<, ◌≡◌, ℕ, zero, suc, ◌+◌, ◌-◌, ◌^◌, ◌<◌, ◌≤◌, Bool, true, false, List, [], ◌∷◌, ◌++◌, ◌&&◌, ◌==◌, if◌then◌else◌, length, refl, sym, ap, subst, arith, IsTrue}
use Rattle.std.specs.Int.{w64}
use Rattle.std.proofs.lemmas.Bool.{eqb-true}
use Rattle.mrp_types.specs.Values.{is_skip}
use Rattle.mrp_types.specs.declared.id.RingId.{RingId}
use Rattle.mrp_types.specs.declared.value.Value.{Value}
use Rattle.mrp_types.specs.declared.value.Value.TheVariants.{Skip, Batch}
use Rattle.mrp_types.proofs.TestLemmas.{both as both_tests}
use Rattle.command_codec.specs.Fields.{u64_bytes, string16}
use Rattle.command_codec.specs.Spelling.{value_bytes}
use Rattle.command_codec.specs.Grammar.{batch_at}
use Rattle.command_codec.specs.Parts.{ring_at, range_from, may_stand, value_of, value_at, spells_skip, spells_batch, IsSpelled}
use Rattle.command_codec.specs.Reader.{Spot, byte_at, number_at, within, string_that}
use Rattle.command_codec.proofs.ReaderLaws.{Took, Field, HasLength, one_byte, byte_law, number_law, wide64, within_law, string_that_law}
use Rattle.command_codec.proofs.Combined.{follow_law, shown_law, shown_was}

-- ---- numbers

abbrev pub ring_text : RingId → List ℕ
ring_text ring = ring.0 ∷ []

abbrev pub IsRing : RingId → Type 0
IsRing ring = ring.0 < 16

pub ring_law : Field RingId ring_at ring_text IsRing
ring_law =
    shown_law ℕ RingId (λ n. record { 0 = n }) (λ ring. ring.0) (within 0 15 byte_at) one_byte ring_text (λ n. (n < 256) × (0 ≤ n) × (n ≤ 15)) IsRing
    (within_law 0 15 byte_at one_byte (λ n. n < 256) byte_law)
    (λ n. refl) (λ n is. omega (arith, is.2)) (λ ring. refl) (λ ring is. (omega (arith, is), omega arith, omega (arith, is)))

-- a number of eight bytes in a range, both ends included
abbrev pub IsNumber : ℕ → ℕ → ℕ → Type 0
IsNumber least most n = (n < 2 ^ 64) × (least ≤ n) × (n ≤ most)

pub wide_law : (least most : ℕ) → Field ℕ (within least most (number_at w64)) u64_bytes (IsNumber least most)
wide_law least most = within_law least most (number_at w64) u64_bytes (λ n. n < 2 ^ 64) (number_law w64 (2 ^ 64) u64_bytes wide64)

abbrev pub range_text : ℕ × ℕ → List ℕ
range_text r = u64_bytes r.0 ++ u64_bytes r.1

abbrev pub IsRangeFrom : ℕ → ℕ × ℕ → Type 0
IsRangeFrom least r = IsNumber least (2 ^ 40 - 1) r.0 × IsNumber (r.0 + 1) (2 ^ 40) r.1

pub range_law : (least : ℕ) → Field (ℕ × ℕ) (range_from least) range_text (IsRangeFrom least)
range_law least =
    follow_law ℕ ℕ (within least (2 ^ 40 - 1) (number_at w64)) (λ lo. within (lo + 1) (2 ^ 40) (number_at w64)) u64_bytes u64_bytes (IsNumber least (2 ^ 40 - 1)) (λ lo. IsNumber (lo + 1) (2 ^ 40)) (wide_law least (2 ^ 40 - 1)) (λ lo. wide_law (lo + 1) (2 ^ 40))

-- ---- values

skip_bytes : (bytes : List ℕ) → spells_skip bytes ≡ true → bytes ≡ 0 ∷ []
skip_bytes [] h = absurd cc
skip_bytes (b ∷ []) h = ap (λ (n : ℕ). n ∷ []) (eqb-true b 0 h)
skip_bytes (b ∷ c ∷ rest) h = absurd cc

pub not_none : (n : ℕ) → 1 ≤ n → (n == 0) ≡ false
not_none n h = grind arith

-- what has no bytes, or those of Skip, is no batch
batch_is_no_skip : (bytes : List ℕ) → spells_batch bytes ≡ true → spells_skip bytes ≡ false
unfolding batch_at
batch_is_no_skip [] h = refl
batch_is_no_skip (zero ∷ []) h = absurd cc
batch_is_no_skip (suc n ∷ []) h = not_none (suc n) (omega arith)
batch_is_no_skip (b ∷ c ∷ rest) h = refl

-- a value that may stand there: Skip where it may, a batch where the range has one instance
pub record MayStand (skips alone : Bool) (value : Value) : Type 0 where
  pub skip : is_skip value ≡ true → skips ≡ true
  pub batch : is_skip value ≡ false → alone ≡ true
  pub spelled : IsSpelled value

-- what is read as a value
abbrev pub IsText : Bool → Bool → List ℕ → Type 0
IsText skips alone bytes = HasLength 0 8192 bytes × IsTrue (may_stand skips alone bytes)

abbrev pub value_text : Value → List ℕ
value_text value = string16 (value_bytes value)

text_of : (bytes : List ℕ) → value_bytes (value_of bytes) ≡ bytes
text_of bytes = chosen_text (spells_skip bytes) refl
  where
    chosen_text : (b : Bool) → spells_skip bytes ≡ b → value_bytes (if b then Skip else Batch bytes) ≡ bytes
    chosen_text true h = sym (skip_bytes bytes h)
    chosen_text false h = refl

value_stands : (skips alone : Bool) (bytes : List ℕ) → IsText skips alone bytes → MayStand skips alone (value_of bytes)
value_stands skips alone bytes is = chosen_value (spells_skip bytes) is.1
  where
    chosen_value : (b : Bool) → (if b then skips else alone && spells_batch bytes) ≡ true → MayStand skips alone (if b then Skip else Batch bytes)
    chosen_value true h = record { skip = λ _. h; batch = λ batch. absurd cc; spelled = tt }
    chosen_value false h = let t = both_tests alone (spells_batch bytes) h in record { skip = λ skip. absurd cc; batch = λ _. t.0; spelled = (is.0.1, t.1) }

text_stands : (skips alone : Bool) (value : Value) → MayStand skips alone value → IsText skips alone (value_bytes value)
text_stands skips alone Skip is = ((omega arith, omega arith), is.skip refl)
text_stands skips alone (Batch batch) is =
    let one : alone ≡ true = is.batch refl in
    let spelled : spells_batch batch ≡ true = is.spelled.1 in
    ((omega arith, is.spelled.0), rw (batch_is_no_skip batch spelled, one, spelled) refl)

value_again : (skips alone : Bool) (value : Value) → MayStand skips alone value → value_of (value_bytes value) ≡ value
value_again skips alone Skip is = refl
value_again skips alone (Batch batch) is = rw (batch_is_no_skip batch is.spelled.1) refl

pub value_law : (skips alone : Bool) → Field Value (value_at skips alone) value_text (MayStand skips alone)
unfolding value_at
value_law skips alone = record {
  was = λ spot x are h.
      let p = shown_was (List ℕ) Value value_of (string_that 0 8192 (may_stand skips alone)) spot x h in
      let t = (string_that_law 0 8192 (may_stand skips alone) (lit< tt)).was spot p.0 are p.1 in
      subst (λ (y : Value × Spot). Took spot (value_text y.0) y.1 × MayStand skips alone y.0) p.2
      (subst (λ (s : List ℕ). Took spot (string16 s) p.0.1) (sym (text_of p.0.0)) t.0, value_stands skips alone p.0.0 t.1);
  again = λ value at tail is.
      let r = (string_that_law 0 8192 (may_stand skips alone) (lit< tt)).again (value_bytes value) at tail (text_stands skips alone value is) in
      (r.0, rw (r.1, value_again skips alone value is) refl);
}

-- a value has at most 8,192 bytes
pub value_short : (value : Value) → IsSpelled value → length (value_bytes value) ≤ 8192
value_short Skip is = lit< tt
value_short (Batch batch) is = is.0

pub value_fits : (value : Value) → IsSpelled value → length (value_bytes value) < 2 ^ 16
value_fits value is = omega (arith, value_short value is)
