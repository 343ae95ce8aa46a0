-- A checkpoint that was written is read back.
use Rattle.std.proofs.Common.{◌≡◌, ℕ, ◌<◌, ◌≤◌, ◌^◌, nat_eq, nat_lt, false, cond, if◌then◌else◌, List, [], ◌∷◌, ◌++◌, length, take, drop, inl, inr, Ok, refl, ap, sym, ◌∙◌, arith, length-append}
use Rattle.std.specs.Int.{w64}
use Rattle.std.proofs.lemmas.Bool.{le-leb, le-ltb}
use Rattle.std.proofs.lemmas.Bool.Decides.{eqb_tells}
use Rattle.std.proofs.lemmas.List.{take_at, take_all, drop_at, drop_all, drop-drop}
use Rattle.mrp_types.specs.declared.id.RingId.{RingId}
use Rattle.mrp_types.specs.Tuples.{IsTuple}
use Rattle.command_codec.specs.Fields.{u64_bytes}
use Rattle.command_codec.specs.Reader.{bytes_at}
use Rattle.command_codec.proofs.ReaderLaws.{wide64, number_law}
use Rattle.command_codec.proofs.Sizes.{length-u64_bytes}
use Rattle.frames.specs.Grammar.{all_of}
use Rattle.frames.proofs.ListLaws.{tuple_law}
use Rattle.gate_area.specs.declared.pair.Pair.TheVariants.{Check}
use Rattle.gate_area.specs.declared.pair.Head.TheVariants.{Closed, Spoilt, Open}
use Rattle.gate_area.specs.Standing.{head_in, head_of, generation_of}
use Rattle.checkpoint.specs.Spelling.{checkpoint_bytes, checkpoint_body}
use Rattle.checkpoint.specs.Checkpoints.{checkpoint_at, placed, read_from, is_newer, behind_format, read_area}

-- what an area is that was founded with a checkpoint
abbrev pub IsFounded : ℕ → List (RingId × ℕ) → List ℕ → List ℕ → Type 0
IsFounded generation tuple state file = file ≡ 1 ∷ checkpoint_body generation tuple state

pub body_length : (generation : ℕ) (tuple : List (RingId × ℕ)) (state : List ℕ) → 16 ≤ length (checkpoint_body generation tuple state)
body_length generation tuple state = omega (arith, length-append (u64_bytes generation) (0 ∷ 2 ∷ checkpoint_bytes tuple state), length-u64_bytes generation)

-- ---- the front

front_is : (generation : ℕ) (rest : List ℕ)
    → take 16 (1 ∷ 0x4d ∷ 0x52 ∷ 0x43 ∷ 0 ∷ 0 ∷ 0 ∷ 1 ∷ (u64_bytes generation ++ rest)) ≡ 1 ∷ 0x4d ∷ 0x52 ∷ 0x43 ∷ 0 ∷ 0 ∷ 0 ∷ 1 ∷ u64_bytes generation
front_is generation rest =
    ap (λ l. 1 ∷ 0x4d ∷ 0x52 ∷ 0x43 ∷ 0 ∷ 0 ∷ 0 ∷ 1 ∷ l) (take_at (u64_bytes generation) rest 8 (length-u64_bytes generation))

front_counts : (generation : ℕ) → 0 < generation → generation < 2 ^ 64 → head_in Check (1 ∷ 0x4d ∷ 0x52 ∷ 0x43 ∷ 0 ∷ 0 ∷ 0 ∷ 1 ∷ u64_bytes generation) ≡ Open generation
unfolding generation_of
front_counts generation some low =
    ap (λ n. cond (nat_eq n 0) (Spoilt 8) (Open n)) (wide64.forth generation low)
    ∙ ap (λ b. cond b (Spoilt 8) (Open generation)) (not_zero generation some)
  where
    not_zero : (n : ℕ) → 0 < n → nat_eq n 0 ≡ false
    not_zero n some = elim (eqb_tells n 0) [ inl alike ↦ absurd (omega (arith, alike.1)) | inr other ↦ other.0 ]

-- the area counts, with its generation
pub founded_head : (generation : ℕ) (tuple : List (RingId × ℕ)) (state file : List ℕ) → 0 < generation → generation < 2 ^ 64 → IsFounded generation tuple state file → head_of Check file ≡ Open generation
founded_head generation tuple state file some low is =
    ap (λ b. cond b (head_in Check (take 16 file)) Closed) (le-leb 17 (length file) (omega (arith, ap length is, body_length generation tuple state)))
    ∙ ap (head_in Check) (ap (take 16) is ∙ front_is generation (0 ∷ 2 ∷ checkpoint_bytes tuple state))
    ∙ front_counts generation some low

-- ---- the checkpoint

-- a tuple, a length and so many bytes are read as they are written
all_again : (tuple : List (RingId × ℕ)) (state : List ℕ) → IsTuple tuple → length state < 2 ^ 64
    → all_of checkpoint_at (record { at = 18; rest = checkpoint_bytes tuple state }) ≡ Ok (record { tuple = tuple; state = state })
unfolding checkpoint_at bytes_at
all_again tuple state is size =
    let first = tuple_law.again tuple 18 (u64_bytes (length state) ++ state) is in
    let second = (number_law w64 (2 ^ 64) u64_bytes wide64).again (length state) first.0 state size in
    let long : nat_lt (length state) (length state) ≡ false = le-ltb (length state) (length state) (omega arith) in
    let all : take (length state) state ≡ state = take_all (length state) state (omega arith) in
    let none : drop (length state) state ≡ [] = drop_all (length state) state (omega arith) in
    rw (first.1, second.1, long, all, none) refl

pub read_back : (generation : ℕ) (tuple : List (RingId × ℕ)) (state file : List ℕ) → IsTuple tuple → length state < 2 ^ 64 → IsFounded generation tuple state file
    → read_area file ≡ Ok (18, record { tuple = tuple; state = state })
read_back generation tuple state file is size founded =
    let rest = 0 ∷ 2 ∷ checkpoint_bytes tuple state in
    let sixteen : drop 16 file ≡ rest = ap (drop 16) founded ∙ drop_at (u64_bytes generation) rest 8 (length-u64_bytes generation) in
    let seventeen : drop 17 file ≡ 2 ∷ checkpoint_bytes tuple state = sym (drop-drop 1 16 file) ∙ ap (drop 1) sixteen in
    let behind : drop 18 file ≡ checkpoint_bytes tuple state = sym (drop-drop 2 16 file) ∙ ap (drop 2) sixteen in
    ap (λ (l : List ℕ). if is_newer l then behind_format (drop 17 file) file else read_from 16 file) sixteen
    ∙ ap (λ (l : List ℕ). behind_format l file) seventeen
    ∙ ap (λ (l : List ℕ). placed 18 (all_of checkpoint_at (record { at = 18; rest = l }))) behind
    ∙ ap (placed 18) (all_again tuple state is size)
