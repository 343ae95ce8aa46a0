-- A reader takes bytes from the front and leaves the others; a state that goes on to the end is the end of all bytes.
use Rattle.std.proofs.Common.{◌≡◌, ℕ, zero, suc, ◌+◌, ◌-◌, ◌^◌, ◌≤◌, ◌==◌, Bool, true, false, nat_lt, if◌then◌else◌, List, [], ◌∷◌, ◌++◌, length, take, drop, Result, Ok, Err, refl, ap, sym, ◌∙◌, subst, append_assoc, length-append, arith}
use Rattle.std.specs.Int.{Width, w64, byte_len, from_be_bytes}
use Rattle.std.proofs.lemmas.List.{take-append-drop, drop_at, append-nil}
use Rattle.mrp_types.specs.declared.id.RingId.{RingId}
use Rattle.mrp_types.specs.Reading.{◌>>=◌, follow, both, shown, chain}
use Rattle.command_codec.specs.declared.fault.CodecFault.{CodecFault}
use Rattle.command_codec.specs.declared.fault.CodecFault.TheVariants.{Short, BadField, Left}
use Rattle.command_codec.specs.Reader.{Spot, Reader, byte_of, byte_at, bytes_at, number_at, within, ended}
use Rattle.command_codec.proofs.ReaderLaws.{then_was}
use Rattle.frames.specs.Grammar.{next_at, after_ring, tuple_at, all_of}
use Rattle.checkpoint.specs.Checkpoints.{Checkpoint, checkpoint_of, checkpoint_at}
use Rattle.checkpoint_disk.specs.Standing.{checkpoint_from}

-- the bytes at a spot end with those that were kept and those that are left
abbrev pub Leaves : {V : Type 0} → (V → List ℕ) → Spot → Result (V × Spot) CodecFault → Type 0
Leaves kept spot (Err fault) = Unit {0}
Leaves kept spot (Ok x) = (front : List ℕ) × (spot.rest ≡ front ++ (kept x.0 ++ x.1.rest))

abbrev pub none_kept : {V : Type 0} → V → List ℕ
none_kept value = []

-- what is left of any spot is an end of its bytes
abbrev pub LeavesEnd : {V : Type 0} → Reader V → Type 0
LeavesEnd read = (spot : Spot) → Leaves none_kept spot (read spot)

-- ---- steps

joined : {V : Type 0} (kept : V → List ℕ) (spot mid : Spot) (r : Result (V × Spot) CodecFault) (front : List ℕ) → spot.rest ≡ front ++ mid.rest → Leaves kept mid r → Leaves kept spot r
joined kept spot mid (Err fault) front is more = tt
joined kept spot mid (Ok x) front is (next, more) =
    (front ++ next, is ∙ ap (λ (t : List ℕ). front ++ t) more ∙ sym (append_assoc front next (kept x.0 ++ x.1.rest)))

two_steps : {A B : Type 0} (kept : B → List ℕ) (spot : Spot) (r : Result (A × Spot) CodecFault) (f : A × Spot → Result (B × Spot) CodecFault) → Leaves none_kept spot r
    → ((a : A × Spot) → Leaves kept a.1 (f a)) → Leaves kept spot (r >>= f)
two_steps kept spot (Err fault) f first second = tt
two_steps kept spot (Ok a) f (front, is) second = joined kept spot a.1 (f a) front is (second a)

renamed : {A B : Type 0} (made : A → B) (kept : B → List ℕ) (spot : Spot) (r : Result (A × Spot) CodecFault) → Leaves (λ v. kept (made v)) spot r → Leaves kept spot (r >>= (λ a. Ok (made a.0, a.1)))
renamed made kept spot (Err fault) same = tt
renamed made kept spot (Ok a) same = same

-- ---- fields

byte_end : LeavesEnd byte_at
byte_end spot = by spot.at spot.rest
  where
    by : (at : ℕ) (rest : List ℕ) → Leaves none_kept (record { at = at; rest = rest }) (byte_of at rest)
    by at [] = tt
    by at (b ∷ rest) = (b ∷ [], refl)

bytes_end : (count : ℕ) → LeavesEnd (bytes_at count)
unfolding bytes_at
bytes_end count spot = by (nat_lt (length spot.rest) count)
  where
    by : (t : Bool) → Leaves {V = List ℕ} none_kept spot (if t then Err (Short spot.at) else Ok (take count spot.rest, record { at = spot.at + count; rest = drop count spot.rest }))
    by true = tt
    by false = (take count spot.rest, sym (take-append-drop count spot.rest))

bytes_kept : (count : ℕ) (spot : Spot) → Leaves (λ v. v) spot (bytes_at count spot)
unfolding bytes_at
bytes_kept count spot = by (nat_lt (length spot.rest) count)
  where
    by : (t : Bool) → Leaves {V = List ℕ} (λ v. v) spot (if t then Err (Short spot.at) else Ok (take count spot.rest, record { at = spot.at + count; rest = drop count spot.rest }))
    by true = tt
    by false = ([], sym (take-append-drop count spot.rest))

number_end : (w : Width) → LeavesEnd (number_at w)
unfolding number_at
number_end w spot = two_steps none_kept spot (bytes_at (byte_len w) spot) (λ bytes. Ok (from_be_bytes w bytes.0, bytes.1)) (bytes_end (byte_len w) spot) (λ a. ([], refl))

within_end : (least most : ℕ) (read : Reader ℕ) → LeavesEnd read → LeavesEnd (within least most read)
unfolding within
within_end least most read each spot =
    two_steps none_kept spot (read spot) (λ number. if nat_lt number.0 least then Err (BadField spot.at) else (if nat_lt most number.0 then Err (BadField spot.at) else Ok number)) (each spot)
    (λ a. by a (nat_lt a.0 least) (nat_lt most a.0))
  where
    by : (a : ℕ × Spot) (t u : Bool) → Leaves {V = ℕ} none_kept a.1 (if t then Err (BadField spot.at) else (if u then Err (BadField spot.at) else Ok a))
    by a true u = tt
    by a false true = tt
    by a false false = ([], refl)

-- ---- a tuple

next_end : (least : ℕ) → LeavesEnd (next_at least)
next_end least spot =
    let inst = within 0 (2 ^ 40) (number_at w64) in
    let ring = shown (λ n. record { 0 = n }) (within least 15 byte_at) in
    two_steps none_kept spot (ring spot) (λ a. inst a.1 >>= (λ b. Ok ((a.0, b.0), b.1)))
    (renamed (λ n. record { 0 = n }) none_kept spot (within least 15 byte_at spot) (within_end least 15 byte_at byte_end spot))
    (λ a. renamed (λ n. (a.0, n)) none_kept a.1 (inst a.1) (within_end 0 (2 ^ 40) (number_at w64) (number_end w64) a.1))

nexts_end : (count least : ℕ) → LeavesEnd (chain next_at after_ring count least)
nexts_end zero least spot = ([], refl)
nexts_end (suc count) least spot =
    two_steps none_kept spot (next_at least spot) (λ a. chain next_at after_ring count (after_ring a.0) a.1 >>= (λ b. Ok (a.0 ∷ b.0, b.1))) (next_end least spot)
    (λ a. renamed (λ others. a.0 ∷ others) none_kept a.1 (chain next_at after_ring count (after_ring a.0) a.1) (nexts_end count (after_ring a.0) a.1))

tuple_end : LeavesEnd tuple_at
unfolding tuple_at
tuple_end spot =
    two_steps none_kept spot (within 1 16 byte_at spot) (λ number. chain next_at after_ring number.0 0 number.1) (within_end 1 16 byte_at byte_end spot) (λ a. nexts_end a.0 0 a.1)

-- ---- a checkpoint

checkpoint_end : (spot : Spot) → Leaves (λ (c : Checkpoint). c.state) spot (checkpoint_at spot)
unfolding checkpoint_at
checkpoint_end spot =
    let sized = follow (number_at w64) bytes_at in
    renamed checkpoint_of (λ (c : Checkpoint). c.state) spot (both tuple_at sized spot)
    (two_steps (λ v. v.1.1) spot (tuple_at spot) (λ a. sized a.1 >>= (λ b. Ok ((a.0, b.0), b.1))) (tuple_end spot)
    (λ a. renamed (λ v. (a.0, v)) (λ v. v.1.1) a.1 (sized a.1)
    (two_steps (λ v. v.1) a.1 (number_at w64 a.1) (λ n. bytes_at n.0 n.1 >>= (λ b. Ok ((n.0, b.0), b.1))) (number_end w64 a.1)
    (λ n. renamed (λ v. (n.0, v)) (λ v. v.1) n.1 (bytes_at n.0 n.1) (bytes_kept n.0 n.1)))))

-- so many bytes at the end
pub record IsEnd (bytes state : List ℕ) : Type 0 where
  pub within : length state ≤ length bytes
  pub end : drop (length bytes - length state) bytes ≡ state

is_end : (bytes front state : List ℕ) → bytes ≡ front ++ state → IsEnd bytes state
is_end bytes front state is =
    let count : length bytes - length state ≡ length front = omega (arith, ap length is, length-append front state) in
    record {
      within = omega (arith, ap length is, length-append front state);
      end = rw count (ap (drop (length front)) is ∙ drop_at front state (length front) refl);
    }

none_left : (rest : List ℕ) → length rest ≡ 0 → rest ≡ []
none_left [] none = refl
none_left (b ∷ rest) none = absurd (omega (arith, none))

-- a state behind which nothing is left is the end of all bytes
pub state_is_end : (bytes : List ℕ) (from : ℕ) (c : Checkpoint) (left : Spot) → checkpoint_at (record { at = from; rest = drop from bytes }) ≡ Ok (c, left) → length left.rest ≡ 0 → IsEnd bytes c.state
state_is_end bytes from c left read none =
    let ends = subst (λ (r : Result (Checkpoint × Spot) CodecFault). Leaves (λ (x : Checkpoint). x.state) (record { at = from; rest = drop from bytes }) r) read
    (checkpoint_end (record { at = from; rest = drop from bytes })) in
    let whole : drop from bytes ≡ ends.0 ++ c.state = ends.1 ∙ ap (λ (t : List ℕ). ends.0 ++ (c.state ++ t)) (none_left left.rest none) ∙ ap (λ (t : List ℕ). ends.0 ++ t) (append-nil c.state) in
    is_end bytes (take from bytes ++ ends.0) c.state
    (sym (take-append-drop from bytes) ∙ ap (λ (t : List ℕ). take from bytes ++ t) whole ∙ sym (append_assoc (take from bytes) ends.0 c.state))

-- all bytes from a position on are a checkpoint, whose state is the end of them
pub record WasRead (bytes : List ℕ) (from : ℕ) (tuple : List (RingId × ℕ)) (state : List ℕ) : Type 0 where
  pub ends : IsEnd bytes state
  pub all : all_of checkpoint_at (record { at = from; rest = drop from bytes }) ≡ Ok (checkpoint_from tuple (length bytes - length state) bytes)

ended_none : (value : Unit {0}) (spot : Spot) → ended value spot ≡ Ok value → (length spot.rest == 0) ≡ true
ended_none value spot is = (then_was (length spot.rest == 0) (Left spot.at) value value is).0

pub was_read : (bytes : List ℕ) (from : ℕ) (first second third left : Spot) (tuple : List (RingId × ℕ)) (size : ℕ) (state : List ℕ) (value : Unit {0}) → first ≡ record { at = from; rest = drop from bytes }
    → tuple_at first ≡ Ok (tuple, second) → number_at w64 second ≡ Ok (size, third) → bytes_at size third ≡ Ok (state, left) → ended value left ≡ Ok value → WasRead bytes from tuple state
unfolding checkpoint_at
was_read bytes from first second third left tuple size state value here one two three four =
    let start : tuple_at (record { at = from; rest = drop from bytes }) ≡ Ok (tuple, second) = subst (λ (s : Spot). tuple_at s ≡ Ok (tuple, second)) here one in
    let read : checkpoint_at (record { at = from; rest = drop from bytes }) ≡ Ok (record { tuple = tuple; state = state }, left) = rw (start, two, three) refl in
    let none = ended_none value left four in
    let ends = state_is_end bytes from (record { tuple = tuple; state = state }) left read (is_zero (length left.rest) none) in
    record {
      ends = ends;
      all = ap (λ (r : Result (Checkpoint × Spot) CodecFault). r >>= (λ v. ended v.0 v.1)) read
          ∙ ap (λ b. if b then Ok (record { tuple = tuple; state = state }) else Err (Left left.at)) none
          ∙ ap (λ (s : List ℕ). Ok (record { tuple = tuple; state = s })) (sym ends.end);
    }
  where
    is_zero : (n : ℕ) → (n == 0) ≡ true → n ≡ 0
    is_zero n is = grind arith
