-- The bodies of the 19 kinds are read as they are spelled.
use Rattle.std.proofs.Common.{lit<, ◌≡◌, ℕ, ◌+◌, ◌-◌, ◌^◌, ◌<◌, ◌≤◌, ◌==◌, max, Bool, true, false, if◌then◌else◌, List, ◌++◌, length, Result, Ok, refl, sym, subst, arith}
use Rattle.std.specs.Int.{w32, w64}
use Rattle.mrp_types.specs.declared.id.RingId.{RingId}
use Rattle.mrp_types.specs.declared.value.Value.{Value}
use Rattle.command_codec.specs.declared.fault.CodecFault.{CodecFault}
use Rattle.command_codec.specs.Fields.{u32_bytes, u64_bytes, string16}
use Rattle.command_codec.specs.Parts.{ring_at, ballot_at, inst_at, range_at, is_one_of}
use Rattle.mrp_types.specs.Reading.{both, nothing, shown}
use Rattle.command_codec.specs.Reader.{Spot, Reader, byte_at, number_at, within, string_at}
use Rattle.command_codec.proofs.ReaderLaws.{AreBytes, Took, Field, HasLength, one_byte, byte_law, any_byte_law, number_law, wide32, wide64, within_law, string_law, ok_is}
use Rattle.command_codec.proofs.Combined.{shown_was}
use Rattle.command_codec.proofs.PartLaws.{ring_text, IsRing, ring_law, IsNumber, wide_law, range_text, IsRangeFrom, range_law, MayStand, value_law}
use Rattle.frames.specs.declared.body.Body.{Body}
use Rattle.frames.specs.declared.body.Body.TheVariants.{Submit, Prepare, Promise, Refuse, Accept, Decide, Fetch, Chosen, Trimmed, AskSafe, Safe, TrimTo, AskCheckpoint, HaveCheckpoint, AskPart, Part, Gone, Reply, Hello}
use Rattle.frames.specs.Ranges.{nothing_before}
use Rattle.frames.specs.Grammar.{submit_at, prepare_at, promise_at, refuse_at, accept_at, decide_at, fetch_at, chosen_at, trimmed_at, ask_safe_at, safe_at, trim_to_at, ask_checkpoint_at, have_checkpoint_at, ask_part_at, part_at, gone_at, reply_at, body_of_kind, most_hops, part_of, part_bytes_at}
use Rattle.frames.specs.Spelling.{kind_of_body, body_bytes}
use Rattle.frames.specs.Valid.{IsBallot, IsInst, IsRange, IsValueOf, IsBody, HasNumbers}
use Rattle.frames.proofs.ListLaws.{pair, then_by, stands, may_stand, are_votes, votes_are, votes_law, are_ranges, ranges_are, ranges_law, tuple_law}

-- how often a command was passed on
abbrev pub hops_of : Body → ℕ
hops_of (Submit ring hops client seq command) = hops
hops_of other = 0

-- a body of a kind that may be said by a client or a node
pub record IsOfKind (kind : ℕ) (client : Bool) (body : Body) : Type 0 where
  pub same : kind_of_body body ≡ kind
  pub valid : IsBody body
  pub numbers : HasNumbers body
  pub hops : client ≡ true → hops_of body ≡ 0

abbrev WasBody : ℕ → Bool → Spot → Body × Spot → Type 0
WasBody kind client spot x = Took spot (body_bytes x.0) x.1 × IsOfKind kind client x.0

-- what was read by the fields of a kind
body_was : {A : Type 0} {read : Reader A} {a : A → List ℕ} {IsA : A → Type 0} (made : A → Body) → Field A read a IsA → (kind : ℕ) (client : Bool) → ((x : A) → body_bytes (made x) ≡ a x) → ((x : A) → IsA x → IsOfKind kind client (made x)) →
    (spot : Spot) (x : Body × Spot) → AreBytes spot.rest → shown made read spot ≡ Ok x → WasBody kind client spot x
body_was {A} {read} {a} {IsA} made law kind client text is spot x are h =
    let p = shown_was A Body made read spot x h in
    let t = law.was spot p.0 are p.1 in
    subst (WasBody kind client spot) p.2 (subst (λ (s : List ℕ). Took spot s p.0.1) (sym (text p.0.0)) t.0, is p.0.0 t.1)

abbrev ReadAgain : Reader Body → Body → ℕ → List ℕ → Type 0
ReadAgain read body at tail = (behind : ℕ) × (read (record { at = at; rest = body_bytes body ++ tail }) ≡ Ok (body, record { at = behind; rest = tail }))

body_again : {A : Type 0} {read : Reader A} {a : A → List ℕ} {IsA : A → Type 0} (made : A → Body) → Field A read a IsA → (x : A) → body_bytes (made x) ≡ a x → IsA x → (at : ℕ) (tail : List ℕ) → ReadAgain (shown made read) (made x) at tail
body_again made law x text is at tail =
    let r = law.again x at tail is in
    (r.0, rw (text, r.1) refl)

-- ---- the fields of each kind

wide : Field ℕ (number_at w64) u64_bytes (λ n. n < 2 ^ 64)
wide = number_law w64 (2 ^ 64) u64_bytes wide64

short : Field ℕ (number_at w32) u32_bytes (λ n. n < 2 ^ 32)
short = number_law w32 (2 ^ 32) u32_bytes wide32

ballot : Field ℕ ballot_at u64_bytes (IsNumber 0 (2 ^ 48 - 1))
ballot = wide_law 0 (2 ^ 48 - 1)

inst : Field ℕ inst_at u64_bytes (IsNumber 0 (2 ^ 40 - 1))
inst = wide_law 0 (2 ^ 40 - 1)

range : Field (ℕ × ℕ) range_at range_text (IsRangeFrom 0)
range = range_law 0

most_is_one : (client : Bool) → most_hops client ≤ 1
most_is_one true = omega arith
most_is_one false = omega arith

no_hop : (client : Bool) (hops : ℕ) → hops ≤ most_hops client → client ≡ true → hops ≡ 0
no_hop true hops h c = omega (arith, h)
no_hop false hops h c = absurd cc

few_hops : (client : Bool) (hops : ℕ) → hops ≤ 1 → (client ≡ true → hops ≡ 0) → hops ≤ most_hops client
few_hops true hops h none = omega (arith, none refl)
few_hops false hops h none = h

submit_fields : (client : Bool) → Field (RingId × (ℕ × (ℕ × (ℕ × List ℕ)))) (both ring_at (both (within 0 (most_hops client) byte_at) (both byte_at (both (within 1 (2 ^ 63 - 1) (number_at w64)) (string_at 0 4608)))))
    (λ x. ring_text x.0 ++ (one_byte x.1.0 ++ (one_byte x.1.1.0 ++ (u64_bytes x.1.1.1.0 ++ string16 x.1.1.1.1))))
    (λ x. IsRing x.0 × (((x.1.0 < 256) × (0 ≤ x.1.0) × (x.1.0 ≤ most_hops client)) × (Unit {0} × (IsNumber 1 (2 ^ 63 - 1) x.1.1.1.0 × HasLength 0 4608 x.1.1.1.1))))
submit_fields client = pair ring_law (pair (within_law 0 (most_hops client) byte_at one_byte (λ n. n < 256) byte_law) (pair any_byte_law (pair (wide_law 1 (2 ^ 63 - 1)) (string_law 0 4608 (lit< tt)))))

range_is : (r : ℕ × ℕ) → IsRangeFrom 0 r → IsRange r.0 r.1
range_is r is = (omega (arith, is.1.1), is.1.2)

is_range : (lo hi : ℕ) → IsRange lo hi → IsRangeFrom 0 (lo, hi)
is_range lo hi is = ((omega (arith, is.0, is.1), omega arith, omega (arith, is.0, is.1)), (omega (arith, is.1), omega (arith, is.0), is.1))

is_ballot : (n : ℕ) → IsBallot n → IsNumber 0 (2 ^ 48 - 1) n
is_ballot n is = (omega (arith, is), omega arith, omega (arith, is))

is_inst : (n : ℕ) → IsInst n → IsNumber 0 (2 ^ 40 - 1) n
is_inst n is = (omega (arith, is), omega arith, omega (arith, is))

value_in : (lo hi : ℕ) (value : Value) → IsValueOf lo hi value → MayStand true (hi == lo + 1) value
value_in lo hi value is = may_stand true lo hi value (λ _. refl) is

small_part : (x : ℕ × ℕ) → part_of x < 2 ^ 16
small_part x = grind arith

part_bytes_law : (x : ℕ × ℕ) → Field (List ℕ) (part_bytes_at x) string16 (HasLength (max 1 (part_of x)) (part_of x))
unfolding part_bytes_at
part_bytes_law x = string_law (max 1 (part_of x)) (part_of x) (small_part x)

part_length : (n m : ℕ) → max 1 n ≤ m → m ≤ n → (1 ≤ m) × (m ≡ n)
part_length n m low high = (grind arith, grind arith)

length_part : (n m : ℕ) → 1 ≤ m → m ≡ n → (max 1 n ≤ m) × (m ≤ n)
length_part n m some same = (grind arith, grind arith)

-- ---- what was read

submit_was : (kind : ℕ) (client : Bool) → 1 ≡ kind → (spot : Spot) (x : Body × Spot) → AreBytes spot.rest → submit_at client spot ≡ Ok x → WasBody kind client spot x
unfolding submit_at
submit_was kind client same spot x are h =
    body_was (λ x. Submit x.0 x.1.0 (record { 0 = x.1.1.0 }) x.1.1.1.0 x.1.1.1.1) (submit_fields client) kind client (λ x. refl) (λ x is. record {
      same = same;
      valid = (is.0, omega (arith, is.1.0.2, most_is_one client), is.1.1.1.0.1, omega (arith, is.1.1.1.0.2), is.1.1.1.1.1);
      numbers = tt;
      hops = no_hop client x.1.0 is.1.0.2;
    }) spot x are h

prepare_was : (kind : ℕ) (client : Bool) → 2 ≡ kind → (spot : Spot) (x : Body × Spot) → AreBytes spot.rest → prepare_at spot ≡ Ok x → WasBody kind client spot x
unfolding prepare_at
prepare_was kind client same spot x are h =
    body_was (λ x. Prepare x.0 x.1.0 x.1.1) (pair ring_law (pair ballot inst)) kind client (λ x. refl)
    (λ x is. record { same = same; valid = (is.0, omega (arith, is.1.0.2), omega (arith, is.1.1.2)); numbers = tt; hops = λ _. refl }) spot x are h

promise_was : (kind : ℕ) (client : Bool) → 3 ≡ kind → (spot : Spot) (x : Body × Spot) → AreBytes spot.rest → promise_at spot ≡ Ok x → WasBody kind client spot x
unfolding promise_at
promise_was kind client same spot x are h =
    body_was (λ x. Promise x.0 x.1.0 x.1.1.0.0 x.1.1.0.1 x.1.1.1.0 x.1.1.1.1) (pair ring_law (pair ballot (pair range (pair inst votes_law)))) kind client (λ x. refl)
    (λ x is. record { same = same; valid = (is.0, omega (arith, is.1.0.2), range_is x.1.1.0 is.1.1.0, omega (arith, is.1.1.1.0.2), omega (arith, is.1.1.1.1.0), are_votes nothing_before x.1.1.1.1 is.1.1.1.1.1); numbers = tt; hops = λ _. refl }) spot x are h

refuse_was : (kind : ℕ) (client : Bool) → 4 ≡ kind → (spot : Spot) (x : Body × Spot) → AreBytes spot.rest → refuse_at spot ≡ Ok x → WasBody kind client spot x
unfolding refuse_at
refuse_was kind client same spot x are h =
    body_was (λ x. Refuse x.0 x.1.0 x.1.1) (pair ring_law (pair ballot ballot)) kind client (λ x. refl)
    (λ x is. record { same = same; valid = (is.0, omega (arith, is.1.0.2), omega (arith, is.1.1.2)); numbers = tt; hops = λ _. refl }) spot x are h

accept_was : (kind : ℕ) (client : Bool) → 5 ≡ kind → (spot : Spot) (x : Body × Spot) → AreBytes spot.rest → accept_at spot ≡ Ok x → WasBody kind client spot x
unfolding accept_at
accept_was kind client same spot x are h =
    body_was (λ x. Accept x.0 x.1.0 x.1.1.0.0 x.1.1.0.1 x.1.1.1.0 x.1.1.1.1) (pair ring_law (pair ballot (then_by range (λ r. pair any_byte_law (value_law true (is_one_of r)))))) kind client (λ x. refl)
    (λ x is. record { same = same; valid = (is.0, omega (arith, is.1.0.2), range_is x.1.1.0 is.1.1.0, stands true x.1.1.0.0 x.1.1.0.1 x.1.1.1.1 is.1.1.1.1); numbers = tt; hops = λ _. refl }) spot x are h

decide_was : (kind : ℕ) (client : Bool) → 6 ≡ kind → (spot : Spot) (x : Body × Spot) → AreBytes spot.rest → decide_at spot ≡ Ok x → WasBody kind client spot x
unfolding decide_at
decide_was kind client same spot x are h =
    body_was (λ x. Decide x.0 x.1.0.0 x.1.0.1 x.1.1.0 x.1.1.1) (pair ring_law (then_by range (λ r. pair any_byte_law (value_law true (is_one_of r))))) kind client (λ x. refl)
    (λ x is. record { same = same; valid = (is.0, range_is x.1.0 is.1.0, stands true x.1.0.0 x.1.0.1 x.1.1.1 is.1.1.1); numbers = tt; hops = λ _. refl }) spot x are h

fetch_was : (kind : ℕ) (client : Bool) → 7 ≡ kind → (spot : Spot) (x : Body × Spot) → AreBytes spot.rest → fetch_at spot ≡ Ok x → WasBody kind client spot x
unfolding fetch_at
fetch_was kind client same spot x are h =
    body_was (λ x. Fetch x.0 x.1) (pair ring_law inst) kind client (λ x. refl)
    (λ x is. record { same = same; valid = (is.0, omega (arith, is.1.2)); numbers = tt; hops = λ _. refl }) spot x are h

chosen_was : (kind : ℕ) (client : Bool) → 8 ≡ kind → (spot : Spot) (x : Body × Spot) → AreBytes spot.rest → chosen_at spot ≡ Ok x → WasBody kind client spot x
unfolding chosen_at
chosen_was kind client same spot x are h =
    body_was (λ x. Chosen x.0 x.1) (pair ring_law ranges_law) kind client (λ x. refl)
    (λ x is. record { same = same; valid = (is.0, is.1.0.1, is.1.0.2, are_ranges nothing_before x.1 is.1.1); numbers = tt; hops = λ _. refl }) spot x are h

trimmed_was : (kind : ℕ) (client : Bool) → 9 ≡ kind → (spot : Spot) (x : Body × Spot) → AreBytes spot.rest → trimmed_at spot ≡ Ok x → WasBody kind client spot x
unfolding trimmed_at
trimmed_was kind client same spot x are h =
    body_was (λ x. Trimmed x.0 x.1) (pair ring_law inst) kind client (λ x. refl)
    (λ x is. record { same = same; valid = (is.0, omega (arith, is.1.2)); numbers = tt; hops = λ _. refl }) spot x are h

ask_safe_was : (kind : ℕ) (client : Bool) → 10 ≡ kind → (spot : Spot) (x : Body × Spot) → AreBytes spot.rest → ask_safe_at spot ≡ Ok x → WasBody kind client spot x
unfolding ask_safe_at
ask_safe_was kind client same spot x are h =
    body_was (λ x. AskSafe x.0 x.1) (pair ring_law wide) kind client (λ x. refl)
    (λ x is. record { same = same; valid = is.0; numbers = is.1; hops = λ _. refl }) spot x are h

safe_was : (kind : ℕ) (client : Bool) → 11 ≡ kind → (spot : Spot) (x : Body × Spot) → AreBytes spot.rest → safe_at spot ≡ Ok x → WasBody kind client spot x
unfolding safe_at
safe_was kind client same spot x are h =
    body_was (λ x. Safe x.0 x.1.0 x.1.1) (pair ring_law (pair wide inst)) kind client (λ x. refl)
    (λ x is. record { same = same; valid = (is.0, omega (arith, is.1.1.2)); numbers = is.1.0; hops = λ _. refl }) spot x are h

trim_to_was : (kind : ℕ) (client : Bool) → 12 ≡ kind → (spot : Spot) (x : Body × Spot) → AreBytes spot.rest → trim_to_at spot ≡ Ok x → WasBody kind client spot x
unfolding trim_to_at
trim_to_was kind client same spot x are h =
    body_was (λ x. TrimTo x.0 x.1) (pair ring_law inst) kind client (λ x. refl)
    (λ x is. record { same = same; valid = (is.0, omega (arith, is.1.2)); numbers = tt; hops = λ _. refl }) spot x are h

ask_checkpoint_was : (kind : ℕ) (client : Bool) → 13 ≡ kind → (spot : Spot) (x : Body × Spot) → AreBytes spot.rest → ask_checkpoint_at spot ≡ Ok x → WasBody kind client spot x
unfolding ask_checkpoint_at
ask_checkpoint_was kind client same spot x are h =
    body_was (λ x. AskCheckpoint x.0 x.1) (pair short short) kind client (λ x. refl)
    (λ x is. record { same = same; valid = tt; numbers = is; hops = λ _. refl }) spot x are h

have_checkpoint_was : (kind : ℕ) (client : Bool) → 14 ≡ kind → (spot : Spot) (x : Body × Spot) → AreBytes spot.rest → have_checkpoint_at spot ≡ Ok x → WasBody kind client spot x
unfolding have_checkpoint_at
have_checkpoint_was kind client same spot x are h =
    body_was (λ x. HaveCheckpoint x.0 x.1.0 x.1.1) (pair short (pair short tuple_law)) kind client (λ x. refl)
    (λ x is. record { same = same; valid = is.1.1; numbers = (is.0, is.1.0); hops = λ _. refl }) spot x are h

ask_part_was : (kind : ℕ) (client : Bool) → 15 ≡ kind → (spot : Spot) (x : Body × Spot) → AreBytes spot.rest → ask_part_at spot ≡ Ok x → WasBody kind client spot x
unfolding ask_part_at
ask_part_was kind client same spot x are h =
    body_was (λ x. AskPart x.0 x.1.0 x.1.1.0 x.1.1.1) (pair short (pair short (pair tuple_law wide))) kind client (λ x. refl)
    (λ x is. record { same = same; valid = is.1.1.0; numbers = (is.0, is.1.0, is.1.1.1); hops = λ _. refl }) spot x are h

part_was : (kind : ℕ) (client : Bool) → 16 ≡ kind → (spot : Spot) (x : Body × Spot) → AreBytes spot.rest → part_at spot ≡ Ok x → WasBody kind client spot x
unfolding part_at
part_was kind client same spot x are h =
    body_was (λ x. Part x.0 x.1.0 x.1.1.0 x.1.1.1.0.0 x.1.1.1.0.1 x.1.1.1.1) (pair short (pair short (pair tuple_law (then_by (pair wide wide) part_bytes_law)))) kind client (λ x. refl)
    (λ x is. record { same = same; valid = (is.1.1.0, (part_length (part_of x.1.1.1.0) (length x.1.1.1.1) is.1.1.1.1.0 is.1.1.1.1.1).0, (part_length (part_of x.1.1.1.0) (length x.1.1.1.1) is.1.1.1.1.0 is.1.1.1.1.1).1); numbers = (is.0, is.1.0, is.1.1.1.0.0, is.1.1.1.0.1); hops = λ _. refl }) spot x are h

gone_was : (kind : ℕ) (client : Bool) → 17 ≡ kind → (spot : Spot) (x : Body × Spot) → AreBytes spot.rest → gone_at spot ≡ Ok x → WasBody kind client spot x
unfolding gone_at
gone_was kind client same spot x are h =
    body_was (λ x. Gone x.0 x.1.0 x.1.1.0 x.1.1.1) (pair short (pair short (pair tuple_law tuple_law))) kind client (λ x. refl)
    (λ x is. record { same = same; valid = (is.1.1.0, is.1.1.1); numbers = (is.0, is.1.0); hops = λ _. refl }) spot x are h

reply_was : (kind : ℕ) (client : Bool) → 18 ≡ kind → (spot : Spot) (x : Body × Spot) → AreBytes spot.rest → reply_at spot ≡ Ok x → WasBody kind client spot x
unfolding reply_at
reply_was kind client same spot x are h =
    body_was (λ x. Reply (record { 0 = x.0 }) x.1.0 (record { 0 = x.1.1.0 }) x.1.1.1) (pair any_byte_law (pair wide (pair any_byte_law (string_law 0 16384 (lit< tt))))) kind client (λ x. refl)
    (λ x is. record { same = same; valid = is.1.1.1.1; numbers = is.1.0; hops = λ _. refl }) spot x are h

-- one of two readers, by a test
choose : {V : Type 0} (t : Bool) (p q : Result (V × Spot) CodecFault) (x : V × Spot) (P : Type 0) → (if t then p else q) ≡ Ok x → (t ≡ true → p ≡ Ok x → P) → (t ≡ false → q ≡ Ok x → P) → P
choose true p q x P h then_is else_is = then_is refl h
choose false p q x P h then_is else_is = else_is refl h

this_kind : (kind n : ℕ) → (kind == n) ≡ true → n ≡ kind
this_kind kind n h = grind arith

-- a kind that isn't this one is greater
later_kind : (kind n : ℕ) → n ≤ kind → (kind == n) ≡ false → n + 1 ≤ kind
later_kind kind n low h = grind arith

hello_was : (kind : ℕ) (client : Bool) → 19 ≡ kind → (spot : Spot) (x : Body × Spot) → AreBytes spot.rest → nothing {E = CodecFault} Hello spot ≡ Ok x → WasBody kind client spot x
hello_was kind client same spot x are h =
    subst (WasBody kind client spot) (ok_is (Hello, spot) x h) (record { parts = refl; bytes = are }, record { same = same; valid = tt; numbers = tt; hops = λ _. refl })

pub of_kind_was : (kind : ℕ) (client : Bool) → 1 ≤ kind → kind ≤ 19 → (spot : Spot) (x : Body × Spot) → AreBytes spot.rest → body_of_kind kind client spot ≡ Ok x → WasBody kind client spot x
unfolding body_of_kind
of_kind_was kind client low high spot x are h1 =
    choose (kind == 1) _ _ x (WasBody kind client spot x) h1 (λ is r. submit_was kind client (this_kind kind 1 is) spot x are r) (λ no1 h2. let l2 = later_kind kind 1 low no1 in
    choose (kind == 2) _ _ x (WasBody kind client spot x) h2 (λ is r. prepare_was kind client (this_kind kind 2 is) spot x are r) (λ no2 h3. let l3 = later_kind kind 2 l2 no2 in
    choose (kind == 3) _ _ x (WasBody kind client spot x) h3 (λ is r. promise_was kind client (this_kind kind 3 is) spot x are r) (λ no3 h4. let l4 = later_kind kind 3 l3 no3 in
    choose (kind == 4) _ _ x (WasBody kind client spot x) h4 (λ is r. refuse_was kind client (this_kind kind 4 is) spot x are r) (λ no4 h5. let l5 = later_kind kind 4 l4 no4 in
    choose (kind == 5) _ _ x (WasBody kind client spot x) h5 (λ is r. accept_was kind client (this_kind kind 5 is) spot x are r) (λ no5 h6. let l6 = later_kind kind 5 l5 no5 in
    choose (kind == 6) _ _ x (WasBody kind client spot x) h6 (λ is r. decide_was kind client (this_kind kind 6 is) spot x are r) (λ no6 h7. let l7 = later_kind kind 6 l6 no6 in
    choose (kind == 7) _ _ x (WasBody kind client spot x) h7 (λ is r. fetch_was kind client (this_kind kind 7 is) spot x are r) (λ no7 h8. let l8 = later_kind kind 7 l7 no7 in
    choose (kind == 8) _ _ x (WasBody kind client spot x) h8 (λ is r. chosen_was kind client (this_kind kind 8 is) spot x are r) (λ no8 h9. let l9 = later_kind kind 8 l8 no8 in
    choose (kind == 9) _ _ x (WasBody kind client spot x) h9 (λ is r. trimmed_was kind client (this_kind kind 9 is) spot x are r) (λ no9 h10. let l10 = later_kind kind 9 l9 no9 in
    choose (kind == 10) _ _ x (WasBody kind client spot x) h10 (λ is r. ask_safe_was kind client (this_kind kind 10 is) spot x are r) (λ no10 h11. let l11 = later_kind kind 10 l10 no10 in
    choose (kind == 11) _ _ x (WasBody kind client spot x) h11 (λ is r. safe_was kind client (this_kind kind 11 is) spot x are r) (λ no11 h12. let l12 = later_kind kind 11 l11 no11 in
    choose (kind == 12) _ _ x (WasBody kind client spot x) h12 (λ is r. trim_to_was kind client (this_kind kind 12 is) spot x are r) (λ no12 h13. let l13 = later_kind kind 12 l12 no12 in
    choose (kind == 13) _ _ x (WasBody kind client spot x) h13 (λ is r. ask_checkpoint_was kind client (this_kind kind 13 is) spot x are r) (λ no13 h14. let l14 = later_kind kind 13 l13 no13 in
    choose (kind == 14) _ _ x (WasBody kind client spot x) h14 (λ is r. have_checkpoint_was kind client (this_kind kind 14 is) spot x are r) (λ no14 h15. let l15 = later_kind kind 14 l14 no14 in
    choose (kind == 15) _ _ x (WasBody kind client spot x) h15 (λ is r. ask_part_was kind client (this_kind kind 15 is) spot x are r) (λ no15 h16. let l16 = later_kind kind 15 l15 no15 in
    choose (kind == 16) _ _ x (WasBody kind client spot x) h16 (λ is r. part_was kind client (this_kind kind 16 is) spot x are r) (λ no16 h17. let l17 = later_kind kind 16 l16 no16 in
    choose (kind == 17) _ _ x (WasBody kind client spot x) h17 (λ is r. gone_was kind client (this_kind kind 17 is) spot x are r) (λ no17 h18. let l18 = later_kind kind 17 l17 no17 in
    choose (kind == 18) _ _ x (WasBody kind client spot x) h18 (λ is r. reply_was kind client (this_kind kind 18 is) spot x are r) (λ no18 h19. let l19 = later_kind kind 18 l18 no18 in
    hello_was kind client (omega (arith, l19, high)) spot x are h19))))))))))))))))))

abbrev Again : ℕ → Bool → Body → ℕ → List ℕ → Type 0
Again kind client body at tail = ReadAgain (body_of_kind kind client) body at tail

of_kind_again : (client : Bool) (body : Body) → IsBody body → HasNumbers body → (client ≡ true → hops_of body ≡ 0) → (at : ℕ) (tail : List ℕ) → Again (kind_of_body body) client body at tail
unfolding body_of_kind submit_at prepare_at promise_at refuse_at accept_at decide_at fetch_at chosen_at trimmed_at ask_safe_at safe_at trim_to_at ask_checkpoint_at have_checkpoint_at ask_part_at part_at gone_at reply_at
of_kind_again client (Submit ring hops asker seq command) is numbers none at tail =
    body_again (λ x. Submit x.0 x.1.0 (record { 0 = x.1.1.0 }) x.1.1.1.0 x.1.1.1.1) (submit_fields client) (ring, (hops, (asker.0, (seq, command)))) refl
    (is.0, ((omega (arith, is.1), omega arith, few_hops client hops is.1 none), (tt, ((omega (arith, is.3), is.2, omega (arith, is.3)), (omega arith, is.4))))) at tail
of_kind_again client (Prepare ring b lo) is numbers none at tail =
    body_again (λ x. Prepare x.0 x.1.0 x.1.1) (pair ring_law (pair ballot inst)) (ring, (b, lo)) refl (is.0, (is_ballot b is.1, is_inst lo is.2)) at tail
of_kind_again client (Promise ring b lo hi trim votes) is numbers none at tail =
    body_again (λ x. Promise x.0 x.1.0 x.1.1.0.0 x.1.1.0.1 x.1.1.1.0 x.1.1.1.1) (pair ring_law (pair ballot (pair range (pair inst votes_law)))) (ring, (b, ((lo, hi), (trim, votes)))) refl
    (is.0, (is_ballot b is.1, (is_range lo hi is.2, (is_inst trim is.3, (omega (arith, is.4), votes_are nothing_before votes is.5))))) at tail
of_kind_again client (Refuse ring b promise) is numbers none at tail =
    body_again (λ x. Refuse x.0 x.1.0 x.1.1) (pair ring_law (pair ballot ballot)) (ring, (b, promise)) refl (is.0, (is_ballot b is.1, is_ballot promise is.2)) at tail
of_kind_again client (Accept ring b lo hi mask value) is numbers none at tail =
    body_again (λ x. Accept x.0 x.1.0 x.1.1.0.0 x.1.1.0.1 x.1.1.1.0 x.1.1.1.1) (pair ring_law (pair ballot (then_by range (λ r. pair any_byte_law (value_law true (is_one_of r)))))) (ring, (b, ((lo, hi), (mask, value)))) refl
    (is.0, (is_ballot b is.1, (is_range lo hi is.2, (tt, value_in lo hi value is.3)))) at tail
of_kind_again client (Decide ring lo hi left value) is numbers none at tail =
    body_again (λ x. Decide x.0 x.1.0.0 x.1.0.1 x.1.1.0 x.1.1.1) (pair ring_law (then_by range (λ r. pair any_byte_law (value_law true (is_one_of r))))) (ring, ((lo, hi), (left, value))) refl
    (is.0, (is_range lo hi is.1, (tt, value_in lo hi value is.2))) at tail
of_kind_again client (Fetch ring lo) is numbers none at tail = body_again (λ x. Fetch x.0 x.1) (pair ring_law inst) (ring, lo) refl (is.0, is_inst lo is.1) at tail
of_kind_again client (Chosen ring ranges) is numbers none at tail =
    body_again (λ x. Chosen x.0 x.1) (pair ring_law ranges_law) (ring, ranges) refl (is.0, ((omega (arith, is.2), is.1, is.2), ranges_are nothing_before ranges is.3)) at tail
of_kind_again client (Trimmed ring trim) is numbers none at tail = body_again (λ x. Trimmed x.0 x.1) (pair ring_law inst) (ring, trim) refl (is.0, is_inst trim is.1) at tail
of_kind_again client (AskSafe ring round) is numbers none at tail = body_again (λ x. AskSafe x.0 x.1) (pair ring_law wide) (ring, round) refl (is, numbers) at tail
of_kind_again client (Safe ring round safe) is numbers none at tail = body_again (λ x. Safe x.0 x.1.0 x.1.1) (pair ring_law (pair wide inst)) (ring, (round, safe)) refl (is.0, (numbers, is_inst safe is.1)) at tail
of_kind_again client (TrimTo ring trim) is numbers none at tail = body_again (λ x. TrimTo x.0 x.1) (pair ring_law inst) (ring, trim) refl (is.0, is_inst trim is.1) at tail
of_kind_again client (AskCheckpoint epoch attempt) is numbers none at tail = body_again (λ x. AskCheckpoint x.0 x.1) (pair short short) (epoch, attempt) refl numbers at tail
of_kind_again client (HaveCheckpoint epoch attempt tuple) is numbers none at tail =
    body_again (λ x. HaveCheckpoint x.0 x.1.0 x.1.1) (pair short (pair short tuple_law)) (epoch, (attempt, tuple)) refl (numbers.0, (numbers.1, is)) at tail
of_kind_again client (AskPart epoch attempt tuple offset) is numbers none at tail =
    body_again (λ x. AskPart x.0 x.1.0 x.1.1.0 x.1.1.1) (pair short (pair short (pair tuple_law wide))) (epoch, (attempt, (tuple, offset))) refl (numbers.0, (numbers.1, (is, numbers.2))) at tail
of_kind_again client (Part epoch attempt tuple offset total bytes) is numbers none at tail =
    body_again (λ x. Part x.0 x.1.0 x.1.1.0 x.1.1.1.0.0 x.1.1.1.0.1 x.1.1.1.1) (pair short (pair short (pair tuple_law (then_by (pair wide wide) part_bytes_law)))) (epoch, (attempt, (tuple, ((offset, total), bytes)))) refl
    (numbers.0, (numbers.1, (is.0, ((numbers.2, numbers.3), length_part (part_of (offset, total)) (length bytes) is.1 is.2)))) at tail
of_kind_again client (Gone epoch attempt asked newer) is numbers none at tail =
    body_again (λ x. Gone x.0 x.1.0 x.1.1.0 x.1.1.1) (pair short (pair short (pair tuple_law tuple_law))) (epoch, (attempt, (asked, newer))) refl (numbers.0, (numbers.1, (is.0, is.1))) at tail
of_kind_again client (Reply asker seq partition reply) is numbers none at tail =
    body_again (λ x. Reply (record { 0 = x.0 }) x.1.0 (record { 0 = x.1.1.0 }) x.1.1.1) (pair any_byte_law (pair wide (pair any_byte_law (string_law 0 16384 (lit< tt))))) (asker.0, (seq, (partition.0, reply))) refl
    (tt, (numbers, (tt, (omega arith, is)))) at tail
of_kind_again client Hello is numbers none at tail = (at, refl)

pub body_law : (kind : ℕ) (client : Bool) → 1 ≤ kind → kind ≤ 19 → Field Body (body_of_kind kind client) body_bytes (IsOfKind kind client)
body_law kind client low high = record {
  was = of_kind_was kind client low high;
  again = λ body at tail is. subst (λ (k : ℕ). Again k client body at tail) is.same (of_kind_again client body is.valid is.numbers is.hops at tail);
}
