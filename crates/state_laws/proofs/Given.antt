-- Entries of a batch of bytes are given, and so are those below a tuple where the book is of bytes.
use Rattle.std.proofs.Common.{arith, ◌≡◌, ◌<◌, inl, inr, ℕ, zero, suc, ◌+◌, Bool, true, false, if◌then◌else◌, List, [], ◌∷◌, ◌++◌, length, Option, Some, None, Result, Ok, Err, refl, ap, subst}
use Rattle.std.specs.Prelude.{option_map}
use Rattle.std.specs.List.{AllByRecursion, flat_map}
use Rattle.std.proofs.lemmas.Bool.{cases_lt}
use Rattle.std.proofs.lemmas.List.{get_or_append_left, get_or-append-add, get_or_past}
use Rattle.std.proofs.lemmas.List.Concat.{flat_map-cons}
use Rattle.mrp_types.specs.declared.id.RingId.{RingId}
use Rattle.mrp_types.specs.declared.value.Entry.{Entry}
use Rattle.mrp_types.specs.declared.value.Value.{Value}
use Rattle.mrp_types.specs.declared.value.Value.TheVariants.{Skip, Batch}
use Rattle.mrp_types.specs.Book.{Learning, book_of, covers}
use Rattle.mrp_types.specs.Entries.{IsEntry}
use Rattle.command_codec.specs.declared.fault.CodecFault.{CodecFault}
use Rattle.command_codec.specs.Fields.{u16_bytes, u64_bytes, string16}
use Rattle.command_codec.specs.Grammar.{batch_at, batch_of}
use Rattle.command_codec.specs.Spelling.{entry_bytes, batch_bytes, AreEntries}
use Rattle.command_codec.proofs.ReaderLaws.{AreBytes, rest_are}
use Rattle.command_codec.proofs.Combined.{whole_was}
use Rattle.command_codec.proofs.BatchLaws.{batch_law}
use Rattle.mrp_config.specs.declared.tables.PartitionTable.{PartitionTable}
use Rattle.plain_model.specs.Replicas.{entries_or_none, entries_of_batch}
use Rattle.plain_model.specs.StateBytes.{state_bytes, state_of}
use Rattle.plain_model.specs.Tuples.{next_place, past, first_tuple}
use Rattle.plain_model.specs.Fold.{entries_of_value, entries_in_book, both_known, entries_known, entries_of_next, count_below, rings_of, entries_below, replica_after, state_below}
use Rattle.state_laws.specs.Books.{IsOfBytes, AreOfBytes}
use Rattle.state_laws.specs.States.{IsGiven, AreGiven, HasFewLogs}
use Rattle.state_laws.proofs.Written.{some-goes}
use Rattle.state_laws.proofs.Steps.{after_is}

bytes_left : (xs ys : List ℕ) → AreBytes (xs ++ ys) → AreBytes xs
bytes_left xs ys are i = elim (cases_lt i (length xs)) [
  | inl less ↦ subst (λ (n : ℕ). n < 256) (get_or_append_left xs ys 0 i less) (are i)
  | inr more ↦ rw (get_or_past xs i 0 more) (omega arith)
]

bytes_right : (xs ys : List ℕ) → AreBytes (xs ++ ys) → AreBytes ys
bytes_right xs ys are i = subst (λ (n : ℕ). n < 256) (get_or-append-add xs ys i 0) (are (length xs + i))

entry_given : (e : Entry) → AreBytes (entry_bytes e) → IsEntry e → IsGiven e
entry_given e are is = record {
  client = let first : e.client.0 < 256 = are 0 in omega arith;
  asked = is.asked;
  numbered = let numbered = is.numbered in omega arith;
  bytes = bytes_right (u16_bytes (length e.command)) e.command (bytes_right (u64_bytes e.seq) (string16 e.command) (rest_are e.client.0 (u64_bytes e.seq ++ string16 e.command) are));
}

entries_given : (es : List Entry) → AreBytes (flat_map entry_bytes es) → AllByRecursion IsEntry es → AreGiven es
entries_given [] are each = tt
entries_given (e ∷ es) are each =
    let parts : AreBytes (entry_bytes e ++ flat_map entry_bytes es) = subst (λ (l : List ℕ). AreBytes l) (flat_map-cons entry_bytes e es) are in
    (entry_given e (bytes_left (entry_bytes e) (flat_map entry_bytes es) parts) each.0, entries_given es (bytes_right (entry_bytes e) (flat_map entry_bytes es) parts) each.1)

pub batch_given : (bytes : List ℕ) → AreBytes bytes → AreGiven (entries_of_batch bytes)
batch_given bytes are = by (batch_of bytes) refl
  where
    by : (x : Result (List Entry) CodecFault) → batch_of bytes ≡ x → AreGiven (entries_or_none x)
    by (Err fault) h = tt
    by (Ok es) h =
        let w = whole_was (List Entry) batch_at batch_bytes AreEntries batch_law bytes es are h in
        let spelled : AreBytes (batch_bytes es) = subst (λ (l : List ℕ). AreBytes l) w.0 are in
        entries_given es (bytes_right (u16_bytes (length es)) (flat_map entry_bytes es) (rest_are 1 (u16_bytes (length es) ++ flat_map entry_bytes es) spelled)) w.1.each

-- ---- the book

abbrev pub IsOfBytesOrNone : Option Value → Type 0
IsOfBytesOrNone None = Unit {0}
IsOfBytesOrNone (Some value) = IsOfBytes value

abbrev pub AreGivenOrNone : Option (List Entry) → Type 0
AreGivenOrNone None = Unit {0}
AreGivenOrNone (Some es) = AreGiven es

book_bytes : (known : List Learning) (ring : RingId) (inst : ℕ) → AreOfBytes known → IsOfBytesOrNone (book_of known ring inst)
book_bytes [] ring inst are = tt
book_bytes (l ∷ known) ring inst are = by (covers l ring inst) (book_bytes known ring inst are.1)
  where
    by : (t : Bool) → IsOfBytesOrNone (book_of known ring inst) → IsOfBytesOrNone (if t then Some l.value else book_of known ring inst)
    by true later = are.0
    by false later = later

value_given : (value : Value) → IsOfBytes value → AreGiven (entries_of_value value)
value_given Skip is = tt
value_given (Batch batch) is = batch_given batch is

known_given : (known : List Learning) (place : RingId × ℕ) → AreOfBytes known → AreGivenOrNone (entries_known known place)
known_given known place are = by (book_of known place.0 place.1) (book_bytes known place.0 place.1 are)
  where
    by : (o : Option Value) → IsOfBytesOrNone o → AreGivenOrNone (entries_in_book o)
    by None is = tt
    by (Some value) is = value_given value is

given_both : (xs ys : List Entry) → AreGiven xs → AreGiven ys → AreGiven (xs ++ ys)
given_both [] ys first second = second
given_both (x ∷ xs) ys first second = (first.0, given_both xs ys first.1 second)

both_given : (a b : Option (List Entry)) → AreGivenOrNone a → AreGivenOrNone b → AreGivenOrNone (both_known a b)
both_given None b first second = tt
both_given (Some xs) None first second = tt
both_given (Some xs) (Some ys) first second = given_both xs ys first second

next_given : (m : ℕ → ℕ) (known : List Learning) (n : ℕ) (tuple : List (RingId × ℕ)) → AreOfBytes known → AreGivenOrNone (entries_of_next m known n tuple)
next_given m known zero tuple are = tt
next_given m known (suc n) tuple are =
    both_given (entries_known known (next_place m tuple)) (entries_of_next m known n (past m tuple)) (known_given known (next_place m tuple) are) (next_given m known n (past m tuple) are)

below_given : (m : ℕ → ℕ) (known : List Learning) (tuple : List (RingId × ℕ)) → AreOfBytes known → AreGivenOrNone (entries_below m known tuple)
unfolding entries_below
below_given m known tuple are = next_given m known (count_below tuple) (first_tuple (rings_of tuple)) are

pub below-given : (m : ℕ → ℕ) (known : List Learning) (tuple : List (RingId × ℕ)) (es : List Entry) → AreOfBytes known → entries_below m known tuple ≡ Some es → AreGiven es
below-given m known tuple es are h = subst (λ (o : Option (List Entry)). AreGivenOrNone o) h (below_given m known tuple are)

pub state-read : (m : ℕ → ℕ) (known : List Learning) (p : PartitionTable) (tuple : List (RingId × ℕ)) (bytes : List ℕ) → HasFewLogs p → AreOfBytes known →
    state_below m known p tuple ≡ Some bytes → (es : List Entry) × (entries_below m known tuple ≡ Some es) × (state_of p bytes ≡ Some (replica_after p es))
state-read m known p tuple bytes logs are h = by (entries_below m known tuple) refl h
  where
    none_some : None ≡ Some bytes → ⊥
    none_some g = grind arith

    or_this : Option (List ℕ) → List ℕ → List ℕ
    or_this None y = y
    or_this (Some z) y = z

    by : (o : Option (List Entry)) → entries_below m known tuple ≡ o → option_map (λ (es : List Entry). state_bytes (replica_after p es)) o ≡ Some bytes →
        (es : List Entry) × (entries_below m known tuple ≡ Some es) × (state_of p bytes ≡ Some (replica_after p es))
    by None e g = absurd (none_some g)
    by (Some es) e g = (
      es,
      e,
      subst (λ (l : List ℕ). state_of p l ≡ Some (replica_after p es)) (ap (λ (o : Option (List ℕ)). or_this o bytes) g)
          (some-goes p (replica_after p es) (after_is p es logs (below-given m known tuple es are e))),
    )
