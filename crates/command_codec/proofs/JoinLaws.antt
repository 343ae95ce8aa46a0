-- Replies that can be one are a reply that has a spelling.
use Rattle.std.proofs.Common.{◌≡◌, ℕ, ◌+◌, Bool, true, false, List, [], ◌∷◌, ◌++◌, ◌&&◌, length, Some, refl, sym, ap, subst, ◌∙◌, append_assoc, append-nil, arith, if◌then◌else◌, IsTrue, length-append}
use Rattle.std.specs.List.{flat_map, AllByRecursion}
use Rattle.std.proofs.lemmas.List.Concat.{flat_map-cons}
use Rattle.command_codec.specs.declared.reply.TableEntry.{TableEntry}
use Rattle.command_codec.specs.declared.reply.Reply.{Reply}
use Rattle.command_codec.specs.declared.reply.Reply.TheVariants.{Positions, Value, Trimmed, Absent, Beyond, Exists, Done, Entries, Limit, Differs}
use Rattle.command_codec.specs.Replies.{IsReply, IsPosition, IsTableEntry, keys_rise, is_other, first_other, positions_of, entries_of, has_more, until_more, starts_with_positions, positions_reply, entries_reply, or_else, joined, AreParts}
use Rattle.command_codec.specs.Grammar.{comes_after}

all_append : {V : Type 0} (Is : V → Type 0) (xs ys : List V) → AllByRecursion Is xs → AllByRecursion Is ys → AllByRecursion Is (xs ++ ys)
all_append Is [] ys first second = second
all_append Is (x ∷ xs) ys first second = (first.0, all_append Is xs ys first.1 second)

each_position : (part : Reply) → IsReply part → AllByRecursion IsPosition (positions_of part)
each_position (Positions positions) is = is.each
each_position (Value value) is = tt
each_position (Trimmed trim) is = tt
each_position Absent is = tt
each_position (Beyond length) is = tt
each_position Exists is = tt
each_position Done is = tt
each_position (Entries more entries) is = tt
each_position Limit is = tt
each_position (Differs value) is = tt

each_entry : (part : Reply) → IsReply part → AllByRecursion IsTableEntry (entries_of part)
each_entry (Positions positions) is = tt
each_entry (Value value) is = tt
each_entry (Trimmed trim) is = tt
each_entry Absent is = tt
each_entry (Beyond length) is = tt
each_entry Exists is = tt
each_entry Done is = tt
each_entry (Entries more entries) is = is.each
each_entry Limit is = tt
each_entry (Differs value) is = tt

all_positions : (parts : List Reply) → AllByRecursion IsReply parts → AllByRecursion IsPosition (flat_map positions_of parts)
all_positions [] each = tt
all_positions (part ∷ parts) each = rw flat_map-cons (all_append IsPosition (positions_of part) (flat_map positions_of parts) (each_position part each.0) (all_positions parts each.1))

all_until : (parts : List Reply) → AllByRecursion IsReply parts → AllByRecursion IsTableEntry (flat_map entries_of (until_more parts))
all_until [] each = tt
all_until (part ∷ parts) each = by_mark (has_more part) part parts each.0 (all_until parts each.1)
  where
    by_mark : (t : Bool) (part : Reply) (parts : List Reply) → IsReply part → AllByRecursion IsTableEntry (flat_map entries_of (until_more parts)) →
        AllByRecursion IsTableEntry (flat_map entries_of (if t then part ∷ [] else part ∷ until_more parts))
    by_mark true part parts is others = rw flat_map-cons (all_append IsTableEntry (entries_of part) [] (each_entry part is) tt)
    by_mark false part parts is others = rw flat_map-cons (all_append IsTableEntry (entries_of part) (flat_map entries_of (until_more parts)) (each_entry part is) others)

-- what stands after the part at which joining ends
abbrev pub Rest : List Reply → Type 0
Rest parts = (rest : List TableEntry) × (flat_map entries_of parts ≡ flat_map entries_of (until_more parts) ++ rest)

rest_of : (parts : List Reply) → Rest parts
rest_of [] = ([], refl)
rest_of (part ∷ parts) = by_mark (has_more part) part parts (rest_of parts)
  where
    by_mark : (t : Bool) (part : Reply) (parts : List Reply) → Rest parts →
        (rest : List TableEntry) × (flat_map entries_of (part ∷ parts) ≡ flat_map entries_of (if t then part ∷ [] else part ∷ until_more parts) ++ rest)
    by_mark true part parts others =
        (flat_map entries_of parts, flat_map-cons entries_of part parts ∙ ap (λ (x : List TableEntry). x ++ flat_map entries_of parts) (sym (flat_map-cons entries_of part [] ∙ append-nil (entries_of part))))
    by_mark false part parts others = (
      others.0,
      flat_map-cons entries_of part parts ∙ ap (λ (x : List TableEntry). entries_of part ++ x) others.1
          ∙ sym (append_assoc (entries_of part) (flat_map entries_of (until_more parts)) others.0)
          ∙ ap (λ (x : List TableEntry). x ++ others.0) (sym (flat_map-cons entries_of part (until_more parts))),
    )

true_both : (a b : Bool) → IsTrue (a && b) → IsTrue a × IsTrue b
true_both true b h = (refl, h)
true_both false b h = absurd (grind arith)

both_true : (a b : Bool) → IsTrue a → IsTrue b → IsTrue (a && b)
both_true true true first second = refl
both_true true false first second = second
both_true false b first second = first

rising_front : (before : List ℕ) (xs ys : List TableEntry) → IsTrue (keys_rise before (xs ++ ys)) → IsTrue (keys_rise before xs)
rising_front before [] ys rising = refl
rising_front before (x ∷ xs) ys rising =
    let r = true_both (comes_after before x.key) (keys_rise x.key (xs ++ ys)) rising in
    both_true (comes_after before x.key) (keys_rise x.key xs) r.0 (rising_front x.key xs ys r.1)

merged_is : (t : Bool) (parts : List Reply) → AreParts parts → IsReply (if t then positions_reply parts else entries_reply parts)
merged_is true parts are = record { few = are.few_positions; each = all_positions parts are.each }
merged_is false parts are =
    let rest = rest_of parts in
    let front = flat_map entries_of (until_more parts) in
    let long : length (flat_map entries_of parts) ≡ length front + length rest.0 = ap length rest.1 ∙ length-append front rest.0 in
    record {
      few = omega (arith, are.few_entries, long);
      each = all_until parts are.each;
      rising = rising_front [] front rest.0 (subst (λ (es : List TableEntry). IsTrue (keys_rise [] es)) rest.1 are.rising);
    }

other_is : (parts : List Reply) (merged : Reply) → AllByRecursion IsReply parts → IsReply merged → IsReply (or_else (first_other parts) merged)
other_is [] merged each is = is
other_is (part ∷ parts) merged each is = by_test (is_other part) part parts merged each.0 (other_is parts merged each.1 is)
  where
    by_test : (t : Bool) (part : Reply) (parts : List Reply) (merged : Reply) → IsReply part → IsReply (or_else (first_other parts) merged) →
        IsReply (or_else (if t then Some part else first_other parts) merged)
    by_test true part parts merged is others = is
    by_test false part parts merged is others = others

pub joined_is : (parts : List Reply) → AreParts parts → IsReply (joined parts)
joined_is parts are = other_is parts (if starts_with_positions parts then positions_reply parts else entries_reply parts) are.each (merged_is (starts_with_positions parts) parts are)
