-- A reply is read as it is spelled, and what is read is spelled so.
use Rattle.std.proofs.Common.{lit<, ◌≡◌, ℕ, zero, suc, ◌+◌, ◌^◌, ◌<◌, ◌≤◌, Bool, true, false, List, [], ◌∷◌, ◌++◌, ◌&&◌, ◌==◌, length, Result, Ok, Err, refl, ap, subst, ◌∙◌, arith, IsTrue, IfOk}
use Rattle.std.specs.Int.{w16, w64}
use Rattle.std.specs.List.{flat_map, AllByRecursion}
use Rattle.mrp_types.specs.declared.id.LogId.{LogId}
use Rattle.command_codec.specs.declared.reply.LogPosition.{LogPosition}
use Rattle.command_codec.specs.declared.reply.TableEntry.{TableEntry}
use Rattle.command_codec.specs.declared.reply.Reply.{Reply}
use Rattle.command_codec.specs.declared.reply.Reply.TheVariants.{Positions, Value, Trimmed, Absent, Beyond, Exists, Done, Entries, Limit, Differs}
use Rattle.command_codec.specs.declared.fault.CodecFault.{CodecFault}
use Rattle.command_codec.specs.declared.fault.CodecFault.TheVariants.{BadKind}
use Rattle.command_codec.specs.Fields.{u16_bytes, u64_bytes, string16}
use Rattle.command_codec.specs.Replies.{reply_bytes, position_bytes, table_entry_bytes, flag, IsReply, HasNumbers, IsPosition, IsTableEntry, AreTableEntries, keys_rise}
use Rattle.mrp_types.specs.Reading.{both, shown, counted, many}
use Rattle.command_codec.specs.Reader.{Spot, byte_at, number_at, within, string_that, Says}
use Rattle.command_codec.specs.Grammar.{log_from, stored_at, comes_after, position_at, positions_at, table_entry_at, key_of, entries_reply_at, reply_of_kind, reply_at, reply_of}
use Rattle.command_codec.proofs.ReaderLaws.{AreBytes, Took, Again, Field, HasLength, one_byte, byte_law, number_law, wide16, wide64, within_law, string_that_law, rest_are}
use Rattle.command_codec.proofs.Combined.{both_law, shown_law, kind_was, kind_again, alone_was, chosen, AllInChain, in_chain, of_chain, counted_law, counted_text, whole_was, whole_again}
use Rattle.command_codec.proofs.CommandLaws.{IsLogFrom, log_position_text, position_fields, stored_law, kind_is, two_text}

-- ---- positions

abbrev pub IsPlace : LogPosition → Type 0
IsPlace p = IsPosition p × (p.position < 2 ^ 64)

pub position_law : Field LogPosition position_at position_bytes IsPlace
unfolding position_at
position_law =
    shown_law (LogId × ℕ) LogPosition (λ x. record { log = x.0; position = x.1 }) (λ p. (p.log, p.position)) (both (log_from 0) (number_at w64)) log_position_text position_bytes
    (λ v. IsLogFrom 0 v.0 × (v.1 < 2 ^ 64)) IsPlace position_fields
    (λ v. refl) (λ v is. (is.0.1, is.1)) (λ p. refl) (λ p is. ((omega arith, is.0), is.1))

abbrev pub ArePlaces : List LogPosition → Type 0
ArePlaces ps = (length ps < 256) × AllInChain {S = ℕ} (λ _. IsPlace) (λ _. 0) 0 ps

places_law : Field (List LogPosition) (many byte_at position_at) (counted_text one_byte position_bytes) ArePlaces
places_law = counted_law ℕ LogPosition byte_at one_byte (λ n. n < 256) byte_law (λ _. position_at) (λ _. 0) position_bytes (λ _. IsPlace) (λ _. position_law) 0

logs_of_places : (ps : List LogPosition) → AllByRecursion IsPlace ps → AllByRecursion IsPosition ps
logs_of_places [] each = tt
logs_of_places (p ∷ ps) each = (each.0.0, logs_of_places ps each.1)

numbers_of_places : (ps : List LogPosition) → AllByRecursion IsPlace ps → AllByRecursion (λ (p : LogPosition). p.position < 2 ^ 64) ps
numbers_of_places [] each = tt
numbers_of_places (p ∷ ps) each = (each.0.1, numbers_of_places ps each.1)

places_of : (ps : List LogPosition) → AllByRecursion IsPosition ps → AllByRecursion (λ (p : LogPosition). p.position < 2 ^ 64) ps → AllByRecursion IsPlace ps
places_of [] logs numbers = tt
places_of (p ∷ ps) logs numbers = ((logs.0, numbers.0), places_of ps logs.1 numbers.1)

-- ---- table entries

abbrev pub IsLater : List ℕ → TableEntry → Type 0
IsLater before entry = IsTableEntry entry × IsTrue (comes_after before entry.key)

table_entry_law : (before : List ℕ) → Field TableEntry (table_entry_at before) table_entry_bytes (IsLater before)
unfolding table_entry_at
table_entry_law before =
    shown_law (List ℕ × List ℕ) TableEntry (λ x. record { key = x.0; value = x.1 }) (λ e. (e.key, e.value)) (both (string_that 1 256 (comes_after before)) stored_at) two_text table_entry_bytes
    (λ v. (HasLength 1 256 v.0 × IsTrue (comes_after before v.0)) × HasLength 0 2048 v.1) (IsLater before)
    (both_law (List ℕ) (List ℕ) (string_that 1 256 (comes_after before)) stored_at string16 string16 (λ k. HasLength 1 256 k × IsTrue (comes_after before k)) (HasLength 0 2048)
    (string_that_law 1 256 (comes_after before) (lit< tt)) stored_law)
    (λ v. refl) (λ v is. ((is.0.0, is.1.1), is.0.1)) (λ e. refl) (λ e is. ((is.0.0, is.1), (omega arith, is.0.1)))

abbrev pub AreLater : List TableEntry → Type 0
AreLater es = (length es < 2 ^ 16) × AllInChain IsLater key_of [] es

later_law : Field (List TableEntry) (counted (number_at w16) table_entry_at key_of []) (counted_text u16_bytes table_entry_bytes) AreLater
later_law =
    counted_law (List ℕ) TableEntry (number_at w16) u16_bytes (λ n. n < 2 ^ 16) (number_law w16 (2 ^ 16) u16_bytes wide16)
    table_entry_at key_of table_entry_bytes IsLater table_entry_law []

both_true : (a b : Bool) → IsTrue a → IsTrue b → IsTrue (a && b)
both_true true true first second = refl
both_true true false first second = second
both_true false b first second = first

true_both : (a b : Bool) → IsTrue (a && b) → IsTrue a × IsTrue b
true_both true b h = (refl, h)
true_both false b h = absurd (grind arith)

each_of_later : (before : List ℕ) (es : List TableEntry) → AllInChain IsLater key_of before es → AllByRecursion IsTableEntry es
each_of_later before [] later = tt
each_of_later before (e ∷ es) later = (later.0.0, each_of_later e.key es later.1)

rising_of_later : (before : List ℕ) (es : List TableEntry) → AllInChain IsLater key_of before es → IsTrue (keys_rise before es)
rising_of_later before [] later = refl
rising_of_later before (e ∷ es) later = both_true (comes_after before e.key) (keys_rise e.key es) later.0.1 (rising_of_later e.key es later.1)

later_of : (before : List ℕ) (es : List TableEntry) → AllByRecursion IsTableEntry es → IsTrue (keys_rise before es) → AllInChain IsLater key_of before es
later_of before [] each rising = tt
later_of before (e ∷ es) each rising =
    let r = true_both (comes_after before e.key) (keys_rise e.key es) rising in
    ((each.0, r.0), later_of e.key es each.1 r.1)

-- ---- replies

abbrev pub IsWhole : Reply → Type 0
IsWhole reply = IsReply reply × HasNumbers reply

abbrev pub WasReply : ℕ → List ℕ → Reply × Spot → Type 0
WasReply at rest x = Took (record { at = at; rest = rest }) (reply_bytes x.0) x.1 × IsWhole x.0

abbrev pub IsMark : ℕ → Type 0
IsMark n = (n < 256) × (0 ≤ n) × (n ≤ 1)

abbrev pub marked_text : ℕ × List TableEntry → List ℕ
marked_text v = one_byte v.0 ++ counted_text u16_bytes table_entry_bytes v.1

marked_law : Field (ℕ × List TableEntry) (both (within 0 1 byte_at) (counted (number_at w16) table_entry_at key_of [])) marked_text (λ v. IsMark v.0 × AreLater v.1)
marked_law =
    both_law ℕ (List TableEntry) (within 0 1 byte_at) (counted (number_at w16) table_entry_at key_of []) one_byte (counted_text u16_bytes table_entry_bytes) IsMark AreLater
    (within_law 0 1 byte_at one_byte (λ n. n < 256) byte_law) later_law

flag_is : (n : ℕ) → n ≤ 1 → flag (n == 1) ≡ n
flag_is zero most = refl
flag_is (suc zero) most = refl
flag_is (suc (suc n)) most = absurd (omega arith)

number_read : Field ℕ (number_at w64) u64_bytes (λ n. n < 2 ^ 64)
number_read = number_law w64 (2 ^ 64) u64_bytes wide64

of_kind_was : (at behind kind : ℕ) (rest : List ℕ) (x : Reply × Spot) → AreBytes rest → reply_of_kind at kind (record { at = behind; rest = rest }) ≡ Ok x → WasReply at (kind ∷ rest) x
unfolding reply_of_kind positions_at entries_reply_at
of_kind_was at behind kind rest x are h =
    chosen Reply (kind == 1) _ _ x (WasReply at (kind ∷ rest) x) h
    (λ is r. kind_was (List LogPosition) Reply Positions (many byte_at position_at) (counted_text one_byte position_bytes) reply_bytes ArePlaces IsWhole places_law 1
    (λ v ok. refl)
    (λ v ok. (record { few = omega (arith, ok.0); each = logs_of_places v (of_chain IsPlace v ok.1) }, numbers_of_places v (of_chain IsPlace v ok.1))) kind (kind_is kind 1 is) at behind rest x are r)
    (λ h. chosen Reply (kind == 2) _ _ x (WasReply at (kind ∷ rest) x) h
    (λ is r. kind_was (List ℕ) Reply Value stored_at string16 reply_bytes (HasLength 0 2048) IsWhole stored_law 2 (λ v ok. refl) (λ v ok. (ok.1, tt)) kind (kind_is kind 2 is) at behind rest x are r)
    (λ h. chosen Reply (kind == 3) _ _ x (WasReply at (kind ∷ rest) x) h
    (λ is r. kind_was ℕ Reply Trimmed (number_at w64) u64_bytes reply_bytes (λ n. n < 2 ^ 64) IsWhole number_read 3 (λ v ok. refl) (λ v ok. (tt, ok)) kind (kind_is kind 3 is) at behind rest x are r)
    (λ h. chosen Reply (kind == 4) _ _ x (WasReply at (kind ∷ rest) x) h
    (λ is r. alone_was Reply Absent reply_bytes IsWhole 4 refl (tt, tt) kind (kind_is kind 4 is) at behind rest x are r)
    (λ h. chosen Reply (kind == 5) _ _ x (WasReply at (kind ∷ rest) x) h
    (λ is r. kind_was ℕ Reply Beyond (number_at w64) u64_bytes reply_bytes (λ n. n < 2 ^ 64) IsWhole number_read 5 (λ v ok. refl) (λ v ok. (tt, ok)) kind (kind_is kind 5 is) at behind rest x are r)
    (λ h. chosen Reply (kind == 6) _ _ x (WasReply at (kind ∷ rest) x) h
    (λ is r. alone_was Reply Exists reply_bytes IsWhole 6 refl (tt, tt) kind (kind_is kind 6 is) at behind rest x are r)
    (λ h. chosen Reply (kind == 7) _ _ x (WasReply at (kind ∷ rest) x) h
    (λ is r. alone_was Reply Done reply_bytes IsWhole 7 refl (tt, tt) kind (kind_is kind 7 is) at behind rest x are r)
    (λ h. chosen Reply (kind == 8) _ _ x (WasReply at (kind ∷ rest) x) h
    (λ is r. kind_was (ℕ × List TableEntry) Reply (λ x. Entries (x.0 == 1) x.1) (both (within 0 1 byte_at) (counted (number_at w16) table_entry_at key_of [])) marked_text reply_bytes
    (λ v. IsMark v.0 × AreLater v.1) IsWhole marked_law 8
    (λ v ok. ap (λ (n : ℕ). 8 ∷ n ∷ (u16_bytes (length v.1) ++ flat_map table_entry_bytes v.1)) (flag_is v.0 ok.0.2))
    (λ v ok. (record { few = omega (arith, ok.1.0); each = each_of_later [] v.1 ok.1.1; rising = rising_of_later [] v.1 ok.1.1 }, tt)) kind (kind_is kind 8 is) at behind rest x are r)
    (λ h. chosen Reply (kind == 9) _ _ x (WasReply at (kind ∷ rest) x) h
    (λ is r. alone_was Reply Limit reply_bytes IsWhole 9 refl (tt, tt) kind (kind_is kind 9 is) at behind rest x are r)
    (λ h. chosen Reply (kind == 10) _ _ x (WasReply at (kind ∷ rest) x) h
    (λ is r. kind_was (List ℕ) Reply Differs stored_at string16 reply_bytes (HasLength 0 2048) IsWhole stored_law 10 (λ v ok. refl) (λ v ok. (ok.1, tt)) kind (kind_is kind 10 is) at behind rest x are r)
    (λ h. absurd (no_kind at x h)))))))))))
  where
    no_kind : (at : ℕ) (x : Reply × Spot) → Err (BadKind at) ≡ Ok x → ⊥
    no_kind at x h = cc

reply_was : (at : ℕ) (rest : List ℕ) (x : Reply × Spot) → AreBytes rest → reply_at (record { at = at; rest = rest }) ≡ Ok x → WasReply at rest x
unfolding reply_at
reply_was at [] x are h = absurd (no_byte at x h)
  where
    no_byte : (at : ℕ) (x : Reply × Spot) → reply_at (record { at = at; rest = [] }) ≡ Ok x → ⊥
    no_byte at x h = cc
reply_was at (kind ∷ rest) x are h = of_kind_was at (at + 1) kind rest x (rest_are kind rest are) h

abbrev pub AgainReply : Reply → ℕ → List ℕ → Type 0
AgainReply reply at tail = Again Reply reply_at reply_bytes reply at tail

again_entries : (mark : ℕ) (entries : List TableEntry) (at : ℕ) (tail : List ℕ) → mark ≤ 1 → AreTableEntries entries →
    (behind : ℕ) × (shown (λ x. Entries (x.0 == 1) x.1) (both (within 0 1 byte_at) (counted (number_at w16) table_entry_at key_of [])) (record { at = at; rest = marked_text (mark, entries) ++ tail })
    ≡ Ok (Entries (mark == 1) entries, record { at = behind; rest = tail }))
again_entries mark entries at tail most are =
    kind_again (ℕ × List TableEntry) Reply (λ x. Entries (x.0 == 1) x.1) (both (within 0 1 byte_at) (counted (number_at w16) table_entry_at key_of [])) marked_text
    (λ v. IsMark v.0 × AreLater v.1) marked_law (mark, entries) at tail ((omega arith, omega arith, most), (omega (arith, are.few), later_of [] entries are.each are.rising))

reply_again : (reply : Reply) (at : ℕ) (tail : List ℕ) → IsWhole reply → AgainReply reply at tail
unfolding reply_at reply_of_kind positions_at entries_reply_at
reply_again (Positions positions) at tail is =
    kind_again (List LogPosition) Reply Positions (many byte_at position_at) (counted_text one_byte position_bytes) ArePlaces places_law positions (at + 1) tail
    (omega (arith, is.0.few), in_chain IsPlace positions (places_of positions is.0.each is.1))
reply_again (Value value) at tail is = kind_again (List ℕ) Reply Value stored_at string16 (HasLength 0 2048) stored_law value (at + 1) tail (omega arith, is.0)
reply_again (Trimmed trim) at tail is = kind_again ℕ Reply Trimmed (number_at w64) u64_bytes (λ n. n < 2 ^ 64) number_read trim (at + 1) tail is.1
reply_again Absent at tail is = (at + 1, refl)
reply_again (Beyond length) at tail is = kind_again ℕ Reply Beyond (number_at w64) u64_bytes (λ n. n < 2 ^ 64) number_read length (at + 1) tail is.1
reply_again Exists at tail is = (at + 1, refl)
reply_again Done at tail is = (at + 1, refl)
reply_again (Entries true entries) at tail is = again_entries 1 entries (at + 1) tail (omega arith) is.0
reply_again (Entries false entries) at tail is = again_entries 0 entries (at + 1) tail (omega arith) is.0
reply_again Limit at tail is = (at + 1, refl)
reply_again (Differs value) at tail is = kind_again (List ℕ) Reply Differs stored_at string16 (HasLength 0 2048) stored_law value (at + 1) tail (omega arith, is.0)

pub reply_law : Field Reply reply_at reply_bytes IsWhole
reply_law = record {
  was = λ spot x are h. reply_was spot.at spot.rest x are h;
  again = reply_again;
}

pub found_by : (bytes : List ℕ) (r : Result Reply CodecFault) → AreBytes bytes → Says (λ (c : Reply). c) (reply_of bytes) r → IfOk r (λ c. (bytes ≡ reply_bytes c) × IsReply c)
found_by bytes (Ok reply) are says =
    let w = whole_was Reply reply_at reply_bytes IsWhole reply_law bytes reply are says in
    (w.0, w.1.0)
found_by bytes (Err e) are says = tt

pub only_so : (bytes : List ℕ) (r : Result Reply CodecFault) → Says (λ (c : Reply). c) (reply_of bytes) r → (reply : Reply) → IsReply reply → HasNumbers reply →
    bytes ≡ reply_bytes reply → Says (λ (c : Reply). c) (Ok reply) r
only_so bytes r says reply is numbers spelled =
    let read : reply_of bytes ≡ Ok reply = ap reply_of spelled ∙ whole_again Reply reply_at reply_bytes IsWhole reply_law reply (is, numbers) in
    subst (λ (o : Result Reply CodecFault). Says (λ (c : Reply). c) o r) read says
