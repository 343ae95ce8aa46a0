-- A command is read as it is spelled, and what is read is spelled so.
use Rattle.std.proofs.Common.{lit<, ◌≡◌, ℕ, ◌+◌, ◌^◌, ◌<◌, ◌≤◌, Bool, true, false, List, [], ◌∷◌, ◌++◌, ◌⊎◌, inl, inr, ◌&&◌, ◌||◌, ◌==◌, nat_le, nat_lt, length, map, Result, Ok, Err, refl, sym, ap, subst, ◌∙◌, arith, IsTrue, IfOk}
use Rattle.std.specs.Int.{w64}
use Rattle.std.specs.List.{flat_map}
use Rattle.std.specs.Ordering.{nat_cmp, is_lt}
use Rattle.std.specs.Cmp.Lexicographic.{slice_cmp}
use Rattle.std.specs.declared.cmp.Ordering.{Ordering}
use Rattle.std.specs.declared.cmp.Ordering.TheVariants as orderings
use Rattle.std.proofs.lemmas.Bool.{eqb-true}
use Rattle.std.proofs.lemmas.List.{nil_from_length}
use Rattle.std.proofs.lemmas.List.Concat.{flat_map-cons}
use Rattle.mrp_types.specs.declared.id.LogId.{LogId}
use Rattle.command_codec.specs.declared.command.Command.{Command}
use Rattle.command_codec.specs.declared.command.Command.TheVariants.{Append, Multi, ReadLog, TrimLog, Get, Scan, Update, Insert, Delete, Swap}
use Rattle.command_codec.specs.declared.fault.CodecFault.{CodecFault}
use Rattle.command_codec.specs.declared.fault.CodecFault.TheVariants.{BadKind}
use Rattle.command_codec.specs.Fields.{u64_bytes, string16}
use Rattle.command_codec.specs.Spelling.{command_bytes}
use Rattle.command_codec.specs.Valid.{IsCommand, IsKey, HasNumbers, rises_from}
use Rattle.mrp_types.specs.Reading.{follow, both}
use Rattle.command_codec.specs.Reader.{Spot, byte_at, number_at, within, string_at, string_that, Says}
use Rattle.command_codec.specs.Grammar.{log_from, after_log, logs_at, key_at, stored_at, ends, append_at, multi_at, read_log_at, trim_log_at, get_at, scan_at, update_at, insert_at, delete_at, swap_at, command_of_kind, command_at, command_of}
use Rattle.command_codec.proofs.ReaderLaws.{AreBytes, Took, Again, Field, HasLength, one_byte, byte_law, number_law, wide64, within_law, string_law, string_that_law, rest_are}
use Rattle.command_codec.proofs.Combined.{follow_law, both_law, shown_law, kind_was, kind_again, chosen, AllInChain, counted_law, counted_text, whole_was, whole_again}

-- ---- logs

abbrev pub log_text : LogId → List ℕ
log_text log = log.0 ∷ []

abbrev pub IsLogFrom : ℕ → LogId → Type 0
IsLogFrom least log = (least ≤ log.0) × (log.0 < 64)

pub log_law : (least : ℕ) → Field LogId (log_from least) log_text (IsLogFrom least)
log_law least =
    shown_law ℕ LogId (λ n. record { 0 = n }) (λ log. log.0) (within least 63 byte_at) one_byte log_text (λ n. (n < 256) × (least ≤ n) × (n ≤ 63)) (IsLogFrom least)
    (within_law least 63 byte_at one_byte (λ n. n < 256) byte_law)
    (λ n. refl) (λ n is. (is.1, omega (arith, is.2))) (λ log. refl) (λ log is. (omega (arith, is.1), is.0, omega (arith, is.1)))

pub log_texts : (logs : List LogId) → flat_map log_text logs ≡ map (λ (log : LogId). log.0) logs
log_texts [] = refl
log_texts (log ∷ logs) = flat_map-cons log_text log logs ∙ ap (λ (r : List ℕ). log.0 ∷ r) (log_texts logs)

both_true : (a b : Bool) → IsTrue a → IsTrue b → IsTrue (a && b)
both_true true true first second = refl
both_true true false first second = second
both_true false b first second = first

true_both : (a b : Bool) → IsTrue (a && b) → IsTrue a × IsTrue b
true_both true b h = (refl, h)
true_both false b h = absurd (grind arith)

at_least : (a b : ℕ) → a ≤ b → IsTrue (nat_le a b)
at_least a b h = grind arith

less_than : (a b : ℕ) → a < b → IsTrue (nat_lt a b)
less_than a b h = grind arith

is_at_least : (a b : ℕ) → IsTrue (nat_le a b) → a ≤ b
is_at_least a b h = grind arith

is_less : (a b : ℕ) → IsTrue (nat_lt a b) → a < b
is_less a b h = grind arith

rising_logs : (least : ℕ) (logs : List LogId) → AllInChain IsLogFrom after_log least logs → IsTrue (rises_from least logs)
rising_logs least [] each = refl
rising_logs least (log ∷ logs) each =
    both_true (nat_le least log.0) (nat_lt log.0 64 && rises_from (log.0 + 1) logs) (at_least least log.0 each.0.0)
    (both_true (nat_lt log.0 64) (rises_from (log.0 + 1) logs) (less_than log.0 64 each.0.1) (rising_logs (log.0 + 1) logs each.1))

logs_rising : (least : ℕ) (logs : List LogId) → IsTrue (rises_from least logs) → AllInChain IsLogFrom after_log least logs
logs_rising least [] h = tt
logs_rising least (log ∷ logs) h =
    let one = true_both (nat_le least log.0) (nat_lt log.0 64 && rises_from (log.0 + 1) logs) h in
    let two = true_both (nat_lt log.0 64) (rises_from (log.0 + 1) logs) one.1 in
    ((is_at_least least log.0 one.0, is_less log.0 64 two.0), logs_rising (log.0 + 1) logs two.1)

abbrev pub AreCounted : List LogId → Type 0
AreCounted logs = ((length logs < 256) × (1 ≤ length logs) × (length logs ≤ 64)) × AllInChain IsLogFrom after_log 0 logs

logs_law : Field (List LogId) logs_at (counted_text one_byte log_text) AreCounted
logs_law =
    counted_law ℕ LogId (within 1 64 byte_at) one_byte (λ n. (n < 256) × (1 ≤ n) × (n ≤ 64)) (within_law 1 64 byte_at one_byte (λ n. n < 256) byte_law)
    log_from after_log log_text IsLogFrom log_law 0

-- ---- keys, values and the ends of a scan

key_law : Field (List ℕ) key_at string16 IsKey
key_law = string_law 1 256 (lit< tt)

pub stored_law : Field (List ℕ) stored_at string16 (HasLength 0 2048)
stored_law = string_law 0 2048 (lit< tt)

end_or_less : (a : Bool) (o : Ordering) → (a || is_lt o) ≡ true → (a ≡ true) ⊎ (o ≡ orderings.Less)
end_or_less true o h = inl refl
end_or_less false orderings.Less h = inr refl
end_or_less false orderings.Equal h = absurd (grind arith)
end_or_less false orderings.Greater h = absurd (grind arith)

in_range : (from to : List ℕ) → IsTrue (ends from to) → (to ≡ []) ⊎ (slice_cmp nat_cmp from to ≡ orderings.Less)
in_range from to h =
    elim (end_or_less (length to == 0) (slice_cmp nat_cmp from to) h) [
      | inl none ↦ inl (nil_from_length to (eqb-true _ _ none))
      | inr less ↦ inr less
    ]

or_true : (a : Bool) → (a || true) ≡ true
or_true true = refl
or_true false = refl

range_in : (from to : List ℕ) → (to ≡ []) ⊎ (slice_cmp nat_cmp from to ≡ orderings.Less) → IsTrue (ends from to)
range_in from to (inl none) = rw none refl
range_in from to (inr less) = rw less (or_true (length to == 0))

-- ---- fields of each kind

abbrev pub log_value_text : LogId × List ℕ → List ℕ
log_value_text v = log_text v.0 ++ string16 v.1

append_fields : Field (LogId × List ℕ) (both (log_from 0) stored_at) log_value_text (λ v. IsLogFrom 0 v.0 × HasLength 0 2048 v.1)
append_fields = both_law LogId (List ℕ) (log_from 0) stored_at log_text string16 (IsLogFrom 0) (HasLength 0 2048) (log_law 0) stored_law

abbrev pub logs_value_text : List LogId × List ℕ → List ℕ
logs_value_text v = counted_text one_byte log_text v.0 ++ string16 v.1

multi_fields : Field (List LogId × List ℕ) (both logs_at stored_at) logs_value_text (λ v. AreCounted v.0 × HasLength 0 2048 v.1)
multi_fields = both_law (List LogId) (List ℕ) logs_at stored_at (counted_text one_byte log_text) string16 AreCounted (HasLength 0 2048) logs_law stored_law

multi_text : (v : List LogId × List ℕ) → command_bytes (Multi v.0 v.1) ≡ 2 ∷ logs_value_text v
multi_text v = ap (λ (r : List ℕ). 2 ∷ length v.0 ∷ (r ++ string16 v.1)) (sym (log_texts v.0))

abbrev pub log_position_text : LogId × ℕ → List ℕ
log_position_text v = log_text v.0 ++ u64_bytes v.1

pub position_fields : Field (LogId × ℕ) (both (log_from 0) (number_at w64)) log_position_text (λ v. IsLogFrom 0 v.0 × (v.1 < 2 ^ 64))
position_fields = both_law LogId ℕ (log_from 0) (number_at w64) log_text u64_bytes (IsLogFrom 0) (λ n. n < 2 ^ 64) (log_law 0) (number_law w64 (2 ^ 64) u64_bytes wide64)

abbrev pub two_text : List ℕ × List ℕ → List ℕ
two_text v = string16 v.0 ++ string16 v.1

stored_fields : Field (List ℕ × List ℕ) (both key_at stored_at) two_text (λ v. IsKey v.0 × HasLength 0 2048 v.1)
stored_fields = both_law (List ℕ) (List ℕ) key_at stored_at string16 string16 IsKey (HasLength 0 2048) key_law stored_law

abbrev pub swap_text : List ℕ × (List ℕ × List ℕ) → List ℕ
swap_text v = string16 v.0 ++ two_text v.1

abbrev pub IsSwapped : List ℕ × (List ℕ × List ℕ) → Type 0
IsSwapped v = IsKey v.0 × (HasLength 0 2048 v.1.0 × HasLength 0 2048 v.1.1)

swap_fields : Field (List ℕ × (List ℕ × List ℕ)) (both key_at (both stored_at stored_at)) swap_text IsSwapped
swap_fields =
    both_law (List ℕ) (List ℕ × List ℕ) key_at (both stored_at stored_at) string16 two_text IsKey (λ v. HasLength 0 2048 v.0 × HasLength 0 2048 v.1) key_law
    (both_law (List ℕ) (List ℕ) stored_at stored_at string16 string16 (HasLength 0 2048) (HasLength 0 2048) stored_law stored_law)

scan_fields : Field (List ℕ × List ℕ) (follow (string_at 0 256) (λ from. string_that 0 256 (ends from))) two_text (λ v. HasLength 0 256 v.0 × (HasLength 0 256 v.1 × IsTrue (ends v.0 v.1)))
scan_fields =
    follow_law (List ℕ) (List ℕ) (string_at 0 256) (λ from. string_that 0 256 (ends from)) string16 string16 (HasLength 0 256) (λ from to. HasLength 0 256 to × IsTrue (ends from to))
    (string_law 0 256 (lit< tt)) (λ from. string_that_law 0 256 (ends from) (lit< tt))

-- ---- commands

abbrev pub IsWhole : Command → Type 0
IsWhole command = IsCommand command × HasNumbers command

abbrev pub WasRead : ℕ → List ℕ → Command × Spot → Type 0
WasRead at rest x = Took (record { at = at; rest = rest }) (command_bytes x.0) x.1 × IsWhole x.0

pub kind_is : (a b : ℕ) → (a == b) ≡ true → a ≡ b
kind_is a b h = eqb-true a b h

of_kind_was : (at behind kind : ℕ) (rest : List ℕ) (x : Command × Spot) → AreBytes rest → command_of_kind at kind (record { at = behind; rest = rest }) ≡ Ok x → WasRead at (kind ∷ rest) x
unfolding command_of_kind append_at multi_at read_log_at trim_log_at get_at scan_at update_at insert_at delete_at swap_at
of_kind_was at behind kind rest x are h =
    chosen Command (kind == 1) _ _ x (WasRead at (kind ∷ rest) x) h
    (λ is r. kind_was (LogId × List ℕ) Command (λ v. Append v.0 v.1) (both (log_from 0) stored_at) log_value_text command_bytes (λ v. IsLogFrom 0 v.0 × HasLength 0 2048 v.1) IsWhole append_fields 1
    (λ v ok. refl) (λ v ok. ((ok.0.1, ok.1.1), tt)) kind (kind_is kind 1 is) at behind rest x are r)
    (λ h. chosen Command (kind == 2) _ _ x (WasRead at (kind ∷ rest) x) h
    (λ is r. kind_was (List LogId × List ℕ) Command (λ v. Multi v.0 v.1) (both logs_at stored_at) logs_value_text command_bytes (λ v. AreCounted v.0 × HasLength 0 2048 v.1) IsWhole multi_fields 2
    (λ v ok. multi_text v) (λ v ok. (((ok.0.0.1, ok.0.0.2, rising_logs 0 v.0 ok.0.1), ok.1.1), tt)) kind (kind_is kind 2 is) at behind rest x are r)
    (λ h. chosen Command (kind == 3) _ _ x (WasRead at (kind ∷ rest) x) h
    (λ is r. kind_was (LogId × ℕ) Command (λ v. ReadLog v.0 v.1) (both (log_from 0) (number_at w64)) log_position_text command_bytes (λ v. IsLogFrom 0 v.0 × (v.1 < 2 ^ 64)) IsWhole position_fields 3
    (λ v ok. refl) (λ v ok. (ok.0.1, ok.1)) kind (kind_is kind 3 is) at behind rest x are r)
    (λ h. chosen Command (kind == 4) _ _ x (WasRead at (kind ∷ rest) x) h
    (λ is r. kind_was (LogId × ℕ) Command (λ v. TrimLog v.0 v.1) (both (log_from 0) (number_at w64)) log_position_text command_bytes (λ v. IsLogFrom 0 v.0 × (v.1 < 2 ^ 64)) IsWhole position_fields 4
    (λ v ok. refl) (λ v ok. (ok.0.1, ok.1)) kind (kind_is kind 4 is) at behind rest x are r)
    (λ h. chosen Command (kind == 5) _ _ x (WasRead at (kind ∷ rest) x) h
    (λ is r. kind_was (List ℕ) Command Get key_at string16 command_bytes IsKey IsWhole key_law 5
    (λ v ok. refl) (λ v ok. (ok, tt)) kind (kind_is kind 5 is) at behind rest x are r)
    (λ h. chosen Command (kind == 6) _ _ x (WasRead at (kind ∷ rest) x) h
    (λ is r. kind_was (List ℕ × List ℕ) Command (λ v. Scan v.0 v.1) (follow (string_at 0 256) (λ from. string_that 0 256 (ends from))) two_text command_bytes
    (λ v. HasLength 0 256 v.0 × (HasLength 0 256 v.1 × IsTrue (ends v.0 v.1))) IsWhole scan_fields 6
    (λ v ok. refl) (λ v ok. ((ok.0.1, ok.1.0.1, in_range v.0 v.1 ok.1.1), tt)) kind (kind_is kind 6 is) at behind rest x are r)
    (λ h. chosen Command (kind == 7) _ _ x (WasRead at (kind ∷ rest) x) h
    (λ is r. kind_was (List ℕ × List ℕ) Command (λ v. Update v.0 v.1) (both key_at stored_at) two_text command_bytes (λ v. IsKey v.0 × HasLength 0 2048 v.1) IsWhole stored_fields 7
    (λ v ok. refl) (λ v ok. ((ok.0, ok.1.1), tt)) kind (kind_is kind 7 is) at behind rest x are r)
    (λ h. chosen Command (kind == 8) _ _ x (WasRead at (kind ∷ rest) x) h
    (λ is r. kind_was (List ℕ × List ℕ) Command (λ v. Insert v.0 v.1) (both key_at stored_at) two_text command_bytes (λ v. IsKey v.0 × HasLength 0 2048 v.1) IsWhole stored_fields 8
    (λ v ok. refl) (λ v ok. ((ok.0, ok.1.1), tt)) kind (kind_is kind 8 is) at behind rest x are r)
    (λ h. chosen Command (kind == 9) _ _ x (WasRead at (kind ∷ rest) x) h
    (λ is r. kind_was (List ℕ) Command Delete key_at string16 command_bytes IsKey IsWhole key_law 9
    (λ v ok. refl) (λ v ok. (ok, tt)) kind (kind_is kind 9 is) at behind rest x are r)
    (λ h. chosen Command (kind == 10) _ _ x (WasRead at (kind ∷ rest) x) h
    (λ is r. kind_was (List ℕ × (List ℕ × List ℕ)) Command (λ v. Swap v.0 v.1.0 v.1.1) (both key_at (both stored_at stored_at)) swap_text command_bytes IsSwapped IsWhole swap_fields 10
    (λ v ok. refl) (λ v ok. ((ok.0, ok.1.0.1, ok.1.1.1), tt)) kind (kind_is kind 10 is) at behind rest x are r)
    (λ h. absurd (no_kind at x h)))))))))))
  where
    no_kind : (at : ℕ) (x : Command × Spot) → Err (BadKind at) ≡ Ok x → ⊥
    no_kind at x h = cc

command_was : (at : ℕ) (rest : List ℕ) (x : Command × Spot) → AreBytes rest → command_at (record { at = at; rest = rest }) ≡ Ok x → WasRead at rest x
unfolding command_at
command_was at [] x are h = absurd (no_byte at x h)
  where
    no_byte : (at : ℕ) (x : Command × Spot) → command_at (record { at = at; rest = [] }) ≡ Ok x → ⊥
    no_byte at x h = cc
command_was at (kind ∷ rest) x are h = of_kind_was at (at + 1) kind rest x (rest_are kind rest are) h

command_again : (command : Command) (at : ℕ) (tail : List ℕ) → IsWhole command → Again Command command_at command_bytes command at tail
unfolding command_at command_of_kind append_at multi_at read_log_at trim_log_at get_at scan_at update_at insert_at delete_at swap_at
command_again (Append log value) at tail is =
    kind_again (LogId × List ℕ) Command (λ v. Append v.0 v.1) (both (log_from 0) stored_at) log_value_text (λ v. IsLogFrom 0 v.0 × HasLength 0 2048 v.1) append_fields (log, value) (at + 1) tail
    ((omega arith, is.0.0), (omega arith, is.0.1))
command_again (Multi logs value) at tail is =
    let r = kind_again (List LogId × List ℕ) Command (λ v. Multi v.0 v.1) (both logs_at stored_at) logs_value_text (λ v. AreCounted v.0 × HasLength 0 2048 v.1) multi_fields (logs, value) (at + 1) tail
    (((omega (arith, is.0.0.1), is.0.0.0, is.0.0.1), logs_rising 0 logs is.0.0.2), (omega arith, is.0.1)) in
    (r.0, ap (λ (t : List ℕ). multi_at (record { at = at + 1; rest = (length logs ∷ (t ++ string16 value)) ++ tail })) (sym (log_texts logs)) ∙ r.1)
command_again (ReadLog log position) at tail is =
    kind_again (LogId × ℕ) Command (λ v. ReadLog v.0 v.1) (both (log_from 0) (number_at w64)) log_position_text (λ v. IsLogFrom 0 v.0 × (v.1 < 2 ^ 64)) position_fields (log, position) (at + 1) tail
    ((omega arith, is.0), is.1)
command_again (TrimLog log position) at tail is =
    kind_again (LogId × ℕ) Command (λ v. TrimLog v.0 v.1) (both (log_from 0) (number_at w64)) log_position_text (λ v. IsLogFrom 0 v.0 × (v.1 < 2 ^ 64)) position_fields (log, position) (at + 1) tail
    ((omega arith, is.0), is.1)
command_again (Get key) at tail is = kind_again (List ℕ) Command Get key_at string16 IsKey key_law key (at + 1) tail is.0
command_again (Scan from to) at tail is =
    kind_again (List ℕ × List ℕ) Command (λ v. Scan v.0 v.1) (follow (string_at 0 256) (λ from. string_that 0 256 (ends from))) two_text
    (λ v. HasLength 0 256 v.0 × (HasLength 0 256 v.1 × IsTrue (ends v.0 v.1))) scan_fields (from, to) (at + 1) tail
    ((omega arith, is.0.0), ((omega arith, is.0.1), range_in from to is.0.2))
command_again (Update key value) at tail is =
    kind_again (List ℕ × List ℕ) Command (λ v. Update v.0 v.1) (both key_at stored_at) two_text (λ v. IsKey v.0 × HasLength 0 2048 v.1) stored_fields (key, value) (at + 1) tail
    (is.0.0, (omega arith, is.0.1))
command_again (Insert key value) at tail is =
    kind_again (List ℕ × List ℕ) Command (λ v. Insert v.0 v.1) (both key_at stored_at) two_text (λ v. IsKey v.0 × HasLength 0 2048 v.1) stored_fields (key, value) (at + 1) tail
    (is.0.0, (omega arith, is.0.1))
command_again (Delete key) at tail is = kind_again (List ℕ) Command Delete key_at string16 IsKey key_law key (at + 1) tail is.0
command_again (Swap key old new) at tail is =
    kind_again (List ℕ × (List ℕ × List ℕ)) Command (λ v. Swap v.0 v.1.0 v.1.1) (both key_at (both stored_at stored_at)) swap_text IsSwapped swap_fields (key, (old, new)) (at + 1) tail
    (is.0.0, ((omega arith, is.0.1), (omega arith, is.0.2)))

pub command_law : Field Command command_at command_bytes IsWhole
command_law = record {
  was = λ spot x are h. command_was spot.at spot.rest x are h;
  again = command_again;
}

pub found_by : (bytes : List ℕ) (r : Result Command CodecFault) → AreBytes bytes → Says (λ (c : Command). c) (command_of bytes) r → IfOk r (λ c. (bytes ≡ command_bytes c) × IsCommand c)
found_by bytes (Ok command) are says =
    let w = whole_was Command command_at command_bytes IsWhole command_law bytes command are says in
    (w.0, w.1.0)
found_by bytes (Err e) are says = tt

pub only_so : (bytes : List ℕ) (r : Result Command CodecFault) → Says (λ (c : Command). c) (command_of bytes) r → (command : Command) → IsCommand command → HasNumbers command →
    bytes ≡ command_bytes command → Says (λ (c : Command). c) (Ok command) r
only_so bytes r says command is numbers spelled =
    let read : command_of bytes ≡ Ok command = ap command_of spelled ∙ whole_again Command command_at command_bytes IsWhole command_law command (is, numbers) in
    subst (λ (o : Result Command CodecFault). Says (λ (c : Command). c) o r) read says
