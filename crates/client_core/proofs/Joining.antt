-- Replies that are kept can be one reply.
use Rattle.std.proofs.Common.{arith, lit≤, ◌≡◌, ℕ, suc, ◌+◌, ◌*◌, ◌≤◌, ◌==◌, ◌&&◌, ◌||◌, not, Ordering, Less, Equal, Greater, Bool, true, false, if◌then◌else◌, true≢false, ◌⊎◌, inl, inr, List, [], ◌∷◌, ◌++◌, length, map, refl, sym, ◌∙◌, ap, subst, length-append, append-nil}
use Rattle.std.specs.List.{AllByRecursion, flat_map}
use Rattle.std.specs.Ordering.{nat_cmp, is_lt, ordering_reverse}
use Rattle.std.specs.Cmp.Lexicographic.{slice_cmp}
use Rattle.std.proofs.lemmas.Cmp.{nat_list_cmp_total}
use Rattle.command_codec.specs.Grammar.{comes_after}
use Rattle.mrp_config.specs.Routing.{is_before, is_below, is_within}
use Rattle.mrp_types.specs.declared.id.LogId.{LogId}
use Rattle.mrp_types.specs.declared.id.PartitionId.{PartitionId}
use Rattle.command_codec.specs.declared.command.Command.{Command}
use Rattle.command_codec.specs.declared.command.Command.TheVariants.{Append, Multi, ReadLog, TrimLog, Get, Scan, Update, Insert, Delete, Swap}
use Rattle.command_codec.specs.declared.reply.LogPosition.{LogPosition}
use Rattle.command_codec.specs.declared.reply.TableEntry.{TableEntry}
use Rattle.command_codec.specs.declared.reply.Reply.{Reply}
use Rattle.command_codec.specs.declared.reply.Reply.TheVariants.{Positions, Value, Trimmed, Absent, Beyond, Exists, Done, Entries, Limit, Differs}
use Rattle.command_codec.specs.Valid.{IsCommand}
use Rattle.command_codec.specs.Fields.{u16_bytes, string16}
use Rattle.command_codec.specs.Replies.{IsReply, IsTableEntry, NoEntries, NoPositions, AreParts, positions_of, entries_of, reply_bytes, table_entry_bytes, keys_rise}
use Rattle.mrp_config.specs.declared.tables.PartitionTable.{PartitionTable}
use Rattle.mrp_config.specs.Config.{Config, has_log}
use Rattle.mrp_types.specs.Seats.{is_among}
use Rattle.mrp_config.specs.Valid.{AreApart, AreAllApart, logs_of, numbers_of_logs, AreEndToEnd, IsValid}
use Rattle.protocol.specs.Client.{fits, fit_positions, fit_entries, are_positions_of, own_of, are_keys_of}
use Rattle.client_core.specs.Counted.{IsPart, ArePartsOf}

abbrev replies_in : List (PartitionId × Reply) → List Reply
replies_in parts = map (λ (part : PartitionId × Reply). part.1) parts

-- what holds of each counted reply holds of all that are kept
pub all_parts : (P : Reply → Type 0) (command : Command) → ((p : PartitionTable) (reply : Reply) → IsPart command p reply → P reply) →
    (ps : List PartitionTable) (parts : List (PartitionId × Reply)) → ArePartsOf command ps parts → AllByRecursion P (replies_in parts)
all_parts P command each [] [] are = tt
all_parts P command each [] (part ∷ parts) are = absurd are
all_parts P command each (p ∷ ps) [] are = tt
all_parts P command each (p ∷ ps) (part ∷ parts) (inl here) = (each p part.1 here.1, all_parts P command each ps parts here.2)
all_parts P command each (p ∷ ps) (part ∷ parts) (inr later) = all_parts P command each ps (part ∷ parts) later

-- ---- positions or entries, not both

abbrev is_scan : Command → Bool
is_scan (Scan from to) = true
is_scan other = false

no_positions : (p : PartitionTable) (from to : List ℕ) (reply : Reply) → fits p (Scan from to) reply ≡ true → NoPositions reply
no_positions p from to (Positions positions) fit = absurd (true≢false (sym fit))
no_positions p from to (Value value) fit = tt
no_positions p from to (Trimmed trim) fit = tt
no_positions p from to Absent fit = tt
no_positions p from to (Beyond size) fit = tt
no_positions p from to Exists fit = tt
no_positions p from to Done fit = tt
no_positions p from to (Entries more entries) fit = tt
no_positions p from to Limit fit = tt
no_positions p from to (Differs value) fit = tt

unfit_entries : (p : PartitionTable) (command : Command) (entries : List TableEntry) → is_scan command ≡ false → fit_entries p command entries ≡ false
unfit_entries p (Append log value) entries plain = refl
unfit_entries p (Multi logs value) entries plain = refl
unfit_entries p (ReadLog log position) entries plain = refl
unfit_entries p (TrimLog log position) entries plain = refl
unfit_entries p (Get key) entries plain = refl
unfit_entries p (Scan from to) entries plain = absurd (true≢false plain)
unfit_entries p (Update key value) entries plain = refl
unfit_entries p (Insert key value) entries plain = refl
unfit_entries p (Delete key) entries plain = refl
unfit_entries p (Swap key old new) entries plain = refl

no_entries : (p : PartitionTable) (command : Command) (reply : Reply) → is_scan command ≡ false → fits p command reply ≡ true → NoEntries reply
no_entries p command (Positions positions) plain fit = tt
no_entries p command (Value value) plain fit = tt
no_entries p command (Trimmed trim) plain fit = tt
no_entries p command Absent plain fit = tt
no_entries p command (Beyond size) plain fit = tt
no_entries p command Exists plain fit = tt
no_entries p command Done plain fit = tt
no_entries p command (Entries more entries) plain fit = absurd (true≢false (sym fit ∙ unfit_entries p command entries plain))
no_entries p command Limit plain fit = tt
no_entries p command (Differs value) plain fit = tt

-- ---- few positions: each log of the command is in one partition at most

abbrev own_total : List PartitionTable → List LogId → ℕ
own_total [] logs = 0
own_total (p ∷ ps) logs = length (own_of p logs) + own_total ps logs

abbrev count_if : Bool → ℕ
count_if t = if t then 1 else 0

abbrev holders_of : List PartitionTable → LogId → ℕ
holders_of [] log = 0
holders_of (p ∷ ps) log = count_if (has_log p.logs log.0) + holders_of ps log

own_more : (p : PartitionTable) (log : LogId) (logs : List LogId) → length (own_of p (log ∷ logs)) ≡ count_if (has_log p.logs log.0) + length (own_of p logs)
own_more p log logs = by_test (has_log p.logs log.0)
  where
    by_test : (t : Bool) → length (if t then log ∷ own_of p logs else own_of p logs) ≡ count_if t + length (own_of p logs)
    by_test true = grind arith
    by_test false = grind arith

total_more : (ps : List PartitionTable) (log : LogId) (logs : List LogId) → own_total ps (log ∷ logs) ≡ holders_of ps log + own_total ps logs
total_more [] log logs = refl
total_more (p ∷ ps) log logs =
    let here = own_more p log logs in
    let later = total_more ps log logs in
    omega (arith, here, later)

total_none : (ps : List PartitionTable) → own_total ps [] ≡ 0
total_none [] = refl
total_none (p ∷ ps) = omega (arith, total_none ps)

apart_has : (xs : List ℕ) (n : ℕ) (logs : List LogId) → is_among n xs ≡ true → AreApart xs (numbers_of_logs logs) → has_log logs n ≡ false
apart_has xs n [] among apart = refl
apart_has xs n (log ∷ logs) among apart = by_test (log.0 == n) refl (apart_has xs n logs among apart.1)
  where
    by_test : (t : Bool) → (log.0 == n) ≡ t → has_log logs n ≡ false → (if t then true else has_log logs n) ≡ false
    by_test true is later = let same : log.0 ≡ n = grind arith in absurd (true≢false (sym among ∙ subst (λ k. is_among k xs ≡ false) same apart.0))
    by_test false is later = later

none_hold : (xs : List ℕ) (log : LogId) (ps : List PartitionTable) → is_among log.0 xs ≡ true → AllByRecursion (AreApart xs) (logs_of ps) → holders_of ps log ≡ 0
none_hold xs log [] among apart = refl
none_hold xs log (p ∷ ps) among apart =
    let later = none_hold xs log ps among apart.1 in
    rw (apart_has xs log.0 p.logs among apart.0) (omega (arith, later))

has_log_among : (logs : List LogId) (n : ℕ) → has_log logs n ≡ is_among n (numbers_of_logs logs)
has_log_among [] n = refl
has_log_among (log ∷ logs) n = ap (λ t. if log.0 == n then true else t) (has_log_among logs n)

hold_once : (ps : List PartitionTable) (log : LogId) → AreAllApart (logs_of ps) → holders_of ps log ≤ 1
hold_once [] log apart = omega arith
hold_once (p ∷ ps) log apart = by_test (has_log p.logs log.0) refl (hold_once ps log apart.1)
  where
    by_test : (t : Bool) → has_log p.logs log.0 ≡ t → holders_of ps log ≤ 1 → count_if t + holders_of ps log ≤ 1
    by_test true is later =
        let none = none_hold (numbers_of_logs p.logs) log ps (sym (has_log_among p.logs log.0) ∙ is) apart.0 in
        omega (arith, none)
    by_test false is later = omega (arith, later)

total_at_most : (ps : List PartitionTable) (logs : List LogId) → AreAllApart (logs_of ps) → own_total ps logs ≤ length logs
total_at_most ps [] apart = omega (arith, total_none ps)
total_at_most ps (log ∷ logs) apart =
    let more = total_more ps log logs in
    let once = hold_once ps log apart in
    let later = total_at_most ps logs apart in
    omega (arith, more, once, later)

-- the logs that a command gives a value
abbrev logs_named : Command → List LogId
logs_named (Append log value) = log ∷ []
logs_named (Multi logs value) = logs
logs_named other = []

positions_long : (logs : List LogId) (positions : List LogPosition) → are_positions_of logs positions ≡ true → length positions ≤ length logs
positions_long [] [] fit = omega arith
positions_long [] (position ∷ positions) fit = absurd (true≢false (sym fit))
positions_long (log ∷ logs) [] fit = omega arith
positions_long (log ∷ logs) (position ∷ positions) fit =
    let later = positions_long logs positions (second (log.0 == position.log.0) (are_positions_of logs positions) fit) in
    omega (arith, later)
  where
    second : (t u : Bool) → (t && u) ≡ true → u ≡ true
    second true u h = h
    second false u h = absurd (true≢false (sym h))

fit_long : (p : PartitionTable) (command : Command) (positions : List LogPosition) → fit_positions p command positions ≡ true → length positions ≤ length (own_of p (logs_named command))
fit_long p (Append log value) positions fit = positions_long (own_of p (log ∷ [])) positions fit
fit_long p (Multi logs value) positions fit = positions_long (own_of p logs) positions fit
fit_long p (ReadLog log position) positions fit = absurd (true≢false (sym fit))
fit_long p (TrimLog log position) positions fit = absurd (true≢false (sym fit))
fit_long p (Get key) positions fit = absurd (true≢false (sym fit))
fit_long p (Scan from to) positions fit = absurd (true≢false (sym fit))
fit_long p (Update key value) positions fit = absurd (true≢false (sym fit))
fit_long p (Insert key value) positions fit = absurd (true≢false (sym fit))
fit_long p (Delete key) positions fit = absurd (true≢false (sym fit))
fit_long p (Swap key old new) positions fit = absurd (true≢false (sym fit))

part_long : (p : PartitionTable) (command : Command) (reply : Reply) → fits p command reply ≡ true → length (positions_of reply) ≤ length (own_of p (logs_named command))
part_long p command (Positions positions) fit = fit_long p command positions fit
part_long p command (Value value) fit = omega arith
part_long p command (Trimmed trim) fit = omega arith
part_long p command Absent fit = omega arith
part_long p command (Beyond size) fit = omega arith
part_long p command Exists fit = omega arith
part_long p command Done fit = omega arith
part_long p command (Entries more entries) fit = omega arith
part_long p command Limit fit = omega arith
part_long p command (Differs value) fit = omega arith

positions_at_most : (command : Command) (ps : List PartitionTable) (parts : List (PartitionId × Reply)) → ArePartsOf command ps parts →
    length (flat_map positions_of (replies_in parts)) ≤ own_total ps (logs_named command)
positions_at_most command [] [] are = omega arith
positions_at_most command [] (part ∷ parts) are = absurd are
positions_at_most command (p ∷ ps) [] are = omega arith
positions_at_most command (p ∷ ps) (part ∷ parts) (inl here) =
    let first = part_long p command part.1 here.1.fit in
    let later = positions_at_most command ps parts here.2 in
    let both = length-append (positions_of part.1) (flat_map positions_of (replies_in parts)) in
    omega (arith, first, later, both)
positions_at_most command (p ∷ ps) (part ∷ parts) (inr later) = omega (arith, positions_at_most command ps (part ∷ parts) later)

few_named : (command : Command) → IsCommand command → length (logs_named command) ≤ 64
few_named (Append log value) is = lit≤ tt
few_named (Multi logs value) is = is.0.1
few_named (ReadLog log position) is = lit≤ tt
few_named (TrimLog log position) is = lit≤ tt
few_named (Get key) is = lit≤ tt
few_named (Scan from to) is = lit≤ tt
few_named (Update key value) is = lit≤ tt
few_named (Insert key value) is = lit≤ tt
few_named (Delete key) is = lit≤ tt
few_named (Swap key old new) is = lit≤ tt

-- ---- few entries: each takes five bytes at least

u16_long : (n : ℕ) → length (u16_bytes n) ≡ 2
unfolding u16_bytes
u16_long n = refl

entry_size : (entry : TableEntry) → 1 ≤ length entry.key → 5 ≤ length (table_entry_bytes entry)
entry_size entry some =
    let both = length-append (string16 entry.key) (string16 entry.value) in
    let key = length-append (u16_bytes (length entry.key)) entry.key in
    let value = length-append (u16_bytes (length entry.value)) entry.value in
    let two = u16_long (length entry.key) in
    let two_more = u16_long (length entry.value) in
    omega (arith, both, key, value, two, two_more, some)

entries_long : (entries : List TableEntry) → AllByRecursion IsTableEntry entries → 5 * length entries ≤ length (flat_map table_entry_bytes entries)
entries_long [] each = omega arith
entries_long (entry ∷ entries) each =
    let first = entry_size entry each.0.0.0 in
    let later = entries_long entries each.1 in
    let both = length-append (table_entry_bytes entry) (flat_map table_entry_bytes entries) in
    omega (arith, first, later, both)

part_entries : (reply : Reply) → IsReply reply → length (reply_bytes reply) ≤ 16384 → length (entries_of reply) ≤ 3276
part_entries (Positions positions) is short = omega arith
part_entries (Value value) is short = omega arith
part_entries (Trimmed trim) is short = omega arith
part_entries Absent is short = omega arith
part_entries (Beyond size) is short = omega arith
part_entries Exists is short = omega arith
part_entries Done is short = omega arith
part_entries (Entries more entries) is short =
    let long = entries_long entries is.each in
    let both = length-append (u16_bytes (length entries)) (flat_map table_entry_bytes entries) in
    omega (arith, long, both, short)
part_entries Limit is short = omega arith
part_entries (Differs value) is short = omega arith

entries_at_most : (command : Command) (ps : List PartitionTable) (parts : List (PartitionId × Reply)) → ArePartsOf command ps parts →
    length (flat_map entries_of (replies_in parts)) ≤ 3276 * length ps
entries_at_most command [] [] are = omega arith
entries_at_most command [] (part ∷ parts) are = absurd are
entries_at_most command (p ∷ ps) [] are = omega arith
entries_at_most command (p ∷ ps) (part ∷ parts) (inl here) =
    let first = part_entries part.1 here.1.valid here.1.short in
    let later = entries_at_most command ps parts here.2 in
    let both = length-append (entries_of part.1) (flat_map entries_of (replies_in parts)) in
    omega (arith, first, later, both)
entries_at_most command (p ∷ ps) (part ∷ parts) (inr later) = omega (arith, entries_at_most command ps (part ∷ parts) later)

-- ---- rising keys

pub first_true : (t u : Bool) → (t && u) ≡ true → t ≡ true
first_true true u h = refl
first_true false u h = h

pub second_true : (t u : Bool) → (t && u) ≡ true → u ≡ true
second_true true u h = h
second_true false u h = absurd (true≢false (sym h))

both_true : (t u : Bool) → t ≡ true → u ≡ true → (t && u) ≡ true
both_true true u h k = k
both_true false u h k = h

pub not_true : (t : Bool) → not t ≡ true → t ≡ false
not_true true h = sym h
not_true false h = refl

is_less : (o : Ordering) → is_lt o ≡ true → o ≡ Less
is_less Less h = refl
is_less Equal h = absurd cc
is_less Greater h = absurd cc

before_trans : (a b c : List ℕ) → is_before a b ≡ true → is_before b c ≡ true → is_before a c ≡ true
before_trans a b c h k = ap is_lt (nat_list_cmp_total.trans a b c (is_less (slice_cmp nat_cmp a b) h) (is_less (slice_cmp nat_cmp b c) k))

-- a key before a limit is before each key that isn't
before_past : (a limit b : List ℕ) → is_before a limit ≡ true → is_before b limit ≡ false → is_before a b ≡ true
before_past a limit b low past = by_order (slice_cmp nat_cmp limit b) refl
  where
    by_order : (o : Ordering) → slice_cmp nat_cmp limit b ≡ o → is_before a b ≡ true
    by_order Less is = before_trans a limit b low (ap is_lt is)
    by_order Equal is =
        let same : slice_cmp nat_cmp a b ≡ slice_cmp nat_cmp a limit =
        nat_list_cmp_total.antisymm a b ∙ ap ordering_reverse (sym (nat_list_cmp_total.congr limit b a is)) ∙ sym (nat_list_cmp_total.antisymm a limit) in
        ap is_lt same ∙ low
    by_order Greater is =
        let back : slice_cmp nat_cmp b limit ≡ Less = nat_list_cmp_total.antisymm b limit ∙ ap ordering_reverse is in
        absurd (true≢false (sym (ap is_lt back) ∙ past))

-- a key that isn't before a limit isn't before a lesser one
past_less : (from to key : List ℕ) → is_before from to ≡ true → is_before key to ≡ false → is_before key from ≡ false
past_less from to key less past = by_test (is_before key from) refl
  where
    by_test : (t : Bool) → is_before key from ≡ t → t ≡ false
    by_test true is = absurd (true≢false (sym (before_trans key from to is less) ∙ past))
    by_test false is = refl

-- before the first of these
abbrev IsBeforeFirst : List ℕ → List TableEntry → Type 0
IsBeforeFirst key [] = Unit {0}
IsBeforeFirst key (entry ∷ entries) = comes_after key entry.key ≡ true

abbrev AreLow : List ℕ → List TableEntry → Type 0
AreLow limit entries = AllByRecursion (λ (entry : TableEntry). is_before entry.key limit ≡ true) entries

abbrev AreHigh : List ℕ → List TableEntry → Type 0
AreHigh limit entries = AllByRecursion (λ (entry : TableEntry). is_before entry.key limit ≡ false) entries

first_of : (entries : List TableEntry) → keys_rise [] entries ≡ true → IsBeforeFirst [] entries
first_of [] rise = tt
first_of (entry ∷ entries) rise = first_true (comes_after [] entry.key) (keys_rise entry.key entries) rise

low_first : (limit : List ℕ) (key : List ℕ) (rest : List TableEntry) → is_before key limit ≡ true → AreHigh limit rest → IsBeforeFirst key rest
low_first limit key [] low high = tt
low_first limit key (entry ∷ rest) low high = before_past key limit entry.key low high.0

has_end : (from to : List ℕ) → is_before from to ≡ true → (length to == 0) ≡ false
has_end from [] less = absurd (true≢false (sym less ∙ none_before from))
  where
    none_before : (a : List ℕ) → is_before a [] ≡ false
    none_before [] = refl
    none_before (x ∷ xs) = refl
has_end from (x ∷ xs) less = grind arith

from_first : (key : List ℕ) (rest : List TableEntry) → keys_rise [] rest ≡ true → IsBeforeFirst key rest → keys_rise key rest ≡ true
from_first key [] rise first = refl
from_first key (entry ∷ rest) rise first = both_true (comes_after key entry.key) (keys_rise entry.key rest) first (second_true (comes_after [] entry.key) (keys_rise entry.key rest) rise)

rise_on : (limit before : List ℕ) (entries rest : List TableEntry) → keys_rise before entries ≡ true → keys_rise [] rest ≡ true → IsBeforeFirst before rest → AreLow limit entries → AreHigh limit rest →
    keys_rise before (entries ++ rest) ≡ true
rise_on limit before [] rest rise later first low high = from_first before rest later first
rise_on limit before (entry ∷ entries) rest rise later first low high =
    both_true (comes_after before entry.key) (keys_rise entry.key (entries ++ rest)) (first_true (comes_after before entry.key) (keys_rise entry.key entries) rise)
    (rise_on limit entry.key entries rest (second_true (comes_after before entry.key) (keys_rise entry.key entries) rise) later (low_first limit entry.key rest low.0 high) low.1 high)

high_append : (limit : List ℕ) (xs ys : List TableEntry) → AreHigh limit xs → AreHigh limit ys → AreHigh limit (xs ++ ys)
high_append limit [] ys h k = k
high_append limit (x ∷ xs) ys h k = (h.0, high_append limit xs ys h.1 k)

high_less : (from to : List ℕ) (entries : List TableEntry) → is_before from to ≡ true → AreHigh to entries → AreHigh from entries
high_less from to [] less high = tt
high_less from to (entry ∷ entries) less high = (past_less from to entry.key less high.0, high_less from to entries less high.1)

-- the keys of entries that fit are in the partition's range
keys_high : (p : PartitionTable) (from to : List ℕ) (entries : List TableEntry) → are_keys_of p from to entries ≡ true → AreHigh p.from entries
keys_high p from to [] fit = tt
keys_high p from to (entry ∷ entries) fit =
    let own = first_true (is_within p.from p.to entry.key) (are_keys_of p from to entries) (second_true (is_within from to entry.key) _ fit) in
    let rest = second_true (is_within p.from p.to entry.key) (are_keys_of p from to entries) (second_true (is_within from to entry.key) _ fit) in
    (not_true (is_before entry.key p.from) (first_true (not (is_before entry.key p.from)) (is_below entry.key p.to) own), keys_high p from to entries rest)

keys_low : (p : PartitionTable) (from to : List ℕ) (entries : List TableEntry) → is_before p.from p.to ≡ true → are_keys_of p from to entries ≡ true → AreLow p.to entries
keys_low p from to [] less fit = tt
keys_low p from to (entry ∷ entries) less fit =
    let own = first_true (is_within p.from p.to entry.key) (are_keys_of p from to entries) (second_true (is_within from to entry.key) _ fit) in
    let rest = second_true (is_within p.from p.to entry.key) (are_keys_of p from to entries) (second_true (is_within from to entry.key) _ fit) in
    (low_of (second_true (not (is_before entry.key p.from)) (is_below entry.key p.to) own), keys_low p from to entries less rest)
  where
    low_of : is_below entry.key p.to ≡ true → is_before entry.key p.to ≡ true
    low_of below = subst (λ t. (t || is_before entry.key p.to) ≡ true) (has_end p.from p.to less) below

part_fits : (p : PartitionTable) (from to : List ℕ) (reply : Reply) → fits p (Scan from to) reply ≡ true → are_keys_of p from to (entries_of reply) ≡ true
part_fits p from to (Positions positions) fit = refl
part_fits p from to (Value value) fit = refl
part_fits p from to (Trimmed trim) fit = refl
part_fits p from to Absent fit = refl
part_fits p from to (Beyond size) fit = refl
part_fits p from to Exists fit = refl
part_fits p from to Done fit = refl
part_fits p from to (Entries more entries) fit = fit
part_fits p from to Limit fit = refl
part_fits p from to (Differs value) fit = refl

part_rises : (reply : Reply) → IsReply reply → keys_rise [] (entries_of reply) ≡ true
part_rises (Positions positions) is = refl
part_rises (Value value) is = refl
part_rises (Trimmed trim) is = refl
part_rises Absent is = refl
part_rises (Beyond size) is = refl
part_rises Exists is = refl
part_rises Done is = refl
part_rises (Entries more entries) is = is.rising
part_rises Limit is = refl
part_rises (Differs value) is = refl

-- the entries of replies of partitions from a key on
pub record RiseFrom (start : List ℕ) (entries : List TableEntry) : Type 0 where
  rising : keys_rise [] entries ≡ true
  high : AreHigh start entries

none_rise : (start : List ℕ) → RiseFrom start []
none_rise start = record { rising = refl; high = tt }

all_rise : (from to start : List ℕ) (ps : List PartitionTable) (parts : List (PartitionId × Reply)) → AreEndToEnd start ps → ArePartsOf (Scan from to) ps parts →
    RiseFrom start (flat_map entries_of (replies_in parts))
all_rise from to start [] [] ends are = none_rise start
all_rise from to start [] (part ∷ parts) ends are = absurd are
all_rise from to start (p ∷ ps) [] ends are = none_rise start
all_rise from to start (p ∷ []) (part ∷ []) ends (inl here) =
    let fit = part_fits p from to part.1 here.1.fit in
    let high = keys_high p from to (entries_of part.1) fit in
    rw append-nil (record { rising = part_rises part.1 here.1.valid; high = subst (λ s. AreHigh s (entries_of part.1)) ends.0 high })
all_rise from to start (p ∷ []) (part ∷ next ∷ parts) ends (inl here) = absurd here.2
all_rise from to start (p ∷ []) (part ∷ parts) ends (inr later) = absurd later
all_rise from to start (p ∷ q ∷ ps) (part ∷ parts) ends (inl here) =
    let later = all_rise from to p.to (q ∷ ps) parts ends.2 here.2 in
    let fit = part_fits p from to part.1 here.1.fit in
    let rising = part_rises part.1 here.1.valid in
    let low = keys_low p from to (entries_of part.1) ends.1 fit in
    let high : AreHigh p.from (entries_of part.1 ++ flat_map entries_of (replies_in parts)) =
    high_append p.from (entries_of part.1) (flat_map entries_of (replies_in parts)) (keys_high p from to (entries_of part.1) fit) (high_less p.from p.to (flat_map entries_of (replies_in parts)) ends.1 later.high) in
    record {
      rising = rise_on p.to [] (entries_of part.1) (flat_map entries_of (replies_in parts)) rising later.rising (first_of (flat_map entries_of (replies_in parts)) later.rising) low later.high;
      high = subst (λ s. AreHigh s (entries_of part.1 ++ flat_map entries_of (replies_in parts))) ends.0 high;
    }
all_rise from to start (p ∷ q ∷ ps) (part ∷ parts) ends (inr later) =
    let rest = all_rise from to p.to (q ∷ ps) (part ∷ parts) ends.2 later in
    record {
      rising = rest.rising;
      high = subst (λ s. AreHigh s (flat_map entries_of (replies_in (part ∷ parts)))) ends.0 (high_less p.from p.to (flat_map entries_of (replies_in (part ∷ parts))) ends.1 rest.high);
    }

-- ---- what is not a scan has no entries

no_entries_at_all : (replies : List Reply) → AllByRecursion NoEntries replies → flat_map entries_of replies ≡ []
no_entries_at_all [] none = refl
no_entries_at_all (reply ∷ replies) none = rw (no_entries_of reply none.0) (no_entries_at_all replies none.1)
  where
    no_entries_of : (reply : Reply) → NoEntries reply → entries_of reply ≡ []
    no_entries_of (Positions positions) h = refl
    no_entries_of (Value value) h = refl
    no_entries_of (Trimmed trim) h = refl
    no_entries_of Absent h = refl
    no_entries_of (Beyond size) h = refl
    no_entries_of Exists h = refl
    no_entries_of Done h = refl
    no_entries_of (Entries more entries) h = absurd h
    no_entries_of Limit h = refl
    no_entries_of (Differs value) h = refl

-- ---- all together

scan_or_not : (command : Command) → ((from : List ℕ) × (to : List ℕ) × (command ≡ Scan from to)) ⊎ (is_scan command ≡ false)
scan_or_not (Append log value) = inr refl
scan_or_not (Multi logs value) = inr refl
scan_or_not (ReadLog log position) = inr refl
scan_or_not (TrimLog log position) = inr refl
scan_or_not (Get key) = inr refl
scan_or_not (Scan from to) = inl (from, to, refl)
scan_or_not (Update key value) = inr refl
scan_or_not (Insert key value) = inr refl
scan_or_not (Delete key) = inr refl
scan_or_not (Swap key old new) = inr refl

replies_long : (parts : List (PartitionId × Reply)) → length (replies_in parts) ≡ length parts
replies_long [] = refl
replies_long (part ∷ parts) = ap suc (replies_long parts)

pub can_be_joined : (config : Config) (command : Command) (parts : List (PartitionId × Reply)) → IsValid config → IsCommand command → 1 ≤ length parts → ArePartsOf command config.partitions parts →
    AreParts (replies_in parts)
can_be_joined config command parts valid is some are = by_scan (scan_or_not command)
  where
    each : AllByRecursion IsReply (replies_in parts)
    each = all_parts IsReply command (λ p reply part. part.valid) config.partitions parts are

    long : 1 ≤ length (replies_in parts)
    long = omega (arith, some, replies_long parts)

    positions : length (flat_map positions_of (replies_in parts)) ≤ 255
    positions = omega (arith, positions_at_most command config.partitions parts are, total_at_most config.partitions (logs_named command) valid.partitions.logs, few_named command is)

    entries : length (flat_map entries_of (replies_in parts)) ≤ 65535
    entries = omega (arith, entries_at_most command config.partitions parts are, valid.partitions.few.1)

    by_scan : ((from : List ℕ) × (to : List ℕ) × (command ≡ Scan from to)) ⊎ (is_scan command ≡ false) → AreParts (replies_in parts)
    by_scan (inl scan) =
        let scans : ArePartsOf (Scan scan.0 scan.1) config.partitions parts = subst (λ k. ArePartsOf k config.partitions parts) scan.2 are in
        record {
          some = long;
          each = each;
          alike = inr (all_parts NoPositions (Scan scan.0 scan.1) (λ p reply part. no_positions p scan.0 scan.1 reply part.fit) config.partitions parts scans);
          few_positions = positions;
          few_entries = entries;
          rising = (all_rise scan.0 scan.1 [] config.partitions parts valid.partitions.ranges scans).rising;
        }
    by_scan (inr plain) =
        let none = all_parts NoEntries command (λ p reply part. no_entries p command reply plain part.fit) config.partitions parts are in
        record {
          some = long;
          each = each;
          alike = inl none;
          few_positions = positions;
          few_entries = entries;
          rising = rw (no_entries_at_all (replies_in parts) none) refl;
        }
