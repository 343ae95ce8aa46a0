-- A command is read as it is spelled, and what is read is spelled so.
use Rattle.std.proofs.Common.{arith, lit<, ◌≡◌, ◌<◌, ◌≤◌, ℕ, ◌^◌, ◌+◌, List, [], ◌∷◌, ◌++◌, length, refl, codes, Ok, IsTrue, inl, inr, false, nat_le, nat_lt, ◌&&◌, ◌⊎◌, ◌==◌}
use Rattle.std.specs.List.{AllByRecursion}
use Rattle.std.specs.Fmt.{decimal}
use Rattle.std.specs.Ordering.{nat_cmp, is_lt}
use Rattle.std.specs.Cmp.Lexicographic.{slice_cmp}
use Rattle.std.specs.declared.cmp.Ordering.{Ordering}
use Rattle.std.specs.declared.cmp.Ordering.TheVariants.{Less, Equal, Greater}
use Rattle.text_lines.specs.declared.fault.TextFault.{TextFault}
use Rattle.text_lines.specs.declared.fault.TextFault.TheVariants.{Word, Range}
use Rattle.text_lines.specs.Text.{hex_text}
use Rattle.mrp_types.specs.Reading.{both as both_readers, shown}
use Rattle.text_lines.specs.Words.{tested}
use Rattle.text_lines.proofs.Laws.{Lacks}
use Rattle.text_lines.proofs.WordLaws.{Words, Took, Entry, AreEntries, alone, one_words, two, tested_words, IsTested, IsBoth, viewed_was, shown_read, keyed_was, none_low, lacks_low}
use Rattle.mrp_types.specs.declared.id.LogId.{LogId}
use Rattle.mrp_types.proofs.TestLemmas.{both, below as is_less}
use Rattle.command_codec.specs.declared.command.Command.{Command}
use Rattle.command_codec.specs.declared.command.Command.TheVariants.{Append, Multi, ReadLog, TrimLog, Get, Scan, Update, Insert, Delete, Swap}
use Rattle.command_codec.specs.Valid.{rises_from, IsCommand}
use Rattle.mrp_config.specs.Routing.{is_below}
use Rattle.schedule.specs.Spelling.{command_words, logs_text, IsWithin, AreBytes, AreLogs, IsAsked}
use Rattle.schedule.specs.Reading.{WordReader, within, any_number, log_word, logs_word, bytes_word, append_at, multi_at, read_at, trimlog_at, get_at, are_ends, scan_at, update_at, insert_at, delete_at, swap_at, commands_on_keys, commands, command_at}
use Rattle.schedule.proofs.FieldLaws.{any, number, bytes, logs}

-- ---- words

pub numbers : (least most : ℕ) → most < 2 ^ 64 → Words (within least most) (alone decimal) (IsWithin least most)
numbers least most small = one_words _ _ _ (number least most small) Word

pub any_numbers : Words any_number (alone decimal) (λ n. n < 2 ^ 64)
any_numbers = one_words _ _ _ any Word

one_log : Words log_word (alone decimal) (IsWithin 0 63)
one_log = numbers 0 63 (lit< tt)

some_logs : Words logs_word (alone logs_text) AreLogs
some_logs = one_words _ _ _ logs Word

some_bytes : (least most : ℕ) → Words (bytes_word least most) (alone hex_text) (AreBytes least most)
some_bytes least most = one_words _ _ _ (bytes least most) Word

values : Words (bytes_word 0 2048) (alone hex_text) (AreBytes 0 2048)
values = some_bytes 0 2048

keys : Words (bytes_word 1 256) (alone hex_text) (AreBytes 1 256)
keys = some_bytes 1 256

ends : Words (bytes_word 0 256) (alone hex_text) (AreBytes 0 256)
ends = some_bytes 0 256

abbrev pub spell_ends : List ℕ × List ℕ → List (List ℕ)
spell_ends x = (hex_text x.0 ∷ []) ++ (hex_text x.1 ∷ [])

two_ends : Words {E = TextFault} (tested Range are_ends (both_readers (bytes_word 0 256) (bytes_word 0 256))) spell_ends (IsTested are_ends (IsBoth (AreBytes 0 256) (AreBytes 0 256)))
two_ends = tested_words Range are_ends _ _ _ (two ends ends)

-- ---- what is spelled is read

command_read : (command : Command) (rest : List (List ℕ)) → IsAsked command → command_at (command_words command ++ rest) ≡ Ok (command, rest)
unfolding command_at commands_on_keys append_at multi_at read_at trimlog_at get_at scan_at update_at insert_at delete_at swap_at
command_read (Append log value) rest is = shown_read _ _ _ _ (two one_log values) (log.0, value) rest is
command_read (Multi ls value) rest is = shown_read _ _ _ _ (two some_logs values) (ls, value) rest is
command_read (ReadLog log position) rest is = shown_read _ _ _ _ (two one_log any_numbers) (log.0, position) rest is
command_read (TrimLog log position) rest is = shown_read _ _ _ _ (two one_log any_numbers) (log.0, position) rest is
command_read (Get key) rest is = shown_read _ _ _ _ keys key rest is
command_read (Scan from to) rest is = shown_read _ _ _ _ two_ends (from, to) rest is
command_read (Update key value) rest is = shown_read _ _ _ _ (two keys values) (key, value) rest is
command_read (Insert key value) rest is = shown_read _ _ _ _ (two keys values) (key, value) rest is
command_read (Delete key) rest is = shown_read _ _ _ _ keys key rest is
command_read (Swap key old new) rest is = shown_read _ _ _ _ (two keys (two values values)) (key, (old, new)) rest is

-- ---- what is read is spelled so

-- what is read behind a key is spelled with it
entry : {A : Type 0} (key : List ℕ) {fields : WordReader A} {spell : A → List (List ℕ)} {Is : A → Type 0} (view : A → Command) → Words fields spell Is
    → ((a : A) → key ∷ spell a ≡ command_words (view a)) → ((a : A) → Is a → IsAsked (view a)) → Entry command_words IsAsked (key ∷ []) (shown view fields)
entry key {fields = fields} {spell = spell} {Is = Is} view law spelled is =
    viewed_was (key ∷ []) fields spell Is view command_words IsAsked law (record { spelled = spelled; is = is })

key_entries : AreEntries command_words IsAsked commands_on_keys
unfolding commands_on_keys get_at scan_at update_at insert_at delete_at swap_at
key_entries = (
  entry (codes "get") _ keys (λ a. refl) (λ a is. is),
  (
    entry (codes "scan") _ two_ends (λ a. refl) (λ a is. is),
    (
      entry (codes "update") _ (two keys values) (λ a. refl) (λ a is. is),
      (
        entry (codes "insert") _ (two keys values) (λ a. refl) (λ a is. is),
        (entry (codes "delete") _ keys (λ a. refl) (λ a is. is), (entry (codes "swap") _ (two keys (two values values)) (λ a. refl) (λ a is. is), tt)),
      ),
    ),
  ),
)

command_entries : AreEntries command_words IsAsked commands
unfolding append_at multi_at read_at trimlog_at
command_entries = (
  entry (codes "append") _ (two one_log values) (λ a. refl) (λ a is. is),
  (
    entry (codes "multi") _ (two some_logs values) (λ a. refl) (λ a is. is),
    (
      entry (codes "read") _ (two one_log any_numbers) (λ a. refl) (λ a is. is),
      (entry (codes "trimlog") _ (two one_log any_numbers) (λ a. refl) (λ a is. is), key_entries),
    ),
  ),
)

command_was : (words : List (List ℕ)) (x : Command × List (List ℕ)) → command_at words ≡ Ok x → Took command_words IsAsked words x
unfolding command_at
command_was words x h = keyed_was command_words IsAsked Word commands command_entries words x h

-- ---- no low byte

command_lacks : (byte : ℕ) → byte < 44 → (command : Command) → IsAsked command → AllByRecursion (Lacks byte) (command_words command)
unfolding none_low
command_lacks byte low (Append log value) is = (lacks_low byte low (codes "append") refl, (two one_log values).lacks byte low (log.0, value) is)
command_lacks byte low (Multi ls value) is = (lacks_low byte low (codes "multi") refl, (two some_logs values).lacks byte low (ls, value) is)
command_lacks byte low (ReadLog log position) is = (lacks_low byte low (codes "read") refl, (two one_log any_numbers).lacks byte low (log.0, position) is)
command_lacks byte low (TrimLog log position) is = (lacks_low byte low (codes "trimlog") refl, (two one_log any_numbers).lacks byte low (log.0, position) is)
command_lacks byte low (Get key) is = (lacks_low byte low (codes "get") refl, keys.lacks byte low key is)
command_lacks byte low (Scan from to) is = (lacks_low byte low (codes "scan") refl, two_ends.lacks byte low (from, to) is)
command_lacks byte low (Update key value) is = (lacks_low byte low (codes "update") refl, (two keys values).lacks byte low (key, value) is)
command_lacks byte low (Insert key value) is = (lacks_low byte low (codes "insert") refl, (two keys values).lacks byte low (key, value) is)
command_lacks byte low (Delete key) is = (lacks_low byte low (codes "delete") refl, keys.lacks byte low key is)
command_lacks byte low (Swap key old new) is = (lacks_low byte low (codes "swap") refl, (two keys (two values values)).lacks byte low (key, (old, new)) is)

pub command_law : Words command_at command_words IsAsked
command_law = record { read = command_read; was = command_was; lacks = command_lacks }

-- ---- an asked command has a spelling in bytes

few_logs : (least : ℕ) (ls : List LogId) → least ≤ 64 → IsTrue (rises_from least ls) → least + length ls ≤ 64
few_logs least [] low rise = omega (arith, low)
few_logs least (log ∷ ls) low rise =
    let first = both (nat_le least log.0) (nat_lt log.0 64 && rises_from (log.0 + 1) ls) rise in
    let second = both (nat_lt log.0 64) (rises_from (log.0 + 1) ls) first.1 in
    let small : log.0 < 64 = is_less log.0 64 second.0 in
    let enough : least ≤ log.0 = grind (arith, first.0) in
    let others : (log.0 + 1) + length ls ≤ 64 = few_logs (log.0 + 1) ls (omega (arith, small)) second.1 in
    let more : length (log ∷ ls) ≡ length ls + 1 = grind arith in
    omega (arith, others, more, enough)

few : (ls : List LogId) → IsTrue (rises_from 0 ls) → length ls ≤ 64
few ls rise =
    let all : 0 + length ls ≤ 64 = few_logs 0 ls (omega arith) rise in
    omega (arith, all)

is_less_of : (o : Ordering) → IsTrue (is_lt o) → o ≡ Less
is_less_of Less is = refl
is_less_of Equal is = absurd (grind (arith, is))
is_less_of Greater is = absurd (grind (arith, is))

range_of : (from to : List ℕ) → IsTrue (is_below from to) → (to ≡ []) ⊎ (slice_cmp nat_cmp from to ≡ Less)
range_of from [] is = inl refl
range_of from (b ∷ rest) is =
    let some : (length (b ∷ rest) == 0) ≡ false = grind arith in
    let less : IsTrue (is_lt (slice_cmp nat_cmp from (b ∷ rest))) = rw some at is in
    inr (is_less_of (slice_cmp nat_cmp from (b ∷ rest)) less)

log_fits : (n : ℕ) → IsWithin 0 63 n → n < 64
log_fits n is = omega (arith, is.1)

pub asked_is_command : (command : Command) → IsAsked command → IsCommand command
asked_is_command (Append log value) is = (log_fits log.0 is.0, is.1.1.1)
asked_is_command (Multi ls value) is = ((is.0.0, few ls is.0.1, is.0.1), is.1.1.1)
asked_is_command (ReadLog log position) is = log_fits log.0 is.0
asked_is_command (TrimLog log position) is = log_fits log.0 is.0
asked_is_command (Get key) is = is.1
asked_is_command (Scan from to) is = (is.0.0.1.1, is.0.1.1.1, range_of from to is.1)
asked_is_command (Update key value) is = (is.0.1, is.1.1.1)
asked_is_command (Insert key value) is = (is.0.1, is.1.1.1)
asked_is_command (Delete key) is = is.1
asked_is_command (Swap key old new) is = (is.0.1, is.1.0.1.1, is.1.1.1.1)
