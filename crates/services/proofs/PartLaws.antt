-- A command's effect on its own part, beside the other.
use Rattle.std.proofs.Common.{arith, ◌≡◌, ℕ, ◌+◌, ◌-◌, nat_lt, Bool, true, false, if◌then◌else◌, List, [], Option, Some, None, refl, sym, ◌∙◌, ap, length-append, IsTrue}
use Rattle.std.specs.Prelude.{◌||◌}
use Rattle.std.proofs.lemmas.Bool.Decides.{nat_tests}
use Rattle.command_codec.specs.declared.command.Command.{Command}
use Rattle.command_codec.specs.declared.command.Command.TheVariants.{Append, Multi, ReadLog, TrimLog, Get, Scan, Update, Insert, Delete, Swap}
use Rattle.command_codec.specs.declared.reply.TableEntry.{TableEntry}
use Rattle.command_codec.specs.declared.reply.Reply.TheVariants as replies
use Rattle.std.specs.Prelude.{bytes_eq}
use Rattle.std.proofs.Common.{true≢false, ◌≤◌}
use Rattle.plain_model.specs.Replicas.{with_entry, LogState, Effect, effect_of, trimming, updating, inserting, deleting, swapping, told, log_at, log_length, trimmed_to, with_log, value_of, services_size, has_no_room, is_one_too_long}
use Rattle.plain_model.specs.StateBytes.{logs_bytes, table_bytes}
use Rattle.plain_model.proofs.SizeLaws.{services-written}
use Rattle.services.specs.Parts.{Logs, Table, is_for, effect_on, part_size, growth_of}

abbrev with_logs : Effect → List TableEntry → Effect
with_logs effect table = record { logs = effect.logs; table = table; reply = effect.reply }

abbrev with_table : List LogState → Effect → Effect
with_table logs effect = record { logs = logs; table = effect.table; reply = effect.reply }

trimming_alone : (position : ℕ) (log : LogState) (logs : List LogState) (table : List TableEntry) → trimming position log logs table ≡ with_logs (trimming position log logs []) table
trimming_alone position log logs table =
    elim (nat_lt (log_length log) position)
    as (λ t. (if t then told (replies.Beyond (log_length log)) logs table else told replies.Done (with_log (trimmed_to position log) logs) table)
    ≡ with_logs (if t then told (replies.Beyond (log_length log)) logs [] else told replies.Done (with_log (trimmed_to position log) logs) []) table)
    [ true ↦ refl | false ↦ refl ]

updating_alone : (held : Option (List ℕ)) (key value : List ℕ) (logs : List LogState) (table : List TableEntry) → updating held key value logs table ≡ with_table logs (updating held key value [] table)
updating_alone None key value logs table = refl
updating_alone (Some old) key value logs table = refl

inserting_alone : (held : Option (List ℕ)) (key value : List ℕ) (logs : List LogState) (table : List TableEntry) → inserting held key value logs table ≡ with_table logs (inserting held key value [] table)
inserting_alone None key value logs table = refl
inserting_alone (Some old) key value logs table = refl

deleting_alone : (held : Option (List ℕ)) (key : List ℕ) (logs : List LogState) (table : List TableEntry) → deleting held key logs table ≡ with_table logs (deleting held key [] table)
deleting_alone None key logs table = refl
deleting_alone (Some old) key logs table = refl

swapping_alone : (held : Option (List ℕ)) (key old new : List ℕ) (logs : List LogState) (table : List TableEntry) → swapping held key old new logs table ≡ with_table logs (swapping held key old new [] table)
swapping_alone None key old new logs table = refl
swapping_alone (Some value) key old new logs table =
    elim (bytes_eq value old)
    as (λ t. (if t then told replies.Done logs (with_entry key new table) else told (replies.Differs value) logs table)
    ≡ with_table logs (if t then told replies.Done [] (with_entry key new table) else told (replies.Differs value) [] table))
    [ true ↦ refl | false ↦ refl ]

pub keeps_logs : (command : Command) (logs : List LogState) (table : List TableEntry) → IsTrue (is_for command (Logs logs)) →
    effect_of command logs table ≡ with_logs (effect_on command (Logs logs)) table
unfolding effect_of
keeps_logs (Append log value) logs table is = refl
keeps_logs (Multi named value) logs table is = refl
keeps_logs (ReadLog log position) logs table is = refl
keeps_logs (TrimLog log position) logs table is = trimming_alone position (log_at log logs) logs table
keeps_logs (Get key) logs table is = cc
keeps_logs (Scan from to) logs table is = cc
keeps_logs (Update key value) logs table is = cc
keeps_logs (Insert key value) logs table is = cc
keeps_logs (Delete key) logs table is = cc
keeps_logs (Swap key old new) logs table is = cc

pub keeps_table : (command : Command) (logs : List LogState) (table : List TableEntry) → IsTrue (is_for command (Table table)) →
    effect_of command logs table ≡ with_table logs (effect_on command (Table table))
unfolding effect_of
keeps_table (Append log value) logs table is = cc
keeps_table (Multi named value) logs table is = cc
keeps_table (ReadLog log position) logs table is = cc
keeps_table (TrimLog log position) logs table is = cc
keeps_table (Get key) logs table is = refl
keeps_table (Scan from to) logs table is = refl
keeps_table (Update key value) logs table is = updating_alone (value_of key table) key value logs table
keeps_table (Insert key value) logs table is = inserting_alone (value_of key table) key value logs table
keeps_table (Delete key) logs table is = deleting_alone (value_of key table) key logs table
keeps_table (Swap key old new) logs table is = swapping_alone (value_of key table) key old new logs table

-- ---- room

or_true : (t : Bool) → (t || true) ≡ true
or_true true = refl
or_true false = refl

or_false : (t : Bool) → (t || false) ≡ t
or_false true = refl
or_false false = refl

same_test : (a b c : ℕ) → b ≤ 67108864 → nat_lt 67108864 (a + c) ≡ nat_lt 67108864 (b + (a + c - b))
same_test a b c small = grind (arith, nat_tests)

-- the part that changes has so many bytes and then so many, the other part these
decides : (before other now : ℕ) (long : Bool) → nat_lt 67108864 (before + other) ≡ false →
    (nat_lt 67108864 (now + other) || long) ≡ nat_lt 67108864 (before + other + (if long then 67108865 else now - before))
decides before other now true small = or_true (nat_lt 67108864 (now + other)) ∙ grind (arith, nat_tests)
decides before other now false small = or_false (nat_lt 67108864 (now + other)) ∙ grind (arith, nat_tests)

sizes : (logs : List LogState) (table : List TableEntry) → services_size logs table ≡ part_size (Logs logs) + part_size (Table table)
sizes logs table = services-written logs table ∙ length-append (logs_bytes logs) (table_bytes table)

sizes_turned : (logs : List LogState) (table : List TableEntry) → services_size logs table ≡ part_size (Table table) + part_size (Logs logs)
sizes_turned logs table = omega (arith, sizes logs table)

neither : (t u : Bool) → (t || u) ≡ false → (t ≡ false) × (u ≡ false)
neither true u h = absurd (true≢false h)
neither false u h = (refl, h)

room_logs : (logs after : List LogState) (table : List TableEntry) → has_no_room logs table ≡ false →
    has_no_room after table ≡ nat_lt 67108864 (part_size (Logs logs) + part_size (Table table) + (if is_one_too_long after then 67108865 else part_size (Logs after) - part_size (Logs logs)))
room_logs logs after table room =
    let small : nat_lt 67108864 (part_size (Logs logs) + part_size (Table table)) ≡ false = ap (λ n. nat_lt 67108864 n) (sym (sizes logs table)) ∙ (neither _ _ room).0 in
    ap (λ n. nat_lt 67108864 n || is_one_too_long after) (sizes after table) ∙ decides (part_size (Logs logs)) (part_size (Table table)) (part_size (Logs after)) (is_one_too_long after) small

room_table : (logs : List LogState) (table after : List TableEntry) → has_no_room logs table ≡ false →
    has_no_room logs after ≡ nat_lt 67108864 (part_size (Logs logs) + part_size (Table table) + (part_size (Table after) - part_size (Table table)))
room_table logs table after room =
    let both = neither (nat_lt 67108864 (services_size logs table)) (is_one_too_long logs) room in
    let small : nat_lt 67108864 (part_size (Table table) + part_size (Logs logs)) ≡ false = ap (λ n. nat_lt 67108864 n) (sym (sizes_turned logs table)) ∙ both.0 in
    ap (λ t. nat_lt 67108864 (services_size logs after) || t) both.1
    ∙ (ap (λ n. nat_lt 67108864 n || false) (sizes_turned logs after)
    ∙ (decides (part_size (Table table)) (part_size (Logs logs)) (part_size (Table after)) false small
    ∙ ap (λ n. nat_lt 67108864 n) (turned (part_size (Table table)) (part_size (Logs logs)) (part_size (Table after) - part_size (Table table)))))
  where
    turned : (a b c : ℕ) → a + b + c ≡ b + a + c
    turned a b c = omega arith

pub logs_decide : (command : Command) (logs : List LogState) (table : List TableEntry) → has_no_room logs table ≡ false → IsTrue (is_for command (Logs logs)) →
    has_no_room (effect_of command logs table).logs (effect_of command logs table).table ≡ nat_lt 67108864 (part_size (Logs logs) + part_size (Table table) + growth_of command (Logs logs))
logs_decide command logs table room is =
    ap (λ (effect : Effect). has_no_room effect.logs effect.table) (keeps_logs command logs table is) ∙ room_logs logs (effect_on command (Logs logs)).logs table room

pub table_decides : (command : Command) (logs : List LogState) (table : List TableEntry) → has_no_room logs table ≡ false → IsTrue (is_for command (Table table)) →
    has_no_room (effect_of command logs table).logs (effect_of command logs table).table ≡ nat_lt 67108864 (part_size (Logs logs) + part_size (Table table) + growth_of command (Table table))
table_decides command logs table room is =
    ap (λ (effect : Effect). has_no_room effect.logs effect.table) (keeps_table command logs table is) ∙ room_table logs table (effect_on command (Table table)).table room
