-- What a replica makes of given entries is of bytes, and so is its written state.
use Rattle.std.proofs.Common.{arith, ◌≡◌, ◌≤◌, ◌<◌, ℕ, zero, suc, ◌+◌, ◌-◌, ◌*◌, ◌^◌, nat_lt, nat_le, ◌==◌, Bool, true, false, not, if◌then◌else◌, List, [], ◌∷◌, ◌++◌, length, take, drop, map, Option, Some, None, Result, Ok, Err, refl, sym, ap, subst, length-append}
use Rattle.std.specs.Prelude.{slice_get, filter, bytes_eq}
use Rattle.std.specs.List.{AllByRecursion, flat_map, cons_option}
use Rattle.std.proofs.Math.Seq.{drop-nil}
use Rattle.std.proofs.lemmas.List.Concat.{flat_map-cons}
use Rattle.hex.specs.Hex.{IsBytes}
use Rattle.mrp_types.specs.declared.id.LogId.{LogId}
use Rattle.mrp_types.specs.declared.value.Entry.{Entry}
use Rattle.command_codec.specs.declared.command.Command.{Command}
use Rattle.command_codec.specs.declared.command.Command.TheVariants.{Append, Multi, ReadLog, TrimLog, Get, Scan, Update, Insert, Delete, Swap}
use Rattle.command_codec.specs.declared.fault.CodecFault.{CodecFault}
use Rattle.command_codec.specs.declared.reply.LogPosition.{LogPosition}
use Rattle.command_codec.specs.declared.reply.TableEntry.{TableEntry}
use Rattle.command_codec.specs.declared.reply.Reply.{Reply}
use Rattle.command_codec.specs.declared.reply.Reply.TheVariants as replies
use Rattle.command_codec.specs.Fields.{u16_bytes, u32_bytes, u64_bytes, string16}
use Rattle.command_codec.specs.Grammar.{command_at, command_of}
use Rattle.command_codec.specs.Replies.{reply_bytes, position_bytes, table_entry_bytes, flag}
use Rattle.command_codec.specs.Spelling.{command_bytes}
use Rattle.command_codec.proofs.Combined.{whole_was}
use Rattle.command_codec.proofs.CommandLaws.{IsWhole, command_law}
use Rattle.command_codec.proofs.ReaderLaws.{wide32}
use Rattle.command_codec.proofs.Sizes.{length-u16_bytes, length-u64_bytes}
use Rattle.mrp_config.specs.declared.tables.PartitionTable.{PartitionTable}
use Rattle.mrp_config.specs.Config.{has_log}
use Rattle.mrp_config.specs.Routing.{is_before, is_concerned, is_within}
use Rattle.plain_model.specs.Pages.{front_within}
use Rattle.plain_model.specs.Replicas.{Session, LogState, Replica, AppliedAll, Effect, session_at, with_session, log_length, log_at, with_log, with_value, ends_of, read_at, trimmed_to, value_of, value_or_absent, without, put_in, with_entry, entry_size, page_of, scanned, has_no_room, where_room, told, effect_of, updating, inserting, deleting, swapping, taken, numbered, judged, passed_over, given_again, apply, applies_from, with_applied, empty_log, empty_replica}
use Rattle.plain_model.proofs.SizeLaws.{services-written}
use Rattle.plain_model.specs.StateBytes.{session_bytes, log_bytes, sessions_bytes, logs_bytes, table_bytes, state_bytes, state_of}
use Rattle.state_laws.specs.States.{IsGiven, AreGiven, HasFewLogs, AreSessions, IsState, AreBytes, SessionBytes, LogBytes, EntryBytes, HoldsBytes, IsSound}
use Rattle.state_laws.proofs.Examples.{bytes_by}
use Rattle.state_laws.proofs.Replies.{AreBelow}
use Rattle.state_laws.proofs.Reread.{some-was}
use Rattle.state_laws.proofs.Steps.{below_of, apply_is, empty_is}
use Rattle.state_laws.proofs.Written.{few_sessions, same_many}

-- ---- lists of bytes

pub bytes_each : (bytes : List ℕ) → IsBytes bytes → AreBytes bytes
bytes_each [] is = tt
bytes_each (b ∷ bytes) is = (is 0, bytes_each bytes (λ i. is (suc i)))

pub both_are : {T : Type 0} (P : T → Type 0) (xs ys : List T) → AllByRecursion P xs → AllByRecursion P ys → AllByRecursion P (xs ++ ys)
both_are P [] ys first second = second
both_are P (x ∷ xs) ys first second = (first.0, both_are P xs ys first.1 second)

left_are : (xs ys : List ℕ) → AreBytes (xs ++ ys) → AreBytes xs
left_are [] ys are = tt
left_are (x ∷ xs) ys are = (are.0, left_are xs ys are.1)

right_are : (xs ys : List ℕ) → AreBytes (xs ++ ys) → AreBytes ys
right_are [] ys are = are
right_are (x ∷ xs) ys are = right_are xs ys are.1

join_are : (xs ys : List ℕ) → AreBytes xs → AreBytes ys → AreBytes (xs ++ ys)
join_are xs ys first second = both_are (λ (b : ℕ). b < 256) xs ys first second

-- a part of them
pub cut_are : (n offset : ℕ) (bytes : List ℕ) → AreBytes bytes → AreBytes (take n (drop offset bytes))
cut_are n zero bytes are = front_of n bytes are
  where
    front_of : (n : ℕ) (bytes : List ℕ) → AreBytes bytes → AreBytes (take n bytes)
    front_of zero bytes are = tt
    front_of (suc n) [] are = tt
    front_of (suc n) (b ∷ bytes) are = (are.0, front_of n bytes are.1)
cut_are zero (suc offset) [] are = tt
cut_are (suc n) (suc offset) [] are = tt
cut_are n (suc offset) (b ∷ bytes) are = cut_are n offset bytes are.1

pub u16_are : (n : ℕ) → AreBytes (u16_bytes n)
unfolding u16_bytes
u16_are n = (omega arith, (omega arith, tt))

u32_are : (n : ℕ) → AreBytes (u32_bytes n)
unfolding u32_bytes
u32_are n = (omega arith, (omega arith, (omega arith, (omega arith, tt))))

pub u64_are : (n : ℕ) → AreBytes (u64_bytes n)
unfolding u64_bytes
u64_are n = (omega arith, (omega arith, (omega arith, (omega arith, (omega arith, (omega arith, (omega arith, (omega arith, tt))))))))

string_are : (bytes : List ℕ) → AreBytes bytes → AreBytes (string16 bytes)
string_are bytes are = join_are (u16_bytes (length bytes)) bytes (u16_are (length bytes)) are

string_was : (bytes : List ℕ) → AreBytes (string16 bytes) → AreBytes bytes
string_was bytes are = right_are (u16_bytes (length bytes)) bytes are

module _ {T : Type 0} (h : T → List ℕ) (P : T → Type 0) where
  flat_are : ((x : T) → P x → AreBytes (h x)) → (xs : List T) → AllByRecursion P xs → AreBytes (flat_map h xs)
  flat_are each [] all = tt
  flat_are each (x ∷ xs) all = subst (λ (l : List ℕ). AreBytes l) (sym (flat_map-cons h x xs)) (join_are (h x) (flat_map h xs) (each x all.0) (flat_are each xs all.1))

  flat_were : ((x : T) → AreBytes (h x) → P x) → (xs : List T) → AreBytes (flat_map h xs) → AllByRecursion P xs
  flat_were each [] are = tt
  flat_were each (x ∷ xs) are =
      let parts : AreBytes (h x ++ flat_map h xs) = subst (λ (l : List ℕ). AreBytes l) (flat_map-cons h x xs) are in
      (each x (left_are (h x) (flat_map h xs) parts), flat_were each xs (right_are (h x) (flat_map h xs) parts))

-- ---- the written state

session_are : (session : Session) → SessionBytes session → AreBytes (session_bytes session)
session_are session is =
    (is.0, join_are (u64_bytes session.seq ++ u32_bytes (length session.reply)) session.reply (join_are (u64_bytes session.seq) (u32_bytes (length session.reply)) (u64_are session.seq) (u32_are (length session.reply))) is.1)

session_was : (session : Session) → AreBytes (session_bytes session) → SessionBytes session
session_was session are = (are.0, right_are (u64_bytes session.seq ++ u32_bytes (length session.reply)) session.reply are.1)

log_are : (log : LogState) → LogBytes log → AreBytes (log_bytes log)
log_are log is = (
  is.0,
  join_are (u64_bytes log.trim ++ u64_bytes (length log.values)) (flat_map string16 log.values) (join_are (u64_bytes log.trim) (u64_bytes (length log.values)) (u64_are log.trim) (u64_are (length log.values)))
      (flat_are string16 AreBytes string_are log.values is.1),
)

log_was : (log : LogState) → AreBytes (log_bytes log) → LogBytes log
log_was log are = (are.0, flat_were string16 AreBytes string_was log.values (right_are (u64_bytes log.trim ++ u64_bytes (length log.values)) (flat_map string16 log.values) are.1))

entry_are : (entry : TableEntry) → EntryBytes entry → AreBytes (table_entry_bytes entry)
entry_are entry is = join_are (string16 entry.key) (string16 entry.value) (string_are entry.key is.0) (string_are entry.value is.1)

entry_was : (entry : TableEntry) → AreBytes (table_entry_bytes entry) → EntryBytes entry
entry_was entry are = (string_was entry.key (left_are (string16 entry.key) (string16 entry.value) are), string_was entry.value (right_are (string16 entry.key) (string16 entry.value) are))

pub written_are : (r : Replica) → length r.logs < 256 → HoldsBytes r → AreBytes (state_bytes r)
unfolding state_bytes
written_are r few is =
    join_are (sessions_bytes r.sessions ++ logs_bytes r.logs) (table_bytes r.table)
    (join_are (sessions_bytes r.sessions) (logs_bytes r.logs)
    (join_are (u16_bytes (length r.sessions)) (flat_map session_bytes r.sessions) (u16_are (length r.sessions)) (flat_are session_bytes SessionBytes session_are r.sessions is.sessions))
    (few, flat_are log_bytes LogBytes log_are r.logs is.logs))
    (join_are (u64_bytes (length r.table)) (flat_map table_entry_bytes r.table) (u64_are (length r.table)) (flat_are table_entry_bytes EntryBytes entry_are r.table is.table))

pub written_were : (r : Replica) → AreBytes (state_bytes r) → HoldsBytes r
unfolding state_bytes
written_were r are =
    let front = left_are (sessions_bytes r.sessions ++ logs_bytes r.logs) (table_bytes r.table) are in
    let table = right_are (sessions_bytes r.sessions ++ logs_bytes r.logs) (table_bytes r.table) are in
    let sessions = left_are (sessions_bytes r.sessions) (logs_bytes r.logs) front in
    let logs = right_are (sessions_bytes r.sessions) (logs_bytes r.logs) front in
    record {
      sessions = flat_were session_bytes SessionBytes session_was r.sessions (right_are (u16_bytes (length r.sessions)) (flat_map session_bytes r.sessions) sessions);
      logs = flat_were log_bytes LogBytes log_was r.logs logs.1;
      table = flat_were table_entry_bytes EntryBytes entry_was r.table (right_are (u64_bytes (length r.table)) (flat_map table_entry_bytes r.table) table);
    }

-- ---- logs

values_left : (n : ℕ) (values : List (List ℕ)) → AllByRecursion AreBytes values → AllByRecursion AreBytes (drop n values)
values_left zero values are = are
values_left (suc n) [] are = subst (λ (l : List (List ℕ)). AllByRecursion AreBytes l) (sym (drop-nil (suc n))) tt
values_left (suc n) (v ∷ values) are = values_left n values are.1

value_got : (values : List (List ℕ)) (i : ℕ) → AllByRecursion AreBytes values → AreBytes (reply_bytes (value_or_absent (slice_get values i)))
value_got [] i are = (omega arith, tt)
value_got (value ∷ values) zero are = (omega arith, string_are value are.0)
value_got (value ∷ values) (suc i) are = value_got values i are.1

with_value_are : (value : List ℕ) (named : List LogId) (logs : List LogState) → AreBytes value → AllByRecursion LogBytes logs → AllByRecursion LogBytes (with_value value named logs)
with_value_are value named [] is are = tt
with_value_are value named (log ∷ logs) is are = (by (has_log named log.id.0), with_value_are value named logs is are.1)
  where
    by : (t : Bool) → LogBytes (if t then record log { values = log.values ++ value ∷ [] } else log)
    by true = (are.0.0, both_are AreBytes log.values (value ∷ []) are.0.1 (is, tt))
    by false = are.0

with_log_are : (new : LogState) (logs : List LogState) → LogBytes new → AllByRecursion LogBytes logs → AllByRecursion LogBytes (with_log new logs)
with_log_are new [] is are = tt
with_log_are new (log ∷ logs) is are = (by (log.id.0 == new.id.0), with_log_are new logs is are.1)
  where
    by : (t : Bool) → LogBytes (if t then new else log)
    by true = is
    by false = are.0

log_at_are : (id : LogId) (logs : List LogState) → id.0 < 256 → AllByRecursion LogBytes logs → LogBytes (log_at id logs)
log_at_are id [] low are = (low, tt)
log_at_are id (log ∷ logs) low are = by (log.id.0 == id.0) (log_at_are id logs low are.1)
  where
    by : (t : Bool) → LogBytes (log_at id logs) → LogBytes (if t then log else log_at id logs)
    by true later = are.0
    by false later = later

read_are : (position : ℕ) (log : LogState) → LogBytes log → AreBytes (reply_bytes (read_at position log))
read_are position log is = by (nat_lt position log.trim) (nat_le (log_length log) position)
  where
    by : (t u : Bool) → AreBytes (reply_bytes (if t then replies.Trimmed log.trim else if u then replies.Beyond (log_length log) else value_or_absent (slice_get log.values (position - log.trim))))
    by true u = (omega arith, u64_are log.trim)
    by false true = (omega arith, u64_are (log_length log))
    by false false = value_got log.values (position - log.trim) is.1

ends_are : (named : List LogId) (logs : List LogState) → AllByRecursion LogBytes logs → AllByRecursion (λ (p : LogPosition). p.log.0 < 256) (ends_of named logs)
ends_are named [] are = tt
ends_are named (log ∷ logs) are = by (has_log named log.id.0) (ends_are named logs are.1)
  where
    by : (t : Bool) → AllByRecursion (λ (p : LogPosition). p.log.0 < 256) (ends_of named logs)
        → AllByRecursion (λ (p : LogPosition). p.log.0 < 256) (cons_option (if t then Some (record { log = log.id; position = log_length log }) else None) (ends_of named logs))
    by true later = (are.0.0, later)
    by false later = later

position_are : (p : LogPosition) → p.log.0 < 256 → AreBytes (position_bytes p)
position_are p low = (low, u64_are p.position)

few_ends : (named : List LogId) (logs : List LogState) → length (ends_of named logs) ≤ length logs
few_ends named [] = omega arith
few_ends named (log ∷ logs) = by (has_log named log.id.0) (few_ends named logs)
  where
    by : (t : Bool) → length (ends_of named logs) ≤ length logs → length (cons_option (if t then Some (record { log = log.id; position = log_length log }) else None) (ends_of named logs)) ≤ length (log ∷ logs)
    by true later = omega (arith, later)
    by false later = omega (arith, later)

positions_are : (named : List LogId) (logs : List LogState) → length logs < 256 → AllByRecursion LogBytes logs → AreBytes (reply_bytes (replies.Positions (ends_of named logs)))
positions_are named logs few are = (
  omega arith,
  (
    (let less = few_ends named logs in omega (arith, less, few)),
    flat_are position_bytes (λ (p : LogPosition). p.log.0 < 256) position_are (ends_of named logs) (ends_are named logs are),
  ),
)

-- ---- the table

filtered_are : (test : TableEntry → Bool) (entries : List TableEntry) → AllByRecursion EntryBytes entries → AllByRecursion EntryBytes (filter test entries)
filtered_are test [] are = tt
filtered_are test (entry ∷ entries) are = by (test entry) (filtered_are test entries are.1)
  where
    by : (t : Bool) → AllByRecursion EntryBytes (filter test entries) → AllByRecursion EntryBytes (if t then entry ∷ filter test entries else filter test entries)
    by true later = (are.0, later)
    by false later = later

put_are : (new : TableEntry) (entries : List TableEntry) → EntryBytes new → AllByRecursion EntryBytes entries → AllByRecursion EntryBytes (put_in new entries)
put_are new [] is are = (is, tt)
put_are new (entry ∷ entries) is are = by (is_before new.key entry.key) (put_are new entries is are.1)
  where
    by : (t : Bool) → AllByRecursion EntryBytes (put_in new entries) → AllByRecursion EntryBytes (if t then new ∷ entry ∷ entries else entry ∷ put_in new entries)
    by true later = (is, are)
    by false later = (are.0, later)

with_entry_are : (key value : List ℕ) (entries : List TableEntry) → AreBytes key → AreBytes value → AllByRecursion EntryBytes entries → AllByRecursion EntryBytes (with_entry key value entries)
with_entry_are key value entries first second are =
    put_are (record { key = key; value = value }) (without key entries) (first, second) (filtered_are (λ (entry : TableEntry). not (bytes_eq entry.key key)) entries are)

abbrev AreBytesOrNone : Option (List ℕ) → Type 0
AreBytesOrNone None = Unit {0}
AreBytesOrNone (Some bytes) = AreBytes bytes

value_of_are : (key : List ℕ) (entries : List TableEntry) → AllByRecursion EntryBytes entries → AreBytesOrNone (value_of key entries)
value_of_are key [] are = tt
value_of_are key (entry ∷ entries) are = by (bytes_eq entry.key key) (value_of_are key entries are.1)
  where
    by : (t : Bool) → AreBytesOrNone (value_of key entries) → AreBytesOrNone (if t then Some entry.value else value_of key entries)
    by true later = are.0.1
    by false later = later

value_are : (o : Option (List ℕ)) → AreBytesOrNone o → AreBytes (reply_bytes (value_or_absent o))
value_are None is = (omega arith, tt)
value_are (Some value) is = (omega arith, string_are value is)

front_are : (room : ℕ) (entries : List TableEntry) → AllByRecursion EntryBytes entries → AllByRecursion EntryBytes (front_within entry_size room entries)
front_are room [] are = tt
front_are room (entry ∷ entries) are = by (nat_le (entry_size entry) room) (front_are (room - entry_size entry) entries are.1)
  where
    by : (t : Bool) → AllByRecursion EntryBytes (front_within entry_size (room - entry_size entry) entries)
        → AllByRecursion EntryBytes (if t then entry ∷ front_within entry_size (room - entry_size entry) entries else [])
    by true later = (are.0, later)
    by false later = tt

flag_is : (more : Bool) → flag more < 256
flag_is true = omega arith
flag_is false = omega arith

page_are : (all : List TableEntry) → AllByRecursion EntryBytes all → AreBytes (reply_bytes (page_of all))
page_are all are =
    let front : List TableEntry = front_within entry_size (16384 - 4) all in (
      omega arith,
      (
        flag_is (nat_lt (length front) (length all)),
        join_are (u16_bytes (length front)) (flat_map table_entry_bytes front) (u16_are (length front)) (flat_are table_entry_bytes EntryBytes entry_are front (front_are (16384 - 4) all are)),
      ),
    )

-- ---- commands

record EffectBytes (effect : Effect) : Type 0 where
  logs : AllByRecursion LogBytes effect.logs
  table : AllByRecursion EntryBytes effect.table
  reply : AreBytes (reply_bytes effect.reply)

small : (n : ℕ) → n < 64 → n < 256
small n low = omega arith

module _ (logs : List LogState) (table : List TableEntry) (few : length logs < 256) (are : AllByRecursion LogBytes logs) (held : AllByRecursion EntryBytes table) where
  -- nothing changes
  told_are : (reply : Reply) → AreBytes (reply_bytes reply) → EffectBytes (told reply logs table)
  told_are reply is = record { logs = are; table = held; reply = is }

  done_are : (entries : List TableEntry) → AllByRecursion EntryBytes entries → EffectBytes (told replies.Done logs entries)
  done_are entries is = record { logs = are; table = is; reply = (omega arith, tt) }

  appending_are : (value : List ℕ) (named : List LogId) → AreBytes value → EffectBytes (record { logs = with_value value named logs; table = table; reply = replies.Positions (ends_of named logs) })
  appending_are value named is = record { logs = with_value_are value named logs is are; table = held; reply = positions_are named logs few are }

  effect_are : (c : Command) → AreBytes (command_bytes c) → EffectBytes (effect_of c logs table)
  unfolding effect_of
  effect_are (Append log value) is = appending_are value (log ∷ []) (string_was value is.1.1)
  effect_are (Multi named value) is = appending_are value named (string_was value (right_are (map (λ (log : LogId). log.0) named) (string16 value) is.1.1))
  effect_are (ReadLog log position) is = told_are (read_at position (log_at log logs)) (read_are position (log_at log logs) (log_at_are log logs is.1.0 are))
  effect_are (TrimLog log position) is = by (nat_lt (log_length (log_at log logs)) position)
    where
      at : LogBytes (log_at log logs)
      at = log_at_are log logs is.1.0 are

      by : (t : Bool) → EffectBytes (if t then told (replies.Beyond (log_length (log_at log logs))) logs table else told replies.Done (with_log (trimmed_to position (log_at log logs)) logs) table)
      by true = told_are (replies.Beyond (log_length (log_at log logs))) (omega arith, u64_are (log_length (log_at log logs)))
      by false = record {
        logs = with_log_are (trimmed_to position (log_at log logs)) logs (at.0, values_left (position - (log_at log logs).trim) (log_at log logs).values at.1) are;
        table = held;
        reply = (omega arith, tt);
      }
  effect_are (Get key) is = told_are (value_or_absent (value_of key table)) (value_are (value_of key table) (value_of_are key table held))
  effect_are (Scan from to) is = told_are (page_of (scanned from to table)) (page_are (scanned from to table) (filtered_are (λ (entry : TableEntry). is_within from to entry.key) table held))
  effect_are (Update key value) is = by (value_of key table)
    where
      by : (o : Option (List ℕ)) → EffectBytes (updating o key value logs table)
      by None = told_are replies.Absent (omega arith, tt)
      by (Some old) = done_are (with_entry key value table) (with_entry_are key value table (string_was key (left_are (string16 key) (string16 value) is.1)) (string_was value (right_are (string16 key) (string16 value) is.1)) held)
  effect_are (Insert key value) is = by (value_of key table)
    where
      by : (o : Option (List ℕ)) → EffectBytes (inserting o key value logs table)
      by None = done_are (with_entry key value table) (with_entry_are key value table (string_was key (left_are (string16 key) (string16 value) is.1)) (string_was value (right_are (string16 key) (string16 value) is.1)) held)
      by (Some old) = told_are replies.Exists (omega arith, tt)
  effect_are (Delete key) is = by (value_of key table)
    where
      by : (o : Option (List ℕ)) → EffectBytes (deleting o key logs table)
      by None = told_are replies.Absent (omega arith, tt)
      by (Some old) = done_are (without key table) (filtered_are (λ (entry : TableEntry). not (bytes_eq entry.key key)) table held)
  effect_are (Swap key old new) is = by (value_of key table) (value_of_are key table held)
    where
      key_is : AreBytes key
      key_is = string_was key (left_are (string16 key) (string16 old ++ string16 new) is.1)

      new_is : AreBytes new
      new_is = string_was new (right_are (string16 old) (string16 new) (right_are (string16 key) (string16 old ++ string16 new) is.1))

      by : (o : Option (List ℕ)) → AreBytesOrNone o → EffectBytes (swapping o key old new logs table)
      by None found = told_are replies.Absent (omega arith, tt)
      by (Some value) found = judged_by (bytes_eq value old)
        where
          judged_by : (t : Bool) → EffectBytes (if t then told replies.Done logs (with_entry key new table) else told (replies.Differs value) logs table)
          judged_by true = done_are (with_entry key new table) (with_entry_are key new table key_is new_is held)
          judged_by false = told_are (replies.Differs value) (omega arith, string_are value found)

  room_are : (effect : Effect) → EffectBytes effect → EffectBytes (where_room logs table effect)
  room_are effect is = by (has_no_room effect.logs effect.table)
    where
      by : (t : Bool) → EffectBytes (if t then told replies.Limit logs table else effect)
      by true = told_are replies.Limit (omega arith, tt)
      by false = is

-- ---- an entry

with_session_are : (new : Session) (sessions : List Session) → SessionBytes new → AllByRecursion SessionBytes sessions → AllByRecursion SessionBytes (with_session new sessions)
with_session_are new [] is are = (is, tt)
with_session_are new (session ∷ sessions) is are = by (nat_lt new.client.0 session.client.0) (new.client.0 == session.client.0) (with_session_are new sessions is are.1)
  where
    by : (t u : Bool) → AllByRecursion SessionBytes (with_session new sessions)
        → AllByRecursion SessionBytes (if t then new ∷ session ∷ sessions else if u then new ∷ sessions else session ∷ with_session new sessions)
    by true u later = (is, are)
    by false true later = (is, are.1)
    by false false later = (are.0, later)

module _ (p : PartitionTable) (r : Replica) (e : Entry) (few : length r.logs < 256) (given : IsGiven e) (is : HoldsBytes r) where
  taken_bytes : (c : Command) → AreBytes (command_bytes c) → HoldsBytes (taken r e c).replica
  taken_bytes c spelled =
      let made = room_are r.logs r.table few is.logs is.table (effect_of c r.logs r.table) (effect_are r.logs r.table few is.logs is.table c spelled) in
      record {
        sessions = with_session_are (record { client = e.client; seq = e.seq; reply = reply_bytes (where_room r.logs r.table (effect_of c r.logs r.table)).reply }) r.sessions
            (let low = given.client in omega arith, made.reply) is.sessions;
        logs = made.logs;
        table = made.table;
      }

  numbered_bytes : (c : Command) → AreBytes (command_bytes c) → (o : Option Session) → HoldsBytes (numbered r e c o).replica
  numbered_bytes c spelled None = taken_bytes c spelled
  numbered_bytes c spelled (Some session) = by (nat_lt session.seq e.seq) (session.seq == e.seq)
    where
      by : (t u : Bool) → HoldsBytes (if t then taken r e c else if u then given_again r session else passed_over r).replica
      by true u = taken_bytes c spelled
      by false true = is
      by false false = is

  judged_bytes : (x : Result Command CodecFault) → command_of e.command ≡ x → HoldsBytes (judged p r e x).replica
  judged_bytes (Err fault) h = is
  judged_bytes (Ok c) h = by (is_concerned c p)
    where
      spelled : AreBytes (command_bytes c)
      spelled = bytes_each (command_bytes c) (subst (λ (l : List ℕ). IsBytes l) (whole_was Command command_at command_bytes IsWhole command_law e.command c given.bytes h).0 given.bytes)

      by : (t : Bool) → HoldsBytes (if t then numbered r e c (session_at e.client r.sessions) else passed_over r).replica
      by true = numbered_bytes c spelled (session_at e.client r.sessions)
      by false = is

  apply_bytes : HoldsBytes (apply p r e).replica
  unfolding apply
  apply_bytes = judged_bytes (command_of e.command) refl

empty_holds : (ids : List LogId) → AreBelow ids → AllByRecursion LogBytes (map empty_log ids)
empty_holds [] low = tt
empty_holds (id ∷ ids) low = ((small id.0 low.0, tt), empty_holds ids low.1)

pub empty_bytes : (p : PartitionTable) → HasFewLogs p → HoldsBytes (empty_replica p)
empty_bytes p logs = record { sessions = tt; logs = empty_holds p.logs (below_of p.logs logs.low); table = tt }

-- ---- sound replicas

-- a partition has few logs, and so has a state of it
few_logs : (p : PartitionTable) (r : Replica) → HasFewLogs p → IsState p r → length r.logs < 256
few_logs p r logs is = let few = logs.few in omega (arith, same_many p.logs r.logs is.logs)

pub sound_from : (p : PartitionTable) (index : ℕ) (done : AppliedAll) (es : List Entry) → HasFewLogs p → AreGiven es → IsSound p done.replica → IsSound p (applies_from p index done es).replica
sound_from p index done [] logs given is = is
sound_from p index done (e ∷ es) logs given is =
    sound_from p (suc index) (with_applied index e done.replies (apply p done.replica e)) es logs given.1 (record {
      state = (apply_is p done.replica e logs given.0 is.state).state;
      bytes = apply_bytes p done.replica e (few_logs p done.replica logs is.state) given.0 is.bytes;
    })

pub sound_empty : (p : PartitionTable) → HasFewLogs p → IsSound p (empty_replica p)
sound_empty p logs = record { state = empty_is p logs; bytes = empty_bytes p logs }

pub sound_read : (p : PartitionTable) (bytes : List ℕ) (r : Replica) → IsBytes bytes → state_of p bytes ≡ Some r → IsSound p r
sound_read p bytes r are h =
    let was = some-was p bytes r are h in
    record { state = was.1; bytes = written_were r (bytes_each (state_bytes r) (subst (λ (l : List ℕ). IsBytes l) was.0 are)) }

pub sound_bytes : (p : PartitionTable) (r : Replica) → HasFewLogs p → IsSound p r → IsBytes (state_bytes r)
sound_bytes p r logs is = bytes_by (state_bytes r) (written_are r (few_logs p r logs is.state) is.bytes)

sessions_short : (least : ℕ) (sessions : List Session) → AreSessions least sessions → length (flat_map session_bytes sessions) ≤ 16397 * length sessions
sessions_short least [] are = omega arith
sessions_short least (session ∷ sessions) are =
    let short = are.0.reply.short in
    let later = sessions_short (session.client.0 + 1) sessions are.1 in
    omega (
      arith,
      short,
      later,
      ap (λ (l : List ℕ). length l) (flat_map-cons session_bytes session sessions),
      length-append (session_bytes session) (flat_map session_bytes sessions),
      length-append (u64_bytes session.seq ++ u32_bytes (length session.reply)) session.reply,
      length-append (u64_bytes session.seq) (u32_bytes (length session.reply)),
      length-u64_bytes session.seq,
      wide32.wide (length session.reply),
    )

pub sound_short : (p : PartitionTable) (r : Replica) → IsSound p r → length (state_bytes r) < 2 ^ 64
unfolding state_bytes
sound_short p r is =
    let most = few_sessions 0 r.sessions (omega arith) is.state.sessions in
    let size = is.state.small in
    omega (
      arith,
      most,
      size,
      sessions_short 0 r.sessions is.state.sessions,
      services-written r.logs r.table,
      length-append (logs_bytes r.logs) (table_bytes r.table),
      length-append (sessions_bytes r.sessions ++ logs_bytes r.logs) (table_bytes r.table),
      length-append (sessions_bytes r.sessions) (logs_bytes r.logs),
      length-append (u16_bytes (length r.sessions)) (flat_map session_bytes r.sessions),
      length-u16_bytes (length r.sessions),
    )
