-- The replies of the services are replies, and short.
use Rattle.std.proofs.Common.{lit≤, arith, ◌≤◌, ◌<◌, ℕ, zero, suc, ◌-◌, ◌*◌, ◌^◌, nat_lt, nat_le, Bool, true, false, if◌then◌else◌, List, [], ◌∷◌, length, Option, Some, None, refl, ap, IsTrue, length-append}
use Rattle.std.specs.Prelude.{slice_get, bytes_eq}
use Rattle.std.specs.List.{AllByRecursion, flat_map, cons_option}
use Rattle.std.proofs.lemmas.List.Concat.{flat_map-cons}
use Rattle.mrp_types.specs.declared.id.LogId.{LogId}
use Rattle.command_codec.specs.declared.command.Command.{Command}
use Rattle.command_codec.specs.declared.command.Command.TheVariants.{Append, Multi, ReadLog, TrimLog, Get, Scan, Update, Insert, Delete, Swap}
use Rattle.command_codec.specs.declared.reply.LogPosition.{LogPosition}
use Rattle.command_codec.specs.declared.reply.TableEntry.{TableEntry}
use Rattle.command_codec.specs.declared.reply.Reply.{Reply}
use Rattle.command_codec.specs.declared.reply.Reply.TheVariants as replies
use Rattle.command_codec.specs.Grammar.{comes_after, reply_at}
use Rattle.command_codec.specs.Replies.{reply_bytes, position_bytes, IsPosition, IsTableEntry, keys_rise}
use Rattle.command_codec.specs.Valid.{IsCommand, IsStored}
use Rattle.command_codec.proofs.Combined.{whole_again}
use Rattle.command_codec.proofs.ReplyLaws.{IsWhole, reply_law}
use Rattle.command_codec.proofs.Sizes.{length-u64_bytes, length-string16}
use Rattle.mrp_config.specs.Config.{has_log}
use Rattle.mrp_config.specs.Routing.{is_within}
use Rattle.plain_model.specs.Pages.{front_within}
use Rattle.plain_model.specs.Replicas.{LogState, Effect, log_length, log_at, ends_of, read_at, value_of, value_or_absent, entry_size, page_of, scanned, effect_of, told, trimmed_to, with_log, updating, inserting, deleting, swapping, with_entry}
use Rattle.plain_model.specs.StateBytes.{was_reply}
use Rattle.plain_model.proofs.Pages.{front-longest}
use Rattle.plain_model.proofs.SizeLaws.{page-short}
use Rattle.plain_model.proofs.TupleOrder.{both_true}
use Rattle.state_laws.specs.Spoken.{IsSpoken, IsReplyText}
use Rattle.state_laws.specs.States.{IsShort, IsLog, AreLogsOf, AreRisingAfter}
use Rattle.state_laws.proofs.Written.{few_entries}
use Rattle.state_laws.proofs.Tables.{filter_rises, IsStoredOrNone, value_stored, with_entry_rises, without_rises}
use Rattle.state_laws.proofs.Logs.{AreShaped, shaped, with_value_shaped, with_log_shaped, trimmed_short, log_at_is}

some_bytes : (reply : Reply) → 1 ≤ length (reply_bytes reply)
some_bytes (replies.Positions positions) = omega arith
some_bytes (replies.Value value) = omega arith
some_bytes (replies.Trimmed trim) = omega arith
some_bytes replies.Absent = omega arith
some_bytes (replies.Beyond length) = omega arith
some_bytes replies.Exists = omega arith
some_bytes replies.Done = omega arith
some_bytes (replies.Entries more entries) = omega arith
some_bytes replies.Limit = omega arith
some_bytes (replies.Differs value) = omega arith

pub spoken_text : (reply : Reply) → IsSpoken reply → IsReplyText (reply_bytes reply)
spoken_text reply is = record {
  some = some_bytes reply;
  short = is.short;
  spelled = ap was_reply (whole_again Reply reply_at reply_bytes IsWhole reply_law reply (is.valid, is.numbers));
}

-- ---- logs

abbrev pub AreBelow : List LogId → Type 0
AreBelow ids = AllByRecursion (λ (id : LogId). id.0 < 64) ids

abbrev pub IsEnd : LogPosition → Type 0
IsEnd p = (p.log.0 < 64) × (p.position < 2 ^ 64)

record AreEnds (ids : List LogId) (ends : List LogPosition) : Type 0 where
  each : AllByRecursion IsEnd ends
  few : length ends ≤ length ids
  short : length (flat_map position_bytes ends) ≤ 9 * length ids

no_more : (id : LogId) (ids : List LogId) (ends : List LogPosition) → AreEnds ids ends → AreEnds (id ∷ ids) ends
no_more id ids ends are = record {
  each = are.each;
  few = let few = are.few in omega arith;
  short = let short = are.short in omega arith;
}

one_more : (id : LogId) (ids : List LogId) (end : LogPosition) (ends : List LogPosition) → IsEnd end → AreEnds ids ends → AreEnds (id ∷ ids) (end ∷ ends)
one_more id ids end ends is are = record {
  each = (is, are.each);
  few = let few = are.few in omega arith;
  short = let short = are.short in omega (
    arith,
    ap (λ (x : List ℕ). length x) (flat_map-cons position_bytes end ends),
    length-append (position_bytes end) (flat_map position_bytes ends),
    length-u64_bytes end.position,
  );
}

ends_are : (named ids : List LogId) (logs : List LogState) → AreBelow ids → AreLogsOf ids logs → AreEnds ids (ends_of named logs)
ends_are named [] [] below are = record { each = tt; few = omega arith; short = omega arith }
ends_are named [] (log ∷ logs) below are = absurd are
ends_are named (id ∷ ids) [] below are = absurd are
ends_are named (id ∷ ids) (log ∷ logs) below are = by (has_log named log.id.0) (ends_are named ids logs below.1 are.2)
  where
    by : (t : Bool) → AreEnds ids (ends_of named logs) →
        AreEnds (id ∷ ids) (cons_option (if t then Some (record { log = log.id; position = log_length log }) else None) (ends_of named logs))
    by true later = one_more id ids (record { log = log.id; position = log_length log }) (ends_of named logs)
        (let low = below.0 in omega (arith, are.0), let few = are.1.few in omega arith) later
    by false later = no_more id ids (ends_of named logs) later

positions_below : (ends : List LogPosition) → AllByRecursion IsEnd ends → AllByRecursion IsPosition ends
positions_below [] each = tt
positions_below (end ∷ ends) each = (each.0.0, positions_below ends each.1)

positions_small : (ends : List LogPosition) → AllByRecursion IsEnd ends → AllByRecursion (λ (p : LogPosition). p.position < 2 ^ 64) ends
positions_small [] each = tt
positions_small (end ∷ ends) each = (each.0.1, positions_small ends each.1)

positions_spoken : (named ids : List LogId) (logs : List LogState) → length ids ≤ 64 → AreBelow ids → AreLogsOf ids logs → IsSpoken (replies.Positions (ends_of named logs))
positions_spoken named ids logs few below are =
    let ends = ends_are named ids logs below are in
    let many = ends.few in
    let size = ends.short in
    record {
      valid = record { few = omega arith; each = positions_below (ends_of named logs) ends.each };
      numbers = positions_small (ends_of named logs) ends.each;
      short = omega arith;
    }

value_spoken : (o : Option (List ℕ)) → IsStoredOrNone o → IsSpoken (value_or_absent o)
value_spoken None is = record { valid = tt; numbers = tt; short = lit≤ tt }
value_spoken (Some value) is = record { valid = is; numbers = tt; short = omega (arith, length-string16 value, is) }

differs_spoken : (value : List ℕ) → IsStored value → IsSpoken (replies.Differs value)
differs_spoken value is = record { valid = is; numbers = tt; short = omega (arith, length-string16 value, is) }

got_stored : (values : List (List ℕ)) (i : ℕ) → AllByRecursion IsShort values → IsStoredOrNone (slice_get values i)
got_stored [] i each = tt
got_stored (value ∷ values) zero each = each.0
got_stored (value ∷ values) (suc i) each = got_stored values i each.1

read_spoken : (position : ℕ) (log : LogState) → IsLog log → IsSpoken (read_at position log)
read_spoken position log is = by (nat_lt position log.trim) (nat_le (log_length log) position)
  where
    few : log_length log ≤ 2 ^ 63
    few = is.few

    by : (t u : Bool) → IsSpoken (if t then replies.Trimmed log.trim else if u then replies.Beyond (log_length log) else value_or_absent (slice_get log.values (position - log.trim)))
    by true u = record { valid = tt; numbers = omega (arith, few); short = omega (arith, length-u64_bytes log.trim) }
    by false true = record { valid = tt; numbers = omega (arith, few); short = omega (arith, length-u64_bytes (log_length log)) }
    by false false = value_spoken (slice_get log.values (position - log.trim)) (got_stored log.values (position - log.trim) is.values)

beyond_spoken : (log : LogState) → IsLog log → IsSpoken (replies.Beyond (log_length log))
beyond_spoken log is = let few = is.few in record { valid = tt; numbers = omega arith; short = omega (arith, length-u64_bytes (log_length log)) }

-- ---- pages

each_entry : (before : List ℕ) (entries : List TableEntry) → AreRisingAfter before entries → AllByRecursion IsTableEntry entries
each_entry before [] are = tt
each_entry before (entry ∷ entries) are = (are.0, each_entry entry.key entries are.2)

rising_keys : (before : List ℕ) (entries : List TableEntry) → AreRisingAfter before entries → IsTrue (keys_rise before entries)
rising_keys before [] are = refl
rising_keys before (entry ∷ entries) are = both_true (comes_after before entry.key) (keys_rise entry.key entries) are.1 (rising_keys entry.key entries are.2)

front_rises : (room : ℕ) (before : List ℕ) (entries : List TableEntry) → AreRisingAfter before entries → AreRisingAfter before (front_within entry_size room entries)
front_rises room before [] are = tt
front_rises room before (entry ∷ entries) are = by (nat_le (entry_size entry) room) (front_rises (room - entry_size entry) entry.key entries are.2)
  where
    by : (t : Bool) → AreRisingAfter entry.key (front_within entry_size (room - entry_size entry) entries) →
        AreRisingAfter before (if t then entry ∷ front_within entry_size (room - entry_size entry) entries else [])
    by true later = (are.0, are.1, later)
    by false later = tt

page_spoken : (all : List TableEntry) → AreRisingAfter [] all → IsSpoken (page_of all)
page_spoken all are =
    let front : List TableEntry = front_within entry_size (16384 - 4) all in
    let rises = front_rises (16384 - 4) [] all are in
    let fits = (front-longest entry_size (16384 - 4) all).fits in
    record {
      valid = record { few = omega (arith, few_entries front); each = each_entry [] front rises; rising = rising_keys [] front rises };
      numbers = tt;
      short = page-short all;
    }

-- ---- commands

plain_spoken : IsSpoken replies.Absent × IsSpoken replies.Exists × IsSpoken replies.Done × IsSpoken replies.Limit
plain_spoken = (
  record { valid = tt; numbers = tt; short = omega arith },
  record { valid = tt; numbers = tt; short = omega arith },
  record { valid = tt; numbers = tt; short = omega arith },
  record { valid = tt; numbers = tt; short = omega arith },
)

pub limit_spoken : IsSpoken replies.Limit
limit_spoken = plain_spoken.3

-- what an effect leaves, and its reply
pub record IsEffect (ids : List LogId) (effect : Effect) : Type 0 where
  pub logs : AreShaped ids effect.logs
  pub table : AreRisingAfter [] effect.table
  pub reply : IsSpoken effect.reply

pub effect_is : (c : Command) (ids : List LogId) (logs : List LogState) (table : List TableEntry) → IsCommand c → length ids ≤ 64 → AreBelow ids → AreLogsOf ids logs → AreRisingAfter [] table →
    IsEffect ids (effect_of c logs table)
unfolding effect_of
effect_is (Append log value) ids logs table is few below are rising = record {
  logs = with_value_shaped value (log ∷ []) ids logs is.1 (shaped ids logs are);
  table = rising;
  reply = positions_spoken (log ∷ []) ids logs few below are;
}
effect_is (Multi named value) ids logs table is few below are rising = record {
  logs = with_value_shaped value named ids logs is.1 (shaped ids logs are);
  table = rising;
  reply = positions_spoken named ids logs few below are;
}
effect_is (ReadLog log position) ids logs table is few below are rising = record {
  logs = shaped ids logs are;
  table = rising;
  reply = read_spoken position (log_at log logs) (log_at_is log ids logs are);
}
effect_is (TrimLog log position) ids logs table is few below are rising = by (nat_lt (log_length (log_at log logs)) position)
  where
    by : (t : Bool) → IsEffect ids (if t then told (replies.Beyond (log_length (log_at log logs))) logs table else told replies.Done (with_log (trimmed_to position (log_at log logs)) logs) table)
    by true = record { logs = shaped ids logs are; table = rising; reply = beyond_spoken (log_at log logs) (log_at_is log ids logs are) }
    by false = record {
      logs = with_log_shaped (trimmed_to position (log_at log logs)) ids logs (trimmed_short position (log_at log logs) (log_at_is log ids logs are).values) (shaped ids logs are);
      table = rising;
      reply = plain_spoken.2;
    }
effect_is (Get key) ids logs table is few below are rising = record {
  logs = shaped ids logs are;
  table = rising;
  reply = value_spoken (value_of key table) (value_stored key [] table rising);
}
effect_is (Scan from to) ids logs table is few below are rising = record {
  logs = shaped ids logs are;
  table = rising;
  reply = page_spoken (scanned from to table) (filter_rises (λ (entry : TableEntry). is_within from to entry.key) [] table rising);
}
effect_is (Update key value) ids logs table is few below are rising = by (value_of key table)
  where
    by : (o : Option (List ℕ)) → IsEffect ids (updating o key value logs table)
    by None = record { logs = shaped ids logs are; table = rising; reply = plain_spoken.0 }
    by (Some old) = record { logs = shaped ids logs are; table = with_entry_rises key value table is.0 is.1 rising; reply = plain_spoken.2 }
effect_is (Insert key value) ids logs table is few below are rising = by (value_of key table)
  where
    by : (o : Option (List ℕ)) → IsEffect ids (inserting o key value logs table)
    by None = record { logs = shaped ids logs are; table = with_entry_rises key value table is.0 is.1 rising; reply = plain_spoken.2 }
    by (Some old) = record { logs = shaped ids logs are; table = rising; reply = plain_spoken.1 }
effect_is (Delete key) ids logs table is few below are rising = by (value_of key table)
  where
    by : (o : Option (List ℕ)) → IsEffect ids (deleting o key logs table)
    by None = record { logs = shaped ids logs are; table = rising; reply = plain_spoken.0 }
    by (Some old) = record { logs = shaped ids logs are; table = without_rises key [] table rising; reply = plain_spoken.2 }
effect_is (Swap key old new) ids logs table is few below are rising = by (value_of key table) (value_stored key [] table rising)
  where
    by : (o : Option (List ℕ)) → IsStoredOrNone o → IsEffect ids (swapping o key old new logs table)
    by None stored = record { logs = shaped ids logs are; table = rising; reply = plain_spoken.0 }
    by (Some value) stored = judged (bytes_eq value old)
      where
        judged : (t : Bool) → IsEffect ids (if t then told replies.Done logs (with_entry key new table) else told (replies.Differs value) logs table)
        judged true = record { logs = shaped ids logs are; table = with_entry_rises key new table is.0 is.2 rising; reply = plain_spoken.2 }
        judged false = record { logs = shaped ids logs are; table = rising; reply = differs_spoken value stored }
