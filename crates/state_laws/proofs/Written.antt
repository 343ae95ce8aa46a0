-- A state that is valid is read as it is written.
use Rattle.std.proofs.Common.{lit<, arith, ◌≡◌, ◌≤◌, ◌<◌, ℕ, suc, ◌+◌, ◌-◌, ◌*◌, ◌^◌, nat_lt, false, List, [], ◌∷◌, ◌++◌, length, Some, Ok, refl, sym, ap, subst, ◌∙◌, append_assoc, append-nil, IsTrue, length-append}
use Rattle.std.specs.Int.{w16, w32, w64}
use Rattle.std.specs.List.{flat_map, sum_by, AllByRecursion}
use Rattle.std.proofs.lemmas.Bool.{le-ltb}
use Rattle.std.proofs.lemmas.List.Concat.{flat_map-cons}
use Rattle.std.proofs.lemmas.List.Sums.{sum_by-cons}
use Rattle.mrp_types.specs.declared.id.LogId.{LogId}
use Rattle.command_codec.specs.declared.reply.TableEntry.{TableEntry}
use Rattle.command_codec.specs.Fields.{u16_bytes, u32_bytes, u64_bytes, string16}
use Rattle.command_codec.specs.Grammar.{comes_after, stored_at, table_entry_at, key_of}
use Rattle.mrp_types.specs.Reading.{follow, both}
use Rattle.command_codec.specs.Reader.{byte_at, number_at, within, string_at, string_that, start}
use Rattle.command_codec.specs.Replies.{table_entry_bytes}
use Rattle.command_codec.proofs.ReaderLaws.{HasLength, one_byte, wide16, wide32, wide64}
use Rattle.command_codec.proofs.Combined.{AllInChain, in_chain, counted_text}
use Rattle.command_codec.proofs.ReplyLaws.{IsLater}
use Rattle.mrp_config.specs.declared.tables.PartitionTable.{PartitionTable}
use Rattle.plain_model.specs.Replicas.{Session, LogState, Replica, entry_size}
use Rattle.plain_model.specs.StateBytes.{session_bytes, log_bytes, sessions_bytes, logs_bytes, table_bytes, state_bytes, kept_reply_at, session_with, session_at_least, after_client, sessions_at, values_after, log_with, this_log_at, these_logs_at, without_count, logs_at, table_at, Sections, sections_at, where_small, state_at, whole_state, read_state, state_of, if_read}
use Rattle.plain_model.proofs.SizeLaws.{services-written}
use Rattle.state_laws.specs.Spoken.{IsReplyText}
use Rattle.state_laws.specs.States.{IsSession, AreSessions, IsShort, IsLog, AreLogsOf, AreRisingAfter, IsState}
use Rattle.state_laws.proofs.Going.{Goes, byte_goes, number_goes, range_goes, string_goes, string_that_goes, bytes_goes, follow_goes, both_goes, shown_goes, counted_goes}

-- ---- sessions

abbrev pub reply_text : List ℕ → List ℕ
reply_text reply = u32_bytes (length reply) ++ reply

pub kept_goes : Goes (List ℕ) kept_reply_at reply_text IsReplyText
unfolding kept_reply_at
kept_goes value at tail is =
    let n = range_goes w32 (2 ^ 32) u32_bytes 1 16384 wide32 (length value) at (value ++ tail) (omega (arith, is.short), is.some, is.short) in
    let b = bytes_goes value (at + length (u32_bytes (length value))) tail in
    let text : reply_text value ++ tail ≡ u32_bytes (length value) ++ (value ++ tail) = append_assoc (u32_bytes (length value)) value tail in
    let behind : (at + length (u32_bytes (length value))) + length value ≡ at + length (reply_text value) = omega (arith, length-append (u32_bytes (length value)) value) in
    subst (λ (k : ℕ). kept_reply_at (record { at = at; rest = reply_text value ++ tail }) ≡ Ok (value, record { at = k; rest = tail })) behind
    (rw (text, n, b, is.spelled) refl)

abbrev pub numbered_text : ℕ × List ℕ → List ℕ
numbered_text v = u64_bytes v.0 ++ reply_text v.1

abbrev pub session_text : ℕ × (ℕ × List ℕ) → List ℕ
session_text v = one_byte v.0 ++ numbered_text v.1

abbrev pub session_parts : Session → ℕ × (ℕ × List ℕ)
session_parts session = (session.client.0, (session.seq, session.reply))

abbrev pub IsNumbered : ℕ → Type 0
IsNumbered n = (n < 2 ^ 64) × (1 ≤ n) × (n ≤ 2 ^ 63 - 1)

session_goes : (least : ℕ) → Goes Session (session_at_least least) session_bytes (IsSession least)
unfolding session_at_least
session_goes least =
    shown_goes (ℕ × (ℕ × List ℕ)) Session session_with session_parts (both (within least 255 byte_at) (both (within 1 (2 ^ 63 - 1) (number_at w64)) kept_reply_at)) session_text session_bytes
    (λ v. (Unit {0} × (least ≤ v.0) × (v.0 ≤ 255)) × (IsNumbered v.1.0 × IsReplyText v.1.1)) (IsSession least)
    (both_goes ℕ (ℕ × List ℕ) (within least 255 byte_at) (both (within 1 (2 ^ 63 - 1) (number_at w64)) kept_reply_at) one_byte numbered_text
    (λ n. Unit {0} × (least ≤ n) × (n ≤ 255)) (λ v. IsNumbered v.0 × IsReplyText v.1) (byte_goes least 255)
    (both_goes ℕ (List ℕ) (within 1 (2 ^ 63 - 1) (number_at w64)) kept_reply_at u64_bytes reply_text IsNumbered IsReplyText
    (range_goes w64 (2 ^ 64) u64_bytes 1 (2 ^ 63 - 1) wide64) kept_goes))
    (λ session. ap (λ (x : List ℕ). session.client.0 ∷ x) (append_assoc (u64_bytes session.seq) (u32_bytes (length session.reply)) session.reply)) (λ session. refl)
    (λ session is. ((tt, is.rising, is.client), ((omega (arith, is.numbered), is.asked, is.numbered), is.reply)))

sessions_chain : (least : ℕ) (sessions : List Session) → AreSessions least sessions → AllInChain IsSession after_client least sessions
sessions_chain least [] are = tt
sessions_chain least (session ∷ sessions) are = (are.0, sessions_chain (session.client.0 + 1) sessions are.1)

pub few_sessions : (least : ℕ) (sessions : List Session) → least ≤ 256 → AreSessions least sessions → length sessions + least ≤ 256
few_sessions least [] most are = omega (arith, most)
few_sessions least (session ∷ sessions) most are =
    omega (arith, are.0.rising, are.0.client, few_sessions (session.client.0 + 1) sessions (omega (arith, are.0.client)) are.1)

sessions_goes : Goes (List Session) sessions_at sessions_bytes (AreSessions 0)
sessions_goes sessions at tail are =
    counted_goes ℕ Session (number_at w16) u16_bytes (λ n. n < 2 ^ 16) (number_goes w16 (2 ^ 16) u16_bytes wide16)
    session_at_least after_client session_bytes IsSession session_goes 0 sessions at tail
    (omega (arith, few_sessions 0 sessions (omega arith) are), sessions_chain 0 sessions are)

-- ---- logs

abbrev pub values_text : List (List ℕ) → List ℕ
values_text values = counted_text u64_bytes string16 values

abbrev pub AreValuesAfter : ℕ → List (List ℕ) → Type 0
AreValuesAfter trim values = ((length values < 2 ^ 64) × (0 ≤ length values) × (length values ≤ 2 ^ 63 - trim)) × AllInChain {S = ℕ} (λ _. HasLength 0 2048) (λ _. 0) 0 values

values_goes : (trim : ℕ) → Goes (List (List ℕ)) (values_after trim) values_text (AreValuesAfter trim)
values_goes trim =
    counted_goes ℕ (List ℕ) (within 0 (2 ^ 63 - trim) (number_at w64)) u64_bytes (λ n. (n < 2 ^ 64) × (0 ≤ n) × (n ≤ 2 ^ 63 - trim)) (range_goes w64 (2 ^ 64) u64_bytes 0 (2 ^ 63 - trim) wide64)
    (λ _. string_at 0 2048) (λ _. 0) string16 (λ _. HasLength 0 2048) (λ _. string_goes 0 2048 (lit< tt)) 0

abbrev pub trimmed_text : ℕ × List (List ℕ) → List ℕ
trimmed_text v = u64_bytes v.0 ++ values_text v.1

abbrev pub log_text : ℕ × (ℕ × List (List ℕ)) → List ℕ
log_text v = one_byte v.0 ++ trimmed_text v.1

abbrev pub log_parts : LogState → ℕ × (ℕ × List (List ℕ))
log_parts log = (log.id.0, (log.trim, log.values))

abbrev pub IsTrim : ℕ → Type 0
IsTrim n = (n < 2 ^ 64) × (0 ≤ n) × (n ≤ 2 ^ 63)

pub short_values : (values : List (List ℕ)) → AllByRecursion IsShort values → AllByRecursion (HasLength 0 2048) values
short_values [] each = tt
short_values (value ∷ values) each = ((omega arith, each.0), short_values values each.1)

log_goes : (id : LogId) → Goes LogState (this_log_at id) log_bytes (λ log. (log.id.0 ≡ id.0) × IsLog log)
unfolding this_log_at
log_goes id =
    shown_goes (ℕ × (ℕ × List (List ℕ))) LogState log_with log_parts (both (within id.0 id.0 byte_at) (follow (within 0 (2 ^ 63) (number_at w64)) values_after)) log_text log_bytes
    (λ v. (Unit {0} × (id.0 ≤ v.0) × (v.0 ≤ id.0)) × (IsTrim v.1.0 × AreValuesAfter v.1.0 v.1.1)) (λ log. (log.id.0 ≡ id.0) × IsLog log)
    (both_goes ℕ (ℕ × List (List ℕ)) (within id.0 id.0 byte_at) (follow (within 0 (2 ^ 63) (number_at w64)) values_after) one_byte trimmed_text
    (λ n. Unit {0} × (id.0 ≤ n) × (n ≤ id.0)) (λ v. IsTrim v.0 × AreValuesAfter v.0 v.1) (byte_goes id.0 id.0)
    (follow_goes ℕ (List (List ℕ)) (within 0 (2 ^ 63) (number_at w64)) values_after u64_bytes values_text IsTrim AreValuesAfter
    (range_goes w64 (2 ^ 64) u64_bytes 0 (2 ^ 63) wide64) values_goes))
    (λ log. ap (λ (x : List ℕ). log.id.0 ∷ x) (append_assoc (u64_bytes log.trim) (u64_bytes (length log.values)) (flat_map string16 log.values))) (λ log. refl)
    (λ log is. (
      (tt, omega (arith, is.0), omega (arith, is.0)),
      (
        (omega (arith, is.1.few), omega arith, omega (arith, is.1.few)),
        ((omega (arith, is.1.few), omega arith, omega (arith, is.1.few)), in_chain (HasLength 0 2048) log.values (short_values log.values is.1.values)),
      ),
    ))

pub these_goes : (ids : List LogId) → Goes (List LogState) (these_logs_at ids) (λ logs. flat_map log_bytes logs) (AreLogsOf ids)
these_goes [] [] at tail are =
    let same : at ≡ at + length (flat_map log_bytes []) = omega arith in
    subst (λ (n : ℕ). these_logs_at [] (record { at = at; rest = tail }) ≡ Ok ([], record { at = n; rest = tail })) same refl
these_goes [] (log ∷ logs) at tail are = absurd are
these_goes (id ∷ ids) [] at tail are = absurd are
these_goes (id ∷ ids) (log ∷ logs) at tail are =
    let p = log_goes id log at (flat_map log_bytes logs ++ tail) (are.0, are.1) in
    let q = these_goes ids logs (at + length (log_bytes log)) tail are.2 in
    let parts : flat_map log_bytes (log ∷ logs) ++ tail ≡ log_bytes log ++ (flat_map log_bytes logs ++ tail) =
    ap (λ (x : List ℕ). x ++ tail) (flat_map-cons log_bytes log logs) ∙ append_assoc (log_bytes log) (flat_map log_bytes logs) tail in
    let behind : (at + length (log_bytes log)) + length (flat_map log_bytes logs) ≡ at + length (flat_map log_bytes (log ∷ logs)) =
    omega (arith, length-append (log_bytes log) (flat_map log_bytes logs), ap (λ (x : List ℕ). length x) (flat_map-cons log_bytes log logs)) in
    subst (λ (n : ℕ). these_logs_at (id ∷ ids) (record { at = at; rest = flat_map log_bytes (log ∷ logs) ++ tail }) ≡ Ok (log ∷ logs, record { at = n; rest = tail })) behind
    (ap (λ (r : List ℕ). these_logs_at (id ∷ ids) (record { at = at; rest = r })) parts ∙ rw (p, q) refl)

pub same_many : (ids : List LogId) (logs : List LogState) → AreLogsOf ids logs → length logs ≡ length ids
same_many [] [] are = refl
same_many [] (log ∷ logs) are = absurd are
same_many (id ∷ ids) [] are = absurd are
same_many (id ∷ ids) (log ∷ logs) are = ap suc (same_many ids logs are.2)

abbrev pub counted_logs_text : ℕ × List LogState → List ℕ
counted_logs_text v = one_byte v.0 ++ flat_map log_bytes v.1

logs_goes : (ids : List LogId) → Goes (List LogState) (logs_at ids) logs_bytes (AreLogsOf ids)
logs_goes ids =
    shown_goes (ℕ × List LogState) (List LogState) without_count (λ logs. (length logs, logs)) (both (within (length ids) (length ids) byte_at) (these_logs_at ids)) counted_logs_text logs_bytes
    (λ v. (Unit {0} × (length ids ≤ v.0) × (v.0 ≤ length ids)) × AreLogsOf ids v.1) (AreLogsOf ids)
    (both_goes ℕ (List LogState) (within (length ids) (length ids) byte_at) (these_logs_at ids) one_byte (λ logs. flat_map log_bytes logs)
    (λ n. Unit {0} × (length ids ≤ n) × (n ≤ length ids)) (AreLogsOf ids) (byte_goes (length ids) (length ids)) (these_goes ids))
    (λ logs. refl) (λ logs. refl)
    (λ logs are. ((tt, omega (arith, same_many ids logs are), omega (arith, same_many ids logs are)), are))

-- ---- the table

abbrev pub entry_text : List ℕ × List ℕ → List ℕ
entry_text v = string16 v.0 ++ string16 v.1

entry_goes : (before : List ℕ) → Goes TableEntry (table_entry_at before) table_entry_bytes (IsLater before)
unfolding table_entry_at
entry_goes before =
    shown_goes (List ℕ × List ℕ) TableEntry (λ x. record { key = x.0; value = x.1 }) (λ e. (e.key, e.value)) (both (string_that 1 256 (comes_after before)) stored_at) entry_text table_entry_bytes
    (λ v. (HasLength 1 256 v.0 × IsTrue (comes_after before v.0)) × HasLength 0 2048 v.1) (IsLater before)
    (both_goes (List ℕ) (List ℕ) (string_that 1 256 (comes_after before)) stored_at string16 string16 (λ k. HasLength 1 256 k × IsTrue (comes_after before k)) (HasLength 0 2048)
    (string_that_goes 1 256 (comes_after before) (lit< tt)) (string_goes 0 2048 (lit< tt)))
    (λ e. refl) (λ e. refl) (λ e is. ((is.0.0, is.1), (omega arith, is.0.1)))

rising_chain : (before : List ℕ) (entries : List TableEntry) → AreRisingAfter before entries → AllInChain IsLater key_of before entries
rising_chain before [] are = tt
rising_chain before (entry ∷ entries) are = ((are.0, are.1), rising_chain entry.key entries are.2)

pub few_entries : (entries : List TableEntry) → length entries * 4 ≤ sum_by entry_size entries
few_entries [] = omega arith
few_entries (entry ∷ entries) = omega (arith, sum_by-cons entry_size entry entries, few_entries entries)

table_goes : (entries : List TableEntry) (at : ℕ) (tail : List ℕ) → AreRisingAfter [] entries → length entries < 2 ^ 64 →
    table_at (record { at = at; rest = table_bytes entries ++ tail }) ≡ Ok (entries, record { at = at + length (table_bytes entries); rest = tail })
table_goes entries at tail are few =
    counted_goes (List ℕ) TableEntry (number_at w64) u64_bytes (λ n. n < 2 ^ 64) (number_goes w64 (2 ^ 64) u64_bytes wide64)
    table_entry_at key_of table_entry_bytes IsLater entry_goes [] entries at tail (few, rising_chain [] entries are)

-- ---- the whole

-- where the sections stand
abbrev pub sections_of : Replica → ℕ → Sections
sections_of r at = record {
  replica = r;
  logs_begin = at + length (sessions_bytes r.sessions);
  table_begins = (at + length (sessions_bytes r.sessions)) + length (logs_bytes r.logs);
}

abbrev pub end_of : Replica → ℕ → ℕ
end_of r at = ((at + length (sessions_bytes r.sessions)) + length (logs_bytes r.logs)) + length (table_bytes r.table)

pub sections_go : (p : PartitionTable) (r : Replica) (at : ℕ) (tail : List ℕ) → AreSessions 0 r.sessions → AreLogsOf p.logs r.logs → AreRisingAfter [] r.table → length r.table < 2 ^ 64 →
    sections_at p (record { at = at; rest = state_bytes r ++ tail }) ≡ Ok (sections_of r at, record { at = end_of r at; rest = tail })
unfolding state_bytes
sections_go p r at tail sessions logs table few =
    let s = sessions_goes r.sessions at (logs_bytes r.logs ++ (table_bytes r.table ++ tail)) sessions in
    let l = logs_goes p.logs r.logs (at + length (sessions_bytes r.sessions)) (table_bytes r.table ++ tail) logs in
    let t = table_goes r.table ((at + length (sessions_bytes r.sessions)) + length (logs_bytes r.logs)) tail table few in
    let parts : state_bytes r ++ tail ≡ sessions_bytes r.sessions ++ (logs_bytes r.logs ++ (table_bytes r.table ++ tail)) =
    append_assoc (sessions_bytes r.sessions ++ logs_bytes r.logs) (table_bytes r.table) tail
    ∙ append_assoc (sessions_bytes r.sessions) (logs_bytes r.logs) (table_bytes r.table ++ tail) in
    ap (λ (x : List ℕ). sections_at p (record { at = at; rest = x })) parts ∙ rw (s, l, t) refl

sections_goes : (p : PartitionTable) (r : Replica) (at : ℕ) (tail : List ℕ) → IsState p r →
    sections_at p (record { at = at; rest = state_bytes r ++ tail }) ≡ Ok (sections_of r at, record { at = end_of r at; rest = tail })
sections_goes p r at tail is =
    let small = is.small in
    sections_go p r at tail is.sessions is.logs is.table (omega (arith, few_entries r.table))

small_goes : (p : PartitionTable) (r : Replica) (at : ℕ) → IsState p r → where_small (end_of r at) (sections_of r at) ≡ Ok r
small_goes p r at is =
    let size = services-written r.logs r.table in
    let small = is.small in
    let fits : nat_lt 67108864 (end_of r at - (at + length (sessions_bytes r.sessions))) ≡ false =
    le-ltb _ _ (omega (arith, length-append (logs_bytes r.logs) (table_bytes r.table))) in
    rw fits refl

pub state_goes : (p : PartitionTable) (r : Replica) (tail : List ℕ) → IsState p r → state_at p (start (state_bytes r ++ tail)) ≡ Ok (r, record { at = end_of r 0; rest = tail })
unfolding state_at
state_goes p r tail is = rw (sections_goes p r 0 tail is, small_goes p r 0 is) refl

pub rest-goes : (p : PartitionTable) (r : Replica) (tail : List ℕ) → IsState p r → read_state p (state_bytes r ++ tail) ≡ Ok (r, tail)
rest-goes p r tail is = rw (state_goes p r tail is) refl

pub whole-goes : (p : PartitionTable) (r : Replica) → IsState p r → whole_state p (state_bytes r) ≡ Ok r
unfolding whole_state
whole-goes p r is =
    ap (λ (x : List ℕ). whole_state p x) (sym (append-nil (state_bytes r)))
    ∙ rw (sections_goes p r 0 [] is) (small_goes p r 0 is)

pub some-goes : (p : PartitionTable) (r : Replica) → IsState p r → state_of p (state_bytes r) ≡ Some r
some-goes p r is = ap if_read (whole-goes p r is)
