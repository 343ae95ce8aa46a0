-- What is read as a state is valid, and was written so.
use Rattle.std.proofs.Common.{lit<, arith, ◌≡◌, ◌≤◌, ◌<◌, ℕ, ◌+◌, ◌-◌, ◌^◌, ◌==◌, nat_lt, if◌then◌else◌, List, [], ◌∷◌, ◌++◌, length, take, drop, Some, Result, Ok, Err, refl, sym, ap, subst, ◌∙◌, append_assoc, append-nil, IsTrue, length-append}
use Rattle.std.specs.Int.{w16, w32, w64}
use Rattle.std.specs.List.{flat_map, AllByRecursion}
use Rattle.std.proofs.lemmas.Bool.{ltb-false, eqb-true}
use Rattle.std.proofs.lemmas.List.{take-append-drop, length-take, get_or-drop, nil_from_length}
use Rattle.std.proofs.lemmas.List.Concat.{flat_map-cons}
use Rattle.mrp_types.specs.declared.id.LogId.{LogId}
use Rattle.command_codec.specs.declared.fault.CodecFault.{CodecFault}
use Rattle.command_codec.specs.declared.fault.CodecFault.TheVariants.{Short, BadField, Left}
use Rattle.command_codec.specs.declared.reply.TableEntry.{TableEntry}
use Rattle.command_codec.specs.Fields.{u16_bytes, u32_bytes, u64_bytes, string16}
use Rattle.command_codec.specs.Grammar.{comes_after, stored_at, table_entry_at, key_of, reply_of}
use Rattle.mrp_types.specs.Reading.{◌>>=◌, follow, both}
use Rattle.command_codec.specs.Reader.{Spot, byte_at, bytes_at, number_at, within, string_at, string_that, start, ended}
use Rattle.command_codec.specs.Replies.{table_entry_bytes}
use Rattle.command_codec.proofs.ReaderLaws.{AreBytes, bound, ok_is, then_was, else_was, Took, took_both, Field, HasLength, one_byte, any_byte_law, wide16, wide32, wide64, number_law, within_law, string_law, string_that_law}
use Rattle.command_codec.proofs.Combined.{AllInChain, of_chain, in_chain, follow_law, both_law, shown_law, counted_law}
use Rattle.command_codec.proofs.ReplyLaws.{IsLater}
use Rattle.mrp_config.specs.declared.tables.PartitionTable.{PartitionTable}
use Rattle.plain_model.specs.Replicas.{Session, LogState, Replica, services_size}
use Rattle.plain_model.specs.StateBytes.{session_bytes, log_bytes, sessions_bytes, logs_bytes, table_bytes, state_bytes, was_reply, kept_reply_at, session_with, session_at_least, after_client, sessions_at, values_after, log_with, this_log_at, these_logs_at, without_count, logs_at, table_at, Sections, sections_at, where_small, state_at, whole_state, read_state, with_rest, state_of, if_read}
use Rattle.plain_model.proofs.SizeLaws.{services-written}
use Rattle.state_laws.specs.Spoken.{IsReplyText}
use Rattle.state_laws.specs.States.{IsSession, AreSessions, IsShort, IsLog, AreLogsOf, AreRisingAfter, IsState}
use Rattle.state_laws.proofs.Written.{reply_text, numbered_text, session_text, session_parts, IsNumbered, values_text, AreValuesAfter, trimmed_text, log_text, log_parts, IsTrim, short_values, entry_text, same_many, kept_goes, these_goes, sections_of, end_of, sections_go}

-- ---- sessions

-- as the lemma of this name in command_codec, which is private there, with the count
bytes_was : (count : ℕ) (spot : Spot) (x : List ℕ × Spot) → AreBytes spot.rest → bytes_at count spot ≡ Ok x → Took spot x.0 x.1 × (length x.0 ≡ count)
unfolding bytes_at
bytes_was count spot x are h =
    let g = else_was (nat_lt (length spot.rest) count) (Short spot.at) (Ok (take count spot.rest, record { at = spot.at + count; rest = drop count spot.rest })) x h in
    let long : count ≤ length spot.rest = ltb-false _ _ g.0 in
    subst (λ (y : List ℕ × Spot). Took spot y.0 y.1 × (length y.0 ≡ count)) (ok_is _ x g.1)
    (record { parts = sym (take-append-drop count spot.rest); bytes = λ i. rw get_or-drop (are (count + i)) }, omega (arith, length-take count spot.rest))

kept_was : (spot : Spot) (x : List ℕ × Spot) → AreBytes spot.rest → kept_reply_at spot ≡ Ok x → Took spot (reply_text x.0) x.1 × IsReplyText x.0
unfolding kept_reply_at
kept_was spot x are h =
    let b = bound (within 1 16384 (number_at w32) spot) (λ number. bytes_at number.0 number.1 >>= λ bytes. if was_reply (reply_of bytes.0) then Ok bytes else Err (BadField number.1.at)) x h in
    let c = bound (bytes_at b.0.0 b.0.1) (λ bytes. if was_reply (reply_of bytes.0) then Ok bytes else Err (BadField b.0.1.at)) x b.2 in
    let g = then_was (was_reply (reply_of c.0.0)) (BadField b.0.1.at) c.0 x c.2 in
    let t = (within_law 1 16384 (number_at w32) u32_bytes (λ n. n < 2 ^ 32) (number_law w32 (2 ^ 32) u32_bytes wide32)).was spot b.0 are b.1 in
    let u = bytes_was b.0.0 b.0.1 c.0 t.0.bytes c.1 in
    let low = t.1.1 in
    let high = t.1.2 in
    let long = u.1 in
    subst (λ (y : List ℕ × Spot). Took spot (reply_text y.0) y.1 × IsReplyText y.0) g.1 (
      took_both spot (u32_bytes (length c.0.0)) b.0.1 c.0.0 c.0.1 (subst (λ (k : ℕ). Took spot (u32_bytes k) b.0.1) (sym u.1) t.0) u.0,
      record { some = omega arith; short = omega arith; spelled = g.0 },
    )

kept_law : Field (List ℕ) kept_reply_at reply_text IsReplyText
kept_law = record {
  was = kept_was;
  again = λ value at tail is. (at + length (reply_text value), kept_goes value at tail is);
}

session_law : (least : ℕ) → Field Session (session_at_least least) session_bytes (IsSession least)
unfolding session_at_least
session_law least =
    shown_law (ℕ × (ℕ × List ℕ)) Session session_with session_parts (both (within least 255 byte_at) (both (within 1 (2 ^ 63 - 1) (number_at w64)) kept_reply_at)) session_text session_bytes
    (λ v. (Unit {0} × (least ≤ v.0) × (v.0 ≤ 255)) × (IsNumbered v.1.0 × IsReplyText v.1.1)) (IsSession least)
    (both_law ℕ (ℕ × List ℕ) (within least 255 byte_at) (both (within 1 (2 ^ 63 - 1) (number_at w64)) kept_reply_at) one_byte numbered_text
    (λ n. Unit {0} × (least ≤ n) × (n ≤ 255)) (λ v. IsNumbered v.0 × IsReplyText v.1) (within_law least 255 byte_at one_byte (λ n. Unit {0}) any_byte_law)
    (both_law ℕ (List ℕ) (within 1 (2 ^ 63 - 1) (number_at w64)) kept_reply_at u64_bytes reply_text IsNumbered IsReplyText
    (within_law 1 (2 ^ 63 - 1) (number_at w64) u64_bytes (λ n. n < 2 ^ 64) (number_law w64 (2 ^ 64) u64_bytes wide64)) kept_law))
    (λ v. ap (λ (x : List ℕ). v.0 ∷ x) (append_assoc (u64_bytes v.1.0) (u32_bytes (length v.1.1)) v.1.1))
    (λ v is. record { rising = is.0.1; client = is.0.2; asked = is.1.0.1; numbered = is.1.0.2; reply = is.1.1 })
    (λ session. refl)
    (λ session is. ((tt, is.rising, is.client), ((omega (arith, is.numbered), is.asked, is.numbered), is.reply)))

sessions_law : Field (List Session) sessions_at sessions_bytes (λ sessions. (length sessions < 2 ^ 16) × AllInChain IsSession after_client 0 sessions)
sessions_law =
    counted_law ℕ Session (number_at w16) u16_bytes (λ n. n < 2 ^ 16) (number_law w16 (2 ^ 16) u16_bytes wide16) session_at_least after_client session_bytes IsSession session_law 0

of_sessions_chain : (least : ℕ) (sessions : List Session) → AllInChain IsSession after_client least sessions → AreSessions least sessions
of_sessions_chain least [] are = tt
of_sessions_chain least (session ∷ sessions) are = (are.0, of_sessions_chain (session.client.0 + 1) sessions are.1)

-- ---- logs

values_law : (trim : ℕ) → Field (List (List ℕ)) (values_after trim) values_text (AreValuesAfter trim)
values_law trim =
    counted_law ℕ (List ℕ) (within 0 (2 ^ 63 - trim) (number_at w64)) u64_bytes (λ n. (n < 2 ^ 64) × (0 ≤ n) × (n ≤ 2 ^ 63 - trim))
    (within_law 0 (2 ^ 63 - trim) (number_at w64) u64_bytes (λ n. n < 2 ^ 64) (number_law w64 (2 ^ 64) u64_bytes wide64))
    (λ _. string_at 0 2048) (λ _. 0) string16 (λ _. HasLength 0 2048) (λ _. string_law 0 2048 (lit< tt)) 0

values_short : (values : List (List ℕ)) → AllByRecursion (HasLength 0 2048) values → AllByRecursion IsShort values
values_short [] each = tt
values_short (value ∷ values) each = (each.0.1, values_short values each.1)

log_law : (id : LogId) → Field LogState (this_log_at id) log_bytes (λ log. (log.id.0 ≡ id.0) × IsLog log)
unfolding this_log_at
log_law id =
    shown_law (ℕ × (ℕ × List (List ℕ))) LogState log_with log_parts (both (within id.0 id.0 byte_at) (follow (within 0 (2 ^ 63) (number_at w64)) values_after)) log_text log_bytes
    (λ v. (Unit {0} × (id.0 ≤ v.0) × (v.0 ≤ id.0)) × (IsTrim v.1.0 × AreValuesAfter v.1.0 v.1.1)) (λ log. (log.id.0 ≡ id.0) × IsLog log)
    (both_law ℕ (ℕ × List (List ℕ)) (within id.0 id.0 byte_at) (follow (within 0 (2 ^ 63) (number_at w64)) values_after) one_byte trimmed_text
    (λ n. Unit {0} × (id.0 ≤ n) × (n ≤ id.0)) (λ v. IsTrim v.0 × AreValuesAfter v.0 v.1) (within_law id.0 id.0 byte_at one_byte (λ n. Unit {0}) any_byte_law)
    (follow_law ℕ (List (List ℕ)) (within 0 (2 ^ 63) (number_at w64)) values_after u64_bytes values_text IsTrim AreValuesAfter
    (within_law 0 (2 ^ 63) (number_at w64) u64_bytes (λ n. n < 2 ^ 64) (number_law w64 (2 ^ 64) u64_bytes wide64)) values_law))
    (λ v. ap (λ (x : List ℕ). v.0 ∷ x) (append_assoc (u64_bytes v.1.0) (u64_bytes (length v.1.1)) (flat_map string16 v.1.1)))
    (λ v is. (omega (arith, is.0.1, is.0.2), record { few = omega (arith, is.1.0.2, is.1.1.0.2); values = values_short v.1.1 (of_chain (HasLength 0 2048) v.1.1 is.1.1.1) }))
    (λ log. refl)
    (λ log is. (
      (tt, omega (arith, is.0), omega (arith, is.0)),
      (
        (omega (arith, is.1.few), omega arith, omega (arith, is.1.few)),
        ((omega (arith, is.1.few), omega arith, omega (arith, is.1.few)), in_chain (HasLength 0 2048) log.values (short_values log.values is.1.values)),
      ),
    ))

these_was : (ids : List LogId) (spot : Spot) (x : List LogState × Spot) → AreBytes spot.rest → these_logs_at ids spot ≡ Ok x → Took spot (flat_map log_bytes x.0) x.1 × AreLogsOf ids x.0
these_was [] spot x are h =
    subst (λ (y : List LogState × Spot). Took spot (flat_map log_bytes y.0) y.1 × AreLogsOf [] y.0) (ok_is ([], spot) x h) (record { parts = refl; bytes = are }, tt)
these_was (id ∷ ids) spot x are h =
    let p = bound (this_log_at id spot) (λ log. these_logs_at ids log.1 >>= λ logs. Ok (log.0 ∷ logs.0, logs.1)) x h in
    let q = bound (these_logs_at ids p.0.1) (λ logs. Ok (p.0.0 ∷ logs.0, logs.1)) x p.2 in
    let t = (log_law id).was spot p.0 are p.1 in
    let u = these_was ids p.0.1 q.0 t.0.bytes q.1 in
    let all = took_both spot (log_bytes p.0.0) p.0.1 (flat_map log_bytes q.0.0) q.0.1 t.0 u.0 in
    subst (λ (y : List LogState × Spot). Took spot (flat_map log_bytes y.0) y.1 × AreLogsOf (id ∷ ids) y.0) (ok_is (p.0.0 ∷ q.0.0, q.0.1) x q.2)
    (rw flat_map-cons all, (t.1.0, t.1.1, u.1))

these_law : (ids : List LogId) → Field (List LogState) (these_logs_at ids) (λ logs. flat_map log_bytes logs) (AreLogsOf ids)
these_law ids = record {
  was = these_was ids;
  again = λ logs at tail are. (at + length (flat_map log_bytes logs), these_goes ids logs at tail are);
}

-- the count that was read is that of the logs
logs_was : (ids : List LogId) (spot : Spot) (x : List LogState × Spot) → AreBytes spot.rest → logs_at ids spot ≡ Ok x → Took spot (logs_bytes x.0) x.1 × AreLogsOf ids x.0
logs_was ids spot x are h =
    let p = bound (both (within (length ids) (length ids) byte_at) (these_logs_at ids) spot) (λ a. Ok (without_count a.0, a.1)) x h in
    let t = (both_law ℕ (List LogState) (within (length ids) (length ids) byte_at) (these_logs_at ids) one_byte (λ logs. flat_map log_bytes logs)
    (λ n. Unit {0} × (length ids ≤ n) × (n ≤ length ids)) (AreLogsOf ids) (within_law (length ids) (length ids) byte_at one_byte (λ n. Unit {0}) any_byte_law) (these_law ids)).was spot p.0 are p.1 in
    let many = same_many ids p.0.0.1 t.1.1 in
    let low = t.1.0.1 in
    let high = t.1.0.2 in
    let same : p.0.0.0 ≡ length p.0.0.1 = omega arith in
    subst (λ (y : List LogState × Spot). Took spot (logs_bytes y.0) y.1 × AreLogsOf ids y.0) (ok_is (without_count p.0.0, p.0.1) x p.2)
    (subst (λ (n : ℕ). Took spot (n ∷ flat_map log_bytes p.0.0.1) p.0.1) same t.0, t.1.1)

-- ---- the table

-- a copy of table_entry_law of command_codec, which is private there
entry_law : (before : List ℕ) → Field TableEntry (table_entry_at before) table_entry_bytes (IsLater before)
unfolding table_entry_at
entry_law before =
    shown_law (List ℕ × List ℕ) TableEntry (λ x. record { key = x.0; value = x.1 }) (λ e. (e.key, e.value)) (both (string_that 1 256 (comes_after before)) stored_at) entry_text table_entry_bytes
    (λ v. (HasLength 1 256 v.0 × IsTrue (comes_after before v.0)) × HasLength 0 2048 v.1) (IsLater before)
    (both_law (List ℕ) (List ℕ) (string_that 1 256 (comes_after before)) stored_at string16 string16 (λ k. HasLength 1 256 k × IsTrue (comes_after before k)) (HasLength 0 2048)
    (string_that_law 1 256 (comes_after before) (lit< tt)) (string_law 0 2048 (lit< tt)))
    (λ v. refl) (λ v is. ((is.0.0, is.1.1), is.0.1)) (λ e. refl) (λ e is. ((is.0.0, is.1), (omega arith, is.0.1)))

table_law : Field (List TableEntry) table_at table_bytes (λ entries. (length entries < 2 ^ 64) × AllInChain IsLater key_of [] entries)
table_law =
    counted_law (List ℕ) TableEntry (number_at w64) u64_bytes (λ n. n < 2 ^ 64) (number_law w64 (2 ^ 64) u64_bytes wide64) table_entry_at key_of table_entry_bytes IsLater entry_law []

of_rising_chain : (before : List ℕ) (entries : List TableEntry) → AllInChain IsLater key_of before entries → AreRisingAfter before entries
of_rising_chain before [] are = tt
of_rising_chain before (entry ∷ entries) are = (are.0.0, are.0.1, of_rising_chain entry.key entries are.1)

-- ---- the whole

-- a state, however large its logs and its table
record IsRead (p : PartitionTable) (r : Replica) : Type 0 where
  sessions : AreSessions 0 r.sessions
  logs : AreLogsOf p.logs r.logs
  table : AreRisingAfter [] r.table
  few : length r.table < 2 ^ 64

-- what three sections make, one behind the other
abbrev made : List Session × Spot → List LogState × Spot → List TableEntry × Spot → Sections × Spot
made s l t = (record { replica = record { sessions = s.0; logs = l.0; table = t.0 }; logs_begin = s.1.at; table_begins = l.1.at }, t.1)

abbrev WasRead : PartitionTable → Spot → Sections × Spot → Type 0
WasRead p spot x = Took spot (state_bytes x.0.replica) x.1 × IsRead p x.0.replica

three_were : (p : PartitionTable) (spot : Spot) (a : List Session × Spot) (b : List LogState × Spot) (c : List TableEntry × Spot) (x : Sections × Spot) → made a b c ≡ x →
    Took spot (sessions_bytes a.0) a.1 × ((length a.0 < 2 ^ 16) × AllInChain IsSession after_client 0 a.0) → Took a.1 (logs_bytes b.0) b.1 × AreLogsOf p.logs b.0 →
    Took b.1 (table_bytes c.0) c.1 × ((length c.0 < 2 ^ 64) × AllInChain IsLater key_of [] c.0) → WasRead p spot x
unfolding state_bytes
three_were p spot a b c x same s l t =
    subst (λ (y : Sections × Spot). WasRead p spot y) same (
      took_both spot (sessions_bytes a.0 ++ logs_bytes b.0) b.1 (table_bytes c.0) c.1 (took_both spot (sessions_bytes a.0) a.1 (logs_bytes b.0) b.1 s.0 l.0) t.0,
      record { sessions = of_sessions_chain 0 a.0 s.1.1; logs = l.1; table = of_rising_chain [] c.0 t.1.1; few = t.1.0 },
    )

sections_was : (p : PartitionTable) (spot : Spot) (x : Sections × Spot) → AreBytes spot.rest → sections_at p spot ≡ Ok x → Took spot (state_bytes x.0.replica) x.1 × IsRead p x.0.replica
sections_was p spot x are h =
    let a = bound (sessions_at spot) (λ sessions. logs_at p.logs sessions.1 >>= λ logs. table_at logs.1 >>= λ table. Ok (made sessions logs table)) x h in
    let b = bound (logs_at p.logs a.0.1) (λ logs. table_at logs.1 >>= λ table. Ok (made a.0 logs table)) x a.2 in
    let c = bound (table_at b.0.1) (λ table. Ok (made a.0 b.0 table)) x b.2 in
    let s = sessions_law.was spot a.0 are a.1 in
    let l = logs_was p.logs a.0.1 b.0 s.0.bytes b.1 in
    let t = table_law.was b.0.1 c.0 l.0.bytes c.1 in
    three_were p spot a.0 b.0 c.0 x (ok_is (made a.0 b.0 c.0) x c.2) s l t

-- where the sections stand tells their size
sections_small : (p : PartitionTable) (bytes : List ℕ) (x : Sections × Spot) (r : Replica) → AreBytes bytes → sections_at p (start bytes) ≡ Ok x → where_small x.1.at x.0 ≡ Ok r →
    (bytes ≡ state_bytes r ++ x.1.rest) × IsState p r
sections_small p bytes x r are h small =
    let w = sections_was p (start bytes) x are h in
    let g = else_was (nat_lt 67108864 (x.1.at - x.0.logs_begin)) (BadField x.0.table_begins) (Ok x.0.replica) r small in
    let same : x.0.replica ≡ r = ok_is x.0.replica r g.1 in
    let again = sections_go p x.0.replica 0 x.1.rest w.1.sessions w.1.logs w.1.table w.1.few in
    let stood : (sections_of x.0.replica 0, record { at = end_of x.0.replica 0; rest = x.1.rest }) ≡ x =
    ok_is (sections_of x.0.replica 0, record { at = end_of x.0.replica 0; rest = x.1.rest }) x (sym again ∙ sym (ap (λ (l : List ℕ). sections_at p (start l)) w.0.parts) ∙ h) in
    let fits : x.1.at - x.0.logs_begin ≤ 67108864 = ltb-false _ _ g.0 in
    let size : services_size x.0.replica.logs x.0.replica.table ≤ 67108864 = omega (
      arith,
      fits,
      services-written x.0.replica.logs x.0.replica.table,
      length-append (logs_bytes x.0.replica.logs) (table_bytes x.0.replica.table),
      ap (λ (y : Sections × Spot). y.1.at) stood,
      ap (λ (y : Sections × Spot). y.0.logs_begin) stood,
    ) in
    subst (λ (y : Replica). (bytes ≡ state_bytes y ++ x.1.rest) × IsState p y) same
    (w.0.parts, record { sessions = w.1.sessions; logs = w.1.logs; table = w.1.table; small = size })

pub state-was : (p : PartitionTable) (bytes : List ℕ) (x : Replica × Spot) → AreBytes bytes → state_at p (start bytes) ≡ Ok x → (bytes ≡ state_bytes x.0 ++ x.1.rest) × IsState p x.0
unfolding state_at
state-was p bytes x are h =
    let a = bound (sections_at p (start bytes)) (λ read. where_small read.1.at read.0 >>= λ replica. Ok (replica, read.1)) x h in
    let b = bound (where_small a.0.1.at a.0.0) (λ replica. Ok (replica, a.0.1)) x a.2 in
    subst (λ (y : Replica × Spot). (bytes ≡ state_bytes y.0 ++ y.1.rest) × IsState p y.0) (ok_is (b.0, a.0.1) x b.2) (sections_small p bytes a.0 b.0 are a.1 b.1)

pub read-was : (p : PartitionTable) (bytes : List ℕ) (r : Replica) (rest : List ℕ) → AreBytes bytes → read_state p bytes ≡ Ok (r, rest) → (bytes ≡ state_bytes r ++ rest) × IsState p r
read-was p bytes r rest are h = by (state_at p (start bytes)) refl h
  where
    by : (y : Result (Replica × Spot) CodecFault) → state_at p (start bytes) ≡ y → with_rest y ≡ Ok (r, rest) → (bytes ≡ state_bytes r ++ rest) × IsState p r
    by (Err fault) e g = absurd cc
    by (Ok x) e g =
        let same : (x.0, x.1.rest) ≡ (r, rest) = cc in
        subst (λ (v : Replica × List ℕ). (bytes ≡ state_bytes v.0 ++ v.1) × IsState p v.0) same (state-was p bytes x are e)

pub whole-was : (p : PartitionTable) (bytes : List ℕ) (r : Replica) → AreBytes bytes → whole_state p bytes ≡ Ok r → (bytes ≡ state_bytes r) × IsState p r
unfolding whole_state
whole-was p bytes r are h =
    let a = bound (sections_at p (start bytes)) (λ read. ended read.0 read.1 >>= λ all. where_small read.1.at all) r h in
    let b = bound (ended a.0.0 a.0.1) (λ all. where_small a.0.1.at all) r a.2 in
    let g = then_was (length a.0.1.rest == 0) (Left a.0.1.at) a.0.0 b.0 b.1 in
    let none : a.0.1.rest ≡ [] = nil_from_length a.0.1.rest (eqb-true _ _ g.0) in
    let w = sections_small p bytes a.0 r are a.1 (ap (λ (s : Sections). where_small a.0.1.at s) g.1 ∙ b.2) in
    (w.0 ∙ ap (λ (l : List ℕ). state_bytes r ++ l) none ∙ append-nil (state_bytes r), w.1)

pub some-was : (p : PartitionTable) (bytes : List ℕ) (r : Replica) → AreBytes bytes → state_of p bytes ≡ Some r → (bytes ≡ state_bytes r) × IsState p r
some-was p bytes r are h = by (whole_state p bytes) refl h
  where
    by : (y : Result Replica CodecFault) → whole_state p bytes ≡ y → if_read y ≡ Some r → (bytes ≡ state_bytes r) × IsState p r
    by (Err fault) e g = absurd cc
    by (Ok x) e g = let same : x ≡ r = cc in whole-was p bytes r are (e ∙ ap (λ (v : Replica). Ok v) same)
