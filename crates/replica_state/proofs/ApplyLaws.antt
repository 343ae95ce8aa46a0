-- The step of an entry, from what the parts of a replica do.
use Rattle.std.proofs.Common.{arith, ◌≡◌, ℕ, ◌+◌, ◌≤◌, nat_lt, nat_le, Bool, true, false, if◌then◌else◌, List, [], ◌∷◌, ◌++◌, map, Option, Some, None, Result, Ok, Err, refl, sym, ◌∙◌, ap, subst, IsTrue, true≢false, length-append}
use Rattle.std.specs.Prelude.{◌==◌, IfOk, OnOk, ◌||◌, ◌&&◌}
use Rattle.std.proofs.lemmas.Bool.{ltb-false}
use Rattle.std.proofs.lemmas.Bool.Decides.{nat_tests}
use Rattle.mrp_types.specs.declared.memory.Memory.{Memory}
use Rattle.mrp_types.specs.declared.id.LogId.{LogId}
use Rattle.mrp_types.specs.declared.id.ClientId.{ClientId}
use Rattle.mrp_types.specs.declared.value.Entry.{Entry}
use Rattle.command_codec.specs.declared.command.Command.{Command}
use Rattle.command_codec.specs.declared.command.Command.TheVariants.{Append, Multi, ReadLog, TrimLog, Get, Scan, Update, Insert, Delete, Swap}
use Rattle.command_codec.specs.declared.fault.CodecFault.{CodecFault}
use Rattle.command_codec.specs.declared.reply.Reply.{Reply}
use Rattle.command_codec.specs.declared.reply.Reply.TheVariants as replies
use Rattle.command_codec.specs.declared.reply.TableEntry.{TableEntry}
use Rattle.command_codec.specs.Grammar.{command_of, reply_of}
use Rattle.mrp_config.specs.declared.tables.PartitionTable.{PartitionTable}
use Rattle.mrp_config.specs.Config.{has_log}
use Rattle.mrp_config.specs.Routing.{is_concerned, has_some}
use Rattle.plain_model.specs.Fold.{concerning}
use Rattle.plain_model.specs.Replicas.{Session, LogState, Replica, Applied, Effect, effect_of, told, where_room, has_no_room, is_one_too_long, services_size, session_at, apply, judged, numbered, taken, passed_over, empty_log, read_at, log_at, value_or_absent, value_of, page_of, scanned}
use Rattle.plain_model.specs.StateBytes.{whole_state, state_bytes, sessions_bytes, logs_bytes, table_bytes, was_reply}
use Rattle.plain_model.proofs.SizeLaws.{services-written}
use Rattle.plain_model.proofs.FoldLogs.{same_id}
use Rattle.state_laws.specs.States.{AreSessions, AreLogsOf, IsState, IsGiven}
use Rattle.hex.specs.Hex.{IsBytes}
use Rattle.state_laws.proofs.Reread.{whole-was}
use Rattle.services.specs.declared.fault.StateFault.{StateFault}
use Rattle.services.specs.Reading.{SaysState}
use Rattle.state_laws.proofs.Steps.{apply_is, empty_is}
use Rattle.state_laws.specs.States.{HasFewLogs}
use Rattle.mrp_config.specs.Valid.{IncreasesFrom, AreAtMost, numbers_of_logs, IsValid, IsPartition}
use Rattle.mrp_config.specs.Walk.{node_ids, ring_ids}
use Rattle.mrp_config.specs.Config.{Config, partition_at}
use Rattle.state_laws.proofs.Batches.{partition-limits}
use Rattle.plain_model.proofs.TupleOrder.{both_true}
use Rattle.std.specs.List.{find, AllByRecursion}
use Rattle.command_codec.specs.Valid.{rises_from}
use Rattle.replica_state.specs.declared.parts.Turn.{Turn}
use Rattle.replica_state.specs.Turns.{IsTurn}
use Rattle.services.specs.Parts.{Logs, Table, ids_of, is_for, effect_on, growth_of, part_size}
use Rattle.services.proofs.PartLaws.{keeps_logs, keeps_table, logs_decide, table_decides}
use Rattle.replica_state.specs.Held.{Held, IsHeld, no_room, part_after, reply_after, is_on_logs, part_of, is_look, replica_with}
use Rattle.replica_state.specs.declared.sessions.Kept.{Kept}

neither : (t u : Bool) → (t || u) ≡ false → (t ≡ false) × (u ≡ false)
neither true u h = absurd (true≢false h)
neither false u h = (refl, h)

-- ---- room

pub has_room : (logs : List LogState) (table : List TableEntry) → has_no_room logs table ≡ false → part_size (Logs logs) + part_size (Table table) ≤ 67108864
has_room logs table room =
    let small : services_size logs table ≤ 67108864 = ltb-false _ _ (neither (nat_lt 67108864 (services_size logs table)) (is_one_too_long logs) room).0 in
    omega (arith, small, services-written logs table, length-append (logs_bytes logs) (table_bytes table))

logs_of_part : (a b : List LogState) → Logs a ≡ Logs b → a ≡ b
logs_of_part a b h = cc

table_of_part : (a b : List TableEntry) → Table a ≡ Table b → a ≡ b
table_of_part a b h = cc

logs_where : (c : Command) (logs new : List LogState) (table : List TableEntry) (used : ℕ) → has_no_room logs table ≡ false → IsTrue (is_for c (Logs logs)) → used ≡ part_size (Logs logs) + part_size (Table table) →
    Logs new ≡ part_after used c (Logs logs) → where_room logs table (effect_of c logs table) ≡ record { logs = new; table = table; reply = reply_after used c (Logs logs) }
logs_where c logs new table used room is sum so =
    by (no_room used c (Logs logs)) (logs_decide c logs table room is ∙ ap (λ (n : ℕ). nat_lt 67108864 (n + growth_of c (Logs logs))) (sym sum)) so
  where
    by : (t : Bool) → has_no_room (effect_of c logs table).logs (effect_of c logs table).table ≡ t → Logs new ≡ (if t then Logs logs else Logs (effect_on c (Logs logs)).logs) →
        where_room logs table (effect_of c logs table) ≡ record { logs = new; table = table; reply = if t then replies.Limit else (effect_on c (Logs logs)).reply }
    by true full so = ap (λ (t : Bool). if t then told replies.Limit logs table else effect_of c logs table) full ∙ ap (λ (l : List LogState). told replies.Limit l table) (sym (logs_of_part new logs so))
    by false full so = ap (λ (t : Bool). if t then told replies.Limit logs table else effect_of c logs table) full
        ∙ (keeps_logs c logs table is ∙ ap (λ (l : List LogState). record { logs = l; table = table; reply = (effect_on c (Logs logs)).reply }) (sym (logs_of_part new (effect_on c (Logs logs)).logs so)))

table_where : (c : Command) (logs : List LogState) (table new : List TableEntry) (used : ℕ) → has_no_room logs table ≡ false → IsTrue (is_for c (Table table)) → used ≡ part_size (Logs logs) + part_size (Table table) →
    Table new ≡ part_after used c (Table table) → where_room logs table (effect_of c logs table) ≡ record { logs = logs; table = new; reply = reply_after used c (Table table) }
table_where c logs table new used room is sum so =
    by (no_room used c (Table table)) (table_decides c logs table room is ∙ ap (λ (n : ℕ). nat_lt 67108864 (n + growth_of c (Table table))) (sym sum)) so
  where
    by : (t : Bool) → has_no_room (effect_of c logs table).logs (effect_of c logs table).table ≡ t → Table new ≡ (if t then Table table else Table (effect_on c (Table table)).table) →
        where_room logs table (effect_of c logs table) ≡ record { logs = logs; table = new; reply = if t then replies.Limit else (effect_on c (Table table)).reply }
    by true full so = ap (λ (t : Bool). if t then told replies.Limit logs table else effect_of c logs table) full ∙ ap (λ (l : List TableEntry). told replies.Limit logs l) (sym (table_of_part new table so))
    by false full so = ap (λ (t : Bool). if t then told replies.Limit logs table else effect_of c logs table) full
        ∙ (keeps_table c logs table is ∙ ap (λ (l : List TableEntry). record { logs = logs; table = l; reply = (effect_on c (Table table)).reply }) (sym (table_of_part new (effect_on c (Table table)).table so)))

for_logs : (c : Command) (logs : List LogState) (table : List TableEntry) → IsTrue (is_for c (part_of c logs table)) → is_on_logs c ≡ true → IsTrue (is_for c (Logs logs))
for_logs c logs table is on = subst (λ (t : Bool). IsTrue (is_for c (if t then Logs logs else Table table))) on is

for_table : (c : Command) (logs : List LogState) (table : List TableEntry) → IsTrue (is_for c (part_of c logs table)) → is_on_logs c ≡ false → IsTrue (is_for c (Table table))
for_table c logs table is on = subst (λ (t : Bool). IsTrue (is_for c (if t then Logs logs else Table table))) on is

pub is_for_logs : (c : Command) (logs : List LogState) (table : List TableEntry) (t : Bool) → IsTrue (is_for c (part_of c logs table)) → t ≡ is_on_logs c → t ≡ true → IsTrue (is_for c (Logs logs))
is_for_logs c logs table t is test on = for_logs c logs table is (sym test ∙ on)

pub is_for_table : (c : Command) (logs : List LogState) (table : List TableEntry) (t : Bool) → IsTrue (is_for c (part_of c logs table)) → t ≡ is_on_logs c → t ≡ false → IsTrue (is_for c (Table table))
is_for_table c logs table t is test on = for_table c logs table is (sym test ∙ on)

-- what is left and replied where the logs took the command
pub logs_new : (c : Command) (logs new : List LogState) (table : List TableEntry) (used : ℕ) (r : Result Reply Memory) → has_no_room logs table ≡ false → IsTrue (is_for c (Logs logs)) →
    used ≡ part_size (Logs logs) + part_size (Table table) → OnOk r (Logs new ≡ part_after used c (Logs logs)) → OnOk r (new ≡ (where_room logs table (effect_of c logs table)).logs)
logs_new c logs new table used (Ok x) room is sum so = sym (ap (λ (e : Effect). e.logs) (logs_where c logs new table used room is sum so))
logs_new c logs new table used (Err x) room is sum so = tt

pub logs_same : (c : Command) (logs new : List LogState) (table : List TableEntry) (used : ℕ) (r : Result Reply Memory) → has_no_room logs table ≡ false → IsTrue (is_for c (Logs logs)) →
    used ≡ part_size (Logs logs) + part_size (Table table) → OnOk r (Logs new ≡ part_after used c (Logs logs)) → OnOk r (table ≡ (where_room logs table (effect_of c logs table)).table)
logs_same c logs new table used (Ok x) room is sum so = sym (ap (λ (e : Effect). e.table) (logs_where c logs new table used room is sum so))
logs_same c logs new table used (Err x) room is sum so = tt

pub logs_reply : (c : Command) (logs new : List LogState) (table : List TableEntry) (used : ℕ) (r : Result Reply Memory) → has_no_room logs table ≡ false → IsTrue (is_for c (Logs logs)) →
    used ≡ part_size (Logs logs) + part_size (Table table) → OnOk r (Logs new ≡ part_after used c (Logs logs)) → IfOk r (λ x. x ≡ reply_after used c (Logs logs)) →
    IfOk r (λ x. x ≡ (where_room logs table (effect_of c logs table)).reply)
logs_reply c logs new table used (Ok x) room is sum so said = said ∙ sym (ap (λ (e : Effect). e.reply) (logs_where c logs new table used room is sum so))
logs_reply c logs new table used (Err x) room is sum so said = tt

pub table_new : (c : Command) (logs : List LogState) (table new : List TableEntry) (used : ℕ) (r : Result Reply Memory) → has_no_room logs table ≡ false → IsTrue (is_for c (Table table)) →
    used ≡ part_size (Logs logs) + part_size (Table table) → OnOk r (Table new ≡ part_after used c (Table table)) → OnOk r (new ≡ (where_room logs table (effect_of c logs table)).table)
table_new c logs table new used (Ok x) room is sum so = sym (ap (λ (e : Effect). e.table) (table_where c logs table new used room is sum so))
table_new c logs table new used (Err x) room is sum so = tt

pub table_same : (c : Command) (logs : List LogState) (table new : List TableEntry) (used : ℕ) (r : Result Reply Memory) → has_no_room logs table ≡ false → IsTrue (is_for c (Table table)) →
    used ≡ part_size (Logs logs) + part_size (Table table) → OnOk r (Table new ≡ part_after used c (Table table)) → OnOk r (logs ≡ (where_room logs table (effect_of c logs table)).logs)
table_same c logs table new used (Ok x) room is sum so = sym (ap (λ (e : Effect). e.logs) (table_where c logs table new used room is sum so))
table_same c logs table new used (Err x) room is sum so = tt

pub table_reply : (c : Command) (logs : List LogState) (table new : List TableEntry) (used : ℕ) (r : Result Reply Memory) → has_no_room logs table ≡ false → IsTrue (is_for c (Table table)) →
    used ≡ part_size (Logs logs) + part_size (Table table) → OnOk r (Table new ≡ part_after used c (Table table)) → IfOk r (λ x. x ≡ reply_after used c (Table table)) →
    IfOk r (λ x. x ≡ (where_room logs table (effect_of c logs table)).reply)
table_reply c logs table new used (Ok x) room is sum so said = said ∙ sym (ap (λ (e : Effect). e.reply) (table_where c logs table new used room is sum so))
table_reply c logs table new used (Err x) room is sum so said = tt

-- ---- which part a command of the partition is for

same_numbers : (ids : List LogId) (logs : List LogState) → AreLogsOf ids logs → ids_of logs ≡ ids
same_numbers [] [] are = refl
same_numbers [] (log ∷ logs) are = absurd are
same_numbers (id ∷ ids) [] are = absurd are
same_numbers (id ∷ ids) (log ∷ logs) are =
    ap (λ (i : LogId). i ∷ ids_of logs) (same_id log.id id are.0) ∙ ap (λ (l : List LogId). id ∷ l) (same_numbers ids logs are.2)

pub part_for : (c : Command) (p : PartitionTable) (logs : List LogState) (table : List TableEntry) → AreLogsOf p.logs logs → is_concerned c p ≡ true → IsTrue (is_for c (part_of c logs table))
unfolding is_concerned
part_for (Append log value) p logs table are is = subst (λ (ids : List LogId). has_log ids log.0 ≡ true) (sym (same_numbers p.logs logs are)) is
part_for (Multi named value) p logs table are is = subst (λ (ids : List LogId). has_some ids named ≡ true) (sym (same_numbers p.logs logs are)) is
part_for (ReadLog log position) p logs table are is = subst (λ (ids : List LogId). has_log ids log.0 ≡ true) (sym (same_numbers p.logs logs are)) is
part_for (TrimLog log position) p logs table are is = subst (λ (ids : List LogId). has_log ids log.0 ≡ true) (sym (same_numbers p.logs logs are)) is
part_for (Get key) p logs table are is = refl
part_for (Scan from to) p logs table are is = refl
part_for (Update key value) p logs table are is = refl
part_for (Insert key value) p logs table are is = refl
part_for (Delete key) p logs table are is = refl
part_for (Swap key old new) p logs table are is = refl

-- ---- the step of an entry

pub kept_spelled : (client : ClientId) (least : ℕ) (sessions : List Session) (s : Session) → AreSessions least sessions → session_at client sessions ≡ Some s → was_reply (reply_of s.reply) ≡ true
kept_spelled client least [] s are is = cc
kept_spelled client least (x ∷ sessions) s are is = by (x.client.0 == client.0) is (λ h. kept_spelled client (x.client.0 + 1) sessions s are.1 h)
  where
    by : (t : Bool) → (if t then Some x else session_at client sessions) ≡ Some s → (session_at client sessions ≡ Some s → was_reply (reply_of s.reply) ≡ true) → was_reply (reply_of s.reply) ≡ true
    by true h later = let same : x ≡ s = cc in subst (λ (y : Session). was_reply (reply_of y.reply) ≡ true) same are.0.reply.spelled
    by false h later = later h

pub passes : (p : PartitionTable) (r : Replica) (e : Entry) → None ≡ concerning p (command_of e.command) → apply p r e ≡ passed_over r
unfolding apply
passes p r e none = by (command_of e.command) none
  where
    by : (x : Result Command CodecFault) → None ≡ concerning p x → judged p r e x ≡ passed_over r
    by (Err fault) h = refl
    by (Ok c) h = judge (is_concerned c p) h
      where
        judge : (t : Bool) → None ≡ (if t then Some c else None) → (if t then numbered r e c (session_at e.client r.sessions) else passed_over r) ≡ passed_over r
        judge true h = cc
        judge false h = refl

pub goes : (p : PartitionTable) (r : Replica) (e : Entry) (c : Command) → Some c ≡ concerning p (command_of e.command) → (apply p r e ≡ numbered r e c (session_at e.client r.sessions)) × (is_concerned c p ≡ true)
unfolding apply
goes p r e c some = by (command_of e.command) some
  where
    by : (x : Result Command CodecFault) → Some c ≡ concerning p x → (judged p r e x ≡ numbered r e c (session_at e.client r.sessions)) × (is_concerned c p ≡ true)
    by (Err fault) h = cc
    by (Ok d) h = judge (is_concerned d p) refl h
      where
        judge : (t : Bool) → is_concerned d p ≡ t → Some c ≡ (if t then Some d else None) → ((if t then numbered r e d (session_at e.client r.sessions) else passed_over r) ≡ numbered r e c (session_at e.client r.sessions)) × (is_concerned c p ≡ true)
        judge true is h = let same : c ≡ d = cc in (ap (λ (x : Command). numbered r e x (session_at e.client r.sessions)) (sym same), subst (λ (x : Command). is_concerned x p ≡ true) (sym same) is)
        judge false is h = cc

-- ---- states

none_too_long : (ids : List LogId) (logs : List LogState) → AreLogsOf ids logs → is_one_too_long logs ≡ false
none_too_long [] [] are = refl
none_too_long [] (log ∷ logs) are = absurd are
none_too_long (id ∷ ids) [] are = absurd are
none_too_long (id ∷ ids) (log ∷ logs) are = let few = are.1.few in let later = none_too_long ids logs are.2 in grind (arith, nat_tests)

pub state_room : (p : PartitionTable) (r : Replica) → IsState p r → has_no_room r.logs r.table ≡ false
state_room p r is = let small = is.small in let short = none_too_long p.logs r.logs is.logs in grind (arith, nat_tests)

pub taken_held : (h : Held) (p : PartitionTable) (r new : Replica) (e : Entry) (c : Command) → record { partition = p; replica = r } ≡ h → IsHeld p r → IsGiven e → apply h.partition h.replica e ≡ taken h.replica e c →
    new ≡ (taken r e c).replica → IsHeld p new
taken_held h p r new e c view is given takes made = record {
  logs = is.logs;
  rising = is.rising;
  state = subst (λ (x : Replica). IsState p x) (sym (made ∙ ap (λ (a : Applied). a.replica) (sym here))) (apply_is p r e is.logs given is.state).state;
}
  where
    here : apply p r e ≡ taken r e c
    here = subst (λ (x : Held). apply x.partition x.replica e ≡ taken x.replica e c) (sym view) takes

abbrev pub held : PartitionTable → Replica → Held
held p r = record { partition = p; replica = r }

pub kept_state : (h : Held) (e : Entry) (a : Applied) → apply h.partition h.replica e ≡ a → a.replica ≡ h.replica → h ≡ record { partition = h.partition; replica = (apply h.partition h.replica e).replica }
kept_state h e a is same = sym (ap (λ (x : Replica). held h.partition x) (ap (λ (b : Applied). b.replica) is ∙ same))

pub by_turn : (p : PartitionTable) (r : Replica) (e : Entry) (c : Command) (o : Option Command) (t u : Turn) → o ≡ Some c → o ≡ concerning p (command_of e.command) → t ≡ u → IsTurn r e t →
    (apply p r e ≡ numbered r e c (session_at e.client r.sessions)) × (is_concerned c p ≡ true) × IsTurn r e u
by_turn p r e c o t u some found same turn =
    let g = goes p r e c (sym some ∙ found) in
    (g.0, g.1, subst (λ (x : Turn). IsTurn r e x) same turn)

-- ---- what is written

pub state_written : (h : Held) (p : PartitionTable) (s : List Session) (l : List LogState) (t : List TableEntry) (first second third last : List ℕ) → record { partition = p; replica = record { sessions = s; logs = l; table = t } } ≡ h →
    first ≡ [] → second ≡ first ++ sessions_bytes s → third ≡ second ++ logs_bytes l → last ≡ third ++ table_bytes t → last ≡ state_bytes h.replica
unfolding state_bytes
state_written h p s l t first second third last view a b d e =
    e ∙ (ap (λ (x : List ℕ). x ++ table_bytes t) (d ∙ ap (λ (x : List ℕ). x ++ logs_bytes l) (b ∙ ap (λ (x : List ℕ). x ++ sessions_bytes s) a)) ∙ ap (λ (x : Held). sessions_bytes x.replica.sessions ++ logs_bytes x.replica.logs ++ table_bytes x.replica.table) view)

-- ---- a new state, and looks

rises_by : (least : ℕ) (ids : List LogId) → IncreasesFrom least (numbers_of_logs ids) → AreAtMost 63 (numbers_of_logs ids) → IsTrue (rises_from least ids)
rises_by least [] rise low = refl
rises_by least (id ∷ ids) rise low =
    let later : rises_from (id.0 + 1) ids ≡ true = rises_by (id.0 + 1) ids rise.1 low.1 in
    let from = rise.0 in
    let below = low.0 in
    let first : nat_le least id.0 ≡ true = grind (arith, nat_tests) in
    let second : nat_lt id.0 64 ≡ true = grind (arith, nat_tests) in
    both_true (nat_le least id.0) (nat_lt id.0 64 && rises_from (id.0 + 1) ids) first (both_true (nat_lt id.0 64) (rises_from (id.0 + 1) ids) second later)

found_is : {X : Type 0} (P : X → Type 0) (t : X → Bool) (xs : List X) (x : X) → AllByRecursion P xs → find t xs ≡ Some x → P x
found_is P t [] x all is = cc
found_is P t (y ∷ xs) x all is = by (t y) is (λ h. found_is P t xs x all.1 h)
  where
    by : (b : Bool) → (if b then Some y else find t xs) ≡ Some x → (find t xs ≡ Some x → P x) → P x
    by true h later = let same : y ≡ x = cc in subst P same all.0
    by false h later = later h

pub table_is : (c : Config) (id : ℕ) (p : PartitionTable) → IsValid c → Some p ≡ partition_at c.partitions id → HasFewLogs p × IsTrue (rises_from 0 p.logs)
table_is c id p valid is =
    let part = found_is (IsPartition (node_ids c.nodes) (ring_ids c.rings)) (λ (q : PartitionTable). q.id.0 == id) c.partitions p valid.partitions.each (sym is) in
    ((partition-limits (node_ids c.nodes) (ring_ids c.rings) p part).0, rises_by 0 p.logs part.logs part.low_logs)

pub empty_held : (p q : PartitionTable) (es : List (ℕ × Kept)) (logs : List LogState) (table : List TableEntry) → HasFewLogs p → IsTrue (rises_from 0 p.logs) → q ≡ p → es ≡ [] → logs ≡ map empty_log p.logs → table ≡ [] →
    IsHeld q (replica_with es logs table)
empty_held p q es logs table few rising same none made bare = rw (same, none, made, bare) (record { logs = few; rising = rising; state = empty_is p few })

pub look_where : (c : Command) (logs : List LogState) (table : List TableEntry) → has_no_room logs table ≡ false → IsTrue (is_look c) →
    where_room logs table (effect_of c logs table) ≡ told (effect_of c logs table).reply logs table
unfolding effect_of
look_where (ReadLog log position) logs table room is = ap (λ (t : Bool). if t then told replies.Limit logs table else told (read_at position (log_at log logs)) logs table) room
look_where (Get key) logs table room is = ap (λ (t : Bool). if t then told replies.Limit logs table else told (value_or_absent (value_of key table)) logs table) room
look_where (Scan from to) logs table room is = ap (λ (t : Bool). if t then told replies.Limit logs table else told (page_of (scanned from to table)) logs table) room
look_where (Append log value) logs table room is = cc
look_where (Multi named value) logs table room is = cc
look_where (TrimLog log position) logs table room is = cc
look_where (Update key value) logs table room is = cc
look_where (Insert key value) logs table room is = cc
look_where (Delete key) logs table room is = cc
look_where (Swap key old new) logs table room is = cc

pub look_logs : (c : Command) (logs new : List LogState) (table : List TableEntry) → has_no_room logs table ≡ false → IsTrue (is_look c) → new ≡ (where_room logs table (effect_of c logs table)).logs → new ≡ logs
look_logs c logs new table room is made = made ∙ ap (λ (e : Effect). e.logs) (look_where c logs table room is)

pub look_table : (c : Command) (logs : List LogState) (table new : List TableEntry) → has_no_room logs table ≡ false → IsTrue (is_look c) → new ≡ (where_room logs table (effect_of c logs table)).table → new ≡ table
look_table c logs table new room is made = made ∙ ap (λ (e : Effect). e.table) (look_where c logs table room is)

pub look_reply : (c : Command) (logs : List LogState) (table : List TableEntry) (r : Reply) → has_no_room logs table ≡ false → IsTrue (is_look c) → r ≡ (where_room logs table (effect_of c logs table)).reply → r ≡ (effect_of c logs table).reply
look_reply c logs table r room is made = made ∙ ap (λ (e : Effect). e.reply) (look_where c logs table room is)

pub same_held : (p : PartitionTable) (s : List Session) (logs new : List LogState) (table after : List TableEntry) → IsHeld p (record { sessions = s; logs = logs; table = table }) → new ≡ logs → after ≡ table →
    IsHeld p (record { sessions = s; logs = new; table = after })
same_held p s logs new table after is one other = rw (one, other) is

pub same_seen : (h : Held) (p : PartitionTable) (s : List Session) (logs new : List LogState) (table after : List TableEntry) → record { partition = p; replica = record { sessions = s; logs = logs; table = table } } ≡ h → new ≡ logs → after ≡ table →
    record { partition = p; replica = record { sessions = s; logs = new; table = after } } ≡ h
same_seen h p s logs new table after view one other = rw (one, other) view

-- ---- what is read

pub read_held : (p q : PartitionTable) (bytes : List ℕ) (r : Replica) → HasFewLogs p → IsTrue (rises_from 0 p.logs) → q ≡ p → IsBytes bytes → whole_state p bytes ≡ Ok r → IsHeld q r
read_held p q bytes r few rising same are is = rw same (record { logs = few; rising = rising; state = (whole-was p bytes r are is).1 })

pub for_table_of : {X : Type 0} (p q : PartitionTable) (view : X → Replica) (bytes : List ℕ) (o : Option PartitionTable) (r : Result X StateFault) → o ≡ Some p → o ≡ Some q → SaysState view (whole_state p bytes) r → SaysState view (whole_state q bytes) r
for_table_of p q view bytes o r found other says = let same : p ≡ q = cc in subst (λ (x : PartitionTable). SaysState view (whole_state x bytes) r) same says
