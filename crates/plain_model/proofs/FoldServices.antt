-- The services take a command as the plain lists say.
use Rattle.std.proofs.Common.{◌≡◌, ◌≤◌, ℕ, ◌==◌, nat_lt, Bool, true, false, if◌then◌else◌, List, [], ◌∷◌, ◌++◌, length, Option, Some, None, refl, sym, ap, ◌∙◌}
use Rattle.std.specs.Prelude.{bytes_eq, is_some, not}
use Rattle.mrp_types.specs.declared.id.LogId.{LogId}
use Rattle.mrp_types.specs.declared.value.Entry.{Entry}
use Rattle.command_codec.specs.declared.command.Command.{Command}
use Rattle.command_codec.specs.declared.command.Command.TheVariants.{Append, Multi, ReadLog, TrimLog, Get, Scan, Update, Insert, Delete, Swap}
use Rattle.command_codec.specs.declared.reply.Reply.{Reply}
use Rattle.command_codec.specs.declared.reply.TableEntry.{TableEntry}
use Rattle.command_codec.specs.declared.reply.Reply.TheVariants as replies
use Rattle.mrp_config.specs.declared.tables.PartitionTable.{PartitionTable}
use Rattle.mrp_config.specs.Routing.{is_concerned}
use Rattle.plain_model.specs.Replicas.{LogState, log_length, log_at, with_log, trimmed_to, value_of, without, with_entry, effect_of, told, updating, inserting, deleting, swapping, read_at}
use Rattle.plain_model.specs.Fold.{Answered, is_limit, is_done, values_of, trim_of, logs_of, left_by, or_before, held_after, held_under, with_key, with_key_of, key_brought, keys_after, keys_of, table_of, reply_with_room, trim_reply, done_where, swap_reply}
use Rattle.plain_model.proofs.FoldLogs.{same-list, takes-list, cuts-list, log-at}
use Rattle.plain_model.proofs.FoldTable.{table_by, Rise, Has, with_has, with-entry, without-by, alike, value-by, bytes_turned}

-- what the lists of answered entries keep to
pub record Kept (ans : List Answered) : Type 0 where
  pub trims : (log : LogId) → trim_of log ans ≤ length (values_of log ans)
  pub rise : Rise (keys_of ans)
  pub has : (key value : List ℕ) → held_under key ans ≡ Some value → Has key (keys_of ans)

pub held-snoc : (key : List ℕ) (before : Option (List ℕ)) (ans : List Answered) (a : Answered) →
    held_after key before (ans ++ a ∷ []) ≡ or_before (left_by key a) (held_after key before ans)
held-snoc key before [] a = refl
held-snoc key before (b ∷ ans) a = held-snoc key (or_before (left_by key b) before) ans a

pub keys-snoc : (keys : List (List ℕ)) (ans : List Answered) (a : Answered) → keys_after keys (ans ++ a ∷ []) ≡ with_key_of (key_brought a) (keys_after keys ans)
keys-snoc keys [] a = refl
keys-snoc keys (b ∷ ans) a = keys-snoc (with_key_of (key_brought b) keys) ans a

pub none_both : {X : Type 0} (t : Bool) → ◌≡◌ {A = Option X} (if t then None else None) None
none_both true = refl
none_both false = refl

-- ---- the table

pub table-none : (ans : List Answered) (a : Answered) → ((key : List ℕ) → left_by key a ≡ None) → key_brought a ≡ None → table_of ans ≡ table_of (ans ++ a ∷ [])
table-none ans a left brought =
    alike (λ key. held_under key ans) (λ key. held_under key (ans ++ a ∷ [])) (keys_of ans)
    (λ key. sym (held-snoc key None ans a ∙ ap (λ (o : Option (Option (List ℕ))). or_before o (held_under key ans)) (left key)))
    ∙ ap (λ (keys : List (List ℕ)). table_by (λ key. held_under key (ans ++ a ∷ [])) keys) (sym (keys-snoc [] ans a ∙ ap (λ (o : Option (List ℕ)). with_key_of o (keys_of ans)) brought))

or-if : (t : Bool) (left before : Option (List ℕ)) → or_before (if t then Some left else None) before ≡ (if t then left else before)
or-if true left before = refl
or-if false left before = refl

table-put : (ans : List Answered) (a : Answered) (key value : List ℕ) → Rise (keys_of ans) → ((k : List ℕ) → left_by k a ≡ (if bytes_eq key k then Some (Some value) else None)) →
    keys_of (ans ++ a ∷ []) ≡ with_key key (keys_of ans) → with_entry key value (table_of ans) ≡ table_of (ans ++ a ∷ [])
table-put ans a key value rise left keys =
    with-entry (λ k. held_under k ans) (λ k. held_under k (ans ++ a ∷ [])) (keys_of ans) key value rise
    (λ k. held-snoc k None ans a ∙ ap (λ (o : Option (Option (List ℕ))). or_before o (held_under k ans)) (left k) ∙ or-if (bytes_eq key k) (Some value) (held_under k ans))
    ∙ ap (λ (ks : List (List ℕ)). table_by (λ k. held_under k (ans ++ a ∷ [])) ks) (sym keys)

table-gone : (ans : List Answered) (a : Answered) (key : List ℕ) → ((k : List ℕ) → left_by k a ≡ (if bytes_eq key k then Some None else None)) →
    key_brought a ≡ None → without key (table_of ans) ≡ table_of (ans ++ a ∷ [])
table-gone ans a key left brought =
    without-by (λ k. held_under k ans) (λ k. held_under k (ans ++ a ∷ [])) (keys_of ans) key
    (λ k. held-snoc k None ans a ∙ ap (λ (o : Option (Option (List ℕ))). or_before o (held_under k ans)) (left k) ∙ or-if (bytes_eq key k) None (held_under k ans)
    ∙ ap (λ (t : Bool). if t then None else held_under k ans) (bytes_turned key k))
    ∙ ap (λ (ks : List (List ℕ)). table_by (λ k. held_under k (ans ++ a ∷ [])) ks) (sym (keys-snoc [] ans a ∙ ap (λ (o : Option (List ℕ)). with_key_of o (keys_of ans)) brought))

abbrev pub with_reply : Entry → Command → Reply → Answered
with_reply e c r = record { entry = e; command = c; reply = r }

pub found : (ans : List Answered) → Kept ans → (key : List ℕ) → value_of key (table_of ans) ≡ held_under key ans
found ans kept key = value-by (λ k. held_under k ans) (keys_of ans) key (λ v h. kept.has key v h)

trim_table : (t : Bool) (r : Reply) (x y : List LogState) (table : List TableEntry) → (if t then told r x table else told replies.Done y table).table ≡ table
trim_table true r x y table = refl
trim_table false r x y table = refl

pub effect-table : (ans : List Answered) (e : Entry) (c : Command) (logs : List LogState) → Kept ans →
    (effect_of c logs (table_of ans)).table ≡ table_of (ans ++ with_reply e c (reply_with_room c logs (table_of ans)) ∷ [])
unfolding effect_of
effect-table ans e (Append log value) logs kept = table-none ans (with_reply e (Append log value) (reply_with_room (Append log value) logs (table_of ans))) (λ k. refl) refl
effect-table ans e (Multi named value) logs kept = table-none ans (with_reply e (Multi named value) (reply_with_room (Multi named value) logs (table_of ans))) (λ k. refl) refl
effect-table ans e (ReadLog log position) logs kept = table-none ans (with_reply e (ReadLog log position) r) (λ k. none_both (is_done r)) (none_both (is_done r))
  where
    r : Reply
    r = read_at position (log_at log logs)
effect-table ans e (TrimLog log position) logs kept = trim_table (nat_lt (log_length (log_at log logs)) position) (replies.Beyond (log_length (log_at log logs))) logs (with_log (trimmed_to position (log_at log logs)) logs) (table_of ans)
    ∙ table-none ans (with_reply e (TrimLog log position) (trim_reply position (log_at log logs))) (λ k. none_both (is_done (trim_reply position (log_at log logs)))) (none_both (is_done (trim_reply position (log_at log logs))))
effect-table ans e (Get key) logs kept = table-none ans (with_reply e (Get key) (reply_with_room (Get key) logs (table_of ans))) (λ k. none_both (is_done (reply_with_room (Get key) logs (table_of ans)))) (none_both (is_done (reply_with_room (Get key) logs (table_of ans))))
effect-table ans e (Scan from to) logs kept = table-none ans (with_reply e (Scan from to) (reply_with_room (Scan from to) logs (table_of ans))) (λ k. refl) refl
effect-table ans e (Update key value) logs kept = by (value_of key (table_of ans)) refl
  where
    by : (x : Option (List ℕ)) → value_of key (table_of ans) ≡ x →
        (updating x key value logs (table_of ans)).table ≡ table_of (ans ++ with_reply e (Update key value) (done_where (is_some x) replies.Absent) ∷ [])
    by None h = table-none ans (with_reply e (Update key value) replies.Absent) (λ k. refl) refl
    by (Some old) h = table-put ans (with_reply e (Update key value) replies.Done) key value kept.rise (λ k. refl)
        (keys-snoc [] ans (with_reply e (Update key value) replies.Done) ∙ sym (with_has key (keys_of ans) kept.rise (kept.has key old (sym (found ans kept key) ∙ h))))
effect-table ans e (Insert key value) logs kept = by (value_of key (table_of ans))
  where
    by : (x : Option (List ℕ)) →
        (inserting x key value logs (table_of ans)).table ≡ table_of (ans ++ with_reply e (Insert key value) (done_where (not (is_some x)) replies.Exists) ∷ [])
    by None = table-put ans (with_reply e (Insert key value) replies.Done) key value kept.rise (λ k. refl) (keys-snoc [] ans (with_reply e (Insert key value) replies.Done))
    by (Some old) = table-none ans (with_reply e (Insert key value) replies.Exists) (λ k. refl) refl
effect-table ans e (Delete key) logs kept = by (value_of key (table_of ans))
  where
    by : (x : Option (List ℕ)) →
        (deleting x key logs (table_of ans)).table ≡ table_of (ans ++ with_reply e (Delete key) (done_where (is_some x) replies.Absent) ∷ [])
    by None = table-none ans (with_reply e (Delete key) replies.Absent) (λ k. refl) refl
    by (Some old) = table-gone ans (with_reply e (Delete key) replies.Done) key (λ k. refl) refl
effect-table ans e (Swap key old new) logs kept = by (value_of key (table_of ans)) refl
  where
    by : (x : Option (List ℕ)) → value_of key (table_of ans) ≡ x →
        (swapping x key old new logs (table_of ans)).table ≡ table_of (ans ++ with_reply e (Swap key old new) (swap_reply x old) ∷ [])
    by None h = table-none ans (with_reply e (Swap key old new) replies.Absent) (λ k. refl) refl
    by (Some value) h = judged (bytes_eq value old)
      where
        judged : (t : Bool) → (if t then told replies.Done logs (with_entry key new (table_of ans)) else told (replies.Differs value) logs (table_of ans)).table ≡
            table_of (ans ++ with_reply e (Swap key old new) (if t then replies.Done else replies.Differs value) ∷ [])
        judged true = table-put ans (with_reply e (Swap key old new) replies.Done) key new kept.rise (λ k. refl)
            (keys-snoc [] ans (with_reply e (Swap key old new) replies.Done) ∙ sym (with_has key (keys_of ans) kept.rise (kept.has key value (sym (found ans kept key) ∙ h))))
        judged false = table-none ans (with_reply e (Swap key old new) (replies.Differs value)) (λ k. refl) refl

-- ---- the logs

cond-cond : (t : Bool) (value : List ℕ) → (if t then Some value else None) ≡ (if (if t then true else false) then Some value else None)
cond-cond true value = refl
cond-cond false value = refl

updated_logs : (x : Option (List ℕ)) (key value : List ℕ) (logs : List LogState) (table : List TableEntry) → (updating x key value logs table).logs ≡ logs
updated_logs None key value logs table = refl
updated_logs (Some old) key value logs table = refl

inserted_logs : (x : Option (List ℕ)) (key value : List ℕ) (logs : List LogState) (table : List TableEntry) → (inserting x key value logs table).logs ≡ logs
inserted_logs None key value logs table = refl
inserted_logs (Some old) key value logs table = refl

deleted_logs : (x : Option (List ℕ)) (key : List ℕ) (logs : List LogState) (table : List TableEntry) → (deleting x key logs table).logs ≡ logs
deleted_logs None key logs table = refl
deleted_logs (Some old) key logs table = refl

swapped_logs : (x : Option (List ℕ)) (key old new : List ℕ) (logs : List LogState) (table : List TableEntry) → (swapping x key old new logs table).logs ≡ logs
swapped_logs None key old new logs table = refl
swapped_logs (Some value) key old new logs table = by (bytes_eq value old)
  where
    by : (t : Bool) → (if t then told replies.Done logs (with_entry key new table) else told (replies.Differs value) logs table).logs ≡ logs
    by true = refl
    by false = refl

pub effect-logs : (p : PartitionTable) (ans : List Answered) (e : Entry) (c : Command) (table : List TableEntry) → is_concerned c p ≡ true → Kept ans →
    (effect_of c (logs_of p ans) table).logs ≡ logs_of p (ans ++ with_reply e c (reply_with_room c (logs_of p ans) table) ∷ [])
unfolding effect_of is_concerned
effect-logs p ans e (Append log value) table at kept =
    takes-list p.logs ans (with_reply e (Append log value) (reply_with_room (Append log value) (logs_of p ans) table)) value (log ∷ []) kept.trims (λ l. cond-cond (log.0 == l.0) value) (λ l. refl)
effect-logs p ans e (Multi named value) table at kept =
    takes-list p.logs ans (with_reply e (Multi named value) (reply_with_room (Multi named value) (logs_of p ans) table)) value named kept.trims (λ l. refl) (λ l. refl)
effect-logs p ans e (ReadLog log position) table at kept = same-list p.logs ans (with_reply e (ReadLog log position) r) (λ l. none_both (is_limit r)) (λ l. refl)
  where
    r : Reply
    r = read_at position (log_at log (logs_of p ans))
effect-logs p ans e (TrimLog log position) table at kept = by (nat_lt (log_length (log_at log (logs_of p ans))) position)
  where
    by : (t : Bool) → (if t then told (replies.Beyond (log_length (log_at log (logs_of p ans)))) (logs_of p ans) table
        else told replies.Done (with_log (trimmed_to position (log_at log (logs_of p ans))) (logs_of p ans)) table).logs ≡
        logs_of p (ans ++ with_reply e (TrimLog log position) (if t then replies.Beyond (log_length (log_at log (logs_of p ans))) else replies.Done) ∷ [])
    by true = same-list p.logs ans (with_reply e (TrimLog log position) (replies.Beyond (log_length (log_at log (logs_of p ans))))) (λ l. refl) (λ l. refl)
    by false = ap (λ (x : LogState). with_log (trimmed_to position x) (logs_of p ans)) (log-at p.logs ans log at)
        ∙ cuts-list p.logs ans (with_reply e (TrimLog log position) replies.Done) log position (λ l. refl) (λ l. refl)
effect-logs p ans e (Get key) table at kept = same-list p.logs ans (with_reply e (Get key) r) (λ l. none_both (is_limit r)) (λ l. refl)
  where
    r : Reply
    r = reply_with_room (Get key) (logs_of p ans) table
effect-logs p ans e (Scan from to) table at kept = same-list p.logs ans (with_reply e (Scan from to) r) (λ l. none_both (is_limit r)) (λ l. refl)
  where
    r : Reply
    r = reply_with_room (Scan from to) (logs_of p ans) table
effect-logs p ans e (Update key value) table at kept = updated_logs (value_of key table) key value (logs_of p ans) table
    ∙ same-list p.logs ans (with_reply e (Update key value) r) (λ l. none_both (is_limit r)) (λ l. refl)
  where
    r : Reply
    r = reply_with_room (Update key value) (logs_of p ans) table
effect-logs p ans e (Insert key value) table at kept = inserted_logs (value_of key table) key value (logs_of p ans) table
    ∙ same-list p.logs ans (with_reply e (Insert key value) r) (λ l. none_both (is_limit r)) (λ l. refl)
  where
    r : Reply
    r = reply_with_room (Insert key value) (logs_of p ans) table
effect-logs p ans e (Delete key) table at kept = deleted_logs (value_of key table) key (logs_of p ans) table
    ∙ same-list p.logs ans (with_reply e (Delete key) r) (λ l. none_both (is_limit r)) (λ l. refl)
  where
    r : Reply
    r = reply_with_room (Delete key) (logs_of p ans) table
effect-logs p ans e (Swap key old new) table at kept = swapped_logs (value_of key table) key old new (logs_of p ans) table
    ∙ same-list p.logs ans (with_reply e (Swap key old new) r) (λ l. none_both (is_limit r)) (λ l. refl)
  where
    r : Reply
    r = reply_with_room (Swap key old new) (logs_of p ans) table

-- ---- the reply

trim_told : (t : Bool) (r : Reply) (x y : List LogState) (table : List TableEntry) → (if t then told r x table else told replies.Done y table).reply ≡ (if t then r else replies.Done)
trim_told true r x y table = refl
trim_told false r x y table = refl

pub effect-reply : (c : Command) (logs : List LogState) (table : List TableEntry) → (effect_of c logs table).reply ≡ reply_with_room c logs table
unfolding effect_of
effect-reply (Append log value) logs table = refl
effect-reply (Multi named value) logs table = refl
effect-reply (ReadLog log position) logs table = refl
effect-reply (TrimLog log position) logs table = trim_told (nat_lt (log_length (log_at log logs)) position) (replies.Beyond (log_length (log_at log logs))) logs (with_log (trimmed_to position (log_at log logs)) logs) table
effect-reply (Get key) logs table = refl
effect-reply (Scan from to) logs table = refl
effect-reply (Update key value) logs table = by (value_of key table)
  where
    by : (x : Option (List ℕ)) → (updating x key value logs table).reply ≡ done_where (is_some x) replies.Absent
    by None = refl
    by (Some old) = refl
effect-reply (Insert key value) logs table = by (value_of key table)
  where
    by : (x : Option (List ℕ)) → (inserting x key value logs table).reply ≡ done_where (not (is_some x)) replies.Exists
    by None = refl
    by (Some old) = refl
effect-reply (Delete key) logs table = by (value_of key table)
  where
    by : (x : Option (List ℕ)) → (deleting x key logs table).reply ≡ done_where (is_some x) replies.Absent
    by None = refl
    by (Some old) = refl
effect-reply (Swap key old new) logs table = by (value_of key table)
  where
    by : (x : Option (List ℕ)) → (swapping x key old new logs table).reply ≡ swap_reply x old
    by None = refl
    by (Some value) = judged (bytes_eq value old)
      where
        judged : (t : Bool) → (if t then told replies.Done logs (with_entry key new table) else told (replies.Differs value) logs table).reply ≡ (if t then replies.Done else replies.Differs value)
        judged true = refl
        judged false = refl
