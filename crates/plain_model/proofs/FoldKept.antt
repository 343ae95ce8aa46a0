-- What the lists of answered entries keep to stays so with each further one.
use Rattle.std.proofs.Common.{arith, ◌≡◌, ◌≤◌, ℕ, ◌+◌, max, ◌==◌, nat_lt, Bool, true, false, if◌then◌else◌, List, [], ◌∷◌, ◌++◌, length, Option, Some, None, refl, sym, ap, ◌∙◌, subst}
use Rattle.std.specs.Prelude.{bytes_eq, is_some, not}
use Rattle.std.proofs.lemmas.List.{length-append}
use Rattle.mrp_types.specs.declared.id.LogId.{LogId}
use Rattle.mrp_types.specs.declared.value.Entry.{Entry}
use Rattle.command_codec.specs.declared.command.Command.{Command}
use Rattle.command_codec.specs.declared.command.Command.TheVariants.{Append, Multi, ReadLog, TrimLog, Get, Scan, Update, Insert, Delete, Swap}
use Rattle.command_codec.specs.declared.reply.Reply.{Reply}
use Rattle.command_codec.specs.declared.reply.Reply.TheVariants as replies
use Rattle.mrp_config.specs.declared.tables.PartitionTable.{PartitionTable}
use Rattle.mrp_config.specs.Routing.{is_concerned}
use Rattle.plain_model.specs.Replicas.{log_length, log_at, value_of, read_at}
use Rattle.plain_model.specs.Fold.{Answered, is_done, values_of, cut_of, trim_of, logs_of, left_by, or_before, held_under, with_key_of, key_brought, keys_of, table_of, reply_with_room, done_where, swap_reply}
use Rattle.plain_model.proofs.FoldLogs.{adds, added_list, values-snoc, trim-snoc, log-at, length-kept, number_is, same_id}
use Rattle.plain_model.proofs.FoldTable.{Rise, Has, rise_with, has_with, has_still, same_bytes}
use Rattle.plain_model.proofs.FoldServices.{Kept, held-snoc, keys-snoc, none_both, found, with_reply}

rise_of : (o : Option (List ℕ)) (keys : List (List ℕ)) → Rise keys → Rise (with_key_of o keys)
rise_of None keys rise = rise
rise_of (Some key) keys rise = rise_with key keys rise

has_of : (o : Option (List ℕ)) (keys : List (List ℕ)) (k : List ℕ) → Has k keys → Has k (with_key_of o keys)
has_of None keys k has = has
has_of (Some key) keys k has = has_still k key keys has

trims_kept : (t v c w a n : ℕ) → t ≤ v → c ≤ v → w ≡ max t c → n ≡ v + a → w ≤ n
trims_kept t v c w a n kept cut trims values = omega (arith, kept, cut, trims, values)

pub kept-snoc : (ans : List Answered) (a : Answered) → Kept ans → ((log : LogId) → cut_of log a.command a.reply ≤ length (values_of log ans)) →
    ((k v : List ℕ) → left_by k a ≡ Some (Some v) → Has k (keys_of (ans ++ a ∷ []))) → Kept (ans ++ a ∷ [])
kept-snoc ans a kept cut left = record {
  trims = λ log. trims_kept (trim_of log ans) (length (values_of log ans)) (cut_of log a.command a.reply) (trim_of log (ans ++ a ∷ [])) (length (added_list (adds log a)))
      (length (values_of log (ans ++ a ∷ []))) (kept.trims log) (cut log) (trim-snoc log ans a)
      (ap (λ (l : List (List ℕ)). length l) (values-snoc log ans a (adds log a) refl) ∙ length-append (values_of log ans) (added_list (adds log a)));
  rise = subst (λ (keys : List (List ℕ)). Rise keys) (sym (keys-snoc [] ans a)) (rise_of (key_brought a) (keys_of ans) kept.rise);
  has = λ k v h. by k v (left_by k a) refl (sym (held-snoc k None ans a) ∙ h);
}
  where
    none_some : (w : List ℕ) → None ≡ Some w → ⊥
    none_some w d = grind arith

    by : (k v : List ℕ) (o : Option (Option (List ℕ))) → left_by k a ≡ o → or_before o (held_under k ans) ≡ Some v → Has k (keys_of (ans ++ a ∷ []))
    by k v None e h = subst (λ (keys : List (List ℕ)). Has k keys) (sym (keys-snoc [] ans a)) (has_of (key_brought a) (keys_of ans) k (kept.has k v h))
    by k v (Some None) e h = absurd (none_some v h)
    by k v (Some (Some w)) e h = left k w e

-- an entry that neither trims nor leaves anything under a key
plain-kept : (ans : List Answered) (a : Answered) → Kept ans → ((log : LogId) → cut_of log a.command a.reply ≡ 0) → ((k : List ℕ) → left_by k a ≡ None) → Kept (ans ++ a ∷ [])
plain-kept ans a kept cut left = kept-snoc ans a kept (λ log. no_more (cut_of log a.command a.reply) (length (values_of log ans)) (cut log)) (λ k v h. absurd (none_some v (sym (left k) ∙ h)))
  where
    no_more : (c n : ℕ) → c ≡ 0 → c ≤ n
    no_more c n z = omega (arith, z)

    none_some : (w : List ℕ) → None ≡ Some (Some w) → ⊥
    none_some w d = grind arith

pub cut-limit : (log : LogId) (c : Command) → cut_of log c replies.Limit ≡ 0
cut-limit log (Append named value) = refl
cut-limit log (Multi named value) = refl
cut-limit log (ReadLog named position) = refl
cut-limit log (TrimLog named position) = refl
cut-limit log (Get key) = refl
cut-limit log (Scan from to) = refl
cut-limit log (Update key value) = refl
cut-limit log (Insert key value) = refl
cut-limit log (Delete key) = refl
cut-limit log (Swap key old new) = refl

pub limit-kept : (ans : List Answered) (e : Entry) (c : Command) → Kept ans → Kept (ans ++ with_reply e c replies.Limit ∷ [])
limit-kept ans e c kept = plain-kept ans (with_reply e c replies.Limit) kept (λ log. cut-limit log c) (λ k. refl)

put_left : (ans : List Answered) (a : Answered) (key : List ℕ) (value : List ℕ) → ((k : List ℕ) → left_by k a ≡ (if bytes_eq key k then Some (Some value) else None)) →
    Has key (keys_of (ans ++ a ∷ [])) → (k v : List ℕ) → left_by k a ≡ Some (Some v) → Has k (keys_of (ans ++ a ∷ []))
put_left ans a key value left has k v h = by (bytes_eq key k) refl (sym (left k) ∙ h)
  where
    none_some : None ≡ Some (Some v) → ⊥
    none_some d = grind arith

    by : (t : Bool) → bytes_eq key k ≡ t → (if t then Some (Some value) else None) ≡ Some (Some v) → Has k (keys_of (ans ++ a ∷ []))
    by true e g = subst (λ (x : List ℕ). Has x (keys_of (ans ++ a ∷ []))) (same_bytes key k e) has
    by false e g = absurd (none_some g)

pub room-kept : (p : PartitionTable) (ans : List Answered) (e : Entry) (c : Command) → is_concerned c p ≡ true → Kept ans →
    Kept (ans ++ with_reply e c (reply_with_room c (logs_of p ans) (table_of ans)) ∷ [])
unfolding is_concerned
room-kept p ans e (Append log value) at kept = plain-kept ans (with_reply e (Append log value) (reply_with_room (Append log value) (logs_of p ans) (table_of ans))) kept (λ l. refl) (λ k. refl)
room-kept p ans e (Multi named value) at kept = plain-kept ans (with_reply e (Multi named value) (reply_with_room (Multi named value) (logs_of p ans) (table_of ans))) kept (λ l. refl) (λ k. refl)
room-kept p ans e (ReadLog log position) at kept = plain-kept ans (with_reply e (ReadLog log position) r) kept (λ l. refl) (λ k. none_both (is_done r))
  where
    r : Reply
    r = read_at position (log_at log (logs_of p ans))
room-kept p ans e (TrimLog log position) at kept = by (nat_lt (log_length (log_at log (logs_of p ans))) position) refl
  where
    within_length : (n p : ℕ) → nat_lt n p ≡ false → p ≤ n
    within_length n p h = grind arith

    at_most : position ≤ log_length (log_at log (logs_of p ans)) → position ≤ length (values_of log ans)
    at_most le = subst (λ (n : ℕ). position ≤ n) (ap log_length (log-at p.logs ans log at) ∙ length-kept log ans (kept.trims log)) le

    cut : position ≤ length (values_of log ans) → (l : LogId) (t : Bool) → (log.0 == l.0) ≡ t → (if t then position else 0) ≤ length (values_of l ans)
    cut le l true h = subst (λ (x : LogId). position ≤ length (values_of x ans)) (same_id log l (number_is log.0 l.0 h)) le
    cut le l false h = omega arith

    by : (t : Bool) → nat_lt (log_length (log_at log (logs_of p ans))) position ≡ t →
        Kept (ans ++ with_reply e (TrimLog log position) (if t then replies.Beyond (log_length (log_at log (logs_of p ans))) else replies.Done) ∷ [])
    by true h = plain-kept ans (with_reply e (TrimLog log position) (replies.Beyond (log_length (log_at log (logs_of p ans))))) kept (λ l. refl) (λ k. refl)
    by false h = kept-snoc ans (with_reply e (TrimLog log position) replies.Done) kept
        (λ l. cut (at_most (within_length (log_length (log_at log (logs_of p ans))) position h)) l (log.0 == l.0) refl) (λ k v d. absurd (none_some v d))
      where
        none_some : (w : List ℕ) → None ≡ Some (Some w) → ⊥
        none_some w d = grind arith
room-kept p ans e (Get key) at kept = plain-kept ans (with_reply e (Get key) r) kept (λ l. refl) (λ k. none_both (is_done r))
  where
    r : Reply
    r = reply_with_room (Get key) (logs_of p ans) (table_of ans)
room-kept p ans e (Scan from to) at kept = plain-kept ans (with_reply e (Scan from to) (reply_with_room (Scan from to) (logs_of p ans) (table_of ans))) kept (λ l. refl) (λ k. refl)
room-kept p ans e (Update key value) at kept = by (value_of key (table_of ans)) refl
  where
    by : (x : Option (List ℕ)) → value_of key (table_of ans) ≡ x → Kept (ans ++ with_reply e (Update key value) (done_where (is_some x) replies.Absent) ∷ [])
    by None h = plain-kept ans (with_reply e (Update key value) replies.Absent) kept (λ l. refl) (λ k. refl)
    by (Some old) h = kept-snoc ans (with_reply e (Update key value) replies.Done) kept (λ l. omega arith)
        (put_left ans (with_reply e (Update key value) replies.Done) key value (λ k. refl)
        (subst (λ (keys : List (List ℕ)). Has key keys) (sym (keys-snoc [] ans (with_reply e (Update key value) replies.Done))) (kept.has key old (sym (found ans kept key) ∙ h))))
room-kept p ans e (Insert key value) at kept = by (value_of key (table_of ans))
  where
    by : (x : Option (List ℕ)) → Kept (ans ++ with_reply e (Insert key value) (done_where (not (is_some x)) replies.Exists) ∷ [])
    by None = kept-snoc ans (with_reply e (Insert key value) replies.Done) kept (λ l. omega arith)
        (put_left ans (with_reply e (Insert key value) replies.Done) key value (λ k. refl)
        (subst (λ (keys : List (List ℕ)). Has key keys) (sym (keys-snoc [] ans (with_reply e (Insert key value) replies.Done))) (has_with key (keys_of ans))))
    by (Some old) = plain-kept ans (with_reply e (Insert key value) replies.Exists) kept (λ l. refl) (λ k. refl)
room-kept p ans e (Delete key) at kept = by (value_of key (table_of ans))
  where
    none_left : (k v : List ℕ) (t : Bool) → (if t then Some None else None) ≡ Some (Some v) → ⊥
    none_left k v true d = grind arith
    none_left k v false d = grind arith

    by : (x : Option (List ℕ)) → Kept (ans ++ with_reply e (Delete key) (done_where (is_some x) replies.Absent) ∷ [])
    by None = plain-kept ans (with_reply e (Delete key) replies.Absent) kept (λ l. refl) (λ k. refl)
    by (Some old) = kept-snoc ans (with_reply e (Delete key) replies.Done) kept (λ l. omega arith) (λ k v d. absurd (none_left k v (bytes_eq key k) d))
room-kept p ans e (Swap key old new) at kept = by (value_of key (table_of ans)) refl
  where
    by : (x : Option (List ℕ)) → value_of key (table_of ans) ≡ x → Kept (ans ++ with_reply e (Swap key old new) (swap_reply x old) ∷ [])
    by None h = plain-kept ans (with_reply e (Swap key old new) replies.Absent) kept (λ l. refl) (λ k. refl)
    by (Some value) h = judged (bytes_eq value old)
      where
        judged : (t : Bool) → Kept (ans ++ with_reply e (Swap key old new) (if t then replies.Done else replies.Differs value) ∷ [])
        judged true = kept-snoc ans (with_reply e (Swap key old new) replies.Done) kept (λ l. omega arith)
            (put_left ans (with_reply e (Swap key old new) replies.Done) key new (λ k. refl)
            (subst (λ (keys : List (List ℕ)). Has key keys) (sym (keys-snoc [] ans (with_reply e (Swap key old new) replies.Done))) (kept.has key value (sym (found ans kept key) ∙ h))))
        judged false = plain-kept ans (with_reply e (Swap key old new) (replies.Differs value)) kept (λ l. refl) (λ k. refl)
