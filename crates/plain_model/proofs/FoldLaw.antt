-- A replica that takes entries one by one has what the plain lists say, and replies as they say.
use Rattle.std.proofs.Common.{arith, ◌≡◌, ℕ, suc, ◌+◌, ◌==◌, nat_lt, nat_le, Bool, true, false, not, ◌&&◌, if◌then◌else◌, List, [], ◌∷◌, ◌++◌, Option, Some, None, Result, Ok, Err, refl, sym, ap, ◌∙◌, subst, append_assoc, append-nil}
use Rattle.std.specs.Prelude.{find, is_some, option_map, filter_map}
use Rattle.std.proofs.Math.Path.{ap₂}
use Rattle.mrp_types.specs.declared.id.ClientId.{ClientId}
use Rattle.mrp_types.specs.declared.value.Entry.{Entry}
use Rattle.command_codec.specs.declared.command.Command.{Command}
use Rattle.command_codec.specs.declared.reply.Reply.{Reply}
use Rattle.command_codec.specs.declared.reply.TableEntry.{TableEntry}
use Rattle.command_codec.specs.declared.reply.Reply.TheVariants as replies
use Rattle.command_codec.specs.declared.fault.CodecFault.{CodecFault}
use Rattle.command_codec.specs.Grammar.{command_of}
use Rattle.command_codec.specs.Replies.{reply_bytes}
use Rattle.mrp_config.specs.declared.tables.PartitionTable.{PartitionTable}
use Rattle.mrp_config.specs.Routing.{is_concerned}
use Rattle.plain_model.specs.Replicas.{Session, LogState, Replica, Applied, AppliedAll, Effect, apply, applies, applies_from, with_applied, judged, numbered, taken, passed_over, given_again, where_room, has_no_room, told, effect_of, empty_replica, session_at, with_session}
use Rattle.plain_model.specs.Fold.{Answered, concerning, command_for, concerns, has_shown, counts_after, is_newest_after, answered_of, with_answer, reply_with_room, reply_after, or_limit, overfill, logs_of, table_of, last_of, session_from, sessions_of, clients_of, is_of, reply_in, reply_to, replica_of, replica_after}
use Rattle.plain_model.proofs.FoldLogs.{same-list}
use Rattle.plain_model.proofs.FoldServices.{Kept, with_reply, effect-logs, effect-table, effect-reply, table-none}
use Rattle.plain_model.proofs.FoldKept.{limit-kept, room-kept, cut-limit}
use Rattle.plain_model.proofs.FoldSessions.{AreOwn, HasClient, session-by, with-session}
use Rattle.plain_model.proofs.FoldNumbers.{Follows, at_least, last-snoc, clients-snoc, find-none, answered-counted, answered-passed, follows-passed, follows-repeat, follows-counted}

-- ---- the services

-- the record of an entry with the reply that it gets
abbrev answered_with : PartitionTable → List Answered → Entry → Command → Answered
answered_with p ans e c = with_reply e c (reply_after p ans e c)

abbrev effect_is : PartitionTable → List Answered → Answered → Effect → Type 0
effect_is p ans a made = (made.logs ≡ logs_of p (ans ++ a ∷ [])) × (made.table ≡ table_of (ans ++ a ∷ [])) × (made.reply ≡ a.reply) × Kept (ans ++ a ∷ [])

no_limit : (ans : List Answered) (p : PartitionTable) (e : Entry) (c : Command) → Kept ans → effect_is p ans (with_reply e c replies.Limit) (told replies.Limit (logs_of p ans) (table_of ans))
no_limit ans p e c kept = (
  same-list p.logs ans (with_reply e c replies.Limit) (λ l. refl) (λ l. cut-limit l c),
  table-none ans (with_reply e c replies.Limit) (λ k. refl) refl,
  refl,
  limit-kept ans e c kept,
)

pub services-step : (p : PartitionTable) (ans : List Answered) (e : Entry) (c : Command) → is_concerned c p ≡ true → Kept ans →
    effect_is p ans (answered_with p ans e c) (where_room (logs_of p ans) (table_of ans) (effect_of c (logs_of p ans) (table_of ans)))
unfolding reply_after
services-step p ans e c at kept = by (has_no_room made.logs made.table) refl
  where
    made : Effect
    made = effect_of c (logs_of p ans) (table_of ans)

    same_room : has_no_room (effect_of c (logs_of p ans) (table_of ans)).logs (effect_of c (logs_of p ans) (table_of ans)).table ≡
        overfill p (ans ++ with_reply e c (reply_with_room c (logs_of p ans) (table_of ans)) ∷ [])
    same_room = ap₂ has_no_room (effect-logs p ans e c (table_of ans) at kept) (effect-table ans e c (logs_of p ans) kept)

    by : (t : Bool) → has_no_room (effect_of c (logs_of p ans) (table_of ans)).logs (effect_of c (logs_of p ans) (table_of ans)).table ≡ t →
        effect_is p ans (with_reply e c (or_limit p ans e c (reply_with_room c (logs_of p ans) (table_of ans))))
        (if t then told replies.Limit (logs_of p ans) (table_of ans) else effect_of c (logs_of p ans) (table_of ans))
    by true h = subst (λ (u : Bool). effect_is p ans (with_reply e c (if u then replies.Limit else reply_with_room c (logs_of p ans) (table_of ans))) (told replies.Limit (logs_of p ans) (table_of ans)))
        (sym h ∙ same_room) (no_limit ans p e c kept)
    by false h = subst (λ (u : Bool). effect_is p ans (with_reply e c (if u then replies.Limit else reply_with_room c (logs_of p ans) (table_of ans))) (effect_of c (logs_of p ans) (table_of ans)))
        (sym h ∙ same_room) (effect-logs p ans e c (table_of ans) at kept, effect-table ans e c (logs_of p ans) kept, effect-reply c (logs_of p ans) (table_of ans), room-kept p ans e c at kept)

-- ---- the sessions

abbrev session_for : List Answered → ClientId → Option Session
session_for ans k = option_map session_from (last_of k ans None)

own_sessions : (p : PartitionTable) (before : List Entry) (ans : List Answered) → Follows p before ans → AreOwn (session_for ans)
own_sessions p before ans f k s h = by (last_of k ans None) refl h
  where
    by : (o : Option Answered) → last_of k ans None ≡ o → option_map session_from o ≡ Some s → s.client.0 ≡ k.0
    by None e g = absurd (none_some g)
      where
        none_some : None ≡ Some s → ⊥
        none_some d = grind arith
    by (Some a) e g = ap (λ (x : Session). x.client.0) (sym (some_is (session_from a) g)) ∙ f.own k a e
      where
        some_is : (x : Session) → Some x ≡ Some s → x ≡ s
        some_is x d = ap (λ (o : Option Session). or_this o x) d
          where
            or_this : Option Session → Session → Session
            or_this None y = y
            or_this (Some z) y = z

pub session-step : (p : PartitionTable) (before : List Entry) (ans : List Answered) (k : ClientId) → Follows p before ans → session_at k (sessions_of ans) ≡ session_for ans k
session-step p before ans k f = session-by (session_for ans) (clients_of ans) k (own_sessions p before ans f) (λ s h. by s (last_of k ans None) refl h)
  where
    by : (s : Session) (o : Option Answered) → last_of k ans None ≡ o → option_map session_from o ≡ Some s → HasClient k.0 (clients_of ans)
    by s None e g = absurd (none_some g)
      where
        none_some : None ≡ Some s → ⊥
        none_some d = grind arith
    by s (Some a) e g = f.has k a e

pub sessions-step : (p : PartitionTable) (before : List Entry) (ans : List Answered) (a : Answered) → Follows p before ans → with_session (session_from a) (sessions_of ans) ≡ sessions_of (ans ++ a ∷ [])
sessions-step p before ans a f =
    with-session (session_for ans) (session_for (ans ++ a ∷ [])) (clients_of ans) (session_from a) (own_sessions p before ans f) f.rise
    (λ k. ap (λ (o : Option Answered). option_map session_from o) (last-snoc k ans a None) ∙ by k (a.entry.client.0 == k.0))
    ∙ ap (λ (cs : List ClientId). filter_map (session_for (ans ++ a ∷ [])) cs) (sym (clients-snoc [] ans a))
  where
    by : (k : ClientId) (t : Bool) → option_map session_from (if t then Some a else last_of k ans None) ≡ (if t then Some (session_from a) else session_for ans k)
    by k true = refl
    by k false = refl

-- ---- one entry

abbrev by_command : Replica → Entry → Option Command → Applied
by_command r e None = passed_over r
by_command r e (Some c) = numbered r e c (session_at e.client r.sessions)

judged-is : (p : PartitionTable) (r : Replica) (e : Entry) (x : Result Command CodecFault) → judged p r e x ≡ by_command r e (concerning p x)
judged-is p r e (Err fault) = refl
judged-is p r e (Ok c) = by (is_concerned c p)
  where
    by : (t : Bool) → (if t then numbered r e c (session_at e.client r.sessions) else passed_over r) ≡ by_command r e (if t then Some c else None)
    by true = refl
    by false = refl

concerned-is : (p : PartitionTable) (x : Result Command CodecFault) (c : Command) → concerning p x ≡ Some c → is_concerned c p ≡ true
concerned-is p (Err fault) c h = absurd (none_some h)
  where
    none_some : None ≡ Some c → ⊥
    none_some d = grind arith
concerned-is p (Ok d) c h = by (is_concerned d p) refl h
  where
    none_some : None ≡ Some c → ⊥
    none_some g = grind arith

    or_this : Option Command → Command → Command
    or_this None y = y
    or_this (Some z) y = z

    by : (t : Bool) → is_concerned d p ≡ t → (if t then Some d else None) ≡ Some c → is_concerned c p ≡ true
    by true e g = subst (λ (x : Command). is_concerned x p ≡ true) (ap (λ (o : Option Command). or_this o d) g) e
    by false e g = absurd (none_some g)

abbrev applied_as : PartitionTable → List Entry → Entry → Applied → Type 0
applied_as p before e made = made ≡ record { replica = replica_after p (before ++ e ∷ []); reply = option_map reply_bytes (reply_to p before e) }

-- what an entry makes, and that all of this goes on
abbrev Step : PartitionTable → List Entry → Entry → Applied → Type 0
Step p before e made = applied_as p before e made × Follows p (before ++ e ∷ []) (answered_of p (before ++ e ∷ []))

concerned-for : (p : PartitionTable) (e : Entry) (c : Command) → command_for p e ≡ Some c → concerns p e ≡ true
concerned-for p e c h = ap (λ (o : Option Command). is_some o) h

-- the replica and the reply where nothing is taken
abbrev kept_as : Replica → Option Reply → Applied
kept_as r o = record { replica = r; reply = option_map reply_bytes o }

same-applied : (p : PartitionTable) (before : List Entry) (e : Entry) (o : Option Reply) → counts_after p before e ≡ false → reply_to p before e ≡ o →
    applied_as p before e (kept_as (replica_after p before) o)
same-applied p before e o not h =
    ap₂ kept_as (ap (λ (l : List Answered). replica_of p l) (sym (answered-passed p before e not))) (sym h)

step-none : (p : PartitionTable) (before : List Entry) (e : Entry) → Follows p before (answered_of p before) → command_for p e ≡ None → Step p before e (passed_over (replica_after p before))
unfolding reply_to
step-none p before e f h = (
  same-applied p before e None not_counted (ap (λ (t : Bool). if t && not (has_shown p e.client (e.seq + 1) before) then reply_in e.client e.seq (answered_of p (before ++ e ∷ [])) else None) doesnt),
  subst (λ (l : List Answered). Follows p (before ++ e ∷ []) l) (sym (answered-passed p before e not_counted)) (follows-passed p before (answered_of p before) e f doesnt),
)
  where
    doesnt : concerns p e ≡ false
    doesnt = ap (λ (o : Option Command). is_some o) h

    not_counted : counts_after p before e ≡ false
    not_counted = ap (λ (t : Bool). t && not (has_shown p e.client e.seq before)) doesnt

step-counted : (p : PartitionTable) (before : List Entry) (e : Entry) (c : Command) → Follows p before (answered_of p before) → command_for p e ≡ Some c →
    has_shown p e.client e.seq before ≡ false → Step p before e (taken (replica_after p before) e c)
unfolding reply_to replica_of
step-counted p before e c f h new = by (answered_of p before) f (answered-counted p before e counts ∙ ap (λ (o : Option Command). with_answer p (answered_of p before) e o) h)
  where
    does : concerns p e ≡ true
    does = concerned-for p e c h

    counts : counts_after p before e ≡ true
    counts = ap₂ (λ (t u : Bool). t && not u) does new

    at : is_concerned c p ≡ true
    at = concerned-is p (command_of e.command) c h

    by : (ans : List Answered) → Follows p before ans → answered_of p (before ++ e ∷ []) ≡ ans ++ answered_with p ans e c ∷ [] → Step p before e (taken (replica_of p ans) e c)
    by ans g answered = (
      ap₂ (λ (l : List LogState) (x : List TableEntry). made l x made_now.reply) s.0 s.1
          ∙ ap (λ (x : Reply). made (logs_of p (ans ++ a ∷ [])) (table_of (ans ++ a ∷ [])) x) s.2
          ∙ ap (λ (x : List Session). record { replica = record { sessions = x; logs = logs_of p (ans ++ a ∷ []); table = table_of (ans ++ a ∷ []) }; reply = Some (reply_bytes a.reply) }) (sessions-step p before ans a g)
          ∙ ap₂ kept_as (ap (λ (l : List Answered). replica_of p l) (sym answered)) (sym replied),
      subst (λ (l : List Answered). Follows p (before ++ e ∷ []) l) (sym answered) (follows-counted p before ans a g does new s.3),
    )
      where
        a : Answered
        a = answered_with p ans e c

        made_now : Effect
        made_now = where_room (logs_of p ans) (table_of ans) (effect_of c (logs_of p ans) (table_of ans))

        s : effect_is p ans (answered_with p ans e c) (where_room (logs_of p ans) (table_of ans) (effect_of c (logs_of p ans) (table_of ans)))
        s = services-step p ans e c at g.kept

        made : List LogState → List TableEntry → Reply → Applied
        made l x y = record { replica = record { sessions = with_session (record { client = e.client; seq = e.seq; reply = reply_bytes y }) (sessions_of ans); logs = l; table = x }; reply = Some (reply_bytes y) }

        is_new : at_least e.seq (last_of e.client ans None) ≡ false
        is_new = sym (g.greatest e.client e.seq) ∙ new

        newer : (l : Option Answered) → at_least e.seq l ≡ false → at_least (e.seq + 1) l ≡ false
        newer None x = refl
        newer (Some b) x = one_more e.seq b.entry.seq x
          where
            one_more : (n m : ℕ) → nat_le n m ≡ false → nat_le (n + 1) m ≡ false
            one_more n m y = grind arith

        newest : is_newest_after p before e ≡ true
        newest = ap₂ (λ (t u : Bool). t && not u) does (g.greatest e.client (e.seq + 1) ∙ newer (last_of e.client ans None) is_new)

        itself : (n : ℕ) → (n == n) ≡ true
        itself n = grind arith

        hit : is_of e.client e.seq (answered_with p ans e c) ≡ true
        hit = ap₂ (λ (t u : Bool). t && u) (itself e.client.0) (itself e.seq)

        replied : reply_to p before e ≡ Some (answered_with p ans e c).reply
        replied = ap (λ (t : Bool). if t then reply_in e.client e.seq (answered_of p (before ++ e ∷ [])) else None) newest
            ∙ ap (λ (l : List Answered). reply_in e.client e.seq l) answered
            ∙ ap (λ (o : Option Answered). option_map (λ (x : Answered). x.reply) o)
            (find-none (is_of e.client e.seq) ans (answered_with p ans e c) (g.none_found e.client e.seq is_new) ∙ ap (λ (t : Bool). if t then Some (answered_with p ans e c) else None) hit)

step-repeat : (p : PartitionTable) (before : List Entry) (e : Entry) (c : Command) (b : Answered) → Follows p before (answered_of p before) → command_for p e ≡ Some c →
    last_of e.client (answered_of p before) None ≡ Some b → nat_le e.seq b.entry.seq ≡ true → (u : Bool) → (b.entry.seq == e.seq) ≡ u →
    Step p before e (if u then given_again (replica_after p before) (session_from b) else passed_over (replica_after p before))
unfolding reply_to
step-repeat p before e c b f h last shown u same = (
  by u same,
  subst (λ (l : List Answered). Follows p (before ++ e ∷ []) l) (sym (answered-passed p before e not_counted)) (follows-repeat p before (answered_of p before) e f does is_shown),
)
  where
    does : concerns p e ≡ true
    does = concerned-for p e c h

    is_shown : has_shown p e.client e.seq before ≡ true
    is_shown = f.greatest e.client e.seq ∙ ap (λ (o : Option Answered). at_least e.seq o) last ∙ shown

    not_counted : counts_after p before e ≡ false
    not_counted = ap₂ (λ (t v : Bool). t && not v) does is_shown

    next_shown : has_shown p e.client (e.seq + 1) before ≡ nat_le (e.seq + 1) b.entry.seq
    next_shown = f.greatest e.client (e.seq + 1) ∙ ap (λ (o : Option Answered). at_least (e.seq + 1) o) last

    level : (n m : ℕ) → (m == n) ≡ true → nat_le (n + 1) m ≡ false
    level n m x = grind arith

    above : (n m : ℕ) → nat_le n m ≡ true → (m == n) ≡ false → nat_le (n + 1) m ≡ true
    above n m x y = grind arith

    equal_is : (n m : ℕ) → (m == n) ≡ true → m ≡ n
    equal_is n m x = grind arith

    newest_is : (t : Bool) → nat_le (e.seq + 1) b.entry.seq ≡ t → is_newest_after p before e ≡ not t
    newest_is t x = ap₂ (λ (v w : Bool). v && not w) does (next_shown ∙ x)

    by : (v : Bool) → (b.entry.seq == e.seq) ≡ v → applied_as p before e (if v then given_again (replica_after p before) (session_from b) else passed_over (replica_after p before))
    by true x = same-applied p before e (Some b.reply) not_counted
        (ap (λ (t : Bool). if t then reply_in e.client e.seq (answered_of p (before ++ e ∷ [])) else None) (newest_is false (level e.seq b.entry.seq x))
        ∙ ap (λ (l : List Answered). reply_in e.client e.seq l) (answered-passed p before e not_counted)
        ∙ ap (λ (o : Option Answered). option_map (λ (y : Answered). y.reply) o)
        (ap (λ (n : ℕ). find (is_of e.client n) (answered_of p before)) (sym (equal_is e.seq b.entry.seq x)) ∙ f.last_found e.client b last))
    by false x = same-applied p before e None not_counted
        (ap (λ (t : Bool). if t then reply_in e.client e.seq (answered_of p (before ++ e ∷ [])) else None) (newest_is true (above e.seq b.entry.seq shown x)))

step-some : (p : PartitionTable) (before : List Entry) (e : Entry) (c : Command) → Follows p before (answered_of p before) → command_for p e ≡ Some c →
    Step p before e (numbered (replica_after p before) e c (session_for (answered_of p before) e.client))
step-some p before e c f h = by (last_of e.client (answered_of p before) None) refl
  where
    not_new : (n m : ℕ) → nat_lt m n ≡ true → nat_le n m ≡ false
    not_new n m x = grind arith

    not_old : (n m : ℕ) → nat_lt m n ≡ false → nat_le n m ≡ true
    not_old n m x = grind arith

    by : (l : Option Answered) → last_of e.client (answered_of p before) None ≡ l → Step p before e (numbered (replica_after p before) e c (option_map session_from l))
    by None last = step-counted p before e c f h (f.greatest e.client e.seq ∙ ap (λ (o : Option Answered). at_least e.seq o) last)
    by (Some b) last = inner (nat_lt b.entry.seq e.seq) refl
      where
        inner : (t : Bool) → nat_lt b.entry.seq e.seq ≡ t → Step p before e (if t then taken (replica_after p before) e c
            else if b.entry.seq == e.seq then given_again (replica_after p before) (session_from b) else passed_over (replica_after p before))
        inner true x = step-counted p before e c f h (f.greatest e.client e.seq ∙ ap (λ (o : Option Answered). at_least e.seq o) last ∙ not_new e.seq b.entry.seq x)
        inner false x = step-repeat p before e c b f h last (not_old e.seq b.entry.seq x) (b.entry.seq == e.seq) refl

pub step : (p : PartitionTable) (before : List Entry) (e : Entry) → Follows p before (answered_of p before) → Step p before e (apply p (replica_after p before) e)
unfolding apply replica_of
step p before e f = subst (λ (x : Applied). Step p before e x) (sym (judged-is p (replica_after p before) e (command_of e.command))) (by (command_for p e) refl)
  where
    by : (o : Option Command) → command_for p e ≡ o → Step p before e (by_command (replica_after p before) e o)
    by None h = step-none p before e f h
    by (Some c) h = subst (λ (x : Option Session). Step p before e (numbered (replica_after p before) e c x)) (sym (session-step p before (answered_of p before) e.client f)) (step-some p before e c f h)

-- ---- all entries

follows-none : (p : PartitionTable) → Follows p [] (answered_of p [])
follows-none p = record {
  kept = record { trims = λ log. omega arith; rise = tt; has = λ k v h. absurd (none_some v h) };
  rise = tt;
  has = λ k a h. absurd (no_last a h);
  own = λ k a h. absurd (no_last a h);
  greatest = λ k n. refl;
  last_found = λ k a h. absurd (no_last a h);
  none_found = λ k n h. refl;
}
  where
    none_some : (v : List ℕ) → None ≡ Some v → ⊥
    none_some v d = grind arith

    no_last : (a : Answered) → None ≡ Some a → ⊥
    no_last a d = grind arith

pub follows-all : (p : PartitionTable) (before es : List Entry) → Follows p before (answered_of p before) → Follows p (before ++ es) (answered_of p (before ++ es))
follows-all p before [] f = subst (λ (l : List Entry). Follows p l (answered_of p l)) (sym (append-nil before)) f
follows-all p before (e ∷ es) f = subst (λ (l : List Entry). Follows p l (answered_of p l)) (append_assoc before (e ∷ []) es) (follows-all p (before ++ e ∷ []) es (step p before e f).1)

pub follows : (p : PartitionTable) (es : List Entry) → Follows p es (answered_of p es)
follows p es = follows-all p [] es (follows-none p)

applies-follow : (p : PartitionTable) (before es : List Entry) (index : ℕ) (done : AppliedAll) → done.replica ≡ replica_after p before → (applies_from p index done es).replica ≡ replica_after p (before ++ es)
applies-follow p before [] index done h = h ∙ ap (λ (l : List Entry). replica_after p l) (sym (append-nil before))
applies-follow p before (e ∷ es) index done h =
    applies-follow p (before ++ e ∷ []) es (suc index) (with_applied index e done.replies (apply p done.replica e))
    (ap (λ (r : Replica). (apply p r e).replica) h ∙ ap (λ (x : Applied). x.replica) (step p before e (follows p before)).0)
    ∙ ap (λ (l : List Entry). replica_after p l) (append_assoc before (e ∷ []) es)

empty-after : (p : PartitionTable) → empty_replica p ≡ replica_after p []
unfolding replica_of
empty-after p = refl

-- a replica that takes these entries one by one has what the lists say
pub replica-follows : (p : PartitionTable) (es : List Entry) → (applies p (empty_replica p) es).replica ≡ replica_after p es
replica-follows p es = applies-follow p [] es 0 (record { replica = empty_replica p; replies = [] }) (empty-after p)

-- and replies to the next as they say
pub reply-follows : (p : PartitionTable) (es : List Entry) (e : Entry) → apply p (replica_after p es) e ≡ record { replica = replica_after p (es ++ e ∷ []); reply = option_map reply_bytes (reply_to p es e) }
reply-follows p es e = (step p es e (follows p es)).0
