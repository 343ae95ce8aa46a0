-- What a replica makes of an entry is valid again, and its replies are replies.
use Rattle.std.proofs.Common.{arith, ◌≡◌, ◌≤◌, ℕ, suc, ◌+◌, ◌*◌, nat_lt, ◌==◌, Bool, true, false, if◌then◌else◌, List, [], ◌∷◌, ◌++◌, length, map, Option, Some, None, Result, Ok, Err, refl, sym, subst}
use Rattle.std.specs.Prelude.{sum_by}
use Rattle.std.specs.List.{AllByRecursion}
use Rattle.std.proofs.lemmas.Bool.{ltb-false}
use Rattle.std.proofs.lemmas.List.Sums.{sum_by-cons}
use Rattle.mrp_types.specs.declared.id.ClientId.{ClientId}
use Rattle.mrp_types.specs.declared.id.LogId.{LogId}
use Rattle.mrp_types.specs.declared.value.Entry.{Entry}
use Rattle.command_codec.specs.declared.command.Command.{Command}
use Rattle.command_codec.specs.declared.fault.CodecFault.{CodecFault}
use Rattle.command_codec.specs.declared.reply.TableEntry.{TableEntry}
use Rattle.command_codec.specs.declared.reply.Reply.TheVariants as replies
use Rattle.command_codec.specs.Grammar.{command_at, command_of}
use Rattle.command_codec.specs.Replies.{reply_bytes}
use Rattle.command_codec.specs.Spelling.{command_bytes}
use Rattle.command_codec.specs.Valid.{IsCommand}
use Rattle.command_codec.proofs.Combined.{whole_was}
use Rattle.command_codec.proofs.CommandLaws.{IsWhole, command_law}
use Rattle.mrp_config.specs.declared.tables.PartitionTable.{PartitionTable}
use Rattle.mrp_config.specs.Routing.{is_concerned}
use Rattle.mrp_config.specs.Valid.{AreAtMost, numbers_of_logs}
use Rattle.plain_model.specs.Replicas.{Session, LogState, Replica, Applied, AppliedAll, Effect, session_at, with_session, services_size, log_size, empty_log, empty_replica, is_one_too_long, has_no_room, where_room, told, effect_of, taken, numbered, judged, passed_over, given_again, apply, applies, applies_from, with_applied, noted}
use Rattle.plain_model.specs.Fold.{replica_after}
use Rattle.plain_model.proofs.FoldLogs.{number_is}
use Rattle.plain_model.proofs.FoldLaw.{replica-follows}
use Rattle.state_laws.specs.Spoken.{IsSpoken, IsReplyText, IsTextOrNone}
use Rattle.state_laws.specs.States.{IsGiven, AreGiven, HasFewLogs, IsSession, AreSessions, AreLogsOf, AreRisingAfter, IsState}
use Rattle.state_laws.proofs.Logs.{with_lengths, empty_are, neither}
use Rattle.state_laws.proofs.Replies.{AreBelow, IsEffect, effect_is, limit_spoken, spoken_text}

-- ---- sessions

from_client : (least more : ℕ) (session : Session) → IsSession least session → more ≤ session.client.0 → IsSession more session
from_client least more session is most = record { rising = most; client = is.client; asked = is.asked; numbered = is.numbered; reply = is.reply }

with_session_are : (new : Session) (least : ℕ) (sessions : List Session) → IsSession least new → AreSessions least sessions → AreSessions least (with_session new sessions)
with_session_are new least [] is are = (is, tt)
with_session_are new least (session ∷ sessions) is are =
    by (nat_lt new.client.0 session.client.0) refl (new.client.0 == session.client.0) refl
    (λ h. with_session_are new (session.client.0 + 1) sessions (from_client least (session.client.0 + 1) new is h) are.1)
  where
    less : (a b : ℕ) → nat_lt a b ≡ true → a + 1 ≤ b
    less a b h = grind arith

    more : (a b : ℕ) → nat_lt a b ≡ false → (a == b) ≡ false → b + 1 ≤ a
    more a b h g = grind arith

    by : (t : Bool) → nat_lt new.client.0 session.client.0 ≡ t → (u : Bool) → (new.client.0 == session.client.0) ≡ u →
        (session.client.0 + 1 ≤ new.client.0 → AreSessions (session.client.0 + 1) (with_session new sessions)) →
        AreSessions least (if t then new ∷ session ∷ sessions else if u then new ∷ sessions else session ∷ with_session new sessions)
    by true h u g later = (is, (from_client least (new.client.0 + 1) session are.0 (less new.client.0 session.client.0 h), are.1))
    by false h true g later = (is, subst (λ (n : ℕ). AreSessions (n + 1) sessions) (sym (number_is new.client.0 session.client.0 g)) are.1)
    by false h false g later = (are.0, later (more new.client.0 session.client.0 h g))

abbrev pub IsKeptOrNone : Option Session → Type 0
IsKeptOrNone None = Unit {0}
IsKeptOrNone (Some session) = IsReplyText session.reply

session_kept : (client : ClientId) (least : ℕ) (sessions : List Session) → AreSessions least sessions → IsKeptOrNone (session_at client sessions)
session_kept client least [] are = tt
session_kept client least (session ∷ sessions) are = by (session.client.0 == client.0) (session_kept client (session.client.0 + 1) sessions are.1)
  where
    by : (t : Bool) → IsKeptOrNone (session_at client sessions) → IsKeptOrNone (if t then Some session else session_at client sessions)
    by true later = are.0.reply
    by false later = later

-- ---- the services

record IsServices (ids : List LogId) (effect : Effect) : Type 0 where
  logs : AreLogsOf ids effect.logs
  table : AreRisingAfter [] effect.table
  small : services_size effect.logs effect.table ≤ 67108864
  reply : IsSpoken effect.reply

room_is : (ids : List LogId) (logs : List LogState) (table : List TableEntry) (effect : Effect) → AreLogsOf ids logs → AreRisingAfter [] table → services_size logs table ≤ 67108864 →
    IsEffect ids effect → IsServices ids (where_room logs table effect)
room_is ids logs table effect are rising small is = by (has_no_room effect.logs effect.table) refl
  where
    by : (t : Bool) → has_no_room effect.logs effect.table ≡ t → IsServices ids (if t then told replies.Limit logs table else effect)
    by true h = record { logs = are; table = rising; small = small; reply = limit_spoken }
    by false h =
        let n = neither (nat_lt 67108864 (services_size effect.logs effect.table)) (is_one_too_long effect.logs) h in
        record { logs = with_lengths ids effect.logs is.logs n.1; table = is.table; small = ltb-false _ _ n.0; reply = is.reply }

pub below_of : (ids : List LogId) → AreAtMost 63 (numbers_of_logs ids) → AreBelow ids
below_of [] low = tt
below_of (id ∷ ids) low = (omega (arith, low.0), below_of ids low.1)

-- ---- one entry

pub record IsApplied (p : PartitionTable) (made : Applied) : Type 0 where
  pub state : IsState p made.replica
  pub reply : IsTextOrNone made.reply

module _ (p : PartitionTable) (r : Replica) (e : Entry) (logs : HasFewLogs p) (given : IsGiven e) (is : IsState p r) where
  passed : IsApplied p (passed_over r)
  passed = record { state = is; reply = tt }

  taken_is : (c : Command) → IsCommand c → IsApplied p (taken r e c)
  taken_is c valid =
      let s = room_is p.logs r.logs r.table (effect_of c r.logs r.table) is.logs is.table is.small
      (effect_is c p.logs r.logs r.table valid logs.few (below_of p.logs logs.low) is.logs is.table) in
      let text = spoken_text (where_room r.logs r.table (effect_of c r.logs r.table)).reply s.reply in
      record {
        state = record {
          sessions = with_session_are (record { client = e.client; seq = e.seq; reply = reply_bytes (where_room r.logs r.table (effect_of c r.logs r.table)).reply }) 0 r.sessions
              (record { rising = omega arith; client = given.client; asked = given.asked; numbered = given.numbered; reply = text }) is.sessions;
          logs = s.logs;
          table = s.table;
          small = s.small;
        };
        reply = text;
      }

  numbered_is : (c : Command) → IsCommand c → (o : Option Session) → IsKeptOrNone o → IsApplied p (numbered r e c o)
  numbered_is c valid None is_kept = taken_is c valid
  numbered_is c valid (Some session) is_kept = by (nat_lt session.seq e.seq) (session.seq == e.seq)
    where
      by : (t u : Bool) → IsApplied p (if t then taken r e c else if u then given_again r session else passed_over r)
      by true u = taken_is c valid
      by false true = record { state = is; reply = is_kept }
      by false false = passed

  judged_is : (x : Result Command CodecFault) → command_of e.command ≡ x → IsApplied p (judged p r e x)
  judged_is (Err fault) h = passed
  judged_is (Ok c) h = by (is_concerned c p)
    where
      valid : IsCommand c
      valid = (whole_was Command command_at command_bytes IsWhole command_law e.command c given.bytes h).1.0

      by : (t : Bool) → IsApplied p (if t then numbered r e c (session_at e.client r.sessions) else passed_over r)
      by true = numbered_is c valid (session_at e.client r.sessions) (session_kept e.client 0 r.sessions is.sessions)
      by false = passed

  pub apply_is : IsApplied p (apply p r e)
  unfolding apply
  apply_is = judged_is (command_of e.command) refl

-- ---- all entries

pub from_is : (p : PartitionTable) (index : ℕ) (done : AppliedAll) (es : List Entry) → HasFewLogs p → AreGiven es → IsState p done.replica → IsState p (applies_from p index done es).replica
from_is p index done [] logs given is = is
from_is p index done (e ∷ es) logs given is =
    from_is p (suc index) (with_applied index e done.replies (apply p done.replica e)) es logs given.1 (apply_is p done.replica e logs given.0 is).state

empty_size : (ids : List LogId) → sum_by log_size (map empty_log ids) ≡ 17 * length ids
empty_size [] = omega arith
empty_size (id ∷ ids) = omega (arith, sum_by-cons log_size (empty_log id) (map empty_log ids), empty_size ids)

pub empty_is : (p : PartitionTable) → HasFewLogs p → IsState p (empty_replica p)
empty_is p logs = record {
  sessions = tt;
  logs = empty_are p.logs;
  table = tt;
  small = let few = logs.few in omega (arith, empty_size p.logs);
}

abbrev pub AreTexts : List (ℕ × Entry × List ℕ) → Type 0
AreTexts replies = AllByRecursion (λ (x : ℕ × Entry × List ℕ). IsReplyText x.2) replies

noted_are : (index : ℕ) (e : Entry) (replies : List (ℕ × Entry × List ℕ)) (o : Option (List ℕ)) → AreTexts replies → IsTextOrNone o → AreTexts (noted index e replies o)
noted_are index e replies None are is = are
noted_are index e replies (Some text) are is = at_end replies are
  where
    at_end : (l : List (ℕ × Entry × List ℕ)) → AreTexts l → AreTexts (l ++ (index, e, text) ∷ [])
    at_end [] each = (is, tt)
    at_end (x ∷ l) each = (each.0, at_end l each.1)

pub texts_from : (p : PartitionTable) (index : ℕ) (done : AppliedAll) (es : List Entry) → HasFewLogs p → AreGiven es → IsState p done.replica → AreTexts done.replies →
    AreTexts (applies_from p index done es).replies
texts_from p index done [] logs given is are = are
texts_from p index done (e ∷ es) logs given is are =
    let made = apply_is p done.replica e logs given.0 is in
    texts_from p (suc index) (with_applied index e done.replies (apply p done.replica e)) es logs given.1 made.state
    (noted_are index e done.replies (apply p done.replica e).reply are made.reply)

pub applies_is : (p : PartitionTable) (es : List Entry) → HasFewLogs p → AreGiven es → IsState p (applies p (empty_replica p) es).replica
applies_is p es logs given = from_is p 0 (record { replica = empty_replica p; replies = [] }) es logs given (empty_is p logs)

pub after_is : (p : PartitionTable) (es : List Entry) → HasFewLogs p → AreGiven es → IsState p (replica_after p es)
after_is p es logs given = subst (λ (r : Replica). IsState p r) (replica-follows p es) (applies_is p es logs given)
