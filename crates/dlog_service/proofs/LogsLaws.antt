-- Logs that take a value, logs of which one is trimmed, and how many bytes they have.
use Rattle.std.proofs.Common.{arith, ◌≡◌, ℕ, zero, suc, ◌+◌, ◌*◌, ◌^◌, ◌<◌, ◌≤◌, nat_lt, nat_le, Bool, true, false, if◌then◌else◌, List, [], ◌∷◌, ◌++◌, length, take, drop, get_or, set, Option, Some, None, refl, sym, ◌∙◌, ap, subst, IsTrue, length-append, append_assoc, true≢false}
use Rattle.std.specs.Prelude.{◌||◌, ◌&&◌, ◌==◌, slice_get}
use Rattle.std.specs.List.{sum_by, count_by, list_any, cons_option}
use Rattle.std.proofs.lemmas.Bool.Decides.{nat_tests}
use Rattle.std.proofs.lemmas.List.Sums.{sum_by-cons, sum_by-append}
use Rattle.std.proofs.lemmas.Option.{slice_get_read}
use Rattle.std.proofs.Math.Seq.{drop-cons}
use Rattle.mrp_types.specs.declared.id.LogId.{LogId}
use Rattle.command_codec.specs.declared.command.Command.{Command}
use Rattle.command_codec.specs.declared.command.Command.TheVariants.{Append, Multi, ReadLog, TrimLog}
use Rattle.command_codec.specs.declared.reply.Reply.{Reply}
use Rattle.command_codec.specs.declared.reply.Reply.TheVariants.{Positions}
use Rattle.command_codec.specs.declared.reply.LogPosition.{LogPosition}
use Rattle.plain_model.specs.Replicas.{LogState, log_length, log_size, log_at, ends_of, with_value, is_one_too_long, effect_of, read_at, trimming}
use Rattle.plain_model.specs.StateBytes.{logs_bytes, table_bytes}
use Rattle.plain_model.proofs.SizeLaws.{services-written}
use Rattle.state_laws.specs.States.{AreLogsOf}
use Rattle.state_laws.proofs.Logs.{shaped, with_lengths, with_value_shaped}
use Rattle.state_laws.proofs.Replies.{AreBelow, effect_is}
use Rattle.command_codec.specs.Valid.{IsCommand, IsStored, rises_from}
use Rattle.command_codec.specs.Replies.{IsReply}
use Rattle.std.proofs.lemmas.Bool.{ltb-true, leb-true}
use Rattle.services.specs.Parts.{ids_of, Logs, part_size, growth_of}
use Rattle.dlog_service.specs.Logs.{AreLogs, is_named, appended, logs_size}

-- ---- looking one up

pub found_at : (logs : List LogState) (id : LogId) (i : ℕ) (log : LogState) → i < length logs → log ≡ get_or logs i log → (log.id.0 == id.0) ≡ true →
    log_at id (drop i logs) ≡ log_at id logs → slice_get logs i ≡ Some (log_at id logs)
found_at logs id i log within is hit same =
    let at : slice_get logs i ≡ Some log = slice_get_read logs (length logs) i log refl within is in
    let first : log_at id (log ∷ drop (suc i) logs) ≡ log = ap (λ t. if t then log else log_at id (drop (suc i) logs)) hit in
    let parts : drop i logs ≡ log ∷ drop (suc i) logs = drop-cons logs i log within ∙ ap (λ (x : LogState). x ∷ drop (suc i) logs) (sym is) in
    at ∙ ap (λ (x : LogState). Some x) (sym first ∙ (ap (λ (xs : List LogState). log_at id xs) (sym parts) ∙ same))

-- ---- taking a value, log by log

past_all : (value : List ℕ) (named : List LogId) (i : ℕ) → i < length (take i (with_value value named []) ++ drop i []) → ⊥
past_all value named zero within = omega arith
past_all value named (suc i) within = omega arith

same_there : (value : List ℕ) (named : List LogId) (logs : List LogState) (i : ℕ) (d : LogState) → i < length (take i (with_value value named logs) ++ drop i logs) →
    get_or (take i (with_value value named logs) ++ drop i logs) i d ≡ get_or logs i d
same_there value named [] i d within = absurd (past_all value named i within)
same_there value named (log ∷ logs) zero d within = refl
same_there value named (log ∷ logs) (suc i) d within = same_there value named logs i d (omega arith)

set_there : (value : List ℕ) (named : List LogId) (logs : List LogState) (i : ℕ) (d : LogState) → i < length (take i (with_value value named logs) ++ drop i logs) →
    set (take i (with_value value named logs) ++ drop i logs) i (appended value named (get_or logs i d)) ≡ take (suc i) (with_value value named logs) ++ drop (suc i) logs
set_there value named [] i d within = absurd (past_all value named i within)
set_there value named (log ∷ logs) zero d within = refl
set_there value named (log ∷ logs) (suc i) d within =
    ap (λ (xs : List LogState). appended value named log ∷ xs) (set_there value named logs i d (omega arith))

within_old : (value : List ℕ) (named : List LogId) (logs : List LogState) (i : ℕ) → i < length (take i (with_value value named logs) ++ drop i logs) → i < length logs
within_old value named [] i within = absurd (past_all value named i within)
within_old value named (log ∷ logs) zero within = omega arith
within_old value named (log ∷ logs) (suc i) within = let less : i < length logs = within_old value named logs i (omega arith) in omega arith

pub there_before : (value : List ℕ) (named : List LogId) (logs items : List LogState) (i : ℕ) (d : LogState) → items ≡ take i (with_value value named logs) ++ drop i logs → i < length items →
    (i < length logs) × (get_or items i d ≡ get_or logs i d)
there_before value named logs items i d are within =
    let far : i < length (take i (with_value value named logs) ++ drop i logs) = subst (λ (xs : List LogState). i < length xs) are within in
    (within_old value named logs i far, ap (λ (xs : List LogState). get_or xs i d) are ∙ same_there value named logs i d far)

pub next_log : (value : List ℕ) (named : List LogId) (logs items : List LogState) (i : ℕ) (d y : LogState) → items ≡ take i (with_value value named logs) ++ drop i logs → i < length items →
    y ≡ appended value named (get_or items i d) → set items i y ≡ take (i + 1) (with_value value named logs) ++ drop (i + 1) logs
next_log value named logs items i d y are within made =
    let far : i < length (take i (with_value value named logs) ++ drop i logs) = subst (λ (xs : List LogState). i < length xs) are within in
    let made_there : y ≡ appended value named (get_or logs i d) = made ∙ ap (λ (l : LogState). appended value named l) (there_before value named logs items i d are within).1 in
    let more : i + 1 ≡ suc i = omega arith in
    rw (more, are, made_there) (set_there value named logs i d far)

neither : (t u : Bool) → (t || u) ≡ false → (t ≡ false) × (u ≡ false)
neither true u h = absurd (true≢false h)
neither false u h = (refl, h)

room_first : (value : List ℕ) (named : List LogId) (log : LogState) (t : Bool) → nat_lt (2 ^ 63) (log_length (if t then record log { values = log.values ++ value ∷ [] } else log)) ≡ false → t ≡ true → log_length log < 2 ^ 63
room_first value named log true fits is = let more = length-append log.values (value ∷ []) in grind (arith, nat_tests)
room_first value named log false fits is = cc

room_there : (value : List ℕ) (named : List LogId) (logs : List LogState) (i : ℕ) (d : LogState) → i < length logs → is_one_too_long (with_value value named logs) ≡ false →
    is_named named (get_or logs i d) ≡ true → log_length (get_or logs i d) < 2 ^ 63
room_there value named [] i d within room is = absurd (omega arith)
room_there value named (log ∷ logs) zero d within room is = room_first value named log (is_named named log) (neither _ _ room).0 is
room_there value named (log ∷ logs) (suc i) d within room is = room_there value named logs i d (omega arith) (neither (nat_lt (2 ^ 63) (log_length (appended value named log))) (is_one_too_long (with_value value named logs)) room).1 is

pub room_next : (value : List ℕ) (named : List LogId) (logs items : List LogState) (i : ℕ) (d : LogState) → items ≡ take i (with_value value named logs) ++ drop i logs → i < length items →
    is_one_too_long (with_value value named logs) ≡ false → IsTrue (is_named named (get_or items i d)) → log_length (get_or items i d) < 2 ^ 63
room_next value named logs items i d are within room there =
    let old = there_before value named logs items i d are within in
    subst (λ (l : LogState). log_length l < 2 ^ 63) (sym old.1) (room_there value named logs i d old.0 room (subst (λ (l : LogState). is_named named l ≡ true) old.1 there))

option_apart : {T : Type 0} (o : Option T) (xs : List T) → cons_option o [] ++ xs ≡ cons_option o xs
option_apart None xs = refl
option_apart (Some x) xs = refl

pub next_positions : (value : List ℕ) (named : List LogId) (logs items : List LogState) (i : ℕ) (d : LogState) (before now all : List LogPosition) → items ≡ take i (with_value value named logs) ++ drop i logs →
    i < length items → now ≡ before ++ ends_of named (get_or items i d ∷ []) → before ++ ends_of named (drop i logs) ≡ all → now ++ ends_of named (drop (i + 1) logs) ≡ all
next_positions value named logs items i d before now all are within grown so_far =
    let old = there_before value named logs items i d are within in
    let grown_there : now ≡ before ++ ends_of named (get_or logs i d ∷ []) = grown ∙ ap (λ (l : LogState). before ++ ends_of named (l ∷ [])) old.1 in
    let parts : drop i logs ≡ get_or logs i d ∷ drop (suc i) logs = drop-cons logs i d old.0 in
    let more : i + 1 ≡ suc i = omega arith in
    rw (more, grown_there, append_assoc) (ap (λ (xs : List LogPosition). before ++ xs) (option_apart _ (ends_of named (drop (suc i) logs))) ∙ (ap (λ (xs : List LogState). before ++ ends_of named xs) (sym parts) ∙ so_far))

-- ---- what stays, and what comes in

pub same_ids : (value : List ℕ) (named : List LogId) (logs : List LogState) → ids_of (with_value value named logs) ≡ ids_of logs
same_ids value named [] = refl
same_ids value named (log ∷ logs) = by (is_named named log) (same_ids value named logs)
  where
    by : (t : Bool) → ids_of (with_value value named logs) ≡ ids_of logs →
        ids_of ((if t then record log { values = log.values ++ value ∷ [] } else log) ∷ with_value value named logs) ≡ ids_of (log ∷ logs)
    by true later = ap (λ (ids : List LogId). log.id ∷ ids) later
    by false later = ap (λ (ids : List LogId). log.id ∷ ids) later

grown : (value : List ℕ) (log : LogState) → log_size (record log { values = log.values ++ value ∷ [] }) ≡ log_size log + (2 + length value)
grown value log =
    let f : List ℕ → ℕ = λ (v : List ℕ). 2 + length v in
    omega (arith, sum_by-append f log.values (value ∷ []), sum_by-cons f value [])

sizes_after : (value : List ℕ) (named : List LogId) (logs : List LogState) → sum_by log_size (with_value value named logs) ≡ sum_by log_size logs + count_by (is_named named) logs * (2 + length value)
sizes_after value named [] = omega arith
sizes_after value named (log ∷ logs) = by (is_named named log) refl (sizes_after value named logs)
  where
    by : (t : Bool) → is_named named log ≡ t → sum_by log_size (with_value value named logs) ≡ sum_by log_size logs + count_by (is_named named) logs * (2 + length value) →
        sum_by log_size ((if t then record log { values = log.values ++ value ∷ [] } else log) ∷ with_value value named logs) ≡ sum_by log_size (log ∷ logs) + count_by (is_named named) (log ∷ logs) * (2 + length value)
    by true is later =
        let more : count_by (is_named named) (log ∷ logs) ≡ 1 + count_by (is_named named) logs = sum_by-cons (λ (l : LogState). if is_named named l then 1 else 0) log logs ∙ ap (λ (t : Bool). (if t then 1 else 0) + count_by (is_named named) logs) is in
        rw more (omega (
          arith,
          sum_by-cons log_size (record log { values = log.values ++ value ∷ [] }) (with_value value named logs),
          sum_by-cons log_size log logs,
          grown value log,
          later,
        ))
    by false is later =
        let more : count_by (is_named named) (log ∷ logs) ≡ 0 + count_by (is_named named) logs = sum_by-cons (λ (l : LogState). if is_named named l then 1 else 0) log logs ∙ ap (λ (t : Bool). (if t then 1 else 0) + count_by (is_named named) logs) is in
        rw more (omega (arith, sum_by-cons log_size log (with_value value named logs), sum_by-cons log_size log logs, later))

pub size_after : (value : List ℕ) (named : List LogId) (logs : List LogState) → logs_size (with_value value named logs) ≡ logs_size logs + count_by (is_named named) logs * (2 + length value)
size_after value named logs = omega (arith, sizes_after value named logs)

abbrev pub is_full : List LogId → LogState → Bool
is_full named log = is_named named log && nat_le (2 ^ 63) (log_length log)

first_full : (value : List ℕ) (log : LogState) (t : Bool) → log_length log ≤ 2 ^ 63 →
    (t && nat_le (2 ^ 63) (log_length log)) ≡ nat_lt (2 ^ 63) (log_length (if t then record log { values = log.values ++ value ∷ [] } else log))
first_full value log true few = let more = length-append log.values (value ∷ []) in grind (arith, nat_tests)
first_full value log false few = grind (arith, nat_tests)

pub full_after : (value : List ℕ) (named ids : List LogId) (logs : List LogState) → AreLogsOf ids logs → list_any (is_full named) logs ≡ is_one_too_long (with_value value named logs)
full_after value named [] [] are = refl
full_after value named [] (log ∷ logs) are = absurd are
full_after value named (id ∷ ids) [] are = absurd are
full_after value named (id ∷ ids) (log ∷ logs) are =
    let few = are.1.few in
    ap (λ (t : Bool). t || list_any (is_full named) logs) (first_full value log (is_named named log) few)
    ∙ ap (λ (t : Bool). nat_lt (2 ^ 63) (log_length (appended value named log)) || t) (full_after value named ids logs are.2)

pub none_too_long : (ids : List LogId) (logs : List LogState) → AreLogsOf ids logs → is_one_too_long logs ≡ false
none_too_long [] [] are = refl
none_too_long [] (log ∷ logs) are = absurd are
none_too_long (id ∷ ids) [] are = absurd are
none_too_long (id ∷ ids) (log ∷ logs) are = let few = are.1.few in let later = none_too_long ids logs are.2 in grind (arith, nat_tests)

pub written : (logs : List LogState) → part_size (Logs logs) ≡ logs_size logs
written logs = omega (arith, services-written logs [], length-append (logs_bytes logs) (table_bytes []), services-written [] [], length-append (logs_bytes []) (table_bytes []))

-- ---- growth

pub growth_appended : (value : List ℕ) (named : List LogId) (logs : List LogState) →
    growth_of (Multi named value) (Logs logs) ≡ (if is_one_too_long (with_value value named logs) then 67108865 else count_by (is_named named) logs * (2 + length value))
unfolding effect_of
growth_appended value named logs =
    ap (λ (n : ℕ). if is_one_too_long (with_value value named logs) then 67108865 else n)
    (omega (arith, written (with_value value named logs), written logs, size_after value named logs))

pub growth_one : (value : List ℕ) (log : LogId) (logs : List LogState) → growth_of (Append log value) (Logs logs) ≡ growth_of (Multi (log ∷ []) value) (Logs logs)
unfolding effect_of
growth_one value log logs = refl

-- ---- how many there are

both_true : (t u : Bool) → (t && u) ≡ true → (t ≡ true) × (u ≡ true)
both_true true u is = (refl, is)
both_true false u is = absurd (true≢false (sym is))

pub few_ids_from : (least : ℕ) (ids : List LogId) → least ≤ 64 → IsTrue (rises_from least ids) → length ids + least ≤ 64
few_ids_from least [] low rising = omega arith
few_ids_from least (id ∷ ids) low rising =
    let first = both_true (nat_le least id.0) (nat_lt id.0 64 && rises_from (id.0 + 1) ids) rising in
    let second = both_true (nat_lt id.0 64) (rises_from (id.0 + 1) ids) first.1 in
    let from : least ≤ id.0 = leb-true _ _ first.0 in
    let below : id.0 < 64 = ltb-true _ _ second.0 in
    let others : length ids + (id.0 + 1) ≤ 64 = few_ids_from (id.0 + 1) ids (omega arith) second.1 in
    omega arith

pub few_ids : (logs : List LogState) → length (ids_of logs) ≡ length logs
few_ids [] = refl
few_ids (log ∷ logs) = ap (λ (n : ℕ). suc n) (few_ids logs)

pub few_logs : (logs : List LogState) → AreLogs logs → length logs ≤ 64
few_logs logs are = omega (arith, few_ids logs, few_ids_from 0 (ids_of logs) (omega arith) are.rising)

pub below_all : (least : ℕ) (logs : List LogState) → IsTrue (rises_from least (ids_of logs)) → AreBelow (ids_of logs)
below_all least [] rising = tt
below_all least (log ∷ logs) rising =
    let first = both_true (nat_le least log.id.0) (nat_lt log.id.0 64 && rises_from (log.id.0 + 1) (ids_of logs)) rising in
    let second = both_true (nat_lt log.id.0 64) (rises_from (log.id.0 + 1) (ids_of logs)) first.1 in
    (ltb-true _ _ second.0, below_all (log.id.0 + 1) logs second.1)

-- ---- the logs that stay logs

pub appended_are : (value : List ℕ) (named : List LogId) (logs : List LogState) → IsStored value → is_one_too_long (with_value value named logs) ≡ false → AreLogs logs → AreLogs (with_value value named logs)
appended_are value named logs short room are = record {
  rising = subst (λ (ids : List LogId). IsTrue (rises_from 0 ids)) (sym (same_ids value named logs)) are.rising;
  each = subst (λ (ids : List LogId). AreLogsOf ids (with_value value named logs)) (sym (same_ids value named logs))
      (with_lengths (ids_of logs) (with_value value named logs) (with_value_shaped value named (ids_of logs) logs short (shaped (ids_of logs) logs are.each)) room);
}

-- the reply to a command on them is a reply
pub reply_is : (c : Command) (logs : List LogState) → IsCommand c → AreLogs logs → IsReply (effect_of c logs []).reply
reply_is c logs is are =
    let few : length (ids_of logs) ≤ 64 = omega (arith, few_ids logs, few_logs logs are) in
    (effect_is c (ids_of logs) logs [] is few (below_all 0 logs are.rising) are.each tt).reply.valid

-- ---- what commands make of them

pub room_from : (value : List ℕ) (named : List LogId) (logs : List LogState) → growth_of (Multi named value) (Logs logs) ≤ 67108864 → is_one_too_long (with_value value named logs) ≡ false
room_from value named logs room = by (is_one_too_long (with_value value named logs)) (subst (λ (n : ℕ). n ≤ 67108864) (growth_appended value named logs) room)
  where
    by : (t : Bool) → (if t then 67108865 else count_by (is_named named) logs * (2 + length value)) ≤ 67108864 → t ≡ false
    by true most = absurd (omega arith)
    by false most = refl

pub multi_effect : (value : List ℕ) (named : List LogId) (logs : List LogState) → effect_of (Multi named value) logs [] ≡ record { logs = with_value value named logs; table = []; reply = Positions (ends_of named logs) }
unfolding effect_of
multi_effect value named logs = refl

pub append_effect : (value : List ℕ) (log : LogId) (logs : List LogState) → effect_of (Append log value) logs [] ≡ record { logs = with_value value (log ∷ []) logs; table = []; reply = Positions (ends_of (log ∷ []) logs) }
unfolding effect_of
append_effect value log logs = refl

pub read_effect : (position : ℕ) (log : LogId) (logs : List LogState) → effect_of (ReadLog log position) logs [] ≡ record { logs = logs; table = []; reply = read_at position (log_at log logs) }
unfolding effect_of
read_effect position log logs = refl

pub trim_effect : (position : ℕ) (log : LogId) (logs : List LogState) → effect_of (TrimLog log position) logs [] ≡ trimming position (log_at log logs) logs []
unfolding effect_of
trim_effect position log logs = refl

pub same_reply : (c : Command) (logs : List LogState) (r : Reply) → IsCommand c → AreLogs logs → r ≡ (effect_of c logs []).reply → IsReply r
same_reply c logs r is are made = subst (λ (x : Reply). IsReply x) (sym made) (reply_is c logs is are)
