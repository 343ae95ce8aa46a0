-- What the calls of the service owe, from what the functions below them say.
use Rattle.std.proofs.Common.{arith, ◌≡◌, ℕ, ◌+◌, ◌-◌, ◌*◌, ◌^◌, ◌<◌, ◌≤◌, nat_lt, Bool, true, false, if◌then◌else◌, List, [], ◌∷◌, length, map, set, get_or, Some, Result, Ok, Err, inl, inr, refl, sym, ◌∙◌, ap, subst, IsTrue}
use Rattle.std.specs.Prelude.{◌⊎◌, ◌==◌, slice_get, IfOk, OnOk}
use Rattle.std.specs.List.{sum_by, count_by, list_any}
use Rattle.std.proofs.lemmas.Bool.{ltb-false}
use Rattle.std.proofs.lemmas.Bool.Decides.{nat_tests}
use Rattle.std.proofs.lemmas.List.Sums.{sum_by-cons, count_by-le-length}
use Rattle.std.proofs.lemmas.Option.{get_or_from_slice_get}
use Rattle.std.proofs.Math.Nat.{mul-le-mul_right}
use Rattle.state_laws.specs.States.{AreLogsOf}
use Rattle.state_laws.proofs.Logs.{empty_are}
use Rattle.mrp_types.specs.declared.id.LogId.{LogId}
use Rattle.mrp_types.specs.declared.memory.Memory.{Memory}
use Rattle.command_codec.specs.declared.command.Command.{Command}
use Rattle.command_codec.specs.declared.command.Command.TheVariants.{Append, Multi, ReadLog, TrimLog, Get, Scan, Update, Insert, Delete, Swap}
use Rattle.command_codec.specs.declared.reply.Reply.{Reply}
use Rattle.command_codec.specs.declared.reply.Reply.TheVariants.{Positions}
use Rattle.command_codec.specs.declared.reply.Reply.TheVariants as replies
use Rattle.command_codec.specs.Valid.{IsCommand, rises_from}
use Rattle.command_codec.specs.Replies.{IsReply}
use Rattle.plain_model.specs.Replicas.{LogState, Effect, effect_of, log_length, log_size, log_at, empty_log, ends_of, read_at, trimming, told, with_value, with_log, trimmed_to, is_one_too_long}
use Rattle.plain_model.proofs.FoldLogs.{number_is}
use Rattle.services.specs.Parts.{Logs, ids_of, part_size, growth_of}
use Rattle.dlog_service.specs.Logs.{AreLogs, is_named, logs_size, values_size}
use Rattle.dlog_service.proofs.LogsLaws.{append_effect, multi_effect, read_effect, trim_effect, growth_one, growth_appended, room_from, reply_is, written, none_too_long, is_full, full_after, few_logs, few_ids_from, appended_are, size_after}
use Rattle.dlog_service.proofs.TrimLaws.{set_is_with, sizes_set, trimmed_logs, less_left, place_or_none}

abbrev pub made_of : List LogState → Reply → Effect
made_of logs reply = record { logs = logs; table = []; reply = reply }

pub append_made : (c : Command) (log : LogId) (value bytes : List ℕ) (old : List LogState) → c ≡ Append log value → bytes ≡ value →
    effect_of c old [] ≡ made_of (with_value bytes (log ∷ []) old) (Positions (ends_of (log ∷ []) old))
append_made c log value bytes old is same = rw (is, same) (append_effect value log old)

pub multi_made : (c : Command) (named given : List LogId) (value bytes : List ℕ) (old : List LogState) → c ≡ Multi named value → given ≡ named → bytes ≡ value →
    effect_of c old [] ≡ made_of (with_value bytes given old) (Positions (ends_of given old))
multi_made c named given value bytes old is names same = rw (is, names, same) (multi_effect value named old)

pub read_made : (c : Command) (log : LogId) (position : ℕ) (old : List LogState) → c ≡ ReadLog log position → effect_of c old [] ≡ made_of old (read_at position (log_at log old))
read_made c log position old is = rw is (read_effect position log old)

pub trim_made : (c : Command) (log : LogId) (position : ℕ) (old : List LogState) → c ≡ TrimLog log position → effect_of c old [] ≡ trimming position (log_at log old) old []
trim_made c log position old is = rw is (trim_effect position log old)

pub append_room : (c : Command) (log : LogId) (value bytes : List ℕ) (old : List LogState) → c ≡ Append log value → bytes ≡ value → growth_of c (Logs old) ≤ 67108864 →
    is_one_too_long (with_value bytes (log ∷ []) old) ≡ false
append_room c log value bytes old is same room =
    rw same (room_from value (log ∷ []) old (subst (λ (n : ℕ). n ≤ 67108864) (ap (λ (c : Command). growth_of c (Logs old)) is ∙ growth_one value log old) room))

pub multi_room : (c : Command) (named given : List LogId) (value bytes : List ℕ) (old : List LogState) → c ≡ Multi named value → given ≡ named → bytes ≡ value → growth_of c (Logs old) ≤ 67108864 →
    is_one_too_long (with_value bytes given old) ≡ false
multi_room c named given value bytes old is names same room =
    rw (names, same) (room_from value named old (subst (λ (n : ℕ). n ≤ 67108864) (ap (λ (c : Command). growth_of c (Logs old)) is) room))

abbrev pub added_by : List ℕ → List LogId → List LogState → ℕ
added_by value named logs = if is_one_too_long (with_value value named logs) then 67108865 else count_by (is_named named) logs * (2 + length value)

pub append_growth : (c : Command) (log : LogId) (value bytes : List ℕ) (old : List LogState) (n : ℕ) → c ≡ Append log value → bytes ≡ value → n ≡ added_by bytes (log ∷ []) old → n ≡ growth_of c (Logs old)
append_growth c log value bytes old n is same made =
    made ∙ (ap (λ (v : List ℕ). added_by v (log ∷ []) old) same ∙ sym (ap (λ (c : Command). growth_of c (Logs old)) is ∙ (growth_one value log old ∙ growth_appended value (log ∷ []) old)))

pub multi_growth : (c : Command) (named given : List LogId) (value bytes : List ℕ) (old : List LogState) (n : ℕ) → c ≡ Multi named value → given ≡ named → bytes ≡ value → n ≡ added_by bytes given old → n ≡ growth_of c (Logs old)
multi_growth c named given value bytes old n is names same made =
    made ∙ (ap (λ (v : List ℕ). added_by v given old) same ∙ (ap (λ (ids : List LogId). added_by value ids old) names ∙ sym (ap (λ (c : Command). growth_of c (Logs old)) is ∙ growth_appended value named old)))

-- ---- what is answered

pub state_made : (r : Result Reply Memory) (new : List LogState) (e made : Effect) → e ≡ made → OnOk r (new ≡ made.logs) → OnOk r (Logs new ≡ Logs e.logs)
state_made (Ok x) new e made is so = ap (λ (l : List LogState). Logs l) (so ∙ ap (λ (f : Effect). f.logs) (sym is))
state_made (Err x) new e made is so = tt

pub unchanged_made : (r : Result Reply Memory) (old : List LogState) (e made : Effect) → e ≡ made → old ≡ made.logs → OnOk r (Logs old ≡ Logs e.logs)
unchanged_made (Ok x) old e made is so = ap (λ (l : List LogState). Logs l) (so ∙ ap (λ (f : Effect). f.logs) (sym is))
unchanged_made (Err x) old e made is so = tt

pub reply_made : (r : Result Reply Memory) (e made : Effect) → e ≡ made → IfOk r (λ x. x ≡ made.reply) → IfOk r (λ x. x ≡ e.reply)
reply_made (Ok x) e made is so = so ∙ ap (λ (f : Effect). f.reply) (sym is)
reply_made (Err x) e made is so = tt

pub spelled_made : (r : Result Reply Memory) (c : Command) (logs : List LogState) → IsCommand c → AreLogs logs → IfOk r (λ x. x ≡ (effect_of c logs []).reply) → IfOk r IsReply
spelled_made (Ok x) c logs is are so = subst (λ (y : Reply). IsReply y) (sym so) (reply_is c logs is are)
spelled_made (Err x) c logs is are so = tt

-- ---- commands that add nothing

same_growth : (logs after : List LogState) → AreLogs logs → AreLogs after → logs_size after ≤ logs_size logs → 0 ≡ (if is_one_too_long after then 67108865 else part_size (Logs after) - part_size (Logs logs))
same_growth logs after are later less =
    let none : 0 ≡ part_size (Logs after) - part_size (Logs logs) = omega (arith, written after, written logs) in
    none ∙ ap (λ t. if t then 67108865 else part_size (Logs after) - part_size (Logs logs)) (sym (none_too_long (ids_of after) after later.each))

number_there : (id : LogId) (logs : List LogState) → (log_at id logs).id.0 ≡ id.0
number_there id [] = refl
number_there id (log ∷ logs) = by (log.id.0 == id.0) refl (number_there id logs)
  where
    by : (t : Bool) → (log.id.0 == id.0) ≡ t → (log_at id logs).id.0 ≡ id.0 → (if t then log else log_at id logs).id.0 ≡ id.0
    by true is later = number_is log.id.0 id.0 is
    by false is later = later

trim_growth : (position : ℕ) (id : LogId) (logs : List LogState) → AreLogs logs → 0 ≡ growth_of (TrimLog id position) (Logs logs)
unfolding effect_of
trim_growth position id logs are = by (nat_lt (log_length (log_at id logs)) position) refl (place_or_none id logs)
  where
    Growth : List LogState → Type 0
    Growth after = 0 ≡ (if is_one_too_long after then 67108865 else part_size (Logs after) - part_size (Logs logs))

    by : (t : Bool) → nat_lt (log_length (log_at id logs)) position ≡ t → (((i : ℕ) × (slice_get logs i ≡ Some (log_at id logs)) × ((log_at id logs).id.0 ≡ id.0)) ⊎ ((new : LogState) → new.id.0 ≡ id.0 → with_log new logs ≡ logs)) →
        Growth (if t then told (replies.Beyond (log_length (log_at id logs))) logs [] else told replies.Done (with_log (trimmed_to position (log_at id logs)) logs) []).logs
    by true is place = same_growth logs logs are are (omega arith)
    by false is (inl place) =
        let log : LogState = log_at id logs in
        let there : position ≤ log_length log = ltb-false _ _ is in
        let turned = set_is_with (trimmed_to position log) 0 logs place.0 log are.rising place.1 refl in
        subst Growth turned (same_growth logs (set logs place.0 (trimmed_to position log)) are (trimmed_logs position logs place.0 log are place.1 there)
        (omega (arith, sizes_set (trimmed_to position log) logs place.0 log place.1, less_left (position - log.trim) log.values)))
    by false is (inr none) =
        subst Growth (sym (none (trimmed_to position (log_at id logs)) (number_there id logs))) (same_growth logs logs are are (omega arith))

plain_growth : (c : Command) (logs : List LogState) → AreLogs logs → (effect_of c logs []).logs ≡ logs → 0 ≡ growth_of c (Logs logs)
plain_growth c logs are stays =
    let Growth : List LogState → Type 0 = λ after. 0 ≡ (if is_one_too_long after then 67108865 else part_size (Logs after) - part_size (Logs logs)) in
    subst Growth (sym stays) (same_growth logs logs are are (omega arith))

-- a command that is no append adds nothing
pub rest_growth : (c : Command) (logs : List LogState) → AreLogs logs → ((log : LogId) (value : List ℕ) → c ≡ Append log value → ⊥) → ((named : List LogId) (value : List ℕ) → c ≡ Multi named value → ⊥) →
    0 ≡ growth_of c (Logs logs)
unfolding effect_of
rest_growth (Append log value) logs are no_append no_multi = absurd (no_append log value refl)
rest_growth (Multi named value) logs are no_append no_multi = absurd (no_multi named value refl)
rest_growth (ReadLog log position) logs are no_append no_multi = plain_growth (ReadLog log position) logs are refl
rest_growth (TrimLog log position) logs are no_append no_multi = trim_growth position log logs are
rest_growth (Get key) logs are no_append no_multi = plain_growth (Get key) logs are refl
rest_growth (Scan from to) logs are no_append no_multi = plain_growth (Scan from to) logs are refl
rest_growth (Update key value) logs are no_append no_multi = plain_growth (Update key value) logs are refl
rest_growth (Insert key value) logs are no_append no_multi = plain_growth (Insert key value) logs are refl
rest_growth (Delete key) logs are no_append no_multi = plain_growth (Delete key) logs are refl
rest_growth (Swap key old new) logs are no_append no_multi = plain_growth (Swap key old new) logs are refl

new_ids : (ids : List LogId) → ids_of (map empty_log ids) ≡ ids
new_ids [] = refl
new_ids (id ∷ ids) = ap (λ (l : List LogId). id ∷ l) (new_ids ids)

new_sizes : (ids : List LogId) → sum_by log_size (map empty_log ids) ≡ 17 * length ids
new_sizes [] = omega arith
new_sizes (id ∷ ids) = omega (arith, sum_by-cons log_size (empty_log id) (map empty_log ids), new_sizes ids)

-- ---- the service's own numbers

pub of_view : (inside seen : List LogState) → inside ≡ seen → AreLogs inside → AreLogs seen
of_view inside seen is are = subst (λ (l : List LogState). AreLogs l) is are

pub added_full : (inside seen now : List LogState) (value : List ℕ) (named : List LogId) (t : Bool) → seen ≡ inside → inside ≡ now → AreLogs inside → t ≡ list_any (is_full named) seen → t ≡ true →
    67108865 ≡ added_by value named now
added_full inside seen now value named t is view are test full =
    let long : is_one_too_long (with_value value named now) ≡ true = ap (λ (l : List LogState). is_one_too_long (with_value value named l)) (sym view)
    ∙ (sym (full_after value named (ids_of inside) inside are.each) ∙ (ap (λ (l : List LogState). list_any (is_full named) l) (sym is) ∙ (sym test ∙ full))) in
    sym (ap (λ (t : Bool). if t then 67108865 else count_by (is_named named) now * (2 + length value)) long)

pub added_some : (inside seen again now : List LogState) (value : List ℕ) (named : List LogId) (t : Bool) (n : ℕ) → seen ≡ inside → again ≡ inside → inside ≡ now → AreLogs inside →
    t ≡ list_any (is_full named) seen → t ≡ false → n ≡ count_by (is_named named) again → n * (2 + length value) ≡ added_by value named now
added_some inside seen again now value named t n is same view are test full counted =
    let short : is_one_too_long (with_value value named now) ≡ false = ap (λ (l : List LogState). is_one_too_long (with_value value named l)) (sym view)
    ∙ (sym (full_after value named (ids_of inside) inside are.each) ∙ (ap (λ (l : List LogState). list_any (is_full named) l) (sym is) ∙ (sym test ∙ full))) in
    let count : n ≡ count_by (is_named named) now = counted ∙ ap (λ (l : List LogState). count_by (is_named named) l) (same ∙ view) in
    ap (λ (n : ℕ). n * (2 + length value)) count ∙ sym (ap (λ (t : Bool). if t then 67108865 else count_by (is_named named) now * (2 + length value)) short)

pub added_fits : (inside again : List LogState) (value : List ℕ) (named : List LogId) (n : ℕ) → again ≡ inside → AreLogs inside → length value ≤ 2048 → n ≡ count_by (is_named named) again → n * (2 + length value) < 2 ^ 64
added_fits inside again value named n same are short counted =
    let few : n ≤ 64 = omega (arith, counted, count_by-le-length (is_named named) again, ap (λ (l : List LogState). length l) same, few_logs inside are) in
    let product : n * (2 + length value) ≤ 64 * (2 + length value) = mul-le-mul_right (2 + length value) few in
    omega arith

pub append_kept : (inside now after : List LogState) (value : List ℕ) (named : List LogId) (size before added : ℕ) → inside ≡ now → AreLogs inside → before ≡ logs_size inside → length value ≤ 2048 →
    is_one_too_long (with_value value named now) ≡ false → added ≡ added_by value named now → size ≡ before + added → after ≡ with_value value named inside → AreLogs after × (size ≡ logs_size after)
append_kept inside now after value named size before added view are sized short room by_this total made =
    let here : is_one_too_long (with_value value named inside) ≡ false = ap (λ (l : List LogState). is_one_too_long (with_value value named l)) view ∙ room in
    let amount : added ≡ count_by (is_named named) inside * (2 + length value) = by_this
    ∙ (ap (λ (t : Bool). if t then 67108865 else count_by (is_named named) now * (2 + length value)) room ∙ ap (λ (l : List LogState). count_by (is_named named) l * (2 + length value)) (sym view)) in (
      subst (λ (l : List LogState). AreLogs l) (sym made) (appended_are value named inside short here are),
      omega (arith, ap (λ (l : List LogState). logs_size l) made, size_after value named inside),
    )

pub new_kept : (ids : List LogId) (logs : List LogState) → IsTrue (rises_from 0 ids) → logs ≡ map empty_log ids → AreLogs logs × (1 + 17 * length ids ≡ logs_size logs)
new_kept ids logs rising made = (
  record {
    rising = subst (λ (l : List LogId). IsTrue (rises_from 0 l)) (sym (same ∙ new_ids ids)) rising;
    each = subst (λ (l : List LogState). AreLogsOf (ids_of l) l) (sym made) (subst (λ (l : List LogId). AreLogsOf l (map empty_log ids)) (sym (new_ids ids)) (empty_are ids));
  },
  omega (arith, ap (λ (l : List LogState). logs_size l) made, new_sizes ids),
)
  where
    same : ids_of logs ≡ ids_of (map empty_log ids)
    same = ap (λ (l : List LogState). ids_of l) made

pub few_new : (ids : List LogId) → IsTrue (rises_from 0 ids) → length ids ≤ 64
few_new ids rising = let few : length ids + 0 ≤ 64 = few_ids_from 0 ids (omega arith) rising in omega arith

-- ---- trims

pub found_here : (inside seen : List LogState) (place : ℕ) (id : LogId) → seen ≡ inside → slice_get seen place ≡ Some (log_at id seen) → slice_get inside place ≡ Some (log_at id inside)
found_here inside seen place id is at = subst (λ (l : List LogState). slice_get l place ≡ Some (log_at id l)) is at

pub trim_kept : (inside : List LogState) (place position size freed : ℕ) (log new : LogState) → AreLogs inside → size ≡ logs_size inside → slice_get inside place ≡ Some log → position ≤ log_length log →
    new ≡ trimmed_to position log → values_size log.values ≡ values_size new.values + freed → AreLogs (set inside place new) × (size - freed ≡ logs_size (set inside place new))
trim_kept inside place position size freed log new are sized at there made left =
    (subst (λ (l : LogState). AreLogs (set inside place l)) (sym made) (trimmed_logs position inside place log are at there), omega (arith, sizes_set new inside place log at))

pub trim_state : (inside now : List LogState) (place position : ℕ) (id : LogId) (log new : LogState) → inside ≡ now → AreLogs inside → slice_get inside place ≡ Some (log_at id inside) → log ≡ log_at id inside →
    position ≤ log_length log → new ≡ trimmed_to position log → set inside place new ≡ (trimming position (log_at id now) now []).logs
trim_state inside now place position id log new view are at is there made = subst Made view at_inside
  where
    Made : List LogState → Type 0
    Made l = set inside place new ≡ (trimming position (log_at id l) l []).logs

    made_here : new ≡ trimmed_to position (log_at id inside)
    made_here = made ∙ ap (λ (l : LogState). trimmed_to position l) is

    within : nat_lt (log_length (log_at id inside)) position ≡ false
    within = let here = ap (λ (l : LogState). log_length l) is in grind (arith, nat_tests)

    at_inside : set inside place new ≡ (trimming position (log_at id inside) inside []).logs
    at_inside =
        ap (λ (l : LogState). set inside place l) made_here
        ∙ (set_is_with (trimmed_to position (log_at id inside)) 0 inside place (log_at id inside) are.rising at refl
        ∙ sym (ap (λ (t : Bool). (if t then told (replies.Beyond (log_length (log_at id inside))) inside [] else told replies.Done (with_log (trimmed_to position (log_at id inside)) inside) []).logs) within))

pub trim_reply : (inside now : List LogState) (position : ℕ) (id : LogId) (log : LogState) → inside ≡ now → log ≡ log_at id inside → position ≤ log_length log → replies.Done ≡ (trimming position (log_at id now) now []).reply
trim_reply inside now position id log view is there =
    let same : log ≡ log_at id now = is ∙ ap (λ (l : List LogState). log_at id l) view in
    let within : nat_lt (log_length (log_at id now)) position ≡ false = let here = ap (λ (l : LogState). log_length l) same in grind (arith, nat_tests) in
    sym (ap (λ (t : Bool). (if t then told (replies.Beyond (log_length (log_at id now))) now [] else told replies.Done (with_log (trimmed_to position (log_at id now)) now) []).reply) within)

pub here_is : (inside : List LogState) (place : ℕ) (id : LogId) (log : LogState) → slice_get inside place ≡ Some (log_at id inside) → log ≡ get_or inside place log → log ≡ log_at id inside
here_is inside place id log at is = is ∙ get_or_from_slice_get inside place (log_at id inside) log at

pub size_is : (inside now : List LogState) (size : ℕ) → inside ≡ now → size ≡ logs_size inside → size ≡ part_size (Logs now)
size_is inside now size view sized = sized ∙ (ap (λ (l : List LogState). logs_size l) view ∙ sym (written now))
