-- A schedule is read as it is spelled, and what is read is spelled so.
use Rattle.std.proofs.Common.{arith, lit<, lit≤, ◌≡◌, ◌≤◌, ◌<◌, ℕ, ◌+◌, List, [], ◌∷◌, ◌++◌, length, refl, sym, ap, ◌∙◌, subst, nat_lt, ◌≢◌, if◌then◌else◌, Bool, true, inl, inr, length-append}
use Rattle.std.proofs.Math.Path.{ap₂}
use Rattle.std.proofs.lemmas.Grind.{common_steps}
use Rattle.std.specs.Prelude.{Result, Ok, Err, IfOk, IfErr}
use Rattle.std.specs.List.{flat_map, AllByRecursion}
use Rattle.text_lines.specs.declared.fault.TextFault.{TextFault}
use Rattle.text_lines.specs.Split.{Line, ended_line, all_ended, line_bytes, unlined, words_of, lines_of}
use Rattle.text_lines.specs.Text.{joined, spaced}
use Rattle.text_lines.proofs.Inverse.{bound, then_was, else_was}
use Rattle.text_lines.proofs.Laws.{Lacks, words_of_joined, joined_words_of, lines_of_unlined, unlined_lines_of}
use Rattle.mrp_config.specs.Config.{Config}
use Rattle.schedule.specs.declared.event.ScheduleEvent.{ScheduleEvent}
use Rattle.schedule.specs.declared.event.ScheduleEvent.TheVariants.{Ask, Flow, Lose, Deliver, List as Shown, TickAll, TickNode, TickClient, Lead, Crash, Restart, Fuse, Fail, FailRead, Show}
use Rattle.schedule.specs.declared.fault.FaultKind.{FaultKind}
use Rattle.schedule.specs.declared.fault.FaultKind.TheVariants.{Route, Cut, TooMany}
use Rattle.schedule.specs.declared.fault.ScheduleFault.{ScheduleFault}
use Rattle.schedule.specs.Faults.{Answers}
use Rattle.schedule.specs.Spelling.{event_words, event_line, event_lines, schedule_text, is_routed, IsEvent, IsSchedule}
use Rattle.schedule.specs.Reading.{event_in, kinded, line_of, bounded, limited, at_line, events_from, schedule_of, IsFirstFault, NamesFirst}
use Rattle.schedule.proofs.EventLaws.{event_law, event_in_read, event_in_was}
use Rattle.schedule.proofs.Lines.{event_then}
use Rattle.mrp_types.proofs.TestLemmas.{not_above, at_most}

-- ---- a line has no line feed, its words have no space

pub lacks_words : (byte : ℕ) (config : Config) (event : ScheduleEvent) → byte < 44 → IsEvent config event → AllByRecursion (Lacks byte) (event_words event)
lacks_words byte config event low is = (event_law config).lacks byte low event is.0

-- words, of which there is one at least
abbrev pub AreSome : List (List ℕ) → Type 0
AreSome [] = ⊥
AreSome (word ∷ words) = Unit {0}

pub spelled_all : (words : List (List ℕ)) → AreSome words → AllByRecursion (Lacks 32) words → words_of (joined words) ≡ words
spelled_all [] some lacks = absurd some
spelled_all (word ∷ words) some lacks = words_of_joined word words lacks

some_words : (event : ScheduleEvent) → AreSome (event_words event)
some_words (Ask client command) = tt
some_words (Flow count) = tt
some_words (Lose count) = tt
some_words (Deliver frame) = tt
some_words (Shown frame) = tt
some_words TickAll = tt
some_words (TickNode node) = tt
some_words (TickClient client) = tt
some_words (Lead node ring) = tt
some_words (Crash node) = tt
some_words (Restart node image) = tt
some_words (Fuse node calls) = tt
some_words (Fail node calls) = tt
some_words (FailRead node calls) = tt
some_words (Show node) = tt

pub spelled_words : (config : Config) (event : ScheduleEvent) → IsEvent config event → words_of (joined (event_words event)) ≡ event_words event
spelled_words config event is = spelled_all (event_words event) (some_words event) (lacks_words 32 config event (lit< tt) is)

lacks_append : (byte : ℕ) (xs ys : List ℕ) → Lacks byte xs → Lacks byte ys → Lacks byte (xs ++ ys)
lacks_append byte [] ys first second = second
lacks_append byte (x ∷ xs) ys first second = (first.0, lacks_append byte xs ys first.1 second)

space : (byte : ℕ) → byte < 32 → 32 ≢ byte
space byte low = λ same. grind arith

lacks_spaced : (byte : ℕ) (words : List (List ℕ)) → byte < 32 → AllByRecursion (Lacks byte) words → Lacks byte (flat_map spaced words)
lacks_spaced byte [] low all = tt
lacks_spaced byte (word ∷ words) low all =
    (space byte low, lacks_append byte word (flat_map spaced words) all.0 (lacks_spaced byte words low all.1))

pub lacks_joined : (byte : ℕ) (words : List (List ℕ)) → byte < 32 → AllByRecursion (Lacks byte) words → Lacks byte (joined words)
lacks_joined byte [] low all = tt
lacks_joined byte (word ∷ words) low all = lacks_append byte word (flat_map spaced words) all.0 (lacks_spaced byte words low all.1)

-- ---- one line

abbrev pub kind_ok : ScheduleEvent → Result ScheduleEvent FaultKind
kind_ok x = Ok x

kind_is : (x y : ScheduleEvent) → kind_ok x ≡ kind_ok y → x ≡ y
kind_is x y h = cc

abbrev pub fault_ok : {A : Type 0} → A → Result A ScheduleFault
fault_ok x = Ok x

events_is : (x y : List ScheduleEvent) → fault_ok x ≡ fault_ok y → x ≡ y
events_is x y h = cc

event_is : (x y : ScheduleEvent) → fault_ok x ≡ fault_ok y → x ≡ y
event_is x y h = cc

pub line_read : (config : Config) (event : ScheduleEvent) → IsEvent config event → line_of config (ended_line (event_line event)) ≡ Ok event
unfolding line_of
line_read config event is =
    rw (spelled_words config event is, event_in_read config event is.0, is.1) refl

-- what was read of a line
pub record LineWas (config : Config) (line : Line) (event : ScheduleEvent) : Type 0 where
  pub spelled : line ≡ ended_line (event_line event)
  pub is : IsEvent config event

kinded_was : (read : Result ScheduleEvent TextFault) (event : ScheduleEvent) → kinded read ≡ Ok event → read ≡ Ok event
kinded_was (Ok x) event h = ap Ok (kind_is x event h)
kinded_was (Err fault) event h = absurd cc

pub of_parts : (line : Line) (text : List ℕ) → line.text ≡ text → line.ended ≡ true → line ≡ ended_line text
of_parts line text same ended =
    let made : List ℕ → Bool → Line = λ (t : List ℕ) (e : Bool). record { text = t; ended = e } in
    ap₂ made same ended

pub line_was : (config : Config) (line : Line) (event : ScheduleEvent) → line_of config line ≡ Ok event → LineWas config line event
unfolding line_of
line_was config line event h =
    let one = bound (kinded (event_in config (words_of line.text))) (λ e. if line.ended then (if is_routed config e then Ok e else Err Route) else Err Cut) event h in
    let read = one.0 in
    let ended = then_was line.ended Cut (if is_routed config read then Ok read else Err Route) event one.2 in
    let routed = then_was (is_routed config read) Route (Ok read) event ended.1 in
    let was = event_in_was config (words_of line.text) read (kinded_was (event_in config (words_of line.text)) read one.1) in
    let same : line.text ≡ event_line read = sym (joined_words_of line.text) ∙ ap joined was.0 in
    subst (λ (e : ScheduleEvent). LineWas config line e) (kind_is read event routed.1) (record {
      spelled = of_parts line (event_line read) same ended.0;
      is = (was.1, routed.0);
    })

-- ---- all lines

text_of_lines : (events : List ScheduleEvent) → schedule_text events ≡ unlined (all_ended (event_lines events))
text_of_lines [] = refl
text_of_lines (event ∷ events) = ap (λ (rest : List ℕ). (event_line event ++ 10 ∷ []) ++ rest) (text_of_lines events)

lacks_lines : (config : Config) (events : List ScheduleEvent) → AllByRecursion (IsEvent config) events → AllByRecursion (Lacks 10) (event_lines events)
lacks_lines config [] each = tt
lacks_lines config (event ∷ events) each =
    (lacks_joined 10 (event_words event) (lit< tt) (lacks_words 10 config event (lit< tt) each.0), lacks_lines config events each.1)

within_limits : (config : Config) (number end : ℕ) (line : Line) → number ≤ 1048576 → end ≤ 67108864 → limited config number end line ≡ line_of config line
within_limits config number end line few short = rw (not_above number 1048576 few, not_above end 67108864 short) refl

lines_read : (config : Config) (number begin : ℕ) (events : List ScheduleEvent) → AllByRecursion (IsEvent config) events →
    number + length events ≤ 1048577 → begin + length (unlined (all_ended (event_lines events))) ≤ 67108864 →
    events_from config number begin (all_ended (event_lines events)) ≡ Ok events
lines_read config number begin [] each few short = refl
lines_read config number begin (event ∷ events) each few short =
    let line = ended_line (event_line event) in
    let size = length (line_bytes line) in
    let others = unlined (all_ended (event_lines events)) in
    let whole : length (line_bytes line ++ others) ≡ size + length others = length-append (line_bytes line) others in
    let one : length (event ∷ events) ≡ length events + 1 = grind (arith, common_steps) in
    let first : number ≤ 1048576 = omega (arith, few, one) in
    let next : (number + 1) + length events ≤ 1048577 = omega (arith, few, one) in
    let end : begin + size ≤ 67108864 = omega (arith, short, whole) in
    let after : (begin + size) + length others ≤ 67108864 = omega (arith, short, whole) in
    let read : limited config number (begin + size) line ≡ Ok event = within_limits config number (begin + size) line first end ∙ line_read config event each.0 in
    let rest : events_from config (number + 1) (begin + size) (all_ended (event_lines events)) ≡ Ok events = lines_read config (number + 1) (begin + size) events each.1 next after in
    ap (λ (r : Result ScheduleEvent FaultKind). event_then (at_line number r) (events_from config (number + 1) (begin + size) (all_ended (event_lines events)))) read
    ∙ ap (λ (r : Result (List ScheduleEvent) ScheduleFault). event_then (at_line number (Ok event)) r) rest

-- what was read of lines
pub record LinesWere (config : Config) (number begin : ℕ) (lines : List Line) (events : List ScheduleEvent) : Type 0 where
  pub spelled : lines ≡ all_ended (event_lines events)
  pub each : AllByRecursion (IsEvent config) events
  pub few : number + length events ≤ 1048577
  pub short : begin + length (unlined lines) ≤ 67108864

at_line_was : (number : ℕ) (r : Result ScheduleEvent FaultKind) (event : ScheduleEvent) → at_line number r ≡ Ok event → r ≡ Ok event
at_line_was number (Ok x) event h = ap Ok (event_is x event h)
at_line_was number (Err kind) event h = absurd cc

lines_were : (config : Config) (number begin : ℕ) (lines : List Line) (events : List ScheduleEvent) → number ≤ 1048577 → begin ≤ 67108864 →
    events_from config number begin lines ≡ Ok events → LinesWere config number begin lines events
lines_were config number begin [] events few short h =
    subst (λ (es : List ScheduleEvent). LinesWere config number begin [] es) (events_is [] events h)
    (record { spelled = refl; each = tt; few = omega (arith, few); short = omega (arith, short) })
lines_were config number begin (line ∷ lines) events few short h =
    let size = length (line_bytes line) in
    let one = bound (at_line number (limited config number (begin + size) line)) _ events h in
    let event = one.0 in
    let two = bound (events_from config (number + 1) (begin + size) lines) _ events one.2 in
    let others = two.0 in
    let read = at_line_was number (limited config number (begin + size) line) event one.1 in
    let count = else_was (nat_lt 1048576 number) TooMany (bounded config (begin + size) line) event read in
    let bytes = else_was (nat_lt 67108864 (begin + size)) TooMany (line_of config line) event count.1 in
    let was = line_was config line event bytes.1 in
    let first : number ≤ 1048576 = at_most number 1048576 count.0 in
    let end : begin + size ≤ 67108864 = at_most (begin + size) 67108864 bytes.0 in
    let were = lines_were config (number + 1) (begin + size) lines others (omega (arith, first)) end two.1 in
    let whole : length (line_bytes line ++ unlined lines) ≡ size + length (unlined lines) = length-append (line_bytes line) (unlined lines) in
    let more : length (event ∷ others) ≡ length others + 1 = grind (arith, common_steps) in
    subst (λ (es : List ScheduleEvent). LinesWere config number begin (line ∷ lines) es) (events_is (event ∷ others) events two.2) (record {
      spelled = ap₂ (λ (l : Line) (ls : List Line). l ∷ ls) was.spelled were.spelled;
      each = (was.is, were.each);
      few = omega (arith, were.few, more);
      short = omega (arith, were.short, whole);
    })

-- ---- the whole

pub schedule_read : (config : Config) (bytes : List ℕ) (events : List ScheduleEvent) → IsSchedule config bytes events → schedule_of config bytes ≡ Ok events
schedule_read config bytes events is =
    let text : bytes ≡ unlined (all_ended (event_lines events)) = is.spelled ∙ text_of_lines events in
    let lines : lines_of bytes ≡ all_ended (event_lines events) = ap lines_of text ∙ lines_of_unlined (event_lines events) (lacks_lines config events is.each) in
    let size : length bytes ≡ length (unlined (all_ended (event_lines events))) = ap length text in
    let few : 1 + length events ≤ 1048577 = omega (arith, is.few) in
    let short : 0 + length (unlined (all_ended (event_lines events))) ≤ 67108864 = omega (arith, is.short, size) in
    ap (events_from config 1 0) lines ∙ lines_read config 1 0 events is.each few short

pub schedule_was : (config : Config) (bytes : List ℕ) (events : List ScheduleEvent) → schedule_of config bytes ≡ Ok events → IsSchedule config bytes events
schedule_was config bytes events h =
    let were = lines_were config 1 0 (lines_of bytes) events (lit≤ tt) (lit≤ tt) h in
    let same : unlined (lines_of bytes) ≡ bytes = unlined_lines_of bytes in
    let size : length (unlined (lines_of bytes)) ≡ length bytes = ap length same in
    record {
      spelled = sym same ∙ ap unlined were.spelled ∙ sym (text_of_lines events);
      each = were.each;
      few = omega (arith, were.few);
      short = omega (arith, were.short, size);
    }

pub found_by : (config : Config) (bytes : List ℕ) (r : Result (List ScheduleEvent) ScheduleFault) →
    Answers (schedule_of config bytes) r → IfOk r (λ s. IsSchedule config bytes s)
found_by config bytes (Ok events) answers = schedule_was config bytes events answers
found_by config bytes (Err fault) answers = tt

pub only_so : (config : Config) (bytes : List ℕ) (r : Result (List ScheduleEvent) ScheduleFault) →
    Answers (schedule_of config bytes) r → (events : List ScheduleEvent) → IsSchedule config bytes events → Answers (Ok events) r
only_so config bytes r answers events is =
    subst (λ (o : Result (List ScheduleEvent) ScheduleFault). Answers o r) (schedule_read config bytes events is) answers

-- ---- the first line at fault

-- the lines of a rest that are at fault, from this number and so many bytes on
record Named (config : Config) (number begin : ℕ) (lines : List Line) (fault : ScheduleFault) : Type 0 where
  front : List ScheduleEvent
  line : Line
  after : List Line
  whole : lines ≡ all_ended (event_lines front) ++ line ∷ after
  each : AllByRecursion (IsEvent config) front
  counted : fault.line ≡ number + length front
  kind : limited config fault.line ((begin + length (unlined (all_ended (event_lines front)))) + length (line_bytes line)) line ≡ Err fault.kind

abbrev pub faulty : {A : Type 0} → ScheduleFault → Result A ScheduleFault
faulty fault = Err fault

fault_is : (x y : ScheduleFault) → faulty {A = List ScheduleEvent} x ≡ faulty y → x ≡ y
fault_is x y h = cc

rest_fault : (event : ScheduleEvent) (rest : Result (List ScheduleEvent) ScheduleFault) (fault : ScheduleFault) → event_then (Ok event) rest ≡ Err fault → rest ≡ Err fault
rest_fault event (Ok events) fault h = absurd cc
rest_fault event (Err other) fault h = h

event_of_line : (config : Config) (number end : ℕ) (line : Line) (event : ScheduleEvent) → limited config number end line ≡ Ok event → LineWas config line event
event_of_line config number end line event read =
    let count = else_was (nat_lt 1048576 number) TooMany (bounded config end line) event read in
    let bytes = else_was (nat_lt 67108864 end) TooMany (line_of config line) event count.1 in
    line_was config line event bytes.1

-- the first of the lines is at fault
named_here : (config : Config) (number begin : ℕ) (line : Line) (lines : List Line) (kind : FaultKind) (fault : ScheduleFault) →
    limited config number (begin + length (line_bytes line)) line ≡ Err kind → record { line = number; kind = kind } ≡ fault → Named config number begin (line ∷ lines) fault
named_here config number begin line lines kind fault judged is =
    let none : number ≡ number + length {A = ScheduleEvent} [] = omega arith in
    let same : begin ≡ begin + length (unlined (all_ended (event_lines []))) = omega arith in
    subst (λ (f : ScheduleFault). Named config number begin (line ∷ lines) f) is (record {
      front = [];
      line = line;
      after = lines;
      whole = refl;
      each = tt;
      counted = none;
      kind = ap (λ (b : ℕ). limited config number (b + length (line_bytes line)) line) (sym same) ∙ judged;
    })

-- the first of the lines is an event, and a later one at fault
named_later : (config : Config) (number begin : ℕ) (line : Line) (lines : List Line) (event : ScheduleEvent) (fault : ScheduleFault) → LineWas config line event →
    Named config (number + 1) (begin + length (line_bytes line)) lines fault → Named config number begin (line ∷ lines) fault
named_later config number begin line lines event fault was named =
    let own = length (line_bytes line) in
    let front = unlined (all_ended (event_lines named.front)) in
    let spelled : line ≡ ended_line (event_line event) = was.spelled in
    let size : length (line_bytes (ended_line (event_line event)) ++ front) ≡ length (line_bytes (ended_line (event_line event))) + length front =
    length-append (line_bytes (ended_line (event_line event))) front in
    let first : own ≡ length (line_bytes (ended_line (event_line event))) = ap (λ (l : Line). length (line_bytes l)) spelled in
    let whole : (begin + own) + length front ≡ begin + length (unlined (all_ended (event_lines (event ∷ named.front)))) = omega (arith, size, first) in
    let one : length (event ∷ named.front) ≡ length named.front + 1 = grind (arith, common_steps) in
    record {
      front = event ∷ named.front;
      line = named.line;
      after = named.after;
      whole = ap₂ (λ (l : Line) (ls : List Line). l ∷ ls) spelled named.whole;
      each = (was.is, named.each);
      counted = omega (arith, named.counted, one);
      kind = ap (λ (b : ℕ). limited config fault.line (b + length (line_bytes named.line)) named.line) (sym whole) ∙ named.kind;
    }

lines_named : (config : Config) (number begin : ℕ) (lines : List Line) (fault : ScheduleFault) → events_from config number begin lines ≡ Err fault → Named config number begin lines fault
lines_named config number begin [] fault h = absurd cc
lines_named config number begin (line ∷ lines) fault h =
    let end = begin + length (line_bytes line) in
    judged (limited config number end line) refl h (λ later. lines_named config (number + 1) end lines fault later)
  where
    judged : (r : Result ScheduleEvent FaultKind) → limited config number (begin + length (line_bytes line)) line ≡ r →
        event_then (at_line number r) (events_from config (number + 1) (begin + length (line_bytes line)) lines) ≡ Err fault →
        (events_from config (number + 1) (begin + length (line_bytes line)) lines ≡ Err fault → Named config (number + 1) (begin + length (line_bytes line)) lines fault) →
        Named config number begin (line ∷ lines) fault
    judged (Ok event) read h later =
        named_later config number begin line lines event fault (event_of_line config number (begin + length (line_bytes line)) line event read)
        (later (rest_fault event (events_from config (number + 1) (begin + length (line_bytes line)) lines) fault h))
    judged (Err kind) read h later = named_here config number begin line lines kind fault read (fault_is (record { line = number; kind = kind }) fault h)

pub fault_named : (config : Config) (bytes : List ℕ) (fault : ScheduleFault) → schedule_of config bytes ≡ Err fault → IsFirstFault config bytes fault
fault_named config bytes fault h =
    let named = lines_named config 1 0 (lines_of bytes) fault h in
    let front = named.front in
    let text : unlined (all_ended (event_lines front)) ≡ schedule_text front = sym (text_of_lines front) in
    let size : 0 + length (unlined (all_ended (event_lines front))) ≡ length (schedule_text front) = omega (arith, ap length text) in
    record {
      front = front;
      line = named.line;
      after = named.after;
      whole = named.whole;
      each = named.each;
      counted = omega (arith, named.counted);
      kind = ap (λ (b : ℕ). limited config fault.line (b + length (line_bytes named.line)) named.line) (sym size) ∙ named.kind;
    }

pub named_by : (config : Config) (bytes : List ℕ) (r : Result (List ScheduleEvent) ScheduleFault) →
    Answers (schedule_of config bytes) r → IfErr r (λ fault. NamesFirst config bytes fault)
named_by config bytes (Ok events) answers = tt
named_by config bytes (Err fault) (inl memory) = inl memory
named_by config bytes (Err fault) (inr is) = inr (fault_named config bytes fault is)
