-- A schedule is read line by line.
use Rattle.std.proofs.Common.{arith, ◌≡◌, ◌≤◌, ◌<◌, ℕ, ◌+◌, ◌-◌, List, [], ◌∷◌, ◌++◌, length, Some, None, Result, Ok, Err, refl, sym, ap, ◌∙◌, append_assoc, append-nil, length-append, Bool, inl, inr}
use Rattle.std.specs.Prelude.{IsErrAnd}
use Rattle.text_lines.specs.Split.{Line, line_bytes, lines_of, first_line}
use Rattle.mrp_types.specs.Reading.{◌>>=◌}
use Rattle.text_lines.proofs.Places.{lines_of_at, lines_at}
use Rattle.text_lines.proofs.Laws.{first_and_rest}
use Rattle.mrp_config.specs.Config.{Config}
use Rattle.schedule.specs.declared.event.ScheduleEvent.{ScheduleEvent}
use Rattle.schedule.specs.declared.fault.FaultKind.{FaultKind}
use Rattle.schedule.specs.declared.fault.FaultKind.TheVariants.{TooMany}
use Rattle.schedule.specs.declared.fault.ScheduleFault.{ScheduleFault}
use Rattle.schedule.specs.Faults.{Answers}
use Rattle.schedule.specs.Reading.{bounded, limited, at_line, events_from, schedule_of}
use Rattle.mrp_types.proofs.TestLemmas.{not_above}

-- events before those of the rest
abbrev pub prepended : List ScheduleEvent → Result (List ScheduleEvent) ScheduleFault → Result (List ScheduleEvent) ScheduleFault
prepended done (Ok events) = Ok (done ++ events)
prepended done (Err fault) = Err fault

-- an event before those of the rest
abbrev pub event_then : Result ScheduleEvent ScheduleFault → Result (List ScheduleEvent) ScheduleFault → Result (List ScheduleEvent) ScheduleFault
event_then first rest = do
  event ← first
  events ← rest
  Ok (event ∷ events)

-- the events of the lines of a rest, before which events stand
abbrev pub onwards : Config → List ℕ → List ScheduleEvent → List ℕ → Result (List ScheduleEvent) ScheduleFault
onwards config bytes done rest = prepended done (events_from config (length done + 1) (length bytes - length rest) (lines_of rest))

none_done : (r : Result (List ScheduleEvent) ScheduleFault) → r ≡ prepended [] r
none_done (Ok events) = refl
none_done (Err fault) = refl

pub at_front : (config : Config) (bytes : List ℕ) → schedule_of config bytes ≡ onwards config bytes [] bytes
at_front config bytes =
    let begin : length bytes - length bytes ≡ 0 = omega arith in
    let number : length {A = ScheduleEvent} [] + 1 ≡ 1 = omega arith in
    rw (begin, number) (none_done (schedule_of config bytes))

one_more : (done : List ScheduleEvent) (event : ScheduleEvent) (rest : Result (List ScheduleEvent) ScheduleFault) →
    prepended done (event_then (Ok event) rest) ≡ prepended (done ++ event ∷ []) rest
one_more done event (Ok events) = ap Ok (sym (append_assoc done (event ∷ []) events))
one_more done event (Err fault) = refl

-- no line is left
pub all_read : (config : Config) (done : List ScheduleEvent) (bytes rest : List ℕ) → schedule_of config bytes ≡ onwards config bytes done rest →
    first_line rest ≡ None → (now : List ScheduleEvent) → now ≡ done → schedule_of config bytes ≡ Ok now
all_read config done bytes rest all last now same =
    let none : lines_of rest ≡ [] = lines_of_at rest ∙ ap lines_at last in
    all ∙ ap (λ (ls : List Line). prepended done (events_from config (length done + 1) (length bytes - length rest) ls)) none ∙ ap Ok (append-nil done ∙ sym same)

-- the first line that is left is read next, and ends before so many bytes
pub record Turn (config : Config) (done : List ScheduleEvent) (bytes : List ℕ) (line : Line) (after : List ℕ) : Type 0 where
  pub all : schedule_of config bytes ≡ prepended done (event_then (at_line (length done + 1) (limited config (length done + 1) (length bytes - length after) line)) (events_from config ((length done + 1) + 1) (length bytes - length after) (lines_of after)))
  pub inside : length after ≤ length bytes

pub turn : (config : Config) (done : List ScheduleEvent) (bytes rest text after : List ℕ) (ended : Bool) → schedule_of config bytes ≡ onwards config bytes done rest →
    length rest ≤ length bytes → first_line rest ≡ Some (text, ended, after) → Turn config done bytes (record { text = text; ended = ended }) after
turn config done bytes rest text after ended all inside first =
    let line : Line = record { text = text; ended = ended } in
    let number = length done + 1 in
    let lines : lines_of rest ≡ line ∷ lines_of after = lines_of_at rest ∙ ap lines_at first in
    let size : length rest ≡ length (line_bytes line) + length after =
    ap length (first_and_rest rest text after ended first) ∙ length-append (line_bytes line) after in
    let end : (length bytes - length rest) + length (line_bytes line) ≡ length bytes - length after = omega (arith, size, inside) in
    record {
      all = all ∙ ap (λ (ls : List Line). prepended done (events_from config number (length bytes - length rest) ls)) lines
          ∙ ap (λ (e : ℕ). prepended done (event_then (at_line number (limited config number e line)) (events_from config (number + 1) e (lines_of after)))) end;
      inside = omega (arith, size, inside);
    }

within_count : (config : Config) (number end : ℕ) (line : Line) → number ≤ 1048576 → limited config number end line ≡ bounded config end line
within_count config number end line few = rw (not_above number 1048576 few) refl

-- the line is an event
pub moved_on : (config : Config) (done now : List ScheduleEvent) (event : ScheduleEvent) (bytes after : List ℕ) (line : Line) (number : ℕ) → Turn config done bytes line after →
    length done + 1 ≡ number → number ≤ 1048576 → at_line number (bounded config (length bytes - length after) line) ≡ Ok event → now ≡ done ++ event ∷ [] →
    schedule_of config bytes ≡ onwards config bytes now after
moved_on config done now event bytes after line number taken count few is grown =
    let end = length bytes - length after in
    let one : length (event ∷ []) ≡ 1 = refl in
    let next : (length done + 1) + 1 ≡ length (done ++ event ∷ []) + 1 = omega (arith, length-append done (event ∷ []), one) in
    let others = events_from config ((length done + 1) + 1) end (lines_of after) in
    taken.all ∙ ap (λ (n : ℕ). prepended done (event_then (at_line n (limited config n end line)) others)) count
    ∙ ap (λ (r : Result ScheduleEvent FaultKind). prepended done (event_then (at_line number r) others)) (within_count config number end line few)
    ∙ ap (λ (r : Result ScheduleEvent ScheduleFault). prepended done (event_then r others)) is ∙ one_more done event others
    ∙ ap (λ (n : ℕ). prepended (done ++ event ∷ []) (events_from config n end (lines_of after))) next
    ∙ ap (λ (d : List ScheduleEvent). onwards config bytes d after) (sym grown)

-- the line is at fault
refused_by : (config : Config) (done : List ScheduleEvent) (fault : ScheduleFault) (bytes after : List ℕ) (line : Line) (number : ℕ) → Turn config done bytes line after →
    length done + 1 ≡ number → number ≤ 1048576 → Answers (at_line number (bounded config (length bytes - length after) line)) (Err fault) →
    Answers {X = List ScheduleEvent} (schedule_of config bytes) (Err fault)
refused_by config done fault bytes after line number taken count few (inl memory) = inl memory
refused_by config done fault bytes after line number taken count few (inr is) =
    let end = length bytes - length after in
    let others = events_from config ((length done + 1) + 1) end (lines_of after) in
    inr (taken.all ∙ ap (λ (n : ℕ). prepended done (event_then (at_line n (limited config n end line)) others)) count
    ∙ ap (λ (r : Result ScheduleEvent FaultKind). prepended done (event_then (at_line number r) others)) (within_count config number end line few)
    ∙ ap (λ (r : Result ScheduleEvent ScheduleFault). prepended done (event_then r others)) is)

pub refused : (config : Config) (done : List ScheduleEvent) (fault : ScheduleFault) (r : Result (List ScheduleEvent) ScheduleFault) (bytes after : List ℕ) (line : Line) (number : ℕ) →
    Turn config done bytes line after → length done + 1 ≡ number → number ≤ 1048576 →
    Answers (at_line number (bounded config (length bytes - length after) line)) (Err fault) → IsErrAnd r (λ x. x ≡ fault) → Answers (schedule_of config bytes) r
refused config done fault (Ok x) bytes after line number taken count few answers is = absurd is
refused config done fault (Err x) bytes after line number taken count few answers is =
    rw is (refused_by config done fault bytes after line number taken count few answers)

-- a line is left behind the most events
pub past : (config : Config) (done : List ScheduleEvent) (bytes rest : List ℕ) → schedule_of config bytes ≡ onwards config bytes done rest →
    0 < length rest → length done ≡ 1048576 → schedule_of config bytes ≡ Err (record { line = 1048577; kind = TooMany })
past config done bytes [] all some full = absurd (grind arith)
past config done bytes (b ∷ rest) all some full =
    let begin = length bytes - length (b ∷ rest) in
    let number : length done + 1 ≡ 1048577 = omega (arith, full) in
    all ∙ ap (λ (ls : List Line). prepended done (events_from config (length done + 1) begin ls)) (lines_of_at (b ∷ rest))
    ∙ ap (λ (n : ℕ). prepended done (events_from config n begin (lines_at (first_line (b ∷ rest))))) number
