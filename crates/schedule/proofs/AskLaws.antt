-- A client's text is read as it is spelled, and what is read is spelled so.
use Rattle.std.proofs.Common.{arith, lit<, ◌≡◌, ◌≤◌, ℕ, ◌+◌, ◌-◌, List, [], ◌∷◌, ◌++◌, length, Some, None, refl, sym, ap, ◌∙◌, subst, nat_lt, if◌then◌else◌, Bool, true, inl, inr, append-nil, length-append}
use Rattle.std.specs.Prelude.{Result, Ok, Err, IfOk, IsErrAnd}
use Rattle.text_lines.specs.declared.fault.TextFault.{TextFault}
use Rattle.text_lines.specs.declared.fault.TextFault.TheVariants as words
use Rattle.text_lines.specs.Split.{Line, ended_line, all_ended, line_bytes, unlined, words_of, lines_of, first_line}
use Rattle.text_lines.specs.Text.{joined}
use Rattle.mrp_types.specs.Reading.{◌>>=◌}
use Rattle.text_lines.specs.Words.{all_of}
use Rattle.text_lines.proofs.Inverse.{bound, then_was, else_was}
use Rattle.text_lines.proofs.Laws.{Lacks, joined_words_of, lines_of_unlined, unlined_lines_of, first_and_rest}
use Rattle.text_lines.proofs.Places.{lines_of_at, lines_at}
use Rattle.text_lines.proofs.WordLaws.{all_read, all_was}
use Rattle.mrp_types.proofs.TestLemmas.{not_above, at_most}
use Rattle.command_codec.specs.declared.command.Command.{Command}
use Rattle.command_codec.specs.declared.command.Command.TheVariants.{Append, Multi, ReadLog, TrimLog, Get, Scan, Update, Insert, Delete, Swap}
use Rattle.mrp_config.specs.Config.{Config}
use Rattle.schedule.specs.declared.fault.FaultKind.{FaultKind}
use Rattle.schedule.specs.declared.fault.FaultKind.TheVariants.{Route, Cut, TooMany}
use Rattle.schedule.specs.declared.fault.ScheduleFault.{ScheduleFault}
use Rattle.schedule.specs.Faults.{Answers}
use Rattle.schedule.specs.Spelling.{command_words, has_route, IsAsked, IsAskText}
use Rattle.schedule.specs.Reading.{command_at, kinded, at_line}
use Rattle.schedule.specs.Asking.{command_of, bounded_command, second_fault, alone_before, command_in, asked_of}
use Rattle.schedule.proofs.CommandLaws.{command_law}
use Rattle.schedule.proofs.ScheduleLaws.{AreSome, spelled_all, lacks_joined, of_parts}

some_words : (command : Command) → AreSome (command_words command)
some_words (Append log value) = tt
some_words (Multi logs value) = tt
some_words (ReadLog log position) = tt
some_words (TrimLog log position) = tt
some_words (Get key) = tt
some_words (Scan from to) = tt
some_words (Update key value) = tt
some_words (Insert key value) = tt
some_words (Delete key) = tt
some_words (Swap key old new) = tt

abbrev pub command_line : Command → List ℕ
command_line command = joined (command_words command)

abbrev pub judged : Command → Result Command FaultKind
judged x = Ok x

judged_is : (x y : Command) → judged x ≡ judged y → x ≡ y
judged_is x y h = cc

abbrev pub answered : Command → Result Command ScheduleFault
answered x = Ok x

answered_is : (x y : Command) → answered x ≡ answered y → x ≡ y
answered_is x y h = cc

-- ---- what is spelled is read

command_read : (config : Config) (command : Command) → IsAsked command → has_route config command ≡ true → command_of config (ended_line (command_line command)) ≡ Ok command
unfolding command_of
command_read config command is routed =
    let same : words_of (command_line command) ≡ command_words command = spelled_all (command_words command) (some_words command) (command_law.lacks 32 (lit< tt) command is) in
    rw (same, all_read words.Left command_at command_words IsAsked command_law command is, routed) refl

pub ask_read : (config : Config) (bytes : List ℕ) (command : Command) → IsAskText config bytes command → asked_of config bytes ≡ Ok command
ask_read config bytes command is =
    let text = command_line command in
    let one : bytes ≡ unlined (all_ended (text ∷ [])) = is.spelled ∙ sym (append-nil (text ++ 10 ∷ [])) in
    let lacks : Lacks 10 text = lacks_joined 10 (command_words command) (lit< tt) (command_law.lacks 10 (lit< tt) command is.is) in
    let lines : lines_of bytes ≡ ended_line text ∷ [] = ap lines_of one ∙ lines_of_unlined (text ∷ []) (lacks, tt) in
    let size : length bytes ≡ length (text ++ 10 ∷ []) = ap length is.spelled in
    let short : length (text ++ 10 ∷ []) ≤ 67108864 = omega (arith, is.short, size) in
    ap (command_in config) lines ∙ rw (not_above (length (text ++ 10 ∷ [])) 67108864 short, command_read config command is.is is.routed) refl

-- ---- what is read is spelled so

record LineWas (config : Config) (line : Line) (command : Command) : Type 0 where
  spelled : line ≡ ended_line (command_line command)
  is : IsAsked command
  routed : has_route config command ≡ true

kinded_was : (read : Result Command TextFault) (command : Command) → kinded read ≡ Ok command → read ≡ Ok command
kinded_was (Ok x) command h = ap Ok (judged_is x command h)
kinded_was (Err fault) command h = absurd cc

line_was : (config : Config) (line : Line) (command : Command) → command_of config line ≡ Ok command → LineWas config line command
unfolding command_of
line_was config line command h =
    let one = bound (kinded (all_of words.Left (command_at (words_of line.text)))) (λ c. if line.ended then (if has_route config c then Ok c else Err Route) else Err Cut) command h in
    let read = one.0 in
    let ended = then_was line.ended Cut (if has_route config read then Ok read else Err Route) command one.2 in
    let routed = then_was (has_route config read) Route (Ok read) command ended.1 in
    let was = all_was words.Left command_at command_words IsAsked command_law (words_of line.text) read (kinded_was (all_of words.Left (command_at (words_of line.text))) read one.1) in
    let same : line.text ≡ command_line read = sym (joined_words_of line.text) ∙ ap joined was.0 in
    subst (λ (c : Command). LineWas config line c) (judged_is read command routed.1) (record {
      spelled = of_parts line (command_line read) same ended.0;
      is = was.1;
      routed = routed.0;
    })

alone_was : (begin : ℕ) (lines : List Line) (x : Unit {0}) → alone_before begin lines ≡ Ok x → lines ≡ []
alone_was begin [] x h = refl
alone_was begin (line ∷ lines) x h = absurd cc

at_line_was : (number : ℕ) (read : Result Command FaultKind) (command : Command) → at_line number read ≡ Ok command → read ≡ Ok command
at_line_was number (Ok x) command h = ap Ok (answered_is x command h)
at_line_was number (Err kind) command h = absurd cc

record LinesWere (config : Config) (lines : List Line) (command : Command) : Type 0 where
  spelled : lines ≡ ended_line (command_line command) ∷ []
  is : IsAsked command
  routed : has_route config command ≡ true
  short : length (unlined lines) ≤ 67108864

lines_were : (config : Config) (lines : List Line) (command : Command) → command_in config lines ≡ Ok command → LinesWere config lines command
lines_were config [] command h = absurd cc
lines_were config (line ∷ lines) command h =
    let size = length (line_bytes line) in
    let one = bound (at_line 1 (bounded_command config size line)) (λ c. alone_before size lines >>= λ (none : Unit {0}). answered c) command h in
    let read = one.0 in
    let two = bound (alone_before size lines) (λ (none : Unit {0}). answered read) command one.2 in
    let none : lines ≡ [] = alone_was size lines two.0 two.1 in
    let fits = else_was (nat_lt 67108864 size) TooMany (command_of config line) read (at_line_was 1 (bounded_command config size line) read one.1) in
    let was = line_was config line read fits.1 in
    let all : unlined (line ∷ lines) ≡ line_bytes line = ap (λ (ls : List Line). line_bytes line ++ unlined ls) none ∙ append-nil (line_bytes line) in
    let few : size ≤ 67108864 = at_most size 67108864 fits.0 in
    let whole : length (unlined (line ∷ lines)) ≡ size = ap length all in
    subst (λ (c : Command). LinesWere config (line ∷ lines) c) (answered_is read command two.2) (record {
      spelled = ap (λ (l : Line). l ∷ lines) was.spelled ∙ ap (λ (ls : List Line). ended_line (command_line read) ∷ ls) none;
      is = was.is;
      routed = was.routed;
      short = omega (arith, few, whole);
    })

pub ask_was : (config : Config) (bytes : List ℕ) (command : Command) → asked_of config bytes ≡ Ok command → IsAskText config bytes command
ask_was config bytes command h =
    let were = lines_were config (lines_of bytes) command h in
    let same : unlined (lines_of bytes) ≡ bytes = unlined_lines_of bytes in
    let size : length (unlined (lines_of bytes)) ≡ length bytes = ap length same in
    record {
      spelled = sym same ∙ ap unlined were.spelled ∙ append-nil (command_line command ++ 10 ∷ []);
      is = were.is;
      routed = were.routed;
      short = omega (arith, were.short, size);
    }

pub found_by : (config : Config) (bytes : List ℕ) (r : Result Command ScheduleFault) → Answers (asked_of config bytes) r → IfOk r (λ c. IsAskText config bytes c)
found_by config bytes (Ok command) answers = ask_was config bytes command answers
found_by config bytes (Err fault) answers = tt

pub only_so : (config : Config) (bytes : List ℕ) (r : Result Command ScheduleFault) → Answers (asked_of config bytes) r →
    (command : Command) → IsAskText config bytes command → Answers (Ok command) r
only_so config bytes r answers command is = subst (λ (o : Result Command ScheduleFault). Answers o r) (ask_read config bytes command is) answers

-- ---- the first line, and what is behind it

pub nothing : (config : Config) (bytes : List ℕ) → first_line bytes ≡ None → asked_of config bytes ≡ Err (record { line = 1; kind = Cut })
nothing config bytes none = ap (command_in config) (lines_of_at bytes ∙ ap lines_at none)

-- a command before what is left
abbrev pub command_before : Result Command ScheduleFault → Result (Unit {0}) ScheduleFault → Result Command ScheduleFault
command_before first rest = do
  command ← first
  none ← rest
  Ok command

pub split : (config : Config) (bytes text after : List ℕ) (ended : Bool) → first_line bytes ≡ Some (text, ended, after) →
    asked_of config bytes ≡ command_before (at_line 1 (bounded_command config (length bytes - length after) (record { text = text; ended = ended })))
    (alone_before (length bytes - length after) (lines_of after))
split config bytes text after ended first =
    let line : Line = record { text = text; ended = ended } in
    let size : length bytes ≡ length (line_bytes line) + length after = ap length (first_and_rest bytes text after ended first) ∙ length-append (line_bytes line) after in
    let end : length (line_bytes line) ≡ length bytes - length after = omega (arith, size) in
    ap (command_in config) (lines_of_at bytes ∙ ap lines_at first)
    ∙ ap (λ (e : ℕ). command_before (at_line 1 (bounded_command config e line)) (alone_before e (lines_of after))) end

-- the bytes behind the first line are no more than all
pub inside : (bytes text after : List ℕ) (ended : Bool) → first_line bytes ≡ Some (text, ended, after) → length after ≤ length bytes
inside bytes text after ended first =
    let line : Line = record { text = text; ended = ended } in
    let size : length bytes ≡ length (line_bytes line) + length after = ap length (first_and_rest bytes text after ended first) ∙ length-append (line_bytes line) after in
    omega (arith, size)

first_fault : (config : Config) (bytes text after : List ℕ) (ended : Bool) (fault : ScheduleFault) → first_line bytes ≡ Some (text, ended, after) →
    Answers (at_line 1 (bounded_command config (length bytes - length after) (record { text = text; ended = ended }))) (Err fault) → Answers {X = Command} (asked_of config bytes) (Err fault)
first_fault config bytes text after ended fault first (inl memory) = inl memory
first_fault config bytes text after ended fault first (inr is) =
    inr (split config bytes text after ended first
    ∙ ap (λ (r : Result Command ScheduleFault). command_before r (alone_before (length bytes - length after) (lines_of after))) is)

pub refused : (config : Config) (bytes text after : List ℕ) (ended : Bool) (fault : ScheduleFault) (r : Result Command ScheduleFault) → first_line bytes ≡ Some (text, ended, after) →
    Answers (at_line 1 (bounded_command config (length bytes - length after) (record { text = text; ended = ended }))) (Err fault) → IsErrAnd r (λ x. x ≡ fault) →
    Answers (asked_of config bytes) r
refused config bytes text after ended fault (Ok x) first answers is = absurd is
refused config bytes text after ended fault (Err x) first answers is = rw is (first_fault config bytes text after ended fault first answers)

pub one_line : (config : Config) (bytes text after : List ℕ) (ended : Bool) (command : Command) → first_line bytes ≡ Some (text, ended, after) →
    at_line 1 (bounded_command config (length bytes - length after) (record { text = text; ended = ended })) ≡ Ok command → first_line after ≡ None → asked_of config bytes ≡ Ok command
one_line config bytes text after ended command first read none =
    split config bytes text after ended first
    ∙ ap (λ (r : Result Command ScheduleFault). command_before r (alone_before (length bytes - length after) (lines_of after))) read
    ∙ ap (λ (ls : List Line). command_before (Ok command) (alone_before (length bytes - length after) ls)) (lines_of_at after ∙ ap lines_at none)

pub two_lines : (config : Config) (bytes text after more rest : List ℕ) (ended other : Bool) (command : Command) → first_line bytes ≡ Some (text, ended, after) →
    at_line 1 (bounded_command config (length bytes - length after) (record { text = text; ended = ended })) ≡ Ok command → first_line after ≡ Some (more, other, rest) →
    asked_of config bytes ≡ Err (record { line = 2; kind = second_fault (length bytes - length rest) })
two_lines config bytes text after more rest ended other command first read second =
    let line : Line = record { text = more; ended = other } in
    let fits = inside bytes text after ended first in
    let size : length after ≡ length (line_bytes line) + length rest = ap length (first_and_rest after more rest other second) ∙ length-append (line_bytes line) rest in
    let end : (length bytes - length after) + length (line_bytes line) ≡ length bytes - length rest = omega (arith, size, fits) in
    split config bytes text after ended first
    ∙ ap (λ (r : Result Command ScheduleFault). command_before r (alone_before (length bytes - length after) (lines_of after))) read
    ∙ ap (λ (ls : List Line). command_before (Ok command) (alone_before (length bytes - length after) ls)) (lines_of_at after ∙ ap lines_at second)
    ∙ ap (λ (e : ℕ). Err (record { line = 2; kind = second_fault e })) end
