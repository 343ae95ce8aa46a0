-- What each status of the program says where a schedule is drawn from numbers.
use Rattle.std.specs.Prelude.{ℕ, ◌≡◌, ◌≤◌, ◌<◌, ◌^◌, ◌⊎◌, nat_lt, if◌then◌else◌, List, [], ◌∷◌, codes, take, Option, Some, None, Result, Ok, Err}
use Rattle.std.specs.Fmt.{decimal}
use Rattle.std.specs.Str.{bytes_eq}
use Rattle.std.specs.Io.KnownBytes.{Appends}
use Rattle.outside.specs.Counts.{rise}
use Rattle.text_lines.specs.declared.fault.TextFault.{TextFault}
use Rattle.text_lines.specs.Reading.{number_of}
use Rattle.mrp_config.specs.Config.{Config as Deployed}
use Rattle.mrp_config.specs.Walk.{read_of}
use Rattle.schedule.specs.Spelling.{schedule_text, IsSchedule}
use Rattle.schedule.specs.Generating.{generated}
use Rattle.mrpaxos.specs.declared.draw.Draw.{Draw}
use Rattle.mrpaxos.specs.Intake.{Intake, IsRead, HasFailed, IsCutShort, Output, IsUntouched}
use Rattle.mrpaxos.specs.declared.status.Status.{Status}
use Rattle.mrpaxos.specs.declared.status.Status.TheVariants.{Done, Usage, Config, Input, Source, Sink, Memory}
use Rattle.mrpaxos.specs.declared.status.Which.TheVariants as which

-- the words `gen SEED EVENTS`, both in decimal, with a seed below 2 ^ 64 and at most 1,048,576 events
pub record IsDraw (draw : Draw) (words : List (List ℕ)) : Type 0 where
  pub spelled : words ≡ codes "gen" ∷ decimal draw.seed ∷ decimal draw.events ∷ []
  pub seed : draw.seed < 2 ^ 64
  pub events : draw.events ≤ 1048576

-- the numbers that are read, if they may be
abbrev pub numbers_in : Result ℕ TextFault → Result ℕ TextFault → Option Draw
numbers_in (Ok seed) (Ok events) = if nat_lt 1048576 events then None else Some (record { seed = seed; events = events })
numbers_in (Ok seed) (Err fault) = None
numbers_in (Err fault) events = None

-- what three words ask for
abbrev pub draw_in : List ℕ → List ℕ → List ℕ → Option Draw
draw_in word seed events = if bytes_eq word (codes "gen") then numbers_in (number_of seed) (number_of events) else None

-- the text of the schedule over a deployment
abbrev pub draw_text : Draw → Deployed → List ℕ
draw_text draw config = schedule_text (generated config draw.seed draw.events)

-- the bytes are a deployment, and the sink took the schedule over it and nothing else
pub record Printed (draw : Draw) (bytes : List ℕ) (out : Output) (config : Deployed) : Type 0 where
  pub accepted : read_of bytes ≡ Ok config
  pub text : Appends out.before out.after (draw_text draw config)
  pub faults : out.faults_after ≡ out.faults_before

-- the bytes are a deployment, and the sink took a front of the schedule over it
pub record Halted (draw : Draw) (bytes : List ℕ) (out : Output) (config : Deployed) (n : ℕ) : Type 0 where
  pub accepted : read_of bytes ≡ Ok config
  pub front : Appends out.before out.after (take n (draw_text draw config))

-- What a status says of the bytes of a configuration.
abbrev pub Printing : Status → Draw → List ℕ → Output → Type 0
Printing Done draw bytes out = (config : Deployed) × Printed draw bytes out config
Printing (Config fault) draw bytes out = (read_of bytes ≡ Err fault) × IsUntouched out
Printing Sink draw bytes out = (config : Deployed) × (n : ℕ) × Halted draw bytes out config n × (out.faults_after ≡ rise out.faults_before)
Printing Memory draw bytes out = IsUntouched out
    ⊎ ((config : Deployed) × (n : ℕ) × Halted draw bytes out config n × (out.faults_after ≡ out.faults_before))
Printing Usage draw bytes out = ⊥
Printing (Input fault) draw bytes out = ⊥
Printing (Source w) draw bytes out = ⊥

-- What a status says of the configuration and the output. Up to 1,048,577 bytes are read: one more than a
-- configuration may have.
abbrev pub Draws : Draw → Status → Intake → Output → Type 0
Draws draw (Source which.Config) config out = HasFailed 1048577 config × IsUntouched out
Draws draw Memory config out = (IsCutShort 1048577 config × IsUntouched out)
    ⊎ ((bytes : List ℕ) × IsRead 1048577 config bytes × Printing Memory draw bytes out)
Draws draw status config out = (bytes : List ℕ) × IsRead 1048577 config bytes × Printing status draw bytes out

-- ---- what is answered

-- a call failed, or memory ran out
abbrev pub IsOfCalls : Status → Type 0
IsOfCalls (Source w) = Unit {0}
IsOfCalls Sink = Unit {0}
IsOfCalls Memory = Unit {0}
IsOfCalls other = ⊥

-- what the definitions say of the bytes of a configuration
abbrev pub IsDrawn : Status → List ℕ → Type 0
IsDrawn (Config fault) conf = read_of conf ≡ Err fault
IsDrawn Done conf = (config : Deployed) × (read_of conf ≡ Ok config)
IsDrawn other conf = ⊥

-- The answer is that of the definitions, unless a call failed or memory ran out.
abbrev pub AnswersDraw : Status → List ℕ → Type 0
AnswersDraw status conf = IsOfCalls status ⊎ IsDrawn status conf
