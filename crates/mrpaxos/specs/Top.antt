-- What each status of the program says of the words, the configuration, the input and the output.
use Rattle.std.specs.Prelude.{ℕ, ◌≡◌, ◌+◌, ◌⊎◌, List, [], ◌∷◌, codes, take, Some, None, Result, Ok, Err}
use Rattle.std.specs.Io.KnownBytes.{Appends}
use Rattle.outside.specs.Counts.{rise}
use Rattle.mrp_config.specs.Config.{Config as Deployed}
use Rattle.mrp_config.specs.Walk.{read_of}
use Rattle.config_walk.specs.declared.fault.ConfigFault.{ConfigFault}
use Rattle.config_walk.specs.declared.fault.ConfigFault.TheVariants.{NotBuilt}
use Rattle.mrp_config.specs.declared.tables.RingTable.{RingTable}
use Rattle.transcript.specs.Spelling.{lines_text}
use Rattle.schedule.specs.declared.event.ScheduleEvent.{ScheduleEvent}
use Rattle.schedule.specs.declared.fault.ScheduleFault.{ScheduleFault}
use Rattle.schedule.specs.declared.fault.FaultKind.{FaultKind}
use Rattle.schedule.specs.declared.fault.FaultKind.TheVariants as kind
use Rattle.schedule.specs.Spelling.{IsSchedule}
use Rattle.schedule.specs.Reading.{schedule_of}
use Rattle.world.specs.Built.{IsBuilt, IsBuiltRing, unbuilt_at}
use Rattle.world.specs.Order.{KeepsRules}
use Rattle.world.specs.System.{trace}
use Rattle.mrpaxos.specs.declared.draw.Draw.{Draw}
use Rattle.mrpaxos.specs.Intake.{Intake, IsUnread, IsRead, HasFailed, IsCutShort, Output, IsUntouched}
use Rattle.mrpaxos.specs.Drawing.{IsDraw, IsOfCalls, Draws}
use Rattle.mrpaxos.specs.declared.status.Status.{Status}
use Rattle.mrpaxos.specs.declared.status.Status.TheVariants.{Done, Usage, Config, Input, Source, Sink, Memory}
use Rattle.mrpaxos.specs.declared.status.InputFault.TheVariants as input
use Rattle.mrpaxos.specs.declared.status.Which.TheVariants as which

-- the one word `replay`
abbrev pub IsReplay : List (List ℕ) → Type 0
IsReplay words = words ≡ codes "replay" ∷ []

-- ---- a schedule over a ring

-- the line of an event for which the step isn't built, at this index, is at fault by its word
abbrev pub unbuilt_fault : ℕ → ScheduleFault
unbuilt_fault index = record { line = index + 1; kind = kind.Word }

-- a schedule in which the first event for which the step isn't built is at this index
pub record IsUnbuilt (read : Result (List ScheduleEvent) ScheduleFault) (events : List ScheduleEvent) (index : ℕ) : Type 0 where
  pub schedule : read ≡ Ok events
  pub first : unbuilt_at events ≡ Some index

-- why what reading a schedule gave is refused: its first line at fault, or the first event for which the step isn't built
abbrev pub RefusesRead : Result (List ScheduleEvent) ScheduleFault → ScheduleFault → Type 0
RefusesRead read fault = (read ≡ Err fault)
    ⊎ ((events : List ScheduleEvent) × (index : ℕ) × IsUnbuilt read events index × (fault ≡ unbuilt_fault index))

-- the bytes are the schedule of these events, for each of which the step is built, and the sink took the text of its lines and nothing else
pub record Replayed (config : Deployed) (ring : RingTable) (bytes : List ℕ) (out : Output) (events : List ScheduleEvent) : Type 0 where
  pub schedule : IsSchedule config bytes events
  pub built : unbuilt_at events ≡ None
  pub rules : KeepsRules config (trace ring events)
  pub text : Appends out.before out.after (lines_text (trace ring events))
  pub faults : out.faults_after ≡ out.faults_before

-- the bytes are the schedule of these events, for each of which the step is built, and the sink took a front of the text of its lines
pub record Stopped (config : Deployed) (ring : RingTable) (bytes : List ℕ) (out : Output) (events : List ScheduleEvent) (n : ℕ) : Type 0 where
  pub schedule : IsSchedule config bytes events
  pub built : unbuilt_at events ≡ None
  pub rules : KeepsRules config (trace ring events)
  pub front : Appends out.before out.after (take n (lines_text (trace ring events)))

-- What a status says of the bytes of an input. Of want of memory nothing is said but what was written: nothing, or a
-- front of the lines.
abbrev pub Judged : Status → Deployed → RingTable → List ℕ → Output → Type 0
Judged Done config ring bytes out = (events : List ScheduleEvent) × Replayed config ring bytes out events
Judged (Input (input.Schedule fault)) config ring bytes out = RefusesRead (schedule_of config bytes) fault × IsUntouched out
Judged Sink config ring bytes out =
    (events : List ScheduleEvent) × (n : ℕ) × Stopped config ring bytes out events n × (out.faults_after ≡ rise out.faults_before)
Judged Memory config ring bytes out = IsUntouched out
    ⊎ ((events : List ScheduleEvent) × (n : ℕ) × Stopped config ring bytes out events n × (out.faults_after ≡ out.faults_before))
Judged Usage config ring bytes out = ⊥
Judged (Config fault) config ring bytes out = ⊥
Judged (Source w) config ring bytes out = ⊥

-- want of memory is no fault of the input
abbrev pub refused_of : ScheduleFault → FaultKind → Status
refused_of fault kind.Memory = Memory
refused_of fault other = Input (input.Schedule fault)

-- What a status says of an input, of which up to 67,108,865 bytes are read: one more than a schedule may have.
abbrev pub Entered : Status → Deployed → RingTable → Intake → Output → Type 0
Entered (Source which.Input) config ring intake out = HasFailed 67108865 intake × IsUntouched out
Entered (Source which.Config) config ring intake out = ⊥
Entered Usage config ring intake out = ⊥
Entered (Config fault) config ring intake out = ⊥
Entered Memory config ring intake out = (IsCutShort 67108865 intake × IsUntouched out)
    ⊎ ((bytes : List ℕ) × IsRead 67108865 intake bytes × Judged Memory config ring bytes out)
Entered status config ring intake out = (bytes : List ℕ) × IsRead 67108865 intake bytes × Judged status config ring bytes out

-- ---- the configuration

-- why the bytes of a configuration are refused: the first fault of the walk, or that the deployment isn't built
abbrev pub Refuses : List ℕ → ConfigFault → Type 0
Refuses bytes fault = (read_of bytes ≡ Err fault)
    ⊎ ((fault ≡ NotBuilt) × ((config : Deployed) × (read_of bytes ≡ Ok config) × (IsBuilt config → ⊥)))

-- the bytes are a deployment that is built, over this ring
pub record IsConfigured (bytes : List ℕ) (config : Deployed) (ring : RingTable) : Type 0 where
  pub accepted : read_of bytes ≡ Ok config
  pub built : IsBuiltRing config ring

-- the input under a configuration that is taken
abbrev pub EnteredBy : Status → List ℕ → Intake → Output → Type 0
EnteredBy status bytes intake out = (config : Deployed) × (ring : RingTable) × IsConfigured bytes config ring × Entered status config ring intake out

-- What a status says of the bytes of a configuration.
abbrev pub Configured : Status → List ℕ → Intake → Output → Type 0
Configured (Config fault) bytes intake out = Refuses bytes fault × IsUnread intake × IsUntouched out
Configured Memory bytes intake out = (IsUnread intake × IsUntouched out) ⊎ EnteredBy Memory bytes intake out
Configured status bytes intake out = EnteredBy status bytes intake out

-- ---- all

-- What a status says of a replay, of whose configuration up to 1,048,577 bytes are read: one more than it may have.
abbrev pub Replays : Status → Intake → Intake → Output → Type 0
Replays Usage config input out = ⊥
Replays (Source which.Config) config input out = HasFailed 1048577 config × IsUnread input × IsUntouched out
Replays Memory config input out = (IsCutShort 1048577 config × IsUnread input × IsUntouched out)
    ⊎ ((bytes : List ℕ) × IsRead 1048577 config bytes × Configured Memory bytes input out)
Replays status config input out = (bytes : List ℕ) × IsRead 1048577 config bytes × Configured status bytes input out

-- What a status says of the words, the configuration, the input and the output.
abbrev pub Ends : Status → List (List ℕ) → Intake → Intake → Output → Type 0
Ends Usage words config input out = (IsReplay words → ⊥) × ((draw : Draw) → IsDraw draw words → ⊥) × IsUnread config × IsUnread input × IsUntouched out
Ends status words config input out = (IsReplay words × Replays status config input out)
    ⊎ ((draw : Draw) × IsDraw draw words × IsUnread input × Draws draw status config out)

-- ---- what is answered

-- what the definitions say of the bytes of a configuration and of an input, of which the first 67,108,865 are judged
abbrev pub IsAnswer : Status → List ℕ → List ℕ → Type 0
IsAnswer (Config fault) conf text = Refuses conf fault
IsAnswer (Input (input.Schedule fault)) conf text =
    (config : Deployed) × (ring : RingTable) × IsConfigured conf config ring × RefusesRead (schedule_of config (take 67108865 text)) fault
IsAnswer Done conf text =
    (config : Deployed) × (ring : RingTable) × IsConfigured conf config ring × ((events : List ScheduleEvent) × (schedule_of config (take 67108865 text) ≡ Ok events) × (unbuilt_at events ≡ None))
IsAnswer other conf text = ⊥

-- The answer to these bytes is that of the definitions, unless a call failed or memory ran out.
abbrev pub Answers : Status → List ℕ → List ℕ → Type 0
Answers status conf text = IsOfCalls status ⊎ IsAnswer status conf text
