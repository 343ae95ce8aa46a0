-- The numbers and the texts of the program's statuses.
use Rattle.std.specs.Prelude.{ℕ, List, [], ◌∷◌, ◌++◌, codes, Option, Some, None}
use Rattle.std.specs.Fmt.{decimal}
use Rattle.text_lines.specs.Text.{joined}
use Rattle.config_walk.specs.declared.fault.ConfigFault.{ConfigFault}
use Rattle.config_walk.specs.Faults.{fault_number, fault_name, fault_id}
use Rattle.schedule.specs.declared.fault.ScheduleFault.{ScheduleFault}
use Rattle.schedule.specs.declared.fault.FaultKind.{FaultKind}
use Rattle.schedule.specs.declared.fault.FaultKind.TheVariants as kind
use Rattle.mrpaxos.specs.declared.status.Status.{Status}
use Rattle.mrpaxos.specs.declared.status.Status.TheVariants.{Done, Usage, Config, Input, Source, Sink, Memory}
use Rattle.mrpaxos.specs.declared.status.InputFault.TheVariants as input
use Rattle.mrpaxos.specs.declared.status.Which.TheVariants as which

abbrev pub status_number : Status → ℕ
status_number Done = 0
status_number Usage = 1
status_number (Config fault) = 2
status_number (Input fault) = 3
status_number (Source w) = 4
status_number Sink = 5
status_number Memory = 9

abbrev pub kind_name : FaultKind → List ℕ
kind_name kind.Word = codes "word"
kind_name kind.Number = codes "number"
kind_name kind.Range = codes "range"
kind_name kind.Route = codes "route"
kind_name kind.Left = codes "left"
kind_name kind.Cut = codes "cut"
kind_name kind.TooMany = codes "toomany"
kind_name kind.Memory = codes "memory"

-- a word where there is one
abbrev pub word_if : Option (List ℕ) → List (List ℕ)
word_if None = []
word_if (Some word) = word ∷ []

-- a number as a word where there is one
abbrev pub number_if : Option ℕ → List (List ℕ)
number_if None = []
number_if (Some number) = decimal number ∷ []

-- the words of a fault of the configuration: its number, and the name and the number that it is about
abbrev pub config_words : ConfigFault → List (List ℕ)
config_words fault = codes "config" ∷ decimal (fault_number fault) ∷ (word_if (fault_name fault) ++ number_if (fault_id fault))

-- the words of a fault of the input: its line and its kind
abbrev pub input_words : ScheduleFault → List (List ℕ)
input_words fault = codes "input" ∷ decimal fault.line ∷ kind_name fault.kind ∷ []

-- the words of a status
abbrev pub status_words : Status → List (List ℕ)
status_words Done = []
status_words Usage = codes "usage" ∷ []
status_words (Config fault) = config_words fault
status_words (Input (input.Schedule fault)) = input_words fault
status_words (Source which.Config) = codes "source" ∷ codes "config" ∷ []
status_words (Source which.Input) = codes "source" ∷ codes "input" ∷ []
status_words Sink = codes "sink" ∷ []
status_words Memory = codes "memory" ∷ []

abbrev pub status_bytes : Status → List ℕ
status_bytes status = joined (status_words status)
