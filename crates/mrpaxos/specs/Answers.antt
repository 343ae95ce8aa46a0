-- The causes of the program's answers.
use Rattle.std.specs.Prelude.{ℕ, ◌≡◌, Result, Ok, Err}
use Rattle.outside.specs.Counts.{rise}
use Rattle.outside.specs.declared.refused.Refused.{Refused}
use Rattle.outside.specs.declared.refused.Refused.TheVariants as refused
use Rattle.mrpaxos.specs.declared.replay.ReplayFault.{ReplayFault}
use Rattle.mrpaxos.specs.declared.replay.ReplayFault.TheVariants as fault

-- the same cause
abbrev pub fault_of : Refused → ReplayFault
fault_of refused.Failed = fault.Sink
fault_of refused.Memory = fault.Memory

abbrev pub sink_count_after : ReplayFault → ℕ → ℕ
sink_count_after fault.Sink before = rise before
sink_count_after fault.Memory before = before

-- only a failed write raises the sink's count
abbrev pub CountsSink : Result (Unit {0}) ReplayFault → ℕ → ℕ → Type 0
CountsSink (Ok x) before now = now ≡ before
CountsSink (Err e) before now = now ≡ sink_count_after e before
