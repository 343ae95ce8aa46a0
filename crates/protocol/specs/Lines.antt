-- What a whole system prints: the lines of a transcript, by their short names.
pub use Rattle.transcript.specs.declared.line.Line.{Line}
pub use Rattle.transcript.specs.declared.line.Line.TheVariants.{Learn, Deliver, Reply, Answer, Busy, Begin, Chose, Restore, Saved, Trim, Refuse, BallotLimit, InstanceLimit, AttemptLimit, Down, Up, State, Frame, End}
pub use Rattle.transcript.specs.declared.line.Cause.{Cause}
pub use Rattle.transcript.specs.declared.line.Cause.TheVariants.{Crash, Disk, Full}
pub use Rattle.transcript.specs.declared.line.ShownState.{ShownState}
pub use Rattle.transcript.specs.declared.line.ShownFrame.{ShownFrame}
