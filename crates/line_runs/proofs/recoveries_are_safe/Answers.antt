use Rattle.frames.specs.declared.body.Body.TheVariants.{HaveCheckpoint, Gone, Safe}
use Rattle.line_runs.proofs.Laws.{body_said, ready_lines}
use Rattle.line_runs.proofs.recoveries_are_safe.Goals as goal

pub returns-clause-answers : goal.returns-clause-answers
returns-clause-answers c = λ config hs r sent from to epoch attempt tuple has is. (body_said config hs r sent from to (HaveCheckpoint epoch attempt tuple) has is).0

pub returns-clause-newer : goal.returns-clause-newer
returns-clause-newer c = λ config hs r sent from to epoch attempt asked newer has is. (body_said config hs r sent from to (Gone epoch attempt asked newer) has is).1.1.told

pub returns-clause-safe : goal.returns-clause-safe
returns-clause-safe c = λ config hs r sent from to ring round inst has is. body_said config hs r sent from to (Safe ring round inst) has is

pub returns-clause-valid : goal.returns-clause-valid
returns-clause-valid c = λ config hs r n view service standing up there is. (ready_lines config hs r n view service standing up there is).valid

pub returns-clause-known : goal.returns-clause-known
returns-clause-known c = λ config hs r n view service standing up there is. (ready_lines config hs r n view service standing up there is).known

pub returns-clause-onward : goal.returns-clause-onward
returns-clause-onward c = λ config hs r n view service standing up there is. (ready_lines config hs r n view service standing up there is).after
