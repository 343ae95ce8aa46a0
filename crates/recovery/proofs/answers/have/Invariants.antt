use Rattle.std.proofs.Common.{◌≡◌, drop}
use Rattle.protocol.specs.Trimming.{has_answered}
use Rattle.recovery.proofs.answers.have.Given as goal

-- what is left decides
abbrev pub invariant-loop-answer : goal.invariant-loop-answer
invariant-loop-answer l = has_answered l.node (drop l.answer-index l.answers) ≡ has_answered l.node l.answers
