use Rattle.std.proofs.Common.{sym, ◌∙◌}
use Rattle.transcript.proofs.LineLaws.{line_at_was}
use Rattle.verdicts.proofs.readers.line_verdict.Goals as goal

pub again-requires-clause-same : goal.again-requires-clause-same
again-requires-clause-same c = c.bytes.ensures ∙ (c.in_ok-written-in-Ok.ensures ∙ sym (line_at_was c.args.text.now c.in-Ok.line c.in-Ok.ensures).spelled)
