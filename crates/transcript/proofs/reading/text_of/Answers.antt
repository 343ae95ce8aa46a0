use Rattle.std.proofs.Common.{sym}
use Rattle.transcript.proofs.LineLaws.{text_of_feed, text_of_other}
use Rattle.transcript.proofs.reading.text_of.Goals as goal

pub returns-then-last-eq10 : goal.returns-then-last-eq10
returns-then-last-eq10 c = rw (c.in-Some.ensures.cases.0, c.if-last-eq10.true) (sym (text_of_feed c.in-Some.text.now))

pub returns : goal.returns
returns c = rw c.in-Some.ensures.cases.0 (sym (text_of_other c.in-Some.text.now c.in-Some.last.now c.if-last-eq10.false))
