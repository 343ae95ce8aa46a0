use Rattle.std.proofs.Common.{sym, ◌∙◌}
use Rattle.verdicts.proofs.AskedLine.{asked_again}
use Rattle.verdicts.proofs.readers.asked_verdict.Goals as goal

pub again-requires-clause-same : goal.again-requires-clause-same
again-requires-clause-same c =
    c.bytes.ensures
    ∙ (asked_again c.in-Ok.command c.in_ok-event-in-Ok.event c.in_ok-written-in-Ok.written c.extend.new.self c.in_ok-wanted-in-Ok.wanted c.args.text.now
    c.in_ok-event-in-Ok.ensures c.in_ok-written-in-Ok.ensures c.in_ok-wanted-in-Ok.ensures c.in-Ok.ensures.found.spelled c.in_ok-extend-in-Ok.ensures.ok
    ∙ sym c.bytes-in-Ok.ensures)
