use Rattle.std.proofs.Common.{◌≡◌, arith}
use Rattle.gate_log.proofs.Answering.{on_ok}
use Rattle.ring_view.proofs.ViewLemmas.{trim_read}
use Rattle.acceptor.proofs.TellingLemmas.{trim_stays, trim_rises}
use Rattle.acceptor.proofs.acceptor.Acceptor.on_trim.Goals as goal

pub returns-then-trim-trim_after : goal.returns-then-trim-trim_after
returns-then-trim-trim_after c = λ ring link part shows.
    let told : part.kept.trim ≡ c.trim_after.result = trim_read c.args.view.now c.args.durable.now c.args.changes.now ring link part shows c.trim_after.result c.items.result.now c.items.ensures c.trim_after.ensures.trim in
    let up = c.if-trim-trim_after.true in
    trim_stays ring part c.args.trim c.args.changes.now (omega arith)

pub returns : goal.returns
returns c = on_ok c.push.result c.push.ensures.ok (λ pushed ring link part shows.
    let told : part.kept.trim ≡ c.trim_after.result = trim_read c.args.view.now c.args.durable.now c.args.changes.now ring link part shows c.trim_after.result c.items.result.now c.items.ensures c.trim_after.ensures.trim in
    let up = c.if-trim-trim_after.false in
    trim_rises ring part c.args.trim c.args.view.now.ring c.args.changes.now c.push.new.self (omega arith) shows.is_view.id pushed)
