use Rattle.std.proofs.Common.{◌≡◌, ◌∙◌, [], sym, arith, rules}
use Rattle.gate_log.proofs.Answering.{on_ok}
use Rattle.ring_view.proofs.ViewLemmas.{trim_read}
use Rattle.acceptor.proofs.TellingLemmas.{fetch_trimmed, fetch_nothing, fetch_told}
use Rattle.acceptor.proofs.acceptor.Acceptor.on_fetch.Goals as goal

pub returns-then-lo-trim : goal.returns-then-lo-trim
returns-then-lo-trim c = on_ok c.tell_trim.result c.tell_trim.ensures (λ sent ring link part shows page.
    let told : part.kept.trim ≡ c.trim_after-trim.result = trim_read c.args.view.now c.args.durable.now c.args.changes.now ring link part shows c.trim_after-trim.result c.items.result.now c.items.ensures c.trim_after-trim.ensures.trim in
    let below = c.if-lo-trim.true in
    fetch_trimmed ring part c.args.from c.args.lo c.args.changes.now c.args.out.now c.tell_trim.new.out (omega arith) (sent ring link part shows.is_view told))

pub returns-then-is_empty : goal.returns-then-is_empty
returns-then-is_empty c = λ ring link part shows page.
    let told : part.kept.trim ≡ c.trim_after-trim.result = trim_read c.args.view.now c.args.durable.now c.args.changes.now ring link part shows c.trim_after-trim.result c.items.result.now c.items.ensures c.trim_after-trim.ensures.trim in
    let above = c.if-lo-trim.false in
    let none : c.args.page ≡ [] = search rules in
    fetch_nothing ring part c.args.from c.args.lo c.args.changes.now c.args.out.now (omega arith) (sym page ∙ none)

pub returns : goal.returns
returns c = on_ok c.send.result c.send.ensures (λ sent ring link part shows page.
    let told : part.kept.trim ≡ c.trim_after-trim.result = trim_read c.args.view.now c.args.durable.now c.args.changes.now ring link part shows c.trim_after-trim.result c.items.result.now c.items.ensures c.trim_after-trim.ensures.trim in
    let above = c.if-lo-trim.false in
    fetch_told ring part c.args.from c.args.lo c.args.changes.now c.args.out.now c.args.page c.args.view.now.ring c.send.new.out (omega arith) page
    (λ none. let yes = c.is_empty.ensures.1 none in absurd (cc)) shows.is_view.id (sent ring link shows.is_view))
