use Rattle.std.proofs.Common.{◌≡◌, ◌∙◌, ◌++◌, ◌∷◌, [], true, false, ℕ, ap, arith}
use Rattle.std.specs.Prelude.{Some}
use Rattle.mrp_types.specs.declared.id.RingId.{RingId}
use Rattle.vote_state.specs.declared.change.Change.TheVariants as changes
use Rattle.vote_state.specs.State.{votes_from}
use Rattle.frames.specs.declared.body.Body.{Body}
use Rattle.protocol.specs.Rings.{is_node, owner_of, sends}
use Rattle.gate_log.proofs.Answering.{on_ok}
use Rattle.ring_view.proofs.ViewLemmas.{promise_read, trim_read}
use Rattle.acceptor.proofs.PrepareLemmas.{prepare_dropped, prepare_refused, prepare_told, promise_is}
use Rattle.acceptor.proofs.acceptor.Acceptor.on_prepare.Goals as goal

pub returns-then-not-owns : goal.returns-then-not-owns
returns-then-not-owns c = λ ring link part shows only.
    let owned = c.owns.ensures ring link shows.is_view in
    let no : false ≡ is_node c.args.from (owner_of ring c.args.ballot) = cc in
    prepare_dropped ring part c.args.from c.args.ballot c.args.lo c.args.changes.now c.args.out.now no

pub returns-then-ballot-promise : goal.returns-then-ballot-promise
returns-then-ballot-promise c = on_ok c.refuse.result c.refuse.ensures (λ sent ring link part shows only.
    let owned = c.owns.ensures ring link shows.is_view in
    let yes : true ≡ is_node c.args.from (owner_of ring c.args.ballot) = cc in
    let told : part.kept.promise ≡ c.promise_after-promise.result = promise_read c.args.view.now c.args.durable.now c.args.changes.now ring link part shows c.promise_after-promise.result c.items.result.now c.items.ensures c.promise_after-promise.ensures.promise in
    let below = c.if-ballot-promise.true in
    prepare_refused ring part c.args.from c.args.ballot c.args.lo c.args.changes.now c.args.out.now c.refuse.new.out yes (omega arith) (sent ring link part shows.is_view told))

pub returns : goal.returns
returns c = on_ok c.send.result c.send.ensures (λ sent ring link part shows only.
    let owned = c.owns.ensures ring link shows.is_view in
    let yes : true ≡ is_node c.args.from (owner_of ring c.args.ballot) = cc in
    let told : part.kept.promise ≡ c.promise_after-promise.result = promise_read c.args.view.now c.args.durable.now c.args.changes.now ring link part shows c.promise_after-promise.result c.items.result.now c.items.ensures c.promise_after-promise.ensures.promise in
    let up = c.if-ballot-promise.false in
    let trimmed : part.kept.trim ≡ c.trim_after-trim.result = trim_read c.args.view.now c.args.durable.now c.args.changes.now ring link part shows c.trim_after-trim.result c.items-2.result.now c.items-2.ensures c.trim_after-trim.ensures.trim in
    let votes = c.items-3.ensures ∙ c.in_ok-votes.ensures.votes ∙ ap (λ (n : ℕ). votes_from c.args.durable.now c.args.view.now.ring n) c.max.ensures in
    let body = promise_is c.args.view.now c.args.durable.now c.args.changes.now ring link part shows only c.args.ballot c.args.lo c.in_ok-page.hi c.trim_after-trim.result c.in_ok-page.page c.items-3.result.now trimmed votes
    c.in_ok-page.ensures.votes c.in_ok-page.ensures.end in
    prepare_told ring part c.args.from c.args.ballot c.args.lo c.args.changes.now c.args.out.now c.push.new.self c.send.new.out yes (omega arith)
    (c.in_ok-push.ensures.ok ∙ ap (λ (id : RingId). c.args.changes.now ++ changes.Promise id c.args.ballot ∷ []) shows.is_view.id)
    (sent ring link shows.is_view ∙ ap (λ (b : Body). c.args.out.now ++ sends ring (Some c.args.from) b) body))
