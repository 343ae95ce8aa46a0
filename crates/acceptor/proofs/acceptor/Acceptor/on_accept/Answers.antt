use Rattle.std.proofs.Common.{◌≡◌, ◌∙◌, ◌++◌, Option, refl, sym, ap, arith}
use Rattle.std.proofs.lemmas.List.{append-nil}
use Rattle.mrp_types.specs.declared.id.NodeId.{NodeId}
use Rattle.mrp_types.specs.declared.id.RingId.{RingId}
use Rattle.mrp_types.specs.declared.value.Value.{Value}
use Rattle.mrp_types.specs.declared.voted.Voted.{Voted}
use Rattle.vote_state.specs.State.{has_vote}
use Rattle.protocol.specs.Parts.{Effects}
use Rattle.protocol.specs.Rings.{owner_of}
use Rattle.protocol.specs.Effects.{no_effects}
use Rattle.protocol.specs.Acceptor.{accepts, refuses, tells_trim}
use Rattle.gate_log.proofs.Answering.{on_ok, if_ok}
use Rattle.ring_view.specs.Views.{where_decided}
use Rattle.ring_view.proofs.ViewLemmas.{promise_read, trim_read}
use Rattle.acceptor.proofs.AcceptLemmas.{same_held, accept_unseated, accept_refused, accept_trimmed, accept_seen, accept_anew, adds_frames, adds_anew, decided_anew}
use Rattle.acceptor.proofs.acceptor.Acceptor.on_accept.Goals as goal

pub returns-in_default-clause-added : goal.returns-in_default-clause-added
returns-in_default-clause-added c = λ ring link part shows only.
    adds_frames (accepts ring link part c.args.ballot c.args.lo c.args.hi c.args.mask c.args.value.now) (no_effects part) c.args.changes.now c.args.out.now c.args.out.now
    (accept_unseated ring link part c.args.ballot c.args.lo c.args.hi c.args.mask c.args.value.now (c.in_default.ensures ring link shows.is_view)) refl (sym (append-nil c.args.out.now))

pub returns-in_default-clause-decided : goal.returns-in_default-clause-decided
returns-in_default-clause-decided c = λ ring link part shows only.
    ap (λ (e : Effects). e.learned) (accept_unseated ring link part c.args.ballot c.args.lo c.args.hi c.args.mask c.args.value.now (c.in_default.ensures ring link shows.is_view))

pub returns-then-ballot-promised-clause-added : goal.returns-then-ballot-promised-clause-added
returns-then-ballot-promised-clause-added c = λ ring link part shows only.
    let told : part.kept.promise ≡ c.promise_after-promised.result = promise_read c.args.view.now c.args.durable.now c.args.changes.now ring link part shows c.promise_after-promised.result c.items.result.now c.items.ensures c.promise_after-promised.ensures.promise in
    let below = c.if-ballot-promised.true in
    adds_frames (accepts ring link part c.args.ballot c.args.lo c.args.hi c.args.mask c.args.value.now) (refuses ring (owner_of ring c.args.ballot) c.args.ballot part) c.args.changes.now c.args.out.now c.refuse.new.out
    (accept_refused ring link part c.args.ballot c.args.lo c.args.hi c.args.mask c.args.value.now c.in-Some.bit (c.in-Some.ensures ring link shows.is_view) (omega arith)) refl
    (c.in_ok-refuse.ensures ring link part shows.is_view told ∙ ap (λ (to : Option NodeId). c.args.out.now ++ (refuses ring to c.args.ballot part).frames) (c.owner.ensures ring link shows.is_view))

pub returns-then-ballot-promised-clause-decided : goal.returns-then-ballot-promised-clause-decided
returns-then-ballot-promised-clause-decided c = λ ring link part shows only.
    let told : part.kept.promise ≡ c.promise_after-promised.result = promise_read c.args.view.now c.args.durable.now c.args.changes.now ring link part shows c.promise_after-promised.result c.items.result.now c.items.ensures c.promise_after-promised.ensures.promise in
    let below = c.if-ballot-promised.true in
    ap (λ (e : Effects). e.learned) (accept_refused ring link part c.args.ballot c.args.lo c.args.hi c.args.mask c.args.value.now c.in-Some.bit (c.in-Some.ensures ring link shows.is_view) (omega arith))

pub returns-then-lo-trim-clause-added : goal.returns-then-lo-trim-clause-added
returns-then-lo-trim-clause-added c = λ ring link part shows only.
    let told : part.kept.promise ≡ c.promise_after-promised.result = promise_read c.args.view.now c.args.durable.now c.args.changes.now ring link part shows c.promise_after-promised.result c.items.result.now c.items.ensures c.promise_after-promised.ensures.promise in
    let up = c.if-ballot-promised.false in
    let trimmed : part.kept.trim ≡ c.trim_after-trim.result = trim_read c.args.view.now c.args.durable.now c.args.changes.now ring link part shows c.trim_after-trim.result c.items-2.result.now c.items-2.ensures c.trim_after-trim.ensures.trim in
    let below = c.if-lo-trim.true in
    adds_frames (accepts ring link part c.args.ballot c.args.lo c.args.hi c.args.mask c.args.value.now) (tells_trim ring (owner_of ring c.args.ballot) part) c.args.changes.now c.args.out.now c.tell_trim.new.out
    (accept_trimmed ring link part c.args.ballot c.args.lo c.args.hi c.args.mask c.args.value.now c.in-Some.bit (c.in-Some.ensures ring link shows.is_view) (omega arith) (omega arith)) refl
    (c.in_ok-tell_trim.ensures ring link part shows.is_view trimmed ∙ ap (λ (to : Option NodeId). c.args.out.now ++ (tells_trim ring to part).frames) (c.owner-then-lo-trim.ensures ring link shows.is_view))

pub returns-then-lo-trim-clause-decided : goal.returns-then-lo-trim-clause-decided
returns-then-lo-trim-clause-decided c = λ ring link part shows only.
    let told : part.kept.promise ≡ c.promise_after-promised.result = promise_read c.args.view.now c.args.durable.now c.args.changes.now ring link part shows c.promise_after-promised.result c.items.result.now c.items.ensures c.promise_after-promised.ensures.promise in
    let up = c.if-ballot-promised.false in
    let trimmed : part.kept.trim ≡ c.trim_after-trim.result = trim_read c.args.view.now c.args.durable.now c.args.changes.now ring link part shows c.trim_after-trim.result c.items-2.result.now c.items-2.ensures c.trim_after-trim.ensures.trim in
    let below = c.if-lo-trim.true in
    ap (λ (e : Effects). e.learned) (accept_trimmed ring link part c.args.ballot c.args.lo c.args.hi c.args.mask c.args.value.now c.in-Some.bit (c.in-Some.ensures ring link shows.is_view) (omega arith) (omega arith))

pub returns-then-mask-bit-ne0-clause-added : goal.returns-then-mask-bit-ne0-clause-added
returns-then-mask-bit-ne0-clause-added c = λ ring link part shows only.
    let told : part.kept.promise ≡ c.promise_after-promised.result = promise_read c.args.view.now c.args.durable.now c.args.changes.now ring link part shows c.promise_after-promised.result c.items.result.now c.items.ensures c.promise_after-promised.ensures.promise in
    let up = c.if-ballot-promised.false in
    let trimmed : part.kept.trim ≡ c.trim_after-trim.result = trim_read c.args.view.now c.args.durable.now c.args.changes.now ring link part shows c.trim_after-trim.result c.items-2.result.now c.items-2.ensures c.trim_after-trim.ensures.trim in
    let above = c.if-lo-trim.false in
    adds_frames (accepts ring link part c.args.ballot c.args.lo c.args.hi c.args.mask c.args.value.now) (no_effects part) c.args.changes.now c.args.out.now c.args.out.now
    (accept_seen ring link part c.args.ballot c.args.lo c.args.hi c.args.mask c.args.value.now c.in-Some.bit (c.in-Some.ensures ring link shows.is_view) (omega arith) (omega arith) c.if-mask-bit-ne0.true) refl (sym (append-nil c.args.out.now))

pub returns-then-mask-bit-ne0-clause-decided : goal.returns-then-mask-bit-ne0-clause-decided
returns-then-mask-bit-ne0-clause-decided c = λ ring link part shows only.
    let told : part.kept.promise ≡ c.promise_after-promised.result = promise_read c.args.view.now c.args.durable.now c.args.changes.now ring link part shows c.promise_after-promised.result c.items.result.now c.items.ensures c.promise_after-promised.ensures.promise in
    let up = c.if-ballot-promised.false in
    let trimmed : part.kept.trim ≡ c.trim_after-trim.result = trim_read c.args.view.now c.args.durable.now c.args.changes.now ring link part shows c.trim_after-trim.result c.items-2.result.now c.items-2.ensures c.trim_after-trim.ensures.trim in
    let above = c.if-lo-trim.false in
    ap (λ (e : Effects). e.learned) (accept_seen ring link part c.args.ballot c.args.lo c.args.hi c.args.mask c.args.value.now c.in-Some.bit (c.in-Some.ensures ring link shows.is_view) (omega arith) (omega arith) c.if-mask-bit-ne0.true)

pub returns-clause-added : goal.returns-clause-added
returns-clause-added c = on_ok c.pass_vote.result c.pass_vote.ensures.frames (λ sent ring link part shows only.
    let vote : Voted = record { lo = c.args.lo; hi = c.args.hi; ballot = c.args.ballot; value = c.in_ok-value.value } in
    let told : part.kept.promise ≡ c.promise_after-promised.result = promise_read c.args.view.now c.args.durable.now c.args.changes.now ring link part shows c.promise_after-promised.result c.items.result.now c.items.ensures c.promise_after-promised.ensures.promise in
    let up = c.if-ballot-promised.false in
    let trimmed : part.kept.trim ≡ c.trim_after-trim.result = trim_read c.args.view.now c.args.durable.now c.args.changes.now ring link part shows c.trim_after-trim.result c.items-2.result.now c.items-2.ensures c.trim_after-trim.ensures.trim in
    let above = c.if-lo-trim.false in
    let row = accepts ring link part c.args.ballot c.args.lo c.args.hi c.args.mask c.args.value.now in
    let is = ap (λ (v : Value). accepts ring link part c.args.ballot c.args.lo c.args.hi c.args.mask v) (sym c.in_ok-value.ensures)
    ∙ accept_anew ring link part c.args.ballot c.args.lo c.args.hi c.args.mask c.in_ok-value.value c.in-Some.bit (c.in-Some.ensures ring link shows.is_view) (omega arith) (omega arith) c.if-mask-bit-ne0.false in
    let same = same_held c.args.view.now c.args.durable.now c.args.changes.now ring link part shows only vote (omega arith) ∙ ap (λ (id : RingId). has_vote c.args.durable.now id vote) shows.is_view.id in
    adds_anew row ring link part c.args.mask c.in-Some.bit vote is c.args.changes.now c.promise_anew.new.changes c.vote_anew.new.changes c.args.out.now c.pass_vote.new.out
    (c.in_ok-promise_anew.ensures ring link part shows.is_view told) (c.in_ok-vote_anew.ensures ring link part shows.is_view same) (sent ring link part shows.is_view))

pub returns-clause-decided : goal.returns-clause-decided
returns-clause-decided c = if_ok c.pass_vote.result _ _ c.pass_vote.ensures.decided (λ decided learned ring link part shows only.
    let vote : Voted = record { lo = c.args.lo; hi = c.args.hi; ballot = c.args.ballot; value = c.in_ok-value.value } in
    let told : part.kept.promise ≡ c.promise_after-promised.result = promise_read c.args.view.now c.args.durable.now c.args.changes.now ring link part shows c.promise_after-promised.result c.items.result.now c.items.ensures c.promise_after-promised.ensures.promise in
    let up = c.if-ballot-promised.false in
    let trimmed : part.kept.trim ≡ c.trim_after-trim.result = trim_read c.args.view.now c.args.durable.now c.args.changes.now ring link part shows c.trim_after-trim.result c.items-2.result.now c.items-2.ensures c.trim_after-trim.ensures.trim in
    let above = c.if-lo-trim.false in
    let row = accepts ring link part c.args.ballot c.args.lo c.args.hi c.args.mask c.args.value.now in
    let is = ap (λ (v : Value). accepts ring link part c.args.ballot c.args.lo c.args.hi c.args.mask v) (sym c.in_ok-value.ensures)
    ∙ accept_anew ring link part c.args.ballot c.args.lo c.args.hi c.args.mask c.in_ok-value.value c.in-Some.bit (c.in-Some.ensures ring link shows.is_view) (omega arith) (omega arith) c.if-mask-bit-ne0.false in
    decided_anew row ring link part c.args.mask c.in-Some.bit vote is (where_decided decided (record { lo = c.args.lo; hi = c.args.hi; value = c.in_ok-value.value })) (learned ring link part shows.is_view)
    ∙ ap (λ (v : Value). where_decided decided (record { lo = c.args.lo; hi = c.args.hi; value = v })) c.in_ok-value.ensures)
