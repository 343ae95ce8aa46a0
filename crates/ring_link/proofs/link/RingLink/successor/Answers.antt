use Rattle.std.proofs.Common.{◌∙◌, ap, sym, Some}
use Rattle.std.specs.Prelude.{find}
use Rattle.ring_link.specs.Silence.{is_next, is_suspected_after, is_silent}
use Rattle.ring_link.proofs.SilenceLemmas.{successor_after, successor_before, successor-none}
use Rattle.ring_link.proofs.link.RingLink.successor.Goals as goal

pub returns-in-Some-clause-counted : goal.returns-in-Some-clause-counted
returns-in-Some-clause-counted c suspect events was =
    successor_after (is_suspected_after suspect events) c.args.order.now c.args.own c.place_of-at.result c.in-Some.node c.place_of-at.ensures.place
    (c.in-Some.ensures.counted suspect events was ∙ ap (find (is_next (is_suspected_after suspect events) c.args.own)) c.past.ensures)

pub returns-in-Some-clause-kept : goal.returns-in-Some-clause-kept
returns-in-Some-clause-kept c =
    successor_after (is_silent c.args.self.now) c.args.order.now c.args.own c.place_of-at.result c.in-Some.node c.place_of-at.ensures.place
    (c.in-Some.ensures.kept ∙ ap (find (is_next (is_silent c.args.self.now) c.args.own)) c.past.ensures)

pub returns-clause-counted : goal.returns-clause-counted
returns-clause-counted c suspect events was =
    successor_before (is_suspected_after suspect events) c.args.order.now c.args.own c.place_of-at.result c.first_heard-2.result c.place_of-at.ensures.place
    (sym (c.in_default.ensures.counted suspect events was ∙ ap (find (is_next (is_suspected_after suspect events) c.args.own)) c.past.ensures)) (c.first_heard-2.ensures.counted suspect events was)

pub returns-clause-kept : goal.returns-clause-kept
returns-clause-kept c =
    successor_before (is_silent c.args.self.now) c.args.order.now c.args.own c.place_of-at.result c.first_heard-2.result c.place_of-at.ensures.place
    (sym (c.in_default.ensures.kept ∙ ap (find (is_next (is_silent c.args.self.now) c.args.own)) c.past.ensures)) c.first_heard-2.ensures.kept

pub returns-in-Some-clause-none : goal.returns-in-Some-clause-none
returns-in-Some-clause-none c =
    successor-none (is_silent c.args.self.now) c.args.order.now c.args.own (Some c.in-Some.node)
    (successor_after (is_silent c.args.self.now) c.args.order.now c.args.own c.place_of-at.result c.in-Some.node c.place_of-at.ensures.place (c.in-Some.ensures.kept ∙ ap (find (is_next (is_silent c.args.self.now) c.args.own)) c.past.ensures))

pub returns-clause-none : goal.returns-clause-none
returns-clause-none c =
    successor-none (is_silent c.args.self.now) c.args.order.now c.args.own c.first_heard-2.result
    (successor_before (is_silent c.args.self.now) c.args.order.now c.args.own c.place_of-at.result c.first_heard-2.result c.place_of-at.ensures.place
    (sym (c.in_default.ensures.kept ∙ ap (find (is_next (is_silent c.args.self.now) c.args.own)) c.past.ensures)) c.first_heard-2.ensures.kept)
