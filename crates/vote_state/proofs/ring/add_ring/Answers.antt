use Rattle.vote_state.proofs.MadeAgain.{ring_added}
use Rattle.vote_state.proofs.ring.add_ring.Goals as goal

pub returns : goal.returns
returns c =
    ring_added c.args.changes.now c.add_promise.new.changes c.add_trim.new.changes c.add_votes.new.changes c.args.ring c.args.state.now c.in_ok-votes.votes c.items.result.now c.in_ok-add_promise.ensures c.in_ok-add_trim.ensures c.items.ensures c.in_ok-votes.ensures
    c.in_ok-add_votes.ensures
