use Rattle.vote_state.proofs.StateLemmas.{vote_kept}
use Rattle.vote_state.proofs.ring.RingState.vote.Goals as goal

pub returns-clause-kept : goal.returns-clause-kept
returns-clause-kept c = rw (c.in_default.ensures.entries, c.in_ok-cast.ensures) (vote_kept c.args.vote.now c.args.self.now c.requires.vote c.requires.kept)
