use Rattle.vote_state.proofs.StateLemmas.{trim_is_kept}
use Rattle.vote_state.proofs.ring.RingState.cut.Goals as goal

pub returns-clause-kept : goal.returns-clause-kept
returns-clause-kept c = rw c.cut_below.ensures.entries (trim_is_kept c.args.trim c.args.self.now c.requires.trim c.requires.kept)
