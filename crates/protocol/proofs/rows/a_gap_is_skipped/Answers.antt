use Rattle.std.proofs.Common.{refl}
use Rattle.command_codec.specs.Fields.{u16_bytes, u64_bytes}
use Rattle.range_map.specs.Entries.{spread_over}
use Rattle.vote_state.specs.Ranges.{ranges_of, are_held}
use Rattle.protocol.specs.Acceptor.{prepares, accepts}
use Rattle.protocol.specs.Learner.{are_all_held, met_over, gap_after}
use Rattle.protocol.specs.Coordinator.{leads, promised, submits}
use Rattle.protocol.specs.Proposing.{proposes_after, proposing, first_where, offers}
use Rattle.protocol.specs.Ballots.{covered_to}
use Rattle.protocol.specs.Leading.{levels}
use Rattle.protocol.specs.Trimming.{least, answers}
use Rattle.protocol.proofs.rows.a_gap_is_skipped.Goals as goal

pub returns : goal.returns
unfolding least answers leads proposes_after proposing covered_to first_where offers promised submits levels are_all_held met_over gap_after prepares accepts ranges_of are_held spread_over u16_bytes u64_bytes lib.Count.ones
returns c = refl
