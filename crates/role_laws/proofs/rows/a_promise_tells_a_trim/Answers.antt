use Rattle.std.proofs.Common.{refl}
use Rattle.command_codec.specs.Fields.{u16_bytes, u64_bytes}
use Rattle.range_map.specs.Entries.{spread_over}
use Rattle.protocol.specs.Learner.{are_all_held, met_over, gap_after}
use Rattle.protocol.specs.Coordinator.{leads, promised, submits}
use Rattle.protocol.specs.Proposing.{proposes_after, proposing, first_where, offers}
use Rattle.protocol.specs.Ballots.{covered_to}
use Rattle.role_laws.proofs.rows.a_promise_tells_a_trim.Goals as goal

pub returns-clause-leads : goal.returns-clause-leads
unfolding leads proposes_after proposing covered_to first_where offers promised submits are_all_held met_over gap_after spread_over u16_bytes u64_bytes lib.Count.ones
returns-clause-leads c = refl

pub returns-clause-changes : goal.returns-clause-changes
unfolding leads proposes_after proposing covered_to first_where offers promised submits are_all_held met_over gap_after spread_over u16_bytes u64_bytes lib.Count.ones
returns-clause-changes c = refl

pub returns-clause-frames : goal.returns-clause-frames
unfolding leads proposes_after proposing covered_to first_where offers promised submits are_all_held met_over gap_after spread_over u16_bytes u64_bytes lib.Count.ones
returns-clause-frames c = refl

pub returns-clause-next : goal.returns-clause-next
unfolding leads proposes_after proposing covered_to first_where offers promised submits are_all_held met_over gap_after spread_over u16_bytes u64_bytes lib.Count.ones
returns-clause-next c = refl
