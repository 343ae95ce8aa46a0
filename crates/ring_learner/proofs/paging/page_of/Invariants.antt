use Rattle.std.proofs.Common.{◌≡◌, ◌++◌, ◌-◌, ◌^◌}
use Rattle.range_map.specs.Entries.{entries_from}
use Rattle.frames.specs.Spelling.{decided_size}
use Rattle.plain_model.specs.Pages.{front_within}
use Rattle.protocol.specs.Learner.{learned_ranges}
use Rattle.protocol.specs.Acceptor.{ranges_page}
use Rattle.ring_learner.proofs.paging.page_of.Given as goal

-- the ranges so far, and those that still have room
abbrev pub invariant-loop-page : goal.invariant-loop-page
invariant-loop-page l = l.page ++ front_within decided_size l.room (learned_ranges (entries_from l.at l.held)) ≡ ranges_page (learned_ranges (entries_from l.lo l.held))

abbrev pub decreases-loop-page : goal.decreases-loop-page
decreases-loop-page l = 2 ^ 64 - l.at
