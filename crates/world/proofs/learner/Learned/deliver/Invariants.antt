use Rattle.std.proofs.Common.{◌≡◌, ◌≤◌, ◌+◌, ◌++◌, length}
use Rattle.world.specs.Learner.{ready}
use Rattle.world.proofs.learner.Learned.deliver.Given as goal

-- what was delivered, and what is ready still
abbrev pub invariant-loop-turn : goal.invariant-loop-turn
invariant-loop-turn l =
    let now = ready l.ring l.node l.self-inside.next l.self-inside.ahead.entries in
    let all = ready l.ring l.node l.fn.self.next l.fn.self.ahead in
    record {
      learner : now.learner ≡ all.learner;
      lines : l.lines ++ now.lines ≡ l.fn.lines ++ all.lines;
      turns : length l.self-inside.ahead.entries + l._turn ≤ length l.fn.self.ahead;
    }
