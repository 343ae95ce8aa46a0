use Rattle.world.specs.Learner.{ready}
use Rattle.world.proofs.Deliveries.{other_first, past_end, last_learner, last_lines}
use Rattle.world.proofs.learner.Learned.deliver.Goals as goal

pub returns-then-first-self-clause-learner : goal.returns-then-first-self-clause-learner
returns-then-first-self-clause-learner c =
    let ahead = c.loop-turn.self-inside.ahead.entries in
    let next = c.loop-turn.self-inside.next in
    let is = other_first c.args.ring c.args.node next ahead _ _ c.in-Some.ensures.first c.if-first-self.true in
    last_learner (ready c.args.ring c.args.node next ahead) (ready c.args.ring c.args.node c.args.self.now.next c.args.self.now.ahead) next ahead is c.loop-turn.invariant.learner

pub returns-then-first-self-clause-lines : goal.returns-then-first-self-clause-lines
returns-then-first-self-clause-lines c =
    let ahead = c.loop-turn.self-inside.ahead.entries in
    let next = c.loop-turn.self-inside.next in
    let is = other_first c.args.ring c.args.node next ahead _ _ c.in-Some.ensures.first c.if-first-self.true in
    last_lines (ready c.args.ring c.args.node next ahead) (ready c.args.ring c.args.node c.args.self.now.next c.args.self.now.ahead) next ahead _ _ is c.loop-turn.invariant.lines

pub returns-then-self-ge-END-clause-learner : goal.returns-then-self-ge-END-clause-learner
returns-then-self-ge-END-clause-learner c =
    let ahead = c.loop-turn.self-inside.ahead.entries in
    let next = c.loop-turn.self-inside.next in
    let is = past_end c.args.ring c.args.node next ahead _ _ c.in-Some.ensures.first c.if-self-ge-END.true in
    last_learner (ready c.args.ring c.args.node next ahead) (ready c.args.ring c.args.node c.args.self.now.next c.args.self.now.ahead) next ahead is c.loop-turn.invariant.learner

pub returns-then-self-ge-END-clause-lines : goal.returns-then-self-ge-END-clause-lines
returns-then-self-ge-END-clause-lines c =
    let ahead = c.loop-turn.self-inside.ahead.entries in
    let next = c.loop-turn.self-inside.next in
    let is = past_end c.args.ring c.args.node next ahead _ _ c.in-Some.ensures.first c.if-self-ge-END.true in
    last_lines (ready c.args.ring c.args.node next ahead) (ready c.args.ring c.args.node c.args.self.now.next c.args.self.now.ahead) next ahead _ _ is c.loop-turn.invariant.lines
