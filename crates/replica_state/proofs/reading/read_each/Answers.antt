use Rattle.plain_model.specs.StateBytes.{session_at_least, after_client}
use Rattle.command_codec.proofs.Loops.{goes_on}
use Rattle.replica_state.specs.Held.{session_of, sessions_in}
use Rattle.replica_state.proofs.SessionLaws.{came_last, all_below}
use Rattle.replica_state.proofs.reading.read_each.Goals as goal

pub loop-turn-preserved : goal.loop-turn-preserved
loop-turn-preserved c =
    let made = came_last (session_of (c.in_ok-client.client.0, c.in_ok-client.kept)) c.loop-turn.least (sessions_in c.loop-turn.sessions.entries) (sessions_in c.keep.new.sessions.entries) c.loop-turn.invariant.below
    c.in_ok-client.ensures.rising c.in_ok-keep.ensures.ok in
    record {
      all =
          goes_on session_at_least after_client (sessions_in c.loop-turn.sessions.entries) (sessions_in c.keep.new.sessions.entries) c.args.count c.loop-turn._turn c.loop-turn.least c.loop-turn.fields
          (session_of (c.in_ok-client.client.0, c.in_ok-client.kept)) _ _ c.loop-turn-test.true c.in_ok-client.ensures.exact made c.loop-turn.invariant.all;
      below = all_below (session_of (c.in_ok-client.client.0, c.in_ok-client.kept)) c.loop-turn.least (sessions_in c.loop-turn.sessions.entries) (sessions_in c.keep.new.sessions.entries) c.loop-turn.invariant.below
          c.in_ok-client.ensures.rising made;
    }
