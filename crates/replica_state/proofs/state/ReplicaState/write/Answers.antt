use Rattle.replica_state.specs.Held.{sessions_in}
use Rattle.replica_state.proofs.ApplyLaws.{state_written}
use Rattle.replica_state.proofs.state.ReplicaState.write.Goals as goal

pub returns : goal.returns
returns c =
    state_written c.args.self.now c.self.inside.partition (sessions_in c.self.inside.sessions.entries) c.self.inside.logs c.self.inside.table _ _ _ _ c.self.view_is c.new-out.ensures c.in_ok-write_sessions.ensures
    c.in_ok-write_state.ensures c.in_ok-write_state-2.ensures
