use Rattle.std.proofs.Common.{◌≡◌, true, sym, subst, ap, ◌∙◌}
use Rattle.mrp_config.specs.Routing.{is_concerned}
use Rattle.plain_model.specs.Replicas.{effect_of}
use Rattle.replica_state.specs.Held.{Held, replica_with, sessions_in}
use Rattle.replica_state.proofs.ApplyLaws.{part_for, state_room, look_logs, look_table, look_reply, same_held, same_seen}
use Rattle.replica_state.proofs.state.ReplicaState.look.Goals as goal

pub take_command-requires-clause-concerned : goal.take_command-requires-clause-concerned
take_command-requires-clause-concerned c =
    part_for c.args.command.now c.self.inside.partition c.self.inside.logs c.self.inside.table c.self.invariant.state.logs
    (subst (λ (h : Held). is_concerned c.args.command.now h.partition ≡ true) (sym c.self.view_is) c.requires.concerned)

pub take_command-requires-clause-room : goal.take_command-requires-clause-room
take_command-requires-clause-room c = state_room c.self.inside.partition (replica_with c.self.inside.sessions.entries c.self.inside.logs c.self.inside.table) c.self.invariant.state

pub invariant_of-self : goal.invariant_of-self
invariant_of-self c =
    let room = state_room c.self.inside.partition (replica_with c.self.inside.sessions.entries c.self.inside.logs c.self.inside.table) c.self.invariant.state in
    same_held c.self.inside.partition (sessions_in c.self.inside.sessions.entries) c.self.inside.logs _ c.self.inside.table _ c.self.invariant
    (look_logs c.args.command.now c.self.inside.logs _ c.self.inside.table room c.requires.looks c.in-Ok.ensures.logs) (look_table c.args.command.now c.self.inside.logs c.self.inside.table _ room c.requires.looks c.in-Ok.ensures.table)

pub returns-in-Ok-clause-state : goal.returns-in-Ok-clause-state
returns-in-Ok-clause-state c =
    let room = state_room c.self.inside.partition (replica_with c.self.inside.sessions.entries c.self.inside.logs c.self.inside.table) c.self.invariant.state in
    same_seen c.args.self.now c.self.inside.partition (sessions_in c.self.inside.sessions.entries) c.self.inside.logs _ c.self.inside.table _ c.self.view_is
    (look_logs c.args.command.now c.self.inside.logs _ c.self.inside.table room c.requires.looks c.in-Ok.ensures.logs) (look_table c.args.command.now c.self.inside.logs c.self.inside.table _ room c.requires.looks c.in-Ok.ensures.table)

pub returns-in-Ok-clause-reply : goal.returns-in-Ok-clause-reply
returns-in-Ok-clause-reply c =
    let room = state_room c.self.inside.partition (replica_with c.self.inside.sessions.entries c.self.inside.logs c.self.inside.table) c.self.invariant.state in
    look_reply c.args.command.now c.self.inside.logs c.self.inside.table c.in-Ok.reply room c.requires.looks c.in-Ok.ensures.reply
    ∙ ap (λ (h : Held). (effect_of c.args.command.now h.replica.logs h.replica.table).reply) c.self.view_is
