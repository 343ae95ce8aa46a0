use Rattle.std.proofs.Common.{◌≡◌, true, sym, subst}
use Rattle.mrp_config.specs.Routing.{is_concerned}
use Rattle.replica_state.specs.Held.{Held, replica_with}
use Rattle.replica_state.proofs.ApplyLaws.{part_for, state_room, taken_held}
use Rattle.replica_state.proofs.state.ReplicaState.take.Goals as goal

pub take_parts-requires-clause-concerned : goal.take_parts-requires-clause-concerned
take_parts-requires-clause-concerned c =
    part_for c.args.command.now c.self.inside.partition c.self.inside.logs c.self.inside.table c.self.invariant.state.logs
    (subst (λ (h : Held). is_concerned c.args.command.now h.partition ≡ true) (sym c.self.view_is) c.requires.concerned)

pub take_parts-requires-clause-room : goal.take_parts-requires-clause-room
take_parts-requires-clause-room c = state_room c.self.inside.partition (replica_with c.self.inside.sessions.entries c.self.inside.logs c.self.inside.table) c.self.invariant.state

pub invariant_of-self : goal.invariant_of-self
invariant_of-self c =
    taken_held c.args.self.now c.self.inside.partition (replica_with c.self.inside.sessions.entries c.self.inside.logs c.self.inside.table) _ c.args.entry.now c.args.command.now c.self.view_is c.self.invariant c.requires.given
    c.requires.taken c.in-Ok.ensures.state
