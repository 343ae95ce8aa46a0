use Rattle.std.proofs.Common.{◌∙◌, sym, ap, refl}
use Rattle.plain_model.specs.Replicas.{Applied}
use Rattle.replica_state.specs.declared.parts.Turn.TheVariants.{Take, Again, Pass}
use Rattle.replica_state.proofs.ApplyLaws.{passes, kept_state, by_turn, held}
use Rattle.replica_state.proofs.state.ReplicaState.apply.Goals as goal

pub returns-in_default-clause-state : goal.returns-in_default-clause-state
returns-in_default-clause-state c =
    kept_state c.args.self.now c.args.entry.now _ (passes c.args.self.now.partition c.args.self.now.replica c.args.entry.now (sym c.in_default.is ∙ c.in_ok-command.ensures.found)) refl

pub returns-in_default-clause-reply : goal.returns-in_default-clause-reply
returns-in_default-clause-reply c =
    sym (ap (λ (a : Applied). a.reply) (passes c.args.self.now.partition c.args.self.now.replica c.args.entry.now (sym c.in_default.is ∙ c.in_ok-command.ensures.found)))

pub returns-in-Pass-clause-state : goal.returns-in-Pass-clause-state
returns-in-Pass-clause-state c =
    let b = by_turn c.args.self.now.partition c.args.self.now.replica c.args.entry.now c.in-Some.command c.in_ok-command.field-0 c.in_ok-turn.field-0 Pass c.in-Some.is c.in_ok-command.ensures.found c.in-Pass.is c.in_ok-turn.ensures.turn in
    kept_state c.args.self.now c.args.entry.now _ (b.0 ∙ b.2 c.in-Some.command) refl

pub returns-in-Pass-clause-reply : goal.returns-in-Pass-clause-reply
returns-in-Pass-clause-reply c =
    let b = by_turn c.args.self.now.partition c.args.self.now.replica c.args.entry.now c.in-Some.command c.in_ok-command.field-0 c.in_ok-turn.field-0 Pass c.in-Some.is c.in_ok-command.ensures.found c.in-Pass.is c.in_ok-turn.ensures.turn in
    sym (ap (λ (a : Applied). a.reply) (b.0 ∙ b.2 c.in-Some.command))

pub returns-in-Again-clause-state : goal.returns-in-Again-clause-state
returns-in-Again-clause-state c =
    let b = by_turn c.args.self.now.partition c.args.self.now.replica c.args.entry.now c.in-Some.command c.in_ok-command.field-0 c.in_ok-turn.field-0 (Again c.in-Again.reply) c.in-Some.is c.in_ok-command.ensures.found c.in-Again.is c.in_ok-turn.ensures.turn in
    kept_state c.args.self.now c.args.entry.now _ (b.0 ∙ b.2 c.in-Some.command) refl

pub returns-in-Again-clause-reply : goal.returns-in-Again-clause-reply
returns-in-Again-clause-reply c =
    let b = by_turn c.args.self.now.partition c.args.self.now.replica c.args.entry.now c.in-Some.command c.in_ok-command.field-0 c.in_ok-turn.field-0 (Again c.in-Again.reply) c.in-Some.is c.in_ok-command.ensures.found c.in-Again.is c.in_ok-turn.ensures.turn in
    sym (ap (λ (a : Applied). a.reply) (b.0 ∙ b.2 c.in-Some.command))

pub take-requires-clause-concerned : goal.take-requires-clause-concerned
take-requires-clause-concerned c =
    (by_turn c.args.self.now.partition c.args.self.now.replica c.args.entry.now c.in-Some.command c.in_ok-command.field-0 c.in_ok-turn.field-0 Take c.in-Some.is c.in_ok-command.ensures.found c.in-Take.is c.in_ok-turn.ensures.turn).1

pub take-requires-clause-taken : goal.take-requires-clause-taken
take-requires-clause-taken c =
    let b = by_turn c.args.self.now.partition c.args.self.now.replica c.args.entry.now c.in-Some.command c.in_ok-command.field-0 c.in_ok-turn.field-0 Take c.in-Some.is c.in_ok-command.ensures.found c.in-Take.is c.in_ok-turn.ensures.turn in
    b.0 ∙ b.2 c.in-Some.command

pub take-requires-clause-given : goal.take-requires-clause-given
take-requires-clause-given c = c.command_in.ensures.given

pub returns-clause-state : goal.returns-clause-state
returns-clause-state c =
    let b = by_turn c.args.self.now.partition c.args.self.now.replica c.args.entry.now c.in-Some.command c.in_ok-command.field-0 c.in_ok-turn.field-0 Take c.in-Some.is c.in_ok-command.ensures.found c.in-Take.is c.in_ok-turn.ensures.turn in
    c.in_ok-take-in-Take.ensures.state ∙ ap (λ (a : Applied). held c.args.self.now.partition a.replica) (sym (b.0 ∙ b.2 c.in-Some.command))

pub returns-clause-reply : goal.returns-clause-reply
returns-clause-reply c =
    let b = by_turn c.args.self.now.partition c.args.self.now.replica c.args.entry.now c.in-Some.command c.in_ok-command.field-0 c.in_ok-turn.field-0 Take c.in-Some.is c.in_ok-command.ensures.found c.in-Take.is c.in_ok-turn.ensures.turn in
    c.in_ok-take-in-Take.ensures.reply ∙ ap (λ (a : Applied). a.reply) (sym (b.0 ∙ b.2 c.in-Some.command))
