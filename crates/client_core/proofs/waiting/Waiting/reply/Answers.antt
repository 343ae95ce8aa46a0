use Rattle.std.proofs.Common.{arith, ◌≡◌, ℕ, ◌==◌, false, ◌∙◌, sym, ap, subst, None, Some}
use Rattle.std.specs.Option.{option_map}
use Rattle.mrp_types.specs.declared.id.PartitionId.{PartitionId}
use Rattle.mrp_config.specs.Config.{partition_at}
use Rattle.client_core.proofs.MissingLaws.{found_id}
use Rattle.client_core.proofs.Rules.{other_number, no_partition, not_awaited}
use Rattle.client_core.proofs.waiting.Waiting.reply.Goals as goal

differ : (a b : ℕ) → (a ≡ b → ⊥) → (a == b) ≡ false
differ a b h = grind arith

pub returns-then-self-seq-clause-taken : goal.returns-then-self-seq-clause-taken
returns-then-self-seq-clause-taken c = λ id next.
    other_number c.args.deployment.now id next c.args.self.now c.args.seq c.args.partition c.args.bytes.now (differ c.args.self.now.seq c.args.seq c.if-self-seq.true)

pub returns-in_default-clause-taken : goal.returns-in_default-clause-taken
returns-in_default-clause-taken c = λ id next.
    let none : partition_at c.args.deployment.now.partitions c.args.partition.0 ≡ None = sym c.partition.ensures ∙ ap (option_map (λ t. t.now)) c.in_default.is in
    no_partition c.args.deployment.now id next c.args.self.now c.args.seq c.args.partition c.args.bytes.now none

pub awaits-requires-clause-there : goal.awaits-requires-clause-there
awaits-requires-clause-there c =
    let found : partition_at c.args.deployment.now.partitions c.args.partition.0 ≡ Some c.in-Some.p.now = sym c.partition.ensures ∙ ap (option_map (λ t. t.now)) c.in-Some.is in
    subst (λ (id : PartitionId). partition_at c.args.deployment.now.partitions id.0 ≡ Some c.in-Some.p.now) (sym (found_id c.args.deployment.now.partitions c.args.partition c.in-Some.p.now found)) found

pub returns-then-not-awaits-clause-taken : goal.returns-then-not-awaits-clause-taken
returns-then-not-awaits-clause-taken c = λ id next.
    let found : partition_at c.args.deployment.now.partitions c.args.partition.0 ≡ Some c.in-Some.p.now = sym c.partition.ensures ∙ ap (option_map (λ t. t.now)) c.in-Some.is in
    not_awaited c.args.deployment.now id next c.args.self.now c.args.seq c.args.partition c.in-Some.p.now c.args.bytes.now found (sym c.awaits.ensures ∙ c.if-not-awaits.true)

pub take-requires-clause-there : goal.take-requires-clause-there
take-requires-clause-there c =
    let found : partition_at c.args.deployment.now.partitions c.args.partition.0 ≡ Some c.in-Some.p.now = sym c.partition.ensures ∙ ap (option_map (λ t. t.now)) c.in-Some.is in
    subst (λ (id : PartitionId). partition_at c.args.deployment.now.partitions id.0 ≡ Some c.in-Some.p.now) (sym (found_id c.args.deployment.now.partitions c.args.partition c.in-Some.p.now found)) found

pub returns-clause-taken : goal.returns-clause-taken
returns-clause-taken c =
    let found : partition_at c.args.deployment.now.partitions c.args.partition.0 ≡ Some c.in-Some.p.now = sym c.partition.ensures ∙ ap (option_map (λ t. t.now)) c.in-Some.is in
    let same = found_id c.args.deployment.now.partitions c.args.partition c.in-Some.p.now found in
    let seq : c.args.self.now.seq ≡ c.args.seq = c.if-self-seq.false in
    rw (← seq, ← same) c.take.ensures.taken
