use Rattle.std.proofs.Common.{sym, ◌∙◌, List, subst}
use Rattle.mrp_types.specs.declared.id.NodeId.{NodeId}
use Rattle.world.specs.Built.{AreSame}
use Rattle.world.proofs.Rings.{only_one, is_built, not_built, not_so}
use Rattle.world.proofs.built.built_ring.Goals as goal

pub returns-then-not-are_same-clause-other : goal.returns-then-not-are_same-clause-other
returns-then-not-are_same-clause-other c =
    let ring = c.ring-item.result in
    let partition = c.partition-item.result in
    not_built c.args.deployment.now ring partition
    (sym c.rings.ensures.tables ∙ only_one c.rings.result.now ring c.in-len1.len_at_least c.in-len1.len_below c.ring-item.is)
    (sym c.partitions.ensures.tables ∙ only_one c.partitions.result.now partition c.in-len1-partitions.len_at_least c.in-len1-partitions.len_below c.partition-item.is)
    (λ same. not_so _ c.if-not-are_same.true (c.are_same.ensures.1
    (subst (λ (nodes : List NodeId). AreSame nodes c.items-2.result.now) (sym c.items.ensures.nodes)
    (subst (λ (nodes : List NodeId). AreSame partition.replicas nodes) (sym c.items-2.ensures.nodes) same))))

pub returns-clause-built : goal.returns-clause-built
returns-clause-built c =
    let ring = c.ring-item.result in
    let partition = c.partition-item.result in
    is_built c.args.deployment.now ring partition
    (sym c.rings.ensures.tables ∙ only_one c.rings.result.now ring c.in-len1.len_at_least c.in-len1.len_below c.ring-item.is)
    (sym c.partitions.ensures.tables ∙ only_one c.partitions.result.now partition c.in-len1-partitions.len_at_least c.in-len1-partitions.len_below c.partition-item.is)
    (sym c.lambda.ensures ∙ c.if-lambda-ne0.false)
    (subst (λ (nodes : List NodeId). AreSame partition.replicas nodes) c.items-2.ensures.nodes
    (subst (λ (nodes : List NodeId). AreSame nodes c.items-2.result.now) c.items.ensures.nodes (c.are_same.ensures.0 c.if-not-are_same.false)))
