use Rattle.std.proofs.Common.{◌≡◌, ◌∙◌, sym, ap, Some}
use Rattle.std.specs.Option.{option_map}
use Rattle.mrp_config.specs.Config.{partition_at}
use Rattle.mrp_config.specs.Walk.{node_ids, ring_ids}
use Rattle.recovery.proofs.Finding.{few_needed, low_replicas}
use Rattle.recovery.proofs.attempt.size_of.Goals as goal

pub returns-clause-few : goal.returns-clause-few
returns-clause-few c =
    let valid = c.partitions.ensures.valid in
    let found : partition_at c.args.deployment.now.partitions c.args.p.0 ≡ Some c.in-Some.partition.now = sym c.partition.ensures ∙ ap (option_map (λ t. t.now)) c.in-Some.is in
    few_needed (node_ids c.args.deployment.now.nodes) (ring_ids c.args.deployment.now.rings) c.args.deployment.now.partitions c.args.p.0 c.in-Some.partition.now valid.partitions found

pub returns-clause-low : goal.returns-clause-low
returns-clause-low c =
    let valid = c.partitions.ensures.valid in
    let found : partition_at c.args.deployment.now.partitions c.args.p.0 ≡ Some c.in-Some.partition.now = sym c.partition.ensures ∙ ap (option_map (λ t. t.now)) c.in-Some.is in
    low_replicas (node_ids c.args.deployment.now.nodes) (ring_ids c.args.deployment.now.rings) c.args.deployment.now.partitions c.args.p.0 c.in-Some.partition.now valid.partitions found
