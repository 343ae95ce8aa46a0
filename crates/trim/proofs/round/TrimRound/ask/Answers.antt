use Rattle.std.proofs.Common.{◌≡◌, ◌∙◌, sym, ap, refl, subst, map, List}
use Rattle.std.specs.List.{AllByRecursion}
use Rattle.mrp_types.specs.Seats.{AreDifferent, numbers_of_nodes}
use Rattle.mrp_config.specs.declared.tables.PartitionTable.{PartitionTable}
use Rattle.mrp_config.specs.Config.{subscribers_of}
use Rattle.mrp_config.specs.Walk.{node_ids, ring_ids}
use Rattle.trim.specs.Quorums.{subscriber_of}
use Rattle.trim.proofs.Answering.{all_different}
use Rattle.trim.proofs.round.TrimRound.ask.Goals as goal

pub returns : goal.returns
returns c = λ asker same.
    let valid = c.partitions.ensures.valid in
    let found : subscribers_of c.partitions.result.now c.args.ring ≡ asker.subscribers = ap (λ ps. subscribers_of ps c.args.ring) c.partitions.ensures.tables ∙ sym same in
    record {
      number = refl;
      last = refl;
      answered = λ node. c.none.ensures node.0;
      lowest = refl;
      once = tt;
      subscribers = c.subscribers.ensures.all ∙ ap (map subscriber_of) found;
      different = subst (λ (ps : List PartitionTable). AllByRecursion (λ (p : PartitionTable). AreDifferent (numbers_of_nodes p.replicas)) ps) (sym same)
          (all_different (node_ids c.args.deployment.now.nodes) (ring_ids c.args.deployment.now.rings) c.args.ring c.args.deployment.now.partitions valid.partitions.each);
    }
