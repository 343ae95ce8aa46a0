-- Asking for what is missing, and greeting, touch no ring.
use Rattle.std.proofs.Common.{ℕ, Option, Some, None}
use Rattle.std.specs.Prelude.{filter}
use Rattle.std.specs.List.{AllByRecursion, flat_map}
use Rattle.mrp_types.specs.declared.id.NodeId.{NodeId}
use Rattle.mrp_types.specs.declared.id.RingId.{RingId}
use Rattle.mrp_config.specs.Config.{Config}
use Rattle.mrp_config.specs.declared.tables.NodeTable.{NodeTable}
use Rattle.frames.specs.declared.body.Body.TheVariants as body
use Rattle.protocol.specs.Rings.{sends, sends_to}
use Rattle.protocol.specs.Node.{StepSoFar, RingPart, Service, Stage, Recovering, Ready, part_at}
use Rattle.protocol.specs.Merging.{place_of}
use Rattle.protocol.specs.Tick.{turn_of, fetches_at, fetches_stage, fetches_missing, shares_ring, greets, asks_on_beat}
use Rattle.beside_rings.specs.Beside.{IsQuietSent, Untouched}
use Rattle.beside_rings.proofs.Following.{Untouched-refl, Untouched-trans, untouched_sends}
use Rattle.beside_rings.proofs.Recovered.{quiet_to, quiet_all}

untouched_fetches_at : (turn : ℕ) (place : RingId × ℕ) (o : Option RingPart) (a : StepSoFar) → Untouched a (fetches_at turn place o a)
untouched_fetches_at turn place None a = Untouched-refl a
untouched_fetches_at turn place (Some p) a = untouched_sends (sends p.ring (turn_of a.view.id p.ring.acceptors turn) (body.Fetch place.0 place.1)) (to (turn_of a.view.id p.ring.acceptors turn)) a
  where
    to : (o : Option NodeId) → AllByRecursion IsQuietSent (sends p.ring o (body.Fetch place.0 place.1))
    to None = tt
    to (Some node) = quiet_to p.ring.own node (body.Fetch place.0 place.1) tt

untouched_missing : (config : Config) (turn : ℕ) (o : Option Service) (a : StepSoFar) → Untouched a (fetches_missing config turn o a)
untouched_missing config turn None a = Untouched-refl a
untouched_missing config turn (Some service) a = at service.stage
  where
    at : (stage : Stage) → Untouched a (fetches_stage config turn stage a)
    at (Recovering attempt) = Untouched-refl a
    at (Ready standing) = untouched_fetches_at turn (place_of config standing) (part_at a.view (place_of config standing).0) a

untouched_greets : (config : Config) (a : StepSoFar) → Untouched a (greets config a)
untouched_greets config a =
    untouched_sends (flat_map (λ (node : NodeTable). sends_to a.view.id node.id body.Hello) (filter (shares_ring a.view) config.nodes))
    (quiet_all (λ (node : NodeTable). sends_to a.view.id node.id body.Hello) (λ node. quiet_to a.view.id node.id body.Hello tt) (filter (shares_ring a.view) config.nodes)) a

pub untouched_beat : (config : Config) (turn : ℕ) (a : StepSoFar) → Untouched a (asks_on_beat config turn a)
untouched_beat config turn a = Untouched-trans (untouched_missing config turn a.view.service a) (untouched_greets config (fetches_missing config turn a.view.service a))
