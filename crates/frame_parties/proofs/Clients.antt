-- A client sends its commands to acceptors of the deployment.
use Rattle.std.proofs.Common.{ℕ, Bool, true, false, List, Option, Some, None}
use Rattle.std.specs.Prelude.{◌==◌, nat_lt, ◌&&◌, not, if◌then◌else◌, Result, Ok, Err, ◌%◌, ◌+◌, ◌^◌, length}
use Rattle.mrp_types.specs.declared.id.NodeId.{NodeId}
use Rattle.mrp_types.specs.declared.id.PartitionId.{PartitionId}
use Rattle.mrp_types.specs.declared.id.RingId.{RingId}
use Rattle.command_codec.specs.declared.command.Command.{Command}
use Rattle.command_codec.specs.declared.fault.CodecFault.{CodecFault}
use Rattle.command_codec.specs.declared.reply.Reply.{Reply}
use Rattle.command_codec.specs.Grammar.{reply_of}
use Rattle.mrp_config.specs.declared.routing.NoGroup.{NoGroup}
use Rattle.mrp_config.specs.declared.tables.RingTable.{RingTable}
use Rattle.mrp_config.specs.declared.tables.PartitionTable.{PartitionTable}
use Rattle.mrp_config.specs.Config.{Config, partition_at, ring_at}
use Rattle.mrp_config.specs.Routing.{concerned_of, is_concerned, route_of}
use Rattle.frames.specs.declared.body.Body.{Body}
use Rattle.frames.specs.declared.body.Body.TheVariants as bodies
use Rattle.protocol.specs.Client.{with_part, have_all, asked_first, Asked, ClientView, ClientEffects, idles, acceptor_at, acceptors_of, submit_to, submits, sends_it, asks_on, asks_beside, asks, ticks_for, client_ticks, answers, gathered, replied_with, replied_by, replied_for, replied, client_takes, fits, has_part}
use Rattle.line_rules.specs.Rules.{HasNode, HasClient}
use Rattle.frame_parties.proofs.Invariant.{AreThere, AreAddressed, IsClosed}
use Rattle.frame_parties.proofs.Lists.{IfThere, find_all, get_all}

module _ (c : Config) (closed : IsClosed c) where
  client_if : (b : Bool) (x y : ClientEffects) → AreAddressed c x.frames → AreAddressed c y.frames → AreAddressed c (if b then x else y).frames
  client_if true x y p q = p
  client_if false x y p q = q

  submitted : (v : ClientView) (a : Asked) → HasClient c v.id → AreAddressed c (submits c v a)
  submitted v a own = to (acceptor_at a.tries (acceptors_of (ring_at c.rings a.ring.0))) (get_all (HasNode c) (acceptors_of (ring_at c.rings a.ring.0)) (a.tries % length (acceptors_of (ring_at c.rings a.ring.0)))
      (listed (ring_at c.rings a.ring.0) (find_all (λ (t : RingTable). AreThere c t.acceptors) (λ (t : RingTable). t.id.0 == a.ring.0) c.rings closed.acceptors)))
    where
      listed : (o : Option RingTable) → IfThere (λ (t : RingTable). AreThere c t.acceptors) o → AreThere c (acceptors_of o)
      listed None all = tt
      listed (Some table) all = all

      to : (o : Option NodeId) → IfThere (HasNode c) o → AreAddressed c (submit_to v a o)
      to None there = tt
      to (Some node) there = ((own, there), tt)

  pub asks_named : (v : ClientView) (command : Command) → HasClient c v.id → AreAddressed c (asks c v command).frames
  unfolding asks
  asks_named v command own = by_asked v.asked
    where
      by_route : (r : Result RingId NoGroup) → AreAddressed c (asks_on c v command r).frames
      by_route (Err none) = tt
      by_route (Ok ring) = client_if (nat_lt v.next (2 ^ 63)) (sends_it c (record v { next = v.next + 1 }) (asked_first v.next command ring)) (idles v)
          (submitted (record v { next = v.next + 1 }) (asked_first v.next command ring) own) tt

      by_asked : (o : Option Asked) → AreAddressed c (asks_beside c v command o).frames
      by_asked (Some a) = tt
      by_asked None = by_route (route_of (concerned_of command c.partitions))

  pub ticks_named : (v : ClientView) → HasClient c v.id → AreAddressed c (client_ticks c v).frames
  unfolding client_ticks
  ticks_named v own = by_asked v.asked
    where
      by_asked : (o : Option Asked) → AreAddressed c (ticks_for c v o).frames
      by_asked None = tt
      by_asked (Some a) = client_if ((a.ticks + 1) % c.resend == 0) (sends_it c v (record a { ticks = a.ticks + 1; tries = a.tries + 1 })) (idles (record v { asked = Some (record a { ticks = a.ticks + 1 }) }))
          (submitted v (record a { ticks = a.ticks + 1; tries = a.tries + 1 }) own) tt

  replied_named : (v : ClientView) (seq : ℕ) (partition : PartitionId) (reply : List ℕ) → AreAddressed c (replied c v seq partition reply).frames
  unfolding replied
  replied_named v seq partition reply = by_asked v.asked
    where
      by_reply : (a : Asked) (p : PartitionTable) (r : Result Reply CodecFault) → AreAddressed c (replied_with c v a p r).frames
      by_reply a p (Err fault) = tt
      by_reply a p (Ok answer) =
          let told : Asked = record a { parts = with_part p.id answer a.parts } in
          client_if (fits p a.command answer) (gathered c v told) (idles v)
          (client_if (have_all (concerned_of told.command c.partitions) told.parts) (answers v told) (idles (record v { asked = Some told })) tt tt) tt

      by_partition : (a : Asked) (o : Option PartitionTable) → AreAddressed c (replied_by c v a o reply).frames
      by_partition a None = tt
      by_partition a (Some p) = client_if (is_concerned a.command p && not (has_part a.parts p.id)) (replied_with c v a p (reply_of reply)) (idles v) (by_reply a p (reply_of reply)) tt

      by_asked : (o : Option Asked) → AreAddressed c (replied_for c v seq partition reply o).frames
      by_asked None = tt
      by_asked (Some a) = client_if (a.seq == seq) (replied_by c v a (partition_at c.partitions partition.0) reply) (idles v) (by_partition a (partition_at c.partitions partition.0)) tt

  pub takes_named : (v : ClientView) (body : Body) → AreAddressed c (client_takes c v body).frames
  unfolding client_takes
  takes_named v (bodies.Reply client seq partition reply) = client_if (client.0 == v.id.0) (replied c v seq partition reply) (idles v) (replied_named v seq partition reply) tt
  takes_named v other = tt
