-- What a client prints is of no node's life, and what it sends says nothing of tuples.
use Rattle.command_codec.specs.Grammar.{reply_of}
use Rattle.mrp_config.specs.Routing.{concerned_of, is_concerned, route_of}
use Rattle.command_codec.specs.declared.reply.Reply.{Reply}
use Rattle.mrp_config.specs.declared.routing.NoGroup.{NoGroup}
use Rattle.command_codec.specs.declared.command.Command.{Command}
use Rattle.command_codec.specs.declared.fault.CodecFault.{CodecFault}
use Rattle.std.proofs.Common.{ℕ, Bool, true, false, List, Option, Some, None, refl}
use Rattle.std.specs.Prelude.{◌==◌, nat_lt, ◌&&◌, not, if◌then◌else◌, Result, Ok, Err, ◌%◌, ◌+◌, ◌^◌}
use Rattle.std.specs.List.{AllByRecursion}
use Rattle.mrp_types.specs.declared.id.NodeId.{NodeId}
use Rattle.mrp_types.specs.declared.id.RingId.{RingId}
use Rattle.mrp_types.specs.declared.id.PartitionId.{PartitionId}
use Rattle.mrp_config.specs.Config.{Config, partition_at}
use Rattle.mrp_config.specs.declared.tables.PartitionTable.{PartitionTable}
use Rattle.frames.specs.declared.body.Body.{Body}
use Rattle.frames.specs.declared.body.Body.TheVariants as bodies
use Rattle.protocol.specs.Lines.{Line}
use Rattle.protocol.specs.Client.{with_part, have_all, asked_first, Asked, ClientView, ClientEffects, idles, submit_to, sends_it, asks_on, asks_beside, asks, ticks_for, client_ticks, answers, gathered, replied_with, replied_by, replied_for, replied, client_takes, fits, has_part}
use Rattle.recovery_lines.specs.Ties.{IsSaid}
use Rattle.recovery_lines.proofs.Merging.{IsStill}

pub record IsQuiet (c : Config) (effects : ClientEffects) : Type 0 where
  pub still : AllByRecursion (IsStill c) effects.lines
  pub said : (lines : List Line) → AllByRecursion (IsSaid c lines) effects.frames

module _ (c : Config) where
  quiet_idles : (v : ClientView) → IsQuiet c (idles v)
  quiet_idles v = record { still = tt; said = λ ls. tt }

  quiet_if : (b : Bool) (x y : ClientEffects) → IsQuiet c x → IsQuiet c y → IsQuiet c (if b then x else y)
  quiet_if true x y p q = p
  quiet_if false x y p q = q

  quiet_sends : (v : ClientView) (a : Asked) → IsQuiet c (sends_it c v a)
  quiet_sends v a = record { still = tt; said = λ ls. go ls _ }
    where
      go : (ls : List Line) (o : Option NodeId) → AllByRecursion (IsSaid c ls) (submit_to v a o)
      go ls None = tt
      go ls (Some node) = (tt, tt)

  pub quiet_asks : (v : ClientView) (command : Command) → IsQuiet c (asks c v command)
  unfolding asks
  quiet_asks v command = by_asked v.asked
    where
      by_route : (r : Result RingId NoGroup) → IsQuiet c (asks_on c v command r)
      by_route (Err none) = quiet_idles v
      by_route (Ok ring) = quiet_if (nat_lt v.next (2 ^ 63)) (sends_it c (record v { next = v.next + 1 }) (asked_first v.next command ring)) (idles v)
          (quiet_sends (record v { next = v.next + 1 }) (asked_first v.next command ring)) (quiet_idles v)

      by_asked : (o : Option Asked) → IsQuiet c (asks_beside c v command o)
      by_asked (Some a) = record { still = ((λ x. refl, λ before. tt), tt); said = λ ls. tt }
      by_asked None = by_route (route_of (concerned_of command c.partitions))

  pub quiet_ticks : (v : ClientView) → IsQuiet c (client_ticks c v)
  unfolding client_ticks
  quiet_ticks v = by_asked v.asked
    where
      by_asked : (o : Option Asked) → IsQuiet c (ticks_for c v o)
      by_asked None = quiet_idles v
      by_asked (Some a) = quiet_if ((a.ticks + 1) % c.resend == 0) (sends_it c v (record a { ticks = a.ticks + 1; tries = a.tries + 1 })) (idles (record v { asked = Some (record a { ticks = a.ticks + 1 }) }))
          (quiet_sends v (record a { ticks = a.ticks + 1; tries = a.tries + 1 })) (quiet_idles (record v { asked = Some (record a { ticks = a.ticks + 1 }) }))

  quiet_replied : (v : ClientView) (seq : ℕ) (partition : PartitionId) (reply : List ℕ) → IsQuiet c (replied c v seq partition reply)
  unfolding replied
  quiet_replied v seq partition reply = by_asked v.asked
    where
      by_all : (a : Asked) (b : Bool) → IsQuiet c (if b then answers v a else idles (record v { asked = Some a }))
      by_all a true = record { still = ((λ x. refl, λ before. tt), tt); said = λ ls. tt }
      by_all a false = quiet_idles (record v { asked = Some a })

      by_reply : (a : Asked) (p : PartitionTable) (r : Result Reply CodecFault) → IsQuiet c (replied_with c v a p r)
      by_reply a p (Err fault) = quiet_idles v
      by_reply a p (Ok reply) = quiet_if (fits p a.command reply) (gathered c v (record a { parts = with_part p.id reply a.parts })) (idles v)
          (by_all (record a { parts = with_part p.id reply a.parts }) (have_all (concerned_of a.command c.partitions) (with_part p.id reply a.parts))) (quiet_idles v)

      by_partition : (a : Asked) (o : Option PartitionTable) → IsQuiet c (replied_by c v a o reply)
      by_partition a None = quiet_idles v
      by_partition a (Some p) = quiet_if (is_concerned a.command p && not (has_part a.parts p.id)) (replied_with c v a p (reply_of reply)) (idles v) (by_reply a p (reply_of reply)) (quiet_idles v)

      by_asked : (o : Option Asked) → IsQuiet c (replied_for c v seq partition reply o)
      by_asked None = quiet_idles v
      by_asked (Some a) = quiet_if (a.seq == seq) (replied_by c v a (partition_at c.partitions partition.0) reply) (idles v) (by_partition a (partition_at c.partitions partition.0)) (quiet_idles v)

  pub quiet_takes : (v : ClientView) (body : Body) → IsQuiet c (client_takes c v body)
  unfolding client_takes
  quiet_takes v (bodies.Reply client seq partition reply) = quiet_if (client.0 == v.id.0) (replied c v seq partition reply) (idles v) (quiet_replied v seq partition reply) (quiet_idles v)
  quiet_takes v other = quiet_idles v
