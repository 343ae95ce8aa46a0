-- What a client prints says of no node that it went down.
use Rattle.std.proofs.Common.{ℕ, ◌==◌, ◌%◌, ◌+◌, ◌^◌, nat_lt, Bool, true, false, ◌&&◌, List, Option, Some, None, Result, Ok, Err}
use Rattle.std.specs.Prelude.{not, if◌then◌else◌}
use Rattle.mrp_types.specs.declared.id.PartitionId.{PartitionId}
use Rattle.mrp_types.specs.declared.id.RingId.{RingId}
use Rattle.mrp_config.specs.Config.{Config, partition_at}
use Rattle.mrp_config.specs.Routing.{concerned_of, is_concerned, route_of}
use Rattle.mrp_config.specs.declared.routing.NoGroup.{NoGroup}
use Rattle.mrp_config.specs.declared.tables.PartitionTable.{PartitionTable}
use Rattle.command_codec.specs.declared.command.Command.{Command}
use Rattle.command_codec.specs.declared.fault.CodecFault.{CodecFault}
use Rattle.command_codec.specs.declared.reply.Reply.{Reply}
use Rattle.command_codec.specs.Grammar.{reply_of}
use Rattle.frames.specs.declared.body.Body.{Body}
use Rattle.frames.specs.declared.body.Body.TheVariants as bodies
use Rattle.protocol.specs.Client.{ClientView, ClientEffects, Asked, idles, asks_on, asks_beside, asks, ticked, ticks_for, client_ticks, gathered, replied_with, replied_by, replied_for, replied, client_takes, fits, has_part, have_all, with_part, sends_it, answers, asked_first}
use Rattle.disk_faults.proofs.Quiet.{Quiet}

either_of : (b : Bool) (x y : ClientEffects) → Quiet x.lines → Quiet y.lines → Quiet (if b then x else y).lines
either_of true x y p q = p
either_of false x y p q = q

module _ (config : Config) where
  asks_on_quiet : (c : ClientView) (command : Command) (r : Result RingId NoGroup) → Quiet (asks_on config c command r).lines
  asks_on_quiet c command (Err none) = tt
  asks_on_quiet c command (Ok ring) = either_of (nat_lt c.next (2 ^ 63)) (sends_it config (record c { next = c.next + 1 }) (asked_first c.next command ring)) (idles c) tt tt

  pub asks_quiet : (c : ClientView) (command : Command) → Quiet (asks config c command).lines
  unfolding asks
  asks_quiet c command = by c.asked
    where
      by : (o : Option Asked) → Quiet (asks_beside config c command o).lines
      by (Some a) = (tt, tt)
      by None = asks_on_quiet c command (route_of (concerned_of command config.partitions))

  pub client_ticks_quiet : (c : ClientView) → Quiet (client_ticks config c).lines
  unfolding client_ticks
  client_ticks_quiet c = by c.asked
    where
      by : (o : Option Asked) → Quiet (ticks_for config c o).lines
      by None = tt
      by (Some a) = sent_again (record a { ticks = a.ticks + 1 })
        where
          sent_again : (a : Asked) → Quiet (ticked config c a).lines
          sent_again a = either_of (a.ticks % config.resend == 0) (sends_it config c (record a { tries = a.tries + 1 })) (idles (record c { asked = Some a })) tt tt

  gathered_quiet : (c : ClientView) (a : Asked) → Quiet (gathered config c a).lines
  gathered_quiet c a = either_of (have_all (concerned_of a.command config.partitions) a.parts) (answers c a) (idles (record c { asked = Some a })) (tt, tt) tt

  with_reply : (c : ClientView) (a : Asked) (p : PartitionTable) (r : Result Reply CodecFault) → Quiet (replied_with config c a p r).lines
  with_reply c a p (Err fault) = tt
  with_reply c a p (Ok reply) = either_of (fits p a.command reply) (gathered config c (record a { parts = with_part p.id reply a.parts })) (idles c) (gathered_quiet c (record a { parts = with_part p.id reply a.parts })) tt

  by_partition : (c : ClientView) (a : Asked) (o : Option PartitionTable) (reply : List ℕ) → Quiet (replied_by config c a o reply).lines
  by_partition c a None reply = tt
  by_partition c a (Some p) reply = either_of (is_concerned a.command p && not (has_part a.parts p.id)) (replied_with config c a p (reply_of reply)) (idles c) (with_reply c a p (reply_of reply)) tt

  replied_quiet : (c : ClientView) (seq : ℕ) (partition : PartitionId) (reply : List ℕ) → Quiet (replied config c seq partition reply).lines
  unfolding replied
  replied_quiet c seq partition reply = by c.asked
    where
      by : (o : Option Asked) → Quiet (replied_for config c seq partition reply o).lines
      by None = tt
      by (Some a) = either_of (a.seq == seq) (replied_by config c a (partition_at config.partitions partition.0) reply) (idles c) (by_partition c a (partition_at config.partitions partition.0) reply) tt

  pub client_takes_quiet : (c : ClientView) (body : Body) → Quiet (client_takes config c body).lines
  unfolding client_takes
  client_takes_quiet c (bodies.Reply of seq partition reply) = either_of (of.0 == c.id.0) (replied config c seq partition reply) (idles c) (replied_quiet c seq partition reply) tt
  client_takes_quiet c other = tt
