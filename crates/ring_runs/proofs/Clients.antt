-- What clients send and print says nothing of a ring.
use Rattle.std.proofs.Common.{ℕ, ◌+◌, ◌%◌, ◌^◌, Bool, true, false, List, Option, Some, None, Result, Ok, Err}
use Rattle.std.specs.Prelude.{◌==◌, nat_lt, not, ◌&&◌, if◌then◌else◌}
use Rattle.std.specs.List.{AllByRecursion}
use Rattle.mrp_types.specs.declared.id.NodeId.{NodeId}
use Rattle.mrp_types.specs.declared.id.RingId.{RingId}
use Rattle.mrp_types.specs.declared.id.PartitionId.{PartitionId}
use Rattle.mrp_types.specs.declared.value.Value.{Value}
use Rattle.command_codec.specs.declared.command.Command.{Command}
use Rattle.command_codec.specs.declared.reply.Reply.{Reply}
use Rattle.command_codec.specs.declared.fault.CodecFault.{CodecFault}
use Rattle.command_codec.specs.Grammar.{reply_of}
use Rattle.mrp_config.specs.Config.{Config, ring_at, partition_at}
use Rattle.mrp_config.specs.Routing.{is_concerned, concerned_of, route_of}
use Rattle.mrp_config.specs.declared.routing.NoGroup.{NoGroup}
use Rattle.mrp_config.specs.declared.tables.PartitionTable.{PartitionTable}
use Rattle.frames.specs.declared.body.Body.{Body}
use Rattle.frames.specs.declared.body.Body.TheVariants as bodies
use Rattle.ring_safety.specs.Faces.{Face}
use Rattle.protocol.specs.Parts.{Ring}
use Rattle.protocol.specs.Client.{Asked, ClientView, ClientEffects, asks, asks_on, asks_beside, client_ticks, ticked, ticks_for, client_takes, replied, replied_for, replied_by, replied_with, gathered, answers, idles, sends_it, submit_to, submits, acceptor_at, acceptors_of, asked_first, has_part, with_part, have_all, fits}
use Rattle.ring_tables.specs.Ties.{IsSaid, IsTold}

-- frames of clients, and lines that tell of no learning
pub record IsQuiet (ring : Ring) (now : ℕ → Face Value) (effects : ClientEffects) : Type 0 where
  pub frames : AllByRecursion (IsSaid ring now) effects.frames
  pub lines : AllByRecursion (IsTold ring now) effects.lines

module _ (ring : Ring) (now : ℕ → Face Value) (config : Config) where
  submits_said : (c : ClientView) (a : Asked) → AllByRecursion (IsSaid ring now) (submits config c a)
  submits_said c a = go (acceptor_at a.tries (acceptors_of (ring_at config.rings a.ring.0)))
    where
      go : (o : Option NodeId) → AllByRecursion (IsSaid ring now) (submit_to c a o)
      go None = tt
      go (Some node) = (tt, tt)

  idle : (c : ClientView) → IsQuiet ring now (idles c)
  idle c = record { frames = tt; lines = tt }

  sent : (c : ClientView) (a : Asked) → IsQuiet ring now (sends_it config c a)
  sent c a = record { frames = submits_said c a; lines = tt }

  pub asks_quiet : (c : ClientView) (command : Command) → IsQuiet ring now (asks config c command)
  unfolding asks
  asks_quiet c command = go c.asked
    where
      on : (route : Result RingId NoGroup) → IsQuiet ring now (asks_on config c command route)
      on (Err none) = idle c
      on (Ok r) = test (nat_lt c.next (2 ^ 63))
        where
          test : (b : Bool) → IsQuiet ring now (if b then sends_it config (record c { next = c.next + 1 }) (asked_first c.next command r) else idles c)
          test true = sent (record c { next = c.next + 1 }) (asked_first c.next command r)
          test false = idle c

      go : (o : Option Asked) → IsQuiet ring now (asks_beside config c command o)
      go (Some a) = record { frames = tt; lines = (tt, tt) }
      go None = on (route_of (concerned_of command config.partitions))

  pub ticks_quiet : (c : ClientView) → IsQuiet ring now (client_ticks config c)
  unfolding client_ticks
  ticks_quiet c = go c.asked
    where
      tick : (a : Asked) → IsQuiet ring now (ticked config c a)
      tick a = test (a.ticks % config.resend == 0)
        where
          test : (b : Bool) → IsQuiet ring now (if b then sends_it config c (record a { tries = a.tries + 1 }) else idles (record c { asked = Some a }))
          test true = sent c (record a { tries = a.tries + 1 })
          test false = idle (record c { asked = Some a })

      go : (o : Option Asked) → IsQuiet ring now (ticks_for config c o)
      go None = idle c
      go (Some a) = tick (record a { ticks = a.ticks + 1 })

  gather : (c : ClientView) (a : Asked) → IsQuiet ring now (gathered config c a)
  gather c a = test (have_all (concerned_of a.command config.partitions) a.parts)
    where
      test : (b : Bool) → IsQuiet ring now (if b then answers c a else idles (record c { asked = Some a }))
      test true = record { frames = tt; lines = (tt, tt) }
      test false = idle (record c { asked = Some a })

  with_reply : (c : ClientView) (a : Asked) (p : PartitionTable) (r : Result Reply CodecFault) → IsQuiet ring now (replied_with config c a p r)
  with_reply c a p (Err fault) = idle c
  with_reply c a p (Ok reply) = test (fits p a.command reply)
    where
      test : (b : Bool) → IsQuiet ring now (if b then gathered config c (record a { parts = with_part p.id reply a.parts }) else idles c)
      test true = gather c (record a { parts = with_part p.id reply a.parts })
      test false = idle c

  by_partition : (c : ClientView) (a : Asked) (o : Option PartitionTable) (reply : List ℕ) → IsQuiet ring now (replied_by config c a o reply)
  by_partition c a None reply = idle c
  by_partition c a (Some p) reply = test (is_concerned a.command p && not (has_part a.parts p.id))
    where
      test : (b : Bool) → IsQuiet ring now (if b then replied_with config c a p (reply_of reply) else idles c)
      test true = with_reply c a p (reply_of reply)
      test false = idle c

  replied_quiet : (c : ClientView) (seq : ℕ) (partition : PartitionId) (reply : List ℕ) → IsQuiet ring now (replied config c seq partition reply)
  unfolding replied
  replied_quiet c seq partition reply = go c.asked
    where
      go : (o : Option Asked) → IsQuiet ring now (replied_for config c seq partition reply o)
      go None = idle c
      go (Some a) = test (a.seq == seq)
        where
          test : (b : Bool) → IsQuiet ring now (if b then replied_by config c a (partition_at config.partitions partition.0) reply else idles c)
          test true = by_partition c a (partition_at config.partitions partition.0) reply
          test false = idle c

  pub takes_quiet : (c : ClientView) (b : Body) → IsQuiet ring now (client_takes config c b)
  unfolding client_takes
  takes_quiet c (bodies.Reply client seq partition reply) = test (client.0 == c.id.0)
    where
      test : (t : Bool) → IsQuiet ring now (if t then replied config c seq partition reply else idles c)
      test true = replied_quiet c seq partition reply
      test false = idle c
  takes_quiet c other = idle c
