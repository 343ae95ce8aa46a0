-- What a client sends may stand in a batch.
use Rattle.std.proofs.Common.{◌≡◌, ℕ, ◌+◌, ◌<◌, ◌≤◌, ◌^◌, Bool, true, false, ◌&&◌, List, ◌++◌, length, length-append, map, Option, Some, None, refl, arith}
use Rattle.std.specs.Prelude.{◌==◌, ◌%◌, nat_lt, not, if◌then◌else◌, Result, Ok, Err}
use Rattle.std.specs.List.{AllByRecursion}
use Rattle.std.proofs.lemmas.Bool.Decides.{nat_tests}
use Rattle.mrp_types.specs.declared.id.NodeId.{NodeId}
use Rattle.mrp_types.specs.declared.id.RingId.{RingId}
use Rattle.mrp_types.specs.declared.id.PartitionId.{PartitionId}
use Rattle.mrp_types.specs.Entries.{IsEntry}
use Rattle.mrp_config.specs.declared.tables.PartitionTable.{PartitionTable}
use Rattle.mrp_config.specs.declared.routing.NoGroup.{NoGroup}
use Rattle.mrp_config.specs.Config.{Config, ring_at, partition_at}
use Rattle.mrp_config.specs.Routing.{is_concerned, concerned_of, route_of}
use Rattle.command_codec.specs.declared.command.Command.{Command}
use Rattle.command_codec.specs.declared.reply.Reply.{Reply}
use Rattle.command_codec.specs.declared.fault.CodecFault.{CodecFault}
use Rattle.command_codec.specs.Grammar.{reply_of}
use Rattle.command_codec.specs.Spelling.{command_bytes}
use Rattle.command_codec.specs.Valid.{IsCommand}
use Rattle.command_codec.proofs.Sizes.{short_command}
use Rattle.frames.specs.declared.body.Body.{Body}
use Rattle.frames.specs.declared.body.Body.TheVariants as body
use Rattle.protocol.specs.Client.{Asked, ClientView, ClientEffects, idles, acceptor_at, acceptors_of, submit_to, sends_it, asked_first, asks_on, asks_beside, asks, ticks_for, client_ticks, fits, with_part, has_part, have_all, answers, gathered, replied_with, replied_by, replied_for, replied, client_takes}
use Rattle.step_valid.specs.Valid.{SentValid}
use Rattle.valid_runs.specs.Worlds.{AskedValid, ClientValid, LineFits}

-- what a client makes of an event
pub record ClientEffectsValid (config : Config) (effects : ClientEffects) : Type 0 where
  pub client : ClientValid effects.client
  pub frames : AllByRecursion SentValid effects.frames
  pub lines : AllByRecursion (LineFits config) effects.lines

module _ (config : Config) where
  idles_valid : (c : ClientView) → ClientValid c → ClientEffectsValid config (idles c)
  idles_valid c v = record { client = v; frames = tt; lines = tt }

  sends_valid : (c : ClientView) (a : Asked) → 1 ≤ c.next → IsEntry (record { client = c.id; seq = a.seq; command = command_bytes a.command }) → ClientEffectsValid config (sends_it config c a)
  sends_valid c a numbered is = record { client = record { numbered = numbered; asked = is }; frames = to (acceptor_at a.tries (acceptors_of (ring_at config.rings a.ring.0))); lines = tt }
    where
      to : (o : Option NodeId) → AllByRecursion SentValid (submit_to c a o)
      to None = tt
      to (Some node) = (is, tt)

  pub asks_valid : (c : ClientView) → ClientValid c → (command : Command) → IsCommand command → ClientEffectsValid config (asks config c command)
  unfolding asks
  asks_valid c v command is = beside c.asked
    where
      entry : c.next < 2 ^ 63 → IsEntry (record { client = c.id; seq = c.next; command = command_bytes command })
      entry lt = record { asked = v.numbered; numbered = lt; short = short_command command is }

      by_test : (ring : RingId) (b : Bool) → nat_lt c.next (2 ^ 63) ≡ b
          → ClientEffectsValid config (if b then sends_it config (record c { next = c.next + 1 }) (asked_first c.next command ring) else idles c)
      by_test ring false e = idles_valid c v
      by_test ring true e =
          let lt : c.next < 2 ^ 63 = grind (arith, nat_tests) in
          let first = v.numbered in
          sends_valid (record c { next = c.next + 1 }) (asked_first c.next command ring) (omega arith) (entry lt)

      on : (r : Result RingId NoGroup) → ClientEffectsValid config (asks_on config c command r)
      on (Err none) = idles_valid c v
      on (Ok ring) = by_test ring (nat_lt c.next (2 ^ 63)) refl

      beside : (o : Option Asked) → ClientEffectsValid config (asks_beside config c command o)
      beside (Some a) = record { client = v; frames = tt; lines = (tt, tt) }
      beside None = on (route_of (concerned_of command config.partitions))

  pub ticks_valid : (c : ClientView) → ClientValid c → ClientEffectsValid config (client_ticks config c)
  unfolding client_ticks
  ticks_valid c v = at c.asked v.asked
    where
      at : (o : Option Asked) → AskedValid c.id o → ClientEffectsValid config (ticks_for config c o)
      at None is = idles_valid c v
      at (Some a) is = go ((a.ticks + 1) % config.resend == 0)
        where
          go : (b : Bool)
              → ClientEffectsValid config (if b then sends_it config c (record a { ticks = a.ticks + 1; tries = a.tries + 1 }) else idles (record c { asked = Some (record a { ticks = a.ticks + 1 }) }))
          go true = sends_valid c (record a { ticks = a.ticks + 1; tries = a.tries + 1 }) v.numbered (record { asked = is.asked; numbered = is.numbered; short = is.short })
          go false = idles_valid (record c { asked = Some (record a { ticks = a.ticks + 1 }) }) (record { numbered = v.numbered; asked = record { asked = is.asked; numbered = is.numbered; short = is.short } })

  replied_valid : (c : ClientView) → ClientValid c → (seq : ℕ) (partition : PartitionId) (reply : List ℕ) → ClientEffectsValid config (replied config c seq partition reply)
  unfolding replied
  replied_valid c v seq partition reply = at c.asked v.asked
    where
      done : (a : Asked) → AskedValid c.id (Some a) → ClientEffectsValid config (gathered config c a)
      done a is = go (have_all (concerned_of a.command config.partitions) a.parts)
        where
          go : (b : Bool) → ClientEffectsValid config (if b then answers c a else idles (record c { asked = Some a }))
          go true = record { client = record { numbered = v.numbered; asked = tt }; frames = tt; lines = (tt, tt) }
          go false = idles_valid (record c { asked = Some a }) (record { numbered = v.numbered; asked = is })

      with_reply : (a : Asked) → AskedValid c.id (Some a) → (p : PartitionTable) (r : Result Reply CodecFault) → ClientEffectsValid config (replied_with config c a p r)
      with_reply a is p (Err fault) = idles_valid c v
      with_reply a is p (Ok r) = go (fits p a.command r)
        where
          go : (b : Bool) → ClientEffectsValid config (if b then gathered config c (record a { parts = with_part p.id r a.parts }) else idles c)
          go false = idles_valid c v
          go true = done (record a { parts = with_part p.id r a.parts }) (record { asked = is.asked; numbered = is.numbered; short = is.short })

      by : (a : Asked) → AskedValid c.id (Some a) → (o : Option PartitionTable) → ClientEffectsValid config (replied_by config c a o reply)
      by a is None = idles_valid c v
      by a is (Some p) = go (is_concerned a.command p && not (has_part a.parts p.id))
        where
          go : (b : Bool) → ClientEffectsValid config (if b then replied_with config c a p (reply_of reply) else idles c)
          go true = with_reply a is p (reply_of reply)
          go false = idles_valid c v

      at : (o : Option Asked) → AskedValid c.id o → ClientEffectsValid config (replied_for config c seq partition reply o)
      at None is = idles_valid c v
      at (Some a) is = go (a.seq == seq)
        where
          go : (b : Bool) → ClientEffectsValid config (if b then replied_by config c a (partition_at config.partitions partition.0) reply else idles c)
          go true = by a is (partition_at config.partitions partition.0)
          go false = idles_valid c v

  pub takes_valid : (c : ClientView) → ClientValid c → (b : Body) → ClientEffectsValid config (client_takes config c b)
  unfolding client_takes
  takes_valid c v (body.Reply client seq partition reply) = go (client.0 == c.id.0)
    where
      go : (b : Bool) → ClientEffectsValid config (if b then replied config c seq partition reply else idles c)
      go true = replied_valid c v seq partition reply
      go false = idles_valid c v
  takes_valid c v other = idles_valid c v
