-- Clients take commands under numbers that rise, and send them alone.
use Rattle.std.proofs.Common.{◌≡◌, ◌<◌, ◌≤◌, ℕ, ◌+◌, ◌%◌, ◌^◌, Bool, true, false, ◌&&◌, Option, Some, None, Result, Ok, Err, refl, sym, subst}
use Rattle.std.specs.Prelude.{◌==◌, not, if◌then◌else◌}
use Rattle.std.specs.List.{AllByRecursion}
use Rattle.mrp_types.specs.declared.id.ClientId.{ClientId}
use Rattle.mrp_types.specs.declared.id.NodeId.{NodeId}
use Rattle.mrp_types.specs.declared.value.Entry.{Entry}
use Rattle.command_codec.specs.declared.command.Command.{Command}
use Rattle.command_codec.specs.declared.fault.CodecFault.{CodecFault}
use Rattle.command_codec.specs.declared.reply.Reply.{Reply}
use Rattle.command_codec.specs.Grammar.{reply_of}
use Rattle.command_codec.specs.Spelling.{command_bytes}
use Rattle.mrp_config.specs.declared.tables.PartitionTable.{PartitionTable}
use Rattle.mrp_config.specs.Valid.{IsValid}
use Rattle.mrp_config.specs.Config.{Config, ring_at, partition_at}
use Rattle.mrp_config.specs.Routing.{concerned_of, route_of, is_concerned}
use Rattle.frames.specs.declared.body.Body.{Body}
use Rattle.frames.specs.declared.body.Body.TheVariants as bodies
use Rattle.protocol.specs.Client.{MayBeAsked, Asked, ClientView, ClientEffects, idles, acceptor_at, acceptors_of, submit_to, submits, sends_it, ticks_for, client_ticks, fits, has_part, with_part, have_all, answers, gathered, replied_with, replied_by, replied_for, replied, client_takes}
use Rattle.bare_world.specs.Runs.{IsClient}
use Rattle.ask_laws.specs.Carried.{LineCarries, SentCarries}
use Rattle.ask_laws.specs.Asks.{or_else, IsAsked, IsTaken, IsAwaited, IsAwaitedOrNone, ClientKeeps}
use Rattle.command_codec.proofs.Sizes.{short_command}

-- ---- what is taken stays taken

pub or_more : (o p : Option Command) (command : Command) → o ≡ Some command → or_else o p ≡ Some command
or_more None p command e = absurd (cc)
or_more (Some x) p command e = e

pub asked_more : (config : Config) (old new : ℕ → ℕ → Option Command) → ((c s : ℕ) (command : Command) → old c s ≡ Some command → new c s ≡ Some command) → (r : ℕ) (e : Entry)
    → IsAsked config old r e → IsAsked config new r e
asked_more config old new more r e is = record {
  command = is.command;
  told = more e.client.0 e.seq is.command is.told;
  spelled = is.spelled;
  route = is.route;
  valid = is.valid;
  client = is.client;
  entry = is.entry;
}

awaited_more : (config : Config) (old new : ℕ → ℕ → Option Command) (c next : ℕ) (o : Option Asked) → ((s : ℕ) (command : Command) → old c s ≡ Some command → new c s ≡ Some command)
    → IsAwaitedOrNone config old c next o → IsAwaitedOrNone config new c next o
awaited_more config old new c next None more is = tt
awaited_more config old new c next (Some a) more is = record { number = is.number; told = more a.seq a.command is.told; route = is.route }

pub keeps_more : (config : Config) (old new : ℕ → ℕ → Option Command) (c : ℕ) (view : ClientView) → ((s : ℕ) (command : Command) → old c s ≡ Some command → new c s ≡ Some command)
    → ClientKeeps config old c view → ClientKeeps config new c view
keeps_more config old new c view more k = record { id = k.id; first = k.first; awaited = awaited_more config old new c view.next view.asked more k.awaited }

-- ---- what a client sends

-- what it makes of an event
pub record EffectsKeep (config : Config) (asked : ℕ → ℕ → Option Command) (c : ℕ) (effects : ClientEffects) : Type 0 where
  pub client : ClientKeeps config asked c effects.client
  pub frames : AllByRecursion (SentCarries (IsAsked config asked) (IsValid config)) effects.frames
  pub lines : AllByRecursion (LineCarries (IsAsked config asked)) effects.lines

module _ (config : Config) (asked : ℕ → ℕ → Option Command) (c : ℕ) where
  -- a command that was taken under its number
  pub record Sends (a : Asked) : Type 0 where
    pub told : asked c a.seq ≡ Some a.command
    pub route : route_of (concerned_of a.command config.partitions) ≡ Ok a.ring
    pub valid : MayBeAsked a.command
    pub client : IsClient config (record { 0 = c })
    pub some : 1 ≤ a.seq
    pub numbered : a.seq < 2 ^ 63

  entry_asked : (a : Asked) → Sends a → IsAsked config asked a.ring.0 (record { client = record { 0 = c }; seq = a.seq; command = command_bytes a.command })
  entry_asked a is = record {
    command = a.command;
    told = is.told;
    spelled = refl;
    route = is.route;
    valid = is.valid;
    client = is.client;
    entry = record { asked = is.some; numbered = is.numbered; short = short_command a.command is.valid.valid };
  }

  pub submits_carry : (view : ClientView) (a : Asked) → view.id ≡ record { 0 = c } → Sends a → AllByRecursion (SentCarries (IsAsked config asked) (IsValid config)) (submits config view a)
  submits_carry view a own is = by (acceptor_at a.tries (acceptors_of (ring_at config.rings a.ring.0)))
    where
      by : (o : Option NodeId) → AllByRecursion (SentCarries (IsAsked config asked) (IsValid config)) (submit_to view a o)
      by None = tt
      by (Some node) = (
        (refl, refl, subst (λ (id : ClientId). IsAsked config asked a.ring.0 (record { client = id; seq = a.seq; command = command_bytes a.command })) (sym own) (entry_asked a is)),
        tt,
      )

  -- ---- ticks and replies, which take nothing

  abbrev pub Taken : ℕ → Type 0
  Taken next = (s : ℕ) (command : Command) → asked c s ≡ Some command → IsTaken config c s next command

  pub record Still (view : ClientView) (effects : ClientEffects) : Type 0 where
    pub next : effects.client.next ≡ view.next
    pub keeps : EffectsKeep config asked c effects

  idle_still : (view : ClientView) → ClientKeeps config asked c view → Still view (idles view)
  idle_still view k = record { next = refl; keeps = record { client = k; frames = tt; lines = tt } }

  -- what it awaits it may send again
  awaited_sends : (next : ℕ) (a : Asked) → Taken next → IsAwaited config asked c next a → Sends a
  awaited_sends next a taken is =
      let t = taken a.seq a.command is.told in
      record { told = is.told; route = is.route; valid = t.valid; client = t.client; some = t.some; numbered = t.numbered }

  pub ticks_still : (view : ClientView) → ClientKeeps config asked c view → Taken view.next → Still view (client_ticks config view)
  unfolding client_ticks
  ticks_still view k taken = by view.asked k.awaited
    where
      by : (o : Option Asked) → IsAwaitedOrNone config asked c view.next o → Still view (ticks_for config view o)
      by None is = idle_still view k
      by (Some a) is = go ((a.ticks + 1) % config.resend == 0)
        where
          waits : ClientKeeps config asked c (record view { asked = Some (record a { ticks = a.ticks + 1 }) })
          waits = record { id = k.id; first = k.first; awaited = record { number = is.number; told = is.told; route = is.route } }

          again : Sends (record a { ticks = a.ticks + 1; tries = a.tries + 1 })
          again = let s = awaited_sends view.next a taken is in record { told = s.told; route = s.route; valid = s.valid; client = s.client; some = s.some; numbered = s.numbered }

          go : (t : Bool) → Still view (if t then sends_it config view (record a { ticks = a.ticks + 1; tries = a.tries + 1 }) else idles (record view { asked = Some (record a { ticks = a.ticks + 1 }) }))
          go true = record {
            next = refl;
            keeps = record {
              client = record { id = k.id; first = k.first; awaited = record { number = is.number; told = is.told; route = is.route } };
              frames = submits_carry view (record a { ticks = a.ticks + 1; tries = a.tries + 1 }) k.id again;
              lines = tt;
            };
          }
          go false = record { next = refl; keeps = record { client = waits; frames = tt; lines = tt } }

  pub takes_still : (view : ClientView) (b : Body) → ClientKeeps config asked c view → Still view (client_takes config view b)
  unfolding client_takes replied
  takes_still view (bodies.Reply client seq partition reply) k = by (client.0 == view.id.0)
    where
      gathers : (a : Asked) → IsAwaited config asked c view.next a → Still view (gathered config view a)
      gathers a is = go (have_all (concerned_of a.command config.partitions) a.parts)
        where
          go : (t : Bool) → Still view (if t then answers view a else idles (record view { asked = Some a }))
          go true = record { next = refl; keeps = record { client = record { id = k.id; first = k.first; awaited = tt }; frames = tt; lines = (tt, tt) } }
          go false = record { next = refl; keeps = record { client = record { id = k.id; first = k.first; awaited = is }; frames = tt; lines = tt } }

      by_reply : (a : Asked) (p : PartitionTable) → IsAwaited config asked c view.next a → (r : Result Reply CodecFault) → Still view (replied_with config view a p r)
      by_reply a p is (Err fault) = idle_still view k
      by_reply a p is (Ok told) = go (fits p a.command told)
        where
          go : (t : Bool) → Still view (if t then gathered config view (record a { parts = with_part p.id told a.parts }) else idles view)
          go true = gathers (record a { parts = with_part p.id told a.parts }) (record { number = is.number; told = is.told; route = is.route })
          go false = idle_still view k

      by_partition : (a : Asked) → IsAwaited config asked c view.next a → (o : Option PartitionTable) → Still view (replied_by config view a o reply)
      by_partition a is None = idle_still view k
      by_partition a is (Some p) = go (is_concerned a.command p && not (has_part a.parts p.id))
        where
          go : (t : Bool) → Still view (if t then replied_with config view a p (reply_of reply) else idles view)
          go true = by_reply a p is (reply_of reply)
          go false = idle_still view k

      by_asked : (o : Option Asked) → IsAwaitedOrNone config asked c view.next o → Still view (replied_for config view seq partition reply o)
      by_asked None is = idle_still view k
      by_asked (Some a) is = go (a.seq == seq)
        where
          go : (t : Bool) → Still view (if t then replied_by config view a (partition_at config.partitions partition.0) reply else idles view)
          go true = by_partition a is (partition_at config.partitions partition.0)
          go false = idle_still view k

      by : (t : Bool) → Still view (if t then replied_for config view seq partition reply view.asked else idles view)
      by true = by_asked view.asked k.awaited
      by false = idle_still view k
  takes_still view other k = idle_still view k
