-- A client's core as its callers see it, and the clients of the protocol that it stands for.
use Rattle.std.specs.Prelude.{ℕ, ◌≡◌, ◌%◌, ◌^◌, ◌==◌, nat_lt, ◌&&◌, not, if◌then◌else◌, List, length, Option, Some, None, Result, Ok, Err}
use Rattle.std.specs.Option.{option_map}
use Rattle.mrp_types.specs.declared.id.RingId.{RingId}
use Rattle.mrp_types.specs.declared.id.PartitionId.{PartitionId}
use Rattle.command_codec.specs.declared.command.Command.{Command}
use Rattle.command_codec.specs.declared.fault.CodecFault.{CodecFault}
use Rattle.command_codec.specs.declared.reply.Reply.{Reply}
use Rattle.command_codec.specs.Grammar.{reply_of}
use Rattle.mrp_config.specs.declared.routing.NoGroup.{NoGroup}
use Rattle.mrp_config.specs.declared.tables.PartitionTable.{PartitionTable}
use Rattle.mrp_config.specs.Config.{Config, ring_at, partition_at}
use Rattle.mrp_config.specs.Routing.{is_concerned, concerned_of, route_of}
use Rattle.protocol.specs.Client.{Asked, ClientView, acceptors_of, has_part}

-- a client's core: its deployment, and the client
pub record Core : Type 0 where
  pub config : Config
  pub client : ClientView

-- Of the ticks and of the tries a core keeps only what is left of them: by the ticks between two sendings, and by the acceptors
-- of the ring.
abbrev pub reduced : Config → Asked → Asked
reduced config a = record a {
  ticks = a.ticks % config.resend;
  tries = a.tries % length (acceptors_of (ring_at config.rings a.ring.0));
}

-- whether the core stands for a client of the protocol
abbrev pub StandsFor : Core → ClientView → Type 0
StandsFor core c = core.client ≡ record c { asked = option_map (reduced core.config) c.asked }

-- ---- asking

-- why a command is not asked: the client waits, no ring orders it, its number would be 2 ^ 63; None where it may be asked
pub data Cause : Type 0 where
  IsBusy : (seq : ℕ) → Cause
  HasNoGroup : Cause
  IsLast : Cause

abbrev pub cause_by_number : ℕ → Result RingId NoGroup → Option Cause
cause_by_number next (Err none) = Some HasNoGroup
cause_by_number next (Ok ring) = if nat_lt next (2 ^ 63) then None else Some IsLast

abbrev pub cause_in : Core → Command → Option Asked → Option Cause
cause_in core command (Some a) = Some (IsBusy a.seq)
cause_in core command None = cause_by_number core.client.next (route_of (concerned_of command core.config.partitions))

-- the first cause that there is
abbrev pub cause_of : Core → Command → Option Cause
cause_of core command = cause_in core command core.client.asked

-- ---- replies

-- the fault of a reply, of a partition whose reply counts
abbrev pub fault_in : Result Reply CodecFault → Option CodecFault
fault_in (Ok reply) = None
fault_in (Err fault) = Some fault

abbrev pub fault_by : Asked → List ℕ → Option PartitionTable → Option CodecFault
fault_by a reply None = None
fault_by a reply (Some p) = if is_concerned a.command p && not (has_part a.parts p.id) then fault_in (reply_of reply) else None

abbrev pub fault_for : Config → ℕ → PartitionId → List ℕ → Option Asked → Option CodecFault
fault_for config seq partition reply None = None
fault_for config seq partition reply (Some a) = if a.seq == seq then fault_by a reply (partition_at config.partitions partition.0) else None

-- The fault of the bytes of a reply that is waited for: to the number that is outstanding, of a concerned partition that hasn't
-- replied. Any other reply is dropped unread.
abbrev pub fault_of : Core → ℕ → PartitionId → List ℕ → Option CodecFault
fault_of core seq partition reply = fault_for core.config seq partition reply core.client.asked
