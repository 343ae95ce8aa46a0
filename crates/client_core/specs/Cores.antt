-- What a core keeps of its client.
use Rattle.std.specs.Prelude.{ℕ, ◌≤◌, ◌<◌, ◌^◌, List, [], ◌∷◌, length, Option, Some, None}
use Rattle.std.specs.Option.{option_map}
use Rattle.mrp_types.specs.declared.id.ClientId.{ClientId}
use Rattle.command_codec.specs.Valid.{IsCommand}
use Rattle.mrp_config.specs.Config.{Config, ring_at}
use Rattle.mrp_config.specs.Valid.{IsValid}
use Rattle.protocol.specs.Client.{Asked, acceptors_of}
use Rattle.protocol.specs.Lines.{Line, Answer}
use Rattle.client_core.specs.declared.waiting.Waiting.{Waiting}
use Rattle.client_core.specs.Clients.{Core}
use Rattle.client_core.specs.Counted.{ArePartsOf}

-- a command without its answer, as the protocol has it
abbrev pub asked_of : Waiting → Asked
asked_of w = record { seq = w.seq; command = w.command; ring = w.ring; ticks = w.ticks; tries = w.turn; parts = w.parts }

abbrev pub core_of : Config → ClientId → ℕ → Option Waiting → Core
core_of config id next waiting = record { config = config; client = record { id = id; next = next; asked = option_map asked_of waiting } }

pub record IsAskedIn (config : Config) (a : Asked) : Type 0 where
  pub first : 1 ≤ a.seq
  pub last : a.seq < 2 ^ 63
  pub command : IsCommand a.command
  pub ticks : a.ticks < config.resend
  pub tries : a.tries < length (acceptors_of (ring_at config.rings a.ring.0))
  pub parts : ArePartsOf a.command config.partitions a.parts

abbrev pub IsAskedOrNone : Config → Option Asked → Type 0
IsAskedOrNone config None = Unit {0}
IsAskedOrNone config (Some a) = IsAskedIn config a

pub record IsCore (core : Core) : Type 0 where
  pub valid : IsValid core.config
  pub first : 1 ≤ core.client.next
  pub last : core.client.next ≤ 2 ^ 63
  pub asked : IsAskedOrNone core.config core.client.asked

-- what is still waited for after a reply, by the written answer that it made
abbrev pub left_by : Option (List ℕ) → Waiting → Option Waiting
left_by None w = Some w
left_by (Some bytes) w = None

-- the line of an answer
abbrev pub line_of : ClientId → ℕ → Option (List ℕ) → List Line
line_of id seq None = []
line_of id seq (Some bytes) = Answer id seq bytes ∷ []
