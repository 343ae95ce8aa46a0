-- What clients were told to ask in a run, and which entries were asked.
use Rattle.std.specs.Prelude.{◌++◌, ◌≡◌, ◌<◌, ◌≤◌, ◌+◌, ◌^◌, ℕ, ◌==◌, nat_lt, ◌&&◌, Bool, true, false, if◌then◌else◌, List, [], ◌∷◌, Option, Some, None, Result, Ok, Err}
use Rattle.mrp_types.specs.declared.id.RingId.{RingId}
use Rattle.mrp_types.specs.declared.value.Entry.{Entry}
use Rattle.mrp_types.specs.Entries.{IsEntry}
use Rattle.command_codec.specs.declared.command.Command.{Command}
use Rattle.command_codec.specs.Spelling.{command_bytes}
use Rattle.mrp_config.specs.declared.routing.NoGroup.{NoGroup}
use Rattle.mrp_config.specs.Config.{Config}
use Rattle.mrp_config.specs.Routing.{concerned_of, route_of}
use Rattle.protocol.specs.Client.{Asked, ClientView, MayBeAsked}
use Rattle.bare_world.specs.Worlds.{World, Happening, Asks, happens, nothing}
use Rattle.bare_world.specs.Runs.{IsClient, run}

-- ---- what was asked in a run

abbrev pub is_free : Option Asked → Bool
is_free None = true
is_free (Some a) = false

abbrev pub is_ordered : Result RingId NoGroup → Bool
is_ordered (Ok ring) = true
is_ordered (Err none) = false

-- A client that waits for no answer takes a command that a ring orders, while its numbers are below 2 ^ 63.
abbrev pub takes : Config → ClientView → Command → Bool
takes config c command = is_free c.asked && (is_ordered (route_of (concerned_of command config.partitions)) && nat_lt c.next (2 ^ 63))

-- the first of the two that is there
abbrev pub or_else : Option Command → Option Command → Option Command
or_else None later = later
or_else (Some command) later = Some command

-- By client and number, what each client was told to ask and took under this number; one happening more.
abbrev pub asked_with : Config → World → Happening → (ℕ → ℕ → Option Command) → ℕ → ℕ → Option Command
asked_with config w (Asks id command) asked =
    λ c s. or_else (asked c s) (if (id.0 == c) && (((w.clients id.0).next == s) && takes config (w.clients id.0) command) then Some command else None)
asked_with config w other asked = asked

abbrev pub asked_after : Config → List Happening → World → (ℕ → ℕ → Option Command) → ℕ → ℕ → Option Command
asked_after config [] w asked = asked
asked_after config (h ∷ hs) w asked = asked_after config hs (happens config h w) (asked_with config w h asked)

-- in a run from nothing
abbrev pub asked_in : Config → List Happening → ℕ → ℕ → Option Command
asked_in config hs = asked_after config hs nothing (λ c s. None)

-- At some time in the run the client was told to ask this command; it waited for no answer then, and this was its next number.
pub record WasTold (config : Config) (hs : List Happening) (w : World) (c s : ℕ) (command : Command) : Type 0 where
  pub before : List Happening
  pub after : List Happening
  pub parts : hs ≡ before ++ Asks (record { 0 = c }) command ∷ after
  pub free : ((run config before w).clients c).asked ≡ None
  pub number : ((run config before w).clients c).next ≡ s

-- ---- entries

-- The entry has the very command that its client, one of the deployment, took under this number, and the ring orders it.
pub record IsAsked (config : Config) (asked : ℕ → ℕ → Option Command) (ring : ℕ) (e : Entry) : Type 0 where
  pub command : Command
  pub told : asked e.client.0 e.seq ≡ Some command
  pub spelled : e.command ≡ command_bytes command
  pub route : route_of (concerned_of command config.partitions) ≡ Ok (record { 0 = ring })
  pub valid : MayBeAsked command
  pub client : IsClient config e.client
  pub entry : IsEntry e

-- ---- clients

-- a command that was taken: its client, its number, which is below the client's next one, and its ring
pub record IsTaken (config : Config) (c s next : ℕ) (command : Command) : Type 0 where
  pub client : IsClient config (record { 0 = c })
  pub valid : MayBeAsked command
  pub ring : RingId
  pub route : route_of (concerned_of command config.partitions) ≡ Ok ring
  pub some : 1 ≤ s
  pub numbered : s < 2 ^ 63
  pub below : s < next

-- what a client waits for has the number before the next one, and is what it took under this number
pub record IsAwaited (config : Config) (asked : ℕ → ℕ → Option Command) (c next : ℕ) (a : Asked) : Type 0 where
  pub number : a.seq + 1 ≡ next
  pub told : asked c a.seq ≡ Some a.command
  pub route : route_of (concerned_of a.command config.partitions) ≡ Ok a.ring

abbrev pub IsAwaitedOrNone : Config → (ℕ → ℕ → Option Command) → ℕ → ℕ → Option Asked → Type 0
IsAwaitedOrNone config asked c next None = Unit {0}
IsAwaitedOrNone config asked c next (Some a) = IsAwaited config asked c next a

pub record ClientKeeps (config : Config) (asked : ℕ → ℕ → Option Command) (c : ℕ) (view : ClientView) : Type 0 where
  pub id : view.id ≡ record { 0 = c }
  pub first : 1 ≤ view.next
  pub awaited : IsAwaitedOrNone config asked c view.next view.asked

pub record ClientsKeep (config : Config) (asked : ℕ → ℕ → Option Command) (clients : ℕ → ClientView) : Type 0 where
  pub taken : (c s : ℕ) (command : Command) → asked c s ≡ Some command → IsTaken config c s (clients c).next command
  pub each : (c : ℕ) → ClientKeeps config asked c (clients c)
