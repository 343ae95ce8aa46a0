-- For which ring and part a coordinator stands, and what a call of it made.
use Rattle.std.specs.Prelude.{◌≡◌, ℕ, List, ◌++◌, length, Option, Some, None}
use Rattle.mrp_types.specs.declared.voted.Decided.{Decided}
use Rattle.vote_state.specs.declared.change.Change.{Change}
use Rattle.frames.specs.declared.sent.Sent.{Sent}
use Rattle.protocol.specs.Parts.{Ring, Campaign, Role, Idle, Active, Coordinator, Part, Effects}
use Rattle.protocol.specs.Effects.{in_role}
use Rattle.ring_view.specs.Views.{Adds}

-- a coordinator with its settings: how many proposals may be outstanding, and the two of its leveller
pub record Led : Type 0 where
  pub window : ℕ
  pub lambda : ℕ
  pub delta : ℕ
  pub table : Coordinator

abbrev pub with_table : Coordinator → Led → Led
with_table table led = record led { table = table }

-- the coordinator plays this role
abbrev pub led_in : Role → Led → Led
led_in role led = with_table (in_role role led.table) led

abbrev pub role_of : Option Campaign → Role
role_of None = Idle
role_of (Some campaign) = Active campaign

-- the next instance to be proposed at; 0 of an Idle one
abbrev pub role_next : Role → ℕ
role_next Idle = 0
role_next (Active campaign) = campaign.next

-- an Active coordinator has for each acceptor up to where it is covered
abbrev pub HasSeats : Ring → Role → Type 0
HasSeats ring Idle = Unit {0}
HasSeats ring (Active campaign) = length campaign.covered ≡ length ring.acceptors

-- the settings are the ring's, the coordinator is the part's, and it has a seat for each acceptor
pub record Leads (led : Led) (ring : Ring) (part : Part) : Type 0 where
  pub window : led.window ≡ ring.window
  pub lambda : led.lambda ≡ ring.lambda
  pub delta : led.delta ≡ ring.delta
  pub table : led.table ≡ part.coordinator
  pub seats : HasSeats ring led.table.role

-- what a start makes: its table, and changes and frames behind those that were there
pub record Begins (effects : Effects) (old new : Led) (old_changes new_changes : List Change) (old_frames new_frames : List Sent) : Type 0 where
  pub table : new ≡ with_table effects.part.coordinator old
  pub added : Adds effects old_changes new_changes old_frames new_frames

-- what a rule makes: its table, and changes, frames and decided ranges behind those that were there
pub record Makes (effects : Effects) (old new : Led) (old_changes new_changes : List Change) (old_frames new_frames : List Sent) (old_learned new_learned : List Decided) : Type 0 where
  pub table : new ≡ with_table effects.part.coordinator old
  pub added : Adds effects old_changes new_changes old_frames new_frames
  pub learned : new_learned ≡ old_learned ++ effects.learned
