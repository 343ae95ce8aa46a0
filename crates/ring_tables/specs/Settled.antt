-- When the coordinator of a ring is settled: what its leveller rests on.
use Rattle.std.specs.Prelude.{◌≡◌, ℕ, ◌<◌, ◌≤◌, true, false, None}
use Rattle.mrp_types.specs.declared.id.TheConstants.{END}
use Rattle.range_map.specs.Entries.{value_at}
use Rattle.protocol.specs.Parts.{Ring, Campaign, Role, Idle, Active, Part}
use Rattle.protocol.specs.Rings.{is_acceptor}
use Rattle.protocol.specs.Ballots.{leads_now}
use Rattle.protocol.specs.Proposing.{has_room}

-- While it leads and has room, nothing is reported from the next instance on, which isn't below the trim. Kept between the
-- steps of a node, and not within one.
pub record IsSettled (ring : Ring) (trim : ℕ) (campaign : Campaign) : Type 0 where
  pub above : leads_now ring campaign ≡ true → has_room ring campaign ≡ true → campaign.next < END → trim ≤ campaign.next
  pub fresh : leads_now ring campaign ≡ true → has_room ring campaign ≡ true → campaign.next < END → (i : ℕ) → campaign.next ≤ i → value_at i campaign.reports ≡ None

abbrev pub RoleSettled : Ring → ℕ → Role → Type 0
RoleSettled ring trim Idle = Unit {0}
RoleSettled ring trim (Active campaign) = IsSettled ring trim campaign

-- settled; and one that is no acceptor is Idle
pub record PartFine (ring : Ring) (part : Part) : Type 0 where
  pub settled : RoleSettled ring part.kept.trim part.coordinator.role
  pub idle : is_acceptor ring ≡ false → part.coordinator.role ≡ Idle
