-- Ids by their numbers.
use Rattle.std.specs.Prelude.{ℕ}
use Rattle.mrp_types.specs.declared.id.ClientId.{ClientId}
use Rattle.mrp_types.specs.declared.id.LogId.{LogId}
use Rattle.mrp_types.specs.declared.id.NodeId.{NodeId}
use Rattle.mrp_types.specs.declared.id.RingId.{RingId}

abbrev pub ring : ℕ → RingId
ring n = record { 0 = n }

abbrev pub node : ℕ → NodeId
node n = record { 0 = n }

abbrev pub client : ℕ → ClientId
client n = record { 0 = n }

abbrev pub log : ℕ → LogId
log n = record { 0 = n }
