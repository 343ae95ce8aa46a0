-- The rounds of a valid deployment.
use Rattle.std.proofs.Common.{ℕ, ◌==◌, Bool, true, false, if◌then◌else◌, List, [], ◌∷◌, Some}
use Rattle.std.specs.List.{AllByRecursion}
use Rattle.mrp_types.specs.declared.id.RingId.{RingId}
use Rattle.mrp_config.specs.declared.tables.RingTable.{RingTable}
use Rattle.mrp_config.specs.Config.{Config, ring_at, size_or, round_of}
use Rattle.mrp_config.specs.Valid.{IsBetween, IsValid}

size_in_range : (usual id : ℕ) (rings : List RingTable) → IsBetween 1 1024 usual → AllByRecursion (λ (r : RingTable). IsBetween 1 1024 r.m) rings → IsBetween 1 1024 (size_or usual (ring_at rings id))
size_in_range usual id [] good all = good
size_in_range usual id (ring ∷ rings) good all = by (ring.id.0 == id) (size_in_range usual id rings good all.1)
  where
    by : (t : Bool) → IsBetween 1 1024 (size_or usual (ring_at rings id)) → IsBetween 1 1024 (size_or usual (if t then Some ring else ring_at rings id))
    by true later = all.0
    by false later = later

pub round_in_range : (config : Config) → IsValid config → (ring : RingId) → IsBetween 1 1024 (round_of config ring)
round_in_range config valid ring = size_in_range config.m ring.0 config.rings valid.m valid.rings.rounds
