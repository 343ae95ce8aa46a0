use Rattle.std.proofs.Common.{◌≡◌, ◌<◌, ℕ, drop}
use Rattle.mrp_types.specs.Rounds.{size_of}
use Rattle.mrp_config.specs.Config.{ring_at, size_or}
use Rattle.mrp_config.proofs.deployment.rounds_of.Given as goal

-- the sizes so far are those of the tables from here on
abbrev pub invariant-loop-i : goal.invariant-loop-i
invariant-loop-i l = (ring : ℕ) → ring < 256 → size_of l.sizes ring ≡ size_or l.usual (ring_at (drop l.i l.tables) ring)
