-- What a row's changes have to do with its part.
use Rattle.std.specs.Prelude.{◌≡◌}
use Rattle.ring_kept.specs.Kept.{kept_after}
use Rattle.protocol.specs.Parts.{Ring, Part, Effects}

-- the part keeps what the changes make of what was kept
abbrev pub Records : Ring → Part → Effects → Type 0
Records ring part effects = effects.part.kept ≡ kept_after ring.id effects.changes part.kept
