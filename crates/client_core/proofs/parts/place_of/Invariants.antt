use Rattle.std.proofs.Common.{◌≡◌, ◌+◌, drop}
use Rattle.client_core.specs.Places.{place_in}
use Rattle.client_core.proofs.parts.place_of.Given as goal

-- those passed come before
abbrev pub invariant-loop-at : goal.invariant-loop-at
invariant-loop-at l = place_in l.partition.0 l.from ≡ l.at + place_in l.partition.0 (drop l.at l.from)
