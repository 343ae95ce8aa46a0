-- The checkpoint that the code holds, as its callers see it.
use Rattle.std.specs.Prelude.{◌≤◌, Option, None, Some}
use Rattle.checkpoint.specs.Checkpoints.{Checkpoints, no_checkpoints}
use Rattle.checkpoint_disk.specs.declared.checkpoints.Stored.{Stored}

abbrev pub shown_pair : Option Stored → Checkpoints
shown_pair None = no_checkpoints
shown_pair (Some s) = record {
  area = Some s.area;
  generation = s.generation;
  from = s.from;
  newest = Some (record { tuple = s.contents.tuple; state = s.contents.state });
}

-- its tuple begins at one of the first 18 bytes behind the area's start
abbrev pub IsNearFront : Option Stored → Type 0
IsNearFront None = Unit {0}
IsNearFront (Some s) = s.from ≤ 18
