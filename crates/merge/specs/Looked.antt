-- What a look at a learned map answers.
use Rattle.std.specs.Prelude.{ℕ, ◌<◌, ◌≤◌, ◌^◌, ◌≡◌, ◌≢◌, ◌↔◌, IsTrue, List, [], slice_index_or, Option, Some, None, Result, Ok, Err, if◌then◌else◌}
use Rattle.mrp_types.specs.declared.value.Value.{Value}
use Rattle.mrp_types.specs.declared.value.Value.TheVariants.{Skip}
use Rattle.range_map.specs.Entries.{value_at}
use Rattle.mrp_types.specs.declared.id.RingId.{RingId}
use Rattle.mrp_types.specs.declared.place.Place.{Place}
use Rattle.merge.specs.declared.looks.Run.{Run}
use Rattle.merge.specs.declared.passing.Next.{Next}
use Rattle.merge.specs.declared.passing.Next.TheVariants.{Deliver, Wait}

-- the map at a position, the empty one past the end of the list
abbrev pub map_at : List (List (ℕ × Value)) → ℕ → List (ℕ × Value)
map_at maps position = slice_index_or maps position []

-- The longest run of equal values round an instance ends there, no later than all instances do, and says whether they are skips.
pub record IsRunOf (map : List (ℕ × Value)) (inst : ℕ) (run : Run) : Type 0 where
  pub ends : inst < run.end
  pub within : run.end ≤ 2 ^ 40
  pub equal : (j : ℕ) → inst ≤ j → j < run.end → value_at j map ≡ value_at inst map
  pub longest : value_at run.end map ≢ value_at inst map
  pub skip : IsTrue run.skip ↔ (value_at inst map ≡ Some Skip)

-- What comes of a look at the next place: where its ring goes on behind a run of skips, or else what the merge comes to there.
abbrev pub found_at : Place → Option Run → Result (RingId × ℕ) Next
found_at place None = Err (Wait place.ring)
found_at place (Some run) = if run.skip then Ok (place.ring, run.end) else Err (Deliver place)
