-- A disk in memory as its callers see it.
use Rattle.std.specs.Prelude.{ℕ, Vec, slice_get, List, []}
use Rattle.std.specs.Option.{option_map_or}
use Rattle.std.specs.declared.alloc.Global.{Global}
use Rattle.disk_model.specs.declared.areas.Areas.{Areas}
use Rattle.disk_model.specs.declared.plan.Trouble.{Trouble}
use Rattle.disk_model.specs.Calls.{Told, begun}
use Rattle.disk_model.specs.Causes.{no_trouble}

pub record Sim : Type 0 where
  pub told : Told
  pub trouble : Trouble

-- one with these areas, in which nothing is pending and no call is to fail
abbrev pub fresh : Areas → Sim
fresh areas = record { told = begun areas; trouble = no_trouble }

-- the bytes of the vector at a place
abbrev pub octets_at : List (Vec ℕ Global) → ℕ → List ℕ
octets_at vectors n = option_map_or (λ v. v.items) (slice_get vectors n) []

-- the bytes of four vectors, by their numbers
abbrev pub areas_of : List (Vec ℕ Global) → Areas
areas_of vectors = record {
  journal0 = octets_at vectors 0;
  journal1 = octets_at vectors 1;
  check2 = octets_at vectors 2;
  check3 = octets_at vectors 3;
}
