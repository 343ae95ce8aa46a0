-- Rings and logs that are one of a list.
use Rattle.std.proofs.Common.{◌≡◌, ℕ, Bool, true, false, ◌||◌, ◌==◌, if◌then◌else◌, List, [], ◌∷◌, refl, ap}
use Rattle.std.specs.List.{list_any}
use Rattle.mrp_types.specs.declared.id.RingId.{RingId}
use Rattle.mrp_types.specs.declared.id.LogId.{LogId}
use Rattle.mrp_types.specs.Rings.{numbers_of_rings}
use Rattle.mrp_types.specs.Seats.{is_among}
use Rattle.mrp_config.specs.Config.{has_ring, has_log}

by_first : (t a b : Bool) → a ≡ b → (t || a) ≡ (if t then true else b)
by_first true a b h = refl
by_first false a b h = h

pub any_ring : (rings : List RingId) (n : ℕ) → list_any (λ (r : RingId). r.0 == n) rings ≡ has_ring rings n
any_ring [] n = refl
any_ring (r ∷ rings) n = by_first (r.0 == n) _ _ (any_ring rings n)

pub any_log : (logs : List LogId) (n : ℕ) → list_any (λ (l : LogId). l.0 == n) logs ≡ has_log logs n
any_log [] n = refl
any_log (l ∷ logs) n = by_first (l.0 == n) _ _ (any_log logs n)

pub has_is_among : (rings : List RingId) (n : ℕ) → has_ring rings n ≡ is_among n (numbers_of_rings rings)
has_is_among [] n = refl
has_is_among (ring ∷ rings) n = ap (λ t. if ring.0 == n then true else t) (has_is_among rings n)
