-- Worked rows, run by the check: a range within another, and what a cut leaves. The values are numbers.
use Rattle.std.proofs.Common.{◌≡◌, ℕ, List, [], ◌∷◌, refl}
use Rattle.std.specs.Prelude.{None}
use Rattle.range_map.specs.Entries.{value_at, entries_from, spread_over, with_range}

abbrev ranges : List (ℕ × ℕ)
ranges = with_range 3 5 8 (with_range 0 10 7 [])

parted : ranges ≡ (0, 7) ∷ (1, 7) ∷ (2, 7) ∷ (3, 8) ∷ (4, 8) ∷ (5, 7) ∷ (6, 7) ∷ (7, 7) ∷ (8, 7) ∷ (9, 7) ∷ []
unfolding spread_over
parted = refl

cut : entries_from 4 ranges ≡ (4, 8) ∷ (5, 7) ∷ (6, 7) ∷ (7, 7) ∷ (8, 7) ∷ (9, 7) ∷ []
unfolding spread_over
cut = refl

gone : value_at 3 (entries_from 4 ranges) ≡ None
unfolding spread_over
gone = refl

past : value_at 10 (entries_from 4 ranges) ≡ None
unfolding spread_over
past = refl
