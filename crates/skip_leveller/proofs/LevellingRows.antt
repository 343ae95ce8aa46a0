-- Worked rows, run by the check.
use Rattle.std.proofs.Common.{◌≡◌, [], ◌∷◌, refl}
use Rattle.std.specs.Prelude.{Some, None}
use Rattle.skip_leveller.specs.Levelling.{Started, Tick, answer_after}

early : answer_after 8 4 (Started 5 ∷ Tick ∷ Tick ∷ []) ≡ None
early = refl

short : answer_after 8 4 (Started 5 ∷ Tick ∷ Tick ∷ Tick ∷ []) ≡ Some 27
short = refl

-- what was started before the last levelling no longer counts
second : answer_after 8 4 (Started 5 ∷ Tick ∷ Tick ∷ Tick ∷ Tick ∷ Tick ∷ Started 30 ∷ Tick ∷ Tick ∷ []) ≡ Some 2
second = refl

full : answer_after 8 4 (Started 32 ∷ Tick ∷ Tick ∷ Tick ∷ []) ≡ None
full = refl

no_delta : answer_after 8 0 [] ≡ None
no_delta = refl
