-- What a proposal counts for.
use Rattle.std.proofs.Common.{◌≡◌, ℕ, zero, suc, ◌<◌, List, [], ◌∷◌, refl, arith}
use Rattle.skip_leveller.specs.Levelling.{Levelling, with_started}
use Rattle.protocol.specs.Parts.{Pending}
use Rattle.protocol.specs.Proposing.{with_proposed, with_fresh}

pub none_proposed : (taken : ℕ) (pending : List Pending) → taken ≡ 0 → pending ≡ with_proposed taken pending
none_proposed zero [] h = refl
none_proposed zero (p ∷ pending) h = refl
none_proposed (suc n) pending h = absurd (omega arith)

pub one_started : (taken : ℕ) (leveller : Levelling) → 0 < taken → with_started 1 leveller ≡ with_fresh taken leveller
one_started zero leveller h = absurd (omega arith)
one_started (suc n) leveller h = refl
