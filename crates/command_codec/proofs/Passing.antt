-- A list that is passed over keeps nothing, and ends where reading it ends.
use Rattle.std.proofs.Common.{arith, ◌≡◌, ℕ, suc, ◌+◌, ◌-◌, ◌<◌, List, ◌∷◌, Option, Some, Result, Ok, Err, refl, sym, ◌∙◌, ap}
use Rattle.command_codec.specs.declared.fault.CodecFault.{CodecFault}
use Rattle.mrp_types.specs.Reading.{◌>>=◌, each}
use Rattle.command_codec.specs.Reader.{Spot, Reader, passed}
use Rattle.command_codec.specs.Grammar.{entry_at}

one_passed : {V : Type 0} (r : Result (V × Spot) CodecFault) (read : Reader V) (k : ℕ) (behind : Spot) → passed r ≡ Some behind →
    passed (r >>= λ first. each read k first.1 >>= λ others. Ok (first.0 ∷ others.0, others.1)) ≡ passed (each read k behind)
one_passed {V} (Ok x) read k behind h = with_rest (each read k x.1) ∙ ap (λ (s : Spot). passed (each read k s)) (spot_is x.1 behind h)
  where
    with_rest : (rest : Result (List V × Spot) CodecFault) → passed (rest >>= λ others. Ok (x.0 ∷ others.0, others.1)) ≡ passed rest
    with_rest (Ok y) = refl
    with_rest (Err e) = refl

    spot_is : (a b : Spot) → Some a ≡ Some b → a ≡ b
    spot_is a b h = cc
one_passed (Err e) read k behind h = absurd cc

pub goes_on : (count turn : ℕ) (spot behind : Spot) (total : Option Spot) → turn < count → passed (entry_at spot) ≡ Some behind → passed (each entry_at (count - turn) spot) ≡ total → passed (each entry_at (count - (turn + 1)) behind) ≡ total
goes_on count turn spot behind total less one so_far =
    let k : count - turn ≡ suc (count - (turn + 1)) = omega arith in
    sym (one_passed (entry_at spot) entry_at (count - (turn + 1)) behind one) ∙ (ap (λ n. passed (each entry_at n spot)) (sym k) ∙ so_far)
