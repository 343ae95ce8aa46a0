-- What `split_once` gives at a space is what a case is cut into.
use Rattle.std.proofs.Common.{arith, ◌≡◌, ◌≢◌, ◌<◌, ℕ, suc, List, [], ◌∷◌, ◌++◌, length, get_or, Option, Some, None, refl, sym, ap, ◌∙◌, ◌==◌, if◌then◌else◌, true, false, Bor, lit<}
use Rattle.std.proofs.lemmas.Grind.{common_steps}
use Rattle.std.specs.Option.{option_map}
use Rattle.std.proofs.lemmas.Str.Pattern.{IsSplitOnceResult, split_parts}
use Rattle.verdicts.specs.Cases.{cut_of}

abbrev pub Cut : Type 0
Cut = List ℕ × List ℕ

abbrev pub onto : ℕ → Option Cut → Option Cut
onto b cut = option_map (λ (x : Cut). (b ∷ x.0, x.1)) cut

apart : (b : ℕ) (rest : List ℕ) → b ≢ 32 → cut_of (b ∷ rest) ≡ onto b (cut_of rest)
apart b rest other = grind (arith, common_steps)

cut_found : (xs ys : List ℕ) → ((i : ℕ) → i < length xs → get_or xs i 0 ≢ 32) → cut_of (xs ++ 32 ∷ ys) ≡ Some (xs, ys)
cut_found [] ys h = refl
cut_found (x ∷ xs) ys h = apart x (xs ++ 32 ∷ ys) (h 0 (omega arith)) ∙ ap (onto x) (cut_found xs ys (λ i l. h (suc i) (omega (arith, l))))

not_cut : (xs : List ℕ) → ((i : ℕ) → i < length xs → get_or xs i 0 ≢ 32) → cut_of xs ≡ None
not_cut [] h = refl
not_cut (x ∷ xs) h = apart x xs (h 0 (omega arith)) ∙ ap (onto x) (not_cut xs (λ i l. h (suc i) (omega (arith, l))))

pub cuts : (bs : List ℕ) (r : Option (Bor (List ℕ) × Bor (List ℕ))) → IsSplitOnceResult 32 bs r → option_map (λ x. (x.0.now, x.1.now)) r ≡ cut_of bs
cuts bs None h = sym (not_cut bs (split_parts 32 bs None h (lit< tt)))
cuts bs (Some x) h =
    let parts = split_parts 32 bs (Some x) h (lit< tt) in
    sym (ap cut_of parts.0 ∙ cut_found x.0.now x.1.now parts.1)
