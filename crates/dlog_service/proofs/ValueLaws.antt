-- Values in two parts.
use Rattle.std.proofs.Common.{◌≡◌, List, [], ◌∷◌, ◌++◌, subst, sym}
use Rattle.std.specs.List.{AllByRecursion}

parted : {T : Type 0} (P : T → Type 0) (xs ys : List T) → AllByRecursion P (xs ++ ys) → AllByRecursion P xs × AllByRecursion P ys
parted P [] ys all = (tt, all)
parted P (x ∷ xs) ys all = ((all.0, (parted P xs ys all.1).0), (parted P xs ys all.1).1)

pub of_parts : {T : Type 0} (P : T → Type 0) (xs ys whole : List T) → xs ++ ys ≡ whole → AllByRecursion P whole → AllByRecursion P xs × AllByRecursion P ys
of_parts {T} P xs ys whole is all = parted P xs ys (subst (λ (l : List T). AllByRecursion P l) (sym is) all)
