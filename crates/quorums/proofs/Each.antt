-- What holds of each of a list.
use Rattle.std.proofs.Common.{List, [], ◌∷◌, ◌++◌}
use Rattle.std.specs.List.{AllByRecursion}

pub mapped : {T : Type 0} (P Q : T → Type 0) → ((x : T) → P x → Q x) → (xs : List T) → AllByRecursion P xs → AllByRecursion Q xs
mapped P Q h [] all = tt
mapped P Q h (x ∷ xs) all = (h x all.0, mapped P Q h xs all.1)

pub appended : {T : Type 0} (P : T → Type 0) (xs ys : List T) → AllByRecursion P xs → AllByRecursion P ys → AllByRecursion P (xs ++ ys)
appended P [] ys a b = b
appended P (x ∷ xs) ys a b = (a.0, appended P xs ys a.1 b)

pub front_all : {T : Type 0} (P : T → Type 0) (front rest : List T) → AllByRecursion P (front ++ rest) → AllByRecursion P front
front_all P [] rest all = tt
front_all P (x ∷ front) rest all = (all.0, front_all P front rest all.1)
