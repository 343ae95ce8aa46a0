-- The names of a table, one after the other.
use Rattle.std.proofs.Common.{◌≡◌, ◌⊎◌, ℕ, List, [], ◌∷◌, ◌++◌, Bool, true, false, if◌then◌else◌, Result, Ok, Err, inl, inr, String, Global, string_bytes, refl, sym, ap, ◌∙◌}
use Rattle.std.specs.Map.{keys_of}
use Rattle.toml.specs.declared.value.Value.{Value}
use Rattle.toml.specs.View.{members_view}
use Rattle.config_walk.specs.declared.fault.ConfigFault.{ConfigFault}
use Rattle.config_walk.specs.declared.fault.ConfigFault.TheVariants.{UnknownName, Memory}
use Rattle.config_walk.specs.Values.{Fails, is_name, all_known}

-- the first that isn't one of the names
abbrev pub each_known_name : List ℕ → List (List ℕ) → List (String Global) → Result (Unit {0}) ConfigFault
each_known_name prefix names [] = Ok tt
each_known_name prefix names (k ∷ ks) = if is_name (string_bytes k) names then each_known_name prefix names ks else Err (UnknownName (prefix ++ string_bytes k))

abbrev then_rest : Bool → Result (Unit {0}) ConfigFault → Result (Unit {0}) ConfigFault → Result (Unit {0}) ConfigFault
then_rest t a b = if t then a else b

pub names_of_table : (prefix : List ℕ) (names : List (List ℕ)) (es : List (String Global × Value)) → each_known_name prefix names (keys_of es) ≡ all_known prefix names (members_view es)
names_of_table prefix names [] = refl
names_of_table prefix names (e ∷ es) = ap (λ (r : Result (Unit {0}) ConfigFault). then_rest (is_name (string_bytes e.0) names) r (Err (UnknownName (prefix ++ string_bytes e.0)))) (names_of_table prefix names es)

pub known_goes_on : (prefix : List ℕ) (names : List (List ℕ)) (here later : List (String Global)) (k : String Global) (text : List ℕ) (total : Result (Unit {0}) ConfigFault) →
    here ≡ k ∷ later → text ≡ string_bytes k → is_name text names ≡ true → each_known_name prefix names here ≡ total → each_known_name prefix names later ≡ total
known_goes_on prefix names here later k text total at is known so_far =
    let test : is_name (string_bytes k) names ≡ true = rw is at known in
    let one : each_known_name prefix names here ≡ each_known_name prefix names later = rw (at, test) refl in
    sym one ∙ so_far

pub unknown_ends : (prefix : List ℕ) (names : List (List ℕ)) (here later : List (String Global)) (k : String Global) (text : List ℕ) (total : Result (Unit {0}) ConfigFault) →
    here ≡ k ∷ later → text ≡ string_bytes k → is_name text names ≡ false → each_known_name prefix names here ≡ total → total ≡ Err (UnknownName (prefix ++ text))
unknown_ends prefix names here later k text total at is unknown so_far =
    let test : is_name (string_bytes k) names ≡ false = rw is at unknown in
    let one : each_known_name prefix names here ≡ Err (UnknownName (prefix ++ string_bytes k)) = rw (at, test) refl in
    sym so_far ∙ one ∙ ap (λ (s : List ℕ). Err (UnknownName (prefix ++ s))) (sym is)

-- a fault that was made, unless memory ran out
pub named_fails : (total : Result (Unit {0}) ConfigFault) (fault made : ConfigFault) → total ≡ Err fault → (made ≡ Memory) ⊎ (made ≡ fault) → Fails total made
named_fails total fault made is (inl memory) = inl memory
named_fails total fault made is (inr same) = inr (is ∙ ap Err (sym same))
