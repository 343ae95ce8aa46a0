-- The entries of a list, and the tables of entries.
use Rattle.std.proofs.Common.{◌≡◌, ◌++◌, ◌<◌, ◌≤◌, ◌+◌, length, get_or, drop, ℕ, List, [], ◌∷◌, map, Some, Ok, refl, ap, ◌∙◌}
use Rattle.std.proofs.lemmas.List.{drop_more, drop_all}
use Rattle.toml.specs.Data.{Data, string, integer, float, boolean, datetime, array, table, as_array}
use Rattle.toml.specs.View.{items_of}
use Rattle.config_walk.specs.Values.{entries, entries_in}

pub entries_of_items : (ds : List Data) → entries (items_of ds) ≡ ds
entries_of_items [] = refl
entries_of_items (d ∷ ds) = ap (λ (l : List Data). d ∷ l) (entries_of_items ds)

-- what a list's entries are
pub entries_are : (name : List ℕ) (d : Data) (ds : List Data) → as_array d ≡ Some (items_of ds) → entries_in name d ≡ Ok ds
entries_are name (array items) ds is =
    let same : items ≡ items_of ds = cc in
    ap Ok (ap entries same ∙ entries_of_items ds)
entries_are name (string s) ds is = cc
entries_are name (integer z) ds is = cc
entries_are name (float x) ds is = cc
entries_are name (boolean b) ds is = cc
entries_are name (datetime dt) ds is = cc
entries_are name (table t) ds is = cc

-- what is left of a list at a turn, and at the end
pub one_more : {A B : Type 0} (f : A → B) (items : List A) (index : ℕ) (item : A) → index < length items → item ≡ get_or items index item → map f (drop index items) ≡ f item ∷ map f (drop (index + 1) items)
one_more f items index item less is = rw (drop_more items index item less, ← is) refl

pub none_more : {A B : Type 0} (f : A → B) (items : List A) (index : ℕ) → length items ≤ index → map f (drop index items) ≡ []
none_more f items index all = rw (drop_all index items all) refl

pub map_last : {A B : Type 0} (f : A → B) (items : List A) (item : A) → map f (items ++ item ∷ []) ≡ map f items ++ f item ∷ []
map_last f [] item = refl
map_last f (x ∷ items) item = ap (λ (l : List _). f x ∷ l) (map_last f items item)
