-- What follows of faithful lines: deliveries in one order, and answered commands that stay.
use Rattle.std.specs.Prelude.{ℕ, ◌≡◌, IsTrue, List, [], ◌∷◌, if◌then◌else◌, Some}
use Rattle.std.specs.List.{AllByRecursion}
use Rattle.mrp_types.specs.declared.id.ClientId.{ClientId}
use Rattle.mrp_types.specs.declared.place.Place.{Place}
use Rattle.mrp_types.specs.declared.value.Entry.{Entry}
use Rattle.mrp_types.specs.declared.value.Value.TheVariants.{Batch}
use Rattle.mrp_types.specs.Places.{place_lt}
use Rattle.plain_model.specs.Fold.{asked_in, place_with}
use Rattle.plain_model.specs.Replicas.{entries_of_batch}
use Rattle.transcript.specs.declared.line.Line.{Line}
use Rattle.transcript.specs.declared.line.Line.TheVariants.{Deliver, Restore}
use Rattle.line_rules.specs.Scanners.{touches, book}

-- a restore line begins anew, and a deliver line adds its place
abbrev pub delivered_by : Line → List Place → List Place
delivered_by (Restore node printed) places = []
delivered_by (Deliver node ring inst) places = place_with ring inst ∷ places
delivered_by other places = places

-- the places that a node delivered since its last restore line, the latest first
abbrev pub delivered : ℕ → List Line → List Place
delivered x [] = []
delivered x (line ∷ before) = if touches x line then delivered_by line (delivered x before) else delivered x before

-- each place comes after all those behind it, in the one order of places
abbrev pub AreInOrder : (ℕ → ℕ) → List Place → Type 0
AreInOrder m [] = Unit {0}
AreInOrder m (place ∷ places) = AllByRecursion (λ (earlier : Place). IsTrue (place_lt m earlier place)) places × AreInOrder m places

-- the book has a place whose batch holds an entry that the client asked under the number
pub record IsOrdered (before : List Line) (client : ClientId) (seq : ℕ) : Type 0 where
  pub place : Place
  pub batch : List ℕ
  pub holds : book before place.ring place.inst ≡ Some (Batch batch)
  pub entry : Entry
  pub asked : asked_in client seq (entries_of_batch batch) ≡ Some entry
