-- What is read of lines: the book.
use Rattle.std.specs.Prelude.{ℕ, ◌≡◌, ◌+◌, List, [], ◌∷◌, Option}
use Rattle.mrp_types.specs.declared.id.RingId.{RingId}
use Rattle.mrp_types.specs.declared.value.Value.{Value}
use Rattle.mrp_types.specs.declared.value.Value.TheVariants.{Skip, Batch}
use Rattle.mrp_types.specs.Book.{Learning, book_of}
use Rattle.transcript.specs.declared.line.Line.{Line}
use Rattle.transcript.specs.declared.line.Line.TheVariants.{Learn}

-- what the learn lines say, in order
abbrev pub learnings : List Line → List Learning
learnings [] = []
learnings (Learn node ring lo hi value ∷ lines) = record { ring = ring; lo = lo; hi = hi; value = value } ∷ learnings lines
learnings (other ∷ lines) = learnings lines

-- the book: per ring and instance the value of the first learn line that covers it
abbrev pub book : List Line → RingId → ℕ → Option Value
book lines ring inst = book_of (learnings lines) ring inst

-- Skip may stand for many instances, a batch for one
abbrev pub IsWide : Value → ℕ → ℕ → Type 0
IsWide Skip lo hi = Unit {0}
IsWide (Batch batch) lo hi = hi ≡ lo + 1
