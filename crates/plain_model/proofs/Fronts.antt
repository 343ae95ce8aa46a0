-- What the book has stays as lines come.
use Rattle.std.proofs.Common.{arith, ◌≡◌, ℕ, List, [], ◌∷◌, ◌++◌, Option, Some, refl, ap, ◌∙◌, Bool, true, false, if◌then◌else◌}
use Rattle.mrp_types.specs.declared.id.RingId.{RingId}
use Rattle.mrp_types.specs.declared.value.Value.{Value}
use Rattle.mrp_types.specs.Book.{Learning, book_of, covers}
use Rattle.transcript.specs.declared.line.Line.{Line}
use Rattle.transcript.specs.declared.line.Line.TheVariants.{Learn}
use Rattle.plain_model.specs.Lines.{learnings, book}

pub learnings-append : (xs ys : List Line) → learnings (xs ++ ys) ≡ learnings xs ++ learnings ys
learnings-append [] ys = refl
learnings-append (Learn node ring lo hi value ∷ xs) ys =
    ap (λ (l : List Learning). (record { ring = ring; lo = lo; hi = hi; value = value }) ∷ l) (learnings-append xs ys)
learnings-append (other ∷ xs) ys = learnings-append xs ys

-- what a test of the first learning leaves to the later ones
first_or : (t : Bool) (value known : Value) (some more : Option Value) → (some ≡ Some known → more ≡ Some known) →
    (if t then Some value else some) ≡ Some known → (if t then Some value else more) ≡ Some known
first_or true value known some more step h = h
first_or false value known some more step h = step h

pub book_of-more : (xs ys : List Learning) (ring : RingId) (inst : ℕ) (known : Value) → book_of xs ring inst ≡ Some known → book_of (xs ++ ys) ring inst ≡ Some known
book_of-more [] ys ring inst known h = absurd (grind arith)
book_of-more (x ∷ xs) ys ring inst known h =
    first_or (covers x ring inst) x.value known (book_of xs ring inst) (book_of (xs ++ ys) ring inst) (book_of-more xs ys ring inst known) h

pub book-more : (before more : List Line) (ring : RingId) (inst : ℕ) (value : Value) → book before ring inst ≡ Some value → book (before ++ more) ring inst ≡ Some value
book-more before more ring inst value h =
    ap (λ (l : List Learning). book_of l ring inst) (learnings-append before more) ∙ book_of-more (learnings before) (learnings more) ring inst value h
