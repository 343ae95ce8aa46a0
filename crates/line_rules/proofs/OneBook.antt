-- The two books of lines are one: with the latest first, and in order.
use Rattle.std.proofs.Common.{◌≡◌, ℕ, Bool, true, false, List, [], ◌∷◌, Option, Some, None, refl, sym, ◌∙◌, ap}
use Rattle.std.specs.Prelude.{◌==◌, nat_le, nat_lt, ◌&&◌, if◌then◌else◌}
use Rattle.mrp_types.specs.declared.id.RingId.{RingId}
use Rattle.mrp_types.specs.declared.value.Value.{Value}
use Rattle.mrp_types.specs.Book.{book_of}
use Rattle.plain_model.specs.Lines.{learnings}
use Rattle.plain_model.specs.Lines as plain
use Rattle.transcript.specs.declared.line.Line.{Line}
use Rattle.transcript.specs.declared.line.Line.TheVariants.{Learn}
use Rattle.line_rules.specs.Scanners.{past, or_else, learned_by, book}

pub or_else_none : {T : Type 0} (o : Option T) → or_else o None ≡ o
or_else_none None = refl
or_else_none (Some x) = refl

or_else_joined : {T : Type 0} (a b d : Option T) → or_else (or_else a b) d ≡ or_else a (or_else b d)
or_else_joined None b d = refl
or_else_joined (Some x) b d = refl

module _ (ring : RingId) (inst : ℕ) where
  -- one line in order
  first_learned : (l : Line) (lines : List Line) → or_else (learned_by ring inst l) (plain.book lines ring inst) ≡ plain.book (l ∷ lines) ring inst
  first_learned (Learn node other lo hi value) lines = go ((other.0 == ring.0) && (nat_le lo inst && nat_lt inst hi))
    where
      go : (b : Bool) → or_else (if b then Some value else None) (book_of (learnings lines) ring inst) ≡ (if b then Some value else book_of (learnings lines) ring inst)
      go true = refl
      go false = refl
  first_learned other lines = refl

  book_past : (before lines : List Line) → book (past before lines) ring inst ≡ or_else (book before ring inst) (plain.book lines ring inst)
  book_past before [] = sym (or_else_none (book before ring inst))
  book_past before (l ∷ lines) =
      book_past (l ∷ before) lines ∙ or_else_joined (book before ring inst) (learned_by ring inst l) (plain.book lines ring inst)
      ∙ ap (λ (o : Option Value). or_else (book before ring inst) o) (first_learned l lines)

pub one_book_of : (lines : List Line) (ring : RingId) (inst : ℕ) → book (past [] lines) ring inst ≡ plain.book lines ring inst
one_book_of lines ring inst = book_past ring inst [] lines
