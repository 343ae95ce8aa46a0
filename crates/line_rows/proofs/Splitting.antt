-- A list of lines around one of its restore lines.
use Rattle.std.proofs.Common.{◌≡◌, ℕ, zero, suc, List, [], ◌∷◌, ◌++◌, Option, Some, None, refl, ap}
use Rattle.mrp_types.specs.declared.id.NodeId.{NodeId}
use Rattle.protocol.specs.Lines.{Line, Restore}
use Rattle.line_rows.specs.Row.{restore_at, before_restore, after_restore}

abbrev pub line_of : Option (NodeId × List ℕ) → List Line
line_of None = []
line_of (Some x) = Restore x.0 x.1 ∷ []

pub split_at : (n : ℕ) (lines : List Line) (x : NodeId) (tuple : List ℕ) → restore_at n lines ≡ Some (x, tuple) → lines ≡ before_restore n lines ++ Restore x tuple ∷ after_restore n lines
split_at n [] x tuple h = absurd cc
split_at zero (Restore y other ∷ lines) x tuple h =
    let same : Restore y other ∷ [] ≡ Restore x tuple ∷ [] = ap line_of h in
    ap (λ (l : List Line). l ++ lines) same
split_at (suc n) (Restore y other ∷ lines) x tuple h = ap (λ (l : List Line). Restore y other ∷ l) (split_at n lines x tuple h)
split_at n (line ∷ lines) x tuple h = ap (λ (l : List Line). line ∷ l) (split_at n lines x tuple h)
