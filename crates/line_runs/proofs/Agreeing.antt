-- Learn lines that agree with those before them have one value.
use Rattle.std.proofs.Common.{◌≡◌, ℕ, ◌≤◌, ◌<◌, ◌⊎◌, inl, inr, List, [], ◌∷◌, ◌++◌, sym, ◌∙◌, ap}
use Rattle.mrp_types.specs.declared.id.NodeId.{NodeId}
use Rattle.mrp_types.specs.declared.id.RingId.{RingId}
use Rattle.mrp_types.specs.declared.value.Value.{Value}
use Rattle.quorums.specs.Groups.{Has}
use Rattle.protocol.specs.Lines.{Line, Learn}
use Rattle.line_runs.specs.Laws.{HaveOneValue}

-- each learn line has the value of each earlier learn line of the ring that covers an instance of it
abbrev pub AgreeInTurn : List Line → Type 0
AgreeInTurn lines =
    (before after : List Line) (n : NodeId) (ring : RingId) (lo hi : ℕ) (value : Value) → lines ≡ before ++ Learn n ring lo hi value ∷ after
    → (m : NodeId) (low high : ℕ) (earlier : Value) → Has before (Learn m ring low high earlier) → (inst : ℕ) → lo ≤ inst → inst < hi → low ≤ inst → inst < high → earlier ≡ value

-- the first stands before the second
record InTurn (lines : List Line) (l k : Line) : Type 0 where
  before : List Line
  after : List Line
  at : lines ≡ before ++ k ∷ after
  there : Has before l

record Stands (lines : List Line) (k : Line) : Type 0 where
  before : List Line
  after : List Line
  at : lines ≡ before ++ k ∷ after

stands : (lines : List Line) (k : Line) → Has lines k → Stands lines k
stands [] k h = absurd h
stands (x ∷ lines) k (inl e) = record { before = []; after = lines; at = ap (λ (l : Line). l ∷ lines) (sym e) }
stands (x ∷ lines) k (inr h) = let s = stands lines k h in record { before = x ∷ s.before; after = s.after; at = ap (λ (ls : List Line). x ∷ ls) s.at }

in_turn : (lines : List Line) (l k : Line) → Has lines l → Has lines k → InTurn lines l k ⊎ (InTurn lines k l ⊎ (l ≡ k))
in_turn [] l k h g = absurd h
in_turn (x ∷ lines) l k (inl e) (inl f) = inr (inr (e ∙ sym f))
in_turn (x ∷ lines) l k (inl e) (inr g) = let s = stands lines k g in inl (record { before = x ∷ s.before; after = s.after; at = ap (λ (ls : List Line). x ∷ ls) s.at; there = inl e })
in_turn (x ∷ lines) l k (inr h) (inl f) = let s = stands lines l h in inr (inl (record { before = x ∷ s.before; after = s.after; at = ap (λ (ls : List Line). x ∷ ls) s.at; there = inl f }))
in_turn (x ∷ lines) l k (inr h) (inr g) = elim (in_turn lines l k h g) [
  | inl s ↦ inl (record { before = x ∷ s.before; after = s.after; at = ap (λ (ls : List Line). x ∷ ls) s.at; there = inr s.there })
  | inr other ↦ elim other [
    | inl s ↦ inr (inl (record { before = x ∷ s.before; after = s.after; at = ap (λ (ls : List Line). x ∷ ls) s.at; there = inr s.there }))
    | inr same ↦ inr (inr same)
  ]
]

same_value : (m n : NodeId) (ring : RingId) (lo hi lo' hi' : ℕ) (value value' : Value) → Learn m ring lo hi value ≡ Learn n ring lo' hi' value' → value ≡ value'
same_value m n ring lo hi lo' hi' value value' e = cc

pub turn_is_enough : (lines : List Line) → AgreeInTurn lines → HaveOneValue lines
turn_is_enough lines agree m n ring lo hi lo' hi' inst value value' h g a b d e = elim (in_turn lines (Learn m ring lo hi value) (Learn n ring lo' hi' value') h g) [
  | inl s ↦ agree s.before s.after n ring lo' hi' value' s.at m lo hi value s.there inst d e a b
  | inr other ↦ elim other [
    | inl s ↦ sym (agree s.before s.after m ring lo hi value s.at n lo' hi' value' s.there inst a b d e)
    | inr same ↦ same_value m n ring lo hi lo' hi' value value' same
  ]
]
