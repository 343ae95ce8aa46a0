-- What one line more changes of what is read of lines.
use Rattle.std.specs.Prelude.{◌≡◌, ℕ, List, ◌∷◌, ◌++◌}
use Rattle.mrp_types.specs.declared.id.RingId.{RingId}
use Rattle.transcript.specs.declared.line.Line.{Line}
use Rattle.line_rules.specs.Scanners.{or_else, life, mark_of, up_epoch, epoch_told, attempting, attempt_told, unchosen, open_told, chosen, choice_told, before_begin, lines_before, told, tuples_told, begun, attempts_told, moves, position}

-- a line that isn't of the node's life changes nothing
pub record ReadsSame (m : ℕ → ℕ) (rings : List RingId) (x : ℕ) (l : Line) (before : List Line) : Type 0 where
  pub same_life : life x (l ∷ before) ≡ life x before
  pub same_up_epoch : up_epoch x (l ∷ before) ≡ up_epoch x before
  pub same_attempting : attempting x (l ∷ before) ≡ attempting x before
  pub same_unchosen : unchosen x (l ∷ before) ≡ unchosen x before
  pub same_chosen : chosen x (l ∷ before) ≡ chosen x before
  pub same_before_begin : before_begin x (l ∷ before) ≡ before_begin x before
  pub same_told : told x (l ∷ before) ≡ told x before
  pub same_begun : begun x (l ∷ before) ≡ begun x before
  pub same_position : position m rings x (l ∷ before) ≡ position m rings x before

-- a line of its life tells what its kind tells, or else what was told before; and moves the node on
pub record ReadsOn (m : ℕ → ℕ) (rings : List RingId) (x : ℕ) (l : Line) (before : List Line) : Type 0 where
  pub next_life : life x (l ∷ before) ≡ or_else (mark_of before l) (life x before)
  pub next_up_epoch : up_epoch x (l ∷ before) ≡ or_else (epoch_told before l) (up_epoch x before)
  pub next_attempting : attempting x (l ∷ before) ≡ or_else (attempt_told before l) (attempting x before)
  pub next_unchosen : unchosen x (l ∷ before) ≡ or_else (open_told before l) (unchosen x before)
  pub next_chosen : chosen x (l ∷ before) ≡ or_else (choice_told before l) (chosen x before)
  pub next_before_begin : before_begin x (l ∷ before) ≡ or_else (lines_before before l) (before_begin x before)
  pub next_told : told x (l ∷ before) ≡ tuples_told l ++ told x before
  pub next_begun : begun x (l ∷ before) ≡ attempts_told l ++ begun x before
  pub next_position : position m rings x (l ∷ before) ≡ moves m rings l (position m rings x before)
