-- What one line more changes, all at once.
use Rattle.std.proofs.Common.{◌≡◌, ℕ, true, false, List}
use Rattle.mrp_types.specs.declared.id.RingId.{RingId}
use Rattle.transcript.specs.declared.line.Line.{Line}
use Rattle.line_rules.specs.Scanners.{touches, mark_of, epoch_told, attempt_told, open_told, choice_told, lines_before, tuples_told, attempts_told}
use Rattle.line_rules.specs.More.{ReadsSame, ReadsOn}
use Rattle.line_rules.proofs.Growing.{last_quiet, last_own, all_quiet, all_own, position_quiet, position_own}

module _ (m : ℕ → ℕ) (rings : List RingId) (x : ℕ) (l : Line) (before : List Line) where
  pub reads_same : touches x l ≡ false → ReadsSame m rings x l before
  reads_same quiet = record {
    same_life = last_quiet x l before mark_of quiet;
    same_up_epoch = last_quiet x l before epoch_told quiet;
    same_attempting = last_quiet x l before attempt_told quiet;
    same_unchosen = last_quiet x l before open_told quiet;
    same_chosen = last_quiet x l before choice_told quiet;
    same_before_begin = last_quiet x l before lines_before quiet;
    same_told = all_quiet x l before tuples_told quiet;
    same_begun = all_quiet x l before attempts_told quiet;
    same_position = position_quiet m rings x l before quiet;
  }

  pub reads_on : touches x l ≡ true → ReadsOn m rings x l before
  reads_on own = record {
    next_life = last_own x l before mark_of own;
    next_up_epoch = last_own x l before epoch_told own;
    next_attempting = last_own x l before attempt_told own;
    next_unchosen = last_own x l before open_told own;
    next_chosen = last_own x l before choice_told own;
    next_before_begin = last_own x l before lines_before own;
    next_told = all_own x l before tuples_told own;
    next_begun = all_own x l before attempts_told own;
    next_position = position_own m rings x l before own;
  }
