use Rattle.line_runs.proofs.Laws.{possible_lines, frame_covered, safe_stays}
use Rattle.line_runs.proofs.Holding.{covered_held}
use Rattle.line_runs.proofs.trims_are_covered.Goals as goal

pub returns-clause-disks : goal.returns-clause-disks
returns-clause-disks c = λ config hs r n s is ring. (possible_lines config hs r n s is).covered ring

pub returns-clause-frames : goal.returns-clause-frames
returns-clause-frames c = frame_covered

pub returns-clause-kept : goal.returns-clause-kept
returns-clause-kept c = safe_stays

pub returns-clause-held : goal.returns-clause-held
returns-clause-held c = covered_held
