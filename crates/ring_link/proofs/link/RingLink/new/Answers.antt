use Rattle.std.proofs.Common.{◌∙◌}
use Rattle.ring_link.proofs.SilenceLemmas.{quiet_after-start}
use Rattle.ring_link.proofs.link.RingLink.new.Goals as goal

pub returns : goal.returns
returns c = let same = c.no_silence.ensures ∙ quiet_after-start in cc
