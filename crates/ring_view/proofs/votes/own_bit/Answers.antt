use Rattle.std.proofs.Common.{◌∙◌, ℕ, ap, Some, None}
use Rattle.ring_view.proofs.ViewLemmas.{own_bit_of}
use Rattle.ring_view.proofs.votes.own_bit.Goals as goal

pub returns-in_default : goal.returns-in_default
returns-in_default c = λ ring link is. own_bit_of c.args.view.now ring link is None c.in_default.ensures.first

pub returns : goal.returns
returns c = λ ring link is. ap (λ (b : ℕ). Some b) c.bit.ensures ∙ own_bit_of c.args.view.now ring link is (Some c.in-Some.position) c.in-Some.ensures.first
