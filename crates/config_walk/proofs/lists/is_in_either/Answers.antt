use Rattle.std.proofs.Common.{sym, ◌∙◌}
use Rattle.config_walk.proofs.Among.{in_first, in_second}
use Rattle.config_walk.proofs.lists.is_in_either.Goals as goal

pub returns-then-is_among : goal.returns-then-is_among
returns-then-is_among c = in_first c.args.number c.args.first.now c.args.second.now (sym c.is_among.ensures ∙ c.if-is_among.true)

pub returns : goal.returns
returns c = c.is_among-2.ensures ∙ in_second c.args.number c.args.first.now c.args.second.now (sym c.is_among.ensures ∙ c.if-is_among.false)
