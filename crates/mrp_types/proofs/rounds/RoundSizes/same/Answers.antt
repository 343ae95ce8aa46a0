use Rattle.std.proofs.Common.{refl}
use Rattle.std.proofs.lemmas.List.{get_or-replicate}
use Rattle.mrp_types.proofs.RoundLemmas.{all_same}
use Rattle.mrp_types.proofs.rounds.RoundSizes.same.Goals as goal

pub invariant_of-result : goal.invariant_of-result
invariant_of-result c = (refl, all_same 256 c.args.m c.requires.least c.requires.most)

pub returns : goal.returns
returns c = λ ring inside. get_or-replicate 256 ring c.args.m 1 inside
