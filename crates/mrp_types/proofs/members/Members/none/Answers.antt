use Rattle.mrp_types.proofs.MemberLemmas.{none_is}
use Rattle.mrp_types.proofs.members.Members.none.Goals as goal

pub returns : goal.returns
returns c = none_is 32
