use Rattle.plain_model.proofs.FoldLaw.{replica-follows}
use Rattle.plain_model.proofs.fold_laws.replicas_keep_what_the_lists_say.Goals as goal

pub returns : goal.returns
returns c = replica-follows
