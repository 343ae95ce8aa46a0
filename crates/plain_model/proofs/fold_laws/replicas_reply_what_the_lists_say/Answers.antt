use Rattle.plain_model.proofs.FoldLaw.{reply-follows}
use Rattle.plain_model.proofs.fold_laws.replicas_reply_what_the_lists_say.Goals as goal

pub returns : goal.returns
returns c = reply-follows
