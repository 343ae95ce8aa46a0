use Rattle.answer_laws.proofs.Folds.{reply_there}
use Rattle.answer_laws.proofs.replies_are_those_of_the_first_entry.Goals as goal

pub returns : goal.returns
returns c = λ p client seq before after e reply is none does found. reply_there p client seq before after e reply is none does found
