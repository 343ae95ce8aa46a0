use Rattle.answer_laws.proofs.Staying.{replies_more, bytes_more}
use Rattle.answer_laws.proofs.replies_stay.Goals as goal

pub returns-clause-one : goal.returns-clause-one
returns-clause-one c = replies_more

pub returns-clause-bytes : goal.returns-clause-bytes
returns-clause-bytes c = bytes_more
