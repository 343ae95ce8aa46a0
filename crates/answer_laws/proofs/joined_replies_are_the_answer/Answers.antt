use Rattle.answer_laws.proofs.Joining.{answer_joined, all_in_place}
use Rattle.answer_laws.proofs.joined_replies_are_the_answer.Goals as goal

pub returns-clause-answer : goal.returns-clause-answer
returns-clause-answer c = λ config known client seq ring command replies valid route once each. answer_joined config valid known client seq ring command once replies route each

pub returns-clause-place : goal.returns-clause-place
returns-clause-place c = λ config known client seq ring command replies valid route once each. all_in_place config valid known client seq ring command once replies route each
