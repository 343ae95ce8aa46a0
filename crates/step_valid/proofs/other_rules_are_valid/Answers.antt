use Rattle.step_valid.proofs.Tables.{valid_decided, valid_chosen}
use Rattle.step_valid.proofs.Others.{valid_levels, valid_asks_round, valid_answers}
use Rattle.step_valid.proofs.other_rules_are_valid.Goals as goal

pub returns-clause-decide : goal.returns-clause-decide
returns-clause-decide c = valid_decided

pub returns-clause-chosen : goal.returns-clause-chosen
returns-clause-chosen c = valid_chosen

pub returns-clause-level : goal.returns-clause-level
returns-clause-level c = valid_levels

pub returns-clause-ask : goal.returns-clause-ask
returns-clause-ask c = valid_asks_round

pub returns-clause-answer : goal.returns-clause-answer
returns-clause-answer c = valid_answers
