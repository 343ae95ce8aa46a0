use Rattle.ring_rules.proofs.Ruling.{ruled_decided, ruled_chosen}
use Rattle.ring_rules.proofs.learners_rules_stand.Goals as goal

pub returns-clause-decide : goal.returns-clause-decide
returns-clause-decide c = ruled_decided

pub returns-clause-chosen : goal.returns-clause-chosen
returns-clause-chosen c = ruled_chosen
