use Rattle.std.proofs.Common.{refl}
use Rattle.world_model.proofs.Scheduled.{may_be}
use Rattle.world_model.proofs.laws.scheduled_images_may_be_left.Goals as goal

pub returns-clause-may : goal.returns-clause-may
returns-clause-may c = λ image t plan. may_be image t

pub returns-clause-same : goal.returns-clause-same
returns-clause-same c = λ config id image t plan w. refl
