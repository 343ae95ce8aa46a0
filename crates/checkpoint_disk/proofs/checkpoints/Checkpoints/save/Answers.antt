use Rattle.checkpoint_disk.proofs.Wholeness.{still, guarded_none, guarded_some, ended_as}
use Rattle.checkpoint_disk.proofs.checkpoints.Checkpoints.save.Goals as goal

pub returns-in-Some-clause-moments : goal.returns-in-Some-clause-moments
returns-in-Some-clause-moments g c t tells =
    still t (g.D.Disk.told c.args.disk.now) c.args.self c.args.tuple c.args.state tells.told (c.requires.settled t tells) (c.requires.stands t tells)

pub returns-in-Some-clause-went : goal.returns-in-Some-clause-went
returns-in-Some-clause-went g c =
    guarded_none g.D.Disk c.args.disk.now c.args.self c.args.tuple c.args.state g.met.D.Disk.tells c.in-Some.ensures.older

pub returns-in_err-saved-in-None-clause-went : goal.returns-in_err-saved-in-None-clause-went
returns-in_err-saved-in-None-clause-went g c =
    ended_as c.in_err-saved-in-None.field-0.0 c.from_residual.result c.from_residual.ensures.1
    (guarded_some c.args.self c.args.tuple c.args.state g.met.D.Disk.tells c.in-None.ensures.older c.in_err-saved-in-None.ensures.went)

pub returns-in_ok-saved-in-None-clause-went : goal.returns-in_ok-saved-in-None-clause-went
returns-in_ok-saved-in-None-clause-went g c =
    guarded_some c.args.self c.args.tuple c.args.state g.met.D.Disk.tells c.in-None.ensures.older c.in_ok-saved-in-None.ensures.went
