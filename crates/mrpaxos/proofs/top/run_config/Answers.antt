use Rattle.mrp_config.proofs.AcceptedConfigs.{accepted_is_valid}
use Rattle.mrpaxos.proofs.top.run_config.Goals as goal

pub run_input-requires-clause-valid : goal.run_input-requires-clause-valid
run_input-requires-clause-valid g c = accepted_is_valid c.args.bytes.now c.in-Ok.deployment c.in-Ok.ensures
