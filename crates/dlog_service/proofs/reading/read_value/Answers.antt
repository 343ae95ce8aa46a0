use Rattle.dlog_service.proofs.ReadLaws.{read_short}
use Rattle.dlog_service.proofs.reading.read_value.Goals as goal

pub returns-clause-short : goal.returns-clause-short
returns-clause-short c = read_short 0 2048 c.args.fields.now c.octets.new.self c.octets.result c.octets.ensures
