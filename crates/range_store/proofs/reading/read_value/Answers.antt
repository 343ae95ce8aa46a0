use Rattle.range_store.proofs.ReadLaws.{read_short}
use Rattle.range_store.proofs.reading.read_value.Goals as goal

pub returns-clause-short : goal.returns-clause-short
returns-clause-short c = read_short (λ x. x.now) 0 2048 c.args.fields.now c.string.new.self c.string.result c.string.ensures.exact
