use Rattle.range_store.proofs.ReadLaws.{length_in}
use Rattle.range_store.proofs.reading.read_length.Goals as goal

pub returns-clause-range : goal.returns-clause-range
returns-clause-range c = length_in 1 256 c.args.fields.now c.length.new.self c.length.result c.length.ensures.exact
