use Rattle.plain_model.proofs.SizeLaws.{services-written}
use Rattle.plain_model.proofs.size_laws.sizes_are_written_bytes.Goals as goal

pub returns : goal.returns
returns c = services-written
