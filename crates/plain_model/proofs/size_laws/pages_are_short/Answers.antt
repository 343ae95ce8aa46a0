use Rattle.plain_model.proofs.SizeLaws.{page-short}
use Rattle.plain_model.proofs.size_laws.pages_are_short.Goals as goal

pub returns : goal.returns
returns c = page-short
