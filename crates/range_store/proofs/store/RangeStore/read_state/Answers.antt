use Rattle.command_codec.specs.Reader.{start}
use Rattle.plain_model.specs.StateBytes.{table_at}
use Rattle.services.proofs.StateLaws.{ends_from}
use Rattle.range_store.proofs.store.RangeStore.read_state.Goals as goal

pub returns-in_err-read : goal.returns-in_err-read
returns-in_err-read c =
    ends_from (λ x. x) table_at c.new-fields.result (start c.args.bytes.now) c.in_err-read.field-0.0 c.from_residual.result c.new-fields.ensures c.from_residual.ensures.1 c.in_err-read.ensures
