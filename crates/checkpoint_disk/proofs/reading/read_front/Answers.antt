use Rattle.checkpoint_disk.proofs.Fronts.{WasRead, was_read}
use Rattle.checkpoint_disk.proofs.reading.read_front.Goals as goal

read : (c : goal.In_ok-end) → WasRead c.args.bytes.now c.args.from c.in_ok-tuple.tuple c.in_ok-state.state.now
read c =
    was_read c.args.bytes.now c.args.from c.fields_from-fields.result c.read_tuple.new.fields c.u64.new.self c.bytes.new.self c.in_ok-tuple.tuple c.in_ok-size.size c.in_ok-state.state.now (tt {0})
    c.fields_from-fields.ensures c.in_ok-tuple.ensures c.in_ok-size.ensures.exact c.in_ok-state.ensures.exact c.in_ok-end.ensures.exact

pub overflow_sub-result : goal.overflow_sub-result
overflow_sub-result c = (read c).ends.within

pub returns-clause-read : goal.returns-clause-read
returns-clause-read c = (read c).all
