use Rattle.std.proofs.Common.{◌≡◌, length, arith}
use Rattle.gate_log.proofs.Bytes.{begun_is}
use Rattle.gate_log.proofs.body.begin.Goals as goal

pub returns-in_ok-extend_from_slice-clause-ok : goal.returns-in_ok-extend_from_slice-clause-ok
returns-in_ok-extend_from_slice-clause-ok c =
    let none : length c.args.written.now.items ≡ 0 = grind (arith, c.if-is_empty.true, c.is_empty.ensures, c.args.written.now.ok) in
    begun_is c.args.written.now.items c.extend_from_slice.new.self.items none c.in_ok-extend_from_slice.ensures.items
