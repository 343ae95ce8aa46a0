use Rattle.std.proofs.Common.{◌<◌, ◌∙◌, length, arith}
use Rattle.gate_log.proofs.Bytes.{room_is}
use Rattle.gate_log.proofs.body.Body.room.Goals as goal

pub returns-clause-room : goal.returns-clause-room
returns-clause-room c =
    let items = c.self.inside.written.items in
    let some : 0 < length items = grind (arith, c.if-is_empty.false, c.is_empty.ensures, c.self.inside.written.ok) in
    c.len.ensures ∙ c.self.inside.written.ok.0 ∙ room_is items c.args.self.now c.self.invariant c.self.view_is some
