use Rattle.std.proofs.Common.{◌≡◌, ◌<◌, ◌∙◌, length, arith, sym, ap}
use Rattle.gate_log.specs.Records.{behind_gate}
use Rattle.gate_log.proofs.Bytes.{sized, behind_is, behind-none}
use Rattle.gate_log.proofs.body.Body.written.Goals as goal

pub returns-then-is_empty : goal.returns-then-is_empty
returns-then-is_empty c =
    let items = c.self.inside.written.items in
    let none : length items ≡ 0 = grind (arith, c.if-is_empty.true, c.is_empty.ensures, c.self.inside.written.ok) in
    sym behind-none ∙ ap behind_gate (sym (sized items c.args.self.now c.self.invariant c.self.view_is none))

pub returns : goal.returns
returns c =
    let items = c.self.inside.written.items in
    let some : 0 < length items = grind (arith, c.if-is_empty.false, c.is_empty.ensures, c.self.inside.written.ok) in
    c.deref.ensures.value ∙ behind_is items c.args.self.now c.self.invariant c.self.view_is some c.requires
