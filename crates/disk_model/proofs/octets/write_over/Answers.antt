use Rattle.std.proofs.Common.{◌≡◌, ◌∙◌, ◌++◌, ◌-◌, ap, take, drop, length, length-drop, arith}
use Rattle.std.proofs.lemmas.List.{take_all}
use Rattle.disk_model.specs.Steps.{written}
use Rattle.disk_model.proofs.Bytes.{written_in_parts}
use Rattle.disk_model.proofs.octets.write_over.Goals as goal

pub returns-clause-written : goal.returns-clause-written
returns-clause-written c =
    let k = c.inside_of-inside.result in
    let from = c.args.from.now in
    let file = c.args.bytes.now.items in
    let rest : take (length from - k) (drop k from) ≡ drop k from = take_all (length from - k) (drop k from) (omega (arith, length-drop k from)) in
    let extended = c.in_ok-extend_from_slice.ensures.items ∙ ap (λ part. file ++ part) rest in
    let whole = written_in_parts c.args.at k from file (omega arith) in
    c.copy_inside.ensures ∙ ap (λ f. written c.args.at (take k from) f) extended ∙ whole
