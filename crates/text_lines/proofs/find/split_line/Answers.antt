use Rattle.std.proofs.Common.{◌∙◌, ◌<◌, ◌+◌, ap, sym, arith, length}
use Rattle.std.proofs.lemmas.Grind.{common_steps}
use Rattle.text_lines.proofs.Places.{first_line_at, line_at, line_cut, line_whole}
use Rattle.text_lines.proofs.find.split_line.Goals as goal
use Rattle.mrp_types.proofs.TestLemmas.{all_of_rest}

pub returns-in_default : goal.returns-in_default
returns-in_default c =
    let bytes = c.args.bytes.now in
    let some : 0 < length bytes = grind (arith, common_steps, c.if-is_empty.ensures) in
    line_whole bytes some ∙ sym (first_line_at bytes ∙ ap (line_at bytes) (sym c.in_default.ensures.place))

pub returns : goal.returns
returns c =
    let bytes = c.args.bytes.now in
    let some : 0 < length bytes = grind (arith, common_steps, c.if-is_empty.ensures) in
    rw (all_of_rest (c.in-Some.end + 1) bytes) (line_cut bytes c.in-Some.end some ∙ sym (first_line_at bytes ∙ ap (line_at bytes) (sym c.in-Some.ensures.place)))
