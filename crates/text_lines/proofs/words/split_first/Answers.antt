use Rattle.std.proofs.Common.{sym, ◌∙◌, ap, ◌+◌}
use Rattle.text_lines.proofs.Places.{pieces_of_at, pieces_at}
use Rattle.text_lines.proofs.words.split_first.Goals as goal
use Rattle.mrp_types.proofs.TestLemmas.{all_of_rest}

pub returns-in_default : goal.returns-in_default
returns-in_default c =
    let rest = c.args.rest.now in
    let byte = c.args.separator in
    sym (pieces_of_at byte rest ∙ ap (pieces_at byte rest) (sym c.in_default.ensures.place))

pub returns : goal.returns
returns c =
    let rest = c.args.rest.now in
    let byte = c.args.separator in
    rw (all_of_rest (c.in-Some.end + 1) rest) (sym (pieces_of_at byte rest ∙ ap (pieces_at byte rest) (sym c.in-Some.ensures.place)))
