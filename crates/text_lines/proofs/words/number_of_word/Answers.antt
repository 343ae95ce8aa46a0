use Rattle.std.proofs.Common.{sym, ◌∙◌}
use Rattle.text_lines.proofs.Numbers.{no_text, is_large}
use Rattle.text_lines.proofs.words.number_of_word.Goals as goal

pub returns-in_default : goal.returns-in_default
returns-in_default c = no_text c.args.word.now c.in_default.ensures.cases.0

pub returns-in-Err : goal.returns-in-Err
returns-in-Err c =
    let decimal = sym c.has_decimal_form.ensures ∙ c.if-not-has_decimal_form.false in
    is_large c.args.word.now c.in-Ok.text.now c.parse.result c.in-Err.field-0 decimal c.in-Ok.ensures.cases.0 c.parse.ensures.value.0 c.in-Err.is
