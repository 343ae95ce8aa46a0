use Rattle.std.proofs.Common.{sym}
use Rattle.text_lines.proofs.Numbers.{some_piece}
use Rattle.text_lines.proofs.words.Words.end.Goals as goal

pub returns-in-Some : goal.returns-in-Some
returns-in-Some c = rw (← c.self.view_is, c.in-Some.is) (sym (some_piece c.self.inside.separator c.in-Some.field-0.now))
