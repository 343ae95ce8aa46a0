use Rattle.std.proofs.Common.{arith, ◌≡◌, length}
use Rattle.std.specs.Prelude.{string_bytes}
use Rattle.mrpaxos.proofs.AskedWords.{three_items, asked, not_asked}
use Rattle.mrpaxos.proofs.draw.draw_of.Goals as goal

pub returns-in-len3-clause-found : goal.returns-in-len3-clause-found
returns-in-len3-clause-found c =
    let three : length c.args.words.now ≡ 3 = grind (arith, c.in-len3.len_at_least, c.in-len3.len_below) in
    let words = three_items string_bytes c.args.words.now c.word-item.result c.seed-item.result c.events-item.result three c.word-item.is c.seed-item.is c.events-item.is in
    asked _ _ (string_bytes c.word-item.result) (string_bytes c.seed-item.result) (string_bytes c.events-item.result) _ _ _ words
    c.as_bytes.ensures.value c.as_bytes-in-len3.ensures.value c.as_bytes-in-len3-2.ensures.value c.draw_with.ensures

pub returns-in-len3-clause-none : goal.returns-in-len3-clause-none
returns-in-len3-clause-none c =
    let three : length c.args.words.now ≡ 3 = grind (arith, c.in-len3.len_at_least, c.in-len3.len_below) in
    let words = three_items string_bytes c.args.words.now c.word-item.result c.seed-item.result c.events-item.result three c.word-item.is c.seed-item.is c.events-item.is in
    not_asked _ _ (string_bytes c.word-item.result) (string_bytes c.seed-item.result) (string_bytes c.events-item.result) _ _ _ words
    c.as_bytes.ensures.value c.as_bytes-in-len3.ensures.value c.as_bytes-in-len3-2.ensures.value c.draw_with.ensures
