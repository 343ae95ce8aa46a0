use Rattle.std.proofs.Common.{arith, ◌≡◌, length}
use Rattle.std.specs.Prelude.{string_bytes}
use Rattle.mrpaxos.proofs.Endings.{one_item, replay_if}
use Rattle.mrpaxos.proofs.top.is_replay.Goals as goal

pub returns-in-len1 : goal.returns-in-len1
returns-in-len1 c =
    let one : length c.args.words.now ≡ 1 = grind (arith, c.in-len1.len_at_least, c.in-len1.len_below) in
    replay_if _ (string_bytes c.word-item.result) c.as_str.result.now c.eq.result (one_item string_bytes c.args.words.now c.word-item.result one c.word-item.is)
    c.as_str.ensures.value c.eq.ensures
