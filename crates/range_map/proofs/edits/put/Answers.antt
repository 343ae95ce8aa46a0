use Rattle.std.proofs.Common.{refl}
use Rattle.range_map.proofs.SetLemmas.{placed_set, sets_whole}
use Rattle.range_map.proofs.edits.put.Goals as goal

pub join_at-requires : goal.join_at-requires
join_at-requires g c =
    let first = c.in_ok-cut_at.ensures in
    let second = c.in_ok-cut_at-2.ensures in
    placed_set c.cut_at-2.new.runs.entries c.clear_range.new.runs c.insert.new.self c.args.lo c.args.hi _ c.requires.range c.requires.end second.placed (second.kept c.args.lo first.cut) c.clear_range.ensures c.in_ok-insert.ensures.updates refl
    c.in_ok-insert.ensures.ordered

pub returns : goal.returns
returns g c =
    let first = c.in_ok-cut_at.ensures in
    let second = c.in_ok-cut_at-2.ensures in
    let placed = placed_set c.cut_at-2.new.runs.entries c.clear_range.new.runs c.insert.new.self c.args.lo c.args.hi _ c.requires.range c.requires.end second.placed (second.kept c.args.lo first.cut) c.clear_range.ensures
    c.in_ok-insert.ensures.updates refl c.in_ok-insert.ensures.ordered in
    sets_whole c.args.runs.now.entries c.cut_at.new.runs.entries c.cut_at-2.new.runs.entries c.clear_range.new.runs c.insert.new.self c.join_at.new.runs.entries c.join_at-2.new.runs.entries c.args.lo c.args.hi _ c.requires.range
    c.requires.maximal first second c.clear_range.ensures c.in_ok-insert.ensures.updates refl placed c.in_ok-join_at.ensures c.in_ok-join_at-2.ensures
