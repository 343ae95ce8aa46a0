use Rattle.range_map.proofs.SetLemmas.{settles_whole}
use Rattle.range_map.proofs.edits.settle.Goals as goal

pub returns : goal.returns
returns g c =
    settles_whole c.args.floor c.args.runs.now.entries c.cut_at.new.runs.entries c.clear_range.new.runs.entries c.requires c.in_ok-cut_at.ensures c.clear_range.ensures
