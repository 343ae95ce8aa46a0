use Rattle.std.proofs.Common.{map, sym}
use Rattle.toml.specs.View.{view}
use Rattle.config_walk.proofs.Views.{entries_are}
use Rattle.config_walk.proofs.values.entries_in.Goals as goal

pub returns : goal.returns
returns c = rw c.as_slice.ensures.value (entries_are c.args.name.now (view c.args.value.now) (map view c.in-Some.values.now.items) (sym c.in-Some.ensures))
