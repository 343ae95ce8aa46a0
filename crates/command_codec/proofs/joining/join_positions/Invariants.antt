use Rattle.std.proofs.Common.{◌≡◌, ◌++◌, drop}
use Rattle.std.specs.List.{flat_map}
use Rattle.command_codec.specs.Replies.{positions_of}
use Rattle.command_codec.proofs.joining.join_positions.Given as goal

-- the positions so far, and those still to add
abbrev pub invariant-loop-part : goal.invariant-loop-part
invariant-loop-part l = l.all ++ flat_map positions_of (drop l.part-index l.parts) ≡ flat_map positions_of l.parts
