use Rattle.std.proofs.Common.{◌≡◌, ◌∷◌, ◌++◌, length, drop}
use Rattle.std.specs.List.{flat_map}
use Rattle.command_codec.specs.Replies.{position_bytes}
use Rattle.command_codec.proofs.reply.put_positions.Given as goal

-- what was written, and what is left to write
abbrev pub invariant-loop-position : goal.invariant-loop-position
invariant-loop-position l =
    l.out ++ flat_map position_bytes (drop l.position-index l.positions) ≡ l.fn.out ++ length l.positions ∷ flat_map position_bytes l.positions
