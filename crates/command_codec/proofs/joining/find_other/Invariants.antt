use Rattle.std.proofs.Common.{◌≡◌, drop}
use Rattle.command_codec.specs.Replies.{first_other}
use Rattle.command_codec.proofs.joining.find_other.Given as goal

-- what is left to look through
abbrev pub invariant-loop-part : goal.invariant-loop-part
invariant-loop-part l = first_other (drop l.part-index l.parts) ≡ first_other l.parts
