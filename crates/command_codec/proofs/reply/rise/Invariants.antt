use Rattle.std.proofs.Common.{◌≡◌, drop, []}
use Rattle.command_codec.specs.Replies.{keys_rise}
use Rattle.command_codec.proofs.reply.rise.Given as goal

-- what is left to judge
abbrev pub invariant-loop-entry : goal.invariant-loop-entry
invariant-loop-entry l = keys_rise l.before (drop l.entry-index l.entries) ≡ keys_rise [] l.entries
