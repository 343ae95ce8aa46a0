use Rattle.std.proofs.Common.{◌≡◌, ◌++◌, drop}
use Rattle.command_codec.proofs.joining.add_copies.Given as goal

-- the entries so far, and those still to add
abbrev pub invariant-loop-entry : goal.invariant-loop-entry
invariant-loop-entry l = l.all ++ drop l.entry-index l.entries ≡ l.fn.all ++ l.entries
