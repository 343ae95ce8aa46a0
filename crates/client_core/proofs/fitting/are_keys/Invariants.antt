use Rattle.std.proofs.Common.{◌≡◌, drop}
use Rattle.protocol.specs.Client.{are_keys_of}
use Rattle.client_core.proofs.fitting.are_keys.Given as goal

-- the keys still to be tested decide
abbrev pub invariant-loop-entry : goal.invariant-loop-entry
invariant-loop-entry l = are_keys_of l.p l.from l.to (drop l.entry-index l.entries) ≡ are_keys_of l.p l.from l.to l.entries
