use Rattle.std.proofs.Common.{◌≡◌, drop}
use Rattle.protocol.specs.Client.{are_positions_of, own_of}
use Rattle.client_core.proofs.fitting.are_of.Given as goal

-- the logs and positions still to be compared decide
abbrev pub invariant-loop-log : goal.invariant-loop-log
invariant-loop-log l = are_positions_of (own_of l.p (drop l.log-index l.logs)) l.rest ≡ are_positions_of (own_of l.p l.logs) l.positions
