use Rattle.std.proofs.Common.{◌≡◌, ◌∷◌, ◌++◌, length, map, drop}
use Rattle.mrp_types.specs.declared.id.LogId.{LogId}
use Rattle.command_codec.proofs.command.put_logs.Given as goal

-- what was written, and what is left to write
abbrev pub invariant-loop-log : goal.invariant-loop-log
invariant-loop-log l =
    l.out ++ map (λ (log : LogId). log.0) (drop l.log-index l.logs) ≡ l.fn.out ++ length l.logs ∷ map (λ (log : LogId). log.0) l.logs
