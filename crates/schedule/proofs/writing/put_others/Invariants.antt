use Rattle.std.proofs.Common.{◌≡◌, ◌++◌, drop, map}
use Rattle.std.specs.List.{flat_map}
use Rattle.std.specs.Fmt.{decimal}
use Rattle.text_lines.specs.Text.{set_off}
use Rattle.mrp_types.specs.declared.id.LogId.{LogId}
use Rattle.schedule.proofs.writing.put_others.Given as goal

-- what was written, and what is left to write
abbrev pub invariant-loop-log : goal.invariant-loop-log
invariant-loop-log l =
    l.out ++ flat_map (set_off 44) (map (λ (log : LogId). decimal log.0) (drop l.log-index l.logs)) ≡ l.fn.out ++ flat_map (set_off 44) (map (λ (log : LogId). decimal log.0) l.logs)
