use Rattle.std.proofs.Common.{◌≡◌, ◌++◌, drop}
use Rattle.std.specs.List.{AllByRecursion, flat_map}
use Rattle.command_codec.specs.Fields.{string16}
use Rattle.state_laws.specs.States.{IsShort}
use Rattle.dlog_service.proofs.log.put_values.Given as goal

-- what was written, and what is left to write
abbrev pub invariant-loop-value : goal.invariant-loop-value
invariant-loop-value l = record {
  all : l.to ++ flat_map string16 (drop l.value-index l.values) ≡ l.fn.to ++ flat_map string16 l.values;
  each : AllByRecursion IsShort (drop l.value-index l.values);
}
