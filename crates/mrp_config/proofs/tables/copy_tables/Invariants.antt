use Rattle.std.proofs.Common.{◌≡◌, ◌++◌, drop}
use Rattle.mrp_config.proofs.tables.copy_tables.Given as goal

-- what was done and what is left are the whole
abbrev pub invariant-loop-table : goal.invariant-loop-table
invariant-loop-table g l = l.copies.items ++ drop l.table-index l.tables ≡ l.tables
