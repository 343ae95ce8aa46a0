use Rattle.std.proofs.Common.{sym, ◌∙◌, inr}
use Rattle.std.proofs.lemmas.Bool.{false≢true}
use Rattle.toml.specs.View.{table_view}
use Rattle.mrp_config.proofs.Documents.{is_table, no_table}
use Rattle.mrp_config.proofs.deployment.read_table.Goals as goal

pub returns-in-Ok : goal.returns-in-Ok
returns-in-Ok c = is_table c.args.bytes.now (table_view c.in-Ok.table) c.if-bytes-gt-CONFIGURATION.false c.in-Ok.ensures.ok.0 c.in-Ok.ensures.ok.1

pub returns-else-is_memory : goal.returns-else-is_memory
returns-else-is_memory c = inr (no_table c.args.bytes.now c.if-bytes-gt-CONFIGURATION.false (λ utf8. c.in-Err.ensures.refused (λ is. false≢true (sym c.if-is_memory.false ∙ c.is_memory.ensures.1 is)) utf8))
