use Rattle.std.proofs.Common.{◌∙◌, ap, List, ℕ}
use Rattle.replica_state.specs.declared.sessions.Kept.{Kept}
use Rattle.replica_state.specs.Held.{sessions_in}
use Rattle.replica_state.proofs.SessionLaws.{kept_in}
use Rattle.replica_state.proofs.sessions.keep.Goals as goal

pub returns-clause-ok : goal.returns-clause-ok
returns-clause-ok c = ap (λ (es : List (ℕ × Kept)). sessions_in es) c.in_ok-insert.ensures.entries ∙ kept_in c.args.sessions.now.entries c.args.client.0 c.args.kept
