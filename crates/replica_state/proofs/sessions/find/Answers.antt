use Rattle.std.proofs.Common.{◌∙◌, ap, Option}
use Rattle.std.specs.Option.{option_map}
use Rattle.replica_state.specs.declared.sessions.Kept.{Kept}
use Rattle.replica_state.specs.Held.{session_of}
use Rattle.replica_state.proofs.SessionLaws.{found, seen_through}
use Rattle.replica_state.proofs.sessions.find.Goals as goal

pub returns : goal.returns
returns c = seen_through c.args.client.0 c.get.result ∙ (ap (λ (o : Option Kept). option_map (λ (k : Kept). session_of (c.args.client.0, k)) o) c.get.ensures.value ∙ found c.args.client c.args.sessions.now.entries)
