use Rattle.std.proofs.Common.{ap, sym, ◌∙◌, ◌≡◌, Some}
use Rattle.std.specs.Option.{option_map}
use Rattle.mrp_config.specs.Config.{ring_at}
use Rattle.client_core.proofs.waiting.acceptor_of.Goals as goal

pub returns : goal.returns
returns c =
    let found : ring_at c.args.deployment.now.rings c.args.ring.0 ≡ Some c.in-Some.table.now = sym c.ring.ensures ∙ ap (option_map (λ t. t.now)) c.in-Some.is in
    rw found (sym c.at.ensures ∙ c.in-Some-at.is)
