use Rattle.std.proofs.Common.{arith, ap, sym, ◌∙◌, ◌≡◌, ◌<◌, length, Some}
use Rattle.std.specs.Option.{option_map}
use Rattle.mrp_config.specs.Config.{ring_at}
use Rattle.client_core.proofs.waiting.next_turn.Goals as goal

pub overflow_add-turn : goal.overflow_add-turn
overflow_add-turn c =
    let found : ring_at c.args.deployment.now.rings c.args.ring.0 ≡ Some c.in-Some.table.now = sym c.ring.ensures ∙ ap (option_map (λ t. t.now)) c.in-Some.is in
    let low : c.args.turn < length c.in-Some.table.now.acceptors = rw found at c.requires in
    let fits : c.len-count.result < 256 = c.len-count.type_inv in
    omega (arith, low, c.len-count.ensures, fits)
