use Rattle.std.specs.Prelude.{◌≤◌}
use Rattle.ask_laws.proofs.Given.{entry_of_bytes}
use Rattle.step_shape.proofs.Ending.{are_numbered, partitions_fit, opened_fits}
use Rattle.step_shape.proofs.an_opening_fits.Goals as goal
use Rattle.ask_laws.specs.Asks.{IsAsked}

pub returns : goal.returns
returns c = λ config valid asked id journal checkpoints carries keeps short none limit low.
    opened_fits config (are_numbered config valid) (IsAsked config asked) (λ r e is. entry_of_bytes config asked valid r e is) (λ epoch. epoch ≤ limit) id (partitions_fit config valid id) journal checkpoints carries keeps short none low
