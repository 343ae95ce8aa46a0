use Rattle.std.specs.Prelude.{◌≤◌}
use Rattle.ask_laws.proofs.Given.{entry_of_bytes}
use Rattle.step_shape.proofs.Ending.{are_numbered, tables_differ, step_fits}
use Rattle.step_shape.proofs.a_step_fits.Goals as goal
use Rattle.ask_laws.specs.Asks.{IsAsked}
use Rattle.mrp_config.specs.Valid.{IsValid}

pub returns : goal.returns
returns c = λ config valid asked view v carries f limit low event.
    step_fits config (are_numbered config valid) (tables_differ config valid) (IsAsked config asked) (IsValid config) valid (λ r e is. is.entry) (λ deployed r e is. entry_of_bytes config asked deployed r e is) (λ epoch. epoch ≤ limit) view v carries f low event
