-- An attempt as it is kept.
use Rattle.std.specs.Prelude.{ℕ, ◌+◌, ◌<◌, ◌≤◌, List, length, Option, Some, None}
use Rattle.mrp_types.specs.Seats.{numbers_of_nodes}
use Rattle.mrp_config.specs.Valid.{AreAtMost}
use Rattle.protocol.specs.Node.{Choice}
use Rattle.recovery.specs.declared.attempt.Chosen.{Chosen}
use Rattle.recovery.specs.Attempts.{Trying}

-- the choice, with the bytes that came
abbrev pub choice_with : List ℕ → Option Chosen → Option Choice
choice_with bytes None = None
choice_with bytes (Some chosen) = Some (record { tuple = chosen.tuple; from = chosen.from; bytes = bytes })

-- without a choice there are too few answers
abbrev pub AreFew : Option Choice → ℕ → ℕ → Type 0
AreFew None needed answered = answered < needed
AreFew (Some choice) needed answered = Unit {0}

pub record IsTrying (r : Trying) : Type 0 where
  pub few : AreFew r.attempt.choice r.needed (length r.attempt.answers)
  pub needed : r.needed ≤ 7
  pub limit : r.limit ≤ 10000
  pub ticks : r.attempt.ticks ≤ r.limit + 1
  pub low : AreAtMost 31 (numbers_of_nodes r.replicas)
