-- A run of three acceptors, so that the laws are not about nothing. The values are numbers.
use Rattle.std.specs.Prelude.{ℕ, List, [], ◌∷◌}
use Rattle.ring_safety.specs.Faces.{Proposal}
use Rattle.ring_safety.specs.Deeds.{Promises, Starts, Proposes, Votes, Trims}
use Rattle.ring_safety.specs.Worlds.{World, Event, Step, Stopped, Before, After, empty, run}

-- Acceptor 1 starts ballot 1 in a step that is stopped, its disk stands for the state before, and it starts the ballot once
-- more. Acceptor 0 promises it in two pages, and acceptor 1 proposes 7 at instance 0. The vote of acceptor 0 is stopped, its
-- disk stands for the state before, and it votes once more.
abbrev pub with_state_before : List (Event ℕ)
with_state_before =
    Stopped 1 (Starts 1 10 ∷ []) ∷ Before 1 ∷ Step 1 (Starts 1 10 ∷ []) ∷ Step 0 (Promises 1 0 1 ∷ Promises 1 1 10 ∷ []) ∷ Step 1 (Proposes 1 0 7 ∷ [])
    ∷ Stopped 0 (Votes 1 0 7 ∷ []) ∷ Before 0 ∷ Step 0 (Votes 1 0 7 ∷ []) ∷ []

-- Acceptor 2 starts ballot 2, is stopped, and its disk stands for the state after: so it starts ballot 5. Acceptor 0
-- promises that one and tells its vote for 7, which acceptor 2 adopts. The vote of acceptor 1 is stopped, and its disk
-- stands for the state after. Then acceptor 0 lets instance 0 go.
abbrev pub with_state_after : List (Event ℕ)
with_state_after =
    Stopped 2 (Starts 2 10 ∷ []) ∷ After 2 ∷ Step 2 (Starts 5 10 ∷ []) ∷ Step 0 (Promises 5 0 10 ∷ []) ∷ Step 2 (Proposes 5 0 7 ∷ [])
    ∷ Stopped 1 (Votes 5 0 7 ∷ []) ∷ After 1 ∷ Step 0 (Trims 1 ∷ []) ∷ []

abbrev pub first_world : World ℕ
first_world = run with_state_before empty

abbrev pub second_world : World ℕ
second_world = run with_state_after first_world

-- 7 at instance 0, in a ballot
abbrev pub seven : ℕ → Proposal ℕ
seven ballot = record { ballot = ballot; instance = 0; value = 7 }
