-- Levelling, suspicion and maps of ranges along worked calls.
use Rattle.std.specs.Prelude.{ℕ, Bool, List, [], ◌∷◌, ◌++◌, Option, map, replicate}
use Rattle.mrp_types.specs.declared.id.NodeId.{NodeId}
use Rattle.range_map.specs.Entries.{entries_from, with_range}
use Rattle.ring_link.specs.Silence.{Event, is_suspected_after, successor_by}
use Rattle.ring_link.specs.Silence.{Tick as Passed}
use Rattle.skip_leveller.specs.Levelling.{Call, Started, Tick, answer_after}
use Rattle.worked_values.specs.Ids.{node}

-- ---- levelling

-- what each tick answers, the first calls made before
abbrev pub answers_from : ℕ → ℕ → List Call → List Call → List (Option ℕ)
answers_from lambda delta past [] = []
answers_from lambda delta past (Started n ∷ calls) = answers_from lambda delta (past ++ Started n ∷ []) calls
answers_from lambda delta past (Tick ∷ calls) = answer_after lambda delta past ∷ answers_from lambda delta (past ++ Tick ∷ []) calls

abbrev pub answers : ℕ → ℕ → List Call → List (Option ℕ)
answers lambda delta calls = answers_from lambda delta [] calls

abbrev pub ticks : ℕ → List Call
ticks n = replicate n Tick

-- ---- suspicion

-- which of the nodes 0 to 2 are suspected after these events, where two silent ticks are enough
abbrev pub suspected : List Event → List Bool
suspected events = map (is_suspected_after 2 events) (0 ∷ 1 ∷ 2 ∷ [])

-- the successor of node 0 among them
abbrev pub next_of_three : List Event → Option NodeId
next_of_three events = successor_by (is_suspected_after 2 events) (node 0 ∷ node 1 ∷ node 2 ∷ []) (node 0)

-- the successor in the ring of the nodes 5, 3 and 9, where so many silent ticks are enough and nothing has happened
abbrev pub next_at_first : ℕ → NodeId → Option NodeId
next_at_first suspect own = successor_by (is_suspected_after suspect []) (node 5 ∷ node 3 ∷ node 9 ∷ []) own

-- ---- maps of ranges

-- ten instances that hold 7, of which two hold 8 instead
abbrev pub parted : List (ℕ × ℕ)
parted = with_range 3 5 8 (with_range 0 10 7 [])

-- three ranges, swallowed by one
abbrev pub swallowed : List (ℕ × ℕ)
swallowed = with_range 1 6 8 (with_range 4 5 7 (with_range 2 3 8 (with_range 1 2 7 [])))

-- a range below what was cut
abbrev pub below_a_cut : List (ℕ × ℕ)
below_a_cut = with_range 1 2 8 (entries_from 4 (with_range 0 6 7 []))
