-- Suspicion: how long a node was silent, read off the ticks and hearings so far; and the cyclic order of a ring.
use Rattle.std.specs.Prelude.{ℕ, ◌+◌, Bool, true, false, not, ◌&&◌, ◌==◌, nat_le, min, map, List, ◌++◌, Option, find, count_by, slice_index, slice_set}
use Rattle.std.specs.List.{before_first, after_first, after_last, range_with_len}
use Rattle.mrp_types.specs.declared.id.NodeId.{NodeId}

-- what a node takes note of: a tick of its own, or a frame of the node with this number
pub data Event : Type 0 where
  Tick : Event
  Heard : ℕ → Event

abbrev pub is_tick : Event → Bool
is_tick Tick = true
is_tick (Heard n) = false

-- whether it is a frame of this node
abbrev pub is_hearing : ℕ → Event → Bool
is_hearing node Tick = false
is_hearing node (Heard n) = n == node

-- how many ticks passed since a frame of the node was heard last, or since the start where none was
abbrev pub silence : ℕ → List Event → ℕ
silence node events = count_by is_tick (after_last (is_hearing node) events)

-- whether the node is suspected: it was silent for `suspect` ticks or more
abbrev pub is_suspected_after : ℕ → List Event → ℕ → Bool
is_suspected_after suspect events node = nat_le suspect (silence node events)

-- the others of a ring, from the one after `own` on and round to the one before it; from the first on where `own` isn't listed
abbrev pub round_from : NodeId → List NodeId → List NodeId
round_from own order = after_first (λ n. n.0 == own.0) order ++ before_first (λ n. n.0 == own.0) order

-- whether a node is another one and isn't suspected
abbrev pub is_next : (ℕ → Bool) → NodeId → NodeId → Bool
is_next suspected own node = not (node.0 == own.0) && not (suspected node.0)

-- the first of them that is another node and isn't suspected
abbrev pub successor_by : (ℕ → Bool) → List NodeId → NodeId → Option NodeId
successor_by suspected order own = find (is_next suspected own) (round_from own order)

-- What is kept: the number of ticks, and for each node its silence, which stands still at 65,535.
pub record Link : Type 0 where
  pub suspect : ℕ
  pub quiet : List ℕ

-- the silence of each node, by its number
unfoldable pub quiet_after : List Event → List ℕ
quiet_after events = map (λ node. min (silence node events) 65535) (range_with_len 0 256)

-- what is kept once these events were taken note of
abbrev pub link_after : ℕ → List Event → Link
link_after suspect events = record { suspect = suspect; quiet = quiet_after events }

-- What is kept, event by event, for a definition that holds no list of events: that it agrees with the lists is promised by the calls.

abbrev pub longer : ℕ → ℕ
longer quiet = min (quiet + 1) 65535

-- once a tick passed
abbrev pub with_tick : Link → Link
with_tick l = record l { quiet = map longer l.quiet }

-- once a frame of the node was heard
abbrev pub with_heard : ℕ → Link → Link
with_heard node l = record l { quiet = slice_set l.quiet node 0 }

-- whether the node is suspected
abbrev pub is_silent : Link → ℕ → Bool
is_silent l node = nat_le l.suspect (slice_index l.quiet node)
