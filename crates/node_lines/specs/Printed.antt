-- Which lines a node prints in a step or an opening. The others are printed of it or beside it: that it is up or down, what clients
-- print, and what is shown when it is asked for.
use Rattle.protocol.specs.Lines.{Line, Answer, Busy, Down, Up, State, Frame, End}

abbrev pub IsNodeLine : Line → Type 0
IsNodeLine (Up node epoch) = ⊥
IsNodeLine (Down node cause) = ⊥
IsNodeLine (Answer client seq reply) = ⊥
IsNodeLine (Busy client seq) = ⊥
IsNodeLine (State node shown) = ⊥
IsNodeLine (Frame number shown) = ⊥
IsNodeLine (End events) = ⊥
IsNodeLine other = Unit {0}
