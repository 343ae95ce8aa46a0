-- Attempts made by hand: three replicas of one ring, two answers needed, twenty ticks.
use Rattle.std.specs.Prelude.{ℕ, false, List, [], ◌∷◌, None}
use Rattle.mrp_types.specs.declared.id.NodeId.{NodeId}
use Rattle.mrp_types.specs.declared.id.RingId.{RingId}
use Rattle.recovery.specs.Attempts.{Trying, with_answers, heard, parted, gone}

abbrev pub node : ℕ → NodeId
node number = record { 0 = number }

abbrev pub at : ℕ → List (RingId × ℕ)
at inst = ((record { 0 = 0 }), inst) ∷ []

-- the first attempt of node 2 in its third epoch, at instance 5, after some ticks
abbrev pub first_after : ℕ → Trying
first_after ticks = with_answers ((node 2, at 5) ∷ []) (record {
  own = node 2;
  epoch = 3;
  replicas = node 1 ∷ node 2 ∷ node 4 ∷ [];
  needed = 2;
  limit = 20;
  attempt = record { number = 1; ticks = ticks; answers = []; choice = None };
  whole = false;
  changed = false;
})

abbrev pub first : Trying
first = first_after 0

-- node 4 has come further
abbrev pub chosen : Trying
chosen = heard (node 4) 3 1 (at 9) first

-- its first two bytes of three
abbrev pub half : Trying
half = parted (node 4) 3 1 (at 9) 0 3 (7 ∷ 8 ∷ []) chosen

abbrev pub all : Trying
all = parted (node 4) 3 1 (at 9) 2 3 (9 ∷ []) half

-- it has a newer one meanwhile
abbrev pub renewed : Trying
renewed = gone (node 4) 3 1 (at 9) (at 12) half
