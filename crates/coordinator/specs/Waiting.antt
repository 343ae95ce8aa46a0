-- The commands that wait, each under its name.
use Rattle.std.specs.Prelude.{◌≡◌, ℕ, zero, suc, ◌==◌, ◌&&◌, ◌||◌, Bool, false, true, List, [], ◌∷◌}
use Rattle.mrp_types.specs.declared.value.Entry.{Entry}
use Rattle.mrp_types.specs.Entries.{IsEntry}
use Rattle.protocol.specs.Parts.{Pending}
use Rattle.coordinator.specs.declared.queue.Name.{Name}

-- a command that may stand in a batch, under its client and number
abbrev pub IsNamed : Name × Entry → Type 0
IsNamed e = (e.0 ≡ record { client = e.1.client; seq = e.1.seq }) × IsEntry e.1

-- the commands as they wait, of which the first n are proposed
abbrev pub marked : ℕ → List (Name × Entry) → List Pending
marked n [] = []
marked zero (e ∷ es) = record { entry = e.1; proposed = false } ∷ marked zero es
marked (suc n) (e ∷ es) = record { entry = e.1; proposed = true } ∷ marked n es

abbrev pub same_name : Name → Name → Bool
same_name a b = (a.client.0 == b.client.0) && (a.seq == b.seq)

-- whether a name is that of one of these commands
abbrev pub is_named : Name → List Entry → Bool
is_named name [] = false
is_named name (entry ∷ entries) = ((name.client.0 == entry.client.0) && (name.seq == entry.seq)) || is_named name entries
