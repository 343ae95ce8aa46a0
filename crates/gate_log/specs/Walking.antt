-- What the walk over the bytes of an area answers.
use Rattle.std.specs.Prelude.{◌≡◌, ◌⊎◌, ◌+◌, ◌++◌, ◌<◌, ◌≤◌, MatchResult, ℕ, List, Vec, Result, Ok, Err}
use Rattle.std.specs.declared.alloc.Global.{Global}
use Rattle.disk_model.specs.declared.area.Area.{Area}
use Rattle.gate_log.specs.declared.fault.LogFault.{LogFault}
use Rattle.gate_log.specs.declared.fault.LogFault.TheVariants.{Damaged, Memory}
use Rattle.gate_log.specs.declared.walking.Gate.{Gate}
use Rattle.gate_log.specs.declared.walking.Gate.TheVariants.{Shut as GateShut, Opens as GateOpens, Broken as GateBroken}
use Rattle.gate_log.specs.Records.{Mark, Shut, Opens, Broken}

-- the records, or the damaged place, unless memory was wanting
abbrev pub Walks : Area → Result (List (List ℕ)) ℕ → Result (Vec (List ℕ) Global × ℕ) LogFault → Type 0
Walks area (Ok records) result = MatchResult result (λ found. found.0.items ≡ records) (λ fault. fault ≡ Memory)
Walks area (Err at) result = MatchResult result (λ found. ⊥) (λ fault. (fault ≡ Damaged area at) ⊎ (fault ≡ Memory))

-- what the code found at a gate, of an area of some length
abbrev pub IsMark : ℕ → ℕ → Mark → Gate → Type 0
IsMark len at Shut gate = (gate ≡ GateShut) × (at < len)
IsMark len at (Opens size) gate = (gate ≡ GateOpens size) × (at + (5 + size) ≤ len)
IsMark len at Broken gate = gate ≡ GateBroken

-- the records found so far and those of the rest
abbrev pub after_some : List (List ℕ) → Result (List (List ℕ)) ℕ → Result (List (List ℕ)) ℕ
after_some found (Ok more) = Ok (found ++ more)
after_some found (Err at) = Err at
