use Rattle.std.proofs.Common.{◌≡◌, ◌≤◌, take}
use Rattle.std.specs.Str.Parse.{AllDigits, digits_value}
use Rattle.config_walk.proofs.address.front_number.Given as goal

-- so many digits stand in front, and this is their value
abbrev pub invariant-loop-byte : goal.invariant-loop-byte
invariant-loop-byte l =
    (l.count ≡ l.byte-index) × AllDigits 10 (take l.count l.text) × (l.value ≡ digits_value 10 (take l.count l.text)) × (l.value ≤ l.most)
