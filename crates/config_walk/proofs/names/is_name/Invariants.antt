use Rattle.std.proofs.Common.{◌≡◌, drop, map}
use Rattle.config_walk.specs.Values.{is_name}
use Rattle.config_walk.proofs.names.is_name.Given as goal

-- what is left to look through
abbrev pub invariant-loop-known : goal.invariant-loop-known
invariant-loop-known l = is_name l.name (map (λ s. s.now) (drop l.known-index l.names)) ≡ is_name l.name (map (λ s. s.now) l.names)
