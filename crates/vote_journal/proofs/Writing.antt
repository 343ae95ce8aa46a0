-- A record that is added to a log.
use Rattle.std.proofs.Common.{◌≡◌, ◌⊎◌, inl, ℕ, List, [], ◌++◌, Result, Ok, Err, IsErrOf, MatchResult, ap, ◌∙◌}
use Rattle.gate_log.specs.declared.fault.LogFault.{LogFault}
use Rattle.gate_log.specs.declared.fault.LogFault.TheVariants.{Memory}

pub body_is : (body none bytes : List ℕ) → body ≡ none ++ bytes → none ≡ [] → body ≡ bytes
body_is body none bytes pushed empty = pushed ∙ ap (λ (l : List ℕ). l ++ bytes) empty

-- a result that is this error
pub only_error : {T : Type 0} (r : Result T LogFault) (e : LogFault) → IsErrOf r e → MatchResult r (λ x. ⊥) (λ fault. (fault ≡ e) ⊎ (fault ≡ Memory))
only_error (Ok x) e is = absurd cc
only_error (Err f) e is = inl cc
