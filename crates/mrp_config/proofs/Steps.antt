-- What steps one after the other come to.
use Rattle.std.proofs.Common.{◌≡◌, inl, inr, Result, Ok, Err, refl, ap, ◌∙◌}
use Rattle.std.specs.Prelude.{IsErrAnd}
use Rattle.config_walk.specs.declared.fault.ConfigFault.{ConfigFault}
use Rattle.mrp_types.specs.Reading.{◌>>=◌}
use Rattle.config_walk.specs.Values.{Fails, Says}

pub step : {A B : Type 0} (r : Result A ConfigFault) (f : A → Result B ConfigFault) (x : A) (z : Result B ConfigFault) → r ≡ Ok x → f x ≡ z → (r >>= f) ≡ z
step r f x z found later = ap (λ (s : Result _ ConfigFault). s >>= f) found ∙ later

-- the first step fails
pub fails_here : {A B : Type 0} (r : Result A ConfigFault) (f : A → Result B ConfigFault) (e : ConfigFault) → Fails r e → Fails (r >>= f) e
fails_here r f e (inl memory) = inl memory
fails_here r f e (inr h) = inr (rw h refl)

-- one of the later steps fails
pub fails_later : {A B : Type 0} (r : Result A ConfigFault) (f : A → Result B ConfigFault) (x : A) (e : ConfigFault) → r ≡ Ok x → Fails (f x) e → Fails (r >>= f) e
fails_later r f x e found later = rw found later

-- the call ends by the fault of a step
pub ends_by : {X Y : Type 0} (view : X → Y) (walked : Result Y ConfigFault) (e : ConfigFault) (r : Result X ConfigFault) → IsErrAnd r (λ x. x ≡ e) → Fails walked e → Says view walked r
ends_by view walked e (Ok x) is fails = absurd is
ends_by view walked e (Err x) is fails = rw is fails
