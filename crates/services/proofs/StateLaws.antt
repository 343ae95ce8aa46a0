-- A call that reads a state ends by a fault.
use Rattle.std.proofs.Common.{◌≡◌, ℕ, Result, Ok, Err, inl, inr, refl, ap, subst}
use Rattle.std.specs.Prelude.{IsErrAnd}
use Rattle.command_codec.specs.declared.fault.CodecFault.{CodecFault}
use Rattle.command_codec.specs.declared.fault.CodecFault.TheVariants as codec
use Rattle.command_codec.specs.Reader.{Spot, Fails}
use Rattle.services.specs.declared.fault.StateFault.{StateFault}
use Rattle.services.specs.Reading.{state_fault, SaysState, with_count}

by_fault : {X Y : Type 0} (view : X → Y) (read : Result Y CodecFault) (e : CodecFault) → Fails read e → SaysState view read (Err (state_fault e))
by_fault view read (codec.Short at) (inl memory) = absurd cc
by_fault view read (codec.Short at) (inr h) = (codec.Short at, h, refl)
by_fault view read (codec.BadKind at) (inl memory) = absurd cc
by_fault view read (codec.BadKind at) (inr h) = (codec.BadKind at, h, refl)
by_fault view read (codec.BadField at) (inl memory) = absurd cc
by_fault view read (codec.BadField at) (inr h) = (codec.BadField at, h, refl)
by_fault view read (codec.TooLong at) (inl memory) = absurd cc
by_fault view read (codec.TooLong at) (inr h) = (codec.TooLong at, h, refl)
by_fault view read (codec.Left at) (inl memory) = absurd cc
by_fault view read (codec.Left at) (inr h) = (codec.Left at, h, refl)
by_fault view read codec.Memory fails = tt

-- the fault of reading is the call's
pub ends_by : {X Y : Type 0} (view : X → Y) (read : Result Y CodecFault) (e : CodecFault) (r : Result X StateFault) → IsErrAnd r (λ x. x ≡ state_fault e) → Fails read e → SaysState view read r
ends_by view read e (Ok x) is fails = absurd is
ends_by {X} view read e (Err x) is fails = rw is (by_fault view read e fails)

pub count_fails : {V : Type 0} (read : Result (V × Spot) CodecFault) (e : CodecFault) → Fails read e → Fails (with_count read) e
count_fails read e (inl memory) = inl memory
count_fails read e (inr h) = inr (ap with_count h)

-- the same of a call that reads from the front of the bytes on
pub ends_from : {X V : Type 0} (view : X → V × ℕ) (read : Spot → Result (V × Spot) CodecFault) (spot first : Spot) (e : CodecFault) (r : Result X StateFault) → spot ≡ first → IsErrAnd r (λ x. x ≡ state_fault e) → Fails (read spot) e →
    SaysState view (with_count (read first)) r
ends_from view read spot first e r same is fails = ends_by view (with_count (read first)) e r is (count_fails (read first) e (subst (λ (s : Spot). Fails (read s) e) same fails))
