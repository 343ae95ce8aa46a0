-- Judging a list one after the other, as a loop does.
use Rattle.std.proofs.Common.{◌≡◌, List, [], ◌∷◌, ◌++◌, inl, inr, Result, Ok, Err, refl, sym, ap, ◌∙◌, append_assoc, append-nil}
use Rattle.std.specs.Prelude.{IsErrAnd}
use Rattle.config_walk.specs.declared.fault.ConfigFault.{ConfigFault}
use Rattle.mrp_types.specs.Reading.{◌>>=◌}
use Rattle.config_walk.specs.Values.{chain, Fails, Says}

-- what was found before, and what is still judged
abbrev pub before : {V : Type 0} → List V → Result (List V) ConfigFault → Result (List V) ConfigFault
before front walked = walked >>= λ vs. Ok (front ++ vs)

none_before : {V : Type 0} (walked : Result (List V) ConfigFault) → before [] walked ≡ walked
none_before (Ok vs) = refl
none_before (Err e) = refl

regroup : {V : Type 0} (front : List V) (v : V) (walked : Result (List V) ConfigFault) → before front (walked >>= λ vs. Ok (v ∷ vs)) ≡ before (front ++ v ∷ []) walked
regroup front v (Ok vs) = ap Ok (sym (append_assoc front (v ∷ []) vs))
regroup front v (Err e) = refl

-- nothing was judged yet
pub begins : {V : Type 0} (front : List V) (walked : Result (List V) ConfigFault) → front ≡ [] → before front walked ≡ walked
begins front walked none = rw none (none_before walked)

-- one more was found
pub goes_on : {S T V : Type 0} (read : S → T → Result V ConfigFault) (next : S → V → S) (asked : S) (front now : List V) (here later : List T) (t : T) (v : V) (total : Result (List V) ConfigFault) →
    here ≡ t ∷ later → read asked t ≡ Ok v → now ≡ front ++ v ∷ [] → before front (chain read next asked here) ≡ total → before now (chain read next (next asked v) later) ≡ total
goes_on read next asked front now here later t v total at found grown so_far =
    let one : before front (chain read next asked here) ≡ before (front ++ v ∷ []) (chain read next (next asked v) later) = rw (at, found) (regroup front v (chain read next (next asked v) later)) in
    rw grown (sym one ∙ so_far)

fails_by : {S T V : Type 0} (read : S → T → Result V ConfigFault) (next : S → V → S) (asked : S) (front : List V) (here later : List T) (t : T) (total : Result (List V) ConfigFault) (e : ConfigFault) →
    here ≡ t ∷ later → Fails (read asked t) e → before front (chain read next asked here) ≡ total → Fails total e
fails_by read next asked front here later t total e at (inl memory) so_far = inl memory
fails_by read next asked front here later t total e at (inr h) so_far =
    let one : before front (chain read next asked here) ≡ Err e = rw (at, h) refl in
    inr (sym so_far ∙ one)

-- the call ends by the fault of a turn
pub ends : {S T V X : Type 0} (view : X → List V) (read : S → T → Result V ConfigFault) (next : S → V → S) (asked : S) (front : List V) (here later : List T) (t : T) (total : Result (List V) ConfigFault)
    (e : ConfigFault) (r : Result X ConfigFault) → IsErrAnd r (λ x. x ≡ e) → here ≡ t ∷ later → Fails (read asked t) e → before front (chain read next asked here) ≡ total → Says view total r
ends view read next asked front here later t total e (Ok x) is at fails so_far = absurd is
ends view read next asked front here later t total e (Err x) is at fails so_far = rw is (fails_by read next asked front here later t total e at fails so_far)

-- none is left
pub is_done : {S T V : Type 0} (read : S → T → Result V ConfigFault) (next : S → V → S) (asked : S) (front : List V) (here : List T) (total : Result (List V) ConfigFault) →
    here ≡ [] → before front (chain read next asked here) ≡ total → total ≡ Ok front
is_done read next asked front here total none so_far =
    let one : before front (chain read next asked here) ≡ Ok front = rw none (ap Ok (append-nil front)) in
    sym so_far ∙ one
