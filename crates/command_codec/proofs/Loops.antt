-- Reading a list one after the other, as a loop does.
use Rattle.std.proofs.Common.{◌≡◌, ℕ, suc, ◌-◌, ◌+◌, ◌≤◌, ◌<◌, List, [], ◌∷◌, ◌++◌, inl, inr, Result, Ok, Err, refl, sym, ap, ◌∙◌, append_assoc, append-nil, arith}
use Rattle.std.specs.Prelude.{IsErrAnd}
use Rattle.command_codec.specs.declared.fault.CodecFault.{CodecFault}
use Rattle.mrp_types.specs.Reading.{◌>>=◌, chain}
use Rattle.command_codec.specs.Reader.{Spot, Reader, Fails, Reads}

-- what was read before, and what is still read
abbrev pub before : {V : Type 0} → List V → Result (List V × Spot) CodecFault → Result (List V × Spot) CodecFault
before front read = read >>= λ x. Ok (front ++ x.0, x.1)

pub none_before : {V : Type 0} (read : Result (List V × Spot) CodecFault) → before [] read ≡ read
none_before (Ok x) = refl
none_before (Err e) = refl

-- nothing was read yet
pub begins : {S V : Type 0} (read : S → Reader V) (next : V → S) (front : List V) (count : ℕ) (asked : S) (spot : Spot) → front ≡ [] →
    before front (chain read next (count - 0) asked spot) ≡ chain read next count asked spot
begins read next front count asked spot none =
    let k : count - 0 ≡ count = omega arith in
    rw (none, k) (none_before (chain read next count asked spot))

regroup : {V : Type 0} (front : List V) (v : V) (read : Result (List V × Spot) CodecFault) →
    before front (read >>= λ x. Ok (v ∷ x.0, x.1)) ≡ before (front ++ v ∷ []) read
regroup {V} front v (Ok x) = ap (λ (vs : List V). Ok (vs, x.1)) (sym (append_assoc front (v ∷ []) x.0))
regroup front v (Err e) = refl

pub goes_on : {S V : Type 0} (read : S → Reader V) (next : V → S) (front now : List V) (count turn : ℕ) (asked : S) (spot : Spot) (v : V) (behind : Spot) (total : Result (List V × Spot) CodecFault) →
    turn < count → read asked spot ≡ Ok (v, behind) → now ≡ front ++ v ∷ [] →
    before front (chain read next (count - turn) asked spot) ≡ total → before now (chain read next (count - (turn + 1)) (next v) behind) ≡ total
goes_on read next front now count turn asked spot v behind total less h grown so_far =
    let k : count - turn ≡ suc (count - (turn + 1)) = omega arith in
    let one : before front (chain read next (count - turn) asked spot) ≡ before (front ++ v ∷ []) (chain read next (count - (turn + 1)) (next v) behind) =
    rw (k, h) (regroup front v (chain read next (count - (turn + 1)) (next v) behind)) in
    rw grown (sym one ∙ so_far)

fails_by : {S V : Type 0} (read : S → Reader V) (next : V → S) (front : List V) (count turn : ℕ) (asked : S) (spot : Spot) (total : Result (List V × Spot) CodecFault) (e : CodecFault) →
    turn < count → Fails (read asked spot) e → before front (chain read next (count - turn) asked spot) ≡ total → Fails total e
fails_by read next front count turn asked spot total e less (inl memory) so_far = inl memory
fails_by read next front count turn asked spot total e less (inr h) so_far =
    let k : count - turn ≡ suc (count - (turn + 1)) = omega arith in
    let one : before front (chain read next (count - turn) asked spot) ≡ Err e = rw (k, h) refl in
    inr (sym so_far ∙ one)

-- the call ends by the fault of a turn
pub ends : {S V X : Type 0} (view : X → List V) (read : S → Reader V) (next : V → S) (front : List V) (count turn : ℕ) (asked : S) (spot left : Spot) (total : Result (List V × Spot) CodecFault)
    (e : CodecFault) (r : Result X CodecFault) → IsErrAnd r (λ x. x ≡ e) →
    turn < count → Fails (read asked spot) e → before front (chain read next (count - turn) asked spot) ≡ total → Reads view total r left
ends view read next front count turn asked spot left total e (Ok x) is less fails so_far = absurd is
ends view read next front count turn asked spot left total e (Err x) is less fails so_far =
    rw is (fails_by read next front count turn asked spot total e less fails so_far)

pub is_done : {S V : Type 0} (read : S → Reader V) (next : V → S) (front : List V) (count turn : ℕ) (asked : S) (spot : Spot) (total : Result (List V × Spot) CodecFault) →
    count ≤ turn → before front (chain read next (count - turn) asked spot) ≡ total → total ≡ Ok (front, spot)
is_done {S} {V} read next front count turn asked spot total most so_far =
    let k : count - turn ≡ 0 = omega arith in
    let one : before front (chain read next (count - turn) asked spot) ≡ Ok (front, spot) = rw k (ap (λ (vs : List V). Ok (vs, spot)) (append-nil front)) in
    sym so_far ∙ one
