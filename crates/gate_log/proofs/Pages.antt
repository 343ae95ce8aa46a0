-- Reading an area in pieces, and walking over its bytes.
use Rattle.std.proofs.Common.{◌≡◌, ℕ, ◌+◌, ◌<◌, ◌≤◌, inl, List, [], ◌∷◌, ◌++◌, drop, Vec, Result, Ok, Err, suc, refl, ap, sym, ◌∙◌, subst, append_assoc, arith}
use Rattle.std.specs.declared.alloc.Global.{Global}
use Rattle.std.proofs.lemmas.List.{append-nil}
use Rattle.disk_model.specs.declared.area.Area.{Area}
use Rattle.gate_log.specs.declared.fault.LogFault.TheVariants.{Damaged}
use Rattle.gate_log.specs.declared.walking.Gate.{Gate}
use Rattle.gate_log.specs.declared.walking.Gate.TheVariants.{Shut as GateShut, Opens as GateOpens, Broken as GateBroken}
use Rattle.gate_log.specs.Records.{Mark, Shut, Opens, Broken, mark_of, preceded, record_at, by_mark, records_from}
use Rattle.gate_log.specs.Walking.{Walks, IsMark, after_some}

pub opens_is : (len at : ℕ) (m : Mark) (gate : Gate) (size : ℕ) → IsMark len at m gate → gate ≡ GateOpens size → (m ≡ Opens size) × (at + (5 + size) ≤ len)
opens_is len at Shut gate size is opens = absurd (let no : GateShut ≡ GateOpens size = sym is.0 ∙ opens in cc)
opens_is len at (Opens s) gate size is opens =
    let e : GateOpens s ≡ GateOpens size = sym is.0 ∙ opens in
    let same : s ≡ size = cc in
    (ap Opens same, omega (arith, is.1, same))
opens_is len at Broken gate size is opens = absurd (let no : GateBroken ≡ GateOpens size = sym is ∙ opens in cc)

pub shut_is : (len at : ℕ) (m : Mark) (gate : Gate) → IsMark len at m gate → gate ≡ GateShut → (m ≡ Shut) × (at < len)
shut_is len at Shut gate is shut = (refl, is.1)
shut_is len at (Opens s) gate is shut = absurd (let no : GateOpens s ≡ GateShut = sym is.0 ∙ shut in cc)
shut_is len at Broken gate is shut = absurd (let no : GateBroken ≡ GateShut = sym is ∙ shut in cc)

pub broken_is : (len at : ℕ) (m : Mark) (gate : Gate) → IsMark len at m gate → gate ≡ GateBroken → m ≡ Broken
broken_is len at Shut gate is broken = absurd (let no : GateShut ≡ GateBroken = sym is.0 ∙ broken in cc)
broken_is len at (Opens s) gate is broken = absurd (let no : GateOpens s ≡ GateBroken = sym is.0 ∙ broken in cc)
broken_is len at Broken gate is broken = refl

record_moves : (found : List (List ℕ)) (r : List ℕ) (x : Result (List (List ℕ)) ℕ) → after_some (found ++ r ∷ []) x ≡ after_some found (preceded r x)
record_moves found r (Ok more) = ap Ok (append_assoc found (r ∷ []) more)
record_moves found r (Err at) = refl

marked : (most at : ℕ) (rest : List ℕ) (m : Mark) → mark_of rest ≡ m
    → records_from (suc most) at rest ≡ by_mark m at (λ size. preceded (record_at size rest) (records_from most (at + (5 + size)) (drop (5 + size) rest)))
marked most at rest m is = ap (λ x. by_mark x at (λ size. preceded (record_at size rest) (records_from most (at + (5 + size)) (drop (5 + size) rest)))) is

-- one record more
pub step_opens : (found : List (List ℕ)) (most next at size : ℕ) (rest : List ℕ) (all : Result (List (List ℕ)) ℕ) → most ≡ suc next → mark_of rest ≡ Opens size
    → after_some found (records_from most at rest) ≡ all
    → after_some (found ++ record_at size rest ∷ []) (records_from next (at + (5 + size)) (drop (5 + size) rest)) ≡ all
step_opens found most next at size rest all count is whole =
    record_moves found (record_at size rest) (records_from next (at + (5 + size)) (drop (5 + size) rest))
    ∙ ap (after_some found) (sym (marked next at rest (Opens size) is) ∙ ap (λ n. records_from n at rest) (sym count))
    ∙ whole

pub shut_found : (found : List (List ℕ)) (most next at : ℕ) (rest : List ℕ) (all : Result (List (List ℕ)) ℕ) → most ≡ suc next → mark_of rest ≡ Shut
    → after_some found (records_from most at rest) ≡ all → all ≡ Ok found
shut_found found most next at rest all count is whole =
    sym whole ∙ ap (after_some found) (ap (λ n. records_from n at rest) count ∙ marked next at rest Shut is) ∙ ap Ok (append-nil found)

pub step_shut : (area : Area) (found : Vec (List ℕ) Global) (gate : ℕ) (all : Result (List (List ℕ)) ℕ) → all ≡ Ok found.items → Walks area all (Ok (found, gate))
step_shut area found gate all e = subst (λ x. Walks area x (Ok (found, gate))) (sym e) refl

damaged : (area : Area) (at : ℕ) (all : Result (List (List ℕ)) ℕ) → all ≡ Err at → Walks area all (Err (Damaged area at))
damaged area at all e = subst (λ x. Walks area x (Err (Damaged area at))) (sym e) (inl refl)

pub step_broken : (area : Area) (found : List (List ℕ)) (most next at : ℕ) (rest : List ℕ) (all : Result (List (List ℕ)) ℕ) → most ≡ suc next → mark_of rest ≡ Broken
    → after_some found (records_from most at rest) ≡ all → Walks area all (Err (Damaged area at))
step_broken area found most next at rest all count is whole =
    damaged area at all (sym whole ∙ ap (after_some found) (ap (λ n. records_from n at rest) count ∙ marked next at rest Broken is))

pub step_out : (area : Area) (found : List (List ℕ)) (most at : ℕ) (rest : List ℕ) (all : Result (List (List ℕ)) ℕ) → most ≡ 0
    → after_some found (records_from most at rest) ≡ all → Walks area all (Err (Damaged area at))
step_out area found most at rest all none whole =
    damaged area at all (sym whole ∙ ap (λ n. after_some found (records_from n at rest)) none)
