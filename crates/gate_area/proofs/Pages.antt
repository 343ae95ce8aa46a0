-- Reading an area in pieces.
use Rattle.std.proofs.Common.{◌≡◌, ℕ, ◌+◌, ◌-◌, ◌*◌, ◌/◌, ◌<◌, ◌≤◌, min, zero, suc, List, [], ◌∷◌, ◌++◌, Some, length, take, drop, replicate, ap, sym, subst, ◌∙◌, arith, length-take, length-append}
use Rattle.std.proofs.Math.Seq.{take-add}
use Rattle.std.proofs.lemmas.List.{take_at, take_all}
use Rattle.disk_model.specs.declared.area.Area.{Area}
use Rattle.disk_model.specs.declared.disk.Disk.{Ghosts}
use Rattle.disk_model.specs.Calls.{Told, Tells, area_bytes}
use Rattle.disk_model.specs.Causes.{GivesBytes}
use Rattle.disk_model.specs.Running.{Op, Reads, Ending, Passed}
use Rattle.disk_model.specs.Sim.{Sim}
use Rattle.disk_model.specs.Went.{WentBy}
use Rattle.disk_model.proofs.Went.{went_on, went_as}
use Rattle.gate_area.specs.Operations.{area_readings}

-- a piece more of a file
pub next_piece : (file into old new : List ℕ) (n : ℕ) → old ≡ take (length old) file → GivesBytes file (length old) n into → new ≡ old ++ take n into → new ≡ take (length new) file
next_piece file into old new n prefix gives is =
    let inside : length old ≤ length file = omega (arith, ap length prefix, length-take (length old) file) in
    let size : length new ≡ length old + n = omega (arith, ap length is, length-append old (take n into), length-take n into, gives.count) in
    is ∙ ap (λ l. l ++ take n into) prefix ∙ ap (λ l. take (length old) file ++ l) gives.bytes
    ∙ sym (take-add (length old) n file) ∙ ap (λ k. take k file) (sym size)

-- the last one, which is shorter than what was asked
pub last_piece : (file into old new : List ℕ) (n : ℕ) → old ≡ take (length old) file → GivesBytes file (length old) n into → new ≡ old ++ take n into → n < length into → new ≡ file
last_piece file into old new n prefix gives is short =
    next_piece file into old new n prefix gives is ∙ take_all (length new) file (omega (arith, ap length is, length-append old (take n into), length-take n into, gives.count))

-- a page is read over whole
pub page_again : (len : ℕ) (into items : List ℕ) → len ≡ length items → length into ≡ length items → take len (into ++ drop (length into) items) ≡ into
page_again len into items size same = take_at into (drop (length into) items) len (same ∙ sym size)

-- so many reads, and then some more
reads-add : (n m : ℕ) → replicate (n + m) Reads ≡ replicate n Reads ++ replicate m Reads
reads-add zero m = ap (λ k. replicate k Reads) (let e : 0 + m ≡ m = omega arith in e)
reads-add (suc n) m = let whole : replicate (suc n + m) Reads ≡ Reads ∷ replicate (n + m) Reads = ap (λ k. replicate k Reads) (let e : suc n + m ≡ suc (n + m) = omega arith in e) in whole ∙ ap (λ ops. Reads ∷ ops) (reads-add n m)

-- one read more has passed
pub read_on : {D : Type 0} {disk : Ghosts D} {old mid now : D} (n : ℕ) → WentBy disk (λ t. replicate n Reads) old mid Passed → WentBy disk (λ t. Reads ∷ []) mid now Passed
    → WentBy disk (λ t. replicate (n + 1) Reads) old now Passed
read_on {disk = disk} {old = old} {now = now} n before one = subst (λ ops. WentBy disk (λ t. ops) old now Passed) (sym (reads-add n 1)) (went_on before one)

-- as many pieces as the length says were read
pub pieces_read : (turn n len whole : ℕ) → 65536 * turn ≡ len → n ≡ min 65536 (whole - len) → n < 65536 → len ≤ whole → whole / 65536 ≡ turn
pieces_read turn n len whole size count short within = omega arith

-- the last piece was read
pub all_read : {D : Type 0} {disk : Ghosts D} {old now : D} (area : Area) (turn : ℕ) → ((d : D) (s : Sim) → disk.memory d ≡ Some s → Tells (disk.told d) (disk.honest d) s.told)
    → ((t : Told) → Tells (disk.told old) (disk.honest old) t → length (area_bytes area t) / 65536 ≡ turn) → WentBy disk (λ t. replicate (turn + 1) Reads) old now Passed → WentBy disk (area_readings area) old now Passed
all_read area turn tells whole went = went_as (area_readings area) tells (λ t told. sym (ap (λ n. replicate (n + 1) Reads) (whole t told))) went

-- the pieces behind one more
abbrev pub others : Area → ℕ → Told → List Op
others area turn t = replicate (length (area_bytes area t) / 65536 - turn) Reads

-- the reads of an area: some, one more, and others
pub more_read : {D : Type 0} {disk : Ghosts D} {old now : D} {e : Ending} (area : Area) (turn : ℕ) → ((d : D) (s : Sim) → disk.memory d ≡ Some s → Tells (disk.told d) (disk.honest d) s.told)
    → ((t : Told) → Tells (disk.told old) (disk.honest old) t → 65536 * turn ≤ length (area_bytes area t)) → WentBy disk (λ t. (replicate turn Reads ++ Reads ∷ []) ++ others area turn t) old now e
    → WentBy disk (area_readings area) old now e
more_read area turn tells within went = went_as (area_readings area) tells (λ t told. parts (length (area_bytes area t)) (within t told)) went
  where
    parts : (len : ℕ) → 65536 * turn ≤ len → (replicate turn Reads ++ Reads ∷ []) ++ replicate (len / 65536 - turn) Reads ≡ replicate (len / 65536 + 1) Reads
    parts len within =
        let rest = len / 65536 - turn in
        let count : len / 65536 + 1 ≡ (turn + 1) + rest = omega arith in
        ap (λ ops. ops ++ replicate rest Reads) (sym (reads-add turn 1)) ∙ sym (reads-add (turn + 1) rest) ∙ ap (λ n. replicate n Reads) (sym count)
