-- What an append leaves of the areas of a disk, at each moment and when it is done.
use Rattle.std.proofs.Common.{◌≡◌, ◌≢◌, ℕ, ◌+◌, ◌-◌, ◌<◌, ◌⊎◌, inl, inr, Bool, true, false, cond, not, nat_eq, nat_lt, List, [], ◌∷◌, ◌++◌, length, take, get_or, Option, None, Some, Result, Ok, Err, ap, sym, ◌∙◌, subst, arith}
use Rattle.std.proofs.lemmas.List.{take-take}
use Rattle.disk_model.specs.declared.area.Area.{Area}
use Rattle.disk_model.specs.declared.area.Area.TheVariants.{Journal0, Journal1, Check2, Check3}
use Rattle.disk_model.specs.declared.areas.Areas.{Areas}
use Rattle.disk_model.specs.declared.call.Call.{Call}
use Rattle.disk_model.specs.Areas.{bytes_of, same}
use Rattle.disk_model.specs.Calls.{Told, and_then, area_bytes, reads, IsImage, IsSettled}
use Rattle.disk_model.specs.Steps.{after}
use Rattle.disk_model.proofs.OnArea.{own-on, image-on, image-other}
use Rattle.disk_model.proofs.Reading.{area_bytes-and_then, reads-bytes}
use Rattle.gate_area.specs.declared.pair.Pair.TheVariants.{Journal}
use Rattle.gate_area.specs.declared.pair.Head.{Head}
use Rattle.gate_area.specs.declared.pair.Head.TheVariants.{Closed, Spoilt, Open}
use Rattle.gate_area.specs.Gate.{gate_calls, gate_steps, opened, OpenOrShut, OthersStay}
use Rattle.gate_area.specs.Standing.{judged, stands, head_of}
use Rattle.gate_area.proofs.Moments.{found_file}
use Rattle.gate_area.proofs.Phases.{reads_image}
use Rattle.gate_log.specs.Journal.{Log, Holds, in_area, records_of, records_in, appended}
use Rattle.gate_log.specs.Moments.{ChecksStay, OldOrNew}
use Rattle.gate_log.specs.Records.{gate_of, base_of, behind_gate, IsShort, StandsFor}
use Rattle.gate_log.proofs.Appends.{shut_stands, opened_stands, opened_front, end-more, base-more}
use Rattle.gate_log.proofs.Fronts.{SameFront, front_stays}
use Rattle.gate_log.proofs.Spelling.{walk_finds}

-- the records of the area that stands are those of the journal
pub records_are : (image : Areas) (area : Area) (generation : ℕ) (records : List (List ℕ)) → stands Journal image ≡ Ok (Some (area, generation))
    → StandsFor records (bytes_of area image) → records_in image ≡ Ok records
records_are image area generation records standing content =
    ap (records_of image) standing ∙ ap (in_area area) (walk_finds records (bytes_of area image) content)

abbrev pub Judgement : Type 0
Judgement = Result (Option (Area × ℕ)) (Area × ℕ)

abbrev pub stood : Area → ℕ → Judgement
stood area g = Ok (Some (area, g))

abbrev pub spoilt : Area → ℕ → Judgement
spoilt area at = Err (area, at)

pub e_fault : (area : Area) (at : ℕ) (x : Area × ℕ) → spoilt area at ≡ Ok (Some x) → ⊥
e_fault area at x e = cc

pub e_area : (a : Area) (k : ℕ) (area : Area) (g : ℕ) → stood a k ≡ stood area g → area ≡ a
e_area a k area g e = let pair : (let p : Area × ℕ = (a, k) in p) ≡ (let q : Area × ℕ = (area, g) in q) = cc in sym (ap (λ (p : Area × ℕ). p.0) pair)

-- only an area of the journal's own stands
pub own_area : (area : Area) (g n m : ℕ) (h s : Head) → judged Journal n m h s ≡ Ok (Some (area, g)) → (area ≡ Journal0) ⊎ (area ≡ Journal1)
own_area area g n m (Spoilt at) s e = absurd (e_fault Journal0 at (area, g) e)
own_area area g n m (Open k) (Spoilt at) e = absurd (e_fault Journal1 at (area, g) e)
own_area area g n m (Open k) (Open l) e = chosen (nat_eq k l) (nat_lt l k) area g k l e
  where
    chosen : (a b : Bool) (area : Area) (g k l : ℕ) → cond {A = Result (Option (Area × ℕ)) (Area × ℕ)} a (Err (Journal1, 8)) (cond b (Ok (Some (Journal0, k))) (Ok (Some (Journal1, l)))) ≡ Ok (Some (area, g)) → (area ≡ Journal0) ⊎ (area ≡ Journal1)
    chosen true b area g k l e = absurd (e_fault Journal1 8 (area, g) e)
    chosen false true area g k l e = inl (e_area Journal0 k area g e)
    chosen false false area g k l e = inr (e_area Journal1 l area g e)
own_area area g n m (Open k) Closed e = inl (e_area Journal0 k area g e)
own_area area g n m Closed (Spoilt at) e = absurd (e_fault Journal1 at (area, g) e)
own_area area g n m Closed (Open k) e = inr (e_area Journal1 k area g e)
own_area area g n m Closed Closed e = absurd (never (nat_eq m 0) (nat_lt 17 n) area g e)
  where
    never : (a b : Bool) (area : Area) (g : ℕ) → cond {A = Result (Option (Area × ℕ)) (Area × ℕ)} (not a) (Err (Journal0, 0)) (cond b (Err (Journal0, 0)) (Ok None)) ≡ Ok (Some (area, g)) → ⊥
    never true true area g e = cc
    never true false area g e = cc
    never false b area g e = cc

-- where an area of the journal alone changed, the others are those of the checkpoints and one of the journal
pub checks_stay : (area : Area) (before image : Areas) → (area ≡ Journal0) ⊎ (area ≡ Journal1) → OthersStay area before image → ChecksStay before image
checks_stay area before image (inl first) others = record {
  check2 = others Check2 (ap (same Check2) first);
  check3 = others Check3 (ap (same Check3) first);
}
checks_stay area before image (inr second) others = record {
  check2 = others Check2 (ap (same Check2) second);
  check3 = others Check3 (ap (same Check3) second);
}

pub standing_area : (log : Log) (records : List (List ℕ)) (areas : Areas) → Holds log records areas → (log.area ≡ Journal0) ⊎ (log.area ≡ Journal1)
standing_area log records areas holds =
    own_area log.area log.generation (length areas.journal0) (length areas.journal1) (head_of Journal areas.journal0) (head_of Journal areas.journal1) holds.standing

-- an area that was opened or stayed shut at the gate of a log
log_leaves : (log : Log) (records : List (List ℕ)) (r : List ℕ) (before image : Areas) → IsShort r → Holds log records before → OthersStay log.area before image
    → OpenOrShut (gate_of records) (behind_gate r) (bytes_of log.area before) (bytes_of log.area image)
    → OldOrNew records (records ++ r ∷ []) before image
log_leaves log records r before image short holds others (inl is) =
    let file = bytes_of log.area before in
    let content = shut_stands records (behind_gate r) file (bytes_of log.area image) holds.content is in
    let front : SameFront file (bytes_of log.area image) = record {
      long = omega (arith, holds.content.within);
      longer = omega (arith, content.within);
      front = sym (take-take 16 (gate_of records) (bytes_of log.area image) (omega arith)) ∙ ap (take 16) is.front ∙ take-take 16 (gate_of records) file (omega arith);
    } in
    record {
      checks = checks_stay log.area before image (standing_area log records before holds) others;
      records = inl (records_are image log.area log.generation records (front_stays log.area (log.area, log.generation) before image others front holds.standing) content);
    }
log_leaves log records r before image short holds others (inr all) =
    let file = bytes_of log.area before in
    let content : StandsFor (records ++ r ∷ []) (bytes_of log.area image) =
    subst (StandsFor (records ++ r ∷ [])) (sym all) (opened_stands records r file short holds.content) in
    let front : SameFront file (bytes_of log.area image) = record {
      long = omega (arith, holds.content.within);
      longer = omega (arith, content.within);
      front = ap (take 16) all ∙ opened_front (gate_of records) (behind_gate r) file holds.content.within (omega arith);
    } in
    record {
      checks = checks_stay log.area before image (standing_area log records before holds) others;
      records = inr (records_are image log.area log.generation (records ++ r ∷ []) (front_stays log.area (log.area, log.generation) before image others front holds.standing) content);
    }

pub gate-log : (log : Log) (records : List (List ℕ)) (areas : Areas) → Holds log records areas → log.end - 1 ≡ gate_of records
gate-log log records areas holds = omega (arith, holds.end)

-- the calls of an append that has room
abbrev pub append_calls : Log → List ℕ → List Call
append_calls log r = gate_calls log.area (log.end - 1) (behind_gate r)

-- at each moment of an append
pub append_leaves : (t : Told) (log : Log) (records : List (List ℕ)) (r : List ℕ) → IsShort r → IsSettled t → Holds log records (reads t)
    → (i : ℕ) (image : Areas) → IsImage (and_then t (take i (append_calls log r))) image → OldOrNew records (records ++ r ∷ []) (reads t) image
append_leaves t log records r short settled holds i image is =
    let gate = log.end - 1 in
    let steps = gate_steps gate (behind_gate r) in
    let at = gate-log log records (reads t) holds in
    let same_file = reads-bytes t log.area in
    let place : gate < length (area_bytes log.area t) = omega (arith, at, holds.content.within, ap length same_file) in
    let shut : get_or (area_bytes log.area t) gate 0 ≢ 1 =
    λ one. holds.content.shut (ap (λ f. get_or f (gate_of records) 0) same_file ∙ ap (λ n. get_or (area_bytes log.area t) n 0) (sym at) ∙ one) in
    let file = found_file gate (behind_gate r) (area_bytes log.area t) (bytes_of log.area image) i place shut (image-on t log.area steps i image settled is) in
    let others : OthersStay log.area (reads t) image = λ b other. image-other t b log.area steps i image other settled is ∙ sym (reads-bytes t b) in
    log_leaves log records r (reads t) image short holds others
    (subst (λ n. OpenOrShut n (behind_gate r) (bytes_of log.area (reads t)) (bytes_of log.area image)) at
    (subst (λ (f : List ℕ). OpenOrShut gate (behind_gate r) f (bytes_of log.area image)) (sym same_file) file))

-- the log with a record more is what the disk then holds
pub append_holds : (t : Told) (log : Log) (records : List (List ℕ)) (r : List ℕ) → IsShort r → IsSettled t → Holds log records (reads t)
    → Holds (appended log r) (records ++ r ∷ []) (reads (and_then t (append_calls log r)))
append_holds t log records r short settled holds =
    let u = and_then t (append_calls log r) in
    let gate = log.end - 1 in
    let steps = gate_steps gate (behind_gate r) in
    let at = gate-log log records (reads t) holds in
    let file = bytes_of log.area (reads t) in
    let whole : bytes_of log.area (reads u) ≡ opened (gate_of records) (behind_gate r) file =
    reads-bytes u log.area ∙ area_bytes-and_then log.area t (append_calls log r) ∙ ap (after (area_bytes log.area t)) (own-on log.area steps)
    ∙ ap (λ n. opened n (behind_gate r) (area_bytes log.area t)) at
    ∙ ap (opened (gate_of records) (behind_gate r)) (sym (reads-bytes t log.area)) in
    let content : StandsFor (records ++ r ∷ []) (bytes_of log.area (reads u)) =
    subst (StandsFor (records ++ r ∷ [])) (sym whole) (opened_stands records r file short holds.content) in
    let others : OthersStay log.area (reads t) (reads u) = λ b other. image-other t b log.area steps 4 (reads u) other settled (reads_image u) ∙ sym (reads-bytes t b) in
    let front : SameFront file (bytes_of log.area (reads u)) = record {
      long = omega (arith, holds.content.within);
      longer = omega (arith, content.within);
      front = ap (take 16) whole ∙ opened_front (gate_of records) (behind_gate r) file holds.content.within (omega arith);
    } in
    record {
      standing = front_stays log.area (log.area, log.generation) (reads t) (reads u) others front holds.standing;
      content = content;
      end = ap (λ n. n + (5 + length r)) holds.end ∙ sym (end-more records r);
      base_end = ap (λ n. cond (nat_eq n 17) (log.end + (5 + length r)) n) holds.base_end ∙ ap (λ n. cond (nat_eq (base_of records) 17) (n + (5 + length r)) (base_of records)) holds.end ∙ sym (base-more records r);
    }
