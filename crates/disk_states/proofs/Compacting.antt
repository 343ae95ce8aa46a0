-- One record in place of all: the areas hold the old records or that one.
use Rattle.std.proofs.Common.{◌≡◌, ◌⊎◌, inl, inr, ℕ, ◌+◌, ◌-◌, ◌<◌, ◌^◌, false, List, [], ◌∷◌, length, refl, ap, sym, subst, arith}
use Rattle.disk_model.specs.declared.area.Area.{Area}
use Rattle.disk_model.specs.declared.area.Area.TheVariants.{Journal0, Journal1, Check2, Check3}
use Rattle.disk_model.specs.declared.areas.Areas.{Areas}
use Rattle.disk_model.specs.Areas.{bytes_of, same}
use Rattle.disk_model.specs.Calls.{Told, and_then, reads, IsSettled}
use Rattle.gate_area.specs.declared.pair.Pair.TheVariants.{Journal}
use Rattle.gate_area.specs.declared.pair.Head.TheVariants.{Closed}
use Rattle.gate_area.specs.Gate.{FrontOrShort, IsClosed, RenewLeaves, renew_calls}
use Rattle.disk_model.specs.declared.call.Call.{Call}
use Rattle.gate_area.specs.Standing.{stands, head_of, other_of}
use Rattle.gate_area.proofs.Heads.{head-short}
use Rattle.gate_log.specs.Records.{area_body, IsShort, StandsFor as Spells}
use Rattle.gate_log.specs.Journal.{Log, Holds, compacted}
use Rattle.gate_log.specs.Moments.{ChecksStay}
use Rattle.gate_log.proofs.Fronts.{front_stays}
use Rattle.gate_log.proofs.Moves.{checks_stay, standing_area, stood}
use Rattle.gate_log.proofs.Renewals.{length-body, closed_stands, next_holds, renewed, other_own}
use Rattle.disk_states.specs.States.{HaveRecords}
use Rattle.disk_states.proofs.Moments.{AtEach, renew_leaves}
use Rattle.disk_states.proofs.Holding.{held, log_held, closed_head}
use Rattle.disk_states.proofs.Recording.{HaveEither}

-- the calls of a compaction that has room: the other area is founded with one record and the next generation
abbrev pub compact_calls : Log → List ℕ → Told → List Call
compact_calls log r = renew_calls (other_of log.area) (area_body (log.generation + 1) (r ∷ []))

-- the area that stands isn't the other one
apart : (area : Area) → same area (other_of area) ≡ false
apart Journal0 = refl
apart Journal1 = refl
apart Check2 = refl
apart Check3 = refl

-- an image of the renewed area
compact_held : (log : Log) (records : List (List ℕ)) (r : List ℕ) (before image : Areas) → IsShort r → log.generation < 2 ^ 64 - 1 → Holds log records before
    → RenewLeaves (other_of log.area) (area_body (log.generation + 1) (r ∷ [])) before image → HaveRecords records image ⊎ HaveRecords (r ∷ []) image
compact_held log records r before image short room_left holds leaves = by leaves.file
  where
    old : stands Journal image ≡ stood log.area log.generation → HaveRecords records image
    old standing = held image log.area log.generation records standing (subst (Spells records) (sym (leaves.others log.area (apart log.area))) holds.content)

    closed : head_of Journal (bytes_of (other_of log.area) image) ≡ Closed → HaveRecords records image
    closed is = old (closed_stands log.area log.generation before image (standing_area log records before holds) holds.standing leaves.others is)

    by : FrontOrShort (bytes_of (other_of log.area) before) (bytes_of (other_of log.area) image)
        ⊎ (IsClosed (length (area_body (log.generation + 1) (r ∷ []))) (bytes_of (other_of log.area) image) ⊎ (bytes_of (other_of log.area) image ≡ 1 ∷ area_body (log.generation + 1) (r ∷ [])))
        → HaveRecords records image ⊎ HaveRecords (r ∷ []) image
    by (inl (inl has)) =
        inl (old (front_stays (other_of log.area) (log.area, log.generation) before image leaves.others
        (record { long = omega (arith, has.longer, has.no_longer); longer = has.longer; front = has.front }) holds.standing))
    by (inl (inr few)) = inl (closed (head-short Journal (bytes_of (other_of log.area) image) few.short))
    by (inr (inl is)) = inl (closed (closed_head Journal (length (area_body (log.generation + 1) (r ∷ []))) (bytes_of (other_of log.area) image) is))
    by (inr (inr all)) = inr (log_held (compacted log r) (r ∷ []) image (next_holds log records r before image short room_left holds leaves.others all))

-- at each moment of a compaction
pub compact_each : (t : Told) (log : Log) (records : List (List ℕ)) (r : List ℕ) → IsShort r → log.generation < 2 ^ 64 - 1 → IsSettled t → Holds log records (reads t)
    → AtEach t (compact_calls log r t) (HaveEither records (r ∷ []) (reads t))
compact_each t log records r short room_left settled holds i image is =
    let body = area_body (log.generation + 1) (r ∷ []) in
    let leaves = renew_leaves t (other_of log.area) body (omega (arith, length-body (log.generation + 1) (r ∷ []))) settled i image is in
    record {
      checks = checks_stay (other_of log.area) (reads t) image (other_own log.area (standing_area log records (reads t) holds)) leaves.others;
      records = compact_held log records r (reads t) image short room_left holds leaves;
    }

-- what the disk then holds
pub record HoldsAlone (log : Log) (r : List ℕ) (before image : Areas) : Type 0 where
  pub checks : ChecksStay before image
  pub holds : Holds (compacted log r) (r ∷ []) image

pub compact_holds : (t : Told) (log : Log) (records : List (List ℕ)) (r : List ℕ) → IsShort r → log.generation < 2 ^ 64 - 1 → IsSettled t → Holds log records (reads t)
    → HoldsAlone log r (reads t) (reads (and_then t (compact_calls log r t)))
compact_holds t log records r short room_left settled holds =
    let body = area_body (log.generation + 1) (r ∷ []) in
    let u = and_then t (compact_calls log r t) in
    let done = renewed t (other_of log.area) body (omega (arith, length-body (log.generation + 1) (r ∷ []))) settled in
    record {
      checks = checks_stay (other_of log.area) (reads t) (reads u) (other_own log.area (standing_area log records (reads t) holds)) done.others;
      holds = next_holds log records r (reads t) (reads u) short room_left holds done.others done.whole;
    }
