-- A record more: the areas hold the old records or these and one more.
use Rattle.std.proofs.Common.{◌≢◌, ◌⊎◌, inl, inr, ℕ, ◌-◌, ◌<◌, List, [], ◌∷◌, ◌++◌, length, take, get_or, ap, sym, ◌∙◌, subst, arith}
use Rattle.std.proofs.lemmas.List.{take-take}
use Rattle.disk_model.specs.declared.areas.Areas.{Areas}
use Rattle.disk_model.specs.Areas.{bytes_of}
use Rattle.disk_model.specs.Calls.{Told, area_bytes, reads, IsSettled}
use Rattle.disk_model.proofs.OnArea.{image-on, image-other}
use Rattle.disk_model.proofs.Reading.{reads-bytes}
use Rattle.gate_area.specs.Gate.{gate_steps, OpenOrShut, OthersStay}
use Rattle.gate_area.proofs.Moments.{found_file}
use Rattle.gate_log.specs.Records.{gate_of, behind_gate, IsShort, StandsFor as Spells}
use Rattle.gate_log.specs.Journal.{Log, Holds}
use Rattle.gate_log.specs.Moments.{ChecksStay}
use Rattle.gate_log.proofs.Appends.{shut_stands, opened_stands, opened_front}
use Rattle.gate_log.proofs.Fronts.{SameFront, front_stays}
use Rattle.gate_log.proofs.Moves.{gate-log, checks_stay, standing_area, append_calls}
use Rattle.disk_states.specs.States.{HaveRecords}
use Rattle.disk_states.proofs.Moments.{AtEach}
use Rattle.disk_states.proofs.Holding.{held}

-- the areas of the checkpoints are as they were, and those of the journal hold the old records or the new ones
pub record HaveEither (old new : List (List ℕ)) (before image : Areas) : Type 0 where
  pub checks : ChecksStay before image
  pub records : HaveRecords old image ⊎ HaveRecords new image

-- an area that was opened or stayed shut at the gate of a log
either_left : (log : Log) (records : List (List ℕ)) (r : List ℕ) (before image : Areas) → IsShort r → Holds log records before → OthersStay log.area before image
    → OpenOrShut (gate_of records) (behind_gate r) (bytes_of log.area before) (bytes_of log.area image) → HaveRecords records image ⊎ HaveRecords (records ++ r ∷ []) image
either_left log records r before image short holds others (inl is) =
    let file = bytes_of log.area before in
    let content = shut_stands records (behind_gate r) file (bytes_of log.area image) holds.content is in
    let front : SameFront file (bytes_of log.area image) = record {
      long = omega (arith, holds.content.within);
      longer = omega (arith, content.within);
      front = sym (take-take 16 (gate_of records) (bytes_of log.area image) (omega arith)) ∙ ap (take 16) is.front ∙ take-take 16 (gate_of records) file (omega arith);
    } in
    inl (held image log.area log.generation records (front_stays log.area (log.area, log.generation) before image others front holds.standing) content)
either_left log records r before image short holds others (inr all) =
    let file = bytes_of log.area before in
    let content : Spells (records ++ r ∷ []) (bytes_of log.area image) = subst (Spells (records ++ r ∷ [])) (sym all) (opened_stands records r file short holds.content) in
    let front : SameFront file (bytes_of log.area image) = record {
      long = omega (arith, holds.content.within);
      longer = omega (arith, content.within);
      front = ap (take 16) all ∙ opened_front (gate_of records) (behind_gate r) file holds.content.within (omega arith);
    } in
    inr (held image log.area log.generation (records ++ r ∷ []) (front_stays log.area (log.area, log.generation) before image others front holds.standing) content)

-- at each moment of an append
pub append_each : (t : Told) (log : Log) (records : List (List ℕ)) (r : List ℕ) → IsShort r → IsSettled t → Holds log records (reads t)
    → AtEach t (append_calls log r) (HaveEither records (records ++ r ∷ []) (reads t))
append_each t log records r short settled holds i image is =
    let gate = log.end - 1 in
    let steps = gate_steps gate (behind_gate r) in
    let at = gate-log log records (reads t) holds in
    let same_file = reads-bytes t log.area in
    let place : gate < length (area_bytes log.area t) = omega (arith, at, holds.content.within, ap length same_file) in
    let shut : get_or (area_bytes log.area t) gate 0 ≢ 1 =
    λ one. holds.content.shut (ap (λ f. get_or f (gate_of records) 0) same_file ∙ ap (λ n. get_or (area_bytes log.area t) n 0) (sym at) ∙ one) in
    let file = found_file gate (behind_gate r) (area_bytes log.area t) (bytes_of log.area image) i place shut (image-on t log.area steps i image settled is) in
    let others : OthersStay log.area (reads t) image = λ b other. image-other t b log.area steps i image other settled is ∙ sym (reads-bytes t b) in
    record {
      checks = checks_stay log.area (reads t) image (standing_area log records (reads t) holds) others;
      records = either_left log records r (reads t) image short holds others
          (subst (λ n. OpenOrShut n (behind_gate r) (bytes_of log.area (reads t)) (bytes_of log.area image)) at
          (subst (λ (f : List ℕ). OpenOrShut gate (behind_gate r) f (bytes_of log.area image)) (sym same_file) file));
    }
