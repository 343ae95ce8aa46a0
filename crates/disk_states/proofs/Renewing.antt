-- A fresh pair is given a journal without records.
use Rattle.std.proofs.Common.{◌≡◌, ◌≢◌, ℕ, ◌+◌, ◌<◌, inl, inr, Bool, true, false, cond, nat_lt, List, [], ◌∷◌, length, take, drop, get_or, zero, suc, None, Result, Ok, Err, ap, sym, ◌∙◌, arith, length-drop}
use Rattle.std.proofs.lemmas.Bool.Decides.{eqb_tells}
use Rattle.std.proofs.lemmas.List.{append-nil, get_or-drop}
use Rattle.std.proofs.lemmas.List.Elements.{All-nil}
use Rattle.disk_model.specs.declared.area.Area.{Area}
use Rattle.disk_model.specs.declared.area.Area.TheVariants.{Journal0}
use Rattle.disk_model.specs.declared.areas.Areas.{Areas}
use Rattle.disk_model.specs.Areas.{bytes_of}
use Rattle.gate_area.specs.declared.pair.Pair.TheVariants.{Journal}
use Rattle.gate_area.specs.Gate.{RenewLeaves}
use Rattle.gate_area.specs.Standing.{stands}
use Rattle.gate_log.specs.Records.{Shut, Opens, Broken, u32_of, mark_behind, preceded, record_at, by_mark, records_from, walk_of, area_body, IsShort, StandsFor as Spells}
use Rattle.gate_log.specs.Journal.{in_area, records_of, records_in}
use Rattle.gate_log.proofs.Renewals.{fresh_leaves}
use Rattle.disk_states.specs.States.{HaveRecords}

-- ---- an area in which no record is found

abbrev listed : List (List ℕ) → Result (List (List ℕ)) ℕ
listed records = Ok records

preceded_never : (r : List ℕ) (x : Result (List (List ℕ)) ℕ) → preceded r x ≡ listed [] → ⊥
preceded_never r (Ok rs) e = cc
preceded_never r (Err at) e = cc

open_never : (a b : Bool) (n at : ℕ) (rest : List ℕ) (more : ℕ → Result (List (List ℕ)) ℕ) → by_mark (cond a Broken (cond b Broken (Opens n))) at (λ size. preceded (record_at size rest) (more size)) ≡ listed [] → ⊥
open_never true b n at rest more e = cc
open_never false true n at rest more e = cc
open_never false false n at rest more e = preceded_never (record_at n rest) (more n) e

-- the byte there is a closed gate
none_from : (most at : ℕ) (rest : List ℕ) → records_from most at rest ≡ listed [] → (0 < length rest) × (get_or rest 0 0 ≢ 1)
none_from zero at rest e = absurd cc
none_from (suc most) at [] e = absurd cc
none_from (suc most) at (gate ∷ tail) e = elim (eqb_tells gate 1) [
  | inl alike ↦
      let rest = gate ∷ tail in
      let more : ℕ → Result (List (List ℕ)) ℕ = λ size. records_from most (at + (5 + size)) (drop (5 + size) rest) in
      let opens : by_mark (mark_behind tail) at (λ size. preceded (record_at size rest) (more size)) ≡ listed [] =
      sym (ap (λ b. by_mark (cond b (mark_behind tail) Shut) at (λ size. preceded (record_at size rest) (more size))) alike.0) ∙ e in
      absurd (open_never (nat_lt (length tail) 4) (nat_lt (length tail) (4 + u32_of (take 4 tail))) (u32_of (take 4 tail)) at rest more opens)
  | inr other ↦ (omega arith, other.1)
]

none_spelled : (file : List ℕ) → walk_of file ≡ listed [] → Spells [] file
none_spelled file found =
    let parts = none_from (length file) 16 (drop 16 file) found in
    record {
      short = All-nil IsShort;
      within = omega (arith, parts.0, length-drop 16 file);
      spelled = sym (append-nil (take 16 file));
      shut = λ one. parts.1 (get_or-drop 16 file 0 0 ∙ one);
    }

-- what is found in an area is found by the walk
pub walked : (area : Area) (r : Result (List (List ℕ)) ℕ) (records : List (List ℕ)) → in_area area r ≡ Ok records → r ≡ Ok records
walked area (Ok x) records e = ap Ok (let same : x ≡ records = cc in same)
walked area (Err at) records e = absurd cc

pub none_held : (areas : Areas) → records_in areas ≡ Ok [] → HaveRecords [] areas
none_held areas found = record {
  found = found;
  spelled = λ area g is. none_spelled (bytes_of area areas) (walked area (walk_of (bytes_of area areas)) [] (sym (ap (records_of areas) is) ∙ found));
}

-- at each moment of a journal's beginning
pub fresh_held : (before image : Areas) → stands Journal before ≡ Ok None → RenewLeaves Journal0 (area_body 1 []) before image → HaveRecords [] image
fresh_held before image fresh leaves = none_held image (fresh_leaves before image fresh leaves)
