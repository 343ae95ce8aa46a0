-- Which records areas hold, and that these stay where their areas do.
use Rattle.std.proofs.Common.{◌≡◌, inl, inr, ℕ, arith, List, [], length, None, Some, Result, Ok, Err, refl, ap, sym, ◌∙◌, subst}
use Rattle.disk_model.specs.declared.area.Area.{Area}
use Rattle.disk_model.specs.declared.areas.Areas.{Areas}
use Rattle.disk_model.specs.Areas.{bytes_of}
use Rattle.gate_area.specs.declared.pair.Head.TheVariants.{Closed}
use Rattle.gate_area.specs.declared.pair.Pair.{Pair}
use Rattle.gate_area.specs.declared.pair.Pair.TheVariants.{Journal}
use Rattle.gate_area.specs.Gate.{IsClosed}
use Rattle.gate_area.specs.Standing.{stands, standing, head_of}
use Rattle.gate_area.proofs.Heads.{head-shut}
use Rattle.gate_log.specs.Records.{StandsFor as Spells, walk_of}
use Rattle.gate_log.specs.Journal.{Log, Holds, in_area, records_of}
use Rattle.gate_log.proofs.Moves.{Judgement, records_are, own_area, e_area}
use Rattle.disk_states.specs.States.{HaveRecords}

-- one result has one value
pub same_value : {T E : Type 0} (r : Result T E) (x y : T) → r ≡ Ok x → r ≡ Ok y → x ≡ y
same_value (Ok z) x y a b = cc
same_value (Err e) x y a b = absurd cc

-- an area of the journal that stands and spells records
pub held : (areas : Areas) (area : Area) (generation : ℕ) (records : List (List ℕ)) → stands Journal areas ≡ Ok (Some (area, generation)) → Spells records (bytes_of area areas) → HaveRecords records areas
held areas area generation records standing content = record {
  found = records_are areas area generation records standing content;
  spelled = λ a g is. subst (λ (x : Area). Spells records (bytes_of x areas)) (e_area a g area generation (sym is ∙ standing)) content;
}

pub log_held : (log : Log) (records : List (List ℕ)) (areas : Areas) → Holds log records areas → HaveRecords records areas
log_held log records areas holds = held areas log.area log.generation records holds.standing holds.content

-- an area with too few bytes, or with a gate that isn't open, doesn't count
pub closed_head : (pair : Pair) (size : ℕ) (image : List ℕ) → IsClosed size image → head_of pair image ≡ Closed
closed_head pair size image is = head-shut pair [] image image (record { no_longer = omega arith; within = is.some; front = refl; shut = is.shut })

-- ---- the areas of the journal are as they were

pub record JournalStays (before image : Areas) : Type 0 where
  pub first : image.journal0 ≡ before.journal0
  pub second : image.journal1 ≡ before.journal1

same_stands : (before image : Areas) → JournalStays before image → stands Journal image ≡ stands Journal before
same_stands before image same = ap (λ (f : List ℕ). standing Journal f image.journal1) same.first ∙ ap (λ (s : List ℕ). standing Journal before.journal0 s) same.second

same_bytes : (area : Area) (g : ℕ) (before image : Areas) → JournalStays before image → stands Journal before ≡ Ok (Some (area, g)) → bytes_of area image ≡ bytes_of area before
same_bytes area g before image same stood =
    elim (own_area area g (length before.journal0) (length before.journal1) (head_of Journal before.journal0) (head_of Journal before.journal1) stood) [
      | inl first ↦ subst (λ (x : Area). bytes_of x image ≡ bytes_of x before) (sym first) same.first
      | inr second ↦ subst (λ (x : Area). bytes_of x image ≡ bytes_of x before) (sym second) same.second
    ]

-- so they hold the same records
pub records_stay : (records : List (List ℕ)) (before image : Areas) → JournalStays before image → HaveRecords records before → HaveRecords records image
records_stay records before image same have = record {
  found = ap (records_of image) (same_stands before image same) ∙ by (stands Journal before) refl ∙ have.found;
  spelled = λ area g is.
      let stood : stands Journal before ≡ Ok (Some (area, g)) = sym (same_stands before image same) ∙ is in
      subst (Spells records) (sym (same_bytes area g before image same stood)) (have.spelled area g stood);
}
  where
    by : (j : Judgement) → stands Journal before ≡ j → records_of image j ≡ records_of before j
    by (Err spot) is = refl
    by (Ok None) is = refl
    by (Ok (Some (area, g))) is = ap (λ (b : List ℕ). in_area area (walk_of b)) (same_bytes area g before image same is)

-- and the same log
pub log_stays : (log : Log) (records : List (List ℕ)) (before image : Areas) → JournalStays before image → Holds log records before → Holds log records image
log_stays log records before image same holds = record {
  standing = same_stands before image same ∙ holds.standing;
  content = subst (Spells records) (sym (same_bytes log.area log.generation before image same holds.standing)) holds.content;
  end = holds.end;
  base_end = holds.base_end;
}
