-- What an opening finds of a journal, or begins where there is none.
use Rattle.std.proofs.Common.{◌≡◌, inl, ℕ, ◌+◌, ◌/◌, ◌≤◌, zero, suc, List, [], ◌∷◌, ◌++◌, length, replicate, Option, None, Some, Result, Ok, Err, refl, ap, sym, subst, arith}
use Rattle.disk_model.specs.declared.area.Area.{Area}
use Rattle.disk_model.specs.declared.area.Area.TheVariants.{Journal0}
use Rattle.disk_model.specs.declared.areas.Areas.{Areas}
use Rattle.disk_model.specs.declared.call.Call.{Call}
use Rattle.disk_model.specs.declared.call.Call.TheVariants.{Sync}
use Rattle.disk_model.specs.Areas.{bytes_of}
use Rattle.disk_model.specs.Calls.{Told, begun, and_then, reads, IsSettled}
use Rattle.disk_model.specs.Running.{Op, Asks, Reads, Does, changes_in}
use Rattle.disk_model.proofs.OnArea.{settled-sync}
use Rattle.gate_area.specs.declared.pair.Pair.TheVariants.{Journal}
use Rattle.gate_area.specs.Gate.{renew_calls, RenewLeaves}
use Rattle.gate_area.specs.Standing.{stands}
use Rattle.gate_log.specs.Records.{walk_of, area_body}
use Rattle.gate_log.specs.Journal.{Log, Holds, log_of, records_of}
use Rattle.gate_log.specs.Moments.{ChecksStay}
use Rattle.gate_log.proofs.Moves.{Judgement, checks_stay}
use Rattle.gate_log.proofs.Renewals.{length-body, fresh_holds, renewed}
use Rattle.protocol.specs.Lines.{Cause}
use Rattle.world_model.specs.Opening.{Found, found_in, found_by, finding_by, checks_read}
use Rattle.disk_states.specs.States.{HaveRecords}
use Rattle.disk_states.proofs.Moments.{AtEach, at_none, at_sync, renew_leaves, renew_settles}
use Rattle.disk_states.proofs.Renewing.{walked, fresh_held}
use Rattle.disk_model.proofs.Went.{reads_change}

-- ---- the calls among the operations

-- the checkpoints are only read
pub checks_none : (areas : Areas) (j : Judgement) → changes_in (checks_read areas j) ≡ []
checks_none areas (Err spot) = refl
checks_none areas (Ok None) = refl
checks_none areas (Ok (Some (area, generation))) = reads_change (length (bytes_of area areas) / 65536 + 1)

-- a fresh pair gets a journal without records, after a sync; nothing is done where one stands
abbrev pub finding_calls : Option (Area × ℕ) → Areas → List Call
finding_calls None areas = Sync ∷ renew_calls Journal0 (area_body 1 []) (begun areas)
finding_calls (Some standing) areas = Sync ∷ []

finding_are : (standing : Option (Area × ℕ)) (areas : Areas) → changes_in (finding_by areas (Ok standing)) ≡ finding_calls standing areas
finding_are None areas = refl
finding_are (Some (area, generation)) areas = ap (λ calls. Sync ∷ calls) (reads_change (length (bytes_of area areas) / 65536 + 1))

-- ---- what is found

-- the areas of a journal are as they were, or hold a journal without records where they held none
abbrev pub StaysFound : List (List ℕ) → Areas → Areas → Type 0
StaysFound records before image = HaveRecords records image × ChecksStay before image

abbrev pub found_at : Log → List (List ℕ) → Result Found Cause
found_at log records = Ok (record { log = log; records = records })

pub record Finds (limit : ℕ) (records : List (List ℕ)) (areas : Areas) : Type 0 where
  pub standing : Option (Area × ℕ)
  pub log : Log
  pub stood : stands Journal areas ≡ Ok standing
  pub found : found_by limit areas (Ok standing) ≡ found_at log records
  pub limits : log.limit ≡ limit
  pub calls : changes_in (finding_by areas (Ok standing)) ≡ finding_calls standing areas
  pub each : AtEach (begun areas) (finding_calls standing areas) (StaysFound records areas)
  pub settled : IsSettled (and_then (begun areas) (finding_calls standing areas))
  pub holds : Holds log records (reads (and_then (begun areas) (finding_calls standing areas)))
  pub checks : ChecksStay areas (reads (and_then (begun areas) (finding_calls standing areas)))

-- a disk that begins with these areas, after a sync
synced : Areas → Told
synced areas = and_then (begun areas) (Sync ∷ [])

synced_settled : (areas : Areas) → IsSettled (synced areas)
unfolding synced
synced_settled areas = settled-sync (begun areas) []

same_checks : (areas : Areas) → ChecksStay areas areas
same_checks areas = record { check2 = refl; check3 = refl }

-- no area of the journal stands
finds_none : (limit : ℕ) (areas : Areas) → stands Journal areas ≡ Ok None → HaveRecords [] areas → Finds limit [] areas
unfolding synced
finds_none limit areas fresh have =
    let body = area_body 1 [] in
    let long : 16 ≤ length body = omega (arith, length-body 1 []) in
    let t = synced areas in
    let done = renewed t Journal0 body long (synced_settled areas) in
    record {
      standing = None;
      log = log_of Journal0 1 limit [];
      stood = fresh;
      found = refl;
      limits = refl;
      calls = finding_are None areas;
      each = at_sync areas (renew_calls Journal0 body (begun areas)) (StaysFound [] areas) (have, same_checks areas)
          (λ i image is. left image (renew_leaves t Journal0 body long (synced_settled areas) i image is));
      settled = renew_settles t Journal0 body;
      holds = fresh_holds limit areas (reads (and_then t (renew_calls Journal0 body t))) fresh done.others done.whole;
      checks = checks_stay Journal0 areas (reads (and_then t (renew_calls Journal0 body t))) (inl refl) done.others;
    }
  where
    left : (image : Areas) → RenewLeaves Journal0 (area_body 1 []) areas image → StaysFound [] areas image
    left image leaves = (fresh_held areas image fresh leaves, checks_stay Journal0 areas image (inl refl) leaves.others)

-- one stands
finds_one : (limit : ℕ) (records : List (List ℕ)) (areas : Areas) (area : Area) (g : ℕ) → stands Journal areas ≡ Ok (Some (area, g)) → walk_of (bytes_of area areas) ≡ Ok records → HaveRecords records areas → Finds limit records areas
unfolding synced
finds_one limit records areas area g stood found have = record {
  standing = Some (area, g);
  log = log_of area g limit records;
  stood = stood;
  found = ap (found_in area g limit) found;
  limits = refl;
  calls = finding_are (Some (area, g)) areas;
  each = at_sync areas [] (StaysFound records areas) (have, same_checks areas) (at_none (synced areas) (StaysFound records areas) (synced_settled areas) (have, same_checks areas));
  settled = synced_settled areas;
  holds = record { standing = stood; content = have.spelled area g stood; end = refl; base_end = refl };
  checks = same_checks areas;
}

pub finds : (limit : ℕ) (records : List (List ℕ)) (areas : Areas) → HaveRecords records areas → Finds limit records areas
finds limit records areas have = by (stands Journal areas) refl have.found
  where
    by : (j : Judgement) → stands Journal areas ≡ j → records_of areas j ≡ Ok records → Finds limit records areas
    by (Err spot) is found = absurd cc
    by (Ok None) is found =
        let none : [] ≡ records = cc in
        subst (λ (rs : List (List ℕ)). Finds limit rs areas) none (finds_none limit areas is (subst (λ (rs : List (List ℕ)). HaveRecords rs areas) (sym none) have))
    by (Ok (Some (area, g))) is found = finds_one limit records areas area g is (walked area (walk_of (bytes_of area areas)) records found) have
