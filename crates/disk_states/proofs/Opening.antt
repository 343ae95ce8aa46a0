-- An opening on areas that stand for a possible state.
use Rattle.std.proofs.Common.{◌≡◌, ◌≢◌, ◌⊎◌, inl, inr, ℕ, ◌+◌, ◌-◌, ◌<◌, ◌^◌, ◌==◌, nat_lt, Bool, true, false, if◌then◌else◌, List, [], ◌∷◌, ◌++◌, length, take, Result, Ok, Err, refl, ap, sym, ◌∙◌, subst, arith, append-nil}
use Rattle.std.proofs.lemmas.Bool.{eqb-true, ltb-false, ltb-true}
use Rattle.std.proofs.lemmas.Bool.Decides.{eqb_tells}
use Rattle.mrp_types.specs.declared.id.NodeId.{NodeId}
use Rattle.mrp_config.specs.Config.{Config, partition_of}
use Rattle.disk_model.specs.declared.area.Area.{Area}
use Rattle.disk_model.specs.declared.areas.Areas.{Areas}
use Rattle.disk_model.specs.declared.call.Call.{Call}
use Rattle.disk_model.specs.Calls.{Told, begun, and_then, reads}
use Rattle.disk_model.specs.Running.{Op, changes_in}
use Rattle.gate_area.specs.declared.pair.Pair.TheVariants.{Check as CheckPair}
use Rattle.gate_area.specs.Operations.{survey_ops, gate_ops}
use Rattle.gate_area.specs.Standing.{stands}
use Rattle.gate_area.proofs.Pairs.{gate_settles}
use Rattle.gate_area.proofs.Phases.{reads_image}
use Rattle.gate_log.specs.Records.{behind_gate, IsShort}
use Rattle.gate_log.specs.Journal.{Log, appended}
use Rattle.gate_log.proofs.Moves.{append_holds, append_calls}
use Rattle.vote_state.specs.State.{State, taken}
use Rattle.vote_journal.specs.declared.fault.OpenFault.{OpenFault}
use Rattle.vote_journal.specs.declared.fault.OpenFault.TheVariants.{EpochLimit}
use Rattle.vote_journal.specs.Journal.{Journal, next_epoch, epoch_record, opened_state, opened_end}
use Rattle.vote_journal.proofs.Openings.{raised, opened_stands}
use Rattle.checkpoint.specs.Checkpoints.{Checkpoints, checkpoints_in}
use Rattle.protocol.specs.Lines.{Cause, Full}
use Rattle.bare_world.specs.Worlds.{Possible}
use Rattle.world_model.specs.Opening.{Opening as Openings, Kept, Found, opening, opening_by, finding_by, opened_journal, judged_journal, next_journal, with_epoch, then_opens, judged_for, judged_checkpoints, found_checkpoints, checks_read, kept_of}
use Rattle.disk_states.specs.States.{HaveRecords, StandsFor, AllStandFor, IsHeld}
use Rattle.disk_states.specs.Openings.{raised as in_next_epoch, opening_calls, NewestIsReadable, HasOpened, HasNoRoom, IsFull}
use Rattle.disk_states.proofs.Moments.{AtEach, at_both}
use Rattle.disk_states.proofs.Recording.{HaveEither, append_each}
use Rattle.disk_states.proofs.Saving.{checks_stay}
use Rattle.disk_states.proofs.Finding.{checks_none, finding_calls, StaysFound, Finds, finds}
use Rattle.disk_states.proofs.Judging.{Accepted, accepts, accepted}
use Rattle.disk_model.proofs.Went.{and_then-and_then, changes-append}

abbrev opens_as : List Op → Result Kept Cause → Openings Kept
opens_as work result = record { work = work; result = result }

abbrev failed : Cause → Result Kept Cause
failed cause = Err cause

abbrev found_as : Log → List (List ℕ) → Found
found_as log records = record { log = log; records = records }

abbrev kept_with : Journal → Checkpoints → Kept
kept_with journal checkpoints = record { journal = journal; checkpoints = checkpoints }

-- an epoch that isn't the last one
not_last : (n : ℕ) → n < 2 ^ 32 → (n == 2 ^ 32 - 1) ≡ false → n + 1 < 2 ^ 32
not_last n small other = elim (eqb_tells n (2 ^ 32 - 1)) [ inl alike ↦ absurd (let no : true ≡ false = sym alike.0 ∙ other in cc) | inr differs ↦ below differs.1 ]
  where
    below : n ≢ 2 ^ 32 - 1 → n + 1 < 2 ^ 32
    below differs = omega arith

abbrev journal_as : NodeId → Log → State → Journal
journal_as id log s = record { id = id; log = log; state = s }

module _ (config : Config) (id : NodeId) (areas : Areas) (p : Possible) (limits : config.journal < 2 ^ 32) (small : p.state.epoch < 2 ^ 32) (a : StandsFor id p areas) where
  abbrev One : Type 0
  One = Finds config.journal a.records areas

  one : One
  one = finds config.journal a.records areas a.journal

  abbrev epoch_bytes : List ℕ
  epoch_bytes = epoch_record id a.records p.state

  abbrev next_state : State
  next_state = taken (next_epoch p.state) p.state

  abbrev before : One → List Op
  before f = finding_by areas (Ok f.standing)

  -- what was found, and then each of the calls
  abbrev first_calls : One → List Call
  first_calls f = finding_calls f.standing areas

  abbrev first_told : One → Told
  first_told f = and_then (begun areas) (first_calls f)

  -- ---- how far it goes

  -- it stops before the record of the next epoch
  record Stops (f : One) : Type 0 where
    is : opening config id areas ≡ opens_as (before f ++ []) (Err Full)
    why : (p.state.epoch ≡ 2 ^ 32 - 1) ⊎ HasNoRoom config id areas p

  -- or that is written, and the checkpoints are looked at
  record Goes (f : One) : Type 0 where
    fits : p.state.epoch + 1 < 2 ^ 32
    short : IsShort epoch_bytes
    is : opening config id areas
        ≡ opens_as ((before f ++ gate_ops f.log.area (f.log.end - 1) (behind_gate epoch_bytes)) ++ (survey_ops ++ checks_read areas (stands CheckPair areas)))
        (kept_of (journal_as id (appended f.log epoch_bytes) next_state) (found_checkpoints (judged_for config (partition_of config.partitions id) a.checkpoints)))

  found_opening : (f : One) → opening config id areas ≡ then_opens config id areas (before f) (next_journal id (found_as f.log a.records) p.state (opened_state p.state))
  unfolding opening
  found_opening f =
      ap (opening_by config id areas) f.stood
      ∙ ap (λ (x : Result Found Cause). then_opens config id areas (before f) (opened_journal id x)) f.found
      ∙ ap (λ (x : Result State OpenFault). then_opens config id areas (before f) (judged_journal id (found_as f.log a.records) x)) a.state

  shape : (f : One) → Stops f ⊎ Goes f
  shape f = by_epoch (p.state.epoch == 2 ^ 32 - 1) refl
    where
      next_is : (p.state.epoch == 2 ^ 32 - 1) ≡ false → opening config id areas ≡ then_opens config id areas (before f) (with_epoch id f.log next_state epoch_bytes)
      next_is e =
          found_opening f
          ∙ ap (λ b. then_opens config id areas (before f) (next_journal id (found_as f.log a.records) p.state (if b then Err EpochLimit else Ok next_state))) e

      longer : nat_lt f.log.limit (f.log.end + (5 + length epoch_bytes)) ≡ true → config.journal < opened_end id a.records p.state
      longer over = omega (arith, ltb-true f.log.limit (f.log.end + (5 + length epoch_bytes)) over, f.limits, f.holds.end)

      within : nat_lt f.log.limit (f.log.end + (5 + length epoch_bytes)) ≡ false → IsShort epoch_bytes
      within room = omega (arith, ltb-false f.log.limit (f.log.end + (5 + length epoch_bytes)) room, f.limits, limits)

      by_room : (b : Bool) → nat_lt f.log.limit (f.log.end + (5 + length epoch_bytes)) ≡ b → (p.state.epoch == 2 ^ 32 - 1) ≡ false → Stops f ⊎ Goes f
      by_room true over e = inl (record {
        is = next_is e
            ∙ ap (λ b. then_opens config id areas (before f) (record {
              work = if b then [] else gate_ops f.log.area (f.log.end - 1) (behind_gate epoch_bytes);
              result = if b then Err Full else Ok (journal_as id (appended f.log epoch_bytes) next_state);
            })) over;
        why = inr (record { records = a.records; found = a.journal.found; over = longer over });
      })
      by_room false room e = inr (record {
        fits = not_last p.state.epoch small e;
        short = within room;
        is = next_is e
            ∙ ap (λ b. then_opens config id areas (before f) (record {
              work = if b then [] else gate_ops f.log.area (f.log.end - 1) (behind_gate epoch_bytes);
              result = if b then Err Full else Ok (journal_as id (appended f.log epoch_bytes) next_state);
            })) room
            ∙ ap (λ (x : Result Checkpoints (Area × ℕ)). opens_as ((before f ++ gate_ops f.log.area (f.log.end - 1) (behind_gate epoch_bytes)) ++ (survey_ops ++ checks_read areas (stands CheckPair areas)))
            (kept_of (journal_as id (appended f.log epoch_bytes) next_state) (found_checkpoints (judged_checkpoints config id x)))) a.checks;
      })

      by_epoch : (b : Bool) → (p.state.epoch == 2 ^ 32 - 1) ≡ b → Stops f ⊎ Goes f
      by_epoch true e = inl (record {
        is = found_opening f ∙ ap (λ b. then_opens config id areas (before f) (next_journal id (found_as f.log a.records) p.state (if b then Err EpochLimit else Ok next_state))) e;
        why = inl (eqb-true p.state.epoch (2 ^ 32 - 1) e);
      })
      by_epoch false e = by_room (nat_lt f.log.limit (f.log.end + (5 + length epoch_bytes))) refl e

  -- ---- the calls

  stops_calls : (f : One) → Stops f → opening_calls config id areas ≡ first_calls f
  stops_calls f stops = ap (λ (o : Openings Kept). changes_in o.work) stops.is ∙ ap changes_in (append-nil (before f)) ∙ f.calls

  goes_calls : (f : One) → Goes f → opening_calls config id areas ≡ first_calls f ++ append_calls f.log epoch_bytes
  goes_calls f goes =
      let gate = gate_ops f.log.area (f.log.end - 1) (behind_gate epoch_bytes) in
      let rest = survey_ops ++ checks_read areas (stands CheckPair areas) in
      ap (λ (o : Openings Kept). changes_in o.work) goes.is
      ∙ changes-append (before f ++ gate) rest
      ∙ ap (λ calls. changes_in (before f ++ gate) ++ calls) (checks_none areas (stands CheckPair areas))
      ∙ append-nil (changes_in (before f ++ gate))
      ∙ changes-append (before f) gate
      ∙ ap (λ calls. calls ++ append_calls f.log epoch_bytes) f.calls

  -- ---- what it leaves

  abbrev Either : Areas → Type 0
  Either image = StandsFor id p image ⊎ StandsFor id (in_next_epoch p) image

  abbrev Stood : Areas → Type 0
  Stood image = StandsFor id p image

  found_left : (image : Areas) → StaysFound a.records areas image → StandsFor id p image
  found_left image left = record {
    records = a.records;
    journal = left.0;
    state = a.state;
    checkpoints = a.checkpoints;
    checks = checks_stay areas image a.checkpoints left.1 a.checks;
    newest = a.newest;
  }

  -- the checkpoints are there once the journal was found
  first_checks : (f : One) → checkpoints_in (reads (first_told f)) ≡ Ok a.checkpoints
  first_checks f = checks_stay areas (reads (first_told f)) a.checkpoints f.checks a.checks

  epoch_left : (f : One) → Goes f → (image : Areas) → HaveEither a.records (a.records ++ epoch_bytes ∷ []) (reads (first_told f)) image → Either image
  epoch_left f goes image left = by left.records
    where
      now : checkpoints_in image ≡ Ok a.checkpoints
      now = checks_stay (reads (first_told f)) image a.checkpoints left.checks (first_checks f)

      by : HaveRecords a.records image ⊎ HaveRecords (a.records ++ epoch_bytes ∷ []) image → Either image
      by (inl old) = inl (record { records = a.records; journal = old; state = a.state; checkpoints = a.checkpoints; checks = now; newest = a.newest })
      by (inr new) = inr (record {
        records = a.records ++ epoch_bytes ∷ [];
        journal = new;
        state = raised id a.records p.state a.state goes.fits;
        checkpoints = a.checkpoints;
        checks = now;
        newest = a.newest;
      })

  epoch_each : (f : One) → Goes f → AtEach (first_told f) (append_calls f.log epoch_bytes) (HaveEither a.records (a.records ++ epoch_bytes ∷ []) (reads (first_told f)))
  epoch_each f goes = append_each (first_told f) f.log a.records epoch_bytes goes.short f.settled f.holds

  -- wherever its calls are stopped
  opening_each : AtEach (begun areas) (opening_calls config id areas) Either
  opening_each = by one (shape one)
    where
      first : (f : One) → AtEach (begun areas) (first_calls f) Either
      first f i image is = inl (found_left image (f.each i image is))

      by : (f : One) → Stops f ⊎ Goes f → AtEach (begun areas) (opening_calls config id areas) Either
      by f (inl stops) = subst (λ (calls : List Call). AtEach (begun areas) calls Either) (sym (stops_calls f stops)) (first f)
      by f (inr goes) =
          subst (λ (calls : List Call). AtEach (begun areas) calls Either) (sym (goes_calls f goes))
          (at_both (begun areas) (first_calls f) (append_calls f.log epoch_bytes) Either (first f) (λ i image is. epoch_left f goes image (epoch_each f goes i image is)))

  pub opening_stopped : (i : ℕ) → AllStandFor id (and_then (begun areas) (take i (opening_calls config id areas))) p (in_next_epoch p)
  opening_stopped i image is = opening_each i image is

  -- behind the last epoch it leaves what stood
  pub opening_last : p.state.epoch ≡ 2 ^ 32 - 1 → (i : ℕ) → AllStandFor id (and_then (begun areas) (take i (opening_calls config id areas))) p p
  opening_last last i image is = by one (shape one)
    where
      first : (f : One) → AtEach (begun areas) (first_calls f) Stood
      first f i image is = found_left image (f.each i image is)

      by : (f : One) → Stops f ⊎ Goes f → StandsFor id p image ⊎ StandsFor id p image
      by f (inl stops) = inl ((subst (λ (calls : List Call). AtEach (begun areas) calls Stood) (sym (stops_calls f stops)) (first f)) i image is)
      by f (inr goes) = absurd (let fits = goes.fits in omega arith)

  -- ---- where it ends well

  -- the disk holds the journal with the record of the next epoch
  epoch_held : (f : One) → Goes f → IsHeld (journal_as id (appended f.log epoch_bytes) next_state) a.checkpoints (and_then (begun areas) (opening_calls config id areas))
  epoch_held f goes =
      subst (λ (t : Told). IsHeld (journal_as id (appended f.log epoch_bytes) next_state) a.checkpoints t)
      (and_then-and_then (begun areas) (first_calls f) (append_calls f.log epoch_bytes) ∙ ap (and_then (begun areas)) (sym (goes_calls f goes)))
      (record {
        settled = gate_settles f.log.area (f.log.end - 1) (behind_gate epoch_bytes) (first_told f);
        journal = opened_stands id (appended f.log epoch_bytes) a.records p.state next_state epoch_bytes (reads u) refl a.state goes.fits refl
            (append_holds (first_told f) f.log a.records epoch_bytes goes.short f.settled f.holds);
        checks = checks_stay (reads (first_told f)) (reads u) a.checkpoints (epoch_each f goes 4 (reads u) (reads_image u)).checks (first_checks f);
      })
    where
      u : Told
      u = and_then (first_told f) (append_calls f.log epoch_bytes)

  goes_opened : (f : One) → Goes f → (kept : Kept) (r : Result Checkpoints (Area × ℕ)) → judged_for config (partition_of config.partitions id) a.checkpoints ≡ r
      → kept_of (journal_as id (appended f.log epoch_bytes) next_state) (found_checkpoints r) ≡ Ok kept → HasOpened config id areas p kept
  goes_opened f goes kept (Err spot) judged e = absurd cc
  goes_opened f goes kept (Ok c) judged e =
      subst (λ (k : Kept). HasOpened config id areas p k) (let same : kept_with (journal_as id (appended f.log epoch_bytes) next_state) c ≡ kept = cc in same) (record {
        held = subst (λ (x : Checkpoints). IsHeld (journal_as id (appended f.log epoch_bytes) next_state) x (and_then (begun areas) (opening_calls config id areas))) (sym accepts_it.same) (epoch_held f goes);
        node = refl;
        limit = f.limits;
        room = goes.fits;
        state = refl;
        newest = ap (λ (x : Checkpoints). x.newest) accepts_it.same ∙ a.newest;
        readable = λ partition newest here is. accepts_it.readable partition newest here (a.newest ∙ is);
      })
    where
      accepts_it : Accepted config (partition_of config.partitions id) a.checkpoints c
      accepts_it = accepted config (partition_of config.partitions id) areas a.checkpoints c a.checks judged

  pub opening_opened : (kept : Kept) → (opening config id areas).result ≡ Ok kept → HasOpened config id areas p kept
  opening_opened kept is = by one (shape one)
    where
      by : (f : One) → Stops f ⊎ Goes f → HasOpened config id areas p kept
      by f (inl stops) = absurd (let no : failed Full ≡ Ok kept = sym (ap (λ (o : Openings Kept). o.result) stops.is) ∙ is in cc)
      by f (inr goes) =
          goes_opened f goes kept (judged_for config (partition_of config.partitions id) a.checkpoints) refl (sym (ap (λ (o : Openings Kept). o.result) goes.is) ∙ is)

  -- ---- where it fails by itself

  pub opening_full : NewestIsReadable config id p → (cause : Cause) → (opening config id areas).result ≡ Err cause → IsFull config id areas p cause
  opening_full readable cause is = by one (shape one)
    where
      by : (f : One) → Stops f ⊎ Goes f → IsFull config id areas p cause
      by f (inl stops) = record {
        full = (let no : failed Full ≡ failed cause = sym (ap (λ (o : Openings Kept). o.result) stops.is) ∙ is in let same : Full ≡ cause = cc in sym same);
        why = stops.why;
      }
      by f (inr goes) =
          let journal = journal_as id (appended f.log epoch_bytes) next_state in
          let judged = accepts config (partition_of config.partitions id) a.checkpoints (λ partition newest here there. readable partition newest here (sym a.newest ∙ there)) in
          absurd (let no : kept_of journal (found_checkpoints (Ok a.checkpoints)) ≡ failed cause =
          sym (ap (λ (x : Result Checkpoints (Area × ℕ)). kept_of journal (found_checkpoints x)) judged) ∙ sym (ap (λ (o : Openings Kept). o.result) goes.is) ∙ is in cc)
