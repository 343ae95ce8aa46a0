-- The work of a step: wherever it is stopped, each image stands for the state before the step or after it.
use Rattle.std.proofs.Common.{◌≡◌, ◌⊎◌, inl, inr, ℕ, ◌+◌, ◌-◌, ◌<◌, ◌≤◌, ◌^◌, nat_lt, false, if◌then◌else◌, List, [], ◌∷◌, ◌++◌, length, Option, None, Ok, refl, ap, sym, ◌∙◌, subst, arith, length-append}
use Rattle.std.proofs.lemmas.Bool.{le-ltb}
use Rattle.std.proofs.lemmas.List.Concat.{flat_map-cons}
use Rattle.mrp_types.specs.declared.id.NodeId.{NodeId}
use Rattle.mrp_types.specs.declared.id.RingId.{RingId}
use Rattle.command_codec.specs.Fields.{u32_bytes}
use Rattle.command_codec.proofs.ReaderLaws.{wide32}
use Rattle.disk_model.specs.declared.areas.Areas.{Areas}
use Rattle.disk_model.specs.declared.call.Call.{Call}
use Rattle.disk_model.specs.Calls.{Told, begun, and_then, reads}
use Rattle.disk_model.specs.Running.{changes_in}
use Rattle.gate_area.specs.Operations.{gate_ops, renew_ops}
use Rattle.gate_area.specs.Standing.{other_of}
use Rattle.gate_area.proofs.Pairs.{gate_settles}
use Rattle.gate_area.proofs.Phases.{reads_image}
use Rattle.gate_log.specs.Records.{behind_gate, area_body, IsShort}
use Rattle.gate_log.specs.Journal.{appended, compacted}
use Rattle.gate_log.specs.Moments.{ChecksStay}
use Rattle.gate_log.proofs.Moves.{stood, append_holds, append_calls}
use Rattle.gate_log.proofs.Renewals.{IsRenewed, renewed}
use Rattle.vote_state.specs.declared.change.Change.{Change}
use Rattle.vote_state.specs.declared.change.Change.TheVariants.{Epoch, Promise, Vote, Trim}
use Rattle.gate_log.specs.Journal.{records_in}
use Rattle.vote_state.specs.State.{State, nothing_kept, state_changes}
use Rattle.vote_state.proofs.MadeAgain.{state_made}
use Rattle.vote_state.proofs.ValidLemmas.{state_valid}
use Rattle.vote_journal.specs.Spelling.{change_bytes, changes_bytes, named_bytes, record_bytes, first_bytes}
use Rattle.vote_journal.specs.Journal.{Journal, Stands, state_of, recorded, compact_record, compacted_journal}
use Rattle.vote_journal.specs.Operations.{record_ops, compaction_ops}
use Rattle.vote_journal.proofs.Recording.{IsCounted, one_more, recorded_stands}
use Rattle.vote_journal.proofs.Replacing.{kept_epoch, one_record_state, compacted_stands}
use Rattle.checkpoint.specs.Spelling.{checkpoint_body}
use Rattle.checkpoint.specs.Checkpoints.{Checkpoint, Checkpoints, no_checkpoints, checkpoints_in, next_area, save_calls, saved}
use Rattle.protocol.specs.Node.{View, Work, Nothing, Records, Saves, Compacts, ops_of}
use Rattle.bare_world.specs.Worlds.{Possible}
use Rattle.disk_states.specs.States.{HaveRecords, StandsFor, AllStandFor, possible_at, IsHeld, BringsAbout}
use Rattle.disk_states.specs.Works.{MayRecord, MaySave, MayCompact, MayWork, journal_after, checkpoints_after}
use Rattle.disk_states.proofs.Moments.{settled_is, at_none, renew_leaves, renew_settles}
use Rattle.disk_states.proofs.Holding.{same_value, log_held, log_stays, records_stay}
use Rattle.disk_states.proofs.Recording.{HaveEither, append_each}
use Rattle.disk_states.proofs.Compacting.{HoldsAlone, compact_each, compact_holds, compact_calls}
use Rattle.disk_states.proofs.Pairs.{no_area}
use Rattle.disk_states.proofs.Spelling.{body_length}
use Rattle.disk_states.proofs.Saving.{checks_stay, journal_stays, new_stands, SaveLeaves, save_leaves}
use Rattle.disk_model.proofs.Went.{and_none}

-- ---- what is held stands

-- the records of a state, and the areas of the checkpoints as they were
pub stands_by : (j : Journal) (c : Checkpoints) (p : Possible) (records : List (List ℕ)) (areas : Areas) → HaveRecords records areas → state_of j.id records ≡ Ok p.state → checkpoints_in areas ≡ Ok c → c.newest ≡ p.newest
    → StandsFor j.id p areas
stands_by j c p records areas have state checks newest = record { records = records; journal = have; state = state; checkpoints = c; checks = checks; newest = newest }

pub held_stands : (j : Journal) (c : Checkpoints) (areas : Areas) → Stands j areas → checkpoints_in areas ≡ Ok c → StandsFor j.id (possible_at j c) areas
held_stands j c areas stands checks = stands_by j c (possible_at j c) stands.records areas (log_held j.log stands.records areas stands.holds) stands.state checks refl

pub held_images : (j : Journal) (c : Checkpoints) (t : Told) → IsHeld j c t → AllStandFor j.id t (possible_at j c) (possible_at j c)
held_images j c t held image is =
    inl (subst (λ (x : Areas). StandsFor j.id (possible_at j c) x) (sym (settled_is t image held.settled is)) (held_stands j c (reads t) held.journal held.checks))

pub held_anew : (j : Journal) (c : Checkpoints) (t : Told) → IsHeld j c t → IsHeld j c (begun (reads t))
held_anew j c t held = record { settled = λ area. refl; journal = held.journal; checks = held.checks }

-- areas stand for one state
pub one_state : (id : NodeId) (areas : Areas) (p q : Possible) → StandsFor id p areas → StandsFor id q areas → p ≡ q
one_state id areas p q a b =
    let records : a.records ≡ b.records = same_value (records_in areas) a.records b.records a.journal.found b.journal.found in
    let state : p.state ≡ q.state = same_value (state_of id a.records) p.state q.state a.state (ap (state_of id) records ∙ b.state) in
    let checks : a.checkpoints ≡ b.checkpoints = same_value (checkpoints_in areas) a.checkpoints b.checkpoints a.checks b.checks in
    let newest : p.newest ≡ q.newest = sym a.newest ∙ ap (λ (c : Checkpoints). c.newest) checks ∙ b.newest in
    ap (λ (s : State). (let r : Possible = record { state = s; newest = p.newest } in r)) state ∙ ap (λ (n : Option Checkpoint). (let r : Possible = record { state = q.state; newest = n } in r)) newest

-- those of a node that never ran
pub empty_stands : (id : NodeId) → StandsFor id (record { state = nothing_kept; newest = None }) (record { journal0 = []; journal1 = []; check2 = []; check3 = [] })
empty_stands id = record {
  records = [];
  journal = record { found = refl; spelled = λ area g is. absurd (let no : no_area ≡ stood area g = is in cc) };
  state = refl;
  checkpoints = no_checkpoints;
  checks = refl;
  newest = refl;
}

-- ---- no call

pub nothing_brings : (t : Told) (j : Journal) (c : Checkpoints) → IsHeld j c t → BringsAbout t [] (possible_at j c) j c
nothing_brings t j c held = record {
  stopped = λ i image is.
      at_none t (λ x. StandsFor j.id (possible_at j c) x ⊎ StandsFor j.id (possible_at j c) x) held.settled (inl (held_stands j c (reads t) held.journal held.checks)) i image is;
  done = subst (λ (x : Told). IsHeld j c x) (sym (and_none t)) held;
}

-- ---- a record

-- each change has a byte at least
change_some : (c : Change) → 1 ≤ length (change_bytes c)
change_some (Epoch epoch) = omega arith
change_some (Promise ring ballot) = omega arith
change_some (Vote ring v) = omega arith
change_some (Trim ring inst) = omega arith

changes_some : (cs : List Change) → length cs ≤ length (changes_bytes cs)
changes_some [] = omega arith
changes_some (c ∷ cs) = omega (arith, ap length (flat_map-cons change_bytes c cs), length-append (change_bytes c) (changes_bytes cs), change_some c, changes_some cs)

record_length : (cs : List Change) → length (record_bytes cs) ≡ 5 + length (changes_bytes cs)
record_length cs = omega (arith, length-append (u32_bytes (length cs)) (changes_bytes cs), wide32.wide (length cs))

first_length : (node : NodeId) (cs : List Change) → length (first_bytes node cs) ≡ 7 + length (changes_bytes cs)
first_length node cs = omega (arith, length-append (u32_bytes (length cs + 1)) (named_bytes node cs), wide32.wide (length cs + 1))

-- the areas hold the old records or the new ones, so they stand for the old state or for the new one
either_stands : (j : Journal) (c : Checkpoints) (before image : Areas) (later : List (List ℕ)) (p : Possible) → (stands : Stands j before) → checkpoints_in before ≡ Ok c → state_of j.id later ≡ Ok p.state → c.newest ≡ p.newest
    → HaveEither stands.records later before image → StandsFor j.id (possible_at j c) image ⊎ StandsFor j.id p image
either_stands j c before image later p stands checks state newest have = by have.records
  where
    now : checkpoints_in image ≡ Ok c
    now = checks_stay before image c have.checks checks

    by : HaveRecords stands.records image ⊎ HaveRecords later image → StandsFor j.id (possible_at j c) image ⊎ StandsFor j.id p image
    by (inl old) = inl (stands_by j c (possible_at j c) stands.records image old stands.state now refl)
    by (inr new) = inr (stands_by j c p later image new state now newest)

module _ (t : Told) (j : Journal) (c : Checkpoints) (held : IsHeld j c t) where
  -- its calls, where there is room for the record
  record_made : (x : Change) (xs : List Change) → MayRecord j (x ∷ xs) → BringsAbout t (append_calls j.log (record_bytes (x ∷ xs))) (possible_at j c) (recorded j (x ∷ xs)) c
  record_made x xs may = record {
    stopped = λ i image is.
        either_stands j c (reads t) image (held.journal.records ++ record_bytes (x ∷ xs) ∷ []) (possible_at (recorded j (x ∷ xs)) c) held.journal held.checks
        (one_more j.id held.journal.records j.state (x ∷ xs) held.journal.some held.journal.state counted may.each may.rise) refl
        (append_each t j.log held.journal.records (record_bytes (x ∷ xs)) short held.settled held.journal.holds i image is);
    done = record {
      settled = gate_settles j.log.area (j.log.end - 1) (behind_gate (record_bytes (x ∷ xs))) t;
      journal =
          recorded_stands j.id j.log (appended j.log (record_bytes (x ∷ xs))) j.state held.journal.records (x ∷ xs) (reads u) held.journal.some held.journal.state counted may.each may.rise
          (append_holds t j.log held.journal.records (record_bytes (x ∷ xs)) short held.settled held.journal.holds);
      checks = checks_stay (reads t) (reads u) c stay held.checks;
    };
  }
    where
      u : Told
      u = and_then t (append_calls j.log (record_bytes (x ∷ xs)))

      short : IsShort (record_bytes (x ∷ xs))
      short = omega (arith, may.room, may.limit)

      counted : IsCounted (x ∷ xs)
      counted = record { some = omega arith; fits = omega (arith, changes_some (x ∷ xs), record_length (x ∷ xs), short) }

      stay : ChecksStay (reads t) (reads u)
      stay = (append_each t j.log held.journal.records (record_bytes (x ∷ xs)) short held.settled held.journal.holds 4 (reads u) (reads_image u)).checks

  pub record_brings : (cs : List Change) → MayRecord j cs → BringsAbout t (changes_in (record_ops j cs)) (possible_at j c) (recorded j cs) c
  record_brings [] may = nothing_brings t j c held
  record_brings (x ∷ xs) may =
      let r = record_bytes (x ∷ xs) in
      let room : nat_lt j.log.limit (j.log.end + (5 + length r)) ≡ false = le-ltb j.log.limit (j.log.end + (5 + length r)) may.room in
      subst (λ (calls : List Call). BringsAbout t calls (possible_at j c) (recorded j (x ∷ xs)) c)
      (sym (ap (λ b. changes_in (if b then [] else gate_ops j.log.area (j.log.end - 1) (behind_gate r))) room))
      (record_made x xs may)

  -- ---- a compaction

  compact_made : MayCompact j → BringsAbout t (compact_calls j.log (compact_record j) t) (possible_at j c) (compacted_journal j) c
  compact_made may = record {
    stopped = λ i image is.
        either_stands j c (reads t) image (r ∷ []) (possible_at j c) held.journal held.checks again refl
        (compact_each t j.log held.journal.records r short may.generation held.settled held.journal.holds i image is);
    done = record {
      settled = renew_settles t (other_of j.log.area) (area_body (j.log.generation + 1) (r ∷ []));
      journal = compacted_stands j.id (compacted j.log r) j.state r (reads u) again alone.holds;
      checks = checks_stay (reads t) (reads u) c alone.checks held.checks;
    };
  }
    where
      r : List ℕ
      r = compact_record j

      u : Told
      u = and_then t (compact_calls j.log (compact_record j) t)

      short : IsShort (compact_record j)
      short = omega (arith, may.room, may.limit)

      fits : length (state_changes j.state) + 1 < 2 ^ 32
      fits = omega (arith, changes_some (state_changes j.state), first_length j.id (state_changes j.state), may.room, may.limit)

      again : state_of j.id (compact_record j ∷ []) ≡ Ok j.state
      again =
          one_record_state j.id j.state (state_changes j.state) refl (state_valid j.state may.state may.epoch) (state_made j.state may.state)
          (kept_epoch j.id held.journal.records j.state held.journal.some held.journal.state) fits

      alone : HoldsAlone j.log (compact_record j) (reads t) (reads (and_then t (compact_calls j.log (compact_record j) t)))
      alone = compact_holds t j.log held.journal.records (compact_record j) short may.generation held.settled held.journal.holds

  pub compact_brings : MayCompact j → BringsAbout t (changes_in (compaction_ops j t)) (possible_at j c) (compacted_journal j) c
  compact_brings may =
      let r = compact_record j in
      let room : nat_lt j.log.limit (22 + length r) ≡ false = le-ltb j.log.limit (22 + length r) (omega (arith, may.room)) in
      subst (λ (calls : List Call). BringsAbout t calls (possible_at j c) (compacted_journal j) c)
      (sym (ap (λ b. changes_in (if b then [] else renew_ops (other_of j.log.area) (area_body (j.log.generation + 1) (r ∷ [])) t)) room))
      (compact_made may)

  -- ---- a save

  pub save_brings : (tuple : List (RingId × ℕ)) (state : List ℕ) → MaySave c tuple state → BringsAbout t (save_calls c tuple state t) (possible_at j c) j (saved c tuple state)
  save_brings tuple state may = record {
    stopped = λ i image is.
        by image (save_leaves (reads t) image c tuple state may held.checks (renew_leaves t (next_area c.area) body long held.settled i image is));
    done = record {
      settled = renew_settles t (next_area c.area) body;
      journal = record {
        records = held.journal.records;
        some = held.journal.some;
        holds = log_stays j.log held.journal.records (reads t) (reads u) (journal_stays c.area (reads t) (reads u) done.others) held.journal.holds;
        state = held.journal.state;
      };
      checks = new_stands (reads t) (reads u) c tuple state may held.checks done.others done.whole;
    };
  }
    where
      body : List ℕ
      body = checkpoint_body (c.generation + 1) tuple state

      u : Told
      u = and_then t (save_calls c tuple state t)

      long : 16 ≤ length (checkpoint_body (c.generation + 1) tuple state)
      long = body_length (c.generation + 1) tuple state

      done : IsRenewed (next_area c.area) (checkpoint_body (c.generation + 1) tuple state) (reads t) (reads (and_then t (save_calls c tuple state t)))
      done = renewed t (next_area c.area) (checkpoint_body (c.generation + 1) tuple state) long held.settled

      by : (image : Areas) → SaveLeaves c tuple state (reads t) image → StandsFor j.id (possible_at j c) image ⊎ StandsFor j.id (possible_at j (saved c tuple state)) image
      by image leaves = either leaves.checks
        where
          have : HaveRecords held.journal.records image
          have = records_stay held.journal.records (reads t) image leaves.journal (log_held j.log held.journal.records (reads t) held.journal.holds)

          either : (checkpoints_in image ≡ Ok c) ⊎ (checkpoints_in image ≡ Ok (saved c tuple state)) → StandsFor j.id (possible_at j c) image ⊎ StandsFor j.id (possible_at j (saved c tuple state)) image
          either (inl old) = inl (stands_by j c (possible_at j c) held.journal.records image have held.journal.state old refl)
          either (inr new) = inr (stands_by j (saved c tuple state) (possible_at j (saved c tuple state)) held.journal.records image have held.journal.state new refl)

-- ---- the work of a step

pub work_brings : (view : View) (work : Work) (t : Told) → IsHeld view.journal view.checkpoints t → MayWork view work
    → BringsAbout t (changes_in (ops_of view work t)) (possible_at view.journal view.checkpoints) (journal_after view work) (checkpoints_after view work)
work_brings view Nothing t held may = nothing_brings t view.journal view.checkpoints held
work_brings view (Records changes) t held may = record_brings t view.journal view.checkpoints held changes may
work_brings view (Saves tuple state) t held may = save_brings t view.journal view.checkpoints held tuple state may
work_brings view Compacts t held may = compact_brings t view.journal view.checkpoints held may
