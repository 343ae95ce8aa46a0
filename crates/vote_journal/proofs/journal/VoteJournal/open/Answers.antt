use Rattle.std.proofs.Common.{arith, ◌≡◌, ◌∙◌, ◌⊎◌, ℕ, ◌+◌, ◌-◌, ◌^◌, ◌<◌, ◌==◌, Bool, true, false, if◌then◌else◌, List, ◌∷◌, [], ◌++◌, length, Option, Some, Ok, Err, Result, IsErrAnd, refl, sym, ap, subst, inr, inl, Vec}
use Rattle.disk_model.specs.Calls.{Told, Tells, and_then, made_by, Makes, LeavesOnly, reads}
use Rattle.disk_model.specs.declared.area.Area.{Area}
use Rattle.gate_area.specs.declared.pair.Pair.TheVariants.{Journal as JournalPair}
use Rattle.gate_area.specs.Standing.{stands}
use Rattle.gate_log.specs.declared.fault.LogFault.{LogFault}
use Rattle.gate_log.specs.Records.{end_of}
use Rattle.gate_log.specs.Journal.{Log, Holds, records_in}
use Rattle.gate_log.specs.Moments.{SameRecords, SinceSync, Finds, OldOrNew}
use Rattle.disk_model.specs.Went.{changes}
use Rattle.disk_model.proofs.Went.{went_before}
use Rattle.mrp_types.specs.declared.id.NodeId.{NodeId}
use Rattle.vote_state.specs.State.{State, taken}
use Rattle.vote_journal.specs.declared.fault.OpenFault.{OpenFault}
use Rattle.vote_journal.specs.declared.fault.OpenFault.TheVariants.{Memory, EpochLimit}
use Rattle.vote_journal.specs.Faults.{opened_as}
use Rattle.vote_journal.specs.Journal.{OpensBy, OpenLeaves, state_of, opened_state, next_epoch, epoch_record}
use Rattle.vote_journal.proofs.Openings.{with_room, within, log_opened, no_log, refused, no_state, no_epoch, no_room, since_as, same_opens, epoch_leaves, opened_stands}
use Rattle.gate_log.specs.Operations.{open_ops}
use Rattle.vote_journal.specs.Operations.{epoch_ops, state_ops}
use Rattle.vote_journal.proofs.Going.{log_unopened, found_ops, found_refused, epoch_refused, epoch_went}
use Rattle.std.specs.declared.alloc.Global.{Global}
use Rattle.vote_journal.proofs.journal.VoteJournal.open.Goals as goal

-- the answer is the fault that was passed on
passed_on : {T : Type 0} (r : Result T OpenFault) (e f : OpenFault) (P : Result T OpenFault → Type 0) → IsErrAnd r (λ x. x ≡ e) → e ≡ f → P (Err f) → P r
passed_on (Ok x) e f P is same here = absurd is
passed_on (Err x) e f P is same here = subst (λ (y : OpenFault). P (Err y)) (sym (is ∙ same)) here

abbrev failed_log : LogFault → Result Log LogFault
failed_log e = Err e

pub returns-in_err-log-clause-finds : goal.returns-in_err-log-clause-finds
returns-in_err-log-clause-finds g c t tells =
    let fault = c.in_err-log.field-0.0 in
    passed_on c.from_residual.result (opened_as fault) (opened_as fault) (OpensBy c.args.id c.args.limit (records_in (reads t))) c.from_residual.ensures.1 refl
    (no_log (λ opened. opened.1.items) c.args.id c.args.limit (records_in (reads t)) fault (c.in_err-log.ensures.finds t tells))

pub returns-in_err-log-clause-moments : goal.returns-in_err-log-clause-moments
returns-in_err-log-clause-moments g c t tells =
    since_as t (g.D.Disk.told c.open.new.disk) (SameRecords (reads t)) (OpenLeaves c.args.id (reads t)) (c.open.ensures.moments t tells) (same_opens c.args.id (reads t))

pub returns-in_err-state-clause-finds : goal.returns-in_err-state-clause-finds
returns-in_err-state-clause-finds g c t tells =
    let fault = c.in_err-state.field-0.0 in
    passed_on c.from_residual-in_err-state.result fault fault (OpensBy c.args.id c.args.limit (records_in (reads t))) c.from_residual-in_err-state.ensures.1 refl
    (refused (λ opened. opened.1.items) (c.in_ok-log.log, c.in_ok-log.records) c.args.id c.args.limit (records_in (reads t)) fault (c.in_ok-log.ensures.finds t tells)
    (no_state c.args.id c.in_ok-log.records.items fault (subst (λ (rs : List (List ℕ)). (fault ≡ Memory) ⊎ (state_of c.args.id rs ≡ Err fault)) c.deref.ensures.value c.in_err-state.ensures.state)))

pub returns-in_err-state-clause-moments : goal.returns-in_err-state-clause-moments
returns-in_err-state-clause-moments g c t tells =
    since_as t (g.D.Disk.told c.open.new.disk) (SameRecords (reads t)) (OpenLeaves c.args.id (reads t)) (c.open.ensures.moments t tells) (same_opens c.args.id (reads t))

pub returns-in_err-bytes-clause-finds : goal.returns-in_err-bytes-clause-finds
returns-in_err-bytes-clause-finds g c t tells =
    let fault = c.in_err-bytes.field-0.0 in
    let so_far = subst (λ (rs : List (List ℕ)). state_of c.args.id rs ≡ Ok c.in_ok-state.state) c.deref.ensures.value c.in_ok-state.ensures.state in
    passed_on c.from_residual-in_err-bytes.result fault fault (OpensBy c.args.id c.args.limit (records_in (reads t))) c.from_residual-in_err-bytes.ensures.1 refl
    (refused (λ opened. opened.1.items) (c.in_ok-log.log, c.in_ok-log.records) c.args.id c.args.limit (records_in (reads t)) fault (c.in_ok-log.ensures.finds t tells)
    (no_epoch c.args.id c.in_ok-log.records.items c.in_ok-state.state fault so_far c.in_err-bytes.ensures.state))

pub returns-in_err-bytes-clause-moments : goal.returns-in_err-bytes-clause-moments
returns-in_err-bytes-clause-moments g c t tells =
    since_as t (g.D.Disk.told c.open.new.disk) (SameRecords (reads t)) (OpenLeaves c.args.id (reads t)) (c.open.ensures.moments t tells) (same_opens c.args.id (reads t))

pub returns-in_err-log-2-clause-finds : goal.returns-in_err-log-2-clause-finds
returns-in_err-log-2-clause-finds g c t tells =
    let fault = c.in_err-log-2.field-0.0 in
    let so_far = subst (λ (rs : List (List ℕ)). state_of c.args.id rs ≡ Ok c.in_ok-state.state) c.deref.ensures.value c.in_ok-state.ensures.state in
    let u = and_then t (changes open_ops t) in
    let told = c.in_ok-log.ensures.went.all refl tells.honest ∙ ap (made_by (changes open_ops)) tells.told in
    let holds = c.in_ok-log.ensures.holds u (record { honest = c.open.ensures.went.honest ∙ tells.honest; told = told }) in
    let spelled = c.bytes-2.ensures ∙ (c.in_ok-bytes.ensures.bytes ∙ ap (λ (rs : List (List ℕ)). epoch_record c.args.id rs c.in_ok-state.state) c.deref-2.ensures.value) in
    passed_on c.from_residual-in_err-log-2.result (opened_as fault) (opened_as fault) (OpensBy c.args.id c.args.limit (records_in (reads t))) c.from_residual-in_err-log-2.ensures.1 refl
    (no_room (λ opened. opened.1.items) (c.in_ok-log.log, c.in_ok-log.records) c.args.id c.args.limit (records_in (reads t)) c.in_ok-state.state c.in_ok-bytes.durable fault (c.in_ok-log.ensures.finds t tells) so_far c.in_ok-bytes.ensures.state
    (λ area at is. c.in_err-log-2.ensures.undamaged area at (ap failed_log is))
    (λ len is.
    let long = c.in_err-log-2.ensures.full len (ap failed_log is) in
    (long.0 ∙ (ap (λ n. n + (5 + length c.bytes-2.result.now)) holds.end ∙ ap (λ (b : List ℕ). end_of c.in_ok-log.records.items + (5 + length b)) spelled), subst (λ n. n < len) c.in_ok-log.ensures.limit long.1)))

-- what the record of the epoch leaves, after the log was opened
both_left : (t : Told) (honest honest' : Bool) (old mid now : Option Told) (id : NodeId) (records : List (List ℕ)) (s : State) (bytes : List ℕ) (log : Log) → Tells old honest t → SinceSync t mid (SameRecords (reads t)) → Makes honest old mid (changes open_ops) → honest' ≡ honest
    → ((v : Told) → Tells mid honest' v → Holds log records (reads v)) → records_in (reads t) ≡ Ok records → state_of id records ≡ Ok s → s.epoch + 1 < 2 ^ 32 → bytes ≡ epoch_record id records s
    → ((v : Told) (rs : List (List ℕ)) → Tells mid honest' v → Holds log rs (reads v) → LeavesOnly v now (OldOrNew rs (rs ++ bytes ∷ []) (reads v))) → SinceSync t now (OpenLeaves id (reads t))
both_left t honest honest' old mid now id records s bytes log tells since makes same holds found is fits spelled leaves =
    let u = and_then t (changes open_ops t) in
    let told : mid ≡ Some u = makes tells.honest ∙ ap (made_by (changes open_ops)) tells.told in
    let now_tells : Tells mid honest' u = record { honest = same ∙ tells.honest; told = told } in
    epoch_leaves t u mid now id records s since told refl found is fits
    (subst (λ (b : List ℕ). LeavesOnly u now (OldOrNew records (records ++ b ∷ []) (reads u))) spelled (leaves u records now_tells (holds u now_tells)))

-- the records that were found are those that are listed
listed_are : {T : Type 0} (listed : T → List (List ℕ)) (x : T) (found : Result (List (List ℕ)) (Area × ℕ)) → Finds listed found (Ok x) → found ≡ Ok (listed x)
listed_are listed x (Ok records) is = ap Ok (sym is)
listed_are listed x (Err spot) is = absurd is

pub returns-in_err-log-2-clause-moments : goal.returns-in_err-log-2-clause-moments
returns-in_err-log-2-clause-moments g c t tells =
    both_left t (g.D.Disk.honest c.args.disk.now) (g.D.Disk.honest c.open.new.disk) (g.D.Disk.told c.args.disk.now) (g.D.Disk.told c.open.new.disk) (g.D.Disk.told c.write_record.new.disk) c.args.id c.in_ok-log.records.items c.in_ok-state.state c.bytes-2.result.now c.in_ok-log.log
    tells (c.open.ensures.moments t tells) (c.in_ok-log.ensures.went.all refl) c.open.ensures.went.honest c.in_ok-log.ensures.holds
    (listed_are (λ opened. opened.1.items) (c.in_ok-log.log, c.in_ok-log.records) (records_in (reads t)) (c.in_ok-log.ensures.finds t tells))
    (subst (λ (rs : List (List ℕ)). state_of c.args.id rs ≡ Ok c.in_ok-state.state) c.deref.ensures.value c.in_ok-state.ensures.state) c.in_ok-bytes.ensures.fits
    (c.bytes-2.ensures ∙ (c.in_ok-bytes.ensures.bytes ∙ ap (λ (rs : List (List ℕ)). epoch_record c.args.id rs c.in_ok-state.state) c.deref-2.ensures.value))
    c.write_record.ensures.moments

pub returns-clause-moments : goal.returns-clause-moments
returns-clause-moments g c t tells =
    both_left t (g.D.Disk.honest c.args.disk.now) (g.D.Disk.honest c.open.new.disk) (g.D.Disk.told c.args.disk.now) (g.D.Disk.told c.open.new.disk) (g.D.Disk.told c.write_record.new.disk) c.args.id c.in_ok-log.records.items c.in_ok-state.state c.bytes-2.result.now c.in_ok-log.log
    tells (c.open.ensures.moments t tells) (c.in_ok-log.ensures.went.all refl) c.open.ensures.went.honest c.in_ok-log.ensures.holds
    (listed_are (λ opened. opened.1.items) (c.in_ok-log.log, c.in_ok-log.records) (records_in (reads t)) (c.in_ok-log.ensures.finds t tells))
    (subst (λ (rs : List (List ℕ)). state_of c.args.id rs ≡ Ok c.in_ok-state.state) c.deref.ensures.value c.in_ok-state.ensures.state) c.in_ok-bytes.ensures.fits
    (c.bytes-2.ensures ∙ (c.in_ok-bytes.ensures.bytes ∙ ap (λ (rs : List (List ℕ)). epoch_record c.args.id rs c.in_ok-state.state) c.deref-2.ensures.value))
    c.write_record.ensures.moments

-- the state that was made is the one of an epoch more
made_is : (old s : State) → opened_state old ≡ Ok s → s ≡ taken (next_epoch old) old
made_is old s h = by_test (old.epoch == 2 ^ 32 - 1) h
  where
    by_test : (t : Bool) → (if t then Err EpochLimit else Ok (taken (next_epoch old) old)) ≡ Ok s → s ≡ taken (next_epoch old) old
    by_test true h = absurd cc
    by_test false h = cc

pub returns-clause-stands : goal.returns-clause-stands
returns-clause-stands g c u now_tells =
    let before = went_before u c.write_record.ensures.went now_tells in
    let records = c.in_ok-log.records.items in
    opened_stands c.args.id c.in_ok-log-2.log records c.in_ok-state.state c.in_ok-bytes.durable c.bytes-2.result.now (reads u)
    (c.bytes-2.ensures ∙ (c.in_ok-bytes.ensures.bytes ∙ ap (λ (rs : List (List ℕ)). epoch_record c.args.id rs c.in_ok-state.state) c.deref-2.ensures.value))
    (subst (λ (rs : List (List ℕ)). state_of c.args.id rs ≡ Ok c.in_ok-state.state) c.deref.ensures.value c.in_ok-state.ensures.state) c.in_ok-bytes.ensures.fits
    (made_is c.in_ok-state.state c.in_ok-bytes.durable c.in_ok-bytes.ensures.state)
    (c.in_ok-log-2.ensures.holds before.0 u records before.1 now_tells (c.in_ok-log.ensures.holds before.0 before.1))

-- what the record of the epoch is, by what was found
pub returns-clause-finds : goal.returns-clause-finds
returns-clause-finds g c t tells =
    let so_far = subst (λ (rs : List (List ℕ)). state_of c.args.id rs ≡ Ok c.in_ok-state.state) c.deref.ensures.value c.in_ok-state.ensures.state in
    let u = and_then t (changes open_ops t) in
    let told = c.in_ok-log.ensures.went.all refl tells.honest ∙ ap (made_by (changes open_ops)) tells.told in
    let holds = c.in_ok-log.ensures.holds u (record { honest = c.open.ensures.went.honest ∙ tells.honest; told = told }) in
    let spelled = c.bytes-2.ensures ∙ (c.in_ok-bytes.ensures.bytes ∙ ap (λ (rs : List (List ℕ)). epoch_record c.args.id rs c.in_ok-state.state) c.deref-2.ensures.value) in
    let log = c.in_ok-log-2.ensures.log in
    let end : c.in_ok-log-2.log.end ≡ c.in_ok-log.log.end + (5 + length c.bytes-2.result.now) = ap (λ (l : Log). l.end) log in
    let limit : c.in_ok-log-2.log.limit ≡ c.args.limit = ap (λ (l : Log). l.limit) log ∙ c.in_ok-log.ensures.limit in
    with_room (λ opened. opened.1.items) (c.in_ok-log.log, c.in_ok-log.records) c.args.id c.args.limit (records_in (reads t)) c.in_ok-state.state
    (record { id = c.args.id; log = c.in_ok-log-2.log; state = c.in_ok-bytes.durable }) (c.in_ok-log.ensures.finds t tells) so_far c.in_ok-bytes.ensures.state refl limit
    (end ∙ ap (λ n. n + (5 + length c.bytes-2.result.now)) holds.end ∙ ap (λ (b : List ℕ). end_of c.in_ok-log.records.items + (5 + length b)) spelled)
    (omega (arith, end, c.in_ok-log.ensures.limit, within c.in_ok-log.log.limit (c.in_ok-log.log.end + (5 + length c.bytes-2.result.now)) c.in_ok-log-2.ensures.longer))

pub returns-clause-room : goal.returns-clause-room
returns-clause-room g c =
    let log = c.in_ok-log-2.ensures.log in
    let end : c.in_ok-log-2.log.end ≡ c.in_ok-log.log.end + (5 + length c.bytes-2.result.now) = ap (λ (l : Log). l.end) log in (
      ap (λ (l : Log). l.limit) log ∙ c.in_ok-log.ensures.limit,
      omega (arith, end, c.in_ok-log.ensures.limit, within c.in_ok-log.log.limit (c.in_ok-log.log.end + (5 + length c.bytes-2.result.now)) c.in_ok-log-2.ensures.longer),
    )

pub returns-clause-log : goal.returns-clause-log
returns-clause-log g c t tells =
    log_opened c.args.id c.args.limit (reads t) (stands JournalPair (reads t)) c.in_ok-log.records.items c.in_ok-state.state c.in_ok-log.log c.in_ok-log-2.log c.bytes-2.result.now refl (c.in_ok-log.ensures.log t tells)
    (listed_are (λ opened. opened.1.items) (c.in_ok-log.log, c.in_ok-log.records) (records_in (reads t)) (c.in_ok-log.ensures.finds t tells))
    (subst (λ (rs : List (List ℕ)). state_of c.args.id rs ≡ Ok c.in_ok-state.state) c.deref.ensures.value c.in_ok-state.ensures.state)
    c.in_ok-log-2.ensures.log
    (c.bytes-2.ensures ∙ (c.in_ok-bytes.ensures.bytes ∙ ap (λ (rs : List (List ℕ)). epoch_record c.args.id rs c.in_ok-state.state) c.deref-2.ensures.value))

abbrev failed_opening : LogFault → Result (Log × Vec (List ℕ) Global) LogFault
failed_opening e = Err e

abbrev failed_state : OpenFault → Result State OpenFault
failed_state e = Err e

abbrev failed_bytes : OpenFault → Result (List ℕ × State) OpenFault
failed_bytes e = Err e

pub returns-in_err-log-clause-went : goal.returns-in_err-log-clause-went
returns-in_err-log-clause-went g c =
    log_unopened (λ opened. opened.1.items) c.args.id c.args.limit c.in_err-log.field-0.0 c.from_residual.result g.met.D.Disk.tells
    c.in_err-log.ensures.finds (λ len is. c.in_err-log.ensures.full len (ap failed_opening is)) c.from_residual.ensures.1 c.in_err-log.ensures.went

-- why the records are refused
no_ops : (id : NodeId) (log : Log) (records : List (List ℕ)) (fault : OpenFault) → state_of id records ≡ Err fault → state_ops id log records (state_of id records) ≡ []
no_ops id log records fault is = ap (state_ops id log records) is

-- and why their epoch is
no_more_ops : (id : NodeId) (log : Log) (records : List (List ℕ)) (s : State) (fault : OpenFault) → state_of id records ≡ Ok s → opened_state s ≡ Err fault → state_ops id log records (state_of id records) ≡ []
no_more_ops id log records s fault so_far is = ap (state_ops id log records) so_far ∙ ap (epoch_ops log (epoch_record id records s)) is

pub returns-in_err-state-clause-went : goal.returns-in_err-state-clause-went
returns-in_err-state-clause-went g c =
    let records = c.in_ok-log.records.items in
    let fault = c.in_err-state.field-0.0 in
    found_refused c.args.id c.args.limit fault c.from_residual-in_err-state.result g.met.D.Disk.tells (λ is. c.in_err-state.ensures.bytes (ap failed_state is)) c.from_residual-in_err-state.ensures.1
    (elim (subst (λ (rs : List (List ℕ)). (fault ≡ Memory) ⊎ (state_of c.args.id rs ≡ Err fault)) c.deref.ensures.value c.in_err-state.ensures.state) [
      | inl memory ↦ inl memory
      | inr is ↦ inr (λ t tells.
          found_ops c.args.id c.args.limit (stands JournalPair (reads t)) (records_in (reads t)) records c.in_ok-log.log (c.in_ok-log.ensures.log t tells)
          (listed_are (λ opened. opened.1.items) (c.in_ok-log.log, c.in_ok-log.records) (records_in (reads t)) (c.in_ok-log.ensures.finds t tells))
          ∙ no_ops c.args.id c.in_ok-log.log records fault is)
    ])
    c.in_ok-log.ensures.went

pub returns-in_err-bytes-clause-went : goal.returns-in_err-bytes-clause-went
returns-in_err-bytes-clause-went g c =
    let records = c.in_ok-log.records.items in
    let fault = c.in_err-bytes.field-0.0 in
    let so_far = subst (λ (rs : List (List ℕ)). state_of c.args.id rs ≡ Ok c.in_ok-state.state) c.deref.ensures.value c.in_ok-state.ensures.state in
    found_refused c.args.id c.args.limit fault c.from_residual-in_err-bytes.result g.met.D.Disk.tells (λ is. c.in_err-bytes.ensures.memory (ap failed_bytes is)) c.from_residual-in_err-bytes.ensures.1
    (elim c.in_err-bytes.ensures.state [
      | inl memory ↦ inl memory
      | inr is ↦ inr (λ t tells.
          found_ops c.args.id c.args.limit (stands JournalPair (reads t)) (records_in (reads t)) records c.in_ok-log.log (c.in_ok-log.ensures.log t tells)
          (listed_are (λ opened. opened.1.items) (c.in_ok-log.log, c.in_ok-log.records) (records_in (reads t)) (c.in_ok-log.ensures.finds t tells))
          ∙ no_more_ops c.args.id c.in_ok-log.log records c.in_ok-state.state fault so_far is)
    ])
    c.in_ok-log.ensures.went

pub returns-in_err-log-2-clause-went : goal.returns-in_err-log-2-clause-went
returns-in_err-log-2-clause-went g c =
    let records = c.in_ok-log.records.items in
    epoch_refused c.in_err-log-2.field-0.0 c.from_residual-in_err-log-2.result c.from_residual-in_err-log-2.ensures.1
    (epoch_went c.args.id c.args.limit records c.in_ok-state.state c.in_ok-bytes.durable c.in_ok-log.log c.bytes-2.result.now g.met.D.Disk.tells
    (subst (λ (rs : List (List ℕ)). state_of c.args.id rs ≡ Ok c.in_ok-state.state) c.deref.ensures.value c.in_ok-state.ensures.state) c.in_ok-bytes.ensures.state
    (c.bytes-2.ensures ∙ (c.in_ok-bytes.ensures.bytes ∙ ap (λ (rs : List (List ℕ)). epoch_record c.args.id rs c.in_ok-state.state) c.deref-2.ensures.value))
    (λ t tells.
    found_ops c.args.id c.args.limit (stands JournalPair (reads t)) (records_in (reads t)) records c.in_ok-log.log (c.in_ok-log.ensures.log t tells)
    (listed_are (λ opened. opened.1.items) (c.in_ok-log.log, c.in_ok-log.records) (records_in (reads t)) (c.in_ok-log.ensures.finds t tells)))
    c.in_ok-log.ensures.went c.in_err-log-2.ensures.went)

pub returns-clause-went : goal.returns-clause-went
returns-clause-went g c =
    let records = c.in_ok-log.records.items in
    epoch_went c.args.id c.args.limit records c.in_ok-state.state c.in_ok-bytes.durable c.in_ok-log.log c.bytes-2.result.now g.met.D.Disk.tells
    (subst (λ (rs : List (List ℕ)). state_of c.args.id rs ≡ Ok c.in_ok-state.state) c.deref.ensures.value c.in_ok-state.ensures.state) c.in_ok-bytes.ensures.state
    (c.bytes-2.ensures ∙ (c.in_ok-bytes.ensures.bytes ∙ ap (λ (rs : List (List ℕ)). epoch_record c.args.id rs c.in_ok-state.state) c.deref-2.ensures.value))
    (λ t tells.
    found_ops c.args.id c.args.limit (stands JournalPair (reads t)) (records_in (reads t)) records c.in_ok-log.log (c.in_ok-log.ensures.log t tells)
    (listed_are (λ opened. opened.1.items) (c.in_ok-log.log, c.in_ok-log.records) (records_in (reads t)) (c.in_ok-log.ensures.finds t tells)))
    c.in_ok-log.ensures.went c.in_ok-log-2.ensures.went
