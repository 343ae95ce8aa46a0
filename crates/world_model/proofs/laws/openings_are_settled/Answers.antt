use Rattle.std.proofs.Common.{◌≡◌, ℕ, ◌+◌, ◌-◌, ◌/◌, nat_lt, Bool, true, false, if◌then◌else◌, List, [], ◌∷◌, ◌++◌, length, Option, None, Some, Result, Ok, Err, refl, ap, sym, subst, ◌∙◌}
use Rattle.std.proofs.lemmas.List.{append-nil, append_assoc}
use Rattle.mrp_types.specs.declared.id.NodeId.{NodeId}
use Rattle.mrp_config.specs.Config.{Config}
use Rattle.disk_model.specs.declared.area.Area.{Area}
use Rattle.disk_model.specs.declared.areas.Areas.{Areas}
use Rattle.disk_model.specs.declared.call.Call.{Call}
use Rattle.disk_model.specs.declared.call.Call.TheVariants.{Write, Sync}
use Rattle.disk_model.specs.Areas.{bytes_of}
use Rattle.disk_model.specs.Calls.{Told, and_then, IsSettled}
use Rattle.disk_model.proofs.OnArea.{settled-sync}
use Rattle.disk_model.proofs.Went.{changes-append, reads_change}
use Rattle.gate_area.specs.declared.pair.Pair.TheVariants.{Journal as JournalPair, Check as CheckPair}
use Rattle.gate_area.specs.Standing.{stands}
use Rattle.gate_log.specs.Records.{behind_gate}
use Rattle.gate_log.specs.Journal.{Log, appended}
use Rattle.vote_state.specs.State.{State}
use Rattle.vote_journal.specs.declared.fault.OpenFault.{OpenFault}
use Rattle.vote_journal.specs.Journal.{Journal, state_of, opened_state, epoch_record}
use Rattle.protocol.specs.Lines.{Cause, Full}
use Rattle.disk_model.specs.Running.{Op, changes_in}
use Rattle.gate_area.specs.Operations.{gate_ops}
use Rattle.world_model.specs.Opening.{Opening, Found, Kept, opening, finding_by, found_by, next_journal, judged_journal, opened_journal, opened_checks, checks_read, then_checks}
use Rattle.world_model.proofs.laws.openings_are_settled.Goals as goal

readings_none : (areas : Areas) (standing : Result (Option (Area × ℕ)) (Area × ℕ)) → changes_in (checks_read areas standing) ≡ []
readings_none areas (Err spot) = refl
readings_none areas (Ok None) = refl
readings_none areas (Ok (Some (area, generation))) = reads_change (length (bytes_of area areas) / 65536 + 1)

-- the last of the changes is a sync
EndsSynced : List Op → Type 0
EndsSynced ops = (calls : List Call) × (changes_in ops ≡ calls ++ Sync ∷ [])

-- an opening whose result is a journal ends so
Ends : Opening Journal → Type 0
Ends o = (j : Journal) → o.result ≡ Ok j → EndsSynced o.work

ends_with_room : (id : NodeId) (log : Log) (s : State) (r : List ℕ) (full : Bool)
    → Ends (record { work = if full then [] else gate_ops log.area (log.end - 1) (behind_gate r); result = if full then Err Full else Ok (record { id = id; log = appended log r; state = s }) })
unfolding Ends EndsSynced
ends_with_room id log s r true j is = absurd cc
ends_with_room id log s r false j is = (Write log.area (log.end - 1 + 1) (behind_gate r) ∷ Sync ∷ Write log.area (log.end - 1) (1 ∷ []) ∷ [], refl)

ends_with_epoch : (id : NodeId) (found : Found) (s : State) (next : Result State OpenFault) → Ends (next_journal id found s next)
unfolding Ends
ends_with_epoch id found s (Ok next) = ends_with_room id found.log next (epoch_record id found.records s) (nat_lt found.log.limit (appended found.log (epoch_record id found.records s)).end)
ends_with_epoch id found s (Err fault) = λ j is. absurd cc

ends_judged : (id : NodeId) (found : Found) (s : Result State OpenFault) → Ends (judged_journal id found s)
unfolding Ends
ends_judged id found (Ok s) = ends_with_epoch id found s (opened_state s)
ends_judged id found (Err fault) = λ j is. absurd cc

ends_opened : (id : NodeId) (found : Result Found Cause) → Ends (opened_journal id found)
unfolding Ends
ends_opened id (Ok found) = ends_judged id found (state_of id found.records)
ends_opened id (Err cause) = λ j is. absurd cc

settles : (config : Config) (id : NodeId) (areas : Areas) (kept : Kept) (t : Told) (before work : List Op) (r : Result Journal Cause)
    → ((j : Journal) → r ≡ Ok j → EndsSynced work)
    → (then_checks config id before areas work r).result ≡ Ok kept → IsSettled (and_then t (changes_in (then_checks config id before areas work r).work))
unfolding EndsSynced
settles config id areas kept t before work (Err cause) ends is = absurd cc
settles config id areas kept t before work (Ok j) ends is =
    let end = ends j refl in
    let rest : List Op = (opened_checks config id areas (stands CheckPair areas)).work in
    let all : changes_in ((before ++ work) ++ rest) ≡ (changes_in before ++ end.0) ++ Sync ∷ [] =
    changes-append (before ++ work) rest
    ∙ ap (λ calls. changes_in (before ++ work) ++ calls) (readings_none areas (stands CheckPair areas))
    ∙ append-nil (changes_in (before ++ work))
    ∙ changes-append before work
    ∙ ap (λ calls. changes_in before ++ calls) end.1
    ∙ sym (append_assoc (changes_in before) end.0 (Sync ∷ [])) in
    subst (λ calls. IsSettled (and_then t calls)) (sym all) (settled-sync t (changes_in before ++ end.0))

pub returns : goal.returns
unfolding opening Ends
returns c = λ config id areas kept t is.
    let standing = stands JournalPair areas in
    let journal = opened_journal id (found_by config.journal areas standing) in
    settles config id areas kept t (finding_by areas standing) journal.work journal.result (ends_opened id (found_by config.journal areas standing)) is
