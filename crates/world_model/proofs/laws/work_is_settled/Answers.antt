use Rattle.std.proofs.Common.{ℕ, ◌+◌, ◌-◌, min, nat_lt, Bool, true, false, if◌then◌else◌, List, [], ◌∷◌, length, sym, subst}
use Rattle.std.proofs.lemmas.List.{append-nil}
use Rattle.disk_model.specs.declared.area.Area.{Area}
use Rattle.disk_model.specs.declared.call.Call.TheVariants.{Write, Cut, Sync}
use Rattle.disk_model.specs.Calls.{Told, and_then, area_bytes, IsSettled}
use Rattle.disk_model.proofs.OnArea.{settled-sync}
use Rattle.gate_area.specs.Gate.{gate_calls, renew_calls}
use Rattle.protocol.specs.Node.{View, Work, Nothing, Records, Saves, Compacts, ops_of}
use Rattle.disk_model.specs.Running.{changes_in}
use Rattle.gate_area.specs.Operations.{gate_ops, renew_ops}
use Rattle.vote_journal.specs.Journal.{compact_record}
use Rattle.vote_journal.specs.Spelling.{record_bytes}
use Rattle.world_model.proofs.laws.work_is_settled.Goals as goal

idle : (t : Told) → IsSettled t → IsSettled (and_then t [])
idle t settled = subst (λ calls. (let u : Told = record { start = t.start; calls = calls } in IsSettled u)) (sym (append-nil t.calls)) settled

gated : (t : Told) (area : Area) (gate : ℕ) (body : List ℕ) → IsSettled (and_then t (gate_calls area gate body))
gated t area gate body = settled-sync t (Write area (gate + 1) body ∷ Sync ∷ Write area gate (1 ∷ []) ∷ [])

renewed : (t u : Told) (area : Area) (body : List ℕ) → IsSettled (and_then t (renew_calls area body u))
renewed t u area body =
    settled-sync t
    (Cut area (min 16 (length (area_bytes area u))) ∷ Sync ∷ Write area 0 (0 ∷ []) ∷ Sync ∷ Write area 1 body ∷ Sync ∷ Write area 0 (1 ∷ []) ∷ [])

-- where there is no room nothing is done
gated_by : (t : Told) (area : Area) (gate : ℕ) (body : List ℕ) (full : Bool) → IsSettled t → IsSettled (and_then t (changes_in (if full then [] else gate_ops area gate body)))
gated_by t area gate body true settled = idle t settled
gated_by t area gate body false settled = gated t area gate body

renewed_by : (t : Told) (area : Area) (body : List ℕ) (full : Bool) → IsSettled t → IsSettled (and_then t (changes_in (if full then [] else renew_ops area body t)))
renewed_by t area body true settled = idle t settled
renewed_by t area body false settled = renewed t t area body

settles : (view : View) (work : Work) (t : Told) → IsSettled t → IsSettled (and_then t (changes_in (ops_of view work t)))
settles view Nothing t settled = idle t settled
settles view (Records []) t settled = idle t settled
settles view (Records (c ∷ cs)) t settled =
    let log = view.journal.log in
    gated_by t log.area (log.end - 1) _ (nat_lt log.limit (log.end + (5 + length (record_bytes (c ∷ cs))))) settled
settles view (Saves tuple state) t settled = renewed t t _ _
settles view Compacts t settled =
    let log = view.journal.log in
    renewed_by t _ _ (nat_lt log.limit (22 + length (compact_record view.journal))) settled

pub returns : goal.returns
returns c = settles
