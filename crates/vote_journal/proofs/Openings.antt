-- An opening: what it answers, and what a crash leaves meanwhile.
use Rattle.std.proofs.Common.{arith, lit<, ◌≡◌, ◌⊎◌, inl, inr, ℕ, ◌+◌, ◌<◌, ◌≤◌, ◌^◌, true, List, [], ◌∷◌, ◌++◌, length, take, ◌==◌, Option, Some, Result, Ok, Err, refl, sym, ap, ◌∙◌, subst}
use Rattle.std.proofs.lemmas.Bool.{cases_lt}
use Rattle.std.proofs.lemmas.List.{take_all}
use Rattle.std.specs.List.{AllByRecursion}
use Rattle.mrp_types.specs.declared.id.NodeId.{NodeId}
use Rattle.disk_model.specs.declared.area.Area.{Area}
use Rattle.disk_model.specs.declared.areas.Areas.{Areas}
use Rattle.disk_model.specs.declared.call.Call.{Call}
use Rattle.disk_model.specs.declared.call.Call.TheVariants.{Sync}
use Rattle.disk_model.specs.Calls.{Told, and_then, IsImage, LeavesOnly, reads}
use Rattle.gate_area.specs.declared.pair.Pair.TheVariants.{Journal as JournalPair}
use Rattle.gate_area.specs.Standing.{stands}
use Rattle.gate_log.specs.declared.fault.LogFault.{LogFault}
use Rattle.gate_log.specs.declared.fault.LogFault.TheVariants as logs
use Rattle.disk_model.specs.Went.{changes}
use Rattle.gate_log.specs.Operations.{find_ops, open_ops}
use Rattle.gate_log.specs.Journal.{Log, Holds, IsFound, records_in, log_at, appended}
use Rattle.gate_log.specs.Moments.{ChecksStay, OldOrNew, SameRecords, SinceSync, Finds}
use Rattle.gate_log.specs.Moments as moments
use Rattle.gate_area.proofs.Phases.{leaves_as, leaves_on, told_is, reads_image}
use Rattle.vote_state.specs.declared.change.Change.TheVariants.{Epoch}
use Rattle.vote_state.specs.State.{State, nothing_kept, taken}
use Rattle.vote_state.specs.Valid.{IsChange}
use Rattle.vote_journal.specs.declared.fault.OpenFault.{OpenFault}
use Rattle.vote_journal.specs.declared.fault.OpenFault.TheVariants.{Disk, Memory, Full}
use Rattle.vote_journal.specs.Epochs.{epochs_rise}
use Rattle.vote_journal.specs.Spelling.{first_bytes}
use Rattle.vote_journal.specs.Faults.{opened_as}
use Rattle.vote_journal.specs.Grammar.{first_of}
use Rattle.vote_journal.specs.Journal.{first_state, state_of, next_epoch, epoch_record, opened_state, opening_of, opened_end, Journal, state_in, Stands, OpenLeaves, IsOpened, IsWant, OpensAs, OpensBy}
use Rattle.vote_journal.proofs.RecordLaws.{whole_first_again}
use Rattle.vote_journal.proofs.Recording.{one_more}

-- ---- what it answers

abbrev Found : Type 0
Found = Result (List (List ℕ)) (Area × ℕ)

failed : OpenFault → Result Journal OpenFault
failed f = Err f

-- want of the disk or of memory is an answer to all
wants : (id : NodeId) (limit : ℕ) (records : List (List ℕ)) (o : Result State OpenFault) (f : OpenFault) → IsWant f → OpensAs id limit records o (Err f)
wants id limit records (Ok s) f want = inr want
wants id limit records (Err e) f want = inr want

opened_want : (e : LogFault) → moments.IsWant e → IsWant (opened_as e)
opened_want e (inl disk) = inl (ap opened_as disk)
opened_want e (inr memory) = inr (ap opened_as memory)

-- the log wasn't opened
pub no_log : {T : Type 0} (listed : T → List (List ℕ)) (id : NodeId) (limit : ℕ) (found : Found) (e : LogFault) → Finds listed found (Err e) → OpensBy id limit found (Err (opened_as e))
no_log listed id limit (Ok records) e want = wants id limit records (opening_of id records) (opened_as e) (opened_want e want)
no_log listed id limit (Err (area, at)) e (inl damaged) = inl (ap opened_as damaged)
no_log listed id limit (Err (area, at)) e (inr want) = inr (opened_want e want)

judged : (id : NodeId) (limit : ℕ) (records : List (List ℕ)) (fault : OpenFault) → (fault ≡ Memory) ⊎ (opening_of id records ≡ Err fault) → OpensAs id limit records (opening_of id records) (Err fault)
judged id limit records fault (inl memory) = wants id limit records (opening_of id records) fault (inr memory)
judged id limit records fault (inr is) = rw is (inl refl)

-- the records that were found are refused, or their epoch is the last
pub refused : {T : Type 0} (listed : T → List (List ℕ)) (x : T) (id : NodeId) (limit : ℕ) (found : Found) (fault : OpenFault) → Finds listed found (Ok x) → (fault ≡ Memory) ⊎ (opening_of id (listed x) ≡ Err fault) → OpensBy id limit found (Err fault)
refused listed x id limit (Ok records) fault is why = judged id limit records fault (subst (λ (rs : List (List ℕ)). (fault ≡ Memory) ⊎ (opening_of id rs ≡ Err fault)) is why)
refused listed x id limit (Err (area, at)) fault is why = absurd is

pub no_state : (id : NodeId) (records : List (List ℕ)) (fault : OpenFault) → (fault ≡ Memory) ⊎ (state_of id records ≡ Err fault) → (fault ≡ Memory) ⊎ (opening_of id records ≡ Err fault)
no_state id records fault (inl memory) = inl memory
no_state id records fault (inr is) = inr (rw is refl)

pub no_epoch : (id : NodeId) (records : List (List ℕ)) (s : State) (fault : OpenFault) → state_of id records ≡ Ok s → (fault ≡ Memory) ⊎ (opened_state s ≡ Err fault) → (fault ≡ Memory) ⊎ (opening_of id records ≡ Err fault)
no_epoch id records s fault is (inl memory) = inl memory
no_epoch id records s fault is (inr limit) = inr (rw is limit)

-- the record of the epoch wasn't written
unwritten : (id : NodeId) (limit : ℕ) (records : List (List ℕ)) (old s : State) (e : LogFault) → state_of id records ≡ Ok old → opened_state old ≡ Ok s
    → ((area : Area) (at : ℕ) → e ≡ logs.Damaged area at → ⊥) → ((len : ℕ) → e ≡ logs.Full len → (len ≡ opened_end id records old) × (limit < len)) → OpensAs id limit records (opening_of id records) (Err (opened_as e))
unwritten id limit records old s logs.Disk so_far more never full = wants id limit records (opening_of id records) Disk (inl refl)
unwritten id limit records old s logs.Memory so_far more never full = wants id limit records (opening_of id records) Memory (inr refl)
unwritten id limit records old s (logs.Damaged area at) so_far more never full = absurd (never area at refl)
unwritten id limit records old s (logs.Full len) so_far more never full =
    let long = full len refl in
    let over : limit < opened_end id records old = subst (λ n. limit < n) long.0 long.1 in
    rw (so_far, more) (inl (old, so_far, ap Full long.0, over))

pub no_room : {T : Type 0} (listed : T → List (List ℕ)) (x : T) (id : NodeId) (limit : ℕ) (found : Found) (old s : State) (e : LogFault) → Finds listed found (Ok x) → state_of id (listed x) ≡ Ok old → opened_state old ≡ Ok s
    → ((area : Area) (at : ℕ) → e ≡ logs.Damaged area at → ⊥) → ((len : ℕ) → e ≡ logs.Full len → (len ≡ opened_end id (listed x) old) × (limit < len)) → OpensBy id limit found (Err (opened_as e))
no_room listed x id limit (Ok records) old s e is so_far more never full =
    unwritten id limit records old s e (subst (λ (rs : List (List ℕ)). state_of id rs ≡ Ok old) is so_far) more never (subst (λ (rs : List (List ℕ)). (len : ℕ) → e ≡ logs.Full len → (len ≡ opened_end id rs old) × (limit < len)) is full)
no_room listed x id limit (Err (area, at)) old s e is so_far more never full = absurd is

-- the record of the epoch was written
pub with_room : {T : Type 0} (listed : T → List (List ℕ)) (x : T) (id : NodeId) (limit : ℕ) (found : Found) (old : State) (j : Journal) → Finds listed found (Ok x) → state_of id (listed x) ≡ Ok old → opened_state old ≡ Ok j.state
    → j.id ≡ id → j.log.limit ≡ limit → j.log.end ≡ opened_end id (listed x) old → j.log.end ≤ limit → OpensBy id limit found (Ok j)
with_room listed x id limit (Ok records) old j is so_far more own same end room =
    subst (λ (rs : List (List ℕ)). OpensAs id limit rs (opening_of id rs) (Ok j)) is
    (subst (λ (o : Result State OpenFault). OpensAs id limit (listed x) o (Ok j)) (sym (opens so_far more)) (
      own,
      refl,
      same,
      λ other here. let one = one_state old other (sym so_far ∙ here) in
          (end ∙ ap (opened_end id (listed x)) one, subst (λ n. n ≤ limit) (end ∙ ap (opened_end id (listed x)) one) room),
    ))
  where
    opens : state_of id (listed x) ≡ Ok old → opened_state old ≡ Ok j.state → opening_of id (listed x) ≡ Ok j.state
    opens so_far more = rw so_far more

    done : State → Result State OpenFault
    done s = Ok s

    one_state : (a b : State) → done a ≡ done b → a ≡ b
    one_state a b h = cc
with_room listed x id limit (Err (area, at)) old j is so_far more own same end room = absurd is

-- what isn't longer than a limit where more would be refused
pub within : {X : Type 0} (limit long : ℕ) → (limit < long → X × ⊥) → long ≤ limit
within limit long never = elim (cases_lt limit long) [ inl over ↦ absurd (never over).1 | inr low ↦ low ]

-- ---- the log

-- the log is the one of the bytes
pub log_opened : (id : NodeId) (limit : ℕ) (areas : Areas) (found : Result (Option (Area × ℕ)) (Area × ℕ)) (records : List (List ℕ)) (old : State) (log next : Log) (bytes : List ℕ) → stands JournalPair areas ≡ found → IsFound limit records found log → records_in areas ≡ Ok records
    → state_of id records ≡ Ok old → next ≡ appended log bytes → bytes ≡ epoch_record id records old → IsOpened id limit areas next
log_opened id limit areas (Ok standing) records old log next bytes stood is found so_far made spelled = record {
  standing = standing;
  records = records;
  old = old;
  stood = stood;
  found = found;
  state = so_far;
  log = made ∙ ap (λ (l : Log). appended l bytes) is ∙ ap (λ (b : List ℕ). appended (log_at limit records standing) b) spelled;
}
log_opened id limit areas (Err spot) records old log next bytes stood is found so_far made spelled = absurd is

-- ---- the state of an epoch more

rising : (n : ℕ) → epochs_rise n (Epoch (n + 1) ∷ []) ≡ true
rising n = grind arith

same_node : (id : NodeId) → (id.0 == id.0) ≡ true
same_node id = grind arith

valid_epoch : (s : State) → s.epoch + 1 < 2 ^ 32 → AllByRecursion IsChange (next_epoch s)
valid_epoch s fits = (fits, tt)

pub raised : (id : NodeId) (records : List (List ℕ)) (s : State) → state_of id records ≡ Ok s → s.epoch + 1 < 2 ^ 32 → state_of id (records ++ epoch_record id records s ∷ []) ≡ Ok (taken (next_epoch s) s)
raised id [] s is fits =
    let none : nothing_kept ≡ s = ok_is nothing_kept s is in
    let read = whole_first_again (record { node = id; changes = next_epoch s }) (record { each = valid_epoch s fits; epoch = refl }) (lit< tt) in
    let first : first_state id (first_of (first_bytes id (next_epoch nothing_kept))) ≡ Ok (taken (next_epoch nothing_kept) nothing_kept) =
    rw (subst (λ (x : State). first_of (first_bytes id (next_epoch x)) ≡ Ok (record { node = id; changes = next_epoch x })) (sym none) read, same_node id) refl in
    subst (λ (x : State). state_of id (first_bytes id (next_epoch x) ∷ []) ≡ Ok (taken (next_epoch x) x)) none (rw first refl)
  where
    done : State → Result State OpenFault
    done x = Ok x

    ok_is : (a b : State) → done a ≡ done b → a ≡ b
    ok_is a b h = cc
raised id (r ∷ rs) s is fits = one_more id (r ∷ rs) s (next_epoch s) (omega arith) is (record { some = lit< tt; fits = lit< tt }) (valid_epoch s fits) (rising s.epoch)

-- ---- what a crash leaves

pub since_as : (t : Told) (now : Option Told) (P Q : Areas → Type 0) → SinceSync t now P → ((image : Areas) → P image → Q image) → SinceSync t now Q
since_as t now P Q (inl none) same = inl none
since_as t now P Q (inr leaves) same = inr (leaves_as (and_then t (Sync ∷ [])) now P Q leaves same)

pub same_opens : (id : NodeId) (before image : Areas) → SameRecords before image → OpenLeaves id before image
same_opens id before image same = record { checks = same.checks; state = inl same.records }

not_longer : (n m : ℕ) → n ≡ n + (m + 1) → ⊥
not_longer n m h = absurd (omega (arith, h))

-- calls were made, so what is told isn't what was told before
not_same : (t u : Told) → u ≡ and_then t (changes open_ops t) → u ≡ t → ⊥
not_same t u made same =
    let lengths : length t.calls ≡ length (t.calls ++ changes open_ops t) = ap (λ (x : Told). length x.calls) (sym same ∙ made) in
    not_longer (length t.calls) (length (changes find_ops t)) (lengths ∙ counted t.calls (changes find_ops t))
  where
    counted : (xs ys : List Call) → length (xs ++ Sync ∷ ys) ≡ length xs + (length ys + 1)
    counted [] ys = omega arith
    counted (x ∷ xs) ys = let rest = counted xs ys in omega (arith, rest)

both_stay : (before middle image : Areas) → ChecksStay before middle → ChecksStay middle image → ChecksStay before image
both_stay before middle image first second = record { check2 = second.check2 ∙ first.check2; check3 = second.check3 ∙ first.check3 }

-- what the last of the log's opening left, the epoch's record leaves or has one more
pub epoch_leaves : (t u : Told) (mid now : Option Told) (id : NodeId) (records : List (List ℕ)) (s : State) → SinceSync t mid (SameRecords (reads t)) → mid ≡ Some u → u ≡ and_then t (changes open_ops t)
    → records_in (reads t) ≡ Ok records → state_of id records ≡ Ok s → s.epoch + 1 < 2 ^ 32 → LeavesOnly u now (OldOrNew records (records ++ epoch_record id records s ∷ []) (reads u)) → SinceSync t now (OpenLeaves id (reads t))
epoch_leaves t u mid now id records s (inl none) told made found is fits leaves = absurd (not_same t u made (told_is t u mid none told))
epoch_leaves t u mid now id records s (inr first) told made found is fits leaves =
    let v = and_then t (Sync ∷ []) in
    let whole = first_all in
    inr (leaves_on v u mid now (SameRecords (reads t)) (OldOrNew records (records ++ epoch_record id records s ∷ []) (reads u)) (OpenLeaves id (reads t)) first told leaves (same_opens id (reads t)) (λ image left. from_second image left))
  where
    middle : u ≡ and_then (and_then t (Sync ∷ [])) first.made
    middle = told_is (and_then (and_then t (Sync ∷ [])) first.made) u mid first.told told

    all_taken : (cs : List Call) → take (length cs) cs ≡ cs
    all_taken cs = take_all (length cs) cs (omega arith)

    first_all : SameRecords (reads t) (reads u)
    first_all =
        let image : IsImage (and_then (and_then t (Sync ∷ [])) first.made) (reads u) = subst (λ (x : Told). IsImage x (reads u)) middle (reads_image u) in
        first.each (length first.made) (reads u) (subst (λ (cs : List Call). IsImage (and_then (and_then t (Sync ∷ [])) cs) (reads u)) (sym (all_taken first.made)) image)

    from_second : (image : Areas) → OldOrNew records (records ++ epoch_record id records s ∷ []) (reads u) image → OpenLeaves id (reads t) image
    from_second image left = record { checks = both_stay (reads t) (reads u) image first_all.checks left.checks; state = either left.records }
      where
        either : (records_in image ≡ Ok records) ⊎ (records_in image ≡ Ok (records ++ epoch_record id records s ∷ [])) → (records_in image ≡ records_in (reads t)) ⊎ ((old : State) × state_in id (reads t) old × state_in id image (taken (next_epoch old) old))
        either (inl same) = inl (same ∙ sym found)
        either (inr more) = inr (s, (records, found, is), (records ++ epoch_record id records s ∷ [], more, raised id records s is fits))

-- the journal holds after it
pub opened_stands : (id : NodeId) (next : Log) (records : List (List ℕ)) (old s : State) (bytes : List ℕ) (areas : Areas) → bytes ≡ epoch_record id records old → state_of id records ≡ Ok old → old.epoch + 1 < 2 ^ 32 → s ≡ taken (next_epoch old) old → Holds next (records ++ bytes ∷ []) areas
    → Stands (record { id = id; log = next; state = s }) areas
opened_stands id next records old s bytes areas spelled is fits made holds = record {
  records = records ++ bytes ∷ [];
  some = longer records bytes;
  holds = holds;
  state = subst (λ (b : List ℕ). state_of id (records ++ b ∷ []) ≡ Ok s) (sym spelled) (subst (λ (x : State). state_of id (records ++ epoch_record id records old ∷ []) ≡ Ok x) (sym made) (raised id records old is fits));
}
  where
    longer : (rs : List (List ℕ)) (r : List ℕ) → 0 < length (rs ++ r ∷ [])
    longer [] r = omega arith
    longer (x ∷ rs) r = omega arith
