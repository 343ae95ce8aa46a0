-- A record more: what the records then stand for, and what a crash leaves meanwhile.
use Rattle.std.proofs.Common.{arith, ◌≡◌, ◌⊎◌, inl, inr, ℕ, ◌+◌, ◌<◌, ◌^◌, Bool, true, List, [], ◌∷◌, ◌++◌, length, Option, Some, Result, Ok, Err, refl, ap, ◌∙◌}
use Rattle.std.specs.Prelude.{not, ◌||◌, if◌then◌else◌}
use Rattle.std.specs.List.{AllByRecursion}
use Rattle.mrp_types.specs.declared.id.NodeId.{NodeId}
use Rattle.disk_model.specs.declared.areas.Areas.{Areas}
use Rattle.disk_model.specs.Calls.{Told, IsSettled, LeavesOnly, reads}
use Rattle.gate_log.specs.Journal.{Log, Holds, IsLogOf, records_in}
use Rattle.gate_log.specs.Moments.{OldOrNew}
use Rattle.gate_log.proofs.Moves.{records_are}
use Rattle.gate_area.proofs.Phases.{leaves_as, stays_leaves}
use Rattle.vote_state.specs.declared.change.Change.{Change}
use Rattle.vote_state.specs.State.{State, taken}
use Rattle.vote_state.specs.Valid.{IsChange}
use Rattle.command_codec.specs.declared.fault.CodecFault.{CodecFault}
use Rattle.vote_journal.specs.declared.fault.OpenFault.{OpenFault}
use Rattle.vote_journal.specs.declared.fault.OpenFault.TheVariants.{BadRecord}
use Rattle.vote_journal.specs.Epochs.{epochs_rise}
use Rattle.vote_journal.specs.Spelling.{record_bytes}
use Rattle.vote_journal.specs.Grammar.{is_newer, changes_of, first_of}
use Rattle.mrp_types.specs.Reading.{◌>>=◌}
use Rattle.vote_journal.specs.Journal.{with_changes, with_record, with_records, first_state, state_of, Journal, state_in, Stands, BeforeOrAfter}
use Rattle.vote_journal.proofs.RecordLaws.{all_again}

abbrev pub ok : State → Result State OpenFault
ok s = Ok s

pub ok_is : (s next : State) → ok s ≡ ok next → s ≡ next
ok_is s next h = cc

-- ---- what the records stand for

more_records : (at : ℕ) (newer : Bool) (s next : State) (rs : List (List ℕ)) (bytes : List ℕ) (cs : List Change) → is_newer bytes ≡ true → with_records at newer s rs ≡ Ok next → changes_of bytes ≡ Ok cs → epochs_rise next.epoch cs ≡ true →
    with_records at newer s (rs ++ bytes ∷ []) ≡ Ok (taken cs next)
more_records at newer s next [] bytes cs second so_far read rise =
    let same : s ≡ next = ok_is s next so_far in
    let rises : epochs_rise s.epoch cs ≡ true = ap (λ (x : State). epochs_rise x.epoch cs) same ∙ rise in
    let once : with_records at newer s (bytes ∷ []) ≡ Ok (taken cs s) = ap (λ (r : Result State OpenFault). r >>= λ x. ok x) (taken_by (is_newer bytes) (changes_of bytes) second read rises) in
    once ∙ ap (λ (x : State). Ok (taken cs x)) same
  where
    taken_by : (b : Bool) (r : Result (List Change) CodecFault) → b ≡ true → r ≡ Ok cs → epochs_rise s.epoch cs ≡ true → (if b || not newer then with_changes at s r else Err (BadRecord at)) ≡ Ok (taken cs s)
    taken_by b r second read rises = rw (second, read, rises) refl
more_records at newer s next (r ∷ rs) bytes cs second so_far read rise = by_first (with_record at newer s r) so_far (λ x h. more_records (at + (5 + length r)) (is_newer r) x next rs bytes cs second h read rise)
  where
    by_first : (one : Result State OpenFault) → (one >>= λ x. with_records (at + (5 + length r)) (is_newer r) x rs) ≡ Ok next →
        ((x : State) → with_records (at + (5 + length r)) (is_newer r) x rs ≡ Ok next → with_records (at + (5 + length r)) (is_newer r) x (rs ++ bytes ∷ []) ≡ Ok (taken cs next)) →
        (one >>= λ x. with_records (at + (5 + length r)) (is_newer r) x (rs ++ bytes ∷ [])) ≡ Ok (taken cs next)
    by_first (Ok x) h later = later x h
    by_first (Err e) h later = absurd cc

-- changes of which there is one at least, and which a record has room for
pub record IsCounted (cs : List Change) : Type 0 where
  pub some : 0 < length cs
  pub fits : length cs < 2 ^ 32

pub one_more : (id : NodeId) (records : List (List ℕ)) (s : State) (cs : List Change) → 0 < length records → state_of id records ≡ Ok s → IsCounted cs → AllByRecursion IsChange cs → epochs_rise s.epoch cs ≡ true →
    state_of id (records ++ record_bytes cs ∷ []) ≡ Ok (taken cs s)
one_more id [] s cs some so_far counted each rise = absurd (omega (arith, some))
one_more id (r ∷ rs) s cs some so_far counted each rise = by_first (first_state id (first_of r)) so_far
  where
    by_first : (one : Result State OpenFault) → (one >>= λ x. with_records (16 + (5 + length r)) (is_newer r) x rs) ≡ Ok s → (one >>= λ x. with_records (16 + (5 + length r)) (is_newer r) x (rs ++ record_bytes cs ∷ [])) ≡ Ok (taken cs s)
    by_first (Ok x) h = more_records (16 + (5 + length r)) (is_newer r) x s rs (record_bytes cs) cs refl h (all_again cs counted.some counted.fits each) rise
    by_first (Err e) h = absurd cc

-- ---- what a crash leaves

-- the areas that hold a log stand for its records
pub records_of_log : (log : Log) (records : List (List ℕ)) (areas : Areas) → Holds log records areas → records_in areas ≡ Ok records
records_of_log log records areas holds = records_are areas log.area log.generation records holds.standing holds.content

pub log_stands : (j : Journal) (areas : Areas) → Stands j areas → IsLogOf j.log areas
log_stands j areas stands = (stands.records, stands.holds)

-- nothing was done
pub still : (t : Told) (now : Option Told) (j : Journal) (s : State) → now ≡ Some t → IsSettled t → Stands j (reads t) → LeavesOnly t now (BeforeOrAfter j.id j.state s (reads t))
still t now j s told settled stands =
    stays_leaves t now (BeforeOrAfter j.id j.state s (reads t)) told settled (record {
      checks = record { check2 = refl; check3 = refl };
      state = inl (stands.records, records_of_log j.log stands.records (reads t) stands.holds, stands.state);
    })

-- the records before or after stand for the state before or after
pub as_states : (id : NodeId) (records later : List (List ℕ)) (old new : State) (before image : Areas) → state_of id records ≡ Ok old → state_of id later ≡ Ok new → OldOrNew records later before image → BeforeOrAfter id old new before image
as_states id records later old new before image first second leaves = record { checks = leaves.checks; state = either leaves.records }
  where
    either : (records_in image ≡ Ok records) ⊎ (records_in image ≡ Ok later) → state_in id image old ⊎ state_in id image new
    either (inl is) = inl (records, is, first)
    either (inr is) = inr (later, is, second)

-- what adding the record leaves
pub recording : (t : Told) (now : Option Told) (j : Journal) (cs : List Change) → IsCounted cs → AllByRecursion IsChange cs → epochs_rise j.state.epoch cs ≡ true → (stands : Stands j (reads t)) →
    LeavesOnly t now (OldOrNew stands.records (stands.records ++ record_bytes cs ∷ []) (reads t)) → LeavesOnly t now (BeforeOrAfter j.id j.state (taken cs j.state) (reads t))
recording t now j cs counted each rise stands leaves =
    leaves_as t now (OldOrNew stands.records (stands.records ++ record_bytes cs ∷ []) (reads t)) (BeforeOrAfter j.id j.state (taken cs j.state) (reads t)) leaves
    (λ image. as_states j.id stands.records (stands.records ++ record_bytes cs ∷ []) j.state (taken cs j.state) (reads t) image stands.state (one_more j.id stands.records j.state cs stands.some stands.state counted each rise))

-- the journal holds after it
pub recorded_stands : (id : NodeId) (log next : Log) (s : State) (records : List (List ℕ)) (cs : List Change) (areas : Areas) → 0 < length records → state_of id records ≡ Ok s → IsCounted cs → AllByRecursion IsChange cs → epochs_rise s.epoch cs ≡ true →
    Holds next (records ++ record_bytes cs ∷ []) areas → Stands (record { id = id; log = next; state = taken cs s }) areas
recorded_stands id log next s records cs areas some state counted each rise holds = record {
  records = records ++ record_bytes cs ∷ [];
  some = longer records (record_bytes cs);
  holds = holds;
  state = one_more id records s cs some state counted each rise;
}
  where
    longer : (rs : List (List ℕ)) (r : List ℕ) → 0 < length (rs ++ r ∷ [])
    longer [] r = omega arith
    longer (x ∷ rs) r = omega arith
