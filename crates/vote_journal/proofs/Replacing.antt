-- One record in place of all: it makes the same state.
use Rattle.std.proofs.Common.{arith, ◌≡◌, ℕ, suc, ◌+◌, ◌<◌, ◌≤◌, ◌^◌, ◌==◌, nat_lt, if◌then◌else◌, Bool, true, false, List, [], ◌∷◌, ◌++◌, length, map, Option, Result, Ok, Err, refl, ap, ◌∙◌, subst, append_assoc}
use Rattle.std.specs.Prelude.{nat_eq, not, ◌||◌}
use Rattle.std.specs.List.{AllByRecursion}
use Rattle.std.proofs.lemmas.Bool.{eq-eqb}
use Rattle.mrp_types.specs.declared.id.NodeId.{NodeId}
use Rattle.mrp_types.specs.declared.id.RingId.{RingId}
use Rattle.mrp_types.proofs.TestLemmas.{both as both_tests, below}
use Rattle.disk_model.specs.declared.areas.Areas.{Areas}
use Rattle.disk_model.specs.Calls.{Told, LeavesOnly, reads}
use Rattle.command_codec.specs.declared.fault.CodecFault.{CodecFault}
use Rattle.command_codec.specs.declared.fault.CodecFault.TheVariants.{BadField, BadKind, Left}
use Rattle.mrp_types.specs.Reading.{both, shown, ◌>>=◌}
use Rattle.command_codec.specs.Reader.{Spot, byte_at, ended, start}
use Rattle.command_codec.proofs.ReaderLaws.{bound, then_was, ok_is as read_is}
use Rattle.command_codec.proofs.Combined.{shown_was, chosen}
use Rattle.gate_log.specs.Journal.{Log, Holds}
use Rattle.gate_log.specs.Moments.{OldOrNew}
use Rattle.gate_area.proofs.Phases.{leaves_as}
use Rattle.mrp_types.specs.declared.voted.Voted.{Voted}
use Rattle.vote_state.specs.declared.ring.RingState.{RingState}
use Rattle.vote_state.specs.declared.change.Change.{Change}
use Rattle.vote_state.specs.declared.change.Change.TheVariants.{Epoch, Promise, Vote, Trim}
use Rattle.vote_state.specs.Ranges.{ranges_of}
use Rattle.vote_state.specs.State.{State, nothing_kept, changed, taken, promise_changes, trim_changes, rings_changes, state_changes}
use Rattle.vote_state.specs.Valid.{IsChange}
use Rattle.vote_journal.specs.declared.fault.OpenFault.{OpenFault}
use Rattle.vote_journal.specs.declared.fault.OpenFault.TheVariants.{BadRecord, WrongNode}
use Rattle.vote_journal.specs.declared.record.First.{First}
use Rattle.vote_journal.specs.Epochs.{epochs_rise}
use Rattle.vote_journal.specs.Spelling.{first_bytes, is_epoch_first}
use Rattle.vote_journal.specs.Grammar.{is_newer, in_format, changes_of, changes_at, first_changes_at, first_at, first_size, first_of}
use Rattle.vote_journal.specs.Journal.{with_changes, with_record, with_records, first_state, state_of, Journal, Stands, BeforeOrAfter}
use Rattle.vote_journal.proofs.RecordLaws.{in_either_format, whole_first_again, made_first}
use Rattle.vote_journal.proofs.Recording.{ok, ok_is, as_states}

-- ---- epochs

-- changes whose epochs rise lower none
pub epoch_rises : (cs : List Change) (s : State) → epochs_rise s.epoch cs ≡ true → s.epoch ≤ (taken cs s).epoch
epoch_rises [] s rise = omega arith
epoch_rises (Epoch epoch ∷ cs) s rise =
    let tests = both_tests (nat_lt s.epoch epoch) (epochs_rise epoch cs) rise in
    let more = below s.epoch epoch tests.0 in
    let later = epoch_rises cs (record s { epoch = epoch }) tests.1 in
    omega arith
epoch_rises (Promise ring ballot ∷ cs) s rise = epoch_rises cs (changed (Promise ring ballot) s) rise
epoch_rises (Vote ring v ∷ cs) s rise = epoch_rises cs (changed (Vote ring v) s) rise
epoch_rises (Trim ring inst ∷ cs) s rise = epoch_rises cs (changed (Trim ring inst) s) rise

-- nor do the changes of a record
record_rises : (at : ℕ) (s next : State) (read : Result (List Change) CodecFault) → with_changes at s read ≡ Ok next → s.epoch ≤ next.epoch
record_rises at s next (Err fault) h = absurd cc
record_rises at s next (Ok cs) h = by_test (epochs_rise s.epoch cs) refl h
  where
    by_test : (b : Bool) → epochs_rise s.epoch cs ≡ b → (if b then ok (taken cs s) else Err (BadRecord at)) ≡ Ok next → s.epoch ≤ next.epoch
    by_test true rise h = subst (λ (x : State). s.epoch ≤ x.epoch) (ok_is (taken cs s) next h) (epoch_rises cs s rise)
    by_test false rise h = absurd cc

-- nor those of a record behind others
later_rises : (at : ℕ) (newer : Bool) (s next : State) (r : List ℕ) → with_record at newer s r ≡ Ok next → s.epoch ≤ next.epoch
later_rises at newer s next r h = by_test (is_newer r || not newer) h
  where
    by_test : (b : Bool) → (if b then with_changes at s (changes_of r) else Err (BadRecord at)) ≡ Ok next → s.epoch ≤ next.epoch
    by_test true h = record_rises at s next (changes_of r) h
    by_test false h = absurd cc

-- nor those of records
records_rise : (at : ℕ) (newer : Bool) (s next : State) (rs : List (List ℕ)) → with_records at newer s rs ≡ Ok next → s.epoch ≤ next.epoch
records_rise at newer s next [] h = let same : s ≡ next = ok_is s next h in rw same (omega arith)
records_rise at newer s next (r ∷ rs) h = by_first (with_record at newer s r) refl h (λ x. records_rise (at + (5 + length r)) (is_newer r) x next rs)
  where
    by_first : (one : Result State OpenFault) → with_record at newer s r ≡ one → (one >>= λ x. with_records (at + (5 + length r)) (is_newer r) x rs) ≡ Ok next →
        ((x : State) → with_records (at + (5 + length r)) (is_newer r) x rs ≡ Ok next → x.epoch ≤ next.epoch) → s.epoch ≤ next.epoch
    by_first (Ok x) is h later =
        let first = later_rises at newer s x r is in
        let rest = later x h in
        omega arith
    by_first (Err e) is h later = absurd cc

-- ---- the epoch of a first record

changes_first : (most : ℕ) (spot : Spot) (x : List Change × Spot) → first_changes_at most spot ≡ Ok x → is_epoch_first x.0 ≡ true
changes_first most spot x h =
    let p = bound (changes_at most spot) (λ changes. if is_epoch_first changes.0 then Ok changes else Err (BadField spot.at)) x h in
    let g = then_was (is_epoch_first p.0.0) (BadField spot.at) p.0 x p.2 in
    subst (λ (y : List Change × Spot). is_epoch_first y.0 ≡ true) g.1 g.0

after_kind : (most behind : ℕ) (rest : List ℕ) (x : First × Spot) → shown made_first (both byte_at (first_changes_at most)) (record { at = behind; rest = rest }) ≡ Ok x → is_epoch_first x.0.changes ≡ true
after_kind most behind [] x h = absurd cc
after_kind most behind (node ∷ rest) x h =
    let p = shown_was (ℕ × List Change) First made_first (both byte_at (first_changes_at most)) (record { at = behind; rest = node ∷ rest }) x h in
    let q = bound (first_changes_at most (record { at = behind + 1; rest = rest })) (λ b. Ok ((node, b.0), b.1)) p.0 p.1 in
    let epoch = changes_first most (record { at = behind + 1; rest = rest }) q.0 q.1 in
    subst (λ (y : First × Spot). is_epoch_first y.0.changes ≡ true) (ap (λ (y : (ℕ × List Change) × Spot). (made_first y.0, y.1)) (read_is ((node, q.0.0), q.0.1) p.0 q.2) ∙ p.2) epoch

at_spot : (most at : ℕ) (bytes : List ℕ) (x : First × Spot) → first_at most (record { at = at; rest = bytes }) ≡ Ok x → is_epoch_first x.0.changes ≡ true
unfolding first_at
at_spot most at [] x h = absurd (no_byte most at x h)
  where
    no_byte : (most at : ℕ) (x : First × Spot) → first_at most (record { at = at; rest = [] }) ≡ Ok x → ⊥
    no_byte most at x h = cc
at_spot most at (kind ∷ rest) x h =
    chosen First (kind == 5) _ _ x (is_epoch_first x.0.changes ≡ true) h (λ is r. after_kind most (at + 1) rest x r) (λ r. absurd (no_kind at x r))
  where
    no_kind : (at : ℕ) (x : First × Spot) → Err (BadKind at) ≡ Ok x → ⊥
    no_kind at x h = cc

-- what was read as a first record begins with an epoch
starts_with_epoch : (bytes : List ℕ) (first : First) → first_of bytes ≡ Ok first → is_epoch_first first.changes ≡ true
starts_with_epoch bytes first h =
    let p = bound (in_format (is_newer bytes) first_size (first_at (length bytes)) (start bytes)) (λ x. ended x.0 x.1) first h in
    let g = then_was (length p.0.1.rest == 0) (Left p.0.1.at) p.0.0 first p.2 in
    subst (λ (f : First). is_epoch_first f.changes ≡ true) g.1
    (in_either_format First first_size (first_at (length bytes)) (λ f. is_epoch_first f.changes ≡ true) (λ spot x read. at_spot (length bytes) spot.at spot.rest x read) (is_newer bytes) (start bytes) p.0 p.1)

-- changes that begin with an epoch, and rise from nothing, make one of at least 1
some_epoch : (cs : List Change) (s : State) → is_epoch_first cs ≡ true → epochs_rise 0 cs ≡ true → 0 < (taken cs s).epoch
some_epoch [] s first rise = absurd cc
some_epoch (Epoch epoch ∷ cs) s first rise =
    let tests = both_tests (nat_lt 0 epoch) (epochs_rise epoch cs) rise in
    let more = below 0 epoch tests.0 in
    let later = epoch_rises cs (record s { epoch = epoch }) tests.1 in
    omega arith
some_epoch (Promise ring ballot ∷ cs) s first rise = absurd cc
some_epoch (Vote ring v ∷ cs) s first rise = absurd cc
some_epoch (Trim ring inst ∷ cs) s first rise = absurd cc

first_rises : (id : NodeId) (read : Result First CodecFault) (next : State) → ((first : First) → read ≡ Ok first → is_epoch_first first.changes ≡ true) → first_state id read ≡ Ok next → 0 < next.epoch
first_rises id (Err fault) next starts h = absurd cc
first_rises id (Ok first) next starts h = by_test (epochs_rise 0 first.changes) (first.node.0 == id.0) refl h
  where
    by_test : (b own : Bool) → epochs_rise 0 first.changes ≡ b → ((if b then ok (taken first.changes nothing_kept) else Err (BadRecord 16)) >>= λ s. if own then Ok s else Err (WrongNode first.node)) ≡ Ok next → 0 < next.epoch
    by_test true true rise h = subst (λ (x : State). 0 < x.epoch) (ok_is (taken first.changes nothing_kept) next h) (some_epoch first.changes nothing_kept (starts first refl) rise)
    by_test true false rise h = absurd cc
    by_test false own rise h = absurd cc

-- a state that records stand for has an epoch of at least 1
pub kept_epoch : (id : NodeId) (records : List (List ℕ)) (s : State) → 0 < length records → state_of id records ≡ Ok s → 0 < s.epoch
kept_epoch id [] s some h = absurd (omega (arith, some))
kept_epoch id (r ∷ rs) s some h = by_first (first_state id (first_of r)) refl h
  where
    by_first : (one : Result State OpenFault) → first_state id (first_of r) ≡ one → (one >>= λ x. with_records (16 + (5 + length r)) (is_newer r) x rs) ≡ Ok s → 0 < s.epoch
    by_first (Ok x) is h =
        let first = first_rises id (first_of r) x (starts_with_epoch r) is in
        let rest = records_rise (16 + (5 + length r)) (is_newer r) x s rs h in
        omega arith
    by_first (Err e) is h = absurd cc

-- ---- the changes that make a state

promise_skipped : (epoch : ℕ) (ring : RingId) (ballot : ℕ) (cs : List Change) → epochs_rise epoch (promise_changes ring ballot ++ cs) ≡ epochs_rise epoch cs
promise_skipped epoch ring ballot cs = by_test (nat_eq ballot 0)
  where
    by_test : (b : Bool) → epochs_rise epoch ((if b then [] else Promise ring ballot ∷ []) ++ cs) ≡ epochs_rise epoch cs
    by_test true = refl
    by_test false = refl

trim_skipped : (epoch : ℕ) (ring : RingId) (inst : ℕ) (cs : List Change) → epochs_rise epoch (trim_changes ring inst ++ cs) ≡ epochs_rise epoch cs
trim_skipped epoch ring inst cs = by_test (nat_eq inst 0)
  where
    by_test : (b : Bool) → epochs_rise epoch ((if b then [] else Trim ring inst ∷ []) ++ cs) ≡ epochs_rise epoch cs
    by_test true = refl
    by_test false = refl

votes_skipped : (epoch : ℕ) (ring : RingId) (votes : List Voted) (cs : List Change) → epochs_rise epoch (map (Vote ring) votes ++ cs) ≡ epochs_rise epoch cs
votes_skipped epoch ring [] cs = refl
votes_skipped epoch ring (v ∷ vs) cs = votes_skipped epoch ring vs cs

-- the changes of rings have no epoch
rings_rise : (epoch number : ℕ) (rings : List RingState) → epochs_rise epoch (rings_changes number rings) ≡ true
rings_rise epoch number [] = refl
rings_rise epoch number (r ∷ rings) =
    let ring : RingId = record { 0 = number } in
    let votes = map (Vote ring) (ranges_of r.votes) in
    let rest = rings_changes (suc number) rings in
    ap (λ (l : List Change). epochs_rise epoch l) (append_assoc (promise_changes ring r.promise ++ trim_changes ring r.trim) votes rest ∙ append_assoc (promise_changes ring r.promise) (trim_changes ring r.trim) (votes ++ rest))
    ∙ promise_skipped epoch ring r.promise (trim_changes ring r.trim ++ (votes ++ rest))
    ∙ trim_skipped epoch ring r.trim (votes ++ rest)
    ∙ votes_skipped epoch ring (ranges_of r.votes) rest
    ∙ rings_rise epoch (suc number) rings

state_rises : (s : State) → 0 < s.epoch → epochs_rise 0 (state_changes s) ≡ true
state_rises s some =
    let test : nat_lt 0 s.epoch ≡ true = grind arith in
    rw (test, rings_rise s.epoch 0 s.rings) refl

first_made : (id : NodeId) (cs : List Change) (read : Result First CodecFault) (s : State) → read ≡ Ok (record { node = id; changes = cs }) → epochs_rise 0 cs ≡ true → taken cs nothing_kept ≡ s → first_state id read ≡ Ok s
first_made id cs read s is rise made =
    let own : (id.0 == id.0) ≡ true = eq-eqb id.0 id.0 refl in
    rw (is, rise, own) (ap (λ (x : State). ok x) made)

-- one first record of the changes that make a state stands for it
pub one_record_state : (id : NodeId) (s : State) (cs : List Change) → cs ≡ state_changes s → AllByRecursion IsChange cs → taken cs nothing_kept ≡ s → 0 < s.epoch → length cs + 1 < 2 ^ 32 → state_of id (first_bytes id cs ∷ []) ≡ Ok s
one_record_state id s cs are each made some fits =
    let rise : epochs_rise 0 cs ≡ true = ap (λ (l : List Change). epochs_rise 0 l) are ∙ state_rises s some in
    let epoch : is_epoch_first cs ≡ true = ap (λ (l : List Change). is_epoch_first l) are in
    let read = whole_first_again (record { node = id; changes = cs }) (record { each = each; epoch = epoch }) fits in
    let first = first_made id cs (first_of (first_bytes id cs)) s read rise made in
    rw first refl

-- ---- the journal

-- what a compaction leaves
pub compacting : (t : Told) (now : Option Told) (j : Journal) (bytes : List ℕ) (stands : Stands j (reads t)) → state_of j.id (bytes ∷ []) ≡ Ok j.state →
    LeavesOnly t now (OldOrNew stands.records (bytes ∷ []) (reads t)) → LeavesOnly t now (BeforeOrAfter j.id j.state j.state (reads t))
compacting t now j bytes stands again leaves =
    leaves_as t now (OldOrNew stands.records (bytes ∷ []) (reads t)) (BeforeOrAfter j.id j.state j.state (reads t)) leaves
    (λ image. as_states j.id stands.records (bytes ∷ []) j.state j.state (reads t) image stands.state again)

-- the journal holds after it
pub compacted_stands : (id : NodeId) (next : Log) (s : State) (bytes : List ℕ) (areas : Areas) → state_of id (bytes ∷ []) ≡ Ok s → Holds next (bytes ∷ []) areas → Stands (record { id = id; log = next; state = s }) areas
compacted_stands id next s bytes areas again holds = record { records = bytes ∷ []; some = omega arith; holds = holds; state = again }
