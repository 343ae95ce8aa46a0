-- What is taken back is what was there before.
use Rattle.std.proofs.Common.{◌≡◌, ℕ, ◌+◌, List, [], ◌∷◌, ◌++◌, length, take, drop, refl, ap, subst, ◌∙◌, inl, inr, arith, length-append, length-take, Result, Ok, Err, OnOk, Bool, true, false, sym, if◌then◌else◌}
use Rattle.std.specs.Result.{is_err, is_ok}
use Rattle.std.proofs.Math.Seq.{drop-append-add, drop-append_seam, take-append-add}
use Rattle.std.proofs.lemmas.Bool.{cases_lt}
use Rattle.std.proofs.lemmas.List.{take_all, drop_all, take_at, drop_at, take-append-drop}
use Rattle.std.proofs.lemmas.Grind.{common_steps}
use Rattle.disk_model.specs.declared.area.Area.{Area}
use Rattle.disk_model.specs.declared.area.Area.TheVariants.{Journal0, Journal1, Check2, Check3}
use Rattle.disk_model.specs.declared.areas.Areas.{Areas}
use Rattle.disk_model.specs.declared.undo.Undo.{Undo}
use Rattle.disk_model.specs.declared.call.Call.{Call}
use Rattle.disk_model.specs.declared.plan.Trouble.{Trouble}
use Rattle.disk_model.specs.Areas.{bytes_of, with_bytes}
use Rattle.disk_model.specs.Calls.{and_then}
use Rattle.disk_model.specs.Causes.{untroubled, change_passed}
use Rattle.disk_model.specs.Sim.{Sim}
use Rattle.disk_model.specs.Steps.{written}
use Rattle.disk_model.specs.Undoing.{undone, undone_in, all_undone, undo_of_write, undo_of_cut}

-- ---- a file

-- what stands in front stays
behind_front : (a over file : List ℕ) → written (length a) over (a ++ file) ≡ a ++ (over ++ drop (length over) file)
behind_front a over file = rw (take_at a file (length a) refl, drop-append-add a file (length over)) refl

-- all that was written over is put back, or all that stood behind the position
rest_back : (k : ℕ) (behind bytes : List ℕ) → k ≡ length bytes → take (length behind) (take k behind ++ drop (length (take k behind)) (bytes ++ drop k behind)) ≡ behind
rest_back k behind bytes size = elim (cases_lt (length behind) k) [
  | inl short ↦
      let whole : take k behind ≡ behind = take_all k behind (omega arith) in
      rw (whole, take_at behind (drop (length behind) (bytes ++ drop k behind)) (length behind) refl) refl
  | inr long ↦
      let over : length (take k behind) ≡ length bytes = omega (arith, length-take k behind) in
      rw (over, drop_at bytes (drop k behind) (length bytes) refl, take-append-drop k behind) (take_all (length behind) behind (omega arith))
]

back_from_write : (at : ℕ) (bytes file : List ℕ) → take (length file) (written at (take (length bytes) (drop at file)) (written at bytes file)) ≡ file
back_from_write at bytes file = elim (cases_lt (length file) at) [
  | inl past ↦
      let all : take at file ≡ file = take_all at file (omega arith) in
      let none : drop at file ≡ [] = drop_all at file (omega arith) in
      let more : drop (at + length bytes) file ≡ [] = drop_all (at + length bytes) file (omega arith) in
      past_end at (length bytes) bytes file all none more
  | inr inside ↦ within at (take at file) (drop at file) bytes file (omega (arith, length-take at file)) (take-append-drop at file)
]
  where
    past_end : (at k : ℕ) (bytes file : List ℕ) → take at file ≡ file → drop at file ≡ [] → drop (at + length bytes) file ≡ [] → take (length file) (written at (take k (drop at file)) (written at bytes file)) ≡ file
    past_end at k bytes file all none more = grind (arith, common_steps)

    within : (at : ℕ) (a behind bytes file : List ℕ) → length a ≡ at → a ++ behind ≡ file → take (length file) (written at (take (length bytes) (drop at file)) (written at bytes file)) ≡ file
    within at a behind bytes file size parts =
        subst (λ n. take (length file) (written n (take (length bytes) (drop n file)) (written n bytes file)) ≡ file) size
        (subst (λ f. take (length f) (written (length a) (take (length bytes) (drop (length a) f)) (written (length a) bytes f)) ≡ f) parts (whole a behind bytes))
      where
        whole : (a behind bytes : List ℕ) → take (length (a ++ behind)) (written (length a) (take (length bytes) (drop (length a) (a ++ behind))) (written (length a) bytes (a ++ behind))) ≡ a ++ behind
        whole a behind bytes =
            let k = length bytes in
            let now = bytes ++ drop k behind in
            let over = take k behind in
            ap (λ f. take (length (a ++ behind)) (written (length a) (take k f) (written (length a) bytes (a ++ behind)))) (drop-append_seam a behind)
            ∙ ap (λ f. take (length (a ++ behind)) (written (length a) over f)) (behind_front a bytes behind)
            ∙ ap (λ f. take (length (a ++ behind)) f) (behind_front a over now)
            ∙ ap (λ n. take n (a ++ (over ++ drop (length over) now))) (length-append a behind)
            ∙ take-append-add a (over ++ drop (length over) now) (length behind)
            ∙ ap (λ f. a ++ f) (rest_back k behind bytes refl)

back_from_cut : (len : ℕ) (file : List ℕ) → take (length file) (written len (drop len file) (take len file)) ≡ file
back_from_cut len file = grind (arith, common_steps, take-append-drop)

write_undone : (area : Area) (at : ℕ) (bytes : List ℕ) (before : Areas) → undone (undo_of_write area at bytes before) (with_bytes area (written at bytes (bytes_of area before)) before) ≡ before
write_undone Journal0 at bytes before = ap (λ f. record before { journal0 = f }) (back_from_write at bytes before.journal0)
write_undone Journal1 at bytes before = ap (λ f. record before { journal1 = f }) (back_from_write at bytes before.journal1)
write_undone Check2 at bytes before = ap (λ f. record before { check2 = f }) (back_from_write at bytes before.check2)
write_undone Check3 at bytes before = ap (λ f. record before { check3 = f }) (back_from_write at bytes before.check3)

cut_undone : (area : Area) (len : ℕ) (before : Areas) → undone (undo_of_cut area len before) (with_bytes area (take len (bytes_of area before)) before) ≡ before
cut_undone Journal0 len before = ap (λ f. record before { journal0 = f }) (back_from_cut len before.journal0)
cut_undone Journal1 len before = ap (λ f. record before { journal1 = f }) (back_from_cut len before.journal1)
cut_undone Check2 len before = ap (λ f. record before { check2 = f }) (back_from_cut len before.check2)
cut_undone Check3 len before = ap (λ f. record before { check3 = f }) (back_from_cut len before.check3)

one_more : (undos : List Undo) (u : Undo) (areas : Areas) → all_undone (undos ++ u ∷ []) areas ≡ all_undone undos (undone u areas)
one_more [] u areas = refl
one_more (x ∷ xs) u areas = ap (undone x) (one_more xs u areas)

-- the start stays the same over a write
pub start_written : (old undos : List Undo) (before now : Areas) (area : Area) (at : ℕ) (bytes : List ℕ) → now ≡ with_bytes area (written at bytes (bytes_of area before)) before → undos ≡ old ++ undo_of_write area at bytes before ∷ [] →
    all_undone undos now ≡ all_undone old before
start_written old undos before now area at bytes done noted =
    ap (λ us. all_undone us now) noted ∙ one_more old (undo_of_write area at bytes before) now
    ∙ ap (λ x. all_undone old (undone (undo_of_write area at bytes before) x)) done ∙ ap (all_undone old) (write_undone area at bytes before)

-- and over a cut
pub start_cut : (old undos : List Undo) (before now : Areas) (area : Area) (len : ℕ) → now ≡ with_bytes area (take len (bytes_of area before)) before → undos ≡ old ++ undo_of_cut area len before ∷ [] →
    all_undone undos now ≡ all_undone old before
start_cut old undos before now area len done noted =
    ap (λ us. all_undone us now) noted ∙ one_more old (undo_of_cut area len before) now
    ∙ ap (λ x. all_undone old (undone (undo_of_cut area len before) x)) done ∙ ap (all_undone old) (cut_undone area len before)

-- what one that is taken back makes of an area
pub undone_bytes : (area : Area) (u : Undo) (areas : Areas) → bytes_of area (undone u areas) ≡ undone_in area u (bytes_of area areas)
undone_bytes area u areas = by area u.area areas u.at u.over u.len
  where
    by : (area own : Area) (areas : Areas) (at : ℕ) (over : List ℕ) (len : ℕ) → (let u : Undo = record { area = own; at = at; over = over; len = len } in bytes_of area (undone u areas) ≡ undone_in area u (bytes_of area areas))
    by Journal0 Journal0 areas at over len = refl
    by Journal0 Journal1 areas at over len = refl
    by Journal0 Check2 areas at over len = refl
    by Journal0 Check3 areas at over len = refl
    by Journal1 Journal0 areas at over len = refl
    by Journal1 Journal1 areas at over len = refl
    by Journal1 Check2 areas at over len = refl
    by Journal1 Check3 areas at over len = refl
    by Check2 Journal0 areas at over len = refl
    by Check2 Journal1 areas at over len = refl
    by Check2 Check2 areas at over len = refl
    by Check2 Check3 areas at over len = refl
    by Check3 Journal0 areas at over len = refl
    by Check3 Journal1 areas at over len = refl
    by Check3 Check2 areas at over len = refl
    by Check3 Check3 areas at over len = refl

abbrev pub sim_of : Areas → List Call → Trouble → Sim
sim_of start calls trouble = record { told = record { start = start; calls = calls }; trouble = trouble }

abbrev pub passed_call : Sim → Call → Sim
passed_call d call = record { told = and_then d.told (call ∷ []); trouble = untroubled change_passed d.trouble }

-- a disk in memory with one call more
pub one_call_more : (start begins : Areas) (old calls : List Call) (trouble next : Trouble) (d : Sim) (call : Call) → sim_of start old trouble ≡ d → begins ≡ start → calls ≡ old ++ call ∷ [] → next ≡ untroubled change_passed trouble →
    sim_of begins calls next ≡ passed_call d call
one_call_more start begins old calls trouble next d call view same more passes =
    cc

-- what a call that gave no error brought about
pub gave : {T E P : Type 0} (r : Result T E) (b : Bool) → b ≡ is_err r → b ≡ false → OnOk r P → P
gave (Ok x) b test none here = here
gave (Err e) b test none here = absurd (let no : false ≡ true = sym none ∙ test in cc)

-- the same of a call that says what it leaves in both cases
pub chose : {T E A : Type 0} (r : Result T E) (b : Bool) (x y now : A) → b ≡ is_err r → b ≡ false → now ≡ (if is_ok r then x else y) → now ≡ x
chose (Ok v) b x y now test none here = here
chose (Err e) b x y now test none here = absurd (let no : false ≡ true = sym none ∙ test in cc)
