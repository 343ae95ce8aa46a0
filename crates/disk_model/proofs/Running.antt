-- How a call of several operations goes by all of them.
use Rattle.std.proofs.Common.{◌≡◌, ◌⊎◌, inl, inr, ℕ, suc, ◌+◌, min, Bool, true, false, List, [], ◌∷◌, ◌++◌, length, take, Option, Some, refl, ap, sym, ◌∙◌, subst, arith}
use Rattle.std.proofs.Math.Seq.{take-append-add, take-append_seam}
use Rattle.std.proofs.lemmas.List.{append-nil, append_assoc, take-append-le, take_min}
use Rattle.disk_model.specs.declared.call.Call.{Call}
use Rattle.disk_model.specs.Calls.{Told, and_then}
use Rattle.disk_model.specs.Sim.{Sim}
use Rattle.disk_model.specs.Running.{Op, Asks, Reads, Does, Ending, Passed, Stopped, Wanted, falls_on, op_passed, op_failed, in_want, GoesAt, Goes, Ran, ran, by_fault, changes_in, Left, Came, GoesBy}

-- ---- one operation and then others

-- no operation is left
pub no_more : (d : Sim) (now : Option Sim) → now ≡ Some d → Came [] d now Passed
unfolding ran
no_more d now is = (refl, is)

-- one has passed, and the others go on from what it left
pub one_more : (op : Op) (ops : List Op) (d : Sim) (mid now : Option Sim) (e : Ending) → GoesAt op d mid Passed
    → Came ops (op_passed op d) now e → Came (op ∷ ops) d now e
unfolding ran
one_more op ops d mid now Passed goes more = subst (λ b. Left (by_fault op d (λ next. ran ops next) b) now true) goes.exactly more
one_more op ops d mid now Stopped goes more = subst (λ b. Left (by_fault op d (λ next. ran ops next) b) now false) goes.exactly more
one_more op ops d mid now Wanted goes more = record {
  count = suc more.count;
  passed = subst (λ b. (by_fault op d (λ next. ran (take more.count ops) next) b).done ≡ true) goes.exactly more.passed;
  disk = subst (λ b. (let r : Ran = by_fault op d (λ next. ran (take more.count ops) next) b in (now ≡ Some r.disk) ⊎ (now ≡ Some (in_want r.disk)))) goes.exactly more.disk;
}

-- one was refused, and is the last one
pub last_one : (op : Op) (ops : List Op) (d : Sim) (now : Option Sim) (e : Ending) → (e ≡ Passed → ⊥) → GoesAt op d now e → Came (op ∷ ops) d now e
unfolding ran
last_one op ops d now Passed never goes = absurd (never refl)
last_one op ops d now Stopped never goes = subst (λ b. Left (by_fault op d (λ next. ran ops next) b) now false) goes.exactly (refl, goes.disk)
last_one op ops d now Wanted never goes = record { count = 0; passed = refl; disk = inr goes.disk }

-- ---- two lists of operations

-- the second is begun where the first has passed
go_on : Ran → List Op → Bool → Ran
go_on r ops true = ran ops r.disk
go_on r ops false = r

first_by : (op : Op) (xs ys : List Op) (d : Sim) (b : Bool) → ran (xs ++ ys) (op_passed op d) ≡ go_on (ran xs (op_passed op d)) ys (ran xs (op_passed op d)).done
    → by_fault op d (λ next. ran (xs ++ ys) next) b ≡ (let r : Ran = by_fault op d (λ next. ran xs next) b in go_on r ys r.done)
unfolding go_on
first_by op xs ys d true more = refl
first_by op xs ys d false more = more

ran-append : (xs ys : List Op) (d : Sim) → ran (xs ++ ys) d ≡ go_on (ran xs d) ys (ran xs d).done
unfolding ran go_on
ran-append [] ys d = refl
ran-append (op ∷ xs) ys d = first_by op xs ys d (falls_on d.trouble.plan op) (ran-append xs ys (op_passed op d))

joined : (xs ys : List Op) (d : Sim) → (ran xs d).done ≡ true → ran (xs ++ ys) d ≡ ran ys (ran xs d).disk
unfolding go_on
joined xs ys d done = ran-append xs ys d ∙ ap (λ b. go_on (ran xs d) ys b) done

-- the first has passed
pub then_come : (xs ys : List Op) (d : Sim) (mid now : Option Sim) (e : Ending) → Came xs d mid Passed → Came ys (ran xs d).disk now e → Came (xs ++ ys) d now e
then_come xs ys d mid now Passed first second = subst (λ r. Left r now true) (sym (joined xs ys d first.0)) second
then_come xs ys d mid now Stopped first second = subst (λ r. Left r now false) (sym (joined xs ys d first.0)) second
then_come xs ys d mid now Wanted first second =
    let part = take-append-add xs ys second.count in
    let is : ran (take (length xs + second.count) (xs ++ ys)) d ≡ ran (take second.count ys) (ran xs d).disk = ap (λ ops. ran ops d) part ∙ joined xs (take second.count ys) d first.0 in
    record {
      count = length xs + second.count;
      passed = subst (λ r. r.done ≡ true) (sym is) second.passed;
      disk = subst (λ r. (now ≡ Some r.disk) ⊎ (now ≡ Some (in_want r.disk))) (sym is) second.disk;
    }

-- the first of the first are the first of all
pub take_front : {A : Type 0} (n : ℕ) (xs ys : List A) → take (min n (length xs)) (xs ++ ys) ≡ take n xs
take_front n xs ys = take-append-le (min n (length xs)) xs ys (omega arith) ∙ take_min n xs

-- the first has not passed
pub come_first : (xs ys : List Op) (d : Sim) (now : Option Sim) (e : Ending) → (e ≡ Passed → ⊥) → Came xs d now e → Came (xs ++ ys) d now e
unfolding go_on
come_first xs ys d now Passed never first = absurd (never refl)
come_first xs ys d now Stopped never first =
    subst (λ r. Left r now false) (sym (ran-append xs ys d)) (subst (λ b. Left (go_on (ran xs d) ys b) now false) (sym first.0) first)
come_first xs ys d now Wanted never first =
    let part = take_front first.count xs ys in
    record {
      count = min first.count (length xs);
      passed = subst (λ ops. (ran ops d).done ≡ true) (sym part) first.passed;
      disk = subst (λ ops. (now ≡ Some (ran ops d).disk) ⊎ (now ≡ Some (in_want (ran ops d).disk))) (sym part) first.disk;
    }

-- the first has passed, and then the caller found no memory
pub come_wanting : (xs ys : List Op) (d : Sim) (now : Option Sim) → Came xs d now Passed → Came (xs ++ ys) d now Wanted
come_wanting xs ys d now first =
    let part = take-append_seam xs ys in
    record {
      count = length xs;
      passed = subst (λ ops. (ran ops d).done ≡ true) (sym part) first.0;
      disk = inl (subst (λ ops. now ≡ Some (ran ops d).disk) (sym part) first.1);
    }

-- ---- what they have changed

told_with : Told → List Call → Told
told_with t calls = record { start = t.start; calls = calls }

-- no call more
none_told : (t : Told) → t ≡ and_then t []
unfolding told_with
none_told t = ap (told_with t) (sym (append-nil t.calls))

-- one call and then the others
one_told : (t : Told) (call : Call) (calls : List Call) → and_then (and_then t (call ∷ [])) calls ≡ and_then t (call ∷ calls)
unfolding told_with
one_told t call calls = ap (told_with t) (append_assoc t.calls (call ∷ []) calls)

-- what an operation that passes has told, and then the others
behind : (op : Op) (d : Sim) (ops : List Op) → and_then (op_passed op d).told (changes_in ops) ≡ and_then d.told (changes_in (op ∷ ops))
behind Asks d ops = refl
behind Reads d ops = refl
behind (Does call) d ops = one_told d.told call (changes_in ops)

ToldAll : Sim → List Call → Ran → Type 0
ToldAll d calls now = now.done ≡ true → now.disk.told ≡ and_then d.told calls

all_by : (op : Op) (ops : List Op) (d : Sim) (b : Bool) → ToldAll (op_passed op d) (changes_in ops) (ran ops (op_passed op d))
    → ToldAll d (changes_in (op ∷ ops)) (by_fault op d (λ next. ran ops next) b)
unfolding ToldAll
all_by op ops d true more done = absurd cc
all_by op ops d false more done = more done ∙ behind op d ops

-- operations that all passed have changed the disk in their order
pub all_told : (ops : List Op) (d : Sim) → (ran ops d).done ≡ true → (ran ops d).disk.told ≡ and_then d.told (changes_in ops)
unfolding ToldAll ran
all_told [] d done = none_told d.told
all_told (op ∷ ops) d done = all_by op ops d (falls_on d.trouble.plan op) (all_told ops (op_passed op d)) done

-- the first calls of the others, behind one more or none
further : (op : Op) (d : Sim) (ops : List Op) (j : ℕ) → (i : ℕ) × (and_then (op_passed op d).told (take j (changes_in ops)) ≡ and_then d.told (take i (changes_in (op ∷ ops))))
further Asks d ops j = (j, refl)
further Reads d ops j = (j, refl)
further (Does call) d ops j = (suc j, one_told d.told call (take j (changes_in ops)))

-- one that fails changes nothing
failed_told : (op : Op) (d : Sim) → (op_failed op d).told ≡ d.told
failed_told Asks d = refl
failed_told Reads d = refl
failed_told (Does call) d = refl

ToldSome : Sim → List Call → Ran → Type 0
ToldSome d calls now = (j : ℕ) × (now.disk.told ≡ and_then d.told (take j calls))

some_by : (op : Op) (ops : List Op) (d : Sim) (b : Bool) → ToldSome (op_passed op d) (changes_in ops) (ran ops (op_passed op d))
    → ToldSome d (changes_in (op ∷ ops)) (by_fault op d (λ next. ran ops next) b)
unfolding ToldSome
some_by op ops d true more = (0, failed_told op d ∙ none_told d.told)
some_by op ops d false more = let next = further op d ops more.0 in (next.0, more.1 ∙ next.1)

-- where one failed, the first of them have
pub some_told : (ops : List Op) (d : Sim) → (j : ℕ) × ((ran ops d).disk.told ≡ and_then d.told (take j (changes_in ops)))
unfolding ToldSome ran
some_told [] d = (0, none_told d.told)
some_told (op ∷ ops) d = some_by op ops d (falls_on d.trouble.plan op) (some_told ops (op_passed op d))

-- ---- calls, one after another

-- one operation is a list of one
pub one_goes : (op : Op) (old now : Option Sim) (e : Ending) → Goes op old now e → GoesBy (λ t. op ∷ []) old now e
one_goes op old now Passed goes d is = let here = goes d is in one_more op [] d now now Passed here (no_more (op_passed op d) now here.disk)
one_goes op old now Stopped goes d is = last_one op [] d now Stopped (λ no. absurd cc) (goes d is)
one_goes op old now Wanted goes d is = last_one op [] d now Wanted (λ no. absurd cc) (goes d is)

-- the first has passed, and the second goes by what was told then
pub all_go : (xs ys : Told → List Op) (old mid now : Option Sim) (e : Ending) → GoesBy xs old mid Passed → GoesBy ys mid now e → GoesBy (λ t. xs t ++ ys (and_then t (changes_in (xs t)))) old now e
all_go xs ys old mid now e first second d is =
    let here = first d is in
    then_come (xs d.told) (ys (and_then d.told (changes_in (xs d.told)))) d mid now e here
    (subst (λ t. Came (ys t) (ran (xs d.told) d).disk now e) (all_told (xs d.told) d here.0) (second (ran (xs d.told) d).disk here.1))
