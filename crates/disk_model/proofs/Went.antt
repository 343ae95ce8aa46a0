-- How a call goes by several operations, one after another.
use Rattle.std.proofs.Common.{◌≡◌, ℕ, ◌+◌, min, Bool, true, false, List, [], ◌∷◌, ◌++◌, length, take, Option, None, Some, Result, Ok, Err, OnOk, OnErr, IsErrAnd, replicate, zero, suc, refl, ap, sym, ◌∙◌, subst, append_assoc, arith}
use Rattle.std.proofs.Math.Seq.{take-append-add, take-append_seam}
use Rattle.std.proofs.lemmas.List.{append-nil}
use Rattle.disk_model.specs.declared.area.Refused.{Refused}
use Rattle.disk_model.specs.declared.area.Refused.TheVariants.{Failed, Memory}
use Rattle.disk_model.specs.declared.areas.Areas.{Areas}
use Rattle.disk_model.specs.declared.call.Call.{Call}
use Rattle.disk_model.specs.declared.disk.Disk.{Ghosts}
use Rattle.disk_model.specs.Calls.{Told, Tells, and_then, followed, made_by, LeavesOnly, IsImage}
use Rattle.disk_model.specs.Causes.{Causes}
use Rattle.disk_model.specs.Running.{Op, Asks, Reads, Does, Ending, Passed, Wanted, refused_ending, ending, is_stopped, changes_in, Did, Came}
use Rattle.disk_model.specs.Sim.{Sim}
use Rattle.disk_model.specs.Went.{changes, Rises, WentBy}
use Rattle.disk_model.proofs.Telling.{leaves_only, told_before}
use Rattle.disk_model.proofs.Running.{no_more, come_first, come_wanting, take_front, one_goes, all_go}

-- ---- what was told

pub and_then-and_then : (t : Told) (xs ys : List Call) → and_then (and_then t xs) ys ≡ and_then t (xs ++ ys)
and_then-and_then t xs ys = ap (λ cs. (let u : Told = record { start = t.start; calls = cs } in u)) (append_assoc t.calls xs ys)

pub and_none : (t : Told) → and_then t [] ≡ t
and_none t = ap (λ cs. (let u : Told = record { start = t.start; calls = cs } in u)) (append-nil t.calls)

-- ---- the calls of operations

pub changes-append : (xs ys : List Op) → changes_in (xs ++ ys) ≡ changes_in xs ++ changes_in ys
changes-append [] ys = refl
changes-append (Asks ∷ xs) ys = changes-append xs ys
changes-append (Reads ∷ xs) ys = changes-append xs ys
changes-append (Does call ∷ xs) ys = ap (λ calls. call ∷ calls) (changes-append xs ys)

-- reads change nothing
pub reads_change : (n : ℕ) → changes_in (replicate n Reads) ≡ []
reads_change zero = refl
reads_change (suc n) = reads_change n

-- how many calls the first operations made
count_of : (Told → List Call) → Option Told → ℕ
count_of calls None = 0
count_of calls (Some t) = length (calls t)

-- what the second operations made of what the first have told
abbrev Following : (Told → List Op) → (Told → List Op) → Told → List Op
Following xs ys t = xs t ++ ys (and_then t (changes_in (xs t)))

both_made : (o : Option Told) (xs ys : Told → List Op) → made_by (changes ys) (made_by (changes xs) o) ≡ made_by (changes (Following xs ys)) o
both_made None xs ys = refl
both_made (Some t) xs ys =
    let rest = ys (and_then t (changes_in (xs t))) in
    ap Some (and_then-and_then t (changes_in (xs t)) (changes_in rest) ∙ ap (and_then t) (sym (changes-append (xs t) rest)))

first_made : (o : Option Told) (xs ys : Told → List Op) (j : ℕ)
    → made_by (λ t. take j (changes ys t)) (made_by (changes xs) o) ≡ made_by (λ t. take (count_of (changes xs) o + j) (changes (Following xs ys) t)) o
unfolding count_of
first_made None xs ys j = refl
first_made (Some t) xs ys j =
    let calls = changes_in (xs t) in
    let rest = ys (and_then t calls) in
    ap Some (and_then-and_then t calls (take j (changes_in rest))
    ∙ ap (and_then t) (sym (take-append-add calls (changes_in rest) j) ∙ ap (take (length calls + j)) (sym (changes-append (xs t) rest))))

part_made : (o : Option Told) (xs ys : Told → List Op) (j : ℕ)
    → made_by (λ t. take j (changes xs t)) o ≡ made_by (λ t. take (min j (count_of (changes xs) o)) (changes (λ u. xs u ++ ys u) t)) o
unfolding count_of
part_made None xs ys j = refl
part_made (Some t) xs ys j =
    let calls = changes_in (xs t) in
    ap Some (ap (and_then t) (sym (take_front j calls (changes_in (ys t))) ∙ ap (take (min j (length calls))) (sym (changes-append (xs t) (ys t)))))

whole_made : (o : Option Told) (xs ys : Told → List Op) → made_by (changes xs) o ≡ made_by (λ t. take (count_of (changes xs) o) (changes (λ u. xs u ++ ys u) t)) o
unfolding count_of
whole_made None xs ys = refl
whole_made (Some t) xs ys =
    let calls = changes_in (xs t) in
    ap Some (ap (and_then t) (sym (take-append_seam calls (changes_in (ys t))) ∙ ap (take (length calls)) (sym (changes-append (xs t) (ys t)))))

none_made : (o : Option Told) → o ≡ made_by (λ t. []) o
none_made None = refl
none_made (Some t) = ap Some (sym (and_none t))

pub take_none : {A : Type 0} (n : ℕ) → take n (let none : List A = [] in none) ≡ []
take_none zero = refl
take_none (suc n) = refl

none_first : (o : Option Told) (calls : Told → List Call) → o ≡ made_by (λ t. take 0 (calls t)) o
none_first None calls = refl
none_first (Some t) calls = ap Some (sym (and_none t))

call_made : (o : Option Told) (call : Call) → followed o (call ∷ []) ≡ made_by (λ t. call ∷ []) o
call_made None call = refl
call_made (Some t) call = refl

-- ---- counts

stays : (n : ℕ) → Rises n n false
stays n = record { later = omega arith; rose = λ no. absurd cc; kept = λ is. refl }

rises_on : (a b c : ℕ) (must : Bool) → b ≡ a → Rises b c must → Rises a c must
rises_on a b c must same rises = subst (λ n. Rises n c must) same rises

causes_rise : {T : Type 0} (before now : ℕ) (r : Result T Refused) → Causes before now r → Rises before now (is_stopped (ending r))
causes_rise before now (Ok x) causes = record { later = causes.later; rose = λ no. absurd cc; kept = λ is. causes.kept }
causes_rise before now (Err Failed) causes = record { later = causes.later; rose = λ is. causes.failed refl; kept = λ no. absurd cc }
causes_rise before now (Err Memory) causes = record { later = causes.later; rose = λ no. absurd cc; kept = λ is. causes.memory refl }

-- ---- one operation

-- one that was refused
pub never_passes : (refused : Refused) → refused_ending refused ≡ Passed → ⊥
never_passes Failed is = absurd cc
never_passes Memory is = absurd cc

-- a call that changes the disk
pub went_call : {D T : Type 0} {disk : Ghosts D} {call : Call} {old now : D} {r : Result T Refused}
    → Did (Does call) (disk.honest old) (disk.honest now) (disk.memory old) (disk.memory now) (disk.faults old) (disk.faults now) (disk.wants old) (disk.wants now) r
    → OnOk r (disk.told now ≡ followed (disk.told old) (call ∷ [])) → OnErr r (disk.told now ≡ disk.told old)
    → WentBy disk (λ t. Does call ∷ []) old now (ending r)
went_call {T = T} {disk = disk} {call = call} {old = old} {now = now} {r = Ok x} did told untold = record {
  honest = did.honest;
  all = λ is h. told ∙ call_made (disk.told old) call;
  first = (1, λ h. told ∙ call_made (disk.told old) call);
  goes = one_goes (Does call) (disk.memory old) (disk.memory now) Passed did.goes;
  faults = causes_rise (disk.faults old) (disk.faults now) (let r : Result T Refused = Ok x in r) did.causes;
  wants = did.wants.later;
}
went_call {T = T} {disk = disk} {call = call} {old = old} {now = now} {r = Err e} did told untold = record {
  honest = did.honest;
  all = λ is. absurd (never_passes e is);
  first = (0, λ h. untold ∙ none_first (disk.told old) (λ t. call ∷ []));
  goes = one_goes (Does call) (disk.memory old) (disk.memory now) (refused_ending e) did.goes;
  faults = causes_rise (disk.faults old) (disk.faults now) (let r : Result T Refused = Err e in r) did.causes;
  wants = did.wants.later;
}

-- a length or a read
pub went_asked : {D T : Type 0} {disk : Ghosts D} {op : Op} {old now : D} {r : Result T Refused}
    → Did op (disk.honest old) (disk.honest now) (disk.memory old) (disk.memory now) (disk.faults old) (disk.faults now) (disk.wants old) (disk.wants now) r
    → changes_in (op ∷ []) ≡ [] → disk.told now ≡ disk.told old
    → WentBy disk (λ t. op ∷ []) old now (ending r)
went_asked {disk = disk} {op = op} {old = old} {now = now} {r = r} did none told =
    let made : disk.told now ≡ made_by (λ t. changes_in (op ∷ [])) (disk.told old) =
    told ∙ none_made (disk.told old) ∙ ap (λ (calls : List Call). made_by (λ t. calls) (disk.told old)) (sym none) in
    record {
      honest = did.honest;
      all = λ is h. made;
      first = (0, λ h. told ∙ none_first (disk.told old) (λ t. changes_in (op ∷ [])));
      goes = one_goes op (disk.memory old) (disk.memory now) (ending r) did.goes;
      faults = causes_rise (disk.faults old) (disk.faults now) r did.causes;
      wants = did.wants.later;
    }

-- none at all
pub went_none : {D : Type 0} (disk : Ghosts D) (old : D) → WentBy disk (λ t. []) old old Passed
went_none disk old = record {
  honest = refl;
  all = λ is h. none_made (disk.told old);
  first = (0, λ h. none_made (disk.told old));
  goes = λ d is. no_more d (disk.memory old) is;
  faults = stays (disk.faults old);
  wants = omega arith;
}

-- ---- several

-- the first have passed, and the others go by what was told then
pub went_on : {D : Type 0} {disk : Ghosts D} {xs ys : Told → List Op} {old mid now : D} {e : Ending} → WentBy disk xs old mid Passed → WentBy disk ys mid now e
    → WentBy disk (λ t. xs t ++ ys (and_then t (changes_in (xs t)))) old now e
went_on {disk = disk} {xs = xs} {ys = ys} {old = old} {mid = mid} {now = now} {e = e} one two = record {
  honest = two.honest ∙ one.honest;
  all = λ is h. two.all is (one.honest ∙ h) ∙ ap (made_by (changes ys)) (one.all refl h) ∙ both_made (disk.told old) xs ys;
  first = (
    count_of (changes xs) (disk.told old) + two.first.0,
    λ h. two.first.1 (one.honest ∙ h) ∙ ap (made_by (λ t. take two.first.0 (changes ys t))) (one.all refl h) ∙ first_made (disk.told old) xs ys two.first.0,
  );
  goes = all_go xs ys (disk.memory old) (disk.memory mid) (disk.memory now) e one.goes two.goes;
  faults = rises_on (disk.faults old) (disk.faults mid) (disk.faults now) (is_stopped e) (one.faults.kept refl) two.faults;
  wants = omega (arith, one.wants, two.wants);
}

-- the first were refused, and no other follows
pub went_part : {D : Type 0} {disk : Ghosts D} {xs : Told → List Op} (ys : Told → List Op) {old now : D} {e : Ending} → (e ≡ Passed → ⊥) → WentBy disk xs old now e
    → WentBy disk (λ t. xs t ++ ys t) old now e
went_part {disk = disk} {xs = xs} ys {old = old} {now = now} {e = e} never one = record {
  honest = one.honest;
  all = λ is. absurd (never is);
  first = (min one.first.0 (count_of (changes xs) (disk.told old)), λ h. one.first.1 h ∙ part_made (disk.told old) xs ys one.first.0);
  goes = λ d is. come_first (xs d.told) (ys d.told) d (disk.memory now) e never (one.goes d is);
  faults = one.faults;
  wants = one.wants;
}

-- the first have passed, and then the caller found no memory
pub went_wanting : {D : Type 0} {disk : Ghosts D} {xs : Told → List Op} (ys : Told → List Op) {old now : D} → WentBy disk xs old now Passed → WentBy disk (λ t. xs t ++ ys t) old now Wanted
went_wanting {disk = disk} {xs = xs} ys {old = old} {now = now} one = record {
  honest = one.honest;
  all = λ is. absurd cc;
  first = (count_of (changes xs) (disk.told old), λ h. one.all refl h ∙ whole_made (disk.told old) xs ys);
  goes = λ d is. come_wanting (xs d.told) (ys d.told) d (disk.memory now) (one.goes d is);
  faults = one.faults;
  wants = one.wants;
}

-- all have passed, and then the caller found no memory
pub went_wants : {D : Type 0} {disk : Ghosts D} {ops : Told → List Op} {old now : D} → WentBy disk ops old now Passed → WentBy disk ops old now Wanted
went_wants {disk = disk} {ops = ops} {old = old} {now = now} one = record {
  honest = one.honest;
  all = λ is. absurd cc;
  first = one.first;
  goes = λ d is. subst (λ xs. Came xs d (disk.memory now) Wanted) (append-nil (ops d.told)) (come_wanting (ops d.told) [] d (disk.memory now) (one.goes d is));
  faults = one.faults;
  wants = one.wants;
}

made_as : (o : Option Told) (honesty : Bool) (xs ys : Told → List Call) → ((t : Told) → Tells o honesty t → xs t ≡ ys t) → honesty ≡ true → made_by xs o ≡ made_by ys o
made_as None honesty xs ys same h = refl
made_as (Some t) honesty xs ys same h = ap (λ cs. Some (and_then t cs)) (same t (record { honest = h; told = refl }))

-- the same operations, of what was told
pub went_as : {D : Type 0} {disk : Ghosts D} {xs : Told → List Op} (ys : Told → List Op) {old now : D} {e : Ending} → ((d : D) (s : Sim) → disk.memory d ≡ Some s → Tells (disk.told d) (disk.honest d) s.told)
    → ((t : Told) → Tells (disk.told old) (disk.honest old) t → xs t ≡ ys t) → WentBy disk xs old now e → WentBy disk ys old now e
went_as {disk = disk} {xs = xs} ys {old = old} {now = now} {e = e} tells same one = record {
  honest = one.honest;
  all = λ is h. one.all is h ∙ made_as (disk.told old) (disk.honest old) (changes xs) (changes ys) (λ t told. ap changes_in (same t told)) h;
  first = (one.first.0, λ h. one.first.1 h ∙ made_as (disk.told old) (disk.honest old) (λ t. take one.first.0 (changes xs t)) (λ t. take one.first.0 (changes ys t)) (λ t told. ap (λ ops. take one.first.0 (changes_in ops)) (same t told)) h);
  goes = λ d is. subst (λ ops. Came ops d (disk.memory now) e) (same d.told (tells old d is)) (one.goes d is);
  faults = one.faults;
  wants = one.wants;
}

-- the same ending
pub went_ends : {D : Type 0} {disk : Ghosts D} {ops : Told → List Op} {old now : D} {e f : Ending} → e ≡ f → WentBy disk ops old now e → WentBy disk ops old now f
went_ends {disk = disk} {ops = ops} {old = old} {now = now} same one = subst (λ e. WentBy disk ops old now e) same one

-- ---- what was answered

-- what was refused is answered
pub went_refused : {D T : Type 0} {disk : Ghosts D} {ops : Told → List Op} {old now : D} (refused : Refused) (r : Result T Refused) → IsErrAnd r (λ e. e ≡ refused) → WentBy disk ops old now (refused_ending refused)
    → WentBy disk ops old now (ending r)
went_refused refused (Ok x) is one = absurd is
went_refused refused (Err e) is one = went_ends (ap refused_ending (sym is)) one

-- ---- what follows

-- what all calls bring about is so after them
pub went_after : {D : Type 0} {disk : Ghosts D} {ops : Told → List Op} {old now : D} (P : Told → Type 0) → WentBy disk ops old now Passed → ((t : Told) → P (and_then t (changes ops t)))
    → (u : Told) → Tells (disk.told now) (disk.honest now) u → P u
went_after {disk = disk} {ops = ops} {old = old} {now = now} P one brings u tells =
    let before = told_before (disk.told old) (disk.told now) (changes ops) u (one.all refl (sym one.honest ∙ tells.honest)) tells.told in
    subst P (sym before.2) (brings before.0)

-- and so it is where all is well
pub went_brings : {D T E : Type 0} {disk : Ghosts D} {ops : Told → List Op} {old now : D} {e : Ending} (P : Told → Type 0) (r : Result T E) → WentBy disk ops old now e → OnOk r (e ≡ Passed)
    → ((t : Told) → P (and_then t (changes ops t))) → (u : Told) → Tells (disk.told now) (disk.honest now) u → OnOk r (P u)
went_brings P (Err x) one passed brings u tells = tt
went_brings P (Ok x) one passed brings u tells = went_after P (went_ends passed one) brings u tells

-- at no moment was it but between two of its calls
pub went_leaves : {D : Type 0} {disk : Ghosts D} {ops : Told → List Op} {old now : D} {e : Ending} (t : Told) (P : Areas → Type 0) → Tells (disk.told old) (disk.honest old) t → WentBy disk ops old now e
    → ((i : ℕ) (image : Areas) → IsImage (and_then t (take i (changes ops t))) image → P image) → LeavesOnly t (disk.told now) P
went_leaves {disk = disk} {ops = ops} {old = old} {now = now} t P tells one each = leaves_only (disk.honest old) (disk.told old) (disk.told now) (changes ops) t P tells one.first each

-- what is told now was told before, and all calls since
pub went_told : {D : Type 0} {disk : Ghosts D} {ops : Told → List Op} {old now : D} (t u : Told) → WentBy disk ops old now Passed → Tells (disk.told old) (disk.honest old) t → disk.told now ≡ Some u
    → u ≡ and_then t (changes ops t)
went_told {disk = disk} {ops = ops} {old = old} {now = now} t u one tells is =
    let e : Some u ≡ Some (and_then t (changes ops t)) = sym is ∙ one.all refl tells.honest ∙ ap (made_by (changes ops)) tells.told in
    cc

-- a disk that tells now told before
pub went_before : {D : Type 0} {disk : Ghosts D} {ops : Told → List Op} {old now : D} {e : Ending} (u : Told) → WentBy disk ops old now e → Tells (disk.told now) (disk.honest now) u
    → (t : Told) × Tells (disk.told old) (disk.honest old) t
went_before {disk = disk} {ops = ops} {old = old} {now = now} u one tells =
    let h : disk.honest old ≡ true = sym one.honest ∙ tells.honest in
    let before = told_before (disk.told old) (disk.told now) (λ t. take one.first.0 (changes ops t)) u (one.first.1 h) tells.told in
    (before.0, record { honest = h; told = before.1 })
