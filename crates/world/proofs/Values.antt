-- The proposed values, and what lines, frames and learners say of them.
use Rattle.std.proofs.Common.{arith, ◌≡◌, ◌<◌, ℕ, ◌+◌, List, [], ◌∷◌, ◌++◌, length, get_or, zero, suc, Option, Some, refl, sym, ap, ◌∙◌, subst, length-append, Bool, true, false, ◌==◌, ◌&&◌, nat_le, nat_lt, if◌then◌else◌}
use Rattle.std.proofs.lemmas.Grind.{common_steps}
use Rattle.std.specs.List.{AllByRecursion}
use Rattle.std.specs.Prelude.{slice_get}
use Rattle.std.specs.Ordering.{nat_cmp, match_ordering}
use Rattle.std.specs.declared.cmp.Ordering.{Ordering}
use Rattle.std.specs.declared.cmp.Ordering.TheVariants.{Less, Equal, Greater}
use Rattle.std.specs.BTreeMap.{insert_entry}
use Rattle.mrp_types.specs.declared.id.NodeId.{NodeId}
use Rattle.mrp_types.specs.declared.id.RingId.{RingId}
use Rattle.mrp_types.specs.declared.value.Value.{Value}
use Rattle.mrp_types.specs.declared.value.Value.TheVariants.{Batch}
use Rattle.mrp_types.specs.Book.{Learning, book_of, covers}
use Rattle.transcript.specs.declared.line.Line.{Line}
use Rattle.transcript.specs.declared.line.Line.TheVariants.{Learn}
use Rattle.plain_model.specs.Lines.{learnings, book}
use Rattle.world.proofs.Stretches.{stood}
use Rattle.plain_model.proofs.Fronts.{learnings-append, book-more}
use Rattle.mrp_config.specs.declared.tables.RingTable.{RingTable}
use Rattle.frames.specs.declared.body.Body.{Body}
use Rattle.frames.specs.declared.body.Body.TheVariants.{Submit, Prepare, Promise, Refuse, Accept, Decide, Fetch, Chosen, Trimmed, AskSafe, Safe, TrimTo, AskCheckpoint, HaveCheckpoint, AskPart, Part, Gone, Reply, Hello}
use Rattle.frames.specs.declared.sent.Sent.{Sent}
use Rattle.world.specs.Learner.{Learner}
use Rattle.mrp_types.proofs.TestLemmas.{both}

-- a value is the batch that was proposed at an instance
pub record IsOf (values : List (List ℕ)) (inst : ℕ) (value : Value) : Type 0 where
  pub low : inst < length values
  pub batch : value ≡ Batch (get_or values inst [])

pub IsOf-more : (values more : List (List ℕ)) (inst : ℕ) (value : Value) → IsOf values inst value → IsOf (values ++ more) inst value
IsOf-more values more inst value is = record {
  low = rw length-append (omega (arith, is.low));
  batch = is.batch ∙ ap Batch (sym (get_or-append values more inst is.low));
}
  where
    get_or-append : (xs ys : List (List ℕ)) (i : ℕ) → i < length xs → get_or (xs ++ ys) i [] ≡ get_or xs i []
    get_or-append xs ys i inside = grind (arith, common_steps)

-- two values of one instance are one
pub one_of : (values : List (List ℕ)) (inst : ℕ) (v w : Value) → IsOf values inst v → IsOf values inst w → v ≡ w
one_of values inst v w first second = first.batch ∙ sym second.batch

-- ---- lines

-- a learn line has the proposed batch of its instance
abbrev pub LineOf : RingTable → List (List ℕ) → Line → Type 0
LineOf table values (Learn node ring lo hi value) = (ring ≡ table.id) × (hi ≡ lo + 1) × IsOf values lo value
LineOf table values other = Unit {0}

line_more : (table : RingTable) (values more : List (List ℕ)) (line : Line) → LineOf table values line → LineOf table (values ++ more) line
line_more table values more (Learn node ring lo hi value) is = (is.0, is.1, IsOf-more values more lo value is.2)
line_more table values more other is = tt

pub lines_more : (table : RingTable) (values more : List (List ℕ)) (lines : List Line) → AllByRecursion (LineOf table values) lines → AllByRecursion (LineOf table (values ++ more)) lines
lines_more table values more [] are = tt
lines_more table values more (line ∷ lines) are = (line_more table values more line are.0, lines_more table values more lines are.1)

pub lines_append : (table : RingTable) (values : List (List ℕ)) (xs ys : List Line) → AllByRecursion (LineOf table values) xs → AllByRecursion (LineOf table values) ys → AllByRecursion (LineOf table values) (xs ++ ys)
lines_append table values [] ys first second = second
lines_append table values (x ∷ xs) ys first second = (first.0, lines_append table values xs ys first.1 second)

-- a learning that covers an instance of a range of one is of that instance
covered : (lo inst : ℕ) → nat_le lo inst ≡ true → nat_lt inst (lo + 1) ≡ true → lo ≡ inst
covered lo inst from to = grind arith

by_cover : (t : Bool) (values : List (List ℕ)) (ring : RingId) (inst : ℕ) (l : Learning) (later : Option Value) (known : Value) →
    covers l ring inst ≡ t → (l.hi ≡ l.lo + 1) → IsOf values l.lo l.value → (later ≡ Some known → IsOf values inst known) →
    (if t then Some l.value else later) ≡ Some known → IsOf values inst known
by_cover true values ring inst l later known test one is step h =
    let first = both (l.ring.0 == ring.0) (nat_le l.lo inst && nat_lt inst l.hi) test in
    let range = both (nat_le l.lo inst) (nat_lt inst l.hi) first.1 in
    let same : l.lo ≡ inst = covered l.lo inst range.0 (ap (nat_lt inst) (sym one) ∙ range.1) in
    let value : l.value ≡ known = cc in
    subst (λ (v : Value). IsOf values inst v) value (subst (λ (i : ℕ). IsOf values i l.value) same is)
by_cover false values ring inst l later known test one is step h = step h

-- what the book has of an instance is what was proposed there
pub book_is : (table : RingTable) (values : List (List ℕ)) (before : List Line) (ring : RingId) (inst : ℕ) (known : Value) → AllByRecursion (LineOf table values) before →
    book before ring inst ≡ Some known → IsOf values inst known
book_is table values [] ring inst known are h = absurd (grind arith)
book_is table values (Learn node other lo hi value ∷ lines) ring inst known are h =
    by_cover (covers (record { ring = other; lo = lo; hi = hi; value = value }) ring inst) values ring inst (record { ring = other; lo = lo; hi = hi; value = value })
    (book lines ring inst) known refl are.0.1 are.0.2 (book_is table values lines ring inst known are.1) h
book_is table values (line ∷ lines) ring inst known are h = book_is table values lines ring inst known are.1 h

-- ---- a learn line is in the book

within : (ring inst : ℕ) → ((ring == ring) && (nat_le inst inst && nat_lt inst (inst + 1))) ≡ true
within ring inst = grind arith

book_of_last : (table : RingTable) (xs : List Learning) (inst : ℕ) (value : Value) → (known : Value) ×
    (book_of (xs ++ (record { ring = table.id; lo = inst; hi = inst + 1; value = value }) ∷ []) table.id inst ≡ Some known)
book_of_last table [] inst value = (value, rw (within table.id.0 inst) refl)
book_of_last table (x ∷ xs) inst value = first_of (covers x table.id inst) x.value (book_of_last table xs inst value)
  where
    first_of : (t : Bool) (v : Value) {o : Option Value} → ((known : Value) × (o ≡ Some known)) → (known : Value) × ((if t then Some v else o) ≡ Some known)
    first_of true v later = (v, refl)
    first_of false v later = later

pub book_has : (table : RingTable) (values : List (List ℕ)) (before : List Line) (node : NodeId) (inst : ℕ) (value : Value) → AllByRecursion (LineOf table values) before → IsOf values inst value →
    book (before ++ Learn node table.id inst (inst + 1) value ∷ []) table.id inst ≡ Some value
book_has table values before node inst value are is =
    let line = Learn node table.id inst (inst + 1) value in
    let all : AllByRecursion (LineOf table values) (before ++ line ∷ []) = lines_append table values before (line ∷ []) are ((refl, refl, is), tt) in
    let found = book_of_last table (learnings before) inst value in
    let read : book (before ++ line ∷ []) table.id inst ≡ Some found.0 = ap (λ (l : List Learning). book_of l table.id inst) (learnings-append before (line ∷ [])) ∙ found.1 in
    read ∙ ap Some (one_of values inst found.0 value (book_is table values (before ++ line ∷ []) table.id inst found.0 all read) is)

-- ---- frames

abbrev pub BodyOf : List (List ℕ) → Body → Type 0
BodyOf values (Accept ring ballot lo hi mask value) = IsOf values lo value
BodyOf values (Decide ring lo hi left value) = IsOf values lo value
BodyOf values other = Unit {0}

abbrev pub SentOf : List (List ℕ) → Sent → Type 0
SentOf values sent = BodyOf values sent.frame.body

body_more : (values more : List (List ℕ)) (body : Body) → BodyOf values body → BodyOf (values ++ more) body
body_more values more (Submit ring hops client seq command) is = tt
body_more values more (Prepare ring ballot lo) is = tt
body_more values more (Promise ring ballot lo hi trim votes) is = tt
body_more values more (Refuse ring ballot promise) is = tt
body_more values more (Accept ring ballot lo hi mask value) is = IsOf-more values more lo value is
body_more values more (Decide ring lo hi left value) is = IsOf-more values more lo value is
body_more values more (Fetch ring lo) is = tt
body_more values more (Chosen ring ranges) is = tt
body_more values more (Trimmed ring trim) is = tt
body_more values more (AskSafe ring round) is = tt
body_more values more (Safe ring round inst) is = tt
body_more values more (TrimTo ring trim) is = tt
body_more values more (AskCheckpoint epoch attempt) is = tt
body_more values more (HaveCheckpoint epoch attempt tuple) is = tt
body_more values more (AskPart epoch attempt tuple offset) is = tt
body_more values more (Part epoch attempt tuple offset total bytes) is = tt
body_more values more (Gone epoch attempt asked newer) is = tt
body_more values more (Reply client seq partition reply) is = tt
body_more values more Hello is = tt

pub frames_more : (values more : List (List ℕ)) (frames : List Sent) → AllByRecursion (SentOf values) frames → AllByRecursion (SentOf (values ++ more)) frames
frames_more values more [] are = tt
frames_more values more (sent ∷ frames) are = (body_more values more sent.frame.body are.0, frames_more values more frames are.1)

pub frames_push : (values : List (List ℕ)) (frames : List Sent) (sent : Sent) → AllByRecursion (SentOf values) frames → SentOf values sent → AllByRecursion (SentOf values) (frames ++ sent ∷ [])
frames_push values [] sent are is = (is, tt)
frames_push values (f ∷ frames) sent are is = (are.0, frames_push values frames sent are.1 is)

pub frame_at : (values : List (List ℕ)) (frames : List Sent) (k : ℕ) (sent : Sent) → AllByRecursion (SentOf values) frames → slice_get frames k ≡ Some sent → SentOf values sent
frame_at values [] k sent are h = absurd (grind arith)
frame_at values (f ∷ frames) zero sent are h = let same : f ≡ sent = cc in subst (λ (x : Sent). SentOf values x) same are.0
frame_at values (f ∷ frames) (suc k) sent are h = frame_at values frames k sent are.1 h

-- ---- learners

-- what a learner holds ahead was proposed, and is in the book
abbrev pub HeldOf : RingTable → List (List ℕ) → List Line → ℕ × Value → Type 0
HeldOf table values before held = IsOf values held.0 held.1 × (book before table.id held.0 ≡ Some held.1)

pub record LearnerOf (table : RingTable) (values : List (List ℕ)) (before : List Line) (node : NodeId) (l : Learner) : Type 0 where
  pub stands : stood before node ≡ l.next
  pub ahead : AllByRecursion (HeldOf table values before) l.ahead

pub held_more : (table : RingTable) (values : List (List ℕ)) (before more : List Line) (held : List (ℕ × Value)) → AllByRecursion (HeldOf table values before) held → AllByRecursion (HeldOf table values (before ++ more)) held
held_more table values before more [] are = tt
held_more table values before more (e ∷ held) are = ((are.0.0, book-more before more table.id e.0 e.1 are.0.1), held_more table values before more held are.1)

pub held_values : (table : RingTable) (values more : List (List ℕ)) (before : List Line) (held : List (ℕ × Value)) → AllByRecursion (HeldOf table values before) held → AllByRecursion (HeldOf table (values ++ more) before) held
held_values table values more before [] are = tt
held_values table values more before (e ∷ held) are = ((IsOf-more values more e.0 e.1 are.0.0, are.0.1), held_values table values more before held are.1)

equal_keys : (a b : ℕ) → nat_cmp a b ≡ Equal → a ≡ b
equal_keys a b h = grind (arith, common_steps)

by_order : (table : RingTable) (o : Ordering) (values : List (List ℕ)) (before : List Line) (e : ℕ × Value) (held rest : List (ℕ × Value)) (inst : ℕ) (value : Value) →
    nat_cmp inst e.0 ≡ o → HeldOf table values before e → AllByRecursion (HeldOf table values before) held → HeldOf table values before (inst, value) →
    AllByRecursion (HeldOf table values before) rest →
    AllByRecursion (HeldOf table values before) (match_ordering o ((inst, value) ∷ e ∷ held) ((e.0, value) ∷ held) (e ∷ rest))
by_order table Less values before e held rest inst value h first later is more = (is, (first, later))
by_order table Equal values before e held rest inst value h first later is more =
    let same : inst ≡ e.0 = equal_keys inst e.0 h in
    (subst (λ (k : ℕ). HeldOf table values before (k, value)) same is, later)
by_order table Greater values before e held rest inst value h first later is more = (first, more)

pub held_insert : (table : RingTable) (values : List (List ℕ)) (before : List Line) (held : List (ℕ × Value)) (inst : ℕ) (value : Value) → AllByRecursion (HeldOf table values before) held →
    HeldOf table values before (inst, value) → AllByRecursion (HeldOf table values before) (insert_entry nat_cmp held inst value)
held_insert table values before [] inst value are is = (is, tt)
held_insert table values before (e ∷ held) inst value are is =
    by_order table (nat_cmp inst e.0) values before e held (insert_entry nat_cmp held inst value) inst value refl are.0 are.1 is
    (held_insert table values before held inst value are.1 is)
