-- Each event keeps the world and its lines exact.
use Rattle.std.proofs.Common.{arith, ◌≡◌, ◌≢◌, ◌≤◌, ℕ, ◌+◌, List, [], ◌∷◌, ◌++◌, length, get_or, Some, refl, sym, ap, ◌∙◌, subst, append_assoc, append-nil, Bool, true, false, ◌==◌, ◌&&◌, nat_lt, if◌then◌else◌}
use Rattle.std.specs.List.{AllByRecursion}
use Rattle.std.specs.Ordering.{nat_cmp}
use Rattle.std.specs.BTreeMap.{insert_entry}
use Rattle.mrp_types.specs.declared.id.NodeId.{NodeId}
use Rattle.mrp_types.specs.declared.id.TheConstants.{END}
use Rattle.mrp_types.specs.declared.value.Value.{Value}
use Rattle.mrp_types.specs.declared.value.Value.TheVariants.{Batch}
use Rattle.transcript.specs.declared.line.Line.{Line}
use Rattle.transcript.specs.declared.line.Line.TheVariants.{Learn, Deliver}
use Rattle.plain_model.specs.Lines.{book}
use Rattle.plain_model.specs.Lines.{IsWide}
use Rattle.world.proofs.Stretches.{stood, stood_from-append}
use Rattle.world.proofs.Seats.{IsMember}
use Rattle.mrp_config.specs.declared.tables.RingTable.{RingTable}
use Rattle.world.specs.Learner.{Learner, Learned, ready, learning, holds, after_line}
use Rattle.world.proofs.Exact.{Learns, Next, IsExactAfter}
use Rattle.world.proofs.Values.{IsOf, one_of, LineOf, book_is, book_has, HeldOf, LearnerOf, held_more, held_insert}
use Rattle.mrp_types.proofs.TestLemmas.{both}

-- ---- deliveries that are ready

-- what lines do after others: they are exact, say what was proposed, and leave a learner where it stands
pub record Goes (table : RingTable) (values : List (List ℕ)) (before : List Line) (node : NodeId) (l : Learned) : Type 0 where
  pub exact : IsExactAfter table before l.lines
  pub proposed : AllByRecursion (LineOf table values) l.lines
  pub learner : LearnerOf table values (before ++ l.lines) node l.learner
  pub others : (other : NodeId) → (other.0 ≢ node.0) → stood (before ++ l.lines) other ≡ stood before other

-- nothing is printed
goes_idle : (table : RingTable) (values : List (List ℕ)) (before : List Line) (node : NodeId) (l : Learner) → LearnerOf table values before node l →
    Goes table values before node (record { learner = l; lines = [] })
goes_idle table values before node l is = record {
  exact = tt;
  proposed = tt;
  learner = subst (λ (b : List Line). LearnerOf table values b node l) (sym (append-nil before)) is;
  others = λ other apart. ap (λ (b : List Line). stood b other) (append-nil before);
}

-- a line first
goes_after : (table : RingTable) (values : List (List ℕ)) (before : List Line) (node : NodeId) (line : Line) (l : Learned) → IsExactAfter table before (line ∷ []) → LineOf table values line →
    ((other : NodeId) → (other.0 ≢ node.0) → stood (before ++ line ∷ []) other ≡ stood before other) →
    Goes table values (before ++ line ∷ []) node l → Goes table values before node (after_line line l)
goes_after table values before node line l exact proposed apart goes =
    let joined : (before ++ line ∷ []) ++ l.lines ≡ before ++ line ∷ l.lines = append_assoc before (line ∷ []) l.lines in
    record {
      exact = (exact.0, goes.exact);
      proposed = (proposed, goes.proposed);
      learner = subst (λ (b : List Line). LearnerOf table values b node l.learner) joined goes.learner;
      others = λ other differs. ap (λ (b : List Line). stood b other) (sym joined) ∙ goes.others other differs ∙ apart other differs;
    }

-- where nodes stand after a deliver line
stands_delivered : (table : RingTable) (before : List Line) (node : NodeId) (inst : ℕ) → stood (before ++ Deliver node table.id inst ∷ []) node ≡ inst + 1
stands_delivered table before node inst =
    stood_from-append node 0 before (Deliver node table.id inst ∷ []) ∙ itself (stood before node) node.0
  where
    itself : (now n : ℕ) → (if n == n then inst + 1 else now) ≡ inst + 1
    itself now n = grind arith

stands_apart : (table : RingTable) (before : List Line) (node other : NodeId) (inst : ℕ) → other.0 ≢ node.0 →
    stood (before ++ Deliver node table.id inst ∷ []) other ≡ stood before other
stands_apart table before node other inst differs =
    stood_from-append other 0 before (Deliver node table.id inst ∷ []) ∙ another (stood before other) node.0 other.0 differs
  where
    another : (now n m : ℕ) → m ≢ n → (if n == m then inst + 1 else now) ≡ now
    another now n m differs = grind arith

stands_learned : (table : RingTable) (before : List Line) (node other : NodeId) (lo hi : ℕ) (value : Value) →
    stood (before ++ Learn node table.id lo hi value ∷ []) other ≡ stood before other
stands_learned table before node other lo hi value = stood_from-append other 0 before (Learn node table.id lo hi value ∷ [])

by_ready : (table : RingTable) (t : Bool) (values : List (List ℕ)) (before : List Line) (node : NodeId) (next : ℕ) (e : ℕ × Value) (later : List (ℕ × Value)) →
    ((e.0 == next) && nat_lt next END) ≡ t → IsMember table node → stood before node ≡ next → AllByRecursion (HeldOf table values before) (e ∷ later) →
    ((b : List Line) → stood b node ≡ next + 1 → AllByRecursion (HeldOf table values b) later → Goes table values b node (ready table.id node (next + 1) later)) →
    Goes table values before node (if t then after_line (Deliver node table.id next) (ready table.id node (next + 1) later)
    else record { learner = record { next = next; ahead = e ∷ later }; lines = [] })
by_ready table true values before node next e later test fits stands held go =
    let line = Deliver node table.id next in
    let key : e.0 ≡ next = same e.0 next (both (e.0 == next) (nat_lt next END) test).0 in
    let found : book before table.id next ≡ Some (Batch (get_or values e.0 [])) =
    ap (λ (k : ℕ). book before table.id k) (sym key) ∙ held.0.1 ∙ ap Some held.0.0.batch in
    let exact : Next table before node table.id next = record { first = refl; fits = fits; holds = (get_or values e.0 [], found); next = stands } in
    goes_after table values before node line (ready table.id node (next + 1) later) (exact, tt) tt (λ other differs. stands_apart table before node other next differs)
    (go (before ++ line ∷ []) (stands_delivered table before node next) (held_more table values before (line ∷ []) later held.1))
  where
    same : (a b : ℕ) → (a == b) ≡ true → a ≡ b
    same a b h = grind arith
by_ready table false values before node next e later test fits stands held go =
    goes_idle table values before node (record { next = next; ahead = e ∷ later }) (record { stands = stands; ahead = held })

pub ready_goes : (table : RingTable) (values : List (List ℕ)) (before : List Line) (node : NodeId) (next : ℕ) (ahead : List (ℕ × Value)) →
    IsMember table node → stood before node ≡ next → AllByRecursion (HeldOf table values before) ahead → Goes table values before node (ready table.id node next ahead)
ready_goes table values before node next [] fits stands held = goes_idle table values before node (record { next = next; ahead = [] }) (record { stands = stands; ahead = tt })
ready_goes table values before node next (e ∷ later) fits stands held =
    by_ready table ((e.0 == next) && nat_lt next END) values before node next e later refl fits stands held
    (λ b at all. ready_goes table values b node (next + 1) later fits at all)

-- ---- a value that is learned

learn_exact : (table : RingTable) (values : List (List ℕ)) (before : List Line) (node : NodeId) (inst : ℕ) (value : Value) → AllByRecursion (LineOf table values) before →
    length values ≤ END → IsMember table node → IsOf values inst value → Learns table before node table.id inst (inst + 1) value
learn_exact table values before node inst value are low fits is = record {
  own = refl;
  fits = fits;
  some = omega arith;
  low = omega (arith, is.low, low);
  wide = subst (λ (v : Value). IsWide v inst (inst + 1)) (sym is.batch) refl;
  agrees = λ i known from to h.
      let same : i ≡ inst = omega (arith, from, to) in
      one_of values inst known value (subst (λ (k : ℕ). IsOf values k known) same (book_is table values before table.id i known are h)) is;
}

by_held : (table : RingTable) (t : Bool) (values : List (List ℕ)) (before : List Line) (node : NodeId) (inst : ℕ) (value : Value) (l : Learner) →
    AllByRecursion (LineOf table values) before → length values ≤ END → IsMember table node → IsOf values inst value → LearnerOf table values before node l →
    Goes table values before node (if t then record { learner = l; lines = [] }
    else after_line (Learn node table.id inst (inst + 1) value) (ready table.id node l.next (insert_entry nat_cmp l.ahead inst value)))
by_held table true values before node inst value l are low fits is learner = goes_idle table values before node l learner
by_held table false values before node inst value l are low fits is learner =
    let line = Learn node table.id inst (inst + 1) value in
    let after = before ++ line ∷ [] in
    let held : AllByRecursion (HeldOf table values after) (insert_entry nat_cmp l.ahead inst value) =
    held_insert table values after l.ahead inst value (held_more table values before (line ∷ []) l.ahead learner.ahead) (is, book_has table values before node inst value are is) in
    goes_after table values before node line (ready table.id node l.next (insert_entry nat_cmp l.ahead inst value)) (learn_exact table values before node inst value are low fits is, tt) (refl, refl, is)
    (λ other differs. stands_learned table before node other inst (inst + 1) value)
    (ready_goes table values after node l.next (insert_entry nat_cmp l.ahead inst value) fits (stands_learned table before node node inst (inst + 1) value ∙ learner.stands) held)

pub learning_goes : (table : RingTable) (values : List (List ℕ)) (before : List Line) (node : NodeId) (inst : ℕ) (value : Value) (l : Learner) →
    AllByRecursion (LineOf table values) before → length values ≤ END → IsMember table node → IsOf values inst value → LearnerOf table values before node l →
    Goes table values before node (learning table.id node inst value l)
learning_goes table values before node inst value l are low fits is learner = by_held table (holds l inst) values before node inst value l are low fits is learner
