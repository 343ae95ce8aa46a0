-- Lines that are exact: a learned value is the proposed one of its instance, and a delivery is the next one of its node.
use Rattle.std.proofs.Common.{arith, ◌≡◌, ◌≤◌, ◌<◌, ℕ, ◌+◌, List, [], ◌∷◌, ◌++◌, length, Option, Some, refl, sym, ap, ◌∙◌, subst, append_assoc, append-nil, Bool, true, false, ◌==◌, if◌then◌else◌}
use Rattle.mrp_types.specs.declared.id.NodeId.{NodeId}
use Rattle.mrp_types.specs.declared.id.RingId.{RingId}
use Rattle.mrp_types.specs.declared.id.TheConstants.{END}
use Rattle.mrp_types.specs.declared.value.Value.{Value}
use Rattle.mrp_types.specs.declared.value.Value.TheVariants.{Batch}
use Rattle.transcript.specs.declared.line.Line.{Line}
use Rattle.transcript.specs.declared.line.ShownFrame.{ShownFrame}
use Rattle.transcript.specs.declared.line.Line.TheVariants.{Learn, Deliver, Frame, End}
use Rattle.plain_model.specs.Lines.{IsWide, book}
use Rattle.mrp_config.specs.declared.tables.RingTable.{RingTable}
use Rattle.world.specs.Lines.{deliveries, counted}
use Rattle.world.proofs.Stretches.{stood, stood_after, stood_from-append}
use Rattle.world.proofs.Seats.{IsMember}

-- a learn line of one of the ring's acceptors, of a value that the book has wherever it has one
pub record Learns (table : RingTable) (before : List Line) (node : NodeId) (ring : RingId) (lo hi : ℕ) (value : Value) : Type 0 where
  pub own : ring ≡ table.id
  pub fits : IsMember table node
  pub some : lo < hi
  pub low : hi ≤ END
  pub wide : IsWide value lo hi
  pub agrees : (inst : ℕ) (known : Value) → lo ≤ inst → inst < hi → book before ring inst ≡ Some known → known ≡ value

-- a delivery is the next one of its node, of what the book has
pub record Next (table : RingTable) (before : List Line) (node : NodeId) (ring : RingId) (inst : ℕ) : Type 0 where
  pub first : ring ≡ table.id
  pub fits : IsMember table node
  pub holds : (batch : List ℕ) × (book before table.id inst ≡ Some (Batch batch))
  pub next : stood before node ≡ inst

-- no other lines are printed than those of learning, delivering and showing, and the end
abbrev pub IsExactLine : RingTable → List Line → Line → Type 0
IsExactLine table before (Learn node ring lo hi value) = Learns table before node ring lo hi value
IsExactLine table before (Deliver node ring inst) = Next table before node ring inst
IsExactLine table before (Frame number frame) = Unit {0}
IsExactLine table before (End events) = Unit {0}
IsExactLine table before other = ⊥

abbrev pub IsExactAfter : RingTable → List Line → List Line → Type 0
IsExactAfter table before [] = Unit {0}
IsExactAfter table before (line ∷ lines) = IsExactLine table before line × IsExactAfter table (before ++ line ∷ []) lines

pub IsExactAfter-append : (table : RingTable) (before front rest : List Line) → IsExactAfter table before front → IsExactAfter table (before ++ front) rest → IsExactAfter table before (front ++ rest)
IsExactAfter-append table before [] rest first second = subst (λ (l : List Line). IsExactAfter table l rest) (append-nil before) second
IsExactAfter-append table before (line ∷ front) rest first second = (
  first.0,
  IsExactAfter-append table (before ++ line ∷ []) front rest first.1
      (subst (λ (l : List Line). IsExactAfter table l rest) (sym (append_assoc before (line ∷ []) front)) second),
)

-- a line and those before it
pub exact_at : (table : RingTable) (before front : List Line) (line : Line) (rest : List Line) → IsExactAfter table before (front ++ line ∷ rest) →
    IsExactAfter table before front × IsExactLine table (before ++ front) line
exact_at table before [] line rest are = (tt, subst (λ (l : List Line). IsExactLine table l line) (sym (append-nil before)) are.0)
exact_at table before (first ∷ front) line rest are =
    let later = exact_at table (before ++ first ∷ []) front line rest are.1 in
    ((are.0, later.0), subst (λ (l : List Line). IsExactLine table l line) (append_assoc before (first ∷ []) front) later.1)

-- ---- nodes deliver in turn

-- where a node stands after one line more
stands_after : (before : List Line) (line : Line) (node : NodeId) → stood (before ++ line ∷ []) node ≡ stood_after node (stood before node) line
stands_after before line node = stood_from-append node 0 before (line ∷ [])

-- what isn't a deliver line leaves a node where it stands
pub stands_shown : (before : List Line) (number : ℕ) (frame : Option ShownFrame) (node : NodeId) →
    stood (before ++ Frame number frame ∷ []) node ≡ stood before node
stands_shown before number frame node = stands_after before (Frame number frame) node

pub same_node : (a b : NodeId) → a.0 ≡ b.0 → a ≡ b
same_node a b is =
    let made : ℕ → NodeId = λ n. record { 0 = n } in
    ap made is

counted_more : (first : ℕ) (ns : List ℕ) → ns ≡ counted (first + 1) (length ns) → first ∷ ns ≡ counted first (length (first ∷ ns))
counted_more first ns is = ap (λ (l : List ℕ). first ∷ l) is

in_turn_test : (t : Bool) (before rest : List Line) (node other : NodeId) (inst : ℕ) → (other.0 == node.0) ≡ t → stood before other ≡ inst →
    deliveries node rest ≡ counted (if t then inst + 1 else stood before node) (length (deliveries node rest)) →
    (if t then inst ∷ deliveries node rest else deliveries node rest)
    ≡ counted (stood before node) (length (if t then inst ∷ deliveries node rest else deliveries node rest))
in_turn_test true before rest node other inst test next later =
    let same : other ≡ node = same_node other node (grind arith) in
    let here : stood before node ≡ inst = ap (λ (n : NodeId). stood before n) (sym same) ∙ next in
    rw here (counted_more inst (deliveries node rest) later)
in_turn_test false before rest node other inst test next later = later

pub in_turn : (table : RingTable) (before lines : List Line) (node : NodeId) → IsExactAfter table before lines →
    deliveries node lines ≡ counted (stood before node) (length (deliveries node lines))
in_turn table before [] node are = refl
in_turn table before (Deliver other ring inst ∷ rest) node are =
    let line = Deliver other ring inst in
    in_turn_test (other.0 == node.0) before rest node other inst refl are.0.next
    (in_turn table (before ++ line ∷ []) rest node are.1 ∙ ap (λ n. counted n (length (deliveries node rest))) (stands_after before line node))
in_turn table before (line ∷ rest) node are =
    in_turn table (before ++ line ∷ []) rest node are.1 ∙ ap (λ n. counted n (length (deliveries node rest))) (stands_after before line node)
