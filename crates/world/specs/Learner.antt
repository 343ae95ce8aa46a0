-- What a node has learned and delivered.
use Rattle.std.specs.Prelude.{ℕ, ◌+◌, ◌==◌, nat_lt, ◌&&◌, ◌||◌, Bool, if◌then◌else◌, List, [], ◌∷◌, is_some}
use Rattle.std.specs.Ordering.{nat_cmp}
use Rattle.std.specs.BTreeMap.{is_at, insert_entry}
use Rattle.std.specs.Map.{lookup}
use Rattle.mrp_types.specs.declared.id.NodeId.{NodeId}
use Rattle.mrp_types.specs.declared.id.RingId.{RingId}
use Rattle.mrp_types.specs.declared.id.TheConstants.{END}
use Rattle.mrp_types.specs.declared.value.Value.{Value}
use Rattle.transcript.specs.declared.line.Line.{Line}
use Rattle.transcript.specs.declared.line.Line.TheVariants.{Learn, Deliver}

-- the instances below next are delivered; ahead are those learned and not delivered, in increasing order
pub record Learner : Type 0 where
  pub next : ℕ
  pub ahead : List (ℕ × Value)

abbrev pub nothing_learned : Learner
nothing_learned = record { next = 0; ahead = [] }

-- a learner, and the lines that were printed
pub record Learned : Type 0 where
  pub learner : Learner
  pub lines : List Line

-- whether the instance was learned before
abbrev pub holds : Learner → ℕ → Bool
holds l inst = nat_lt inst l.next || is_some (lookup (is_at (nat_cmp inst)) l.ahead)

-- a line first
abbrev pub after_line : Line → Learned → Learned
after_line line l = record { learner = l.learner; lines = line ∷ l.lines }

-- The next instance is delivered while it is learned: one after another, without a gap. A place at the end of all
-- instances is never delivered.
abbrev pub ready : RingId → NodeId → ℕ → List (ℕ × Value) → Learned
ready ring node next [] = record { learner = record { next = next; ahead = [] }; lines = [] }
ready ring node next (e ∷ later) =
    if (e.0 == next) && nat_lt next END
    then after_line (Deliver node ring next) (ready ring node (next + 1) later)
    else record { learner = record { next = next; ahead = e ∷ later }; lines = [] }

-- a value is learned where the instance was not: a line for it, and the deliveries that it makes ready
abbrev pub learning : RingId → NodeId → ℕ → Value → Learner → Learned
learning ring node inst value l =
    if holds l inst then record { learner = l; lines = [] }
    else after_line (Learn node ring inst (inst + 1) value) (ready ring node l.next (insert_entry nat_cmp l.ahead inst value))
