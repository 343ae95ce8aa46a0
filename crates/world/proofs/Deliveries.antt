-- The turns of a delivery.
use Rattle.std.proofs.Common.{arith, ◌≡◌, ◌≢◌, ◌<◌, ◌≤◌, ℕ, ◌+◌, List, [], ◌∷◌, ◌++◌, length, Some, refl, sym, ap, ◌∙◌, nat_lt, ◌==◌, ◌&&◌, Bool, true, false, append-nil}
use Rattle.std.specs.Prelude.{slice_get}
use Rattle.mrp_types.specs.declared.id.NodeId.{NodeId}
use Rattle.mrp_types.specs.declared.id.RingId.{RingId}
use Rattle.mrp_types.specs.declared.id.TheConstants.{END}
use Rattle.mrp_types.specs.declared.value.Value.{Value}
use Rattle.transcript.specs.declared.line.Line.{Line}
use Rattle.transcript.specs.declared.line.Line.TheVariants.{Deliver}
use Rattle.world.specs.Learner.{Learned, ready, after_line}

-- nothing is ready
abbrev pub idle : ℕ → List (ℕ × Value) → Learned
idle next ahead = record { learner = record { next = next; ahead = ahead }; lines = [] }

pub none_ahead : (ring : RingId) (node : NodeId) (next : ℕ) (ahead : List (ℕ × Value)) → length ahead ≡ 0 → ready ring node next ahead ≡ idle next ahead
none_ahead ring node next [] none = refl
none_ahead ring node next (e ∷ later) none = absurd (grind arith)

pub not_ready : (ring : RingId) (node : NodeId) (next : ℕ) (ahead : List (ℕ × Value)) (k : ℕ) (v : Value) → slice_get ahead 0 ≡ Some (k, v) →
    ((k == next) && nat_lt next END) ≡ false → ready ring node next ahead ≡ idle next ahead
not_ready ring node next [] k v first stop = refl
not_ready ring node next (e ∷ later) k v first stop =
    let same : e ≡ (k, v) = cc in
    let key : e.0 ≡ k = ap (λ (p : ℕ × Value). p.0) same in
    let test : ((e.0 == next) && nat_lt next END) ≡ false = rw key stop in
    rw test refl

pub is_ready : (ring : RingId) (node : NodeId) (next : ℕ) (ahead later : List (ℕ × Value)) (e : ℕ × Value) → ahead ≡ e ∷ later → e.0 ≡ next → next < END →
    ready ring node next ahead ≡ after_line (Deliver node ring next) (ready ring node (next + 1) later)
is_ready ring node next ahead later e is key low =
    let test : ((e.0 == next) && nat_lt next END) ≡ true = grind arith in
    rw is (rw test refl)

pub other_first : (ring : RingId) (node : NodeId) (next : ℕ) (ahead : List (ℕ × Value)) (k : ℕ) (v : Value) → slice_get ahead 0 ≡ Some (k, v) →
    k ≢ next → ready ring node next ahead ≡ idle next ahead
other_first ring node next ahead k v first other =
    let test : ((k == next) && nat_lt next END) ≡ false = grind arith in
    not_ready ring node next ahead k v first test

pub past_end : (ring : RingId) (node : NodeId) (next : ℕ) (ahead : List (ℕ × Value)) (k : ℕ) (v : Value) → slice_get ahead 0 ≡ Some (k, v) →
    END ≤ next → ready ring node next ahead ≡ idle next ahead
past_end ring node next ahead k v first high =
    let test : ((k == next) && nat_lt next END) ≡ false = shut (k == next) (nat_lt next END) (grind arith) in
    not_ready ring node next ahead k v first test
  where
    shut : (a b : Bool) → b ≡ false → (a && b) ≡ false
    shut true b h = h
    shut false b h = refl

-- what is ready is all that is left, where the turns stop
pub last_learner : (now all : Learned) (next : ℕ) (ahead : List (ℕ × Value)) → now ≡ idle next ahead → now.learner ≡ all.learner →
    record { next = next; ahead = ahead } ≡ all.learner
last_learner now all next ahead is kept = sym (ap (λ (l : Learned). l.learner) is) ∙ kept

pub last_lines : (now all : Learned) (next : ℕ) (ahead : List (ℕ × Value)) (lines before : List Line) → now ≡ idle next ahead →
    lines ++ now.lines ≡ before ++ all.lines → lines ≡ before ++ all.lines
last_lines now all next ahead lines before is kept =
    sym (append-nil lines) ∙ ap (λ (ls : List Line). lines ++ ls) (sym (ap (λ (l : Learned). l.lines) is)) ∙ kept
