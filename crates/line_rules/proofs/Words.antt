-- Tests and what they decide.
use Rattle.std.proofs.Common.{◌≡◌, ℕ, ◌≤◌, inl, inr, Bool, true, false, List, [], ◌∷◌, Option, Some, None, refl, sym, ◌∙◌, ap, subst, true≢false}
use Rattle.std.specs.Prelude.{◌==◌, nat_le, is_some, bytes_eq}
use Rattle.std.specs.Bool.{Decides}
use Rattle.std.specs.List.{AllByRecursion, list_all}
use Rattle.std.proofs.lemmas.Bool.Decides.{Decides-and, Decides-or, Decides-eqb, Decides-like}
use Rattle.std.proofs.lemmas.Slice.Eq.{bytes_eq-Decides}
use Rattle.mrp_types.specs.declared.id.NodeId.{NodeId}
use Rattle.mrp_types.specs.declared.id.RingId.{RingId}
use Rattle.mrp_types.specs.declared.id.ClientId.{ClientId}
use Rattle.mrp_types.specs.declared.value.Value.{Value}
use Rattle.mrp_types.specs.declared.value.Value.TheVariants.{Skip, Batch}
use Rattle.mrp_types.specs.Values.{is_skip}
use Rattle.plain_model.proofs.TupleOrder.{split_and, both_true}
use Rattle.plain_model.proofs.TupleChain.{is_le, le_is}
use Rattle.transcript.specs.declared.line.Line.{Line}
use Rattle.line_rules.specs.Scanners.{Mark, Opened, Closed, Begun, Restored, life}
use Rattle.quorums.specs.Groups.{Has}
use Rattle.line_rules.specs.Tests.{is_some_that, is_restored, is_ready, is_same_value, is_pair, is_among}

-- ---- tests

pub no_true : {P : Type 0} → false ≡ true → P
no_true h = absurd (true≢false (sym h))

pub itself : (b : Bool) → Decides b (b ≡ true)
itself b = (λ h. h, λ h. h)

-- what a test decides, said otherwise
pub like : {P Q : Type 0} (r : Bool) → Decides r P → (P → Q) → (Q → P) → Decides r Q
like r d to back = (λ h. to (d.0 h), λ q. d.1 (back q))

pub le_decides : (a b : ℕ) → Decides (nat_le a b) (a ≤ b)
le_decides a b = (is_le a b, le_is a b)

pub false_of : {P : Type 0} (r : Bool) → Decides r P → (P → ⊥) → r ≡ false
false_of true d n = absurd (n (d.0 refl))
false_of false d n = refl

-- ---- options

pub nothing : {T : Type 0} (x : T) → None ≡ Some x → ⊥
nothing x e = cc

pub some_same : {T : Type 0} (x y : T) → Some x ≡ Some y → x ≡ y
some_same x y e = cc

pub some_decides : {T : Type 0} (o : Option T) → Decides (is_some o) ((x : T) × (o ≡ Some x))
some_decides None = (λ h. no_true h, λ p. absurd (nothing p.0 p.1))
some_decides (Some x) = (λ h. (x, refl), λ p. refl)

pub that_decides : {T : Type 0} (test : T → Bool) (P : T → Type 0) (o : Option T) → ((x : T) → o ≡ Some x → Decides (test x) (P x)) →
    Decides (is_some_that test o) ((x : T) × ((o ≡ Some x) × P x))
that_decides test P None each = (λ h. no_true h, λ p. absurd (nothing p.0 p.1.0))
that_decides test P (Some x) each =
    (λ h. (x, (refl, (each x refl).0 h)), λ p. (each x refl).1 (subst P (sym (some_same x p.0 p.1.0)) p.1.1))

-- something is there, and it is this
pub at_decides : {T : Type 0} (test : T → Bool) (x : T) → ((y : T) → Decides (test y) (y ≡ x)) → (o : Option T) → Decides (is_some_that test o) (o ≡ Some x)
at_decides {T} test x each None = (λ h. no_true h, λ e. absurd (nothing x e))
at_decides {T} test x each (Some y) = (λ h. ap (λ (z : T). Some z) ((each y).0 h), λ e. (each y).1 (some_same y x e))

-- ---- lists

pub all_decides : {T : Type 0} (test : T → Bool) (P : T → Type 0) → ((x : T) → Decides (test x) (P x)) → (xs : List T) → Decides (list_all test xs) (AllByRecursion P xs)
all_decides test P each [] = (λ h. tt, λ h. refl)
all_decides test P each (x ∷ xs) = Decides-and (test x) (list_all test xs) (each x) (all_decides test P each xs)

pub has_decides : {T : Type 0} (test : T → Bool) (P : T → Type 0) → ((x : T) → Decides (test x) (P x)) → (xs : List T) → Decides (list_all test xs) ((x : T) → Has xs x → P x)
has_decides test P each [] = (λ h x m. absurd m, λ h. refl)
has_decides test P each (y ∷ xs) = (
  λ h x m. elim m [
    | inl e ↦ subst P (sym e) ((each y).0 (split_and (test y) (list_all test xs) h).0)
    | inr later ↦ (has_decides test P each xs).0 (split_and (test y) (list_all test xs) h).1 x later
  ],
  λ h. both_true (test y) (list_all test xs) ((each y).1 (h y (inl refl))) ((has_decides test P each xs).1 (λ x m. h x (inr m))),
)

pub among_decides : (printed : List ℕ) (tuples : List (List ℕ)) → Decides (is_among printed tuples) (Has tuples printed)
among_decides printed [] = (λ h. no_true h, λ h. absurd h)
among_decides printed (tuple ∷ tuples) =
    Decides-or (bytes_eq printed tuple) (is_among printed tuples) (bytes_eq-Decides printed tuple) (among_decides printed tuples)

pub bytes_decide : (xs : List ℕ) (o : Option (List ℕ)) → Decides (is_some_that (bytes_eq xs) o) (o ≡ Some xs)
bytes_decide xs o = at_decides (bytes_eq xs) xs (λ ys. Decides-like (bytes_eq xs ys) (λ e. sym e) (λ e. sym e) (bytes_eq-Decides xs ys)) o

-- ---- pairs

pub pair_decides : (a b : ℕ) (x : ℕ × ℕ) → Decides (is_pair a b x) (x ≡ (a, b))
pair_decides a b x =
    Decides-like (is_pair a b x)
    (λ (p : (x.0 ≡ a) × (x.1 ≡ b)). let first : ℕ → ℕ × ℕ = λ n. (n, x.1) in let second : ℕ → ℕ × ℕ = λ n. (a, n) in ap first p.0 ∙ ap second p.1)
    (λ e. (ap (λ (z : ℕ × ℕ). z.0) e, ap (λ (z : ℕ × ℕ). z.1) e))
    (Decides-and (x.0 == a) (x.1 == b) (Decides-eqb x.0 a) (Decides-eqb x.1 b))

pub attempt_decides : (a b : ℕ) (o : Option (Option (ℕ × ℕ))) → Decides (is_some_that (is_some_that (is_pair a b)) o) (o ≡ Some (Some (a, b)))
attempt_decides a b o = at_decides (is_some_that (is_pair a b)) (Some (a, b)) (λ y. at_decides (is_pair a b) (a, b) (λ x. pair_decides a b x) y) o

-- ---- marks

mark_decides : (m : Mark) → Decides (is_restored m) (m ≡ Restored)
mark_decides Opened = (λ h. no_true h, λ e. cc)
mark_decides Closed = (λ h. no_true h, λ e. cc)
mark_decides Begun = (λ h. no_true h, λ e. cc)
mark_decides Restored = (λ h. refl, λ e. refl)

pub ready_decides : (node : NodeId) (before : List Line) → Decides (is_ready node before) (life node.0 before ≡ Some Restored)
ready_decides node before = at_decides is_restored Restored mark_decides (life node.0 before)

-- ---- values

skip_decides : (v : Value) → Decides (is_skip v) (v ≡ Skip)
skip_decides Skip = (λ h. refl, λ e. refl)
skip_decides (Batch batch) = (λ h. no_true h, λ e. cc)

pub skips_decide : (o : Option Value) → Decides (is_some_that is_skip o) (o ≡ Some Skip)
skips_decide o = at_decides is_skip Skip skip_decides o

pub value_decides : (v w : Value) → Decides (is_same_value v w) (v ≡ w)
value_decides Skip Skip = (λ h. refl, λ e. refl)
value_decides Skip (Batch b) = (λ h. no_true h, λ e. cc)
value_decides (Batch a) Skip = (λ h. no_true h, λ e. cc)
value_decides (Batch a) (Batch b) =
    Decides-like (bytes_eq a b) (λ e. ap (λ (bytes : List ℕ). Batch bytes) e) (λ e. cc) (bytes_eq-Decides a b)

-- ---- names

pub node_same : (a b : NodeId) → a.0 ≡ b.0 → a ≡ b
node_same a b e = let named : ℕ → NodeId = λ n. record { 0 = n } in ap named e

pub ring_same : (a b : RingId) → a.0 ≡ b.0 → a ≡ b
ring_same a b e = let named : ℕ → RingId = λ n. record { 0 = n } in ap named e

pub client_same : (a b : ClientId) → a.0 ≡ b.0 → a ≡ b
client_same a b e = let named : ℕ → ClientId = λ n. record { 0 = n } in ap named e
