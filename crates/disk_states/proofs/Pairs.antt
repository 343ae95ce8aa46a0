-- Which area of the checkpoints stands, once the other one was renewed.
use Rattle.std.proofs.Common.{◌≡◌, ◌⊎◌, inl, inr, ℕ, ◌+◌, ◌<◌, Bool, true, false, cond, not, nat_eq, nat_lt, List, length, None, Ok, Err, refl, ap, sym, ◌∙◌, arith}
use Rattle.std.proofs.lemmas.Bool.{le-ltb, lt-ltb}
use Rattle.std.proofs.lemmas.Bool.Decides.{eqb_tells}
use Rattle.disk_model.specs.declared.area.Area.{Area}
use Rattle.disk_model.specs.declared.area.Area.TheVariants.{Check2, Check3}
use Rattle.gate_area.specs.declared.pair.Pair.TheVariants.{Check}
use Rattle.gate_area.specs.declared.pair.Head.{Head}
use Rattle.gate_area.specs.declared.pair.Head.TheVariants.{Closed, Spoilt, Open}
use Rattle.gate_area.specs.Standing.{judged, standing, head_of}
use Rattle.gate_log.proofs.Moves.{Judgement, stood, spoilt, e_fault, e_area}
use Rattle.gate_log.proofs.Renewals.{number}

-- the heads alone tell what stands
heads : (n m : ℕ) (a b c d : Head) → a ≡ b → c ≡ d → judged Check n m a c ≡ judged Check n m b d
heads n m a b c d e f = ap (λ h. judged Check n m h c) e ∙ ap (judged Check n m b) f

abbrev pub no_area : Judgement
no_area = Ok None

-- the area that stands, with its head
Counts : Area → ℕ → Head → Head → Type 0
Counts area g h s = ((area ≡ Check2) × (h ≡ Open g)) ⊎ ((area ≡ Check3) × (s ≡ Open g))

none_counts : (a : Bool) (area : Area) (g : ℕ) → cond {A = Judgement} (not a) (Err (Check2, 0)) no_area ≡ stood area g → ⊥
none_counts true area g e = cc
none_counts false area g e = cc

counts : (area : Area) (g n m : ℕ) (h s : Head) → judged Check n m h s ≡ stood area g → Counts area g h s
unfolding Counts
counts area g n m (Spoilt at) s e = absurd (e_fault Check2 at (area, g) e)
counts area g n m (Open k) (Spoilt at) e = absurd (e_fault Check3 at (area, g) e)
counts area g n m (Open k) (Open l) e = chosen (nat_eq k l) (nat_lt l k) area g k l e
  where
    chosen : (a b : Bool) (area : Area) (g k l : ℕ) → cond {A = Judgement} a (Err (Check3, 8)) (cond b (stood Check2 k) (stood Check3 l)) ≡ stood area g → Counts area g (Open k) (Open l)
    chosen true b area g k l e = absurd (e_fault Check3 8 (area, g) e)
    chosen false true area g k l e = inl (e_area Check2 k area g e, ap Open (number Check2 k area g e))
    chosen false false area g k l e = inr (e_area Check3 l area g e, ap Open (number Check3 l area g e))
counts area g n m (Open k) Closed e = inl (e_area Check2 k area g e, ap Open (number Check2 k area g e))
counts area g n m Closed (Spoilt at) e = absurd (e_fault Check3 at (area, g) e)
counts area g n m Closed (Open k) e = inr (e_area Check3 k area g e, ap Open (number Check3 k area g e))
counts area g n m Closed Closed e = absurd (none_counts (nat_eq m 0) area g e)

-- only an area of the pair stands
pub own_check : (area : Area) (g : ℕ) (f s : List ℕ) → standing Check f s ≡ stood area g → (area ≡ Check2) ⊎ (area ≡ Check3)
unfolding Counts
own_check area g f s e = elim (counts area g (length f) (length s) (head_of Check f) (head_of Check s) e) [ inl first ↦ inl first.0 | inr second ↦ inr second.0 ]

first_counts : (f s : List ℕ) (g : ℕ) → standing Check f s ≡ stood Check2 g → head_of Check f ≡ Open g
unfolding Counts
first_counts f s g e = elim (counts Check2 g (length f) (length s) (head_of Check f) (head_of Check s) e) [
  | inl first ↦ first.1
  | inr second ↦ absurd (let no : Check2 ≡ Check3 = second.0 in cc)
]

second_counts : (f s : List ℕ) (g : ℕ) → standing Check f s ≡ stood Check3 g → head_of Check s ≡ Open g
unfolding Counts
second_counts f s g e = elim (counts Check3 g (length f) (length s) (head_of Check f) (head_of Check s) e) [
  | inl first ↦ absurd (let no : Check3 ≡ Check2 = first.0 in cc)
  | inr second ↦ second.1
]

-- where one counts, the lengths don't matter
again : (area : Area) (g n m k l : ℕ) (h s : Head) → judged Check n m h s ≡ stood area g → judged Check k l h s ≡ stood area g
again area g n m k l (Spoilt at) s e = e
again area g n m k l (Open a) (Spoilt at) e = e
again area g n m k l (Open a) (Open b) e = e
again area g n m k l (Open a) Closed e = e
again area g n m k l Closed (Spoilt at) e = e
again area g n m k l Closed (Open b) e = e
again area g n m k l Closed Closed e = absurd (none_counts (nat_eq m 0) area g e)

apart : (k l : ℕ) → (k < l) ⊎ (l < k) → nat_eq k l ≡ false
apart k l less = elim (eqb_tells k l) [ inl alike ↦ absurd (never k l alike.1 less) | inr other ↦ other.0 ]
  where
    never : (k l : ℕ) → k ≡ l → (k < l) ⊎ (l < k) → ⊥
    never k l same (inl a) = absurd (omega arith)
    never k l same (inr a) = absurd (omega arith)

-- the greater generation stands
next_second : (n m g : ℕ) → judged Check n m (Open g) (Open (g + 1)) ≡ stood Check3 (g + 1)
next_second n m g =
    ap (λ b. cond {A = Judgement} b (Err (Check3, 8)) (cond (nat_lt (g + 1) g) (stood Check2 g) (stood Check3 (g + 1)))) (apart g (g + 1) (inl (omega arith)))
    ∙ ap (λ b. cond {A = Judgement} b (stood Check2 g) (stood Check3 (g + 1))) (le-ltb (g + 1) g (omega arith))

next_first : (n m g : ℕ) → judged Check n m (Open (g + 1)) (Open g) ≡ stood Check2 (g + 1)
next_first n m g =
    ap (λ b. cond {A = Judgement} b (Err (Check3, 8)) (cond (nat_lt g (g + 1)) (stood Check2 (g + 1)) (stood Check3 g))) (apart (g + 1) g (inr (omega arith)))
    ∙ ap (λ b. cond {A = Judgement} b (stood Check2 (g + 1)) (stood Check3 g)) (lt-ltb g (g + 1) (omega arith))

-- ---- no area stood

pub record AreClosed (f s : List ℕ) : Type 0 where
  pub first : head_of Check f ≡ Closed
  pub second : head_of Check s ≡ Closed
  pub empty : length s ≡ 0

closed_by : (n m : ℕ) (h s : Head) → judged Check n m h s ≡ no_area → (h ≡ Closed) × (s ≡ Closed) × (m ≡ 0)
closed_by n m (Spoilt at) s e = absurd (let no : spoilt Check2 at ≡ no_area = e in cc)
closed_by n m (Open k) (Spoilt at) e = absurd (let no : spoilt Check3 at ≡ no_area = e in cc)
closed_by n m (Open k) (Open l) e = absurd (never (nat_eq k l) (nat_lt l k) k l e)
  where
    never : (a b : Bool) (k l : ℕ) → cond {A = Judgement} a (Err (Check3, 8)) (cond b (stood Check2 k) (stood Check3 l)) ≡ no_area → ⊥
    never true b k l e = cc
    never false true k l e = cc
    never false false k l e = cc
closed_by n m (Open k) Closed e = absurd (let no : stood Check2 k ≡ no_area = e in cc)
closed_by n m Closed (Spoilt at) e = absurd (let no : spoilt Check3 at ≡ no_area = e in cc)
closed_by n m Closed (Open k) e = absurd (let no : stood Check3 k ≡ no_area = e in cc)
closed_by n m Closed Closed e = elim (eqb_tells m 0) [
  | inl alike ↦ (refl, refl, alike.1)
  | inr other ↦ absurd (let no : spoilt Check2 0 ≡ no_area = sym (ap (λ b. cond {A = Judgement} (not b) (Err (Check2, 0)) no_area) other.0) ∙ e in cc)
]

are_closed : (f s : List ℕ) → standing Check f s ≡ no_area → AreClosed f s
are_closed f s e =
    let parts = closed_by (length f) (length s) (head_of Check f) (head_of Check s) e in
    record { first = parts.0; second = parts.1; empty = parts.2 }

-- ---- the pair with a renewed area

-- the renewed area counts as before, or doesn't
abbrev pub StaysOrCloses : List ℕ → List ℕ → Type 0
StaysOrCloses file image = (head_of Check image ≡ head_of Check file) ⊎ (head_of Check image ≡ Closed)

pub none_stays : (f s image : List ℕ) → standing Check f s ≡ no_area → StaysOrCloses f image → standing Check image s ≡ no_area
none_stays f s image e how =
    let are = are_closed f s e in
    heads (length image) (length s) (head_of Check image) Closed (head_of Check s) Closed (closed how are.first) are.second
    ∙ ap (λ n. cond {A = Judgement} (not (nat_eq n 0)) (Err (Check2, 0)) no_area) are.empty
  where
    closed : StaysOrCloses f image → head_of Check f ≡ Closed → head_of Check image ≡ Closed
    closed (inl same) is = same ∙ is
    closed (inr shut) is = shut

pub none_next : (f s image : List ℕ) (g : ℕ) → standing Check f s ≡ no_area → head_of Check image ≡ Open g → standing Check image s ≡ stood Check2 g
none_next f s image g e opens = heads (length image) (length s) (head_of Check image) (Open g) (head_of Check s) Closed opens (are_closed f s e).second

pub first_stays : (f s image : List ℕ) (g : ℕ) → standing Check f s ≡ stood Check2 g → StaysOrCloses s image → standing Check f image ≡ stood Check2 g
first_stays f s image g e (inl same) =
    heads (length f) (length image) (head_of Check f) (head_of Check f) (head_of Check image) (head_of Check s) refl same
    ∙ again Check2 g (length f) (length s) (length f) (length image) (head_of Check f) (head_of Check s) e
first_stays f s image g e (inr shut) =
    heads (length f) (length image) (head_of Check f) (Open g) (head_of Check image) Closed (first_counts f s g e) shut

pub first_next : (f s image : List ℕ) (g : ℕ) → standing Check f s ≡ stood Check2 g → head_of Check image ≡ Open (g + 1) → standing Check f image ≡ stood Check3 (g + 1)
first_next f s image g e opens =
    heads (length f) (length image) (head_of Check f) (Open g) (head_of Check image) (Open (g + 1)) (first_counts f s g e) opens ∙ next_second (length f) (length image) g

pub second_stays : (f s image : List ℕ) (g : ℕ) → standing Check f s ≡ stood Check3 g → StaysOrCloses f image → standing Check image s ≡ stood Check3 g
second_stays f s image g e (inl same) =
    heads (length image) (length s) (head_of Check image) (head_of Check f) (head_of Check s) (head_of Check s) same refl
    ∙ again Check3 g (length f) (length s) (length image) (length s) (head_of Check f) (head_of Check s) e
second_stays f s image g e (inr shut) =
    heads (length image) (length s) (head_of Check image) Closed (head_of Check s) (Open g) shut (second_counts f s g e)

pub second_next : (f s image : List ℕ) (g : ℕ) → standing Check f s ≡ stood Check3 g → head_of Check image ≡ Open (g + 1) → standing Check image s ≡ stood Check2 (g + 1)
second_next f s image g e opens =
    heads (length image) (length s) (head_of Check image) (Open (g + 1)) (head_of Check s) (Open g) opens (second_counts f s g e) ∙ next_first (length image) (length s) g
