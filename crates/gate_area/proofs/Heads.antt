-- What an image of one area of a pair makes of what the pair stands for.
use Rattle.std.proofs.Common.{◌≡◌, ◌≢◌, ℕ, ◌<◌, ◌≤◌, ◌⊎◌, inl, inr, Bool, true, false, cond, not, ◌&&◌, nat_eq, nat_le, nat_lt, List, length, take, get_or, None, Ok, Err, refl, ap, sym, ◌∙◌, arith}
use Rattle.std.proofs.lemmas.Bool.{cases_lt, le-leb, lt-leb}
use Rattle.std.proofs.lemmas.Bool.Decides.{eqb_tells}
use Rattle.std.proofs.lemmas.List.{get_or-take}
use Rattle.gate_area.specs.declared.pair.Pair.{Pair}
use Rattle.gate_area.specs.declared.pair.Pair.TheVariants.{Check}
use Rattle.gate_area.specs.declared.pair.Head.{Head}
use Rattle.gate_area.specs.declared.pair.Head.TheVariants.{Closed, Spoilt, Open}
use Rattle.gate_area.specs.Gate.{IsShut, HasFront, FrontOrShort, OpenOrShut, opened}
use Rattle.gate_area.specs.Standing.{head_in, head_of, judged, standing, first_of, is_journal, has_magic, has_version, generation_of}

pub head-short : (pair : Pair) (file : List ℕ) → length file ≤ 16 → head_of pair file ≡ Closed
head-short pair file short = ap (λ b. cond b (head_in pair (take 16 file)) Closed) (lt-leb 17 (length file) (omega arith))

pub head-front : (pair : Pair) (file image : List ℕ) → HasFront file image → head_of pair image ≡ head_of pair file
head-front pair file image has =
    ap (λ b. cond b (head_in pair (take 16 image)) Closed) (le-leb 17 (length image) has.longer)
    ∙ ap (head_in pair) has.front
    ∙ sym (ap (λ b. cond b (head_in pair (take 16 file)) Closed) (le-leb 17 (length file) (omega (arith, has.longer, has.no_longer))))

pub not_one : (n : ℕ) → n ≢ 1 → nat_eq n 1 ≡ false
not_one n differs = elim (eqb_tells n 1) [ inl alike ↦ absurd (differs alike.1) | inr other ↦ other.0 ]

not_equal : (n m : ℕ) → n ≢ m → nat_eq n m ≡ false
not_equal n m differs = elim (eqb_tells n m) [ inl alike ↦ absurd (differs alike.1) | inr other ↦ other.0 ]

shut_in : (pair : Pair) (front : List ℕ) → nat_eq (get_or front 0 0) 1 ≡ false → head_in pair front ≡ Closed
shut_in pair front e = ap (λ b. cond (not b) Closed (cond (not (has_magic pair front)) (Spoilt 1) (cond (not (has_version front)) (Spoilt 4) (cond (nat_eq (generation_of front) 0) (Spoilt 8) (Open (generation_of front)))))) e

pub head-shut : (pair : Pair) (body file image : List ℕ) → IsShut 0 body file image → head_of pair image ≡ Closed
head-shut pair body file image is =
    ap (cond_of (nat_le 17 (length image))) (shut_in pair (take 16 image) (ap (λ n. nat_eq n 1) (get_or-take 16 image 0 0 (omega arith)) ∙ not_one (get_or image 0 0) is.shut))
    ∙ same_either (nat_le 17 (length image))
  where
    cond_of : Bool → Head → Head
    cond_of b h = cond b h Closed

    same_either : (b : Bool) → cond b Closed Closed ≡ Closed
    same_either true = refl
    same_either false = refl

-- the length of the first area matters only where none counts, and then whether it is above 17
pub first_alike : (pair : Pair) (n k m : ℕ) (h s : Head) → (h ≢ Closed) ⊎ ((s ≢ Closed) ⊎ ((m ≢ 0) ⊎ (nat_lt 17 n ≡ nat_lt 17 k))) → judged pair n m h s ≡ judged pair k m h s
first_alike pair n k m (Spoilt at) s why = refl
first_alike pair n k m (Open g) (Spoilt at) why = refl
first_alike pair n k m (Open g) (Open h) why = refl
first_alike pair n k m (Open g) Closed why = refl
first_alike pair n k m Closed (Spoilt at) why = refl
first_alike pair n k m Closed (Open h) why = refl
first_alike pair n k m Closed Closed (inl differs) = absurd (differs refl)
first_alike pair n k m Closed Closed (inr (inl differs)) = absurd (differs refl)
first_alike pair n k m Closed Closed (inr (inr (inl some))) =
    let e = not_equal m 0 some in
    ap (λ b. cond (not b) (Err (first_of pair, 0)) (cond (is_journal pair && nat_lt 17 n) (Err (first_of pair, 0)) (Ok None))) e
    ∙ sym (ap (λ b. cond (not b) (Err (first_of pair, 0)) (cond (is_journal pair && nat_lt 17 k) (Err (first_of pair, 0)) (Ok None))) e)
first_alike pair n k m Closed Closed (inr (inr (inr same))) =
    ap (λ b. cond (not (nat_eq m 0)) (Err (first_of pair, 0)) (cond (is_journal pair && b) (Err (first_of pair, 0)) (Ok None))) same

-- that of the second only where none counts, and then whether it is empty
pub second_alike : (pair : Pair) (n m k : ℕ) (h s : Head) → nat_eq m 0 ≡ nat_eq k 0 → judged pair n m h s ≡ judged pair n k h s
second_alike pair n m k (Spoilt at) s same = refl
second_alike pair n m k (Open g) (Spoilt at) same = refl
second_alike pair n m k (Open g) (Open h) same = refl
second_alike pair n m k (Open g) Closed same = refl
second_alike pair n m k Closed (Spoilt at) same = refl
second_alike pair n m k Closed (Open h) same = refl
second_alike pair n m k Closed Closed same =
    ap (λ b. cond (not b) (Err (first_of pair, 0)) (cond (is_journal pair && nat_lt 17 n) (Err (first_of pair, 0)) (Ok None))) same

lengths_above : (n k : ℕ) → 17 < n → 17 < k → nat_lt 17 n ≡ nat_lt 17 k
lengths_above n k a b = le-leb 18 n a ∙ sym (le-leb 18 k b)

lengths_below : (n k : ℕ) → n ≤ 17 → k ≤ 17 → nat_lt 17 n ≡ nat_lt 17 k
lengths_below n k a b = lt-leb 18 n (omega arith) ∙ sym (lt-leb 18 k (omega arith))

heads : (pair : Pair) (n m : ℕ) (a b c d : Head) → a ≡ b → c ≡ d → judged pair n m a c ≡ judged pair n m b d
heads pair n m a b c d e f = ap (λ h. judged pair n m h c) e ∙ ap (judged pair n m b) f

-- the first area is retired
pub retire_first : (pair : Pair) (f g h s : List ℕ) → FrontOrShort f g → length h ≤ 16
    → (standing pair g s ≡ standing pair f s) ⊎ (standing pair g s ≡ standing pair h s)
retire_first pair f g h s (inr is) short =
    let e : head_of pair g ≡ head_of pair h = head-short pair g is.short ∙ sym (head-short pair h short) in
    inr (heads pair (length g) (length s) (head_of pair g) (head_of pair h) (head_of pair s) (head_of pair s) e refl
    ∙ first_alike pair (length g) (length h) (length s) (head_of pair h) (head_of pair s) (inr (inr (inr (lengths_below (length g) (length h) (omega (arith, is.short)) (omega arith))))))
retire_first pair f g h s (inl has) short =
    let e = head-front pair f g has in
    let to_f = heads pair (length g) (length s) (head_of pair g) (head_of pair f) (head_of pair s) (head_of pair s) e refl in
    elim (cases_lt 17 (length g)) [
      | inl long ↦ inl (to_f ∙ first_alike pair (length g) (length f) (length s) (head_of pair f) (head_of pair s) (inr (inr (inr (lengths_above (length g) (length f) long (omega (arith, has.no_longer)))))))
      | inr exact ↦ by_head pair f g h s to_f exact short (head_of pair f) refl
    ]
  where
    by_head : (pair : Pair) (f g h s : List ℕ) → standing pair g s ≡ judged pair (length g) (length s) (head_of pair f) (head_of pair s) → length g ≤ 17 → length h ≤ 16
        → (x : Head) → head_of pair f ≡ x → (standing pair g s ≡ standing pair f s) ⊎ (standing pair g s ≡ standing pair h s)
    by_head pair f g h s to_f exact short Closed is =
        inr (to_f
        ∙ heads pair (length g) (length s) (head_of pair f) (head_of pair h) (head_of pair s) (head_of pair s) (is ∙ sym (head-short pair h short)) refl
        ∙ first_alike pair (length g) (length h) (length s) (head_of pair h) (head_of pair s) (inr (inr (inr (lengths_below (length g) (length h) exact (omega arith))))))
    by_head pair f g h s to_f exact short (Spoilt at) is =
        inl (to_f ∙ first_alike pair (length g) (length f) (length s) (head_of pair f) (head_of pair s) (inl (λ closed. let never : Spoilt at ≡ Closed = sym is ∙ closed in cc)))
    by_head pair f g h s to_f exact short (Open n) is =
        inl (to_f ∙ first_alike pair (length g) (length f) (length s) (head_of pair f) (head_of pair s) (inl (λ closed. let never : Open n ≡ Closed = sym is ∙ closed in cc)))

some_bytes : (n k : ℕ) → n ≢ 0 → k ≢ 0 → nat_eq n 0 ≡ nat_eq k 0
some_bytes n k a b = not_equal n 0 a ∙ sym (not_equal k 0 b)

-- the second area is retired
pub retire_second : (pair : Pair) (f g h s : List ℕ) → FrontOrShort f g → length h ≤ 16 → 0 < length h
    → (standing pair s g ≡ standing pair s f) ⊎ (standing pair s g ≡ standing pair s h)
retire_second pair f g h s (inl has) short some =
    inl (heads pair (length s) (length g) (head_of pair s) (head_of pair s) (head_of pair g) (head_of pair f) refl (head-front pair f g has)
    ∙ second_alike pair (length s) (length g) (length f) (head_of pair s) (head_of pair f) (some_bytes (length g) (length f) (omega (arith, has.longer)) (omega (arith, has.longer, has.no_longer))))
retire_second pair f g h s (inr is) short some =
    elim (cases_lt 0 (length g)) [
      | inl here ↦ inr (heads pair (length s) (length g) (head_of pair s) (head_of pair s) (head_of pair g) (head_of pair h) refl (head-short pair g is.short ∙ sym (head-short pair h short))
          ∙ second_alike pair (length s) (length g) (length h) (head_of pair s) (head_of pair h) (some_bytes (length g) (length h) (omega arith) (omega arith)))
      | inr none ↦
          let gone : length f ≡ 0 = is.none (omega arith) in
          inl (heads pair (length s) (length g) (head_of pair s) (head_of pair s) (head_of pair g) (head_of pair f) refl (head-short pair g is.short ∙ sym (head-short pair f (omega arith)))
          ∙ second_alike pair (length s) (length g) (length f) (head_of pair s) (head_of pair f) (ap (λ n. nat_eq n 0) (let e : length g ≡ length f = omega arith in e)))
    ]

check_alike : (n k m : ℕ) (h s : Head) → judged Check n m h s ≡ judged Check k m h s
check_alike n k m (Spoilt at) s = refl
check_alike n k m (Open g) (Spoilt at) = refl
check_alike n k m (Open g) (Open h) = refl
check_alike n k m (Open g) Closed = refl
check_alike n k m Closed (Spoilt at) = refl
check_alike n k m Closed (Open h) = refl
check_alike n k m Closed Closed = refl

-- the first area is founded
pub found_first : (pair : Pair) (body f g h s : List ℕ) → length f ≤ 16 → h ≡ opened 0 body f
    → (length body ≤ 16) ⊎ ((pair ≡ Check) ⊎ (head_of pair s ≢ Closed))
    → OpenOrShut 0 body f g
    → (standing pair g s ≡ standing pair f s) ⊎ (standing pair g s ≡ standing pair h s)
found_first pair body f g h s short whole why (inr all) = inr (ap (λ x. standing pair x s) (all ∙ sym whole))
found_first pair body f g h s short whole why (inl is) =
    let to_f = heads pair (length g) (length s) (head_of pair g) (head_of pair f) (head_of pair s) (head_of pair s) (head-shut pair body f g is ∙ sym (head-short pair f short)) refl in
    inl (to_f ∙ elim why [
      | inl small ↦ first_alike pair (length g) (length f) (length s) (head_of pair f) (head_of pair s) (inr (inr (inr (lengths_below (length g) (length f) (omega (arith, is.no_longer)) (omega arith)))))
      | inr (inl check) ↦ ap (λ p. judged p (length g) (length s) (head_of pair f) (head_of pair s)) check ∙ check_alike (length g) (length f) (length s) (head_of pair f) (head_of pair s) ∙ sym (ap (λ p. judged p (length f) (length s) (head_of pair f) (head_of pair s)) check)
      | inr (inr beside) ↦ first_alike pair (length g) (length f) (length s) (head_of pair f) (head_of pair s) (inr (inl beside))
    ])

-- the second area is founded
pub found_second : (pair : Pair) (body f g h s : List ℕ) → length f ≤ 16 → 0 < length f → h ≡ opened 0 body f
    → OpenOrShut 0 body f g
    → (standing pair s g ≡ standing pair s f) ⊎ (standing pair s g ≡ standing pair s h)
found_second pair body f g h s short some whole (inr all) = inr (ap (standing pair s) (all ∙ sym whole))
found_second pair body f g h s short some whole (inl is) =
    inl (heads pair (length s) (length g) (head_of pair s) (head_of pair s) (head_of pair g) (head_of pair f) refl (head-shut pair body f g is ∙ sym (head-short pair f short))
    ∙ second_alike pair (length s) (length g) (length f) (head_of pair s) (head_of pair f) (some_bytes (length g) (length f) (omega (arith, is.within)) (omega arith)))

-- the same with the other area as it is in each
pub beside_first : (pair : Pair) (f g h s now then : List ℕ) → now ≡ s → then ≡ s
    → (standing pair g s ≡ standing pair f s) ⊎ (standing pair g s ≡ standing pair h s)
    → (standing pair g now ≡ standing pair f s) ⊎ (standing pair g now ≡ standing pair h then)
beside_first pair f g h s now then a b (inl e) = inl (ap (standing pair g) a ∙ e)
beside_first pair f g h s now then a b (inr e) = inr (ap (standing pair g) a ∙ e ∙ sym (ap (standing pair h) b))

pub beside_second : (pair : Pair) (f g h s now then : List ℕ) → now ≡ s → then ≡ s
    → (standing pair s g ≡ standing pair s f) ⊎ (standing pair s g ≡ standing pair s h)
    → (standing pair now g ≡ standing pair s f) ⊎ (standing pair now g ≡ standing pair then h)
beside_second pair f g h s now then a b (inl e) = inl (ap (λ x. standing pair x g) a ∙ e)
beside_second pair f g h s now then a b (inr e) = inr (ap (λ x. standing pair x g) a ∙ e ∙ sym (ap (λ x. standing pair x h) b))
