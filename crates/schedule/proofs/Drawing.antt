-- How the lists of a generated schedule grow: who is named, and the words that are drawn.
use Rattle.std.proofs.Common.{arith, ◌≡◌, ◌<◌, ◌≤◌, ℕ, zero, suc, ◌+◌, ◌-◌, ◌*◌, ◌%◌, Bool, true, false, List, [], ◌∷◌, ◌++◌, length, map, refl, sym, ap, ◌∙◌, append_assoc, append-nil, add-zero}
use Rattle.std.specs.List.{filter, range_with_len}
use Rattle.std.proofs.lemmas.List.Elements.{filter-append}
use Rattle.rand_core.specs.Steps.{first_words}
use Rattle.schedule.specs.declared.event.ScheduleEvent.{ScheduleEvent}
use Rattle.schedule.specs.declared.names.Names.{Names}
use Rattle.schedule.specs.Generating.{named_below, event_by, events_by}

-- ---- names

range_more : (a n : ℕ) → range_with_len a (suc n) ≡ range_with_len a n ++ (a + n) ∷ []
range_more a zero = ap (λ k. k ∷ []) (sym (add-zero a))
range_more a (suc n) =
    let same : a + 1 + n ≡ a + suc n = omega arith in
    ap (λ (l : List ℕ). a ∷ l) (range_more (a + 1) n ∙ ap (λ k. range_with_len (a + 1) n ++ k ∷ []) same)

mapped : {A B : Type 0} (f : A → B) (xs ys : List A) → map f (xs ++ ys) ≡ map f xs ++ map f ys
mapped f [] ys = refl
mapped f (x ∷ xs) ys = ap (λ l. f x ∷ l) (mapped f xs ys)

more : {A : Type 0} (name : ℕ → A) (test : ℕ → Bool) (n : ℕ) → named_below name test (n + 1) ≡ named_below name test n ++ map name (filter test (n ∷ []))
unfolding named_below
more name test n =
    let one : n + 1 ≡ suc n = omega arith in
    ap (λ k. map name (filter test (range_with_len 0 k))) one
    ∙ ap (λ (l : List ℕ). map name (filter test l)) (range_more 0 n)
    ∙ ap (map name) (filter-append test (range_with_len 0 n) ((0 + n) ∷ []))
    ∙ mapped name (filter test (range_with_len 0 n)) (filter test ((0 + n) ∷ []))
    ∙ ap (λ k. map name (filter test (range_with_len 0 n)) ++ map name (filter test (k ∷ []))) zeros
  where
    zeros : 0 + n ≡ n
    zeros = omega arith

pub named_none : {A : Type 0} (name : ℕ → A) (test : ℕ → Bool) → named_below name test 0 ≡ []
unfolding named_below
named_none name test = refl

pub named_one : {A : Type 0} (name : ℕ → A) (test : ℕ → Bool) (n : ℕ) → test n ≡ true → named_below name test (n + 1) ≡ named_below name test n ++ name n ∷ []
named_one name test n is = more name test n ∙ rw is refl

pub named_other : {A : Type 0} (name : ℕ → A) (test : ℕ → Bool) (n : ℕ) → test n ≡ false → named_below name test (n + 1) ≡ named_below name test n
named_other name test n is = more name test n ∙ rw is (append-nil (named_below name test n))

-- ---- words

two_words : {S : Type 0} (step : S → ℕ × S) (m : ℕ) (g g1 g2 : S) (kind a : ℕ) → (kind, g1) ≡ step g → (a, g2) ≡ step g1 →
    first_words step (suc (suc m)) g ≡ kind ∷ a ∷ first_words step m g2
unfolding first_words
two_words {S} step m g g1 g2 kind a first second =
    let of_first : ℕ × S → List ℕ = λ p. p.0 ∷ (step p.1).0 ∷ first_words step m (step p.1).1 in
    let of_second : ℕ × S → List ℕ = λ q. kind ∷ q.0 ∷ first_words step m q.1 in
    ap of_first (sym first) ∙ ap of_second (sym second)

-- the events so far, and those of the words that are left to draw
abbrev pub with_rest : {S : Type 0} → (S → ℕ × S) → Names → List ScheduleEvent → ℕ → S → List ScheduleEvent
with_rest step names items left g = items ++ events_by names (first_words step (2 * left) g)

pub one_event : {S : Type 0} (step : S → ℕ × S) (names : Names) (items whole : List ScheduleEvent) (event : ScheduleEvent) (kind a turn events : ℕ) (g g1 g2 : S) →
    turn < events → (kind, g1) ≡ step g → (a, g2) ≡ step g1 → event ≡ event_by names (kind % 16) a →
    with_rest step names items (events - turn) g ≡ whole → with_rest step names (items ++ event ∷ []) (events - (turn + 1)) g2 ≡ whole
unfolding events_by
one_event step names items whole event kind a turn events g g1 g2 less first second is so_far =
    let left = 2 * (events - (turn + 1)) in
    let count : 2 * (events - turn) ≡ suc (suc left) = omega arith in
    let rest = events_by names (first_words step left g2) in
    append_assoc items (event ∷ []) rest
    ∙ ap (λ (e : ScheduleEvent). items ++ e ∷ rest) is
    ∙ ap (λ (l : List ℕ). items ++ events_by names l) (sym (two_words step left g g1 g2 kind a first second))
    ∙ ap (λ n. items ++ events_by names (first_words step n g)) (sym count)
    ∙ so_far

pub no_event : {S : Type 0} (step : S → ℕ × S) (names : Names) (items whole : List ScheduleEvent) (turn events : ℕ) (g : S) → events ≤ turn →
    with_rest step names items (events - turn) g ≡ whole → items ≡ whole
unfolding events_by first_words
no_event step names items whole turn events g all so_far =
    let none : 2 * (events - turn) ≡ 0 = omega arith in
    sym (append-nil items) ∙ ap (λ n. items ++ events_by names (first_words step n g)) (sym none) ∙ so_far
