-- The best of some answers.
use Rattle.std.proofs.Common.{arith, ◌≡◌, ◌≤◌, ◌⊎◌, inl, inr, ℕ, ◌==◌, ◌&&◌, nat_lt, nat_le, Bool, true, false, if◌then◌else◌, IsTrue, List, [], ◌∷◌, refl, sym, true≢false, ◌∙◌, subst}
use Rattle.std.specs.Prelude.{not, ◌||◌}
use Rattle.std.specs.List.{AllByRecursion}
use Rattle.std.proofs.lemmas.Bool.{cases_eq}
use Rattle.mrp_types.specs.declared.id.NodeId.{NodeId}
use Rattle.mrp_types.specs.declared.id.RingId.{RingId}
use Rattle.plain_model.specs.Tuples.{is_at_or_after, is_valid_tuple, has_rings, is_tuple_of}
use Rattle.plain_model.proofs.TupleOrder.{split_and, both_true, same_number, other_number}
use Rattle.plain_model.proofs.TupleChain.{one_reaches, reaches_chain, reaches_same}
use Rattle.checkpoint.specs.Checkpoints.{is_same_tuple, is_after}
use Rattle.checkpoint.proofs.Tests.{after-before, same-is}
use Rattle.protocol.specs.Recovery.{is_other, is_better, best_of}
use Rattle.protocol.specs.Meaning.{IsAnswer, IsPreferred, IsBestAnswer}

abbrev Answer : Type 0
Answer = NodeId × List (RingId × ℕ)

-- ---- nodes with the same tuple

picks : (o b a : ℕ) (p q r : Bool) → (b == o) ≡ p → (a == o) ≡ q → nat_lt a b ≡ r → (not p && (q || r)) ≡ true → (a ≡ o) ⊎ ((b ≡ o → ⊥) × (a ≤ b))
picks o b a true q r ep eq er h = absurd (true≢false (sym h))
picks o b a false true r ep eq er h = inl (same_number a o eq)
picks o b a false false true ep eq er h = let le : a ≤ b = grind arith in inr (other_number b o ep, le)
picks o b a false false false ep eq er h = absurd (true≢false (sym h))

keeps : (o b a : ℕ) (p q r : Bool) → (b == o) ≡ p → (a == o) ≡ q → nat_lt a b ≡ r → (not p && (q || r)) ≡ false → (b ≡ o) ⊎ ((a ≡ o → ⊥) × (b ≤ a))
keeps o b a true q r ep eq er h = inl (same_number b o ep)
keeps o b a false true r ep eq er h = absurd (true≢false h)
keeps o b a false false true ep eq er h = absurd (true≢false h)
keeps o b a false false false ep eq er h = let le : b ≤ a = grind arith in inr (other_number a o eq, le)

same_node : (own node : NodeId) → IsPreferred own node node
same_node own node = by (cases_eq node.0 own.0)
  where
    by : (node.0 ≡ own.0) ⊎ (node.0 ≡ own.0 → ⊥) → IsPreferred own node node
    by (inl is) = inl is
    by (inr not) = inr (not, omega arith)

preferred_chain : (own c b a : NodeId) → IsPreferred own c b → IsPreferred own b a → IsPreferred own c a
preferred_chain own c b a (inl is) second = inl is
preferred_chain own c b a (inr first) (inl is) = absurd (first.0 is)
preferred_chain own c b a (inr first) (inr second) =
    let low : c.0 ≤ b.0 = first.1 in
    let high : b.0 ≤ a.0 = second.1 in
    inr (second.0, omega arith)

-- ---- one answer is as good as another

record AsGood (own : NodeId) (c a : Answer) : Type 0 where
  reaches : is_at_or_after c.1 a.1 ≡ true
  preferred : a.1 ≡ c.1 → IsPreferred own c.0 a.0

le_itself : (n : ℕ) → IsTrue (nat_le n n)
le_itself n = grind arith

at_itself : (tuple : List (RingId × ℕ)) → is_at_or_after tuple tuple ≡ true
at_itself [] = refl
at_itself (x ∷ xs) = both_true (nat_le x.1 x.1) (is_at_or_after xs xs) (le_itself x.1) (at_itself xs)

itself : (own : NodeId) (a : Answer) → AsGood own a a
itself own a = record { reaches = at_itself a.1; preferred = λ same. same_node own a.0 }

module _ (m : ℕ → ℕ) (rings : List RingId) (own : NodeId) where
  abbrev Fits : Answer → Type 0
  Fits a = is_tuple_of m rings a.1 ≡ true

  rings_of : (a : Answer) → Fits a → has_rings rings a.1 ≡ true
  rings_of a fit = (split_and (has_rings rings a.1) (is_valid_tuple m a.1) fit).0

  good_chain : (c b a : Answer) → Fits c → Fits b → Fits a → AsGood own c b → AsGood own b a → AsGood own c a
  good_chain c b a fc fb fa first second = record {
    reaches = reaches_chain rings c.1 b.1 a.1 (rings_of c fc) (rings_of b fb) (rings_of a fa) first.reaches second.reaches;
    preferred = λ same.
        let back : is_at_or_after b.1 c.1 ≡ true = subst (λ (t : List (RingId × ℕ)). is_at_or_after b.1 t ≡ true) same second.reaches in
        let one : b.1 ≡ c.1 = reaches_same rings b.1 c.1 (rings_of b fb) (rings_of c fc) back first.reaches in
        preferred_chain own c.0 b.0 a.0 (first.preferred one) (second.preferred (same ∙ sym one));
  }

  abbrev Both : Answer → Answer → Answer → Type 0
  Both next best answer = AsGood own next best × AsGood own next answer

  by_same : (best answer : Answer) → best.1 ≡ answer.1 → (u : Bool) → (is_other own best.0 && (answer.0.0 == own.0 || nat_lt answer.0.0 best.0.0)) ≡ u →
      Both (if u then answer else best) best answer
  by_same best answer same true e = (
    record {
      reaches = subst (λ (t : List (RingId × ℕ)). is_at_or_after answer.1 t ≡ true) (sym same) (at_itself answer.1);
      preferred = λ any. picks own.0 best.0.0 answer.0.0 (best.0.0 == own.0) (answer.0.0 == own.0) (nat_lt answer.0.0 best.0.0) refl refl refl e;
    },
    itself own answer,
  )
  by_same best answer same false e = (
    itself own best,
    record {
      reaches = subst (λ (t : List (RingId × ℕ)). is_at_or_after best.1 t ≡ true) same (at_itself best.1);
      preferred = λ any. keeps own.0 best.0.0 answer.0.0 (best.0.0 == own.0) (answer.0.0 == own.0) (nat_lt answer.0.0 best.0.0) refl refl refl e;
    },
  )

  or_reaches : (p q : Bool) → (p && not q) ≡ false → (q ≡ true) ⊎ (p ≡ true) → q ≡ true
  or_reaches p q h (inl is) = is
  or_reaches true true h (inr is) = refl
  or_reaches true false h (inr is) = absurd (true≢false h)
  or_reaches false q h (inr is) = absurd (true≢false (sym is))

  by_after : (best answer : Answer) → Fits best → Fits answer → (best.1 ≡ answer.1 → ⊥) → (v : Bool) → is_after best.1 answer.1 ≡ v →
      Both (if v then answer else best) best answer
  by_after best answer fb fa differ true e = (
    record {
      reaches = (split_and (is_at_or_after answer.1 best.1) (not (is_at_or_after best.1 answer.1)) (sym (after-before m rings best.1 answer.1 fb fa) ∙ e)).0;
      preferred = λ same. absurd (differ same);
    },
    itself own answer,
  )
  by_after best answer fb fa differ false e = (
    itself own best,
    record {
      reaches = or_reaches (is_at_or_after answer.1 best.1) (is_at_or_after best.1 answer.1) (sym (after-before m rings best.1 answer.1 fb fa) ∙ e) (one_reaches m rings best.1 answer.1 fb fa);
      preferred = λ same. absurd (differ (sym same));
    },
  )

  abbrev next_of : Answer → Answer → Answer
  next_of best answer = if is_better own best answer then answer else best

  one_step : (best answer : Answer) → Fits best → Fits answer → Both (next_of best answer) best answer
  one_step best answer fb fa = by (is_same_tuple best.1 answer.1) refl
    where
      by : (t : Bool) → is_same_tuple best.1 answer.1 ≡ t →
          Both (if (if t then is_other own best.0 && (answer.0.0 == own.0 || nat_lt answer.0.0 best.0.0) else is_after best.1 answer.1) then answer else best) best answer
      by true e = by_same best answer ((same-is best.1 answer.1).0 e) (is_other own best.0 && (answer.0.0 == own.0 || nat_lt answer.0.0 best.0.0)) refl
      by false e =
          by_after best answer fb fa (λ same. true≢false (sym ((same-is best.1 answer.1).1 same) ∙ e)) (is_after best.1 answer.1) refl

  next_fits : (best answer : Answer) (t : Bool) → Fits best → Fits answer → Fits (if t then answer else best)
  next_fits best answer true fb fa = fa
  next_fits best answer false fb fa = fb

  next_is : (best answer : Answer) (t : Bool) → ((if t then answer else best) ≡ best) ⊎ ((if t then answer else best) ≡ answer)
  next_is best answer true = inr refl
  next_is best answer false = inl refl

  -- what comes of best and further answers
  record Comes (best : Answer) (answers : List Answer) (last : Answer) : Type 0 where
    fit : Fits last
    first : AsGood own last best
    rest : AllByRecursion (λ (a : Answer). AsGood own last a) answers
    given : (last ≡ best) ⊎ IsAnswer last answers

  comes : (best : Answer) (answers : List Answer) → Fits best → AllByRecursion (λ (a : Answer). Fits a) answers → Comes best answers (best_of own best answers)
  comes best [] fb fits = record { fit = fb; first = itself own best; rest = tt; given = inl refl }
  comes best (answer ∷ answers) fb fits =
      let fn : Fits (next_of best answer) = next_fits best answer (is_better own best answer) fb fits.0 in
      let later : Comes (next_of best answer) answers (best_of own (next_of best answer) answers) = comes (next_of best answer) answers fn fits.1 in
      let both : Both (next_of best answer) best answer = one_step best answer fb fits.0 in
      let last : Answer = best_of own (next_of best answer) answers in
      record {
        fit = later.fit;
        first = good_chain last (next_of best answer) best later.fit fn fb later.first both.0;
        rest = (good_chain last (next_of best answer) answer later.fit fn fits.0 later.first both.1, later.rest);
        given = among last later.given (next_is best answer (is_better own best answer));
      }
    where
      among : (last : Answer) → (last ≡ next_of best answer) ⊎ IsAnswer last answers → (next_of best answer ≡ best) ⊎ (next_of best answer ≡ answer) →
          (last ≡ best) ⊎ IsAnswer last (answer ∷ answers)
      among last (inr there) any = inr (inr there)
      among last (inl is) (inl old) = inl (is ∙ old)
      among last (inl is) (inr new) = inr (inl (is ∙ new))

  all_reached : (last : Answer) (answers : List Answer) → AllByRecursion (λ (a : Answer). AsGood own last a) answers → AllByRecursion (λ (a : Answer). is_at_or_after last.1 a.1 ≡ true) answers
  all_reached last [] all = tt
  all_reached last (a ∷ answers) all = (all.0.reaches, all_reached last answers all.1)

  all_preferred : (last : Answer) (answers : List Answer) → AllByRecursion (λ (a : Answer). AsGood own last a) answers → AllByRecursion (λ (a : Answer). a.1 ≡ last.1 → IsPreferred own last.0 a.0) answers
  all_preferred last [] all = tt
  all_preferred last (a ∷ answers) all = (all.0.preferred, all_preferred last answers all.1)

  pub best_is : (answer : Answer) (answers : List Answer) → AllByRecursion (λ (a : Answer). is_tuple_of m rings a.1 ≡ true) (answer ∷ answers) →
      IsBestAnswer own (answer ∷ answers) (best_of own answer answers)
  best_is answer answers fits =
      let is : Comes answer answers (best_of own answer answers) = comes answer answers fits.0 fits.1 in
      record {
        given = is.given;
        greatest = (is.first.reaches, all_reached (best_of own answer answers) answers is.rest);
        preferred = (is.first.preferred, all_preferred (best_of own answer answers) answers is.rest);
      }
