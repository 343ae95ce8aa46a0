-- A list of entries by number, in which one was put.
use Rattle.std.proofs.Common.{arith, ◌≡◌, inl, inr, ℕ, ◌==◌, nat_lt, Bool, true, false, cond, List, [], ◌∷◌, Option, Some, None, refl, sym, ap, ◌∙◌, Ordering, Less, Equal, Greater}
use Rattle.std.specs.Ordering.{nat_cmp, match_ordering, is_eq}
use Rattle.std.specs.BTreeMap.{is_at, insert_entry}
use Rattle.std.specs.Map.{lookup}
use Rattle.std.proofs.lemmas.Bool.{ltb-true}
use Rattle.std.proofs.lemmas.Bool.Decides.{eqb_tells}

-- two numbers compare as equal just where they are
eq_is : (a b : ℕ) → is_eq (nat_cmp a b) ≡ (a == b)
eq_is a b = by (nat_lt a b) refl
  where
    by : (t : Bool) → nat_lt a b ≡ t → is_eq (cond t Less (cond (a == b) Equal Greater)) ≡ (a == b)
    by true less = elim (eqb_tells a b) [
      | inl alike ↦ absurd (let low = ltb-true a b less in let same = alike.1 in omega arith)
      | inr other ↦ sym other.0
    ]
    by false more = other (a == b)
      where
        other : (t : Bool) → is_eq (cond t Equal Greater) ≡ t
        other true = refl
        other false = refl

by_order : (o : Ordering) (a b : ℕ) → nat_cmp a b ≡ o → (a == b) ≡ is_eq o
by_order o a b e = sym (eq_is a b) ∙ ap is_eq e

abbrev by_number : {K : Type 0} → (K → ℕ) → K → K → Ordering
by_number number a b = nat_cmp (number a) (number b)

module _ {K X : Type 0} (number : K → ℕ) where
  -- what is found for a key once this entry was put
  pub put_at : (es : List (K × X)) (id : K) (v : X) (q : K) → lookup (is_at (by_number number q)) (insert_entry (by_number number) es id v) ≡ cond (number q == number id) (Some v) (lookup (is_at (by_number number q)) es)
  put_at [] id v q = ap (λ b. cond b (Some v) None) (eq_is (number q) (number id))
  put_at (e ∷ es) id v q = by (by_number number id e.0) refl (put_at es id v q)
    where
      rest : List (K × X)
      rest = insert_entry (by_number number) es id v

      found : List (K × X) → Option X
      found l = lookup (is_at (by_number number q)) l

      by : (o : Ordering) → by_number number id e.0 ≡ o → lookup (is_at (by_number number q)) (insert_entry (by_number number) es id v) ≡ cond (number q == number id) (Some v) (lookup (is_at (by_number number q)) es)
          → lookup (is_at (by_number number q)) (match_ordering o ((id, v) ∷ e ∷ es) ((e.0, v) ∷ es) (e ∷ insert_entry (by_number number) es id v))
          ≡ cond (number q == number id) (Some v) (cond (is_eq (by_number number q e.0)) (Some e.1) (lookup (is_at (by_number number q)) es))
      by Less is later = ap (λ b. cond b (Some v) (cond (is_eq (by_number number q e.0)) (Some e.1) (lookup (is_at (by_number number q)) es))) (eq_is (number q) (number id))
      by Equal is later = elim (eqb_tells (number q) (number id)) [
        | inl alike ↦
            let here : is_eq (by_number number q e.0) ≡ true = eq_is (number q) (number e.0) ∙ ap (λ n. n == number e.0) alike.1 ∙ by_order Equal (number id) (number e.0) is in
            ap (λ b. cond b (Some v) (lookup (is_at (by_number number q)) es)) here ∙ sym (ap (λ b. cond b (Some v) (cond (is_eq (by_number number q e.0)) (Some e.1) (lookup (is_at (by_number number q)) es))) alike.0)
        | inr other ↦
            let same : (number id == number e.0) ≡ true = by_order Equal (number id) (number e.0) is in
            let there : is_eq (by_number number q e.0) ≡ false = eq_is (number q) (number e.0) ∙ not_there other.1 same in
            ap (λ b. cond b (Some v) (lookup (is_at (by_number number q)) es)) there
            ∙ sym (ap (λ b. cond b (Some v) (cond (is_eq (by_number number q e.0)) (Some e.1) (lookup (is_at (by_number number q)) es))) other.0 ∙ ap (λ b. cond b (Some e.1) (lookup (is_at (by_number number q)) es)) there)
      ]
        where
          not_there : (number q ≡ number id → ⊥) → (number id == number e.0) ≡ true → (number q == number e.0) ≡ false
          not_there apart same = elim (eqb_tells (number q) (number e.0)) [
            | inl alike ↦ elim (eqb_tells (number id) (number e.0)) [ inl here ↦ absurd (apart (alike.1 ∙ sym here.1)) | inr differs ↦ absurd (let wrong : true ≡ false = sym same ∙ differs.0 in cc) ]
            | inr other ↦ other.0
          ]
      by Greater is later = elim (eqb_tells (number q) (number id)) [
        | inl alike ↦
            let there : is_eq (by_number number q e.0) ≡ false = eq_is (number q) (number e.0) ∙ ap (λ n. n == number e.0) alike.1 ∙ by_order Greater (number id) (number e.0) is in
            ap (λ b. cond b (Some e.1) (lookup (is_at (by_number number q)) (insert_entry (by_number number) es id v))) there ∙ later ∙ ap (λ b. cond b (Some v) (lookup (is_at (by_number number q)) es)) alike.0
            ∙ sym (ap (λ b. cond b (Some v) (cond (is_eq (by_number number q e.0)) (Some e.1) (lookup (is_at (by_number number q)) es))) alike.0)
        | inr other ↦
            ap (λ (o : Option X). cond (is_eq (by_number number q e.0)) (Some e.1) o) (later ∙ ap (λ b. cond b (Some v) (lookup (is_at (by_number number q)) es)) other.0)
            ∙ sym (ap (λ b. cond b (Some v) (cond (is_eq (by_number number q e.0)) (Some e.1) (lookup (is_at (by_number number q)) es))) other.0)
      ]

-- a comparison of two numbers is that of the second with the first
pub eq_turned : (a b : ℕ) → is_eq (nat_cmp a b) ≡ (b == a)
eq_turned a b = eq_is a b ∙ turned
  where
    turned : (a == b) ≡ (b == a)
    turned = elim (eqb_tells a b) [
      | inl alike ↦ alike.0 ∙ sym (elim (eqb_tells b a) [ inl here ↦ here.0 | inr differs ↦ absurd (differs.1 (sym alike.1)) ])
      | inr other ↦ other.0 ∙ sym (elim (eqb_tells b a) [ inl here ↦ absurd (other.1 (sym here.1)) | inr differs ↦ differs.0 ])
    ]
