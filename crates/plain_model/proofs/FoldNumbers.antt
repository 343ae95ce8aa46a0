-- Numbers of clients: what was shown, and what counts.
use Rattle.std.proofs.Common.{arith, ◌≡◌, ℕ, ◌==◌, nat_le, Bool, true, false, ◌&&◌, ◌||◌, if◌then◌else◌, List, [], ◌∷◌, ◌++◌, Option, Some, None, refl, sym, ap, ◌∙◌, subst, append_assoc, append-nil, true≢false}
use Rattle.std.specs.Prelude.{find, unwrap_or}
use Rattle.mrp_types.specs.declared.id.ClientId.{ClientId}
use Rattle.mrp_types.specs.declared.value.Entry.{Entry}
use Rattle.mrp_config.specs.declared.tables.PartitionTable.{PartitionTable}
use Rattle.plain_model.specs.Fold.{Answered, command_for, concerns, has_shown, counts_after, first_if, counted_after, counted_entries, with_answer, answered_after, answered_of, last_of, is_of, clients_after, clients_of, with_client}
use Rattle.plain_model.proofs.FoldServices.{Kept}
use Rattle.plain_model.proofs.FoldSessions.{Increase, HasClient, increase-with, client_with, client_still, same_client, equal_is}

-- whether the last of a client's counted entries has this number or a greater one
abbrev pub at_least : ℕ → Option Answered → Bool
at_least n None = false
at_least n (Some a) = nat_le n a.entry.seq

pub record Follows (p : PartitionTable) (before : List Entry) (ans : List Answered) : Type 0 where
  pub kept : Kept ans
  pub rise : Increase (clients_of ans)
  pub has : (k : ClientId) (a : Answered) → last_of k ans None ≡ Some a → HasClient k.0 (clients_of ans)
  pub own : (k : ClientId) (a : Answered) → last_of k ans None ≡ Some a → a.entry.client.0 ≡ k.0
  pub greatest : (k : ClientId) (n : ℕ) → has_shown p k n before ≡ at_least n (last_of k ans None)
  pub last_found : (k : ClientId) (a : Answered) → last_of k ans None ≡ Some a → find (is_of k a.entry.seq) ans ≡ Some a
  pub none_found : (k : ClientId) (n : ℕ) → at_least n (last_of k ans None) ≡ false → find (is_of k n) ans ≡ None

pub last-snoc : (k : ClientId) (ans : List Answered) (a : Answered) (l : Option Answered) → last_of k (ans ++ a ∷ []) l ≡ (if a.entry.client.0 == k.0 then Some a else last_of k ans l)
last-snoc k [] a l = refl
last-snoc k (b ∷ ans) a l = last-snoc k ans a (if b.entry.client.0 == k.0 then Some b else l)

pub clients-snoc : (clients : List ClientId) (ans : List Answered) (a : Answered) → clients_after clients (ans ++ a ∷ []) ≡ with_client a.entry.client (clients_after clients ans)
clients-snoc clients [] a = refl
clients-snoc clients (b ∷ ans) a = clients-snoc (with_client b.entry.client clients) ans a

or-false : (x : Bool) → (x || false) ≡ x
or-false true = refl
or-false false = refl

or-chain : (x y z w : Bool) → w ≡ (y || z) → (x || w) ≡ ((x || y) || z)
or-chain true y z w e = refl
or-chain false y z w e = e

shown-snoc : (p : PartitionTable) (k : ClientId) (n : ℕ) (before : List Entry) (e : Entry) →
    has_shown p k n (before ++ e ∷ []) ≡ (has_shown p k n before || (concerns p e && ((e.client.0 == k.0) && nat_le n e.seq)))
shown-snoc p k n [] e = or-false (concerns p e && ((e.client.0 == k.0) && nat_le n e.seq))
shown-snoc p k n (b ∷ before) e = or-chain (concerns p b && ((b.client.0 == k.0) && nat_le n b.seq)) (has_shown p k n before)
    (concerns p e && ((e.client.0 == k.0) && nat_le n e.seq)) (has_shown p k n (before ++ e ∷ [])) (shown-snoc p k n before e)

pub find-none : (t : Answered → Bool) (xs : List Answered) (y : Answered) → find t xs ≡ None → find t (xs ++ y ∷ []) ≡ (if t y then Some y else None)
find-none t [] y h = refl
find-none t (x ∷ xs) y h = by (t x) h (λ g. find-none t xs y g)
  where
    none_some : Some x ≡ None → ⊥
    none_some d = grind arith

    by : (b : Bool) → (if b then Some x else find t xs) ≡ None → (find t xs ≡ None → find t (xs ++ y ∷ []) ≡ (if t y then Some y else None)) →
        (if b then Some x else find t (xs ++ y ∷ [])) ≡ (if t y then Some y else None)
    by true g later = absurd (none_some g)
    by false g later = later g

find-some : (t : Answered → Bool) (xs : List Answered) (y a : Answered) → find t xs ≡ Some a → find t (xs ++ y ∷ []) ≡ Some a
find-some t [] y a h = absurd (none_some h)
  where
    none_some : None ≡ Some a → ⊥
    none_some d = grind arith
find-some t (x ∷ xs) y a h = by (t x) h (λ g. find-some t xs y a g)
  where
    by : (b : Bool) → (if b then Some x else find t xs) ≡ Some a → (find t xs ≡ Some a → find t (xs ++ y ∷ []) ≡ Some a) → (if b then Some x else find t (xs ++ y ∷ [])) ≡ Some a
    by true g later = g
    by false g later = later g

pub some_same : (a b : Answered) → Some a ≡ Some b → a ≡ b
some_same a b h = ap (λ (o : Option Answered). unwrap_or o a) h

-- ---- counted entries, one by one

counted-snoc : (p : PartitionTable) (before es : List Entry) (e : Entry) → counted_after p before (es ++ e ∷ []) ≡ counted_after p before es ++ first_if (counts_after p (before ++ es) e) e []
counted-snoc p before [] e = ap (λ (b : List Entry). first_if (counts_after p b e) e []) (sym (append-nil before))
counted-snoc p before (x ∷ es) e = ap (λ (l : List Entry). first_if (counts_after p before x) x l) (counted-snoc p (before ++ x ∷ []) es e
    ∙ ap (λ (b : List Entry). counted_after p (before ++ x ∷ []) es ++ first_if (counts_after p b e) e []) (append_assoc before (x ∷ []) es))
    ∙ by (counts_after p before x) (counted_after p (before ++ x ∷ []) es) (first_if (counts_after p (before ++ x ∷ es) e) e [])
  where
    by : (t : Bool) (l m : List Entry) → first_if t x (l ++ m) ≡ first_if t x l ++ m
    by true l m = refl
    by false l m = refl

answered-append : (p : PartitionTable) (ans : List Answered) (xs ys : List Entry) → answered_after p ans (xs ++ ys) ≡ answered_after p (answered_after p ans xs) ys
answered-append p ans [] ys = refl
answered-append p ans (x ∷ xs) ys = answered-append p (with_answer p ans x (command_for p x)) xs ys

answered-snoc : (p : PartitionTable) (before : List Entry) (e : Entry) → answered_of p (before ++ e ∷ []) ≡ answered_after p (answered_of p before) (first_if (counts_after p before e) e [])
answered-snoc p before e = ap (λ (l : List Entry). answered_after p [] l) (counted-snoc p [] before e) ∙ answered-append p [] (counted_entries p before) (first_if (counts_after p before e) e [])

pub answered-counted : (p : PartitionTable) (before : List Entry) (e : Entry) → counts_after p before e ≡ true → answered_of p (before ++ e ∷ []) ≡ with_answer p (answered_of p before) e (command_for p e)
answered-counted p before e h = answered-snoc p before e ∙ ap (λ (t : Bool). answered_after p (answered_of p before) (first_if t e [])) h

pub answered-passed : (p : PartitionTable) (before : List Entry) (e : Entry) → counts_after p before e ≡ false → answered_of p (before ++ e ∷ []) ≡ answered_of p before
answered-passed p before e h = answered-snoc p before e ∙ ap (λ (t : Bool). answered_after p (answered_of p before) (first_if t e [])) h

-- ---- what follows with an entry

pub follows-passed : (p : PartitionTable) (before : List Entry) (ans : List Answered) (e : Entry) → Follows p before ans → concerns p e ≡ false → Follows p (before ++ e ∷ []) ans
follows-passed p before ans e f doesnt = record {
  kept = f.kept;
  rise = f.rise;
  has = f.has;
  own = f.own;
  last_found = f.last_found;
  none_found = f.none_found;
  greatest = λ k n. shown-snoc p k n before e ∙ ap (λ (t : Bool). has_shown p k n before || (t && ((e.client.0 == k.0) && nat_le n e.seq))) doesnt ∙ or-false (has_shown p k n before) ∙ f.greatest k n;
}

pub follows-repeat : (p : PartitionTable) (before : List Entry) (ans : List Answered) (e : Entry) → Follows p before ans → concerns p e ≡ true → has_shown p e.client e.seq before ≡ true → Follows p (before ++ e ∷ []) ans
follows-repeat p before ans e f does shown = record {
  kept = f.kept;
  rise = f.rise;
  has = f.has;
  own = f.own;
  last_found = f.last_found;
  none_found = f.none_found;
  greatest = λ k n. shown-snoc p k n before e ∙ ap (λ (t : Bool). has_shown p k n before || (t && ((e.client.0 == k.0) && nat_le n e.seq))) does
      ∙ by k n (e.client.0 == k.0) refl (last_of k ans None) refl (has_shown p k n before) (f.greatest k n);
}
  where
    numbers : (n s m : ℕ) → nat_le s m ≡ true → (nat_le n m || nat_le n s) ≡ nat_le n m
    numbers n s m h = grind arith

    by : (k : ClientId) (n : ℕ) (t : Bool) → (e.client.0 == k.0) ≡ t → (l : Option Answered) → last_of k ans None ≡ l → (x : Bool) → x ≡ at_least n l → (x || (true && (t && nat_le n e.seq))) ≡ at_least n l
    by k n true h None g x i = absurd (true≢false (sym shown ∙ f.greatest e.client e.seq ∙ ap (λ (c : ClientId). at_least e.seq (last_of c ans None)) (same_client e.client k (equal_is e.client.0 k.0 h)) ∙ ap (λ (o : Option Answered). at_least e.seq o) g))
    by k n true h (Some b) g x i = ap (λ (y : Bool). y || nat_le n e.seq) i ∙ numbers n e.seq b.entry.seq
        (sym (ap (λ (o : Option Answered). at_least e.seq o) g) ∙ ap (λ (c : ClientId). at_least e.seq (last_of c ans None)) (sym (same_client e.client k (equal_is e.client.0 k.0 h))) ∙ sym (f.greatest e.client e.seq) ∙ shown)
    by k n false h l g x i = or-false x ∙ i

pub follows-counted : (p : PartitionTable) (before : List Entry) (ans : List Answered) (a : Answered) → Follows p before ans → concerns p a.entry ≡ true → has_shown p a.entry.client a.entry.seq before ≡ false →
    Kept (ans ++ a ∷ []) → Follows p (before ++ a.entry ∷ []) (ans ++ a ∷ [])
follows-counted p before ans a f does new kept = record {
  kept = kept;
  rise = subst (λ (cs : List ClientId). Increase cs) (sym (clients-snoc [] ans a)) (increase-with a.entry.client (clients_of ans) f.rise);
  has = λ k b h. has_by k b (a.entry.client.0 == k.0) refl (sym (last-snoc k ans a None) ∙ h);
  own = λ k b h. own_by k b (a.entry.client.0 == k.0) refl (sym (last-snoc k ans a None) ∙ h);
  greatest = λ k n. shown-snoc p k n before a.entry ∙ ap (λ (t : Bool). has_shown p k n before || (t && ((a.entry.client.0 == k.0) && nat_le n a.entry.seq))) does
      ∙ by k n (a.entry.client.0 == k.0) refl (last_of k ans None) refl (has_shown p k n before) (f.greatest k n) ∙ ap (λ (o : Option Answered). at_least n o) (sym (last-snoc k ans a None));
  last_found = λ k b h. found_by k b (a.entry.client.0 == k.0) refl (sym (last-snoc k ans a None) ∙ h);
  none_found = λ k n h. none_by k n (a.entry.client.0 == k.0) refl (ap (λ (o : Option Answered). at_least n o) (sym (last-snoc k ans a None)) ∙ h);
}
  where
    is_new : (k : ClientId) → (a.entry.client.0 == k.0) ≡ true → at_least a.entry.seq (last_of k ans None) ≡ false
    is_new k h = ap (λ (c : ClientId). at_least a.entry.seq (last_of c ans None)) (sym (same_client a.entry.client k (equal_is a.entry.client.0 k.0 h))) ∙ sym (f.greatest a.entry.client a.entry.seq) ∙ new

    has_by : (k : ClientId) (b : Answered) (t : Bool) → (a.entry.client.0 == k.0) ≡ t → (if t then Some a else last_of k ans None) ≡ Some b → HasClient k.0 (clients_of (ans ++ a ∷ []))
    has_by k b true h g = subst (λ (cs : List ClientId). HasClient k.0 cs) (sym (clients-snoc [] ans a))
        (subst (λ (n : ℕ). HasClient n (with_client a.entry.client (clients_of ans))) (equal_is a.entry.client.0 k.0 h) (client_with a.entry.client (clients_of ans)))
    has_by k b false h g = subst (λ (cs : List ClientId). HasClient k.0 cs) (sym (clients-snoc [] ans a)) (client_still k.0 a.entry.client (clients_of ans) (f.has k b g))

    own_by : (k : ClientId) (b : Answered) (t : Bool) → (a.entry.client.0 == k.0) ≡ t → (if t then Some a else last_of k ans None) ≡ Some b → b.entry.client.0 ≡ k.0
    own_by k b true h g = ap (λ (x : Answered). x.entry.client.0) (sym (some_same a b g)) ∙ equal_is a.entry.client.0 k.0 h
    own_by k b false h g = f.own k b g

    numbers : (n s m : ℕ) → nat_le s m ≡ false → (nat_le n m || nat_le n s) ≡ nat_le n s
    numbers n s m h = grind arith

    by : (k : ClientId) (n : ℕ) (t : Bool) → (a.entry.client.0 == k.0) ≡ t → (l : Option Answered) → last_of k ans None ≡ l → (x : Bool) → x ≡ at_least n (last_of k ans None) →
        (x || (true && (t && nat_le n a.entry.seq))) ≡ at_least n (if t then Some a else last_of k ans None)
    by k n true h None g x i = ap (λ (y : Bool). y || nat_le n a.entry.seq) (i ∙ ap (λ (o : Option Answered). at_least n o) g)
    by k n true h (Some b) g x i = ap (λ (y : Bool). y || nat_le n a.entry.seq) (i ∙ ap (λ (o : Option Answered). at_least n o) g)
        ∙ numbers n a.entry.seq b.entry.seq (sym (ap (λ (o : Option Answered). at_least a.entry.seq o) g) ∙ is_new k h)
    by k n false h l g x i = or-false x ∙ i

    hit : (k : ClientId) → (a.entry.client.0 == k.0) ≡ true → is_of k a.entry.seq a ≡ true
    hit k h = ap (λ (t : Bool). t && (a.entry.seq == a.entry.seq)) h ∙ itself a.entry.seq
      where
        itself : (n : ℕ) → (n == n) ≡ true
        itself n = grind arith

    found_by : (k : ClientId) (b : Answered) (t : Bool) → (a.entry.client.0 == k.0) ≡ t → (if t then Some a else last_of k ans None) ≡ Some b → find (is_of k b.entry.seq) (ans ++ a ∷ []) ≡ Some b
    found_by k b true h g = subst (λ (x : Answered). find (is_of k x.entry.seq) (ans ++ a ∷ []) ≡ Some x) (some_same a b g)
        (find-none (is_of k a.entry.seq) ans a (f.none_found k a.entry.seq (is_new k h)) ∙ ap (λ (t : Bool). if t then Some a else None) (hit k h))
    found_by k b false h g = find-some (is_of k b.entry.seq) ans a b (f.last_found k b g)

    miss : (k : ClientId) (n : ℕ) → nat_le n a.entry.seq ≡ false → (a.entry.client.0 == k.0) ≡ true → is_of k n a ≡ false
    miss k n less h = ap (λ (t : Bool). t && (a.entry.seq == n)) h ∙ differs n a.entry.seq less
      where
        differs : (n m : ℕ) → nat_le n m ≡ false → (m == n) ≡ false
        differs n m e = grind arith

    older : (n s m : ℕ) → nat_le n s ≡ false → nat_le s m ≡ false → nat_le n m ≡ false
    older n s m x y = grind arith

    older_last : (n : ℕ) (l : Option Answered) → nat_le n a.entry.seq ≡ false → at_least a.entry.seq l ≡ false → at_least n l ≡ false
    older_last n None x y = refl
    older_last n (Some b) x y = older n a.entry.seq b.entry.seq x y

    none_by : (k : ClientId) (n : ℕ) (t : Bool) → (a.entry.client.0 == k.0) ≡ t → at_least n (if t then Some a else last_of k ans None) ≡ false → find (is_of k n) (ans ++ a ∷ []) ≡ None
    none_by k n true h g = find-none (is_of k n) ans a (f.none_found k n (older_last n (last_of k ans None) g (is_new k h))) ∙ ap (λ (t : Bool). if t then Some a else None) (miss k n g h)
    none_by k n false h g = find-none (is_of k n) ans a (f.none_found k n g) ∙ ap (λ (t : Bool). if t && (a.entry.seq == n) then Some a else None) h
