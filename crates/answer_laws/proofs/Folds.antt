-- The reply to the first entry of a client's number is the same in every list of entries that goes on from it.
use Rattle.std.proofs.Common.{arith, ◌≡◌, ℕ, ◌+◌, ◌==◌, nat_le, Bool, true, false, not, ◌&&◌, ◌||◌, if◌then◌else◌, List, [], ◌∷◌, ◌++◌, Option, Some, None, refl, sym, ap, ◌∙◌, append_assoc, append-nil, true≢false}
use Rattle.std.specs.Prelude.{find, option_map}
use Rattle.std.specs.List.{AllByRecursion}
use Rattle.mrp_types.specs.declared.id.ClientId.{ClientId}
use Rattle.mrp_types.specs.declared.value.Entry.{Entry}
use Rattle.command_codec.specs.declared.command.Command.{Command}
use Rattle.command_codec.specs.declared.reply.Reply.{Reply}
use Rattle.mrp_config.specs.declared.tables.PartitionTable.{PartitionTable}
use Rattle.plain_model.specs.Fold.{Answered, command_for, concerns, has_shown, counts_after, first_if, counted_after, counted_entries, with_answer, reply_after, answered_after, answered_of, is_of, reply_in, reply_to, is_asked}
use Rattle.plain_model.proofs.FoldSessions.{same_client}
use Rattle.plain_model.proofs.TupleOrder.{split_and, same_number}
use Rattle.plain_model.proofs.FoldNumbers.{answered-passed}

-- ---- what counts, list after list

pub counted-append : (p : PartitionTable) (before xs ys : List Entry) → counted_after p before (xs ++ ys) ≡ counted_after p before xs ++ counted_after p (before ++ xs) ys
counted-append p before [] ys = ap (λ (b : List Entry). counted_after p b ys) (sym (append-nil before))
counted-append p before (x ∷ xs) ys =
    ap (λ (l : List Entry). first_if (counts_after p before x) x l) (counted-append p (before ++ x ∷ []) xs ys
    ∙ ap (λ (b : List Entry). counted_after p (before ++ x ∷ []) xs ++ counted_after p b ys) (append_assoc before (x ∷ []) xs))
    ∙ by (counts_after p before x) (counted_after p (before ++ x ∷ []) xs) (counted_after p (before ++ x ∷ xs) ys)
  where
    by : (t : Bool) (l m : List Entry) → first_if t x (l ++ m) ≡ first_if t x l ++ m
    by true l m = refl
    by false l m = refl

pub answered-append : (p : PartitionTable) (ans : List Answered) (xs ys : List Entry) → answered_after p ans (xs ++ ys) ≡ answered_after p (answered_after p ans xs) ys
answered-append p ans [] ys = refl
answered-append p ans (x ∷ xs) ys = answered-append p (with_answer p ans x (command_for p x)) xs ys

-- what is answered later stands behind, and is of the later entries
pub record Grown (Is : Entry → Type 0) (ans whole : List Answered) : Type 0 where
  pub more : List Answered
  pub parts : whole ≡ ans ++ more
  pub each : AllByRecursion (λ (a : Answered). Is a.entry) more

pub answered-grows : (p : PartitionTable) (Is : Entry → Type 0) (ans : List Answered) (xs : List Entry) → AllByRecursion Is xs → Grown Is ans (answered_after p ans xs)
answered-grows p Is ans [] each = record { more = []; parts = sym (append-nil ans); each = tt }
answered-grows p Is ans (x ∷ xs) each = by (command_for p x) (λ grown. answered-grows p Is grown xs each.1)
  where
    by : (o : Option Command) → ((grown : List Answered) → Grown Is grown (answered_after p grown xs)) → Grown Is ans (answered_after p (with_answer p ans x o) xs)
    by None later = later ans
    by (Some command) later =
        let a : Answered = record { entry = x; command = command; reply = reply_after p ans x command } in
        let rest : Grown Is (ans ++ a ∷ []) (answered_after p (ans ++ a ∷ []) xs) = later (ans ++ a ∷ []) in
        record { more = a ∷ rest.more; parts = rest.parts ∙ append_assoc ans (a ∷ []) rest.more; each = (each.0, rest.each) }

-- ---- found

none_is : {X : Type 0} (x : X) → None ≡ Some x → ⊥
none_is x d = grind arith

find-front : (t : Answered → Bool) (xs ys : List Answered) → AllByRecursion (λ (a : Answered). t a ≡ false) ys → find t (xs ++ ys) ≡ find t xs
find-front t [] [] none = refl
find-front t [] (y ∷ ys) none = by (t y) none.0 (find-front t [] ys none.1)
  where
    by : (b : Bool) → b ≡ false → find t ys ≡ None → (if b then Some y else find t ys) ≡ None
    by true e later = absurd (true≢false e)
    by false e later = later
find-front t (x ∷ xs) ys none = ap (λ (o : Option Answered). if t x then Some x else o) (find-front t xs ys none)

find-nothing : (t : Answered → Bool) (xs : List Answered) → AllByRecursion (λ (a : Answered). t a ≡ false) xs → find t xs ≡ None
find-nothing t xs none = find-front t [] xs none

-- ---- what was shown

or-true : (x : Bool) → (x || true) ≡ true
or-true true = refl
or-true false = refl

shown-more : (p : PartitionTable) (k : ClientId) (n : ℕ) (xs ys : List Entry) → has_shown p k n xs ≡ true → has_shown p k n (xs ++ ys) ≡ true
shown-more p k n [] ys h = absurd (true≢false (sym h))
shown-more p k n (x ∷ xs) ys h = by (concerns p x && ((x.client.0 == k.0) && nat_le n x.seq)) h (λ g. shown-more p k n xs ys g)
  where
    by : (t : Bool) → (t || has_shown p k n xs) ≡ true → (has_shown p k n xs ≡ true → has_shown p k n (xs ++ ys) ≡ true) → (t || has_shown p k n (xs ++ ys)) ≡ true
    by true g later = refl
    by false g later = later g

shown-last : (p : PartitionTable) (k : ClientId) (n : ℕ) (xs : List Entry) (e : Entry) → concerns p e ≡ true → is_asked k n e ≡ true → has_shown p k n (xs ++ e ∷ []) ≡ true
shown-last p k n [] e does is =
    ap (λ (t : Bool). (t && ((e.client.0 == k.0) && nat_le n e.seq)) || false) does
    ∙ by (e.client.0 == k.0) (nat_le n e.seq) s.0 (at_least e.seq n s.1)
  where
    s : ((e.client.0 == k.0) ≡ true) × ((e.seq == n) ≡ true)
    s = split_and (e.client.0 == k.0) (e.seq == n) is

    at_least : (a b : ℕ) → (a == b) ≡ true → nat_le b a ≡ true
    at_least a b h = grind arith

    by : (a b : Bool) → a ≡ true → b ≡ true → ((true && (a && b)) || false) ≡ true
    by true true g h = refl
    by true false g h = absurd (true≢false (sym h))
    by false b g h = absurd (true≢false (sym g))
shown-last p k n (x ∷ xs) e does is =
    ap (λ (t : Bool). (concerns p x && ((x.client.0 == k.0) && nat_le n x.seq)) || t) (shown-last p k n xs e does is) ∙ or-true (concerns p x && ((x.client.0 == k.0) && nat_le n x.seq))

-- a greater number was shown only where this one was
shown-less : (p : PartitionTable) (k : ClientId) (n : ℕ) (xs : List Entry) → has_shown p k n xs ≡ false → has_shown p k (n + 1) xs ≡ false
shown-less p k n [] h = refl
shown-less p k n (x ∷ xs) h = by (concerns p x) (x.client.0 == k.0) (nat_le n x.seq) (nat_le (n + 1) x.seq) (less n x.seq) h (λ g. shown-less p k n xs g)
  where
    less : (n m : ℕ) → nat_le n m ≡ false → nat_le (n + 1) m ≡ false
    less n m e = grind arith

    by : (a b d e : Bool) → (d ≡ false → e ≡ false) → ((a && (b && d)) || has_shown p k n xs) ≡ false → (has_shown p k n xs ≡ false → has_shown p k (n + 1) xs ≡ false)
        → ((a && (b && e)) || has_shown p k (n + 1) xs) ≡ false
    by true true true e f g later = absurd (true≢false g)
    by true true false true f g later = absurd (true≢false (f refl))
    by true true false false f g later = later g
    by true false d e f g later = later g
    by false b d e f g later = later g

-- once a number was shown no entry of it counts
later-uncounted : (p : PartitionTable) (k : ClientId) (n : ℕ) (before xs : List Entry) → has_shown p k n before ≡ true → AllByRecursion (λ (e : Entry). is_asked k n e ≡ false) (counted_after p before xs)
later-uncounted p k n before [] shown = tt
later-uncounted p k n before (x ∷ xs) shown = by (counts_after p before x) refl (later-uncounted p k n (before ++ x ∷ []) xs (shown-more p k n before (x ∷ []) shown))
  where
    not-shown : (a b : Bool) → (a && not b) ≡ true → b ≡ false
    not-shown true true h = absurd (true≢false (sym h))
    not-shown true false h = refl
    not-shown false b h = absurd (true≢false (sym h))

    other : counts_after p before x ≡ true → (t : Bool) → is_asked k n x ≡ t → t ≡ false
    other counts false e = refl
    other counts true e =
        let s = split_and (x.client.0 == k.0) (x.seq == n) e in
        let own : has_shown p x.client x.seq before ≡ has_shown p k n before =
        ap (λ (c : ClientId). has_shown p c x.seq before) (same_client x.client k (same_number x.client.0 k.0 s.0)) ∙ ap (λ (m : ℕ). has_shown p k m before) (same_number x.seq n s.1) in
        absurd (true≢false (sym shown ∙ sym own ∙ not-shown (concerns p x) (has_shown p x.client x.seq before) counts))

    by : (t : Bool) → counts_after p before x ≡ t → AllByRecursion (λ (e : Entry). is_asked k n e ≡ false) (counted_after p (before ++ x ∷ []) xs) →
        AllByRecursion (λ (e : Entry). is_asked k n e ≡ false) (first_if t x (counted_after p (before ++ x ∷ []) xs))
    by true e later = (other e (is_asked k n x) refl, later)
    by false e later = later

-- counted entries are some of the entries
counted-are : (p : PartitionTable) (Is : Entry → Type 0) (before xs : List Entry) → AllByRecursion Is xs → AllByRecursion Is (counted_after p before xs)
counted-are p Is before [] each = tt
counted-are p Is before (x ∷ xs) each = by (counts_after p before x) (counted-are p Is (before ++ x ∷ []) xs each.1)
  where
    by : (t : Bool) → AllByRecursion Is (counted_after p (before ++ x ∷ []) xs) → AllByRecursion Is (first_if t x (counted_after p (before ++ x ∷ []) xs))
    by true later = (each.0, later)
    by false later = later

-- where no entry is of the number no reply is
pub nothing-replied : (p : PartitionTable) (k : ClientId) (n : ℕ) (xs : List Entry) → AllByRecursion (λ (e : Entry). is_asked k n e ≡ false) xs → reply_in k n (answered_of p xs) ≡ None
nothing-replied p k n xs none =
    let g = answered-grows p (λ (e : Entry). is_asked k n e ≡ false) [] (counted_entries p xs) (counted-are p (λ (e : Entry). is_asked k n e ≡ false) [] xs none) in
    ap (λ (l : List Answered). reply_in k n l) g.parts ∙ ap (λ (o : Option Answered). option_map (λ (a : Answered). a.reply) o) (find-nothing (is_of k n) g.more g.each)

-- ---- the first entry

module _ (p : PartitionTable) (k : ClientId) (n : ℕ) (before after : List Entry) (e : Entry) (reply : Reply) (is : is_asked k n e ≡ true)
    (none : AllByRecursion (λ (x : Entry). is_asked k n x ≡ false) before) (does : concerns p e ≡ true) (found : reply_in k n (answered_of p (before ++ e ∷ after)) ≡ Some reply) where
  number : ((e.client.0 == k.0) ≡ true) × ((e.seq == n) ≡ true)
  number = split_and (e.client.0 == k.0) (e.seq == n) is

  later : List Entry
  later = counted_after p (before ++ e ∷ []) after

  -- what is found is found up to the entry
  found_there : reply_in k n (answered_of p (before ++ e ∷ [])) ≡ Some reply
  found_there =
      let g = answered-grows p (λ (x : Entry). is_asked k n x ≡ false) (answered_of p (before ++ e ∷ [])) (counted_after p (before ++ e ∷ []) after)
      (later-uncounted p k n (before ++ e ∷ []) after (shown-last p k n before e does is)) in
      let whole : answered_of p (before ++ e ∷ after) ≡ answered_of p (before ++ e ∷ []) ++ g.more =
      ap (λ (l : List Entry). answered_of p l) (sym (append_assoc before (e ∷ []) after))
      ∙ ap (λ (l : List Entry). answered_after p [] l) (counted-append p [] (before ++ e ∷ []) after)
      ∙ answered-append p [] (counted_entries p (before ++ e ∷ [])) (counted_after p (before ++ e ∷ []) after)
      ∙ g.parts in
      ap (λ (o : Option Answered). option_map (λ (a : Answered). a.reply) o) (sym (find-front (is_of k n) (answered_of p (before ++ e ∷ [])) g.more g.each))
      ∙ ap (λ (l : List Answered). reply_in k n l) (sym whole) ∙ found

  -- so the entry counts
  it_counts : (t : Bool) → counts_after p before e ≡ t → t ≡ true
  it_counts true h = refl
  it_counts false h = absurd (none_is reply (sym (nothing-replied p k n before none) ∙ ap (λ (l : List Answered). reply_in k n l) (sym (answered-passed p before e h)) ∙ found_there))

  and_not : (a b : Bool) → (a && not b) ≡ true → b ≡ false
  and_not true true h = absurd (true≢false (sym h))
  and_not true false h = refl
  and_not false b h = absurd (true≢false (sym h))

  own_new : has_shown p e.client e.seq before ≡ false
  own_new = and_not (concerns p e) (has_shown p e.client e.seq before) (it_counts (counts_after p before e) refl)

  pub not_shown : has_shown p k n before ≡ false
  not_shown =
      ap (λ (m : ℕ). has_shown p k m before) (sym (same_number e.seq n number.1))
      ∙ ap (λ (c : ClientId). has_shown p c e.seq before) (sym (same_client e.client k (same_number e.client.0 k.0 number.0))) ∙ own_new

  both : (a b : Bool) → a ≡ true → b ≡ false → (a && not b) ≡ true
  both true true g h = absurd (true≢false h)
  both true false g h = refl
  both false b g h = absurd (true≢false (sym g))

  pub reply_there : reply_to p before e ≡ Some reply
  unfolding reply_to
  reply_there =
      ap (λ (t : Bool). if t then reply_in e.client e.seq (answered_of p (before ++ e ∷ [])) else None)
      (both (concerns p e) (has_shown p e.client (e.seq + 1) before) does (shown-less p e.client e.seq before own_new))
      ∙ ap (λ (c : ClientId). reply_in c e.seq (answered_of p (before ++ e ∷ []))) (same_client e.client k (same_number e.client.0 k.0 number.0))
      ∙ ap (λ (m : ℕ). reply_in k m (answered_of p (before ++ e ∷ []))) (same_number e.seq n number.1) ∙ found_there
