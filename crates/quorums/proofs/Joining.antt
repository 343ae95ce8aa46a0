-- A list of different members and a test with a count are one thing, so what holds of tests holds of lists.
use Rattle.std.proofs.Common.{◌≡◌, ◌⊎◌, inl, inr, ℕ, zero, suc, ◌+◌, ◌<◌, Bool, true, false, cond, ◌||◌, nat_eq, List, [], ◌∷◌, length, refl, arith, ap, sym, ◌∙◌, true≢false}
use Rattle.std.proofs.lemmas.Bool.Decides.{nat_tests}
use Rattle.quorums.specs.Groups.{Has, count, AllDifferent, AreMembers, SharedInLists, is_in, members_of}
use Rattle.quorums.proofs.Meeting.{groups_meet}

head_or_tail : (b : Bool) (x m : ℕ) (xs : List ℕ) → nat_eq m x ≡ b → (b || is_in xs m) ≡ true → (is_in xs m ≡ true → Has xs m) → Has (x ∷ xs) m
head_or_tail true x m xs p q rest = inl (grind (arith, nat_tests))
head_or_tail false x m xs p q rest = inr (rest q)

pub in_to_has : (xs : List ℕ) (m : ℕ) → is_in xs m ≡ true → Has xs m
in_to_has [] m e = cc
in_to_has (x ∷ xs) m e = head_or_tail (nat_eq m x) x m xs refl e (in_to_has xs m)

either_true : (b c : Bool) → c ≡ true → (b || c) ≡ true
either_true true c q = refl
either_true false c q = q

pub has_to_in : (xs : List ℕ) (m : ℕ) → Has xs m → is_in xs m ≡ true
has_to_in [] m h = absurd h
has_to_in (x ∷ xs) m (inl e) = grind (arith, nat_tests)
has_to_in (x ∷ xs) m (inr h) = either_true (nat_eq m x) (is_in xs m) (has_to_in xs m h)

-- counts of tests that agree below n are equal
count_same : (n : ℕ) (g h : ℕ → Bool) → ((m : ℕ) → m < n → g m ≡ h m) → count g n ≡ count h n
count_same zero g h same = refl
count_same (suc n) g h same = let e : g n ≡ h n = same n (omega arith) in rw (e, count_same n g h (λ m lt. same m (omega arith)))

other : (m x : ℕ) (g : ℕ → Bool) → m < x → g m ≡ (nat_eq m x || g m)
other m x g lt = grind (arith, nat_tests)

-- the count of n + 1 members, where x is one more that passes: x is n itself, or stands below
count_last : (b c : Bool) (n x : ℕ) (g : ℕ → Bool) → x < suc n → g x ≡ false → nat_eq n x ≡ b → g n ≡ c
    → (x < n → count (λ m. nat_eq m x || g m) n ≡ suc (count g n))
    → cond (b || c) 1 0 + count (λ m. nat_eq m x || g m) n ≡ suc (cond c 1 0 + count g n)
count_last true c n x g lt new p q rest =
    let e : n ≡ x = grind (arith, nat_tests) in
    let f : c ≡ false = sym q ∙ (ap g e ∙ new) in
    let same : count g n ≡ count (λ m. nat_eq m x || g m) n = count_same n g (λ m. nat_eq m x || g m) (λ m low. other m x g (omega arith)) in
    rw (f, ← same) (omega arith)
count_last false c n x g lt new p q rest =
    let low : x < n = grind (arith, nat_tests) in
    let more : count (λ m. nat_eq m x || g m) n ≡ suc (count g n) = rest low in
    omega arith

-- one more member is counted
count_with : (n x : ℕ) (g : ℕ → Bool) → x < n → g x ≡ false → count (λ m. nat_eq m x || g m) n ≡ suc (count g n)
count_with zero x g lt new = absurd (omega arith)
count_with (suc n) x g lt new = count_last (nat_eq n x) (g n) n x g lt new refl refl (λ low. count_with n x g low new)

not_in : (b : Bool) (xs : List ℕ) (x : ℕ) → (Has xs x → ⊥) → is_in xs x ≡ b → b ≡ false
not_in true xs x none e = absurd (none (in_to_has xs x e))
not_in false xs x none e = refl

none_counted : (n : ℕ) → count (λ m. false) n ≡ 0
none_counted zero = refl
none_counted (suc n) = let e : count (λ m. false) n ≡ 0 = none_counted n in omega arith

pub count_list : (n : ℕ) (xs : List ℕ) → AreMembers n xs → count (is_in xs) n ≡ length xs
count_list n [] are = none_counted n
count_list n (x ∷ xs) are =
    let step : count (is_in (x ∷ xs)) n ≡ suc (count (is_in xs) n) = count_with n x (is_in xs) (are.below x (inl refl)) (not_in (is_in xs x) xs x are.different.0 refl) in
    step ∙ ap suc (count_list n xs (record { below = λ m h. are.below m (inr h); different = are.different.1 }))

length_last : (b : Bool) (n : ℕ) (g : ℕ → Bool) → length (members_of g n) ≡ count g n → length (cond b (n ∷ members_of g n) (members_of g n)) ≡ cond b 1 0 + count g n
length_last true n g e = omega arith
length_last false n g e = omega arith

pub length_members : (n : ℕ) (g : ℕ → Bool) → length (members_of g n) ≡ count g n
length_members zero g = refl
length_members (suc n) g = length_last (g n) n g (length_members n g)

wider : {n m : ℕ} (g : ℕ → Bool) → (m < n) × (g m ≡ true) → (m < suc n) × (g m ≡ true)
wider g r = let l : _ < _ = r.0 in (omega arith, r.1)

last_passes : (b : Bool) (n m : ℕ) (g : ℕ → Bool) → g n ≡ b → Has (cond b (n ∷ members_of g n) (members_of g n)) m
    → (Has (members_of g n) m → (m < n) × (g m ≡ true)) → (m < suc n) × (g m ≡ true)
last_passes true n m g p (inl e) rest = (omega arith, ap g e ∙ p)
last_passes true n m g p (inr h) rest = wider g (rest h)
last_passes false n m g p h rest = wider g (rest h)

pub member_passes : (n : ℕ) (g : ℕ → Bool) (m : ℕ) → Has (members_of g n) m → (m < n) × (g m ≡ true)
member_passes zero g m h = absurd h
member_passes (suc n) g m h = last_passes (g n) n m g refl h (member_passes n g m)

passes_last : (b : Bool) (n m : ℕ) (g : ℕ → Bool) → g n ≡ b → g m ≡ true → (m ≡ n) ⊎ (m < n) → (m < n → Has (members_of g n) m)
    → Has (cond b (n ∷ members_of g n) (members_of g n)) m
passes_last true n m g p e (inl s) rest = inl s
passes_last true n m g p e (inr l) rest = inr (rest l)
passes_last false n m g p e (inl s) rest = absurd (true≢false (sym e ∙ (ap g s ∙ p)))
passes_last false n m g p e (inr l) rest = rest l

pub passes_member : (n : ℕ) (g : ℕ → Bool) (m : ℕ) → m < n → g m ≡ true → Has (members_of g n) m
passes_member zero g m lt e = absurd (omega arith)
passes_member (suc n) g m lt e = passes_last (g n) n m g refl e (grind arith) (λ l. passes_member n g m l e)

not_twice : (n : ℕ) (g : ℕ → Bool) → Has (members_of g n) n → ⊥
not_twice n g h = let l : n < n = (member_passes n g n h).0 in omega arith

different_last : (b : Bool) (n : ℕ) (g : ℕ → Bool) → AllDifferent (members_of g n) → AllDifferent (cond b (n ∷ members_of g n) (members_of g n))
different_last true n g rest = (not_twice n g, rest)
different_last false n g rest = rest

pub members_different : (n : ℕ) (g : ℕ → Bool) → AllDifferent (members_of g n)
members_different zero g = tt
members_different (suc n) g = different_last (g n) n g (members_different n g)

pub lists_meet : (n : ℕ) (xs ys : List ℕ) → AreMembers n xs → AreMembers n ys → n < length xs + length ys → SharedInLists n xs ys
lists_meet n xs ys a b more =
    let p : count (is_in xs) n ≡ length xs = count_list n xs a in
    let q : count (is_in ys) n ≡ length ys = count_list n ys b in
    let s = groups_meet n (is_in xs) (is_in ys) (omega arith) in
    record { member = s.member; below = s.below; in_first = in_to_has xs s.member s.in_first; in_second = in_to_has ys s.member s.in_second }
