-- Sessions as clients in increasing order with what a function gives each of them.
use Rattle.std.proofs.Common.{arith, ◌≡◌, ◌<◌, ◌⊎◌, inl, inr, ℕ, ◌==◌, nat_lt, Bool, true, false, if◌then◌else◌, List, [], ◌∷◌, Option, Some, None, refl, sym, ap, ◌∙◌, subst}
use Rattle.std.specs.Prelude.{filter_map}
use Rattle.std.specs.List.{cons_option}
use Rattle.std.proofs.Math.Path.{ap₂}
use Rattle.mrp_types.specs.declared.id.ClientId.{ClientId}
use Rattle.plain_model.specs.Replicas.{Session, session_at, with_session}
use Rattle.plain_model.specs.Fold.{with_client}

abbrev pub sessions_by : (ClientId → Option Session) → List ClientId → List Session
sessions_by f clients = filter_map f clients

-- what the function gives is of the client
abbrev pub AreOwn : (ClientId → Option Session) → Type 0
AreOwn f = (k : ClientId) (s : Session) → f k ≡ Some s → s.client.0 ≡ k.0

abbrev pub AllAbove : ℕ → List ClientId → Type 0
AllAbove n [] = Unit {0}
AllAbove n (k ∷ clients) = (n < k.0) × AllAbove n clients

abbrev pub Increase : List ClientId → Type 0
Increase [] = Unit {0}
Increase (k ∷ clients) = AllAbove k.0 clients × Increase clients

abbrev pub HasClient : ℕ → List ClientId → Type 0
HasClient n [] = ⊥
HasClient n (k ∷ clients) = (k.0 ≡ n) ⊎ HasClient n clients

pub same_client : (a b : ClientId) → a.0 ≡ b.0 → a ≡ b
same_client a b same = let made : ℕ → ClientId = λ r. record { 0 = r } in ap made same

pub equal_is : (a b : ℕ) → (a == b) ≡ true → a ≡ b
equal_is a b e = grind arith

pub equal_of : (a b : ℕ) → a ≡ b → (a == b) ≡ true
equal_of a b e = grind arith

differs_of : (a b : ℕ) → a < b → (a == b) ≡ false
differs_of a b e = grind arith

not_equal : (a b : ℕ) → (a == b) ≡ false → a ≡ b → ⊥
not_equal a b e same = grind arith

none_some : (s : Session) → None ≡ Some s → ⊥
none_some s d = grind arith

-- ---- look-ups

pub session-by : (f : ClientId → Option Session) (clients : List ClientId) (k : ClientId) → AreOwn f → ((s : Session) → f k ≡ Some s → HasClient k.0 clients) →
    session_at k (sessions_by f clients) ≡ f k
session-by f [] k own has = by (f k) refl
  where
    by : (o : Option Session) → f k ≡ o → None ≡ f k
    by None e = sym e
    by (Some s) e = absurd (has s e)
session-by f (other ∷ clients) k own has = by (f other) refl (other.0 == k.0) refl (λ more. session-by f clients k own more)
  where
    there : (other.0 == k.0) ≡ false → (s : Session) → f k ≡ Some s → HasClient k.0 clients
    there e s h = elim (has s h) [
      | inl here ↦ absurd (not_equal other.0 k.0 e here)
      | inr later ↦ later
    ]

    nothing : f other ≡ None → (other.0 == k.0) ≡ true → (s : Session) → f k ≡ Some s → HasClient k.0 clients
    nothing g e s h = absurd (none_some s (sym g ∙ ap f (same_client other k (equal_is other.0 k.0 e)) ∙ h))

    by : (o : Option Session) → f other ≡ o → (t : Bool) → (other.0 == k.0) ≡ t → (((s : Session) → f k ≡ Some s → HasClient k.0 clients) → session_at k (sessions_by f clients) ≡ f k) →
        session_at k (cons_option o (sessions_by f clients)) ≡ f k
    by None g true e later = later (nothing g e)
    by None g false e later = later (there e)
    by (Some s) g true e later = ap (λ (t : Bool). if t then Some s else session_at k (sessions_by f clients)) (ap (λ (n : ℕ). n == k.0) (own other s g) ∙ e) ∙ sym g ∙ ap f (same_client other k (equal_is other.0 k.0 e))
    by (Some s) g false e later = ap (λ (t : Bool). if t then Some s else session_at k (sessions_by f clients)) (ap (λ (n : ℕ). n == k.0) (own other s g) ∙ e) ∙ later (there e)

-- ---- a session comes in

steps : (new s : Session) (ss : List Session) (t u : Bool) → nat_lt new.client.0 s.client.0 ≡ t → (new.client.0 == s.client.0) ≡ u →
    with_session new (s ∷ ss) ≡ (if t then new ∷ s ∷ ss else if u then new ∷ ss else s ∷ with_session new ss)
steps new s ss t u e g = ap₂ (λ (x y : Bool). if x then new ∷ s ∷ ss else if y then new ∷ ss else s ∷ with_session new ss) e g

less_is : (a b : ℕ) → a < b → nat_lt a b ≡ true
less_is a b h = grind arith

put-first : (f : ClientId → Option Session) (clients : List ClientId) (new : Session) → AreOwn f → AllAbove new.client.0 clients → with_session new (sessions_by f clients) ≡ new ∷ sessions_by f clients
put-first f [] new own above = refl
put-first f (other ∷ clients) new own above = by (f other) refl (put-first f clients new own above.1)
  where
    by : (o : Option Session) → f other ≡ o → with_session new (sessions_by f clients) ≡ new ∷ sessions_by f clients →
        with_session new (cons_option o (sessions_by f clients)) ≡ new ∷ cons_option o (sessions_by f clients)
    by None g later = later
    by (Some s) g later = steps new s (sessions_by f clients) true (new.client.0 == s.client.0) (less_is new.client.0 s.client.0 (subst (λ (n : ℕ). new.client.0 < n) (sym (own other s g)) above.0)) refl

same-sessions : (f g : ClientId → Option Session) (clients : List ClientId) (n : ℕ) → AllAbove n clients → ((k : ClientId) → (n == k.0) ≡ false → f k ≡ g k) → sessions_by f clients ≡ sessions_by g clients
same-sessions f g [] n above same = refl
same-sessions f g (other ∷ clients) n above same =
    ap₂ (λ (o : Option Session) (l : List Session). cons_option o l) (same other (differs_of n other.0 above.0)) (same-sessions f g clients n above.1 same)

pub with-session : (f h : ClientId → Option Session) (clients : List ClientId) (new : Session) → AreOwn f → Increase clients →
    ((k : ClientId) → h k ≡ (if new.client.0 == k.0 then Some new else f k)) → with_session new (sessions_by f clients) ≡ sessions_by h (with_client new.client clients)
with-session f h [] new own rise here =
    ap (λ (o : Option Session). cons_option o []) (sym (here new.client ∙ ap (λ (t : Bool). if t then Some new else f new.client) (equal_of new.client.0 new.client.0 refl)))
with-session f h (other ∷ clients) new own rise here =
    by (new.client.0 == other.0) refl (nat_lt new.client.0 other.0) refl (f other) refl (with-session f h clients new own rise.1 here)
  where
    agree : (k : ClientId) → (new.client.0 == k.0) ≡ false → f k ≡ h k
    agree k e = sym (here k ∙ ap (λ (t : Bool). if t then Some new else f k) e)

    not_less : (a b : ℕ) → a ≡ b → nat_lt a b ≡ false
    not_less a b e = grind arith

    above_all : (n m : ℕ) (ks : List ClientId) → n < m → AllAbove m ks → AllAbove n ks
    above_all n m [] less above = tt
    above_all n m (k ∷ ks) less above = (omega (arith, less, above.0), above_all n m ks less above.1)

    lt_is : (a b : ℕ) → nat_lt a b ≡ true → a < b
    lt_is a b e = grind arith

    by : (t : Bool) → (new.client.0 == other.0) ≡ t → (u : Bool) → nat_lt new.client.0 other.0 ≡ u → (o : Option Session) → f other ≡ o →
        with_session new (sessions_by f clients) ≡ sessions_by h (with_client new.client clients) →
        with_session new (cons_option o (sessions_by f clients)) ≡ sessions_by h (if t then other ∷ clients else if u then new.client ∷ other ∷ clients else other ∷ with_client new.client clients)
    by true e u i o g later = by_same o g
        ∙ ap₂ (λ (x : Option Session) (l : List Session). cons_option x l) (sym (here other ∙ ap (λ (t : Bool). if t then Some new else f other) e)) (same-sessions f h clients new.client.0 above agree)
      where
        above : AllAbove new.client.0 clients
        above = subst (λ (n : ℕ). AllAbove n clients) (sym (equal_is new.client.0 other.0 e)) rise.0

        by_same : (o : Option Session) → f other ≡ o → with_session new (cons_option o (sessions_by f clients)) ≡ new ∷ sessions_by f clients
        by_same None g = put-first f clients new own above
        by_same (Some s) g = steps new s (sessions_by f clients) false true (not_less new.client.0 s.client.0 (equal_is new.client.0 other.0 e ∙ sym (own other s g)))
            (equal_of new.client.0 s.client.0 (equal_is new.client.0 other.0 e ∙ sym (own other s g)))
    by false e true i o g later = ap (λ (x : Option Session). with_session new (cons_option x (sessions_by f clients))) (sym g)
        ∙ put-first f (other ∷ clients) new own above
        ∙ ap₂ (λ (x : Option Session) (l : List Session). cons_option x l) (sym (here new.client ∙ ap (λ (t : Bool). if t then Some new else f new.client) (equal_of new.client.0 new.client.0 refl)))
        (same-sessions f h (other ∷ clients) new.client.0 above agree)
      where
        above : AllAbove new.client.0 (other ∷ clients)
        above = (lt_is new.client.0 other.0 i, above_all new.client.0 other.0 clients (lt_is new.client.0 other.0 i) rise.0)
    by false e false i None g later = later ∙ ap (λ (x : Option Session). cons_option x (sessions_by h (with_client new.client clients))) (sym g ∙ agree other e)
    by false e false i (Some s) g later = steps new s (sessions_by f clients) false false (ap (λ (n : ℕ). nat_lt new.client.0 n) (own other s g) ∙ i) (ap (λ (n : ℕ). new.client.0 == n) (own other s g) ∙ e)
        ∙ ap (λ (l : List Session). s ∷ l) later
        ∙ ap (λ (x : Option Session). cons_option x (sessions_by h (with_client new.client clients))) (sym g ∙ agree other e)

-- ---- clients in order

above_with : (n : ℕ) (k : ClientId) (clients : List ClientId) → n < k.0 → AllAbove n clients → AllAbove n (with_client k clients)
above_with n k [] less above = (less, tt)
above_with n k (other ∷ clients) less above = by (k.0 == other.0) (nat_lt k.0 other.0) (above_with n k clients less above.1)
  where
    by : (t u : Bool) → AllAbove n (with_client k clients) → AllAbove n (if t then other ∷ clients else if u then k ∷ other ∷ clients else other ∷ with_client k clients)
    by true u later = above
    by false true later = (less, above)
    by false false later = (above.0, later)

pub increase-with : (k : ClientId) (clients : List ClientId) → Increase clients → Increase (with_client k clients)
increase-with k [] rise = (tt, tt)
increase-with k (other ∷ clients) rise = by (k.0 == other.0) refl (nat_lt k.0 other.0) refl (increase-with k clients rise.1)
  where
    above_all : (n m : ℕ) (ks : List ClientId) → n < m → AllAbove m ks → AllAbove n ks
    above_all n m [] less above = tt
    above_all n m (x ∷ ks) less above = (omega (arith, less, above.0), above_all n m ks less above.1)

    lt_is : (a b : ℕ) → nat_lt a b ≡ true → a < b
    lt_is a b e = grind arith

    more_is : (a b : ℕ) → (a == b) ≡ false → nat_lt a b ≡ false → b < a
    more_is a b e i = grind arith

    by : (t : Bool) → (k.0 == other.0) ≡ t → (u : Bool) → nat_lt k.0 other.0 ≡ u → Increase (with_client k clients) →
        Increase (if t then other ∷ clients else if u then k ∷ other ∷ clients else other ∷ with_client k clients)
    by true e u i later = rise
    by false e true i later = ((lt_is k.0 other.0 i, above_all k.0 other.0 clients (lt_is k.0 other.0 i) rise.0), rise)
    by false e false i later = (above_with other.0 k clients (more_is k.0 other.0 e i) rise.0, later)

pub client_with : (k : ClientId) (clients : List ClientId) → HasClient k.0 (with_client k clients)
client_with k [] = inl refl
client_with k (other ∷ clients) = by (k.0 == other.0) refl (nat_lt k.0 other.0) (client_with k clients)
  where
    by : (t : Bool) → (k.0 == other.0) ≡ t → (u : Bool) → HasClient k.0 (with_client k clients) → HasClient k.0 (if t then other ∷ clients else if u then k ∷ other ∷ clients else other ∷ with_client k clients)
    by true e u later = inl (sym (equal_is k.0 other.0 e))
    by false e true later = inl refl
    by false e false later = inr later

pub client_still : (n : ℕ) (k : ClientId) (clients : List ClientId) → HasClient n clients → HasClient n (with_client k clients)
client_still n k [] has = absurd has
client_still n k (other ∷ clients) has = by (k.0 == other.0) (nat_lt k.0 other.0) has (λ h. client_still n k clients h)
  where
    by : (t u : Bool) → HasClient n (other ∷ clients) → (HasClient n clients → HasClient n (with_client k clients)) → HasClient n (if t then other ∷ clients else if u then k ∷ other ∷ clients else other ∷ with_client k clients)
    by true u h later = h
    by false true h later = inr h
    by false false (inl here) later = inl here
    by false false (inr there) later = inr (later there)
