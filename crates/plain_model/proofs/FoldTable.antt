-- Tables as keys in increasing order with what a function gives each of them.
use Rattle.std.proofs.Common.{arith, ◌≡◌, ◌⊎◌, inl, inr, ℕ, Bool, true, false, not, if◌then◌else◌, List, [], ◌∷◌, Option, Some, None, refl, sym, ap, ◌∙◌, subst, true≢false}
use Rattle.std.specs.Prelude.{filter_map, option_map, bytes_eq}
use Rattle.std.specs.List.{cons_option}
use Rattle.std.specs.Ordering.{nat_cmp, is_lt, is_eq, ordering_reverse}
use Rattle.std.specs.Cmp.Lexicographic.{slice_cmp}
use Rattle.std.specs.declared.cmp.Ordering.{Ordering}
use Rattle.std.specs.declared.cmp.Ordering.TheVariants.{Less, Equal, Greater}
use Rattle.std.proofs.Math.Path.{ap₂}
use Rattle.std.proofs.lemmas.Cmp.{nat_list_cmp_total}
use Rattle.std.proofs.lemmas.Map.Text.{is_eq-slice_cmp}
use Rattle.std.proofs.lemmas.Slice.Eq.{bytes_eq-Decides}
use Rattle.command_codec.specs.declared.reply.TableEntry.{TableEntry}
use Rattle.mrp_config.specs.Routing.{is_before}
use Rattle.plain_model.specs.Replicas.{value_of, without, put_in, with_entry}
use Rattle.plain_model.specs.Fold.{with_key}

abbrev pub entry_by : (List ℕ → Option (List ℕ)) → List ℕ → Option TableEntry
entry_by f key = option_map (λ (value : List ℕ). record { key = key; value = value }) (f key)

abbrev pub table_by : (List ℕ → Option (List ℕ)) → List (List ℕ) → List TableEntry
table_by f keys = filter_map (λ (key : List ℕ). entry_by f key) keys

-- ---- keys

pub same_bytes : (a b : List ℕ) → bytes_eq a b ≡ true → a ≡ b
same_bytes a b e = (bytes_eq-Decides a b).0 e

pub same_itself : (a : List ℕ) → bytes_eq a a ≡ true
same_itself a = (bytes_eq-Decides a a).1 refl

pub other_turned : (a b : List ℕ) → bytes_eq a b ≡ false → bytes_eq b a ≡ false
other_turned a b e = by (bytes_eq b a) refl
  where
    by : (t : Bool) → bytes_eq b a ≡ t → t ≡ false
    by false h = refl
    by true h = absurd (true≢false (sym (subst (λ (x : List ℕ). bytes_eq a x ≡ true) (sym (same_bytes b a h)) (same_itself a)) ∙ e))

is_less : (o : Ordering) → is_lt o ≡ true → o ≡ Less
is_less Less h = refl
is_less Equal h = absurd (true≢false (sym h))
is_less Greater h = absurd (true≢false (sym h))

pub before_chain : (a b c : List ℕ) → is_before a b ≡ true → is_before b c ≡ true → is_before a c ≡ true
before_chain a b c first second =
    ap is_lt (nat_list_cmp_total.trans a b c (is_less (slice_cmp nat_cmp a b) first) (is_less (slice_cmp nat_cmp b c) second))

-- each key comes after the one before it, and the first after the given one
abbrev pub RiseAfter : List ℕ → List (List ℕ) → Type 0
RiseAfter before [] = Unit {0}
RiseAfter before (key ∷ keys) = (is_before before key ≡ true) × RiseAfter key keys

abbrev pub Rise : List (List ℕ) → Type 0
Rise [] = Unit {0}
Rise (key ∷ keys) = RiseAfter key keys

-- ---- look-ups

abbrev pub Has : List ℕ → List (List ℕ) → Type 0
Has key [] = ⊥
Has key (other ∷ keys) = (bytes_eq other key ≡ true) ⊎ Has key keys

-- what is found under a key that stands among the keys, where the function gives something
pub value-by : (f : List ℕ → Option (List ℕ)) (keys : List (List ℕ)) (key : List ℕ) → ((v : List ℕ) → f key ≡ Some v → Has key keys) → value_of key (table_by f keys) ≡ f key
value-by f [] key has = by (f key) refl
  where
    by : (o : Option (List ℕ)) → f key ≡ o → None ≡ f key
    by None e = sym e
    by (Some v) e = absurd (has v e)
value-by f (other ∷ keys) key has = by (f other) refl (bytes_eq other key) refl (λ more. value-by f keys key more)
  where
    not_here : bytes_eq other key ≡ false → (v : List ℕ) → f key ≡ Some v → Has key keys
    not_here e v h = elim (has v h) [
      | inl here ↦ absurd (true≢false (sym here ∙ e))
      | inr there ↦ there
    ]

    nothing_there : f other ≡ None → bytes_eq other key ≡ true → (v : List ℕ) → f key ≡ Some v → Has key keys
    nothing_there g e v h = absurd (none_some v (sym g ∙ ap f (same_bytes other key e) ∙ h))
      where
        none_some : (w : List ℕ) → None ≡ Some w → ⊥
        none_some w d = grind arith

    by : (o : Option (List ℕ)) → f other ≡ o → (t : Bool) → bytes_eq other key ≡ t → (((v : List ℕ) → f key ≡ Some v → Has key keys) → value_of key (table_by f keys) ≡ f key) →
        value_of key (cons_option (option_map (λ (value : List ℕ). record { key = other; value = value }) o) (table_by f keys)) ≡ f key
    by None g true e later = later (nothing_there g e)
    by None g false e later = later (not_here e)
    by (Some v) g true e later = ap (λ (t : Bool). if t then Some v else value_of key (table_by f keys)) e ∙ sym g ∙ ap f (same_bytes other key e)
    by (Some v) g false e later = ap (λ (t : Bool). if t then Some v else value_of key (table_by f keys)) e ∙ later (not_here e)

-- ---- a key goes

pub without-by : (f g : List ℕ → Option (List ℕ)) (keys : List (List ℕ)) (key : List ℕ) → ((k : List ℕ) → g k ≡ (if bytes_eq k key then None else f k)) →
    without key (table_by f keys) ≡ table_by g keys
without-by f g [] key same = refl
without-by f g (other ∷ keys) key same = by (f other) refl (bytes_eq other key) refl (without-by f g keys key same)
  where
    by : (o : Option (List ℕ)) → f other ≡ o → (t : Bool) → bytes_eq other key ≡ t → without key (table_by f keys) ≡ table_by g keys →
        without key (cons_option (option_map (λ (value : List ℕ). record { key = other; value = value }) o) (table_by f keys)) ≡
        cons_option (option_map (λ (value : List ℕ). record { key = other; value = value }) (g other)) (table_by g keys)
    by None h t e later = later ∙ ap (λ (o : Option (List ℕ)). cons_option (option_map (λ (value : List ℕ). record { key = other; value = value }) o) (table_by g keys))
        (sym (same other ∙ ap (λ (u : Bool). if u then None else f other) e ∙ none_then t))
      where
        none_then : (u : Bool) → (if u then None else f other) ≡ None
        none_then true = refl
        none_then false = h
    by (Some v) h true e later = ap (λ (u : Bool). if not u then (record { key = other; value = v }) ∷ without key (table_by f keys) else without key (table_by f keys)) e ∙ later
        ∙ ap (λ (o : Option (List ℕ)). cons_option (option_map (λ (value : List ℕ). record { key = other; value = value }) o) (table_by g keys))
        (sym (same other ∙ ap (λ (u : Bool). if u then None else f other) e))
    by (Some v) h false e later = ap (λ (u : Bool). if not u then (record { key = other; value = v }) ∷ without key (table_by f keys) else without key (table_by f keys)) e
        ∙ ap (λ (l : List TableEntry). (record { key = other; value = v }) ∷ l) later
        ∙ ap (λ (o : Option (List ℕ)). cons_option (option_map (λ (value : List ℕ). record { key = other; value = value }) o) (table_by g keys))
        (sym (same other ∙ ap (λ (u : Bool). if u then None else f other) e ∙ h))

-- ---- a key comes in

abbrev pub AllAfter : List ℕ → List (List ℕ) → Type 0
AllAfter key [] = Unit {0}
AllAfter key (other ∷ keys) = (is_before key other ≡ true) × AllAfter key keys

pub all_after : (key before : List ℕ) (keys : List (List ℕ)) → is_before key before ≡ true → RiseAfter before keys → AllAfter key keys
all_after key before [] first rise = tt
all_after key before (other ∷ keys) first rise =
    (before_chain key before other first rise.0, all_after key other keys (before_chain key before other first rise.0) rise.1)

pub all_behind : (key : List ℕ) (keys : List (List ℕ)) → RiseAfter key keys → AllAfter key keys
all_behind key [] rise = tt
all_behind key (other ∷ keys) rise = (rise.0, all_after key other keys rise.0 rise.1)

less_not_equal : (o : Ordering) → is_lt o ≡ true → is_eq o ≡ false
less_not_equal Less h = refl
less_not_equal Equal h = absurd (true≢false (sym h))
less_not_equal Greater h = refl

pub before_differs : (a b : List ℕ) → is_before a b ≡ true → bytes_eq a b ≡ false
before_differs a b h = sym (is_eq-slice_cmp a b) ∙ less_not_equal (slice_cmp nat_cmp a b) h

put-first : (g : List ℕ → Option (List ℕ)) (keys : List (List ℕ)) (key value : List ℕ) → AllAfter key keys →
    put_in (record { key = key; value = value }) (table_by g keys) ≡ (record { key = key; value = value }) ∷ table_by g keys
put-first g [] key value after = refl
put-first g (other ∷ keys) key value after = by (g other) (put-first g keys key value after.1)
  where
    by : (o : Option (List ℕ)) → put_in (record { key = key; value = value }) (table_by g keys) ≡ (record { key = key; value = value }) ∷ table_by g keys →
        put_in (record { key = key; value = value }) (cons_option (option_map (λ (v : List ℕ). record { key = other; value = v }) o) (table_by g keys)) ≡
        (record { key = key; value = value }) ∷ cons_option (option_map (λ (v : List ℕ). record { key = other; value = v }) o) (table_by g keys)
    by None later = later
    by (Some w) later = ap (λ (t : Bool). if t then (record { key = key; value = value }) ∷ (record { key = other; value = w }) ∷ table_by g keys
        else (record { key = other; value = w }) ∷ put_in (record { key = key; value = value }) (table_by g keys)) after.0

same-table : (f g : List ℕ → Option (List ℕ)) (keys : List (List ℕ)) (key : List ℕ) → AllAfter key keys → ((k : List ℕ) → bytes_eq key k ≡ false → f k ≡ g k) → table_by f keys ≡ table_by g keys
same-table f g [] key after same = refl
same-table f g (other ∷ keys) key after same =
    ap₂ (λ (o : Option (List ℕ)) (l : List TableEntry). cons_option (option_map (λ (v : List ℕ). record { key = other; value = v }) o) l)
    (same other (before_differs key other after.0)) (same-table f g keys key after.1 same)

-- ---- the order of keys

pub antisymmetric : (a b : List ℕ) → bytes_eq a b ≡ false → is_before a b ≡ false → is_before b a ≡ true
antisymmetric a b differ not = by (slice_cmp nat_cmp a b) refl (is_eq-slice_cmp a b ∙ differ) not
  where
    by : (o : Ordering) → slice_cmp nat_cmp a b ≡ o → is_eq o ≡ false → is_lt o ≡ false → is_before b a ≡ true
    by Less e d n = absurd (true≢false n)
    by Equal e d n = absurd (true≢false d)
    by Greater e d n = ap is_lt (nat_list_cmp_total.antisymm b a ∙ ap ordering_reverse e)

pub rise_tail : (before : List ℕ) (keys : List (List ℕ)) → RiseAfter before keys → Rise keys
rise_tail before [] rise = tt
rise_tail before (key ∷ keys) rise = rise.1

rise-with : (before key : List ℕ) (keys : List (List ℕ)) → is_before before key ≡ true → RiseAfter before keys → RiseAfter before (with_key key keys)
rise-with before key [] first rise = (first, tt)
rise-with before key (other ∷ keys) first rise = by (bytes_eq key other) refl (is_before key other) refl (λ h. rise-with other key keys h rise.1)
  where
    by : (t : Bool) → bytes_eq key other ≡ t → (u : Bool) → is_before key other ≡ u → (is_before other key ≡ true → RiseAfter other (with_key key keys)) →
        RiseAfter before (if t then other ∷ keys else if u then key ∷ other ∷ keys else other ∷ with_key key keys)
    by true e u g later = rise
    by false e true g later = (first, (g, rise.1))
    by false e false g later = (rise.0, later (antisymmetric key other e g))

pub rise_with : (key : List ℕ) (keys : List (List ℕ)) → Rise keys → Rise (with_key key keys)
rise_with key [] rise = tt
rise_with key (other ∷ keys) rise = by (bytes_eq key other) refl (is_before key other) refl
  where
    by : (t : Bool) → bytes_eq key other ≡ t → (u : Bool) → is_before key other ≡ u → Rise (if t then other ∷ keys else if u then key ∷ other ∷ keys else other ∷ with_key key keys)
    by true e u g = rise
    by false e true g = (g, rise)
    by false e false g = rise-with other key keys (antisymmetric key other e g) rise

pub has_with : (key : List ℕ) (keys : List (List ℕ)) → Has key (with_key key keys)
has_with key [] = inl (same_itself key)
has_with key (other ∷ keys) = by (bytes_eq key other) refl (is_before key other) (has_with key keys)
  where
    by : (t : Bool) → bytes_eq key other ≡ t → (u : Bool) → Has key (with_key key keys) → Has key (if t then other ∷ keys else if u then key ∷ other ∷ keys else other ∷ with_key key keys)
    by true e u later = inl (subst (λ (x : List ℕ). bytes_eq x key ≡ true) (same_bytes key other e) (same_itself key))
    by false e true later = inl (same_itself key)
    by false e false later = inr later

pub has_still : (k key : List ℕ) (keys : List (List ℕ)) → Has k keys → Has k (with_key key keys)
has_still k key [] has = absurd has
has_still k key (other ∷ keys) has = by (bytes_eq key other) (is_before key other) has (λ h. has_still k key keys h)
  where
    by : (t u : Bool) → Has k (other ∷ keys) → (Has k keys → Has k (with_key key keys)) → Has k (if t then other ∷ keys else if u then key ∷ other ∷ keys else other ∷ with_key key keys)
    by true u h later = h
    by false true h later = inr h
    by false false (inl here) later = inl here
    by false false (inr there) later = inr (later there)

none_among : (key : List ℕ) (keys : List (List ℕ)) → AllAfter key keys → Has key keys → ⊥
none_among key [] after has = has
none_among key (other ∷ keys) after (inl here) = true≢false (sym here ∙ other_turned key other (before_differs key other after.0))
none_among key (other ∷ keys) after (inr there) = none_among key keys after.1 there

pub with_has : (key : List ℕ) (keys : List (List ℕ)) → Rise keys → Has key keys → with_key key keys ≡ keys
with_has key [] rise has = absurd has
with_has key (other ∷ keys) rise has = by (bytes_eq key other) refl (is_before key other) refl has (λ h. with_has key keys (rise_tail other keys rise) h)
  where
    by : (t : Bool) → bytes_eq key other ≡ t → (u : Bool) → is_before key other ≡ u → Has key (other ∷ keys) → (Has key keys → with_key key keys ≡ keys) →
        (if t then other ∷ keys else if u then key ∷ other ∷ keys else other ∷ with_key key keys) ≡ other ∷ keys
    by true e u g h later = refl
    by false e true g h later = absurd (none_among key (other ∷ keys) (g, all_after key other keys g rise) h)
    by false e false g (inl here) later = absurd (true≢false (sym here ∙ other_turned key other e))
    by false e false g (inr there) later = ap (λ (l : List (List ℕ)). other ∷ l) (later there)

-- ---- a key has a new value

abbrev some_entry : List ℕ → List ℕ → TableEntry
some_entry key value = record { key = key; value = value }

abbrev front : List ℕ → Option (List ℕ) → List TableEntry → List TableEntry
front key o l = cons_option (option_map (λ (v : List ℕ). record { key = key; value = v }) o) l

put-by : (f g h : List ℕ → Option (List ℕ)) (keys : List (List ℕ)) (key value : List ℕ) → Rise keys → ((k : List ℕ) → g k ≡ (if bytes_eq key k then None else f k)) →
    ((k : List ℕ) → h k ≡ (if bytes_eq key k then Some value else f k)) → put_in (some_entry key value) (table_by g keys) ≡ table_by h (with_key key keys)
put-by f g h [] key value rise gone here =
    ap (λ (o : Option (List ℕ)). front key o []) (sym (here key ∙ ap (λ (t : Bool). if t then Some value else f key) (same_itself key)))
put-by f g h (other ∷ keys) key value rise gone here =
    by (bytes_eq key other) refl (is_before key other) refl (g other) refl (put-by f g h keys key value (rise_tail other keys rise) gone here)
  where
    agree : (k : List ℕ) → bytes_eq key k ≡ false → g k ≡ h k
    agree k e = gone k ∙ ap (λ (t : Bool). if t then None else f k) e ∙ sym (here k ∙ ap (λ (t : Bool). if t then Some value else f k) e)

    by : (t : Bool) → bytes_eq key other ≡ t → (u : Bool) → is_before key other ≡ u → (o : Option (List ℕ)) → g other ≡ o →
        put_in (some_entry key value) (table_by g keys) ≡ table_by h (with_key key keys) →
        put_in (some_entry key value) (front other o (table_by g keys)) ≡ table_by h (if t then other ∷ keys else if u then key ∷ other ∷ keys else other ∷ with_key key keys)
    by true e u i o go later = ap (λ (x : Option (List ℕ)). put_in (some_entry key value) (front other x (table_by g keys))) (sym go ∙ gone other ∙ ap (λ (t : Bool). if t then None else f other) e)
        ∙ put-first g keys key value behind
        ∙ ap₂ (λ (k : List ℕ) (l : List TableEntry). some_entry k value ∷ l) (same_bytes key other e) (same-table g h keys key behind agree)
        ∙ ap (λ (x : Option (List ℕ)). front other x (table_by h keys)) (sym (here other ∙ ap (λ (t : Bool). if t then Some value else f other) e))
      where
        behind : AllAfter key keys
        behind = all_behind key keys (subst (λ (x : List ℕ). RiseAfter x keys) (sym (same_bytes key other e)) rise)
    by false e true i o go later = ap (λ (x : Option (List ℕ)). put_in (some_entry key value) (front other x (table_by g keys))) (sym go)
        ∙ put-first g (other ∷ keys) key value behind
        ∙ ap (λ (l : List TableEntry). some_entry key value ∷ l) (same-table g h (other ∷ keys) key behind agree)
        ∙ ap (λ (x : Option (List ℕ)). front key x (table_by h (other ∷ keys))) (sym (here key ∙ ap (λ (t : Bool). if t then Some value else f key) (same_itself key)))
      where
        behind : AllAfter key (other ∷ keys)
        behind = (i, all_after key other keys i rise)
    by false e false i None go later = later ∙ ap (λ (x : Option (List ℕ)). front other x (table_by h (with_key key keys))) (sym go ∙ agree other e)
    by false e false i (Some w) go later = ap (λ (t : Bool). if t then some_entry key value ∷ some_entry other w ∷ table_by g keys else some_entry other w ∷ put_in (some_entry key value) (table_by g keys)) i
        ∙ ap (λ (l : List TableEntry). some_entry other w ∷ l) later
        ∙ ap (λ (x : Option (List ℕ)). front other x (table_by h (with_key key keys))) (sym go ∙ agree other e)

pub bytes_turned : (a b : List ℕ) → bytes_eq a b ≡ bytes_eq b a
bytes_turned a b = by (bytes_eq a b) refl
  where
    by : (t : Bool) → bytes_eq a b ≡ t → t ≡ bytes_eq b a
    by true e = sym (subst (λ (x : List ℕ). bytes_eq x a ≡ true) (same_bytes a b e) (same_itself a))
    by false e = sym (other_turned a b e)

pub with-entry : (f h : List ℕ → Option (List ℕ)) (keys : List (List ℕ)) (key value : List ℕ) → Rise keys →
    ((k : List ℕ) → h k ≡ (if bytes_eq key k then Some value else f k)) → with_entry key value (table_by f keys) ≡ table_by h (with_key key keys)
with-entry f h keys key value rise here =
    ap (λ (l : List TableEntry). put_in (some_entry key value) l) (without-by f gone keys key (λ k. ap (λ (t : Bool). if t then None else f k) (bytes_turned key k)))
    ∙ put-by f gone h keys key value rise (λ k. refl) here
  where
    gone : List ℕ → Option (List ℕ)
    gone k = if bytes_eq key k then None else f k

pub alike : (f g : List ℕ → Option (List ℕ)) (keys : List (List ℕ)) → ((k : List ℕ) → f k ≡ g k) → table_by f keys ≡ table_by g keys
alike f g [] same = refl
alike f g (other ∷ keys) same = ap₂ (λ (o : Option (List ℕ)) (l : List TableEntry). front other o l) (same other) (alike f g keys same)
