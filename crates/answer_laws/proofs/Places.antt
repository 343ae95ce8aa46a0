-- Where a client's number stands: below tuples, and first of all places.
use Rattle.std.proofs.Common.{arith, ◌≡◌, ◌<◌, ◌≤◌, ◌⊎◌, inl, inr, ℕ, zero, suc, ◌+◌, ◌-◌, ◌==◌, nat_le, nat_lt, Bool, true, false, ◌&&◌, if◌then◌else◌, IsTrue, List, [], ◌∷◌, ◌++◌, Option, Some, None, refl, sym, ap, ◌∙◌, subst, true≢false, le_refl}
use Rattle.std.specs.Prelude.{filter, is_some, unwrap_or}
use Rattle.std.proofs.lemmas.Bool.{cases_lt, cases_order}
use Rattle.mrp_types.specs.declared.id.ClientId.{ClientId}
use Rattle.mrp_types.specs.declared.id.RingId.{RingId}
use Rattle.mrp_types.specs.declared.place.Place.{Place}
use Rattle.mrp_types.specs.declared.value.Entry.{Entry}
use Rattle.mrp_types.specs.declared.value.Value.{Value}
use Rattle.mrp_types.specs.declared.value.Value.TheVariants.{Skip, Batch}
use Rattle.mrp_types.specs.Book.{Learning, book_of, covers}
use Rattle.mrp_types.specs.Places.{place_lt}
use Rattle.mrp_types.proofs.PlaceOrder.{in_one_order}
use Rattle.mrp_types.proofs.TupleOrder.{not_before, not_behind, split_and, both_true, same_number, next_is_one, not_below_by, valid_is_front, past_many_valid, false_not_true}
use Rattle.mrp_types.proofs.TupleMoves.{by_number, has_many, reached}
use Rattle.mrp_types.proofs.TupleChain.{same_first, later_rings, is_le}
use Rattle.mrp_config.specs.Valid.{IncreasesFrom, numbers_of_rings}
use Rattle.quorums.specs.Groups.{Has}
use Rattle.plain_model.specs.Tuples.{place_of, next_place, moved_past, past, past_many, first_tuple, is_at_or_after, is_valid_tuple, has_rings, is_tuple_of, IsOneOf, IsBelow}
use Rattle.plain_model.specs.Fold.{entries_of_value, entries_in_book, both_known, entries_known, entries_below, count_below, is_asked, asked_in, known_entries, entries_at_place, place_with, places_from, places_of_batch, batch_places, first_place, first_of_places, place_of_asked}
use Rattle.tuple_laws.proofs.Below.{below-first, below-past}

-- ---- below tuples

-- what is below a tuple is below a later one
pub below_on : (rings : List RingId) (a b : List (RingId × ℕ)) (q : Place) → has_rings rings a ≡ true → has_rings rings b ≡ true → is_at_or_after b a ≡ true → IsBelow q a → IsBelow q b
below_on [] [] b q ha hb after below = absurd below
below_on [] (x ∷ a) b q ha hb after below = absurd (true≢false (sym ha))
below_on (ring ∷ rings) [] b q ha hb after below = absurd below
below_on (ring ∷ rings) (x ∷ a) [] q ha hb after below = absurd (true≢false (sym hb))
below_on (ring ∷ rings) (x ∷ a) (y ∷ b) q ha hb after (inl here) =
    let s = split_and (nat_le x.1 y.1) (is_at_or_after b a) after in
    let le = is_le x.1 y.1 s.0 in
    inl (here.0 ∙ same_first ring rings x y a b ha hb, omega (arith, here.1, le))
below_on (ring ∷ rings) (x ∷ a) (y ∷ b) q ha hb after (inr there) =
    let s = split_and (nat_le x.1 y.1) (is_at_or_after b a) after in
    inr (below_on rings a b q (later_rings ring rings x a ha) (later_rings ring rings y b hb) s.1 there)

-- a move leaves below what was below and comes before the place, and the place
below_moves : (m : ℕ → ℕ) (pair : RingId × ℕ) (tuple : List (RingId × ℕ)) (q : Place) → IsTrue (place_lt m q (place_of pair)) → IsBelow q tuple → IsBelow q (moved_past pair tuple)
below_moves m pair [] q before below = absurd below
below_moves m pair (x ∷ tuple) q before (inr there) = inr (below_moves m pair tuple q before there)
below_moves m pair (x ∷ tuple) q before (inl here) = inl (by (x.0.0 == pair.0.0) refl)
  where
    by : (t : Bool) → (x.0.0 == pair.0.0) ≡ t → (q.ring.0 ≡ (if t then (x.0, pair.1 + 1) else x).0.0) × (q.inst < (if t then (x.0, pair.1 + 1) else x).1)
    by true e = (
      here.0,
      elim (cases_lt q.inst (pair.1 + 1)) [
        | inl less ↦ less
        | inr more ↦ absurd (not_before m q (place_of pair) (here.0 ∙ same_number x.0.0 pair.0.0 e) (omega (arith, more)) before)
      ],
    )
    by false e = here

moved_below : (pair : RingId × ℕ) (tuple : List (RingId × ℕ)) → IsOneOf pair tuple → IsBelow (place_of pair) (moved_past pair tuple)
moved_below pair [] one = absurd one
moved_below pair (x ∷ tuple) (inr one) = inr (moved_below pair tuple one)
moved_below pair (x ∷ tuple) (inl e) = inl (by (x.0.0 == pair.0.0) refl)
  where
    by : (t : Bool) → (x.0.0 == pair.0.0) ≡ t → (pair.0.0 ≡ (if t then (x.0, pair.1 + 1) else x).0.0) × (pair.1 < (if t then (x.0, pair.1 + 1) else x).1)
    by true h = (ap (λ (y : RingId × ℕ). y.0.0) e, omega arith)
    by false h = absurd (differs x.0.0 pair.0.0 h (ap (λ (y : RingId × ℕ). y.0.0) (sym e)))
      where
        differs : (i j : ℕ) → (i == j) ≡ false → i ≡ j → ⊥
        differs i j f g = grind arith

many_snoc : (m : ℕ → ℕ) (n : ℕ) (tuple : List (RingId × ℕ)) → past_many m (suc n) tuple ≡ past m (past_many m n tuple)
many_snoc m zero tuple = refl
many_snoc m (suc n) tuple = many_snoc m n (past m tuple)

pub record BothParts (a b : Option (List Entry)) (es : List Entry) : Type 0 where
  pub front : List Entry
  pub rest : List Entry
  pub is_front : a ≡ Some front
  pub is_rest : b ≡ Some rest
  pub whole : es ≡ front ++ rest

pub none_list : (es : List Entry) → None ≡ Some es → ⊥
none_list es d = grind arith

pub some_list : (xs ys : List Entry) → Some xs ≡ Some ys → xs ≡ ys
some_list xs ys h = ap (λ (o : Option (List Entry)). unwrap_or o xs) h

pub both_parts : (a b : Option (List Entry)) (es : List Entry) → both_known a b ≡ Some es → BothParts a b es
both_parts None b es h = absurd (none_list es h)
both_parts (Some xs) None es h = absurd (none_list es h)
both_parts (Some xs) (Some ys) es h = record { front = xs; rest = ys; is_front = refl; is_rest = refl; whole = sym (some_list (xs ++ ys) es h) }

pub entries_there : (o : Option Value) (es : List Entry) → entries_in_book o ≡ Some es → known_entries o ≡ es
entries_there None es h = absurd (none_list es h)
entries_there (Some value) es h = some_list (entries_of_value value) es h

-- an entry of the number at a place below a tuple
pub record StandsBelow (known : List Learning) (k : ClientId) (n : ℕ) (tuple : List (RingId × ℕ)) : Type 0 where
  pub place : Place
  pub below : IsBelow place tuple
  pub entry : Entry
  pub asked : asked_in k n (entries_at_place known place) ≡ Some entry

none_entry : (e : Entry) → None ≡ Some e → ⊥
none_entry e d = grind arith

pub asked_parts : (k : ClientId) (n : ℕ) (xs ys : List Entry) (e : Entry) → asked_in k n (xs ++ ys) ≡ Some e → (asked_in k n xs ≡ Some e) ⊎ (asked_in k n ys ≡ Some e)
asked_parts k n [] ys e h = inr h
asked_parts k n (x ∷ xs) ys e h = by (is_asked k n x) h (λ g. asked_parts k n xs ys e g)
  where
    by : (t : Bool) → (if t then Some x else asked_in k n (xs ++ ys)) ≡ Some e → (asked_in k n (xs ++ ys) ≡ Some e → (asked_in k n xs ≡ Some e) ⊎ (asked_in k n ys ≡ Some e)) →
        ((if t then Some x else asked_in k n xs) ≡ Some e) ⊎ (asked_in k n ys ≡ Some e)
    by true g later = inl g
    by false g later = later g

module _ (m : ℕ → ℕ) (known : List Learning) (k : ClientId) (n : ℕ) (ring : RingId) (rings : List RingId) (rise : IncreasesFrom 0 (numbers_of_rings (ring ∷ rings))) where
  all : List RingId
  all = ring ∷ rings

  has_first : (rs : List RingId) → has_rings rs (first_tuple rs) ≡ true
  has_first [] = refl
  has_first (r ∷ rs) = both_true (r.0 == r.0) (has_rings rs (first_tuple rs)) (itself r.0) (has_first rs)
    where
      itself : (i : ℕ) → (i == i) ≡ true
      itself i = grind arith

  reached_is : (i : ℕ) → is_tuple_of m (ring ∷ rings) (past_many m i (first_tuple (ring ∷ rings))) ≡ true
  reached_is i = both_true (has_rings (ring ∷ rings) (past_many m i (first_tuple (ring ∷ rings)))) (is_valid_tuple m (past_many m i (first_tuple (ring ∷ rings))))
      (has_many m i (ring ∷ rings) (first_tuple (ring ∷ rings)) (has_first (ring ∷ rings))) (past_many_valid m i (ring ∷ rings))

  -- one move more
  on_one : (tuple : List (RingId × ℕ)) → is_tuple_of m (ring ∷ rings) tuple ≡ true → StandsBelow known k n tuple → StandsBelow known k n (past m tuple)
  on_one [] is s = absurd (true≢false (sym is))
  on_one (x ∷ tuple) is s = record {
    place = s.place;
    below = below_moves m (next_place m (x ∷ tuple)) (x ∷ tuple) s.place
        (valid_is_front m (x ∷ tuple) (split_and (has_rings (ring ∷ rings) (x ∷ tuple)) (is_valid_tuple m (x ∷ tuple)) is).1 s.place (place_of (next_place m (x ∷ tuple))) s.below
        (not_below_by (next_place m (x ∷ tuple)) (x ∷ tuple) (place_of (next_place m (x ∷ tuple))) (next_is_one m x tuple) refl (le_refl _))) s.below;
    entry = s.entry;
    asked = s.asked;
  }

  at_next : (tuple : List (RingId × ℕ)) (e : Entry) → is_tuple_of m (ring ∷ rings) tuple ≡ true → asked_in k n (entries_at_place known (place_of (next_place m tuple))) ≡ Some e → StandsBelow known k n (past m tuple)
  at_next [] e is asked = absurd (true≢false (sym is))
  at_next (x ∷ tuple) e is asked = record {
    place = place_of (next_place m (x ∷ tuple));
    below = moved_below (next_place m (x ∷ tuple)) (x ∷ tuple) (next_is_one m x tuple);
    entry = e;
    asked = asked;
  }

  found_many : (i : ℕ) (es : List Entry) (e : Entry) → entries_below m known (past_many m i (first_tuple (ring ∷ rings))) ≡ Some es → asked_in k n es ≡ Some e
      → StandsBelow known k n (past_many m i (first_tuple (ring ∷ rings)))
  found_many zero es e h asked =
      absurd (none_entry e (ap (λ (l : List Entry). asked_in k n l) (some_list [] es (sym (below-first m known (ring ∷ rings)) ∙ h)) ∙ asked))
  found_many (suc i) es e h asked =
      let t : List (RingId × ℕ) = past_many m i (first_tuple (ring ∷ rings)) in
      let snoc = many_snoc m i (first_tuple (ring ∷ rings)) in
      let parts = both_parts (entries_below m known t) (entries_known known (next_place m t)) es
      (sym (below-past m known ring rings t rise (reached_is i)) ∙ ap (λ (u : List (RingId × ℕ)). entries_below m known u) (sym snoc) ∙ h) in
      subst (λ (u : List (RingId × ℕ)). StandsBelow known k n u) (sym snoc) (elim (asked_parts k n parts.front parts.rest e (ap (λ (l : List Entry). asked_in k n l) (sym parts.whole) ∙ asked)) [
        | inl first ↦ on_one t (reached_is i) (found_many i parts.front e parts.is_front first)
        | inr last ↦ at_next t e (reached_is i) (ap (λ (l : List Entry). asked_in k n l) (entries_there (book_of known (next_place m t).0 (next_place m t).1) parts.rest parts.is_rest) ∙ last)
      ])

  pub found_below : (tuple : List (RingId × ℕ)) (es : List Entry) (e : Entry) → is_tuple_of m (ring ∷ rings) tuple ≡ true → entries_below m known tuple ≡ Some es → asked_in k n es ≡ Some e
      → StandsBelow known k n tuple
  found_below tuple es e is h asked =
      let same = reached m (ring ∷ rings) tuple rise is in
      subst (λ (u : List (RingId × ℕ)). StandsBelow known k n u) same (found_many (count_below tuple) es e (ap (λ (u : List (RingId × ℕ)). entries_below m known u) same ∙ h) asked)

-- ---- the first place

-- one of some places, before which none of them comes
pub record IsFirst (m : ℕ → ℕ) (ps : List Place) (place : Place) : Type 0 where
  pub there : Has ps place
  pub least : (q : Place) → Has ps q → IsTrue (place_lt m q place) → ⊥

abbrev FirstOrNone : (ℕ → ℕ) → List Place → Option Place → Type 0
FirstOrNone m ps None = (q : Place) → Has ps q → ⊥
FirstOrNone m ps (Some place) = IsFirst m ps place

not_itself : (m : ℕ → ℕ) (p q : Place) → q ≡ p → IsTrue (place_lt m q p) → ⊥
not_itself m p q e before = true≢false (sym (subst (λ (x : Place). IsTrue (place_lt m x p)) e before) ∙ (in_one_order m).irreflexive p)

first_of : (m : ℕ → ℕ) (ps : List Place) → FirstOrNone m ps (first_of_places m ps)
first_of m [] = λ q has. has
first_of m (p ∷ ps) = by (first_of_places m ps) (first_of m ps)
  where
    by : (o : Option Place) → FirstOrNone m ps o → IsFirst m (p ∷ ps) (first_place m p o)
    by None none = record {
      there = inl refl;
      least = λ q has before. elim has [
        | inl e ↦ not_itself m p q e before
        | inr h ↦ none q h
      ];
    }
    by (Some other) first = chosen (place_lt m other p) refl
      where
        chosen : (t : Bool) → place_lt m other p ≡ t → IsFirst m (p ∷ ps) (if t then other else p)
        chosen true e = record {
          there = inr first.there;
          least = λ q has before. elim has [
            | inl same ↦ not_itself m p p refl ((in_one_order m).transitive p other p (subst (λ (x : Place). IsTrue (place_lt m x other)) same before) e)
            | inr h ↦ first.least q h before
          ];
        }
        chosen false e = record {
          there = inl refl;
          least = λ q has before. elim has [
            | inl same ↦ not_itself m p q same before
            | inr h ↦ false_not_true (place_lt m other p) e (not_behind m other q p (λ less. first.least q h less) before)
          ];
        }

pub first_found : (m : ℕ → ℕ) (ps : List Place) (q : Place) → Has ps q → (place : Place) × (first_of_places m ps ≡ Some place) × IsFirst m ps place
first_found m ps q has = by (first_of_places m ps) refl (first_of m ps)
  where
    by : (o : Option Place) → first_of_places m ps ≡ o → FirstOrNone m ps o → (place : Place) × (first_of_places m ps ≡ Some place) × IsFirst m ps place
    by None e none = absurd (none q has)
    by (Some place) e first = (place, e, first)

-- ---- places of batches

has_left : (xs ys : List Place) (x : Place) → Has xs x → Has (xs ++ ys) x
has_left [] ys x has = absurd has
has_left (y ∷ xs) ys x (inl e) = inl e
has_left (y ∷ xs) ys x (inr h) = inr (has_left xs ys x h)

has_right : (xs ys : List Place) (x : Place) → Has ys x → Has (xs ++ ys) x
has_right [] ys x has = has
has_right (y ∷ xs) ys x has = inr (has_right xs ys x has)

from_has : (ring : RingId) (lo n inst : ℕ) → lo ≤ inst → inst < lo + n → Has (places_from ring lo n) (place_with ring inst)
from_has ring lo zero inst low high = absurd (omega (arith, low, high))
from_has ring lo (suc n) inst low high = elim (cases_order lo inst) [
  | inl same ↦ inl (ap (λ (i : ℕ). place_with ring i) (sym same))
  | inr (inl less) ↦ inr (from_has ring (suc lo) n inst (omega (arith, less)) (omega (arith, high)))
  | inr (inr more) ↦ absurd (omega (arith, low, more))
]

batch_has : (l : Learning) (place : Place) (batch : List ℕ) → covers l place.ring place.inst ≡ true → l.value ≡ Batch batch → Has (places_of_batch l.ring l.lo l.hi l.value) place
batch_has l place batch covered is =
    subst (λ (v : Value). Has (places_of_batch l.ring l.lo l.hi v) place) (sym is)
    (subst (λ (r : RingId). Has (places_from r l.lo (l.hi - l.lo)) place) (sym (by_number l.ring place.ring (same_number l.ring.0 place.ring.0 s.0)))
    (from_has place.ring l.lo (l.hi - l.lo) place.inst (low l.lo place.inst u.0) (inside l.lo l.hi place.inst (low l.lo place.inst u.0) (high place.inst l.hi u.1))))
  where
    low : (i j : ℕ) → nat_le i j ≡ true → i ≤ j
    low i j t = grind arith

    high : (i j : ℕ) → nat_lt i j ≡ true → i < j
    high i j t = grind arith

    inside : (lo hi i : ℕ) → lo ≤ i → i < hi → i < lo + (hi - lo)
    inside lo hi i a b = omega (arith, a, b)

    s : ((l.ring.0 == place.ring.0) ≡ true) × ((nat_le l.lo place.inst && nat_lt place.inst l.hi) ≡ true)
    s = split_and (l.ring.0 == place.ring.0) (nat_le l.lo place.inst && nat_lt place.inst l.hi) covered

    u : (nat_le l.lo place.inst ≡ true) × (nat_lt place.inst l.hi ≡ true)
    u = split_and (nat_le l.lo place.inst) (nat_lt place.inst l.hi) s.1

some_value : (v w : Value) → Some v ≡ Some w → v ≡ w
some_value v w h = ap (λ (o : Option Value). unwrap_or o v) h

learned_there : (known : List Learning) (place : Place) (batch : List ℕ) → book_of known place.ring place.inst ≡ Some (Batch batch) → Has (batch_places known) place
learned_there [] place batch h = absurd (none_value h)
  where
    none_value : None ≡ Some (Batch batch) → ⊥
    none_value d = grind arith
learned_there (l ∷ known) place batch h = by (covers l place.ring place.inst) refl h (λ g. learned_there known place batch g)
  where
    by : (t : Bool) → covers l place.ring place.inst ≡ t → (if t then Some l.value else book_of known place.ring place.inst) ≡ Some (Batch batch)
        → (book_of known place.ring place.inst ≡ Some (Batch batch) → Has (batch_places known) place) → Has (batch_places (l ∷ known)) place
    by true e g later = has_left (places_of_batch l.ring l.lo l.hi l.value) (batch_places known) place (batch_has l place batch e (some_value l.value (Batch batch) g))
    by false e g later = has_right (places_of_batch l.ring l.lo l.hi l.value) (batch_places known) place (later g)

-- ---- the first place of a number

filter_has : (test : Place → Bool) (xs : List Place) (x : Place) → Has xs x → test x ≡ true → Has (filter test xs) x
filter_has test [] x has e = has
filter_has test (y ∷ xs) x has e = by (test y) refl has (λ h. filter_has test xs x h e)
  where
    by : (t : Bool) → test y ≡ t → Has (y ∷ xs) x → (Has xs x → Has (filter test xs) x) → Has (if t then y ∷ filter test xs else filter test xs) x
    by true f (inl same) later = inl same
    by true f (inr h) later = inr (later h)
    by false f (inl same) later = absurd (true≢false (sym e ∙ ap test same ∙ f))
    by false f (inr h) later = later h

filter_passes : (test : Place → Bool) (xs : List Place) (x : Place) → Has (filter test xs) x → test x ≡ true
filter_passes test [] x has = absurd has
filter_passes test (y ∷ xs) x has = by (test y) refl has (λ h. filter_passes test xs x h)
  where
    by : (t : Bool) → test y ≡ t → Has (if t then y ∷ filter test xs else filter test xs) x → (Has (filter test xs) x → test x ≡ true) → test x ≡ true
    by true f (inl same) later = ap test same ∙ f
    by true f (inr h) later = later h
    by false f h later = later h

-- The first place of a number: it is there, and each other place that has the number doesn't come before it.
pub record StandsFirst (m : ℕ → ℕ) (known : List Learning) (k : ClientId) (n : ℕ) : Type 0 where
  pub place : Place
  pub first : place_of_asked m known k n ≡ Some place
  pub entry : Entry
  pub asked : asked_in k n (entries_at_place known place) ≡ Some entry
  pub least : (q : Place) (e : Entry) → asked_in k n (entries_at_place known q) ≡ Some e → IsTrue (place_lt m q place) → ⊥

module _ (m : ℕ → ℕ) (known : List Learning) (k : ClientId) (n : ℕ) where
  has_number : Place → Bool
  has_number place = is_some (asked_in k n (entries_at_place known place))

  asked_listed : (place : Place) (e : Entry) → asked_in k n (entries_at_place known place) ≡ Some e → Has (batch_places known) place
  asked_listed place e h = by (book_of known place.ring place.inst) refl h
    where
      by : (o : Option Value) → book_of known place.ring place.inst ≡ o → asked_in k n (known_entries o) ≡ Some e → Has (batch_places known) place
      by None f g = absurd (none_entry e g)
      by (Some Skip) f g = absurd (none_entry e g)
      by (Some (Batch batch)) f g = learned_there known place batch f

  asked_has : (place : Place) (e : Entry) → asked_in k n (entries_at_place known place) ≡ Some e
      → Has (filter (λ (q : Place). is_some (asked_in k n (entries_at_place known q))) (batch_places known)) place
  asked_has place e h = filter_has (λ (q : Place). is_some (asked_in k n (entries_at_place known q))) (batch_places known) place (asked_listed place e h) (ap (λ (o : Option Entry). is_some o) h)

  pub stands_first : (place : Place) (e : Entry) → asked_in k n (entries_at_place known place) ≡ Some e → StandsFirst m known k n
  stands_first place e h = by (asked_in k n (entries_at_place known f.0)) refl
      (filter_passes (λ (q : Place). is_some (asked_in k n (entries_at_place known q))) (batch_places known) f.0 f.2.there)
    where
      f : (first : Place) × (first_of_places m (filter (λ (q : Place). is_some (asked_in k n (entries_at_place known q))) (batch_places known)) ≡ Some first)
          × IsFirst m (filter (λ (q : Place). is_some (asked_in k n (entries_at_place known q))) (batch_places known)) first
      f = first_found m (filter (λ (q : Place). is_some (asked_in k n (entries_at_place known q))) (batch_places known)) place (asked_has place e h)

      by : (o : Option Entry) → asked_in k n (entries_at_place known f.0) ≡ o → is_some o ≡ true → StandsFirst m known k n
      by None g t = absurd (true≢false (sym t))
      by (Some entry) g t = record { place = f.0; first = f.1; entry = entry; asked = g; least = λ q d there before. f.2.least q (asked_has q d there) before }
