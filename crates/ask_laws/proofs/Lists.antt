-- What holds of each element of a list holds of each of a part of it, and of both of two lists.
use Rattle.std.proofs.Common.{ℕ, zero, suc, ◌-◌, Bool, true, false, List, [], ◌∷◌, ◌++◌, Option, Some, None, inl, inr, sym, subst}
use Rattle.std.specs.Prelude.{if◌then◌else◌, filter, nat_lt, nat_le, nat_eq, ◌==◌, max, map}
use Rattle.std.specs.List.{AllByRecursion}
use Rattle.quorums.specs.Groups.{Has}
use Rattle.mrp_types.specs.declared.value.Value.{Value}
use Rattle.mrp_types.specs.declared.voted.Voted.{Voted}
use Rattle.mrp_types.specs.declared.voted.Decided.{Decided}
use Rattle.range_map.specs.Entries.{value_at, entries_before, entries_from, spread_over, spread, with_range}
use Rattle.vote_state.specs.declared.cast.Cast.{Cast}
use Rattle.vote_state.specs.Ranges.{is_one, voted, vote_before, ranges_of}
use Rattle.plain_model.specs.Pages.{front_within}
use Rattle.protocol.specs.Learner.{entries_within, front_at, past_front, met_over, with_met, decided_of, unballoted, learned_ranges}

module _ {T : Type 0} where
  pub mapped : (P Q : T → Type 0) → ((x : T) → P x → Q x) → (xs : List T) → AllByRecursion P xs → AllByRecursion Q xs
  mapped P Q h [] all = tt
  mapped P Q h (x ∷ xs) all = (h x all.0, mapped P Q h xs all.1)

  pub appended : (P : T → Type 0) (xs ys : List T) → AllByRecursion P xs → AllByRecursion P ys → AllByRecursion P (xs ++ ys)
  appended P [] ys a b = b
  appended P (x ∷ xs) ys a b = (a.0, appended P xs ys a.1 b)

  pub filtered : (P : T → Type 0) (test : T → Bool) (xs : List T) → AllByRecursion P xs → AllByRecursion P (filter test xs)
  filtered P test [] all = tt
  filtered P test (x ∷ xs) all = by (test x) (filtered P test xs all.1)
    where
      by : (t : Bool) → AllByRecursion P (filter test xs) → AllByRecursion P (if t then x ∷ filter test xs else filter test xs)
      by true later = (all.0, later)
      by false later = later

  pub fronted : (P : T → Type 0) (size : T → ℕ) (room : ℕ) (xs : List T) → AllByRecursion P xs → AllByRecursion P (front_within size room xs)
  fronted P size room [] all = tt
  fronted P size room (x ∷ xs) all = by (nat_le (size x) room) (fronted P size (room - size x) xs all.1)
    where
      by : (t : Bool) → AllByRecursion P (front_within size (room - size x) xs) → AllByRecursion P (if t then x ∷ front_within size (room - size x) xs else [])
      by true later = (all.0, later)
      by false later = tt

  pub one_of : (P : T → Type 0) (xs : List T) (x : T) → AllByRecursion P xs → Has xs x → P x
  one_of P [] x all has = absurd has
  one_of P (y ∷ ys) x all (inl same) = subst P (sym same) all.0
  one_of P (y ∷ ys) x all (inr there) = one_of P ys x all.1 there

-- ---- by instance

module _ {T : Type 0} (P : T → Type 0) where
  abbrev pub At : List (ℕ × T) → Type 0
  At es = AllByRecursion (λ (e : ℕ × T). P e.1) es

  abbrev pub OrNone : Option T → Type 0
  OrNone None = Unit {0}
  OrNone (Some x) = P x

  pub found_at : (i : ℕ) (es : List (ℕ × T)) → At es → OrNone (value_at i es)
  found_at i [] all = tt
  found_at i (e ∷ es) all = by (nat_eq i e.0) (found_at i es all.1)
    where
      by : (t : Bool) → OrNone (value_at i es) → OrNone (if t then Some e.1 else value_at i es)
      by true later = all.0
      by false later = later

  spread_all : (lo n : ℕ) (x : T) → P x → At (spread_over lo n x)
  unfolding spread_over
  spread_all lo zero x is = tt
  spread_all lo (suc n) x is = (is, spread_all (suc lo) n x is)

  pub range_all : (lo hi : ℕ) (x : T) (es : List (ℕ × T)) → P x → At es → At (with_range lo hi x es)
  range_all lo hi x es is all =
      appended (λ (e : ℕ × T). P e.1) (entries_before lo es ++ spread lo hi x) (entries_from hi es)
      (appended (λ (e : ℕ × T). P e.1) (entries_before lo es) (spread lo hi x) (filtered (λ (e : ℕ × T). P e.1) (λ e. nat_lt e.0 lo) es all) (spread_all lo (hi - lo) x is))
      (filtered (λ (e : ℕ × T). P e.1) (λ e. nat_le hi e.0) es all)

  front_held : (i : ℕ) (es : List (ℕ × T)) → At es → OrNone (front_at i es)
  front_held i [] all = tt
  front_held i (e ∷ es) all = by (e.0 == i)
    where
      by : (t : Bool) → OrNone (if t then Some e.1 else None)
      by true = all.0
      by false = tt

  past_all : (i : ℕ) (es : List (ℕ × T)) → At es → At (past_front i es)
  past_all i [] all = tt
  past_all i (e ∷ es) all = by (e.0 == i)
    where
      by : (t : Bool) → At (if t then es else e ∷ es)
      by true = all.1
      by false = all

  module _ (met : Option T → T → T) (keeps : (o : Option T) (x : T) → OrNone o → P x → P (met o x)) where
    met_over_all : (lo n : ℕ) (x : T) (es : List (ℕ × T)) → P x → At es → At (met_over met lo n x es)
    unfolding met_over
    met_over_all lo zero x es is all = tt
    met_over_all lo (suc n) x es is all = (keeps (front_at lo es) x (front_held lo es all) is, met_over_all (suc lo) n x (past_front lo es) is (past_all lo es all))

    pub met_all : (lo hi : ℕ) (x : T) (es : List (ℕ × T)) → P x → At es → At (with_met met lo hi x es)
    met_all lo hi x es is all =
        appended (λ (e : ℕ × T). P e.1) (entries_before lo es ++ met_over met lo (hi - lo) x (entries_within lo hi es)) (entries_from (max lo hi) es)
        (appended (λ (e : ℕ × T). P e.1) (entries_before lo es) (met_over met lo (hi - lo) x (entries_within lo hi es)) (filtered (λ (e : ℕ × T). P e.1) (λ e. nat_lt e.0 lo) es all)
        (met_over_all lo (hi - lo) x (entries_within lo hi es) is
        (filtered (λ (e : ℕ × T). P e.1) (λ e. nat_lt e.0 hi) (entries_from lo es) (filtered (λ (e : ℕ × T). P e.1) (λ e. nat_le lo e.0) es all))))
        (filtered (λ (e : ℕ × T). P e.1) (λ e. nat_le (max lo hi) e.0) es all)

-- ---- as ranges

module _ (P : Value → Type 0) where
  before_all : (i : ℕ) (cast : Cast) (ranges : List Voted) → P cast.value → AllByRecursion (λ (v : Voted). P v.value) ranges → AllByRecursion (λ (v : Voted). P v.value) (vote_before i cast ranges)
  before_all i cast [] is all = (is, tt)
  before_all i cast (next ∷ ranges) is all = by (is_one (suc i) cast next)
    where
      by : (t : Bool) → AllByRecursion (λ (v : Voted). P v.value) (if t then voted i next.hi cast ∷ ranges else voted i (suc i) cast ∷ next ∷ ranges)
      by true = (is, all.1)
      by false = (is, all)

  pub ranges_all : (es : List (ℕ × Cast)) → AllByRecursion (λ (e : ℕ × Cast). P e.1.value) es → AllByRecursion (λ (v : Voted). P v.value) (ranges_of es)
  unfolding ranges_of
  ranges_all [] all = tt
  ranges_all (e ∷ es) all = before_all e.0 e.1 (ranges_of es) all.0 (ranges_all es all.1)

  unballoted_all : (es : List (ℕ × Value)) → AllByRecursion (λ (e : ℕ × Value). P e.1) es → AllByRecursion (λ (e : ℕ × Cast). P e.1.value) (map (λ (e : ℕ × Value). (e.0, unballoted e.1)) es)
  unballoted_all [] all = tt
  unballoted_all (e ∷ es) all = (all.0, unballoted_all es all.1)

  decided_all : (vs : List Voted) → AllByRecursion (λ (v : Voted). P v.value) vs → AllByRecursion (λ (d : Decided). P d.value) (map decided_of vs)
  decided_all [] all = tt
  decided_all (v ∷ vs) all = (all.0, decided_all vs all.1)

  pub learned_all : (held : List (ℕ × Value)) → AllByRecursion (λ (e : ℕ × Value). P e.1) held → AllByRecursion (λ (d : Decided). P d.value) (learned_ranges held)
  learned_all held all = decided_all (ranges_of (map (λ e. (e.0, unballoted e.1)) held)) (ranges_all (map (λ e. (e.0, unballoted e.1)) held) (unballoted_all held all))
