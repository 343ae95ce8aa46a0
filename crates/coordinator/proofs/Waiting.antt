-- The commands that wait, and how many of them are proposed.
use Rattle.std.proofs.Common.{◌≡◌, ℕ, zero, suc, ◌+◌, ◌-◌, ◌<◌, ◌≤◌, true, false, Bool, ◌||◌, List, [], ◌∷◌, ◌++◌, length, get_or, take, drop, map, refl, sym, ◌∙◌, ap, subst, arith}
use Rattle.std.specs.Prelude.{◌==◌, ◌&&◌, Option, Some, None, is_some, cond, not, filter, slice_get, if◌then◌else◌}
use Rattle.std.proofs.lemmas.Bool.Decides.{nat_tests}
use Rattle.indexmap.specs.IndexMap.{insert_entry}
use Rattle.std.specs.List.{AllByRecursion}
use Rattle.std.specs.Map.{lookup}
use Rattle.mrp_types.specs.declared.value.Entry.{Entry}
use Rattle.mrp_types.specs.Entries.{IsEntry}
use Rattle.protocol.specs.Parts.{Pending}
use Rattle.protocol.specs.Learner.{is_same_command, is_among, still_pending}
use Rattle.protocol.specs.Coordinator.{is_pending}
use Rattle.protocol.specs.Proposing.{unproposed, with_proposed, entry_size}
use Rattle.plain_model.specs.Pages.{front_within}
use Rattle.range_map.proofs.SetLemmas.{le-true, le-false}
use Rattle.vote_state.proofs.StateLemmas.{filter_all}
use Rattle.coordinator.specs.declared.queue.Name.{Name}
use Rattle.coordinator.specs.Waiting.{IsNamed, marked, same_name, is_named}

pub marked_length : (n : ℕ) (es : List (Name × Entry)) → length (marked n es) ≡ length es
marked_length zero [] = refl
marked_length (suc n) [] = refl
marked_length zero (e ∷ es) = ap (λ (k : ℕ). suc k) (marked_length zero es)
marked_length (suc n) (e ∷ es) = ap (λ (k : ℕ). suc k) (marked_length n es)

pub marked_more : (n : ℕ) (es : List (Name × Entry)) (e : Name × Entry) → n ≤ length es → marked n (es ++ e ∷ []) ≡ marked n es ++ (record { entry = e.1; proposed = false }) ∷ []
marked_more zero [] e h = refl
marked_more (suc n) [] e h = absurd (omega arith)
marked_more zero (x ∷ es) e h = ap (λ (l : List Pending). (record { entry = x.1; proposed = false }) ∷ l) (marked_more zero es e (omega arith))
marked_more (suc n) (x ∷ es) e h = ap (λ (l : List Pending). (record { entry = x.1; proposed = true }) ∷ l) (marked_more n es e (omega arith))

pub marked_further : (n count m : ℕ) (es : List (Name × Entry)) → n + count ≡ m → marked m es ≡ with_proposed count (marked n es)
marked_further zero count m [] h = refl
marked_further (suc n) count m [] h = refl
marked_further zero zero m (x ∷ es) h = let e : m ≡ 0 = omega arith in rw e refl
marked_further zero (suc count) m (x ∷ es) h =
    let e : m ≡ suc count = omega arith in
    rw e (ap (λ (l : List Pending). (record { entry = x.1; proposed = true }) ∷ l) (marked_further zero count count es (omega arith)))
marked_further (suc n) zero m (x ∷ es) h = let e : m ≡ suc n = omega arith in rw e refl
marked_further (suc n) (suc count) m (x ∷ es) h =
    let e : m ≡ suc (n + suc count) = omega arith in
    rw e (ap (λ (l : List Pending). (record { entry = x.1; proposed = true }) ∷ l) (marked_further n (suc count) (n + suc count) es refl))

pub marked_unproposed : (n : ℕ) (es : List (Name × Entry)) → unproposed (marked n es) ≡ map (λ (e : Name × Entry). e.1) (drop n es)
marked_unproposed zero [] = refl
marked_unproposed (suc n) [] = refl
marked_unproposed zero (e ∷ es) = ap (λ (l : List Entry). e.1 ∷ l) (marked_unproposed zero es)
marked_unproposed (suc n) (e ∷ es) = marked_unproposed n es

pub unproposed_left : (n : ℕ) (es : List (Name × Entry)) → n ≤ length es → n + length (unproposed (marked n es)) ≡ length es
unproposed_left zero [] h = refl
unproposed_left (suc n) [] h = absurd (omega arith)
unproposed_left zero (e ∷ es) h = let rest = unproposed_left zero es (omega arith) in omega arith
unproposed_left (suc n) (e ∷ es) h = let rest = unproposed_left n es (omega arith) in omega arith

-- one that waits may stand in a batch
pub waiting_valid : (at : ℕ) (es : List (Name × Entry)) (e : Name × Entry) → AllByRecursion IsNamed es → slice_get es at ≡ Some e → IsEntry e.1
waiting_valid at [] e each is = absurd (cc)
waiting_valid zero (x ∷ es) e each is = let same : x ≡ e = cc in subst (λ (y : Name × Entry). IsEntry y.1) same each.0.1
waiting_valid (suc at) (x ∷ es) e each is = waiting_valid at es e each.1 is

-- ---- whether a command waits

by_head : (a b rest : Bool) (x : Entry) (o : Option Entry) → a ≡ b → is_some o ≡ rest → is_some (cond a (Some x) o) ≡ (b || rest)
by_head true b rest x o same is = rw (sym same) refl
by_head false b rest x o same is = rw (sym same) is

module _ (entry : Entry) (test : Name → Bool) (says : (other : Entry) → test (record { client = other.client; seq = other.seq }) ≡ is_same_command entry other) where
  named_same : (e : Name × Entry) → IsNamed e → test e.0 ≡ is_same_command entry e.1
  named_same e is = ap (λ (name : Name). test name) is.0 ∙ says e.1

  pub found_waits : (n : ℕ) (es : List (Name × Entry)) → AllByRecursion IsNamed es → is_some (lookup test es) ≡ is_pending entry (marked n es)
  found_waits zero [] each = refl
  found_waits (suc n) [] each = refl
  found_waits zero (e ∷ es) each = by_head (test e.0) (is_same_command entry e.1) (is_pending entry (marked zero es)) e.1 (lookup test es) (named_same e each.0) (found_waits zero es each.1)
  found_waits (suc n) (e ∷ es) each = by_head (test e.0) (is_same_command entry e.1) (is_pending entry (marked n es)) e.1 (lookup test es) (named_same e each.0) (found_waits n es each.1)

-- ---- one more that waits

append_named : (es : List (Name × Entry)) (e : Name × Entry) → AllByRecursion IsNamed es → IsNamed e → AllByRecursion IsNamed (es ++ e ∷ [])
append_named [] e each one = (one, tt)
append_named (x ∷ es) e each one = (each.0, append_named es e each.1 one)

length_more : (es : List (Name × Entry)) (e : Name × Entry) → length (es ++ e ∷ []) ≡ suc (length es)
length_more [] e = refl
length_more (x ∷ es) e = ap (λ (n : ℕ). suc n) (length_more es e)

pub one_named : (name : Name) (entry : Entry) (n : ℕ) (es fs : List (Name × Entry)) → fs ≡ es ++ (name, entry) ∷ [] → name ≡ record { client = entry.client; seq = entry.seq } → IsEntry entry → n ≤ length es
    → AllByRecursion IsNamed es → (n ≤ length fs) × AllByRecursion IsNamed fs
one_named name entry n es fs is named valid few each =
    let more = length_more es (name, entry) in
    subst (λ (xs : List (Name × Entry)). (n ≤ length xs) × AllByRecursion IsNamed xs) (sym is) (omega arith, append_named es (name, entry) each (named, valid))

absent_from : (test : Name → Bool) (es : List (Name × Entry)) (name : Name) (entry : Entry) → is_some (lookup test es) ≡ false → ((e : Name) → same_name name e ≡ test e) → insert_entry same_name es name entry ≡ es ++ (name, entry) ∷ []
absent_from test [] name entry none says = refl
absent_from test (e ∷ es) name entry none says = by (test e.0) refl none (λ missing. absent_from test es name entry missing says)
  where
    by : (b : Bool) → test e.0 ≡ b → is_some (cond b (Some e.1) (lookup test es)) ≡ false
        → (is_some (lookup test es) ≡ false → insert_entry same_name es name entry ≡ es ++ (name, entry) ∷ [])
        → (if same_name name e.0 then (e.0, entry) ∷ es else e ∷ insert_entry same_name es name entry) ≡ (e ∷ es) ++ (name, entry) ∷ []
    by true is missing rest = absurd (cc)
    by false is missing rest = rw (says e.0 ∙ is) (ap (λ (l : List (Name × Entry)). e ∷ l) (rest missing))

pub one_waits : (entry : Entry) (name : Name) (n : ℕ) (es : List (Name × Entry)) (pending : List Pending) → marked n es ≡ pending → name ≡ record { client = entry.client; seq = entry.seq } → AllByRecursion IsNamed es
    → is_pending entry pending ≡ false → (fs : List (Name × Entry)) → fs ≡ insert_entry same_name es name entry → fs ≡ es ++ (name, entry) ∷ []
one_waits entry name n es pending view named each new fs is =
    is ∙ absent_from (λ other. same_name name other) es name entry
    (found_waits entry (λ other. same_name name other) (λ other. ap (λ (own : Name). same_name own (record { client = other.client; seq = other.seq })) named) n es each
    ∙ ap (λ (l : List Pending). is_pending entry l) view ∙ new)
    (λ e. refl)

-- ---- those so far

-- a name is among those so far and one more
pub named_more : (name : Name) (entries : List Entry) (i : ℕ) (entry d : Entry) → i < length entries → entry ≡ get_or entries i d → is_named name (take (i + 1) entries) ≡ (is_named name (take i entries) || same_name name (record { client = entry.client; seq = entry.seq }))
named_more name [] i entry d few is = absurd (omega arith)
named_more name (x ∷ entries) zero entry d few is = rw is (by (same_name name (record { client = x.client; seq = x.seq })))
  where
    by : (b : Bool) → (b || false) ≡ (false || b)
    by true = refl
    by false = refl
named_more name (x ∷ entries) (suc i) entry d few is =
    let next : suc i + 1 ≡ suc (i + 1) = omega arith in
    rw next (by (same_name name (record { client = x.client; seq = x.seq })) (named_more name entries i entry d (omega arith) is))
  where
    by : (b : Bool) → is_named name (take (i + 1) entries) ≡ (is_named name (take i entries) || same_name name (record { client = entry.client; seq = entry.seq }))
        → (b || is_named name (take (i + 1) entries)) ≡ ((b || is_named name (take i entries)) || same_name name (record { client = entry.client; seq = entry.seq }))
    by true rest = refl
    by false rest = rest

same_both : (a b : Name) → same_name a b ≡ same_name b a
same_both a b = by (a.client.0) (b.client.0) (a.seq) (b.seq)
  where
    by : (x y m n : ℕ) → ((x == y) && (m == n)) ≡ ((y == x) && (n == m))
    by x y m n = grind (arith, nat_tests)

pub name_added : (name own : Name) (before after rest : Bool) → after ≡ cond (same_name own name) true before → before ≡ rest → after ≡ (rest || same_name name own)
name_added name own before after rest is same = is ∙ ap (λ (b : Bool). cond b true before) (same_both own name) ∙ by (same_name name own) before rest same
  where
    by : (b before rest : Bool) → before ≡ rest → cond b true before ≡ (rest || b)
    by true before true e = refl
    by true before false e = refl
    by false before true e = e
    by false before false e = e

module _ (keeps : Name × Entry → Bool) where
  pub kept_more : (i : ℕ) (es : List (Name × Entry)) (e : Name × Entry) → slice_get es i ≡ Some e
      → length (filter keeps (take (i + 1) es)) ≡ length (filter keeps (take i es)) + (if keeps e then 1 else 0)
  kept_more i [] e is = absurd (cc)
  kept_more zero (x ∷ es) e is = let same : x ≡ e = cc in subst (λ (y : Name × Entry). length (if keeps x then x ∷ [] else []) ≡ length (filter keeps (take 0 (x ∷ es))) + (if keeps y then 1 else 0)) same (by (keeps x))
    where
      by : (b : Bool) → length (if b then x ∷ [] else []) ≡ 0 + (if b then 1 else 0)
      by true = refl
      by false = refl
  kept_more (suc i) (x ∷ es) e is =
      let next : suc i + 1 ≡ suc (i + 1) = omega arith in
      rw next (by (keeps x) (kept_more i es e is))
    where
      by : (b : Bool) → length (filter keeps (take (i + 1) es)) ≡ length (filter keeps (take i es)) + (if keeps e then 1 else 0)
          → length (if b then x ∷ filter keeps (take (i + 1) es) else filter keeps (take (i + 1) es)) ≡ length (if b then x ∷ filter keeps (take i es) else filter keeps (take i es)) + (if keeps e then 1 else 0)
      by true rest = omega arith
      by false rest = rest

  pub kept_all : (i : ℕ) (es : List (Name × Entry)) → slice_get es i ≡ None → length (filter keeps (take (i + 1) es)) ≡ length (filter keeps (take i es))
  kept_all zero [] is = refl
  kept_all (suc i) [] is = let next : suc i + 1 ≡ suc (i + 1) = omega arith in rw next refl
  kept_all zero (x ∷ es) is = absurd (cc)
  kept_all (suc i) (x ∷ es) is =
      let next : suc i + 1 ≡ suc (i + 1) = omega arith in
      rw next (by (keeps x) (kept_all i es is))
    where
      by : (b : Bool) → length (filter keeps (take (i + 1) es)) ≡ length (filter keeps (take i es))
          → length (if b then x ∷ filter keeps (take (i + 1) es) else filter keeps (take (i + 1) es)) ≡ length (if b then x ∷ filter keeps (take i es) else filter keeps (take i es))
      by true rest = ap (λ (n : ℕ). suc n) rest
      by false rest = rest

  pub one_gone : (i : ℕ) (es : List (Name × Entry)) (e : Name × Entry) (b : Bool) → Some e ≡ slice_get es i → keeps e ≡ b
      → length (filter keeps (take (i + 1) es)) ≡ length (filter keeps (take i es)) + (if b then 1 else 0)
  one_gone i es e b is test = kept_more i es e (sym is) ∙ ap (λ (t : Bool). length (filter keeps (take i es)) + (if t then 1 else 0)) test

-- ---- which stay

module _ (entries : List Entry) (keeps : Name × Entry → Bool) where
  abbrev Keeps : Name × Entry → Type 0
  Keeps e = keeps e ≡ not (is_among e.1 entries)

  pub still_marked : (n : ℕ) (es : List (Name × Entry)) → AllByRecursion Keeps es → still_pending entries (marked n es) ≡ marked (length (filter keeps (take n es))) (filter keeps es)
  still_marked zero [] each = refl
  still_marked (suc n) [] each = refl
  still_marked zero (e ∷ es) each = by (keeps e) (not (is_among e.1 entries)) each.0 (still_marked zero es each.1)
    where
      by : (a b : Bool) → a ≡ b → still_pending entries (marked zero es) ≡ marked (length (filter keeps (take zero es))) (filter keeps es) → (if b then (record { entry = e.1; proposed = false }) ∷ still_pending entries (marked zero es) else still_pending entries (marked zero es))
          ≡ marked zero (if a then e ∷ filter keeps es else filter keeps es)
      by true b same rest = rw (sym same) (ap (λ (l : List Pending). (record { entry = e.1; proposed = false }) ∷ l) rest)
      by false b same rest = rw (sym same) rest
  still_marked (suc n) (e ∷ es) each = by (keeps e) (not (is_among e.1 entries)) each.0 (still_marked n es each.1)
    where
      by : (a b : Bool) → a ≡ b → still_pending entries (marked n es) ≡ marked (length (filter keeps (take n es))) (filter keeps es) → (if b then (record { entry = e.1; proposed = true }) ∷ still_pending entries (marked n es) else still_pending entries (marked n es))
          ≡ marked (length (if a then e ∷ filter keeps (take n es) else filter keeps (take n es))) (if a then e ∷ filter keeps es else filter keeps es)
      by true b same rest = rw (sym same) (ap (λ (l : List Pending). (record { entry = e.1; proposed = true }) ∷ l) rest)
      by false b same rest = rw (sym same) rest

-- ---- commands that go

named_among : (entry : Entry) (entries : List Entry) → is_named (record { client = entry.client; seq = entry.seq }) entries ≡ is_among entry entries
named_among entry [] = refl
named_among entry (x ∷ entries) = ap (λ (b : Bool). is_same_command entry x || b) (named_among entry entries)

module _ (entries : List Entry) (among : Name → Bool) (says : (name : Name) → among name ≡ is_named name entries) where
  abbrev stays : Name × Entry → Bool
  stays e = not (among e.0)

  each_keeps : (es : List (Name × Entry)) → AllByRecursion IsNamed es → AllByRecursion (λ (e : Name × Entry). not (among e.0) ≡ not (is_among e.1 entries)) es
  each_keeps [] each = tt
  each_keeps (e ∷ es) each =
      (ap (λ (b : Bool). not b) (says e.0 ∙ ap (λ (name : Name). is_named name entries) each.0.0 ∙ named_among e.1 entries), each_keeps es each.1)

  fewer : (n : ℕ) (es : List (Name × Entry)) → length (filter (λ (e : Name × Entry). not (among e.0)) (take n es)) ≤ length (filter (λ (e : Name × Entry). not (among e.0)) es)
  fewer zero es = omega arith
  fewer (suc n) [] = omega arith
  fewer (suc n) (e ∷ es) = by (not (among e.0)) (fewer n es)
    where
      by : (b : Bool) → length (filter (λ (e : Name × Entry). not (among e.0)) (take n es)) ≤ length (filter (λ (e : Name × Entry). not (among e.0)) es)
          → length (if b then e ∷ filter (λ (e : Name × Entry). not (among e.0)) (take n es) else filter (λ (e : Name × Entry). not (among e.0)) (take n es))
          ≤ length (if b then e ∷ filter (λ (e : Name × Entry). not (among e.0)) es else filter (λ (e : Name × Entry). not (among e.0)) es)
      by true rest = omega arith
      by false rest = rest

  pub taken_out : (n m : ℕ) (es fs : List (Name × Entry)) (old : List Pending) → marked n es ≡ old → AllByRecursion IsNamed es → m ≡ length (filter (λ (e : Name × Entry). not (among e.0)) (take n es))
      → fs ≡ filter (λ (e : Name × Entry). not (among e.0)) es → marked m fs ≡ still_pending entries old
  taken_out n m es fs old view each count left =
      ap (λ (k : ℕ). marked k fs) count ∙ ap (λ (l : List (Name × Entry)). marked (length (filter (λ (e : Name × Entry). not (among e.0)) (take n es))) l) left
      ∙ sym (still_marked entries (λ (e : Name × Entry). not (among e.0)) n es (each_keeps es each)) ∙ ap (λ (l : List Pending). still_pending entries l) view

  pub left_named : (n m : ℕ) (es fs : List (Name × Entry)) → AllByRecursion IsNamed es → m ≡ length (filter (λ (e : Name × Entry). not (among e.0)) (take n es))
      → fs ≡ filter (λ (e : Name × Entry). not (among e.0)) es → (m ≤ length fs) × AllByRecursion IsNamed fs
  left_named n m es fs each count left =
      let few = fewer n es in
      subst (λ (l : List (Name × Entry)). (m ≤ length l) × AllByRecursion IsNamed l) (sym left) (omega arith, filter_all IsNamed (λ (e : Name × Entry). not (among e.0)) es each)

-- ---- a front with room

pub append_valid : (es : List Entry) (copied entry : Entry) (fs : List Entry) → fs ≡ es ++ copied ∷ [] → copied ≡ entry → AllByRecursion IsEntry es → IsEntry entry → AllByRecursion IsEntry fs
append_valid es copied entry fs is same each valid = subst (λ (l : List Entry). AllByRecursion IsEntry l) (sym is) (go es each)
  where
    go : (xs : List Entry) → AllByRecursion IsEntry xs → AllByRecursion IsEntry (xs ++ copied ∷ [])
    go [] all = (subst (λ (e : Entry). IsEntry e) (sym same) valid, tt)
    go (x ∷ xs) all = (all.0, go xs all.1)

dropped : (at : ℕ) (es : List (Name × Entry)) (e : Name × Entry) → slice_get es at ≡ Some e → drop at es ≡ e ∷ drop (at + 1) es
dropped at [] e is = absurd (cc)
dropped zero (x ∷ es) e is = let same : x ≡ e = cc in ap (λ (y : Name × Entry). y ∷ es) same
dropped (suc at) (x ∷ es) e is = let next : suc at + 1 ≡ suc (at + 1) = omega arith in rw next (dropped at es e is)

pub room_for : (at room : ℕ) (es : List (Name × Entry)) (e : Name × Entry) → slice_get es at ≡ Some e → entry_size e.1 ≤ room
    → front_within entry_size room (map (λ (x : Name × Entry). x.1) (drop at es)) ≡ e.1 ∷ front_within entry_size (room - entry_size e.1) (map (λ (x : Name × Entry). x.1) (drop (at + 1) es))
room_for at room es e is fits =
    ap (λ (l : List (Name × Entry)). front_within entry_size room (map (λ (x : Name × Entry). x.1) l)) (dropped at es e is)
    ∙ ap (λ (b : Bool). if b then e.1 ∷ front_within entry_size (room - entry_size e.1) (map (λ (x : Name × Entry). x.1) (drop (at + 1) es)) else []) (le-true (entry_size e.1) room fits)

pub no_room : (at room : ℕ) (es : List (Name × Entry)) (e : Name × Entry) → slice_get es at ≡ Some e → room < entry_size e.1 → front_within entry_size room (map (λ (x : Name × Entry). x.1) (drop at es)) ≡ []
no_room at room es e is full =
    ap (λ (l : List (Name × Entry)). front_within entry_size room (map (λ (x : Name × Entry). x.1) l)) (dropped at es e is)
    ∙ ap (λ (b : Bool). if b then e.1 ∷ front_within entry_size (room - entry_size e.1) (map (λ (x : Name × Entry). x.1) (drop (at + 1) es)) else []) (le-false (entry_size e.1) room full)
