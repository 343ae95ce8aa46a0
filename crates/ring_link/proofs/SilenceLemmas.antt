-- What one more event does to what the events so far leave.
use Rattle.std.proofs.Common.{◌≡◌, ℕ, suc, ◌+◌, ◌-◌, ◌<◌, Bool, true, false, not, cond, ◌&&◌, List, [], ◌∷◌, ◌++◌, length, get_or, take, drop, refl, sym, ◌∙◌, ap, arith, inl, inr, length-append}
use Rattle.std.specs.Prelude.{◌==◌, nat_le, min, map, replicate, count_by, slice_set, Option, IsNone, is_some, Some, None, find}
use Rattle.std.specs.Option.{option_or}
use Rattle.std.specs.List.{after_last, suffix_len, prefix_len, position_or_len, before_first, after_first}
use Rattle.std.proofs.lemmas.Bool.{cases_lt, cases_eq}
use Rattle.std.proofs.lemmas.Bool.Decides.{nat_tests}
use Rattle.std.proofs.lemmas.Grind.{common_steps, same_number_lists}
use Rattle.std.proofs.lemmas.List.{reverse-append, drop-append-le, get_or-map, get_or-set_same, get_or-set_other, length-map, length-set, length-replicate, get_or-replicate, take-append-drop, take_more}
use Rattle.std.proofs.lemmas.List.Folds.{find-append}
use Rattle.std.proofs.lemmas.List.Sums.{suffix_len-le-length}
use Rattle.std.proofs.lemmas.List.FromFn.{length-map-range_with_len, get_or-map-range_with_len}
use Rattle.ring_link.specs.Silence.{Event, Tick, Heard, is_tick, is_hearing, silence, is_suspected_after, quiet_after, link_after, longer, with_tick, with_heard, is_silent, is_next, successor_by}
use Rattle.mrp_types.specs.declared.id.NodeId.{NodeId}

-- ---- the part of a list after the last element that passes a test

suffix_len-push : {X : Type 0} (p : X → Bool) (xs : List X) (x : X) → suffix_len p (xs ++ x ∷ []) ≡ cond (p x) (1 + suffix_len p xs) 0
suffix_len-push p xs x = ap (prefix_len p) (reverse-append xs (x ∷ []))

drop_all : {X : Type 0} (xs : List X) (x : X) → drop (length (xs ++ x ∷ []) - 0) (xs ++ x ∷ []) ≡ []
drop_all xs x = grind (arith, common_steps)

after_last-push_yes : {X : Type 0} (p : X → Bool) (xs : List X) (x : X) → p x ≡ true → after_last p (xs ++ x ∷ []) ≡ []
after_last-push_yes p xs x h =
    rw (suffix_len-push (λ y. not (p y)) xs x) (rw h (drop_all xs x))

after_last-push_no : {X : Type 0} (p : X → Bool) (xs : List X) (x : X) → p x ≡ false → after_last p (xs ++ x ∷ []) ≡ after_last p xs ++ x ∷ []
after_last-push_no p xs x h =
    let within = suffix_len-le-length (λ y. not (p y)) xs in
    let count : length (xs ++ x ∷ []) - (1 + suffix_len (λ y. not (p y)) xs) ≡ length xs - suffix_len (λ y. not (p y)) xs = omega (arith, length-append xs (x ∷ [])) in
    rw (suffix_len-push (λ y. not (p y)) xs x) (rw h (rw count (drop-append-le (length xs - suffix_len (λ y. not (p y)) xs) xs (x ∷ []) (omega arith))))

count_by-push : {X : Type 0} (p : X → Bool) (xs : List X) (x : X) → count_by p (xs ++ x ∷ []) ≡ count_by p xs + cond (p x) 1 0
count_by-push p xs x = grind (arith, common_steps)

-- ---- silence

pub silence-tick : (node : ℕ) (events : List Event) → silence node (events ++ Tick ∷ []) ≡ silence node events + 1
silence-tick node events =
    ap (count_by is_tick) (after_last-push_no (is_hearing node) events Tick refl) ∙ count_by-push is_tick (after_last (is_hearing node) events) Tick

pub silence-heard : (node n : ℕ) (events : List Event) → n ≡ node → silence node (events ++ Heard n ∷ []) ≡ 0
silence-heard node n events h =
    let test : is_hearing node (Heard n) ≡ true = grind (arith, nat_tests) in
    ap (count_by is_tick) (after_last-push_yes (is_hearing node) events (Heard n) test)

pub silence-other : (node n : ℕ) (events : List Event) → (n ≡ node → ⊥) → silence node (events ++ Heard n ∷ []) ≡ silence node events
silence-other node n events h =
    let test : is_hearing node (Heard n) ≡ false = grind (arith, nat_tests) in
    let more : count_by is_tick (after_last (is_hearing node) events ++ Heard n ∷ []) ≡ silence node events + 0 = count_by-push is_tick (after_last (is_hearing node) events) (Heard n) in
    ap (count_by is_tick) (after_last-push_no (is_hearing node) events (Heard n) test) ∙ more ∙ omega arith

-- ---- what is kept

pub quiet_after-at : (events : List Event) (node : ℕ) → node < 256 → get_or (quiet_after events) node 0 ≡ min (silence node events) 65535
unfolding quiet_after
quiet_after-at events node h = get_or-map-range_with_len (λ n. min (silence n events) 65535) 0 256 node node 0 h (omega arith)

pub length-quiet_after : (events : List Event) → length (quiet_after events) ≡ 256
unfolding quiet_after
length-quiet_after events = length-map-range_with_len (λ n. min (silence n events) 65535) 0 256

quiet_after-tick : (events : List Event) → map longer (quiet_after events) ≡ quiet_after (events ++ Tick ∷ [])
quiet_after-tick events =
    let long = length-quiet_after events in
    let size : length (map longer (quiet_after events)) ≡ 256 = length-map (quiet_after events) longer ∙ long in
    same_number_lists (map longer (quiet_after events)) (quiet_after (events ++ Tick ∷ [])) (size ∙ sym (length-quiet_after (events ++ Tick ∷ [])))
    (λ k h.
    let below : k < 256 = omega arith in
    let within : k < length (quiet_after events) = omega arith in
    let old = quiet_after-at events k below in
    let new = quiet_after-at (events ++ Tick ∷ []) k below in
    let mapped = get_or-map longer (quiet_after events) k 0 0 within in
    let more = silence-tick k events in
    omega arith)

quiet_after-heard : (node : ℕ) (events : List Event) → node < 256 → slice_set (quiet_after events) node 0 ≡ quiet_after (events ++ Heard node ∷ [])
quiet_after-heard node events fits =
    let long = length-quiet_after events in
    let size : length (slice_set (quiet_after events) node 0) ≡ 256 = length-set (quiet_after events) node 0 ∙ long in
    same_number_lists (slice_set (quiet_after events) node 0) (quiet_after (events ++ Heard node ∷ [])) (size ∙ sym (length-quiet_after (events ++ Heard node ∷ [])))
    (λ k h.
    let below : k < 256 = omega arith in
    let old = quiet_after-at events k below in
    let new = quiet_after-at (events ++ Heard node ∷ []) k below in
    elim (cases_eq k node) [
      | inl same ↦
          let there : node < length (quiet_after events) = omega arith in
          let set = get_or-set_same (quiet_after events) node 0 0 there in
          let none = silence-heard k node events (sym same) in
          rw same (set ∙ sym (quiet_after-at (events ++ Heard node ∷ []) node fits ∙ rw (silence-heard node node events refl) (omega arith)))
      | inr ne ↦
          let other : (k ≡ node → ⊥) = ne in
          let set : get_or (slice_set (quiet_after events) node 0) k 0 ≡ get_or (quiet_after events) k 0 = rw get_or-set_other refl in
          let kept = silence-other k node events (λ is. ne (sym is)) in
          omega arith
    ])

pub link_after-tick : (suspect : ℕ) (events : List Event) → with_tick (link_after suspect events) ≡ link_after suspect (events ++ Tick ∷ [])
link_after-tick suspect events = let same = quiet_after-tick events in cc

pub link_after-heard : (suspect node : ℕ) (events : List Event) → node < 256 → with_heard node (link_after suspect events) ≡ link_after suspect (events ++ Heard node ∷ [])
link_after-heard suspect node events fits = let same = quiet_after-heard node events fits in cc

-- a silence at which a count stands still is as long as any that is asked for
pub is_silent-link_after : (suspect node : ℕ) (events : List Event) → node < 256 → suspect < 65536 → is_silent (link_after suspect events) node ≡ is_suspected_after suspect events node
is_silent-link_after suspect node events fits small =
    let at = quiet_after-at events node fits in
    rw at (still (silence node events))
  where
    still : (n : ℕ) → nat_le suspect (min n 65535) ≡ nat_le suspect n
    still n =
        elim (cases_lt n suspect) [
          | inl below ↦ grind (arith, nat_tests)
          | inr from ↦ grind (arith, nat_tests)
        ]

pub quiet_after-start : replicate {A = ℕ} 256 0 ≡ quiet_after []
quiet_after-start =
    same_number_lists (replicate {A = ℕ} 256 0) (quiet_after []) (length-replicate {A = ℕ} 256 0 ∙ sym (length-quiet_after []))
    (λ k h.
    let size : length (replicate {A = ℕ} 256 0) ≡ 256 = length-replicate {A = ℕ} 256 0 in
    let below : k < 256 = omega arith in
    let old : get_or (replicate {A = ℕ} 256 0) k 0 ≡ 0 = get_or-replicate {A = ℕ} 256 k 0 0 below in
    let new : get_or (quiet_after []) k 0 ≡ min 0 65535 = quiet_after-at [] k below in
    old ∙ sym new)

-- ---- the first element that passes a test

pub find-miss : {X : Type 0} (p : X → Bool) (xs : List X) (i : ℕ) (d : X) → i < length xs → find p (take i xs) ≡ None → p (get_or xs i d) ≡ false → find p (take (i + 1) xs) ≡ None
find-miss p xs i d h none fails =
    ap (find p) (take_more xs i d h) ∙ find-append p (take i xs) (get_or xs i d ∷ []) ∙ rw none (rw fails refl)

pub find-hit : {X : Type 0} (p : X → Bool) (xs : List X) (i : ℕ) (d : X) → i < length xs → find p (take i xs) ≡ None → p (get_or xs i d) ≡ true → Some (get_or xs i d) ≡ find p xs
find-hit p xs i d h none passes =
    let front : find p (take (i + 1) xs) ≡ Some (get_or xs i d) =
    ap (find p) (take_more xs i d h) ∙ find-append p (take i xs) (get_or xs i d ∷ []) ∙ rw none (rw passes refl) in
    let whole = take-append-drop (i + 1) xs in
    sym (ap (find p) (sym whole) ∙ find-append p (take (i + 1) xs) (drop (i + 1) xs) ∙ rw front refl)

pub is_next-own : (suspected : ℕ → Bool) (own node : NodeId) → (node.0 == own.0) ≡ true → is_next suspected own node ≡ false
is_next-own suspected own node h = rw h refl

pub is_next-suspected : (suspected : ℕ → Bool) (own node : NodeId) → suspected node.0 ≡ true → is_next suspected own node ≡ false
is_next-suspected suspected own node h = rw h (and_false (not (node.0 == own.0)))
  where
    and_false : (b : Bool) → (b && false) ≡ false
    and_false true = refl
    and_false false = refl

pub is_next-other : (suspected : ℕ → Bool) (own node : NodeId) → (node.0 == own.0) ≡ false → suspected node.0 ≡ false → is_next suspected own node ≡ true
is_next-other suspected own node h i = rw h (rw i refl)

-- ---- the round

pub successor_after : (suspected : ℕ → Bool) (order : List NodeId) (own : NodeId) (at : ℕ) (x : NodeId) → at ≡ position_or_len (λ n. n.0 == own.0) order → Some x ≡ find (is_next suspected own) (drop (at + 1) order) → Some x ≡ successor_by suspected order own
successor_after suspected order own at x place found =
    let first : find (is_next suspected own) (after_first (λ n. n.0 == own.0) order) ≡ Some x = rw (← place) (sym found) in
    sym (find-append (is_next suspected own) (after_first (λ n. n.0 == own.0) order) (before_first (λ n. n.0 == own.0) order) ∙ rw first refl)

pub successor_before : (suspected : ℕ → Bool) (order : List NodeId) (own : NodeId) (at : ℕ) (r : Option NodeId) → at ≡ position_or_len (λ n. n.0 == own.0) order → find (is_next suspected own) (drop (at + 1) order) ≡ None → r ≡ find (is_next suspected own) (take at order) → r ≡ successor_by suspected order own
successor_before suspected order own at r place none found =
    let first : find (is_next suspected own) (after_first (λ n. n.0 == own.0) order) ≡ None = rw (← place) none in
    let second : r ≡ find (is_next suspected own) (before_first (λ n. n.0 == own.0) order) = rw (← place) found in
    second ∙ sym (find-append (is_next suspected own) (after_first (λ n. n.0 == own.0) order) (before_first (λ n. n.0 == own.0) order) ∙ rw first refl)

or_none : {X : Type 0} (a b : Option X) → option_or a b ≡ None → (a ≡ None) × (b ≡ None)
or_none None b h = (refl, h)
or_none (Some x) b h = absurd (cc)

is_none : {X : Type 0} (o : Option X) → IsNone o → o ≡ None
is_none None h = refl
is_none (Some x) h = absurd (cc)

none_or : {X : Type 0} (a b : Option X) → a ≡ None → b ≡ None → option_or a b ≡ None
none_or a b h i = rw h i

-- the list is what stands before a node, the node and what stands after it, or lacks the node
round_parts : (p : NodeId → Bool) (own : NodeId) (order : List NodeId) → ((n : NodeId) → (n.0 == own.0) ≡ true → p n ≡ false)
    → find p order ≡ option_or (find p (before_first (λ n. n.0 == own.0) order)) (find p (after_first (λ n. n.0 == own.0) order))
round_parts p own [] fails = refl
round_parts p own (x ∷ xs) fails = head (x.0 == own.0) refl (p x) refl (round_parts p own xs fails)
  where
    head : (b : Bool) → (x.0 == own.0) ≡ b → (o : Bool) → p x ≡ o → find p xs ≡ option_or (find p (before_first (λ n. n.0 == own.0) xs)) (find p (after_first (λ n. n.0 == own.0) xs))
        → find p (x ∷ xs) ≡ option_or (find p (before_first (λ n. n.0 == own.0) (x ∷ xs))) (find p (after_first (λ n. n.0 == own.0) (x ∷ xs)))
    head true h o i rest = rw h (rw (fails x h) refl)
    head false h true i rest =
        let one : 1 + position_or_len (λ (n : NodeId). n.0 == own.0) xs ≡ suc (position_or_len (λ n. n.0 == own.0) xs) = omega arith in
        rw h (rw one (rw i refl))
    head false h false i rest =
        let one : 1 + position_or_len (λ (n : NodeId). n.0 == own.0) xs ≡ suc (position_or_len (λ n. n.0 == own.0) xs) = omega arith in
        let next : suc (position_or_len (λ (n : NodeId). n.0 == own.0) xs) + 1 ≡ suc (position_or_len (λ n. n.0 == own.0) xs + 1) = omega arith in
        rw h (rw one (rw next (rw i rest)))

pub successor-none : (suspected : ℕ → Bool) (order : List NodeId) (own : NodeId) (r : Option NodeId) → r ≡ successor_by suspected order own → (IsNone r → find (is_next suspected own) order ≡ None) × (find (is_next suspected own) order ≡ None → IsNone r)
successor-none suspected order own r is =
    let parts = round_parts (is_next suspected own) own order (λ n h. is_next-own suspected own n h) in
    let round : r ≡ option_or (find (is_next suspected own) (after_first (λ n. n.0 == own.0) order)) (find (is_next suspected own) (before_first (λ n. n.0 == own.0) order)) =
    is ∙ find-append (is_next suspected own) (after_first (λ n. n.0 == own.0) order) (before_first (λ n. n.0 == own.0) order) in
    let after : Option NodeId = find (is_next suspected own) (after_first (λ n. n.0 == own.0) order) in
    let before : Option NodeId = find (is_next suspected own) (before_first (λ n. n.0 == own.0) order) in (
      (λ none. let both = or_none after before (sym round ∙ is_none r none) in parts ∙ none_or before after both.1 both.0),
      (λ none. let both = or_none before after (sym parts ∙ none) in ap is_some (round ∙ none_or after before both.1 both.0)),
    )
