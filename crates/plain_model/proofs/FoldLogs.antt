-- What a replica's logs become with an entry is what the plain lists say of them.
use Rattle.std.proofs.Common.{arith, ◌≡◌, ◌≤◌, ℕ, zero, suc, ◌+◌, ◌-◌, max, ◌==◌, Bool, true, false, if◌then◌else◌, List, [], ◌∷◌, ◌++◌, length, drop, Option, Some, None, refl, sym, ap, ◌∙◌, append-nil, true≢false}
use Rattle.std.specs.Prelude.{map, filter_map}
use Rattle.std.proofs.Math.Path.{ap₂}
use Rattle.std.proofs.Math.Seq.{drop-nil}
use Rattle.std.proofs.lemmas.List.{drop-append-le, length-drop}
use Rattle.std.proofs.lemmas.List.Elements.{filter_map-append}
use Rattle.mrp_types.specs.declared.id.LogId.{LogId}
use Rattle.mrp_config.specs.Config.{has_log}
use Rattle.plain_model.specs.Replicas.{LogState, log_length, log_at, with_log, with_value, trimmed_to}
use Rattle.plain_model.specs.Fold.{Answered, is_limit, added_to, values_of, cut_of, trim_of, kept_from, log_of}

-- the value that an answered entry adds to a log
abbrev pub adds : LogId → Answered → Option (List ℕ)
adds log a = if is_limit a.reply then None else added_to log a.command

abbrev pub added_list : Option (List ℕ) → List (List ℕ)
added_list None = []
added_list (Some value) = value ∷ []

one_item : (h : Answered → Option (List ℕ)) (a : Answered) (o : Option (List ℕ)) → h a ≡ o → filter_map h (a ∷ []) ≡ added_list o
one_item h a None e = grind (arith, e)
one_item h a (Some value) e = grind (arith, e)

pub values-snoc : (log : LogId) (ans : List Answered) (a : Answered) (o : Option (List ℕ)) → adds log a ≡ o → values_of log (ans ++ a ∷ []) ≡ values_of log ans ++ added_list o
values-snoc log ans a o e = filter_map-append (λ (b : Answered). adds log b) ans (a ∷ []) ∙ ap (λ (l : List (List ℕ)). values_of log ans ++ l) (one_item (λ (b : Answered). adds log b) a o e)

max_chain : (a b c d : ℕ) → b ≡ max c d → max a b ≡ max (max a c) d
max_chain a b c d e = omega (arith, e)

pub trim-snoc : (log : LogId) (ans : List Answered) (a : Answered) → trim_of log (ans ++ a ∷ []) ≡ max (trim_of log ans) (cut_of log a.command a.reply)
trim-snoc log [] a = omega arith
trim-snoc log (b ∷ ans) a = max_chain (cut_of log b.command b.reply) (trim_of log (ans ++ a ∷ [])) (trim_of log ans) (cut_of log a.command a.reply) (trim-snoc log ans a)

-- an entry that neither adds to a log nor trims it
same-log : (log : LogId) (ans : List Answered) (a : Answered) → adds log a ≡ None → cut_of log a.command a.reply ≡ 0 → log_of log (ans ++ a ∷ []) ≡ log_of log ans
same-log log ans a e f = ap₂ (kept_from log) (trim-snoc log ans a ∙ no_cut (trim_of log ans) (cut_of log a.command a.reply) f) (values-snoc log ans a None e ∙ append-nil (values_of log ans))
  where
    no_cut : (t c : ℕ) → c ≡ 0 → max t c ≡ t
    no_cut t c z = omega (arith, z)

pub same-list : (ids : List LogId) (ans : List Answered) (a : Answered) → ((log : LogId) → adds log a ≡ None) → ((log : LogId) → cut_of log a.command a.reply ≡ 0) →
    map (λ (log : LogId). log_of log ans) ids ≡ map (λ (log : LogId). log_of log (ans ++ a ∷ [])) ids
same-list [] ans a e f = refl
same-list (log ∷ ids) ans a e f = ap₂ (λ (x : LogState) (xs : List LogState). x ∷ xs) (sym (same-log log ans a (e log) (f log))) (same-list ids ans a e f)

-- an entry that adds a value
more-log : (log : LogId) (ans : List Answered) (a : Answered) (value : List ℕ) → trim_of log ans ≤ length (values_of log ans) → adds log a ≡ Some value → cut_of log a.command a.reply ≡ 0 →
    log_of log (ans ++ a ∷ []) ≡ record { id = log; trim = trim_of log ans; values = drop (trim_of log ans) (values_of log ans) ++ value ∷ [] }
more-log log ans a value kept e f =
    ap₂ (kept_from log) (trim-snoc log ans a ∙ no_cut (trim_of log ans) (cut_of log a.command a.reply) f) (values-snoc log ans a (Some value) e)
    ∙ ap (λ (l : List (List ℕ)). made l) (drop-append-le (trim_of log ans) (values_of log ans) (value ∷ []) kept)
  where
    no_cut : (t c : ℕ) → c ≡ 0 → max t c ≡ t
    no_cut t c z = omega (arith, z)

    made : List (List ℕ) → LogState
    made l = record { id = log; trim = trim_of log ans; values = l }

drop-drop : {X : Type 0} (n k : ℕ) (xs : List X) → drop n (drop k xs) ≡ drop (k + n) xs
drop-drop n zero xs = ap (λ (i : ℕ). drop i xs) at_it
  where
    at_it : n ≡ zero + n
    at_it = omega arith
drop-drop n (suc k) [] = drop-nil n ∙ sym (drop-nil (suc k + n))
drop-drop n (suc k) (x ∷ xs) = drop-drop n k xs ∙ ap (λ (i : ℕ). drop i (x ∷ xs)) at_it
  where
    at_it : suc (k + n) ≡ suc k + n
    at_it = omega arith

-- ---- appending

-- a log takes a value where it is named
take-log : (log : LogId) (ans : List Answered) (a : Answered) (value : List ℕ) (t : Bool) → trim_of log ans ≤ length (values_of log ans) →
    adds log a ≡ (if t then Some value else None) → cut_of log a.command a.reply ≡ 0 →
    (if t then record (log_of log ans) { values = (log_of log ans).values ++ value ∷ [] } else log_of log ans) ≡ log_of log (ans ++ a ∷ [])
take-log log ans a value true kept e f = sym (more-log log ans a value kept e f)
take-log log ans a value false kept e f = sym (same-log log ans a e f)

pub takes-list : (ids : List LogId) (ans : List Answered) (a : Answered) (value : List ℕ) (named : List LogId) → ((log : LogId) → trim_of log ans ≤ length (values_of log ans)) →
    ((log : LogId) → adds log a ≡ (if has_log named log.0 then Some value else None)) → ((log : LogId) → cut_of log a.command a.reply ≡ 0) →
    with_value value named (map (λ (log : LogId). log_of log ans) ids) ≡ map (λ (log : LogId). log_of log (ans ++ a ∷ [])) ids
takes-list [] ans a value named kept e f = refl
takes-list (log ∷ ids) ans a value named kept e f =
    ap₂ (λ (x : LogState) (xs : List LogState). x ∷ xs) (take-log log ans a value (has_log named log.0) (kept log) (e log) (f log)) (takes-list ids ans a value named kept e f)

-- ---- trimming

pub same_id : (a b : LogId) → a.0 ≡ b.0 → a ≡ b
same_id a b same = let made : ℕ → LogId = λ r. record { 0 = r } in ap made same

pub number_is : (a b : ℕ) → (a == b) ≡ true → a ≡ b
number_is a b e = grind arith

at_if : (t : Bool) (x y z : LogState) → (t ≡ true → x ≡ z) → (t ≡ false → y ≡ z) → (if t then x else y) ≡ z
at_if true x y z e f = e refl
at_if false x y z e f = f refl

-- the partition's log of a number
pub log-at : (ids : List LogId) (ans : List Answered) (log : LogId) → has_log ids log.0 ≡ true → log_at log (map (λ (l : LogId). log_of l ans) ids) ≡ log_of log ans
log-at [] ans log has = absurd (true≢false (sym has))
log-at (id ∷ ids) ans log has = by (id.0 == log.0) refl has (λ h. log-at ids ans log h)
  where
    by : (t : Bool) → (id.0 == log.0) ≡ t → (if t then true else has_log ids log.0) ≡ true →
        (has_log ids log.0 ≡ true → log_at log (map (λ (l : LogId). log_of l ans) ids) ≡ log_of log ans) →
        (if t then log_of id ans else log_at log (map (λ (l : LogId). log_of l ans) ids)) ≡ log_of log ans
    by true e h later = ap (λ (l : LogId). log_of l ans) (same_id id log (number_is id.0 log.0 e))
    by false e h later = later h

pub length-kept : (log : LogId) (ans : List Answered) → trim_of log ans ≤ length (values_of log ans) → log_length (log_of log ans) ≡ length (values_of log ans)
length-kept log ans kept = omega (arith, kept, length-drop (trim_of log ans) (values_of log ans))

cut-log : (log : LogId) (ans : List Answered) (a : Answered) (position : ℕ) → adds log a ≡ None → cut_of log a.command a.reply ≡ position →
    trimmed_to position (log_of log ans) ≡ log_of log (ans ++ a ∷ [])
cut-log log ans a position e f = sym (ap₂ (kept_from log) (trim-snoc log ans a ∙ ap (λ (c : ℕ). max (trim_of log ans) c) f) (values-snoc log ans a None e ∙ append-nil (values_of log ans))
    ∙ ap (λ (l : List (List ℕ)). made l) (sym (drop-drop (position - trim_of log ans) (trim_of log ans) (values_of log ans) ∙ ap (λ (i : ℕ). drop i (values_of log ans)) (up (trim_of log ans) position))))
  where
    made : List (List ℕ) → LogState
    made l = record { id = log; trim = max (trim_of log ans) position; values = l }

    up : (t p : ℕ) → t + (p - t) ≡ max t p
    up t p = omega arith

pub cuts-list : (ids : List LogId) (ans : List Answered) (a : Answered) (named : LogId) (position : ℕ) → ((log : LogId) → adds log a ≡ None) →
    ((log : LogId) → cut_of log a.command a.reply ≡ (if named.0 == log.0 then position else 0)) →
    with_log (trimmed_to position (log_of named ans)) (map (λ (log : LogId). log_of log ans) ids) ≡ map (λ (log : LogId). log_of log (ans ++ a ∷ [])) ids
cuts-list [] ans a named position e f = refl
cuts-list (log ∷ ids) ans a named position e f = ap₂ (λ (x : LogState) (xs : List LogState). x ∷ xs) (by (log.0 == named.0) refl (f log)) (cuts-list ids ans a named position e f)
  where
    turned : (x y : ℕ) → (x == y) ≡ false → (y == x) ≡ false
    turned x y h = grind arith

    level : (x y : ℕ) → (x == y) ≡ true → (y == x) ≡ true
    level x y h = grind arith

    by : (t : Bool) → (log.0 == named.0) ≡ t → cut_of log a.command a.reply ≡ (if named.0 == log.0 then position else 0) →
        (if t then trimmed_to position (log_of named ans) else log_of log ans) ≡ log_of log (ans ++ a ∷ [])
    by true h cut = ap (λ (l : LogId). trimmed_to position (log_of l ans)) (sym (same_id log named (number_is log.0 named.0 h)))
        ∙ cut-log log ans a position (e log) (cut ∙ ap (λ (t : Bool). if t then position else 0) (level log.0 named.0 h))
    by false h cut = sym (same-log log ans a (e log) (cut ∙ ap (λ (t : Bool). if t then position else 0) (turned log.0 named.0 h)))
