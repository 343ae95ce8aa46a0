-- A map by clients and the sessions that it stands for.
use Rattle.std.proofs.Common.{arith, ◌≡◌, ℕ, suc, ◌+◌, ◌≤◌, ◌<◌, ◌^◌, nat_lt, Bool, true, false, if◌then◌else◌, cond, List, [], ◌∷◌, ◌++◌, length, Option, Some, None, refl, sym, ◌∙◌, ap, subst}
use Rattle.std.specs.Prelude.{◌==◌, option_map}
use denote.Ref.{Bor}
use Rattle.std.specs.Option.{option_copied}
use Rattle.std.specs.List.{AllByRecursion}
use Rattle.std.specs.Ordering.{MatchOrdering}
use Rattle.std.specs.Ordering.{nat_cmp, is_eq, match_ordering}
use Rattle.std.specs.declared.cmp.Ordering.{Ordering}
use Rattle.std.specs.declared.cmp.Ordering.TheVariants.{Less, Equal, Greater}
use Rattle.std.specs.BTreeMap.{insert_entry}
use Rattle.std.specs.Map.{lookup}
use Rattle.std.proofs.lemmas.Cmp.{ranked}
use Rattle.std.proofs.lemmas.Bool.Decides.{nat_tests}
use Rattle.mrp_types.specs.declared.id.ClientId.{ClientId}
use Rattle.plain_model.specs.Replicas.{Session, session_at, with_session}
use Rattle.plain_model.proofs.FoldLogs.{number_is}
use Rattle.state_laws.specs.States.{AreSessions}
use Rattle.state_laws.proofs.Written.{few_sessions}
use Rattle.replica_state.specs.declared.sessions.Kept.{Kept}
use Rattle.replica_state.specs.Held.{session_of, sessions_in}

same_test : (a b : ℕ) → is_eq (nat_cmp a b) ≡ (b == a)
same_test a b = by (nat_cmp a b) refl (ranked a b (nat_cmp a b) refl)
  where
    by : (o : Ordering) → nat_cmp a b ≡ o → MatchOrdering o (a < b) (a ≡ b) (b < a) → is_eq o ≡ (b == a)
    by Less e h = grind (arith, nat_tests)
    by Equal e h = grind (arith, nat_tests)
    by Greater e h = grind (arith, nat_tests)

pub found : (client : ClientId) (es : List (ℕ × Kept)) → option_map (λ (k : Kept). session_of (client.0, k)) (lookup (λ (n : ℕ). is_eq (nat_cmp client.0 n)) es) ≡ session_at client (sessions_in es)
found client [] = refl
found client (e ∷ es) = by (e.0 == client.0) refl (same_test client.0 e.0) (found client es)
  where
    by : (t : Bool) → (e.0 == client.0) ≡ t → is_eq (nat_cmp client.0 e.0) ≡ (e.0 == client.0) → option_map (λ (k : Kept). session_of (client.0, k)) (lookup (λ (n : ℕ). is_eq (nat_cmp client.0 n)) es) ≡ session_at client (sessions_in es) →
        option_map (λ (k : Kept). session_of (client.0, k)) (cond (is_eq (nat_cmp client.0 e.0)) (Some e.1) (lookup (λ (n : ℕ). is_eq (nat_cmp client.0 n)) es)) ≡ (if e.0 == client.0 then Some (session_of e) else session_at client (sessions_in es))
    by true is test later =
        ap (λ (t : Bool). option_map (λ (k : Kept). session_of (client.0, k)) (cond t (Some e.1) (lookup (λ (n : ℕ). is_eq (nat_cmp client.0 n)) es))) (test ∙ is)
        ∙ (ap (λ (n : ℕ). Some (session_of (n, e.1))) (sym (number_is e.0 client.0 is)) ∙ sym (ap (λ (t : Bool). if t then Some (session_of e) else session_at client (sessions_in es)) is))
    by false is test later =
        ap (λ (t : Bool). option_map (λ (k : Kept). session_of (client.0, k)) (cond t (Some e.1) (lookup (λ (n : ℕ). is_eq (nat_cmp client.0 n)) es))) (test ∙ is)
        ∙ (later ∙ sym (ap (λ (t : Bool). if t then Some (session_of e) else session_at client (sessions_in es)) is))

pub kept_in : (es : List (ℕ × Kept)) (k : ℕ) (v : Kept) → sessions_in (insert_entry nat_cmp es k v) ≡ with_session (session_of (k, v)) (sessions_in es)
kept_in [] k v = refl
kept_in (e ∷ es) k v = by (nat_cmp k e.0) (ranked k e.0 (nat_cmp k e.0) refl) (kept_in es k v)
  where
    new : Session
    new = session_of (k, v)

    rest : List Session
    rest = sessions_in es

    by : (o : Ordering) → MatchOrdering o (k < e.0) (k ≡ e.0) (e.0 < k) → sessions_in (insert_entry nat_cmp es k v) ≡ with_session new rest →
        sessions_in (match_ordering o ((k, v) ∷ e ∷ es) ((e.0, v) ∷ es) (e ∷ insert_entry nat_cmp es k v)) ≡ (if nat_lt k e.0 then new ∷ session_of e ∷ rest else if k == e.0 then new ∷ rest else session_of e ∷ with_session new rest)
    by Less h later =
        let less : nat_lt k e.0 ≡ true = grind (arith, nat_tests) in
        sym (ap (λ (t : Bool). if t then new ∷ session_of e ∷ rest else if k == e.0 then new ∷ rest else session_of e ∷ with_session new rest) less)
    by Equal h later =
        let less : nat_lt k e.0 ≡ false = grind (arith, nat_tests) in
        let same : (k == e.0) ≡ true = grind (arith, nat_tests) in
        ap (λ (n : ℕ). session_of (n, v) ∷ rest) (sym h)
        ∙ sym (ap (λ (t : Bool). if t then new ∷ session_of e ∷ rest else if k == e.0 then new ∷ rest else session_of e ∷ with_session new rest) less
        ∙ ap (λ (t : Bool). if t then new ∷ rest else session_of e ∷ with_session new rest) same)
    by Greater h later =
        let less : nat_lt k e.0 ≡ false = grind (arith, nat_tests) in
        let apart : (k == e.0) ≡ false = grind (arith, nat_tests) in
        ap (λ (l : List Session). session_of e ∷ l) later
        ∙ sym (ap (λ (t : Bool). if t then new ∷ session_of e ∷ rest else if k == e.0 then new ∷ rest else session_of e ∷ with_session new rest) less
        ∙ ap (λ (t : Bool). if t then new ∷ rest else session_of e ∷ with_session new rest) apart)

pub each_short : (least : ℕ) (sessions : List Session) → AreSessions least sessions → AllByRecursion (λ (s : Session). length s.reply < 2 ^ 32) sessions
each_short least [] are = tt
each_short least (s ∷ sessions) are = (let short = are.0.reply.short in omega arith, each_short (s.client.0 + 1) sessions are.1)

pub seen_through : (n : ℕ) (o : Option (Bor Kept)) → option_map (λ (b : Bor Kept). session_of (n, b.now)) o ≡ option_map (λ (k : Kept). session_of (n, k)) (option_copied o)
seen_through n None = refl
seen_through n (Some b) = refl

in_number : (es : List (ℕ × Kept)) → length (sessions_in es) ≡ length es
in_number [] = refl
in_number (e ∷ es) = ap (λ (n : ℕ). suc n) (in_number es)

pub few_kept : (es : List (ℕ × Kept)) → AreSessions 0 (sessions_in es) → length es < 65536
few_kept es are = omega (arith, in_number es, few_sessions 0 (sessions_in es) (omega arith) are)

pub in_number_of : (es : List (ℕ × Kept)) (n : ℕ) → n ≡ length es → n ≡ length (sessions_in es)
in_number_of es n is = is ∙ sym (in_number es)

-- ---- a session of a greater client comes last

pub came_last : (new : Session) (least : ℕ) (xs now : List Session) → AllByRecursion (λ (s : Session). s.client.0 < least) xs → least ≤ new.client.0 → now ≡ with_session new xs → now ≡ xs ++ new ∷ []
came_last new least xs now all most made = made ∙ last xs all
  where
    last : (xs : List Session) → AllByRecursion (λ (s : Session). s.client.0 < least) xs → with_session new xs ≡ xs ++ new ∷ []
    last [] all = refl
    last (x ∷ xs) all =
        let lower = all.0 in
        let less : nat_lt new.client.0 x.client.0 ≡ false = grind (arith, nat_tests) in
        let apart : (new.client.0 == x.client.0) ≡ false = grind (arith, nat_tests) in
        ap (λ (t : Bool). if t then new ∷ x ∷ xs else if new.client.0 == x.client.0 then new ∷ xs else x ∷ with_session new xs) less
        ∙ (ap (λ (t : Bool). if t then new ∷ xs else x ∷ with_session new xs) apart ∙ ap (λ (l : List Session). x ∷ l) (last xs all.1))

pub all_below : (new : Session) (least : ℕ) (xs now : List Session) → AllByRecursion (λ (s : Session). s.client.0 < least) xs → least ≤ new.client.0 → now ≡ xs ++ new ∷ [] →
    AllByRecursion (λ (s : Session). s.client.0 < new.client.0 + 1) now
all_below new least xs now all most made = subst (λ (l : List Session). AllByRecursion (λ (s : Session). s.client.0 < new.client.0 + 1) l) (sym made) (each xs all)
  where
    each : (xs : List Session) → AllByRecursion (λ (s : Session). s.client.0 < least) xs → AllByRecursion (λ (s : Session). s.client.0 < new.client.0 + 1) (xs ++ new ∷ [])
    each [] all = (omega arith, tt)
    each (x ∷ xs) all = (let lower = all.0 in omega arith, each xs all.1)
