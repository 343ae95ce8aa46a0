-- Readers of words, and how what they read is spelled: one law for each way to make a reader of others.
use Rattle.std.proofs.Common.{arith, ◌≡◌, ◌≢◌, ◌<◌, ℕ, List, [], ◌∷◌, ◌++◌, refl, sym, ap, ◌∙◌, subst, if◌then◌else◌, Bool, true, false, append_assoc, append-nil, nat_lt, ◌&&◌, Ok, Err}
use Rattle.std.proofs.lemmas.Slice.Eq.{bytes_eq-Decides}
use Rattle.std.specs.Prelude.{Result}
use Rattle.std.specs.List.{AllByRecursion, flat_map}
use Rattle.std.specs.Str.{bytes_eq}
use Rattle.text_lines.specs.Text.{set_off, joined_by}
use Rattle.mrp_types.specs.Reading.{◌>>=◌, both, shown, nothing}
use Rattle.text_lines.specs.Words.{Reader, one, tested, by_key, all_of}
use Rattle.text_lines.proofs.Inverse.{bound}
use Rattle.text_lines.proofs.Laws.{Lacks}
use Rattle.mrp_types.proofs.TestLemmas.{both as both_tests}

abbrev pub done : {A : Type 0} (E : Type 0) → A → Result A E
done E x = Ok x

pub done_is : {A : Type 0} (E : Type 0) (x y : A) → done E x ≡ done E y → x ≡ y
done_is E x y h = cc

-- ---- a word

-- A kind of word: values that may be are read as they are spelled, what is read is spelled so and may be, and no
-- spelling has a byte below that of a comma, as a space and a line feed are.
pub record Field {E V : Type 0} (says : List ℕ → Result V E) (spell : V → List ℕ) (Is : V → Type 0) : Type 0 where
  pub read : (v : V) → Is v → says (spell v) ≡ Ok v
  pub was : (word : List ℕ) (v : V) → says word ≡ Ok v → (word ≡ spell v) × Is v
  pub lacks : (byte : ℕ) → byte < 44 → (v : V) → Is v → Lacks byte (spell v)

-- ---- words

-- what was read is spelled by the words that were read
pub record Took {V : Type 0} (spell : V → List (List ℕ)) (Is : V → Type 0) (words : List (List ℕ)) (x : V × List (List ℕ)) : Type 0 where
  pub spelled : words ≡ spell x.0 ++ x.1
  pub is : Is x.0

-- the same of several words
pub record Words {E V : Type 0} (reader : Reader E V) (spell : V → List (List ℕ)) (Is : V → Type 0) : Type 0 where
  pub read : (v : V) (rest : List (List ℕ)) → Is v → reader (spell v ++ rest) ≡ Ok (v, rest)
  pub was : (words : List (List ℕ)) (x : V × List (List ℕ)) → reader words ≡ Ok x → Took spell Is words x
  pub lacks : (byte : ℕ) → byte < 44 → (v : V) → Is v → AllByRecursion (Lacks byte) (spell v)

-- the spelling of one word
abbrev pub alone : {V : Type 0} → (V → List ℕ) → V → List (List ℕ)
alone spell v = spell v ∷ []

one_was : {E V : Type 0} (says : List ℕ → Result V E) (spell : V → List ℕ) (Is : V → Type 0) → Field says spell Is → (missing : E) (words : List (List ℕ)) (x : V × List (List ℕ))
    → one missing says words ≡ Ok x → Took (alone spell) Is words x
one_was says spell Is field missing [] x h = absurd cc
one_was {E} {V} says spell Is field missing (word ∷ words) x h =
    let step = bound (says word) (λ (v : V). done E (v, words)) x h in
    let v = step.0 in
    let was = field.was word v step.1 in
    subst (λ y. Took (alone spell) Is (word ∷ words) y) (done_is E (v, words) x step.2) (record {
      spelled = ap (λ (w : List ℕ). w ∷ words) was.0;
      is = was.1;
    })

pub one_words : {E V : Type 0} (says : List ℕ → Result V E) (spell : V → List ℕ) (Is : V → Type 0) → Field says spell Is → (missing : E) → Words (one missing says) (alone spell) Is
one_words says spell Is field missing = record {
  read = λ v rest is. rw (field.read v is) refl;
  was = one_was says spell Is field missing;
  lacks = λ byte low v is. (field.lacks byte low v is, tt);
}

-- ---- one after the other

abbrev pub spell_both : {A B : Type 0} → (A → List (List ℕ)) → (B → List (List ℕ)) → A × B → List (List ℕ)
spell_both first second x = first x.0 ++ second x.1

abbrev pub IsBoth : {A B : Type 0} → (A → Type 0) → (B → Type 0) → A × B → Type 0
IsBoth First Second x = First x.0 × Second x.1

lacks_both : (byte : ℕ) (first second : List (List ℕ)) → AllByRecursion (Lacks byte) first → AllByRecursion (Lacks byte) second → AllByRecursion (Lacks byte) (first ++ second)
lacks_both byte [] second a b = b
lacks_both byte (word ∷ first) second a b = (a.0, lacks_both byte first second a.1 b)

module _ {E A B : Type 0} (first : Reader E A) (second : Reader E B) (spell : A → List (List ℕ)) (tell : B → List (List ℕ)) (Is : A → Type 0) (Are : B → Type 0)
    (one : Words first spell Is) (other : Words second tell Are) where
  both_read : (v : A × B) (rest : List (List ℕ)) → IsBoth Is Are v → both first second (spell_both spell tell v ++ rest) ≡ Ok (v, rest)
  both_read v rest is = rw (append_assoc (spell v.0) (tell v.1) rest, one.read v.0 (tell v.1 ++ rest) is.0, other.read v.1 rest is.1) refl

  both_was : (words : List (List ℕ)) (x : (A × B) × List (List ℕ)) → both first second words ≡ Ok x → Took (spell_both spell tell) (IsBoth Is Are) words x
  both_was words x h =
      let step = bound (first words) (λ a. second a.1 >>= λ b. Ok ((a.0, b.0), b.1)) x h in
      let a = step.0 in
      let next = bound (second a.1) (λ b. done E ((a.0, b.0), b.1)) x step.2 in
      let b = next.0 in
      let took = one.was words a step.1 in
      let then_took = other.was a.1 b next.1 in
      subst (λ y. Took (spell_both spell tell) (IsBoth Is Are) words y) (done_is E ((a.0, b.0), b.1) x next.2) (record {
        spelled = took.spelled ∙ ap (λ (ws : List (List ℕ)). spell a.0 ++ ws) then_took.spelled ∙ sym (append_assoc (spell a.0) (tell b.0) b.1);
        is = (took.is, then_took.is);
      })

  pub both_words : Words (both first second) (spell_both spell tell) (IsBoth Is Are)
  both_words = record {
    read = both_read;
    was = both_was;
    lacks = λ byte low v is. lacks_both byte (spell v.0) (tell v.1) (one.lacks byte low v.0 is.0) (other.lacks byte low v.1 is.1);
  }

pub two : {E A B : Type 0} {first : Reader E A} {second : Reader E B} {spell : A → List (List ℕ)} {tell : B → List (List ℕ)} {Is : A → Type 0} {Are : B → Type 0}
    → Words first spell Is → Words second tell Are → Words (both first second) (spell_both spell tell) (IsBoth Is Are)
two {first = first} {second = second} {spell = spell} {tell = tell} {Is = Is} {Are = Are} a b = both_words first second spell tell Is Are a b

-- ---- tested

abbrev pub IsTested : {A : Type 0} → (A → Bool) → (A → Type 0) → A → Type 0
IsTested test Is a = Is a × (test a ≡ true)

by_test : {E X : Type 0} (t : Bool) (fault : E) (a x : X) → (if t then Ok a else Err fault) ≡ Ok x → (t ≡ true) × (a ≡ x)
by_test {E} true fault a x h = (refl, done_is E a x h)
by_test false fault a x h = absurd cc

module _ {E A : Type 0} (fault : E) (test : A → Bool) (reader : Reader E A) (spell : A → List (List ℕ)) (Is : A → Type 0) (law : Words reader spell Is) where
  tested_was : (words : List (List ℕ)) (x : A × List (List ℕ)) → tested fault test reader words ≡ Ok x → Took spell (IsTested test Is) words x
  tested_was words x h =
      let step = bound (reader words) (λ a. if test a.0 then Ok a else Err fault) x h in
      let a = step.0 in
      let passed = by_test (test a.0) fault a x step.2 in
      let took = law.was words a step.1 in
      subst (λ y. Took spell (IsTested test Is) words y) passed.1 (record { spelled = took.spelled; is = (took.is, passed.0) })

  pub tested_words : Words (tested fault test reader) spell (IsTested test Is)
  tested_words = record {
    read = λ v rest is. rw (law.read v rest is.0, is.1) refl;
    was = tested_was;
    lacks = λ byte low v is. law.lacks byte low v is.0;
  }

-- ---- another view

-- what is read under a key, seen as another value
pub record Viewed {A B : Type 0} (key : List (List ℕ)) (spell : A → List (List ℕ)) (Is : A → Type 0) (view : A → B) (tell : B → List (List ℕ)) (Are : B → Type 0) : Type 0 where
  pub spelled : (a : A) → key ++ spell a ≡ tell (view a)
  pub is : (a : A) → Is a → Are (view a)

-- what is read after a key is spelled with it
abbrev pub Entry : {E V : Type 0} → (V → List (List ℕ)) → (V → Type 0) → List (List ℕ) → Reader E V → Type 0
Entry {E} {V} spell Is key reader = (words : List (List ℕ)) (x : V × List (List ℕ)) → reader words ≡ Ok x → Took spell Is (key ++ words) x

pub viewed_was : {E A B : Type 0} (key : List (List ℕ)) (reader : Reader E A) (spell : A → List (List ℕ)) (Is : A → Type 0) (view : A → B) (tell : B → List (List ℕ)) (Are : B → Type 0)
    → Words reader spell Is → Viewed key spell Is view tell Are → Entry tell Are key (shown view reader)
viewed_was {E} key reader spell Is view tell Are law seen words x h =
    let step = bound (reader words) (λ a. done E (view a.0, a.1)) x h in
    let a = step.0 in
    let took = law.was words a step.1 in
    subst (λ y. Took tell Are (key ++ words) y) (done_is E (view a.0, a.1) x step.2) (record {
      spelled = ap (λ (ws : List (List ℕ)). key ++ ws) took.spelled ∙ sym (append_assoc key (spell a.0) a.1) ∙ ap (λ (ws : List (List ℕ)). ws ++ a.1) (seen.spelled a.0);
      is = seen.is a.0 took.is;
    })

pub given_was : {E V : Type 0} (key : List (List ℕ)) (v : V) (spell : V → List (List ℕ)) (Is : V → Type 0) → key ≡ spell v → Is v → Entry {E = E} spell Is key (nothing v)
given_was {E} key v spell Is same is words x h =
    subst (λ y. Took spell Is (key ++ words) y) (done_is E (v, words) x h) (record { spelled = ap (λ (k : List (List ℕ)). k ++ words) same; is = is })

-- what is read is read as it is spelled, also seen as another value
pub shown_read : {E A B : Type 0} (reader : Reader E A) (view : A → B) (spell : A → List (List ℕ)) (Is : A → Type 0) → Words reader spell Is → (a : A) (rest : List (List ℕ)) → Is a
    → shown view reader (spell a ++ rest) ≡ Ok (view a, rest)
shown_read reader view spell Is law a rest is = rw (law.read a rest is) refl

-- ---- by the first word

abbrev pub AreEntries : {E V : Type 0} → (V → List (List ℕ)) → (V → Type 0) → List (List ℕ × Reader E V) → Type 0
AreEntries spell Is [] = Unit {0}
AreEntries spell Is (entry ∷ entries) = Entry spell Is (entry.0 ∷ []) entry.1 × AreEntries spell Is entries

pub keyed_was : {E V : Type 0} (spell : V → List (List ℕ)) (Is : V → Type 0) (missing : E) (entries : List (List ℕ × Reader E V)) → AreEntries spell Is entries → (words : List (List ℕ))
    (x : V × List (List ℕ)) → by_key missing entries words ≡ Ok x → Took spell Is words x
keyed_was spell Is missing entries are [] x h = absurd cc
keyed_was spell Is missing [] are (word ∷ words) x h = absurd cc
keyed_was {E} {V} spell Is missing (entry ∷ entries) are (word ∷ words) x h = by (keyed_was spell Is missing entries are.1 (word ∷ words) x) (bytes_eq word entry.0) refl h
  where
    by : (by_key missing entries (word ∷ words) ≡ Ok x → Took spell Is (word ∷ words) x) → (t : Bool) → bytes_eq word entry.0 ≡ t
        → (if t then entry.1 words else by_key missing entries (word ∷ words)) ≡ Ok x → Took spell Is (word ∷ words) x
    by others true is read = subst (λ (w : List ℕ). Took spell Is (w ∷ words) x) (sym ((bytes_eq-Decides word entry.0).0 is)) (are.0 words x read)
    by others false is read = others read

-- ---- all words

pub all_read : {E V : Type 0} (over : E) (reader : Reader E V) (spell : V → List (List ℕ)) (Is : V → Type 0) → Words reader spell Is → (v : V) → Is v → all_of over (reader (spell v)) ≡ Ok v
all_read over reader spell Is law v is =
    let read : reader (spell v) ≡ Ok (v, []) = sym (ap reader (append-nil (spell v))) ∙ law.read v [] is in
    rw read refl

all_gave : {E V : Type 0} (over : E) (read : Result (V × List (List ℕ)) E) (v : V) → all_of over read ≡ Ok v → read ≡ Ok (v, [])
all_gave over (Ok (x, [])) v h = cc
all_gave over (Ok (x, word ∷ words)) v h = absurd cc
all_gave over (Err fault) v h = absurd cc

pub all_was : {E V : Type 0} (over : E) (reader : Reader E V) (spell : V → List (List ℕ)) (Is : V → Type 0) → Words reader spell Is → (words : List (List ℕ)) (v : V)
    → all_of over (reader words) ≡ Ok v → (words ≡ spell v) × Is v
all_was over reader spell Is law words v h =
    let took = law.was words (v, []) (all_gave over (reader words) v h) in
    (took.spelled ∙ append-nil (spell v), took.is)

-- ---- no low byte

unfoldable pub none_low : List ℕ → Bool
none_low [] = true
none_low (b ∷ rest) = nat_lt 43 b && none_low rest

pub lacks_low : (byte : ℕ) → byte < 44 → (word : List ℕ) → none_low word ≡ true → Lacks byte word
unfolding none_low
lacks_low byte low [] test = tt
lacks_low byte low (b ∷ rest) test =
    let tests = both_tests (nat_lt 43 b) (none_low rest) test in
    (λ same. grind (arith, tests.0, same, low), lacks_low byte low rest tests.1)

-- ---- pieces with a byte between

lacks_after : (byte : ℕ) (first second : List ℕ) → Lacks byte first → Lacks byte second → Lacks byte (first ++ second)
lacks_after byte [] second a b = b
lacks_after byte (c ∷ first) second a b = (a.0, lacks_after byte first second a.1 b)

lacks_set_off : (byte comma : ℕ) → comma ≢ byte → (pieces : List (List ℕ)) → AllByRecursion (Lacks byte) pieces → Lacks byte (flat_map (set_off comma) pieces)
lacks_set_off byte comma apart [] are = tt
lacks_set_off byte comma apart (piece ∷ pieces) are = (apart, lacks_after byte piece (flat_map (set_off comma) pieces) are.0 (lacks_set_off byte comma apart pieces are.1))

pub lacks_joined : (byte comma : ℕ) → comma ≢ byte → (pieces : List (List ℕ)) → AllByRecursion (Lacks byte) pieces → Lacks byte (joined_by comma pieces)
lacks_joined byte comma apart [] are = tt
lacks_joined byte comma apart (piece ∷ pieces) are = lacks_after byte piece (flat_map (set_off comma) pieces) are.0 (lacks_set_off byte comma apart pieces are.1)
