-- Readers of words, and how what they read is spelled.
use Rattle.std.proofs.Common.{◌≡◌, ◌<◌, ℕ, List, [], ◌∷◌, Option, Some, None, refl, sym, ap, subst, if◌then◌else◌, Bool, true, false, Ok, Err}
use Rattle.std.proofs.lemmas.Slice.Eq.{bytes_eq-Decides}
use Rattle.std.specs.Prelude.{Result}
use Rattle.std.specs.Option.{ok_or}
use Rattle.std.specs.Str.{bytes_eq}
use Rattle.text_lines.specs.Reading.{word_at as plain_word}
use Rattle.text_lines.specs.declared.fault.TextFault.{TextFault}
use Rattle.text_lines.proofs.Inverse.{done as plain_done}
use Rattle.text_lines.proofs.Laws.{Lacks}
use Rattle.transcript.specs.declared.fault.LineKind.{LineKind}
use Rattle.transcript.specs.declared.fault.LineKind.TheVariants.{Word}
use Rattle.mrp_types.specs.Reading.{nothing}
use Rattle.text_lines.proofs.WordLaws.{Words, Took, Entry, alone, Field as AnyField, one_words as any_words}
use Rattle.transcript.specs.Words.{Reader, word_at, one, unless}

abbrev pub done : {A : Type 0} → A → Result A LineKind
done x = Ok x

pub done_is : {A : Type 0} (x y : A) → done x ≡ done y → x ≡ y
done_is x y h = cc

-- ---- a word

-- A kind of word: values that may be are read as they are spelled, what is read is spelled so and may be, and no
-- spelling has a byte below that of a comma, as a space and a line feed are.
pub record Field {V : Type 0} (says : List ℕ → Option V) (spell : V → List ℕ) (Is : V → Type 0) : Type 0 where
  pub read : (v : V) → Is v → says (spell v) ≡ Some v
  pub was : (word : List ℕ) (v : V) → says word ≡ Some v → (word ≡ spell v) × Is v
  pub lacks : (byte : ℕ) → byte < 44 → (v : V) → Is v → Lacks byte (spell v)

ok_or_some : {V : Type 0} (o : Option V) (kind : LineKind) (v : V) → ok_or o kind ≡ done v → o ≡ Some v
ok_or_some (Some x) kind v h = ap Some (done_is x v h)
ok_or_some None kind v h = absurd cc

-- the same of what a word says, or a fault
field_or : {V : Type 0} (says : List ℕ → Option V) (spell : V → List ℕ) (Is : V → Type 0) → Field says spell Is → (kind : LineKind) → AnyField (λ word. ok_or (says word) kind) spell Is
field_or says spell Is field kind = record {
  read = λ v is. ap (λ o. ok_or o kind) (field.read v is);
  was = λ word v h. field.was word v (ok_or_some (says word) kind v h);
  lacks = field.lacks;
}

pub one_words : {V : Type 0} (says : List ℕ → Option V) (spell : V → List ℕ) (Is : V → Type 0) → Field says spell Is → (kind : LineKind) → Words (one kind says) (alone spell) Is
one_words says spell Is field kind = any_words (λ word. ok_or (says word) kind) spell Is (field_or says spell Is field kind) Word

-- a word that stands for a value, or others
pub unless_was : {V : Type 0} (spell : V → List (List ℕ)) (Is : V → Type 0) (key : List ℕ) (v : V) (other : Reader V) → Entry {E = LineKind} spell Is (key ∷ []) (nothing v) → Entry spell Is [] other
    → (words : List (List ℕ)) (x : V × List (List ℕ)) → unless key v other words ≡ Ok x → Took spell Is words x
unless_was spell Is key v other first second [] x h = second [] x h
unless_was {V} spell Is key v other first second (word ∷ words) x h = by (bytes_eq word key) refl h
  where
    by : (t : Bool) → bytes_eq word key ≡ t → (if t then Ok (v, words) else other (word ∷ words)) ≡ Ok x → Took spell Is (word ∷ words) x
    by true is read = subst (λ (w : List ℕ). Took spell Is (w ∷ words) x) (sym ((bytes_eq-Decides word key).0 is)) (first words x read)
    by false is read = second (word ∷ words) x read

-- ---- the words of a reader of lines

pub word_given : (words : List (List ℕ)) (x : List ℕ × List (List ℕ)) → plain_word words ≡ Ok x → word_at words ≡ Ok x
word_given [] x h = absurd cc
word_given (word ∷ words) x h = ap done (plain_is (word, words) x h)
  where
    plain_is : (a b : List ℕ × List (List ℕ)) → plain_done a ≡ plain_done b → a ≡ b
    plain_is a b e = cc

pub word_missing : (words : List (List ℕ)) (fault : TextFault) → plain_word words ≡ Err fault → word_at words ≡ Err Word
word_missing [] fault h = refl
word_missing (word ∷ words) fault h = absurd cc
