-- What was read from words, the words were.
use Rattle.std.proofs.Common.{◌≡◌, ◌<◌, ◌≤◌, ℕ, ◌^◌, List, [], ◌∷◌, Result, Ok, Err, refl, ap, ◌∙◌, subst, nat_lt, if◌then◌else◌}
use Rattle.std.proofs.Math.Path.{ap₂}
use Rattle.std.proofs.lemmas.Slice.Eq.{bytes_eq-Decides}
use Rattle.std.specs.Str.{bytes_eq}
use Rattle.std.specs.Fmt.{decimal}
use Rattle.hex.specs.Hex.{IsBytes}
use Rattle.text_lines.specs.Text.{hex_text}
use Rattle.mrp_types.specs.Reading.{◌>>=◌}
use Rattle.text_lines.specs.Reading.{word_at, keyword_at, number_at, number_within, hex_at, end_at, number_of, hex_of}
use Rattle.text_lines.proofs.Inverse.{bound, then_was, else_was, ok_is, decimal_of_number, text_of_hex}
use Rattle.text_lines.specs.declared.fault.TextFault.{TextFault}
use Rattle.text_lines.specs.declared.fault.TextFault.TheVariants.{Word, Range}
use Rattle.mrp_types.proofs.TestLemmas.{at_most}

abbrev pub back : Result (List ℕ × List (List ℕ)) TextFault → List (List ℕ)
back (Err fault) = []
back (Ok x) = x.0 ∷ x.1

pub word_was : (words : List (List ℕ)) (x : List ℕ × List (List ℕ)) → word_at words ≡ Ok x → words ≡ x.0 ∷ x.1
word_was [] x h = absurd cc
word_was (word ∷ words) x h = ap back h

pub keyword_was : (keyword : List ℕ) (words : List (List ℕ)) (x : Unit {0} × List (List ℕ)) → keyword_at keyword words ≡ Ok x → words ≡ keyword ∷ x.1
keyword_was keyword words x h =
    let step = bound (word_at words) (λ (w : List ℕ × List (List ℕ)). if bytes_eq w.0 keyword then Ok (tt, w.1) else Err Word) x h in
    let w = step.0 in
    let was = then_was (bytes_eq w.0 keyword) Word (Ok (tt, w.1)) x step.2 in
    let same : w.0 ≡ keyword = (bytes_eq-Decides w.0 keyword).0 was.0 in
    word_was words w step.1 ∙ ap₂ (λ (a : List ℕ) (b : List (List ℕ)). a ∷ b) same (ap (λ (y : Unit {0} × List (List ℕ)). y.1) (ok_is (tt, w.1) x was.1))

pub record NumberWas (words : List (List ℕ)) (x : ℕ × List (List ℕ)) : Type 0 where
  pub spelled : words ≡ decimal x.0 ∷ x.1
  pub fits : x.0 < 2 ^ 64

pub number_was : (words : List (List ℕ)) (x : ℕ × List (List ℕ)) → number_at words ≡ Ok x → NumberWas words x
number_was words x h =
    let step = bound (word_at words) (λ (w : List ℕ × List (List ℕ)). number_of w.0 >>= λ n. Ok (n, w.1)) x h in
    let w = step.0 in
    let again = bound (number_of w.0) (λ n. Ok (n, w.1)) x step.2 in
    let n = again.0 in
    let is : (n, w.1) ≡ x = ok_is (n, w.1) x again.2 in
    let was = decimal_of_number w.0 n again.1 in
    subst (λ (y : ℕ × List (List ℕ)). NumberWas words y) is (record {
      spelled = word_was words w step.1 ∙ ap (λ (a : List ℕ). a ∷ w.1) was.0;
      fits = was.1;
    })

-- a number of a range
pub record WithinWas (least most : ℕ) (words : List (List ℕ)) (x : ℕ × List (List ℕ)) : Type 0 where
  pub spelled : words ≡ decimal x.0 ∷ x.1
  pub enough : least ≤ x.0
  pub few : x.0 ≤ most

pub number_within_was : (least most : ℕ) (words : List (List ℕ)) (x : ℕ × List (List ℕ)) → number_within least most words ≡ Ok x → WithinWas least most words x
number_within_was least most words x h =
    let step = bound (number_at words) (λ (n : ℕ × List (List ℕ)). if nat_lt n.0 least then Err Range else (if nat_lt most n.0 then Err Range else Ok n)) x h in
    let n = step.0 in
    let low = else_was (nat_lt n.0 least) Range (if nat_lt most n.0 then Err Range else Ok n) x step.2 in
    let high = else_was (nat_lt most n.0) Range (Ok n) x low.1 in
    subst (λ (y : ℕ × List (List ℕ)). WithinWas least most words y) (ok_is n x high.1) (record {
      spelled = (number_was words n step.1).spelled;
      enough = at_most least n.0 low.0;
      few = at_most n.0 most high.0;
    })

pub record HexWas (words : List (List ℕ)) (x : List ℕ × List (List ℕ)) : Type 0 where
  pub spelled : words ≡ hex_text x.0 ∷ x.1
  pub bytes : IsBytes x.0

pub hex_was : (words : List (List ℕ)) (x : List ℕ × List (List ℕ)) → hex_at words ≡ Ok x → HexWas words x
hex_was words x h =
    let step = bound (word_at words) (λ (w : List ℕ × List (List ℕ)). hex_of w.0 >>= λ (v : List ℕ). Ok (v, w.1)) x h in
    let w = step.0 in
    let again = bound (hex_of w.0) (λ (v : List ℕ). Ok (v, w.1)) x step.2 in
    let v = again.0 in
    let is : (v, w.1) ≡ x = ok_is (v, w.1) x again.2 in
    let was = text_of_hex w.0 v again.1 in
    subst (λ (y : List ℕ × List (List ℕ)). HexWas words y) is (record {
      spelled = word_was words w step.1 ∙ ap (λ (a : List ℕ). a ∷ w.1) was.0;
      bytes = was.1;
    })

pub end_was : (words : List (List ℕ)) (x : Unit {0}) → end_at words ≡ Ok x → words ≡ []
end_was [] x h = refl
end_was (word ∷ words) x h = absurd cc
