-- Writing one piece after another.
use Rattle.std.proofs.Common.{arith, ◌≡◌, ℕ, ◌+◌, List, [], ◌++◌, length, take, Option, refl, sym, ap, ◌∙◌, subst, length-append, append-nil}
use Rattle.std.proofs.lemmas.List.{take-append-le}
use Rattle.std.proofs.Math.Seq.{take-length, take-append-add}
use Rattle.std.proofs.KnownBytes.{Appends-trans, Appends-nil}
use Rattle.std.specs.Prelude.{Result, Ok, Err}
use Rattle.std.specs.Io.KnownBytes.{Appends}
use Rattle.outside.specs.Writing.{WritesAll}

-- what was written whole was appended
pub appended : {E : Type 0} (a b : Option (List ℕ)) (bytes : List ℕ) → WritesAll {E = E} a b bytes (Ok tt) → Appends a b bytes
appended a b bytes written =
    let n = written.0 in
    let t = written.1 in
    let all : n ≡ length bytes = t.all in
    let full : take n bytes ≡ bytes = ap (λ k. take k bytes) all ∙ take-length bytes in
    subst (λ (l : List ℕ). Appends a b l) full t.taken

-- a piece after what was appended, with more behind it
pub goes_on : {E : Type 0} (a b c : Option (List ℕ)) (done piece rest whole : List ℕ) (e : E) →
    Appends a b done → WritesAll b c piece (Err e) → done ++ (piece ++ rest) ≡ whole → WritesAll a c whole (Err e)
goes_on a b c done piece rest whole e before written is =
    let n = written.0 in
    let t = written.1 in
    let m = length done + n in
    let cut : take m whole ≡ done ++ take n piece =
    ap (take m) (sym is) ∙ take-append-add done (piece ++ rest) n ∙ ap (λ (l : List ℕ). done ++ l) (take-append-le n piece rest t.front) in
    let long : length whole ≡ length done + (length piece + length rest) =
    ap length (sym is) ∙ length-append done (piece ++ rest) ∙ ap (λ k. length done + k) (length-append piece rest) in (
      m,
      record {
        front = omega (arith, long, t.front);
        taken = rw cut (Appends-trans a b c done (take n piece) before t.taken);
        all = tt;
      },
    )

-- nothing more was written
pub stays : {E : Type 0} (a b : Option (List ℕ)) (done rest whole : List ℕ) (e : E) →
    Appends a b done → done ++ rest ≡ whole → WritesAll a b whole (Err e)
stays a b done rest whole e before is =
    let none : WritesAll b b [] (Err e) = (0, record { front = omega arith; taken = Appends-nil b; all = tt }) in
    goes_on a b b done [] rest whole e before none is

-- the last piece
pub ends_with : {E : Type 0} (a b c : Option (List ℕ)) (done piece whole : List ℕ) (r : Result (Unit {0}) E) →
    Appends a b done → WritesAll b c piece r → done ++ piece ≡ whole → WritesAll a c whole r
ends_with a b c done piece whole (Ok u) before written is =
    let more = Appends-trans a b c done piece before (appended b c piece written) in (
      length whole,
      record {
        front = omega arith;
        taken = rw (take-length whole) (subst (λ (l : List ℕ). Appends a c l) is more);
        all = refl;
      },
    )
ends_with a b c done piece whole (Err e) before written is =
    goes_on a b c done piece [] whole e before written (ap (λ (l : List ℕ). done ++ l) (append-nil piece) ∙ is)
