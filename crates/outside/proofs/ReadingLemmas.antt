-- What a read of a piece adds to the reading of a front.
use Rattle.std.proofs.Common.{arith, ◌≡◌, ◌≤◌, ℕ, ◌+◌, List, ◌++◌, length, Option, Ok, Err, inr, ap, ◌∙◌, length-append}
use Rattle.std.proofs.KnownBytes.{Consumes-trans}
use Rattle.std.specs.Prelude.{Result, IsErrAnd}
use Rattle.std.specs.Io.KnownBytes.{Consumes}
use Rattle.outside.specs.Counts.{rise, count_after}
use Rattle.outside.specs.Reading.{ReadsFront, PieceComes, PieceSays}
use Rattle.outside.specs.declared.refused.Refused.{Refused}
use Rattle.outside.specs.declared.refused.Refused.TheVariants.{Failed, Memory}

says : (e : Refused) (room : ℕ) (c : Option (List ℕ)) (bytes after came : List ℕ) (f0 f1 f2 : ℕ) → f1 ≡ f0 →
    PieceSays (Err e) room c bytes after came f1 f2 → f2 ≡ count_after e f0
says Failed room c bytes after came f0 f1 f2 kept answer = answer.1 ∙ ap rise kept
says Memory room c bytes after came f0 f1 f2 kept answer = answer ∙ kept

-- a refused read, after these bytes
pub refused : (most room : ℕ) (a b c : Option (List ℕ)) (f0 f1 f2 r0 r1 r2 : ℕ) (bytes after : List ℕ) (e : Refused) →
    Consumes a b bytes → f1 ≡ f0 → r1 ≤ r0 + length bytes → length bytes + room ≤ most →
    PieceComes room b c f1 f2 r1 r2 bytes after (Err e) → ReadsFront most a c f0 f2 r0 r2 (Err e)
refused most room a b c f0 f1 f2 r0 r1 r2 bytes after e before kept made fits piece =
    let came = piece.0 in
    let p = piece.1 in (
      bytes ++ came,
      record {
        consumed = Consumes-trans a b c bytes came before p.consumed;
        stopped = rw length-append (omega (arith, p.fits));
        read = rw length-append (omega (arith, p.read));
        answer = says e room c bytes after came f0 f1 f2 kept p.answer;
      },
    )

-- so many bytes
pub full : (most room n : ℕ) (a b c : Option (List ℕ)) (f0 f1 f2 r0 r1 r2 : ℕ) (bytes after : List ℕ) →
    Consumes a b bytes → f1 ≡ f0 → r1 ≤ r0 + length bytes → length bytes + room ≤ most →
    most ≤ length after →
    PieceComes room b c f1 f2 r1 r2 bytes after (Ok n) → ReadsFront most a c f0 f2 r0 r2 (Ok after)
full most room n a b c f0 f1 f2 r0 r1 r2 bytes after before kept made fits all piece =
    let came = piece.0 in
    let p = piece.1 in
    let is : after ≡ bytes ++ came = p.answer.0 in
    let long : length after ≡ length bytes + length came = ap length is ∙ length-append bytes came in (
      bytes ++ came,
      record {
        consumed = Consumes-trans a b c bytes came before p.consumed;
        stopped = rw length-append (omega (arith, p.fits));
        read = rw length-append (omega (arith, p.read));
        answer = (is, inr (rw length-append (omega (arith, p.fits))), p.answer.3 ∙ kept);
      },
    )

-- the same, as `?` hands it on
pub refused_on : (most room : ℕ) (a b c : Option (List ℕ)) (f0 f1 f2 r0 r1 r2 : ℕ) (bytes after : List ℕ) (e : Refused)
    (r : Result (List ℕ) Refused) → IsErrAnd r (λ x. x ≡ e) →
    Consumes a b bytes → f1 ≡ f0 → r1 ≤ r0 + length bytes → length bytes + room ≤ most →
    PieceComes room b c f1 f2 r1 r2 bytes after (Err e) → ReadsFront most a c f0 f2 r0 r2 r
refused_on most room a b c f0 f1 f2 r0 r1 r2 bytes after e (Ok x) is before kept made fits piece = absurd is
refused_on most room a b c f0 f1 f2 r0 r1 r2 bytes after e (Err x) is before kept made fits piece =
    rw is (refused most room a b c f0 f1 f2 r0 r1 r2 bytes after e before kept made fits piece)
