-- Text that is written piece by piece: what was written, what is held, and what is still to be added make the whole.
use Rattle.std.proofs.Common.{◌≡◌, List, ℕ, [], ◌++◌, Option, sym, ap, ◌∙◌, append_assoc, append-nil}
use Rattle.std.proofs.KnownBytes.{Appends-nil, Appends-trans}
use Rattle.std.specs.Prelude.{Result, Ok, Err, IsErrAnd}
use Rattle.std.specs.Io.KnownBytes.{Appends}
use Rattle.outside.specs.Writing.{WritesAll, Handed, HandsOn}
use Rattle.outside.proofs.WritingLemmas.{goes_on, stays, ends_with}

pub record Going (old new : Option (List ℕ)) (held left whole done : List ℕ) : Type 0 where
  pub taken : Appends old new done
  pub all : done ++ (held ++ left) ≡ whole

abbrev pub Goes : Option (List ℕ) → Option (List ℕ) → List ℕ → List ℕ → List ℕ → Type 0
Goes old new held left whole = (done : List ℕ) × Going old new held left whole done

-- nothing was written yet
pub begins : (a : Option (List ℕ)) (held left whole : List ℕ) → held ++ left ≡ whole → Goes a a held left whole
begins a held left whole is = ([], record { taken = Appends-nil a; all = is })

-- the front of what is left is held then
added : (held put piece left rest : List ℕ) → rest ≡ piece ++ left → put ≡ held ++ piece → put ++ left ≡ held ++ rest
added held put piece left rest parts is =
    ap (λ (l : List ℕ). l ++ left) is ∙ append_assoc held piece left ∙ ap (λ (l : List ℕ). held ++ l) (sym parts)

-- a piece is added, and a front of what is held is written
pub goes_further : (a b c : Option (List ℕ)) (held put piece left rest after whole : List ℕ) → rest ≡ piece ++ left → put ≡ held ++ piece →
    Goes a b held rest whole → Handed b c put after → Goes a c after left whole
goes_further a b c held put piece left rest after whole parts is so_far handed =
    let done = so_far.0 in
    let more = handed.0 in (
      done ++ more,
      record {
        taken = Appends-trans a b c done more so_far.1.taken handed.1.0;
        all = append_assoc done more (after ++ left)
            ∙ ap (λ (l : List ℕ). done ++ l) (sym (append_assoc more after left) ∙ ap (λ (l : List ℕ). l ++ left) handed.1.1 ∙ added held put piece left rest parts is)
            ∙ so_far.1.all;
      },
    )

-- the same front was written, by whatever name the refusal goes on
pub handed_on : {E F : Type 0} (a b : Option (List ℕ)) (text : List ℕ) (e : E) (f : F) (r : Result (Unit {0}) F) → IsErrAnd r (λ x. x ≡ f) →
    WritesAll a b text (Err e) → WritesAll a b text r
handed_on a b text e f (Ok u) given written = absurd given
handed_on a b text e f (Err x) given written = (written.0, record { front = written.1.front; taken = written.1.taken; all = tt })

-- a piece is added, and the writing of what is held is refused
pub refused : {E F : Type 0} (a b c : Option (List ℕ)) (held put piece left rest whole : List ℕ) (e : E) (f : F) (r : Result (Unit {0}) F) → IsErrAnd r (λ x. x ≡ f) →
    rest ≡ piece ++ left → put ≡ held ++ piece → Goes a b held rest whole → WritesAll b c put (Err e) → WritesAll a c whole r
refused a b c held put piece left rest whole e f r given parts is so_far written =
    handed_on a c whole e f r given
    (goes_on a b c so_far.0 put left whole e so_far.1.taken written (ap (λ (l : List ℕ). so_far.0 ++ l) (added held put piece left rest parts is) ∙ so_far.1.all))

-- nothing more is written
pub stops : {E : Type 0} (a b : Option (List ℕ)) (held left whole : List ℕ) (e : E) (r : Result (Unit {0}) E) → IsErrAnd r (λ x. x ≡ e) → Goes a b held left whole → WritesAll a b whole r
stops a b held left whole e r given so_far = handed_on a b whole e e r given (stays a b so_far.0 (held ++ left) whole e so_far.1.taken so_far.1.all)

-- nothing is left to be added
pub all_added : (a b : Option (List ℕ)) (held left whole : List ℕ) → left ≡ [] → Goes a b held left whole → Handed a b whole held
all_added a b held left whole none so_far =
    (so_far.0, (so_far.1.taken, ap (λ (l : List ℕ). so_far.0 ++ l) (sym (append-nil held) ∙ ap (λ (l : List ℕ). held ++ l) (sym none)) ∙ so_far.1.all))

-- what is held and what is left are written
pub ends : {E : Type 0} (a b c : Option (List ℕ)) (held put left whole : List ℕ) (r : Result (Unit {0}) E) → put ≡ held ++ left → Goes a b held left whole →
    WritesAll b c put r → WritesAll a c whole r
ends a b c held put left whole r is so_far written =
    ends_with a b c so_far.0 put whole r so_far.1.taken written (ap (λ (l : List ℕ). so_far.0 ++ l) is ∙ so_far.1.all)

-- after a refusal nothing is said of what is held
pub not_handed : {E : Type 0} (old new : Option (List ℕ)) (text held : List ℕ) (e : E) (r : Result (Unit {0}) E) → IsErrAnd r (λ x. x ≡ e) →
    WritesAll old new text r → HandsOn old new text held r
not_handed old new text held e (Ok u) given written = absurd given
not_handed old new text held e (Err x) given written = written
