use Rattle.std.proofs.Common.{◌≡◌, max, true, false, refl}
use Rattle.std.specs.Prelude.{Bool, not}
use Rattle.protocol.specs.Learner.{first_of, is_held}
use Rattle.protocol.proofs.EntryLemmas.{meets, held, gap}
use Rattle.protocol.proofs.laws.the_first_value_stays.Goals as goal

not_false : (b : Bool) → not b ≡ false → b ≡ true
not_false true h = refl
not_false false h = absurd (cc)

pub returns-clause-taken : goal.returns-clause-taken
returns-clause-taken c = λ range learner p. meets first_of range.value (max range.lo learner.base) range.hi learner.held p

pub returns-clause-no_news : goal.returns-clause-no_news
returns-clause-no_news c = λ range learner p.
    let is = held (max range.lo learner.base) range.hi learner.held p in
    ((λ h. is.0 (not_false (is_held (max range.lo learner.base) range.hi learner.held) h)), (λ h. rw (is.1 h) refl))

pub returns-clause-gap : goal.returns-clause-gap
returns-clause-gap c = λ from es p. gap from es p
