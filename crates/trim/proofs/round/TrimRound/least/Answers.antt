use Rattle.std.proofs.Common.{◌∙◌, sym, ap, true, false}
use Rattle.trim.proofs.Answering.{least_is, least_kept, is_above, is_not_above}
use Rattle.trim.proofs.round.TrimRound.least.Goals as goal

pub returns-then-not-have_quorums : goal.returns-then-not-have_quorums
returns-then-not-have_quorums c = λ asker round stands.
    least_is (_) asker round (rw (← c.self.view_is) at stands) false (sym c.have_quorums.ensures ∙ c.if-not-have_quorums.true)

pub returns-in_default : goal.returns-in_default
returns-in_default c = λ asker round stands.
    let made = least_is (_) asker round (rw (← c.self.view_is) at stands) true (sym c.have_quorums.ensures ∙ c.if-not-have_quorums.false) in
    sym (ap (least_kept c.self.inside.last) c.in_default.is) ∙ made

pub returns-then-self-lowest : goal.returns-then-self-lowest
returns-then-self-lowest c = λ asker round stands.
    let made = least_is (_) asker round (rw (← c.self.view_is) at stands) true (sym c.have_quorums.ensures ∙ c.if-not-have_quorums.false) in
    sym (ap (least_kept c.self.inside.last) c.in-Some.is ∙ is_above c.self.inside.last c.in-Some.lowest c.if-self-lowest.true) ∙ made

pub returns-else-self-lowest : goal.returns-else-self-lowest
returns-else-self-lowest c = λ asker round stands.
    let made = least_is (_) asker round (rw (← c.self.view_is) at stands) true (sym c.have_quorums.ensures ∙ c.if-not-have_quorums.false) in
    sym (ap (least_kept c.self.inside.last) c.in-Some.is ∙ is_not_above c.self.inside.last c.in-Some.lowest c.if-self-lowest.false) ∙ made
