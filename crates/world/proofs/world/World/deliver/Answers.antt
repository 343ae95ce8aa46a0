use Rattle.std.proofs.Common.{subst, sym, ◌≡◌, List, ℕ, ap, ◌∙◌, Some, OnOk, ◌++◌}
use Rattle.mrp_types.specs.declared.value.Value.{Value}
use Rattle.world.specs.Ring.{seat_at}
use Rattle.world.specs.System.{World, Outcome, handles, submits_at, accepts, passes, learns}
use Rattle.world.proofs.Events.{sent_at, none_at, none_sent, no_seat, delivered, other_sent}
use Rattle.world.proofs.world.World.deliver.Goals as goal

pub returns-in_default-clause-lines : goal.returns-in_default-clause-lines
returns-in_default-clause-lines c =
    let there = none_at c.args.self.now _ c.items.result.now c.args.number c.self.view_is c.items.ensures c.in_default.ensures.lookup.3 in
    (none_sent c.args.self.now c.args.lines.now _ there).lines

pub returns-in_default-seat_at-clause-world : goal.returns-in_default-seat_at-clause-world
returns-in_default-seat_at-clause-world c =
    let there = sent_at c.args.self.now _ c.items.result.now c.args.number c.in-Some.sent.now c.self.view_is c.items.ensures c.in-Some.ensures.lookup.3.0 c.in-Some.ensures.lookup.3.1 in
    let ring = ap (λ (w : World). seat_at w.ring c.in-Some.sent.now.to) (sym c.self.view_is) in
    (no_seat c.args.self.now c.args.lines.now _ c.in-Some.sent.now there (ring ∙ sym c.in_default-seat_at.ensures.seat)).world

pub returns-in_default-seat_at-clause-lines : goal.returns-in_default-seat_at-clause-lines
returns-in_default-seat_at-clause-lines c =
    let there = sent_at c.args.self.now _ c.items.result.now c.args.number c.in-Some.sent.now c.self.view_is c.items.ensures c.in-Some.ensures.lookup.3.0 c.in-Some.ensures.lookup.3.1 in
    let ring = ap (λ (w : World). seat_at w.ring c.in-Some.sent.now.to) (sym c.self.view_is) in
    (no_seat c.args.self.now c.args.lines.now _ c.in-Some.sent.now there (ring ∙ sym c.in_default-seat_at.ensures.seat)).lines

pub returns-in_ok-command-in-Submit-clause-world : goal.returns-in_ok-command-in-Submit-clause-world
returns-in_ok-command-in-Submit-clause-world c =
    let there = sent_at c.args.self.now _ c.items.result.now c.args.number c.in-Some.sent.now c.self.view_is c.items.ensures c.in-Some.ensures.lookup.3.0 c.in-Some.ensures.lookup.3.1 in
    let ring = ap (λ (w : World). seat_at w.ring c.in-Some.sent.now.to) (sym c.self.view_is) in
    let seat = c.in-Some-seat_at.seat in
    let at : seat_at c.args.self.now.ring c.in-Some.sent.now.to ≡ Some seat = ring ∙ sym c.in-Some-seat_at.ensures.seat in
    let bytes : c.in-Submit.command ≡ c.in_ok-command-in-Submit.command = sym (c.in_ok-command-in-Submit.ensures ∙ c.bytes.ensures) in
    let is = delivered c.args.self.now _ c.in-Some.sent.now seat there at ∙ ap (handles c.args.self.now seat) c.in-Submit.is
    ∙ ap (λ (b : List ℕ). submits_at c.args.self.now seat (record { client = c.in-Submit.client; seq = c.in-Submit.seq; command = b })) bytes in
    subst (λ (o : Outcome). OnOk c.submit.result (c.submit.new.self ≡ o.world)) (sym is) c.submit.ensures.world

pub returns-in_ok-command-in-Submit-clause-lines : goal.returns-in_ok-command-in-Submit-clause-lines
returns-in_ok-command-in-Submit-clause-lines c =
    let there = sent_at c.args.self.now _ c.items.result.now c.args.number c.in-Some.sent.now c.self.view_is c.items.ensures c.in-Some.ensures.lookup.3.0 c.in-Some.ensures.lookup.3.1 in
    let ring = ap (λ (w : World). seat_at w.ring c.in-Some.sent.now.to) (sym c.self.view_is) in
    let seat = c.in-Some-seat_at.seat in
    let at : seat_at c.args.self.now.ring c.in-Some.sent.now.to ≡ Some seat = ring ∙ sym c.in-Some-seat_at.ensures.seat in
    let bytes : c.in-Submit.command ≡ c.in_ok-command-in-Submit.command = sym (c.in_ok-command-in-Submit.ensures ∙ c.bytes.ensures) in
    let is = delivered c.args.self.now _ c.in-Some.sent.now seat there at ∙ ap (handles c.args.self.now seat) c.in-Submit.is
    ∙ ap (λ (b : List ℕ). submits_at c.args.self.now seat (record { client = c.in-Submit.client; seq = c.in-Submit.seq; command = b })) bytes in
    subst (λ (o : Outcome). OnOk c.submit.result (c.submit.new.lines ≡ c.args.lines.now ++ o.lines)) (sym is) c.submit.ensures.lines

pub returns-in_ok-value-in-Accept-clause-world : goal.returns-in_ok-value-in-Accept-clause-world
returns-in_ok-value-in-Accept-clause-world c =
    let there = sent_at c.args.self.now _ c.items.result.now c.args.number c.in-Some.sent.now c.self.view_is c.items.ensures c.in-Some.ensures.lookup.3.0 c.in-Some.ensures.lookup.3.1 in
    let ring = ap (λ (w : World). seat_at w.ring c.in-Some.sent.now.to) (sym c.self.view_is) in
    let seat = c.in-Some-seat_at.seat in
    let at : seat_at c.args.self.now.ring c.in-Some.sent.now.to ≡ Some seat = ring ∙ sym c.in-Some-seat_at.ensures.seat in
    let is = delivered c.args.self.now _ c.in-Some.sent.now seat there at ∙ ap (handles c.args.self.now seat) c.in-Accept.is
    ∙ ap (λ (v : Value). accepts c.args.self.now seat c.in-Accept.lo c.in-Accept.mask v) (sym c.in_ok-value-in-Accept.ensures) in
    subst (λ (o : Outcome). OnOk c.accept.result (c.accept.new.self ≡ o.world)) (sym is) c.accept.ensures.world

pub returns-in_ok-value-in-Accept-clause-lines : goal.returns-in_ok-value-in-Accept-clause-lines
returns-in_ok-value-in-Accept-clause-lines c =
    let there = sent_at c.args.self.now _ c.items.result.now c.args.number c.in-Some.sent.now c.self.view_is c.items.ensures c.in-Some.ensures.lookup.3.0 c.in-Some.ensures.lookup.3.1 in
    let ring = ap (λ (w : World). seat_at w.ring c.in-Some.sent.now.to) (sym c.self.view_is) in
    let seat = c.in-Some-seat_at.seat in
    let at : seat_at c.args.self.now.ring c.in-Some.sent.now.to ≡ Some seat = ring ∙ sym c.in-Some-seat_at.ensures.seat in
    let is = delivered c.args.self.now _ c.in-Some.sent.now seat there at ∙ ap (handles c.args.self.now seat) c.in-Accept.is
    ∙ ap (λ (v : Value). accepts c.args.self.now seat c.in-Accept.lo c.in-Accept.mask v) (sym c.in_ok-value-in-Accept.ensures) in
    subst (λ (o : Outcome). OnOk c.accept.result (c.accept.new.lines ≡ c.args.lines.now ++ o.lines)) (sym is) c.accept.ensures.lines

pub returns-in_ok-value-in-Decide-clause-world : goal.returns-in_ok-value-in-Decide-clause-world
returns-in_ok-value-in-Decide-clause-world c =
    let there = sent_at c.args.self.now _ c.items.result.now c.args.number c.in-Some.sent.now c.self.view_is c.items.ensures c.in-Some.ensures.lookup.3.0 c.in-Some.ensures.lookup.3.1 in
    let ring = ap (λ (w : World). seat_at w.ring c.in-Some.sent.now.to) (sym c.self.view_is) in
    let seat = c.in-Some-seat_at.seat in
    let at : seat_at c.args.self.now.ring c.in-Some.sent.now.to ≡ Some seat = ring ∙ sym c.in-Some-seat_at.ensures.seat in
    let is = delivered c.args.self.now _ c.in-Some.sent.now seat there at ∙ ap (handles c.args.self.now seat) c.in-Decide.is
    ∙ ap (λ (v : Value). passes (learns c.args.self.now seat c.in-Decide.lo v) seat c.in-Decide.lo c.in-Decide.left v) (sym c.in_ok-value-in-Decide.ensures) in
    subst (λ (o : Outcome). OnOk c.decide.result (c.decide.new.self ≡ o.world)) (sym is) c.decide.ensures.world

pub returns-in_ok-value-in-Decide-clause-lines : goal.returns-in_ok-value-in-Decide-clause-lines
returns-in_ok-value-in-Decide-clause-lines c =
    let there = sent_at c.args.self.now _ c.items.result.now c.args.number c.in-Some.sent.now c.self.view_is c.items.ensures c.in-Some.ensures.lookup.3.0 c.in-Some.ensures.lookup.3.1 in
    let ring = ap (λ (w : World). seat_at w.ring c.in-Some.sent.now.to) (sym c.self.view_is) in
    let seat = c.in-Some-seat_at.seat in
    let at : seat_at c.args.self.now.ring c.in-Some.sent.now.to ≡ Some seat = ring ∙ sym c.in-Some-seat_at.ensures.seat in
    let is = delivered c.args.self.now _ c.in-Some.sent.now seat there at ∙ ap (handles c.args.self.now seat) c.in-Decide.is
    ∙ ap (λ (v : Value). passes (learns c.args.self.now seat c.in-Decide.lo v) seat c.in-Decide.lo c.in-Decide.left v) (sym c.in_ok-value-in-Decide.ensures) in
    subst (λ (o : Outcome). OnOk c.decide.result (c.decide.new.lines ≡ c.args.lines.now ++ o.lines)) (sym is) c.decide.ensures.lines

pub returns-in_default-body : goal.returns-in_default-body
returns-in_default-body c =
    let there = sent_at c.args.self.now _ c.items.result.now c.args.number c.in-Some.sent.now c.self.view_is c.items.ensures c.in-Some.ensures.lookup.3.0 c.in-Some.ensures.lookup.3.1 in
    let ring = ap (λ (w : World). seat_at w.ring c.in-Some.sent.now.to) (sym c.self.view_is) in
    let seat = c.in-Some-seat_at.seat in
    let at : seat_at c.args.self.now.ring c.in-Some.sent.now.to ≡ Some seat = ring ∙ sym c.in-Some-seat_at.ensures.seat in
    let none = other_sent c.args.self.now c.args.lines.now _ c.in-Some.sent.now seat there at (record {
      no_submit = c.in_default-body.not-Submit;
      no_accept = c.in_default-body.not-Accept;
      no_decide = c.in_default-body.not-Decide;
    }) in
    record { world = none.world; lines = none.lines }
