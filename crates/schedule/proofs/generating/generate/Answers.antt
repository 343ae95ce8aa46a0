use Rattle.std.proofs.Common.{◌≡◌, ◌%◌, refl, ◌∙◌}
use Rattle.rand_pcg.specs.Pcg.{pcg32}
use Rattle.schedule.specs.Generating.{names_of, event_by, drawn_words, generated}
use Rattle.schedule.proofs.Drawing.{one_event, no_event}
use Rattle.schedule.proofs.generating.generate.Goals as goal

pub loop-turn-init : goal.loop-turn-init
unfolding generated drawn_words
loop-turn-init c = rw (c.in_ok-items.ensures, c.seed_from_u64-words.ensures) refl

pub loop-turn-preserved : goal.loop-turn-preserved
loop-turn-preserved c =
    let config = c.args.deployment.now in
    let kind = c.next_word-kind.result in
    let a = c.next_word-a.result in
    let is : c.in_ok-event_by.field-0 ≡ event_by (names_of config) (kind % 16) a = cc (c.in_ok-event_by.ensures, c.in_ok-names.ensures) in
    let one = one_event pcg32 (names_of config) c.loop-turn.items.items (generated config c.args.seed c.args.events) c.in_ok-event_by.field-0 kind a c.loop-turn._turn c.args.events
    c.loop-turn.words c.next_word-kind.new.self c.next_word-a.new.self c.loop-turn-test.true c.next_word-kind.ensures c.next_word-a.ensures is c.loop-turn.invariant in
    rw c.in_ok-push.ensures.items one

pub returns : goal.returns
returns c =
    c.from_vec.ensures
    ∙ no_event pcg32 (names_of c.args.deployment.now) c.loop-turn.items.items (generated c.args.deployment.now c.args.seed c.args.events) c.loop-turn._turn c.args.events c.loop-turn.words
    c.loop-turn-test.false c.loop-turn.invariant
