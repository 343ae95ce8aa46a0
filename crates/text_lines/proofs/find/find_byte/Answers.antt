use Rattle.text_lines.specs.Split.{place_of}
use Rattle.text_lines.proofs.Places.{at_front, found, passed, not_found}
use Rattle.text_lines.proofs.find.find_byte.Goals as goal

pub loop-place-init : goal.loop-place-init
loop-place-init c = at_front (place_of c.args.byte c.args.bytes.now)

pub returns-then-other-byte-clause-place : goal.returns-then-other-byte-clause-place
returns-then-other-byte-clause-place c =
    found c.args.byte c.loop-place.place c.args.bytes.now c.loop-place-test.true c.if-other-byte.true c.loop-place.invariant

pub loop-place-preserved : goal.loop-place-preserved
loop-place-preserved c =
    passed c.args.byte c.loop-place.place c.args.bytes.now c.loop-place-test.true c.if-other-byte.false c.loop-place.invariant

pub returns-clause-place : goal.returns-clause-place
returns-clause-place c = not_found c.args.byte c.loop-place.place c.args.bytes.now c.loop-place-test.false c.loop-place.invariant
