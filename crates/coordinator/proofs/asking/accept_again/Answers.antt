use Rattle.std.proofs.Common.{◌∙◌, ◌++◌, List, sym}
use Rattle.std.proofs.lemmas.List.{append-nil, at_drop_all}
use Rattle.mrp_types.specs.declared.voted.Decided.{Decided}
use Rattle.protocol.specs.Rings.{next_acceptor}
use Rattle.protocol.specs.Leading.{accepts_again}
use Rattle.coordinator.proofs.asking.accept_again.Goals as goal

pub returns : goal.returns
returns c = λ ring link is.
    sym (append-nil c.loop-range.out)
    ∙ sym (at_drop_all (λ (rs : List Decided). c.loop-range.out ++ accepts_again ring (next_acceptor ring link) c.args.ballot c.args.trim rs) c.args.outstanding.now c.loop-range.range-index c.loop-range-test.false)
    ∙ c.loop-range.invariant ring link is
