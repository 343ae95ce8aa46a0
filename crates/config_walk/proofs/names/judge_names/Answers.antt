use Rattle.std.proofs.Common.{ap, sym, ◌∙◌, map}
use Rattle.std.specs.Map.Iter.{deref}
use Rattle.std.proofs.lemmas.Map.Iter.{rest_more, rest_all}
use Rattle.config_walk.proofs.Known.{each_known_name, names_of_table, known_goes_on, unknown_ends, named_fails}
use Rattle.config_walk.proofs.names.judge_names.Goals as goal

pub loop-key-init : goal.loop-key-init
loop-key-init c =
    ap (each_known_name c.args.prefix.now (map (λ s. s.now) c.args.names.now)) (c.into_iter-key-iterator.ensures.into_iter_gives ∙ c.keys-key-items.ensures.rest) ∙ names_of_table c.args.prefix.now (map (λ s. s.now) c.args.names.now) c.args.table.now.entries

pub loop-key-preserved : goal.loop-key-preserved
loop-key-preserved c =
    known_goes_on c.args.prefix.now (map (λ s. s.now) c.args.names.now) c.loop-key.key-iterator c.next.new.self c.in-Some.key.now c.as_str-name.result.now _
    (rest_more deref c.loop-key.key-iterator c.next.new.self c.next.result c.in-Some.key c.in-Some.is c.next.ensures.steps) c.as_str-name.ensures.value (sym c.if-not-is_name.ensures) c.loop-key.invariant

pub returns-then-not-is_name : goal.returns-then-not-is_name
returns-then-not-is_name c =
    named_fails _ _ c.unknown_name.result
    (unknown_ends c.args.prefix.now (map (λ s. s.now) c.args.names.now) c.loop-key.key-iterator c.next.new.self c.in-Some.key.now c.as_str-name.result.now _
    (rest_more deref c.loop-key.key-iterator c.next.new.self c.next.result c.in-Some.key c.in-Some.is c.next.ensures.steps) c.as_str-name.ensures.value (sym c.if-not-is_name.ensures) c.loop-key.invariant)
    c.unknown_name.ensures

pub returns : goal.returns
returns c =
    sym c.loop-key.invariant ∙ ap (each_known_name c.args.prefix.now (map (λ s. s.now) c.args.names.now)) (rest_all deref c.loop-key.key-iterator c.next.new.self c.next.result c.in-None.is c.next.ensures.steps)
