use Rattle.std.proofs.Common.{ℕ, arith, length-append}
use Rattle.command_codec.specs.Reader.{string_at}
use Rattle.command_codec.proofs.Loops.{goes_on}
use Rattle.std.proofs.Common.{ap, ◌∙◌, length, List, [], ◌∷◌}
use Rattle.dlog_service.proofs.ReadLaws.{short_more}
use Rattle.dlog_service.proofs.reading.read_each.Goals as goal

pub loop-turn-preserved : goal.loop-turn-preserved
loop-turn-preserved c = record {
  all = goes_on {S = ℕ} (λ _. string_at 0 2048) (λ _. 0) c.loop-turn.values.items c.push_back.new.self.items c.args.count c.loop-turn._turn 0 c.loop-turn.fields c.in_ok-read_value.field-0 _ _ c.loop-turn-test.true
      c.in_ok-read_value.ensures.exact c.in_ok-push_back.ensures.items c.loop-turn.invariant.all;
  count = let long = ap (λ (l : List (List ℕ)). length l) c.in_ok-push_back.ensures.items ∙ length-append c.loop-turn.values.items (c.in_ok-read_value.field-0 ∷ []) in omega (arith, long, c.loop-turn.invariant.count);
  short = short_more c.loop-turn.values.items _ c.in_ok-read_value.field-0 c.loop-turn.invariant.short c.in_ok-read_value.ensures.short c.in_ok-push_back.ensures.items;
}
