use Rattle.std.proofs.Common.{ℕ}
use Rattle.command_codec.specs.Grammar.{position_at}
use Rattle.command_codec.proofs.Loops.{goes_on, ends, is_done, begins}
use Rattle.command_codec.proofs.reply_reading.read_each_position.Goals as goal

pub loop-turn-init : goal.loop-turn-init
loop-turn-init c = begins {S = ℕ} (λ _. position_at) (λ _. 0) c.new-positions.result.items c.args.count 0 c.args.fields.now c.new-positions.ensures.items

pub returns-in_err-read_position : goal.returns-in_err-read_position
returns-in_err-read_position c =
    ends {S = ℕ} _ (λ _. position_at) (λ _. 0) c.loop-turn.positions.items c.args.count c.loop-turn._turn 0 c.loop-turn.fields _ _ c.in_err-read_position.field-0.0 c.from_residual.result
    c.from_residual.ensures.1 c.loop-turn-test.true c.in_err-read_position.ensures c.loop-turn.invariant

pub loop-turn-preserved : goal.loop-turn-preserved
loop-turn-preserved c =
    goes_on {S = ℕ} (λ _. position_at) (λ _. 0) c.loop-turn.positions.items c.push.new.self.items c.args.count c.loop-turn._turn 0 c.loop-turn.fields c.in_ok-read_position.field-0 _ _
    c.loop-turn-test.true c.in_ok-read_position.ensures c.in_ok-push.ensures.items c.loop-turn.invariant

pub returns : goal.returns
returns c =
    rw c.from_vec.ensures (is_done {S = ℕ} (λ _. position_at) (λ _. 0) c.loop-turn.positions.items c.args.count c.loop-turn._turn 0 c.loop-turn.fields _ c.loop-turn-test.false c.loop-turn.invariant)
