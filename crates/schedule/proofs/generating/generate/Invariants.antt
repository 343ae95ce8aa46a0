use Rattle.std.proofs.Common.{◌≡◌, ◌-◌}
use Rattle.rand_pcg.specs.Pcg.{pcg32}
use Rattle.schedule.specs.Generating.{generated, names_of}
use Rattle.schedule.proofs.Drawing.{with_rest}
use Rattle.schedule.proofs.generating.generate.Given as goal

-- the events so far and those of the words that are left to draw are the whole
abbrev pub invariant-loop-turn : goal.invariant-loop-turn
invariant-loop-turn l = with_rest pcg32 (names_of l.deployment) l.items.items (l.events - l._turn) l.words ≡ generated l.deployment l.seed l.events
