use Rattle.std.proofs.Common.{inr, sym, ◌∙◌}
use Rattle.outside.proofs.WritingLemmas.{appended}
use Rattle.world.proofs.Rings.{built_ring_is}
use Rattle.world.proofs.Keeping.{trace_keeps}
use Rattle.mrpaxos.proofs.Runs.{all_may_happen}
use Rattle.mrpaxos.proofs.top.replay_bytes.Goals as goal

pub replay-requires-clause-events : goal.replay-requires-clause-events
replay-requires-clause-events g c = all_may_happen c.args.deployment.now c.in-Ok.schedule c.in-Ok.ensures.found.each

pub replay-requires-clause-ring : goal.replay-requires-clause-ring
replay-requires-clause-ring g c = built_ring_is c.args.deployment.now c.args.ring c.requires.valid c.requires.built

pub returns-in-Ok-replay : goal.returns-in-Ok-replay
returns-in-Ok-replay g c = (
  c.in-Ok.schedule,
  record {
    schedule = c.in-Ok.ensures.found;
    built = sym c.first_unbuilt.ensures.first ∙ c.in_default.is;
    rules = trace_keeps c.args.deployment.now c.args.ring c.requires.valid c.requires.built c.in-Ok.schedule;
    text = appended _ _ _ c.in-Ok-replay.ensures.written;
    faults = c.in-Ok-replay.ensures.fault;
  },
)

pub returns-in-Err-Sink : goal.returns-in-Err-Sink
returns-in-Err-Sink g c =
    let says = rw c.in-Err-Sink.field-0-is at c.in-Err-Sink.ensures in
    let written = says.written in (
      c.in-Ok.schedule,
      written.0,
      record {
        schedule = c.in-Ok.ensures.found;
        built = sym c.first_unbuilt.ensures.first ∙ c.in_default.is;
        rules = trace_keeps c.args.deployment.now c.args.ring c.requires.valid c.requires.built c.in-Ok.schedule;
        front = written.1.taken;
      },
      says.fault,
    )

pub returns : goal.returns
returns g c =
    let says = rw c.in-Err-Memory.field-0-is at c.in-Err-Memory.ensures in
    let written = says.written in
    inr (
      c.in-Ok.schedule,
      written.0,
      record {
        schedule = c.in-Ok.ensures.found;
        built = sym c.first_unbuilt.ensures.first ∙ c.in_default.is;
        rules = trace_keeps c.args.deployment.now c.args.ring c.requires.valid c.requires.built c.in-Ok.schedule;
        front = written.1.taken;
      },
      says.fault,
    )
