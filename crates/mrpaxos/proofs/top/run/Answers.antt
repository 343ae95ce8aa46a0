use Rattle.std.proofs.Common.{map}
use Rattle.std.specs.Prelude.{string_bytes}
use Rattle.mrpaxos.specs.Intake.{Intake, Output}
use Rattle.mrpaxos.proofs.AskedWords.{not_both}
use Rattle.mrpaxos.proofs.Endings.{of_replay, of_draw, unread}
use Rattle.mrpaxos.proofs.top.run.Goals as goal

pub returns-then-is_replay-clause-ends : goal.returns-then-is_replay-clause-ends
returns-then-is_replay-clause-ends g c =
    let config : Intake = record {
      before = g.C.Source.left c.args.config.now;
      after = g.C.Source.left c.run_replay.new.config;
      faults_before = g.C.Source.faults c.args.config.now;
      faults_after = g.C.Source.faults c.run_replay.new.config;
      reads_before = g.C.Source.reads c.args.config.now;
      reads_after = g.C.Source.reads c.run_replay.new.config;
    } in
    let intake : Intake = record {
      before = g.I.Source.left c.args.input.now;
      after = g.I.Source.left c.run_replay.new.input;
      faults_before = g.I.Source.faults c.args.input.now;
      faults_after = g.I.Source.faults c.run_replay.new.input;
      reads_before = g.I.Source.reads c.args.input.now;
      reads_after = g.I.Source.reads c.run_replay.new.input;
    } in
    let out : Output = record {
      before = g.O.Sink.taken c.args.out.now;
      after = g.O.Sink.taken c.run_replay.new.out;
      faults_before = g.O.Sink.faults c.args.out.now;
      faults_after = g.O.Sink.faults c.run_replay.new.out;
    } in
    of_replay c.run_replay.result (map string_bytes c.args.words.now) config intake out (c.is_replay.ensures.0 c.if-is_replay.true) c.run_replay.ensures.ends

pub returns-then-is_replay-clause-draws : goal.returns-then-is_replay-clause-draws
returns-then-is_replay-clause-draws g c =
    λ draw is. absurd (not_both (map string_bytes c.args.words.now) draw (c.is_replay.ensures.0 c.if-is_replay.true) is)

pub returns-in-Some-clause-ends : goal.returns-in-Some-clause-ends
returns-in-Some-clause-ends g c =
    let config : Intake = record {
      before = g.C.Source.left c.args.config.now;
      after = g.C.Source.left c.run_draw.new.config;
      faults_before = g.C.Source.faults c.args.config.now;
      faults_after = g.C.Source.faults c.run_draw.new.config;
      reads_before = g.C.Source.reads c.args.config.now;
      reads_after = g.C.Source.reads c.run_draw.new.config;
    } in
    let intake : Intake = record {
      before = g.I.Source.left c.args.input.now;
      after = g.I.Source.left c.args.input.now;
      faults_before = g.I.Source.faults c.args.input.now;
      faults_after = g.I.Source.faults c.args.input.now;
      reads_before = g.I.Source.reads c.args.input.now;
      reads_after = g.I.Source.reads c.args.input.now;
    } in
    let out : Output = record {
      before = g.O.Sink.taken c.args.out.now;
      after = g.O.Sink.taken c.run_draw.new.out;
      faults_before = g.O.Sink.faults c.args.out.now;
      faults_after = g.O.Sink.faults c.run_draw.new.out;
    } in
    of_draw c.run_draw.result (map string_bytes c.args.words.now) config intake out c.in-Some.draw c.in-Some.ensures.found
    (unread (g.I.Source.left c.args.input.now) (g.I.Source.faults c.args.input.now) (g.I.Source.reads c.args.input.now)) c.run_draw.ensures.ends
