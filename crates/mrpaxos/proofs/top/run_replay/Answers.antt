use Rattle.mrpaxos.specs.Intake.{Intake, Output}
use Rattle.mrpaxos.proofs.Endings.{answers_from}
use Rattle.mrpaxos.proofs.top.run_replay.Goals as goal

pub returns-in-Ok-clause-answers : goal.returns-in-Ok-clause-answers
returns-in-Ok-clause-answers g c =
    let config : Intake = record {
      before = g.C.Source.left c.args.config.now;
      after = g.C.Source.left c.read_front.new.source;
      faults_before = g.C.Source.faults c.args.config.now;
      faults_after = g.C.Source.faults c.read_front.new.source;
      reads_before = g.C.Source.reads c.args.config.now;
      reads_after = g.C.Source.reads c.read_front.new.source;
    } in
    let intake : Intake = record {
      before = g.I.Source.left c.args.input.now;
      after = g.I.Source.left c.run_config.new.input;
      faults_before = g.I.Source.faults c.args.input.now;
      faults_after = g.I.Source.faults c.run_config.new.input;
      reads_before = g.I.Source.reads c.args.input.now;
      reads_after = g.I.Source.reads c.run_config.new.input;
    } in
    let out : Output = record {
      before = g.O.Sink.taken c.args.out.now;
      after = g.O.Sink.taken c.run_config.new.out;
      faults_before = g.O.Sink.faults c.args.out.now;
      faults_after = g.O.Sink.faults c.run_config.new.out;
    } in
    answers_from _ config intake out c.in-Ok.bytes c.in-Ok.ensures (rw c.bytes-in-Ok.ensures at c.run_config.ensures)
