use Rattle.mrpaxos.specs.Intake.{Intake, Output}
use Rattle.mrpaxos.proofs.Endings.{drawn_from}
use Rattle.mrpaxos.proofs.draw.run_draw.Goals as goal

pub returns-in-Ok-clause-answers : goal.returns-in-Ok-clause-answers
returns-in-Ok-clause-answers g c =
    let config : Intake = record {
      before = g.C.Source.left c.args.config.now;
      after = g.C.Source.left c.read_front.new.source;
      faults_before = g.C.Source.faults c.args.config.now;
      faults_after = g.C.Source.faults c.read_front.new.source;
      reads_before = g.C.Source.reads c.args.config.now;
      reads_after = g.C.Source.reads c.read_front.new.source;
    } in
    let out : Output = record {
      before = g.O.Sink.taken c.args.out.now;
      after = g.O.Sink.taken c.print_draw.new.out;
      faults_before = g.O.Sink.faults c.args.out.now;
      faults_after = g.O.Sink.faults c.print_draw.new.out;
    } in
    drawn_from _ c.args.draw config out c.in-Ok.bytes c.in-Ok.ensures (rw c.bytes-in-Ok.ensures at c.print_draw.ensures)
