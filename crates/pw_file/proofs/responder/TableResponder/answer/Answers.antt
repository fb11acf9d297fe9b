use Rattle.line_io.proofs.Gathering.{puts_none}
use Rattle.pw_file.proofs.responder.TableResponder.answer.Goals as goal

pub returns-in-None-clause-nothing : goal.returns-in-None-clause-nothing
returns-in-None-clause-nothing g c =
    puts_none (g.K.Sink.written c.args.sink.now) (g.K.Sink.faults c.args.sink.now) c.args.out.now
