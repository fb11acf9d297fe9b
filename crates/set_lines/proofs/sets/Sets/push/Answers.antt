use Rattle.std.proofs.Common.{◌∙◌}
use Rattle.set_lines.specs.Steps.{shown, waiting}
use Rattle.set_lines.proofs.Parts.{byte_given, byte_kept}
use Rattle.set_lines.proofs.sets.Sets.push.Goals as goal

pub returns-in-Some-clause-shown : goal.returns-in-Some-clause-shown
unfolding shown waiting
returns-in-Some-clause-shown c text =
    byte_given (waiting c.begin-part.new.self) (waiting c.give.new.self) c.begin-part.result c.step-next.result.0 c.give.new.self.part
    c.step-next.result.1 c.in-Some.c c.args.b text (c.step-next.ensures text) c.in-Some.is c.give.ensures.given c.give.ensures.part
    ∙ c.begin-part.ensures.shown c.args.b text

pub returns-in-None-clause-shown : goal.returns-in-None-clause-shown
unfolding shown waiting
returns-in-None-clause-shown c text =
    byte_kept (waiting c.begin-part.new.self) c.begin-part.result c.step-next.result.0 c.step-next.result.1 c.args.b text
    (c.step-next.ensures text) c.in-None.is
    ∙ c.begin-part.ensures.shown c.args.b text
