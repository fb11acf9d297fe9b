use Rattle.std.proofs.Common.{◌++◌, drop}
use Rattle.ldif_lines.specs.Steps.{pending, shown_by}
use Rattle.ldif_lines.proofs.reader.Reader.give_into.Goals as goal

pub returns-clause-shown : goal.returns-clause-shown
unfolding shown_by pending
returns-clause-shown c text = c.give_into.ensures.shown (drop c.args.self.now.at c.args.self.now.piece ++ text)
