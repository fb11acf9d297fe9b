use Rattle.std.proofs.Common.{◌∙◌, []}
use Rattle.ldif_lines.specs.Steps.{pending, shown_by}
use Rattle.ldif_lines.proofs.reader.Reader.end.Goals as goal

pub returns-clause-shown : goal.returns-clause-shown
unfolding shown_by pending
returns-clause-shown c = rw c.requires.none (c.end.ensures.shown ∙ c.clear.ensures.shown [])

pub returns-clause-waiting : goal.returns-clause-waiting
unfolding shown_by pending
returns-clause-waiting c = rw c.requires.none (c.end.ensures.waiting ∙ c.clear.ensures.shown [])

pub returns-clause-none : goal.returns-clause-none
unfolding pending
returns-clause-none c = c.requires.none
