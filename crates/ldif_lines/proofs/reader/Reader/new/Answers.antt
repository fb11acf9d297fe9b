use Rattle.ldif_lines.specs.Steps.{pending, shown_by}
use Rattle.ldif_lines.proofs.reader.Reader.new.Goals as goal

pub returns : goal.returns
unfolding shown_by pending
returns c = record { shown = λ text. rw c.new-2.ensures.none (c.new.ensures.shown text) }
