use Rattle.std.proofs.Common.{refl}
use Rattle.ldif_lines.specs.Steps.{shown, waiting}
use Rattle.ldif_lines.proofs.Given.{no_test}
use Rattle.ldif_lines.proofs.dump.Dump.take.Goals as goal

pub returns-then-b-eq10 : goal.returns-then-b-eq10
unfolding shown waiting
returns-then-b-eq10 c = record { shown = λ text. rw (c.requires.has_feed, c.if-b-eq10.true) refl }

pub returns-else-b-eq10 : goal.returns-else-b-eq10
unfolding shown waiting
returns-else-b-eq10 c = record {
  shown = λ text. rw (c.requires.has_feed, no_test c.args.b 10 c.if-b-eq10.false, c.grow.ensures.grown) refl;
}
