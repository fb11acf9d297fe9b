use Rattle.std.proofs.Common.{refl}
use Rattle.ldif_lines.specs.Steps.{shown, waiting}
use Rattle.ldif_lines.proofs.Rows.{dump_given}
use Rattle.ldif_lines.proofs.dump.Dump.new.Goals as goal

pub returns-clause-waiting : goal.returns-clause-waiting
unfolding waiting
returns-clause-waiting c = rw c.new-4.ensures.none refl

pub returns-clause-shown : goal.returns-clause-shown
unfolding shown waiting
returns-clause-shown c text = rw (c.new-4.ensures.none, c.new-2.ensures.fresh, c.new.ensures.none) (dump_given text)
