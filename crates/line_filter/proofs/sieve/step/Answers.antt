use Rattle.line_filter.proofs.Kept.{line_ends}
use Rattle.line_filter.proofs.sieve.step.Goals as goal

pub returns-then-b-eq10-2 : goal.returns-then-b-eq10-2
returns-then-b-eq10-2 c text =
    rw (c.if-not-htpasswd.false, c.in-Inside.is, c.if-b-eq10-2.true) (line_ends text)
