use Rattle.std.proofs.Common.{None, refl, sym}
use Rattle.pw_store.proofs.Lines.{long_not_taken, not_taken, still_long, still_short}
use Rattle.pw_store.specs.Store.{as_command}
use Rattle.pw_store.proofs.loading.take_line.Goals as goal

pub returns-then-line-gt-LINE_MAX-clause-taken : goal.returns-then-line-gt-LINE_MAX-clause-taken
returns-then-line-gt-LINE_MAX-clause-taken g c =
    sym (long_not_taken g.P.Policy.policy c.args.table.now (as_command c.args.line.now) (still_long c.args.line.now c.if-line-gt-LINE_MAX.true))

pub returns-in-None-clause-taken : goal.returns-in-None-clause-taken
returns-in-None-clause-taken g c =
    sym (not_taken g.P.Policy.policy c.args.table.now (as_command c.args.line.now) None (sym c.in-None.ensures.command) refl)

pub returns-in-Some-clause-taken : goal.returns-in-Some-clause-taken
returns-in-Some-clause-taken g c =
    c.take_command.ensures.taken (as_command c.args.line.now)
    (still_short c.args.line.now c.if-line-gt-LINE_MAX.false, sym c.in-Some.ensures.command)

pub returns-in-Some-clause-after : goal.returns-in-Some-clause-after
returns-in-Some-clause-after g c =
    c.take_command.ensures.after (as_command c.args.line.now)
    (still_short c.args.line.now c.if-line-gt-LINE_MAX.false, sym c.in-Some.ensures.command)
