use Rattle.std.proofs.Common.{◌≡◌, ◌<◌, length, sym, ◌∙◌, arith}
use Rattle.std.proofs.lemmas.Bool.Decides.{nat_tests}
use Rattle.line_log.proofs.Walking.{whole_by_length}
use Rattle.line_log.proofs.read.is_group.Goals as goal

pub returns-clause-holds : goal.returns-clause-holds
returns-clause-holds c = λ is.
    let same : c.lines_length.result ≡ length c.args.text.now = grind (arith, nat_tests, is) in
    let some : 0 < length c.args.text.now = grind (arith, nat_tests, c.if-is_empty.ensures) in
    record { whole = whole_by_length c.args.text.now (sym c.lines_length.ensures.length ∙ same); some = some; short = c.if-text-gt-GROUP_MAX.false }
