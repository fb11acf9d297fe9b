use Rattle.std.proofs.Common.{◌≡◌, rules}
use Rattle.line_io.proofs.Gathering.{puts_none}
use Rattle.shadow_survey.specs.Counting.{count_of}
use Rattle.shadow_survey.proofs.Putting.{total_none}
use Rattle.shadow_survey.proofs.counts.put_total.Goals as goal

pub returns-else-count-ne0 : goal.returns-else-count-ne0
returns-else-count-ne0 g c =
    let none : count_of c.args.counts.now c.args.kind ≡ 0 = search rules in
    record { puts = rw (total_none c.args.counts.now c.args.kind none) (puts_none _ _ c.args.out.now) }
