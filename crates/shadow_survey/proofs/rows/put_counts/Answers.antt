use Rattle.std.proofs.Common.{ap, sym}
use Rattle.line_io.proofs.Gathering.{puts_more}
use Rattle.shadow_survey.specs.Rows.{counts_text}
use Rattle.shadow_survey.specs.declared.cells.Format.{Format}
use Rattle.shadow_survey.proofs.rows.put_counts.Goals as goal

pub returns-in-Tabs : goal.returns-in-Tabs
returns-in-Tabs g c =
    let both = puts_more _ _ _ _ _ _ _ _ _ _ _ c.put.ensures.puts c.put_totals.ensures.puts in
    record { puts = rw (sym (ap (λ (f : Format). counts_text f c.args.counts.now) c.in-Tabs.is)) at both }
