use Rattle.std.proofs.Common.{◌≡◌, ◌∙◌}
use Rattle.line_io.proofs.Gathering.{puts_more}
use Rattle.shadow_survey.specs.Unsupported.{row}
use Rattle.shadow_survey.proofs.rows.put_unsupported.Goals as goal

pub returns : goal.returns
returns g c =
    let name : c.as_bytes.result.now ≡ (row c.args.form).name = c.as_bytes.ensures.value ∙ c.name.ensures.name in
    let both = puts_more _ _ _ _ _ _ _ _ _ _ _ c.put.ensures.puts c.put-2.ensures.puts in
    record { puts = rw name at both }
