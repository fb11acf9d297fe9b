use Rattle.std.proofs.Common.{take}
use Rattle.std.specs.List.{flat_map}
use Rattle.line_io.proofs.Gathering.{puts_more}
use Rattle.shadow_survey.specs.Counting.{form_row}
use Rattle.shadow_survey.specs.Unsupported.{forms}
use Rattle.shadow_survey.proofs.Putting.{flat_next}
use Rattle.shadow_survey.proofs.counts.put_forms.Goals as goal

pub loop-place-preserved : goal.loop-place-preserved
loop-place-preserved g c =
    rw (flat_next (form_row c.args.counts.now) forms c.loop-place.place c.at.result c.at.ensures.form)
    (puts_more _ _ _ _ _ _ c.args.out.now c.loop-place.out c.put_total.new.out
    (flat_map (form_row c.args.counts.now) (take c.loop-place.place forms))
    (form_row c.args.counts.now c.at.result) c.loop-place.invariant c.put_total.ensures.puts)
