use Rattle.std.proofs.Common.{take}
use Rattle.std.specs.List.{flat_map}
use Rattle.line_io.proofs.Gathering.{puts_more}
use Rattle.scheme_list.specs.Schemes.{schemes}
use Rattle.shadow_survey.specs.Counting.{scheme_rows}
use Rattle.shadow_survey.proofs.Putting.{flat_next}
use Rattle.shadow_survey.proofs.counts.put_schemes.Goals as goal

pub loop-place-preserved : goal.loop-place-preserved
loop-place-preserved g c =
    rw (flat_next (scheme_rows c.args.counts.now) schemes c.loop-place.place c.at.result c.at.ensures.scheme)
    (puts_more _ _ _ _ _ _ c.args.out.now c.loop-place.out c.put_scheme.new.out
    (flat_map (scheme_rows c.args.counts.now) (take c.loop-place.place schemes))
    (scheme_rows c.args.counts.now c.at.result) c.loop-place.invariant c.put_scheme.ensures.puts)
