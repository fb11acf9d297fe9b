use Rattle.std.proofs.Common.{◌∷◌, length, length-append, arith, ap}
use Rattle.line_log.proofs.Walking.{one_more, start, walked_length, walked_size}
use Rattle.line_log.proofs.read.lines_length.Goals as goal

pub loop-after-init : goal.loop-after-init
loop-after-init c = record { walked = start c.args.text.now }

pub loop-after-preserved : goal.loop-after-preserved
loop-after-preserved c = record { walked = one_more c.args.text.now c.loop-after.rest.now c.in-Some.field-0-0.now c.in-Some.after.now c.loop-after.invariant.walked c.in-Some.ensures.line c.in-Some.ensures.parts }

pub loop-after-smaller : goal.loop-after-smaller
loop-after-smaller c = omega (arith, ap length c.in-Some.ensures.parts, length-append c.in-Some.field-0-0.now (10 ∷ c.in-Some.after.now))

pub overflow_sub-result : goal.overflow_sub-result
overflow_sub-result c = omega (arith, walked_size c.args.text.now c.loop-after.rest.now c.loop-after.invariant.walked)

pub returns : goal.returns
returns c = record { length = walked_length c.args.text.now c.loop-after.rest.now c.loop-after.invariant.walked (c.first_line.ensures.none c.in_default.is) }
