use Rattle.std.proofs.Common.{rules, arith, ◌-◌, ◌+◌, length}
use Rattle.pieces.proofs.PlaceLaws.{fewer, past_all, found}
use Rattle.pieces.proofs.places.first_place.Goals as goal

pub returns-then-here-ne0 : goal.returns-then-here-ne0
returns-then-here-ne0 c = record {
  place = found c.args.wanted c.args.bytes.now c.loop-i.i c.marks-here.result c.lowest.result
      (omega (arith, c.loop-i-test.true)) c.loop-i.invariant.lacks c.marks-here.ensures.marks c.lowest.ensures.set
      c.lowest.ensures.below;
}

pub loop-i-preserved : goal.loop-i-preserved
loop-i-preserved c = record {
  lacks = past_all c.args.wanted c.args.bytes.now c.loop-i.i c.marks-here.result c.loop-i.invariant.lacks
      c.marks-here.ensures.marks (search rules);
}

pub returns-then-here-eq0 : goal.returns-then-here-eq0
returns-then-here-eq0 c =
    let last = length c.args.bytes.now - 16 in
    let all = past_all c.args.wanted c.args.bytes.now last c.marks-here-2.result
    (fewer c.args.wanted c.args.bytes.now c.loop-i.i last (omega (arith, c.loop-i-test.false)) c.loop-i.invariant.lacks)
    c.marks-here-2.ensures.marks (search rules) in
    record { place = fewer c.args.wanted c.args.bytes.now (last + 16) (length c.args.bytes.now) (omega arith) all }

pub returns : goal.returns
returns c = record {
  place = found c.args.wanted c.args.bytes.now (length c.args.bytes.now - 16) c.marks-here-2.result c.lowest-2.result
      (omega (arith, c.if-bytes-lt16.false))
      (fewer c.args.wanted c.args.bytes.now c.loop-i.i _ (omega (arith, c.loop-i-test.false)) c.loop-i.invariant.lacks)
      c.marks-here-2.ensures.marks c.lowest-2.ensures.set c.lowest-2.ensures.below;
}
