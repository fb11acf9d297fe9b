use Rattle.std.proofs.Common.{arith, ◌+◌, ◌-◌, length}
use Rattle.std.proofs.lemmas.Bool.{and_parts}
use Rattle.mcf.proofs.CleanFields.{fault_of_good, joined}
use Rattle.mcf.proofs.clean.are_fields.Goals as goal

pub loop-i-preserved : goal.loop-i-preserved
loop-i-preserved c = record {
  so_far = λ both. let each = and_parts c.loop-i.all c.are_good-here.result both in
      joined c.args.bytes.now c.loop-i.i c.loop-i.i (c.loop-i.i + 16) (c.loop-i.invariant.so_far each.0)
      (c.are_good-here.ensures.good each.1) (omega arith);
  behind = λ both. c.loop-i.invariant.behind (and_parts c.loop-i.all c.are_good-here.result both).0;
  first = λ both. c.loop-i.invariant.first (and_parts c.loop-i.all c.are_good-here.result both).0;
  final = λ both. c.loop-i.invariant.final (and_parts c.loop-i.all c.are_good-here.result both).0;
}

pub returns : goal.returns
returns c = record {
  fault = λ all.
      let last = length c.args.bytes.now - 17 in
      fault_of_good c.args.bytes.now (last + 16) (omega (arith, c.if-bytes-lt17.false)) (c.loop-i.invariant.first all)
      (c.loop-i.invariant.final all)
      (joined c.args.bytes.now c.loop-i.i last (last + 16) (c.loop-i.invariant.so_far all)
      (c.loop-i.invariant.behind all) (omega (arith, c.loop-i-test.false)));
}
