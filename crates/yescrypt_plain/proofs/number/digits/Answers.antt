use Rattle.std.proofs.Common.{◌<◌, ◌≤◌, arith}
use Rattle.std.proofs.Math.Nat.{pow-le-pow_right}
use Rattle.yescrypt_plain.proofs.Numbers.{read_none, read_more, read_bad, read_short, read_all}
use Rattle.yescrypt_plain.proofs.number.digits.Goals as goal

pub characters-init : goal.characters-init
characters-init c = read_none c.args.count c.args.first c.args.text.now c.requires.first

pub characters-preserved : goal.characters-preserved
characters-preserved c =
    read_more c.args.count c.args.first c.characters.i c.characters.value c.in-Some.digit c.args.text.now
    c.characters.invariant (omega arith) (omega arith) c.in-Some.ensures.value c.in-Some.ensures.below

pub returns-then-i-text-clause-value : goal.returns-then-i-text-clause-value
returns-then-i-text-clause-value c =
    read_short c.args.count c.args.first c.characters.i c.characters.value c.args.text.now c.characters.invariant
    (omega arith) (omega arith)

pub returns-in-None-clause-value : goal.returns-in-None-clause-value
returns-in-None-clause-value c =
    read_bad c.args.count c.args.first c.characters.i c.characters.value c.args.text.now c.characters.invariant
    (omega arith) (omega arith) c.in-None.ensures.value

pub returns-clause-value : goal.returns-clause-value
returns-clause-value c =
    read_all c.args.count c.args.first c.characters.i c.characters.value c.args.text.now c.characters.invariant
    (omega arith)

pub returns-clause-below : goal.returns-clause-below
returns-clause-below c =
    let some : 0 < 64 = omega arith in
    let few : c.characters.i ≤ 5 = omega arith in
    let power = pow-le-pow_right some few in
    let most = c.characters.invariant.most in
    omega (arith, power, most)
