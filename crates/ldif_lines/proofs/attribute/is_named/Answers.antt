use Rattle.std.proofs.Common.{◌≡◌, ◌<◌, length, rules}
use Rattle.ldif_lines.proofs.Given.{named_none}
use Rattle.ldif_lines.proofs.attribute.is_named.Goals as goal

pub returns-in-None : goal.returns-in-None
returns-in-None c =
    let none : length c.loop-c.left.now ≡ 0 = search rules in
    let inside : c.loop-c.c-index < length c.args.name.now = search rules in
    named_none c.args.name.now c.args.line.now c.loop-c.left.now c.loop-c.c-index none inside c.loop-c.invariant
