use Rattle.std.proofs.Common.{ap, ◌∙◌}
use Rattle.scrypt_plain.specs.Scrypt.{row_round}
use Rattle.scrypt_plain.proofs.Lanes.{columns, rows}
use Rattle.scrypt_plain.proofs.salsa.double_round.Goals as goal

pub returns : goal.returns
returns c =
    let q = c.quarter_rounds-x.result in
    let p = c.quarter_rounds-y.result in
    rows q.a q.b q.c q.d c.right1.result c.right2.result c.right3.result p.a p.d p.c p.b
    c.right3-2.result c.right2-2.result c.right1-2.result
    c.right1.ensures c.right2.ensures c.right3.ensures c.quarter_rounds-y.ensures
    c.right3-2.ensures c.right2-2.ensures c.right1-2.ensures
    ∙ ap row_round (columns c.args.a c.args.b c.args.c c.args.d q.a q.b q.c q.d c.quarter_rounds-x.ensures)
