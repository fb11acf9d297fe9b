use Rattle.std.proofs.Common.{[], ◌∙◌, sym}
use Rattle.pbkdf2_key.proofs.Blocks.{block_first, round_more, u_first}
use Rattle.pbkdf2_key.proofs.derive.output_block.Goals as goal

pub rounds-init : goal.rounds-init
rounds-init g c = λ password salt keyed salted.
    let code = c.first_code-code.ensures password salt salted in
    let prf = g.P.Prf.code in (
      code ∙ sym (u_first prf g.row.N password salt c.args.index),
      code ∙ sym (block_first prf g.row.N password salt c.args.index g.P.Prf.long),
    )

pub rounds-preserved : goal.rounds-preserved
rounds-preserved g c = λ password salt keyed salted.
    let before = c.rounds.invariant password salt keyed salted in
    let next = round_more g.P.Prf.code g.row.N password salt c.args.index c.rounds.round c.rounds.code c.rounds.sum _
    before.0 before.1 (c.code_after-code.ensures password [] keyed) in
    (next.0, c.xor_bytes.ensures ∙ next.1)
