use Rattle.std.proofs.Common.{◌≡◌, ◌+◌, ◌∙◌, ap, length, arith}
use Rattle.std.specs.Int.{div_ceil}
use Rattle.pbkdf2_key.specs.Lengths.{length-output_block}
use Rattle.pbkdf2_key.proofs.Blocks.{before_last, filled_all, filled_more, filled_none}
use Rattle.pbkdf2_key.proofs.derive.fill.Goals as goal

pub outputs-init : goal.outputs-init
outputs-init g c =
    filled_none g.P.Prf.code g.row.N c.args.password.now c.args.salt.now c.args.rounds c.args.out.now (length c.args.out.now)

pub outputs-preserved : goal.outputs-preserved
outputs-preserved g c =
    let password = c.args.password.now in
    let salt = c.args.salt.now in
    let n = length c.args.out.now in
    let salted = c.salted_by-salted.ensures password c.keyed-keyed.ensures in
    let block = c.output_block-block.ensures password salt c.keyed-keyed.ensures salted in
    let value = c.block_count-count.ensures.value in
    let test = c.outputs-test.true in
    let low = before_last n g.row.N c.outputs.i c.requires.least (omega (arith, value, test)) in
    let size : length c.output_block-block.result ≡ g.row.N =
    ap length block ∙ length-output_block g.P.Prf.code g.row.N g.P.Prf.long password salt (c.outputs.i + 1) c.args.rounds in
    filled_more g.P.Prf.code g.row.N password salt c.args.rounds g.P.Prf.long c.outputs.i n
    c.outputs.out c.put_block.new.out c.output_block-block.result (omega (arith, low)) c.outputs.invariant block
    (rw (size, c.outputs.auto.out) at c.put_block.ensures.front)

pub returns : goal.returns
returns g c =
    let size = c.outputs.auto.out in
    let value = c.block_count-count.ensures.value in
    let done = c.outputs-test.false in
    let end = c.outputs.auto.i-end in
    let all : c.outputs.i ≡ div_ceil (length c.args.out.now) g.row.N = omega (arith, value, done, end) in
    filled_all g.P.Prf.code g.row.N c.args.password.now c.args.salt.now c.args.rounds c.requires.least c.outputs.out
    (length c.args.out.now) size (rw all at c.outputs.invariant)
