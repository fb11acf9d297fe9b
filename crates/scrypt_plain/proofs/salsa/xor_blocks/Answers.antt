use Rattle.std.proofs.Common.{ap, sym, ◌∙◌, bit_xor}
use Rattle.scrypt_plain.specs.Bytes.{bytes}
use Rattle.scrypt_plain.specs.Layout.{lane_words}
use Rattle.scrypt_plain.proofs.Lanes.{lane_words-zip2}
use Rattle.scrypt_plain.proofs.Words.{xor-bytes}
use Rattle.scrypt_plain.proofs.salsa.xor_blocks.Goals as goal

pub returns : goal.returns
returns c =
    let x = c.args.x.now in
    let y = c.args.y.now in
    ap bytes (lane_words-zip2 bit_xor c.xor.result c.xor-2.result c.xor-3.result c.xor-4.result
    x.a x.b x.c x.d y.a y.b y.c y.d c.xor.ensures c.xor-2.ensures c.xor-3.ensures c.xor-4.ensures)
    ∙ sym (xor-bytes (lane_words x.a x.b x.c x.d) (lane_words y.a y.b y.c y.d))
