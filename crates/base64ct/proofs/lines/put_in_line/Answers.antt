use Rattle.std.proofs.Common.{◌-◌, ℕ, List, length, arith}
use Rattle.base64ct.specs.Encoding.{unpadded_encoding}
use Rattle.base64ct.proofs.Unpadded.{length-unpadded}
use Rattle.base64ct.proofs.Wrapping.{stride_wrote}
use Rattle.base64ct.proofs.lines.put_in_line.Goals as goal

pub returns : goal.returns
returns g c = λ width ending.
    let xs : List ℕ = unpadded_encoding g.A.Alphabet.alphabet c.args.input.now in
    let lx = length-unpadded g.A.Alphabet.alphabet c.args.input.now (λ k. omega (arith, c.type_inv.input k)) in
    stride_wrote width ending c.args.out.now xs _ c.encode_unpadded-n.new.dst c.args.position
    (length c.args.out.now - c.args.position) c.encode_unpadded-n.result c.args.room
    c.encode_unpadded-n.ensures.written (omega (arith, lx, c.encode_unpadded-n.ensures.len))
    (omega (arith, c.encode_unpadded-n.ensures.len, c.requires.line)) (omega (arith, c.requires.fits))
