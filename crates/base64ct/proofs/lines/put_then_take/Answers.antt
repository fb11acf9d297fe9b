use Rattle.std.proofs.Common.{List, ℕ, arith}
use Rattle.base64ct.specs.Encoding.{unpadded_encoding}
use Rattle.base64ct.specs.Encoders.{whole_blocks, Wrote}
use Rattle.base64ct.proofs.Wrapping.{length-short, length-across, wrote_length, wrote_more}
use Rattle.base64ct.proofs.Held.{parts_fit}
use Rattle.base64ct.proofs.lines.put_then_take.Goals as goal

pub put-at-requires-clause-short : goal.put-at-requires-clause-short
put-at-requires-clause-short g c = λ less.
    let more : List ℕ = unpadded_encoding g.A.Alphabet.alphabet (whole_blocks c.args.rest.now) in
    let fit = parts_fit c.args.width c.args.ending.now c.args.out.now c.args.block more c.args.position c.args.room
    c.requires.fits in
    omega (arith, fit, length-short c.args.width c.args.ending.now c.args.room c.args.block less)

pub put-at-requires-clause-across : goal.put-at-requires-clause-across
put-at-requires-clause-across g c = λ less.
    let more : List ℕ = unpadded_encoding g.A.Alphabet.alphabet (whole_blocks c.args.rest.now) in
    let fit = parts_fit c.args.width c.args.ending.now c.args.out.now c.args.block more c.args.position c.args.room
    c.requires.fits in
    omega (arith, fit, length-across c.args.width c.args.ending.now c.args.room c.args.block less (omega arith))

pub take_blocks-requires-clause-fits : goal.take_blocks-requires-clause-fits
take_blocks-requires-clause-fits g c =
    let more : List ℕ = unpadded_encoding g.A.Alphabet.alphabet (whole_blocks c.args.rest.now) in
    let fit = parts_fit c.args.width c.args.ending.now c.args.out.now c.args.block more c.args.position c.args.room
    c.requires.fits in
    let f : Wrote c.args.width c.args.ending.now c.args.out.now c.put-at.new.out c.args.position c.put-at.result.0
    c.args.room c.put-at.result.1 c.args.block =
    record { put = c.put-at.ensures.put; within = c.put-at.ensures.within; at = c.put-at.ensures.at } in
    let count = wrote_length c.args.width c.args.ending.now c.args.out.now c.put-at.new.out c.args.position
    c.put-at.result.0 c.args.room c.put-at.result.1 c.args.block (omega arith) f in
    rw f.at (omega (arith, fit, count))

pub returns-clause-wrote : goal.returns-clause-wrote
returns-clause-wrote g c =
    wrote_more c.args.width c.args.ending.now c.args.out.now c.put-at.new.out c.take_blocks.new.out c.args.position
    c.put-at.result.0 c.take_blocks.result.0 c.args.room c.put-at.result.1 c.take_blocks.result.1 c.args.block
    (unpadded_encoding g.A.Alphabet.alphabet (whole_blocks c.args.rest.now)) c.put-at.ensures
    c.take_blocks.ensures.wrote
