use Rattle.std.proofs.Common.{arith, sym, subst}
use Rattle.base64ct.specs.Encoding.{EachBelow}
use Rattle.base64ct.proofs.Encodings.{groups-below}
use Rattle.base64ct.proofs.Spread.{values_front}
use Rattle.base64ct.proofs.encode.encode_unpadded.Goals as goal

pub encode_values-requires : goal.encode_values-requires
encode_values-requires g c =
    let o = g.A.Alphabet.alphabet.low_first in
    let front = values_front o c.args.src.now c.args.dst.now c.spread-count.new.dst c.spread-count.result
    (λ k. omega (arith, c.type_inv.src k)) c.spread-count.ensures.len c.spread-count.ensures.written in
    subst (EachBelow 64) (sym front) (groups-below o c.args.src.now (λ k. omega (arith, c.type_inv.src k)))
