use Rattle.std.proofs.Common.{◌+◌, ◌*◌, ◌/◌, length, true, false, arith}
use Rattle.base64ct.proofs.Padding.{length-encoding, padding_count_of}
use Rattle.base64ct.proofs.laws.encoding_length.Goals as goal

pub returns-clause-padded : goal.returns-clause-padded
returns-clause-padded c =
    λ a b below padded. omega
    (arith, length-encoding a b below, padding_count_of a.padded true ((4 * length b + 2) / 3) padded)

pub returns-clause-unpadded : goal.returns-clause-unpadded
returns-clause-unpadded c =
    λ a b below plain. omega
    (arith, length-encoding a b below, padding_count_of a.padded false ((4 * length b + 2) / 3) plain)
