use Rattle.std.proofs.Common.{◌≤◌, ◌+◌, arith, rules}
use Rattle.base64ct.specs.Encoding.{longest_input}
use Rattle.pwcheck_c.proofs.EncodedLens.{encoded_len_of}
use Rattle.pwcheck_c.proofs.lengths.encoded_len_in.Goals as goal

pub returns : goal.returns
returns g c =
    let a = g.E.Alphabet.alphabet in
    let fits : c.args.n ≤ longest_input = omega arith in
    let whole = c.unpadded_len-count.result + c.if-padded.padding in
    record { len = encoded_len_of a c.args.padded c.args.n whole c.requires.padded fits (search rules) }
