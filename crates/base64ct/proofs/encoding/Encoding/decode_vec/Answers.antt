use Rattle.std.proofs.Common.{rules}
use Rattle.base64ct.proofs.DecodingLaws.{undecodable}
use Rattle.base64ct.proofs.encoding.Encoding.decode_vec.Goals as goal

pub returns-in-Err-clause-answer : goal.returns-in-Err-clause-answer
returns-in-Err-clause-answer g c = λ _.
    undecodable g.Self.Alphabet.alphabet c.args.input.now g.met.Self.Alphabet.lawful
    (search rules)
