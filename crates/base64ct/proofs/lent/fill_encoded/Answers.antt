use Rattle.std.proofs.Common.{List, ℕ}
use Rattle.std.proofs.lemmas.Str.{IsUtf8-from_ascii}
use Rattle.base64ct.specs.Encoding.{encoding}
use Rattle.base64ct.proofs.Ascii.{encoding_ascii}
use Rattle.base64ct.proofs.LentAnswers.{text_written}
use Rattle.base64ct.proofs.lent.fill_encoded.Goals as goal

pub returns-clause-text : goal.returns-clause-text
returns-clause-text g c =
    let a = g.E.Alphabet.alphabet in
    let text : List ℕ = encoding a c.args.src.now in
    text_written a c.encode_into-outcome.result c.args.src.now c.args.dst.now c.encode_into-outcome.new.dst
    (IsUtf8-from_ascii text (encoding_ascii a c.args.src.now g.met.E.Alphabet.ascii))
    c.encode_into-outcome.ensures.written
