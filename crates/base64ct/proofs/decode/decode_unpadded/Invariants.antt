use Rattle.base64ct.proofs.Decoded.{Progress}
use Rattle.base64ct.proofs.decode.decode_unpadded.Given as goal

abbrev pub invariant-whole : goal.invariant-whole
invariant-whole g l = Progress g.A.Alphabet.alphabet l.src l.fn.dst l.dst l.block l.fault
