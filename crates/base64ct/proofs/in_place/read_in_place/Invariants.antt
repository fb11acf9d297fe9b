use Rattle.std.proofs.Common.{take}
use Rattle.base64ct.proofs.Decoded.{Progress}
use Rattle.base64ct.proofs.in_place.read_in_place.Given as goal

abbrev pub invariant-whole : goal.invariant-whole
invariant-whole g l = Progress g.A.Alphabet.alphabet (take l.count l.fn.buf) l.fn.buf l.buf l.block l.fault
