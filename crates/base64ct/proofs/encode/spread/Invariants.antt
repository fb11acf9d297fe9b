use Rattle.std.proofs.Common.{◌≡◌, ◌*◌, ◌++◌, take, drop}
use Rattle.base64ct.specs.Encoding.{groups}
use Rattle.base64ct.proofs.encode.spread.Given as goal

abbrev pub invariant-whole : goal.invariant-whole
invariant-whole g l = l.dst ≡ groups g.A.Alphabet.alphabet.low_first (take (3 * l.block) l.src)
    ++ drop (4 * l.block) l.fn.dst
