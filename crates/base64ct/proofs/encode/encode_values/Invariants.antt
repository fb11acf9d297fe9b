use Rattle.std.proofs.Common.{◌≡◌, ◌++◌, map, take, drop}
use Rattle.base64ct.specs.Encoding.{character}
use Rattle.base64ct.proofs.encode.encode_values.Given as goal

abbrev pub invariant-value : goal.invariant-value
invariant-value g l = l.values ≡ map (character g.A.Alphabet.alphabet) (take l.j l.fn.values) ++ drop l.j l.fn.values
