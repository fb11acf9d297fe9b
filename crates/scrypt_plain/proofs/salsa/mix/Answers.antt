use Rattle.std.proofs.Common.{ap, ◌∙◌}
use Rattle.scrypt_plain.specs.Scrypt.{salsa20_8}
use Rattle.scrypt_plain.proofs.salsa.mix.Goals as goal

pub returns : goal.returns
returns c = c.salsa20_8.ensures ∙ ap salsa20_8 c.xor_blocks-t.ensures
