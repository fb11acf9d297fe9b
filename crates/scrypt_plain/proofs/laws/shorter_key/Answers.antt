use Rattle.std.proofs.Common.{◌*◌}
use Rattle.scrypt_plain.specs.Pbkdf2.{pbkdf2_once}
use Rattle.scrypt_plain.specs.Scrypt.{mixed_parts}
use Rattle.scrypt_plain.specs.Lengths.{take-pbkdf2_once}
use Rattle.scrypt_plain.proofs.laws.shorter_key.Goals as goal

pub returns : goal.returns
returns c = λ password salt n r p short long h.
    take-pbkdf2_once password (mixed_parts n r p (pbkdf2_once password salt (128 * r * p))) short long h
