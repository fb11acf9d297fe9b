use Rattle.std.proofs.Common.{◌*◌, take}
use Rattle.scrypt_plain.specs.Bytes.{bytes}
use Rattle.scrypt_plain.specs.Hmac.{HoldsHmac}
use Rattle.scrypt_plain.proofs.pbkdf2.salted_by_words.Given as goal

abbrev pub invariant-salt : goal.invariant-salt
invariant-salt l = HoldsHmac l.salted l.password (bytes (take (16 * l.i) l.words))
